-- The names of Verilog.
use Rattle.std.proofs.Common.{◌≡◌, ℕ, ◌-◌, nat_eq, Bool, true, false, List, [], ◌∷◌, length, take, refl, arith}
use Rattle.std.specs.Prelude.{codes}
use Rattle.std.proofs.lemmas.List.{length-append, length-take}
use Rattle.vhdl_text.specs.VerilogText.{verilog_name}

-- a name has as many bytes in Verilog as in VHDL
pub length-verilog_name : (name : List ℕ) → length (verilog_name name) ≡ length name
length-verilog_name [] = refl
length-verilog_name (first ∷ others) = by_test (nat_eq first 92) refl
  where
    by_test : (is : Bool) → nat_eq first 92 ≡ is → length (verilog_name (first ∷ others)) ≡ length (first ∷ others)
    by_test false e = rw e refl
    by_test true e = rw e omega (arith, length-append (take (length (first ∷ others) - 1) (first ∷ others)) (codes " "), length-take (length (first ∷ others) - 1) (first ∷ others))
