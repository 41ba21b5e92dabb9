-- The lines of a net's text, one after another.
use Rattle.std.proofs.Common.{◌≡◌, ◌<◌, ℕ, true, nat_lt, List, ◌∷◌, length, Option, Some, Ok, refl, arith}
use Rattle.std.specs.List.{list_all}
use Rattle.std.proofs.lemmas.Bool.Decides.{nat_tests}
use Rattle.tydi_base.specs.Decimal.{is_decimal}
use Rattle.tydi_base.specs.Path.{path_of}
use Rattle.tydi_base.specs.Reading.{◌>>=◌, or_fault}
use Rattle.tydi_base.specs.declared.place.Place.{Place}
use Rattle.type_split.specs.declared.split.Phys.{Phys}
use Rattle.net_text.specs.Lines.{TextLine}
use Rattle.net_text.specs.Text.{are_numbers, number_of, stages_line, with_more, net_with}
use Rattle.net_text.specs.declared.net.NetFault.TheVariants.{UnknownStream}
use Rattle.net_text.specs.declared.net.NetPlan.{NetPlan}
use Rattle.net_text.proofs.OrderLemmas.{and-both}

-- a line with a path and numbers
pub stages_line-named : (place : Place) (streams : List Phys) (words rest : List (List ℕ)) (word : List ℕ) (path : List (List ℕ)) (found : Option ℕ) → words ≡ word ∷ rest → 0 < length rest → list_all is_decimal rest ≡ true
    → path_of word ≡ Some path → number_of path streams ≡ found → stages_line place streams words ≡ (or_fault (UnknownStream place) found >>= λ number. Ok (number, rest))
unfolding stages_line
stages_line-named place streams words rest word path found is some decimals spells finds =
    let test : nat_lt 0 (length rest) ≡ true = grind (arith, nat_tests) in
    let numbers : are_numbers rest ≡ true = and-both (nat_lt 0 (length rest)) (list_all is_decimal rest) test decimals in
    rw (is, numbers, spells, finds) refl

-- one line more
pub net_with-more : (cycles : ℕ) (streams : List Phys) (net more : NetPlan) (lines rest : List TextLine) (line : TextLine) → lines ≡ line ∷ rest →
    with_more cycles streams line net ≡ Ok more → net_with cycles streams net lines ≡ net_with cycles streams more rest
net_with-more cycles streams net more lines rest line first read = rw (first, read) refl
