use Rattle.std.proofs.Common.{ℕ, List, ◌+◌, ◌*◌, ◌∷◌, [], ◌++◌, slice_set, subst, sym, ap}
use Rattle.vhdl_text.specs.declared.bench.Stmt.TheVariants as stmts
use Rattle.vhdl_text.specs.Drivers.{AreDrivers}
use Rattle.vhdl_text.specs.WellFormed.{signal_number}
use Rattle.vhdl_text.proofs.DriverLemmas.{drivers-put}
use Rattle.vhdl_text.proofs.drivers.note.Goals as goal

pub returns-then-index-len : goal.returns-then-index-len
returns-then-index-len c = λ heads whole done bits are many within new.
    let place = c.args.place in
    let old = c.args.table.now.items in
    let after = λ (table : List ℕ). AreDrivers heads table whole (done ++ stmts.Put place.stream place.signal bits ∷ []) in
    subst after (ap (λ (i : ℕ). slice_set old i (c.args.procs + 1)) (sym c.index_of-index.ensures))
    (subst (λ (n : ℕ). after (slice_set old (8 * place.stream + signal_number place.signal) (n + 1))) many (drivers-put heads old whole done place.stream place.signal bits are within new))
