use Rattle.std.proofs.Common.{Option, not, ap, sym, subst}
use Rattle.std.specs.BTreeSet.{contains}
use Rattle.std.specs.Bool.{then_some}
use Rattle.til_resolve.specs.Names.{WrittenInstance, instance_at}
use Rattle.til_resolve.specs.Ordered.{by_name}
use Rattle.til_resolve.specs.Twice.{AddsInstance}
use Rattle.til_resolve.proofs.TwiceLemmas.{AddsInstance-new}
use Rattle.til_resolve.proofs.twice.instance_again.Goals as goal

pub returns : goal.returns
returns c = λ front finds.
    let one : WrittenInstance = record { name = c.in-Instance.name; streamlet = c.in-Instance.streamlet } in
    let found = then_some (not c.in_ok-is_new.is_new) c.in-Instance.name.place in
    rw (c.then_some.ensures)
    (subst (λ (o : Option WrittenInstance). AddsInstance (contains by_name c.note.new.keys) front o found) (sym (ap instance_at c.in-Instance.is))
    (AddsInstance-new (contains by_name c.args.seen.now) (contains by_name c.note.new.keys) front c.new.result one
    c.in_ok-is_new.is_new c.new.ensures c.in_ok-is_new.ensures.new c.in_ok-is_new.ensures.added finds))
