use Rattle.std.proofs.Common.{◌-◌, ◌/◌, ◌≤◌, ap, arith}
use Rattle.physical_stream.specs.Params.{Parameters}
use Rattle.complexity_rules.proofs.UnmarkedLemmas.{unmarked_all, unmarked_before, place_of}
use Rattle.complexity_rules.proofs.unmarked.next_marked.Goals as goal

pub returns-in-None-clause-unmarked : goal.returns-in-None-clause-unmarked
returns-in-None-clause-unmarked c t shows =
    let at = place_of c.from.result c.from-2.result c.args.from c.p.inside.dims c.args.p.now.dims c.from.ensures c.from-2.ensures (ap (λ (p : Parameters). p.dims) c.p.view_is) in
    unmarked_all c.args.p.now t c.args.marks c.in-Some.number c.args.from c.args.to _ shows c.in-Some.is at c.in-None.ensures.zeros

pub returns-in-Some-first_one-clause-unmarked : goal.returns-in-Some-first_one-clause-unmarked
returns-in-Some-first_one-clause-unmarked c t shows =
    let dims = ap (λ (p : Parameters). p.dims) c.p.view_is in
    let at = place_of c.from.result c.from-2.result c.args.from c.p.inside.dims c.args.p.now.dims c.from.ensures c.from-2.ensures dims in
    let few : c.min.result - c.args.from ≤ c.in-Some-first_one.bits / c.args.p.now.dims = omega (arith, c.min.ensures, c.lanes_in.ensures) in
    unmarked_before c.args.p.now t c.args.marks c.in-Some.number c.args.from c.min.result _ c.in-Some-first_one.bits shows c.in-Some.is at c.in-Some-first_one.ensures.zeros few
