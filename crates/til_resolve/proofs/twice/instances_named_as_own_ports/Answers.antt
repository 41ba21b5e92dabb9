use Rattle.std.proofs.Common.{ℕ, [], Option, None, Contains, subst, sym}
use Rattle.std.specs.List.{filter_map}
use Rattle.til_resolve.specs.Declarations.{ports_of_streamlet}
use Rattle.til_resolve.specs.Earliest.{IsEarliest}
use Rattle.til_resolve.specs.Names.{instance_at, instances_named_as_ports}
use Rattle.til_resolve.specs.Scope.{declarations_of}
use Rattle.til_resolve.proofs.EarliestLemmas.{IsEarliest-nil, IsEarliest-at}
use Rattle.til_resolve.proofs.TwiceLemmas.{named_as_ports-nothing}
use Rattle.til_resolve.proofs.twice.instances_named_as_own_ports.Goals as goal

pub returns-in-Some : goal.returns-in-Some
returns-in-Some c =
    let all = declarations_of c.args.scope.now.declared in
    subst (λ (o : Option ℕ). IsEarliest (Contains (instances_named_as_ports (ports_of_streamlet all o) (filter_map instance_at c.args.stmts.now))) c.instances_named_as_ports.result)
    (sym c.in-Some.is) c.instances_named_as_ports.ensures

pub returns-in-None : goal.returns-in-None
returns-in-None c =
    let all = declarations_of c.args.scope.now.declared in
    let instances = filter_map instance_at c.args.stmts.now in
    subst (λ (o : Option ℕ). IsEarliest (Contains (instances_named_as_ports (ports_of_streamlet all o) instances)) None)
    (sym c.in-None.is) (IsEarliest-at [] (instances_named_as_ports [] instances) None (sym (named_as_ports-nothing instances)) IsEarliest-nil)
