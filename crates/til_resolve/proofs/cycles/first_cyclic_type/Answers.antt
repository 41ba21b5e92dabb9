use Rattle.std.proofs.Common.{ℕ, List, length, subst, sym, ap, ◌∙◌}
use Rattle.std.proofs.lemmas.Result.{IfOk-weaker}
use Rattle.til_resolve.specs.declared.cycles.Site.TheVariants as sites
use Rattle.til_resolve.specs.Earliest.{IsEarliest, IsBelow}
use Rattle.til_resolve.specs.Faults.{IsCyclicAtName}
use Rattle.til_resolve.specs.Graph.{AreNumbers}
use Rattle.til_resolve.specs.Scope.{declarations_of}
use Rattle.til_resolve.specs.Suspects.{IsCyclicAt}
use Rattle.til_resolve.proofs.CycleLemmas.{told-types}
use Rattle.til_resolve.proofs.TypeGraphLemmas.{AreNumbers-type_graph, length-type_graph}
use Rattle.til_resolve.proofs.cycles.first_cyclic_type.Goals as goal

pub first_cycle-requires-clause-long : goal.first_cycle-requires-clause-long
first_cycle-requires-clause-long c = ap (λ (g : List (List ℕ)). length g) (c.as_slice.ensures ∙ c.in_ok-graph.ensures) ∙ length-type_graph (declarations_of c.args.scope.now.declared)

pub first_cycle-requires-clause-numbers : goal.first_cycle-requires-clause-numbers
first_cycle-requires-clause-numbers c = subst AreNumbers (sym (c.as_slice.ensures ∙ c.in_ok-graph.ensures)) (AreNumbers-type_graph (declarations_of c.args.scope.now.declared))

pub returns : goal.returns
returns c =
    let all = declarations_of c.args.scope.now.declared in
    IfOk-weaker c.first_cycle.result (IsEarliest (IsBelow (IsCyclicAt sites.Name all c.as_slice.result.now) (length all))) (IsEarliest (IsBelow (IsCyclicAtName all) (length all)))
    (λ found. told-types all c.as_slice.result.now (length all) found (c.as_slice.ensures ∙ c.in_ok-graph.ensures)) c.first_cycle.ensures
