use Rattle.std.proofs.Common.{ℕ, List, length, subst, sym}
use Rattle.std.proofs.lemmas.Result.{IfOk-weaker}
use Rattle.til_resolve.specs.declared.cycles.Site.TheVariants as sites
use Rattle.til_resolve.specs.Earliest.{IsEarliest, IsBelow}
use Rattle.til_resolve.specs.Faults.{IsCyclicAtTarget}
use Rattle.til_resolve.specs.Graph.{HasInside}
use Rattle.til_resolve.specs.Scope.{declarations_of}
use Rattle.til_resolve.specs.Suspects.{IsCyclicAt}
use Rattle.til_resolve.proofs.ContainmentLemmas.{AreNumbers-inside}
use Rattle.til_resolve.proofs.CycleLemmas.{told-instances}
use Rattle.til_resolve.proofs.cycles.first_cyclic_instance.Goals as goal

pub first_cycle-requires-clause-numbers : goal.first_cycle-requires-clause-numbers
first_cycle-requires-clause-numbers c = AreNumbers-inside (declarations_of c.args.scope.now.declared) c.as_slice.result.now
    (subst (λ (g : List (List ℕ)). HasInside (declarations_of c.args.scope.now.declared) g (length (declarations_of c.args.scope.now.declared))) (sym c.as_slice.ensures.value) c.in_ok-graph.ensures)

pub returns : goal.returns
returns c =
    let all = declarations_of c.args.scope.now.declared in
    let graph = c.as_slice.result.now in
    IfOk-weaker c.first_cycle.result (IsEarliest (IsBelow (IsCyclicAt sites.Target all graph) (length all))) (IsEarliest (IsBelow (IsCyclicAtTarget all) (length all)))
    (λ found. told-instances all graph (length all) found
    (subst (λ (g : List (List ℕ)). HasInside all g (length all)) (sym c.as_slice.ensures.value) c.in_ok-graph.ensures)) c.first_cycle.ensures
