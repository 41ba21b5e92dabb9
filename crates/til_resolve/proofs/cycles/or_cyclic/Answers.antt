use Rattle.std.proofs.Common.{◌≡◌, ◌<◌, ℕ, true, length, Option, IfSome, subst, sym, ap, ◌∙◌, arith}
use Rattle.std.proofs.lemmas.Bool.{false≢true}
use Rattle.til_resolve.specs.Cycles.{LeadsTo}
use Rattle.til_resolve.specs.Graph.{Leads}
use Rattle.til_resolve.specs.Scope.{declarations_of}
use Rattle.til_resolve.specs.Suspects.{IsCyclicAt, suspect_at}
use Rattle.til_resolve.proofs.BelowLemmas.{below-later, below-not, below-taken}
use Rattle.til_resolve.proofs.CycleLemmas.{one_number, no_number}
use Rattle.til_resolve.proofs.cycles.or_cyclic.Goals as goal

pub returns-in_default : goal.returns-in_default
returns-in_default c =
    let all = declarations_of c.args.scope.now.declared in
    below-not (IsCyclicAt c.args.site all c.args.graph.now) c.args.number c.args.found
    (λ place is. no_number (suspect_at c.args.site all c.args.number).number is.number (sym c.in_default.is ∙ ap (λ s. s.number) c.suspect_at-suspect.ensures.value) is.is)

pub returns-then-stands_first : goal.returns-then-stands_first
returns-then-stands_first c =
    let all = declarations_of c.args.scope.now.declared in
    below-later (IsCyclicAt c.args.site all c.args.graph.now) c.args.number c.args.found c.suspect_at-suspect.result.place c.stands_first.result c.stands_first.ensures c.if-stands_first.true
    (λ other is. ap (λ s. s.place) c.suspect_at-suspect.ensures.value ∙ is.at)

pub is_cyclic-requires-clause-within : goal.is_cyclic-requires-clause-within
is_cyclic-requires-clause-within c =
    let all = declarations_of c.args.scope.now.declared in
    let inside : c.in-Some.one < length all = subst (λ (o : Option ℕ). IfSome o (λ n. n < length all)) c.in-Some.is c.suspect_at-suspect.ensures.within in
    omega (arith, inside, c.requires.long)

pub returns-then-branch : goal.returns-then-branch
returns-then-branch c =
    let all = declarations_of c.args.scope.now.declared in
    let own = ap (λ s. s.place) c.suspect_at-suspect.ensures.value in
    below-taken (IsCyclicAt c.args.site all c.args.graph.now) c.args.number c.args.found c.suspect_at-suspect.result.place c.stands_first.result c.stands_first.ensures c.if-stands_first.false
    (record {
      at = sym own;
      number = c.in-Some.one;
      is = sym (sym c.in-Some.is ∙ ap (λ s. s.number) c.suspect_at-suspect.ensures.value);
      leads = c.in_ok-is_cyclic.ensures.0 c.if-branch.true;
    })
    (λ other is. own ∙ is.at)

pub returns : goal.returns
returns c =
    let all = declarations_of c.args.scope.now.declared in
    let graph = c.args.graph.now in
    below-not (IsCyclicAt c.args.site all graph) c.args.number c.args.found
    (λ place is. absurd (false≢true (subst (λ b. b ≡ true) c.if-branch.false (c.in_ok-is_cyclic.ensures.1
    (subst (λ n. LeadsTo (Leads graph) n n)
    (one_number (suspect_at c.args.site all c.args.number).number c.in-Some.one is.number (sym c.in-Some.is ∙ ap (λ s. s.number) c.suspect_at-suspect.ensures.value) is.is) is.leads)))))
