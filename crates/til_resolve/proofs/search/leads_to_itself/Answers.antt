use Rattle.std.proofs.Common.{◌≡◌, ◌<◌, false, List, ℕ, [], get_or, length, Contains, subst, sym, ◌∙◌, arith}
use Rattle.std.proofs.lemmas.List.{get_or_read}
use Rattle.std.proofs.lemmas.List.Elements.{Contains-get_or}
use Rattle.til_resolve.specs.Graph.{Searches, Reaches, targets_of}
use Rattle.til_resolve.proofs.GraphLemmas.{Searches-turn, Searches-end, taken-within}
use Rattle.til_resolve.proofs.search.leads_to_itself.Goals as goal

pub prove-unreachable-requires : goal.prove-unreachable-requires
prove-unreachable-requires c = omega (
  arith,
  taken-within c.args.graph.now c.args.start c.waiting.reached.items c.waiting.waiting c.pop.new.self c.in-Some.number c.requires.within
      c.waiting.invariant c.in-Some.ensures,
)

pub reach-requires : goal.reach-requires
reach-requires c = λ k d below.
    let graph = c.args.graph.now in
    let number = c.in-Some.number in
    let targets = c.as_slice.result.now in
    let within : number < length graph = taken-within graph c.args.start c.waiting.reached.items c.waiting.waiting c.pop.new.self number c.requires.within c.waiting.invariant c.in-Some.ensures in
    let same : targets ≡ targets_of graph number = c.as_slice.ensures ∙ get_or_read graph number c.index-graph-number.result within c.index-graph-number.is [] in
    omega (arith, c.waiting.invariant.long, c.requires.numbers.within number (get_or targets k d) (subst (λ (l : List ℕ). Contains l (get_or targets k d)) same (Contains-get_or targets k d below)))

pub waiting-preserved : goal.waiting-preserved
waiting-preserved c =
    let graph = c.args.graph.now in
    let number = c.in-Some.number in
    let reached = c.waiting.reached.items in
    let within : number < length graph = taken-within graph c.args.start reached c.waiting.waiting c.pop.new.self number c.requires.within c.waiting.invariant c.in-Some.ensures in
    let same : c.as_slice.result.now ≡ targets_of graph number = c.as_slice.ensures ∙ get_or_read graph number c.index-graph-number.result within c.index-graph-number.is [] in
    Searches-turn graph c.args.start reached c.pop.new.self number c.reach.new.reached.items c.reach.new.waiting
    (subst (λ (l : List ℕ). Searches graph c.args.start reached l) c.in-Some.ensures c.waiting.invariant)
    (subst (λ (l : List ℕ). Reaches reached c.pop.new.self l c.reach.new.reached.items c.reach.new.waiting) same c.in_ok-reach.ensures)

pub returns : goal.returns
returns c =
    let graph = c.args.graph.now in
    let start = c.args.start in
    let reached = c.waiting.reached.items in
    let so : Searches graph start reached [] = subst (λ (l : List ℕ). Searches graph start reached l) c.in_default.ensures.0 c.waiting.invariant in
    let value : c.index.result.now ≡ get_or reached start false = get_or_read reached start c.index.result.now (omega (arith, so.long, c.requires.within)) c.index.ensures false in
    (λ is. so.sound start (sym value ∙ is), λ way. value ∙ Searches-end graph start reached so start way)
