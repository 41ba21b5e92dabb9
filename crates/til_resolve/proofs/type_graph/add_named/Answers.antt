use Rattle.std.proofs.Common.{ℕ, List, [], ◌∷◌, ◌++◌, take, sym, ap, ◌∙◌, append_assoc}
use Rattle.til_resolve.specs.Declarations.{declaration}
use Rattle.til_resolve.specs.Graph.{kinds_named}
use Rattle.til_resolve.specs.Kinds.{asks}
use Rattle.til_resolve.specs.PathsWritten.{seen}
use Rattle.til_resolve.specs.Scope.{declarations_of}
use Rattle.til_resolve.proofs.TypeGraphLemmas.{kinds_named-more}
use Rattle.til_resolve.proofs.type_graph.add_named.Goals as goal

pub paths-preserved : goal.paths-preserved
paths-preserved c =
    let all = declarations_of c.args.scope.now.declared in
    let space = (declaration all c.args.number).space in
    let old = c.args.targets.now in
    let here = kinds_named (asks c.args.asked) all space (c.path-item.result.now ∷ []) in
    let so_far = kinds_named (asks c.args.asked) all space (seen (take c.paths.path-index c.args.paths.now)) in
    c.in_ok-add_path.ensures ∙ ap (λ (l : List ℕ). l ++ here) c.paths.invariant ∙ append_assoc old so_far here
    ∙ ap (λ (l : List ℕ). old ++ l) (sym (kinds_named-more (asks c.args.asked) all space c.args.paths.now c.paths.path-index c.path-item.result c.paths-test.true c.path-item.is))
