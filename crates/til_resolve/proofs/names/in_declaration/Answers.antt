use Rattle.std.proofs.Common.{List, Contains, ap, subst, ◌∙◌}
use Rattle.tydi_base.specs.declared.place.Place.{Place}
use Rattle.til_parser.specs.declared.tree.AstPath.{AstPath}
use Rattle.til_resolve.specs.declared.kinds.Asked.{Asked}
use Rattle.til_resolve.specs.Declarations.{declaration}
use Rattle.til_resolve.specs.Earliest.{IsEarliest}
use Rattle.til_resolve.specs.PathsWritten.{asked_in, paths_of_kind, seen}
use Rattle.til_resolve.specs.Scope.{declarations_of}
use Rattle.til_resolve.specs.Sought.{refused_of}
use Rattle.til_resolve.proofs.NameLemmas.{refused-kind}
use Rattle.til_resolve.proofs.names.in_declaration.Goals as goal

pub returns : goal.returns
returns c =
    let all = declarations_of c.args.scope.now.declared in
    let one = declaration all c.args.number in
    let kind = ap (λ d. d.kind) c.get.ensures.value in
    let paths = ap seen c.as_slice.ensures ∙ c.in_ok-paths.ensures ∙ ap paths_of_kind kind in
    let asked = c.asked_in.ensures ∙ ap asked_in kind in
    subst (λ (l : List Place). IsEarliest (Contains l) c.of_paths.result)
    (ap (λ (l : List AstPath). refused_of c.args.sought all one.space c.asked_in.result l) paths
    ∙ ap (λ (a : Asked). refused_of c.args.sought all one.space a (paths_of_kind one.kind)) asked ∙ refused-kind c.args.sought all one.space one.kind)
    c.of_paths.ensures
