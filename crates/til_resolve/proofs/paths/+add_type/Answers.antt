use Rattle.std.proofs.Common.{[], ◌∷◌, sym, ap, ◌∙◌}
use Rattle.std.proofs.lemmas.Result.{on_ok_weaker}
use Rattle.til_parser.specs.declared.ltype.AstStream.{AstStream}
use Rattle.til_parser.specs.declared.ltype.AstType.{AstType}
use Rattle.til_parser.specs.declared.ltype.AstType.TheVariants as types
use Rattle.til_parser.specs.Tree as tree
use Rattle.til_parser.specs.Tree.{plain}
use Rattle.til_parser.proofs.PlainLemmas.{plain-Group, plain-Union, plain-Stream, plain-Path}
use Rattle.til_resolve.specs.Names.{paths_in}
use Rattle.til_resolve.specs.PathsWritten.{paths_in_list}
use Rattle.til_resolve.proofs.PathsWrittenLemmas.{AddsPaths-same, AddsPaths-then, AddsPaths-push, paths_in-parts}
use Rattle.til_resolve.proofs.paths.+add_type.Goals as goal

pub add_type-returns-in-Group : goal.add_type-returns-in-Group
add_type-returns-in-Group k c =
    on_ok_weaker c.add_parts.result (AddsPaths-same _ _ (paths_in_list c.as_slice.result.now) (paths_in (plain c.args.ltype.now))
    (ap paths_in_list c.as_slice.ensures ∙ sym (paths_in-parts c.in-Group.parts) ∙ ap paths_in (sym (plain-Group c.in-Group.parts)) ∙ ap (λ (t : AstType). paths_in (plain t)) (sym c.in-Group.is)))
    c.add_parts.ensures

pub add_type-returns-in-Union : goal.add_type-returns-in-Union
add_type-returns-in-Union k c =
    on_ok_weaker c.add_parts-in-Union.result (AddsPaths-same _ _ (paths_in_list c.as_slice-in-Union.result.now) (paths_in (plain c.args.ltype.now))
    (ap paths_in_list c.as_slice-in-Union.ensures ∙ sym (paths_in-parts c.in-Union.parts) ∙ ap paths_in (sym (plain-Union c.in-Union.parts)) ∙ ap (λ (t : AstType). paths_in (plain t)) (sym c.in-Union.is)))
    c.add_parts-in-Union.ensures

pub add_type-returns-in_ok-add_type-in-Stream : goal.add_type-returns-in_ok-add_type-in-Stream
add_type-returns-in_ok-add_type-in-Stream k c =
    let one : AstStream = c.get-stream.result.now in
    let same = ap paths_in (sym (plain-Stream one)) ∙ ap (λ (s : AstStream). paths_in (plain (types.Stream s))) c.get-stream.ensures ∙ ap (λ (t : AstType). paths_in (plain t)) (sym c.in-Stream.is) in
    on_ok_weaker c.add_type-in-Stream.result
    (λ so. AddsPaths-same _ _ _ _ same (AddsPaths-then _ _ _ (paths_in (plain one.element)) (paths_in (plain one.user)) c.in_ok-add_type-in-Stream.ensures so))
    c.add_type-in-Stream.ensures

pub add_type-returns-in-Path : goal.add_type-returns-in-Path
add_type-returns-in-Path k c =
    let same = ap (λ (t : tree.Ltype). paths_in t) (sym (plain-Path c.in-Path.path)) ∙ ap (λ (t : AstType). paths_in (plain t)) (sym c.in-Path.is) in
    on_ok_weaker c.push.result (λ is. AddsPaths-same _ _ (c.in-Path.path ∷ []) _ same (AddsPaths-push _ _ _ is)) c.push.ensures.ok
