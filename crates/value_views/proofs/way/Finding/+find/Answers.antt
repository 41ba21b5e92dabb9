use Rattle.std.proofs.Common.{◌≡◌, ◌∙◌, List, ap, sym, subst}
use Rattle.logical_types.specs.declared.ltype.Part.{Part}
use Rattle.logical_types.specs.Tree.{Ltype, group, union, plain, plain_parts, settings_of}
use Rattle.logical_types.proofs.PlainLemmas.{plain-Group, plain-Union}
use Rattle.value_views.specs.Way.{Finds}
use Rattle.value_views.proofs.WayLemmas.{Finds-group, Finds-union, HavePassed-found, HavePassed-step, way-entered}
use Rattle.value_views.proofs.way.Finding.+find.Goals as goal

pub find-returns-in-Group : goal.find-returns-in-Group
find-returns-in-Group t c =
    let is : plain c.args.ltype.now ≡ group (plain_parts c.as_slice.result.now) =
    ap plain c.in-Group.is ∙ plain-Group c.in-Group.parts ∙ ap (λ (l : List Part). group (plain_parts l)) (sym c.as_slice.ensures) in
    subst (λ (t : Ltype). Finds c.args.self.now c.find_in_parts.new.self c.find_in_parts.result t) (sym is)
    (Finds-group (plain_parts c.as_slice.result.now) c.args.self.now c.find_in_parts.new.self c.find_in_parts.result c.find_in_parts.ensures)

pub find-returns-in-Union : goal.find-returns-in-Union
find-returns-in-Union t c =
    let is : plain c.args.ltype.now ≡ union (plain_parts c.as_slice-in-Union.result.now) =
    ap plain c.in-Union.is ∙ plain-Union c.in-Union.parts ∙ ap (λ (l : List Part). union (plain_parts l)) (sym c.as_slice-in-Union.ensures) in
    subst (λ (t : Ltype). Finds c.args.self.now c.find_in_parts-in-Union.new.self c.find_in_parts-in-Union.result t) (sym is)
    (Finds-union (plain_parts c.as_slice-in-Union.result.now) c.args.self.now c.find_in_parts-in-Union.new.self c.find_in_parts-in-Union.result c.find_in_parts-in-Union.ensures)

pub find_in_parts-returns-then-branch : goal.find_in_parts-returns-then-branch
find_in_parts-returns-then-branch t c = λ none room.
    HavePassed-found _ c.args.self.now c.parts.self c.find_in_part.new.self (plain_parts c.args.parts.now) c.args.parts.now c.parts.number c.index-parts-number.result c.parts-test.true
    c.index-parts-number.is (c.parts.invariant none room) c.in_ok-find_in_part.ensures c.if-branch.true

pub find_in_parts-parts-preserved : goal.find_in_parts-parts-preserved
find_in_parts-parts-preserved t c = λ none room.
    HavePassed-step _ c.args.self.now c.parts.self c.find_in_part.new.self (plain_parts c.args.parts.now) c.args.parts.now c.parts.number c.index-parts-number.result c.parts-test.true
    c.index-parts-number.is (c.parts.invariant none room) c.in_ok-find_in_part.ensures c.if-branch.false

pub find_in_stream-returns : goal.find_in_stream-returns
find_in_stream-returns t c = λ none room.
    way-entered _ (plain c.args.stream.now.element) (plain c.args.stream.now.user) (settings_of c.args.stream.now) c.args.self.now c.find_inside.new.self c.enter.new.self none room
    c.in_ok-find_inside.ensures c.if-not-branch.false c.in_ok-enter.ensures
