use Rattle.std.proofs.Common.{arith}
use Rattle.logical_types.specs.Tree.{plain}
use Rattle.logical_value.specs.Tree as values
use Rattle.value_views.specs.Words.{blank_of, in_nest}
use Rattle.value_views.proofs.GivingLemmas.{list-blank, made-done, made-next}
use Rattle.value_views.proofs.given.+blanks.Goals as goal

pub blank_nest-returns-in_ok-some : goal.blank_nest-returns-in_ok-some
blank_nest-returns-in_ok-some t c =
    list-blank (λ (v : values.Tree). blank_of (plain c.args.element.now)) c.args.depth (values.plain c.args.shape.now) c.members_of.result.now c.in_ok-some.some
    (omega (arith, c.if-depth-eq0.false)) c.members_of.ensures c.in_ok-some.ensures

pub blank_nests-shape-preserved : goal.blank_nests-shape-preserved
blank_nests-shape-preserved t c =
    made-next (in_nest (λ (v : values.Tree). blank_of (plain c.args.element.now)) c.args.depth) values.plain c.args.shape.now c.shape.one-index c.one-item.result c.shape.some c.push.new.self
    c.in_ok-value.value _ c.shape-test.true c.one-item.is c.in_ok-push.ensures.ok c.in_ok-value.ensures c.shape.invariant

pub blank_nests-returns : goal.blank_nests-returns
blank_nests-returns t c =
    made-done (in_nest (λ (v : values.Tree). blank_of (plain c.args.element.now)) c.args.depth) values.plain c.args.shape.now c.shape.one-index c.shape.some _ c.shape-test.false c.shape.invariant
