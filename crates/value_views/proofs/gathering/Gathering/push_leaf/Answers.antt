use Rattle.std.proofs.lemmas.Result.{on_ok_weaker}
use Rattle.logical_types.specs.Tree as types
use Rattle.logical_value.specs.Tree.{plain}
use Rattle.value_views.proofs.GatherLemmas.{leaf-element, added-leaf}
use Rattle.value_views.proofs.gathering.Gathering.push_leaf.Goals as goal

pub pack-requires-clause-element : goal.pack-requires-clause-element
pack-requires-clause-element c = leaf-element (types.plain c.args.self.now.element.now) (plain c.args.value.now) c.requires

pub returns : goal.returns
returns c =
    on_ok_weaker c.push.result
    (λ pushed. added-leaf (types.plain c.args.self.now.element.now) (plain c.args.value.now) c.in_ok-word.word c.args.nests.now c.push.new.self c.in_ok-word.ensures pushed) c.push.ensures.ok
