use Rattle.value_text.specs.Items.{item_of, items_of}
use Rattle.value_text.specs.Pending.{lines_text}
use Rattle.value_text.proofs.LineLemmas.{users-few, users-past, users-step}
use Rattle.value_text.proofs.starting.add_users.Goals as goal

pub streams-preserved : goal.streams-preserved
streams-preserved c =
    users-step c.args.streams.now c.streams.stream-index c.stream-item.result (items_of c.streams.left) (items_of c.in-Some.field-0.more) (item_of c.in-Some.field-0.one) (items_of c.elements.result)
    (lines_text c.streams.lines) (lines_text c.add_user.new.lines) _ c.streams-test.true c.stream-item.is c.in-Some.ensures c.elements.ensures c.in_ok-add_user-in-Some.ensures c.streams.invariant

pub returns-in-None : goal.returns-in-None
returns-in-None c = users-few c.args.streams.now c.streams.stream-index (items_of c.streams.left) (lines_text c.streams.lines) _ c.in-None.ensures c.streams.invariant

pub returns : goal.returns
returns c = users-past c.args.streams.now c.streams.stream-index (items_of c.streams.left) (lines_text c.streams.lines) _ c.streams-test.false c.streams.invariant
