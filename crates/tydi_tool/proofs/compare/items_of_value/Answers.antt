use Rattle.std.proofs.Common.{rules}
use Rattle.type_split.specs.Streams.{plain_split}
use Rattle.tydi_tool.proofs.CompareLemmas.{more-items}
use Rattle.tydi_tool.proofs.compare.items_of_value.Goals as goal

pub streams-preserved : goal.streams-preserved
streams-preserved c =
    let split = plain_split c.args.split.now in
    more-items split c.args.value c.streams.stream c.streams.wants c.push.new.self c.in_ok-view_items.field-0 c.requires.port c.requires.fits (search rules) c.in_ok-view_items.ensures c.in_ok-push.ensures.ok
    c.streams.invariant
