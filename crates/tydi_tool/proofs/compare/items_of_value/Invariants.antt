use Rattle.std.proofs.Common.{◌≡◌, ◌++◌, drop}
use Rattle.logical_value.specs.Tree.{plain_port}
use Rattle.type_split.specs.Streams.{plain_split}
use Rattle.tydi_tool.specs.Comparisons.{items_from, items_of_value}
use Rattle.tydi_tool.proofs.compare.items_of_value.Given as goal

-- the items of the streams so far, and those of the others after them, are all
abbrev pub invariant-streams : goal.invariant-streams
invariant-streams l =
    let split = plain_split l.split in
    l.wants ++ items_from split (plain_port l.value) l.stream (drop l.stream split.streams) ≡ items_of_value split l.value
