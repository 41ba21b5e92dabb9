use Rattle.std.proofs.Common.{◌≡◌, ◌++◌, drop, option_copied}
use Rattle.std.specs.List.{flat_map}
use Rattle.vhdl_writer.specs.Architecture.{channels_of, sets_of_channel}
use Rattle.vhdl_writer.specs.EndStreams.{channels_lent}
use Rattle.vhdl_writer.proofs.sets.add_channels.Given as goal

-- the assignments so far and those of the streams to come are all
abbrev pub invariant-streams : goal.invariant-streams
invariant-streams l = l.sets ++ flat_map sets_of_channel (channels_of (option_copied l.source.instance) (option_copied l.sink.instance) (drop l.stream-index l.stream-items) l.others)
    ≡ l.initial.sets ++ flat_map sets_of_channel (channels_lent l.source l.sink)
