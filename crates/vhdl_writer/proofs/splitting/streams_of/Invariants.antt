use Rattle.std.proofs.Common.{◌≡◌, map, take}
use Rattle.vhdl_writer.specs.Components.{stream_of}
use Rattle.vhdl_writer.proofs.splitting.streams_of.Given as goal

-- the streams so far
abbrev pub invariant-streams : goal.invariant-streams
invariant-streams l = l.made ≡ map (stream_of l.port) (take l.stream-index l.streams)
