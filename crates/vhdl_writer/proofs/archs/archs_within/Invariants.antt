use Rattle.std.proofs.Common.{map, drop}
use Rattle.til_resolve.specs.PlainProject.{plain_streamlet}
use Rattle.vhdl_writer.specs.Architecture.{archs_from}
use Rattle.vhdl_writer.specs.Designs.{AreMade}
use Rattle.vhdl_writer.proofs.archs.archs_within.Given as goal

-- the architectures so far and those to come are all, and the bytes of those so far are counted
abbrev pub invariant-streamlets : goal.invariant-streamlets
invariant-streamlets l = AreMade l.language l.limit (archs_from (map plain_streamlet l.streamlets) l.components l.impls 0 (map plain_streamlet l.streamlets)) l.archs
    (archs_from (map plain_streamlet l.streamlets) l.components l.impls l.number (map plain_streamlet (drop l.number l.streamlets))) l.length
