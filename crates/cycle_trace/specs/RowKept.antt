-- A cycle that was read into a transfer that is kept (this project's own).
use Rattle.std.specs.Prelude.{Bool, if◌then◌else◌, Option, Some, None}
use Rattle.physical_stream.specs.Cycles.{Cycle}
use Rattle.physical_stream.specs.declared.transfer.Transfer.{Transfer}
use Rattle.cycle_trace.specs.declared.row.fields.RowBits.{RowBits}

-- the transfer, where valid is 1
abbrev pub shown_in : Transfer → Bool → Option Transfer
shown_in kept valid = if valid then Some kept else None

-- the cycle of these bits
abbrev pub cycle_in : Transfer → RowBits → Cycle
cycle_in kept bits = record { ready = bits.ready; shown = shown_in kept bits.valid }
