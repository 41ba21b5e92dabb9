-- One stream at several levels (this project's own).
use Rattle.std.specs.Prelude.{◌≤◌, List}
use Rattle.tydi_base.specs.Level.{LevelNumbers, number_of}
use Rattle.physical_stream.specs.Params.{Parameters}
use Rattle.physical_stream.specs.Signals.{Shows}
use Rattle.physical_stream.specs.Cycles.{Cycle, IsShownBy}
use Rattle.physical_stream.specs.declared.transfer.Transfer.{Transfer}

-- the same stream at another level
abbrev pub at_level : LevelNumbers → Parameters → Parameters
at_level level p = record { lanes = p.lanes; dims = p.dims; level = level; element = p.element; user = p.user }

-- a transfer that a stream can show at one level, it can show at every greater one
abbrev pub TransfersRise : Type 0
TransfersRise = (p : Parameters) (level : LevelNumbers) (t : Transfer) → number_of p.level ≤ number_of level → Shows p t → Shows (at_level level p) t

-- and so it is with all transfers that cycles show
abbrev pub CyclesRise : Type 0
CyclesRise = (p : Parameters) (level : LevelNumbers) (cycles : List Cycle) → number_of p.level ≤ number_of level → IsShownBy p cycles → IsShownBy (at_level level p) cycles
