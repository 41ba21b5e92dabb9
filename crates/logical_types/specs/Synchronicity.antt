-- How the sequences of a Stream are tied to those around it (Tydi specification, synchronicity).
use Rattle.std.specs.Prelude.{Bool, true, false}
use Rattle.logical_types.specs.declared.ltype.Sync.{Sync}
use Rattle.logical_types.specs.declared.ltype.Sync.TheVariants as syncs

-- the sequences of a Desync or a FlatDesync Stream are not tied to those around it
abbrev pub is_apart : Sync → Bool
is_apart syncs.Sync = false
is_apart syncs.Flatten = false
is_apart syncs.Desync = true
is_apart syncs.FlatDesync = true
