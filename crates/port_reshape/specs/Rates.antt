-- Types without their throughputs and levels (this project's own). Two types that are one type so have the same values, which their streams carry as the
-- same nests.
use Rattle.std.specs.Prelude.{◌≡◌, ℕ, map}
use Rattle.tydi_base.specs.Frac.{Fraction}
use Rattle.tydi_base.specs.Level.{LevelNumbers, whole_level}
use Rattle.logical_types.specs.Tree.{Ltype, null, bits, group, union, stream, Parts, no_parts, part, Settings}
use Rattle.type_split.specs.Streams.{split_of, streams_of}
use Rattle.port_reshape.specs.Far.{IsFarSplit, far_stream}

-- the one throughput that stands in the place of each
abbrev pub one_throughput : Fraction
one_throughput = record { num = 1; den = 1 }

-- the arguments of a Stream, but for its throughput and its level
abbrev pub without_rate : Settings → Settings
without_rate settings = record {
  throughput = one_throughput;
  dims = settings.dims;
  sync = settings.sync;
  level = whole_level 1;
  reverse = settings.reverse;
  keep = settings.keep;
}

-- a type, but for its throughputs and levels; the user types stay, since they hold no Stream
abbrev mutual
  pub without_rates : Ltype → Ltype
  without_rates null = null
  without_rates (bits width) = bits width
  without_rates (group parts) = group (parts_without_rates parts)
  without_rates (union parts) = union (parts_without_rates parts)
  without_rates (stream element user settings) = stream (without_rates element) user (without_rate settings)

  pub parts_without_rates : Parts → Parts
  parts_without_rates no_parts = no_parts
  parts_without_rates (part name ltype more) = part name (without_rates ltype) (parts_without_rates more)

-- two types are one type, throughputs and levels aside, and the streams of the one differ from those of the other in these lanes and this level: so the
-- splits differ in these alone
abbrev pub RatesLeaveValues : Type 0
RatesLeaveValues = (near far : Ltype) (lanes : ℕ) (level : LevelNumbers) → without_rates far ≡ without_rates near → streams_of far ≡ map (far_stream lanes level) (streams_of near)
    → IsFarSplit (split_of near) (split_of far) lanes level
