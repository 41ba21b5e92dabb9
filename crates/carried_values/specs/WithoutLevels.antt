-- Types without their levels. Two types that are compatible are one type, levels aside. This project's own.
use Rattle.tydi_base.specs.Level.{LevelNumbers, whole_level}
use Rattle.logical_types.specs.Tree.{Ltype, null, bits, group, union, stream, Parts, no_parts, part, Settings}

-- the one level that stands in the place of each level: that of 1
abbrev pub one_level : LevelNumbers
one_level = whole_level 1

-- the arguments of a Stream, but for its level
abbrev pub without_level : Settings → Settings
without_level settings = record {
  throughput = settings.throughput;
  dims = settings.dims;
  sync = settings.sync;
  level = one_level;
  reverse = settings.reverse;
  keep = settings.keep;
}

-- a type, but for its levels; the user types stay, since they hold no Stream
abbrev mutual
  pub without_levels : Ltype → Ltype
  without_levels null = null
  without_levels (bits width) = bits width
  without_levels (group parts) = group (parts_without_levels parts)
  without_levels (union parts) = union (parts_without_levels parts)
  without_levels (stream element user settings) = stream (without_levels element) user (without_level settings)

  pub parts_without_levels : Parts → Parts
  parts_without_levels no_parts = no_parts
  parts_without_levels (part name ltype more) = part name (without_levels ltype) (parts_without_levels more)
