-- A test whether two types are one. This project's own.
use Rattle.std.specs.Prelude.{Bool, true, ◌==◌, ◌&&◌, Option, Some, None}
use Rattle.std.specs.Bool.{beq}
use denote.Enum.Bare.{sameb}
use Rattle.tydi_base.specs.Frac.{Fraction}
use Rattle.tydi_base.specs.Level.{LevelNumbers, at_most}
use Rattle.logical_types.specs.contracts.ltype.Sync.{the_type}
use Rattle.logical_types.specs.declared.ltype.Sync.{Sync}
use Rattle.logical_types.specs.Tree.{Ltype, null, bits, group, union, stream, Parts, no_parts, part, Settings, PlainStream}
use Rattle.link_check.specs.Kinds.{has_same_shape, parts_inside, stream_in}

-- two fractions in lowest terms are one
abbrev pub is_same_fraction : Fraction → Fraction → Bool
is_same_fraction one other = one.num == other.num && one.den == other.den

-- two synchronicities are one
unfoldable pub is_same_sync : Sync → Sync → Bool
is_same_sync = sameb the_type

-- two levels are one
abbrev pub is_same_level : LevelNumbers → LevelNumbers → Bool
is_same_level one other = at_most one other && at_most other one

-- the arguments of two Streams are one
abbrev pub has_same_settings : Settings → Settings → Bool
has_same_settings one other = is_same_fraction one.throughput other.throughput && one.dims == other.dims && is_same_sync one.sync other.sync
    && is_same_level one.level other.level && beq one.reverse other.reverse && beq one.keep other.keep

-- where a type is a Stream, its arguments pass this test
abbrev pub if_stream : (PlainStream → Bool) → Option PlainStream → Bool
if_stream test None = true
if_stream test (Some one) = test one

-- two types of one shape hold the same types, and Streams have the same arguments
abbrev mutual
  pub holds_same : Ltype → Ltype → Bool
  holds_same null other = true
  holds_same (bits width) other = true
  holds_same (group parts) other = have_same_types parts (parts_inside other)
  holds_same (union parts) other = have_same_types parts (parts_inside other)
  holds_same (stream element user settings) other = if_stream (λ (one : PlainStream).
      has_same_settings settings one.settings && (has_same_shape element one.element && holds_same element one.element)
      && (has_same_shape user one.user && holds_same user one.user)) (stream_in other)

  pub have_same_types : Parts → Parts → Bool
  have_same_types no_parts others = true
  have_same_types (part name ltype more) no_parts = true
  have_same_types (part name ltype more) (part other_name other others) = (has_same_shape ltype other && holds_same ltype other) && have_same_types more others

-- two types are one
abbrev pub is_same_type : Ltype → Ltype → Bool
is_same_type one other = has_same_shape one other && holds_same one other

-- the arguments of two Streams and their types are one
abbrev pub are_same_streams : PlainStream → PlainStream → Bool
are_same_streams one other = has_same_settings one.settings other.settings && is_same_type one.element other.element && is_same_type one.user other.user
