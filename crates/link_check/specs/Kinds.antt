-- A type's own node: its kind, and what stands at it. This project's own.
use Rattle.std.specs.Prelude.{ℕ, Bool, ◌==◌, ◌&&◌, Option, Some, None}
use denote.Enum.Bare.{sameb}
use Rattle.til_resolve.specs.Paths.{is_same_path}
use Rattle.logical_types.specs.Tree.{Ltype, null, bits, group, union, stream, Parts, no_parts, PlainStream, names_of}
use Rattle.link_check.specs.contracts.kinds.Kind.{the_type}
use Rattle.link_check.specs.declared.kinds.Kind.{Kind}
use Rattle.link_check.specs.declared.kinds.Kind.TheVariants as kinds

-- the kind of a type
abbrev pub kind_of : Ltype → Kind
kind_of null = kinds.Null
kind_of (bits width) = kinds.Bits
kind_of (group parts) = kinds.Group
kind_of (union parts) = kinds.Union
kind_of (stream element user settings) = kinds.Stream

-- two kinds are the same
unfoldable pub is_same_kind : Kind → Kind → Bool
is_same_kind = sameb the_type

-- the width of a Bits; of another type 0
abbrev pub word_width : Ltype → ℕ
word_width null = 0
word_width (bits width) = width
word_width (group parts) = 0
word_width (union parts) = 0
word_width (stream element user settings) = 0

-- the fields of a Group or the variants of a Union; another type has none
abbrev pub parts_inside : Ltype → Parts
parts_inside null = no_parts
parts_inside (bits width) = no_parts
parts_inside (group parts) = parts
parts_inside (union parts) = parts
parts_inside (stream element user settings) = no_parts

-- the arguments of a Stream, where a type is one
abbrev pub stream_in : Ltype → Option PlainStream
stream_in null = None
stream_in (bits width) = None
stream_in (group parts) = None
stream_in (union parts) = None
stream_in (stream element user settings) = Some (record { element = element; user = user; settings = settings })

-- two types are of one kind and of one width, and their parts have the same names in one order
abbrev pub has_same_shape : Ltype → Ltype → Bool
has_same_shape one other = is_same_kind (kind_of one) (kind_of other) && word_width one == word_width other && is_same_path (names_of (parts_inside one)) (names_of (parts_inside other))
