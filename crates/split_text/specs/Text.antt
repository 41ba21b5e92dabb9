-- The text that a port's type compiles to (this project's own): for each physical stream its head line, its root, the signals that
-- it has with their widths, and the fields of its elements.
use Rattle.std.specs.Prelude.{◌≡◌, ℕ, ◌<◌, ◌-◌, ◌⊎◌, leb, if◌then◌else◌, List, [], ◌++◌, length, slice_get, Option, Some, None, codes, decimal}
use Rattle.std.specs.List.{flat_map}
use Rattle.tydi_base.specs.Path.{path_text}
use Rattle.physical_stream.specs.declared.head.Head.{Head}
use Rattle.split_text.specs.Fields.{fields_of}
use Rattle.signal_layout.specs.Layout.{width_of}
use Rattle.split_text.specs.declared.fields.Field.{Field}
use Rattle.signal_layout.specs.declared.signal.Signal.{Signal}
use Rattle.signal_layout.specs.declared.signal.Signal.TheVariants as signals
use Rattle.physical_stream.specs.StreamLine.{head_text}
use Rattle.type_split.specs.Nodes.{StreamNode}
use Rattle.type_split.specs.Streams.{PlainSplit}
use Rattle.type_split.specs.declared.split.Phys.{Phys}

-- a signal of this name, and its width; nothing where the stream lacks it
abbrev pub signal_line : List ℕ → Option ℕ → List ℕ
signal_line name None = []
signal_line name (Some width) = codes "  " ++ name ++ codes " " ++ decimal width ++ codes "\n"

-- the signals of a stream that have such widths, in the order of the specification
abbrev pub signal_lines : (Signal → Option ℕ) → List ℕ
signal_lines width =
    signal_line (codes "valid") (width signals.Valid) ++ signal_line (codes "ready") (width signals.Ready) ++ signal_line (codes "data") (width signals.Content)
    ++ signal_line (codes "last") (width signals.Last) ++ signal_line (codes "stai") (width signals.Stai) ++ signal_line (codes "endi") (width signals.Endi)
    ++ signal_line (codes "strb") (width signals.Strb) ++ signal_line (codes "user") (width signals.User)

-- a field: its path, its lowest bit and its width
abbrev pub field_line : Field → List ℕ
field_line one = codes "  field " ++ path_text one.path ++ codes " " ++ decimal one.offset ++ codes " " ++ decimal one.width ++ codes "\n"

-- the root of a stream, by its path
abbrev pub root_line : Option StreamNode → List ℕ
root_line None = []
root_line (Some root) = codes "  root " ++ path_text root.path ++ codes "\n"

-- the fields of the elements of a node
abbrev pub field_lines : Option StreamNode → List ℕ
field_lines None = []
field_lines (Some node) = flat_map field_line (fields_of node.element)

-- the head of a physical stream in a trace
abbrev pub head_of : Phys → Head
head_of one = record { path = one.path; params = one.params; reversed = one.reversed }

-- a physical stream of a type that has these nodes, as far as its fields
abbrev pub heading_text : List StreamNode → Phys → List ℕ
heading_text nodes one = head_text (head_of one) ++ root_line (slice_get nodes one.root) ++ signal_lines (width_of one.params)

-- a physical stream of a type that has these nodes
abbrev pub stream_text : List StreamNode → Phys → List ℕ
stream_text nodes one = heading_text nodes one ++ field_lines (slice_get nodes one.node)

-- the physical streams of a split
abbrev pub split_text : PlainSplit → List ℕ
split_text split = flat_map (stream_text split.nodes) split.streams

-- a front of a text: all of it, or more than so many bytes
pub record IsUpTo (limit : ℕ) (text front : List ℕ) : Type 0 where
  pub rest : List ℕ
  pub whole : text ≡ front ++ rest
  pub ends : (rest ≡ []) ⊎ (limit < length front)

-- the room that a text leaves: None where it has more bytes than there is room for
abbrev pub room_behind : ℕ → List ℕ → Option ℕ
room_behind room text = if leb (length text) room then Some (room - length text) else None
