-- The first difference of two linked types: nodes are looked at in preorder, a Stream's own arguments before its data type. At a node
-- the differences come in the order of `Why`. This project's own.
use Rattle.std.specs.Prelude.{ℕ, Bool, false, not, ◌==◌, List, [], ◌∷◌, Option, Some, None, option_map, option_and_then, if◌then◌else◌}
use Rattle.std.specs.Bool.{beq}
use Rattle.std.specs.List.{find}
use Rattle.logical_types.specs.Tree.{Ltype, null, bits, group, union, stream, Parts, no_parts, part, PlainStream}
use Rattle.std.specs.Option.{option_or}
use Rattle.type_split.specs.Nodes.{turned}
use Rattle.link_check.specs.Compatible.{are_in_order}
use Rattle.link_check.specs.Kinds.{has_same_shape, parts_inside, stream_in}
use Rattle.link_check.specs.SameTypes.{is_same_fraction, is_same_sync, is_same_type}
use Rattle.link_check.specs.declared.difference.Difference.{Difference}
use Rattle.link_check.specs.declared.difference.Why.{Why}
use Rattle.link_check.specs.declared.difference.Why.TheVariants as whys

-- ---- at one node

-- two Streams differ in this. `reversed` says that an odd number of reversed Streams leads to the source's, itself counted.
abbrev pub differ : (reversed : Bool) (source sink : PlainStream) → Why → Bool
differ reversed source sink whys.Shape = false
differ reversed source sink whys.Throughput = not (is_same_fraction source.settings.throughput sink.settings.throughput)
differ reversed source sink whys.Dims = not (source.settings.dims == sink.settings.dims)
differ reversed source sink whys.Sync = not (is_same_sync source.settings.sync sink.settings.sync)
differ reversed source sink whys.Level = not (are_in_order reversed source.settings.level sink.settings.level)
differ reversed source sink whys.Direction = not (beq source.settings.reverse sink.settings.reverse)
differ reversed source sink whys.User = not (is_same_type source.user sink.user)
differ reversed source sink whys.Keep = not (beq source.settings.keep sink.settings.keep)

-- all reasons but the shape, in the order in which they are looked for at a Stream
abbrev pub stream_whys : List Why
stream_whys = whys.Throughput ∷ whys.Dims ∷ whys.Sync ∷ whys.Level ∷ whys.Direction ∷ whys.User ∷ whys.Keep ∷ []

-- the first way in which two Streams differ
unfoldable pub why_of_streams : (reversed : Bool) (source sink : PlainStream) → Option Why
why_of_streams reversed source sink = find (differ (turned reversed source.settings.reverse) source sink) stream_whys

-- the first way in which two types of one shape differ, by their own arguments: two Streams may
abbrev pub why_of_both : (reversed : Bool) (source sink : Option PlainStream) → Option Why
why_of_both reversed None sink = None
why_of_both reversed (Some source) None = None
why_of_both reversed (Some source) (Some sink) = why_of_streams reversed source sink

-- the first way in which two types differ by their own node: the shape comes first
abbrev pub why_at : (reversed : Bool) (source sink : Ltype) → Option Why
why_at reversed source sink = option_or (if has_same_shape source sink then None else Some whys.Shape) (why_of_both reversed (stream_in source) (stream_in sink))

-- ---- in a type

-- a difference at a type itself
abbrev pub here : Why → Difference
here why = record { path = []; why = why }

-- a difference inside a part
abbrev pub inside_part : List ℕ → Difference → Difference
inside_part name found = record { path = name ∷ found.path; why = found.why }

-- the first difference in what two types hold
abbrev mutual
  pub difference_inside : (reversed : Bool) (source sink : Ltype) → Option Difference
  difference_inside reversed null sink = None
  difference_inside reversed (bits width) sink = None
  difference_inside reversed (group parts) sink = difference_in_parts reversed parts (parts_inside sink)
  difference_inside reversed (union parts) sink = difference_in_parts reversed parts (parts_inside sink)
  difference_inside reversed (stream element user settings) sink = option_and_then (λ (other : PlainStream).
      option_or (option_map here (why_at (turned reversed settings.reverse) element other.element)) (difference_inside (turned reversed settings.reverse) element other.element))
      (stream_in sink)

  -- the first difference of parts, one after another
  pub difference_in_parts : (reversed : Bool) (parts others : Parts) → Option Difference
  difference_in_parts reversed no_parts others = None
  difference_in_parts reversed (part name ltype more) no_parts = None
  difference_in_parts reversed (part name ltype more) (part other_name other others) = option_or
      (option_map (inside_part name) (option_or (option_map here (why_at reversed ltype other)) (difference_inside reversed ltype other)))
      (difference_in_parts reversed more others)

-- the first difference of the types of a source and of a sink: the names of the parts that lead to it, and the way in which they differ
abbrev pub first_difference : (reversed : Bool) (source sink : Ltype) → Option Difference
first_difference reversed source sink = option_or (option_map here (why_at reversed source sink)) (difference_inside reversed source sink)
