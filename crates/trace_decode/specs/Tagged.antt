-- Which elements have tags that the rule on tags looks at (this project's own). It serves the decoder, and no public clause.
use Rattle.std.specs.Prelude.{◌≡◌, ◌||◌, ℕ, Bool, true, false, List, length, Some, slice_get}
use Rattle.logical_types.specs.Tree.{Ltype, Parts}
use Rattle.logical_types.specs.Tree as types
use Rattle.type_split.specs.Streams.{PlainSplit}
use Rattle.trace_decode.specs.Tags.{element_at}

-- a Union stands in a type, outside the Streams in it
abbrev mutual
  pub has_tags : Ltype → Bool
  has_tags types.null = false
  has_tags (types.bits width) = false
  has_tags (types.group parts) = have_tags parts
  has_tags (types.union parts) = true
  has_tags (types.stream element user settings) = false

  -- the same of one of these parts
  pub have_tags : Parts → Bool
  have_tags types.no_parts = false
  have_tags (types.part name ltype more) = has_tags ltype || have_tags more

-- for each stream, whether its elements have tags
pub record AreTagged (split : PlainSplit) (tagged : List Bool) : Type 0 where
  pub many : length tagged ≡ length split.streams
  pub each : (i : ℕ) (tags : Bool) → slice_get tagged i ≡ Some tags → tags ≡ has_tags (element_at split i)
