-- A stream of a trace as it is kept: the series of its items, and its user words (this project's own). It serves the decoder, and no public clause.
use Rattle.std.specs.Prelude.{◌≡◌, ℕ, Bool, true, ◌&&◌, if◌then◌else◌, List, [], ◌∷◌, ◌++◌, Option, Some, None, IfSome}
use Rattle.std.specs.List.{All}
use Rattle.tydi_base.specs.Level.{IsLevel}
use Rattle.physical_stream.specs.Params.{Parameters}
use Rattle.physical_stream.specs.Cycles.{Cycle, StreamTrace, items_done}
use Rattle.physical_stream.specs.Items.{is_active, items_of, lane_word}
use Rattle.physical_stream.specs.Signals.{Fits, has_user}
use Rattle.physical_stream.specs.declared.transfer.Transfer.{Transfer}
use Rattle.physical_stream.specs.Shape.{IsNested}
use Rattle.physical_stream.specs.declared.item.Item.{Item}
use Rattle.physical_stream.specs.declared.item.Item.TheVariants as items
use Rattle.logical_types.specs.Faults.{IsPlain}
use Rattle.logical_types.specs.Tree.{Ltype}
use Rattle.logical_types.specs.Width.{width_of}
use Rattle.nest_shape.specs.Building.{StandsFor, dims_of}
use Rattle.nest_shape.specs.declared.builder.Builder.{Builder}
use Rattle.logical_value.specs.Agreement.{names_variants}
use Rattle.value_views.specs.Laws.{FitsStream}
use Rattle.trace_decode.specs.Outcome.{users_of}
use Rattle.trace_decode.specs.declared.stream_kept.StreamKept.{StreamKept}

-- the builder was given these items; there is none where they are not nested
abbrev pub Builds : List Item → Option Builder → Type 0
Builds done None = IsNested done → ⊥
Builds done (Some builder) = StandsFor builder done

-- the series that is built has this dimensionality
abbrev pub HasDims : ℕ → Option Builder → Type 0
HasDims dims builder = IfSome builder (λ b. dims_of b ≡ dims)

-- each tag that is read names a variant, where an item is an element
abbrev pub is_named : Ltype → Item → Bool
is_named element (items.Elem word) = names_variants element word
is_named element (items.Close dim) = true

abbrev pub are_named : Ltype → List Item → Bool
are_named element [] = true
are_named element (item ∷ more) = is_named element item && are_named element more

-- the element of a lane, where it is active
abbrev pub lane_element : Parameters → Transfer → ℕ → List Item
lane_element p t lane = if is_active t lane then items.Elem (lane_word p t lane) ∷ [] else []

-- each tag that is read in the transfer that a cycle shows names a variant
abbrev pub are_named_shown : Ltype → Parameters → Option Transfer → Bool
are_named_shown element p None = true
are_named_shown element p (Some t) = are_named element (items_of p t)

abbrev pub are_named_in : Ltype → Parameters → Cycle → Bool
are_named_in element p now = are_named_shown element p now.shown

-- a transfer that the cycle shows fits the stream
abbrev pub CanShow : Parameters → Cycle → Type 0
CanShow p now = IfSome now.shown (Fits p)

-- items were taken after those so far, and no user word
pub record Takes (taken : List Item) (old new : StreamKept) : Type 0 where
  pub builds : (done : List Item) → Builds done old.builder → Builds (done ++ taken) new.builder
  pub dims : (dims : ℕ) → HasDims dims old.builder → HasDims dims new.builder
  pub users : new.users ≡ old.users

-- the user word of a transfer that is done was kept, where the stream has bits for it, and no item was taken
pub record KeepsUser (p : Parameters) (t : Transfer) (old new : StreamKept) : Type 0 where
  pub builder : new.builder ≡ old.builder
  pub users : new.users ≡ old.users ++ (if has_user p then t.user ∷ [] else [])

-- elements of this type are as wide as those of a stream with these parameters
pub record IsElementOf (element : Ltype) (p : Parameters) : Type 0 where
  pub plain : IsPlain element
  pub width : p.element ≡ width_of element

-- the state kept of a stream, of so many cycles
pub record KeepsStream (s : StreamTrace) (kept : StreamKept) : Type 0 where
  pub level : IsLevel s.params.level
  pub fit : All (FitsStream s.params) (items_done s.params s.cycles)
  pub builds : Builds (items_done s.params s.cycles) kept.builder
  pub dims : HasDims s.params.dims kept.builder
  pub users : kept.users ≡ users_of s
