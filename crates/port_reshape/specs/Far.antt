-- The far side of a port that is reshaped: the same stream with other lanes and another level (this project's own).
use Rattle.std.specs.Prelude.{◌≡◌, ℕ, ◌≤◌, Bool, false, ◌&&◌, nat_lt, List, [], ◌∷◌, map}
use Rattle.tydi_base.specs.Level.{IsLevel, LevelNumbers, number_of}
use Rattle.physical_stream.specs.Params.{Parameters}
use Rattle.type_split.specs.Streams.{PlainSplit}
use Rattle.type_split.specs.declared.split.Phys.{Phys}
use Rattle.logical_value.specs.Fits.{fits_split}
use Rattle.logical_value.specs.Tree.{Tree}
use Rattle.value_views.specs.Views.{view_of_stream}

-- ---- which ports can be reshaped

-- with dimensions the far side has a level from 3 on: below that no component can keep the rules on pauses over a source that pauses
abbrev pub is_low : ℕ → LevelNumbers → Bool
is_low dims level = nat_lt 0 dims && nat_lt (number_of level) 3

-- a port has one physical stream, without user words, and the level is not too low for it
pub record IsReshapable (streams : List Phys) (level : LevelNumbers) : Type 0 where
  pub stream : Phys
  pub one : streams ≡ stream ∷ []
  pub no_user : stream.params.user ≡ 0
  pub high : is_low stream.params.dims level ≡ false

-- lanes and a level that a stream may have
pub record IsShape (lanes : ℕ) (level : LevelNumbers) : Type 0 where
  pub some_lane : 1 ≤ lanes
  pub lanes_most : lanes ≤ 128
  pub is_level : IsLevel level

-- ---- the far side

-- the parameters of a stream with these lanes and this level
abbrev pub far_params : ℕ → LevelNumbers → Parameters → Parameters
far_params lanes level p = record { lanes = lanes; dims = p.dims; level = level; element = p.element; user = p.user }

-- the stream with these lanes and this level
abbrev pub far_stream : ℕ → LevelNumbers → Phys → Phys
far_stream lanes level stream = record { path = stream.path; params = far_params lanes level stream.params; reversed = stream.reversed; root = stream.root; node = stream.node }

-- the split with these lanes and this level in each stream
abbrev pub far_split : PlainSplit → ℕ → LevelNumbers → PlainSplit
far_split split lanes level = record { nodes = split.nodes; streams = map (far_stream lanes level) split.streams; roots = split.roots }

-- the split of a port differs from another only in the lanes and levels of its streams: it has the same values, which each stream carries
-- as the same nest
pub record IsFarSplit (split far : PlainSplit) (lanes : ℕ) (level : LevelNumbers) : Type 0 where
  pub streams : far.streams ≡ map (far_stream lanes level) split.streams
  pub views : (value : List (List Tree)) (number : ℕ) → view_of_stream far value number ≡ view_of_stream split value number
  pub fits : (value : List (List Tree)) → fits_split far value ≡ fits_split split value
