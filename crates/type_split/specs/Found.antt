-- The node of a Stream at its place. It serves the search for nodes, and no public clause. This project's own.
use Rattle.std.specs.Prelude.{◌≡◌, ℕ, ◌*◌, ◌≤◌}
use Rattle.logical_types.specs.Faults.{inside}
use Rattle.logical_types.specs.Tree.{Ltype, plain, settings_of}
use Rattle.logical_types.specs.Width.{width_of}
use Rattle.logical_types.specs.declared.streams.Around.{Around}
use Rattle.logical_types.specs.declared.ltype.StreamType.{StreamType}
use Rattle.type_split.specs.Nodes.{params_at, place_inside}
use Rattle.type_split.specs.declared.found.Found.{Found}
use Rattle.type_split.specs.declared.place.Place.{Place}

-- it is that of a Stream of this number at a place
pub record IsFound (stream : StreamType) (place : Place) (number : ℕ) (found : Found) : Type 0 where
  pub number_is : found.number ≡ number
  pub own_dims : found.own_dims ≡ stream.dims
  pub params : found.params ≡ params_at (inside place.around (settings_of stream)) (plain stream.element) (plain stream.user) (settings_of stream)
  pub inside_is : found.inside ≡ place_inside place number (settings_of stream)

-- the surroundings of the types of a Stream, and these types, are within the ranges of the parameters of streams
pub record IsInRange (inner : Around) (element user : Ltype) : Type 0 where
  pub some_lane : 1 ≤ inner.product.num
  pub lanes_most : inner.product.num ≤ 128 * inner.product.den
  pub dims_most : inner.dims ≤ 32
  pub element_most : width_of element ≤ 4096
  pub user_most : width_of user ≤ 4096
