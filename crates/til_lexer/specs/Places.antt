-- Where bytes of a text stand.
pub use Rattle.tydi_base.specs.Places.{start, along, place_after, place_past, IsPlaceIn}
