-- Which items are the flat form of a series, and where others break it (this project's own).
use Rattle.std.specs.Prelude.{◌≡◌, ℕ, ◌<◌, true, false, List, take, slice_get, Some}
use Rattle.physical_stream.specs.Ending.{ending_after}
use Rattle.physical_stream.specs.Shape.{tail_of, is_whole, may_close, IsNested}
use Rattle.physical_stream.specs.declared.end.End.TheVariants as ends
use Rattle.physical_stream.specs.declared.item.Item.{Item}
use Rattle.physical_stream.specs.declared.item.Item.TheVariants as items
use Rattle.nest_shape.specs.Flat.{IsSeries, flat_form}
use Rattle.nest_shape.specs.declared.fault.NestFault.{NestFault}
use Rattle.nest_shape.specs.declared.fault.NestFault.TheVariants as faults
use Rattle.nest_shape.specs.declared.nest.Nest.{Nest}

-- the item closes a sequence of one of so many dimensions, or none
abbrev pub ClosesBelow : ℕ → Item → Type 0
ClosesBelow dims (items.Elem word) = Unit {0}
ClosesBelow dims (items.Close dim) = dim < dims

-- the items are nested and leave nothing open
pub record AreWhole (dims : ℕ) (done : List Item) : Type 0 where
  pub nested : IsNested done
  pub whole : is_whole dims (tail_of done) ≡ true

-- the item of this number is the first that breaks the nesting: a Close that may not stand there, after items that are nested
pub record BreaksNesting (done : List Item) (number : ℕ) : Type 0 where
  pub dim : ℕ
  pub stands : slice_get done number ≡ Some (items.Close dim)
  pub misplaced : may_close (tail_of (take number done)) dim ≡ false
  pub nested : IsNested (take number done)

-- the items are nested and leave sequences of this level open
pub record LeavesOpen (dims : ℕ) (done : List Item) (level : ℕ) : Type 0 where
  pub nested : IsNested done
  pub open_at : ending_after dims (tail_of done) ≡ ends.Unclosed level

-- the fault is that of the items; want of memory says nothing
abbrev pub IsFaultOf : ℕ → List Item → NestFault → Type 0
IsFaultOf dims done (faults.BadClose number) = BreaksNesting done number
IsFaultOf dims done (faults.Unclosed level) = LeavesOpen dims done level
IsFaultOf dims done faults.Memory = Unit {0}

-- the series has this flat form
pub record IsSeriesOf (dims : ℕ) (done : List Item) (series : List Nest) : Type 0 where
  pub depth : IsSeries dims series
  pub spelled : flat_form dims series ≡ done
