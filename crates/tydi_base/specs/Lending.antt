-- The value of a list after a part of it was lent for writing. This project's own.
use Rattle.std.specs.Prelude.{ℕ, List, Option, slice_set}
use Rattle.std.specs.Borrow.{Fml, LendsIf, MutBor, RattleType}
use Rattle.tydi_base.specs.contracts.list.List.{the_row}

-- a list ends with the element at this place as it was last written, and stays as it is where there is none
abbrev pub LendsElement : (T : RattleType) → MutBor (List T.Denot) → ℕ → Option (MutBor T.Denot) → Fml
LendsElement T list index element = LendsIf (the_row T) T list element (slice_set list.now index) list.now
