-- Tables that say at which levels each rule binds: a row for each rule, and in it a cell for each level (this project's own).
use Rattle.std.specs.Prelude.{◌≡◌, ℕ, ◌-◌, ◌<◌, ◌↔◌, IsTrue, Bool, true, List, slice_get, Some}
use Rattle.tydi_base.specs.Level.{IsLevel, LevelNumbers, number_of}
use Rattle.physical_stream.specs.Rules.{Binds, number_of_rule}
use Rattle.physical_stream.specs.declared.rule.Rule.{Rule}

-- no true follows a false: a rule that binds at a level binds at every lower one
abbrev pub IsMonotoneRow : List Bool → Type 0
IsMonotoneRow row = (lower level : ℕ) → lower < level → slice_get row level ≡ Some true → slice_get row lower ≡ Some true

-- in no row does a true follow a false: a rule that binds at a level binds at every lower one
abbrev pub IsMonotone : List (List Bool) → Type 0
IsMonotone cells = (rule lower level : ℕ) (row : List Bool) → lower < level → slice_get cells rule ≡ Some row → slice_get row level ≡ Some true → slice_get row lower ≡ Some true

-- the table has a cell for the rule and the level, and it is true exactly where the rule binds there
pub record HasCell (cells : List (List Bool)) (rule : Rule) (level : LevelNumbers) : Type 0 where
  pub row : List Bool
  pub cell : Bool
  pub in_table : slice_get cells (number_of_rule rule - 1) ≡ Some row
  pub in_row : slice_get row (number_of level - 1) ≡ Some cell
  pub binds : IsTrue cell ↔ Binds rule level

-- the table has such a cell for each rule and each level
abbrev pub SaysWhatBinds : List (List Bool) → Type 0
SaysWhatBinds cells = (rule : Rule) (level : LevelNumbers) → IsLevel level → HasCell cells rule level
