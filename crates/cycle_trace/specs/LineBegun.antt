-- The line that is begun (this project's own).
use Rattle.std.specs.Prelude.{◌≡◌, ℕ, ◌≤◌, ◌<◌, List, length, Option, Some, None, Result, Ok, Err, vec_capacity}
use Rattle.std.specs.Borrow.{Bor}
use Rattle.cycle_trace.specs.RowForm.{IsForm}
use Rattle.cycle_trace.specs.declared.reader.line_begun.LineBegun.{LineBegun}
use Rattle.cycle_trace.specs.declared.row.form.RowForm.{RowForm}

-- a line is longer than any row, and has this form so far
pub record IsLong (form : RowForm) (room : ℕ) (line : List ℕ) : Type 0 where
  pub form_is : IsForm form line
  pub long : room < length line

-- the line is what is kept, or it is longer than any row
abbrev pub IsSoFar : Option RowForm → (room : ℕ) → (kept line : List ℕ) → Type 0
IsSoFar None room kept line = kept ≡ line
IsSoFar (Some form) room kept line = IsLong form room line

-- the line that is begun is this, and there is room for each row
pub record Begins (begun : LineBegun) (line : List ℕ) : Type 0 where
  pub fits : begun.room ≤ vec_capacity begun.kept
  pub so_far : IsSoFar begun.long begun.room begun.kept.items line

-- these are the bytes of the line, or it is longer than any row
abbrev pub IsLine : ℕ → Result (Bor (List ℕ)) RowForm → List ℕ → Type 0
IsLine room (Ok bytes) line = bytes.now ≡ line
IsLine room (Err form) line = IsLong form room line
