-- A loop over the statements of a process (this project's own).
use Rattle.std.specs.Prelude.{◌≡◌, ℕ, ◌≤◌, List, length, drop}
use Rattle.vhdl_text.specs.declared.bench.Stmt.{Stmt}
use Rattle.vhdl_meaning.specs.declared.lines.Lines.{Lines}
use Rattle.vhdl_meaning.specs.Meaning.{assigned_by, waits_at}
use Rattle.vhdl_meaning.specs.Lines.{CanPutAll, put_all}

-- the rest of the run from this place ends as the whole run does
pub record Runs (program : List Stmt) (from place : ℕ) (old now : List Lines) : Type 0 where
  pub within : place ≤ length program
  pub puts : CanPutAll (assigned_by (drop place program)) now
  pub left : waits_at (drop place program) ≡ waits_at (drop from program)
  pub lines : put_all (assigned_by (drop place program)) now ≡ put_all (assigned_by (drop from program)) old
