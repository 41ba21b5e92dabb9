-- Where a process stands, by a place and the edges that are left of a pause (this project's own).
use Rattle.std.specs.Prelude.{◌≡◌, ℕ, ◌≤◌, Bool, List, [], ◌∷◌, length, drop, Option, Some, None}
use Rattle.vhdl_text.specs.declared.bench.Stmt.{Stmt}
use Rattle.vhdl_text.specs.declared.bench.Stmt.TheVariants as stmts
use Rattle.vhdl_meaning.specs.declared.process.Process.{Process}
use Rattle.vhdl_meaning.specs.Meaning.{assigned_by, waits_at, resumed}

-- these statements, with so many edges left of a pause at their head
abbrev pub with_edges : ℕ → List Stmt → List Stmt
with_edges edges [] = []
with_edges edges (stmts.Pause all ∷ more) = stmts.Pause edges ∷ more
with_edges edges (stmts.Put stream signal bits ∷ more) = stmts.Put stream signal bits ∷ more
with_edges edges (stmts.Await stream ∷ more) = stmts.Await stream ∷ more
with_edges edges (stmts.Stop ∷ more) = stmts.Stop ∷ more

-- the statements that are left from this place on
abbrev pub left_at : List Stmt → ℕ → ℕ → List Stmt
left_at program place edges = with_edges edges (drop place program)

-- the statements that are left of a process
abbrev pub left_of : List Stmt → Process → List Stmt
left_of program process = left_at program process.place process.edges

-- the process stays at a wait
pub record Stays (program : List Stmt) (ready : List Bool) (old new : Process) : Type 0 where
  pub left : left_of program new ≡ resumed ready (left_of program old)
  pub waits : waits_at (resumed ready (left_of program old)) ≡ resumed ready (left_of program old)
  pub silent : assigned_by (resumed ready (left_of program old)) ≡ []
  pub within : new.place ≤ length program

-- the process goes on from this place
pub record GoesOn (program : List Stmt) (ready : List Bool) (old : Process) (from : ℕ) : Type 0 where
  pub left : drop from program ≡ resumed ready (left_of program old)
  pub within : from ≤ length program

-- the process after an edge, before it runs: it stays, or it goes on from a place
abbrev pub Resumes : List Stmt → List Bool → Process → Process → Option ℕ → Type 0
Resumes program ready old new None = Stays program ready old new
Resumes program ready old new (Some from) = GoesOn program ready old from
