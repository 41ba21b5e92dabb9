-- The places of processes and the kept signals as a bench between two edges (this project's own).
use Rattle.std.specs.Prelude.{◌≡◌, List}
use Rattle.physical_stream.specs.declared.head.Head.{Head}
use Rattle.vhdl_text.specs.declared.bench.Stmt.{Stmt}
use Rattle.vhdl_meaning.specs.declared.lines.Lines.{Lines}
use Rattle.vhdl_meaning.specs.declared.process.Process.{Process}
use Rattle.vhdl_meaning.specs.Meaning.{Standing}
use Rattle.vhdl_meaning.specs.Held.{LinesHave}
use Rattle.vhdl_meaning.specs.Turns.{lefts}

-- the processes stand at these statements, and the signals have these values
pub record StandsAt (heads : List Head) (programs : List (List Stmt)) (places : List Process) (lines : List Lines) (now : Standing) : Type 0 where
  pub procs : lefts programs places ≡ now.procs
  pub values : LinesHave heads lines now.values
