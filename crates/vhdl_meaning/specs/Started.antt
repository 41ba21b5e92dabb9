-- Processes that have run to their first waits (this project's own).
use Rattle.std.specs.Prelude.{◌≡◌, List, map}
use Rattle.std.specs.List.{flat_map}
use Rattle.physical_stream.specs.declared.head.Head.{Head}
use Rattle.vhdl_text.specs.declared.bench.Stmt.{Stmt}
use Rattle.vhdl_meaning.specs.declared.lines.Lines.{Lines}
use Rattle.vhdl_meaning.specs.declared.process.Process.{Process}
use Rattle.vhdl_meaning.specs.Meaning.{Values, assigned_by, waits_at, current}
use Rattle.vhdl_meaning.specs.Held.{LinesFit, LinesHave}
use Rattle.vhdl_meaning.specs.Turns.{ArePlaces, lefts}

-- the processes of these statements have run to their first waits
pub record AreBegun (heads : List Head) (programs : List (List Stmt)) (before : List Lines) (places : List Process) (after : List Lines) : Type 0 where
  pub within : ArePlaces programs places
  pub left : lefts programs places ≡ map waits_at programs
  pub fit : LinesFit heads after
  pub values : (now : Values) → LinesHave heads before now → LinesHave heads after (current (flat_map assigned_by programs) now)
