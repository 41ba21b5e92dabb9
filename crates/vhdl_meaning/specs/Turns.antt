-- The turns of the processes at an edge (this project's own).
use Rattle.std.specs.Prelude.{◌≡◌, ℕ, ◌<◌, ◌≤◌, ◌==◌, ◌||◌, Bool, true, false, List, [], ◌∷◌, length, map, get_or, slice_set}
use Rattle.std.specs.List.{flat_map}
use Rattle.physical_stream.specs.declared.head.Head.{Head}
use Rattle.vhdl_text.specs.declared.bench.Stmt.{Stmt}
use Rattle.vhdl_meaning.specs.declared.lines.Lines.{Lines}
use Rattle.vhdl_meaning.specs.declared.process.Process.{Process}
use Rattle.vhdl_meaning.specs.Meaning.{Values, assigned_by, waits_at, resumed, in_order, current}
use Rattle.vhdl_meaning.specs.Place.{left_of}
use Rattle.vhdl_meaning.specs.Lines.{CanPutAll, put_all}
use Rattle.vhdl_meaning.specs.Held.{LinesFit, LinesHave}

-- the statements that are left of each process
abbrev pub lefts : List (List Stmt) → List Process → List (List Stmt)
lefts [] places = []
lefts (program ∷ programs) [] = []
lefts (program ∷ programs) (place ∷ places) = left_of program place ∷ lefts programs places

-- a process at its first statement
abbrev pub at_start : Process
at_start = record { place = 0; edges = 0 }

-- there is a place for each process, and it is within its statements
pub record ArePlaces (programs : List (List Stmt)) (places : List Process) : Type 0 where
  pub count : length places ≡ length programs
  pub within : (number : ℕ) → number < length places → (get_or places number at_start).place ≤ length (get_or programs number [])

-- the number is one of these
abbrev pub among : ℕ → List ℕ → Bool
among number [] = false
among number (one ∷ more) = one == number || among number more

-- the turn of a process
pub record Turned (program : List Stmt) (ready : List Bool) (old new : Process) : Type 0 where
  pub left : left_of program new ≡ waits_at (resumed ready (left_of program old))
  pub within : new.place ≤ length program

-- the processes and the signals after the turns of these processes
pub record Turns (heads : List Head) (programs : List (List Stmt)) (ready : List Bool) (done : List ℕ) (old new : List Process) (before after : List Lines) : Type 0 where
  pub count : length new ≡ length old
  pub waiting : (number : ℕ) → among number done ≡ false → get_or new number at_start ≡ get_or old number at_start
  pub turned : (number : ℕ) → among number done ≡ true → number < length old → Turned (get_or programs number []) ready (get_or old number at_start) (get_or new number at_start)
  pub fit : LinesFit heads after
  pub values : (now : Values) → LinesHave heads before now → LinesHave heads after (current (flat_map assigned_by (in_order done (map (resumed ready) (lefts programs old)))) now)

-- the conditions of the turn of one process
pub record CanTurn (programs : List (List Stmt)) (places : List Process) (number : ℕ) (ready : List Bool) (lines : List Lines) : Type 0 where
  pub program : number < length programs
  pub place : number < length places
  pub within : (get_or places number at_start).place ≤ length (get_or programs number [])
  pub puts : CanPutAll (assigned_by (resumed ready (left_of (get_or programs number []) (get_or places number at_start)))) lines

-- the effect of the turn of one process
pub record HasTurned (programs : List (List Stmt)) (old new : List Process) (number : ℕ) (ready : List Bool) (before after : List Lines) : Type 0 where
  pub is : Process
  pub places : new ≡ slice_set old number is
  pub turned : Turned (get_or programs number []) ready (get_or old number at_start) is
  pub lines : after ≡ put_all (assigned_by (resumed ready (left_of (get_or programs number []) (get_or old number at_start)))) before
