-- Which process drives each signal first (a driver: IEEE 1076; the table is this project's own).
use Rattle.std.specs.Prelude.{◌≡◌, ℕ, false, ◌+◌, ◌*◌, ◌≤◌, ◌<◌, true, ◌&&◌, nat_lt, nat_le, List, length, get_or, Option, Some, None}
use Rattle.std.specs.List.{list_any}
use Rattle.physical_stream.specs.declared.head.Head.{Head}
use Rattle.signal_layout.specs.declared.signal.Signal.{Signal}
use Rattle.vhdl_text.specs.declared.bench.Stmt.{Stmt}
use Rattle.vhdl_text.specs.declared.bench.Stmt.TheVariants as stmts
use Rattle.vhdl_text.specs.declared.place.Place.{Place}
use Rattle.vhdl_text.specs.WellFormed.{drives, puts, signal_number}

-- one more than the number of the process that drives a signal first: 0 where none does
abbrev pub driver_in : List ℕ → ℕ → Signal → ℕ
driver_in table stream signal = get_or table (8 * stream + signal_number signal) 0

-- the entry of a signal in the table: whether one of the whole processes drives it, and whether the one that is begun, of these statements, does
pub record SaysOf (procs : List (List Stmt)) (done : List Stmt) (stream : ℕ) (signal : Signal) (driver : ℕ) : Type 0 where
  pub earlier : list_any (drives stream signal) procs ≡ (nat_lt 0 driver && nat_le driver (length procs))
  pub most : driver ≤ length procs + 1
  pub now : drives stream signal done ≡ true → 1 ≤ driver
  pub last : driver ≡ length procs + 1 → drives stream signal done ≡ true

-- the table has each signal of these streams
pub record AreDrivers (heads : List Head) (table : List ℕ) (procs : List (List Stmt)) (done : List Stmt) : Type 0 where
  pub size : length table ≡ 8 * length heads
  pub says : (stream : ℕ) (signal : Signal) → stream < length heads → SaysOf procs done stream signal (driver_in table stream signal)

-- each signal to which the statement assigns is one of these streams, and no whole process drives it
abbrev pub MayDrive : List Head → List (List Stmt) → Stmt → Type 0
MayDrive heads procs stmt = (stream : ℕ) (signal : Signal) → puts stream signal stmt ≡ true → (stream < length heads) × (list_any (drives stream signal) procs ≡ false)

-- the signal to which a statement assigns
abbrev pub put_place : Stmt → Option Place
put_place (stmts.Put stream signal bits) = Some (record { stream = stream; signal = signal })
put_place (stmts.Pause edges) = None
put_place (stmts.Await stream) = None
put_place stmts.Stop = None
