-- Which benches are well formed (this project's own; a signal that has one driver is after IEEE 1076).
use Rattle.std.specs.Prelude.{◌≡◌, ℕ, ◌≤◌, ◌<◌, ◌*◌, ◌==◌, ◌&&◌, ◌||◌, Bool, true, false, List, [], ◌∷◌, length, get_or, slice_get, Some}
use Rattle.std.specs.List.{All}
use Rattle.tydi_base.specs.Path.{path_text}
use Rattle.physical_stream.specs.StreamLine.{IsHead}
use Rattle.physical_stream.specs.declared.head.Head.{Head}
use Rattle.signal_layout.specs.Layout.{is_present, bits_of_signal}
use Rattle.signal_layout.specs.declared.signal.Signal.{Signal}
use Rattle.signal_layout.specs.declared.signal.Signal.TheVariants as signals
use Rattle.vhdl_text.specs.declared.bench.Stmt.{Stmt}
use Rattle.vhdl_text.specs.declared.bench.Stmt.TheVariants as stmts
use Rattle.vhdl_text.specs.declared.bench.Bench.{Bench}

-- ---- signals

-- the place of a signal among the signals of a stream
abbrev pub signal_number : Signal → ℕ
signal_number signals.Valid = 0
signal_number signals.Ready = 1
signal_number signals.Content = 2
signal_number signals.Last = 3
signal_number signals.Stai = 4
signal_number signals.Endi = 5
signal_number signals.Strb = 6
signal_number signals.User = 7

-- two signals are the same
abbrev pub is_signal : Signal → Signal → Bool
is_signal one other = signal_number one == signal_number other

-- an assignment: a signal of a stream, and the word for it, lowest bit first
pub record Assigned : Type 0 where
  pub stream : ℕ
  pub signal : Signal
  pub bits : List Bool

-- the statement assigns to this signal of this stream
abbrev pub puts : ℕ → Signal → Stmt → Bool
puts stream signal (stmts.Put to which bits) = to == stream && is_signal which signal
puts stream signal (stmts.Pause edges) = false
puts stream signal (stmts.Await from) = false
puts stream signal stmts.Stop = false

-- a process with these statements is a driver of the signal: one of them assigns to it
abbrev pub drives : ℕ → Signal → List Stmt → Bool
drives stream signal [] = false
drives stream signal (stmt ∷ more) = puts stream signal stmt || drives stream signal more

-- no signal has drivers in two processes
abbrev pub AreDrivenOnce : List (List Stmt) → Type 0
AreDrivenOnce procs = (stream : ℕ) (signal : Signal) (a b : ℕ) → drives stream signal (get_or procs a []) ≡ true → drives stream signal (get_or procs b []) ≡ true → a ≡ b

-- ---- statements

-- the word can be assigned to the signal of the stream: the source of the stream drives it, the stream has it, and it is as wide
pub record IsPut (heads : List Head) (stream : ℕ) (signal : Signal) (bits : List Bool) : Type 0 where
  pub head : Head
  pub stands : slice_get heads stream ≡ Some head
  pub driven : is_signal signal signals.Ready ≡ false
  pub present : is_present head.params signal ≡ true
  pub width : length bits ≡ bits_of_signal head.params signal

-- a statement that a process may have beside these streams
abbrev pub IsStmt : List Head → Stmt → Type 0
IsStmt heads (stmts.Put stream signal bits) = IsPut heads stream signal bits
IsStmt heads (stmts.Pause edges) = (1 ≤ edges) × (edges ≤ 1000000)
IsStmt heads (stmts.Await stream) = stream < length heads
IsStmt heads stmts.Stop = Unit {0}

-- the last statement waits for ever, and no other one does
abbrev pub EndsInStop : List Stmt → Type 0
EndsInStop [] = ⊥
EndsInStop (stmts.Stop ∷ more) = more ≡ []
EndsInStop (stmts.Put stream signal bits ∷ more) = EndsInStop more
EndsInStop (stmts.Pause edges ∷ more) = EndsInStop more
EndsInStop (stmts.Await stream ∷ more) = EndsInStop more

-- ---- benches

-- no two streams have one path
abbrev pub AreApart : List Head → Type 0
AreApart heads = (a b : ℕ) (one other : Head) → slice_get heads a ≡ Some one → slice_get heads b ≡ Some other → path_text one.path ≡ path_text other.path → a ≡ b

-- the heads of streams that may stand together
pub record AreHeads (heads : List Head) : Type 0 where
  pub few : length heads ≤ 65536
  pub each : All IsHead heads
  pub apart : AreApart heads

-- a bench that has a text
pub record IsWellFormed (bench : Bench) : Type 0 where
  pub heads : AreHeads bench.heads
  pub count : length bench.procs ≤ 2 * length bench.heads
  pub stmts : All (All (IsStmt bench.heads)) bench.procs
  pub ends : All EndsInStop bench.procs
  pub once : AreDrivenOnce bench.procs
