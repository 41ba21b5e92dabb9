-- The facts of a bench that a simulation keeps, for each statement (this project's own).
use Rattle.std.specs.Prelude.{◌≡◌, ℕ, ◌<◌, ◌≤◌, Bool, List, [], length, get_or, slice_get, false, true, Some}
use Rattle.physical_stream.specs.declared.head.Head.{Head}
use Rattle.signal_layout.specs.Layout.{is_present, bits_of_signal}
use Rattle.signal_layout.specs.declared.signal.Signal.{Signal}
use Rattle.signal_layout.specs.declared.signal.Signal.TheVariants as signals
use Rattle.vhdl_text.specs.WellFormed.{is_signal}
use Rattle.vhdl_text.specs.declared.bench.Stmt.{Stmt}
use Rattle.vhdl_text.specs.declared.bench.Stmt.TheVariants as stmts

-- a stream with this head can take the word
pub record CanTake (head : Head) (signal : Signal) (bits : List Bool) : Type 0 where
  pub driven : is_signal signal signals.Ready ≡ false
  pub present : is_present head.params signal ≡ true
  pub width : length bits ≡ bits_of_signal head.params signal

-- each assignment of each process is one that its stream can take
pub record ArePutsSound (heads : List Head) (procs : List (List Stmt)) : Type 0 where
  pub narrow : (stream : ℕ) (head : Head) → slice_get heads stream ≡ Some head → head.params.lanes ≤ 128
  pub within : (number index stream : ℕ) (signal : Signal) (bits : List Bool) → slice_get (get_or procs number []) index ≡ Some (stmts.Put stream signal bits) → stream < length heads
  pub takes : (number index stream : ℕ) (signal : Signal) (bits : List Bool) (head : Head) → slice_get (get_or procs number []) index ≡ Some (stmts.Put stream signal bits) →
      slice_get heads stream ≡ Some head → CanTake head signal bits
