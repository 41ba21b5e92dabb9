-- The kept signals of all streams (this project's own).
use Rattle.std.specs.Prelude.{◌≡◌, ℕ, List, length, slice_get, Some}
use Rattle.physical_stream.specs.Signals.{Fits}
use Rattle.physical_stream.specs.declared.head.Head.{Head}
use Rattle.vhdl_meaning.specs.declared.lines.Lines.{Lines}
use Rattle.vhdl_meaning.specs.Meaning.{Values}
use Rattle.vhdl_meaning.specs.Lines.{Has}

-- there are signals for each stream, and they have its widths
pub record LinesFit (heads : List Head) (lines : List Lines) : Type 0 where
  pub long : length lines ≡ length heads
  pub fits : (stream : ℕ) (head : Head) (one : Lines) → slice_get heads stream ≡ Some head → slice_get lines stream ≡ Some one → Fits head.params one.held

-- the signals of each stream have these values
abbrev pub LinesHave : List Head → List Lines → Values → Type 0
LinesHave heads lines values = (stream : ℕ) (head : Head) (one : Lines) → slice_get heads stream ≡ Some head → slice_get lines stream ≡ Some one → Has head.params one (values stream)
