-- The signals that a dump is to have in a scope: those of the streams with these heads, and the clock (this project's own).
use Rattle.std.specs.Prelude.{ℕ, suc, if◌then◌else◌, List, [], ◌∷◌, ◌++◌, Option, Some, None}
use Rattle.std.specs.List.{flat_map}
use Rattle.physical_stream.specs.declared.head.Head.{Head}
use Rattle.signal_layout.specs.Layout.{is_present, width_of}
use Rattle.signal_layout.specs.declared.signal.Signal.{Signal}
use Rattle.vhdl_text.specs.Lines.{all_signals}
use Rattle.vhdl_text.specs.Text.{plain_name}
use Rattle.vcd_read.specs.History.{Part, declared_width, signal_in}
use Rattle.vcd_read.specs.Profile.{may_have_width}
use Rattle.vcd_read.specs.declared.fault.VcdFault.{VcdFault}
use Rattle.vcd_read.specs.declared.fault.VcdFault.TheVariants as faults

-- the scope in which the signals are looked for, and the heads of the streams whose signals they are
pub record Wanted : Type 0 where
  pub scope : List (List ℕ)
  pub heads : List Head

-- the code of each signal of each stream, where there is one
abbrev pub Codes : Type 0
Codes = Head → Signal → Option (List ℕ)

-- a signal has the name of its port in a testbench (the stream's path, a point and the signal); a signal that the stream lacks has no code
abbrev pub codes_in : List (List ℕ) → List Part → Codes
codes_in scope parts head signal = if is_present head.params signal then signal_in scope (plain_name head signal) parts else None

-- the width with which each code is declared
abbrev pub Widths : Type 0
Widths = List ℕ → Option ℕ

abbrev pub widths_in : List Part → Widths
widths_in parts code = declared_width code parts

-- ---- what is wrong with them

-- a signal that is to have this width, by its code: it is missing, or has another width
unfoldable pub code_faults : Widths → (stream : ℕ) → Signal → (width : ℕ) → Option (List ℕ) → List VcdFault
code_faults widths stream signal width None = faults.NoSignal stream signal ∷ []
code_faults widths stream signal width (Some code) = if may_have_width (widths code) width then [] else faults.OtherWidth stream signal ∷ []

-- the same of a signal that the stream may lack
unfoldable pub width_faults : Widths → (stream : ℕ) → Signal → Option ℕ → Option (List ℕ) → List VcdFault
width_faults widths stream signal None code = []
width_faults widths stream signal (Some width) code = code_faults widths stream signal width code

-- what is wrong with a signal of the stream of this number
abbrev pub signal_faults : Codes → Widths → (stream : ℕ) → Head → Signal → List VcdFault
signal_faults codes widths stream head signal = width_faults widths stream signal (width_of head.params signal) (codes head signal)

-- what is wrong with the signals of a stream
abbrev pub stream_faults : Codes → Widths → (stream : ℕ) → Head → List VcdFault
stream_faults codes widths stream head = flat_map (signal_faults codes widths stream head) all_signals

-- what is wrong with the signals of these streams, the first of which has this number
abbrev pub faults_from : Codes → Widths → (stream : ℕ) → List Head → List VcdFault
faults_from codes widths stream [] = []
faults_from codes widths stream (head ∷ heads) = stream_faults codes widths stream head ++ faults_from codes widths (suc stream) heads

-- what is wrong with the clock
unfoldable pub clock_faults : Option (List ℕ) → List VcdFault
clock_faults (Some code) = []
clock_faults None = faults.NoClock ∷ []

unfoldable pub first_fault : List VcdFault → Option VcdFault
first_fault [] = None
first_fault (fault ∷ others) = Some fault

-- the first thing that is wrong: with the clock, or with a signal
abbrev pub wiring_fault : Codes → Widths → Option (List ℕ) → List Head → Option VcdFault
wiring_fault codes widths clock heads = first_fault (clock_faults clock ++ faults_from codes widths 0 heads)
