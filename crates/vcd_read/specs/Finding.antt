-- The search for the clock and the signals of the streams (this project's own).
use Rattle.std.specs.Prelude.{◌≡◌, ℕ, true, false, List, [], ◌∷◌, Option, Some, None, Result, Ok, Err}
use Rattle.std.specs.Option.{MatchOption}
use Rattle.physical_stream.specs.declared.head.Head.{Head}
use Rattle.signal_layout.specs.Layout.{bits_of_signal, is_present}
use Rattle.signal_layout.specs.declared.signal.Signal.{Signal}
use Rattle.vcd_read.specs.History.{Part, clock_in}
use Rattle.vcd_read.specs.Probes.{number_in}
use Rattle.vcd_read.specs.Shown.{fault_in}
use Rattle.vcd_read.specs.Variables as variables
use Rattle.vcd_read.specs.Variables.{HasNumber}
use Rattle.vcd_read.specs.Wanted.{Codes, Widths, codes_in, faults_from, first_fault, signal_faults, stream_faults, widths_in, wiring_fault}
use Rattle.vcd_read.specs.Wires as wires
use Rattle.vcd_read.specs.declared.fault.VcdFault.{VcdFault}
use Rattle.vcd_read.specs.declared.finder.Finder.{Finder}
use Rattle.vcd_read.specs.declared.probe.Probe.{Probe}
use Rattle.vcd_read.specs.declared.sampler.Harness.{Harness}

-- the signals and codes are those of these parts
pub record StandsFor (scope : List (List ℕ)) (parts : List Part) (finder : Finder) : Type 0 where
  pub wires_are : wires.StandFor finder.wires.now parts
  pub variables_are : variables.StandFor finder.wires.now.codes scope finder.variables.now parts

-- the codes, each by its number
abbrev pub kept_by : Finder → List (List ℕ)
kept_by finder = finder.wires.now.codes

-- ---- what is found

-- the code that is found has this number and this width
pub record HasCode (kept : List (List ℕ)) (widths : Widths) (found : Option (List ℕ)) (width number : ℕ) : Type 0 where
  pub code : List ℕ
  pub found_is : found ≡ Some code
  pub number_is : HasNumber kept found number
  pub wide : widths code ≡ Some width

-- the number is that of the code of a signal; there is none where the stream lacks it
abbrev pub IsContact : List (List ℕ) → Widths → Codes → Head → Signal → Option ℕ → Type 0
IsContact kept widths codes head signal None = is_present head.params signal ≡ false
IsContact kept widths codes head signal (Some number) =
    (is_present head.params signal ≡ true) × HasCode kept widths (codes head signal) (bits_of_signal head.params signal) number

-- the numbers are those of the codes of a stream's signals
pub record IsProbe (kept : List (List ℕ)) (widths : Widths) (codes : Codes) (head : Head) (probe : Probe) : Type 0 where
  pub params : probe.params ≡ head.params
  pub contacts : (signal : Signal) → IsContact kept widths codes head signal (number_in probe signal)

-- the same of each stream
abbrev pub AreProbes : List (List ℕ) → Widths → Codes → List Head → List Probe → Type 0
AreProbes kept widths codes [] [] = Unit {0}
AreProbes kept widths codes [] (probe ∷ probes) = ⊥
AreProbes kept widths codes (head ∷ heads) [] = ⊥
AreProbes kept widths codes (head ∷ heads) (probe ∷ probes) = IsProbe kept widths codes head probe × AreProbes kept widths codes heads probes

-- ---- the answers of a search

abbrev pub IsFirst : List VcdFault → VcdFault → Type 0
IsFirst wrong fault = MatchOption (fault_in fault) (Unit {0}) (λ f. first_fault wrong ≡ Some f)

-- of a signal
abbrev pub Finds : List (List ℕ) → List Part → Finder → ℕ → Head → Signal → Result (Option ℕ) VcdFault → Type 0
Finds scope parts finder stream head signal (Ok number) =
    (signal_faults (codes_in scope parts) (widths_in parts) stream head signal ≡ []) × IsContact (kept_by finder) (widths_in parts)
    (codes_in scope parts) head signal number
Finds scope parts finder stream head signal (Err fault) = IsFirst (signal_faults (codes_in scope parts) (widths_in parts) stream head signal) fault

-- of a stream
abbrev pub FindsProbe : List (List ℕ) → List Part → Finder → ℕ → Head → Result Probe VcdFault → Type 0
FindsProbe scope parts finder stream head (Ok probe) =
    (stream_faults (codes_in scope parts) (widths_in parts) stream head ≡ []) × IsProbe (kept_by finder) (widths_in parts) (codes_in scope parts) head probe
FindsProbe scope parts finder stream head (Err fault) = IsFirst (stream_faults (codes_in scope parts) (widths_in parts) stream head) fault

-- of all streams, the first of which has this number
abbrev pub FindsProbes : List (List ℕ) → List Part → Finder → ℕ → List Head → Result (List Probe) VcdFault → Type 0
FindsProbes scope parts finder stream heads (Ok probes) =
    (faults_from (codes_in scope parts) (widths_in parts) stream heads ≡ []) × AreProbes (kept_by finder) (widths_in parts)
    (codes_in scope parts) heads probes
FindsProbes scope parts finder stream heads (Err fault) = IsFirst (faults_from (codes_in scope parts) (widths_in parts) stream heads) fault

-- the clock and all signals are found
pub record IsHarness (kept : List (List ℕ)) (widths : Widths) (codes : Codes) (clock : Option (List ℕ)) (heads : List Head) (harness : Harness) : Type 0 where
  pub right : wiring_fault codes widths clock heads ≡ None
  pub clock_is : HasNumber kept clock harness.clock
  pub probes_are : AreProbes kept widths codes heads harness.probes

-- of the clock and all streams
abbrev pub FindsWiring : List (List ℕ) → List Part → Finder → List Head → Result Harness VcdFault → Type 0
FindsWiring scope parts finder heads (Ok harness) = IsHarness (kept_by finder) (widths_in parts) (codes_in scope parts) (clock_in scope parts) heads harness
FindsWiring scope parts finder heads (Err fault) =
    MatchOption (fault_in fault) (Unit {0}) (λ f. wiring_fault (codes_in scope parts) (widths_in parts) (clock_in scope parts) heads ≡ Some f)
