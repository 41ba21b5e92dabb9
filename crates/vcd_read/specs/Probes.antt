-- Where the signals of a stream are found, by the numbers of their codes (this project's own).
use Rattle.std.specs.Prelude.{◌≡◌, ◌≤◌, ℕ, Bool, true, false, ◌&&◌, List, length, is_some, slice_get, Option, Some, None, IfSome}
use Rattle.cycle_trace.specs.Spelling.{row_text}
use Rattle.signal_layout.specs.Layout.{bits_of_signal, is_present}
use Rattle.signal_layout.specs.declared.signal.Signal.{Signal}
use Rattle.signal_layout.specs.declared.signal.Signal.TheVariants as signals
use Rattle.tydi_base.specs.Bits.{number_of_bits}
use Rattle.vcd_read.specs.History.{is_bit}
use Rattle.vcd_read.specs.Sampled.{Sample, row_of}
use Rattle.vcd_read.specs.Wires.{before_of, current_of}
use Rattle.vcd_read.specs.declared.probe.Probe.{Probe}
use Rattle.vcd_read.specs.declared.wires.Wires.{Wires}

-- ---- words by the numbers of codes

-- the word of the code of each number: none where a state is no bit, or there is no such code
abbrev pub Words : Type 0
Words = ℕ → Option (List Bool)

abbrev pub words_before : Wires → Words
words_before wires number = before_of (slice_get wires.wires number) wires.block

abbrev pub words_now : Wires → Words
words_now wires number = current_of (slice_get wires.wires number)

-- the word of a number, where there is one
unfoldable pub word_by : Words → Option ℕ → Option (List Bool)
word_by words None = None
word_by words (Some number) = words number

-- the word of this number is of bits, or there is no number
abbrev pub is_told_by : Words → Option ℕ → Bool
is_told_by words None = true
is_told_by words (Some number) = is_some (words number)

-- the number that a word spells; this one where there is no word
unfoldable pub number_by : Option (List Bool) → ℕ → ℕ
number_by None default = default
number_by (Some bits) default = number_of_bits bits

-- a word of at most so many bits
abbrev pub IsShort : ℕ → Option (List Bool) → Type 0
IsShort most None = Unit {0}
IsShort most (Some bits) = length bits ≤ most

-- the clock of this number is 0 before and 1 now
abbrev pub rises_by : (before now : Words) → ℕ → Bool
rises_by before now clock = is_bit false (before clock) && is_bit true (now clock)

-- ---- the signals of a stream

unfoldable pub number_in : Probe → Signal → Option ℕ
number_in probe signals.Valid = probe.valid
number_in probe signals.Ready = probe.ready
number_in probe signals.Content = probe.content
number_in probe signals.Last = probe.last
number_in probe signals.Stai = probe.stai
number_in probe signals.Endi = probe.endi
number_in probe signals.Strb = probe.strb
number_in probe signals.User = probe.user

abbrev pub sample_by : Words → Probe → Sample
sample_by words probe signal = word_by words (number_in probe signal)

-- a signal has a number exactly where the stream has it
abbrev pub IsProbed : Probe → Type 0
IsProbed probe = (signal : Signal) → is_some (number_in probe signal) ≡ is_present probe.params signal

-- each word has the width of its signal
abbrev pub FitsProbe : Words → Probe → Type 0
FitsProbe words probe = (signal : Signal) → IfSome (sample_by words probe signal) (λ bits. length bits ≡ bits_of_signal probe.params signal)

-- a stream can be sampled
pub record CanSample (words : Words) (probe : Probe) : Type 0 where
  pub probed : IsProbed probe
  pub fits : FitsProbe words probe

-- the text of its row
abbrev pub text_by : Words → Probe → List ℕ
text_by words probe = row_text probe.params (row_of probe.params (sample_by words probe))
