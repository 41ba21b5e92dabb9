-- The signals of a physical stream, which of them a stream has, and how wide they are (Tydi specification, signals; presence
-- and defaults are this project's own).
use Rattle.std.specs.Prelude.{◌≡◌, ◌↔◌, ℕ, ◌-◌, ◌*◌, ◌^◌, Bool, true, false, if◌then◌else◌, Option, Some, None}
use Rattle.tydi_base.specs.Width.{index_width}
use Rattle.physical_stream.specs.Params.{Parameters}
use Rattle.physical_stream.specs.Signals.{has_content, has_last, has_stai, has_endi, has_strb, has_user, StandsAtDefaults}
use Rattle.physical_stream.specs.declared.transfer.Transfer.{Transfer}
use Rattle.signal_layout.specs.declared.signal.Signal.{Signal}
use Rattle.signal_layout.specs.declared.signal.Signal.TheVariants as signals
use Rattle.signal_layout.specs.declared.signal.SignalDefault.{SignalDefault}
use Rattle.signal_layout.specs.declared.signal.SignalDefault.TheVariants.{Zero, LastLane, Ones}
use Rattle.signal_layout.specs.declared.layout.Signals.{Signals}

-- a stream always has valid and ready; which others it has depends on its parameters
abbrev pub is_present : Parameters → Signal → Bool
is_present p signals.Valid = true
is_present p signals.Ready = true
is_present p signals.Content = has_content p
is_present p signals.Last = has_last p
is_present p signals.Stai = has_stai p
is_present p signals.Endi = has_endi p
is_present p signals.Strb = has_strb p
is_present p signals.User = has_user p

-- the bits that the signal has where it is present: an element for each lane, a last bit for each dimension of each lane, the
-- bits that number the lanes, a strobe bit for each lane, the bits of a user word
abbrev pub bits_of_signal : Parameters → Signal → ℕ
bits_of_signal p signals.Valid = 1
bits_of_signal p signals.Ready = 1
bits_of_signal p signals.Content = p.lanes * p.element
bits_of_signal p signals.Last = p.lanes * p.dims
bits_of_signal p signals.Stai = index_width p.lanes
bits_of_signal p signals.Endi = index_width p.lanes
bits_of_signal p signals.Strb = p.lanes
bits_of_signal p signals.User = p.user

-- so many bits where the signal is present, and none where it is absent
abbrev pub where_present : Bool → ℕ → Option ℕ
where_present present bits = if present then Some bits else None

-- the width of a signal of a stream, or none where the stream lacks it
abbrev pub width_of : Parameters → Signal → Option ℕ
width_of p s = where_present (is_present p s) (bits_of_signal p s)

-- the width that a layout gives a signal
abbrev pub width_in : Signals → Signal → Option ℕ
width_in layout signals.Valid = layout.valid
width_in layout signals.Ready = layout.ready
width_in layout signals.Content = layout.content
width_in layout signals.Last = layout.last
width_in layout signals.Stai = layout.stai
width_in layout signals.Endi = layout.endi
width_in layout signals.Strb = layout.strb
width_in layout signals.User = layout.user

-- the value of a signal that the stream lacks: endi is the last lane, strb is all ones, any other is zero
abbrev pub default_of : Signal → SignalDefault
default_of signals.Valid = Zero
default_of signals.Ready = Zero
default_of signals.Content = Zero
default_of signals.Last = Zero
default_of signals.Stai = Zero
default_of signals.Endi = LastLane
default_of signals.Strb = Ones
default_of signals.User = Zero

-- the number that a default is in a stream: the last lane's, or a one for each lane
abbrev pub default_number : Parameters → SignalDefault → ℕ
default_number p Zero = 0
default_number p LastLane = p.lanes - 1
default_number p Ones = 2 ^ p.lanes - 1

-- where the stream lacks the signal, this number of a transfer is its default
abbrev pub IsDefaultAt : Parameters → Signal → ℕ → Type 0
IsDefaultAt p s number = is_present p s ≡ false → number ≡ default_number p (default_of s)

-- the signals of a transfer that are numbers stand at their defaults exactly where each of them does
abbrev pub DefaultsStand : Type 0
DefaultsStand = (p : Parameters) (t : Transfer) → StandsAtDefaults p t ↔ (IsDefaultAt p signals.Stai t.stai × (IsDefaultAt p signals.Endi t.endi × IsDefaultAt p signals.Strb t.strb))
