-- Texts as they are written, part after part (this project's own).
use Rattle.std.specs.Prelude.{◌≡◌, ℕ, ◌∷◌, List}
use Rattle.std.specs.List.{flat_map}
use Rattle.signal_layout.specs.Layout.{width_in, width_of}
use Rattle.signal_layout.specs.declared.layout.Signals.{Signals}
use Rattle.signal_layout.specs.declared.signal.Signal.{Signal}
use Rattle.physical_stream.specs.Params.{Parameters}

-- words with a space before each of them
abbrev pub spaced : List (List ℕ) → List ℕ
spaced words = flat_map (λ word. 32 ∷ word) words

-- the widths of the signals of this stream
abbrev pub AreSignalsOf : Signals → Parameters → Type 0
AreSignalsOf signals p = (s : Signal) → width_in signals s ≡ width_of p s
