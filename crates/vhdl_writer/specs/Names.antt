-- The names of signals in an architecture: extended identifiers (IEEE 1076, extended identifiers), whose parts stand between points. This
-- project's own.
use Rattle.std.specs.Prelude.{ℕ, List, ◌∷◌, ◌++◌, Option, Some, None, codes}
use Rattle.std.specs.List.{flat_map}
use Rattle.signal_layout.specs.declared.signal.Signal.{Signal}
use Rattle.vhdl_text.specs.Text.{signal_word}

-- an extended identifier stands between backslashes
abbrev pub quoted : List ℕ → List ℕ
quoted name = codes "\\" ++ name ++ codes "\\"

-- the front of the names of a stream's signals: the port, and the path of the stream, unless it is empty
abbrev pub stem_of : List ℕ → List (List ℕ) → List ℕ
stem_of port path = port ++ flat_map (λ name. 46 ∷ name) path

-- the name of a signal of a physical stream
abbrev pub name_in : List ℕ → Signal → List ℕ
name_in stem signal = stem ++ codes "." ++ signal_word signal

-- the name of a signal of a port of an instance
abbrev pub name_under : List ℕ → List ℕ → List ℕ
name_under instance name = instance ++ codes "." ++ name

-- the same where there is an instance
abbrev pub name_at : Option (List ℕ) → List ℕ → List ℕ
name_at None name = name
name_at (Some instance) name = name_under instance name
