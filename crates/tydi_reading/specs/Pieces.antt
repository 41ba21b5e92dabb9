-- The pieces of a text that are left to read. This project's own.
use Rattle.std.specs.Prelude.{◌≡◌, ℕ, List, [], ◌∷◌, Option, Some, None}
use denote.Ref.{Bor}
use Rattle.tydi_base.specs.Pieces.{pieces_of}
use Rattle.tydi_reading.specs.declared.pieces.Pieces.TheInside.{Inside}

-- the pieces of what follows a piece: none where nothing does
abbrev pub pieces_after : ℕ → Option (Bor (List ℕ)) → List (List ℕ)
pieces_after separator None = []
pieces_after separator (Some text) = pieces_of separator text.now

-- a piece, where there is one, and those after it
abbrev pub with_first : Option (Bor (List ℕ)) → List (List ℕ) → List (List ℕ)
with_first None more = []
with_first (Some piece) more = piece.now ∷ more

-- the pieces that are not taken
abbrev pub pieces_left : {SEPARATOR : ℕ} → Inside SEPARATOR → List (List ℕ)
pieces_left {SEPARATOR} pieces = pieces_after SEPARATOR pieces.rest

-- the next piece and what follows it are those of the text that is left
pub record AreFound {SEPARATOR : ℕ} (pieces : Inside SEPARATOR) : Type 0 where
  pub same : pieces_after SEPARATOR pieces.rest ≡ with_first pieces.next (pieces_after SEPARATOR pieces.after)
