-- The lines of a text, one after another.
use Rattle.std.proofs.Common.{◌≡◌, ℕ, ◌<◌, ◌==◌, true, List, [], ◌∷◌, length, refl, arith}
use Rattle.std.proofs.lemmas.List.Splits.{length-slice_split}
use Rattle.tydi_base.specs.Pieces.{pieces_of}
use Rattle.tydi_base.specs.declared.place.Place.{Place}
use Rattle.plan_text.specs.Lines.{behind}
use Rattle.net_text.specs.Lines.{placed}

-- each text has a piece
pub pieces-some : (separator : ℕ) (text : List ℕ) → 0 < length (pieces_of separator text)
pieces-some separator text = let long = length-slice_split (λ byte. byte == separator) text in omega (arith, long)

-- a piece that ends with its LF is a line
pub placed-first : (place : Place) (piece : List ℕ) (pieces : List (List ℕ)) → 0 < length pieces → placed place (piece ∷ pieces) ≡ record { place = place; bytes = piece; ended = true } ∷ placed (behind place piece) pieces
placed-first place piece [] some = absurd (omega (arith, some))
placed-first place piece (next ∷ more) some = refl
