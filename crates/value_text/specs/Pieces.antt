-- What is left of the text of a value that is made piece by piece. This project's own.
use Rattle.std.specs.Prelude.{ℕ, List}
use Rattle.value_text.specs.Pending.{rest_of}
use Rattle.value_text.specs.declared.pieces.ValuePieces.{ValuePieces}

-- the text that is left
abbrev pub text_left : ValuePieces → List ℕ
text_left pieces = rest_of pieces.left
