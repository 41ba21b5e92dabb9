-- The fault of a text is never want of memory.
use Rattle.std.proofs.Common.{◌≡◌, ℕ, zero, suc, ◌-◌, List, [], ◌∷◌, Option, Some, None, Err, IsSome}
use Rattle.std.proofs.lemmas.Result.{IfErr-at_err}
use Rattle.tydi_base.proofs.ReadingLaws.{FaultsAre, faults_are}
use Rattle.tydi_base.specs.declared.place.Place.{Place}
use Rattle.til_lexer.specs.Faults.{fault_in}
use Rattle.til_lexer.specs.Pieces.{word_token, number_token, closed_token, symbol_token, mark_at, piece_at}
use Rattle.til_lexer.specs.Places.{start, place_after}
use Rattle.til_lexer.specs.Tokens.{length_of, with_front, tokens_from, tokens_of}
use Rattle.til_lexer.specs.declared.fault.LexFault.{LexFault}
use Rattle.til_lexer.specs.declared.fault.LexFault.TheVariants as faults
use Rattle.til_lexer.specs.declared.piece.Piece.{Piece}
use Rattle.til_lexer.specs.declared.token.TokenKind.{TokenKind}

-- a fault that is no want of memory
abbrev Calm : LexFault → Type 0
Calm fault = IsSome (fault_in fault)

closed_token-calm : (kind : TokenKind) (fault : LexFault) (inside : Option ℕ) → Calm fault → FaultsAre Calm (closed_token kind fault inside)
unfolding closed_token
closed_token-calm kind fault (Some inside) calm = search faults_are
closed_token-calm kind fault None calm = search faults_are

symbol_token-calm : (place : Place) (double single : Option TokenKind) → FaultsAre Calm (symbol_token place double single)
unfolding symbol_token
symbol_token-calm place (Some kind) single = search faults_are
symbol_token-calm place None (Some kind) = search faults_are
symbol_token-calm place None None = search faults_are

piece_at-calm : (place : Place) (bytes : List ℕ) → FaultsAre Calm (piece_at place bytes)
unfolding piece_at mark_at word_token number_token
piece_at-calm place bytes = search (faults_are, closed_token-calm, symbol_token-calm) depth 9

tokens_from-calm : (taken : ℕ) (place : Place) (bytes : List ℕ) → FaultsAre Calm (tokens_from taken place bytes)
unfolding with_front
tokens_from-calm taken place [] = search faults_are
tokens_from-calm (suc taken) place (byte ∷ bytes) = tokens_from-calm taken (place_after place byte) bytes
tokens_from-calm zero place (byte ∷ bytes) =
    let later : (piece : Piece) → FaultsAre Calm (tokens_from (length_of piece - 1) (place_after place byte) bytes) = λ piece. tokens_from-calm (length_of piece - 1) (place_after place byte) bytes in
    search (faults_are, piece_at-calm, later)

-- the fault of a text is never want of memory
pub tokens_free : (text : List ℕ) → tokens_of text ≡ Err faults.Memory → ⊥
tokens_free text is = let calm : Calm faults.Memory = IfErr-at_err Calm is (tokens_from-calm 0 start text).are in absurd cc
