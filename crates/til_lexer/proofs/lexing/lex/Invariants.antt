use Rattle.std.proofs.Common.{◌≡◌, ◌+◌, ◌≤◌, length}
use denote.Text.{Utf8}
use denote.Shadow.{shadow}
use Rattle.til_lexer.specs.Tokens.{with_front, tokens_from, tokens_of}
use Rattle.til_lexer.proofs.lexing.lex.Given as goal

-- the tokens so far, in front of those of the rest, are those of the text; and where the rest stands
abbrev pub invariant-pieces : goal.invariant-pieces
invariant-pieces l =
    shadow (Utf8 l.rest) × (with_front l.tokens (tokens_from 0 l.place l.rest) ≡ tokens_of l.text) × (l.place.offset + length l.rest ≡ length l.text)
    × (l.place.line ≤ l.place.offset + 1) × (l.place.column ≤ l.place.offset + 1)

abbrev pub decreases-pieces : goal.decreases-pieces
decreases-pieces l = length l.rest
