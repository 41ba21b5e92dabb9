-- The tokens that are left of a text. It serves the reading, and no public clause.
use Rattle.std.specs.Prelude.{◌≡◌, ℕ, List, Option, Some, None}
use Rattle.value_text.specs.declared.token.Token.{Token}
use Rattle.value_text.specs.declared.tokens.Tokens.TheInside.{Inside}
use Rattle.value_text.specs.Tokens.{PlainFound, token_in, token_view}

-- a token and what follows it, where there is one
abbrev pub with_token : Option Token → List ℕ → Option PlainFound
with_token None after = None
with_token (Some token) after = Some (record { token = token_view token; after = after })

-- the next token and what follows it are those of the text that is left
pub record IsNext (tokens : Inside) : Type 0 where
  pub found : token_in tokens.bytes.now ≡ with_token tokens.next tokens.after.now
