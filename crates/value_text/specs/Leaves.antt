-- The leaves of a value's text: the words, `null`, `apart`, and `{}`. This project's own.
use Rattle.std.specs.Prelude.{ℕ, zero, suc, Bool, true, false, ◌||◌, List, [], ◌∷◌, map, Option, Some, None}
use Rattle.std.specs.List.{filter}
use Rattle.value_text.specs.declared.token.TokenKind.{TokenKind}
use Rattle.value_text.specs.declared.token.TokenKind.TheVariants as kinds
use Rattle.value_text.specs.Tokens.{PlainToken}
use Rattle.value_text.specs.Words.{leaf}

-- a `{` before a `}`
abbrev pub is_empty : TokenKind → Bool
is_empty kinds.Empty = true
is_empty _ = false

-- a leaf begins with a token
abbrev pub begins_leaf : PlainToken → Bool
begins_leaf token = leaf token || is_empty token.kind

-- where leaves begin, by how many bytes there are from there on
abbrev pub leaves_of : List PlainToken → List ℕ
leaves_of tokens = map (λ token. token.left) (filter begins_leaf tokens)

-- the most leaves of a value
abbrev pub most_leaves : ℕ
most_leaves = 1000000

-- the one of a list that follows so many
abbrev pub behind : ℕ → List ℕ → Option ℕ
behind most [] = None
behind zero (one ∷ more) = Some one
behind (suc most) (one ∷ more) = behind most more

-- where the leaf begins that follows so many
abbrev pub surplus : ℕ → List PlainToken → Option ℕ
surplus most tokens = behind most (leaves_of tokens)
