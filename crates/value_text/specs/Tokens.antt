-- The tokens of a value's text. This project's own.
use Rattle.std.specs.Prelude.{ℕ, zero, suc, max, ◌==◌, Bool, true, false, not, ◌&&◌, ◌||◌, nat_lt, if◌then◌else◌, List, [], ◌∷◌, length, take, drop, slice_index, Option, Some, None}
use Rattle.std.specs.List.{prefix_len}
use Rattle.tydi_base.specs.Name.{is_name_byte}
use Rattle.value_text.specs.declared.lexing.Found.{Found}
use Rattle.value_text.specs.declared.token.Token.{Token}
use Rattle.value_text.specs.declared.token.TokenKind.{TokenKind}
use Rattle.value_text.specs.declared.token.TokenKind.TheVariants as kinds

-- the kind of this number
unfoldable pub kind_coded : ℕ → TokenKind
kind_coded code =
    if code == 0 then kinds.Word
    else (if code == 1 then kinds.Key
    else (if code == 2 then kinds.Call
    else (if code == 3 then kinds.Path
    else (if code == 4 then kinds.Empty
    else kinds.Sign))))

-- a token: its kind, its own text, whether white space or a comment stands before it, and how many bytes there are from its first byte on
pub record PlainToken : Type 0 where
  pub kind : TokenKind
  pub text : List ℕ
  pub spaced : Bool
  pub left : ℕ

-- a token, and what follows it
pub record PlainFound : Type 0 where
  pub token : PlainToken
  pub after : List ℕ

abbrev pub token_view : Token → PlainToken
token_view token = record { kind = kind_coded token.code; text = token.text.now; spaced = nat_lt 0 token.gap; left = token.left }

abbrev pub found_view : Found → PlainFound
found_view found = record { token = token_view found.token; after = found.after.now }

-- ---- what stands between tokens

-- space, tab, CR or LF
abbrev pub is_space : ℕ → Bool
is_space byte = byte == 32 || byte == 9 || byte == 13 || byte == 10

-- `//` stands at the front
abbrev pub begins_comment : List ℕ → Bool
begins_comment bytes = slice_index bytes 0 == 47 && slice_index bytes 1 == 47

-- the text behind the white space and the comments at the front, or inside a comment; an LF ends one
abbrev pub gap_from : Bool → List ℕ → List ℕ
gap_from in_comment [] = []
gap_from true (byte ∷ bytes) = gap_from (not (byte == 10)) bytes
gap_from false (byte ∷ bytes) =
    if begins_comment (byte ∷ bytes) then gap_from true bytes
    else (if is_space byte then gap_from false bytes else byte ∷ bytes)

-- the text behind the white space and the comments at the front
abbrev pub after_gap : List ℕ → List ℕ
after_gap bytes = gap_from false bytes

-- ---- a token

-- a letter, a digit, `_` or `.`
abbrev pub is_word_byte : ℕ → Bool
is_word_byte byte = is_name_byte byte || byte == 46

-- how many such bytes begin a text
abbrev pub word_length : List ℕ → ℕ
word_length bytes = prefix_len is_word_byte bytes

-- a text without its first byte
abbrev pub but_first : List ℕ → List ℕ
but_first [] = []
but_first (byte ∷ bytes) = bytes

-- the kind of a token, by whether it is a run of such bytes, by its first byte, and by the byte that follows it, white space and comments aside
unfoldable pub kind_of : Bool → ℕ → ℕ → TokenKind
kind_of is_run first next =
    if is_run && next == 58 then kinds.Key
    else (if is_run && next == 40 then kinds.Call
    else (if (is_run || first == 45) && next == 61 then kinds.Path
    else (if is_run then kinds.Word
    else (if first == 123 && next == 125 then kinds.Empty
    else kinds.Sign))))

-- a byte that is a token by itself, whatever follows it
abbrev pub is_sign : ℕ → Bool
is_sign byte = not (is_word_byte byte) && not (byte == 45) && not (byte == 123)

-- the byte that follows belongs to the token
abbrev pub takes_next : TokenKind → Bool
takes_next kinds.Key = true
takes_next kinds.Call = true
takes_next kinds.Path = true
takes_next _ = false

-- the kind of the token at the front of a text
abbrev pub kind_at : List ℕ → TokenKind
kind_at rest = kind_of (nat_lt 0 (word_length rest)) (slice_index rest 0) (slice_index (after_gap (drop (max (word_length rest) 1) rest)) 0)

-- the text behind a token of this kind: behind its run or byte, or behind the byte that follows
abbrev pub after_token : TokenKind → List ℕ → List ℕ
after_token kind tail = if takes_next kind then but_first (after_gap tail) else tail

-- the token at the front of a text that is not empty
abbrev pub token_at : Bool → List ℕ → PlainFound
token_at spaced rest = record {
  token = record { kind = kind_at rest; text = take (max (word_length rest) 1) rest; spaced = spaced; left = length rest };
  after = after_token (kind_at rest) (drop (max (word_length rest) 1) rest);
}

-- the token behind white space and comments, where there is one
abbrev pub next_token : Bool → List ℕ → Option PlainFound
next_token spaced [] = None
next_token spaced (byte ∷ bytes) = Some (token_at spaced (byte ∷ bytes))

abbrev pub token_in : List ℕ → Option PlainFound
token_in bytes = next_token (not (length (after_gap bytes) == length bytes)) (after_gap bytes)

-- ---- the tokens of a text

-- the next token, and those that follow it
abbrev pub with_next : (List ℕ → List PlainToken) → Option PlainFound → List PlainToken
with_next others None = []
with_next others (Some found) = found.token ∷ others found.after

-- so many tokens at most
unfoldable pub tokens_within : ℕ → List ℕ → List PlainToken
tokens_within zero bytes = []
tokens_within (suc most) bytes = with_next (tokens_within most) (token_in bytes)

-- the tokens of a text; each has a byte at least
unfoldable pub tokens_of : List ℕ → List PlainToken
tokens_of bytes = tokens_within (length bytes) bytes
