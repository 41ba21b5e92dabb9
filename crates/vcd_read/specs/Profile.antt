-- The profile of value change dumps that is read (IEEE 1364, value change dump files; which of its forms are read is this project's own): what each
-- token says where it stands, and the first token that is against the profile.
--
--   section     = ("$date" | "$version" | "$timescale" | "$comment") ANY.. "$end"
--   declaration = section | "$scope" KIND NAME "$end" | "$upscope" "$end" | "$var" KIND WIDTH CODE NAME [RANGE] "$end"
--   change      = section | "#"TIME | STATE CODE in one token | ("b" | "B") STATES CODE in two | ("r" | "s") ANY CODE in two
--               | "$dumpvars" | "$dumpall" | "$dumpon" | "$dumpoff" | "$end"
--   text        = declaration.. "$enddefinitions" "$end" change..
use Rattle.std.specs.Prelude.{ℕ, ◌^◌, Bool, true, ◌==◌, not, nat_le, nat_lt, if◌then◌else◌, List, [], ◌∷◌, length, drop, slice_index, Option, Some, None}
use Rattle.std.specs.Prelude.{Result, Ok, Err}
use Rattle.tydi_base.specs.Decimal.{below, decimal_of}
use Rattle.tydi_base.specs.Reading.{◌>>=◌}
use Rattle.vcd_read.specs.History.{Part, Opens, Closes, Declares, Ends, Stamps, Changes, has_ended, open_scopes, declared_width}
use Rattle.vcd_read.specs.Tokens.{DumpToken, tokens_of}
use Rattle.vcd_read.specs.Words.{filled, is_end, is_range, keyword_of, mark_of, states_of, without_range}
use Rattle.vcd_read.specs.declared.keyword.Keyword.{Keyword}
use Rattle.vcd_read.specs.declared.keyword.Keyword.TheVariants as keywords
use Rattle.vcd_read.specs.declared.mark.Mark.{Mark}
use Rattle.vcd_read.specs.declared.mark.Mark.TheVariants as marks
use Rattle.vcd_read.specs.declared.state.State.{State}

-- what the next token may be: the beginning of a part; what a section skips, up to its `$end`; or the next token of a part that is begun, with
-- what the part has said so far
pub data Awaited : Type 0 where
  Beginning : Awaited
  SectionEnd : Awaited
  ScopeKind : Awaited
  ScopeName : Awaited
  ScopeEnd : (name : List ℕ) → Awaited
  UpscopeEnd : Awaited
  VarKind : Awaited
  VarWidth : Awaited
  VarCode : (width : ℕ) → Awaited
  VarName : (width : ℕ) → (code : List ℕ) → Awaited
  VarRange : (width : ℕ) → (code name : List ℕ) → Awaited
  VarEnd : (width : ℕ) → (code name : List ℕ) → Awaited
  DefinitionsEnd : Awaited
  VectorCode : (offset : ℕ) → (states : List State) → Awaited
  SkippedCode : Awaited

-- a text that is read up to some token: what may come next, and the parts before, the last of them first
pub record Reached : Type 0 where
  pub awaited : Awaited
  pub parts : List Part

-- a text that is read so far, or the place of the token that is against the profile
abbrev pub Step : Type 0
Step = Result Reached ℕ

abbrev pub reach : Awaited → List Part → Step
reach awaited parts = Ok (record { awaited = awaited; parts = parts })

-- goes on where the test holds
unfoldable pub provided : Bool → ℕ → Step → Step
provided test offset step = if test then step else Err offset

-- ---- declarations

-- some scope is open
abbrev pub has_scope : List (List ℕ) → Bool
has_scope scopes = nat_lt 0 (length scopes)

-- the part that a keyword begins among the declarations. A scope has to be open where one closes, and none where the declarations end.
unfoldable pub declaration : List Part → ℕ → Keyword → Step
declaration parts offset keywords.Section = reach SectionEnd parts
declaration parts offset keywords.Scope = reach ScopeKind parts
declaration parts offset keywords.Upscope = provided (has_scope (open_scopes parts)) offset (reach UpscopeEnd parts)
declaration parts offset keywords.Var = reach VarKind parts
declaration parts offset keywords.EndDefinitions = provided (not (has_scope (open_scopes parts))) offset (reach DefinitionsEnd parts)
declaration parts offset keywords.Dump = Err offset
declaration parts offset keywords.End = Err offset
declaration parts offset keywords.Other = Err offset

-- the width of a variable
unfoldable pub var_width : List Part → ℕ → Option ℕ → Step
var_width parts offset (Some width) = reach (VarCode width) parts
var_width parts offset None = Err offset

-- a code may have this width: it is not declared, or with the same width
abbrev pub may_have_width : Option ℕ → ℕ → Bool
may_have_width None width = true
may_have_width (Some before) width = before == width

-- ---- changes

-- a keyword among the changes: a section that is skipped, or a word that means nothing
unfoldable pub command : List Part → ℕ → Keyword → Step
command parts offset keywords.Section = reach SectionEnd parts
command parts offset keywords.Dump = reach Beginning parts
command parts offset keywords.End = reach Beginning parts
command parts offset keywords.Scope = Err offset
command parts offset keywords.Upscope = Err offset
command parts offset keywords.Var = Err offset
command parts offset keywords.EndDefinitions = Err offset
command parts offset keywords.Other = Err offset

-- a time stamp of this time
unfoldable pub stamp : List Part → ℕ → Option ℕ → Step
stamp parts offset (Some time) = reach Beginning (Stamps offset time ∷ parts)
stamp parts offset None = Err offset

-- a scalar change of a code that is declared with this width
unfoldable pub scalar : List Part → ℕ → List ℕ → State → Option ℕ → Step
scalar parts offset code state (Some width) = provided (width == 1) offset (reach Beginning (Changes code (state ∷ []) ∷ parts))
scalar parts offset code state None = Err offset

-- the states of a vector, one at least
unfoldable pub vector : List Part → ℕ → Option (List State) → Step
vector parts offset (Some (state ∷ states)) = reach (VectorCode offset (state ∷ states)) parts
vector parts offset (Some []) = Err offset
vector parts offset None = Err offset

-- the change of a vector, which stands at this place, of a code that is declared with this width
unfoldable pub vector_change : List Part → ℕ → List State → DumpToken → Option ℕ → Step
vector_change parts offset states token (Some width) =
    provided (nat_le (length states) width) offset (reach Beginning (Changes token.bytes (filled width states) ∷ parts))
vector_change parts offset states token None = Err token.offset

-- the part among the changes that a token begins, or is
unfoldable pub change : List Part → DumpToken → Mark → Step
change parts token marks.Stamp = stamp parts token.offset (below (2 ^ 64) (decimal_of (drop 1 token.bytes)))
change parts token marks.Vector = vector parts token.offset (states_of (drop 1 token.bytes))
change parts token marks.Command = command parts token.offset (keyword_of token.bytes)
change parts token marks.Skipped = reach SkippedCode parts
change parts token (marks.Scalar state) = scalar parts token.offset (drop 1 token.bytes) state (declared_width (drop 1 token.bytes) parts)
change parts token marks.Nothing = Err token.offset

-- ---- tokens

-- the part that a token begins
unfoldable pub beginning : List Part → DumpToken → Step
beginning parts token =
    if has_ended parts then change parts token (mark_of (slice_index token.bytes 0)) else declaration parts token.offset (keyword_of token.bytes)

-- what is reached by one token more
unfoldable pub next : Awaited → List Part → DumpToken → Step
next Beginning parts token = beginning parts token
next SectionEnd parts token = if is_end token.bytes then reach Beginning parts else reach SectionEnd parts
next ScopeKind parts token = provided (not (is_end token.bytes)) token.offset (reach ScopeName parts)
next ScopeName parts token = provided (not (is_end token.bytes)) token.offset (reach (ScopeEnd token.bytes) parts)
next (ScopeEnd name) parts token = provided (is_end token.bytes) token.offset (reach Beginning (Opens name ∷ parts))
next UpscopeEnd parts token = provided (is_end token.bytes) token.offset (reach Beginning (Closes ∷ parts))
next VarKind parts token = provided (not (is_end token.bytes)) token.offset (reach VarWidth parts)
next VarWidth parts token = var_width parts token.offset (below (2 ^ 64) (decimal_of token.bytes))
next (VarCode width) parts token =
    provided (not (is_end token.bytes)) token.offset (provided (may_have_width (declared_width token.bytes parts) width) token.offset (reach (VarName width
    token.bytes) parts))
next (VarName width code) parts token = provided (not (is_end token.bytes)) token.offset (reach (VarRange width code (without_range token.bytes)) parts)
next (VarRange width code name) parts token =
    if is_end token.bytes then reach Beginning (Declares width code name ∷ parts)
    else provided (is_range token.bytes) token.offset (reach (VarEnd width code name) parts)
next (VarEnd width code name) parts token = provided (is_end token.bytes) token.offset (reach Beginning (Declares width code name ∷ parts))
next DefinitionsEnd parts token = provided (is_end token.bytes) token.offset (reach Beginning (Ends ∷ parts))
next (VectorCode offset states) parts token = vector_change parts offset states token (declared_width token.bytes parts)
next SkippedCode parts token = reach Beginning parts

-- what is reached by these tokens
abbrev pub read_on : Awaited → List Part → List DumpToken → Step
read_on awaited parts [] = reach awaited parts
read_on awaited parts (token ∷ tokens) = next awaited parts token >>= λ reached. read_on reached.awaited reached.parts tokens

-- the parts of a text that ends between two parts and after the declarations; else it ends early, at this place
unfoldable pub finished : ℕ → Awaited → List Part → Result (List Part) ℕ
finished size Beginning parts = if has_ended parts then Ok parts else Err size
finished size awaited parts = Err size

abbrev pub finish : ℕ → Step → Result (List Part) ℕ
finish size step = step >>= λ reached. finished size reached.awaited reached.parts

-- the parts of a text, the last of them first, or the place of the first token that is against the profile, or of the end of a text that ends early
abbrev pub parts_of : List ℕ → Result (List Part) ℕ
parts_of text = finish (length text) (read_on Beginning [] (tokens_of text))
