-- Each change of a text has as many states as its code is wide.
use Rattle.std.proofs.Common.{◌≡◌, ◌∙◌, ℕ, ◌≤◌, ◌==◌, nat_le, Bool, true, false, not, List, [], ◌∷◌, ◌++◌, length, Option, Some, None, Result, Ok, Err}
use Rattle.std.proofs.Common.{if◌then◌else◌, refl, sym, ap, subst, arith}
use Rattle.std.proofs.lemmas.Bool.{eqb-true}
use Rattle.std.proofs.lemmas.Bool.Decides.{nat_tests}
use Rattle.std.specs.Str.{bytes_eq}
use Rattle.tydi_base.specs.Decimal.{below, decimal_of}
use Rattle.tydi_base.specs.Reading.{◌>>=◌}
use Rattle.tydi_reading.specs.Lists.{EachIs}
use Rattle.vcd_read.specs.History.{Part, Opens, Closes, Declares, Ends, Stamps, Changes, before_block, declared_width, edge, edges, edges_before}
use Rattle.vcd_read.specs.History.{has_ended, is_same_time, open_scopes, rises, states_at, time_of}
use Rattle.vcd_read.specs.Profile.{Awaited, Beginning, DefinitionsEnd, Reached, ScopeEnd, ScopeKind, ScopeName, SectionEnd, SkippedCode, Step, UpscopeEnd}
use Rattle.vcd_read.specs.Profile.{VarCode, VarEnd, VarKind, VarName, VarRange, VarWidth, VectorCode, beginning, change, command, declaration, finished}
use Rattle.vcd_read.specs.Profile.{has_scope, may_have_width, next, parts_of, provided, reach, read_on, scalar, stamp, var_width, vector, vector_change}
use Rattle.vcd_read.specs.Tokens.{DumpToken, tokens_of}
use Rattle.vcd_read.specs.Words.{filled, is_end, is_range, keyword_of, mark_of, states_of, without_range}
use Rattle.vcd_read.specs.declared.keyword.Keyword.{Keyword}
use Rattle.vcd_read.specs.declared.keyword.Keyword.TheVariants as keywords
use Rattle.vcd_read.specs.declared.mark.Mark.{Mark}
use Rattle.vcd_read.specs.declared.mark.Mark.TheVariants as marks
use Rattle.vcd_read.specs.declared.state.State.{State}
use Rattle.vcd_read.proofs.NumberLemmas.{same-bytes}
use Rattle.vcd_read.proofs.WordLemmas.{length-filled}

-- ---- a history

-- each change has as many states as its code is wide, and a code that is declared again has the same width
abbrev pub AreWide : List Part → Type 0
AreWide [] = Unit {0}
AreWide (Opens name ∷ before) = AreWide before
AreWide (Closes ∷ before) = AreWide before
AreWide (Declares width code name ∷ before) = AreWide before × (may_have_width (declared_width code before) width ≡ true)
AreWide (Ends ∷ before) = AreWide before
AreWide (Stamps offset time ∷ before) = AreWide before
AreWide (Changes code states ∷ before) = AreWide before × (declared_width code before ≡ Some (length states))

wide-before : (part : Part) (before : List Part) → AreWide (part ∷ before) → AreWide before
wide-before (Opens name) before wide = wide
wide-before Closes before wide = wide
wide-before (Declares width code name) before wide = wide.0
wide-before Ends before wide = wide
wide-before (Stamps offset time) before wide = wide
wide-before (Changes code states) before wide = wide.0

-- a width that a code may have is that with which it is declared
same-width : (declared : Option ℕ) (one width : ℕ) → declared ≡ Some one → may_have_width declared width ≡ true → one ≡ width
same-width None one width is may = absurd (let e = is in cc)
same-width (Some before) one width is may = let e : before ≡ one = (let s = is in cc) in sym e ∙ eqb-true before width may

-- a code that is declared once more keeps its width
declared-again : (code other : List ℕ) (width one : ℕ) (before : List Part) → may_have_width (declared_width other before) width ≡ true
    → declared_width code before ≡ Some one
    → (if bytes_eq code other then Some width else declared_width code before) ≡ Some one
declared-again code other width one before may is = by (bytes_eq code other) (same-bytes code other)
  where
    by : (test : Bool) → (test ≡ true → code ≡ other) → (if test then Some width else declared_width code before) ≡ Some one
    by true same = ap (λ (n : ℕ). Some n) (sym (same-width (declared_width other before) one width
        (subst (λ (c : List ℕ). declared_width c before ≡ Some one) (same refl) is) may))
    by false differ = is

-- the last change of a code has as many states as the code is wide
pub states-wide : (code : List ℕ) (parts : List Part) (states : List State) → AreWide parts → states_at code parts ≡ Some states
    → declared_width code parts ≡ Some (length states)
states-wide code [] states wide is = absurd (let e = is in cc)
states-wide code (Opens name ∷ before) states wide is = states-wide code before states wide is
states-wide code (Closes ∷ before) states wide is = states-wide code before states wide is
states-wide code (Declares width other name ∷ before) states wide is =
    declared-again code other width (length states) before wide.1 (states-wide code before states wide.0 is)
states-wide code (Ends ∷ before) states wide is = states-wide code before states wide is
states-wide code (Stamps offset time ∷ before) states wide is = states-wide code before states wide is
states-wide code (Changes other found ∷ before) states wide is =
    by (bytes_eq code other) (same-bytes code other) (states-wide code before states wide.0) is
  where
    by : (test : Bool) → (test ≡ true → code ≡ other) → (states_at code before ≡ Some states → declared_width code before ≡ Some (length states))
        → (if test then Some found else states_at code before) ≡ Some states
        → declared_width code before ≡ Some (length states)
    by true same rest is =
        let e : found ≡ states = (let s = is in cc) in
        ap (λ (c : List ℕ). declared_width c before) (same refl) ∙ wide.1 ∙ ap (λ (l : List State). Some (length l)) e
    by false differ rest is = rest is

-- ---- fronts of a history

-- each code that is declared after these parts is so after all, with the same width
pub record Stays (front parts : List Part) : Type 0 where
  pub wide : AreWide front
  pub widths : (code : List ℕ) (width : ℕ) → declared_width code front ≡ Some width → declared_width code parts ≡ Some width

stays-same : (parts : List Part) → AreWide parts → Stays parts parts
stays-same parts wide = record { wide = wide; widths = λ code width is. is }

stays-more : (part : Part) (parts front : List Part) → AreWide (part ∷ parts) → Stays front parts → Stays front (part ∷ parts)
stays-more (Opens name) parts front wide stays = record { wide = stays.wide; widths = stays.widths }
stays-more Closes parts front wide stays = record { wide = stays.wide; widths = stays.widths }
stays-more (Declares width other name) parts front wide stays = record {
  wide = stays.wide;
  widths = λ code one is. declared-again code other width one parts wide.1 (stays.widths code one is);
}
stays-more Ends parts front wide stays = record { wide = stays.wide; widths = stays.widths }
stays-more (Stamps offset time) parts front wide stays = record { wide = stays.wide; widths = stays.widths }
stays-more (Changes code states) parts front wide stays = record { wide = stays.wide; widths = stays.widths }

-- so is each of these fronts
abbrev pub EachStays : List Part → List (List Part) → Type 0
EachStays parts fronts = EachIs (λ front. Stays front parts) fronts

each-more : (part : Part) (parts : List Part) (fronts : List (List Part)) → AreWide (part ∷ parts) → EachStays parts fronts → EachStays (part ∷ parts) fronts
each-more part parts [] wide each = tt
each-more part parts (front ∷ fronts) wide each = (stays-more part parts front wide each.0, each-more part parts fronts wide each.1)

each-append : (parts : List Part) (some others : List (List Part)) → EachStays parts some → EachStays parts others → EachStays parts (some ++ others)
each-append parts [] others first second = second
each-append parts (front ∷ some) others first second = (first.0, each-append parts some others first.1 second)

-- the parts before the last block
block-stays : (parts : List Part) → AreWide parts → Stays (before_block parts) parts
block-stays [] wide = stays-same [] wide
block-stays (Opens name ∷ before) wide = stays-more (Opens name) before (before_block before) wide (block-stays before wide)
block-stays (Closes ∷ before) wide = stays-more Closes before (before_block before) wide (block-stays before wide)
block-stays (Declares width code name ∷ before) wide = stays-more (Declares width code name) before (before_block before) wide (block-stays before wide.0)
block-stays (Ends ∷ before) wide = stays-more Ends before (before_block before) wide (block-stays before wide)
block-stays (Changes code states ∷ before) wide = stays-more (Changes code states) before (before_block before) wide (block-stays before wide.0)
block-stays (Stamps offset time ∷ before) wide = by (is_same_time (time_of before) time) (block-stays before wide)
  where
    by : (test : Bool) → Stays (before_block before) before → Stays (if test then before_block before else before) (Stamps offset time ∷ before)
    by true inner = stays-more (Stamps offset time) before (before_block before) wide inner
    by false inner = stays-more (Stamps offset time) before before wide (stays-same before wide)

edge-stays : (clock : List ℕ) (parts : List Part) → AreWide parts → EachStays parts (edge clock parts)
edge-stays clock parts wide = by (rises clock parts)
  where
    by : (test : Bool) → EachStays parts (if test then before_block parts ∷ [] else [])
    by true = (block-stays parts wide, tt)
    by false = tt

before-stays : (clock : List ℕ) (parts : List Part) → AreWide parts → EachStays parts (edges_before clock parts)
before-stays clock [] wide = tt
before-stays clock (Opens name ∷ before) wide = each-more (Opens name) before (edges_before clock before) wide (before-stays clock before wide)
before-stays clock (Closes ∷ before) wide = each-more Closes before (edges_before clock before) wide (before-stays clock before wide)
before-stays clock (Declares width code name ∷ before) wide =
    each-more (Declares width code name) before (edges_before clock before) wide (before-stays clock before wide.0)
before-stays clock (Ends ∷ before) wide = each-more Ends before (edges_before clock before) wide (before-stays clock before wide)
before-stays clock (Changes code states ∷ before) wide =
    each-more (Changes code states) before (edges_before clock before) wide (before-stays clock before wide.0)
before-stays clock (Stamps offset time ∷ before) wide = by (is_same_time (time_of before) time) (before-stays clock before wide)
  where
    by : (test : Bool) → EachStays before (edges_before clock before)
        → EachStays (Stamps offset time ∷ before) (if test then edges_before clock before else edges_before clock before ++ edge clock before)
    by true inner = each-more (Stamps offset time) before (edges_before clock before) wide inner
    by false inner = each-more (Stamps offset time) before (edges_before clock before ++ edge clock before) wide
        (each-append before (edges_before clock before) (edge clock before) inner (edge-stays clock before wide))

-- the parts before each edge of the clock
pub edges-stay : (clock : List ℕ) (parts : List Part) → AreWide parts → EachStays parts (edges clock parts)
edges-stay clock parts wide = each-append parts (edges_before clock parts) (edge clock parts) (before-stays clock parts wide) (edge-stays clock parts wide)

-- ---- token by token

-- the code of a variable that is begun may have its width
abbrev IsReady : Awaited → List Part → Type 0
IsReady (VarName width code) parts = may_have_width (declared_width code parts) width ≡ true
IsReady (VarRange width code name) parts = may_have_width (declared_width code parts) width ≡ true
IsReady (VarEnd width code name) parts = may_have_width (declared_width code parts) width ≡ true
IsReady awaited parts = Unit {0}

abbrev IsRight : Step → Type 0
IsRight (Ok reached) = AreWide reached.parts × IsReady reached.awaited reached.parts
IsRight (Err offset) = Unit {0}

provided-right : (test : Bool) (offset : ℕ) (step : Step) → (test ≡ true → IsRight step) → IsRight (provided test offset step)
unfolding provided
provided-right true offset step right = right refl
provided-right false offset step right = tt

if-right : (test : Bool) (one other : Step) → IsRight one → IsRight other → IsRight (if test then one else other)
if-right true one other first second = first
if-right false one other first second = second

module _ (parts : List Part) (wide : AreWide parts) where
  declaration-right : (offset : ℕ) (keyword : Keyword) → IsRight (declaration parts offset keyword)
  unfolding declaration
  declaration-right offset keywords.Section = (wide, tt)
  declaration-right offset keywords.Scope = (wide, tt)
  declaration-right offset keywords.Upscope = provided-right (has_scope (open_scopes parts)) offset (reach UpscopeEnd parts) (λ so. (wide, tt))
  declaration-right offset keywords.Var = (wide, tt)
  declaration-right offset keywords.EndDefinitions =
      provided-right (not (has_scope (open_scopes parts))) offset (reach DefinitionsEnd parts) (λ so. (wide, tt))
  declaration-right offset keywords.Dump = tt
  declaration-right offset keywords.End = tt
  declaration-right offset keywords.Other = tt

  width-right : (offset : ℕ) (found : Option ℕ) → IsRight (var_width parts offset found)
  unfolding var_width
  width-right offset (Some width) = (wide, tt)
  width-right offset None = tt

  command-right : (offset : ℕ) (keyword : Keyword) → IsRight (command parts offset keyword)
  unfolding command
  command-right offset keywords.Section = (wide, tt)
  command-right offset keywords.Dump = (wide, tt)
  command-right offset keywords.End = (wide, tt)
  command-right offset keywords.Scope = tt
  command-right offset keywords.Upscope = tt
  command-right offset keywords.Var = tt
  command-right offset keywords.EndDefinitions = tt
  command-right offset keywords.Other = tt

  stamp-right : (offset : ℕ) (time : Option ℕ) → IsRight (stamp parts offset time)
  unfolding stamp
  stamp-right offset (Some time) = (wide, tt)
  stamp-right offset None = tt

  scalar-right : (offset : ℕ) (code : List ℕ) (state : State) (declared : Option ℕ) → declared_width code parts ≡ declared
      → IsRight (scalar parts offset code state declared)
  unfolding scalar
  scalar-right offset code state (Some width) is =
      provided-right (width == 1) offset (reach Beginning (Changes code (state ∷ []) ∷ parts))
      (λ one. ((wide, is ∙ ap (λ (n : ℕ). Some n) (eqb-true width 1 one)), tt))
  scalar-right offset code state None is = tt

  vector-right : (offset : ℕ) (found : Option (List State)) → IsRight (vector parts offset found)
  unfolding vector
  vector-right offset (Some (state ∷ states)) = (wide, tt)
  vector-right offset (Some []) = tt
  vector-right offset None = tt

  filled-right : (offset : ℕ) (states : List State) (token : DumpToken) (declared : Option ℕ) → declared_width token.bytes parts ≡ declared
      → IsRight (vector_change parts offset states token declared)
  unfolding vector_change
  filled-right offset states token (Some width) is =
      provided-right (nat_le (length states) width) offset (reach Beginning (Changes token.bytes (filled width states) ∷ parts))
      (λ few. let within : length states ≤ width = grind (arith, nat_tests, few) in
      ((wide, is ∙ ap (λ (n : ℕ). Some n) (sym (length-filled width states within))), tt))
  filled-right offset states token None is = tt

  change-right : (token : DumpToken) (mark : Mark) → IsRight (change parts token mark)
  unfolding change
  change-right token marks.Stamp = stamp-right token.offset _
  change-right token marks.Vector = vector-right token.offset _
  change-right token marks.Command = command-right token.offset (keyword_of token.bytes)
  change-right token marks.Skipped = (wide, tt)
  change-right token (marks.Scalar state) = scalar-right token.offset _ state _ refl
  change-right token marks.Nothing = tt

  beginning-right : (token : DumpToken) → IsRight (beginning parts token)
  unfolding beginning
  beginning-right token =
      if-right (has_ended parts) (change parts token (mark_of _)) (declaration parts token.offset (keyword_of token.bytes)) (change-right token (mark_of _))
      (declaration-right token.offset (keyword_of token.bytes))

  next-right : (awaited : Awaited) → IsReady awaited parts → (token : DumpToken) → IsRight (next awaited parts token)
  unfolding next
  next-right Beginning ready token = beginning-right token
  next-right SectionEnd ready token = if-right (is_end token.bytes) (reach Beginning parts) (reach SectionEnd parts) (wide, tt) (wide, tt)
  next-right ScopeKind ready token = provided-right (not (is_end token.bytes)) token.offset (reach ScopeName parts) (λ so. (wide, tt))
  next-right ScopeName ready token = provided-right (not (is_end token.bytes)) token.offset (reach (ScopeEnd token.bytes) parts) (λ so. (wide, tt))
  next-right (ScopeEnd name) ready token = provided-right (is_end token.bytes) token.offset (reach Beginning (Opens name ∷ parts)) (λ so. (wide, tt))
  next-right UpscopeEnd ready token = provided-right (is_end token.bytes) token.offset (reach Beginning (Closes ∷ parts)) (λ so. (wide, tt))
  next-right VarKind ready token = provided-right (not (is_end token.bytes)) token.offset (reach VarWidth parts) (λ so. (wide, tt))
  next-right VarWidth ready token = width-right token.offset _
  next-right (VarCode width) ready token =
      provided-right (not (is_end token.bytes)) token.offset (provided (may_have_width (declared_width token.bytes parts) width) token.offset (reach
      (VarName width token.bytes) parts))
      (λ so. provided-right (may_have_width (declared_width token.bytes parts) width) token.offset (reach (VarName width token.bytes) parts)
      (λ may. (wide, may)))
  next-right (VarName width code) ready token =
      provided-right (not (is_end token.bytes)) token.offset (reach (VarRange width code (without_range token.bytes)) parts) (λ so. (wide, ready))
  next-right (VarRange width code name) ready token =
      if-right (is_end token.bytes) (reach Beginning (Declares width code name ∷ parts))
      (provided (is_range token.bytes) token.offset (reach (VarEnd width code name) parts)) ((wide, ready), tt)
      (provided-right (is_range token.bytes) token.offset (reach (VarEnd width code name) parts) (λ so. (wide, ready)))
  next-right (VarEnd width code name) ready token =
      provided-right (is_end token.bytes) token.offset (reach Beginning (Declares width code name ∷ parts)) (λ so. ((wide, ready), tt))
  next-right DefinitionsEnd ready token = provided-right (is_end token.bytes) token.offset (reach Beginning (Ends ∷ parts)) (λ so. (wide, tt))
  next-right (VectorCode offset states) ready token = filled-right offset states token (declared_width token.bytes parts) refl
  next-right SkippedCode ready token = (wide, tt)

-- ---- a text

reads-right : (awaited : Awaited) (parts : List Part) (tokens : List DumpToken) → AreWide parts → IsReady awaited parts → IsRight (read_on awaited parts tokens)
reads-right awaited parts [] wide ready = (wide, ready)
reads-right awaited parts (token ∷ tokens) wide ready =
    by (next awaited parts token) (next-right parts wide awaited ready token) (λ one found right more. reads-right one found tokens right more)
  where
    by : (step : Step) → IsRight step
        → ((one : Awaited) (found : List Part) → AreWide found → IsReady one found → IsRight (read_on one found tokens))
        → IsRight (step >>= λ reached. read_on reached.awaited reached.parts tokens)
    by (Ok reached) right rest = rest reached.awaited reached.parts right.0 right.1
    by (Err offset) right rest = tt

-- a text that ends between two parts
finished-parts : (size : ℕ) (awaited : Awaited) (found parts : List Part) → finished size awaited found ≡ Ok parts → found ≡ parts
unfolding finished
finished-parts size Beginning found parts is = by (has_ended found) is
  where
    by : (test : Bool) → ◌≡◌ {A = Result (List Part) ℕ} (if test then Ok found else Err size) (Ok parts) → found ≡ parts
    by true is = let e = is in cc
    by false is = absurd (let e = is in cc)
finished-parts size SectionEnd found parts is = absurd (let e = is in cc)
finished-parts size ScopeKind found parts is = absurd (let e = is in cc)
finished-parts size ScopeName found parts is = absurd (let e = is in cc)
finished-parts size (ScopeEnd name) found parts is = absurd (let e = is in cc)
finished-parts size UpscopeEnd found parts is = absurd (let e = is in cc)
finished-parts size VarKind found parts is = absurd (let e = is in cc)
finished-parts size VarWidth found parts is = absurd (let e = is in cc)
finished-parts size (VarCode width) found parts is = absurd (let e = is in cc)
finished-parts size (VarName width code) found parts is = absurd (let e = is in cc)
finished-parts size (VarRange width code name) found parts is = absurd (let e = is in cc)
finished-parts size (VarEnd width code name) found parts is = absurd (let e = is in cc)
finished-parts size DefinitionsEnd found parts is = absurd (let e = is in cc)
finished-parts size (VectorCode offset states) found parts is = absurd (let e = is in cc)
finished-parts size SkippedCode found parts is = absurd (let e = is in cc)

pub parts-wide : (text : List ℕ) (parts : List Part) → parts_of text ≡ Ok parts → AreWide parts
parts-wide text parts is = by (read_on Beginning [] (tokens_of text)) (reads-right Beginning [] (tokens_of text) tt tt) is
  where
    by : (step : Step) → IsRight step → (step >>= λ reached. finished (length text) reached.awaited reached.parts) ≡ Ok parts → AreWide parts
    by (Ok reached) right is = subst AreWide (finished-parts (length text) reached.awaited reached.parts parts is) right.0
    by (Err offset) right is = absurd (let e = is in cc)
