-- A reader of dumps, token by token.
use Rattle.std.proofs.Common.{◌≡◌, ◌∙◌, ℕ, ◌+◌, ◌≤◌, ◌||◌, ◌==◌, Bool, true, false, List, [], ◌∷◌, ◌++◌, length, Option, Some, None, Result, Ok, Err, if◌then◌else◌}
use Rattle.std.proofs.Common.{append_assoc, refl, sym, ap, subst, arith}
use Rattle.std.proofs.lemmas.List.{append-nil, length-append}
use Rattle.tydi_base.specs.Reading.{◌>>=◌}
use Rattle.vcd_read.specs.Parser as parsers
use Rattle.vcd_read.specs.Parser.{Takes}
use Rattle.vcd_read.specs.Profile.{Awaited, Reached, Step, finish, finished, next, read_on}
use Rattle.std.specs.Option.{MatchOption}
use Rattle.vcd_read.specs.Kept.{kept_text}
use Rattle.vcd_read.specs.Shown.{fault_in, parts_shown, shown, signals_shown, times_shown}
use Rattle.vcd_read.specs.History.{Part, time_back}
use Rattle.vcd_read.specs.Wanted.{Wanted}
use Rattle.vcd_read.specs.Reader.{EndsWord, Fails, GoesOn, HasRoom, Reads, Stands, StandsFor, fault_of, reads}
use Rattle.vcd_read.specs.Tokens.{DumpToken, IsFirstWord, has_blank, is_blank, token_at, tokens_from}
use Rattle.vcd_read.specs.declared.fault.VcdFault.{VcdFault}
use Rattle.vcd_read.specs.declared.fault.VcdFault.TheVariants as faults
use Rattle.vcd_read.specs.declared.parser.Parser.{Parser}
use Rattle.vcd_read.specs.declared.parser.Stop.{Stop}
use Rattle.vcd_read.specs.declared.parser.Stop.TheVariants as stops
use Rattle.vcd_read.specs.declared.reader.VcdReader.{VcdReader}

-- one step after another
bind-assoc : (step : Step) (f g : Reached → Step) → ((step >>= f) >>= g) ≡ (step >>= λ r. f r >>= g)
bind-assoc (Ok r) f g = refl
bind-assoc (Err e) f g = refl

pub bind-done : (step : Step) → (step >>= λ r. Ok (record { awaited = r.awaited; parts = r.parts })) ≡ step
bind-done (Ok r) = refl
bind-done (Err e) = refl

pub read_on-append : (awaited : Awaited) (parts : List Part) (xs ys : List DumpToken) → read_on awaited parts (xs ++ ys) ≡ (read_on awaited parts xs >>= λ r.
    read_on r.awaited r.parts ys)
read_on-append awaited parts [] ys = refl
read_on-append awaited parts (token ∷ xs) ys =
    ap (λ (f : Reached → Step). next awaited parts token >>= f) (λ i r. read_on-append r.awaited r.parts xs ys i)
    ∙ sym (bind-assoc (next awaited parts token) (λ r. read_on r.awaited r.parts xs) (λ r. read_on r.awaited r.parts ys))

-- one byte more in front of the rest
byte-front : (fed more : List ℕ) (byte : ℕ) → reads ((fed ++ byte ∷ []) ++ more) ≡ reads (fed ++ byte ∷ more)
byte-front fed more byte = ap reads (append_assoc fed (byte ∷ []) more)

either-none : (one other : Bool) → (one || other) ≡ false → (one ≡ false) × (other ≡ false)
either-none true other is = absurd (let e = is in cc)
either-none false other is = (refl, is)

-- bytes without white space belong to the token that is begun
tokens-word : (start : ℕ) (begun word more : List ℕ) → has_blank word ≡ false → tokens_from start begun (word ++ more) ≡ tokens_from start (begun ++ word) more
tokens-word start begun [] more plain = ap (λ (b : List ℕ). tokens_from start b more) (sym (append-nil begun))
tokens-word start begun (byte ∷ word) more plain =
    let none = either-none (is_blank byte) (has_blank word) plain in
    ap (λ test. if test then token_at start begun ++ tokens_from (start + length begun + 1) [] (word ++ more) else tokens_from start (begun ++ byte ∷ []) (word
    ++ more)) none.0
    ∙ tokens-word start (begun ++ byte ∷ []) word more none.1
    ∙ ap (λ (b : List ℕ). tokens_from start b more) (append_assoc begun (byte ∷ []) word)

-- the token goes on
goes-word : (fed : List ℕ) (reached : Reached) (start : ℕ) (begun word : List ℕ) → has_blank word ≡ false → GoesOn fed reached start begun
    → GoesOn (fed ++ word) reached start (begun ++ word)
goes-word fed reached start begun word plain goes more =
    ap reads (append_assoc fed word more) ∙ goes (word ++ more) ∙ ap (read_on reached.awaited reached.parts) (tokens-word start begun word more plain)

-- the token that is begun goes on with bytes without white space
pub reads-word : (wanted : Wanted) (parser : Parser) (start : ℕ) (begun fed word : List ℕ) → has_blank word ≡ false → Reads wanted parser start begun fed
    → Reads wanted parser start (begun ++ word) (fed ++ word)
reads-word wanted parser start begun fed word plain is = record {
  reached = is.reached;
  stands = is.stands;
  goes = goes-word fed is.reached start begun word plain is.goes;
  size = ap (λ n. start + n) (length-append begun word) ∙ (let s = is.size in let l = length-append fed word in omega (arith, s, l));
  past = is.past;
}

-- what a blank leads to
after-blank : (fed : List ℕ) (reached : Reached) (start : ℕ) (begun : List ℕ) (byte : ℕ) → is_blank byte ≡ true → GoesOn fed reached start begun
    → (step : Step) → read_on reached.awaited reached.parts (token_at start begun) ≡ step
    → (more : List ℕ) → reads ((fed ++ byte ∷ []) ++ more) ≡ (step >>= λ r. read_on r.awaited r.parts (tokens_from (start + length begun + 1) [] more))
after-blank fed reached start begun byte is goes step ends more =
    byte-front fed more byte ∙ goes (byte ∷ more)
    ∙ ap (λ test. read_on reached.awaited reached.parts (if test then token_at start begun ++ tokens_from (start + length begun + 1) [] more else tokens_from
    start (begun ++ byte ∷ []) more)) is
    ∙ read_on-append reached.awaited reached.parts (token_at start begun) (tokens_from (start + length begun + 1) [] more)
    ∙ ap (λ (s : Step). s >>= λ r. read_on r.awaited r.parts (tokens_from (start + length begun + 1) [] more)) ends

-- a text that has failed stays so
fails-text : (fed text : List ℕ) (stop : Stop) → Fails fed stop → Fails (fed ++ text) stop
fails-text fed text (stops.Syntax offset) fails = λ more. ap reads (append_assoc fed text more) ∙ fails (text ++ more)
fails-text fed text stops.Memory fails = fails

pub stays-failed : (wanted : Wanted) (stop : Option Stop) (parser : Parser) (start : ℕ) (begun fed text : List ℕ) (one : Stop) → stop ≡ Some one
    → Stands wanted stop parser start begun fed → Stands wanted stop parser start begun (fed ++ text)
stays-failed wanted stop parser start begun fed text one is st =
    subst (λ (o : Option Stop). Stands wanted o parser start begun (fed ++ text)) (sym is)
    (fails-text fed text one (subst (λ (o : Option Stop). Stands wanted o parser start begun fed) is st))

module _ (wanted : Wanted) (parser : Parser) (start : ℕ) (begun fed : List ℕ) (is : Reads wanted parser start begun fed) (byte : ℕ) where
  -- the token that is begun ends
  pub reads-blank : is_blank byte ≡ true → (new : Parser) → Takes wanted (Ok tt) new (read_on is.reached.awaited is.reached.parts (token_at start begun)) →
      new.dump.wires.block ≤ start + length begun
      → Reads wanted new (start + length begun + 1) [] (fed ++ byte ∷ [])
  reads-blank blank new takes past = record {
    reached = takes.0;
    stands = takes.1.1;
    goes = after-blank fed is.reached start begun byte blank is.goes (Ok takes.0) takes.1.0;
    size = let s = is.size in let l = length-append fed (byte ∷ []) in omega (arith, s, l);
    past = omega arith;
  }

  -- the token that is begun is against the profile
  pub fails-blank : is_blank byte ≡ true → (stop : Stop) (new : Parser) → Takes wanted (Err stop) new (read_on is.reached.awaited is.reached.parts (token_at
      start begun)) → Fails (fed ++ byte ∷ []) stop
  fails-blank blank (stops.Syntax offset) new takes = after-blank fed is.reached start begun byte blank is.goes (Err offset) takes
  fails-blank blank stops.Memory new takes = tt

-- a token that is whole
module _ (wanted : Wanted) (parser : Parser) (start : ℕ) (begun fed word : List ℕ) (none : begun ≡ []) (plain : has_blank word ≡ false) where
  pub whole-word : Reads wanted parser start begun fed → Reads wanted parser start word (fed ++ word)
  whole-word is = reads-word wanted parser start [] fed word plain (subst (λ (b : List ℕ). Reads wanted parser start b fed) none is)

-- ---- a piece

-- what is read of a piece
pub record FedSoFar (piece rest : List ℕ) (old new : VcdReader) : Type 0 where
  pub fed : List ℕ
  pub whole : piece ≡ fed ++ rest
  pub stands : (wanted : Wanted) (before : List ℕ) → StandsFor wanted old before → StandsFor wanted new (before ++ fed)

pub fed-nothing : (piece : List ℕ) (old : VcdReader) → FedSoFar piece piece old old
fed-nothing piece old = record { fed = []; whole = refl; stands = λ wanted before st. subst (StandsFor wanted old) (sym (append-nil before)) st }

pub fed-word : (piece rest word after : List ℕ) (old now new : VcdReader) → FedSoFar piece rest old now → IsFirstWord rest word after → EndsWord word now new
    → FedSoFar piece after old new
fed-word piece rest word after old now new so_far first ends = record {
  fed = so_far.fed ++ word ++ first.blank ∷ [];
  whole = so_far.whole ∙ ap (λ (l : List ℕ). so_far.fed ++ l) first.whole ∙ sym (append_assoc so_far.fed word (first.blank ∷ after))
      ∙ sym (append_assoc (so_far.fed ++ word) (first.blank ∷ []) after);
  stands = λ wanted before st. subst (StandsFor wanted new) (ap (λ (l : List ℕ). l ++ first.blank ∷ []) (append_assoc before so_far.fed word)
      ∙ append_assoc before (so_far.fed ++ word) (first.blank ∷ [])) (ends wanted (before ++ so_far.fed) first.blank first.ends (so_far.stands wanted before st));
}

pub fed-all : (piece rest : List ℕ) (old now new : VcdReader) → FedSoFar piece rest old now
    → ((wanted : Wanted) (fed : List ℕ) → StandsFor wanted now fed → StandsFor wanted new (fed ++ rest))
    → (wanted : Wanted) (before : List ℕ) → StandsFor wanted old before → StandsFor wanted new (before ++ piece)
fed-all piece rest old now new so_far last wanted before st =
    subst (StandsFor wanted new) (append_assoc before so_far.fed rest ∙ ap (λ (l : List ℕ). before ++ l) (sym so_far.whole))
    (last wanted (before ++ so_far.fed) (so_far.stands wanted before st))

-- there is room for a word and the white space after it
pub room-word : (piece rest word after : List ℕ) (old now : VcdReader) → FedSoFar piece rest old now → IsFirstWord rest word after → HasRoom old (length piece)
    → HasRoom now (length word + 1)
room-word piece rest word after old now so_far first room =
    let wanted = room.0 in let before = room.1.0 in let small = room.1.1.1 in
    let whole = ap length so_far.whole ∙ length-append so_far.fed rest in
    let part = ap length first.whole ∙ length-append word (first.blank ∷ after) in
    let fed = length-append before so_far.fed in
    (wanted, (before ++ so_far.fed, (so_far.stands wanted before room.1.1.0, omega (arith, small, whole, part, fed))))

-- a text that ends here
pub reads-all : (wanted : Wanted) (parser : Parser) (start : ℕ) (begun fed : List ℕ) (is : Reads wanted parser start begun fed)
    → reads fed ≡ read_on is.reached.awaited is.reached.parts (token_at start begun)
reads-all wanted parser start begun fed is = ap reads (sym (append-nil fed)) ∙ is.goes []

-- ---- the end

abbrev err-of : ℕ → Result (List Part) ℕ
err-of place = Err place

abbrev ok-of : List Part → Result (List Part) ℕ
ok-of parts = Ok parts

-- the text may not end here
pub finished-no : (found : Result (List Part) ℕ) (test : Bool) (parts : List Part) (size : ℕ) → found ≡ (if test then ok-of parts else err-of size)
    → test ≡ false → found ≡ err-of size
finished-no found test parts size is no_end = is ∙ ap (λ b. if b then ok-of parts else err-of size) no_end

-- the text may end here
pub finished-so : (found : Result (List Part) ℕ) (test : Bool) (parts : List Part) (size : ℕ) → found ≡ (if test then ok-of parts else err-of size)
    → test ≡ true → found ≡ ok-of parts
finished-so found test parts size is ends = is ∙ ap (λ b. if b then ok-of parts else err-of size) ends

pub syntax-at : (wanted : Wanted) (found : Result (List Part) ℕ) (size place : ℕ) → found ≡ err-of size → place ≡ size
    → kept_text (parts_shown wanted found) ≡ Err (faults.Syntax place)
unfolding parts_shown kept_text
syntax-at wanted found size place is same = ap (λ (r : Result (List Part) ℕ). kept_text (parts_shown wanted r)) (is ∙ ap err-of (sym same))

pub times-back : (wanted : Wanted) (found : Result (List Part) ℕ) (parts : List Part) (offset : ℕ) → found ≡ ok-of parts → time_back parts ≡ Some offset
    → kept_text (parts_shown wanted found) ≡ Err (faults.TimeBack offset)
unfolding parts_shown times_shown kept_text
times-back wanted found parts offset is back = ap (λ (r : Result (List Part) ℕ). kept_text (parts_shown wanted r)) is
    ∙ ap (λ (o : Option ℕ). kept_text (times_shown wanted parts o)) back

pub times-fine : (wanted : Wanted) (found : Result (List Part) ℕ) (parts : List Part) → found ≡ ok-of parts → time_back parts ≡ None
    → kept_text (parts_shown wanted found) ≡ kept_text (signals_shown wanted parts)
unfolding parts_shown times_shown
times-fine wanted found parts is back = ap (λ (r : Result (List Part) ℕ). kept_text (parts_shown wanted r)) is
    ∙ ap (λ (o : Option ℕ). kept_text (times_shown wanted parts o)) back

-- the token that is begun, where there is one
pub token-step : (awaited : Awaited) (parts : List Part) (start : ℕ) (begun bytes : List ℕ) → bytes ≡ begun → (length begun ≡ 0 → ⊥)
    → next awaited parts (parsers.token start bytes) ≡ read_on awaited parts (token_at start begun)
token-step awaited parts start [] bytes is some = absurd (some refl)
token-step awaited parts start (byte ∷ more) bytes is some = ap (λ (l : List ℕ). next awaited parts (parsers.token start l)) is
    ∙ sym (bind-done (next awaited parts (parsers.token start (byte ∷ more))))

pub not-empty : (bytes : List ℕ) → (length bytes == 0) ≡ false → length bytes ≡ 0 → ⊥
not-empty [] some none = let e = some in cc
not-empty (byte ∷ more) some none = omega (arith, none)

-- all tokens of a text are read
pub end-found : (wanted : Wanted) (fed : List ℕ) (reached : Reached) (size : ℕ) → reads fed ≡ Ok reached → size ≡ length fed
    → kept_text (shown wanted fed) ≡ kept_text (parts_shown wanted (finished size reached.awaited reached.parts))
end-found wanted fed reached size is same = ap (λ (s : Step). kept_text (parts_shown wanted (finish (length fed) s))) is
    ∙ ap (λ n. kept_text (parts_shown wanted (finished n reached.awaited reached.parts))) (sym same)

-- a token of the text is against the profile
abbrev pub EndsBy : List ℕ → Stop → Type 0
EndsBy fed (stops.Syntax offset) = reads fed ≡ Err offset
EndsBy fed stops.Memory = Unit {0}

pub stop-told : (wanted : Wanted) (fed : List ℕ) (stop : Stop) (fault : VcdFault) → fault ≡ fault_of stop → EndsBy fed stop
    → MatchOption (fault_in fault) (Unit {0}) (λ f. kept_text (shown wanted fed) ≡ Err f)
stop-told wanted fed stop fault is ends = subst (λ (f : VcdFault). MatchOption (fault_in f) (Unit {0}) (λ e. kept_text (shown wanted fed) ≡ Err e))
    (sym is) (told wanted fed stop ends)
  where
    told : (wanted : Wanted) (fed : List ℕ) (stop : Stop) → EndsBy fed stop → MatchOption (fault_in (fault_of stop)) (Unit {0})
        (λ f. kept_text (shown wanted fed) ≡ Err f)
    told wanted fed (stops.Syntax offset) ends = syntax-at wanted (finish (length fed) (reads fed)) offset offset (ap (finish (length fed)) ends) refl
    told wanted fed stops.Memory ends = tt

pub ends-by : (wanted : Wanted) (fed : List ℕ) (stop : Stop) (new : Parser) (step : Step) → reads fed ≡ step → Takes wanted (Err stop) new step
    → EndsBy fed stop
ends-by wanted fed (stops.Syntax offset) new step is takes = is ∙ takes
ends-by wanted fed stops.Memory new step is takes = tt

pub fails-by : (fed : List ℕ) (stop : Stop) → Fails fed stop → EndsBy fed stop
fails-by fed (stops.Syntax offset) fails = ap reads (sym (append-nil fed)) ∙ fails []
fails-by fed stops.Memory fails = tt
