-- Pulling a file piece by piece, and feeding it to a reader.
use Rattle.std.proofs.Common.{zero-le, Bool, true, IfSome, IsSome, ◌≡◌, ℕ, ◌+◌, ◌<◌, ◌≤◌, List, [], ◌∷◌, ◌++◌, length, take, drop, Option, None, Some, option_map, unwrap_or, refl, sym, ap, ◌∙◌, subst, arith, append_assoc, length-drop, length-append, Result, Ok, Err}
use Rattle.std.proofs.Math.Seq.{take-add}
use Rattle.std.proofs.lemmas.List.{take_all, append-nil}
use Rattle.tydi_io.specs.Store.{Files, Finds, started_at, left_of, given_more}
use Rattle.tydi_io.specs.declared.failed.Failed.{Failed}
use Rattle.tydi_tool.specs.Words.{FileWord}
use Rattle.tydi_tool.specs.Files.{IsFound, IsPulled, IsGiven}
use Rattle.tydi_tool.specs.Loading.{IsFed, IsLoaded, Loads, IsAtStart, Gives, IsFedMore, Feeds}
use Rattle.tydi_tool.specs.declared.loading.LoadError.{LoadError}
use Rattle.tydi_tool.specs.declared.loading.LoadError.TheVariants as errors
use Rattle.tydi_tool.proofs.FileLemmas.{file_of-there, file_of-long, pulled_out-at, IsGiven-there}

-- while a file is pulled: its first bytes were given, and they are these
pub record Progress (known : Files) (word : List ℕ) (started : Option (List ℕ × ℕ)) (bytes : List ℕ) : Type 0 where
  file : List ℕ
  named : known word ≡ Some file
  place : started ≡ Some (word, length bytes)
  within : length bytes ≤ length file
  front : bytes ≡ take (length bytes) file

-- the rest of a file in progress
left_of-progress : (known : Files) (word : List ℕ) (started : Option (List ℕ × ℕ)) (bytes : List ℕ) (p : Progress known word started bytes) →
    left_of known started ≡ drop (length bytes) p.file
left_of-progress known word started bytes p =
    ap (left_of known) p.place ∙ ap (λ (found : Option (List ℕ)). drop (length bytes) (unwrap_or found [])) p.named

-- a file at its start, of which nothing was given
Progress-start : (known : Files) (word : List ℕ) (started : Option (List ℕ × ℕ)) → IsAtStart known word started → Progress known word started []
Progress-start known word started s = record { file = s.file; named = s.named; place = s.place; within = zero-le; front = refl }

-- one pull more
Progress-more : (known : Files) (word : List ℕ) (before after : Option (List ℕ × ℕ)) (bytes more : List ℕ) →
    Progress known word before bytes → Gives known before after more → Progress known word after (bytes ++ more)
Progress-more known word before after bytes more p gives =
    let left = left_of-progress known word before bytes p in
    let grown : length (bytes ++ more) ≡ length bytes + length more = length-append bytes more in
    let room : length more ≤ length (drop (length bytes) p.file) = subst (λ (l : List ℕ). length more ≤ length l) left gives.within in
    let joined : bytes ++ more ≡ take (length bytes + length more) p.file =
    ap (λ (l : List ℕ). bytes ++ l) (gives.bytes ∙ ap (take (length more)) left) ∙ ap (λ (l : List ℕ). l ++ take (length more) (drop (length bytes) p.file)) p.front
    ∙ sym (take-add (length bytes) (length more) p.file) in
    record {
      file = p.file;
      named = p.named;
      place = gives.place ∙ ap (λ (s : Option (List ℕ × ℕ)). given_more s (length more)) p.place ∙ ap (λ k. Some (word, k)) (sym grown);
      within = omega (arith, grown, room, length-drop (length bytes) p.file, p.within);
      front = joined ∙ ap (λ k. take k p.file) (sym grown);
    }

-- nothing came: all is there
Progress-end : (known : Files) (word : List ℕ) (before after : Option (List ℕ × ℕ)) (bytes more : List ℕ) →
    Progress known word before bytes → Gives known before after more → more ≡ [] → known word ≡ Some (bytes ++ more)
Progress-end known word before after bytes more p gives none =
    let left = left_of-progress known word before bytes p in
    let empty : drop (length bytes) p.file ≡ [] = sym left ∙ gives.ends none in
    let over : length p.file ≤ length bytes = omega (arith, ap length empty, length-drop (length bytes) p.file) in
    let is : p.file ≡ bytes = sym (take_all (length bytes) p.file over) ∙ sym p.front in
    p.named ∙ ap Some (is ∙ sym (append-nil bytes) ∙ ap (λ (l : List ℕ). bytes ++ l) (sym none))

-- a file in progress is given within its limit
IsGiven-progress : (known : Files) (word : List ℕ) (limit : ℕ) (started : Option (List ℕ × ℕ)) (bytes : List ℕ) → Progress known word started bytes →
    length bytes ≤ limit + 1 → IsGiven known (record { word = word; limit = limit }) started
IsGiven-progress known word limit started bytes p h =
    IsGiven-there known (record { word = word; limit = limit }) p.file started p.named (record { given = length bytes; within = p.within; limited = h; place = p.place })

-- ---- with a reader

-- so many bytes were pulled since the file was started, and the reader was fed them
pub record PulledFrom {X : Type 0} (told : Option Files) (first started : Option (List ℕ × ℕ)) (old new : List ℕ → Result X (List ℕ) → Type 0) (given : ℕ) : Type 0 where
  bytes : List ℕ
  counted : length bytes ≡ given
  fed : IsFed old new bytes
  front : IfSome told (λ known. (word : List ℕ) → IsAtStart known word first → Progress known word started bytes)

pub PulledFrom-none : {X : Type 0} (told : Option Files) (first : Option (List ℕ × ℕ)) (reads : List ℕ → Result X (List ℕ) → Type 0) → PulledFrom told first first reads reads 0
PulledFrom-none {X} told first reads = record { bytes = []; counted = refl; fed = λ rest read r. r; front = front told }
  where
    front : (told : Option Files) → IfSome told (λ known. (word : List ℕ) → IsAtStart known word first → Progress known word first [])
    front None = tt
    front (Some known) = λ word s. Progress-start known word first s

-- one pull more, as the store reports it
more_front : (told told' : Option Files) (first before after : Option (List ℕ × ℕ)) (bytes more : List ℕ) → told' ≡ told →
    IfSome told (λ known. (word : List ℕ) → IsAtStart known word first → Progress known word before bytes) → IfSome told' (λ known. Gives known before after more) →
    IfSome told (λ known. (word : List ℕ) → IsAtStart known word first → Progress known word after (bytes ++ more))
more_front None told' first before after bytes more same front gives = tt
more_front (Some known) told' first before after bytes more same front gives =
    let gives' : Gives known before after more = subst (λ (t : Option Files). IfSome t (λ known. Gives known before after more)) same gives in
    λ word s. Progress-more known word before after bytes more (front word s) gives'

IsFed-more : {X : Type 0} (old mid new : List ℕ → Result X (List ℕ) → Type 0) (bytes more : List ℕ) → IsFed old mid bytes → IsFed mid new more → IsFed old new (bytes ++ more)
IsFed-more {X} old mid new bytes more fed fed_more =
    λ rest read r. subst (λ (l : List ℕ). old l read) (sym (append_assoc bytes more rest)) (fed (more ++ rest) read (fed_more rest read r))

pub PulledFrom-more : {X : Type 0} (told told' : Option Files) (first before after : Option (List ℕ × ℕ)) (old mid new : List ℕ → Result X (List ℕ) → Type 0) (given count : ℕ) → told' ≡ told →
    PulledFrom told first before old mid given → IsFedMore told' before after mid new count → PulledFrom told first after old new (given + count)
PulledFrom-more {X} told told' first before after old mid new given count same p m = record {
  bytes = p.bytes ++ m.more;
  counted = length-append p.bytes m.more ∙ (omega (arith, p.counted, m.counted));
  fed = IsFed-more old mid new p.bytes m.more p.fed m.fed;
  front = more_front told told' first before after p.bytes m.more same p.front m.gives;
}

no_more : (more : List ℕ) → length more ≡ 0 → more ≡ []
no_more [] h = refl
no_more (byte ∷ more) h = absurd (omega (arith, h))

-- nothing came: the file is loaded
pub Loads-end : {X : Type 0} (told told' : Option Files) (limit count : ℕ) (first before after : Option (List ℕ × ℕ)) (old mid new : List ℕ → Result X (List ℕ) → Type 0) (given : ℕ) → told' ≡ told →
    PulledFrom told first before old mid given → IsFedMore told' before after mid new count → count ≡ 0 → given ≤ limit →
    (word : List ℕ) → IfSome told (λ known. IsAtStart known word first) → IsLoaded told (record { word = word; limit = limit }) after old new
Loads-end {X} told told' limit count first before after old mid new given same p m none within word start = record {
  bytes = p.bytes ++ m.more;
  found = found told same p.front start;
  pulled = pulled told same p.front start;
  fed = IsFed-more old mid new p.bytes m.more p.fed m.fed;
}
  where
    file : FileWord
    file = record { word = word; limit = limit }

    short : length (p.bytes ++ m.more) ≤ limit
    short = omega (arith, length-append p.bytes m.more, p.counted, m.counted, none, within)

    named : (known : Files) → told' ≡ Some known → Progress known word before p.bytes → known word ≡ Some (p.bytes ++ m.more)
    named known is progress =
        let gives : Gives known before after m.more = subst (λ (t : Option Files). IfSome t (λ known. Gives known before after m.more)) is m.gives in
        Progress-end known word before after p.bytes m.more progress gives (no_more m.more (m.counted ∙ none))

    found : (told : Option Files) → told' ≡ told → IfSome told (λ known. (word : List ℕ) → IsAtStart known word first → Progress known word before p.bytes) →
        IfSome told (λ known. IsAtStart known word first) → IsFound told file (Ok (p.bytes ++ m.more))
    found None is front start = short
    found (Some known) is front start = file_of-there known file (p.bytes ++ m.more) (named known is (front word start)) short

    pulled : (told : Option Files) → told' ≡ told → IfSome told (λ known. (word : List ℕ) → IsAtStart known word first → Progress known word before p.bytes) →
        IfSome told (λ known. IsAtStart known word first) → IsPulled told file after
    pulled None is front start = tt
    pulled (Some known) is front start =
        let gives : Gives known before after m.more = subst (λ (t : Option Files). IfSome t (λ known. Gives known before after m.more)) is m.gives in
        let progress = Progress-more known word before after p.bytes m.more (front word start) gives in
        progress.place ∙ pulled_out-at known file (p.bytes ++ m.more) (length (p.bytes ++ m.more)) (named known is (front word start)) (omega (arith, short))

-- a pull failed, or the reader had no memory
pub Loads-error : {X : Type 0} (T : Type 0) (told told' : Option Files) (limit room : ℕ) (first before after : Option (List ℕ × ℕ)) (old mid new : List ℕ → Result X (List ℕ) → Type 0) (given : ℕ) (error : LoadError) → told' ≡ told →
    PulledFrom told first before old mid given → Feeds told' before after mid new room (Err error) → given + room ≤ limit + 1 →
    (word : List ℕ) → IfSome told (λ known. IsAtStart known word first) → Loads {T = T} told (record { word = word; limit = limit }) after old new (Err error)
Loads-error {X} T told told' limit room first before after old mid new given errors.NoFile same p feeds h word start = absurd feeds
Loads-error {X} T told told' limit room first before after old mid new given errors.TooLong same p feeds h word start = absurd feeds
Loads-error {X} T None told' limit room first before after old mid new given errors.ReadFault same p feeds h word start = tt
Loads-error {X} T (Some known) told' limit room first before after old mid new given errors.ReadFault same p feeds h word start =
    let stays : after ≡ before = subst (λ (t : Option Files). IfSome t (λ known. after ≡ before)) same feeds in
    subst (IsGiven known (record { word = word; limit = limit })) (sym stays) (IsGiven-progress known word limit before p.bytes (p.front word start) (omega (arith, p.counted)))
Loads-error {X} T None told' limit room first before after old mid new given errors.Memory same p feeds h word start = tt
Loads-error {X} T (Some known) told' limit room first before after old mid new given errors.Memory same p feeds h word start =
    let gives : Gives known before after feeds.more = subst (λ (t : Option Files). IfSome t (λ known. Gives known before after feeds.more)) same feeds.gives in
    IsGiven-progress known word limit after (p.bytes ++ feeds.more) (Progress-more known word before after p.bytes feeds.more (p.front word start) gives)
    (omega (arith, length-append p.bytes feeds.more, p.counted, feeds.limited))

-- more came than the limit
pub Loads-long : {X : Type 0} (T : Type 0) (told : Option Files) (limit : ℕ) (first after : Option (List ℕ × ℕ)) (old new : List ℕ → Result X (List ℕ) → Type 0) (given : ℕ) →
    PulledFrom told first after old new given → limit < given → given ≤ limit + 1 →
    (word : List ℕ) → IfSome told (λ known. IsAtStart known word first) → Loads {T = T} told (record { word = word; limit = limit }) after old new (Err errors.TooLong)
Loads-long {X} T None limit first after old new given p over within word start = (tt, tt)
Loads-long {X} T (Some known) limit first after old new given p over within word start =
    let progress = p.front word start in (
      file_of-long known (record { word = word; limit = limit }) progress.file progress.named (omega (arith, progress.within, p.counted)),
      progress.place ∙ pulled_out-at known (record { word = word; limit = limit }) progress.file (length p.bytes) progress.named (omega (arith, progress.within, p.counted)),
    )

-- out of memory before anything was pulled
pub Loads-memory : {X : Type 0} (T : Type 0) (told : Option Files) (limit : ℕ) (first : Option (List ℕ × ℕ)) (old new : List ℕ → Result X (List ℕ) → Type 0) →
    (word : List ℕ) → IfSome told (λ known. IsAtStart known word first) → Loads {T = T} told (record { word = word; limit = limit }) first old new (Err errors.Memory)
Loads-memory {X} T None limit first old new word start = tt
Loads-memory {X} T (Some known) limit first old new word start = IsGiven-progress known word limit first [] (Progress-start known word first start) zero-le

-- ---- the start

some_value : (o : Option (List ℕ)) → IsSome o → (x : List ℕ) × (o ≡ Some x)
some_value (Some x) h = (x, refl)
some_value None h = cc

-- a start that finds the file leaves it at its start
pub started-there : (told : Option Files) (name word : List ℕ) (started : Option (List ℕ × ℕ)) (there : Bool) → name ≡ word → there ≡ true →
    IfSome told (λ known. started ≡ started_at known name) → IfSome told (λ known. Finds {E = Failed} known name (Ok there)) → IfSome told (λ known. IsAtStart known word started)
started-there None name word started there is holds at found = tt
started-there (Some known) name word started there is holds at found =
    let named = some_value (known name) (found.0 holds) in
    subst (λ (w : List ℕ). IsAtStart known w started) is (record { file = named.0; named = named.1; place = at ∙ ap (option_map (λ _. (name, 0))) named.1 })

-- and then the file is pulled
pub Loads-there : {X T : Type 0} (told told' : Option Files) (word : List ℕ) (limit : ℕ) (first after : Option (List ℕ × ℕ)) (old new : List ℕ → Result X (List ℕ) → Type 0) (result : Result T LoadError) →
    told' ≡ told →
    ((word : List ℕ) → IfSome told' (λ known. IsAtStart known word first) → Loads told' (record { word = word; limit = limit }) after old new result) →
    IfSome told (λ known. IsAtStart known word first) → Loads told (record { word = word; limit = limit }) after old new result
Loads-there {X} {T} told told' word limit first after old new result same loads start =
    let loads' = subst (λ (t : Option Files). (word : List ℕ) → IfSome t (λ known. IsAtStart known word first) → Loads t (record { word = word; limit = limit }) after old new result) same loads in
    loads' word start
