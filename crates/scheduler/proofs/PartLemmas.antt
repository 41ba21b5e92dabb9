-- Parts of one length, and ascending lists of dimensions.
use Rattle.std.proofs.Common.{◌≡◌, ◌∙◌, ◌⊎◌, inl, inr, ℕ, zero, suc, ◌+◌, ◌*◌, ◌<◌, ◌≤◌, Bool, true, false, ◌==◌, nat_lt, if◌then◌else◌, List, [], ◌∷◌, ◌++◌, length, take, drop, get_or, map, refl, sym, ap, arith}
use Rattle.std.proofs.Math.Nat.{suc-mul, mul-le-mul_right}
use Rattle.std.proofs.Math.Seq.{drop-append_seam}
use Rattle.std.proofs.lemmas.Bool.{cases_lt}
use Rattle.std.proofs.lemmas.Bool.Decides.{nat_tests}
use Rattle.std.proofs.lemmas.List.{append-nil, length-append, take_all, drop-append-le, take-append-le, get_or_append_left, get_or-append_right, length-drop, map-append}
use Rattle.physical_stream.specs.Items.{parts_below}
use Rattle.physical_stream.specs.declared.item.Item.{Item}
use Rattle.physical_stream.specs.declared.item.Item.TheVariants.{Close}
use Rattle.scheduler.specs.Lanes.{is_among}

pub length-parts : {A : Type 0} (f : ℕ → List A) (w n : ℕ) → ((i : ℕ) → i < n → length (f i) ≡ w) → length (parts_below f n) ≡ n * w
length-parts f w zero each = omega arith
length-parts f w (suc n) each = omega (arith, length-append (parts_below f n) (f n), length-parts f w n (λ i less. each i (omega arith)), each n (omega arith), suc-mul n w)

pub before-next : (i n w : ℕ) → i < n → i * w + w ≤ n * w
before-next i n w less = omega (arith, suc-mul i w, mul-le-mul_right {m = suc i} {n = n} w (omega arith))

pub part-word : {A : Type 0} (f : ℕ → List A) (w n i : ℕ) → i < n → ((i : ℕ) → i < n → length (f i) ≡ w) → take w (drop (i * w) (parts_below f n)) ≡ f i
part-word f w zero i less each = absurd (omega (arith, less))
part-word {A} f w (suc n) i less each = by_place (λ l. part-word f w n i l (λ j m. each j (omega arith))) (cases_lt i n)
  where
    long : length (parts_below f n) ≡ n * w
    long = length-parts f w n (λ j l. each j (omega arith))

    by_place : (i < n → take w (drop (i * w) (parts_below f n)) ≡ f i) → (i < n) ⊎ (n ≤ i) → take w (drop (i * w) (parts_below f n ++ f n)) ≡ f i
    by_place earlier (inl l) =
        let room = before-next i n w l in
        ap (take w) (drop-append-le (i * w) (parts_below f n) (f n) (omega (arith, long)))
        ∙ take-append-le w (drop (i * w) (parts_below f n)) (f n) (omega (arith, long, length-drop (i * w) (parts_below f n)))
        ∙ earlier l
    by_place earlier (inr m) =
        let same : i ≡ n = omega arith in
        let at : i * w ≡ length (parts_below f n) = ap (λ (k : ℕ). k * w) same ∙ sym long in
        ap (λ (k : ℕ). take w (drop k (parts_below f n ++ f n))) at ∙ ap (take w) (drop-append_seam (parts_below f n) (f n)) ∙ take_all w (f n) (omega (arith, each n (omega arith))) ∙ ap f (sym same)

pub part-at : {A : Type 0} (f : ℕ → List A) (w n i j : ℕ) (d : A) → i < n → j < w → ((i : ℕ) → i < n → length (f i) ≡ w) → get_or (parts_below f n) (i * w + j) d ≡ get_or (f i) j d
part-at f w zero i j d less within each = absurd (omega (arith, less))
part-at {A} f w (suc n) i j d less within each = by_place (λ l. part-at f w n i j d l within (λ j m. each j (omega arith))) (cases_lt i n)
  where
    long : length (parts_below f n) ≡ n * w
    long = length-parts f w n (λ j l. each j (omega arith))

    by_place : (i < n → get_or (parts_below f n) (i * w + j) d ≡ get_or (f i) j d) → (i < n) ⊎ (n ≤ i) → get_or (parts_below f n ++ f n) (i * w + j) d ≡ get_or (f i) j d
    by_place earlier (inl l) =
        let room = before-next i n w l in
        get_or_append_left (parts_below f n) (f n) d (i * w + j) (omega (arith, long)) ∙ earlier l
    by_place earlier (inr m) =
        let same : i ≡ n = omega arith in
        let at : i * w ≡ n * w = ap (λ (k : ℕ). k * w) same in
        get_or-append_right (parts_below f n) (f n) (n * w) (i * w + j) d long (omega (arith, at)) ∙ ap (λ (k : ℕ). get_or (f n) k d) (omega (arith, at)) ∙ ap (λ (k : ℕ). get_or (f k) j d) (sym same)

pub bit-parts : (g : ℕ → Bool) (n j : ℕ) → j < n → get_or (parts_below (λ i. g i ∷ []) n) j false ≡ g j
bit-parts g n j less = ap (λ (k : ℕ). get_or (parts_below (λ i. g i ∷ []) n) k false) (omega arith) ∙ part-at (λ i. g i ∷ []) 1 n j 0 false less (omega arith) (λ i l. refl)

-- ---- ascending dimensions

-- they rise, from the least one on
abbrev pub Rise : ℕ → List ℕ → Type 0
Rise least [] = Unit {0}
Rise least (d ∷ ds) = (least ≤ d) × Rise (suc d) ds

abbrev pub Below : ℕ → List ℕ → Type 0
Below most [] = Unit {0}
Below most (d ∷ ds) = (d < most) × Below most ds

abbrev low : ℕ → List ℕ → List ℕ
low n [] = []
low n (d ∷ ds) = if nat_lt d n then d ∷ low n ds else []

pub lt-true : (a b : ℕ) → a < b → nat_lt a b ≡ true
lt-true a b less = grind (arith, nat_tests)

pub lt-false : (a b : ℕ) → b ≤ a → nat_lt a b ≡ false
lt-false a b more = grind (arith, nat_tests)

pub eq-true : (a b : ℕ) → a ≡ b → (a == b) ≡ true
eq-true a b same = grind (arith, nat_tests)

pub eq-false : (a b : ℕ) → (a ≡ b → ⊥) → (a == b) ≡ false
eq-false a b other = grind (arith, nat_tests)

low-none : (n least : ℕ) (ds : List ℕ) → Rise least ds → n ≤ least → low n ds ≡ []
low-none n least [] rise less = refl
low-none n least (d ∷ ds) rise less = rw (lt-false d n (omega (arith, rise.0, less))) refl

among-none : (n least : ℕ) (ds : List ℕ) → Rise least ds → n < least → is_among n ds ≡ false
among-none n least [] rise less = refl
among-none n least (d ∷ ds) rise less =
    rw (eq-false n d (λ same. omega (arith, rise.0, less, same)), among-none n (suc d) ds rise.1 (omega (arith, rise.0, less))) refl

low-next : (n least : ℕ) (ds : List ℕ) → Rise least ds → low (suc n) ds ≡ low n ds ++ (if is_among n ds then n ∷ [] else [])
low-next n least [] rise = refl
low-next n least (d ∷ ds) rise = by_place (low-next n (suc d) ds rise.1) (cases_lt d n)
  where
    among-high : n < d → is_among n (d ∷ ds) ≡ false
    among-high less = among-none n d (d ∷ ds) (omega arith, rise.1) less

    by_more : (n < d) ⊎ (d ≤ n) → n ≤ d → low (suc n) (d ∷ ds) ≡ low n (d ∷ ds) ++ (if is_among n (d ∷ ds) then n ∷ [] else [])
    by_more (inl more) le = rw (lt-false d (suc n) (omega arith), lt-false d n le, among-high more) refl
    by_more (inr less) le =
        let same : d ≡ n = omega arith in
        rw (lt-true d (suc n) (omega arith), lt-false d n le, eq-true n d (sym same), low-none (suc n) (suc d) ds rise.1 (omega (arith, same))) (ap (λ (k : ℕ). k ∷ []) same)

    by_place : low (suc n) ds ≡ low n ds ++ (if is_among n ds then n ∷ [] else []) → (d < n) ⊎ (n ≤ d) → low (suc n) (d ∷ ds) ≡ low n (d ∷ ds) ++ (if is_among n (d ∷ ds) then n ∷ [] else [])
    by_place earlier (inl less) =
        rw (lt-true d (suc n) (omega arith), lt-true d n less, eq-false n d (λ same. omega (arith, less, same))) (ap (λ (l : List ℕ). d ∷ l) earlier)
    by_place earlier (inr le) = by_more (cases_lt n d) le

low-all : (n : ℕ) (ds : List ℕ) → Below n ds → low n ds ≡ ds
low-all n [] all = refl
low-all n (d ∷ ds) all = rw (lt-true d n all.0) (ap (λ (l : List ℕ). d ∷ l) (low-all n ds all.1))

low-zero : (ds : List ℕ) → low 0 ds ≡ []
low-zero [] = refl
low-zero (d ∷ ds) = rw (lt-false d 0 (omega arith)) refl

marked : (ds : List ℕ) (n : ℕ) → List Item
marked ds n = if is_among n ds then Close n ∷ [] else []

closes-low : (ds : List ℕ) (n : ℕ) → Rise 0 ds → parts_below (λ dim. if is_among dim ds then Close dim ∷ [] else []) n ≡ map Close (low n ds)
closes-low ds zero rise = sym (ap (map Close) (low-zero ds))
closes-low ds (suc n) rise =
    ap (λ (l : List Item). l ++ (if is_among n ds then Close n ∷ [] else [])) (closes-low ds n rise) ∙ by_test (is_among n ds) ∙ sym (ap (map Close) (low-next n 0 ds rise))
  where
    by_test : (test : Bool) → map Close (low n ds) ++ (if test then Close n ∷ [] else []) ≡ map Close (low n ds ++ (if test then n ∷ [] else []))
    by_test true = sym (map-append Close (low n ds) (n ∷ []))
    by_test false = append-nil (map Close (low n ds)) ∙ ap (map Close) (sym (append-nil (low n ds)))

-- the dimensions that a lane marks are those that it closes
pub closes-are : (ds : List ℕ) (n : ℕ) → Rise 0 ds → Below n ds → parts_below (λ dim. if is_among dim ds then Close dim ∷ [] else []) n ≡ map Close ds
closes-are ds n rise all = closes-low ds n rise ∙ ap (map Close) (low-all n ds all)
