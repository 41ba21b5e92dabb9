-- The items that the transfer of some lanes carries.
use Rattle.std.proofs.Common.{◌≡◌, ◌∙◌, ◌⊎◌, inl, inr, ℕ, zero, suc, ◌-◌, ◌^◌, ◌<◌, ◌≤◌, Bool, true, false, ◌||◌, ◌&&◌, ◌==◌, nat_le, if◌then◌else◌, List, [], ◌∷◌, ◌++◌, length, map, Option, Some, None, is_some, max, refl, sym, ap, arith}
use Rattle.std.specs.Int.{bit_at}
use Rattle.std.proofs.lemmas.Bool.{cases_lt, or_right}
use Rattle.std.proofs.lemmas.Bool.Decides.{nat_tests}
use Rattle.std.proofs.lemmas.Nat.Bits.{bit_at_or, bit_at-pow_same, bit_at-pow_other, bit_at-zero, bit_at_ones}
use Rattle.tydi_base.specs.Level.{number_of}
use Rattle.physical_stream.specs.Params.{Parameters}
use Rattle.physical_stream.specs.Items.{parts_below, items_of, lane_items, lane_closes, lane_word, last_bit, is_active}
use Rattle.physical_stream.proofs.PartsLemmas.{parts_below-same, length-parts_below}
use Rattle.physical_stream.specs.declared.item.Item.{Item}
use Rattle.physical_stream.specs.declared.item.Item.TheVariants.{Elem, Close}
use Rattle.scheduler.specs.Lanes.{Lane, word_or, is_among, lowest_active, highest_active, some_active, active_bits, transfer_of}
use Rattle.scheduler.proofs.PartLemmas.{part-word, part-at, bit-parts, closes-are, Rise, Below}

abbrev pub acts : (ℕ → Lane) → ℕ → Bool
acts lanes i = is_some (lanes i).word

-- ---- the lowest and the greatest active lane

lowest-other : (lanes : ℕ → Lane) (n other : ℕ) → n ≤ other → lowest_active lanes n other ≤ other
lowest-other lanes zero other le = omega arith
lowest-other lanes (suc n) other le = by_test (lowest-other lanes n n (omega arith)) (lowest-other lanes n other (omega arith)) (acts lanes n)
  where
    by_test : lowest_active lanes n n ≤ n → lowest_active lanes n other ≤ other → (test : Bool) → lowest_active lanes n (if test then n else other) ≤ other
    by_test own kept true = omega (arith, own, le)
    by_test own kept false = kept

pub lowest-le : (lanes : ℕ → Lane) (n other i : ℕ) → i < n → acts lanes i ≡ true → lowest_active lanes n other ≤ i
lowest-le lanes zero other i less sure = absurd (omega (arith, less))
lowest-le lanes (suc n) other i less sure = by_place (λ l. lowest-le lanes n (if acts lanes n then n else other) i l sure) (cases_lt i n)
  where
    by_place : (i < n → lowest_active lanes n (if acts lanes n then n else other) ≤ i) → (i < n) ⊎ (n ≤ i) → lowest_active lanes n (if acts lanes n then n else other) ≤ i
    by_place earlier (inl l) = earlier l
    by_place earlier (inr m) =
        let same : i ≡ n = omega arith in
        let here : acts lanes n ≡ true = ap (acts lanes) (sym same) ∙ sure in
        rw here (omega (arith, lowest-other lanes n n (omega arith), same))

pub highest-ge : (lanes : ℕ → Lane) (n other i : ℕ) → i < n → acts lanes i ≡ true → i ≤ highest_active lanes n other
highest-ge lanes zero other i less sure = absurd (omega (arith, less))
highest-ge lanes (suc n) other i less sure = by_test (λ l. highest-ge lanes n other i l sure) (acts lanes n) refl
  where
    by_test : (i < n → i ≤ highest_active lanes n other) → (test : Bool) → acts lanes n ≡ test → i ≤ (if test then n else highest_active lanes n other)
    by_test earlier true is = omega (arith, less)
    by_test earlier false is = by_place (cases_lt i n)
      where
        by_place : (i < n) ⊎ (n ≤ i) → i ≤ highest_active lanes n other
        by_place (inl l) = earlier l
        by_place (inr m) = let same : i ≡ n = omega arith in let clash : true ≡ false = sym sure ∙ ap (acts lanes) same ∙ is in cc

pub lowest-is : (lanes : ℕ → Lane) (n other : ℕ) → (acts lanes other ≡ true) ⊎ (some_active lanes n ≡ true) → acts lanes (lowest_active lanes n other) ≡ true
lowest-is lanes zero other (inl here) = here
lowest-is lanes zero other (inr some) = cc
lowest-is lanes (suc n) other some = by_test (λ x s. lowest-is lanes n x s) (acts lanes n) refl some
  where
    by_test : ((x : ℕ) → (acts lanes x ≡ true) ⊎ (some_active lanes n ≡ true) → acts lanes (lowest_active lanes n x) ≡ true) → (test : Bool) → acts lanes n ≡ test →
        (acts lanes other ≡ true) ⊎ ((some_active lanes n || test) ≡ true) → acts lanes (lowest_active lanes n (if test then n else other)) ≡ true
    by_test earlier true is s = earlier n (inl is)
    by_test earlier false is (inl here) = earlier other (inl here)
    by_test earlier false is (inr some) = earlier other (inr (grind (arith, nat_tests)))

pub highest-is : (lanes : ℕ → Lane) (n other : ℕ) → some_active lanes n ≡ true → acts lanes (highest_active lanes n other) ≡ true
highest-is lanes zero other some = cc
highest-is lanes (suc n) other some = by_test (highest-is lanes n other) (acts lanes n) refl some
  where
    by_test : (some_active lanes n ≡ true → acts lanes (highest_active lanes n other) ≡ true) → (test : Bool) → acts lanes n ≡ test → (some_active lanes n || test) ≡ true →
        acts lanes (if test then n else highest_active lanes n other) ≡ true
    by_test earlier true is some = is
    by_test earlier false is some = earlier (grind (arith, nat_tests))

pub some-from : (lanes : ℕ → Lane) (n i : ℕ) → i < n → acts lanes i ≡ true → some_active lanes n ≡ true
some-from lanes zero i less sure = absurd (omega (arith, less))
some-from lanes (suc n) i less sure = by_place (λ l. some-from lanes n i l sure) (cases_lt i n)
  where
    by_place : (i < n → some_active lanes n ≡ true) → (i < n) ⊎ (n ≤ i) → (some_active lanes n || acts lanes n) ≡ true
    by_place earlier (inl l) = ap (λ (b : Bool). b || acts lanes n) (earlier l)
    by_place earlier (inr m) =
        let same : i ≡ n = omega arith in
        or_right (some_active lanes n) (acts lanes n) (ap (acts lanes) (sym same) ∙ sure)

-- ---- the strobe

abbrev pub bit_for : Bool → ℕ
bit_for test = if test then 1 else 0

bits-above : (lanes : ℕ → Lane) (n i : ℕ) → n ≤ i → bit_at (active_bits lanes n) i ≡ 0
bits-above lanes zero i le = bit_at-zero i
bits-above lanes (suc n) i le = bit_at_or (active_bits lanes n) (if acts lanes n then 2 ^ n else 0) i ∙ by_test (bits-above lanes n i (omega arith)) (acts lanes n)
  where
    by_test : bit_at (active_bits lanes n) i ≡ 0 → (test : Bool) → max (bit_at (active_bits lanes n) i) (bit_at (if test then 2 ^ n else 0) i) ≡ 0
    by_test earlier true = omega (arith, earlier, bit_at-pow_other n i (λ same. omega (arith, le, same)))
    by_test earlier false = omega (arith, earlier, bit_at-zero i)

pub bits-are : (lanes : ℕ → Lane) (n i : ℕ) → i < n → bit_at (active_bits lanes n) i ≡ bit_for (acts lanes i)
bits-are lanes zero i less = absurd (omega (arith, less))
bits-are lanes (suc n) i less = bit_at_or (active_bits lanes n) (if acts lanes n then 2 ^ n else 0) i ∙ by_place (bits-are lanes n i) (cases_lt i n)
  where
    by_place : (i < n → bit_at (active_bits lanes n) i ≡ bit_for (acts lanes i)) → (i < n) ⊎ (n ≤ i) →
        max (bit_at (active_bits lanes n) i) (bit_at (if acts lanes n then 2 ^ n else 0) i) ≡ bit_for (acts lanes i)
    by_place earlier (inl l) = by_test (earlier l) (acts lanes n)
      where
        by_test : bit_at (active_bits lanes n) i ≡ bit_for (acts lanes i) → (test : Bool) → max (bit_at (active_bits lanes n) i) (bit_at (if test then 2 ^ n else 0) i) ≡ bit_for (acts lanes i)
        by_test is true = omega (arith, is, bit_at-pow_other n i (λ same. omega (arith, l, same)))
        by_test is false = omega (arith, is, bit_at-zero i)
    by_place earlier (inr m) =
        let same : i ≡ n = omega arith in
        by_test (bits-above lanes n i m) (acts lanes n) (acts lanes i) (ap (acts lanes) (sym same)) same
      where
        by_test : bit_at (active_bits lanes n) i ≡ 0 → (test one : Bool) → test ≡ one → i ≡ n → max (bit_at (active_bits lanes n) i) (bit_at (if test then 2 ^ n else 0) i) ≡ bit_for one
        by_test none true true is same = omega (arith, none, ap (bit_at (2 ^ n)) same, bit_at-pow_same n)
        by_test none true false is same = cc
        by_test none false true is same = cc
        by_test none false false is same = omega (arith, none, bit_at-zero i)

-- between two active lanes all are active
abbrev pub AreTogether : (ℕ → Lane) → ℕ → Type 0
AreTogether lanes n = (i j k : ℕ) → i ≤ j → j ≤ k → k < n → acts lanes i ≡ true → acts lanes k ≡ true → acts lanes j ≡ true

-- lanes that a transfer of this stream can carry
pub record AreLanes (p : Parameters) (lanes : ℕ → Lane) : Type 0 where
  pub words : (i : ℕ) → i < p.lanes → length (word_or p.element (lanes i).word) ≡ p.element
  pub rise : (i : ℕ) → Rise 0 (lanes i).closes
  pub within : (i : ℕ) → Below p.dims (lanes i).closes
  pub together : number_of p.level ≤ 6 → AreTogether lanes p.lanes

abbrev pub item_for : Option (List Bool) → List Item
item_for None = []
item_for (Some word) = Elem word ∷ []

-- the items that a lane carries
abbrev pub carried : Lane → List Item
carried lane = item_for lane.word ++ map Close lane.closes

pub highest-below : (lanes : ℕ → Lane) (n other : ℕ) → some_active lanes n ≡ true → highest_active lanes n other < n
highest-below lanes zero other some = cc
highest-below lanes (suc n) other some = by_test (highest-below lanes n other) (acts lanes n) some
  where
    by_test : (some_active lanes n ≡ true → highest_active lanes n other < n) → (test : Bool) → (some_active lanes n || test) ≡ true → (if test then n else highest_active lanes n other) < suc n
    by_test earlier true some = omega arith
    by_test earlier false some = let less = earlier (grind (arith, nat_tests)) in omega (arith, less)

module _ (p : Parameters) (lanes : ℕ → Lane) (user : List Bool) (are : AreLanes p lanes) where
  stai : ℕ
  stai = lowest_active lanes p.lanes 0

  endi : ℕ
  endi = highest_active lanes p.lanes (p.lanes - 1)

  -- a lane that carries an element is active
  sure-active : (strb i : ℕ) → i < p.lanes → acts lanes i ≡ true → bit_at strb i ≡ 1 → ((bit_at strb i == 1) && (nat_le (lowest_active lanes p.lanes 0) i && nat_le i (highest_active lanes p.lanes (p.lanes - 1)))) ≡ true
  sure-active strb i less sure is =
      let from = lowest-le lanes p.lanes 0 i less sure in
      let to = highest-ge lanes p.lanes (p.lanes - 1) i less sure in
      grind (arith, nat_tests)

  by_bits : (i : ℕ) → i < p.lanes → (here : Bool) → acts lanes i ≡ here → bit_at (active_bits lanes p.lanes) i ≡ bit_for here →
      ((bit_at (active_bits lanes p.lanes) i == 1) && (nat_le (lowest_active lanes p.lanes 0) i && nat_le i (highest_active lanes p.lanes (p.lanes - 1)))) ≡ here
  by_bits i less true is bit = sure-active (active_bits lanes p.lanes) i less is bit
  by_bits i less false is bit = grind (arith, nat_tests)

  abbrev full_strobe : Bool → ℕ
  full_strobe some = if some then 2 ^ p.lanes - 1 else 0

  by_some : (i : ℕ) → i < p.lanes → AreTogether lanes p.lanes → (some : Bool) → some_active lanes p.lanes ≡ some → (here : Bool) → acts lanes i ≡ here →
      ((bit_at (full_strobe some) i == 1) && (nat_le (lowest_active lanes p.lanes 0) i && nat_le i (highest_active lanes p.lanes (p.lanes - 1)))) ≡ here
  by_some i less together true some true is = sure-active (full_strobe true) i less is (bit_at_ones p.lanes i less)
  by_some i less together false some true is = let clash : false ≡ true = sym some ∙ some-from lanes p.lanes i less is in cc
  by_some i less together false some false is = let e = bit_at-zero i in grind (arith, nat_tests)
  by_some i less together true some false is =
      outside (nat_le (lowest_active lanes p.lanes 0) i && nat_le i (highest_active lanes p.lanes (p.lanes - 1))) refl
    where
      outside : (test : Bool) → (nat_le (lowest_active lanes p.lanes 0) i && nat_le i (highest_active lanes p.lanes (p.lanes - 1))) ≡ test → ((bit_at (full_strobe true) i == 1) && test) ≡ false
      outside false e = grind (arith, nat_tests)
      outside true e =
          let from : lowest_active lanes p.lanes 0 ≤ i = grind (arith, nat_tests) in
          let to : i ≤ highest_active lanes p.lanes (p.lanes - 1) = grind (arith, nat_tests) in
          let clash : false ≡ true = sym is ∙ together (lowest_active lanes p.lanes 0) i (highest_active lanes p.lanes (p.lanes - 1)) from to (highest-below lanes p.lanes (p.lanes - 1) some)
          (lowest-is lanes p.lanes 0 (inr some)) (highest-is lanes p.lanes (p.lanes - 1) some) in
          cc

  pub is_active-of : (i : ℕ) → i < p.lanes → is_active (transfer_of p lanes user) i ≡ acts lanes i
  is_active-of i less = by_level (nat_le 7 (number_of p.level)) refl
    where
      by_level : (high : Bool) → nat_le 7 (number_of p.level) ≡ high →
          ((bit_at (if high then active_bits lanes p.lanes else (if some_active lanes p.lanes then 2 ^ p.lanes - 1 else 0)) i == 1)
          && (nat_le (lowest_active lanes p.lanes 0) i && nat_le i (highest_active lanes p.lanes (p.lanes - 1)))) ≡ acts lanes i
      by_level true is = by_bits i less (acts lanes i) refl (bits-are lanes p.lanes i less)
      by_level false is =
          let at_most : number_of p.level ≤ 6 = grind (arith, nat_tests) in
          by_some i less (are.together at_most) (some_active lanes p.lanes) refl (acts lanes i) refl

  pub lane_word-of : (i : ℕ) → i < p.lanes → lane_word p (transfer_of p lanes user) i ≡ word_or p.element (lanes i).word
  lane_word-of i less = part-word (λ lane. word_or p.element (lanes lane).word) p.element p.lanes i less are.words

  pub last_bit-of : (i dim : ℕ) → i < p.lanes → dim < p.dims → last_bit p (transfer_of p lanes user) i dim ≡ is_among dim (lanes i).closes
  last_bit-of i dim less within =
      part-at (λ lane. parts_below (λ d. is_among d (lanes lane).closes ∷ []) p.dims) p.dims p.lanes i dim false less within (λ j l. length-parts_below (λ d. is_among d (lanes j).closes ∷ []) p.dims (λ d m. refl))
      ∙ bit-parts (λ d. is_among d (lanes i).closes) p.dims dim within

  abbrev mark_for : ℕ → Bool → List Item
  mark_for dim test = if test then Close dim ∷ [] else []

  lane_closes-of : (i : ℕ) → i < p.lanes → lane_closes p (transfer_of p lanes user) i ≡ map Close (lanes i).closes
  lane_closes-of i less =
      parts_below-same (λ dim. mark_for dim (last_bit p (transfer_of p lanes user) i dim)) (λ dim. mark_for dim (is_among dim (lanes i).closes)) p.dims (λ dim within. ap (mark_for dim) (last_bit-of i dim less within))
      ∙ closes-are (lanes i).closes p.dims (are.rise i) (are.within i)

  lane_items-of : (i : ℕ) → i < p.lanes → lane_items p (transfer_of p lanes user) i ≡ carried (lanes i)
  lane_items-of i less =
      ap (λ (l : List Item). (if is_active (transfer_of p lanes user) i then Elem (lane_word p (transfer_of p lanes user) i) ∷ [] else []) ++ l) (lane_closes-of i less)
      ∙ ap (λ (l : List Item). l ++ map Close (lanes i).closes) (ap (λ (b : Bool). if b then Elem (lane_word p (transfer_of p lanes user) i) ∷ [] else []) (is_active-of i less) ∙ by_word (lanes i).word (lane_word-of i less))
    where
      by_word : (word : Option (List Bool)) → lane_word p (transfer_of p lanes user) i ≡ word_or p.element word →
          (if is_some word then Elem (lane_word p (transfer_of p lanes user) i) ∷ [] else []) ≡ item_for word
      by_word None is = refl
      by_word (Some w) is = ap (λ (l : List Bool). Elem l ∷ []) is

  -- the items of the transfer are what its lanes carry, lane by lane
  pub items_of-carried : items_of p (transfer_of p lanes user) ≡ parts_below (λ i. carried (lanes i)) p.lanes
  items_of-carried = parts_below-same (lane_items p (transfer_of p lanes user)) (λ i. carried (lanes i)) p.lanes lane_items-of
