-- A transfer that is filled with the front of items is the next far transfer.
use Rattle.std.proofs.Common.{◌≡◌, ◌∙◌, ◌⊎◌, inl, inr, ℕ, zero, suc, ◌+◌, ◌-◌, ◌*◌, ◌^◌, ◌<◌, ◌≤◌, Bool, true, false, ◌==◌, nat_le, nat_lt, if◌then◌else◌, List, [], ◌∷◌, ◌++◌, length, drop, min, None, is_some, refl, sym, ap, subst, append_assoc, add-one, get_or, arith}
use Rattle.std.specs.Int.{bit_at}
use Rattle.std.proofs.Math.Nat.{suc-mul, zero-mul}
use Rattle.std.proofs.Math.Pow.{ones_lt, pow-lt, pow_mono}
use Rattle.std.proofs.lemmas.Bool.{cases_lt}
use Rattle.std.proofs.lemmas.Bool.Decides.{nat_tests}
use Rattle.std.proofs.lemmas.List.{append-nil, length-append}
use Rattle.std.proofs.lemmas.Nat.{pow_pos, or_lt}
use Rattle.std.proofs.lemmas.Nat.Bits.{bit_at_ones, bit_at_ones_above, same_from_bits_below}
use Rattle.tydi_base.specs.Bits.{zero_bits}
use Rattle.tydi_base.specs.Level.{number_of}
use Rattle.physical_stream.specs.Params.{Parameters}
use Rattle.physical_stream.specs.Items.{parts_below}
use Rattle.physical_stream.proofs.PartsLemmas.{parts_below-same}
use Rattle.physical_stream.specs.declared.item.Item.{Item}
use Rattle.physical_stream.specs.declared.item.Item.TheVariants.{Elem, Close}
use Rattle.physical_stream.specs.declared.transfer.Transfer.{Transfer}
use Rattle.scheduler.specs.Filling.{marks, EndsHere, IsMarkedSoFar}
use Rattle.scheduler.specs.Laws.{AreItems}
use Rattle.scheduler.proofs.LoadLemmas.{AreItems-drop, first-word, length-zeros, taken_of}
use Rattle.scheduler.proofs.PartLemmas.{length-parts}
use Rattle.scheduler.specs.Lanes.{Lane, word_or, is_among, lowest_active, highest_active, some_active, active_bits, strobe_of}
use Rattle.scheduler.specs.Planned.{Load, first_word, run_of, elements_of, first_user, first_wish}
use Rattle.scheduler.proofs.CarryLemmas.{acts, bit_for, bits-are, lowest-le, highest-ge, highest-is, highest-below, some-from}
use Rattle.scheduler.proofs.ObeyLemmas.{lowest-none, highest-none}
use Rattle.scheduler.proofs.MarkLemmas.{marks-none, run-marked}
use Rattle.reshape.specs.Filled.{last_active, strobe_first, words_first}
use Rattle.reshape.specs.Reshaping.{front_load, front_of}
use Rattle.physical_stream.specs.Signals.{Fits}
use Rattle.scheduler.proofs.ShowLemmas.{fits-of, first-wide}
use Rattle.reshape.specs.Fronts.{IsFront}
use Rattle.reshape.specs.declared.front.Front.{Front}
use Rattle.reshape.proofs.FrontLemmas.{front-count}
use Rattle.reshape.proofs.FrontLoads.{allowed-below, front-load-is, place-is}

-- ---- parts, and then zeros

zeros-join : (a b : ℕ) → zero_bits a ++ zero_bits b ≡ zero_bits (a + b)
zeros-join zero b = ap zero_bits (omega arith)
zeros-join (suc a) b = let e : suc (a + b) ≡ suc a + b = omega arith in ap (λ (l : List Bool). false ∷ l) (zeros-join a b) ∙ ap zero_bits e

parts-zeros : (f g : ℕ → List Bool) (w k m : ℕ) → ((i : ℕ) → i < k → f i ≡ g i) → ((i : ℕ) → k ≤ i → i < k + m → f i ≡ zero_bits w) → parts_below f (k + m) ≡ parts_below g k ++ zero_bits (m * w)
parts-zeros f g w k zero same none =
    let here : k + 0 ≡ k = omega arith in
    ap (parts_below f) here ∙ parts_below-same f g k same ∙ sym (ap (λ (n : ℕ). parts_below g k ++ zero_bits n) (zero-mul w) ∙ append-nil (parts_below g k))
parts-zeros f g w k (suc m) same none =
    let next : k + suc m ≡ suc (k + m) = omega arith in
    let total : m * w + w ≡ suc m * w = sym (suc-mul m w ∙ omega arith) in
    ap (parts_below f) next
    ∙ ap (λ (l : List Bool). l ++ f (k + m)) (parts-zeros f g w k m same (λ i from to. none i from (omega (arith, to))))
    ∙ ap (λ (l : List Bool). (parts_below g k ++ zero_bits (m * w)) ++ l) (none (k + m) (omega arith) (omega arith))
    ∙ append_assoc (parts_below g k) (zero_bits (m * w)) (zero_bits w)
    ∙ ap (λ (l : List Bool). parts_below g k ++ l) (zeros-join (m * w) w ∙ ap zero_bits total)

pub parts-cut : (f g : ℕ → List Bool) (w k n : ℕ) → k ≤ n → ((i : ℕ) → i < k → f i ≡ g i) → ((i : ℕ) → k ≤ i → i < n → f i ≡ zero_bits w) → parts_below f n ≡ parts_below g k ++ zero_bits ((n - k) * w)
parts-cut f g w k n le same none =
    let all : n ≡ k + (n - k) = omega (arith, le) in
    ap (parts_below f) all ∙ parts-zeros f g w k (n - k) same (λ i from to. none i from (omega (arith, to, le)))

sum-mul : (a b c w : ℕ) → c ≡ a + b → c * w ≡ a * w + b * w
sum-mul zero b c w is = ap (λ (n : ℕ). n * w) (let e : c ≡ b = omega (arith, is) in e) ∙ omega (arith, zero-mul w)
sum-mul (suc a) b c w is =
    let next : c ≡ suc (a + b) = omega (arith, is) in
    ap (λ (n : ℕ). n * w) next ∙ omega (arith, suc-mul (a + b) w, suc-mul a w, sum-mul a b (a + b) w refl)

drop-all : (items : List Item) (n : ℕ) → length items ≤ n → drop n items ≡ []
drop-all [] zero most = refl
drop-all [] (suc n) most = refl
drop-all (item ∷ items) zero most = absurd (omega (arith, most))
drop-all (item ∷ items) (suc n) most = drop-all items n (omega (arith, most))

-- ---- lanes from lane 0 on

first-some : (items : List Item) (n : ℕ) → n < elements_of items → is_some (first_word (drop n items)) ≡ true
first-some [] n less = absurd (omega (arith, less))
first-some (Elem word ∷ more) zero less = refl
first-some (Elem word ∷ more) (suc n) less = first-some more n (omega (arith, less))
first-some (Close dim ∷ more) n less = absurd (omega (arith, less))

active-lt : (lanes : ℕ → Lane) (n : ℕ) → active_bits lanes n < 2 ^ n
active-lt lanes zero = pow_pos 0
active-lt lanes (suc n) =
    or_lt (suc n) (active_bits lanes n) (if acts lanes n then 2 ^ n else 0) (omega (arith, active-lt lanes n, pow-lt {i = n} {j = suc n} (omega arith))) (by_test (acts lanes n))
  where
    by_test : (test : Bool) → (if test then 2 ^ n else 0) < 2 ^ suc n
    by_test true = pow-lt {i = n} {j = suc n} (omega arith)
    by_test false = pow_pos (suc n)

module _ (p : Parameters) (lanes : ℕ → Lane) (count : ℕ) (some : 1 ≤ p.lanes) (few : count ≤ p.lanes) (act : (i : ℕ) → i < p.lanes → acts lanes i ≡ nat_lt i count) where
  acts-yes : (i : ℕ) → i < count → acts lanes i ≡ true
  acts-yes i less = act i (omega (arith, less, few)) ∙ (let t : nat_lt i count ≡ true = grind (arith, nat_tests) in t)

  acts-no : (i : ℕ) → i < p.lanes → count ≤ i → acts lanes i ≡ false
  acts-no i less from = act i less ∙ (let t : nat_lt i count ≡ false = grind (arith, nat_tests) in t)

  none-act : count ≡ 0 → (i : ℕ) → i < p.lanes → acts lanes i ≡ false
  none-act is i less = acts-no i less (omega (arith, is))

  pub lowest-is-first : lowest_active lanes p.lanes 0 ≡ 0
  lowest-is-first = by_count count refl
    where
      by_count : (n : ℕ) → count ≡ n → lowest_active lanes p.lanes 0 ≡ 0
      by_count zero is = lowest-none lanes p.lanes 0 (none-act is)
      by_count (suc n) is = let low = lowest-le lanes p.lanes 0 0 (omega (arith, some)) (acts-yes 0 (omega (arith, is))) in omega (arith, low)

  pub highest-is-last : highest_active lanes p.lanes (p.lanes - 1) ≡ last_active p count
  highest-is-last = by_count count refl
    where
      by_count : (n : ℕ) → count ≡ n → highest_active lanes p.lanes (p.lanes - 1) ≡ (if n == 0 then p.lanes - 1 else n - 1)
      by_count zero is = highest-none lanes p.lanes (p.lanes - 1) (none-act is)
      by_count (suc n) is =
          let zero_not : (suc n == 0) ≡ false = grind (arith, nat_tests) in
          let one = acts-yes n (omega (arith, is)) in
          let least = highest-ge lanes p.lanes (p.lanes - 1) n (omega (arith, is, few)) one in
          let active = some-from lanes p.lanes n (omega (arith, is, few)) one in
          let here = highest-is lanes p.lanes (p.lanes - 1) active in
          let below = highest-below lanes p.lanes (p.lanes - 1) active in
          let most : highest_active lanes p.lanes (p.lanes - 1) < count = by_place (highest_active lanes p.lanes (p.lanes - 1)) below here (cases_lt (highest_active lanes p.lanes (p.lanes - 1)) count) in
          rw zero_not (omega (arith, least, most, is))
        where
          by_place : (top : ℕ) → top < p.lanes → acts lanes top ≡ true → (top < count) ⊎ (count ≤ top) → top < count
          by_place top below here (inl less) = less
          by_place top below here (inr from) = let clash : true ≡ false = sym here ∙ acts-no top below from in cc

  bits-first : active_bits lanes p.lanes ≡ 2 ^ count - 1
  bits-first = same_from_bits_below p.lanes (active_bits lanes p.lanes) (2 ^ count - 1) (active-lt lanes p.lanes) (let mono = pow_mono {i = count} {j = p.lanes} few in omega (arith, mono, ones_lt count)) (λ i less. by_place i less (cases_lt i count))
    where
      by_place : (i : ℕ) → i < p.lanes → (i < count) ⊎ (count ≤ i) → bit_at (active_bits lanes p.lanes) i ≡ bit_at (2 ^ count - 1) i
      by_place i less (inl l) = bits-are lanes p.lanes i less ∙ ap bit_for (acts-yes i l) ∙ sym (bit_at_ones count i l)
      by_place i less (inr m) = bits-are lanes p.lanes i less ∙ ap bit_for (acts-no i less m) ∙ sym (bit_at_ones_above count i m)

  pub strobe-is-first : strobe_of p lanes ≡ strobe_first p count
  strobe-is-first = by_count count refl
    where
      none-some : (n : ℕ) → n ≤ p.lanes → count ≡ 0 → some_active lanes n ≡ false
      none-some zero le is = refl
      none-some (suc n) le is = rw (none-some n (omega (arith, le)) is, none-act is n (omega (arith, le))) refl

      by_count : (n : ℕ) → count ≡ n → (if nat_le 7 (number_of p.level) then active_bits lanes p.lanes else (if some_active lanes p.lanes then 2 ^ p.lanes - 1 else 0))
          ≡ (if n == 0 then 0 else (if nat_le 7 (number_of p.level) then 2 ^ n - 1 else 2 ^ p.lanes - 1))
      by_count zero is = by_level (nat_le 7 (number_of p.level))
        where
          by_level : (high : Bool) → (if high then active_bits lanes p.lanes else (if some_active lanes p.lanes then 2 ^ p.lanes - 1 else 0)) ≡ 0
          by_level true = bits-first ∙ ap (λ (n : ℕ). 2 ^ n - 1) is
          by_level false = rw (none-some p.lanes (omega arith) is) refl
      by_count (suc n) is =
          let zero_not : (suc n == 0) ≡ false = grind (arith, nat_tests) in
          rw zero_not (by_level (nat_le 7 (number_of p.level)))
        where
          by_level : (high : Bool) → (if high then active_bits lanes p.lanes else (if some_active lanes p.lanes then 2 ^ p.lanes - 1 else 0)) ≡ (if high then 2 ^ suc n - 1 else 2 ^ p.lanes - 1)
          by_level true = bits-first ∙ ap (λ (m : ℕ). 2 ^ m - 1) is
          by_level false = rw (some-from lanes p.lanes 0 (omega (arith, some)) (acts-yes 0 (omega (arith, is)))) refl

-- ---- the transfer of the front

same_transfer : (one other : Transfer) → one.content ≡ other.content → one.last ≡ other.last → one.stai ≡ other.stai → one.endi ≡ other.endi → one.strb ≡ other.strb → one.user ≡ other.user →
    ◌≡◌ {A = Transfer} (record { content = one.content; last = one.last; stai = one.stai; endi = one.endi; strb = one.strb; user = one.user })
    (record { content = other.content; last = other.last; stai = other.stai; endi = other.endi; strb = other.strb; user = other.user })
same_transfer one other content last stai endi strb user = cc

module _ (p : Parameters) (some : 1 ≤ p.lanes) (items : List Item) (count : ℕ) (is : min (elements_of items) p.lanes ≡ count) where
  lanes : ℕ → Lane
  lanes = (front_load p items).lanes

  few : count ≤ p.lanes
  few = omega (arith, is)

  word-is : (i : ℕ) → i < p.lanes → ((front_load p items).lanes i).word ≡ (if nat_lt i count then first_word (drop i items) else None)
  word-is i less =
      let allow = allowed-below p some items i less in
      let place = place-is p some items i (omega (arith, less)) in
      ap (λ (l : Load). (l.lanes i).word) (front-load-is p some items) ∙ rw (allow, place, is) refl

  word-there : (i : ℕ) → i < count → ((front_load p items).lanes i).word ≡ first_word (drop i items)
  word-there i less = word-is i (omega (arith, less, few)) ∙ ap (λ (b : Bool). if b then first_word (drop i items) else None) (let t : nat_lt i count ≡ true = grind (arith, nat_tests) in t)

  word-none : (i : ℕ) → count ≤ i → i < p.lanes → ((front_load p items).lanes i).word ≡ None
  word-none i from less = word-is i less ∙ ap (λ (b : Bool). if b then first_word (drop i items) else None) (let t : nat_lt i count ≡ false = grind (arith, nat_tests) in t)

  closes-is : (i : ℕ) → ((front_load p items).lanes i).closes ≡ (if i + 1 == p.lanes then run_of (drop count items) else [])
  closes-is i = ap (λ (l : Load). (l.lanes i).closes) (front-load-is p some items) ∙ ap (λ (k : ℕ). if i + 1 == p.lanes then run_of (drop k items) else []) is

  closes-none : (i : ℕ) → i < p.lanes - 1 → ((front_load p items).lanes i).closes ≡ []
  closes-none i less =
      closes-is i ∙ ap (λ (b : Bool). if b then run_of (drop count items) else []) (let not : i + 1 ≡ p.lanes → ⊥ = λ same. omega (arith, same, less) in let t : (i + 1 == p.lanes) ≡ false = grind (arith, nat_tests) in t)

  closes-top : ((front_load p items).lanes (p.lanes - 1)).closes ≡ run_of (drop count items)
  closes-top =
      closes-is (p.lanes - 1) ∙ ap (λ (b : Bool). if b then run_of (drop count items) else []) (let e : p.lanes - 1 + 1 ≡ p.lanes = omega (arith, some) in let t : (p.lanes - 1 + 1 == p.lanes) ≡ true = grind (arith, nat_tests) in t)

  act : (i : ℕ) → i < p.lanes → is_some ((front_load p items).lanes i).word ≡ nat_lt i count
  act i less = ap is_some (word-is i less) ∙ by_test (nat_lt i count) refl
    where
      by_test : (test : Bool) → nat_lt i count ≡ test → is_some (if test then first_word (drop i items) else None) ≡ test
      by_test true t = first-some items i (let l : i < count = grind (arith, nat_tests) in omega (arith, l, is))
      by_test false t = refl

  content-is : parts_below (λ lane. word_or p.element ((front_load p items).lanes lane).word) p.lanes ≡ words_first p items count
  content-is =
      parts-cut (λ lane. word_or p.element ((front_load p items).lanes lane).word) (λ lane. word_or p.element (first_word (drop lane items))) p.element count p.lanes few
      (λ i less. ap (word_or p.element) (word-there i less)) (λ i from less. ap (word_or p.element) (word-none i from less))

  last-is : parts_below (λ lane. parts_below (λ dim. is_among dim ((front_load p items).lanes lane).closes ∷ []) p.dims) p.lanes ≡ zero_bits ((p.lanes - 1) * p.dims) ++ marks p.dims (run_of (drop count items))
  last-is =
      let top : p.lanes ≡ suc (p.lanes - 1) = omega (arith, some) in
      ap (parts_below (λ lane. marks p.dims ((front_load p items).lanes lane).closes)) top
      ∙ ap (λ (l : List Bool). l ++ marks p.dims ((front_load p items).lanes (p.lanes - 1)).closes)
      (parts-cut (λ lane. marks p.dims ((front_load p items).lanes lane).closes) (λ lane. []) p.dims 0 (p.lanes - 1) (omega arith) (λ i less. absurd (omega (arith, less)))
      (λ i from less. ap (marks p.dims) (closes-none i less) ∙ marks-none p.dims))
      ∙ ap (λ (n : ℕ). zero_bits (n * p.dims) ++ marks p.dims ((front_load p items).lanes (p.lanes - 1)).closes) (omega arith)
      ∙ ap (λ (l : List ℕ). zero_bits ((p.lanes - 1) * p.dims) ++ marks p.dims l) closes-top

  pub front-filled : (t : Transfer) → t.content ≡ words_first p items count → t.last ≡ zero_bits ((p.lanes - 1) * p.dims) ++ marks p.dims (run_of (drop count items)) → t.stai ≡ 0 → t.endi ≡ last_active p count →
      t.strb ≡ strobe_first p count → t.user ≡ zero_bits p.user → t ≡ front_of p items
  front-filled t content last stai endi strb user =
      same_transfer t (front_of p items) (content ∙ sym content-is) (last ∙ sym last-is) (stai ∙ sym (lowest-is-first p (front_load p items).lanes count some few act))
      (endi ∙ sym (highest-is-last p (front_load p items).lanes count some few act)) (strb ∙ sym (strobe-is-first p (front_load p items).lanes count some few act)) user

-- ---- the signals of the front, item by item

pub lane-element : (items : List Item) (n : ℕ) (item : Item) → n < elements_of items → item ≡ get_or items n item → (word : List Bool) × (item ≡ Elem word)
lane-element [] n item less at = absurd (omega (arith, less))
lane-element (Elem word ∷ more) zero item less at = (word, at)
lane-element (Elem word ∷ more) (suc n) item less at = lane-element more n item (omega (arith, less)) at
lane-element (Close dim ∷ more) n item less at = absurd (omega (arith, less))

pub elements-long : (items : List Item) → elements_of items ≤ length items
elements-long [] = omega arith
elements-long (Elem word ∷ more) = omega (arith, elements-long more)
elements-long (Close dim ∷ more) = omega arith

module _ (p : Parameters) (items : List Item) (lane : ℕ) (less : lane < p.lanes) where
  abbrev first : ℕ → List Bool
  first i = word_or p.element (first_word (drop i items))

  words-long : AreItems p items → (n : ℕ) → length (parts_below (λ (i : ℕ). word_or p.element (first_word (drop i items))) n) ≡ n * p.element
  words-long fit n = length-parts (λ (i : ℕ). word_or p.element (first_word (drop i items))) p.element n (λ i l. first-word p (drop i items) (AreItems-drop p i items fit))

  pub words-wide : AreItems p items → length (words_first p items lane) ≡ p.lanes * p.element
  words-wide fit =
      let split : p.lanes * p.element ≡ lane * p.element + (p.lanes - lane) * p.element = sum-mul lane (p.lanes - lane) p.lanes p.element (omega (arith, less)) in
      omega (arith, length-append (parts_below (λ (i : ℕ). word_or p.element (first_word (drop i items))) lane) (zero_bits ((p.lanes - lane) * p.element)), words-long fit lane, length-zeros ((p.lanes - lane) * p.element), split)

  pub words-next : (fit : AreItems p items) (new : List Bool) →
      ((parts : List Bool) → length parts ≡ lane * p.element → words_first p items lane ≡ parts ++ zero_bits ((p.lanes - lane) * p.element) → new ≡ (parts ++ word_or p.element (first_word (drop lane items))) ++ zero_bits ((p.lanes - (lane + 1)) * p.element)) →
      new ≡ words_first p items (lane + 1)
  words-next fit new written =
      written (parts_below (λ (i : ℕ). word_or p.element (first_word (drop i items))) lane) (words-long fit lane) refl
      ∙ ap (λ (n : ℕ). parts_below (λ (i : ℕ). word_or p.element (first_word (drop i items))) n ++ zero_bits ((p.lanes - (lane + 1)) * p.element)) (sym (add-one lane))

pub words-none : (p : Parameters) (items : List Item) (old : List Bool) → old ≡ zero_bits (p.lanes * p.element) → old ≡ words_first p items 0
words-none p items old is = let all : p.lanes ≡ p.lanes - 0 = omega arith in is ∙ ap (λ (n : ℕ). zero_bits (n * p.element)) all

-- ---- the Closes of the front in the last lane

pub ends-over : (least : ℕ) (items : List Item) (n : ℕ) → length items ≤ n → EndsHere least (drop n items)
ends-over least items n most = let none : drop n items ≡ [] = drop-all items n most in subst (EndsHere least) (sym none) (refl, refl)

module _ (p : Parameters) (some : 1 ≤ p.lanes) (items : List Item) (start : List Bool) (clear : start ≡ zero_bits (p.lanes * p.dims)) where
  pub start-long : length start ≡ p.lanes * p.dims
  start-long = ap length clear ∙ length-zeros (p.lanes * p.dims)

  start-split : start ≡ zero_bits ((p.lanes - 1) * p.dims) ++ zero_bits ((p.lanes - (p.lanes - 1)) * p.dims)
  start-split =
      let split : p.lanes * p.dims ≡ (p.lanes - 1) * p.dims + (p.lanes - (p.lanes - 1)) * p.dims = sum-mul (p.lanes - 1) (p.lanes - (p.lanes - 1)) p.lanes p.dims (omega (arith, some)) in
      clear ∙ ap zero_bits split ∙ sym (zeros-join ((p.lanes - 1) * p.dims) ((p.lanes - (p.lanes - 1)) * p.dims))

  pub last-marked : (left : List Item) (least : ℕ) (last : List Bool) → IsMarkedSoFar p items (p.lanes - 1) start left least last → EndsHere least left →
      last ≡ zero_bits ((p.lanes - 1) * p.dims) ++ marks p.dims (run_of items)
  last-marked left least last so ends =
      let none : p.lanes - (p.lanes - 1 + 1) ≡ 0 = omega arith in
      (run-marked p (p.lanes - 1) (omega (arith, some)) items left start least last so ends).1 (zero_bits ((p.lanes - 1) * p.dims)) (length-zeros ((p.lanes - 1) * p.dims)) start-split
      ∙ ap (λ (n : ℕ). (zero_bits ((p.lanes - 1) * p.dims) ++ marks p.dims (run_of items)) ++ zero_bits (n * p.dims)) none
      ∙ ap (λ (n : ℕ). (zero_bits ((p.lanes - 1) * p.dims) ++ marks p.dims (run_of items)) ++ zero_bits n) (zero-mul p.dims)
      ∙ append-nil (zero_bits ((p.lanes - 1) * p.dims) ++ marks p.dims (run_of items))

-- ---- a front that is filled

module _ (p : Parameters) (some : 1 ≤ p.lanes) (items : List Item) (fit : AreItems p items) where
  pub front-fits : Fits p (front_of p items)
  front-fits = fits-of p (front_load p items).lanes (first_user p []) (taken_of p (first_wish p []) items some fit).are some (first-wide p [] tt)

  module _ (front : Front) (is_front : IsFront p items front) where
    pub elements-first : front.elements ≤ elements_of items
    elements-first = omega (arith, front-count p some items front is_front)

    pub filled-front : (content last : List Bool) (stai endi strb place : ℕ) (user : List Bool) → content ≡ words_first p items front.elements → place ≡ front.elements →
        last ≡ zero_bits ((p.lanes - 1) * p.dims) ++ marks p.dims (run_of (drop place items)) → stai ≡ 0 → endi ≡ last_active p front.elements → strb ≡ strobe_first p front.elements → user ≡ zero_bits p.user →
        ◌≡◌ {A = Transfer} (record { content = content; last = last; stai = stai; endi = endi; strb = strb; user = user }) (front_of p items)
    filled-front content last stai endi strb place user content_is at last_is stai_is endi_is strb_is user_is =
        front-filled p some items front.elements (front-count p some items front is_front) (record { content = content; last = last; stai = stai; endi = endi; strb = strb; user = user }) content_is
        (last_is ∙ ap (λ (n : ℕ). zero_bits ((p.lanes - 1) * p.dims) ++ marks p.dims (run_of (drop n items))) at) stai_is endi_is strb_is user_is
