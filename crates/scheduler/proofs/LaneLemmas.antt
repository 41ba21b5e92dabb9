-- A transfer filled lane after lane.
use Rattle.std.proofs.Common.{◌≡◌, ◌∙◌, ℕ, ◌≤◌, ◌&&◌, nat_lt, zero, suc, ◌+◌, ◌-◌, ◌*◌, ◌^◌, ◌<◌, Bool, true, false, ◌||◌, ◌==◌, if◌then◌else◌, List, [], ◌++◌, length, drop, bit_or, Option, is_some, refl, sym, ap, arith, add-one}
use Rattle.std.specs.Int.{bit_at}
use Rattle.std.proofs.Math.Nat.{suc-mul, zero-mul}
use Rattle.std.proofs.lemmas.List.{length-drop}
use Rattle.std.specs.Int.Bits.{or_zero_l, or_zero_r}
use Rattle.std.proofs.lemmas.Bool.Decides.{nat_tests}
use Rattle.std.proofs.lemmas.List.{length-append}
use Rattle.std.proofs.lemmas.Nat.Bits.{bit_at-zero}
use Rattle.tydi_base.specs.Bits.{zero_bits}
use Rattle.physical_stream.specs.Params.{Parameters}
use Rattle.physical_stream.specs.Items.{parts_below}
use Rattle.physical_stream.specs.declared.transfer.Transfer.{Transfer}
use Rattle.scheduler.specs.Lanes.{Lane, word_or, lowest_active, highest_active, some_active, active_bits}
use Rattle.scheduler.specs.Filling.{marks, is_set, behind_taken, taken_word, takes_at, lane_with, IsActivated, IsFilledBelow}
use Rattle.scheduler.specs.Planned.{run_from}
use Rattle.physical_stream.specs.declared.item.Item.{Item}
use Rattle.scheduler.proofs.PartLemmas.{lt-true, lt-false}
use Rattle.scheduler.proofs.CarryLemmas.{acts, bits-are, bit_for, highest-is, highest-below}
use Rattle.scheduler.proofs.FillLemmas.{lane-left}
use Rattle.scheduler.proofs.MarkLemmas.{marks-none}
use Rattle.scheduler.proofs.LoadLemmas.{length-zeros}
use Rattle.scheduler.proofs.ObeyLemmas.{each-none, lowest-none}

-- no bit of the strobe is set exactly where no lane is active
pub active-none : (lanes : ℕ → Lane) (n : ℕ) → ((i : ℕ) → i < n → acts lanes i ≡ false) → active_bits lanes n ≡ 0
active-none lanes zero none = refl
active-none lanes (suc n) none = rw (active-none lanes n (λ i less. none i (omega arith)), none n (omega arith)) (or_zero_l 0)

pub active-some : (lanes : ℕ → Lane) (n : ℕ) → some_active lanes n ≡ true → 0 < active_bits lanes n
active-some lanes n some = by_value (active_bits lanes n) refl
  where
    by_value : (bits : ℕ) → active_bits lanes n ≡ bits → 0 < bits
    by_value zero is =
        let top = highest_active lanes n 0 in
        let one = bits-are lanes n (highest_active lanes n 0) (highest-below lanes n 0 some) ∙ ap bit_for (highest-is lanes n 0 some) in
        let none = ap (λ (b : ℕ). bit_at b (highest_active lanes n 0)) is ∙ bit_at-zero (highest_active lanes n 0) in
        let clash : 0 ≡ 1 = sym none ∙ one in
        absurd (omega (arith, clash))
    by_value (suc bits) is = omega arith

lowest-any : (lanes : ℕ → Lane) (n one other : ℕ) → some_active lanes n ≡ true → lowest_active lanes n one ≡ lowest_active lanes n other
lowest-any lanes zero one other some = cc
lowest-any lanes (suc n) one other some = by_test (λ a b s. lowest-any lanes n a b s) (acts lanes n) some
  where
    by_test : ((a b : ℕ) → some_active lanes n ≡ true → lowest_active lanes n a ≡ lowest_active lanes n b) → (test : Bool) → (some_active lanes n || test) ≡ true →
        lowest_active lanes n (if test then n else one) ≡ lowest_active lanes n (if test then n else other)
    by_test earlier true s = refl
    by_test earlier false s = earlier one other (grind (arith, nat_tests))

first-one : (lanes : ℕ → Lane) (n strb stai : ℕ) → strb ≡ active_bits lanes n → stai ≡ lowest_active lanes n 0 → (if strb == 0 then n else stai) ≡ lowest_active lanes n n
first-one lanes n strb stai bits is = by_some (some_active lanes n) refl
  where
    by_some : (test : Bool) → some_active lanes n ≡ test → (if strb == 0 then n else stai) ≡ lowest_active lanes n n
    by_some true some =
        let full = active-some lanes n some in
        let other : (strb == 0) ≡ false = grind (arith, nat_tests) in
        rw other (is ∙ lowest-any lanes n 0 n some)
    by_some false some =
        let none = each-none lanes n some in
        let empty = active-none lanes n none in
        let zero_is : (strb == 0) ≡ true = grind (arith, nat_tests) in
        rw zero_is (sym (lowest-none lanes n n none))

sum-mul : (a b w : ℕ) → (a + b) * w ≡ a * w + b * w
sum-mul zero b w = let e : (zero + b) * w ≡ b * w = ap (λ (n : ℕ). n * w) (let z : zero + b ≡ b = omega arith in z) in omega (arith, e, zero-mul w)
sum-mul (suc a) b w =
    let e : (suc a + b) * w ≡ suc (a + b) * w = ap (λ (n : ℕ). n * w) (let z : suc a + b ≡ suc (a + b) = omega arith in z) in
    omega (arith, e, suc-mul (a + b) w, suc-mul a w, sum-mul a b w)

-- the parts before the clear lanes are those lanes
parts-long : (lanes lane width : ℕ) (parts old : List Bool) → lane < lanes → length old ≡ lanes * width → old ≡ parts ++ zero_bits ((lanes - lane) * width) → length parts ≡ lane * width
parts-long lanes lane width parts old less long is =
    let total = ap length is ∙ length-append parts (zero_bits ((lanes - lane) * width)) in
    let zeros = length-zeros ((lanes - lane) * width) in
    let split : lanes * width ≡ lane * width + (lanes - lane) * width = ap (λ (n : ℕ). n * width) (omega (arith, less)) ∙ sum-mul lane (lanes - lane) width in
    omega (arith, total, zeros, split, long)

-- one lane more
pub filled-next : (p : Parameters) (lanes : ℕ → Lane) (lane : ℕ) (old new : Transfer) → lane < p.lanes → length old.content ≡ p.lanes * p.element → length old.last ≡ p.lanes * p.dims → IsFilledBelow p lanes lane old →
    ((parts : List Bool) → length parts ≡ lane * p.element → old.content ≡ parts ++ zero_bits ((p.lanes - lane) * p.element) → new.content ≡ (parts ++ word_or p.element (lanes lane).word) ++ zero_bits ((p.lanes - (lane + 1)) * p.element)) →
    ((parts : List Bool) → length parts ≡ lane * p.dims → old.last ≡ parts ++ zero_bits ((p.lanes - lane) * p.dims) → new.last ≡ (parts ++ marks p.dims (lanes lane).closes) ++ zero_bits ((p.lanes - (lane + 1)) * p.dims)) →
    new.stai ≡ (if is_some (lanes lane).word then (if old.strb == 0 then lane else old.stai) else old.stai) → new.endi ≡ (if is_some (lanes lane).word then lane else old.endi) →
    new.strb ≡ (if is_some (lanes lane).word then bit_or old.strb (2 ^ lane) else old.strb) → IsFilledBelow p lanes (lane + 1) new
filled-next p lanes lane old new less wide long so words closes stai endi strb = record {
  content = words (parts_below (λ i. word_or p.element (lanes i).word) lane) (parts-long p.lanes lane p.element _ old.content less wide so.content) so.content
      ∙ ap (λ (n : ℕ). parts_below (λ i. word_or p.element (lanes i).word) n ++ zero_bits ((p.lanes - (lane + 1)) * p.element)) (sym (add-one lane));
  last = closes (parts_below (λ i. marks p.dims (lanes i).closes) lane) (parts-long p.lanes lane p.dims _ old.last less long so.last) so.last
      ∙ ap (λ (n : ℕ). parts_below (λ i. marks p.dims (lanes i).closes) n ++ zero_bits ((p.lanes - (lane + 1)) * p.dims)) (sym (add-one lane));
  stai = stai ∙ by_stai (acts lanes lane) ∙ ap (λ (n : ℕ). lowest_active lanes n 0) (sym (add-one lane));
  endi = endi ∙ ap (λ (e : ℕ). if acts lanes lane then lane else e) so.endi ∙ ap (λ (n : ℕ). highest_active lanes n (p.lanes - 1)) (sym (add-one lane));
  strb = strb ∙ by_strb (acts lanes lane) ∙ ap (active_bits lanes) (sym (add-one lane));
}
  where
    by_stai : (test : Bool) → (if test then (if old.strb == 0 then lane else old.stai) else old.stai) ≡ lowest_active lanes lane (if test then lane else 0)
    by_stai true = first-one lanes lane old.strb old.stai so.strb so.stai
    by_stai false = so.stai

    by_strb : (test : Bool) → (if test then bit_or old.strb (2 ^ lane) else old.strb) ≡ bit_or (active_bits lanes lane) (if test then 2 ^ lane else 0)
    by_strb true = ap (λ (b : ℕ). bit_or b (2 ^ lane)) so.strb
    by_strb false = so.strb ∙ sym (or_zero_r (active_bits lanes lane))

-- the same test in places and in numbers of items left
pub takes-same : (allowed lane place stop : ℕ) (items : List Item) → place ≤ length items → stop ≤ length items →
    (is_set allowed lane && nat_lt place stop) ≡ takes_at allowed (length items - stop) lane (drop place items)
takes-same allowed lane place stop items one other = ap (λ (b : Bool). is_set allowed lane && b) (by_test (nat_lt place stop) refl)
  where
    by_test : (test : Bool) → nat_lt place stop ≡ test → test ≡ nat_lt (length items - stop) (length (drop place items))
    by_test true is = let long = length-drop place items in let less : place < stop = grind (arith, nat_tests) in let l : length items - stop < length (drop place items) = omega (arith, long, less, one, other) in sym (lt-true (length items - stop) (length (drop place items)) l)
    by_test false is = let long = length-drop place items in let more : stop ≤ place = grind (arith, nat_tests) in let l : length (drop place items) ≤ length items - stop = omega (arith, long, more, one, other) in sym (lt-false (length items - stop) (length (drop place items)) l)

-- one lane is filled from what is left
module _ (p : Parameters) (lanes : ℕ → Lane) (lane : ℕ) (less : lane < p.lanes) (takes ends : Bool) (left : List Item) (old mid : Transfer) (wide : length old.content ≡ p.lanes * p.element)
    (long : length old.last ≡ p.lanes * p.dims) (here : lanes lane ≡ lane_with takes ends left) (so : IsFilledBelow p lanes lane old) (active : IsActivated (is_some (taken_word takes left)) lane old mid)
    (written : (parts : List Bool) → length parts ≡ lane * p.element → old.content ≡ parts ++ zero_bits ((p.lanes - lane) * p.element) →
    mid.content ≡ (parts ++ word_or p.element (taken_word takes left)) ++ zero_bits ((p.lanes - (lane + 1)) * p.element)) where
  word-is : taken_word takes left ≡ (lanes lane).word
  word-is = sym (ap (λ (l : Lane). l.word) here)

  closes-are : (if ends then run_from 0 (behind_taken takes left) else []) ≡ (lanes lane).closes
  closes-are = sym (ap (λ (l : Lane). l.closes) here)

  filled : (last : List Bool) → ((parts : List Bool) → length parts ≡ lane * p.dims → old.last ≡ parts ++ zero_bits ((p.lanes - lane) * p.dims) →
      last ≡ (parts ++ marks p.dims (lanes lane).closes) ++ zero_bits ((p.lanes - (lane + 1)) * p.dims)) →
      IsFilledBelow p lanes (lane + 1) (record { content = mid.content; last = last; stai = mid.stai; endi = mid.endi; strb = mid.strb; user = mid.user })
  filled last closes = filled-next p lanes lane old (record { content = mid.content; last = last; stai = mid.stai; endi = mid.endi; strb = mid.strb; user = mid.user }) less wide long so
      (λ parts far begun. written parts far begun ∙ ap (λ (w : Option (List Bool)). (parts ++ word_or p.element w) ++ zero_bits ((p.lanes - (lane + 1)) * p.element)) word-is)
      closes
      (active.stai ∙ ap (λ (w : Option (List Bool)). if is_some w then (if old.strb == 0 then lane else old.stai) else old.stai) word-is)
      (active.endi ∙ ap (λ (w : Option (List Bool)). if is_some w then lane else old.endi) word-is)
      (active.strb ∙ ap (λ (w : Option (List Bool)). if is_some w then bit_or old.strb (2 ^ lane) else old.strb) word-is)

  pub without-ends : ends ≡ false → IsFilledBelow p lanes (lane + 1) mid
  without-ends never = filled mid.last (λ parts far begun.
      active.last ∙ lane-left parts p.lanes lane p.dims old.last less begun
      ∙ ap (λ (l : List Bool). (parts ++ l) ++ zero_bits ((p.lanes - (lane + 1)) * p.dims)) (sym (marks-none p.dims) ∙ ap (marks p.dims) (ap (λ (b : Bool). if b then run_from 0 (behind_taken takes left) else []) (sym never) ∙ closes-are)))

  pub with-ends : ends ≡ true → (last : List Bool) → ((parts : List Bool) → length parts ≡ lane * p.dims → mid.last ≡ parts ++ zero_bits ((p.lanes - lane) * p.dims) →
      last ≡ (parts ++ marks p.dims (run_from 0 (behind_taken takes left))) ++ zero_bits ((p.lanes - (lane + 1)) * p.dims)) →
      IsFilledBelow p lanes (lane + 1) (record { content = mid.content; last = last; stai = mid.stai; endi = mid.endi; strb = mid.strb; user = mid.user })
  with-ends sure last marked = filled last (λ parts far begun.
      marked parts far (active.last ∙ begun)
      ∙ ap (λ (l : List ℕ). (parts ++ marks p.dims l) ++ zero_bits ((p.lanes - (lane + 1)) * p.dims)) (ap (λ (b : Bool). if b then run_from 0 (behind_taken takes left) else []) (sym sure) ∙ closes-are))
