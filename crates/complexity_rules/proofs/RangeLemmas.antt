-- The ones of a part of a number, and the active lanes that they stand for.
use Rattle.std.proofs.Common.{◌≡◌, ◌∙◌, ℕ, zero, suc, ◌+◌, ◌-◌, ◌*◌, ◌/◌, ◌%◌, ◌^◌, ◌<◌, ◌≤◌, inl, inr, ◌⊎◌, Bool, true, false, ◌&&◌, ◌==◌, nat_le, cond, refl, sym, ap, arith}
use Rattle.std.specs.Int.{bit_at}
use Rattle.std.specs.Int.Count.{ones}
use Rattle.std.proofs.Math.Nat.{add-mul, add-zero, mod-lt, mod-one, mul_assoc, mul_comm}
use Rattle.std.proofs.lemmas.Bool.{le-leb}
use Rattle.std.proofs.lemmas.Bool.Decides.{nat_tests}
use Rattle.std.proofs.lemmas.Nat.{pow_pos, pow-add, mod-pow-add, mod-mul-add, mul-add-lt, ones_cat, shr-shr, shr_split}
use Rattle.physical_stream.specs.Items.{is_active}
use Rattle.physical_stream.specs.declared.transfer.Transfer.{Transfer}
use Rattle.complexity_rules.specs.Unmarked.{active_lanes}
use Rattle.complexity_rules.proofs.StrobeLemmas.{low_bit}

-- ---- the ones of a part of a number

-- how many of so many bits of a number from a place on are ones
abbrev pub ones_of : ℕ → ℕ → ℕ → ℕ
ones_of n from zero = 0
ones_of n from (suc count) = ones_of n from count + bit_at n (from + count)

ones_bit : (b : ℕ) → (b ≡ 0) ⊎ (b ≡ 1) → ones b ≡ b
unfolding ones
ones_bit b (inl is) = ap ones is ∙ sym is
ones_bit b (inr is) = ap ones is ∙ sym is

ones-part : (n from count : ℕ) → ones (n / 2 ^ from % 2 ^ count) ≡ ones_of n from count
unfolding ones
ones-part n from zero = ap ones (mod-one (n / 2 ^ from))
ones-part n from (suc count) =
    let y = n / 2 ^ from in
    let next : suc count ≡ 1 + count = omega arith in
    let parts : y % 2 ^ suc count ≡ y / 2 ^ count % 2 * 2 ^ count + y % 2 ^ count = ap (λ (k : ℕ). y % 2 ^ k) next ∙ mod-pow-add y 1 count in
    let top : ones (y / 2 ^ count % 2) ≡ bit_at n (from + count) = ones_bit _ (low_bit (y / 2 ^ count)) ∙ ap (λ (k : ℕ). k % 2) (shr-shr n from count) in
    let below = ones-part n from count in
    ap ones parts ∙ ones_cat count (y / 2 ^ count % 2) (y % 2 ^ count) (mod-lt y (pow_pos count)) ∙ omega (arith, top, below)

-- a part of a number, with all else shifted out
ones-shifted : (bits n from count more : ℕ) → count + more ≡ bits → ones (n / 2 ^ from * 2 ^ more % 2 ^ bits) ≡ ones_of n from count
unfolding ones
ones-shifted bits n from count more whole =
    let y = n / 2 ^ from in
    let part = y % 2 ^ count in
    let width : 2 ^ count * 2 ^ more ≡ 2 ^ bits = sym (pow-add 2 count more) ∙ ap (λ (k : ℕ). 2 ^ k) whole in
    let small : part * 2 ^ more < 2 ^ count * 2 ^ more = below part (2 ^ more) (2 ^ count) (mod-lt y (pow_pos count)) (pow_pos more) in
    let split : y * 2 ^ more ≡ y / 2 ^ count * (2 ^ count * 2 ^ more) + part * 2 ^ more =
    ap (λ (k : ℕ). k * 2 ^ more) (sym (shr_split y count)) ∙ add-mul (y / 2 ^ count * 2 ^ count) part (2 ^ more)
    ∙ ap (λ (k : ℕ). k + part * 2 ^ more) (mul_assoc (y / 2 ^ count) (2 ^ count) (2 ^ more)) in
    let kept : y * 2 ^ more % 2 ^ bits ≡ part * 2 ^ more =
    ap (λ (k : ℕ). y * 2 ^ more % k) (sym width) ∙ ap (λ (k : ℕ). k % (2 ^ count * 2 ^ more)) split ∙ mod-mul-add (y / 2 ^ count) (2 ^ count * 2 ^ more) (part * 2 ^ more) small in
    ap ones kept ∙ ap ones (sym (add-zero (part * 2 ^ more))) ∙ ones_cat more part 0 (pow_pos more) ∙ add-zero (ones part) ∙ ones-part n from count
  where
    below : (a w h : ℕ) → a < h → 0 < w → a * w < h * w
    below a w h less some = let lt = mul-add-lt a w 0 h less some in let same = mul_comm w h in omega (arith, lt, same)

-- ---- active lanes

and_false : (b c : Bool) → c ≡ false → (b && c) ≡ false
and_false false c is = refl
and_false true c is = is

-- a lane that is not between stai and endi is not active
idle_outside : (t : Transfer) (lane : ℕ) → (lane < t.stai) ⊎ (t.endi < lane) → is_active t lane ≡ false
idle_outside t lane (inl before) = and_false _ _ (let b : nat_le t.stai lane ≡ false = grind (arith, nat_tests) in ap (λ (b : Bool). b && nat_le lane t.endi) b)
idle_outside t lane (inr past) = and_false _ _ (and_false _ _ (let b : nat_le lane t.endi ≡ false = grind (arith, nat_tests) in b))

-- one that is between them is active where its strobe bit is a one
active_bit : (t : Transfer) (lane : ℕ) → t.stai ≤ lane → lane ≤ t.endi → cond (is_active t lane) 1 0 ≡ bit_at t.strb lane
active_bit t lane from to =
    let between : (nat_le t.stai lane && nat_le lane t.endi) ≡ true = ap (λ (b : Bool). b && nat_le lane t.endi) (le-leb t.stai lane from) ∙ le-leb lane t.endi to in
    ap (λ (b : Bool). cond ((bit_at t.strb lane == 1) && b) 1 0) between ∙ by_bit (bit_at t.strb lane) (low_bit (t.strb / 2 ^ lane))
  where
    by_bit : (b : ℕ) → (b ≡ 0) ⊎ (b ≡ 1) → cond ((b == 1) && true) 1 0 ≡ b
    by_bit b (inl is) = ap (λ (k : ℕ). cond ((k == 1) && true) 1 0) is ∙ sym is
    by_bit b (inr is) = ap (λ (k : ℕ). cond ((k == 1) && true) 1 0) is ∙ sym is

active_none : (t : Transfer) (from count : ℕ) → ((lane : ℕ) → from ≤ lane → lane < from + count → (lane < t.stai) ⊎ (t.endi < lane)) → active_lanes t from count ≡ 0
active_none t from zero outside = refl
active_none t from (suc count) outside =
    let earlier = active_none t from count (λ lane after before. outside lane after (omega arith)) in
    let here = ap {B = ℕ} (λ (b : Bool). cond b 1 0) (idle_outside t (from + count) (outside (from + count) (omega arith) (omega arith))) in
    omega (arith, earlier, here)

active_parts : (t : Transfer) (from first second : ℕ) → active_lanes t from (first + second) ≡ active_lanes t from first + active_lanes t (from + first) second
active_parts t from first zero = ap (active_lanes t from) (add-zero first) ∙ sym (add-zero (active_lanes t from first))
active_parts t from first (suc second) =
    let place : from + (first + second) ≡ from + first + second = omega arith in
    let next : first + suc second ≡ suc (first + second) = omega arith in
    let here = ap {B = ℕ} (λ (lane : ℕ). cond (is_active t lane) 1 0) place in
    ap (active_lanes t from) next ∙ omega (arith, active_parts t from first second, here)

active_inside : (t : Transfer) (low count : ℕ) → t.stai ≤ low → low + count ≤ t.endi + 1 → active_lanes t low count ≡ ones_of t.strb low count
active_inside t low zero from to = refl
active_inside t low (suc count) from to = omega (arith, active_inside t low count from (omega arith), active_bit t (low + count) (omega arith) (omega arith))

pub active_lanes-most : (t : Transfer) (from count : ℕ) → active_lanes t from count ≤ count
active_lanes-most t from zero = omega arith
active_lanes-most t from (suc count) = omega (arith, active_lanes-most t from count, one_at_most (is_active t (from + count)))
  where
    one_at_most : (b : Bool) → cond b 1 0 ≤ 1
    one_at_most false = omega arith
    one_at_most true = omega arith

-- where the range is outside stai and endi, no lane is active
pub active_outside : (t : Transfer) (from to : ℕ) → from ≤ to → ((lane : ℕ) → from ≤ lane → lane < to → (lane < t.stai) ⊎ (t.endi < lane)) → active_lanes t from (to - from) ≡ 0
active_outside t from to order outside = active_none t from (to - from) (λ lane after before. outside lane after (omega arith))

-- the active lanes of a range are the ones of the strobe between stai and endi, in a number of so many bits
pub active_shifted : (bits : ℕ) (t : Transfer) (from to low high : ℕ) → from ≤ low → low < high → high ≤ to → high ≤ bits → t.stai ≤ low → high ≤ t.endi + 1 →
    ((lane : ℕ) → from ≤ lane → lane < low → lane < t.stai) → ((lane : ℕ) → high ≤ lane → lane < to → t.endi < lane) →
    ones (t.strb / 2 ^ low * 2 ^ (bits - (high - low)) % 2 ^ bits) ≡ active_lanes t from (to - from)
active_shifted bits t from to low high front some back most after before idle_front idle_back =
    let whole : to - from ≡ low - from + (high - low + (to - high)) = omega arith in
    let begins : from + (low - from) ≡ low = omega arith in
    let ends : low + (high - low) ≡ high = omega arith in
    let first = active_none t from (low - from) (λ lane a b. inl (idle_front lane a (omega arith))) in
    let last = active_none t high (to - high) (λ lane a b. inr (idle_back lane a (omega arith))) in
    let inside = active_inside t low (high - low) after (omega arith) in
    let parts = active_parts t from (low - from) (high - low + (to - high)) in
    let rest = active_parts t low (high - low) (to - high) in
    let at_low = ap (λ (lane : ℕ). active_lanes t lane (high - low + (to - high))) begins in
    let at_high = ap (λ (lane : ℕ). active_lanes t lane (to - high)) ends in
    let all = ap (active_lanes t from) whole in
    ones-shifted bits t.strb low (high - low) (bits - (high - low)) (omega arith) ∙ omega (arith, first, last, inside, parts, rest, at_low, at_high, all)

pub ones_none : ones 0 ≡ 0
unfolding ones
ones_none = refl
