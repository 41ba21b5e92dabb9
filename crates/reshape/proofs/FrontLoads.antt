-- What the front takes of the items in a buffer: the first elements, up to one for each lane, and the run of Closes behind them.
use Rattle.std.proofs.Common.{◌≡◌, ◌∙◌, ℕ, zero, suc, ◌+◌, ◌-◌, ◌^◌, ◌<◌, ◌≤◌, Bool, true, false, ◌==◌, nat_le, nat_lt, List, drop, min, refl, ap, arith}
use Rattle.std.specs.Int.{bit_at}
use Rattle.std.proofs.lemmas.Bool.Decides.{nat_tests}
use Rattle.std.proofs.lemmas.Nat.Bits.{bit_at_ones}
use Rattle.std.proofs.Math.Pow.{pow-lt}
use Rattle.tydi_base.specs.Level.{number_of}
use Rattle.physical_stream.specs.Params.{Parameters}
use Rattle.physical_stream.specs.declared.item.Item.{Item}
use Rattle.scheduler.specs.Planned.{run_of, behind_run, elements_of, is_allowed, lowest_one, ones_below, place_in, packed_load, count_of}
use Rattle.scheduler.proofs.AllowLemmas.{count-is}
use Rattle.reshape.specs.Reshaping.{front_load}

-- the mask that is all ones
abbrev pub all_ones : Parameters → ℕ
all_ones p = 2 ^ p.lanes - 1

ones-all : (lanes n : ℕ) → n ≤ lanes → ones_below (2 ^ lanes - 1) n ≡ n
ones-all lanes zero le = refl
ones-all lanes (suc n) le = omega (arith, bit_at_ones lanes n (omega arith), ones-all lanes n (omega arith))

lowest-all : (lanes n found : ℕ) → suc n ≤ lanes → lowest_one (2 ^ lanes - 1) (suc n) found ≡ 0
lowest-all lanes zero found le =
    let one = bit_at_ones lanes 0 (omega (arith, le)) in
    let set : (bit_at (2 ^ lanes - 1) 0 == 1) ≡ true = grind (arith, nat_tests) in
    rw set refl
lowest-all lanes (suc m) found le =
    let one = bit_at_ones lanes (suc m) (omega (arith, le)) in
    let set : (bit_at (2 ^ lanes - 1) (suc m) == 1) ≡ true = grind (arith, nat_tests) in
    rw set (lowest-all lanes m (suc m) (omega (arith, le)))

lowest-first : (lanes : ℕ) → 1 ≤ lanes → lowest_one (2 ^ lanes - 1) lanes 0 ≡ 0
lowest-first zero some = refl
lowest-first (suc n) some = lowest-all (suc n) n 0 (omega arith)

-- all ones allow each lane
pub all-allowed : (p : Parameters) → 1 ≤ p.lanes → (i : ℕ) → i < p.lanes → is_allowed p (2 ^ p.lanes - 1) i ≡ true
all-allowed p some i less = by_level (nat_le (number_of p.level) 4) (number_of p.level == 5) (number_of p.level == 6) refl refl refl
  where
    ones : ones_below (2 ^ p.lanes - 1) p.lanes ≡ p.lanes
    ones = ones-all p.lanes p.lanes (omega arith)

    by_level : (four five six : Bool) → nat_le (number_of p.level) 4 ≡ four → (number_of p.level == 5) ≡ five → (number_of p.level == 6) ≡ six → is_allowed p (2 ^ p.lanes - 1) i ≡ true
    by_level true five six is _ _ = rw is refl
    by_level false true six is is5 _ = rw (is, is5) (let o = ones in grind (arith, nat_tests))
    by_level false false true is is5 is6 =
        let o = ones in
        let low = lowest-first p.lanes some in
        let one : nat_le (lowest_one (2 ^ p.lanes - 1) p.lanes 0) i ≡ true = grind (arith, nat_tests) in
        let sum : i < lowest_one (2 ^ p.lanes - 1) p.lanes 0 + ones_below (2 ^ p.lanes - 1) p.lanes = omega (arith, o, low, less) in
        let two : nat_lt i (lowest_one (2 ^ p.lanes - 1) p.lanes 0 + ones_below (2 ^ p.lanes - 1) p.lanes) ≡ true = grind (arith, nat_tests) in
        rw (is, is5, is6, one, two) refl
    by_level false false false is is5 is6 = let bit = bit_at_ones p.lanes i less in rw (is, is5, is6) (grind (arith, nat_tests))

-- a lane's place among lanes that are all allowed is its number
pub place-all : (allowed : ℕ → Bool) (lanes : ℕ) → ((i : ℕ) → i < lanes → allowed i ≡ true) → (n : ℕ) → n ≤ lanes → place_in allowed n ≡ n
place-all allowed lanes all zero le = refl
place-all allowed lanes all (suc n) le = rw (all n (omega arith), place-all allowed lanes all n (omega arith)) (omega arith)

module _ (p : Parameters) (some : 1 ≤ p.lanes) (items : List Item) where
  -- the lanes that are allowed
  abbrev pub allowed : ℕ → Bool
  allowed = is_allowed p (2 ^ p.lanes - 1)

  -- how many elements the front has
  abbrev pub front_count : ℕ
  front_count = min (elements_of items) p.lanes

  pub allowed-below : (i : ℕ) → i < p.lanes → is_allowed p (2 ^ p.lanes - 1) i ≡ true
  allowed-below = all-allowed p some

  pub place-is : (n : ℕ) → n ≤ p.lanes → place_in (is_allowed p (2 ^ p.lanes - 1)) n ≡ n
  place-is = place-all (is_allowed p (2 ^ p.lanes - 1)) p.lanes allowed-below

  count : count_of p (is_allowed p (2 ^ p.lanes - 1)) items ≡ min (elements_of items) p.lanes
  count = count-is (elements_of items) (place_in (is_allowed p (2 ^ p.lanes - 1)) p.lanes) ∙ ap (min (elements_of items)) (place-is p.lanes (omega arith))

  not_zero : (2 ^ p.lanes - 1 == 0) ≡ false
  not_zero = let more = pow-lt {i = 0} {j = p.lanes} some in grind (arith, nat_tests)

  pub front-load-is : front_load p items ≡ packed_load p (is_allowed p (2 ^ p.lanes - 1)) (min (elements_of items) p.lanes) (run_of (drop (min (elements_of items) p.lanes) items)) items
      (behind_run 0 (drop (min (elements_of items) p.lanes) items))
  front-load-is = rw not_zero (ap (λ (k : ℕ). packed_load p (is_allowed p (2 ^ p.lanes - 1)) k (run_of (drop k items)) items (behind_run 0 (drop k items))) count)
