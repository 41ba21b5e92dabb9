-- Properties of a type without errors.
use Rattle.std.proofs.Common.{◌≡◌, ℕ, suc, zero, ◌*◌, ◌≤◌, Bool, true, false, cond, not, ◌||◌, [], ◌∷◌, ◌++◌, ltb, eqb, refl, sym, ◌∙◌, arith}
use Rattle.std.proofs.lemmas.Bool.Decides.{nat_tests}
use Rattle.logical_types.specs.declared.fault.TypeFault.TheVariants as faults
use Rattle.logical_types.specs.declared.streams.Around.{Around}
use Rattle.logical_types.specs.Tree.{Ltype, stream, Settings, has_stream}
use Rattle.logical_types.specs.Faults.{inside, rate_faults, faults_within, has_bad_throughput, has_too_many_lanes, has_too_many_dims}
use Rattle.logical_types.specs.Throughput.{product_of, fits_words}
use Rattle.logical_types.proofs.FaultLemmas.{faults_within-stream}
use Rattle.logical_types.proofs.PlainTypes.{apart, none_of, width-valid}
use Rattle.logical_types.proofs.ThroughputLemmas.{lowest-IsReduced}
use Rattle.std.proofs.Math.Nat.{mul-pos}
use Rattle.tydi_base.specs.Frac.{Fraction, IsReduced}
use Rattle.type_split.specs.Found.{IsInRange}

-- ---- a Stream without faults

pub record ValidStream (around : Around) (element user : Ltype) (settings : Settings) : Type 0 where
  pub throughput : has_bad_throughput around settings ≡ false
  pub lanes : has_too_many_lanes around settings ≡ false
  pub dims : has_too_many_dims around settings ≡ false
  pub element_valid : faults_within (inside around settings) element ≡ []
  pub user_valid : faults_within (inside around settings) user ≡ []

pub valid-stream : (around : Around) (element user : Ltype) (settings : Settings) → faults_within around (stream element user settings) ≡ [] → ValidStream around element user settings
valid-stream around element user settings valid =
    let parts = apart (rate_faults around settings ++ cond (has_stream user) (faults.UserHasStream ∷ []) [])
    (faults_within (inside around settings) element ++ faults_within (inside around settings) user) (sym (faults_within-stream around element user settings) ∙ valid) in
    let rates = (apart (rate_faults around settings) (cond (has_stream user) (faults.UserHasStream ∷ []) []) parts.0).0 in
    let types = apart (faults_within (inside around settings) element) (faults_within (inside around settings) user) parts.1 in
    let throughput = none_of (has_bad_throughput around settings) faults.BadThroughput _ rates in
    let lanes = none_of (has_too_many_lanes around settings) faults.TooManyLanes _ throughput.1 in
    let dims = none_of (has_too_many_dims around settings) faults.TooManyDims _ lanes.1 in
    record { throughput = throughput.0; lanes = lanes.0; dims = dims.0; element_valid = types.0; user_valid = types.1 }

-- ---- throughputs that are not zero

or_left : (a b : Bool) → (a || b) ≡ false → a ≡ false
or_left true b e = e
or_left false b e = refl

some_num : (num : ℕ) → eqb num 0 ≡ false → 1 ≤ num
some_num num e = grind (arith, nat_tests)

-- the upper part of a fraction is not zero where it has the value of numbers that are not
num-some : (num den : ℕ) (fraction : Fraction) → 1 ≤ num → IsReduced num den fraction → 1 ≤ fraction.num
num-some num den fraction some is = not_zero fraction.num (mul-pos some is.terms.some) is.value
  where
    not_zero : (n : ℕ) → 1 ≤ num * fraction.den → n * den ≡ num * fraction.den → 1 ≤ n
    not_zero zero pos value = absurd (omega (arith, pos, value))
    not_zero (suc n) pos value = omega arith

-- the product inside a Stream without faults is not zero, where that around it is not
pub flows-inside : (around : Around) (element user : Ltype) (settings : Settings) → ValidStream around element user settings → 1 ≤ around.product.num → 1 ≤ around.product.den → 1 ≤ settings.throughput.den
    → 1 ≤ (inside around settings).product.num
flows-inside around element user settings valid flows den own_den =
    let own : 1 ≤ settings.throughput.num = some_num settings.throughput.num (or_left (eqb settings.throughput.num 0) (not (fits_words (product_of around.product settings.throughput))) valid.throughput) in
    num-some (around.product.num * settings.throughput.num) (around.product.den * settings.throughput.den) (product_of around.product settings.throughput) (mul-pos flows own)
    (lowest-IsReduced (around.product.num * settings.throughput.num) (around.product.den * settings.throughput.den) (mul-pos den own_den))

within_lanes : (most num : ℕ) → ltb most num ≡ false → num ≤ most
within_lanes most num e = grind (arith, nat_tests)

-- the parameters of a Stream without faults are in their ranges
pub valid-range : (around : Around) (element user : Ltype) (settings : Settings) → ValidStream around element user settings → 1 ≤ (inside around settings).product.num
    → IsInRange (inside around settings) element user
valid-range around element user settings valid flows = record {
  some_lane = flows;
  lanes_most = within_lanes (128 * (inside around settings).product.den) (inside around settings).product.num valid.lanes;
  dims_most = within_lanes 32 (inside around settings).dims valid.dims;
  element_most = width-valid (inside around settings) element valid.element_valid;
  user_most = width-valid (inside around settings) user valid.user_valid;
}
