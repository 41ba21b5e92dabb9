-- Room around a type for the throughputs in it: of types beside one another, and of a Stream around them.
use Rattle.std.proofs.Common.{◌≡◌, ℕ, zero, suc, ◌+◌, ◌*◌, ◌^◌, ◌<◌, ◌≤◌, ◌⊎◌, inl, inr, Bool, true, false, not, ◌&&◌, ◌||◌, cond, eqb, leb, ltb, max, refl, sym, ap, ◌∙◌, subst, arith}
use Rattle.std.proofs.lemmas.Bool.{leb-true, leb-false, ltb-true}
use Rattle.std.proofs.lemmas.Bool.Decides.{nat_tests}
use Rattle.std.proofs.Math.Nat.{mul_assoc, mul_comm, zero-mul, mul_right_comm, mul-le-mul_left, mul-le-mul_right, le_of_mul-le-mul_right, le-mul_of_pos_right, one-le-mul, div-mul_cancel}
use Rattle.tydi_base.specs.Frac.{Fraction}
use Rattle.logical_types.specs.Summary.{AreRates, HasDims, HasRates, dims_beside, dims_in_stream, greater, has_rates_inside, no_rates, rates_beside, rates_in_stream}
use Rattle.logical_types.specs.Faults.{dims_taken_over}
use Rattle.logical_types.specs.Throughput.{divides, divisor_up_to, fits_words, greatest_divisor, lowest, product_of}
use Rattle.logical_types.specs.declared.dims.Dims.{Dims}
use Rattle.logical_types.specs.declared.ltype.Sync.{Sync}
use Rattle.logical_types.specs.declared.ltype.Sync.TheVariants as syncs
use Rattle.logical_types.specs.declared.rates.Rates.{Rates}
use Rattle.logical_types.proofs.ThroughputLemmas.{up_to-divides}

-- a fraction is no greater than another
abbrev pub IsUpTo : Fraction → Fraction → Type 0
IsUpTo one other = one.num * other.den ≤ other.num * one.den

-- surroundings that leave room for the joined rates leave room for both
pub record AreJoined (first second joined : Rates) : Type 0 where
  pub are : AreRates joined
  pub one : (around : Fraction) → HasRates around joined → HasRates around first
  pub other : (around : Fraction) → HasRates around joined → HasRates around second

-- surroundings that leave room for these rates leave room for a Stream of this throughput, and inside it for the rates there
pub record AreRatesIn (throughput : Fraction) (inner rates : Rates) : Type 0 where
  pub are : AreRates rates
  pub some : 1 ≤ throughput.num
  pub inside : (around : Fraction) → HasRates around rates → HasRates (product_of around throughput) inner

-- surroundings that leave room for the dimensions of types leave room for those beside one another, and for a Stream around them
pub record AreDimsJoined (first second joined : Dims) : Type 0 where
  pub one : (around : ℕ) → HasDims around joined → HasDims around first
  pub other : (around : ℕ) → HasDims around joined → HasDims around second

pub record AreDimsIn (own : ℕ) (sync : Sync) (inner dims : Dims) : Type 0 where
  pub inside : (around : ℕ) → HasDims around dims → HasDims (own + dims_taken_over sync around) inner

-- ---- fractions

-- a product with a greater fraction that is within a limit
narrower : (a b pn pd rn rd : ℕ) → 1 ≤ rd → pn * rd ≤ rn * pd → a * rn ≤ b * rd → a * pn ≤ b * pd
narrower a b pn pd rn rd some less within = le_of_mul-le-mul_right {k = rd} by some
  where
    first : a * pn * rd ≤ a * (rn * pd)
    first = subst (λ (n : ℕ). n ≤ a * (rn * pd)) (sym (mul_assoc a pn rd)) (mul-le-mul_left a less)

    second : a * (rn * pd) ≤ b * rd * pd
    second = subst (λ (n : ℕ). n ≤ b * rd * pd) (mul_assoc a rn pd) (mul-le-mul_right pd within)

    by : a * pn * rd ≤ b * pd * rd
    by = subst (λ (n : ℕ). a * pn * rd ≤ n) (mul_right_comm b rd pd) (omega (arith, first, second))

-- a product in lowest terms within a limit is the product of both factors within it
parted : (a b tn td mn md pn pd : ℕ) → 1 ≤ pd → pn * (td * md) ≡ tn * mn * pd → a * pn ≤ b * pd → a * tn * mn ≤ b * td * md
parted a b tn td mn md pn pd some is within = le_of_mul-le-mul_right {k = pd} by some
  where
    left : a * tn * mn * pd ≡ a * pn * (td * md)
    left = ap (λ (n : ℕ). n * pd) (mul_assoc a tn mn) ∙ mul_assoc a (tn * mn) pd ∙ ap (λ (n : ℕ). a * n) (sym is) ∙ sym (mul_assoc a pn (td * md))

    right : b * pd * (td * md) ≡ b * td * md * pd
    right = mul_right_comm b pd (td * md) ∙ ap (λ (n : ℕ). n * pd) (sym (mul_assoc b td md))

    by : a * tn * mn * pd ≤ b * td * md * pd
    by = subst (λ (n : ℕ). n ≤ b * td * md * pd) (sym left) (subst (λ (n : ℕ). a * pn * (td * md) ≤ n) right (mul-le-mul_right (td * md) within))

-- ---- lowest terms

some_divisor : (most one other : ℕ) → 1 ≤ divisor_up_to most one other
some_divisor zero one other = omega arith
some_divisor (suc less) one other = by (divides (suc less) one && divides (suc less) other) (some_divisor less one other)
  where
    by : (test : Bool) → 1 ≤ divisor_up_to less one other → 1 ≤ cond test (suc less) (divisor_up_to less one other)
    by true below = omega arith
    by false below = below

-- both parts of a fraction in lowest terms were divided by one number
pub record IsDivided (num den : ℕ) (fraction : Fraction) : Type 0 where
  pub by : ℕ
  pub some : 1 ≤ by
  pub num_is : fraction.num * by ≡ num
  pub den_is : fraction.den * by ≡ den

pub lowest-divided : (num den : ℕ) → IsDivided num den (lowest num den)
unfolding lowest greatest_divisor
lowest-divided num den =
    let both = up_to-divides den num den in
    record {
      by = divisor_up_to den num den;
      some = some_divisor den num den;
      num_is = div-mul_cancel (divisor_up_to den num den) both.0;
      den_is = div-mul_cancel (divisor_up_to den num den) both.1;
    }

-- ---- types beside one another

below_max : (a n m limit : ℕ) → n ≤ m → a * m < limit → a * n < limit
below_max a n m limit less within = omega (arith, mul-le-mul_left a less, within)

HasRates-less : (around : Fraction) (one joined : Rates) → one.num ≤ joined.num → one.den ≤ joined.den → IsUpTo one.product joined.product → 1 ≤ joined.product.den
    → HasRates around joined → HasRates around one
HasRates-less around one joined num den product some has = record {
  num = below_max around.num one.num joined.num (2 ^ 64) num has.num;
  den = below_max around.den one.den joined.den (2 ^ 64) den has.den;
  lanes = narrower around.num (128 * around.den) one.product.num one.product.den joined.product.num joined.product.den some product has.lanes;
}

AreJoined-made : (one other : Rates) (num den : ℕ) (product : Fraction) → num ≡ max one.num other.num → den ≡ max one.den other.den
    → (product ≡ one.product) ⊎ (product ≡ other.product) → IsUpTo one.product product → IsUpTo other.product product
    → AreRates one → AreRates other → AreJoined one other (record { num = num; den = den; product = product })
AreJoined-made one other num den product nums dens chosen left right are these = record {
  are = record {
    num = omega (arith, are.num, nums);
    den = omega (arith, are.den, dens);
    num_fits = omega (arith, are.num_fits, these.num_fits, nums);
    den_fits = omega (arith, are.den_fits, these.den_fits, dens);
    upper = upper chosen;
    lower = lower chosen;
    some = some chosen;
    whole = whole chosen;
  };
  one = λ around has. HasRates-less around one (record { num = num; den = den; product = product }) (omega (arith, nums)) (omega (arith, dens)) left (some chosen) has;
  other = λ around has. HasRates-less around other (record { num = num; den = den; product = product }) (omega (arith, nums)) (omega (arith, dens)) right (some chosen) has;
}
  where
    some : (product ≡ one.product) ⊎ (product ≡ other.product) → 1 ≤ product.den
    some (inl is) = subst (λ (p : Fraction). 1 ≤ p.den) (sym is) are.some
    some (inr is) = subst (λ (p : Fraction). 1 ≤ p.den) (sym is) these.some

    upper : (product ≡ one.product) ⊎ (product ≡ other.product) → product.num ≤ num
    upper (inl is) = subst (λ (p : Fraction). p.num ≤ num) (sym is) (omega (arith, are.upper, nums))
    upper (inr is) = subst (λ (p : Fraction). p.num ≤ num) (sym is) (omega (arith, these.upper, nums))

    lower : (product ≡ one.product) ⊎ (product ≡ other.product) → product.den ≤ den
    lower (inl is) = subst (λ (p : Fraction). p.den ≤ den) (sym is) (omega (arith, are.lower, dens))
    lower (inr is) = subst (λ (p : Fraction). p.den ≤ den) (sym is) (omega (arith, these.lower, dens))

    whole : (product ≡ one.product) ⊎ (product ≡ other.product) → product.den ≤ product.num
    whole (inl is) = subst (λ (p : Fraction). p.den ≤ p.num) (sym is) are.whole
    whole (inr is) = subst (λ (p : Fraction). p.den ≤ p.num) (sym is) these.whole

-- ---- a Stream around types

times_below : (an tn inner g x limit : ℕ) → 1 ≤ g → x * g ≡ an * tn → an * (tn * inner) < limit → x * inner < limit
times_below an tn inner g x limit some is within =
    let less : x ≤ an * tn = subst (λ (n : ℕ). x ≤ n) is (le-mul_of_pos_right x some) in
    let whole : an * tn * inner < limit = subst (λ (n : ℕ). n < limit) (sym (mul_assoc an tn inner)) within in
    omega (arith, mul-le-mul_right inner less, whole)

lanes_inside : (an ad tn td mn md g x y : ℕ) → 1 ≤ g → x * g ≡ an * tn → y * g ≡ ad * td → an * tn * mn ≤ 128 * ad * td * md → x * mn ≤ 128 * y * md
lanes_inside an ad tn td mn md g x y some one other within = le_of_mul-le-mul_right {k = g} by some
  where
    left : x * mn * g ≡ an * tn * mn
    left = mul_right_comm x mn g ∙ ap (λ (n : ℕ). n * mn) one

    right : 128 * y * md * g ≡ 128 * ad * td * md
    right = mul_right_comm (128 * y) md g ∙ ap (λ (n : ℕ). n * md) (mul_assoc 128 y g ∙ ap (λ (n : ℕ). 128 * n) other ∙ sym (mul_assoc 128 ad td))

    by : x * mn * g ≤ 128 * y * md * g
    by = subst (λ (n : ℕ). n ≤ 128 * y * md * g) (sym left) (subst (λ (n : ℕ). an * tn * mn ≤ n) (sym right) within)

AreRatesIn-made : (throughput product : Fraction) (inner rates : Rates) → 1 ≤ throughput.num → 1 ≤ throughput.den → rates.num < 2 ^ 64 → rates.den < 2 ^ 64
    → rates.product.num ≤ rates.num → rates.product.den ≤ rates.den
    → rates.num ≡ throughput.num * inner.num → rates.den ≡ throughput.den * inner.den
    → 1 ≤ product.den → product.num * (throughput.den * inner.product.den) ≡ throughput.num * inner.product.num * product.den
    → IsUpTo product rates.product → IsUpTo (record { num = 1; den = 1 }) rates.product → 1 ≤ rates.product.den
    → AreRates inner → AreRatesIn throughput inner rates
AreRatesIn-made throughput product inner rates upper lower num_fits den_fits below_num below_den nums dens whole value left right some are = record {
  are = record {
    num = omega (arith, nums, one-le-mul upper are.num);
    den = omega (arith, dens, one-le-mul lower are.den);
    num_fits = num_fits;
    den_fits = den_fits;
    upper = below_num;
    lower = below_den;
    some = some;
    whole = omega (arith, right);
  };
  some = upper;
  inside = λ around has. within around (lowest-divided (around.num * throughput.num) (around.den * throughput.den)) has;
}
  where
    within : (around : Fraction) → IsDivided (around.num * throughput.num) (around.den * throughput.den) (product_of around throughput)
        → HasRates around rates → HasRates (product_of around throughput) inner
    within around divided has = record {
      num = times_below around.num throughput.num inner.num divided.by (product_of around throughput).num (2 ^ 64) divided.some divided.num_is
          (subst (λ (n : ℕ). around.num * n < 2 ^ 64) nums has.num);
      den = times_below around.den throughput.den inner.den divided.by (product_of around throughput).den (2 ^ 64) divided.some divided.den_is
          (subst (λ (n : ℕ). around.den * n < 2 ^ 64) dens has.den);
      lanes = lanes_inside around.num around.den throughput.num throughput.den inner.product.num inner.product.den divided.by (product_of around throughput).num (product_of around throughput).den
          divided.some divided.num_is divided.den_is
          (parted around.num (128 * around.den) throughput.num throughput.den inner.product.num inner.product.den product.num product.den whole value
          (narrower around.num (128 * around.den) product.num product.den rates.product.num rates.product.den some left has.lanes));
    }

-- the product of two fractions in lowest terms has their value
product-value : (one other : Fraction) → 1 ≤ one.den → 1 ≤ other.den
    → (1 ≤ (product_of other one).den) × ((product_of other one).num * (one.den * other.den) ≡ one.num * other.num * (product_of other one).den)
product-value one other left right = by (product_of other one) (lowest-divided (other.num * one.num) (other.den * one.den))
  where
    by : (product : Fraction) → IsDivided (other.num * one.num) (other.den * one.den) product
        → (1 ≤ product.den) × (product.num * (one.den * other.den) ≡ one.num * other.num * product.den)
    by product divided = (some product.den divided.by (subst (λ (n : ℕ). 1 ≤ n) (sym divided.den_is) (one-le-mul right left)), value)
      where
        some : (den by : ℕ) → 1 ≤ den * by → 1 ≤ den
        some zero by positive = absurd (omega (arith, zero-mul by, positive))
        some (suc den) by positive = omega arith

        value : product.num * (one.den * other.den) ≡ one.num * other.num * product.den
        value =
            ap (λ (n : ℕ). product.num * n) (mul_comm one.den other.den ∙ sym divided.den_is ∙ mul_comm product.den divided.by)
            ∙ sym (mul_assoc product.num divided.by product.den)
            ∙ ap (λ (n : ℕ). n * product.den) (divided.num_is ∙ mul_comm other.num one.num)

-- its parts are no greater than the products of greater parts
pub product-below : (one other : Fraction) (num den : ℕ) → other.num ≤ num → other.den ≤ den
    → ((product_of other one).num ≤ one.num * num) × ((product_of other one).den ≤ one.den * den)
product-below one other num den upper lower = by (product_of other one) (lowest-divided (other.num * one.num) (other.den * one.den))
  where
    by : (product : Fraction) → IsDivided (other.num * one.num) (other.den * one.den) product → (product.num ≤ one.num * num) × (product.den ≤ one.den * den)
    by product divided = (
      omega (arith, le-mul_of_pos_right product.num divided.some, divided.num_is, mul-le-mul_right one.num upper, mul_comm num one.num),
      omega (arith, le-mul_of_pos_right product.den divided.some, divided.den_is, mul-le-mul_right one.den lower, mul_comm den one.den),
    )

-- ---- the rates of types without Streams, of types beside one another, and of a Stream

pub greater-chosen : (one other : Fraction) → (greater one other ≡ one) ⊎ (greater one other ≡ other)
greater-chosen one other = by (leb (one.num * other.den) (other.num * one.den))
  where
    by : (less : Bool) → (cond less other one ≡ one) ⊎ (cond less other one ≡ other)
    by true = inr refl
    by false = inl refl

greater-up_to : (one other : Fraction) → IsUpTo one (greater one other) × IsUpTo other (greater one other)
greater-up_to one other = by (leb (one.num * other.den) (other.num * one.den)) refl
  where
    by : (less : Bool) → leb (one.num * other.den) (other.num * one.den) ≡ less → IsUpTo one (cond less other one) × IsUpTo other (cond less other one)
    by true is = (leb-true (one.num * other.den) (other.num * one.den) is, omega arith)
    by false is = (omega arith, omega (arith, leb-false (one.num * other.den) (other.num * one.den) is))

pub no_rates-are : AreRates no_rates
no_rates-are = record { num = omega arith; den = omega arith; num_fits = omega arith; den_fits = omega arith; upper = omega arith; lower = omega arith; some = omega arith; whole = omega arith }

pub AreJoined-beside : (one other : Rates) → AreRates one → AreRates other → AreJoined one other (rates_beside one other)
AreJoined-beside one other are these =
    let up_to = greater-up_to one.product other.product in
    AreJoined-made one other (max one.num other.num) (max one.den other.den) (greater one.product other.product) refl refl (greater-chosen one.product other.product) up_to.0 up_to.1 are these

-- a throughput that has room around such types is not zero, and products fit
record HasSome (throughput : Fraction) (inner : Rates) : Type 0 where
  num : 1 ≤ throughput.num
  den : 1 ≤ throughput.den
  num_fits : throughput.num * inner.num < 2 ^ 64
  den_fits : throughput.den * inner.den < 2 ^ 64

room-parts : (throughput : Fraction) (inner : Rates) → has_rates_inside throughput inner ≡ true → HasSome throughput inner
room-parts throughput inner =
    by (ltb 0 throughput.den) (ltb (throughput.num * inner.num) (2 ^ 64)) (ltb (throughput.den * inner.den) (2 ^ 64)) (eqb throughput.num 0) (fits_words (product_of inner.product throughput))
    refl refl refl refl
  where
    by : (some nums dens none fits : Bool) → ltb 0 throughput.den ≡ some → ltb (throughput.num * inner.num) (2 ^ 64) ≡ nums → ltb (throughput.den * inner.den) (2 ^ 64) ≡ dens
        → eqb throughput.num 0 ≡ none → (some && nums && dens && not (none || not fits)) ≡ true → HasSome throughput inner
    by true true true false fits lower upper_fits lower_fits upper is = record {
      num = grind (arith, nat_tests);
      den = ltb-true 0 throughput.den lower;
      num_fits = ltb-true (throughput.num * inner.num) (2 ^ 64) upper_fits;
      den_fits = ltb-true (throughput.den * inner.den) (2 ^ 64) lower_fits;
    }
    by true true true true fits lower upper_fits lower_fits upper is = let clash : false ≡ true = is in cc clash
    by true true false none fits lower upper_fits lower_fits upper is = let clash : false ≡ true = is in cc clash
    by true false dens none fits lower upper_fits lower_fits upper is = let clash : false ≡ true = is in cc clash
    by false nums dens none fits lower upper_fits lower_fits upper is = let clash : false ≡ true = is in cc clash

pub AreRatesIn-stream : (throughput : Fraction) (inner : Rates) → has_rates_inside throughput inner ≡ true → AreRates inner → AreRatesIn throughput inner (rates_in_stream throughput inner)
AreRatesIn-stream throughput inner room are =
    let some = room-parts throughput inner room in
    let product = product-value throughput inner.product some.den are.some in
    let up_to = greater-up_to (product_of inner.product throughput) (record { num = 1; den = 1 }) in
    let below = product-below throughput inner.product inner.num inner.den are.upper are.lower in
    let chosen = greater-chosen (product_of inner.product throughput) (record { num = 1; den = 1 }) in
    AreRatesIn-made throughput (product_of inner.product throughput) inner (rates_in_stream throughput inner) some.num some.den some.num_fits some.den_fits
    (kept (λ p. p.num ≤ throughput.num * inner.num) chosen below.0 (one-le-mul some.num are.num)) (kept (λ p. p.den ≤ throughput.den * inner.den) chosen below.1 (one-le-mul some.den are.den)) refl refl product.0 product.1 up_to.0 up_to.1
    (kept (λ p. 1 ≤ p.den) chosen product.0 (omega arith)) are
  where
    -- a property of both holds for the greater
    kept : (Is : Fraction → Type 0) → (greater (product_of inner.product throughput) (record { num = 1; den = 1 }) ≡ product_of inner.product throughput)
        ⊎ (greater (product_of inner.product throughput) (record { num = 1; den = 1 }) ≡ record { num = 1; den = 1 })
        → Is (product_of inner.product throughput) → Is (record { num = 1; den = 1 }) → Is (greater (product_of inner.product throughput) (record { num = 1; den = 1 }))
    kept Is (inl is) product one = subst Is (sym is) product
    kept Is (inr is) product one = subst Is (sym is) one

-- ---- dimensions

pub AreDimsJoined-beside : (one other : Dims) → AreDimsJoined one other (dims_beside one other)
AreDimsJoined-beside one other = record {
  one = λ around has. record { over = omega (arith, has.over); own = omega (arith, has.own) };
  other = λ around has. record { over = omega (arith, has.over); own = omega (arith, has.own) };
}

pub AreDimsIn-stream : (own : ℕ) (sync : Sync) (inner : Dims) → AreDimsIn own sync inner (dims_in_stream own sync inner)
AreDimsIn-stream own syncs.Sync inner = record { inside = λ around has. record { over = omega (arith, has.over); own = omega (arith, has.own) } }
AreDimsIn-stream own syncs.Desync inner = record { inside = λ around has. record { over = omega (arith, has.over); own = omega (arith, has.own) } }
AreDimsIn-stream own syncs.Flatten inner = record { inside = λ around has. record { over = omega (arith, has.own); own = omega (arith, has.own) } }
AreDimsIn-stream own syncs.FlatDesync inner = record { inside = λ around has. record { over = omega (arith, has.own); own = omega (arith, has.own) } }
