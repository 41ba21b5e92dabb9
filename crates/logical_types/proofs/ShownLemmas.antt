-- Valid types are shown to be valid by their summaries, where products fit as they stand.
use Rattle.std.proofs.Common.{◌≡◌, ℕ, zero, suc, ◌+◌, ◌*◌, ◌^◌, ◌<◌, ◌≤◌, ◌⊎◌, inl, inr, Bool, true, false, ◌&&◌, ◌||◌, not, cond, leb, ltb, ltb-false, eqb, min, max, ◌-◌, List, [], ◌∷◌, ◌++◌, length, Option, None, Some, refl, sym, ap, ◌∙◌, subst, arith}
use Rattle.std.specs.Option.{option_and_then}
use Rattle.std.proofs.Math.Nat.{le_of_mul-le-mul_right, mul_assoc, mul_comm, mul_right_comm, mul-le-mul_right, one-le-mul, zero-mul}
use Rattle.std.proofs.lemmas.Bool.Decides.{nat_tests}
use Rattle.std.proofs.lemmas.Grind.{flat_map-append}
use Rattle.tydi_base.specs.Frac.{Fraction}
use Rattle.tydi_base.specs.Width.{index_width}
use Rattle.logical_types.specs.declared.fault.TypeFault.{TypeFault}
use Rattle.logical_types.specs.declared.fault.TypeFault.TheVariants as faults
use Rattle.logical_types.specs.declared.dims.Dims.{Dims}
use Rattle.logical_types.specs.declared.ltype.Sync.{Sync}
use Rattle.logical_types.specs.declared.ltype.Sync.TheVariants as syncs
use Rattle.logical_types.specs.declared.rates.Rates.{Rates}
use Rattle.logical_types.specs.declared.streams.Around.{Around}
use Rattle.logical_types.specs.declared.summary.Summary.{Summary}
use Rattle.logical_types.specs.declared.summary.PartsSummary.{PartsSummary}
use Rattle.logical_types.specs.Faults.{IsValid, dims_taken_over, faults_at, faults_of_parts, faults_within, inside, is_bad_throughput, nodes, nodes_of_parts, outermost, rate_faults}
use Rattle.logical_types.specs.Fold.{fold_parts}
use Rattle.logical_types.specs.Names.{has_name_twice}
use Rattle.logical_types.specs.Summary.{AreRates, FitAsTheyStand, HasDims, IsSummary, ValidTypesAreShown, around, dims_beside, dims_in_stream, greater, greatest_product, greatest_product_in, has_rates_inside, is_shown_valid, of_group, of_no_parts, of_parts_and, of_stream, of_union, rates_beside, rates_in_stream, shows, shows_valid, summarized, summary_of, without_stream}
use Rattle.logical_types.specs.Throughput.{fits_words, product_of}
use Rattle.logical_types.specs.Tree.{Ltype, null, bits, group, union, stream, Parts, no_parts, part, Settings, has_stream, names_of}
use Rattle.logical_types.specs.Width.{tag_width, total_width, width_of}
use Rattle.logical_types.proofs.FaultLemmas.{faults_within-stream}
use Rattle.logical_types.proofs.RateLemmas.{AreJoined-beside, IsDivided, greater-chosen, lowest-divided, product-below}
use Rattle.logical_types.proofs.SummaryLemmas.{IsSummed, not_wide, number-names, summary-is, summed-of, valid-shown}

-- ---- lists of faults without any

clear : (test : Bool) (fault : TypeFault) (more rest : List TypeFault) → cond test (fault ∷ more) rest ≡ [] → (test ≡ false) × (rest ≡ [])
clear true fault more rest is = absurd (cc is)
clear false fault more rest is = (refl, is)

clear-both : (front back : List TypeFault) → front ++ back ≡ [] → (front ≡ []) × (back ≡ [])
clear-both [] back is = (refl, is)
clear-both (fault ∷ more) back is = absurd (cc is)

-- ---- properties of a type without errors

record IsClearBits (width : ℕ) : Type 0 where
  some : eqb width 0 ≡ false
  narrow : ltb 4096 width ≡ false

bits-clear : (around : Around) (width : ℕ) → faults_within around (bits width) ≡ [] → IsClearBits width
bits-clear around width is =
    let zero = clear (eqb width 0) _ _ _ (clear-both _ _ is).0 in
    record { some = zero.0; narrow = (clear (ltb 4096 width) _ _ _ zero.1).0 }

record AreClear (around : Around) (parts : Parts) (width : ℕ) : Type 0 where
  narrow : width ≤ 4096
  once : has_name_twice (names_of parts) ≡ false
  none : faults_of_parts around parts ≡ []

group-clear : (around : Around) (parts : Parts) → faults_within around (group parts) ≡ [] → AreClear around parts (total_width parts)
group-clear around parts is =
    let both = clear-both _ _ is in
    let wide = clear (ltb 4096 (total_width parts)) _ _ _ both.0 in
    record { narrow = ltb-false 4096 (total_width parts) wide.0; once = (clear (has_name_twice (names_of parts)) _ _ _ wide.1).0; none = both.1 }

-- a Union without variants has a fault
some_variant : (around : Around) → faults_within around (union no_parts) ≡ [] → ⊥
some_variant around is =
    let wide = clear (ltb 4096 (width_of (union no_parts))) _ _ _ (clear-both _ _ is).0 in
    let fault : ◌≡◌ {A = List TypeFault} (faults.EmptyUnion ∷ []) [] = wide.1 in
    absurd (cc fault)

union-clear : (around : Around) (parts : Parts) → faults_within around (union parts) ≡ [] → AreClear around parts (width_of (union parts))
union-clear around no_parts is = absurd (some_variant around is)
union-clear around (part name ltype more) is =
    let parts : Parts = part name ltype more in
    let both = clear-both _ _ is in
    let wide = clear (ltb 4096 (width_of (union parts))) _ _ _ both.0 in
    record { narrow = ltb-false 4096 (width_of (union parts)) wide.0; once = (clear (has_name_twice (names_of parts)) _ _ _ wide.1).0; none = both.1 }

record IsClearStream (around : Around) (element user : Ltype) (settings : Settings) : Type 0 where
  good : is_bad_throughput around.product settings.throughput ≡ false
  lanes : (inside around settings).product.num ≤ 128 * (inside around settings).product.den
  dims : (inside around settings).dims ≤ 32
  alone : has_stream user ≡ false
  element_none : faults_within (inside around settings) element ≡ []
  user_none : faults_within (inside around settings) user ≡ []

stream-clear : (around : Around) (element user : Ltype) (settings : Settings) → faults_within around (stream element user settings) ≡ [] → IsClearStream around element user settings
stream-clear around element user settings is =
    let all = clear-both _ _ (sym (faults_within-stream around element user settings) ∙ is) in
    let own = clear-both (rate_faults around settings) _ all.0 in
    let good = clear (is_bad_throughput around.product settings.throughput) _ _ _ own.0 in
    let lanes = clear (ltb (128 * (inside around settings).product.den) (inside around settings).product.num) _ _ _ good.1 in
    let dims = clear (ltb 32 (inside around settings).dims) _ _ _ lanes.1 in
    let both = clear-both (faults_within (inside around settings) element) _ all.1 in
    record {
      good = good.0;
      lanes = ltb-false (128 * (inside around settings).product.den) (inside around settings).product.num lanes.0;
      dims = ltb-false 32 (inside around settings).dims dims.0;
      alone = (clear (has_stream user) _ _ _ own.1).0;
      element_none = both.0;
      user_none = both.1;
    }

-- ---- room that there is

-- the surroundings of a type are within the limits
record IsLimited (around : Around) : Type 0 where
  some : 1 ≤ around.product.num
  lanes : around.product.num ≤ 128 * around.product.den
  dims : around.dims ≤ 32

-- a product around a type leaves room for the greatest product in it
abbrev HasLanes : Fraction → Fraction → Type 0
HasLanes around product = around.num * product.num ≤ 128 * around.den * product.den

HasLanes-greater : (around one other : Fraction) → HasLanes around one → HasLanes around other → HasLanes around (greater one other)
HasLanes-greater around one other left right = by (greater-chosen one other)
  where
    by : (greater one other ≡ one) ⊎ (greater one other ≡ other) → HasLanes around (greater one other)
    by (inl is) = subst (HasLanes around) (sym is) left
    by (inr is) = subst (HasLanes around) (sym is) right

HasDims-beside : (around : ℕ) (one other : Dims) → HasDims around one → HasDims around other → HasDims around (dims_beside one other)
HasDims-beside around one other left right = record { over = omega (arith, left.over, right.over); own = omega (arith, left.own, right.own) }

HasDims-stream : (around own : ℕ) (sync : Sync) (inner : Dims) → around ≤ 32 → HasDims (own + dims_taken_over sync around) inner → HasDims around (dims_in_stream own sync inner)
HasDims-stream around own syncs.Sync inner few has = record { over = omega (arith, has.over); own = has.own }
HasDims-stream around own syncs.Desync inner few has = record { over = omega (arith, has.over); own = has.own }
HasDims-stream around own syncs.Flatten inner few has = record { over = omega (arith, few); own = omega (arith, has.over, has.own) }
HasDims-stream around own syncs.FlatDesync inner few has = record { over = omega (arith, few); own = omega (arith, has.over, has.own) }

-- surroundings that leave room inside a Stream leave room for the Stream
lanes_outside : (an ad tn td ipn ipd g h x y pn pd : ℕ) → 1 ≤ h → x * g ≡ an * tn → y * g ≡ ad * td → pn * h ≡ ipn * tn → pd * h ≡ ipd * td
    → x * ipn ≤ 128 * y * ipd → an * pn ≤ 128 * ad * pd
lanes_outside an ad tn td ipn ipd g h x y pn pd some upper lower num den within = le_of_mul-le-mul_right {k = h} by some
  where
    moved : (b t i p z : ℕ) → z * g ≡ b * t → p * h ≡ i * t → b * p * h ≡ z * i * g
    moved b t i p z outer inner =
        mul_assoc b p h ∙ ap (λ (n : ℕ). b * n) (inner ∙ mul_comm i t) ∙ sym (mul_assoc b t i) ∙ ap (λ (n : ℕ). n * i) (sym outer) ∙ mul_right_comm z g i

    left : an * pn * h ≡ x * ipn * g
    left = moved an tn ipn pn x upper num

    right : 128 * ad * pd * h ≡ 128 * y * ipd * g
    right = moved (128 * ad) td ipd pd (128 * y) (mul_assoc 128 y g ∙ ap (λ (n : ℕ). 128 * n) lower ∙ sym (mul_assoc 128 ad td)) den

    by : an * pn * h ≤ 128 * ad * pd * h
    by = subst (λ (n : ℕ). n ≤ 128 * ad * pd * h) (sym left) (subst (λ (n : ℕ). x * ipn * g ≤ n) (sym right) (mul-le-mul_right g within))

-- ---- facts about a Stream without errors

some_factor : (a b : ℕ) → 1 ≤ a * b → 1 ≤ a
some_factor zero b positive = absurd (omega (arith, zero-mul b, positive))
some_factor (suc a) b positive = omega arith

some_other : (a b : ℕ) → 1 ≤ a * b → 1 ≤ b
some_other a b positive = some_factor b a (subst (λ (n : ℕ). 1 ≤ n) (mul_comm a b) positive)

not_zero : (num : ℕ) (fits : Bool) → (eqb num 0 || not fits) ≡ false → 1 ≤ num
not_zero num fits good = by (eqb num 0) refl good
  where
    by : (none : Bool) → eqb num 0 ≡ none → (none || not fits) ≡ false → 1 ≤ num
    by true is holds = let clash : true ≡ false = holds in cc clash
    by false is holds = grind (arith, nat_tests)

record IsSomeStream (around : Around) (settings : Settings) : Type 0 where
  num : 1 ≤ settings.throughput.num
  den : 1 ≤ settings.throughput.den
  limited : IsLimited (inside around settings)

some-stream : (around : Around) (element user : Ltype) (settings : Settings) → IsLimited around → IsClearStream around element user settings → IsSomeStream around settings
some-stream around element user settings limited is =
    by (inside around settings).product (lowest-divided (around.product.num * settings.throughput.num) (around.product.den * settings.throughput.den)) is.lanes
    (λ some. record { some = some; lanes = is.lanes; dims = is.dims })
  where
    num : 1 ≤ settings.throughput.num
    num = not_zero settings.throughput.num (fits_words (inside around settings).product) is.good

    by : (product : Fraction) → IsDivided (around.product.num * settings.throughput.num) (around.product.den * settings.throughput.den) product → product.num ≤ 128 * product.den
        → (1 ≤ product.num → IsLimited (inside around settings)) → IsSomeStream around settings
    by product divided lanes limited_inside =
        let upper : 1 ≤ product.num = some_factor product.num divided.by (subst (λ (n : ℕ). 1 ≤ n) (sym divided.num_is) (one-le-mul limited.some num)) in
        let lower : 1 ≤ product.den = omega (arith, upper, lanes) in
        let whole : 1 ≤ around.product.den * settings.throughput.den = subst (λ (n : ℕ). 1 ≤ n) divided.den_is (one-le-mul lower divided.some) in
        record { num = num; den = some_other around.product.den settings.throughput.den whole; limited = limited_inside upper }

-- there is room inside a Stream where products fit as they stand
has-room : (throughput : Fraction) (inner : Rates) → 1 ≤ throughput.num → 1 ≤ throughput.den → AreRates inner → throughput.num * inner.num < 2 ^ 64 → throughput.den * inner.den < 2 ^ 64
    → has_rates_inside throughput inner ≡ true
has-room throughput inner some whole are upper lower =
    let below = product-below throughput inner.product inner.num inner.den are.upper are.lower in
    by (ltb 0 throughput.den) (ltb (throughput.num * inner.num) (2 ^ 64)) (ltb (throughput.den * inner.den) (2 ^ 64)) (eqb throughput.num 0)
    (ltb (product_of inner.product throughput).num (2 ^ 64)) (ltb (product_of inner.product throughput).den (2 ^ 64))
    (grind (arith, nat_tests)) (grind (arith, nat_tests)) (grind (arith, nat_tests)) (grind (arith, nat_tests))
    (fits (product_of inner.product throughput).num (omega (arith, below.0, upper))) (fits (product_of inner.product throughput).den (omega (arith, below.1, lower)))
  where
    fits : (n : ℕ) → n < 2 ^ 64 → ltb n (2 ^ 64) ≡ true
    fits n within = grind (arith, nat_tests)

    by : (den upper_fits lower_fits none num_fits den_fits : Bool) → den ≡ true → upper_fits ≡ true → lower_fits ≡ true → none ≡ false → num_fits ≡ true → den_fits ≡ true
        → (den && upper_fits && lower_fits && not (none || not (num_fits && den_fits))) ≡ true
    by den upper_fits lower_fits none num_fits den_fits a b c d e f = rw (a, b, c, d, e, f) refl

-- ---- all types

-- a type has a summary, and what is around it leaves room for that
record IsShown (around : Around) (ltype : Ltype) : Type 0 where
  summary : Summary
  is : summary_of ltype ≡ Some summary
  lanes : HasLanes around.product summary.rates.product
  dims : HasDims around.dims summary.dims

-- the same of parts after others
record AreShown (around : Around) (before : PartsSummary) (parts : Parts) : Type 0 where
  sum : PartsSummary
  is : fold_parts summarized (Some before) parts ≡ Some sum
  lanes : HasLanes around.product sum.rates.product
  dims : HasDims around.dims sum.dims

record FitTogether (parts : Parts) : Type 0 where
  num : greatest_product_in (λ throughput. throughput.num) parts < 2 ^ 64
  den : greatest_product_in (λ throughput. throughput.den) parts < 2 ^ 64

around-shown : (sum : PartsSummary) (width : ℕ) → width ≤ 4096 → around sum width ≡ Some (record { width = width; has_stream = sum.has_stream; rates = sum.rates; dims = sum.dims })
around-shown sum width narrow = ap (λ b. cond b None (Some (record { width = width; has_stream = sum.has_stream; rates = sum.rates; dims = sum.dims }))) (not_wide width narrow)

bits-shown : (outside : Around) (width : ℕ) → IsLimited outside → IsClearBits width → IsShown outside (bits width)
bits-shown outside width limited is = record {
  summary = without_stream width;
  is = ap (λ b. cond (b || ltb 4096 width) None (Some (without_stream width))) is.some ∙ ap (λ b. cond b None (Some (without_stream width))) is.narrow;
  lanes = omega (arith, limited.lanes);
  dims = record { over = omega (arith, limited.dims); own = omega arith };
}

group-shown : (outside : Around) (parts : Parts) → AreClear outside parts (total_width parts) → AreShown outside of_no_parts parts → IsShown outside (group parts)
group-shown outside parts is shown =
    let so = summed-of parts shown.sum shown.is in
    let narrow : shown.sum.total ≤ 4096 = omega (arith, so.total, so.small, is.narrow) in
    record {
      summary = record { width = shown.sum.total; has_stream = shown.sum.has_stream; rates = shown.sum.rates; dims = shown.sum.dims };
      is =
          ap (λ b. cond b None (option_and_then of_group (fold_parts summarized (Some of_no_parts) parts))) is.once
          ∙ ap (option_and_then of_group) shown.is ∙ around-shown shown.sum shown.sum.total narrow;
      lanes = shown.lanes;
      dims = shown.dims;
    }

union-width : (parts : Parts) (sum : PartsSummary) → IsSummed parts no_parts sum → width_of (union parts) ≤ 4096 → min (sum.widest + index_width (length (names_of parts))) (2 ^ 32 - 1) ≤ 4096
unfolding tag_width
union-width parts sum so narrow =
    let tag = ap index_width (number-names parts) in
    omega (arith, tag, so.widest, narrow)

union-shown : (outside : Around) (name : List ℕ) (ltype : Ltype) (more : Parts) → AreClear outside (part name ltype more) (width_of (union (part name ltype more)))
    → AreShown outside of_no_parts (part name ltype more) → IsShown outside (union (part name ltype more))
union-shown outside name ltype more is shown =
    let parts : Parts = part name ltype more in
    let width : ℕ = min (shown.sum.widest + index_width (length (names_of parts))) (2 ^ 32 - 1) in
    let narrow = union-width parts shown.sum (summed-of parts shown.sum shown.is) is.narrow in
    let some : eqb (length (names_of parts)) 0 ≡ false = grind (arith, nat_tests) in
    record {
      summary = record { width = width; has_stream = shown.sum.has_stream; rates = shown.sum.rates; dims = shown.sum.dims };
      is =
          ap (λ b. cond b None (option_and_then (λ sum. of_union sum (length (names_of parts))) (fold_parts summarized (Some of_no_parts) parts))) is.once
          ∙ ap (option_and_then (λ sum. of_union sum (length (names_of parts)))) shown.is
          ∙ ap (λ b. cond b None (around shown.sum width)) some ∙ around-shown shown.sum width narrow;
      lanes = shown.lanes;
      dims = shown.dims;
    }

stream-shown : (outside : Around) (element user : Ltype) (settings : Settings) → IsLimited outside → IsClearStream outside element user settings → IsSomeStream outside settings
    → FitAsTheyStand (stream element user settings) → IsShown (inside outside settings) element → IsShown (inside outside settings) user → IsShown outside (stream element user settings)
stream-shown outside element user settings limited is some fit one other = record {
  summary = made;
  is =
      ap (option_and_then (λ (first : Summary). option_and_then (of_stream settings.throughput settings.dims settings.sync first) (summary_of user))) one.is
      ∙ ap (option_and_then (of_stream settings.throughput settings.dims settings.sync one.summary)) other.is
      ∙ ap (λ b. cond (b || not (has_rates_inside settings.throughput both)) None (Some made)) (second.has_stream ∙ is.alone)
      ∙ ap (λ b. cond (not b) None (Some made)) room;
  lanes = HasLanes-greater outside.product (product_of both.product settings.throughput) outermost.product lanes (omega (arith, limited.lanes));
  dims = HasDims-stream outside.dims settings.dims settings.sync deep limited.dims (HasDims-beside (inside outside settings).dims one.summary.dims other.summary.dims one.dims other.dims);
}
  where
    first : IsSummary element one.summary
    first = summary-is element one.summary one.is

    second : IsSummary user other.summary
    second = summary-is user other.summary other.is

    both : Rates
    both = rates_beside one.summary.rates other.summary.rates

    deep : Dims
    deep = dims_beside one.summary.dims other.summary.dims

    made : Summary
    made = record { width = 0; has_stream = true; rates = rates_in_stream settings.throughput both; dims = dims_in_stream settings.dims settings.sync deep }

    are : AreRates both
    are = (AreJoined-beside one.summary.rates other.summary.rates first.rates second.rates).are

    room : has_rates_inside settings.throughput both ≡ true
    room = has-room settings.throughput both some.num some.den are
        (subst (λ (n : ℕ). settings.throughput.num * n < 2 ^ 64) (sym (ap (λ n. max n other.summary.rates.num) first.num ∙ ap (max (greatest_product (λ throughput. throughput.num) element)) second.num)) fit.num)
        (subst (λ (n : ℕ). settings.throughput.den * n < 2 ^ 64) (sym (ap (λ n. max n other.summary.rates.den) first.den ∙ ap (max (greatest_product (λ throughput. throughput.den) element)) second.den)) fit.den)

    within : HasLanes (inside outside settings).product both.product
    within = HasLanes-greater (inside outside settings).product one.summary.rates.product other.summary.rates.product one.lanes other.lanes

    lanes : HasLanes outside.product (product_of both.product settings.throughput)
    lanes =
        let outer = lowest-divided (outside.product.num * settings.throughput.num) (outside.product.den * settings.throughput.den) in
        let inner = lowest-divided (both.product.num * settings.throughput.num) (both.product.den * settings.throughput.den) in
        lanes_outside outside.product.num outside.product.den settings.throughput.num settings.throughput.den both.product.num both.product.den outer.by inner.by
        (inside outside settings).product.num (inside outside settings).product.den (product_of both.product settings.throughput).num (product_of both.product settings.throughput).den
        inner.some outer.num_is outer.den_is inner.num_is inner.den_is within

-- products that fit do so in the types beside one another
fits-left : (factor left right : ℕ) → 1 ≤ factor → factor * max left right < 2 ^ 64 → left < 2 ^ 64
fits-left factor left right some fits = omega (arith, mul-le-mul_right (max left right) some, fits)

fits-right : (factor left right : ℕ) → 1 ≤ factor → factor * max left right < 2 ^ 64 → right < 2 ^ 64
fits-right factor left right some fits = omega (arith, mul-le-mul_right (max left right) some, fits)

mutual
  shown : (ltype : Ltype) (outside : Around) → IsLimited outside → faults_within outside ltype ≡ [] → FitAsTheyStand ltype → IsShown outside ltype
  shown null outside limited none fit = record {
    summary = without_stream 0;
    is = refl;
    lanes = omega (arith, limited.lanes);
    dims = record { over = omega (arith, limited.dims); own = omega arith };
  }
  shown (bits width) outside limited none fit = bits-shown outside width limited (bits-clear outside width none)
  shown (group parts) outside limited none fit =
      let is = group-clear outside parts none in
      group-shown outside parts is (all_shown parts of_no_parts outside limited (omega (arith, limited.lanes)) (record { over = omega (arith, limited.dims); own = omega arith }) is.none
      (record { num = fit.num; den = fit.den }))
  shown (union no_parts) outside limited none fit = absurd (some_variant outside none)
  shown (union (part name ltype more)) outside limited none fit =
      let is = union-clear outside (part name ltype more) none in
      union-shown outside name ltype more is
      (all_shown (part name ltype more) of_no_parts outside limited (omega (arith, limited.lanes)) (record { over = omega (arith, limited.dims); own = omega arith }) is.none
      (record { num = fit.num; den = fit.den }))
  shown (stream element user settings) outside limited none fit =
      let is = stream-clear outside element user settings none in
      let some = some-stream outside element user settings limited is in
      stream-shown outside element user settings limited is some fit
      (shown element (inside outside settings) some.limited is.element_none (record {
        num = fits-left settings.throughput.num (greatest_product (λ t. t.num) element) (greatest_product (λ t. t.num) user) some.num fit.num;
        den = fits-left settings.throughput.den (greatest_product (λ t. t.den) element) (greatest_product (λ t. t.den) user) some.den fit.den;
      }))
      (shown user (inside outside settings) some.limited is.user_none (record {
        num = fits-right settings.throughput.num (greatest_product (λ t. t.num) element) (greatest_product (λ t. t.num) user) some.num fit.num;
        den = fits-right settings.throughput.den (greatest_product (λ t. t.den) element) (greatest_product (λ t. t.den) user) some.den fit.den;
      }))

  all_shown : (parts : Parts) (before : PartsSummary) (outside : Around) → IsLimited outside → HasLanes outside.product before.rates.product → HasDims outside.dims before.dims
      → faults_of_parts outside parts ≡ [] → FitTogether parts → AreShown outside before parts
  all_shown no_parts before outside limited lanes dims none fit = record { sum = before; is = refl; lanes = lanes; dims = dims }
  all_shown (part name ltype more) before outside limited lanes dims none fit =
      let both = clear-both (faults_within outside ltype) (faults_of_parts outside more) (sym (flat_map-append faults_at (nodes outside ltype) (nodes_of_parts outside more)) ∙ none) in
      let one = shown ltype outside limited both.0 (record { num = omega (arith, fit.num); den = omega (arith, fit.den) }) in
      let rest = all_shown more (of_parts_and before one.summary) outside limited
      (HasLanes-greater outside.product before.rates.product one.summary.rates.product lanes one.lanes)
      (HasDims-beside outside.dims before.dims one.summary.dims dims one.dims) both.1
      (record { num = omega (arith, fit.num); den = omega (arith, fit.den) }) in
      record {
        sum = rest.sum;
        is = ap (λ o. fold_parts summarized (summarized.of_part (Some before) o) more) one.is ∙ rest.is;
        lanes = rest.lanes;
        dims = rest.dims;
      }

-- ---- the types that are shown valid

shows_valid-room : (summary : Summary) → HasLanes outermost.product summary.rates.product → HasDims outermost.dims summary.dims → shows_valid summary ≡ true
shows_valid-room summary lanes dims =
    by (leb summary.rates.product.num (128 * summary.rates.product.den)) (leb summary.dims.over 32) (leb summary.dims.own 32) (grind (arith, nat_tests)) (grind (arith, nat_tests)) (grind (arith, nat_tests))
  where
    by : (first second third : Bool) → first ≡ true → second ≡ true → third ≡ true → (first && second && third) ≡ true
    by first second third a b c = rw (a, b, c) refl

shown-back : (ltype : Ltype) → IsValid ltype → FitAsTheyStand ltype → is_shown_valid ltype ≡ true
shown-back ltype valid fit =
    let is = shown ltype outermost (record { some = omega arith; lanes = omega arith; dims = omega arith }) valid fit in
    ap shows is.is ∙ shows_valid-room is.summary is.lanes is.dims

shown-there : (ltype : Ltype) → is_shown_valid ltype ≡ true → IsValid ltype × FitAsTheyStand ltype
shown-there ltype is = by (summary_of ltype) refl is
  where
    by : (found : Option Summary) → summary_of ltype ≡ found → shows found ≡ true → IsValid ltype × FitAsTheyStand ltype
    by None there holds = let clash : false ≡ true = holds in cc clash
    by (Some summary) there holds =
        let so = summary-is ltype summary there in
        (valid-shown ltype summary there holds, record { num = omega (arith, so.num, so.rates.num_fits); den = omega (arith, so.den, so.rates.den_fits) })

pub valid-types-shown : ValidTypesAreShown
valid-types-shown ltype = (shown-there ltype, λ is. shown-back ltype is.0 is.1)
