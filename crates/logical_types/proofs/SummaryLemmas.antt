-- Summaries of types by those of what they hold.
use Rattle.std.proofs.Common.{◌≡◌, ℕ, ◌+◌, ◌*◌, ◌-◌, ◌^◌, ◌<◌, ◌≤◌, ◌&&◌, Bool, true, false, ◌||◌, suc, cond, leb, ltb, ltb-false, eqb, not, min, max, List, [], ◌++◌, length, Option, None, Some, refl, sym, ap, ◌∙◌, subst, arith}
use Rattle.std.proofs.Math.Nat.{le-mul_of_pos_right, mul-le-mul_left, le_of_mul-le-mul_right}
use Rattle.std.specs.Option.{option_and_then}
use Rattle.std.proofs.lemmas.Bool.{leb-true}
use Rattle.std.proofs.lemmas.Bool.Decides.{nat_tests}
use Rattle.std.proofs.lemmas.Grind.{flat_map-append}
use Rattle.tydi_base.specs.Frac.{Fraction}
use Rattle.tydi_base.specs.Width.{index_width}
use Rattle.logical_types.specs.declared.fault.TypeFault.{TypeFault}
use Rattle.logical_types.specs.declared.dims.Dims.{Dims}
use Rattle.logical_types.specs.declared.ltype.Sync.{Sync}
use Rattle.logical_types.specs.declared.rates.Rates.{Rates}
use Rattle.logical_types.specs.declared.streams.Around.{Around}
use Rattle.logical_types.specs.declared.summary.Summary.{Summary}
use Rattle.logical_types.specs.declared.summary.PartsSummary.{PartsSummary}
use Rattle.logical_types.specs.Faults.{inside, nodes, nodes_of_parts, faults_at, faults_within, faults_of_parts, is_bad_throughput, IsValid, outermost}
use Rattle.logical_types.specs.Names.{has_name_twice}
use Rattle.logical_types.specs.Summary.{AreRates, HasRates, HasRoom, IsSummary, SummariesAreOfTheType, around, dims_beside, dims_in_stream, has_rates_inside, of_bits, of_group, of_no_parts, of_parts_and, of_stream, of_union, rates_beside, rates_in_stream, shows_valid, summarized, summary_of, without_stream, greatest_product, greatest_product_in}
use Rattle.logical_types.specs.Fold.{fold_parts}
use Rattle.logical_types.specs.Tree.{Ltype, null, bits, group, union, stream, Parts, no_parts, part, Settings, has_stream, have_stream, names_of, number_of_parts}
use Rattle.logical_types.specs.Width.{width_of, total_width, greatest_width, saturated, tag_width}
use Rattle.logical_types.proofs.FaultLemmas.{passed, faults_within-rest}
use Rattle.logical_types.proofs.RateLemmas.{AreDimsIn, AreDimsJoined, AreJoined, AreRatesIn, AreDimsIn-stream, AreDimsJoined-beside, AreJoined-beside, AreRatesIn-stream, no_rates-are}

-- ---- parts

-- a summary of the parts that stand before the rest
pub record IsSummed (all rest : Parts) (sum : PartsSummary) : Type 0 where
  pub small : sum.total ≤ 2 ^ 32 - 1
  pub total : saturated (sum.total + total_width rest) ≡ saturated (total_width all)
  pub widest : max sum.widest (greatest_width rest) ≡ greatest_width all
  pub has_stream : (sum.has_stream || have_stream rest) ≡ have_stream all
  pub rates : AreRates sum.rates
  pub num : max sum.rates.num (greatest_product_in (λ throughput. throughput.num) rest) ≡ greatest_product_in (λ throughput. throughput.num) all
  pub den : max sum.rates.den (greatest_product_in (λ throughput. throughput.den) rest) ≡ greatest_product_in (λ throughput. throughput.den) all
  pub valid : (around : Around) → HasRoom around sum.rates sum.dims → faults_of_parts around rest ≡ [] → faults_of_parts around all ≡ []

or_moves : (a b c d : Bool) → b ≡ c → ((a || b) || d) ≡ (a || (c || d))
or_moves true b c d same = refl
or_moves false b c d same = ap (λ x. x || d) same

-- one part more
pub IsSummed-more : (all rest : Parts) (name : List ℕ) (ltype : Ltype) (sum : PartsSummary) (one : Summary) → IsSummed all (part name ltype rest) sum → IsSummary ltype one
    → IsSummed all rest (of_parts_and sum one)
IsSummed-more all rest name ltype sum one so is = record {
  small = omega arith;
  total = omega (arith, so.total, is.width);
  widest = omega (arith, so.widest, is.width);
  has_stream = or_moves sum.has_stream one.has_stream (has_stream ltype) (have_stream rest) is.has_stream ∙ so.has_stream;
  rates = joined.are;
  num = omega (arith, so.num, is.num);
  den = omega (arith, so.den, is.den);
  valid = λ outside room none.
      so.valid outside (record { rates = joined.one outside.product room.rates; dims = dims.one outside.dims room.dims })
      (flat_map-append faults_at (nodes outside ltype) (nodes_of_parts outside rest)
      ∙ ap (λ (l : List TypeFault). l ++ faults_of_parts outside rest)
      (is.valid outside (record { rates = joined.other outside.product room.rates; dims = dims.other outside.dims room.dims }))
      ∙ none);
}
  where
    joined : AreJoined sum.rates one.rates (rates_beside sum.rates one.rates)
    joined = AreJoined-beside sum.rates one.rates so.rates is.rates

    dims : AreDimsJoined sum.dims one.dims (dims_beside sum.dims one.dims)
    dims = AreDimsJoined-beside sum.dims one.dims

or_false : (a : Bool) → (a || false) ≡ a
or_false true = refl
or_false false = refl

-- ---- a Group and a Union

pub not_wide : (width : ℕ) → width ≤ 4096 → ltb 4096 width ≡ false
not_wide width narrow = grind (arith, nat_tests)

-- where there is a summary of a type around parts, it is no wider than it may be
record IsAround (sum : PartsSummary) (width : ℕ) (summary : Summary) : Type 0 where
  narrow : width ≤ 4096
  is : summary ≡ record { width = width; has_stream = sum.has_stream; rates = sum.rates; dims = sum.dims }

around-is : (sum : PartsSummary) (width : ℕ) (summary : Summary) → around sum width ≡ Some summary → IsAround sum width summary
around-is sum width summary = by (ltb 4096 width) refl
  where
    by : (wide : Bool) → ltb 4096 width ≡ wide
        → cond wide None (Some (record { width = width; has_stream = sum.has_stream; rates = sum.rates; dims = sum.dims })) ≡ Some summary → IsAround sum width summary
    by true wide is = absurd (cc is)
    by false wide is = record { narrow = ltb-false 4096 width wide; is = cc is }

-- a type around parts that has no fault itself
around-parts : (ltype : Ltype) (all : Parts) (sum : PartsSummary) (width : ℕ) (summary : Summary) → IsSummed all no_parts sum → IsAround sum width summary
    → width ≡ width_of ltype → have_stream all ≡ has_stream ltype → ((part_of : Fraction → ℕ) → greatest_product_in part_of all ≡ greatest_product part_of ltype)
    → ((outside : Around) → faults_of_parts outside all ≡ [] → faults_within outside ltype ≡ []) → IsSummary ltype summary
around-parts ltype all sum width summary so made wide streams products valid = subst (IsSummary ltype) (sym made.is) (record {
  width = wide;
  has_stream = sym (or_false sum.has_stream) ∙ so.has_stream ∙ streams;
  rates = so.rates;
  num = omega (arith, so.num, so.rates.num, products (λ throughput. throughput.num));
  den = omega (arith, so.den, so.rates.den, products (λ throughput. throughput.den));
  valid = λ outside room. valid outside (so.valid outside room refl);
})

IsSummary-group : (all : Parts) (sum : PartsSummary) (summary : Summary) → IsSummed all no_parts sum → has_name_twice (names_of all) ≡ false → of_group sum ≡ Some summary → IsSummary (group all) summary
IsSummary-group all sum summary so once is =
    around-parts (group all) all sum sum.total summary so made wide refl (λ part_of. refl)
    (λ outside none. ap (λ (l : List TypeFault). l ++ faults_of_parts outside all) (passed _ _ _ (not_wide (total_width all) few) ∙ passed _ _ _ once) ∙ none)
  where
    made : IsAround sum sum.total summary
    made = around-is sum sum.total summary is

    wide : sum.total ≡ total_width all
    wide = omega (arith, so.total, so.small, made.narrow)

    few : total_width all ≤ 4096
    few = omega (arith, wide, made.narrow)

pub number-names : (parts : Parts) → length (names_of parts) ≡ number_of_parts parts
number-names no_parts = refl
number-names (part name ltype more) = ap suc (number-names more)

union-is : (sum : PartsSummary) (variants : ℕ) (summary : Summary) → of_union sum variants ≡ Some summary → IsAround sum (min (sum.widest + index_width variants) (2 ^ 32 - 1)) summary
union-is sum variants summary = by (eqb variants 0)
  where
    by : (none : Bool) → cond none None (around sum (min (sum.widest + index_width variants) (2 ^ 32 - 1))) ≡ Some summary → IsAround sum (min (sum.widest + index_width variants) (2 ^ 32 - 1)) summary
    by true is = absurd (cc is)
    by false is = around-is sum (min (sum.widest + index_width variants) (2 ^ 32 - 1)) summary is

IsSummary-union : (all : Parts) (sum : PartsSummary) (summary : Summary) → IsSummed all no_parts sum → has_name_twice (names_of all) ≡ false → of_union sum (length (names_of all)) ≡ Some summary
    → IsSummary (union all) summary
unfolding tag_width
IsSummary-union no_parts sum summary so once is = absurd (cc is)
IsSummary-union (part name ltype more) sum summary so once is =
    around-parts (union (part name ltype more)) (part name ltype more) sum _ summary so made wide refl (λ part_of. refl)
    (λ outside none. ap (λ (l : List TypeFault). l ++ faults_of_parts outside (part name ltype more)) (passed _ _ _ (not_wide (width_of (union (part name ltype more))) few) ∙ passed _ _ _ once) ∙ none)
  where
    tag : index_width (length (names_of (part name ltype more))) ≡ index_width (number_of_parts (part name ltype more))
    tag = ap index_width (number-names (part name ltype more))

    made : IsAround sum (min (sum.widest + index_width (length (names_of (part name ltype more)))) (2 ^ 32 - 1)) summary
    made = union-is sum (length (names_of (part name ltype more))) summary is

    wide : min (sum.widest + index_width (length (names_of (part name ltype more)))) (2 ^ 32 - 1) ≡ width_of (union (part name ltype more))
    wide = omega (arith, tag, so.widest, made.narrow)

    few : width_of (union (part name ltype more)) ≤ 4096
    few = omega (arith, wide, made.narrow)

-- ---- a Stream

-- a number that is within a limit with a product of 1 or more is within it alone
one_lane : (limit num pn pd : ℕ) → 1 ≤ pd → pd ≤ pn → num * pn ≤ limit * pd → num ≤ limit
one_lane limit num pn pd some whole within = le_of_mul-le-mul_right {k = pd} (omega (arith, mul-le-mul_left num whole, within)) some

few_dims : (dims over : ℕ) → dims + over ≤ 32 → ltb 32 dims ≡ false
few_dims dims over within = grind (arith, nat_tests)

-- a product around which there is room is no bad one, and not over 128
module _ (around : Around) (settings : Settings) (inner : Rates) (some : 1 ≤ settings.throughput.num) (are : AreRates inner) (has : HasRates (inside around settings).product inner) where
  num_fits : (inside around settings).product.num < 2 ^ 64
  num_fits = omega (arith, has.num, le-mul_of_pos_right (inside around settings).product.num are.num)

  den_fits : (inside around settings).product.den < 2 ^ 64
  den_fits = omega (arith, has.den, le-mul_of_pos_right (inside around settings).product.den are.den)

  good : is_bad_throughput around.product settings.throughput ≡ false
  good = by (eqb settings.throughput.num 0) (ltb (inside around settings).product.num (2 ^ 64)) (ltb (inside around settings).product.den (2 ^ 64))
      (grind (arith, nat_tests)) (grind (arith, nat_tests, num_fits)) (grind (arith, nat_tests, den_fits))
    where
      by : (zero num den : Bool) → zero ≡ false → num ≡ true → den ≡ true → (zero || not (num && den)) ≡ false
      by false true true z n d = refl
      by true num den z n d = absurd cc
      by zero false den z n d = absurd cc
      by zero num false z n d = absurd cc

  few_lanes : ltb (128 * (inside around settings).product.den) (inside around settings).product.num ≡ false
  few_lanes = grind (arith, nat_tests, within)
    where
      within : (inside around settings).product.num ≤ 128 * (inside around settings).product.den
      within = one_lane (128 * (inside around settings).product.den) (inside around settings).product.num inner.product.num inner.product.den are.some are.whole has.lanes

-- where there is a summary of a Stream, its user type has no Stream, and there is room in it
record IsStreamOf (throughput : Fraction) (dims : ℕ) (sync : Sync) (one other summary : Summary) : Type 0 where
  alone : other.has_stream ≡ false
  room : has_rates_inside throughput (rates_beside one.rates other.rates) ≡ true
  is : summary ≡ record {
    width = 0;
    has_stream = true;
    rates = rates_in_stream throughput (rates_beside one.rates other.rates);
    dims = dims_in_stream dims sync (dims_beside one.dims other.dims);
  }

stream-is : (throughput : Fraction) (dims : ℕ) (sync : Sync) (one other summary : Summary) → of_stream throughput dims sync one other ≡ Some summary
    → IsStreamOf throughput dims sync one other summary
stream-is throughput dims sync one other summary = by other.has_stream (has_rates_inside throughput (rates_beside one.rates other.rates)) refl refl
  where
    made : Summary
    made = record {
      width = 0;
      has_stream = true;
      rates = rates_in_stream throughput (rates_beside one.rates other.rates);
      dims = dims_in_stream dims sync (dims_beside one.dims other.dims);
    }

    by : (streams room : Bool) → other.has_stream ≡ streams → has_rates_inside throughput (rates_beside one.rates other.rates) ≡ room
        → cond (streams || not room) None (Some made) ≡ Some summary → IsStreamOf throughput dims sync one other summary
    by true room alone fits is = absurd (cc is)
    by false false alone fits is = absurd (cc is)
    by false true alone fits is = record { alone = alone; room = fits; is = cc is }

IsSummary-stream : (element user : Ltype) (settings : Settings) (one other summary : Summary) → IsSummary element one → IsSummary user other
    → of_stream settings.throughput settings.dims settings.sync one other ≡ Some summary → IsSummary (stream element user settings) summary
IsSummary-stream element user settings one other summary is these found = subst (IsSummary (stream element user settings)) (sym made.is) (record {
  width = refl;
  has_stream = refl;
  rates = rates.are;
  num = ap (λ n. settings.throughput.num * n) (ap (λ n. max n other.rates.num) is.num ∙ ap (max (greatest_product (λ throughput. throughput.num) element)) these.num);
  den = ap (λ n. settings.throughput.den * n) (ap (λ n. max n other.rates.den) is.den ∙ ap (max (greatest_product (λ throughput. throughput.den) element)) these.den);
  valid = valid;
})
  where
    made : IsStreamOf settings.throughput settings.dims settings.sync one other summary
    made = stream-is settings.throughput settings.dims settings.sync one other summary found

    both : Rates
    both = rates_beside one.rates other.rates

    deep : Dims
    deep = dims_beside one.dims other.dims

    beside : AreJoined one.rates other.rates both
    beside = AreJoined-beside one.rates other.rates is.rates these.rates

    rates : AreRatesIn settings.throughput both (rates_in_stream settings.throughput both)
    rates = AreRatesIn-stream settings.throughput both made.room beside.are

    dims : AreDimsJoined one.dims other.dims deep
    dims = AreDimsJoined-beside one.dims other.dims

    dims_in : AreDimsIn settings.dims settings.sync deep (dims_in_stream settings.dims settings.sync deep)
    dims_in = AreDimsIn-stream settings.dims settings.sync deep

    valid : (outside : Around) → HasRoom outside (rates_in_stream settings.throughput both) (dims_in_stream settings.dims settings.sync deep) → faults_within outside (stream element user settings) ≡ []
    valid outside there =
        let inner : HasRoom (inside outside settings) both deep = record { rates = rates.inside outside.product there.rates; dims = dims_in.inside outside.dims there.dims } in
        faults_within-rest outside (inside outside settings) element user settings
        (passed _ _ _ (good outside settings both rates.some beside.are inner.rates)
        ∙ passed _ _ _ (few_lanes outside settings both rates.some beside.are inner.rates)
        ∙ passed _ _ _ (few_dims (inside outside settings).dims deep.over inner.dims.over))
        (sym these.has_stream ∙ made.alone) refl
        ∙ ap (λ (l : List TypeFault). l ++ faults_within (inside outside settings) user)
        (is.valid (inside outside settings) (record { rates = beside.one (inside outside settings).product inner.rates; dims = dims.one (inside outside settings).dims inner.dims }))
        ∙ these.valid (inside outside settings) (record { rates = beside.other (inside outside settings).product inner.rates; dims = dims.other (inside outside settings).dims inner.dims })

-- ---- all types

product-some : (part_of : Fraction → ℕ) (parts : Parts) → 1 ≤ greatest_product_in part_of parts
product-some part_of no_parts = omega arith
product-some part_of (part name ltype more) = omega (arith, product-some part_of more)

pub none-summed : (all : Parts) → IsSummed all all of_no_parts
none-summed all = record {
  small = omega arith;
  total = omega arith;
  widest = omega arith;
  has_stream = refl;
  rates = no_rates-are;
  num = omega (arith, product-some (λ throughput. throughput.num) all);
  den = omega (arith, product-some (λ throughput. throughput.den) all);
  valid = λ outside room none. none;
}

-- a summary of a type without Streams that has no fault
plain-summary : (ltype : Ltype) (width : ℕ) → width ≡ width_of ltype → false ≡ has_stream ltype → ((part_of : Fraction → ℕ) → 1 ≡ greatest_product part_of ltype) → ((outside : Around) → faults_within outside ltype ≡ []) → IsSummary ltype (without_stream width)
plain-summary ltype width wide streams one valid = record { width = wide; has_stream = streams; rates = no_rates-are; num = one (λ throughput. throughput.num); den = one (λ throughput. throughput.den); valid = λ outside room. valid outside }

IsSummary-bits : (width : ℕ) (summary : Summary) → of_bits width ≡ Some summary → IsSummary (bits width) summary
IsSummary-bits width summary = by (eqb width 0) (ltb 4096 width) refl refl
  where
    by : (zero wide : Bool) → eqb width 0 ≡ zero → ltb 4096 width ≡ wide → cond (zero || wide) None (Some (without_stream width)) ≡ Some summary → IsSummary (bits width) summary
    by true wide none narrow is = absurd (cc is)
    by false true none narrow is = absurd (cc is)
    by false false none narrow is =
        let made : without_stream width ≡ summary = cc is in
        subst (IsSummary (bits width)) made (plain-summary (bits width) width refl refl (λ part_of. refl) (λ outside. ap (λ (l : List TypeFault). l ++ []) (passed _ _ _ none ∙ passed _ _ _ narrow)))

-- the summary of parts and one more is made of both
record IsMore (before : Option PartsSummary) (one : Option Summary) (sum : PartsSummary) : Type 0 where
  first : PartsSummary
  next : Summary
  first_is : before ≡ Some first
  next_is : one ≡ Some next
  is : of_parts_and first next ≡ sum

more-is : (before : Option PartsSummary) (one : Option Summary) (sum : PartsSummary) → summarized.of_part before one ≡ Some sum → IsMore before one sum
more-is None one sum is = absurd (cc is)
more-is (Some first) None sum is = absurd (cc is)
more-is (Some first) (Some next) sum is = record { first = first; next = next; first_is = refl; next_is = refl; is = cc is }

mutual
  pub summary-is : SummariesAreOfTheType
  summary-is null summary is =
      let made : without_stream 0 ≡ summary = cc is in
      subst (IsSummary null) made (plain-summary null 0 refl refl (λ part_of. refl) (λ outside. refl))
  summary-is (bits width) summary is = IsSummary-bits width summary is
  summary-is (group parts) summary is = by (has_name_twice (names_of parts)) (fold_parts summarized (Some of_no_parts) parts) refl (summed-from parts parts (Some of_no_parts) (λ first same. subst (IsSummed parts parts) (cc same) (none-summed parts))) is
    where
      by : (twice : Bool) (held : Option PartsSummary) → has_name_twice (names_of parts) ≡ twice → ((sum : PartsSummary) → held ≡ Some sum → IsSummed parts no_parts sum)
          → cond twice None (option_and_then of_group held) ≡ Some summary → IsSummary (group parts) summary
      by true held once so is = absurd (cc is)
      by false None once so is = absurd (cc is)
      by false (Some sum) once so is = IsSummary-group parts sum summary (so sum refl) once is
  summary-is (union parts) summary is = by (has_name_twice (names_of parts)) (fold_parts summarized (Some of_no_parts) parts) refl (summed-from parts parts (Some of_no_parts) (λ first same. subst (IsSummed parts parts) (cc same) (none-summed parts))) is
    where
      by : (twice : Bool) (held : Option PartsSummary) → has_name_twice (names_of parts) ≡ twice → ((sum : PartsSummary) → held ≡ Some sum → IsSummed parts no_parts sum)
          → cond twice None (option_and_then (λ sum. of_union sum (length (names_of parts))) held) ≡ Some summary → IsSummary (union parts) summary
      by true held once so is = absurd (cc is)
      by false None once so is = absurd (cc is)
      by false (Some sum) once so is = IsSummary-union parts sum summary (so sum refl) once is
  summary-is (stream element user settings) summary is = by (summary_of element) (summary_of user) (summary-is element) (summary-is user) is
    where
      by : (one other : Option Summary) → ((found : Summary) → one ≡ Some found → IsSummary element found) → ((found : Summary) → other ≡ Some found → IsSummary user found)
          → option_and_then (λ (first : Summary). option_and_then (of_stream settings.throughput settings.dims settings.sync first) other) one ≡ Some summary
          → IsSummary (stream element user settings) summary
      by None other first second is = absurd (cc is)
      by (Some one) None first second is = absurd (cc is)
      by (Some one) (Some other) first second is = IsSummary-stream element user settings one other summary (first one refl) (second other refl) is

  summed-from : (all rest : Parts) (before : Option PartsSummary) → ((first : PartsSummary) → before ≡ Some first → IsSummed all rest first)
      → (sum : PartsSummary) → fold_parts summarized before rest ≡ Some sum → IsSummed all no_parts sum
  summed-from all no_parts before so sum is = so sum is
  summed-from all (part name ltype more) before so sum is =
      summed-from all more (summarized.of_part before (summary_of ltype))
      (λ next made.
      let parted = more-is before (summary_of ltype) next made in
      subst (IsSummed all more) parted.is
      (IsSummed-more all more name ltype parted.first parted.next (so parted.first parted.first_is) (summary-is ltype parted.next parted.next_is)))
      sum is

pub summed-of : (parts : Parts) (sum : PartsSummary) → fold_parts summarized (Some of_no_parts) parts ≡ Some sum → IsSummed parts no_parts sum
summed-of parts sum is = summed-from parts parts (Some of_no_parts) (λ first same. subst (IsSummed parts parts) (cc same) (none-summed parts)) sum is

-- ---- a summary that shows that its type is valid

pub valid-shown : (ltype : Ltype) (summary : Summary) → summary_of ltype ≡ Some summary → shows_valid summary ≡ true → IsValid ltype
valid-shown ltype summary found shown = is.valid outermost (room (leb rates.product.num (128 * rates.product.den)) (leb dims.over 32) (leb dims.own 32) refl refl refl shown)
  where
    rates : Rates
    rates = summary.rates

    dims : Dims
    dims = summary.dims

    is : IsSummary ltype summary
    is = summary-is ltype summary found

    room : (lanes over own : Bool) → leb rates.product.num (128 * rates.product.den) ≡ lanes → leb dims.over 32 ≡ over → leb dims.own 32 ≡ own → (lanes && over && own) ≡ true
        → HasRoom outermost rates dims
    room true true true lanes over own all = record {
      rates = record { num = omega (arith, is.rates.num_fits); den = omega (arith, is.rates.den_fits); lanes = omega (arith, leb-true rates.product.num (128 * rates.product.den) lanes) };
      dims = record { over = omega (arith, leb-true dims.over 32 over); own = leb-true dims.own 32 own };
    }
    room true true false lanes over own all = let clash : false ≡ true = all in cc clash
    room true false own lanes over deep all = let clash : false ≡ true = all in cc clash
    room false over own lanes deep shallow all = let clash : false ≡ true = all in cc clash
