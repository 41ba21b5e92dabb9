-- The summary of a type, without its parts: enough to show that the type has no error. This project's own.
use Rattle.std.specs.Prelude.{◌≡◌, ◌↔◌, ℕ, ◌+◌, ◌-◌, ◌*◌, ◌^◌, ◌==◌, ◌<◌, ◌≤◌, nat_lt, nat_le, min, max, Bool, true, false, not, ◌&&◌, ◌||◌, [], length, Option, Some, None, if◌then◌else◌}
use Rattle.std.specs.Option.{option_and_then, option_map}
use Rattle.tydi_base.specs.Frac.{Fraction}
use Rattle.tydi_base.specs.Width.{index_width}
use Rattle.logical_types.specs.Faults.{IsValid, faults_within, is_bad_throughput, outermost}
use Rattle.logical_types.specs.Fold.{Layers, fold}
use Rattle.logical_types.specs.Names.{has_name_twice}
use Rattle.logical_types.specs.Throughput.{product_of}
use Rattle.logical_types.specs.Tree.{Ltype, null, bits, group, union, stream, Parts, no_parts, part, has_stream}
use Rattle.logical_types.specs.Width.{width_of, saturated}
use Rattle.logical_types.specs.declared.dims.Dims.{Dims}
use Rattle.logical_types.specs.declared.ltype.Sync.{Sync}
use Rattle.logical_types.specs.declared.ltype.Sync.TheVariants as syncs
use Rattle.logical_types.specs.declared.rates.Rates.{Rates}
use Rattle.logical_types.specs.declared.streams.Around.{Around}
use Rattle.logical_types.specs.declared.summary.Summary.{Summary}
use Rattle.logical_types.specs.declared.summary.PartsSummary.{PartsSummary}

-- ---- the summary

-- the greater of two fractions
abbrev pub greater : Fraction → Fraction → Fraction
greater one other = if nat_le (one.num * other.den) (other.num * one.den) then other else one

-- the rates of a type without Streams: the path that stays at the type counts, with the product 1
abbrev pub no_rates : Rates
no_rates = record { num = 1; den = 1; product = outermost.product }

abbrev pub no_dims : Dims
no_dims = record { over = 0; own = 0 }

-- the rates of types beside one another
abbrev pub rates_beside : Rates → Rates → Rates
rates_beside one other = record { num = max one.num other.num; den = max one.den other.den; product = greater one.product other.product }

abbrev pub dims_beside : Dims → Dims → Dims
dims_beside one other = record { over = max one.over other.over; own = max one.own other.own }

-- a throughput that is not zero has room around such types: the products of upper and of lower parts fit 64 bits, and so does the
-- greatest product
abbrev pub has_rates_inside : Fraction → Rates → Bool
has_rates_inside throughput inner =
    nat_lt 0 throughput.den && nat_lt (throughput.num * inner.num) (2 ^ 64) && nat_lt (throughput.den * inner.den) (2 ^ 64) && not (is_bad_throughput inner.product throughput)

-- the rates of a Stream around such types
abbrev pub rates_in_stream : Fraction → Rates → Rates
rates_in_stream throughput inner = record {
  num = throughput.num * inner.num;
  den = throughput.den * inner.den;
  product = greater (product_of inner.product throughput) outermost.product;
}

-- a dimensionality, or the greatest number of 64 bits where it is over that
abbrev pub capped_dims : ℕ → ℕ
capped_dims dims = min dims (2 ^ 64 - 1)

abbrev pub dims_in_stream : ℕ → Sync → Dims → Dims
dims_in_stream own syncs.Sync inner = record { over = capped_dims (own + inner.over); own = inner.own }
dims_in_stream own syncs.Desync inner = record { over = capped_dims (own + inner.over); own = inner.own }
dims_in_stream own syncs.Flatten inner = record { over = 0; own = max inner.own (capped_dims (own + inner.over)) }
dims_in_stream own syncs.FlatDesync inner = record { over = 0; own = max inner.own (capped_dims (own + inner.over)) }

-- the summary of a type of this width without Streams
abbrev pub without_stream : ℕ → Summary
without_stream width = record { width = width; has_stream = false; rates = no_rates; dims = no_dims }

abbrev pub of_bits : ℕ → Option Summary
of_bits width = if width == 0 || nat_lt 4096 width then None else Some (without_stream width)

-- the summary of a Stream: None where its user type has a Stream, or there is no room around the types in it
abbrev pub of_stream : Fraction → ℕ → Sync → Summary → Summary → Option Summary
of_stream throughput dims sync element user =
    if user.has_stream || not (has_rates_inside throughput (rates_beside element.rates user.rates)) then None
    else Some (record {
      width = 0;
      has_stream = true;
      rates = rates_in_stream throughput (rates_beside element.rates user.rates);
      dims = dims_in_stream dims sync (dims_beside element.dims user.dims);
    })

-- the summary of no parts
abbrev pub of_no_parts : PartsSummary
of_no_parts = record { total = 0; widest = 0; has_stream = false; rates = no_rates; dims = no_dims }

-- the summary of parts and one more
abbrev pub of_parts_and : PartsSummary → Summary → PartsSummary
of_parts_and before one = record {
  total = saturated (before.total + one.width);
  widest = max before.widest one.width;
  has_stream = before.has_stream || one.has_stream;
  rates = rates_beside before.rates one.rates;
  dims = dims_beside before.dims one.dims;
}

-- the summary of a type of this width around parts, unless it is too wide
abbrev pub around : PartsSummary → ℕ → Option Summary
around sum width = if nat_lt 4096 width then None else Some (record { width = width; has_stream = sum.has_stream; rates = sum.rates; dims = sum.dims })

abbrev pub of_group : PartsSummary → Option Summary
of_group sum = around sum sum.total

abbrev pub of_union : PartsSummary → ℕ → Option Summary
of_union sum variants = if variants == 0 then None else around sum (saturated (sum.widest + index_width variants))

-- ---- the summary of a type

-- the fold that gives each type its summary
abbrev pub summarized : Layers (Option Summary) (Option PartsSummary)
summarized = record {
  of_null = Some (without_stream 0);
  of_bits = of_bits;
  of_group = λ names inside. if has_name_twice names then None else option_and_then of_group inside;
  of_union = λ names inside. if has_name_twice names then None else option_and_then (λ sum. of_union sum (length names)) inside;
  of_stream = λ settings element user. option_and_then (λ one. option_and_then (of_stream settings.throughput settings.dims settings.sync one) user) element;
  of_no_parts = Some of_no_parts;
  of_part = λ before one. option_and_then (λ sum. option_map (of_parts_and sum) one) before;
}

-- the summary of a type: there is none where a type in it has a fault whatever is around it, or where the products of the upper parts, of
-- the lower parts or of the throughputs on a way to a Stream in it do not fit 64 bits
abbrev pub summary_of : Ltype → Option Summary
summary_of ltype = fold summarized ltype

-- a type with this summary is within the limits where there is no Stream around it
abbrev pub shows_valid : Summary → Bool
shows_valid summary = nat_le summary.rates.product.num (128 * summary.rates.product.den) && nat_le summary.dims.over 32 && nat_le summary.dims.own 32

-- ---- the meaning of a summary: throughputs

-- the way that stays at the type is among those that are counted, so nothing is less than 1
pub record AreRates (rates : Rates) : Type 0 where
  pub num : 1 ≤ rates.num
  pub den : 1 ≤ rates.den
  pub num_fits : rates.num < 2 ^ 64
  pub den_fits : rates.den < 2 ^ 64
  pub upper : rates.product.num ≤ rates.num
  pub lower : rates.product.den ≤ rates.den
  pub some : 1 ≤ rates.product.den
  pub whole : rates.product.den ≤ rates.product.num

-- a product around a type leaves room for these: products fit, and are at most 128
pub record HasRates (around : Fraction) (rates : Rates) : Type 0 where
  pub num : around.num * rates.num < 2 ^ 64
  pub den : around.den * rates.den < 2 ^ 64
  pub lanes : around.num * rates.product.num ≤ 128 * around.den * rates.product.den

-- ---- dimensions

-- so many dimensions around a type leave room for these: at most 32
pub record HasDims (around : ℕ) (dims : Dims) : Type 0 where
  pub over : around + dims.over ≤ 32
  pub own : dims.own ≤ 32

-- ---- types

-- the greatest product of such parts of the throughputs on a way from a type down to a Stream in it, as they stand; 1 where there is none
abbrev mutual
  pub greatest_product : (Fraction → ℕ) → Ltype → ℕ
  greatest_product part_of null = 1
  greatest_product part_of (bits width) = 1
  greatest_product part_of (group parts) = greatest_product_in part_of parts
  greatest_product part_of (union parts) = greatest_product_in part_of parts
  greatest_product part_of (stream element user settings) = part_of settings.throughput * max (greatest_product part_of element) (greatest_product part_of user)

  pub greatest_product_in : (Fraction → ℕ) → Parts → ℕ
  greatest_product_in part_of no_parts = 1
  greatest_product_in part_of (part name ltype more) = max (greatest_product part_of ltype) (greatest_product_in part_of more)

-- the surroundings of a type leave room for it
pub record HasRoom (around : Around) (most : Rates) (deepest : Dims) : Type 0 where
  pub rates : HasRates around.product most
  pub dims : HasDims around.dims deepest

-- a summary of a type: its width, whether a Stream stands in it, its greatest products, and that it has no fault where there is room for it
pub record IsSummary (ltype : Ltype) (summary : Summary) : Type 0 where
  pub width : summary.width ≡ width_of ltype
  pub has_stream : summary.has_stream ≡ has_stream ltype
  pub rates : AreRates summary.rates
  pub num : summary.rates.num ≡ greatest_product (λ throughput. throughput.num) ltype
  pub den : summary.rates.den ≡ greatest_product (λ throughput. throughput.den) ltype
  pub valid : (around : Around) → HasRoom around summary.rates summary.dims → faults_within around ltype ≡ []

-- a summary says what it is to say
abbrev pub SummariesAreOfTheType : Type 0
SummariesAreOfTheType = (ltype : Ltype) (summary : Summary) → summary_of ltype ≡ Some summary → IsSummary ltype summary

-- ---- which types are shown to be valid

-- a summary, if there is one, shows its type valid
abbrev pub shows : Option Summary → Bool
shows None = false
shows (Some summary) = shows_valid summary

-- a type has a summary, which shows it valid
abbrev pub is_shown_valid : Ltype → Bool
is_shown_valid ltype = shows (summary_of ltype)

-- the products of upper parts, and those of lower ones, fit 64 bits as they stand
pub record FitAsTheyStand (ltype : Ltype) : Type 0 where
  pub num : greatest_product (λ throughput. throughput.num) ltype < 2 ^ 64
  pub den : greatest_product (λ throughput. throughput.den) ltype < 2 ^ 64

-- a type is valid, and products fit as they stand
abbrev pub IsShownValid : Ltype → Type 0
IsShownValid ltype = IsValid ltype × FitAsTheyStand ltype

-- these are exactly the types that are shown to be valid
abbrev pub ValidTypesAreShown : Type 0
ValidTypesAreShown = (ltype : Ltype) → is_shown_valid ltype ≡ true ↔ IsShownValid ltype
