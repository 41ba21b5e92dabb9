use Rattle.std.proofs.Common.{◌≡◌, ◌≢◌, ◌≤◌, Option, None, Some, true, false, arith}
use Rattle.std.specs.Option.{IfSome, IfNone}
use Rattle.tydi_base.specs.Frac.{Fraction, IsProduct, FitsWords}
use Rattle.logical_types.specs.Faults.{is_bad_throughput}
use Rattle.logical_types.specs.Throughput.{product_of}
use Rattle.logical_types.proofs.ThroughputLemmas.{bad-too_large, good}
use Rattle.logical_types.proofs.streams.product_inside.Goals as goal

none_found : (found : Option Fraction) (around throughput : Fraction) → 1 ≤ around.den → 1 ≤ throughput.den
    → IfNone found ((product : Fraction) → IsProduct around throughput product → FitsWords product → ⊥)
    → IfNone found (is_bad_throughput around throughput ≡ true)
none_found None around throughput left right none = bad-too_large around throughput left right none
none_found (Some product) around throughput left right none = none

one_found : (found : Option Fraction) (around throughput : Fraction) → throughput.num ≢ 0 → 1 ≤ around.den → 1 ≤ throughput.den
    → IfSome found (λ product. IsProduct around throughput product × FitsWords product)
    → IfSome found (λ product. (is_bad_throughput around throughput ≡ false) × (product ≡ product_of around throughput))
one_found None around throughput some left right is = is
one_found (Some product) around throughput some left right is = good around throughput product some left right is.0 is.1

pub returns-clause-none : goal.returns-clause-none
returns-clause-none c = none_found c.times.result c.args.around c.args.throughput c.den-2.ensures.lowest.some c.den.ensures.lowest.some c.times.ensures.none

pub returns-clause-some : goal.returns-clause-some
returns-clause-some c = one_found c.times.result c.args.around c.args.throughput (omega arith) c.den-2.ensures.lowest.some c.den.ensures.lowest.some c.times.ensures.some
