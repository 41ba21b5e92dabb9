use Rattle.std.proofs.Common.{◌/◌, ◌^◌, ◌<◌, refl, arith, w64}
use Rattle.std.specs.Int.{w128}
use Rattle.std.proofs.Math.Nat.{div-le_self}
use Rattle.std.proofs.lemmas.Bool.Decides.{nat_tests}
use Rattle.std.proofs.lemmas.Nat.Bits.{bit_at-trailing_zeros}
use Rattle.complexity_rules.proofs.UnmarkedLemmas.{first_one-set, first_one-told}
use Rattle.complexity_rules.proofs.unmarked.first_one.Goals as goal

pub returns-then-is_short-clause-zeros : goal.returns-then-is_short-clause-zeros
returns-then-is_short-clause-zeros c =
    let rest = c.args.number / 2 ^ c.args.place in
    let short : c.args.number < 2 ^ 64 = c.is_short.ensures.0 c.if-is_short.true in
    let fits : rest < 2 ^ 64 = omega (arith, div-le_self c.args.number (2 ^ c.args.place)) in
    first_one-told c.args.number c.args.place rest _ _ c.then_some.result refl (λ none. grind (arith, nat_tests)) (λ some. (bit_at-trailing_zeros w64 rest (grind (arith, nat_tests)) fits).2) c.then_some.ensures

pub returns-clause-zeros : goal.returns-clause-zeros
returns-clause-zeros c =
    let rest = c.args.number / 2 ^ c.args.place in
    let fits : rest < 2 ^ 128 = omega (arith, div-le_self c.args.number (2 ^ c.args.place), c.ranges.number.fits) in
    first_one-told c.args.number c.args.place rest _ _ c.then_some-2.result refl (λ none. grind (arith, nat_tests)) (λ some. (bit_at-trailing_zeros w128 rest (grind (arith, nat_tests)) fits).2) c.then_some-2.ensures

pub returns-then-is_short-clause-one : goal.returns-then-is_short-clause-one
returns-then-is_short-clause-one c =
    let rest = c.args.number / 2 ^ c.args.place in
    let short : c.args.number < 2 ^ 64 = c.is_short.ensures.0 c.if-is_short.true in
    let fits : rest < 2 ^ 64 = omega (arith, div-le_self c.args.number (2 ^ c.args.place)) in
    first_one-set c.args.number c.args.place rest _ _ c.then_some.result refl (λ some. (bit_at-trailing_zeros w64 rest (grind (arith, nat_tests)) fits).1) c.then_some.ensures

pub returns-clause-one : goal.returns-clause-one
returns-clause-one c =
    let rest = c.args.number / 2 ^ c.args.place in
    let fits : rest < 2 ^ 128 = omega (arith, div-le_self c.args.number (2 ^ c.args.place), c.ranges.number.fits) in
    first_one-set c.args.number c.args.place rest _ _ c.then_some-2.result refl (λ some. (bit_at-trailing_zeros w128 rest (grind (arith, nat_tests)) fits).1) c.then_some-2.ensures
