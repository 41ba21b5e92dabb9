-- Widths that are saturated.
use Rattle.std.proofs.Common.{◌≡◌, ℕ, ◌+◌, ◌-◌, ◌^◌, ◌<◌, ◌≤◌, min, max, length, List, get_or, drop, ap, arith}
use Rattle.logical_types.specs.declared.ltype.Part.{Part}
use Rattle.logical_types.specs.Tree.{plain, plain_parts}
use Rattle.logical_types.specs.Width.{width_of, total_width, greatest_width, saturated}
use Rattle.logical_types.proofs.PlainLemmas.{plain_parts-at, plain_parts-past}

-- ---- a sum over the parts that are left, and a maximum

pub total-at : (parts : List Part) (at total one_width : ℕ) (one : Part) → at < length parts → one ≡ get_or parts at one → one_width ≡ saturated (width_of (plain one.ltype))
    → (all : ℕ) → saturated (total + total_width (plain_parts (drop at parts))) ≡ all
    → saturated (min (total + one_width) (2 ^ 32 - 1) + total_width (plain_parts (drop (at + 1) parts))) ≡ all
total-at parts at total one_width one within is width all so_far =
    let rest = total_width (plain_parts (drop (at + 1) parts)) in
    let split : total_width (plain_parts (drop at parts)) ≡ width_of (plain one.ltype) + rest = ap total_width (plain_parts-at parts at one within is) in
    omega arith

pub total-past : (parts : List Part) (at total : ℕ) → length parts ≤ at → total ≤ 2 ^ 32 - 1
    → (all : ℕ) → saturated (total + total_width (plain_parts (drop at parts))) ≡ all → total ≡ all
total-past parts at total done small all so_far =
    let none : total_width (plain_parts (drop at parts)) ≡ 0 = ap total_width (plain_parts-past parts at done) in
    omega arith

pub greatest-at : (parts : List Part) (at greatest one_width : ℕ) (one : Part) → at < length parts → one ≡ get_or parts at one → one_width ≡ saturated (width_of (plain one.ltype))
    → (all : ℕ) → max greatest (saturated (greatest_width (plain_parts (drop at parts)))) ≡ all
    → max (max greatest one_width) (saturated (greatest_width (plain_parts (drop (at + 1) parts)))) ≡ all
greatest-at parts at greatest one_width one within is width all so_far =
    let rest = greatest_width (plain_parts (drop (at + 1) parts)) in
    let split : greatest_width (plain_parts (drop at parts)) ≡ max (width_of (plain one.ltype)) rest = ap greatest_width (plain_parts-at parts at one within is) in
    omega arith

pub greatest-past : (parts : List Part) (at greatest : ℕ) → length parts ≤ at
    → (all : ℕ) → max greatest (saturated (greatest_width (plain_parts (drop at parts)))) ≡ all → greatest ≡ all
greatest-past parts at greatest done all so_far =
    let none : greatest_width (plain_parts (drop at parts)) ≡ 0 = ap greatest_width (plain_parts-past parts at done) in
    omega arith

-- the tag, and room for the widest variant
pub union_saturated : (found greatest tag width bits : ℕ) → found ≡ min (greatest + tag) (2 ^ 32 - 1) → greatest ≡ saturated width → tag ≡ bits → found ≡ saturated (bits + width)
union_saturated found greatest tag width bits sum is same = omega arith
