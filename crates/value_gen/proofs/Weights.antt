-- How far a walk down a type has to go.
use Rattle.std.proofs.Common.{◌≡◌, ℕ, zero, suc, ◌+◌, ◌<◌, ◌≤◌, List, [], ◌∷◌, length, drop, get_or, ap, arith}
use Rattle.logical_types.specs.declared.ltype.Part.{Part}
use Rattle.logical_types.specs.Tree.{Ltype, Parts, plain, plain_parts}
use Rattle.logical_types.specs.Tree as types
use Rattle.logical_types.proofs.PlainLemmas.{plain_parts-at}

abbrev mutual
  pub weight : Ltype → ℕ
  weight types.null = 1
  weight (types.bits width) = 1
  weight (types.group parts) = 1 + weight_of_parts parts
  weight (types.union parts) = 1 + weight_of_parts parts
  weight (types.stream inner user settings) = 1 + (weight inner + settings.dims)

  pub weight_of_parts : Parts → ℕ
  weight_of_parts types.no_parts = 0
  weight_of_parts (types.part name ltype more) = weight ltype + weight_of_parts more

parts_left : (parts : List Part) (at : ℕ) → weight_of_parts (plain_parts (drop at parts)) ≤ weight_of_parts (plain_parts parts)
parts_left parts zero = omega arith
parts_left [] (suc at) = omega arith
parts_left (one ∷ more) (suc at) = let less = parts_left more at in omega (arith, less)

pub part_weight : (parts : List Part) (at : ℕ) (one : Part) → at < length parts → one ≡ get_or parts at one
    → weight (plain one.ltype) ≤ weight_of_parts (plain_parts parts)
part_weight parts at one within is =
    let less = parts_left parts at in let here = ap weight_of_parts (plain_parts-at parts at one within is) in omega (arith, less, here)
