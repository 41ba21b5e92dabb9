-- Products of throughputs, rounded up, and the parameters of a Stream.
use Rattle.std.proofs.Common.{◌≡◌, ℕ, ◌+◌, ◌-◌, ◌*◌, ◌%◌, ◌<◌, ◌≤◌, ◌⊎◌, inl, inr, refl, ap, ◌∙◌, arith}
use Rattle.std.proofs.Math.Nat.{add-mul, one-mul, mul-le-mul_right, mod-lt}
use Rattle.std.proofs.lemmas.Nat.{div-add-mod'}
use Rattle.std.proofs.lemmas.Bool.{cases_lt}
use Rattle.tydi_base.specs.Frac.{Fraction, IsCeiling}
use Rattle.tydi_base.specs.Level.{LevelNumbers}
use Rattle.physical_stream.specs.Params.{Parameters, AreInRange}
use Rattle.logical_types.specs.Tree.{Ltype, Settings}
use Rattle.logical_types.specs.Width.{width_of, saturated}
use Rattle.logical_types.specs.declared.streams.Around.{Around}
use Rattle.type_split.specs.Nodes.{rounded_up, params_at}

-- a whole number that is enough, and the least that is, beside the quotient
between : (whole quotient part num den : ℕ) → whole ≤ quotient → (whole + 1 ≤ quotient → (whole + 1) * den ≤ quotient * den) → (whole + 1) * den ≡ whole * den + den
    → quotient * den + part ≡ num + (den - 1) → num ≤ whole * den → 1 ≤ den → part < den → (whole < quotient) ⊎ (quotient ≤ whole) → whole ≡ quotient
between whole quotient part num den least below next is enough some small (inl short) =
    let large = below (omega arith) in
    absurd (omega arith)
between whole quotient part num den least below next is enough some small (inr le) = omega arith

-- the least whole number that is enough is the fraction rounded up
pub rounded_up-is : (fraction : Fraction) (whole : ℕ) → 1 ≤ fraction.den → IsCeiling fraction whole → whole ≡ rounded_up fraction
rounded_up-is fraction whole some is =
    let quotient = rounded_up fraction in
    let part = (fraction.num + (fraction.den - 1)) % fraction.den in
    let sum : quotient * fraction.den + part ≡ fraction.num + (fraction.den - 1) = div-add-mod' (fraction.num + (fraction.den - 1)) fraction.den in
    let small : part < fraction.den = mod-lt (fraction.num + (fraction.den - 1)) some in
    let next : (whole + 1) * fraction.den ≡ whole * fraction.den + fraction.den = add-mul whole 1 fraction.den ∙ ap (λ (n : ℕ). whole * fraction.den + n) (one-mul fraction.den) in
    between whole quotient part fraction.num fraction.den (is.least quotient (omega (arith, sum, small))) (λ le. mul-le-mul_right fraction.den le) next sum is.enough some small (cases_lt whole quotient)

same_params : (one other : Parameters) → one.lanes ≡ other.lanes → one.dims ≡ other.dims → one.level ≡ other.level → one.element ≡ other.element → one.user ≡ other.user → one ≡ other
same_params one other lanes dims level element user =
    let by_lanes : ℕ → Parameters = λ n. record { lanes = n; dims = one.dims; level = one.level; element = one.element; user = one.user } in
    let by_dims : ℕ → Parameters = λ n. record { lanes = other.lanes; dims = n; level = one.level; element = one.element; user = one.user } in
    let by_level : LevelNumbers → Parameters = λ n. record { lanes = other.lanes; dims = other.dims; level = n; element = one.element; user = one.user } in
    let by_element : ℕ → Parameters = λ n. record { lanes = other.lanes; dims = other.dims; level = other.level; element = n; user = one.user } in
    let by_user : ℕ → Parameters = λ n. record { lanes = other.lanes; dims = other.dims; level = other.level; element = other.element; user = n } in
    ap by_lanes lanes ∙ ap by_dims dims ∙ ap by_level level ∙ ap by_element element ∙ ap by_user user

-- the parameters found for a Stream are its parameters, where they are in their ranges
pub params_at-is : (inner : Around) (element user : Ltype) (settings : Settings) (lanes dims e u : ℕ) → 1 ≤ inner.product.den → IsCeiling inner.product lanes → dims ≡ inner.dims
    → e ≡ saturated (width_of element) → u ≡ saturated (width_of user) → AreInRange lanes dims e u
    → record { lanes = lanes; dims = dims; level = settings.level; element = e; user = u } ≡ params_at inner element user settings
params_at-is inner element user settings lanes dims e u some ceiling dims_is element_is user_is range =
    same_params _ _ (rounded_up-is inner.product lanes some ceiling) dims_is refl (omega (arith, element_is, range.element_most)) (omega (arith, user_is, range.user_most))
