-- What draws make, step by step.
use Rattle.std.proofs.Common.{◌≡◌, ◌∙◌, ℕ, zero, suc, ◌+◌, ◌-◌, ◌*◌, ◌/◌, ◌%◌, ◌^◌, ◌<◌, Bool, true, false, cond, ltb, List, [], ◌∷◌, ◌++◌, length, get_or, Option, Some, None, sym, ap, subst, arith}
use Rattle.std.proofs.lemmas.Bool.{ltb-true}
use Rattle.std.proofs.lemmas.Bool.Decides.{nat_tests}
use native.Mathlib.Nat.{mod-lt}
use Rattle.tydi_base.specs.Bits.{bits_of}
use Rattle.tydi_base.specs.Numbers.{word_of_number}
use Rattle.logical_types.specs.declared.ltype.Part.{Part}
use Rattle.logical_types.specs.Tree.{Ltype, Parts, number_of_parts, plain, plain_parts}
use Rattle.logical_types.specs.Tree as types
use Rattle.logical_types.proofs.PlainLemmas.{number_of_parts-plain}
use Rattle.logical_value.specs.declared.value.Value.{Value}
use Rattle.logical_value.specs.declared.value.Value.TheVariants as values
use Rattle.value_gen.specs.Draws.{Drawn, bits_from, draw_after, made_by}
use Rattle.value_gen.specs.Made.{element, selected, variant}

pub drawn-small : (last : ℕ) → draw_after last < 65536
drawn-small last = mod-lt (25173 * last + 13849) (omega arith)

-- the word of a draw
pub word-so : (draw : ℕ) (bits : List Bool) → draw < 65536 → word_of_number 16 draw ≡ Some bits → bits ≡ bits_of 16 draw
unfolding word_of_number
word-so draw bits small is = by_test (ltb draw (2 ^ 16)) (grind (arith, nat_tests, small)) is
  where
    by_test : (fits : Bool) → fits ≡ true → cond {A = Option (List Bool)} fits (Some (bits_of 16 draw)) None ≡ Some bits → bits ≡ bits_of 16 draw
    by_test true told made = let same : bits_of 16 draw ≡ bits = cc in sym same
    by_test false told made = absurd (let no : false ≡ true = told in cc)

-- a draw more
pub bits-more : (left : ℕ) (bits part new : List Bool) (last next : ℕ) → 0 < left → bits_from 1 [] last ≡ record { made = part; last = next }
    → new ≡ bits ++ part
    → bits_from (left - 1) new next ≡ bits_from left bits last
bits-more zero bits part new last next some drawn is = absurd (omega (arith, some))
bits-more (suc left) bits part new last next some drawn is =
    let less : suc left - 1 ≡ left = omega arith in
    let word : bits_of 16 (draw_after last) ≡ part = ap (λ (d : Drawn (List Bool)). d.made) drawn in
    let after : draw_after last ≡ next = ap (λ (d : Drawn (List Bool)). d.last) drawn in
    ap (λ (n : ℕ). bits_from n new next) less
    ∙ ap (λ (l : List Bool). bits_from left l next) (is ∙ ap (λ (l : List Bool). bits ++ l) (sym word))
    ∙ ap (bits_from left (bits ++ bits_of 16 (draw_after last))) (sym after)

-- the variant of a number
pub variant-found : (parts : List Part) (number : ℕ) (one : Part) (last : ℕ) → number < length parts → one ≡ get_or parts number one
    → variant (plain_parts parts) number last ≡ element (plain one.ltype) last
variant-found [] number one last within is = absurd (omega (arith, within))
variant-found (first ∷ more) zero one last within is = ap (λ (p : Part). element (plain p.ltype) last) (sym is)
variant-found (first ∷ more) (suc number) one last within is = variant-found more number one last (omega (arith, within)) is

pub within-so : (parts : List Part) (number : ℕ) → true ≡ ltb number (length parts) → number < length parts
within-so parts number told = ltb-true number (length parts) (sym told)

pub selected-so : (parts : List Part) (number : ℕ) (one : Part) (last : ℕ) (value boxed : Value) (final : ℕ) → number < length parts
    → one ≡ get_or parts number one
    → element (plain one.ltype) last ≡ record { made = value; last = final } → boxed ≡ value
    → selected number (plain_parts parts) last ≡ record { made = values.Union number boxed; last = final }
selected-so parts number one last value boxed final within is made held =
    ap (made_by (values.Union number)) (variant-found parts number one last within is ∙ made)
    ∙ ap (λ (v : Value). record { made = values.Union number v; last = final }) (sym held)

-- what holds of the variant that is drawn holds of the Union
pub union-so : (P : Drawn Value → Type 0) (parts : List Part) (number draw wide last next : ℕ) → wide ≡ draw → number ≡ wide / 256 % length parts → draw ≡ draw_after last
    → next ≡ draw → P (selected number (plain_parts parts) next) → P (element (types.union (plain_parts parts)) last)
union-so P parts number draw wide last next same is drawn after holds =
    let many = number_of_parts-plain parts in
    let number_is : number ≡ draw_after last / 256 % number_of_parts (plain_parts parts) =
    is ∙ ap (λ (n : ℕ). n / 256 % length parts) (same ∙ drawn) ∙ ap (λ (n : ℕ). draw_after last / 256 % n) (sym many) in
    subst (λ (n : ℕ). P (selected n (plain_parts parts) (draw_after last))) number_is
    (subst (λ (n : ℕ). P (selected number (plain_parts parts) n)) (after ∙ drawn) holds)
