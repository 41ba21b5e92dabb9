use Rattle.std.proofs.Common.{length, refl, ◌∙◌, arith}
use Rattle.til_parser.specs.Numbers.{numerator_of, denominator_of, digits_before, digits_behind}
use Rattle.til_parser.proofs.numbers.FractionLemmas.{lowest_from_Some}
use Rattle.til_parser.proofs.numbers.NumberLemmas.{AreParts-number, room-whole, room-behind, read_on-append, tens_pos, tens_fit}
use Rattle.til_parser.proofs.leaves.fraction_of.Goals as goal

pub with_digits-whole-requires : goal.with_digits-whole-requires
with_digits-whole-requires c = let parts = AreParts-number c.args.spelling.now c.requires in
    rw c.around_point.ensures.before (record { digits = parts.before; fits = room-whole c.args.spelling.now parts })

pub with_digits-numerator-requires : goal.with_digits-numerator-requires
with_digits-numerator-requires c = let parts = AreParts-number c.args.spelling.now c.requires in
    rw (c.around_point.ensures.behind, c.with_digits-whole.ensures, c.around_point.ensures.before) (record { digits = parts.behind; fits = room-behind c.args.spelling.now parts })

pub pow-requires : goal.pow-requires
pow-requires c = let few = (AreParts-number c.args.spelling.now c.requires).few in rw c.around_point.ensures.behind (tens_fit _ (omega arith))

pub unwrap-requires : goal.unwrap-requires
unwrap-requires c = let some = tens_pos (length c.around_point.result.1.now) in c.new.ensures.some.1 (λ none. absurd (omega arith))

pub returns : goal.returns
returns c =
    let number = c.args.spelling.now in
    lowest_from_Some _ _ (numerator_of number) (denominator_of number) _ _
    (c.with_digits-numerator.ensures
    ∙ rw (c.around_point.ensures.behind, c.with_digits-whole.ensures, c.around_point.ensures.before) (read_on-append 0 (digits_before number) (digits_behind number)))
    (c.pow.ensures ∙ rw c.around_point.ensures.behind refl) (tens_pos _) c.new.ensures.value c.unwrap.ensures
