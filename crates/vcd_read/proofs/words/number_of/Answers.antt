use Rattle.std.proofs.Common.{◌∙◌, ◌+◌, ◌*◌, ℕ, take, sym, subst, arith}
use Rattle.vcd_read.proofs.NumberWords.{Spells, spells-all, spells-more, spells-nothing, spells-room, spells-stop}
use Rattle.vcd_read.proofs.words.number_of.Goals as goal

pub letters-init : goal.letters-init
letters-init c = spells-nothing

pub overflow_mul-number : goal.overflow_mul-number
overflow_mul-number c =
    let room = spells-room c.args.letters.now c.letters.letter-index c.letters.number c.letters-test.true c.requires c.letters.invariant in omega (arith, room)

pub returns-then-not-is_bit : goal.returns-then-not-is_bit
returns-then-not-is_bit c = spells-stop c.args.letters.now c.letters.letter-index c.letters-test.true (sym c.is_bit.ensures ∙ c.if-not-is_bit.true)

pub overflow_add-number : goal.overflow_add-number
overflow_add-number c =
    let room = spells-room c.args.letters.now c.letters.letter-index c.letters.number c.letters-test.true c.requires c.letters.invariant in
    let bit = c.from.ensures in omega (arith, room, bit)

pub letters-preserved : goal.letters-preserved
letters-preserved c =
    subst (λ (n : ℕ). Spells (take (c.letters.letter-index + 1) c.args.letters.now) (2 * c.letters.number + n)) (sym c.from.ensures)
    (spells-more c.args.letters.now c.letters.letter-index c.letters.number c.letters-test.true (sym c.is_bit.ensures ∙ c.if-not-is_bit.false) c.letters.invariant)

pub returns : goal.returns
returns c = spells-all c.args.letters.now c.letters.letter-index c.letters.number c.letters-test.false c.letters.invariant
