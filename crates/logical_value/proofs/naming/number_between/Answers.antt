use Rattle.std.proofs.Common.{◌≤◌, ◌+◌, ◌*◌, ◌∙◌, Bool, true, false, refl, arith}
use mir.Val.{bool_byte}
use Rattle.tydi_base.proofs.BitPlaces.{bool_byte-is}
use Rattle.logical_value.proofs.NamingLemmas.{Counts-none, Counts-small, Counts-more}
use Rattle.logical_value.proofs.naming.number_between.Goals as goal

bool_byte-most : (bit : Bool) → bool_byte bit ≤ 1
bool_byte-most true = omega arith
bool_byte-most false = omega arith

pub bits-init : goal.bits-init
bits-init c = Counts-none c.args.word.now c.args.from c.args.to c.requires.order

pub overflow_mul-number : goal.overflow_mul-number
overflow_mul-number c =
    let small = Counts-small c.args.word.now c.args.from c.args.to c.bits.at c.bits.number c.requires.few c.bits-test.true c.bits.invariant in omega (arith, small)

pub overflow_add-number : goal.overflow_add-number
overflow_add-number c =
    let small = Counts-small c.args.word.now c.args.from c.args.to c.bits.at c.bits.number c.requires.few c.bits-test.true c.bits.invariant in
    omega (arith, small, c.from.ensures, bool_byte-most c.get.result)

pub bits-preserved : goal.bits-preserved
bits-preserved c =
    Counts-more c.args.word.now c.args.from c.args.to c.bits.at c.bits.number c.from.result (2 * c.bits.number + c.from.result) c.get.result c.requires.within c.bits-test.true c.bits.invariant
    c.get.ensures (c.from.ensures ∙ bool_byte-is c.get.result) refl
