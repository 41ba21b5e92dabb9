use Rattle.std.proofs.Common.{◌+◌, ◌∙◌, drop, sym}
use Rattle.tydi_base.proofs.DecimalLaws.{read_on-drop, too_great}
use Rattle.tydi_base.proofs.decimal.spelled_number.Goals as goal

pub returns-in-None-clause-none : goal.returns-in-None-clause-none
returns-in-None-clause-none g c =
    too_great _ _ (drop (c.digits.digit-index + 1) c.args.digits.now) _ c.in-None.ensures.none
    (sym (read_on-drop _ c.args.digits.now c.digits.digit-index c.digits-test.true) ∙ c.digits.invariant.1)
