use Rattle.std.proofs.Common.{◌∙◌, ap}
use Rattle.tydi_base.specs.Numbers.{word_of_number}
use Rattle.logical_value.proofs.PackingLemmas.{Puts-number, no_number}
use Rattle.logical_value.proofs.packing.Packing.put_number.Goals as goal

pub returns-in-Some : goal.returns-in-Some
returns-in-Some c = λ below.
    Puts-number c.args.self.now c.put_bits.new.self c.args.width c.args.number c.in_ok-word.field-0 c.in-Some.word
    (c.in_ok-word.ensures ∙ ap (word_of_number c.args.width) c.from.ensures) c.in-Some.is c.put_bits.ensures below

pub returns-in_default : goal.returns-in_default
returns-in_default c = λ below.
    absurd (no_number c.args.width c.args.number c.in_ok-word.field-0 (c.in_ok-word.ensures ∙ ap (word_of_number c.args.width) c.from.ensures) c.in_default.is below)
