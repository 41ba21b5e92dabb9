use Rattle.std.proofs.Common.{rules, arith}
use Rattle.std.proofs.lemmas.Grind.{common_steps}
use Rattle.tydi_reading.specs.Lists.{followed}
use Rattle.tydi_reading.specs.Reading.{beginning}
use Rattle.tydi_reading.proofs.LoopLemmas.{beginning-shrinks}
use Rattle.tydi_reading.proofs.lists.followed.Goals as goal

pub returns-then-is_end : goal.returns-then-is_end
unfolding followed
returns-then-is_end g c read end lead last tells leads reads shrinks =
    let stop = tells _ _ c.is_end.ensures in
    first_of (search rules, grind (arith, common_steps))

pub returns-in_err-item : goal.returns-in_err-item
unfolding followed
returns-in_err-item g c read end lead last tells leads reads shrinks =
    let stop = tells _ _ c.is_end.ensures in
    let made = reads _ _ _ c.item.ensures in
    first_of (search rules, grind (arith, common_steps))

pub returns : goal.returns
unfolding followed
returns g c read end lead last tells leads reads shrinks =
    let stop = tells _ _ c.is_end.ensures in
    let made = reads _ _ _ c.item.ensures in
    let more = c.repeated.ensures (beginning lead read) end last tells (λ p q a k. search rules) (beginning-shrinks lead read shrinks) in
    first_of (search rules, grind (arith, common_steps))
