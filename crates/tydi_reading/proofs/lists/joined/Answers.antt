use Rattle.std.proofs.Common.{true, rules, arith}
use Rattle.std.specs.Prelude.{not}
use Rattle.std.proofs.lemmas.Grind.{common_steps}
use Rattle.tydi_reading.specs.Lists.{after_joint, joined}
use Rattle.tydi_reading.proofs.LoopLemmas.{joint-shrinks, tells-not}
use Rattle.tydi_reading.proofs.lists.joined.Goals as goal

pub returns-in_err-item : goal.returns-in_err-item
unfolding joined
returns-in_err-item g c read joint tells reads shrinks =
    let made = reads _ _ _ c.item.ensures in
    first_of (search rules, grind (arith, common_steps))

pub returns : goal.returns
unfolding joined
returns g c read joint tells reads shrinks =
    let made = reads _ _ _ c.item.ensures in
    let more = c.repeated.ensures (after_joint joint read) (λ t. not (joint t)) true (λ p b k. search (rules, tells-not joint (g.S.Source.left p.now)))
    (λ p q a k. search rules) (joint-shrinks joint read shrinks) in
    first_of (search rules, grind (arith, common_steps))
