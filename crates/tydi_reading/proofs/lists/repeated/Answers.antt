use Rattle.std.proofs.Common.{rules, arith}
use Rattle.std.proofs.lemmas.Grind.{common_steps}
use Rattle.tydi_reading.specs.Lists.{repeated_turn}
use Rattle.tydi_reading.proofs.LoopLemmas.{repeated-unfold}
use Rattle.tydi_reading.proofs.lists.repeated.Goals as goal

pub returns-in_err-item : goal.returns-in_err-item
unfolding repeated_turn
returns-in_err-item g c read end last tells reads shrinks =
    let turn = repeated-unfold end last read shrinks c.items.items (g.S.Source.left c.items.source) in
    let so_far = c.items.invariant read end last tells reads shrinks in
    let stop = tells _ _ c.is_end.ensures in
    let made = reads _ _ _ c.item.ensures in
    first_of (search rules, grind (arith, common_steps))

pub items-preserved : goal.items-preserved
unfolding repeated_turn
items-preserved g c read end last tells reads shrinks =
    let turn = repeated-unfold end last read shrinks c.items.items (g.S.Source.left c.items.source) in
    let so_far = c.items.invariant read end last tells reads shrinks in
    let stop = tells _ _ c.is_end.ensures in
    let made = reads _ _ _ c.item.ensures in
    first_of (search rules, grind (arith, common_steps))

pub returns : goal.returns
unfolding repeated_turn
returns g c read end last tells reads shrinks =
    let turn = repeated-unfold end last read shrinks c.items.items (g.S.Source.left c.items.source) in
    let so_far = c.items.invariant read end last tells reads shrinks in
    let stop = tells _ _ c.is_end.ensures in
    first_of (search rules, grind (arith, common_steps))
