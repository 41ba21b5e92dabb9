use Rattle.std.proofs.Common.{rules, arith}
use Rattle.std.proofs.lemmas.Grind.{common_steps}
use Rattle.tydi_reading.specs.Lists.{steps, steps_turn, separator_turn, mark}
use Rattle.tydi_reading.proofs.LoopLemmas.{steps-unfold}
use Rattle.tydi_reading.proofs.lists.steps.Goals as goal

pub returns-in_err-state : goal.returns-in_err-state
unfolding steps steps_turn
returns-in_err-state g c read end separator last tells separates reads shrinks =
    let turn = steps-unfold end last separator read shrinks c.steps.state (g.S.Source.left c.steps.source) in
    let so_far = c.steps.invariant read end separator last tells separates reads shrinks in
    let stop = tells _ _ c.is_end.ensures in
    let made = reads _ _ _ _ c.step.ensures in
    first_of (search rules, grind (arith, common_steps))

pub returns-then-not-separates : goal.returns-then-not-separates
unfolding steps steps_turn separator_turn mark
returns-then-not-separates g c read end separator last tells separates reads shrinks =
    let turn = steps-unfold end last separator read shrinks c.steps.state (g.S.Source.left c.steps.source) in
    let so_far = c.steps.invariant read end separator last tells separates reads shrinks in
    let stop = tells _ _ c.is_end.ensures in
    let comma = separates _ _ c.separates.ensures in
    let made = reads _ _ _ _ c.step.ensures in
    first_of (search rules, grind (arith, common_steps))

pub steps-preserved : goal.steps-preserved
unfolding steps_turn separator_turn mark
steps-preserved g c read end separator last tells separates reads shrinks =
    let turn = steps-unfold end last separator read shrinks c.steps.state (g.S.Source.left c.steps.source) in
    let so_far = c.steps.invariant read end separator last tells separates reads shrinks in
    let stop = tells _ _ c.is_end.ensures in
    let comma = separates _ _ c.separates.ensures in
    let made = reads _ _ _ _ c.step.ensures in
    first_of (search rules, grind (arith, common_steps))

pub returns : goal.returns
unfolding steps steps_turn
returns g c read end separator last tells separates reads shrinks =
    let turn = steps-unfold end last separator read shrinks c.steps.state (g.S.Source.left c.steps.source) in
    let so_far = c.steps.invariant read end separator last tells separates reads shrinks in
    let stop = tells _ _ c.is_end.ensures in
    first_of (search rules, grind (arith, common_steps))
