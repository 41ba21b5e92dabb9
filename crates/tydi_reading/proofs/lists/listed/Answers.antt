use Rattle.std.proofs.Common.{rules, arith}
use Rattle.std.proofs.lemmas.Grind.{common_steps}
use Rattle.tydi_reading.specs.Lists.{listed}
use Rattle.tydi_reading.proofs.lists.listed.Goals as goal

pub returns-then-is_end : goal.returns-then-is_end
unfolding listed
returns-then-is_end g c read end separator last tells separates reads shrinks =
    let stop = tells _ _ c.is_end.ensures in
    first_of (search rules, grind (arith, common_steps))

pub returns : goal.returns
unfolding listed
returns g c read end separator last tells separates reads shrinks =
    let stop = tells _ _ c.is_end.ensures in
    let made = c.joined.ensures read separator separates reads shrinks in
    first_of (search rules, grind (arith, common_steps))
