use Rattle.std.proofs.Common.{true, false, None, Some}
use Rattle.physical_stream.specs.declared.rule.Rule.TheVariants.{Empty, Nest}
use Rattle.complexity_rules.proofs.LowestLemmas.{lowest_items, lowest_one_lane}
use Rattle.complexity_rules.proofs.one_lane.lowest_of_one.Goals as goal

pub returns-then-breaks_empty : goal.returns-then-breaks_empty
returns-then-breaks_empty c t fits found before ready last_is =
    let p = c.args.p.now in
    lowest_one_lane p before ready t (Some Empty) c.requires.one fits
    (lowest_items p before ready t c.args.tail c.args.walk.now true false last_is found (c.if-breaks_empty.ensures {u = tt}) (λ no. cc))

pub returns-then-breaks_nest : goal.returns-then-breaks_nest
returns-then-breaks_nest c t fits found before ready last_is =
    let p = c.args.p.now in
    lowest_one_lane p before ready t (Some Nest) c.requires.one fits
    (lowest_items p before ready t c.args.tail c.args.walk.now false true last_is found (c.if-breaks_empty.ensures {u = tt}) (λ no. c.if-breaks_nest.ensures {u = tt}))

pub returns-else-breaks_nest : goal.returns-else-breaks_nest
returns-else-breaks_nest c t fits found before ready last_is =
    let p = c.args.p.now in
    lowest_one_lane p before ready t None c.requires.one fits
    (lowest_items p before ready t c.args.tail c.args.walk.now false false last_is found (c.if-breaks_empty.ensures {u = tt}) (λ no. c.if-breaks_nest.ensures {u = tt}))
