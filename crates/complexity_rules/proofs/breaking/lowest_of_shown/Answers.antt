use Rattle.std.proofs.Common.{true, false, None, Some}
use Rattle.physical_stream.specs.declared.rule.Rule.TheVariants.{Empty, Nest}
use Rattle.complexity_rules.proofs.LowestLemmas.{lowest_items, lowest_lanes}
use Rattle.complexity_rules.proofs.breaking.lowest_of_shown.Goals as goal

pub returns-then-breaks_empty : goal.returns-then-breaks_empty
returns-then-breaks_empty c before ready last_is =
    let p = c.args.p.now in
    let t = c.args.transfer.now in
    let items = lowest_items p before ready t c.args.tail c.args.items.now.walk true false last_is c.requires.found (c.if-breaks_empty.ensures {u = tt}) (λ no. cc) in
    lowest_lanes p before ready t c.args.items.now.early (Some Empty) c.if-breaks_index.ensures (c.if-breaks_lane_last.ensures {u = tt}) c.requires.early
    c.if-breaks_strobe.ensures c.if-breaks_start.ensures c.if-breaks_end.ensures items

pub returns-then-breaks_nest : goal.returns-then-breaks_nest
returns-then-breaks_nest c before ready last_is =
    let p = c.args.p.now in
    let t = c.args.transfer.now in
    let items = lowest_items p before ready t c.args.tail c.args.items.now.walk false true last_is c.requires.found (c.if-breaks_empty.ensures {u = tt}) (λ no. c.if-breaks_nest.ensures {u = tt}) in
    lowest_lanes p before ready t c.args.items.now.early (Some Nest) c.if-breaks_index.ensures (c.if-breaks_lane_last.ensures {u = tt}) c.requires.early
    c.if-breaks_strobe.ensures c.if-breaks_start.ensures c.if-breaks_end.ensures items

pub returns-else-breaks_nest : goal.returns-else-breaks_nest
returns-else-breaks_nest c before ready last_is =
    let p = c.args.p.now in
    let t = c.args.transfer.now in
    let items = lowest_items p before ready t c.args.tail c.args.items.now.walk false false last_is c.requires.found (c.if-breaks_empty.ensures {u = tt}) (λ no. c.if-breaks_nest.ensures {u = tt}) in
    lowest_lanes p before ready t c.args.items.now.early None c.if-breaks_index.ensures (c.if-breaks_lane_last.ensures {u = tt}) c.requires.early
    c.if-breaks_strobe.ensures c.if-breaks_start.ensures c.if-breaks_end.ensures items
