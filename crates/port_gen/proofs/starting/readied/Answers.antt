use Rattle.std.proofs.Common.{◌∙◌}
use Rattle.port_gen.proofs.StartLemmas.{begin-runs, begin-same, begin-stands, ready-long, runs-begun}
use Rattle.port_gen.proofs.starting.readied.Goals as goal

pub new-requires-clause-same : goal.new-requires-clause-same
new-requires-clause-same c =
    begin-same c.args.resting c.requires.start c.args.resting.at c.args.streams c.args.cycles c.requires.many c.into_parts-cursors.result.0 c.into_parts-cursors.ensures.cursors c.in_ok-ready.ready c.in_ok-ready.ensures

pub new-requires-clause-long : goal.new-requires-clause-long
new-requires-clause-long c = ready-long c.args.streams c.args.cycles c.in_ok-ready.ready c.in_ok-ready.ensures

pub new-requires-clause-stands : goal.new-requires-clause-stands
new-requires-clause-stands c =
    begin-stands c.args.resting c.requires.start c.args.resting.at c.args.streams c.args.cycles c.requires.many c.into_parts-cursors.result.0 c.into_parts-cursors.ensures.cursors

pub returns-clause-runs : goal.returns-clause-runs
returns-clause-runs c =
    runs-begun c.new.result.cursors.items c.into_parts-cursors.result.0 c.new.result.ready c.in_ok-ready.ready c.new.ensures.cursors c.new.ensures.ready
    ∙ begin-runs c.args.resting c.requires.start c.args.resting.at c.args.streams c.args.cycles c.requires.many c.into_parts-cursors.result.0 c.into_parts-cursors.ensures.cursors c.in_ok-ready.ready c.in_ok-ready.ensures
