use Rattle.std.proofs.Common.{arith}
use Rattle.std.proofs.lemmas.Option.{slice_get-get_or}
use Rattle.elastic_net.proofs.RewindLemmas.{rewinds-all, rewinds-more}
use Rattle.elastic_net.proofs.running.rewind_all.Goals as goal

pub chains-preserved : goal.chains-preserved
chains-preserved g c =
    rewinds-more g.F.TransferFeed.rest g.F.TransferFeed.whole c.args.chains.now c.chains.chains c.chains.place _ c.rewind.new.self c.chains.invariant
    (slice_get-get_or c.chains.chains c.chains.place c.index-chains-place.result (omega (arith, c.chains-test.true, c.chains.auto.chains))) c.rewind.ensures.kept c.rewind.ensures.stands

pub returns-clause-first : goal.returns-clause-first
returns-clause-first g c = rewinds-all g.F.TransferFeed.rest g.F.TransferFeed.whole c.args.chains.now c.chains.chains c.chains.place c.chains.invariant c.chains-test.false
