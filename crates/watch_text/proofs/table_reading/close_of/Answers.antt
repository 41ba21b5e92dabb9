use Rattle.std.proofs.Common.{◌∙◌}
use Rattle.watch_text.proofs.SoFarLemmas.{close-none, close-some}
use Rattle.watch_text.proofs.table_reading.close_of.Goals as goal

pub returns-in-Some : goal.returns-in-Some
returns-in-Some c = c.close_at.ensures ∙ close-some c.args.bits.now c.in-Some.number c.args.dims c.in-Some.ensures

pub returns-in-None : goal.returns-in-None
returns-in-None c = close-none c.args.bits.now c.args.dims c.ranges.dims.fits c.in-None.ensures
