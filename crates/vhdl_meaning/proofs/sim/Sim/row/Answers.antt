use Rattle.std.proofs.Common.{◌<◌, length, refl, arith}
use Rattle.std.proofs.lemmas.Option.{slice_get_read}
use Rattle.vhdl_meaning.proofs.SimLemmas.{shows-row}
use Rattle.vhdl_meaning.proofs.sim.Sim.row.Goals as goal

-- src/simulating.rt:67:5
pub returns : goal.returns
returns c = λ bench edges s.
    let lines = c.args.self.now.lines.items in
    let within : c.args.stream < length lines = let r = c.requires in let l = c.args.self.now.fits.long in omega (arith, r, l) in
    shows-row bench edges lines c.index.result.now c.args.stream c.args.ready _ s.stands.values
    (slice_get_read lines (length lines) c.args.stream c.index.result.now refl within c.index.ensures) c.row_of.ensures
