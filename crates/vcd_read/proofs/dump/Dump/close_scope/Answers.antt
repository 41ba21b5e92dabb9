use Rattle.vcd_read.proofs.DumpLemmas.{after-closes}
use Rattle.vcd_read.proofs.dump.Dump.close_scope.Goals as goal

pub returns-clause-stands : goal.returns-clause-stands
returns-clause-stands c wanted parts is =
    let old = c.args.self.now in after-closes wanted old.scopes old.ended old.wires old.variables old.times old.sampler parts is c.close.new.self
    c.close.ensures.open c.close.ensures.wanted
