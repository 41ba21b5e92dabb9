use Rattle.vcd_read.proofs.DumpLemmas.{after-changes}
use Rattle.vcd_read.proofs.dump.Dump.change.Goals as goal

pub returns-clause-stands : goal.returns-clause-stands
returns-clause-stands c wanted parts code states is at wide word =
    let old = c.args.self.now in
    after-changes wanted old.scopes old.ended old.wires old.variables old.times old.sampler parts is code states c.change.new.self c.change.ensures.codes
    (c.change.ensures.stands parts code states is.wires_are at wide word)
