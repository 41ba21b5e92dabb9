use Rattle.std.proofs.Common.{refl}
use Rattle.vcd_read.proofs.DumpLemmas.{after-ends}
use Rattle.vcd_read.proofs.SamplerLemmas.{ends-sampler}
use Rattle.vcd_read.proofs.dump.Dump.end_declarations.Goals as goal

pub returns-clause-stands : goal.returns-clause-stands
returns-clause-stands c wanted parts is =
    let old = c.args.self.now in
    after-ends wanted old.scopes old.ended old.wires old.variables old.times old.sampler parts is c.wire.new.self
    (ends-sampler wanted old.wires.codes parts _ (record { wires_are = is.wires_are; variables_are = is.variables_are }) refl old.sampler c.wire.new.self
    is.sampled c.in_ok-wire.ensures)
