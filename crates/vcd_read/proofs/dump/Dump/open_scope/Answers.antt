use Rattle.std.proofs.lemmas.Result.{on_ok_weaker}
use Rattle.vcd_read.proofs.DumpLemmas.{after-opens}
use Rattle.vcd_read.proofs.dump.Dump.open_scope.Goals as goal

pub returns-clause-stands : goal.returns-clause-stands
returns-clause-stands c = on_ok_weaker c.open.result (λ opened wanted parts is.
    let old = c.args.self.now in after-opens wanted old.scopes old.ended old.wires old.variables old.times old.sampler parts is c.args.name.now
    c.open.new.self opened c.open.ensures.wanted) c.open.ensures.open
