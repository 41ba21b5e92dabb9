use Rattle.std.proofs.Common.{ap, ◌∙◌}
use Rattle.std.specs.List.{slice_get}
use Rattle.link_check.specs.Tables.{lent_port, port_in, ports_there}
use Rattle.link_check.proofs.TypedLemmas.{found-typed}
use Rattle.link_check.proofs.wiring.Wiring.port.Goals as goal

pub returns-clause-value : goal.returns-clause-value
returns-clause-value c = ap lent_port (c.copied.ensures ∙ c.get.ensures.value) ∙ c.args.self.now.found.ports (c.args.home, c.new.result)
    ∙ ap (port_in (ports_there (slice_get c.args.self.now.streamlets.now c.args.home))) c.new.ensures

pub returns-clause-typed : goal.returns-clause-typed
returns-clause-typed c = found-typed c.args.self.now.streamlets.now c.args.home c.args.name.now c.copied.result (ap lent_port (c.copied.ensures ∙ c.get.ensures.value) ∙ c.args.self.now.found.ports (c.args.home, c.new.result)
    ∙ ap (port_in (ports_there (slice_get c.args.self.now.streamlets.now c.args.home))) c.new.ensures)
