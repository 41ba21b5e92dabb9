use Rattle.std.proofs.Common.{option_copied, ap, ◌∙◌}
use Rattle.vhdl_writer.specs.Architecture.{ports_at}
use Rattle.vhdl_writer.specs.Finding.{port_named}
use Rattle.vhdl_writer.proofs.inside.Inside.port.Goals as goal

pub returns : goal.returns
returns c = ap option_copied (c.copied.ensures ∙ c.get.ensures.value) ∙ c.args.self.now.found.ports (c.args.home, c.new.result)
    ∙ ap (port_named (ports_at c.args.self.now.components.now c.args.home)) c.new.ensures
