use Rattle.std.proofs.Common.{List, Option, take, ap, ◌∙◌}
use Rattle.std.specs.Option.{option_or}
use Rattle.vhdl_writer.specs.Architecture.{ports_at}
use Rattle.vhdl_writer.specs.Finding.{port_at_home, port_named}
use Rattle.vhdl_writer.specs.declared.component.SplitPort.{SplitPort}
use Rattle.vhdl_writer.proofs.TableLemmas.{components-more}
use Rattle.vhdl_writer.proofs.tables.ports_by_name.Goals as goal

pub components-preserved : goal.components-preserved
components-preserved c = λ key.
    let one = c.index-components-home.result in
    c.in_ok-add_ports.ensures key
    ∙ ap (λ (o : Option SplitPort). option_or o (port_at_home c.as_slice.result.now c.components.home key)) (c.components.invariant key)
    ∙ ap (λ (ports : List SplitPort). option_or (port_named (ports_at (take c.components.home c.args.components.now) key.0) key.1) (port_at_home ports c.components.home key)) c.as_slice.ensures
    ∙ components-more c.args.components.now c.components.home one key c.components-test.true c.index-components-home.is
