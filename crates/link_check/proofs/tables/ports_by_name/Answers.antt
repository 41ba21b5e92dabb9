use Rattle.std.proofs.Common.{List, Option, take, slice_get, ap, ◌∙◌}
use Rattle.std.specs.Option.{option_or}
use Rattle.til_resolve.specs.declared.project.Port.{Port}
use Rattle.link_check.specs.Tables.{port_at_home, port_in, ports_there}
use Rattle.link_check.proofs.NamedLemmas.{streamlets-more}
use Rattle.link_check.proofs.tables.ports_by_name.Goals as goal

pub streamlets-preserved : goal.streamlets-preserved
streamlets-preserved c = λ key.
    let one = c.index-streamlets-home.result in
    c.in_ok-add_ports.ensures key
    ∙ ap (λ (o : Option Port). option_or o (port_at_home c.as_slice.result.now c.streamlets.home key)) (c.streamlets.invariant key)
    ∙ ap (λ (ports : List Port). option_or (port_in (ports_there (slice_get (take c.streamlets.home c.args.streamlets.now) key.0)) key.1) (port_at_home ports c.streamlets.home key)) c.as_slice.ensures
    ∙ streamlets-more c.args.streamlets.now c.streamlets.home one key c.streamlets-test.true c.index-streamlets-home.is
