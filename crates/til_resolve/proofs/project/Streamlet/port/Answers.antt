use Rattle.std.proofs.Common.{◌-◌, ap, sym, ◌∙◌, length, take}
use Rattle.til_resolve.specs.Paths.{is_same_path}
use Rattle.til_resolve.proofs.LookupLemmas.{port_in-none, port_in-apart, port_in-named, not_true, not_false}
use Rattle.til_resolve.proofs.project.Streamlet.port.Goals as goal

pub returns-in_default : goal.returns-in_default
returns-in_default c = port_in-none c.args.self.now c.args.path.now c.names.result.now c.names.ensures.value c.in_default.len_below

pub returns-then-ne : goal.returns-then-ne
returns-then-ne c =
    let names = c.names.result.now in
    port_in-apart c.args.self.now c.args.path.now names c.last-item.result c.names.ensures.value c.in-len1-up.len_at_least c.last-item.is
    (ap (λ own. is_same_path own (take (length names - 1) names)) (sym c.names-2.ensures.value) ∙ not_true _ c.if-ne.ensures)

pub returns : goal.returns
returns c =
    let names = c.names.result.now in
    c.port_named.ensures ∙ port_in-named c.args.self.now c.args.path.now names c.last-item.result c.names.ensures.value c.in-len1-up.len_at_least c.last-item.is
    (ap (λ own. is_same_path own (take (length names - 1) names)) (sym c.names-2.ensures.value) ∙ not_false _ c.if-ne.ensures)
