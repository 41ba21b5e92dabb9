use Rattle.logical_types.specs.Tree.{plain}
use Rattle.trace_decode.proofs.KeepLemmas.{named-active, named-inactive}
use Rattle.std.proofs.Common.{sym, ◌∙◌}
use Rattle.trace_decode.proofs.stream_kept.StreamKept.take_element.Goals as goal

pub returns-in_ok-element-clause-named : goal.returns-in_ok-element-clause-named
returns-in_ok-element-clause-named c =
    named-active (plain c.args.element.now) c.args.p.now c.args.transfer.now c.args.lane c.in_ok-word.word c.word_has_names-named.result (sym c.is_active.ensures ∙ c.if-is_active.true)
    c.in_ok-word.ensures c.word_has_names-named.ensures

pub returns-else-is_active-clause-named : goal.returns-else-is_active-clause-named
returns-else-is_active-clause-named c = named-inactive (plain c.args.element.now) c.args.p.now c.args.transfer.now c.args.lane (sym c.is_active.ensures ∙ c.if-is_active.false)
