use Rattle.logical_types.specs.Tree.{plain}
use Rattle.trace_decode.proofs.KeepLemmas.{named-active, named-inactive}
use Rattle.std.proofs.Common.{sym, ◌∙◌}
use Rattle.trace_decode.proofs.stream_kept.lane_has_names.Goals as goal

pub returns-in_ok-word : goal.returns-in_ok-word
returns-in_ok-word c =
    named-active (plain c.args.element.now) c.args.p.now c.args.transfer.now c.args.lane c.in_ok-word.word c.names_variants.result (sym c.is_active.ensures ∙ c.if-is_active.true)
    c.in_ok-word.ensures c.names_variants.ensures.named

pub returns-else-is_active : goal.returns-else-is_active
returns-else-is_active c = named-inactive (plain c.args.element.now) c.args.p.now c.args.transfer.now c.args.lane (sym c.is_active.ensures ∙ c.if-is_active.false)
