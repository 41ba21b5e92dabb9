use Rattle.std.proofs.Common.{◌-◌, length, sym, ap, ◌∙◌}
use Rattle.vhdl_text.proofs.WholeLemmas.{offset_of-some}
use Rattle.watch_text.proofs.reading.offset_of.Goals as goal

pub returns-else-is_at_end : goal.returns-else-is_at_end
returns-else-is_at_end c =
    let size = length c.args.text.now in
    c.saturating_sub.ensures ∙ ap (λ n. size - n) c.bytes_left.ensures ∙ offset_of-some size c.args.lines.now (sym c.is_at_end.ensures ∙ c.if-is_at_end.false)
