use Rattle.std.proofs.Common.{sym, ◌∙◌}
use Rattle.vhdl_text.proofs.CodeLemmas.{other-word}
use Rattle.vhdl_text.proofs.constants.edges_before.Goals as goal

pub returns-else-is_same : goal.returns-else-is_same
returns-else-is_same c = sym (other-word c.args.text.now c.in_ok-digits.digits.now c.in_ok-digits.word.now c.in_ok-digits.ensures.some (sym c.is_same.ensures ∙ c.if-is_same.false))
