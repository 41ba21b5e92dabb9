use Rattle.std.proofs.Common.{◌∙◌, sym}
use Rattle.value_text.specs.Tokens.{found_view}
use Rattle.value_text.proofs.TokenLemmas.{found-at}
use Rattle.value_text.proofs.lexing.find_token.Goals as goal

pub returns : goal.returns
returns c = found-at c.args.bytes.now c.after_gap-rest.result.now c.saturating_sub.result (found_view c.token_at.result) c.after_gap-rest.ensures
    (sym c.is_empty.ensures ∙ c.if-is_empty.false) c.saturating_sub.ensures c.token_at.ensures
