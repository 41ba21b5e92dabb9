use Rattle.std.proofs.Common.{◌≡◌, ◌⊎◌, subst}
use Rattle.watch_text.specs.Text.{watch_text}
use Rattle.tydi_tool.specs.Outcome.{output_answer}
use Rattle.tydi_tool.specs.declared.answer.Reply.TheVariants as replies
use Rattle.tydi_tool.proofs.AskLemmas.{Judges-either}
use Rattle.tydi_tool.proofs.expect.expected.Goals as goal

pub returns-in-Ok : goal.returns-in-Ok
returns-in-Ok c =
    Judges-either _ c.monitored.result
    (subst (λ watch. (c.monitored.result ≡ replies.Says (output_answer (watch_text watch))) ⊎ (c.monitored.result ≡ replies.Memory)) c.in-Ok.ensures c.monitored.ensures)
