use Rattle.std.proofs.Common.{◌∙◌, ℕ, List, Some, ap, sym}
use Rattle.port_drive.specs.Text.{written_text}
use Rattle.vcd_read.specs.Kept.{kept_bytes}
use Rattle.tydi_tool.proofs.AskLemmas.{Judges-either}
use Rattle.tydi_tool.proofs.DumpLemmas.{kept-told, none-long}
use Rattle.tydi_tool.specs.Outcome.{output_answer}
use Rattle.tydi_tool.proofs.vcd.told.Goals as goal

pub returns-in-Some : goal.returns-in-Some
returns-in-Some c = λ t is. kept-told t c.dump.result c.output.result
    (ap (λ (l : List ℕ). Some l) c.dump.ensures ∙ sym (ap kept_bytes c.in-Some.is) ∙ is) c.output.ensures

pub returns-in-None : goal.returns-in-None
returns-in-None c = λ t is.
    Judges-either (output_answer (written_text t)) c.too_long.result (c.too_long.ensures (written_text t) (none-long (written_text t) (sym (ap kept_bytes c.in-None.is) ∙ is)))
