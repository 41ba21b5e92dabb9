-- The text that the runs of a port make, or the reason why it is not driven, once for each command that drives one.
use Rattle.std.proofs.Common.{◌≡◌, ℕ, inl, List, Result, Ok, Err, codes, decimal, refl, sym, ap, ◌∙◌, subst}
use Rattle.tydi_base.specs.Path.{path_text}
use Rattle.tydi_base.specs.Reading.{◌>>=◌}
use Rattle.tydi_io.specs.Store.{Files}
use Rattle.handshake.specs.Rows.{StreamRun}
use Rattle.logical_value.specs.Tree.{plain_port}
use Rattle.logical_value.specs.declared.value.PortValue.{PortValue}
use Rattle.plan_text.specs.declared.plan.Plan.{Plan}
use Rattle.port_drive.specs.Drives as driving
use Rattle.port_drive.specs.Drives.{Undriven, drive_of}
use Rattle.type_split.specs.Streams.{PlainSplit}
use Rattle.tydi_tool.specs.declared.answer.Answer.{Answer}
use Rattle.tydi_tool.specs.declared.answer.Answer.TheVariants as answers
use Rattle.tydi_tool.specs.Causes as rows
use Rattle.tydi_tool.specs.Causes.{IsTextOf, IsUndriven}
use Rattle.tydi_tool.specs.Drives.{TellsMade, path_of, refusal_of_driving}
use Rattle.tydi_tool.specs.Refusals.{refusal_line}
use Rattle.tydi_tool.specs.Words.{Request}
use Rattle.tydi_tool.proofs.CauseLines.{three_words, two_words}
use Rattle.tydi_tool.proofs.CauseSteps.{Told, gives_text}
use Rattle.tydi_tool.proofs.DriveLemmas.{Made}

module _ (split : PlainSplit) (value : PortValue) (plan : Plan) (write : List StreamRun → List ℕ) (a : Answer) where
  -- the runs drive the port, or do not
  pub told-made : (known : Files) (request : Request) → ((reason : Undriven) → drive_of split (plain_port value) plan.streams ≡ Err reason → IsUndriven known request split reason)
      → ((text : List ℕ) → Made split (plain_port value) plan write ≡ Ok text → IsTextOf known request text) → TellsMade split (Made split (plain_port value) plan write) a → Told known request a
  told-made known request reasons texts says = by (drive_of split (plain_port value) plan.streams) refl says
    where
      by : (driven : Result (List StreamRun) Undriven) → drive_of split (plain_port value) plan.streams ≡ driven → TellsMade split (driven >>= λ runs. Ok (write runs)) a → Told known request a
      by (Ok runs) is says =
          gives_text known request (write runs) a (texts (write runs) (ap (λ (r : Result (List StreamRun) Undriven). r >>= λ some. Ok (write some)) is)) says
      by (Err (driving.CountNotMultiple stream count lanes)) is says = (
        rows.CountNotMultiple,
        inl (record {
          split = split;
          stream = stream;
          count = count;
          lanes = lanes;
          reason = reasons (driving.CountNotMultiple stream count lanes) is;
          said = says ∙ ap answers.Refused (three_words (codes "tydi: ") (codes "CountNotMultiple") (codes " ") (path_text (path_of split stream)) (decimal count) (decimal lanes) (codes "\n"));
        }),
      )
      by (Err (driving.NotFinished stream left)) is says = (
        rows.NotFinished,
        record {
          split = split;
          stream = stream;
          left = left;
          reason = reasons (driving.NotFinished stream left) is;
          said = says ∙ ap answers.Refused (two_words (codes "tydi: ") (codes "NotFinished") (codes " ") (path_text (path_of split stream)) (decimal left) (codes "\n"));
        },
      )

  -- they do not, for this reason
  pub tells-unmade : (reason : Undriven) → drive_of split (plain_port value) plan.streams ≡ Err reason → a ≡ answers.Refused (refusal_line (refusal_of_driving split reason))
      → TellsMade split (Made split (plain_port value) plan write) a
  tells-unmade reason is said = subst (λ (r : Result (List StreamRun) Undriven). TellsMade split (r >>= λ runs. Ok (write runs)) a) (sym is) said

-- this is the text
pub tells-made : (split : PlainSplit) (made : Result (List ℕ) Undriven) (text : List ℕ) (a : Answer) → made ≡ Ok text → TellsMade split (Ok text) a → TellsMade split made a
tells-made split made text a is said = subst (λ (r : Result (List ℕ) Undriven). TellsMade split r a) (sym is) said
