-- The causes of the answers of `gen`.
use Rattle.std.proofs.Common.{◌≡◌, ◌∙◌, ℕ, inr, List, Option, Some, Result, Ok, Err, codes, decimal, refl, sym, ap, subst}
use Rattle.tydi_base.specs.Path.{path_text}
use Rattle.tydi_base.specs.Reading.{◌>>=◌}
use Rattle.tydi_io.specs.Store.{Files}
use Rattle.port_drive.specs.Drives as driving
use Rattle.port_gen.specs.Jobs.{Job, NoJob, NotDriven, TooManyCycles, TooManyLeaves, job_of, job_value}
use Rattle.port_gen.specs.Summaries.{Summary, job_trace, summary_of_trace}
use Rattle.port_gen.proofs.StartLemmas.{jobs-never-unfinished}
use Rattle.type_split.specs.Streams.{PlainSplit}
use Rattle.tydi_tool.specs.declared.answer.Answer.{Answer}
use Rattle.tydi_tool.specs.declared.answer.Answer.TheVariants as answers
use Rattle.tydi_tool.specs.Ask.{Ask, Ends, SaysBy, TellsOf}
use Rattle.tydi_tool.specs.Causes as rows
use Rattle.tydi_tool.specs.Causes.{HasCarried, HasNoJob, IsSummaryText, IsTextOf, JobNotMultipleCause, JobWords, NoJobCause, generated_in, job_line}
use Rattle.tydi_tool.specs.Commands.{ask_of, carried_ask}
use Rattle.tydi_tool.specs.Drives.{path_of}
use Rattle.tydi_tool.specs.Jobs.{TellsJob, refusal_of_job, summary_text, text_of_job}
use Rattle.tydi_tool.specs.Outcome.{output_answer}
use Rattle.tydi_tool.specs.Refusals.{refusal_line}
use Rattle.tydi_tool.specs.Words.{Request, Bench, Carry, Check, Decode, Drive, Gen, Link, Read, Sim, Split, Testbench, Vcd, Design, Compare, Expect, Watch}
use Rattle.tydi_tool.proofs.CauseLines.{same_some, three_words}
use Rattle.tydi_tool.proofs.CauseSteps.{Told, gives_text, says-carried}

-- the words of a job
abbrev pub of_job : (project port : List ℕ) (seed count : ℕ) → JobWords
of_job project port seed count = record { at = record { project = project; port = port }; seed = seed; count = count }

-- how the command goes on with the split of a port each of whose nodes is carried
abbrev job_end : JobWords → PlainSplit → Ask
job_end words split = Ends (TellsJob split words.seed words.count)

-- ---- an answer has a cause

module _ (known : Files) (words : JobWords) (request : Request) (a : Answer) (named : generated_in request ≡ Some words) (split : PlainSplit) (at : HasCarried known words.at split) where
  has-none : (reason : NoJob) → job_of split words.seed words.count ≡ Err reason → HasNoJob known request split reason
  has-none reason is = record { words = words; named = named; at = at; is = is }

  refuses_job : (reason : NoJob) → job_of split words.seed words.count ≡ Err reason → a ≡ answers.Refused (refusal_line (refusal_of_job split reason)) → Told known request a
  refuses_job TooManyLeaves is said = (
    rows.TextFault,
    inr (record { split = split; reason = TooManyLeaves; none = has-none TooManyLeaves is; line = codes "tydi: TooManyLeaves\n"; told = refl; said = said }),
  )
  refuses_job TooManyCycles is said = (
    rows.TextFault,
    inr (record { split = split; reason = TooManyCycles; none = has-none TooManyCycles is; line = codes "tydi: TooManyCycles\n"; told = refl; said = said }),
  )
  refuses_job (NotDriven (driving.NotFinished stream left)) is said = absurd (jobs-never-unfinished split words.seed words.count stream left is)
  refuses_job (NotDriven (driving.CountNotMultiple stream count lanes)) is said = (
    rows.CountNotMultiple,
    inr (record {
      split = split;
      stream = stream;
      count = count;
      lanes = lanes;
      none = has-none (NotDriven (driving.CountNotMultiple stream count lanes)) is;
      said = said ∙ ap answers.Refused (three_words (codes "tydi: ") (codes "CountNotMultiple") (codes " ") (path_text (path_of split stream)) (decimal count) (decimal lanes) (codes "\n"));
    }),
  )

  -- a port has a job, or has none
  pub told-job : ((text : List ℕ) → IsSummaryText known words text → IsTextOf known request text) → TellsJob split words.seed words.count a → Told known request a
  told-job texts says = by (job_of split words.seed words.count) refl says
    where
      by : (made : Result Job NoJob) → job_of split words.seed words.count ≡ made
          → TellsOf (text_of_job split (made >>= λ job. Ok (summary_of_trace split (job_value split words.seed words.count) (job_trace split job)))) (λ text b. b ≡ output_answer text) a → Told known request a
      by (Ok job) is says =
          let summary = summary_of_trace split (job_value split words.seed words.count) (job_trace split job) in
          gives_text known request (summary_text split summary) a (texts (summary_text split summary) (record {
            split = split;
            at = at;
            summary = summary;
            summary_is = ap (λ (r : Result Job NoJob). r >>= λ one. Ok (summary_of_trace split (job_value split words.seed words.count) (job_trace split one))) is;
            is = refl;
          })) says
      by (Err reason) is says = refuses_job reason is says

-- ---- a cause gives its answer

same_jobs : (one other : JobWords) → ◌≡◌ {A = Option JobWords} (Some one) (Some other) → one ≡ other
same_jobs one other e = cc

-- a command that makes a job of a port
abbrev jobs : JobWords → Ask
jobs words = carried_ask words.at.project words.at.port (job_end words)

from_generated : (known : Files) (request : Request) (words : JobWords) (a : Answer) → generated_in request ≡ Some words → SaysBy (Some known) (jobs words) a → SaysBy (Some known) (ask_of request) a
from_generated known (Check trace) words a named said = absurd cc
from_generated known (Read project) words a named said = absurd cc
from_generated known (Split project port) words a named said = absurd cc
from_generated known (Drive project port value plan) words a named said = absurd cc
from_generated known (Decode project port trace) words a named said = absurd cc
from_generated known (Sim bench run) words a named said = absurd cc
from_generated known (Link project) words a named said = absurd cc
from_generated known (Carry project top from to trace) words a named said = absurd cc
from_generated known (Design language project) words a named said = absurd cc
from_generated known (Compare project port value trace) words a named said = absurd cc
from_generated known (Expect project port value) words a named said = absurd cc
from_generated known (Watch monitor trace) words a named said = absurd cc
from_generated known (Bench project port value plan) words a named said = absurd cc
from_generated known (Testbench project test) words a named said = absurd cc
from_generated known (Vcd project port scope file) words a named said = absurd cc
from_generated known (Gen project port seed count) words a named said =
    subst (λ (w : JobWords). SaysBy (Some known) (jobs w) a) (sym (same_jobs (of_job project port seed count) words named)) said

-- there is no job, for this reason
says-reason : (known : Files) (request : Request) (split : PlainSplit) (reason : NoJob) (a : Answer) → HasNoJob known request split reason → a ≡ answers.Refused (refusal_line (refusal_of_job split reason))
    → SaysBy (Some known) (ask_of request) a
says-reason known request split reason a has said =
    from_generated known request has.words a has.named
    (says-carried known has.words.at (job_end has.words) a split has.at
    (subst (λ (r : Result Job NoJob).
    TellsOf (text_of_job split (r >>= λ job. Ok (summary_of_trace split (job_value split has.words.seed has.words.count) (job_trace split job)))) (λ text b. b ≡ output_answer text) a) (sym has.is) said))

-- the line of a reason that names no stream
line-said : (split : PlainSplit) (reason : NoJob) (line : List ℕ) → job_line reason ≡ Some line → line ≡ refusal_line (refusal_of_job split reason)
line-said split TooManyLeaves line told = sym (same_some (codes "tydi: TooManyLeaves\n") line told)
line-said split (NotDriven reason) line told = absurd cc
line-said split TooManyCycles line told = sym (same_some (codes "tydi: TooManyCycles\n") line told)

pub says-no_job : (known : Files) (request : Request) (a : Answer) → NoJobCause known request a → SaysBy (Some known) (ask_of request) a
says-no_job known request a cause =
    says-reason known request cause.split cause.reason a cause.none (cause.said ∙ ap answers.Refused (line-said cause.split cause.reason cause.line cause.told))

pub says-job_count : (known : Files) (request : Request) (a : Answer) → JobNotMultipleCause known request a → SaysBy (Some known) (ask_of request) a
says-job_count known request a cause =
    says-reason known request cause.split (NotDriven (driving.CountNotMultiple cause.stream cause.count cause.lanes)) a cause.none
    (cause.said ∙ ap answers.Refused (sym (three_words (codes "tydi: ") (codes "CountNotMultiple") (codes " ") (path_text (path_of cause.split cause.stream)) (decimal cause.count) (decimal cause.lanes) (codes "\n"))))

pub says-summary : (known : Files) (words : JobWords) (text : List ℕ) (a : Answer) → IsSummaryText known words text → a ≡ output_answer text → SaysBy (Some known) (jobs words) a
says-summary known words text a is said =
    says-carried known words.at (job_end words) a is.split is.at
    (subst (λ (r : Result Summary NoJob). TellsOf (text_of_job is.split r) (λ one b. b ≡ output_answer one) a) (sym is.summary_is) (said ∙ ap output_answer is.is))
