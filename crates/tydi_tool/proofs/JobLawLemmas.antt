-- The text that `gen` writes.
use Rattle.std.proofs.Common.{◌≡◌, ◌∙◌, ℕ, ◌≤◌, List, length, Result, Ok, Err, refl, sym, ap, subst}
use Rattle.tydi_base.specs.Reading.{◌>>=◌}
use Rattle.tydi_io.specs.Store.{Files}
use Rattle.handshake.specs.Rows.{StreamRun}
use Rattle.logical_types.specs.Tree.{Ltype}
use Rattle.port_drive.specs.Drives.{Undriven}
use Rattle.port_drive.specs.Laws.{trace_of}
use Rattle.port_drive.specs.Text.{AreHeadsInForm, written_text}
use Rattle.port_drive.proofs.FormLemmas.{types-have-heads}
use Rattle.port_gen.specs.Jobs.{Job, NoJob, job_of, job_value}
use Rattle.port_gen.specs.Laws.{JobsAreCarried}
use Rattle.port_gen.specs.Summaries.{Summary, job_trace, summary_of, summary_of_trace}
use Rattle.trace_decode.specs.Standing.{CanDecode}
use Rattle.type_split.specs.Streams.{PlainSplit}
use Rattle.tydi_tool.specs.declared.answer.Answer.TheVariants as answers
use Rattle.tydi_tool.specs.Causes as rows
use Rattle.tydi_tool.specs.Causes.{HasCarried, IsSummaryText, JobWords, PortWords}
use Rattle.tydi_tool.specs.JobLaw.{WritesSummary, WrittenSummariesAreOfJobs, job_words}
use Rattle.tydi_tool.specs.Jobs.{summary_text}
use Rattle.tydi_tool.specs.Words.{Gen}
use Rattle.tydi_tool.proofs.CauseLemmas.{exactly}
use Rattle.tydi_tool.proofs.FormLemmas.{IsPortFormed, port-formed}

module _ (known : Files) (words : PortWords) (split : PlainSplit) (at : HasCarried known words split) where
  abbrev ltype : Ltype
  ltype = at.split_is.ltype

  -- the port is one of a project that its text spells
  formed : IsPortFormed ltype
  formed =
      let port = at.split_is.port in
      subst IsPortFormed (sym port.type_is) (port-formed words.project port.bytes port.read words.port port.found port.reads port.named)

  can : CanDecode split
  can = record {
    port = record { ltype = ltype; port = formed.port; valid = formed.valid.valid; few = formed.valid.few; apart = at.split_is.apart; is = at.split_is.is };
    carried = at.carried;
  }

  form : AreHeadsInForm split
  form = subst AreHeadsInForm (sym at.split_is.is) (types-have-heads ltype formed.valid.valid formed.form)

-- a job that is summed up
record IsSummed (split : PlainSplit) (seed count : ℕ) (summary : Summary) : Type 0 where
  pub job : Job
  pub made : job_of split seed count ≡ Ok job
  pub is : summary ≡ summary_of_trace split (job_value split seed count) (job_trace split job)

summed-of : (split : PlainSplit) (seed count : ℕ) (summary : Summary) → summary_of split seed count ≡ Ok summary → IsSummed split seed count summary
summed-of split seed count summary = by (job_of split seed count) refl
  where
    by : (made : Result Job NoJob) → job_of split seed count ≡ made → (made >>= λ job. Ok (summary_of_trace split (job_value split seed count) (job_trace split job))) ≡ Ok summary → IsSummed split seed count summary
    by (Ok job) is ends = record { job = job; made = is; is = sym cc }
    by (Err reason) is ends = cc

module _ (law : JobsAreCarried) where
  writes : (known : Files) (words : JobWords) (text : List ℕ) → IsSummaryText known words text → WritesSummary known words text
  writes known words text is =
      let s = summed-of is.split words.seed words.count is.summary is.summary_is in
      let carried = law is.split words.seed words.count s.job (can known words.at is.split is.at) (form known words.at is.split is.at) s.made in
      record {
        split = is.split;
        at = is.at;
        job = s.job;
        made = s.made;
        carried = carried;
        driven = ap (λ (r : Result (List StreamRun) Undriven). r >>= λ runs. Ok (written_text (trace_of is.split s.job.cycles runs))) carried.drives;
        is = is.is ∙ ap (summary_text is.split) s.is;
      }

  same_text : (one other : List ℕ) → answers.Done one ≡ answers.Done other → one ≡ other
  same_text one other e = cc

  pub written-summaries : WrittenSummariesAreOfJobs
  written-summaries known project port text seed count says =
      let cause = (exactly rows.AText known (Gen project port seed count) (answers.Done text)).0 (says, refl) in
      let same : text ≡ cause.text = same_text text cause.text cause.said in (
        subst (λ (l : List ℕ). length l ≤ 67108864) (sym same) cause.within,
        subst (WritesSummary known (job_words project port seed count)) (sym same) (writes known (job_words project port seed count) cause.text cause.is),
      )
