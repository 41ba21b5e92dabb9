-- The answer of `gen`.
use Rattle.std.proofs.Common.{◌≡◌, ◌∙◌, ◌⊎◌, inr, ℕ, List, length, Option, None, Some, option_map, Result, Ok, Err, refl, sym, ap, subst, arith}
use Rattle.std.specs.Prelude.{IfOk, IfSome, MatchOption, MatchResult}
use Rattle.tydi_base.specs.Reading.{◌>>=◌}
use Rattle.port_gen.specs.Jobs.{Job, NoJob, NotDriven, TooManyCycles, TooManyLeaves, job_of, job_value}
use Rattle.port_gen.specs.Plans.{job_plan}
use Rattle.port_gen.specs.Summaries.{Summary, job_trace, summary_of, summary_of_trace}
use Rattle.port_gen.proofs.StartLemmas.{not-driven}
use Rattle.type_split.specs.Streams.{PlainSplit}
use Rattle.tydi_io.specs.Store.{Files}
use Rattle.tydi_tool.specs.declared.answer.Answer.{Answer}
use Rattle.tydi_tool.specs.declared.answer.Reply.{Reply}
use Rattle.tydi_tool.specs.declared.answer.Reply.TheVariants as replies
use Rattle.tydi_tool.specs.Ask.{DecidedBy, Ends, Judges, TellsOf, goes_on}
use Rattle.tydi_tool.specs.Jobs.{NamesStreamOf, TellsJob, refusal_of_job, summary_text, text_of_job}
use Rattle.tydi_tool.specs.Laws.{HasSome}
use Rattle.tydi_tool.specs.Outcome.{output_answer}
use Rattle.tydi_tool.specs.Reading.{IsRefusedBy, refusal_in}
use Rattle.tydi_tool.specs.Refusals.{Refusal}
use Rattle.tydi_tool.proofs.AskLemmas.{DecidedBy-told, Judges-either, Judges-refused, Judges-told}
use Rattle.tydi_tool.proofs.DriveLemmas.{runs-within, tells-one, tells-some}

-- ---- two steps, the second of which is the last

pub DecidedBy-told_twice : {V W : Type 0} (told : Option Files) (new : Option (List ℕ × ℕ)) (rose here : Type 0) (first : Result V Refusal) (second : V → Result W Refusal) (Tells : V → Answer → Type 0) (reply : Reply) →
    here → Judges (TellsOf first (λ v. TellsOf (second v) (λ w. Tells v))) reply → DecidedBy told new rose here (goes_on first (λ v. goes_on (second v) (λ w. Ends (Tells v)))) reply
DecidedBy-told_twice {V} {W} told new rose here (Ok v) second Tells reply at judges = DecidedBy-told {V = W} told new rose here (second v) (λ w. Tells v) reply at judges
DecidedBy-told_twice {V} {W} told new rose here (Err refusal) second Tells reply at judges = (judges, at)

-- ---- a text that is made, or want of memory

pub summary-said : {E : Type 0} (text : List ℕ) (result : Result (List ℕ) E) (reply : Reply) → IfOk result (λ t. t ≡ text)
    → MatchResult result (λ t. (reply ≡ replies.Says (output_answer t)) ⊎ (reply ≡ replies.Memory)) (λ _. reply ≡ replies.Memory) → (reply ≡ replies.Says (output_answer text)) ⊎ (reply ≡ replies.Memory)
summary-said text (Ok t) reply is says = subst (λ (l : List ℕ). (reply ≡ replies.Says (output_answer l)) ⊎ (reply ≡ replies.Memory)) is says
summary-said text (Err e) reply is memory = inr memory

-- ---- one answer, and some

module _ (split : PlainSplit) (seed count : ℕ) where
  pub job-one : (a b : Answer) → TellsJob split seed count a → TellsJob split seed count b → a ≡ b
  job-one a b p q = tells-one (text_of_job split (summary_of split seed count)) (λ text c. c ≡ output_answer text) a b (λ text x y. x ∙ sym y) p q

  pub job-some : HasSome Answer (TellsJob split seed count)
  job-some = tells-some (text_of_job split (summary_of split seed count)) (λ text c. c ≡ output_answer text) (λ text none. none (output_answer text) refl)

  -- ---- the code's answer

  pub job-told : (summary : Summary) (reply : Reply) → summary_of split seed count ≡ Ok summary → (reply ≡ replies.Says (output_answer (summary_text split summary))) ⊎ (reply ≡ replies.Memory)
      → Judges (TellsJob split seed count) reply
  job-told summary reply is said =
      Judges-told (text_of_job split (summary_of split seed count)) (λ text a. a ≡ output_answer text) (summary_text split summary) reply (ap (text_of_job split) is)
      (Judges-either (output_answer (summary_text split summary)) reply said)

  pub job-refused : (reason : Option NoJob) (reply : Reply) → MatchOption reason (Unit {0}) (λ one. summary_of split seed count ≡ Err one)
      → IsRefusedBy (option_map (refusal_of_job split) reason) reply → Judges (TellsJob split seed count) reply
  job-refused None reply why memory = subst (Judges (TellsJob split seed count)) (sym memory) tt
  job-refused (Some one) reply why refused =
      Judges-refused (text_of_job split (summary_of split seed count)) (λ text a. a ≡ output_answer text) reply
      (subst (λ (w : Result (List ℕ) Refusal). IsRefusedBy (refusal_in w) reply) (sym (ap (text_of_job split) why)) refused)

  -- ---- the stream that a reason names

  -- a job that is not summed up is not made
  pub job-unmade : (reason : NoJob) → summary_of split seed count ≡ Err reason → job_of split seed count ≡ Err reason
  job-unmade reason is = by (job_of split seed count) is
    where
      by : (made : Result Job NoJob) → (made >>= λ job. Ok (summary_of_trace split (job_value split seed count) (job_trace split job))) ≡ Err reason → made ≡ Err reason
      by (Ok job) is = cc
      by (Err one) is = ap Err (same is)
        where
          same : ◌≡◌ {A = Result Summary NoJob} (Err one) (Err reason) → one ≡ reason
          same e = cc

  names : (reason : NoJob) → summary_of split seed count ≡ Err reason → NamesStreamOf (length split.streams) reason
  names TooManyLeaves is = tt
  names TooManyCycles is = tt
  names (NotDriven reason) is =
      let within = runs-within split (job_value split seed count) 0 split.streams (job_plan split 0).streams reason (not-driven split seed count reason (job-unmade (NotDriven reason) is)) in
      omega (arith, within)

  pub job-names : (reason : Option NoJob) → MatchOption reason (Unit {0}) (λ one. summary_of split seed count ≡ Err one) → IfSome reason (NamesStreamOf (length split.streams))
  job-names None why = tt
  job-names (Some reason) why = names reason why
