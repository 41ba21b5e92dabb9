-- The first offence by two kinds of rule.
use Rattle.std.proofs.Common.{◌≡◌, inl, inr, ℕ, Bool, true, false, if◌then◌else◌, List, Option, None, Some, Result, Ok, Err, refl, arith}
use Rattle.std.proofs.lemmas.Bool.Decides.{nat_tests}
use Rattle.physical_stream.specs.Cycles.{StreamTrace}
use Rattle.physical_stream.specs.First.{Offence, IsNotAfter, IsFirst}
use Rattle.physical_stream.specs.declared.rule.Rule.{Rule}
use Rattle.cycle_trace.specs.Survey.{Answers, OffendsByEither, Surveys, UnfinishedStream, counts_of, earlier_of, first_unfinished, found_with, is_not_after, offence_fault, survey_of}
use Rattle.cycle_trace.specs.declared.surveying.counts.Counts.{Counts}
use Rattle.cycle_trace.specs.declared.surveying.counts.SurveyFault.{SurveyFault}
use Rattle.cycle_trace.specs.declared.surveying.counts.SurveyFault.TheVariants as faults

IsNotAfter-after : (a b c : Offence) → IsNotAfter a b → IsNotAfter b c → IsNotAfter a c
IsNotAfter-after a b c ab bc = grind arith

-- the meaning of the test
module _ (a b : Offence) where
  not_after : is_not_after a b ≡ true → IsNotAfter a b
  not_after is = grind (arith, nat_tests)

  is_after : is_not_after a b ≡ false → IsNotAfter b a
  is_after is = grind (arith, nat_tests)

module _ (One Other : Offence → Type 0) where
  -- the earlier of two first offences
  first-one : (a b : Offence) → IsFirst One (Some a) → IsFirst Other (Some b) → IsNotAfter a b → IsFirst (OffendsByEither One Other) (Some a)
  first-one a b one other before = (inl one.0, λ o offends. by_kind o offends)
    where
      by_kind : (o : Offence) → OffendsByEither One Other o → IsNotAfter a o
      by_kind o (inl here) = one.1 o here
      by_kind o (inr there) = IsNotAfter-after a b o before (other.1 o there)

  first-other : (a b : Offence) → IsFirst One (Some a) → IsFirst Other (Some b) → IsNotAfter b a → IsFirst (OffendsByEither One Other) (Some b)
  first-other a b one other before = (inr other.0, λ o offends. by_kind o offends)
    where
      by_kind : (o : Offence) → OffendsByEither One Other o → IsNotAfter b o
      by_kind o (inl here) = IsNotAfter-after b a o before (one.1 o here)
      by_kind o (inr there) = other.1 o there

  -- the first of both
  first-earlier : (a b : Offence) → IsFirst One (Some a) → IsFirst Other (Some b) → IsFirst (OffendsByEither One Other) (Some (earlier_of a b))
  first-earlier a b one other = by_test (is_not_after a b) refl
    where
      by_test : (test : Bool) → is_not_after a b ≡ test → IsFirst (OffendsByEither One Other) (Some (if test then a else b))
      by_test true is = first-one a b one other (not_after a b is)
      by_test false is = first-other a b one other (is_after a b is)

  first-alone : (b : Offence) → IsFirst One None → IsFirst Other (Some b) → IsFirst (OffendsByEither One Other) (Some b)
  first-alone b none other = (inr other.0, λ o offends. by_kind o offends)
    where
      by_kind : (o : Offence) → OffendsByEither One Other o → IsNotAfter b o
      by_kind o (inl here) = absurd (none o here)
      by_kind o (inr there) = other.1 o there

  first-none : (first : Option Offence) → IsFirst One first → IsFirst Other None → IsFirst (OffendsByEither One Other) first
  first-none None none other = λ o offends. by_kind o offends
    where
      by_kind : (o : Offence) → OffendsByEither One Other o → ⊥
      by_kind o (inl here) = none o here
      by_kind o (inr there) = other o there
  first-none (Some a) one other = (inl one.0, λ o offends. by_kind o offends)
    where
      by_kind : (o : Offence) → OffendsByEither One Other o → IsNotAfter a o
      by_kind o (inl here) = one.1 o here
      by_kind o (inr there) = absurd (other o there)

  module _ (streams : List StreamTrace) where
    surveys-none : (found : Result Counts SurveyFault) → Surveys One streams found → IsFirst Other None → Surveys (OffendsByEither One Other) streams found
    surveys-none found s other = record { first = s.first; is_first = first-none s.first s.is_first other; says = s.says }

    -- where no rule of the other kind is broken
    answers-none : (found : Result Counts SurveyFault) → Answers One streams found → IsFirst Other None → Answers (OffendsByEither One Other) streams found
    answers-none (Err faults.Memory) answers other = tt
    answers-none (Err (faults.Offence c s r)) answers other = surveys-none _ answers other
    answers-none (Err (faults.Unfinished s e)) answers other = surveys-none _ answers other
    answers-none (Ok counts) answers other = surveys-none _ answers other

    answers-offence : (first : Offence) → IsFirst (OffendsByEither One Other) (Some first) → Answers (OffendsByEither One Other) streams (offence_fault first)
    answers-offence first is = record { first = Some first; is_first = is; says = refl }

    -- an offence that is found is the first one
    found-first : (cycle stream : ℕ) (rule : Rule) → Answers One streams (Err (faults.Offence cycle stream rule)) → IsFirst One (Some (record { cycle = cycle; stream = stream; rule = rule }))
    found-first cycle stream rule s = by_first s.first s.is_first (first_unfinished 0 streams) s.says
      where
        by_first : (first : Option Offence) → IsFirst One first → (unfinished : Option UnfinishedStream) → ◌≡◌ {A = Result Counts SurveyFault} (Err (faults.Offence cycle stream rule)) (survey_of first unfinished (counts_of streams))
            → IsFirst One (Some (record { cycle = cycle; stream = stream; rule = rule }))
        by_first (Some o) is unfinished says =
            let same_cycle : cycle ≡ o.cycle = cc in
            let same_stream : stream ≡ o.stream = cc in
            let same_rule : rule ≡ o.rule = cc in
            rw (same_cycle, same_stream, same_rule) is
        by_first None is None says = absurd cc
        by_first None is (Some u) says = absurd cc

    -- where the survey finds no offence
    first-legal : (found : Result Counts SurveyFault) → Surveys One streams found → ((o : Offence) → found ≡ offence_fault o → ⊥) → IsFirst One None
    first-legal found s legal = by_first s.first s.is_first s.says
      where
        by_first : (first : Option Offence) → IsFirst One first → found ≡ survey_of first (first_unfinished 0 streams) (counts_of streams) → IsFirst One None
        by_first None is says = is
        by_first (Some o) is says = absurd (legal o says)

    -- the survey by both kinds of rule
    pub answers-with : (found : Result Counts SurveyFault) (other : Option Offence) → Answers One streams found → IsFirst Other other → Answers (OffendsByEither One Other) streams (found_with found other)
    answers-with found None answers none = answers-none found answers none
    answers-with (Err faults.Memory) (Some b) answers first = tt
    answers-with (Err (faults.Offence cycle stream rule)) (Some b) answers first =
        answers-offence (earlier_of (record { cycle = cycle; stream = stream; rule = rule }) b) (first-earlier (record { cycle = cycle; stream = stream; rule = rule }) b (found-first cycle stream rule answers) first)
    answers-with (Err (faults.Unfinished stream end)) (Some b) answers first = answers-offence b (first-alone b (first-legal (Err (faults.Unfinished stream end)) answers (λ o is. absurd cc)) first)
    answers-with (Ok counts) (Some b) answers first = answers-offence b (first-alone b (first-legal (Ok counts) answers (λ o is. absurd cc)) first)
