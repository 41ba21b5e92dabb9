-- The texts of a value and of a plan are read in one way, and always; and what is read fits the port.
use Rattle.std.proofs.Common.{◌≡◌, ℕ, ◌⊎◌, inl, inr, true, List, Option, Some, None, Result, Ok, Err, IfOk, refl, sym, ap, ◌∙◌, subst}
use Rattle.std.specs.Prelude.{MatchOption}
use Rattle.tydi_base.specs.declared.place.Place.{Place}
use Rattle.tydi_io.specs.Store.{Files}
use Rattle.logical_value.specs.Fits.{fits_split}
use Rattle.logical_value.specs.Tree.{plain_port}
use Rattle.logical_value.specs.declared.value.PortValue.{PortValue}
use Rattle.logical_value.specs.declared.value.Value.{Value}
use Rattle.plan_text.proofs.FitBlocks.{plan_of-fits}
use Rattle.plan_text.specs.Faults.{fault_in}
use Rattle.plan_text.specs.Laws.{FitsPort}
use Rattle.plan_text.specs.Text.{plan_of}
use Rattle.plan_text.specs.declared.fault.PlanFault.{PlanFault}
use Rattle.plan_text.specs.declared.fault.PlanFault.TheVariants as planning
use Rattle.plan_text.specs.declared.plan.Plan.{Plan}
use Rattle.type_split.specs.Streams.{PlainSplit}
use Rattle.value_text.proofs.FitLemmas.{read_values_fit}
use Rattle.value_text.specs.Grammar.{Text}
use Rattle.value_text.specs.Leaves.{most_leaves, surplus}
use Rattle.value_text.specs.Port.{fault_of, place_at, value_in}
use Rattle.value_text.specs.Reading.{HasNoForm, HasTooMany, IsFaulty, IsText, IsUnfit, IsValue}
use Rattle.value_text.specs.Stops.{syntax_place}
use Rattle.value_text.specs.Tokens.{tokens_of}
use Rattle.value_text.specs.declared.fault.ValueFault.{ValueFault}
use Rattle.value_text.specs.declared.fault.ValueFault.TheVariants as valuing
use Rattle.value_text.specs.declared.fault.Why.{Why}
use Rattle.value_text.specs.declared.fault.Why.TheVariants as whys
use Rattle.tydi_tool.specs.declared.answer.Reply.{Reply}
use Rattle.tydi_tool.specs.Ask.{IsAsked}
use Rattle.tydi_tool.specs.Laws.{HasSome, ReadsOnce}
use Rattle.tydi_tool.specs.Reading.{IsRefusedBy, ReadsAs, RefusesBy}
use Rattle.tydi_tool.specs.Refusals.{Refusal, refusal_line, refusal_of_plan, refusal_of_value}
use Rattle.tydi_tool.specs.Texts.{ReadsPlan, ReadsPlanned, ReadsValue}
use Rattle.tydi_tool.specs.Words.{FileWord}
use Rattle.tydi_tool.proofs.AnswerLemmas.{RefusesBy-line, not_read}
use Rattle.tydi_tool.proofs.PlanFaults.{plans_free}

-- ---- a reader's reply to a refusal

-- a text that is refused for an error that it has
pub refused-as : (X : Type 0) (refusal : Option Refusal) (reply : Reply) (Reads : Result X (List ℕ) → Type 0) → ((line : List ℕ) → RefusesBy {X = X} refusal (Err line) → Reads (Err line))
    → IsRefusedBy refusal reply → ReadsAs Reads (Err reply)
refused-as X (Some refusal) reply Reads reads (inl says) = subst (λ (r : Reply). ReadsAs Reads (Err r)) (sym says) (reads (refusal_line refusal) refl)
refused-as X (Some refusal) reply Reads reads (inr memory) = subst (λ (r : Reply). ReadsAs Reads (Err r)) (sym memory) tt
refused-as X None reply Reads reads memory = subst (λ (r : Reply). ReadsAs Reads (Err r)) (sym memory) tt

pub ReadsValue-refused : (word : List ℕ) (split : PlainSplit) (bytes : List ℕ) (fault : ValueFault) (reply : Reply) → IsFaulty split bytes fault → IsRefusedBy (refusal_of_value word fault) reply
    → ReadsAs (ReadsValue word split bytes) (Err reply)
ReadsValue-refused word split bytes fault reply faulty refused = refused-as PortValue (refusal_of_value word fault) reply (ReadsValue word split bytes) (λ line refuses. (fault, (faulty, refuses))) refused

-- an error with a refusal is no want of memory
some-plan : (word line : List ℕ) (fault : PlanFault) → RefusesBy {X = Plan} (refusal_of_plan word fault) (Err line) → fault_in fault ≡ Some fault
some-plan word line (planning.Syntax place) refuses = refl
some-plan word line (planning.UnknownStream place) refuses = refl
some-plan word line (planning.StreamTwice place) refuses = refl
some-plan word line (planning.ReadyLength place) refuses = refl
some-plan word line (planning.MaskTooWide place) refuses = refl
some-plan word line (planning.UserTooWide place) refuses = refl
some-plan word line (planning.TooManyCycles place) refuses = refl
some-plan word line planning.Memory refuses = absurd refuses

told-plan : (word : List ℕ) (split : PlainSplit) (bytes line : List ℕ) (fault : PlanFault) → MatchOption (fault_in fault) (Unit {0}) (λ f. plan_of split.streams bytes ≡ Err f)
    → RefusesBy {X = Plan} (refusal_of_plan word fault) (Err line) → ReadsPlan word split bytes (Err line)
told-plan word split bytes line fault told refuses =
    let read : plan_of split.streams bytes ≡ Err fault
    = subst (λ (o : Option PlanFault). MatchOption o (Unit {0}) (λ f. plan_of split.streams bytes ≡ Err f)) (some-plan word line fault refuses) told in
    subst (λ (r : Result Plan PlanFault). ReadsPlanned word r (Err line)) (sym read) refuses

pub ReadsPlan-refused : (word : List ℕ) (split : PlainSplit) (bytes : List ℕ) (fault : PlanFault) (reply : Reply) → MatchOption (fault_in fault) (Unit {0}) (λ f. plan_of split.streams bytes ≡ Err f)
    → IsRefusedBy (refusal_of_plan word fault) reply → ReadsAs (ReadsPlan word split bytes) (Err reply)
ReadsPlan-refused word split bytes fault reply told refused = refused-as Plan (refusal_of_plan word fault) reply (ReadsPlan word split bytes) (λ line refuses. told-plan word split bytes line fault told refuses) refused

pub ReadsPlan-read : (word : List ℕ) (split : PlainSplit) (bytes : List ℕ) (plan : Plan) → plan_of split.streams bytes ≡ Ok plan → ReadsPlan word split bytes (Ok plan)
ReadsPlan-read word split bytes plan read = subst (λ (r : Result Plan PlanFault). ReadsPlanned word r (Ok plan)) (sym read) refl

-- ---- a value is read in one way

value_with : List (List Value) → PortValue
value_with roots = record { roots = roots }

same_value : (x y : PortValue) → x.roots ≡ y.roots → x ≡ y
unfolding value_with
same_value x y is = ap value_with is

same_roots : (one other : List (List Value)) → ◌≡◌ {A = Result (List (List Value)) (Why × ℕ)} (Ok one) (Ok other) → one ≡ other
same_roots one other e = cc

no_value : (roots : List (List Value)) (why : Why × ℕ) → ◌≡◌ {A = Result (List (List Value)) (Why × ℕ)} (Ok roots) (Err why) → ⊥
no_value roots why e = cc

same_why : (one other : Why × ℕ) → ◌≡◌ {A = Result (List (List Value)) (Why × ℕ)} (Err one) (Err other) → one ≡ other
same_why one other e = cc

same_left : (one other : ℕ) → ◌≡◌ {A = Option ℕ} (Some one) (Some other) → one ≡ other
same_left one other e = cc

no_left : (left : ℕ) → ◌≡◌ {A = Option ℕ} None (Some left) → ⊥
no_left left e = cc

unfit_fault : List ℕ → Why × ℕ → ValueFault
unfit_fault bytes found = fault_of found.0 (place_at bytes found.1)

module _ (split : PlainSplit) (bytes : List ℕ) where
  -- an error of the form, of the number of leaves, or of a thing that does not fit
  OfForm : ValueFault → Type 0
  OfForm fault = (place : Place) × (HasNoForm bytes place × (fault ≡ valuing.Syntax place))

  OfLeaves : ValueFault → Type 0
  OfLeaves fault = (place : Place) × (HasTooMany bytes place × (fault ≡ valuing.TooManyLeaves place))

  OfThing : ValueFault → Type 0
  OfThing fault = (why : Why) × ((place : Place) × (IsUnfit split bytes why place × (fault ≡ fault_of why place)))

  kind_of : (fault : ValueFault) → (fault ≡ valuing.Memory → ⊥) → IsFaulty split bytes fault → OfForm fault ⊎ (OfLeaves fault ⊎ OfThing fault)
  unfolding OfForm OfLeaves OfThing
  kind_of (valuing.Syntax place) some is = inl (place, (is, refl))
  kind_of (valuing.WrongShape place) some is = inr (inr (whys.WrongShape, (place, (is, refl))))
  kind_of (valuing.UnknownField place) some is = inr (inr (whys.UnknownField, (place, (is, refl))))
  kind_of (valuing.OutOfRange place) some is = inr (inr (whys.OutOfRange, (place, (is, refl))))
  kind_of (valuing.TooManyLeaves place) some is = inr (inl (place, (is, refl)))
  kind_of valuing.Memory some is = absurd (some refl)

  one_kind : (f g : ValueFault) → OfForm f ⊎ (OfLeaves f ⊎ OfThing f) → OfForm g ⊎ (OfLeaves g ⊎ OfThing g) → f ≡ g
  unfolding OfForm OfLeaves OfThing unfit_fault
  one_kind f g (inl x) (inl y) = x.1.1 ∙ ap valuing.Syntax (x.1.0.at ∙ sym y.1.0.at) ∙ sym y.1.1
  one_kind f g (inl x) (inr (inl y)) = absurd (x.1.0.none y.1.0.form)
  one_kind f g (inl x) (inr (inr y)) = absurd (x.1.0.none y.1.1.0.well_formed.form)
  one_kind f g (inr (inl x)) (inl y) = absurd (y.1.0.none x.1.0.form)
  one_kind f g (inr (inr x)) (inl y) = absurd (y.1.0.none x.1.1.0.well_formed.form)
  one_kind f g (inr (inl x)) (inr (inl y)) =
      x.1.1 ∙ ap valuing.TooManyLeaves (x.1.0.at ∙ ap (place_at bytes) (same_left x.1.0.left y.1.0.left (sym x.1.0.one ∙ y.1.0.one)) ∙ sym y.1.0.at) ∙ sym y.1.1
  one_kind f g (inr (inl x)) (inr (inr y)) = absurd (no_left x.1.0.left (sym y.1.1.0.well_formed.few ∙ x.1.0.one))
  one_kind f g (inr (inr x)) (inr (inl y)) = absurd (no_left y.1.0.left (sym x.1.1.0.well_formed.few ∙ y.1.0.one))
  one_kind f g (inr (inr x)) (inr (inr y)) =
      let one : f ≡ unfit_fault bytes (x.0, x.1.1.0.left) = x.1.1.1 ∙ ap (fault_of x.0) x.1.1.0.at in
      let other : g ≡ unfit_fault bytes (y.0, y.1.1.0.left) = y.1.1.1 ∙ ap (fault_of y.0) y.1.1.0.at in
      one ∙ ap (unfit_fault bytes) (same_why (x.0, x.1.1.0.left) (y.0, y.1.1.0.left) (sym x.1.1.0.first ∙ y.1.1.0.first)) ∙ sym other

  no_fault : (value : PortValue) (fault : ValueFault) → IsValue split bytes value → OfForm fault ⊎ (OfLeaves fault ⊎ OfThing fault) → ⊥
  unfolding OfForm OfLeaves OfThing
  no_fault value fault is (inl x) = x.1.0.none is.well_formed.form
  no_fault value fault is (inr (inl x)) = no_left x.1.0.left (sym is.well_formed.few ∙ x.1.0.one)
  no_fault value fault is (inr (inr x)) = no_value value.roots (x.0, x.1.1.0.left) (sym is.is ∙ x.1.1.0.first)

some_value : (word line : List ℕ) (fault : ValueFault) → RefusesBy {X = PortValue} (refusal_of_value word fault) (Err line) → fault ≡ valuing.Memory → ⊥
some_value word line fault refuses memory = subst (λ (f : ValueFault). RefusesBy {X = PortValue} (refusal_of_value word f) (Err line)) memory refuses

pub ReadsValue-once : (word : List ℕ) (split : PlainSplit) → ReadsOnce (ReadsValue word split)
ReadsValue-once word split = record {
  same = λ bytes x y p q. same_value x y (same_roots x.roots y.roots (sym p.is ∙ q.is));
  apart = λ bytes x line p q. no_fault split bytes x q.0 p (kind_of split bytes q.0 (some_value word line q.0 q.1.1) q.1.0);
  lines = λ bytes one other p q.
      let same : q.0 ≡ p.0 = one_kind split bytes q.0 p.0 (kind_of split bytes q.0 (some_value word other q.0 q.1.1) q.1.0) (kind_of split bytes p.0 (some_value word one p.0 p.1.1) p.1.0) in
      RefusesBy-line PortValue (refusal_of_value word p.0) one other p.1.1 (subst (λ (f : ValueFault). RefusesBy {X = PortValue} (refusal_of_value word f) (Err other)) same q.1.1);
}

-- ---- a value is read always

pub ReadsValue-some : (word : List ℕ) (split : PlainSplit) (bytes : List ℕ) → HasSome (Result PortValue (List ℕ)) (ReadsValue word split bytes)
ReadsValue-some word split bytes none = no_form (λ form. by_leaves form (surplus most_leaves (tokens_of bytes)) refl)
  where
    no_form : (Text (tokens_of bytes) → ⊥) → ⊥
    no_form other = none (Err _) (valuing.Syntax (syntax_place bytes), (record { none = other; at = refl }, refl))

    unfit : (why : Why) (left : ℕ) → IsUnfit split bytes why (place_at bytes left) → ⊥
    unfit whys.WrongShape left is = none (Err _) (valuing.WrongShape (place_at bytes left), (is, refl))
    unfit whys.UnknownField left is = none (Err _) (valuing.UnknownField (place_at bytes left), (is, refl))
    unfit whys.OutOfRange left is = none (Err _) (valuing.OutOfRange (place_at bytes left), (is, refl))

    by_value : IsText bytes → (read : Result (List (List Value)) (Why × ℕ)) → value_in split (tokens_of bytes) ≡ read → ⊥
    by_value text (Ok roots) is = none (Ok (record { roots = roots })) (record { well_formed = text; is = is })
    by_value text (Err found) is = unfit found.0 found.1 (record { well_formed = text; left = found.1; first = is; at = refl })

    by_leaves : Text (tokens_of bytes) → (over : Option ℕ) → surplus most_leaves (tokens_of bytes) ≡ over → ⊥
    by_leaves form (Some left) is = none (Err _) (valuing.TooManyLeaves (place_at bytes left), (record { form = form; left = left; one = is; at = refl }, refl))
    by_leaves form None is = by_value (record { form = form; few = is }) (value_in split (tokens_of bytes)) refl

-- ---- a plan

same_plan : (x y : Plan) → ◌≡◌ {A = Result Plan (List ℕ)} (Ok x) (Ok y) → x ≡ y
same_plan x y e = cc

no_plan : (x : Plan) (line : List ℕ) → ◌≡◌ {A = Result Plan (List ℕ)} (Ok x) (Err line) → ⊥
no_plan x line e = cc

module _ (word : List ℕ) where
  plan-same : (read : Result Plan PlanFault) (x y : Plan) → ReadsPlanned word read (Ok x) → ReadsPlanned word read (Ok y) → x ≡ y
  plan-same (Ok plan) x y p q = same_plan x y (p ∙ sym q)
  plan-same (Err fault) x y p q = absurd (not_read (refusal_of_plan word fault) x p)

  plan-apart : (read : Result Plan PlanFault) (x : Plan) (line : List ℕ) → ReadsPlanned word read (Ok x) → ReadsPlanned word read (Err line) → ⊥
  plan-apart (Ok plan) x line p q = no_plan x line (p ∙ sym q)
  plan-apart (Err fault) x line p q = not_read (refusal_of_plan word fault) x p

  plan-lines : (read : Result Plan PlanFault) (one other : List ℕ) → ReadsPlanned word read (Err one) → ReadsPlanned word read (Err other) → one ≡ other
  plan-lines (Ok plan) one other p q = absurd (no_plan plan one (sym p))
  plan-lines (Err fault) one other p q = RefusesBy-line Plan (refusal_of_plan word fault) one other p q

  plan-some : (split : PlainSplit) (bytes : List ℕ) (read : Result Plan PlanFault) → plan_of split.streams bytes ≡ read → HasSome (Result Plan (List ℕ)) (ReadsPlanned word read)
  plan-some split bytes (Ok plan) is none = none (Ok plan) refl
  plan-some split bytes (Err (planning.Syntax place)) is none = none (Err _) refl
  plan-some split bytes (Err (planning.UnknownStream place)) is none = none (Err _) refl
  plan-some split bytes (Err (planning.StreamTwice place)) is none = none (Err _) refl
  plan-some split bytes (Err (planning.ReadyLength place)) is none = none (Err _) refl
  plan-some split bytes (Err (planning.MaskTooWide place)) is none = none (Err _) refl
  plan-some split bytes (Err (planning.UserTooWide place)) is none = none (Err _) refl
  plan-some split bytes (Err (planning.TooManyCycles place)) is none = none (Err _) refl
  plan-some split bytes (Err planning.Memory) is none = plans_free split.streams bytes is

pub ReadsPlan-once : (word : List ℕ) (split : PlainSplit) → ReadsOnce (ReadsPlan word split)
ReadsPlan-once word split = record {
  same = λ bytes x y p q. plan-same word (plan_of split.streams bytes) x y p q;
  apart = λ bytes x line p q. plan-apart word (plan_of split.streams bytes) x line p q;
  lines = λ bytes one other p q. plan-lines word (plan_of split.streams bytes) one other p q;
}

pub ReadsPlan-some : (word : List ℕ) (split : PlainSplit) (bytes : List ℕ) → HasSome (Result Plan (List ℕ)) (ReadsPlan word split bytes)
ReadsPlan-some word split bytes = plan-some word split bytes (plan_of split.streams bytes) refl

-- the plan that is read of a text
pub plan-read : (word : List ℕ) (split : PlainSplit) (bytes : List ℕ) (plan : Plan) → ReadsPlan word split bytes (Ok plan) → plan_of split.streams bytes ≡ Ok plan
plan-read word split bytes plan reads = by (plan_of split.streams bytes) refl reads
  where
    by : (read : Result Plan PlanFault) → plan_of split.streams bytes ≡ read → ReadsPlanned word read (Ok plan) → plan_of split.streams bytes ≡ Ok plan
    by (Ok found) is reads = is ∙ sym (ap (λ (p : Plan). Ok p) (same_plan plan found reads))
    by (Err fault) is reads = absurd (not_read (refusal_of_plan word fault) plan reads)

-- ---- what was asked for fits the port

pub asked-value : (told : Option Files) (file : FileWord) (word : List ℕ) (split : PlainSplit) (old new : Option (List ℕ × ℕ)) (rose : Type 0) (result : Result PortValue Reply)
    → IsAsked told file (ReadsValue word split) old new rose result → IfOk result (λ value. fits_split split (plain_port value) ≡ true)
asked-value told file word split old new rose (Ok value) asked = read_values_fit split asked.0 value asked.1.1.0
asked-value told file word split old new rose (Err reply) asked = tt

pub asked-plan : (told : Option Files) (file : FileWord) (word : List ℕ) (split : PlainSplit) (old new : Option (List ℕ × ℕ)) (rose : Type 0) (result : Result Plan Reply)
    → IsAsked told file (ReadsPlan word split) old new rose result → IfOk result (FitsPort split.streams)
asked-plan told file word split old new rose (Ok plan) asked = plan_of-fits split.streams asked.0 plan (plan-read word split asked.0 plan asked.1.1.0)
asked-plan told file word split old new rose (Err reply) asked = tt

-- so does what a reader gives
pub read-value-fits : (word : List ℕ) (split : PlainSplit) (bytes : List ℕ) (result : Result PortValue Reply) → ReadsAs (ReadsValue word split bytes) result
    → IfOk result (λ value. fits_split split (plain_port value) ≡ true)
read-value-fits word split bytes (Ok value) reads = read_values_fit split bytes value reads
read-value-fits word split bytes (Err reply) reads = tt

pub read-plan-fits : (word : List ℕ) (split : PlainSplit) (bytes : List ℕ) (result : Result Plan Reply) → ReadsAs (ReadsPlan word split bytes) result → IfOk result (FitsPort split.streams)
read-plan-fits word split bytes (Ok plan) reads = plan_of-fits split.streams bytes plan (plan-read word split bytes plan reads)
read-plan-fits word split bytes (Err reply) reads = tt
