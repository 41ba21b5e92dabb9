-- The files of a command that ends with a value and a plan, and the answers of `drive` and of `bench`.
use Rattle.std.proofs.Common.{◌≡◌, ℕ, suc, ◌+◌, ◌<◌, ◌≤◌, ◌⊎◌, Bool, true, false, cond, ◌==◌, List, [], ◌∷◌, length, Option, Some, None, IfSome, option_map, Result, Ok, Err, refl, sym, ap, ◌∙◌, subst, arith}
use Rattle.std.specs.Prelude.{MatchOption}
use Rattle.tydi_base.specs.Reading.{◌>>=◌}
use Rattle.handshake.specs.Rows.{StreamRun}
use Rattle.logical_value.specs.Tree.{Tree}
use Rattle.logical_value.specs.declared.value.PortValue.{PortValue}
use Rattle.plan_text.specs.declared.plan.Plan.{Plan}
use Rattle.plan_text.specs.declared.plan.StreamPlan.{StreamPlan}
use Rattle.physical_stream.specs.Params.{Parameters}
use Rattle.physical_stream.specs.declared.item.Item.{Item}
use Rattle.port_drive.specs.Drives.{CountNotMultiple, NotFinished, Undriven, drive_of, finished_from, is_multiple, items_on, left_of, planned_run, run_unless, runs_from, runs_of}
use Rattle.port_drive.specs.Faults.{reason_in}
use Rattle.port_drive.specs.declared.fault.DriveFault.{DriveFault}
use Rattle.type_split.specs.Carried.{uncarried_of}
use Rattle.type_split.specs.Streams.{PlainSplit}
use Rattle.type_split.specs.declared.split.Phys.{Phys}
use Rattle.tydi_tool.specs.declared.answer.Answer.{Answer}
use Rattle.tydi_tool.specs.declared.answer.Answer.TheVariants as answers
use Rattle.tydi_tool.specs.declared.answer.Reply.{Reply}
use Rattle.tydi_tool.specs.declared.answer.Reply.TheVariants as replies
use Rattle.tydi_tool.specs.Ask.{AsksFor, Judges, TellsOf}
use Rattle.tydi_tool.specs.Commands.{planned_ask}
use Rattle.tydi_tool.specs.Drives.{TellsMade, carried, carried_unless, refusal_of_driving, refused_by, stream_of}
use Rattle.tydi_tool.specs.Laws.{AsksAlways, AsksOnce, HasSome}
use Rattle.tydi_tool.specs.Outcome.{output_answer}
use Rattle.tydi_tool.specs.Reading.{IsRefusedBy, refusal_in}
use Rattle.tydi_tool.specs.Refusals.{Refusal, no_carrier, refusal_line}
use Rattle.tydi_tool.specs.Words.{text_file}
use Rattle.tydi_tool.proofs.AskLemmas.{Judges-either, Judges-refused, Judges-told}
use Rattle.tydi_tool.proofs.TextLemmas.{ReadsPlan-once, ReadsPlan-some, ReadsValue-once, ReadsValue-some}

-- ---- a step that is the last

pub tells-one : {V : Type 0} (wanted : Result V Refusal) (Tells : V → Answer → Type 0) (a b : Answer) → ((v : V) → Tells v a → Tells v b → a ≡ b) → TellsOf wanted Tells a → TellsOf wanted Tells b → a ≡ b
tells-one (Ok v) Tells a b one p q = one v p q
tells-one (Err refusal) Tells a b one p q = p ∙ sym q

pub tells-some : {V : Type 0} (wanted : Result V Refusal) (Tells : V → Answer → Type 0) → ((v : V) → HasSome Answer (Tells v)) → HasSome Answer (TellsOf wanted Tells)
tells-some (Ok v) Tells some = some v
tells-some (Err refusal) Tells some = λ none. none (answers.Refused (refusal_line refusal)) refl

-- ---- a command that ends with a value and a plan

module _ (value plan : List ℕ) (split : PlainSplit) (Tells : PortValue → Plan → Answer → Type 0) where
  pub planned-once : ((v : PortValue) (p : Plan) (a b : Answer) → Tells v p a → Tells v p b → a ≡ b) → AsksOnce (planned_ask value plan split Tells)
  planned-once one = (ReadsValue-once value split, λ bytes v reads. (ReadsPlan-once plan split, λ bytes' p reads' a b x y. one v p a b x y))

  pub planned-always : ((v : PortValue) (p : Plan) → HasSome Answer (Tells v p)) → AsksAlways (planned_ask value plan split Tells)
  planned-always some = (ReadsValue-some value split, λ bytes v reads. (ReadsPlan-some plan split, λ bytes' p reads'. some v p))

  pub planned-for : AsksFor (text_file value ∷ text_file plan ∷ []) (planned_ask value plan split Tells)
  planned-for = (refl, λ v. (refl, λ p. tt))

module _ (split : PlainSplit) (made : Result (List ℕ) Undriven) where
  pub made-one : (a b : Answer) → TellsMade split made a → TellsMade split made b → a ≡ b
  made-one a b p q = tells-one (refused_by split made) (λ text c. c ≡ output_answer text) a b (λ text x y. x ∙ sym y) p q

  pub made-some : HasSome Answer (TellsMade split made)
  made-some = tells-some (refused_by split made) (λ text c. c ≡ output_answer text) (λ text none. none (output_answer text) refl)

-- ---- the streams that reasons name

same_reason : {A : Type 0} (r s : Undriven) → ◌≡◌ {A = Result A Undriven} (Err r) (Err s) → r ≡ s
same_reason {A} r s e = cc

same_made : (one other : List StreamRun) → ◌≡◌ {A = Result (List StreamRun) Undriven} (Ok one) (Ok other) → one ≡ other
same_made one other e = cc

no_reason : {A : Type 0} (x : A) (r : Undriven) → ◌≡◌ {A = Result A Undriven} (Ok x) (Err r) → ⊥
no_reason {A} x r e = cc

-- the first run and those after it
joined : Result StreamRun Undriven → Result (List StreamRun) Undriven → Result (List StreamRun) Undriven
joined first rest = first >>= λ run. rest >>= λ runs. Ok (run ∷ runs)

joined-within : (number n : ℕ) (first : Result StreamRun Undriven) (rest : Result (List StreamRun) Undriven) (reason : Undriven) → ((r : Undriven) → first ≡ Err r → stream_of r ≡ number)
    → ((r : Undriven) → rest ≡ Err r → stream_of r < suc number + n) → joined first rest ≡ Err reason → stream_of reason < number + suc n
unfolding joined
joined-within number n (Err r) rest reason one more is = let at = one r refl in let same = ap stream_of (same_reason {A = List StreamRun} r reason is) in omega (arith, at, same)
joined-within number n (Ok run) (Err r) reason one more is = let at = more r refl in let same = ap stream_of (same_reason {A = List StreamRun} r reason is) in omega (arith, at, same)
joined-within number n (Ok run) (Ok runs) reason one more is = absurd (no_reason (run ∷ runs) reason is)

joined-few : (n : ℕ) (first : Result StreamRun Undriven) (rest : Result (List StreamRun) Undriven) (runs : List StreamRun) → ((more : List StreamRun) → rest ≡ Ok more → length more ≤ n)
    → joined first rest ≡ Ok runs → length runs ≤ suc n
unfolding joined
joined-few n (Err r) rest runs few is = absurd (no_reason runs r (sym is))
joined-few n (Ok run) (Err r) runs few is = absurd (no_reason runs r (sym is))
joined-few n (Ok run) (Ok more) runs few is = let one = few more refl in let same = ap length (same_made (run ∷ more) runs is) in omega (arith, one, same)

run-within : (number : ℕ) (p : Parameters) (items : List Item) (plan : StreamPlan) (reason : Undriven) → run_unless number p items plan ≡ Err reason → stream_of reason ≡ number
run-within number p items plan reason is = by (is_multiple p items) is
  where
    by : (multiple : Bool) → ◌≡◌ {A = Result StreamRun Undriven} (cond multiple (Ok (planned_run p items plan)) (Err (CountNotMultiple number (length items) p.lanes))) (Err reason) → stream_of reason ≡ number
    by true is = absurd (no_reason (planned_run p items plan) reason is)
    by false is = sym (ap stream_of (same_reason {A = StreamRun} (CountNotMultiple number (length items) p.lanes) reason is))

module _ (split : PlainSplit) (value : List (List Tree)) where
  pub runs-within : (number : ℕ) (streams : List Phys) (plans : List StreamPlan) (reason : Undriven) → runs_from split value number streams plans ≡ Err reason → stream_of reason < number + length streams
  unfolding joined
  runs-within number [] plans reason is = absurd (no_reason [] reason is)
  runs-within number (stream ∷ streams) [] reason is = absurd (no_reason [] reason is)
  runs-within number (stream ∷ streams) (plan ∷ plans) reason is =
      joined-within number (length streams) (run_unless number stream.params (items_on split value number stream) plan) (runs_from split value (suc number) streams plans) reason
      (λ r e. run-within number stream.params (items_on split value number stream) plan r e) (λ r e. runs-within (suc number) streams plans r e) is

  runs-few : (number : ℕ) (streams : List Phys) (plans : List StreamPlan) (runs : List StreamRun) → runs_from split value number streams plans ≡ Ok runs → length runs ≤ length streams
  unfolding joined
  runs-few number [] plans runs is = let same = ap length (same_made [] runs is) in omega (arith, same)
  runs-few number (stream ∷ streams) [] runs is = let same = ap length (same_made [] runs is) in omega (arith, same)
  runs-few number (stream ∷ streams) (plan ∷ plans) runs is =
      joined-few (length streams) (run_unless number stream.params (items_on split value number stream) plan) (runs_from split value (suc number) streams plans) runs
      (λ more e. runs-few (suc number) streams plans more e) is

finished-within : (number : ℕ) (all runs : List StreamRun) (reason : Undriven) → finished_from number all runs ≡ Err reason → stream_of reason < number + length runs
finished-within number all [] reason is = absurd (no_reason all reason is)
finished-within number all (run ∷ runs) reason is = by (left_of run == 0) (λ e. finished-within (suc number) all runs reason e) is
  where
    last : NotFinished number (left_of run) ≡ reason → stream_of reason < number + length (run ∷ runs)
    last same = let at = ap stream_of same in omega (arith, at)

    by : (done : Bool) → (finished_from (suc number) all runs ≡ Err reason → stream_of reason < suc number + length runs)
        → ◌≡◌ {A = Result (List StreamRun) Undriven} (cond done (finished_from (suc number) all runs) (Err (NotFinished number (left_of run)))) (Err reason) → stream_of reason < number + length (run ∷ runs)
    by true more is = let later = more is in omega (arith, later)
    by false more is = last (same_reason {A = List StreamRun} (NotFinished number (left_of run)) reason is)

drive-within : (split : PlainSplit) (value : List (List Tree)) (plans : List StreamPlan) (reason : Undriven) → drive_of split value plans ≡ Err reason → stream_of reason < length split.streams
drive-within split value plans reason is = by (runs_of split value plans) refl is
  where
    by : (made : Result (List StreamRun) Undriven) → runs_of split value plans ≡ made → (made >>= λ runs. finished_from 0 runs runs) ≡ Err reason → stream_of reason < length split.streams
    by (Ok runs) made rest = let one = finished-within 0 runs runs reason rest in let few = runs-few split value 0 split.streams plans runs made in omega (arith, one, few)
    by (Err r) made rest =
        let one = runs-within split value 0 split.streams plans r made in let same = ap stream_of (same_reason {A = List StreamRun} r reason rest) in omega (arith, one, same)

-- so does that of a text that the runs make
module _ (split : PlainSplit) (value : List (List Tree)) (plan : Plan) (write : List StreamRun → List ℕ) where
  -- the text, or the reason why the port is not driven
  abbrev pub Made : Result (List ℕ) Undriven
  Made = drive_of split value plan.streams >>= λ runs. Ok (write runs)

  made-within : (reason : Undriven) → Made ≡ Err reason → stream_of reason < length split.streams
  made-within reason is = by (drive_of split value plan.streams) refl is
    where
      by : (made : Result (List StreamRun) Undriven) → drive_of split value plan.streams ≡ made → (made >>= λ runs. Ok (write runs)) ≡ Err reason → stream_of reason < length split.streams
      by (Ok runs) made rest = absurd (no_reason (write runs) reason rest)
      by (Err r) made rest =
          let one = drive-within split value plan.streams r made in let same = ap stream_of (same_reason {A = List ℕ} r reason rest) in omega (arith, one, same)

  pub undriven-within : (fault : DriveFault) → MatchOption (reason_in fault) (Unit {0}) (λ r. Made ≡ Err r) → IfSome (reason_in fault) (λ reason. stream_of reason < length split.streams)
  undriven-within fault told = by (reason_in fault) told
    where
      by : (reason : Option Undriven) → MatchOption reason (Unit {0}) (λ r. Made ≡ Err r) → IfSome reason (λ r. stream_of r < length split.streams)
      by (Some r) told = made-within r told
      by None told = tt

-- ---- the answers of `drive` and of `bench`

module _ (split : PlainSplit) (made : Result (List ℕ) Undriven) (reply : Reply) where
  pub made-told : (text : List ℕ) → made ≡ Ok text → (reply ≡ replies.Says (output_answer text)) ⊎ (reply ≡ replies.Memory) → Judges (TellsMade split made) reply
  made-told text is said =
      Judges-told (refused_by split made) (λ t a. a ≡ output_answer t) text reply (ap (refused_by split) is) (Judges-either (output_answer text) reply said)

  pub made-refused : (fault : DriveFault) → MatchOption (reason_in fault) (Unit {0}) (λ r. made ≡ Err r) → IsRefusedBy (option_map (refusal_of_driving split) (reason_in fault)) reply
      → Judges (TellsMade split made) reply
  made-refused fault told refused = by (reason_in fault) told refused
    where
      told-refusal : (refusal : Refusal) → refused_by split made ≡ Err refusal → IsRefusedBy (Some refusal) reply → Judges (TellsMade split made) reply
      told-refusal refusal is refused =
          Judges-refused (refused_by split made) (λ t a. a ≡ output_answer t) reply (subst (λ (w : Result (List ℕ) Refusal). IsRefusedBy (refusal_in w) reply) (sym is) refused)

      by : (reason : Option Undriven) → MatchOption reason (Unit {0}) (λ r. made ≡ Err r) → IsRefusedBy (option_map (refusal_of_driving split) reason) reply → Judges (TellsMade split made) reply
      by (Some r) told refused = told-refusal (refusal_of_driving split r) (ap (refused_by split) told) refused
      by None told memory = subst (Judges (TellsMade split made)) (sym memory) tt

-- ---- nodes that are not carried

pub not-carried : (split : PlainSplit) (path : List (List ℕ)) (reply : Reply) → Some path ≡ uncarried_of split → IsRefusedBy (Some (no_carrier path)) reply → IsRefusedBy (refusal_in (carried split)) reply
not-carried split path reply is refused = subst (λ (found : Option (List (List ℕ))). IsRefusedBy (refusal_in (carried_unless found)) reply) is refused

pub all-carried : (split : PlainSplit) → None ≡ uncarried_of split → carried split ≡ Ok tt
all-carried split is = sym (ap carried_unless is)
