-- A loop of rules is a rule.
use Rattle.std.proofs.Common.{◌≡◌, ℕ, zero, suc, ◌<◌, inl, inr, ⊎_elim, List, [], ◌++◌, All, length, refl, sym, ap, ◌∙◌, subst, arith}
use Rattle.std.proofs.lemmas.List.{append-nil, length-append}
use Rattle.std.proofs.lemmas.List.Elements.{All-nil}
use Rattle.tydi_reading.specs.declared.fault.Fault.{Fault}
use Rattle.tydi_reading.specs.Forms.{Form, Never, GoesOn, Runs, Loop, RunsTo, LoopTo}
use Rattle.tydi_reading.specs.Reading.{Outcome, took, stopped, Reader, and_then, ◌>>=◌, Turn, again, done, turned, loop}
use Rattle.tydi_reading.specs.Rules.{Local, Found, Reached, Finishes, Stops, IsRule}
use Rattle.tydi_reading.proofs.LoopLemmas.{Advances, loop_unfolds}
use Rattle.tydi_reading.proofs.StepLemmas.{All-front, All-back, local-then, local-same, sound-then, finishes-then, complete-then, stops-first, stops-second}
use Rattle.tydi_reading.proofs.StepRules.{Only}

-- the turns of a loop are rules that may stand one after another
pub record Turns {E T S : Type 0} (Good : T → Type 0) (turn : S → Reader E T (Turn S)) (Spelled : S → Turn S → Form T) (Follow : S → Turn S → Form T)
    (Inside : S → Turn S → Type 0) (Unfit : S → Form T) (Next : S → Form T) (Within : S → Type 0) : Type 0 where
  pub rule : (s : S) → IsRule E Good (turn s) (Spelled s) (Follow s) (Inside s) (Unfit s)
  pub filled : (s next : S) (front : List T) → Spelled s (again next) front → 0 < length front
  pub closes : (s : S) → GoesOn Good (Loop Spelled s) []
  pub ends : (s end : S) (front rest : List T) → Spelled s (done end) front → Next end rest → Follow s (done end) rest
  pub goes : (s next end : S) (front back rest : List T) → Spelled s (again next) front → Loop Spelled next end back → Next end rest
      → Follow s (again next) (back ++ rest)
  pub goes_unfit : (s next : S) (front back rest : List T) → Spelled s (again next) front → LoopTo Spelled Unfit next back
      → Follow s (again next) (back ++ rest)
  pub within_again : (s next : S) (front : List T) → Spelled s (again next) front → Inside s (again next) → Within s → Within next
  pub within_done : (s end : S) (front : List T) → Spelled s (done end) front → Inside s (done end) → Within s → Within end
  pub apart_again : (s next : S) (front : List T) → Spelled s (again next) front → Within next → Inside s (again next) × Within s
  pub apart_done : (s end : S) (front : List T) → Spelled s (done end) front → Within end → Inside s (done end) × Within s

module _ {E T S : Type 0} (Good : T → Type 0) (turn : S → Reader E T (Turn S)) (Spelled : S → Turn S → Form T) (Follow : S → Turn S → Form T)
    (Inside : S → Turn S → Type 0) (Unfit : S → Form T) (Next : S → Form T) (Within : S → Type 0)
    (turns : Turns Good turn Spelled Follow Inside Unfit Next Within) where
  pub turns-advance : Advances turn
  turns-advance = record {
    less = λ s ts rest next is.
        let f = (turns.rule s).sound ts rest (again next) is in
        let some = turns.filled s next f.front f.spelled in
        let whole = ap length f.split ∙ length-append f.front rest in
        omega arith;
  }

  unfolds : (s : S) (ts : List T) → loop turn s ts ≡ and_then (turn s ts) (turned (loop turn))
  unfolds s ts = loop_unfolds turn turns-advance s ts

  -- the form after a turn, up to the end of the loop
  abbrev More : Turn S → S → Form T
  More (again next) end = Loop Spelled next end
  More (done x) end = Only x end

  abbrev Last : Turn S → Form T
  Last (again next) = LoopTo Spelled Unfit next
  Last (done x) = Never

  join : (s : S) (t : Turn S) (end : S) (front back : List T) → Spelled s t front → More t end back → Loop Spelled s end (front ++ back)
  join s (again next) end front back spelled more = (suc more.0, inr (next, record { front = front; back = back; all = refl; begins = spelled; ends = more.1 }))
  join s (done x) end front back spelled more =
      let at_end = subst (λ y. Spelled s (done y) front) (sym more.0) spelled in
      (1, inl (subst (Spelled s (done end)) (sym (ap (λ l. front ++ l) more.1 ∙ append-nil front)) at_end))

  join_unfit : (s : S) (t : Turn S) (front back : List T) → Spelled s t front → Last t back → LoopTo Spelled Unfit s (front ++ back)
  join_unfit s (again next) front back spelled last = (suc last.0, inr (next, record { front = front; back = back; all = refl; begins = spelled; ends = last.1 }))
  join_unfit s (done x) front back spelled last = absurd last

  shorter : (n : ℕ) (s next : S) (ts rest : List T) → length ts < suc n → turn s ts ≡ took (again next) rest → length rest < n
  shorter n s next ts rest few is = let less = turns-advance.less s ts rest next is in omega arith

  local-loop : (n : ℕ) (s : S) (ts : List T) → length ts < n → Local (loop turn s) ts (loop turn s ts)
  local-loop zero s ts few = absurd (omega arith)
  local-loop (suc n) s ts few =
      local-same (turn s >>= turned (loop turn)) (loop turn s) ts (λ us. sym (unfolds s us))
      (local-then (turn s) (turned (loop turn)) ts (turn s ts) ((turns.rule s).local ts) (of_turn (λ next rest less. local-loop n next rest less)))
    where
      of_turn : ((next : S) (rest : List T) → length rest < n → Local (loop turn next) rest (loop turn next rest))
          → (t : Turn S) (rest : List T) → turn s ts ≡ took t rest → Local (turned (loop turn) t) rest (turned (loop turn) t rest)
      of_turn more (again next) rest is = more next rest (shorter n s next ts rest few is)
      of_turn more (done x) rest is = record { front = []; split = refl; stays = λ next after other _. refl }

  took-both : (x y : S) (ts rest : List T) → ◌≡◌ {A = Outcome E T S} (took x ts) (took y rest) → (x ≡ y) × (ts ≡ rest)
  took-both x y ts rest is = (cc, cc)

  sound-loop : (n : ℕ) (s : S) → Within s → (ts : List T) → length ts < n → (rest : List T) (end : S) → loop turn s ts ≡ took end rest
      → Found (Loop Spelled s) Within ts rest end
  sound-loop zero s within ts few rest end is = absurd (omega arith)
  sound-loop (suc n) s within ts few rest end is =
      sound-then (Spelled s) More (Loop Spelled s) (join s) (Inside s) (λ t. Within) Within (λ t y back m i w. w) (turned (loop turn)) ts (turn s ts)
      (λ rest t made. (turns.rule s).sound ts rest t made)
      (λ middle rest t y made. of_turn (λ next w rest less. sound-loop n next w rest less) middle rest t y made) rest end (sym (unfolds s ts) ∙ is)
    where
      of_turn : ((next : S) → Within next → (us : List T) → length us < n → (rest : List T) (end : S) → loop turn next us ≡ took end rest
          → Found (Loop Spelled next) Within us rest end)
          → (middle rest : List T) (t : Turn S) (y : S) → turn s ts ≡ took t middle → turned (loop turn) t middle ≡ took y rest → Found (More t) Within middle rest y
      of_turn more middle rest (again next) y made other =
          let found = (turns.rule s).sound ts middle (again next) made in
          more next (turns.within_again s next found.front found.spelled found.within within) middle (shorter n s next ts middle few made) rest y other
      of_turn more middle rest (done x) y made other =
          let found = (turns.rule s).sound ts middle (done x) made in
          let both = took-both x y middle rest other in
          record { front = []; split = both.1; spelled = (sym both.0, refl); within = subst Within both.0 (turns.within_done s x found.front found.spelled found.within within) }

  runs-within : (k : ℕ) (s end : S) (ts : List T) → Runs Spelled k s end ts → Within end → Within s
  runs-within zero s end ts runs within = absurd runs
  runs-within (suc k) s end ts runs within =
      ⊎_elim
      (λ last. (turns.apart_done s end ts last within).1)
      (λ more. (turns.apart_again s more.0 more.1.front more.1.begins (runs-within k more.0 end more.1.back more.1.ends within)).1)
      runs

  at_done : (s end : S) (front rest : List T) → Spelled s (done end) front → Reached (Inside s) rest (done end) (turn s (front ++ rest))
      → Reached Within rest end (loop turn s (front ++ rest))
  at_done s end front rest last =
      ⊎_elim
      (λ is. inl (unfolds s (front ++ rest) ∙ ap (λ o. and_then o (turned (loop turn))) is))
      (λ far. inr (record {
        why = far.why;
        at = far.at;
        is = unfolds s (front ++ rest) ∙ ap (λ o. and_then o (turned (loop turn))) far.is;
        before = far.before;
        beyond = λ within. far.beyond (turns.apart_done s end front last within).0;
      }))

  complete-loop : (k : ℕ) (s end : S) (front rest : List T) → All Good front → Runs Spelled k s end front → Next end rest → Reached Within rest end (loop turn s (front ++ rest))
  complete-loop zero s end front rest good runs next = absurd runs
  complete-loop (suc k) s end front rest good runs next =
      ⊎_elim
      (λ last. at_done s end front rest last ((turns.rule s).complete front rest (done end) good last (turns.ends s end front rest last next)))
      (λ more.
      let x = more.0 in
      let b = more.1 in
      rw b.all rw (unfolds s ((b.front ++ b.back) ++ rest))
      (complete-then (turn s) (turned (loop turn)) (again x) b.front b.back rest (Inside s) Within Within end
      (λ within. ((turns.apart_again s x b.front b.begins (runs-within k x end b.back b.ends within)).0, within))
      ((turns.rule s).complete b.front (b.back ++ rest) (again x) (All-front Good front b.front b.back b.all good) b.begins (turns.goes s x end b.front b.back rest b.begins (k, b.ends) next))
      (complete-loop k x end b.back rest (All-back Good front b.front b.back b.all good) b.ends next)))
      runs

  finishes-loop : (n : ℕ) (s : S) (ts : List T) → length ts < n → (rest : List T) (e : Fault E) → loop turn s ts ≡ stopped e rest
      → Finishes Good (Loop Spelled s) (LoopTo Spelled Unfit s) ts rest e
  finishes-loop zero s ts few rest e is = absurd (omega arith)
  finishes-loop (suc n) s ts few rest e is =
      finishes-then (Spelled s) More (Loop Spelled s) (join s) Good (Inside s) (Unfit s) Last (LoopTo Spelled Unfit s) (λ front d. (1, inl d)) (join_unfit s)
      examples (turned (loop turn)) ts (turn s ts)
      (λ rest t made. (turns.rule s).sound ts rest t made)
      (λ rest e made. (turns.rule s).finishes ts rest e made)
      (λ middle rest t e made. of_turn (λ next rest less. finishes-loop n next rest less) middle rest t e made) rest e (sym (unfolds s ts) ∙ is)
    where
      examples : (t : Turn S) → GoesOn Good (More t) []
      examples (again next) = turns.closes next
      examples (done x) = record { value = x; more = []; good = All-nil Good; spelled = (refl, refl) }

      differ : (x : S) (middle rest : List T) (e : Fault E) → ◌≡◌ {A = Outcome E T S} (took x middle) (stopped e rest) → ⊥
      differ x middle rest e is = cc

      of_turn : ((next : S) (us : List T) → length us < n → (rest : List T) (e : Fault E) → loop turn next us ≡ stopped e rest
          → Finishes Good (Loop Spelled next) (LoopTo Spelled Unfit next) us rest e)
          → (middle rest : List T) (t : Turn S) (e : Fault E) → turn s ts ≡ took t middle → turned (loop turn) t middle ≡ stopped e rest
          → Finishes Good (More t) (Last t) middle rest e
      of_turn more middle rest (again next) e made other = more next middle (shorter n s next ts middle few made) rest e other
      of_turn more middle rest (done x) e made other = absurd (differ x middle rest e other)

  stops-loop : (k : ℕ) (s : S) (front rest : List T) → All Good front → RunsTo Spelled Unfit k s front → Stops rest (loop turn s (front ++ rest))
  stops-loop zero s front rest good runs = absurd runs
  stops-loop (suc k) s front rest good runs =
      ⊎_elim
      (λ d. rw (unfolds s (front ++ rest)) (stops-first (turned (loop turn)) rest (turn s (front ++ rest)) ((turns.rule s).stops front rest good d)))
      (λ more.
      let x = more.0 in
      let b = more.1 in
      rw b.all rw (unfolds s ((b.front ++ b.back) ++ rest))
      (stops-second (turn s) (turned (loop turn)) (again x) b.front b.back rest (Inside s)
      ((turns.rule s).complete b.front (b.back ++ rest) (again x) (All-front Good front b.front b.back b.all good) b.begins (turns.goes_unfit s x b.front b.back rest b.begins (k, b.ends)))
      (stops-loop k x b.back rest (All-back Good front b.front b.back b.all good) b.ends)))
      runs

  pub loop-rule : (s : S) → Within s → IsRule E Good (loop turn s) (Loop Spelled s) Next Within (LoopTo Spelled Unfit s)
  loop-rule s within = record {
    example = turns.closes s;
    local = λ ts. local-loop (suc (length ts)) s ts (omega arith);
    sound = λ ts rest x is. sound-loop (suc (length ts)) s within ts (omega arith) rest x is;
    complete = λ front rest x good runs next. complete-loop runs.0 s x front rest good runs.1 next;
    finishes = λ ts rest e is. finishes-loop (suc (length ts)) s ts (omega arith) rest e is;
    stops = λ front rest good runs. stops-loop runs.0 s front rest good runs.1;
  }
