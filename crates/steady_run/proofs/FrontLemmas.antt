-- The transfers that steady cycles show and do.
use Rattle.std.proofs.Common.{◌≡◌, ◌∙◌, ℕ, zero, suc, Bool, true, false, nat_le, if◌then◌else◌, List, [], ◌∷◌, ◌++◌, length, take, slice_get, Option, None, Some, refl, sym, ap, subst, arith}
use Rattle.std.specs.Prelude.{IfSome}
use Rattle.std.specs.List.{All}
use Rattle.std.proofs.lemmas.List.{append-nil, length-append}
use Rattle.std.proofs.lemmas.List.Elements.{All-head, All-nil, All-push, All-tail}
use Rattle.physical_stream.specs.Params.{Parameters}
use Rattle.physical_stream.specs.Cycles.{Cycle, IsShownBy, done_in, done_of}
use Rattle.physical_stream.specs.Counts.{transfers_of}
use Rattle.physical_stream.specs.Signals.{Shows}
use Rattle.physical_stream.specs.declared.transfer.Transfer.{Transfer}
use Rattle.handshake.specs.Run.{gap_of, idle_of, run_of, shown_after}
use Rattle.handshake.proofs.RunLemmas.{done_of-more, run_on-keeps, take-next}
use Rattle.steady_run.specs.Steady.{next_of}
use Rattle.steady_run.specs.Laws.{SteadyIsFront, SteadyIsShown}
use Rattle.steady_run.proofs.GrowLemmas.{steady-keeps}

-- ---- done

abbrev IsFront : List Transfer → List Cycle → Type 0
IsFront ts cycles = done_of cycles ≡ take (transfers_of cycles) ts

module _ (ts : List Transfer) (before : List Cycle) where
  front-same : (now : Cycle) → done_in now ≡ [] → IsFront ts before → IsFront ts (before ++ now ∷ [])
  front-same now none front =
      let same : done_of (before ++ now ∷ []) ≡ done_of before = done_of-more before now ∙ ap (λ (l : List Transfer). done_of before ++ l) none ∙ append-nil (done_of before) in
      same ∙ front ∙ ap (λ (l : List Transfer). take (length l) ts) (sym same)

  front-taken : (now : Cycle) (t : Transfer) → done_in now ≡ t ∷ [] → next_of ts before ≡ Some t → IsFront ts before → IsFront ts (before ++ now ∷ [])
  front-taken now t one next front =
      let more : done_of (before ++ now ∷ []) ≡ done_of before ++ t ∷ [] = done_of-more before now ∙ ap (λ (l : List Transfer). done_of before ++ l) one in
      let count : suc (transfers_of before) ≡ transfers_of (before ++ now ∷ []) = omega (arith, ap length more, length-append (done_of before) (t ∷ [])) in
      more ∙ ap (λ (l : List Transfer). l ++ t ∷ []) front ∙ sym (take-next ts (transfers_of before) t next) ∙ ap (λ (n : ℕ). take n ts) count

  front-by : (ready : Bool) (shown : Option Transfer) → ((t : Transfer) → shown ≡ Some t → next_of ts before ≡ Some t) → IsFront ts before →
      IsFront ts (before ++ record { ready = ready; shown = shown } ∷ [])
  front-by false shown next = front-same (record { ready = false; shown = shown }) refl
  front-by true None next = front-same (record { ready = true; shown = None }) refl
  front-by true (Some t) next = front-taken (record { ready = true; shown = Some t }) t refl (next t refl)

pub steady_is_front : SteadyIsFront
steady_is_front ts cycles steady =
    steady-keeps ts (IsFront ts) (λ before now next again front. front-by ts before now.ready now.shown next front) cycles steady refl

-- the transfers done in a run are the first of its transfers
pub run-front : (p : Parameters) (ts : List Transfer) (gaps : List ℕ) (ready : List Bool) → done_of (run_of p ts gaps ready) ≡ take (transfers_of (run_of p ts gaps ready)) ts
run-front p ts gaps ready = run_on-keeps p ts gaps (IsFront ts) (λ before bit front. front-by ts before bit (shown_after p ts gaps before) (shows-next before) front) [] ready refl
  where
    shows-next : (before : List Cycle) (t : Transfer) → shown_after p ts gaps before ≡ Some t → next_of ts before ≡ Some t
    shows-next before t is = by_test (nat_le (gap_of p ts gaps (transfers_of before)) (idle_of before)) is
      where
        by_test : (test : Bool) → (if test then slice_get ts (transfers_of before) else None) ≡ Some t → slice_get ts (transfers_of before) ≡ Some t
        by_test true e = e
        by_test false e = cc

-- ---- shown

pub all-at : {A : Type 0} (Holds : A → Type 0) (xs : List A) (n : ℕ) (x : A) → All Holds xs → slice_get xs n ≡ Some x → Holds x
all-at Holds [] n x all is = cc
all-at Holds (y ∷ xs) zero x all is = let e : y ≡ x = cc in subst Holds e (All-head Holds y xs all)
all-at Holds (y ∷ xs) (suc n) x all is = all-at Holds xs n x (All-tail Holds y xs all) is

shown-by : (p : Parameters) (ts : List Transfer) (before : List Cycle) (shown : Option Transfer) → All (Shows p) ts → ((t : Transfer) → shown ≡ Some t → next_of ts before ≡ Some t) → IfSome shown (Shows p)
shown-by p ts before None all next = tt
shown-by p ts before (Some t) all next = all-at (Shows p) ts (transfers_of before) t all (next t refl)

pub steady_is_shown : SteadyIsShown
steady_is_shown p ts cycles all steady =
    steady-keeps ts (IsShownBy p) (λ before now next again shown. All-push (λ (c : Cycle). IfSome c.shown (Shows p)) before now shown (shown-by p ts before now.shown all next)) cycles steady (All-nil (λ (c : Cycle). IfSome c.shown (Shows p)))
