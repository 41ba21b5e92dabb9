-- The gaps under which steady cycles are a run.
use Rattle.std.proofs.Common.{◌≡◌, ◌∙◌, ℕ, zero, suc, ◌+◌, ◌<◌, ◌≤◌, ◌⊎◌, inl, inr, Bool, true, false, nat_le, ◌==◌, ◌&&◌, if◌then◌else◌, List, [], ◌∷◌, ◌++◌, length, take, drop, map, slice_get, slice_index, Option, None, Some, is_some, refl, sym, ap, subst, append_assoc, arith}
use Rattle.std.specs.List.{All}
use Rattle.std.proofs.lemmas.Bool.{cases_lt}
use Rattle.std.proofs.lemmas.Bool.Decides.{nat_tests}
use Rattle.std.proofs.lemmas.List.Elements.{All-cons, All-nil}
use Rattle.std.proofs.lemmas.Option.{slice_get_within}
use Rattle.physical_stream.specs.Params.{Parameters}
use Rattle.physical_stream.specs.Cycles.{Cycle, refused_in, waiting_of}
use Rattle.physical_stream.specs.Counts.{transfers_of}
use Rattle.physical_stream.specs.Items.{items_of_all}
use Rattle.physical_stream.specs.Shape.{tail_of}
use Rattle.physical_stream.specs.declared.transfer.Transfer.{Transfer}
use Rattle.handshake.specs.Run.{IsRun, gap_of, idle_of, idle_over, is_done, shown_after}
use Rattle.handshake.proofs.OneRunLemmas.{run_once}
use Rattle.handshake.proofs.RunLemmas.{shows-passed, waiting_of-more}
use Rattle.steady_run.specs.Steady.{IsSteady, PausesAnywhere, next_of}
use Rattle.steady_run.specs.Laws.{SteadyIsRun}
use Rattle.steady_run.proofs.GrowLemmas.{again-here, next-here}

-- the cycles since the last transfer was done until transfer n is shown, where t are done so far, and the last of them so many cycles ago
abbrev held_back : ℕ → ℕ → ℕ → List Cycle → ℕ
held_back n t idle [] = idle
held_back n t idle (c ∷ more) = if is_some c.shown && (t == n) then idle else (if is_done c then held_back n (suc t) 0 more else held_back n t (suc idle) more)

-- ---- a lower bound, and an upper one

same-test : (t n : ℕ) → t ≡ n → (t == n) ≡ true
same-test t n is = grind (arith, nat_tests)

other-test : (t n : ℕ) → t < n → (t == n) ≡ false
other-test t n less = grind (arith, nat_tests)

at-least : (n t idle : ℕ) (cycles : List Cycle) → t ≡ n → idle ≤ held_back n t idle cycles
at-least n t idle [] is = omega arith
at-least n t idle (c ∷ more) is = by_cycle c.ready c.shown (at-least n t (suc idle) more is)
  where
    by_cycle : (ready : Bool) (shown : Option Transfer) → suc idle ≤ held_back n t (suc idle) more → idle ≤ held_back n t idle (record { ready = ready; shown = shown } ∷ more)
    by_cycle true None later = omega (arith, later)
    by_cycle false None later = omega (arith, later)
    by_cycle ready (Some x) later = rw (same-test t n is) (let le : idle ≤ idle = omega arith in le)

idle-grows : (idle : ℕ) (cycles : List Cycle) → transfers_of cycles ≡ 0 → idle ≤ idle_over idle cycles
idle-grows idle [] none = omega arith
idle-grows idle (c ∷ more) none = by_cycle c.ready c.shown none (idle-grows (suc idle) more)
  where
    by_cycle : (ready : Bool) (shown : Option Transfer) → transfers_of (record { ready = ready; shown = shown } ∷ more) ≡ 0 → (transfers_of more ≡ 0 → suc idle ≤ idle_over (suc idle) more) →
        idle ≤ idle_over idle (record { ready = ready; shown = shown } ∷ more)
    by_cycle true None e later = omega (arith, later e)
    by_cycle false None e later = omega (arith, later e)
    by_cycle false (Some x) e later = omega (arith, later e)
    by_cycle true (Some x) e later = absurd (omega (arith, e))

-- a transfer that is shown was not held back longer than the cycles since the last was done
not-longer : (n t idle : ℕ) (before : List Cycle) (ready : Bool) (x : Transfer) (rest : List Cycle) → t + transfers_of before ≡ n →
    held_back n t idle (before ++ record { ready = ready; shown = Some x } ∷ rest) ≤ idle_over idle before
not-longer n t idle [] ready x rest count =
    let is : t ≡ n = omega (arith, count) in
    rw (same-test t n is) (let le : idle ≤ idle = omega arith in le)
not-longer n t idle (c ∷ before) ready x rest count =
    by_cycle c.ready c.shown count (not-longer n t (suc idle) before ready x rest) (not-longer n (suc t) 0 before ready x rest)
  where
    tail : List Cycle
    tail = before ++ record { ready = ready; shown = Some x } ∷ rest

    Waited : Type 0
    Waited = t + transfers_of before ≡ n → held_back n t (suc idle) tail ≤ idle_over (suc idle) before

    Moved : Type 0
    Moved = suc t + transfers_of before ≡ n → held_back n (suc t) 0 tail ≤ idle_over 0 before

    offered : (test : Bool) → (t == n) ≡ test → t + transfers_of before ≡ n → Waited → (if test then idle else held_back n t (suc idle) tail) ≤ idle_over (suc idle) before
    offered true same e waited =
        let at : t ≡ n = grind (arith, nat_tests) in
        omega (arith, idle-grows (suc idle) before (omega (arith, at, e)))
    offered false other e waited = waited e

    by_cycle : (bit : Bool) (shown : Option Transfer) → t + transfers_of (record { ready = bit; shown = shown } ∷ before) ≡ n → Waited → Moved →
        held_back n t idle (record { ready = bit; shown = shown } ∷ tail) ≤ idle_over idle (record { ready = bit; shown = shown } ∷ before)
    by_cycle true None e waited moved = waited e
    by_cycle false None e waited moved = waited e
    by_cycle false (Some y) e waited moved = offered (t == n) refl e waited
    by_cycle true (Some y) e waited moved =
        let less : t < n = omega (arith, e) in
        rw (other-test t n less) (moved (omega (arith, e)))

-- ---- what waits is shown

-- what waits before these cycles is shown by the first of them, and so on
abbrev Holds : Option Transfer → List Cycle → Type 0
Holds waiting [] = Unit {0}
Holds waiting (c ∷ more) = ((t : Transfer) → waiting ≡ Some t → c.shown ≡ Some t) × Holds (refused_in c) more

holds-from : (ts : List Transfer) (before rest : List Cycle) → IsSteady ts (before ++ rest) → Holds (waiting_of before) rest
holds-from ts before [] steady = tt
holds-from ts before (c ∷ rest) steady =
    let moved : before ++ c ∷ rest ≡ (before ++ c ∷ []) ++ rest = sym (append_assoc before (c ∷ []) rest) in
    (again-here ts before c rest steady, subst (λ (w : Option Transfer). Holds w rest) (waiting_of-more before c) (holds-from ts (before ++ c ∷ []) rest (subst (IsSteady ts) moved steady)))

-- nothing waits, where none is done until a cycle shows nothing
none-waits : (waiting : Option Transfer) (t : Transfer) (before : List Cycle) (bit : Bool) (rest : List Cycle) → Holds waiting (before ++ record { ready = bit; shown = None } ∷ rest) →
    transfers_of before ≡ 0 → waiting ≡ Some t → ⊥
none-waits waiting t [] bit rest holds none waits = let e = holds.0 t waits in cc
none-waits waiting t (c ∷ before) bit rest holds none waits =
    by_cycle c.ready c.shown none (holds.0 t waits) holds.1 (λ y later e same. none-waits (Some y) t before bit rest later e same)
  where
    tail : List Cycle
    tail = before ++ record { ready = bit; shown = None } ∷ rest

    by_cycle : (ready : Bool) (shown : Option Transfer) → transfers_of (record { ready = ready; shown = shown } ∷ before) ≡ 0 → shown ≡ Some t →
        Holds (refused_in (record { ready = ready; shown = shown })) tail → ((y : Transfer) → Holds (Some y) tail → transfers_of before ≡ 0 → Some y ≡ Some t → ⊥) → ⊥
    by_cycle ready None e shows later on = cc
    by_cycle true (Some y) e shows later on = omega (arith, e)
    by_cycle false (Some y) e shows later on = on y later e shows

-- a transfer that is not shown is held back longer than the cycles since the last was done
held-longer : (n t idle : ℕ) (waiting : Option Transfer) (before : List Cycle) (bit : Bool) (rest : List Cycle) → Holds waiting (before ++ record { ready = bit; shown = None } ∷ rest) →
    t + transfers_of before ≡ n → idle_over idle before < held_back n t idle (before ++ record { ready = bit; shown = None } ∷ rest)
held-longer n t idle waiting [] true rest holds count = omega (arith, at-least n t (suc idle) rest (omega (arith, count)))
held-longer n t idle waiting [] false rest holds count = omega (arith, at-least n t (suc idle) rest (omega (arith, count)))
held-longer n t idle waiting (c ∷ before) bit rest holds count =
    by_cycle c.ready c.shown count holds.1 (λ w later e. held-longer n t (suc idle) w before bit rest later e) (λ w later e. held-longer n (suc t) 0 w before bit rest later e)
  where
    tail : List Cycle
    tail = before ++ record { ready = bit; shown = None } ∷ rest

    Waited : Type 0
    Waited = (w : Option Transfer) → Holds w tail → t + transfers_of before ≡ n → idle_over (suc idle) before < held_back n t (suc idle) tail

    Moved : Type 0
    Moved = (w : Option Transfer) → Holds w tail → suc t + transfers_of before ≡ n → idle_over 0 before < held_back n (suc t) 0 tail

    offered : (y : Transfer) (test : Bool) → (t == n) ≡ test → t + transfers_of before ≡ n → Holds (Some y) tail → Waited → idle_over (suc idle) before < (if test then idle else held_back n t (suc idle) tail)
    offered y true same e later waited =
        let at : t ≡ n = grind (arith, nat_tests) in
        absurd (none-waits (Some y) y before bit rest later (omega (arith, at, e)) refl)
    offered y false other e later waited = waited (Some y) later e

    by_cycle : (ready : Bool) (shown : Option Transfer) → t + transfers_of (record { ready = ready; shown = shown } ∷ before) ≡ n → Holds (refused_in (record { ready = ready; shown = shown })) tail → Waited → Moved →
        idle_over idle (record { ready = ready; shown = shown } ∷ before) < held_back n t idle (record { ready = ready; shown = shown } ∷ tail)
    by_cycle true None e later waited moved = waited None later e
    by_cycle false None e later waited moved = waited None later e
    by_cycle false (Some y) e later waited moved = offered y (t == n) refl e later waited
    by_cycle true (Some y) e later waited moved =
        let less : t < n = omega (arith, e) in
        rw (other-test t n less) (moved None later (omega (arith, e)))

-- ---- the gaps

-- how long each of so many transfers was held back, from transfer n on
abbrev gaps_from : ℕ → ℕ → List Cycle → List ℕ
gaps_from n zero cycles = []
gaps_from n (suc many) cycles = held_back n 0 0 cycles ∷ gaps_from (suc n) many cycles

gap-at : (n many k : ℕ) (cycles : List Cycle) → k < many → slice_index (gaps_from n many cycles) k ≡ held_back (n + k) 0 0 cycles
gap-at n zero k cycles less = absurd (omega (arith, less))
gap-at n (suc many) zero cycles less = ap (λ (m : ℕ). held_back m 0 0 cycles) (let e : n ≡ n + 0 = omega arith in e)
gap-at n (suc many) (suc k) cycles less = gap-at (suc n) many k cycles (omega (arith, less)) ∙ ap (λ (m : ℕ). held_back m 0 0 cycles) (let e : suc n + k ≡ n + suc k = omega arith in e)

split-at : {A : Type 0} (xs : List A) (n : ℕ) (x : A) → slice_get xs n ≡ Some x → xs ≡ take n xs ++ x ∷ drop (suc n) xs
split-at [] n x is = cc
split-at (y ∷ xs) zero x is = let e : y ≡ x = cc in ap (λ z. z ∷ xs) e
split-at (y ∷ xs) (suc n) x is = ap (λ l. y ∷ l) (split-at xs n x is)

none-past : {A : Type 0} (xs : List A) (n : ℕ) → length xs ≤ n → slice_get xs n ≡ None
none-past [] n over = refl
none-past (x ∷ xs) zero over = absurd (omega (arith, over))
none-past (x ∷ xs) (suc n) over = none-past xs n (omega (arith, over))

module _ (p : Parameters) (ts : List Transfer) (pauses : PausesAnywhere p) where
  -- all gaps of a stream that pauses anywhere are effective
  gap-is : (gaps : List ℕ) (t : ℕ) → gap_of p ts gaps t ≡ slice_index gaps t
  gap-is gaps t = ap (λ (b : Bool). if b then slice_index gaps t else 0) (pauses (tail_of (items_of_all p (take t ts))))

  shows-none : (gaps : List ℕ) (before : List Cycle) → (idle_of before < gap_of p ts gaps (transfers_of before)) ⊎ (next_of ts before ≡ None) → shown_after p ts gaps before ≡ None
  shows-none gaps before (inl less) =
      let test : nat_le (gap_of p ts gaps (transfers_of before)) (idle_of before) ≡ false = grind (arith, nat_tests) in
      ap (λ (b : Bool). if b then slice_get ts (transfers_of before) else None) test
  shows-none gaps before (inr none) = by_test (nat_le (gap_of p ts gaps (transfers_of before)) (idle_of before))
    where
      by_test : (test : Bool) → (if test then slice_get ts (transfers_of before) else None) ≡ None
      by_test true = none
      by_test false = refl

  module _ (before : List Cycle) (ready : Bool) (rest : List Cycle) where
    abbrev all-of : Option Transfer → List Cycle
    all-of shown = before ++ record { ready = ready; shown = shown } ∷ rest

    abbrev gaps-of : Option Transfer → List ℕ
    gaps-of shown = gaps_from 0 (length ts) (all-of shown)

    gap-here : (shown : Option Transfer) → transfers_of before < length ts → gap_of p ts (gaps-of shown) (transfers_of before) ≡ held_back (transfers_of before) 0 0 (all-of shown)
    gap-here shown within =
        gap-is (gaps-of shown) (transfers_of before) ∙ gap-at 0 (length ts) (transfers_of before) (all-of shown) within
        ∙ ap (λ (m : ℕ). held_back m 0 0 (all-of shown)) (let e : 0 + transfers_of before ≡ transfers_of before = omega arith in e)

    shown-here : (shown : Option Transfer) → IsSteady ts (all-of shown) → shown ≡ shown_after p ts (gaps-of shown) before
    shown-here (Some x) steady =
        let next : next_of ts before ≡ Some x = next-here ts before (record { ready = ready; shown = Some x }) rest steady x refl in
        let within = slice_get_within ts (transfers_of before) x next in
        let short = not-longer (transfers_of before) 0 0 before ready x rest (omega arith) in
        sym (shows-passed p ts (gaps-of (Some x)) before x (omega (arith, short, gap-here (Some x) within)) next)
    shown-here None steady = by_place (cases_lt (transfers_of before) (length ts))
      where
        by_place : (transfers_of before < length ts) ⊎ (length ts ≤ transfers_of before) → None ≡ shown_after p ts (gaps-of None) before
        by_place (inl within) =
            let long = held-longer (transfers_of before) 0 0 None before ready rest (holds-from ts [] (all-of None) steady) (omega arith) in
            sym (shows-none (gaps-of None) before (inl (omega (arith, long, gap-here None within))))
        by_place (inr over) = sym (shows-none (gaps-of None) before (inr (none-past ts (transfers_of before) over)))

  steady-run : (cycles : List Cycle) → IsSteady ts cycles → IsRun p ts (gaps_from 0 (length ts) cycles) (map (λ (c : Cycle). c.ready) cycles) cycles
  steady-run cycles steady = record {
    bits = refl;
    shown = λ number now is.
        let split = split-at cycles number now is in
        shown-here (take number cycles) now.ready (drop (suc number) cycles) now.shown (subst (IsSteady ts) split steady)
        ∙ ap (λ (all : List Cycle). shown_after p ts (gaps_from 0 (length ts) all) (take number cycles)) (sym split);
  }

-- ---- no gap is longer than the cycles

held-few : (n t idle : ℕ) (cycles : List Cycle) → held_back n t idle cycles ≤ idle + length cycles
held-few n t idle [] = omega arith
held-few n t idle (c ∷ more) = by_shown (is_some c.shown && (t == n)) (is_done c) (held-few n (suc t) 0 more) (held-few n t (suc idle) more)
  where
    by_shown : (here done : Bool) → held_back n (suc t) 0 more ≤ 0 + length more → held_back n t (suc idle) more ≤ suc idle + length more →
        (if here then idle else (if done then held_back n (suc t) 0 more else held_back n t (suc idle) more)) ≤ idle + suc (length more)
    by_shown true done next later = omega arith
    by_shown false true next later = omega (arith, next)
    by_shown false false next later = omega (arith, later)

gaps-few : (n many : ℕ) (cycles : List Cycle) → All (λ gap. gap ≤ length cycles) (gaps_from n many cycles)
gaps-few n zero cycles = All-nil (λ gap. gap ≤ length cycles)
gaps-few n (suc many) cycles =
    All-cons (λ gap. gap ≤ length cycles) (held_back n 0 0 cycles) (gaps_from (suc n) many cycles) (omega (arith, held-few n 0 0 cycles)) (gaps-few (suc n) many cycles)

pub steady_is_run : SteadyIsRun
steady_is_run p ts cycles pauses steady = record {
  gaps = gaps_from 0 (length ts) cycles;
  few = gaps-few 0 (length ts) cycles;
  run = run_once p ts (gaps_from 0 (length ts) cycles) (map (λ (c : Cycle). c.ready) cycles) cycles (steady-run p ts pauses cycles steady);
}
