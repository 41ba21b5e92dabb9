-- Steady cycles, one after another.
use Rattle.std.proofs.Common.{◌≡◌, ◌∙◌, ℕ, ◌<◌, ◌≤◌, ◌⊎◌, inl, inr, List, [], ◌∷◌, ◌++◌, length, take, slice_get, Some, refl, sym, ap, subst, append_assoc, arith}
use Rattle.std.proofs.lemmas.Bool.{cases_lt}
use Rattle.std.proofs.lemmas.List.{append-nil, length-append, take_all}
use Rattle.std.proofs.Math.Seq.{take-append_seam}
use Rattle.std.proofs.lemmas.Option.{slice_get_within}
use Rattle.tydi_base.proofs.PlaceLemmas.{slice_get-front, slice_get-next, take-front}
use Rattle.physical_stream.specs.Cycles.{Cycle, waiting_of}
use Rattle.physical_stream.specs.declared.transfer.Transfer.{Transfer}
use Rattle.steady_run.specs.Steady.{IsSteady, next_of}
use Rattle.steady_run.specs.Laws.{SteadyGrows}

nothing-at : {A : Type 0} (number : ℕ) (x : A) → slice_get [] number ≡ Some x → ⊥
nothing-at number x is = let within = slice_get_within [] number x is in omega (arith, within)

pub steady-none : (ts : List Transfer) → IsSteady ts []
steady-none ts = record {
  next = λ number now t is shows. absurd (nothing-at number now is);
  again = λ number now t is waits. absurd (nothing-at number now is);
}

-- a place in a list with one more element is one of the list, or the last
record IsLast {A : Type 0} (before : List A) (last : A) (number : ℕ) (now : A) : Type 0 where
  pub same : now ≡ last
  pub front : take number (before ++ last ∷ []) ≡ before

record IsEarlier {A : Type 0} (before : List A) (last : A) (number : ℕ) (now : A) : Type 0 where
  pub there : slice_get before number ≡ Some now
  pub front : take number (before ++ last ∷ []) ≡ take number before

place-of : {A : Type 0} (before : List A) (last : A) (number : ℕ) (now : A) → slice_get (before ++ last ∷ []) number ≡ Some now →
    IsEarlier before last number now ⊎ IsLast before last number now
place-of before last number now is = by_place (cases_lt number (length before))
  where
    by_place : (number < length before) ⊎ (length before ≤ number) → IsEarlier before last number now ⊎ IsLast before last number now
    by_place (inl less) = inl (record { there = sym (slice_get-front before (last ∷ []) number less) ∙ is; front = take-front before last number (omega arith) })
    by_place (inr more) =
        let within = slice_get_within (before ++ last ∷ []) number now is in
        let at : number ≡ length before = omega (arith, within, more, length-append before (last ∷ [])) in
        let same : now ≡ last = let e = sym is ∙ slice_get-next before last number at in cc in
        inr (record { same = same; front = take-front before last number (omega arith) ∙ take_all number before (omega arith) })

pub steady-next : (ts : List Transfer) (before : List Cycle) (now : Cycle) → IsSteady ts before → ((t : Transfer) → now.shown ≡ Some t → next_of ts before ≡ Some t) →
    ((t : Transfer) → waiting_of before ≡ Some t → now.shown ≡ Some t) → IsSteady ts (before ++ now ∷ [])
steady-next ts before now steady next again = record {
  next = λ number one t is shows. next-at number one t shows (place-of before now number one is);
  again = λ number one t is waits. again-at number one t waits (place-of before now number one is);
}
  where
    next-at : (number : ℕ) (one : Cycle) (t : Transfer) → one.shown ≡ Some t → IsEarlier before now number one ⊎ IsLast before now number one → next_of ts (take number (before ++ now ∷ [])) ≡ Some t
    next-at number one t shows (inl earlier) = ap (next_of ts) earlier.front ∙ steady.next number one t earlier.there shows
    next-at number one t shows (inr last) = ap (next_of ts) last.front ∙ next t (ap (λ (c : Cycle). c.shown) (sym last.same) ∙ shows)

    again-at : (number : ℕ) (one : Cycle) (t : Transfer) → waiting_of (take number (before ++ now ∷ [])) ≡ Some t → IsEarlier before now number one ⊎ IsLast before now number one → one.shown ≡ Some t
    again-at number one t waits (inl earlier) = steady.again number one t earlier.there (ap waiting_of (sym earlier.front) ∙ waits)
    again-at number one t waits (inr last) = ap (λ (c : Cycle). c.shown) last.same ∙ again t (ap waiting_of (sym last.front) ∙ waits)

pub steady_grows : SteadyGrows
steady_grows = (steady-none, steady-next)

-- ---- what each steady cycle keeps

pub get-seam : {A : Type 0} (before : List A) (x : A) (rest : List A) → slice_get (before ++ x ∷ rest) (length before) ≡ Some x
get-seam [] x rest = refl
get-seam (b ∷ before) x rest = get-seam before x rest

pub next-here : (ts : List Transfer) (before : List Cycle) (now : Cycle) (rest : List Cycle) → IsSteady ts (before ++ now ∷ rest) → (t : Transfer) → now.shown ≡ Some t → next_of ts before ≡ Some t
next-here ts before now rest steady t shows =
    ap (next_of ts) (sym (take-append_seam before (now ∷ rest))) ∙ steady.next (length before) now t (get-seam before now rest) shows

pub again-here : (ts : List Transfer) (before : List Cycle) (now : Cycle) (rest : List Cycle) → IsSteady ts (before ++ now ∷ rest) → (t : Transfer) → waiting_of before ≡ Some t → now.shown ≡ Some t
again-here ts before now rest steady t waits =
    steady.again (length before) now t (get-seam before now rest) (ap waiting_of (take-append_seam before (now ∷ rest)) ∙ waits)

-- what one more cycle that shows nothing or the next transfer, and what waits, keeps
abbrev pub KeepsSteady : List Transfer → (List Cycle → Type 0) → Type 0
KeepsSteady ts Kept = (before : List Cycle) (now : Cycle) → ((t : Transfer) → now.shown ≡ Some t → next_of ts before ≡ Some t) →
    ((t : Transfer) → waiting_of before ≡ Some t → now.shown ≡ Some t) → Kept before → Kept (before ++ now ∷ [])

steady-keeps-on : (ts : List Transfer) (Kept : List Cycle → Type 0) → KeepsSteady ts Kept → (before rest : List Cycle) → IsSteady ts (before ++ rest) → Kept before → Kept (before ++ rest)
steady-keeps-on ts Kept step before [] steady kept = subst Kept (sym (append-nil before)) kept
steady-keeps-on ts Kept step before (now ∷ rest) steady kept =
    let moved : before ++ now ∷ rest ≡ (before ++ now ∷ []) ++ rest = sym (append_assoc before (now ∷ []) rest) in
    subst Kept (sym moved)
    (steady-keeps-on ts Kept step (before ++ now ∷ []) rest (subst (IsSteady ts) moved steady) (step before now (next-here ts before now rest steady) (again-here ts before now rest steady) kept))

-- holds of steady cycles
pub steady-keeps : (ts : List Transfer) (Kept : List Cycle → Type 0) → KeepsSteady ts Kept → (cycles : List Cycle) → IsSteady ts cycles → Kept [] → Kept cycles
steady-keeps ts Kept step cycles steady kept = steady-keeps-on ts Kept step [] cycles steady kept
