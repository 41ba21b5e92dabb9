-- The run of transfers is one list of cycles, each of which is said by those before it.
use Rattle.std.proofs.Common.{◌≡◌, ◌∙◌, ℕ, ◌<◌, ◌≤◌, ◌⊎◌, inl, inr, Bool, List, [], ◌∷◌, ◌++◌, length, take, map, slice_get, Option, Some, refl, sym, ap, subst, append_assoc, arith}
use Rattle.std.proofs.lemmas.Bool.{cases_lt}
use Rattle.std.proofs.lemmas.List.{append-nil, length-append, take_all, map-append}
use Rattle.std.proofs.Math.Seq.{take-append_seam}
use Rattle.std.proofs.lemmas.Option.{slice_get_within}
use Rattle.tydi_base.proofs.PlaceLemmas.{slice_get-front, slice_get-next, take-front}
use Rattle.physical_stream.specs.Params.{Parameters}
use Rattle.physical_stream.specs.Cycles.{Cycle}
use Rattle.physical_stream.specs.declared.transfer.Transfer.{Transfer}
use Rattle.handshake.specs.Run.{IsRun, shown_after, next_cycle, run_on, run_of}
use Rattle.handshake.proofs.RunLemmas.{run_on-keeps}

module _ (p : Parameters) (ts : List Transfer) (gaps : List ℕ) where
  abbrev IsSaid : List Cycle → Type 0
  IsSaid cycles = (number : ℕ) (now : Cycle) → slice_get cycles number ≡ Some now → now.shown ≡ shown_after p ts gaps (take number cycles)

  said-next : (before : List Cycle) (bit : Bool) → IsSaid before → IsSaid (before ++ next_cycle p ts gaps before bit ∷ [])
  said-next before bit said number now is = by_place (cases_lt number (length before))
    where
      row : Cycle
      row = next_cycle p ts gaps before bit

      by_place : (number < length before) ⊎ (length before ≤ number) → now.shown ≡ shown_after p ts gaps (take number (before ++ next_cycle p ts gaps before bit ∷ []))
      by_place (inl less) =
          said number now (sym (slice_get-front before (next_cycle p ts gaps before bit ∷ []) number less) ∙ is)
          ∙ ap (shown_after p ts gaps) (sym (take-front before (next_cycle p ts gaps before bit) number (omega arith)))
      by_place (inr more) =
          let within = slice_get_within (before ++ next_cycle p ts gaps before bit ∷ []) number now is in
          let last : number ≡ length before = omega (arith, within, more, length-append before (next_cycle p ts gaps before bit ∷ [])) in
          let same : now ≡ next_cycle p ts gaps before bit = let e = sym is ∙ slice_get-next before (next_cycle p ts gaps before bit) number last in cc in
          let whole : take number (before ++ next_cycle p ts gaps before bit ∷ []) ≡ before = take-front before (next_cycle p ts gaps before bit) number (omega arith) ∙ take_all number before (omega arith) in
          ap (λ (c : Cycle). c.shown) same ∙ ap (shown_after p ts gaps) (sym whole)

  bits-on : (before : List Cycle) (bits : List Bool) → map (λ (c : Cycle). c.ready) (run_on p ts gaps before bits) ≡ map (λ (c : Cycle). c.ready) before ++ bits
  bits-on before [] = sym (append-nil (map (λ (c : Cycle). c.ready) before))
  bits-on before (bit ∷ bits) =
      bits-on (before ++ next_cycle p ts gaps before bit ∷ []) bits ∙ ap (λ (l : List Bool). l ++ bits) (map-append (λ (c : Cycle). c.ready) before (next_cycle p ts gaps before bit ∷ []))
      ∙ append_assoc (map (λ (c : Cycle). c.ready) before) (bit ∷ []) bits

  pub run_is : (ready : List Bool) → IsRun p ts gaps ready (run_of p ts gaps ready)
  run_is ready = record { bits = bits-on [] ready; shown = run_on-keeps p ts gaps IsSaid said-next [] ready (λ number now is. absurd (let e = slice_get_within [] number now is in omega (arith, e))) }

  get-seam : (before : List Cycle) (c : Cycle) (rest : List Cycle) → slice_get (before ++ c ∷ rest) (length before) ≡ Some c
  get-seam [] c rest = refl
  get-seam (b ∷ before) c rest = get-seam before c rest

  run-from : (before rest : List Cycle) → IsSaid (before ++ rest) → before ++ rest ≡ run_on p ts gaps before (map (λ (c : Cycle). c.ready) rest)
  run-from before [] said = append-nil before
  run-from before (c ∷ rest) said =
      let at : c.shown ≡ shown_after p ts gaps before = said (length before) c (get-seam before c rest) ∙ ap (shown_after p ts gaps) (take-append_seam before (c ∷ rest)) in
      let same : c ≡ next_cycle p ts gaps before c.ready = ap (λ (s : Option Transfer). record { ready = c.ready; shown = s }) at in
      let moved : before ++ c ∷ rest ≡ (before ++ c ∷ []) ++ rest = sym (append_assoc before (c ∷ []) rest) in
      moved ∙ run-from (before ++ c ∷ []) rest (subst IsSaid moved said) ∙ ap (λ (x : Cycle). run_on p ts gaps (before ++ x ∷ []) (map (λ (y : Cycle). y.ready) rest)) same

  pub run_once : (ready : List Bool) (cycles : List Cycle) → IsRun p ts gaps ready cycles → cycles ≡ run_of p ts gaps ready
  run_once ready cycles is = run-from [] cycles is.shown ∙ ap (run_on p ts gaps []) is.bits
