-- The cycles of a run, one by one.
use Rattle.std.proofs.Common.{◌≡◌, ◌∙◌, ℕ, zero, suc, ◌+◌, ◌<◌, Bool, false, List, [], ◌∷◌, ◌++◌, length, take, get_or, slice_get, Some, length-append, refl, ap, arith}
use Rattle.tydi_base.proofs.PlaceLemmas.{slice_get-front}
use Rattle.physical_stream.specs.Cycles.{Cycle}
use Rattle.physical_stream.specs.Params.{Parameters}
use Rattle.physical_stream.specs.declared.transfer.Transfer.{Transfer}
use Rattle.handshake.specs.Run.{next_cycle, run_of, run_on}

module _ (p : Parameters) (ts : List Transfer) (gaps : List ℕ) where
  on-front : (before : List Cycle) (bits : List Bool) (i : ℕ) → i < length before → slice_get (run_on p ts gaps before bits) i ≡ slice_get before i
  on-front before [] i within = refl
  on-front before (bit ∷ bits) i within =
      let long = length-append before (next_cycle p ts gaps before bit ∷ []) in
      on-front (before ++ next_cycle p ts gaps before bit ∷ []) bits i (omega (arith, within, long)) ∙ slice_get-front before (next_cycle p ts gaps before bit ∷ []) i within

  behind : (before : List Cycle) (now : Cycle) → slice_get (before ++ now ∷ []) (length before) ≡ Some now
  behind [] now = refl
  behind (first ∷ before) now = behind before now

  on-at : (before : List Cycle) (bits : List Bool) (k : ℕ) → k < length bits
      → slice_get (run_on p ts gaps before bits) (length before + k) ≡ Some (next_cycle p ts gaps (run_on p ts gaps before (take k bits)) (get_or bits k false))
  on-at before [] k within = absurd (omega (arith, within))
  on-at before (bit ∷ bits) zero within =
      let now = next_cycle p ts gaps before bit in
      let long = length-append before (now ∷ []) in
      let here : length before + 0 ≡ length before = omega arith in
      ap (slice_get (run_on p ts gaps (before ++ now ∷ []) bits)) here
      ∙ on-front (before ++ now ∷ []) bits (length before) (omega (arith, long)) ∙ behind before now
  on-at before (bit ∷ bits) (suc k) within =
      let now = next_cycle p ts gaps before bit in
      let long = length-append before (now ∷ []) in
      let here : length before + suc k ≡ length (before ++ now ∷ []) + k = omega (arith, long) in
      ap (slice_get (run_on p ts gaps (before ++ now ∷ []) bits)) here
      ∙ on-at (before ++ now ∷ []) bits k (omega (arith, within))

  pub run-at : (ready : List Bool) (number : ℕ) → number < length ready → slice_get (run_of p ts gaps ready) number ≡ Some (next_cycle p ts gaps (run_of p ts gaps (take number ready)) (get_or ready number false))
  run-at ready number within = let here : number ≡ 0 + number = omega arith in ap (slice_get (run_of p ts gaps ready)) here ∙ on-at [] ready number within
