-- The cycles of a stream, by the rows of a trace.
use Rattle.std.proofs.Common.{◌≡◌, ◌∙◌, ◌⊎◌, inl, inr, ℕ, zero, suc, ◌+◌, ◌*◌, ◌<◌, ◌≤◌, List, [], ◌∷◌, ◌++◌, length, Option, Some, None, slice_get, refl, sym, ap, subst, arith, append-nil}
use Rattle.std.specs.Option.{option_to_list}
use Rattle.std.proofs.Math.Nat.{mul-le-mul_right}
use Rattle.std.proofs.lemmas.Bool.{cases_lt}
use Rattle.std.proofs.lemmas.List.{length-append}
use Rattle.std.proofs.lemmas.Option.{slice_get_within}
use Rattle.tydi_base.proofs.PlaceLemmas.{slice_get-front, slice_get-next, slice_get-there}
use Rattle.physical_stream.specs.Cycles.{Cycle}
use Rattle.physical_stream.specs.Items.{parts_below}
use Rattle.physical_stream.proofs.PartsLemmas.{length-parts_below}
use Rattle.cycle_trace.specs.Trace.{TraceText, row_in}
use Rattle.trace_decode.proofs.RowLemmas.{same_some}

module _ (t : TraceText) (s : ℕ) where
  -- there is a row in each cycle before one in which there is one
  single_before : (i j : ℕ) → i ≤ j → j * length t.heads + s < length t.rows → length (row_in t s i) ≡ 1
  single_before i j less inside =
      ap length (ap option_to_list (slice_get-there t.rows (i * length t.heads + s) (omega (arith, inside, mul-le-mul_right (length t.heads) less))).1)

  many_before : (j : ℕ) → j * length t.heads + s < length t.rows → length (parts_below (row_in t s) j) ≡ j
  many_before j inside = length-parts_below (row_in t s) j (λ i less. single_before i j (omega arith) inside)

  -- the row in a cycle is that of the stream
  pub cycle_there : (c : ℕ) (row : Cycle) → slice_get t.rows (c * length t.heads + s) ≡ Some row → (total : ℕ) → c < total → slice_get (parts_below (row_in t s) total) c ≡ Some row
  cycle_there c row here zero less = absurd (omega arith)
  cycle_there c row here (suc total) less = by_cases (λ inside. cycle_there c row here total inside) (cases_lt c total)
    where
      by_cases : (c < total → slice_get (parts_below (row_in t s) total) c ≡ Some row) → (c < total) ⊎ (total ≤ c) → slice_get (parts_below (row_in t s) total ++ row_in t s total) c ≡ Some row
      by_cases before (inl inside) =
          let found = before inside in
          slice_get-front (parts_below (row_in t s) total) (row_in t s total) c (slice_get_within (parts_below (row_in t s) total) c row found) ∙ found
      by_cases before (inr past) =
          let same : total ≡ c = omega arith in
          let last : row_in t s total ≡ row ∷ [] = ap option_to_list (ap (λ (k : ℕ). slice_get t.rows (k * length t.heads + s)) same ∙ here) in
          let inside : total * length t.heads + s < length t.rows = subst (λ (k : ℕ). k * length t.heads + s < length t.rows) (sym same) (slice_get_within t.rows (c * length t.heads + s) row here) in
          ap (λ (l : List Cycle). slice_get (parts_below (row_in t s) total ++ l) c) last ∙ slice_get-next (parts_below (row_in t s) total) row c (sym same ∙ sym (many_before total inside))

  -- a cycle of the stream is the row in that cycle
  pub row_there : (c : ℕ) (now : Cycle) (total : ℕ) → slice_get (parts_below (row_in t s) total) c ≡ Some now → slice_get t.rows (c * length t.heads + s) ≡ Some now
  row_there c now zero here = cc
  row_there c now (suc total) here = by_last (λ found. row_there c now total found) (slice_get t.rows (total * length t.heads + s)) refl
    where
      by_last : (slice_get (parts_below (row_in t s) total) c ≡ Some now → slice_get t.rows (c * length t.heads + s) ≡ Some now) → (last : Option Cycle) → slice_get t.rows (total * length t.heads + s) ≡ last
          → slice_get t.rows (c * length t.heads + s) ≡ Some now
      by_last before None none =
          before (ap (λ (l : List Cycle). slice_get l c) (sym (append-nil (parts_below (row_in t s) total)) ∙ ap (λ (o : Option Cycle). parts_below (row_in t s) total ++ option_to_list o) (sym none)) ∙ here)
      by_last before (Some x) some = by_cases (cases_lt c total)
        where
          long : length (parts_below (row_in t s) total) ≡ total
          long = many_before total (slice_get_within t.rows (total * length t.heads + s) x some)

          here_so : slice_get (parts_below (row_in t s) total ++ x ∷ []) c ≡ Some now
          here_so = ap (λ (o : Option Cycle). slice_get (parts_below (row_in t s) total ++ option_to_list o) c) (sym some) ∙ here

          by_cases : (c < total) ⊎ (total ≤ c) → slice_get t.rows (c * length t.heads + s) ≡ Some now
          by_cases (inl inside) = before (sym (slice_get-front (parts_below (row_in t s) total) (x ∷ []) c (omega (arith, long))) ∙ here_so)
          by_cases (inr past) =
              let same : c ≡ total =
              omega (arith, slice_get_within (parts_below (row_in t s) total ++ x ∷ []) c now here_so, length-append (parts_below (row_in t s) total) (x ∷ []), long) in
              let is : x ≡ now = same_some (sym (slice_get-next (parts_below (row_in t s) total) x c (same ∙ sym long)) ∙ here_so) in
              ap (λ (k : ℕ). slice_get t.rows (k * length t.heads + s)) same ∙ some ∙ ap (λ (y : Cycle). Some y) is
