-- Rows as they are made, into a sink.
use Rattle.std.proofs.Common.{◌≡◌, ◌∙◌, ℕ, ◌<◌, List, [], ◌∷◌, ◌++◌, length, length-append, Option, None, Some, IfSome, refl, sym, ap, subst, append_assoc, arith}
use Rattle.std.specs.List.{slice_get}
use Rattle.std.proofs.lemmas.List.{length_push}
use Rattle.physical_stream.specs.Params.{Parameters}
use Rattle.physical_stream.specs.Signals.{Shows}
use Rattle.physical_stream.specs.Cycles.{Cycle}
use Rattle.physical_stream.specs.declared.head.Head.{Head}
use Rattle.physical_stream.specs.declared.transfer.Transfer.{Transfer}
use Rattle.tydi_base.proofs.PlaceLemmas.{slice_get-front, slice_get-next, slice_get-there}
use Rattle.cycle_trace.specs.RowSink.{CanTake}
use Rattle.cycle_trace.specs.Trace.{AreShown, TraceText, owed, params_of_heads}
use Rattle.port_gen.specs.Handing.{AreOwed, with_rows}

-- ---- the rows of a trace are owed

there-next : (done rest : List Cycle) (row : Cycle) → slice_get (done ++ row ∷ rest) (length done) ≡ Some row
there-next done rest row =
    ap (λ (rows : List Cycle). slice_get rows (length done)) (sym (append_assoc done (row ∷ []) rest))
    ∙ slice_get-front (done ++ row ∷ []) rest (length done) (omega (arith, length_push done row))
    ∙ slice_get-next done row (length done) refl

module _ (cycles : ℕ) (heads : List Head) where
  abbrev so_far : List Cycle → TraceText
  so_far done = record { cycles = cycles; heads = heads; rows = done }

  can-take : (done rest : List Cycle) (row : Cycle) → AreShown (owed (params_of_heads heads) cycles) (done ++ row ∷ rest) → CanTake (so_far done) row
  can-take done rest row shown =
      let within : length done < length (owed (params_of_heads heads) cycles) = omega (arith, shown.many, length-append done (row ∷ rest)) in
      let turn = slice_get-there (owed (params_of_heads heads) cycles) (length done) within in
      record { params = turn.0; turn = turn.1; shown = shows turn.0 turn.1 row.shown refl }
    where
      shows : (p : Parameters) → slice_get (owed (params_of_heads heads) cycles) (length done) ≡ Some p → (found : Option Transfer) → row.shown ≡ found → IfSome found (Shows p)
      shows p turn None is = tt
      shows p turn (Some t) is = shown.each (length done) p row t turn (there-next done rest row) is

  pub rows-owed : (done rest : List Cycle) → AreShown (owed (params_of_heads heads) cycles) (done ++ rest) → AreOwed (so_far done) rest
  rows-owed done [] shown = tt
  rows-owed done (row ∷ rest) shown =
      (can-take done rest row shown, rows-owed (done ++ row ∷ []) rest (subst (AreShown (owed (params_of_heads heads) cycles)) (sym (append_assoc done (row ∷ []) rest)) shown))

-- ---- a sink that is given rows

-- the rows so far were taken, and the others are owed
pub record IsHanding (Stands : TraceText → Type 0) (t : TraceText) (all left : List Cycle) : Type 0 where
  pub said : TraceText
  pub stands : Stands said
  pub are : AreOwed said left
  pub same : with_rows said left ≡ with_rows t all
