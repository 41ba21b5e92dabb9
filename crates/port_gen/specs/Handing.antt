-- Rows that a sink may still take (this project's own).
use Rattle.std.specs.Prelude.{Bool, true, false, List, [], ◌∷◌, ◌++◌, Result, Ok, Err}
use Rattle.physical_stream.specs.Cycles.{Cycle}
use Rattle.cycle_trace.specs.RowSink.{CanTake, with_row}
use Rattle.cycle_trace.specs.Trace.{TraceText}

-- so many rows more
abbrev pub with_rows : TraceText → List Cycle → TraceText
with_rows t rows = record { cycles = t.cycles; heads = t.heads; rows = t.rows ++ rows }

-- each of these rows can be taken, one after another
abbrev pub AreOwed : TraceText → List Cycle → Type 0
AreOwed t [] = Unit {0}
AreOwed t (row ∷ rows) = CanTake t row × AreOwed (with_row t row) rows

-- the first of these rows was taken; or there is none; or memory ran out
abbrev pub HandsRow : {E : Type 0} → (TraceText → Type 0) → TraceText → List Cycle → Result Bool E → Type 0
HandsRow Stands t [] (Ok true) = ⊥
HandsRow Stands t (row ∷ rows) (Ok true) = Stands (with_row t row)
HandsRow Stands t [] (Ok false) = Stands t
HandsRow Stands t (row ∷ rows) (Ok false) = ⊥
HandsRow Stands t rows (Err e) = Unit {0}
