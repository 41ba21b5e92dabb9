-- The whole text of a trace (this project's own): its header, and then a row for each cycle and stream.
use Rattle.std.specs.Prelude.{ℕ, suc, ◌+◌, ◌*◌, nat_le, if◌then◌else◌, List, [], ◌∷◌, length, Result, Ok, Err}
use Rattle.tydi_base.specs.Reading.{◌>>=◌}
use Rattle.tydi_base.specs.Pieces.{lines_of}
use Rattle.physical_stream.specs.Params.{Parameters}
use Rattle.physical_stream.specs.Cycles.{Cycle}
use Rattle.physical_stream.specs.declared.head.Head.{Head}
use Rattle.cycle_trace.specs.declared.fault.TraceFault.{TraceFault}
use Rattle.cycle_trace.specs.declared.fault.TraceFault.TheVariants.{TooManyCycles, BadRow, RowsMissing, RowsLeft}
use Rattle.cycle_trace.specs.Trace.{TraceText, most_cycles, params_of_heads, owed}
use Rattle.cycle_trace.specs.HeaderText.{HeaderStart, header_start_of}
use Rattle.cycle_trace.specs.RowText.{row_at}

-- the rows that are owed, each with its LF, and nothing after them. So many rows are needed in all and so many were read before
-- these; the first of the lines has this number. The last of the lines has no LF.
abbrev pub rows_from : (want got number : ℕ) → List Parameters → List (List ℕ) → Result (List Cycle) TraceFault
rows_from want got number [] [] = Ok []
rows_from want got number [] ([] ∷ []) = Ok []
rows_from want got number [] lines = Err (RowsLeft number)
rows_from want got number (p ∷ streams) [] = Err (RowsMissing want got)
rows_from want got number (p ∷ streams) ([] ∷ []) = Err (RowsMissing want got)
rows_from want got number (p ∷ streams) ((byte ∷ cut) ∷ []) = Err (BadRow number)
rows_from want got number (p ∷ streams) (line ∷ next ∷ lines) =
    row_at number p line >>= λ cycle. rows_from want (suc got) (suc number) streams (next ∷ lines) >>= λ cycles. Ok (cycle ∷ cycles)

-- the rows after a header of these heads: the lines of the header are two and one for each head
abbrev pub rows_after : ℕ → List Head → List (List ℕ) → Result (List Cycle) TraceFault
rows_after cycles heads lines = rows_from (cycles * length heads) 0 (3 + length heads) (owed (params_of_heads heads) cycles) lines

-- the trace that goes on after its header. The number of cycles is looked at before any row.
unfoldable pub trace_from : HeaderStart → Result TraceText TraceFault
trace_from start =
    if nat_le start.cycles most_cycles then
    (rows_after start.cycles start.heads start.lines >>= λ rows. Ok (record { cycles = start.cycles; heads = start.heads; rows = rows }))
    else Err TooManyCycles

-- the trace that a text spells, or the first fault
unfoldable pub trace_of : List ℕ → Result TraceText TraceFault
trace_of text = header_start_of (lines_of text) >>= trace_from
