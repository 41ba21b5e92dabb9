-- Facts about every text that begins with the bytes so far (this project's own). `begun` is the unfinished last line, without
-- an LF: the lines before it are read.
use Rattle.std.specs.Prelude.{◌≡◌, ℕ, ◌+◌, ◌*◌, ◌≤◌, List, [], ◌∷◌, ◌++◌, length, drop, Result, Ok, Err, MatchOption}
use Rattle.std.specs.declared.vec.Vec.{Vec}
use Rattle.std.specs.BTreeSet.{BTreeSet}
use Rattle.tydi_base.specs.Pieces.{lines_of}
use Rattle.tydi_base.specs.Reading.{◌>>=◌}
use Rattle.physical_stream.specs.declared.head.Head.{Head}
use Rattle.cycle_trace.specs.Faults.{fault_in}
use Rattle.cycle_trace.specs.HeaderText.{HeaderStart, heads_from, header_start_of}
use Rattle.cycle_trace.specs.Trace.{TraceText, owed, params_of_heads}
use Rattle.cycle_trace.specs.TraceText.{rows_from, trace_of}
use Rattle.tydi_base.specs.TextSet.{HasTexts}
use Rattle.cycle_trace.specs.declared.version.Version.{Version}
use Rattle.cycle_trace.specs.declared.fault.TraceFault.{TraceFault}

-- the fault is the one that reading gives, unless memory ran out
abbrev pub IsFault : {A : Type 0} → Result A TraceFault → TraceFault → Type 0
IsFault read e = MatchOption (fault_in e) (Unit {0}) (λ f. read ≡ Err f)

-- every text that begins so has this fault
abbrev pub Fails : List ℕ → TraceFault → Type 0
Fails bytes e = (more : List ℕ) → IsFault (trace_of (bytes ++ more)) e

-- the header of every text that begins so is what the lines from the one that is begun on give
abbrev pub Opens : (bytes begun : List ℕ) → (List (List ℕ) → Result HeaderStart TraceFault) → Type 0
Opens bytes begun gives = (more : List ℕ) → header_start_of (lines_of (bytes ++ more)) ≡ gives (lines_of (begun ++ more))

-- the heads so far, and those that the lines give, in a header of this version and of so many cycles
abbrev pub heads_on : Version → ℕ → List Head → List (List ℕ) → List (List ℕ) → Result HeaderStart TraceFault
heads_on version cycles heads paths lines = heads_from version (3 + length heads) paths lines >>= λ found. Ok (record { cycles = cycles; heads = heads ++ found.0; lines = found.1 })

-- the header of every text that begins so has this version, so many cycles, and these heads first, the texts of whose paths are these
pub record OpensWith {Y : Type 0} (bytes begun : List ℕ) (version : Version) (cycles : ℕ) (heads : List Head) (set : BTreeSet (Vec ℕ Y)) : Type 0 where
  pub paths : List (List ℕ)
  pub many : length paths ≡ length heads
  pub few : length heads ≤ 65536
  pub told : HasTexts set paths
  pub opens : Opens bytes begun (heads_on version cycles heads paths)

-- a header of so many cycles and of these heads, and no rows
abbrev pub begun : ℕ → List Head → TraceText
begun cycles heads = record { cycles = cycles; heads = heads; rows = [] }

-- the trace that begins with this header and these rows, and goes on with the rows that the lines give
abbrev pub rows_on : TraceText → List (List ℕ) → Result TraceText TraceFault
rows_on t lines =
    rows_from (t.cycles * length t.heads) (length t.rows) (3 + length t.heads + length t.rows) (drop (length t.rows) (owed (params_of_heads t.heads) t.cycles)) lines
    >>= λ rows. Ok (record { cycles = t.cycles; heads = t.heads; rows = t.rows ++ rows })

-- the trace of every text that begins so has this header, and these rows first
abbrev pub GoesOn : (bytes begun : List ℕ) → TraceText → Type 0
GoesOn bytes begun t = (more : List ℕ) → trace_of (bytes ++ more) ≡ rows_on t (lines_of (begun ++ more))

-- the same, where a whole line comes first
abbrev pub GoesOnLine : (bytes line : List ℕ) → TraceText → Type 0
GoesOnLine bytes line t = (more : List ℕ) → trace_of ((bytes ++ 10 ∷ []) ++ more) ≡ rows_on t (line ∷ lines_of more)

-- the trace of a text that ends in this line, without an LF
abbrev pub EndsIn : (bytes line : List ℕ) → TraceText → Type 0
EndsIn bytes line t = trace_of bytes ≡ rows_on t (line ∷ [])
