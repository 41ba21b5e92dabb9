-- The fault of a trace text is never want of memory.
use Rattle.std.proofs.Common.{◌≡◌, ℕ, suc, List, [], ◌∷◌, Result, Ok, Err, IsSome, refl}
use Rattle.std.proofs.lemmas.Bool.{cond_both}
use Rattle.tydi_base.proofs.ReadingLaws.{FaultsAre, faults_are}
use Rattle.tydi_base.specs.Pieces.{words_of}
use Rattle.physical_stream.specs.Params.{Parameters}
use Rattle.physical_stream.specs.Cycles.{Cycle}
use Rattle.cycle_trace.specs.Faults.{fault_in}
use Rattle.cycle_trace.specs.declared.version.Version.{Version}
use Rattle.cycle_trace.specs.HeaderText.{in_header, heads_from, header_start_after, header_start_of}
use Rattle.cycle_trace.specs.RowText.{has_form, row_of, row_at}
use Rattle.cycle_trace.specs.TraceText.{rows_from, trace_from, trace_of}
use Rattle.cycle_trace.specs.declared.fault.TraceFault.{TraceFault}
use Rattle.cycle_trace.specs.declared.fault.TraceFault.TheVariants as faults
use Rattle.cycle_trace.proofs.ReaderLemmas.{not_memory}

-- a fault that is no want of memory
abbrev Calm : TraceFault → Type 0
Calm fault = IsSome (fault_in fault)

in_header-calm : {A : Type 0} (line : ℕ) (read : Result A (Unit {0})) → FaultsAre Calm (in_header line read)
in_header-calm line (Ok x) = search faults_are
in_header-calm line (Err u) = search faults_are

heads_from-calm : (version : Version) (number : ℕ) (paths lines : List (List ℕ)) → FaultsAre Calm (heads_from version number paths lines)
heads_from-calm version number paths [] = search faults_are
heads_from-calm version number paths (last ∷ []) = search faults_are
heads_from-calm version number paths (line ∷ next ∷ lines) =
    let later : (before : List (List ℕ)) → FaultsAre Calm (heads_from version (suc number) before (next ∷ lines)) = λ before. heads_from-calm version (suc number) before (next ∷ lines) in
    search (faults_are, in_header-calm, later)

header_start_after-calm : (version : Version) (lines : List (List ℕ)) → FaultsAre Calm (header_start_after version lines)
unfolding header_start_after
header_start_after-calm version [] = search faults_are
header_start_after-calm version (last ∷ []) = search faults_are
header_start_after-calm version (second ∷ next ∷ lines) = search (faults_are, in_header-calm, heads_from-calm)

header_start_of-calm : (lines : List (List ℕ)) → FaultsAre Calm (header_start_of lines)
unfolding header_start_of
header_start_of-calm [] = search faults_are
header_start_of-calm (last ∷ []) = search faults_are
header_start_of-calm (first ∷ next ∷ lines) = search (faults_are, in_header-calm, header_start_after-calm)

row_at-calm : (number : ℕ) (p : Parameters) (line : List ℕ) (read : Result Cycle (Unit {0})) → row_of p line ≡ read → FaultsAre Calm (row_at number p line)
unfolding row_at
row_at-calm number p line (Ok cycle) is = rw is (search faults_are)
row_at-calm number p line (Err u) is = rw is (record { are = cond_both (has_form (words_of line)) (faults.WrongSignals number) (faults.BadRow number) Calm (λ form. refl) (λ form. refl) })

rows_from-calm : (want got number : ℕ) (streams : List Parameters) (lines : List (List ℕ)) → FaultsAre Calm (rows_from want got number streams lines)
rows_from-calm want got number [] [] = search faults_are
rows_from-calm want got number [] ([] ∷ []) = search faults_are
rows_from-calm want got number [] lines = search faults_are
rows_from-calm want got number (p ∷ streams) [] = search faults_are
rows_from-calm want got number (p ∷ streams) ([] ∷ []) = search faults_are
rows_from-calm want got number (p ∷ streams) ((byte ∷ cut) ∷ []) = search faults_are
rows_from-calm want got number (p ∷ streams) (line ∷ next ∷ lines) =
    search (faults_are, row_at-calm number p line (row_of p line) refl, rows_from-calm want (suc got) (suc number) streams (next ∷ lines))

-- the fault of a trace text is never want of memory
pub trace_free : (text : List ℕ) → trace_of text ≡ Err faults.Memory → ⊥
unfolding trace_of trace_from
trace_free text = let all : FaultsAre Calm (trace_of text) = search (faults_are, header_start_of-calm, rows_from-calm) in not_memory (trace_of text) all.are
