-- The text of a trace: each spelling is read, and each text that is read is a spelling.
use Rattle.std.proofs.Common.{◌≡◌, ℕ, ◌+◌, ◌*◌, ◌^◌, ◌<◌, ◌≤◌, Bool, true, false, cond, nat_le, nat_eq, List, [], ◌∷◌, ◌++◌, length, drop, Result, Ok, Err, append_assoc, All, refl, sym, ap, ◌∙◌, arith}
use Rattle.std.specs.Prelude.{codes}
use Rattle.std.specs.Fmt.{decimal}
use Rattle.std.specs.List.{flat_map, join_with_byte, starts_with}
use Rattle.std.specs.Option.{is_some}
use Rattle.std.specs.Str.{bytes_eq}
use Rattle.std.proofs.lemmas.Bool.Decides.{nat_tests, Decides-eqb}
use Rattle.std.proofs.lemmas.List.Elements.{All-head, All-tail}
use Rattle.std.proofs.lemmas.Slice.Eq.{bytes_eq-Decides, starts_is}
use Rattle.tydi_base.specs.Pieces.{lines_of}
use Rattle.tydi_base.specs.Reading.{◌>>=◌}
use Rattle.tydi_base.proofs.PieceLaws.{join-pieces_of}
use Rattle.tydi_base.proofs.ReadingLaws.{bind_ok, ok_is}
use Rattle.tydi_base.proofs.TestLemmas.{kept}
use Rattle.physical_stream.specs.Params.{Parameters}
use Rattle.physical_stream.specs.Cycles.{Cycle}
use Rattle.physical_stream.specs.declared.head.Head.{Head}
use Rattle.tydi_base.proofs.SetLemmas.{are_new-none}
use Rattle.cycle_trace.specs.declared.fault.TraceFault.{TraceFault}
use Rattle.cycle_trace.specs.declared.fault.TraceFault.TheVariants.{TooManyCycles}
use Rattle.physical_stream.specs.StreamLine.{header_number}
use Rattle.cycle_trace.specs.HeaderText.{is_head_line, in_header, heads_from, count_of_cycles, HeaderStart, title_of, header_start_after, header_start_of}
use Rattle.physical_stream.specs.StreamLine.{IsHead, head_text}
use Rattle.cycle_trace.specs.declared.version.Version.{Version}
use Rattle.cycle_trace.specs.declared.version.Version.TheVariants.{One, Two}
use Rattle.cycle_trace.specs.Version.{may_have, title_text}
use Rattle.cycle_trace.specs.Spelling.{IsTextOf, header_text, bit_text, row_line, rows_text, TracesAreReadAsSpelled, TracesAreSpelledAsRead}
use Rattle.cycle_trace.specs.Trace.{TraceText, IsTrace, AreShown, all_distinct, are_heads, most_cycles, params_of_heads, owed}
use Rattle.cycle_trace.specs.TraceText.{rows_after, trace_from, trace_of}
use Rattle.tydi_base.proofs.PlainWords.{are_plain, and_parts, both, decimal-plain, lines_of-plain, some_line}
use Rattle.cycle_trace.proofs.HeaderLemmas.{heads_from-other}
use Rattle.cycle_trace.proofs.RowsSpelling.{have_lanes, have_lanes-first, have_lanes-owed, rows_text-lines, AreShown-first, rows_from-spelled, rows_from-some}
use Rattle.physical_stream.proofs.HeadSpelling.{header_number-spelled, header_number-some}
use Rattle.cycle_trace.proofs.HeadsSpelling.{paths_of, in_header-some, EndsHeads, MayFollow, heads_from-spelled, heads_from-some}

-- ---- rows are no stream lines

row_line-is_no_head : (valid : Bool) (rest : List ℕ) → is_head_line (bit_text valid ++ 32 ∷ rest) ≡ false
row_line-is_no_head true rest = refl
row_line-is_no_head false rest = refl

rows_text-ends_heads : (streams : List Parameters) (cycles : List Cycle) → have_lanes streams ≡ true → AreShown streams cycles → EndsHeads (rows_text streams cycles)
rows_text-ends_heads [] cycles lanes shown version number paths = refl
rows_text-ends_heads (p ∷ streams) [] lanes shown version number paths = refl
rows_text-ends_heads (p ∷ streams) (cycle ∷ cycles) lanes shown version number paths =
    let lines = lines_of (rows_text streams cycles) in
    let few = have_lanes-first p streams lanes in
    let split = rows_text-lines p streams cycle cycles few (AreShown-first p streams cycle cycles shown) in
    rw split (heads_from-other version number paths (row_line p cycle) lines (some_line (rows_text streams cycles)) (row_line-is_no_head (is_some cycle.shown) _))

-- ---- the header that lines start with

count_of_cycles-spelled : (cycles : ℕ) → cycles < 10 ^ 10 → count_of_cycles (codes "cycles " ++ decimal cycles) ≡ Ok cycles
unfolding count_of_cycles
count_of_cycles-spelled cycles below = header_number-spelled cycles below

count_of_cycles-some : (line : List ℕ) (cycles : ℕ) → count_of_cycles line ≡ Ok cycles → line ≡ codes "cycles " ++ decimal cycles
unfolding count_of_cycles
count_of_cycles-some line cycles e =
    let test = kept (starts_with nat_eq line (codes "cycles ")) (header_number (drop 7 line)) tt cycles e in
    (starts_is Decides-eqb line (codes "cycles ") (starts_with nat_eq line (codes "cycles ")) refl).0 test.0 ∙ ap (λ (digits : List ℕ). codes "cycles " ++ digits) (header_number-some (drop 7 line) cycles test.1)

title_of-some : (line : List ℕ) (version : Version) → title_of line ≡ Ok version → line ≡ title_text version
unfolding title_of
title_of-some line version e = by_tests (bytes_eq line (title_text One)) (bytes_eq line (title_text Two)) refl refl e
  where
    by_tests : (one two : Bool) → bytes_eq line (title_text One) ≡ one → bytes_eq line (title_text Two) ≡ two → ◌≡◌ {A = Result Version (Unit {0})} (cond one (Ok One) (cond two (Ok Two) (Err tt))) (Ok version) → line ≡ title_text version
    by_tests true two is other e = let same = ok_is {F = Unit {0}} One version e in rw (← same) ((bytes_eq-Decides line (title_text One)).0 is)
    by_tests false true is other e = let same = ok_is {F = Unit {0}} Two version e in rw (← same) ((bytes_eq-Decides line (title_text Two)).0 other)
    by_tests false false is other e = absurd cc

title_of-spelled : (version : Version) → title_of (title_text version) ≡ Ok version
unfolding title_of
title_of-spelled One = refl
title_of-spelled Two = refl

header_start_of-cons : (version : Version) (lines : List (List ℕ)) (cycles : ℕ) (found : List Head × List (List ℕ)) → cycles < 10 ^ 10 → 0 < length lines → heads_from version 3 [] lines ≡ Ok found
    → header_start_of (title_text version ∷ (codes "cycles " ++ decimal cycles) ∷ lines) ≡ Ok (record { cycles = cycles; heads = found.0; lines = found.1 })
unfolding header_start_of header_start_after
header_start_of-cons version [] cycles found below some e = absurd (omega arith)
header_start_of-cons version (next ∷ lines) cycles found below some e = rw (title_of-spelled version, count_of_cycles-spelled cycles below, e) refl

-- the header that was read of the first lines
record HeaderStartRead (lines : List (List ℕ)) (start : HeaderStart) : Type 0 where
  version : Version
  spelled : join_with_byte 10 lines ≡ header_text version start.cycles start.heads ++ join_with_byte 10 start.lines
  some : 0 < length start.lines
  may : MayFollow version [] start.heads

-- a header in front of more
header-rest : (title : List ℕ) (cycles : ℕ) (heads rest : List ℕ) → (title ++ (10 ∷ (codes "cycles " ++ (decimal cycles ++ (10 ∷ heads))))) ++ rest ≡ title ++ (10 ∷ (codes "cycles " ++ (decimal cycles ++ (10 ∷ (heads ++ rest)))))
header-rest title cycles heads rest =
    append_assoc title (10 ∷ (codes "cycles " ++ (decimal cycles ++ (10 ∷ heads)))) rest
    ∙ ap (λ (text : List ℕ). title ++ (10 ∷ (codes "cycles " ++ text))) (append_assoc (decimal cycles) (10 ∷ heads) rest)

joined : (version : Version) (title line : List ℕ) (lines rest : List (List ℕ)) (cycles : ℕ) (heads : List Head) → title ≡ title_text version → line ≡ codes "cycles " ++ decimal cycles
    → join_with_byte 10 lines ≡ flat_map head_text heads ++ join_with_byte 10 rest
    → title ++ 10 ∷ (line ++ 10 ∷ join_with_byte 10 lines) ≡ header_text version cycles heads ++ join_with_byte 10 rest
joined version title line lines rest cycles heads p q r =
    rw (p, q, r, header-rest (title_text version) cycles (flat_map head_text heads) (join_with_byte 10 rest), append_assoc (codes "cycles ") (decimal cycles) (10 ∷ (flat_map head_text heads ++ join_with_byte 10 rest))) refl

header_start_of-some : (lines : List (List ℕ)) (start : HeaderStart) → header_start_of lines ≡ Ok start → HeaderStartRead lines start
unfolding header_start_of header_start_after
header_start_of-some [] start e = absurd cc
header_start_of-some (title ∷ []) start e = absurd cc
header_start_of-some (title ∷ line ∷ []) start e = absurd (cc ((bind_ok (in_header 1 (title_of title)) _ start e).2))
header_start_of-some (title ∷ line ∷ next ∷ lines) start e =
    let fine = bind_ok (in_header 1 (title_of title)) _ start e in
    let cycles = bind_ok (in_header 2 (count_of_cycles line)) _ start fine.2 in
    let found = bind_ok (heads_from fine.0 3 [] (next ∷ lines)) _ start cycles.2 in
    let same = ok_is (record { cycles = cycles.0; heads = found.0.0; lines = found.0.1 }) start found.2 in
    let heads = heads_from-some fine.0 3 [] (next ∷ lines) found.0 (omega arith) (omega arith) found.1 in
    rw (← same) (record {
      version = fine.0;
      spelled = joined fine.0 title line (next ∷ lines) found.0.1 cycles.0 found.0.0 (title_of-some title fine.0 (in_header-some 1 (title_of title) fine.0 fine.1))
          (count_of_cycles-some line cycles.0 (in_header-some 2 (count_of_cycles line) cycles.0 cycles.1)) heads.spelled;
      some = heads.some;
      may = heads.may;
    })

-- ---- the trace

heads-lanes : (heads : List Head) → All IsHead heads → have_lanes (params_of_heads heads) ≡ true
heads-lanes [] each = refl
heads-lanes (head ∷ heads) each =
    let range = (All-head IsHead head heads each).range in
    let few : nat_le head.params.lanes 128 ≡ true = grind (arith, nat_tests) in
    both (nat_le head.params.lanes 128) (have_lanes (params_of_heads heads)) few (heads-lanes heads (All-tail IsHead head heads each))

are_heads-to : (version : Version) (heads : List Head) → All IsHead heads → may_have version heads ≡ true → are_heads heads ≡ true → MayFollow version [] heads
are_heads-to version heads each fits e =
    let parts = and_parts (nat_le (length heads) 65536) (all_distinct (paths_of heads)) e in
    let few = parts.0 in
    let room : length heads ≤ 65536 = grind (arith, nat_tests) in
    record { each = each; fits = fits; room = omega arith; distinct = parts.1; new = are_new-none (paths_of heads) }

are_heads-from : (version : Version) (heads : List Head) → MayFollow version [] heads → are_heads heads ≡ true
are_heads-from version heads h =
    let room = h.room in
    let few : length heads ≤ 65536 = omega arith in
    both (nat_le (length heads) 65536) (all_distinct (paths_of heads)) (grind (arith, nat_tests)) h.distinct

-- the heads of a header that is read may stand together
pub header_start_of-are_heads : (lines : List (List ℕ)) (start : HeaderStart) → header_start_of lines ≡ Ok start → are_heads start.heads ≡ true
header_start_of-are_heads lines start e = let read = header_start_of-some lines start e in are_heads-from read.version start.heads read.may

title_line : (version : Version) (after : List ℕ) → lines_of (title_text version ++ 10 ∷ after) ≡ title_text version ∷ lines_of after
title_line One after = lines_of-plain (codes "tydi-trace" ∷ codes "1" ∷ []) after refl
title_line Two after = lines_of-plain (codes "tydi-trace" ∷ codes "2" ∷ []) after refl

header_lines : (version : Version) (cycles : ℕ) (heads : List Head) (rest : List ℕ) → cycles < 2 ^ 64
    → lines_of (header_text version cycles heads ++ rest) ≡ title_text version ∷ (codes "cycles " ++ decimal cycles) ∷ lines_of (flat_map head_text heads ++ rest)
header_lines version cycles heads rest below =
    let after = flat_map head_text heads ++ rest in
    let plain : are_plain (codes "cycles" ∷ decimal cycles ∷ []) ≡ true = rw (decimal-plain cycles below) refl in
    ap lines_of (header-rest (title_text version) cycles (flat_map head_text heads) rest)
    ∙ title_line version (codes "cycles " ++ (decimal cycles ++ (10 ∷ after)))
    ∙ ap (λ (lines : List (List ℕ)). title_text version ∷ lines) (lines_of-plain (codes "cycles" ∷ decimal cycles ∷ []) after plain)

trace_from-spelled : (t : TraceText) (lines : List (List ℕ)) → t.cycles ≤ most_cycles → rows_after t.cycles t.heads lines ≡ Ok t.rows
    → trace_from (record { cycles = t.cycles; heads = t.heads; lines = lines }) ≡ Ok t
unfolding trace_from
trace_from-spelled t lines few rows =
    let test : nat_le t.cycles most_cycles ≡ true = grind (arith, nat_tests) in
    rw (test, rows) refl

pub trace_of-spelled : TracesAreReadAsSpelled
unfolding trace_of
trace_of-spelled version t h each fits =
    let few = h.few_cycles in
    let streams = owed (params_of_heads t.heads) t.cycles in
    let rows = rows_text streams t.rows in
    let lanes = have_lanes-owed (params_of_heads t.heads) t.cycles (heads-lanes t.heads each) in
    let heads = heads_from-spelled version 3 [] t.heads rows (are_heads-to version t.heads each fits h.streams) (rows_text-ends_heads streams t.rows lanes h.shown) in
    let after = flat_map head_text t.heads ++ rows in
    let start = header_start_of-cons version (lines_of after) t.cycles (t.heads, lines_of rows) (omega arith) (some_line after) heads in
    let read = rows_from-spelled (t.cycles * length t.heads) 0 (3 + length t.heads) streams t.rows lanes h.shown in
    ap (λ (lines : List (List ℕ)). header_start_of lines >>= trace_from) (header_lines version t.cycles t.heads rows (omega arith))
    ∙ ap (λ (read : Result HeaderStart TraceFault). read >>= trace_from) start
    ∙ trace_from-spelled t (lines_of rows) few read

-- the trace that is read after that header
trace_from-some : (start : HeaderStart) (text : List ℕ) (t : TraceText) → HeaderStartRead (lines_of text) start → trace_from start ≡ Ok t → IsTrace t × IsTextOf text t × All IsHead t.heads
unfolding trace_from
trace_from-some start text t h e =
    let streams = owed (params_of_heads start.heads) start.cycles in
    let test = kept (nat_le start.cycles most_cycles) (rows_after start.cycles start.heads start.lines >>= λ rows. Ok (record { cycles = start.cycles; heads = start.heads; rows = rows })) TooManyCycles t e in
    let few = test.0 in
    let rows = bind_ok (rows_after start.cycles start.heads start.lines) _ t test.1 in
    let same = ok_is (record { cycles = start.cycles; heads = start.heads; rows = rows.0 }) t rows.2 in
    let read = rows_from-some (start.cycles * length start.heads) 0 (3 + length start.heads) streams start.lines rows.0 h.some rows.1 in
    let spelled = sym (join-pieces_of 10 text) ∙ h.spelled ∙ ap (λ (rest : List ℕ). header_text h.version start.cycles start.heads ++ rest) read.spelled in
    rw (← same) (record { few_cycles = grind (arith, nat_tests); streams = are_heads-from h.version start.heads h.may; shown = read.shown }, record { version = h.version; fits = h.may.fits; spelled = spelled }, h.may.each)

pub trace_of-some : TracesAreSpelledAsRead
unfolding trace_of
trace_of-some text t e =
    let start = bind_ok (header_start_of (lines_of text)) trace_from t e in
    trace_from-some start.0 text t (header_start_of-some (lines_of text) start.0 start.1) start.2
