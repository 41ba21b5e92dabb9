-- Benches: what is spelled is read.
use Rattle.std.proofs.Common.{◌≡◌, ℕ, suc, ◌+◌, ◌≤◌, ◌<◌, Bool, true, false, nat_lt, List, [], ◌∷◌, ◌++◌, append_assoc, append-nil, length, drop, map, slice_get, Option, Some, None, All, refl, sym, ap, ◌∙◌, arith}
use Rattle.std.specs.Prelude.{codes}
use Rattle.std.specs.Fmt.{decimal}
use Rattle.tydi_base.specs.Binary.{binary_of}
use Rattle.signal_layout.specs.declared.signal.Signal.{Signal}
use Rattle.signal_layout.specs.declared.signal.Signal.TheVariants as signals
use Rattle.std.specs.List.{flat_map, join_with_byte, list_all, list_any}
use Rattle.std.specs.Str.{bytes_eq}
use Rattle.std.proofs.lemmas.Bool.Decides.{nat_tests}
use Rattle.std.proofs.lemmas.List.Elements.{All-append, All-head, All-tail}
use Rattle.std.proofs.lemmas.List.Folds.{list_all-append}
use Rattle.std.proofs.lemmas.Slice.Eq.{bytes_eq-Decides}
use Rattle.tydi_base.specs.Path.{path_text}
use Rattle.tydi_base.specs.Pieces.{Lacks, pieces_of}
use Rattle.tydi_base.proofs.PieceLaws.{join-pieces_of, pieces_of-append, pieces_of-each_lacks, pieces_of-join}
use Rattle.tydi_base.proofs.PlainWords.{both, decimal-plain, some_line}
use Rattle.tydi_reading.specs.Lists.{mark}
use Rattle.tydi_reading.specs.Reading.{took}
use Rattle.physical_stream.specs.StreamLine.{IsHead, head_words, words_text}
use Rattle.physical_stream.specs.declared.head.Head.{Head}
use Rattle.physical_stream.proofs.HeadSpelling.{head_of-spelled, head_words-plain}
use Rattle.vhdl_text.specs.declared.bench.Bench.{Bench}
use Rattle.vhdl_text.specs.declared.bench.Stmt.{Stmt}
use Rattle.vhdl_text.specs.declared.bench.Stmt.TheVariants as stmts
use Rattle.vhdl_text.specs.Lines.{cut_last}
use Rattle.vhdl_text.specs.Reading.{bench_from, bench_in, bench_of, body_of, head_after, heads_from, is_comment, lines_text, the_lines, whole, BenchesAreReadAsPrinted}
use Rattle.vhdl_text.specs.Text.{await_line, bench_text, frame_text, pause_line, plain_name, process_text, put_line, quote_of, stream_comment}
use Rattle.vhdl_text.specs.WellFormed.{AreApart, IsStmt, IsWellFormed}
use Rattle.vhdl_text.proofs.CutLemmas.{all-append, are_lines-lack, cut_last-append, is_line, is_not, lacks-by, path_bytes-not, plain-line, words-line}
use Rattle.vhdl_text.proofs.LineLemmas.{assigned, await_line-flat, binary-all, plain_name-bytes, put_line-flat, quote_of-is}
use Rattle.vhdl_text.proofs.ProcessSpelling.{MayCome, all-at, await_lines, put_lines, stmt_lines, lines_text-append, not-some, process_lines, process_lines-text, procs-spelled}

-- ---- lines that are given

pub the_lines-given : (lines rest : List (List ℕ)) → the_lines lines (lines ++ rest) ≡ took tt rest
unfolding the_lines mark
the_lines-given [] rest = refl
the_lines-given (line ∷ lines) rest = let same : bytes_eq line line ≡ true = (bytes_eq-Decides line line).1 refl in rw (same, the_lines-given lines rest) refl

-- ---- streams

-- the line of a stream, as a comment
abbrev pub comment_line : Head → List ℕ
comment_line head = codes "-- " ++ words_text (head_words head)

-- heads that may stand after heads of these paths
pub record MayFollow (paths : List (List ℕ)) (heads : List Head) : Type 0 where
  pub each : All IsHead heads
  pub room : length paths + length heads ≤ 65536
  pub apart : AreApart heads
  pub new : (i : ℕ) (head : Head) → slice_get heads i ≡ Some head → list_any (bytes_eq (path_text head.path)) paths ≡ false

less : (a b : ℕ) → ◌≡◌ {A = ℕ} (suc a) (suc b) → a ≡ b
less a b e = omega arith

none_before : (a : ℕ) → ◌≡◌ {A = ℕ} (suc a) 0 → ⊥
none_before a e = omega arith

pub MayFollow-rest : (paths : List (List ℕ)) (head : Head) (heads : List Head) → MayFollow paths (head ∷ heads) → MayFollow (path_text head.path ∷ paths) heads
MayFollow-rest paths head heads may =
    let room = may.room in
    record {
      each = All-tail IsHead head heads may.each;
      room = omega arith;
      apart = λ a b one other here there same. less a b (may.apart (suc a) (suc b) one other here there same);
      new = λ i other there.
          let differs = not-some (bytes_eq (path_text other.path) (path_text head.path))
          (λ same. none_before i (may.apart (suc i) 0 other head there refl ((bytes_eq-Decides (path_text other.path) (path_text head.path)).0 same))) in
          rw (differs, may.new (suc i) other there) refl;
    }

head_after-spelled : (paths : List (List ℕ)) (head : Head) → IsHead head → length paths < 65536 → list_any (bytes_eq (path_text head.path)) paths ≡ false → head_after paths (comment_line head) ≡ Some head
unfolding head_after
head_after-spelled paths head h room new = let few : nat_lt (length paths) 65536 ≡ true = grind (arith, nat_tests) in rw (head_of-spelled head h, few, new) refl

pub heads_from-spelled : (paths : List (List ℕ)) (heads : List Head) (line : List ℕ) (rest : List (List ℕ)) → MayFollow paths heads → is_comment line ≡ false
    → heads_from paths (map comment_line heads ++ line ∷ rest) ≡ took heads (line ∷ rest)
heads_from-spelled paths [] line rest may other = rw other refl
heads_from-spelled paths (head ∷ heads) line rest may other =
    let room = may.room in
    let first = All-head IsHead head heads may.each in
    rw (head_after-spelled paths head first (omega arith) (may.new 0 head refl), heads_from-spelled (path_text head.path ∷ paths) heads line rest (MayFollow-rest paths head heads may) other) refl

-- ---- all lines of a bench

abbrev pub frame_lines : List Head → List (List ℕ)
frame_lines heads = pieces_of 10 (frame_text heads)

abbrev pub bench_lines : Bench → List (List ℕ)
bench_lines bench = codes "-- tydi-bench 1" ∷ (map comment_line bench.heads ++ (frame_lines bench.heads ++ (flat_map (process_lines bench.heads) bench.procs ++ codes "end architecture;" ∷ [])))

-- the frame begins with a line that is no comment
pub record FrameBegins (heads : List Head) : Type 0 where
  pub line : List ℕ
  pub rest : List (List ℕ)
  pub is : frame_lines heads ≡ line ∷ rest
  pub other : is_comment line ≡ false

pub frame-begins : (heads : List Head) → FrameBegins heads
frame-begins heads = record {
  line = codes "library ieee;";
  rest = pieces_of 10 (drop 14 (frame_text heads));
  is = pieces_of-append 10 (codes "library ieee;") (drop 14 (frame_text heads)) (lacks-by 10 (codes "library ieee;") refl);
  other = refl;
}

heads-found : (heads : List Head) (frame procs : List (List ℕ)) (line : List ℕ) (rest : List (List ℕ)) → MayFollow [] heads → frame ≡ line ∷ rest → is_comment line ≡ false
    → heads_from [] (map comment_line heads ++ (frame ++ procs)) ≡ took heads (frame ++ procs)
heads-found heads frame procs line rest may is other = rw is (heads_from-spelled [] heads line (rest ++ procs) may other)

pub bench_from-spelled : (bench : Bench) → IsWellFormed bench → bench_from (bench_lines bench) ≡ took bench []
unfolding bench_from body_of the_lines mark
bench_from-spelled bench well =
    let heads = bench.heads in
    let begins = frame-begins heads in
    let procs = flat_map (process_lines heads) bench.procs ++ codes "end architecture;" ∷ [] in
    let may : MayFollow [] heads = record { each = well.heads.each; room = omega (arith, well.heads.few); apart = well.heads.apart; new = λ i head there. refl } in
    let found : heads_from [] (map comment_line heads ++ (frame_lines heads ++ procs)) ≡ took heads (frame_lines heads ++ procs) =
    heads-found heads (frame_lines heads) procs begins.line begins.rest may begins.is begins.other in
    let come : MayCome heads [] bench.procs = record { room = omega (arith, well.count); are = well.stmts; stop = well.ends; once = well.once } in
    rw (found, the_lines-given (frame_lines heads) procs, procs-spelled heads well.heads.each well.heads.apart [] bench.procs [] come) refl

-- ---- the text of the lines

pub lines_text-join : (line : List ℕ) (lines : List (List ℕ)) → lines_text (line ∷ lines) ≡ join_with_byte 10 (line ∷ lines) ++ 10 ∷ []
lines_text-join line [] = append-nil (line ++ 10 ∷ [])
lines_text-join line (next ∷ lines) =
    append_assoc line (10 ∷ []) (lines_text (next ∷ lines)) ∙ ap (λ (t : List ℕ). line ++ 10 ∷ t) (lines_text-join next lines) ∙ sym (append_assoc line (10 ∷ join_with_byte 10 (next ∷ lines)) (10 ∷ []))

pub some-pieces : (pieces : List (List ℕ)) (text : List ℕ) → join_with_byte 10 pieces ≡ text → 0 < length pieces → lines_text pieces ≡ text ++ 10 ∷ []
some-pieces [] text is some = absurd (omega arith)
some-pieces (piece ∷ pieces) text is some = lines_text-join piece pieces ∙ ap (λ (t : List ℕ). t ++ 10 ∷ []) is

pub pieces-text : (text : List ℕ) → lines_text (pieces_of 10 text) ≡ text ++ 10 ∷ []
pieces-text text = some-pieces (pieces_of 10 text) text (join-pieces_of 10 text) (some_line text)

pub comments-text : (heads : List Head) → lines_text (map comment_line heads) ≡ flat_map stream_comment heads
comments-text [] = refl
comments-text (head ∷ heads) = ap (λ (t : List ℕ). stream_comment head ++ t) (comments-text heads)

procs-text : (heads : List Head) (procs : List (List Stmt)) → lines_text (flat_map (process_lines heads) procs) ≡ flat_map (process_text heads) procs
procs-text heads [] = refl
procs-text heads (process ∷ procs) = lines_text-append (process_lines heads process) (flat_map (process_lines heads) procs)
    ∙ ap (λ (t : List ℕ). t ++ lines_text (flat_map (process_lines heads) procs)) (process_lines-text heads process) ∙ ap (λ (t : List ℕ). process_text heads process ++ t) (procs-text heads procs)

-- the lines of a bench are its text
pub bench_lines-text : (bench : Bench) → lines_text (bench_lines bench) ≡ bench_text bench
bench_lines-text bench =
    let heads = bench.heads in
    let comments = map comment_line heads in
    let frame = frame_lines heads in
    let procs = flat_map (process_lines heads) bench.procs in
    let end = codes "end architecture;" ∷ [] in
    let last : lines_text (procs ++ end) ≡ flat_map (process_text heads) bench.procs ++ codes "end architecture;\n" = lines_text-append procs end ∙ ap (λ (t : List ℕ). t ++ codes "end architecture;\n") (procs-text heads bench.procs) in
    let body : lines_text (frame ++ (procs ++ end)) ≡ frame_text heads ++ 10 ∷ (flat_map (process_text heads) bench.procs ++ codes "end architecture;\n") =
    lines_text-append frame (procs ++ end) ∙ ap (λ (t : List ℕ). t ++ lines_text (procs ++ end)) (pieces-text (frame_text heads)) ∙ ap (λ (t : List ℕ). (frame_text heads ++ 10 ∷ []) ++ t) last
    ∙ (append_assoc (frame_text heads) (10 ∷ []) (flat_map (process_text heads) bench.procs ++ codes "end architecture;\n")) in
    ap (λ (t : List ℕ). codes "-- tydi-bench 1\n" ++ t) (lines_text-append comments (frame ++ (procs ++ end)) ∙ ap (λ (t : List ℕ). t ++ lines_text (frame ++ (procs ++ end))) (comments-text heads) ∙ ap (λ (t : List ℕ). flat_map stream_comment heads ++ t) body)

-- ---- the lines lack LF

pub comment_line-line : (head : Head) → IsHead head → is_line (comment_line head) ≡ true
comment_line-line head h = words-line (head_words head) (head_words-plain head h)

pub comments-line : (heads : List Head) → All IsHead heads → list_all is_line (map comment_line heads) ≡ true
comments-line [] each = refl
comments-line (head ∷ heads) each =
    both (is_line (comment_line head)) (list_all is_line (map comment_line heads)) (comment_line-line head (All-head IsHead head heads each)) (comments-line heads (All-tail IsHead head heads each))

put_line-line : (head : Head) (signal : Signal) (bits : List Bool) → IsHead head → is_line (put_line head signal bits) ≡ true
put_line-line head signal bits h =
    let mark = quote_of signal in
    let quote = (quote_of-is signal).line in
    let name = plain_name head signal in
    ap is_line (put_line-flat head signal bits) ∙ (all-append (is_not 10) name (92 ∷ assigned mark bits) (path_bytes-not 10 name refl (plain_name-bytes head signal h))
    (both (is_not 10 mark) (is_line (binary_of bits ++ mark ∷ codes ";")) quote (all-append (is_not 10) (binary_of bits) (mark ∷ codes ";") (binary-all (is_not 10) bits refl refl) (both (is_not 10 mark) true quote refl))))

await_line-line : (head : Head) → IsHead head → is_line (await_line head) ≡ true
await_line-line head h =
    let name = plain_name head signals.Ready in
    ap is_line (await_line-flat head) ∙ (all-append (is_not 10) name (92 ∷ codes " = '1';") (path_bytes-not 10 name refl (plain_name-bytes head signals.Ready h)) refl)

pause_line-line : (edges : ℕ) → edges ≤ 1000000 → is_line (pause_line edges) ≡ true
pause_line-line edges few = all-append (is_not 10) (decimal edges) (codes " loop") (plain-line (decimal edges) (decimal-plain edges (omega arith))) refl

put_lines-line : (heads : List Head) (found : Option Head) (stream : ℕ) (signal : Signal) (bits : List Bool) → All IsHead heads → slice_get heads stream ≡ found → list_all is_line (put_lines found signal bits) ≡ true
put_lines-line heads None stream signal bits each there = refl
put_lines-line heads (Some head) stream signal bits each there = both (is_line (put_line head signal bits)) true (put_line-line head signal bits (all-at IsHead heads stream head each there)) refl

await_lines-line : (heads : List Head) (found : Option Head) (stream : ℕ) → All IsHead heads → slice_get heads stream ≡ found → list_all is_line (await_lines found) ≡ true
await_lines-line heads None stream each there = refl
await_lines-line heads (Some head) stream each there = both (is_line (await_line head)) true (await_line-line head (all-at IsHead heads stream head each there)) refl

stmt_lines-line : (heads : List Head) (stmt : Stmt) → All IsHead heads → IsStmt heads stmt → list_all is_line (stmt_lines heads stmt) ≡ true
stmt_lines-line heads (stmts.Put stream signal bits) each is = put_lines-line heads (slice_get heads stream) stream signal bits each refl
stmt_lines-line heads (stmts.Await stream) each is = await_lines-line heads (slice_get heads stream) stream each refl
stmt_lines-line heads (stmts.Pause edges) each is = both (is_line (pause_line edges)) true (pause_line-line edges is.1) refl
stmt_lines-line heads stmts.Stop each is = refl

pub lines-append : (front rest : List (List ℕ)) → list_all is_line front ≡ true → list_all is_line rest ≡ true → list_all is_line (front ++ rest) ≡ true
lines-append front rest e f = list_all-append is_line front rest ∙ both (list_all is_line front) (list_all is_line rest) e f

stmts_lines-line : (heads : List Head) (process : List Stmt) → All IsHead heads → All (IsStmt heads) process → list_all is_line (flat_map (stmt_lines heads) process) ≡ true
stmts_lines-line heads [] each are = refl
stmts_lines-line heads (stmt ∷ process) each are =
    lines-append (stmt_lines heads stmt) (flat_map (stmt_lines heads) process) (stmt_lines-line heads stmt each (All-head (IsStmt heads) stmt process are)) (stmts_lines-line heads process each (All-tail (IsStmt heads) stmt process are))

procs_lines-line : (heads : List Head) (procs : List (List Stmt)) → All IsHead heads → All (All (IsStmt heads)) procs → list_all is_line (flat_map (process_lines heads) procs) ≡ true
procs_lines-line heads [] each are = refl
procs_lines-line heads (process ∷ procs) each are =
    lines-append (process_lines heads process) (flat_map (process_lines heads) procs)
    (lines-append (flat_map (stmt_lines heads) process) (codes "  end process;" ∷ []) (stmts_lines-line heads process each (All-head (All (IsStmt heads)) process procs are)) refl)
    (procs_lines-line heads procs each (All-tail (All (IsStmt heads)) process procs are))

bench_lines-lack : (bench : Bench) → IsWellFormed bench → All (Lacks 10) (bench_lines bench)
bench_lines-lack bench well =
    let heads = bench.heads in
    let procs = flat_map (process_lines heads) bench.procs in
    All-append (Lacks 10) (codes "-- tydi-bench 1" ∷ map comment_line heads) (frame_lines heads ++ (procs ++ codes "end architecture;" ∷ []))
    (are_lines-lack (codes "-- tydi-bench 1" ∷ map comment_line heads) (comments-line heads well.heads.each))
    (All-append (Lacks 10) (frame_lines heads) (procs ++ codes "end architecture;" ∷ []) (pieces_of-each_lacks 10 (frame_text heads))
    (are_lines-lack (procs ++ codes "end architecture;" ∷ []) (lines-append procs (codes "end architecture;" ∷ []) (procs_lines-line heads bench.procs well.heads.each well.stmts) refl)))

pub benches_read : BenchesAreReadAsPrinted
unfolding bench_of
benches_read bench well =
    let lines = bench_lines bench in
    let joined = join_with_byte 10 lines in
    let text : bench_text bench ≡ joined ++ 10 ∷ [] = sym (bench_lines-text bench) ∙ some-pieces lines joined refl (omega arith) in
    ap (λ (t : List ℕ). bench_in (cut_last 10 t)) text ∙ ap bench_in (cut_last-append 10 joined [] (lacks-by 10 [] refl))
    ∙ ap (λ (l : List (List ℕ)). whole (length joined + 1) [] (bench_from l)) (pieces_of-join 10 lines (omega arith) (bench_lines-lack bench well)) ∙ ap (whole (length joined + 1) []) (bench_from-spelled bench well)
