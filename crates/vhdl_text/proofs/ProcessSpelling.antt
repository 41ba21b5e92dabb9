-- Processes: what is spelled is read.
use Rattle.std.proofs.Common.{◌≡◌, ℕ, suc, ◌+◌, ◌*◌, ◌≤◌, ◌<◌, Bool, true, false, ◌||◌, nat_lt, List, [], ◌∷◌, ◌++◌, append_assoc, append-nil, length, length-append, get_or, slice_get, Option, Some, None, Ok, All, refl, sym, ap, ◌∙◌, subst, arith}
use Rattle.std.specs.Prelude.{codes}
use Rattle.std.specs.List.{flat_map, list_any}
use Rattle.std.proofs.lemmas.Bool.Decides.{nat_tests}
use Rattle.std.proofs.lemmas.Grind.{flat_map-append}
use Rattle.std.proofs.Math.Seq.{get_or-append_seam}
use Rattle.std.proofs.lemmas.List.{get_or_append_left}
use Rattle.std.proofs.lemmas.List.Elements.{All-head, All-tail}
use Rattle.std.proofs.lemmas.Option.{slice_get-get_or, slice_get_within}
use Rattle.tydi_base.proofs.PlaceLemmas.{slice_get-there}
use Rattle.tydi_reading.specs.Reading.{took}
use Rattle.physical_stream.specs.StreamLine.{IsHead}
use Rattle.physical_stream.specs.declared.head.Head.{Head}
use Rattle.signal_layout.specs.declared.signal.Signal.{Signal}
use Rattle.vhdl_text.specs.declared.bench.Stmt.{Stmt}
use Rattle.vhdl_text.specs.declared.bench.Stmt.TheVariants as stmts
use Rattle.vhdl_text.specs.declared.stage.Stage.TheVariants as stages
use Rattle.vhdl_text.specs.Lines.{edges_of}
use Rattle.vhdl_text.specs.Reading.{Progress, after, ends, lines_text, procs_from}
use Rattle.vhdl_text.specs.Text.{await_line, pause_line, process_text, put_line, put_text, await_text, stmt_text}
use Rattle.vhdl_text.specs.WellFormed.{AreApart, AreDrivenOnce, EndsInStop, IsPut, IsStmt, drives, puts}
use Rattle.vhdl_text.proofs.StmtLemmas.{edges_of-spelled, is_signal-own, stmt_of-await, stmt_of-put}

-- ---- lines

abbrev pub put_lines : Option Head → Signal → List Bool → List (List ℕ)
put_lines None signal bits = []
put_lines (Some head) signal bits = put_line head signal bits ∷ []

abbrev pub await_lines : Option Head → List (List ℕ)
await_lines None = []
await_lines (Some head) = await_line head ∷ []

-- the lines of a statement
abbrev pub stmt_lines : List Head → Stmt → List (List ℕ)
stmt_lines heads (stmts.Put stream signal bits) = put_lines (slice_get heads stream) signal bits
stmt_lines heads (stmts.Pause edges) = pause_line edges ∷ codes "      wait until rising_edge(clk);" ∷ codes "    end loop;" ∷ []
stmt_lines heads (stmts.Await stream) = await_lines (slice_get heads stream)
stmt_lines heads stmts.Stop = codes "    wait;" ∷ []

-- the lines of a process
abbrev pub process_lines : List Head → List Stmt → List (List ℕ)
process_lines heads process = codes "  process" ∷ codes "  begin" ∷ (flat_map (stmt_lines heads) process ++ codes "  end process;" ∷ [])

pub lines_text-append : (front rest : List (List ℕ)) → lines_text (front ++ rest) ≡ lines_text front ++ lines_text rest
lines_text-append front rest = flat_map-append (λ (line : List ℕ). line ++ 10 ∷ []) front rest

put_lines-text : (found : Option Head) (signal : Signal) (bits : List Bool) → lines_text (put_lines found signal bits) ≡ put_text found signal bits
put_lines-text None signal bits = refl
put_lines-text (Some head) signal bits = append-nil (put_line head signal bits ++ 10 ∷ [])

await_lines-text : (found : Option Head) → lines_text (await_lines found) ≡ await_text found
await_lines-text None = refl
await_lines-text (Some head) = append-nil (await_line head ++ 10 ∷ [])

stmt_lines-text : (heads : List Head) (stmt : Stmt) → lines_text (stmt_lines heads stmt) ≡ stmt_text heads stmt
stmt_lines-text heads (stmts.Put stream signal bits) = put_lines-text (slice_get heads stream) signal bits
stmt_lines-text heads (stmts.Pause edges) = append_assoc (pause_line edges) (10 ∷ []) (codes "      wait until rising_edge(clk);\n    end loop;\n")
stmt_lines-text heads (stmts.Await stream) = await_lines-text (slice_get heads stream)
stmt_lines-text heads stmts.Stop = refl

stmts_lines-text : (heads : List Head) (process : List Stmt) → lines_text (flat_map (stmt_lines heads) process) ≡ flat_map (stmt_text heads) process
stmts_lines-text heads [] = refl
stmts_lines-text heads (stmt ∷ process) =
    lines_text-append (stmt_lines heads stmt) (flat_map (stmt_lines heads) process) ∙ rw (stmt_lines-text heads stmt, stmts_lines-text heads process) refl

pub process_lines-text : (heads : List Head) (process : List Stmt) → lines_text (process_lines heads process) ≡ process_text heads process
unfolding process_text
process_lines-text heads process =
    ap (λ (t : List ℕ). codes "  process\n  begin\n" ++ t)
    (lines_text-append (flat_map (stmt_lines heads) process) (codes "  end process;" ∷ []) ∙ ap (λ (t : List ℕ). t ++ codes "  end process;\n") (stmts_lines-text heads process))

-- ---- one line more

pub one_line : (heads : List Head) (now next : Progress) (line : List ℕ) (lines : List (List ℕ)) → ends now line ≡ false → after heads now line ≡ Ok next
    → procs_from heads now (line ∷ lines) ≡ procs_from heads next lines
one_line heads now next line lines goes_on is = rw (goes_on, is) refl

-- in a process, after these processes and statements
abbrev pub inside : List (List Stmt) → List Stmt → Progress
inside procs done = record { stage = stages.Statements; procs = procs; stmts = done }

abbrev pub stopped_at : List (List Stmt) → List Stmt → Progress
stopped_at procs done = record { stage = stages.EndProcess; procs = procs; stmts = done }

abbrev pub between : List (List Stmt) → Progress
between procs = record { stage = stages.Between; procs = procs; stmts = [] }

pub all-at : {A : Type 0} (P : A → Type 0) (xs : List A) (i : ℕ) (x : A) → All P xs → slice_get xs i ≡ Some x → P x
all-at P xs i x each there =
    let within = slice_get_within xs i x there in
    subst P (some_is (get_or xs i x) x (sym (slice_get-get_or xs i x within) ∙ there)) (each i x within)
  where
    some_is : {A : Type 0} (a b : A) → ◌≡◌ {A = Option A} (Some a) (Some b) → a ≡ b
    some_is a b e = cc

-- no statement assigns to what an earlier process assigns to
abbrev pub AreNew : List (List Stmt) → List Stmt → Type 0
AreNew procs todo = (stream : ℕ) (signal : Signal) → drives stream signal todo ≡ true → list_any (drives stream signal) procs ≡ false

AreNew-rest : (procs : List (List Stmt)) (stmt : Stmt) (todo : List Stmt) → AreNew procs (stmt ∷ todo) → AreNew procs todo
AreNew-rest procs stmt todo new stream signal drive = new stream signal (or-right (puts stream signal stmt) (drives stream signal todo) drive)
  where
    or-right : (a b : Bool) → b ≡ true → (a || b) ≡ true
    or-right true b e = refl
    or-right false b e = e

pub not-some : (test : Bool) → (test ≡ true → ⊥) → test ≡ false
not-some true none = absurd (none refl)
not-some false none = refl

-- where one of a list passes a test
pub any-at : {A : Type 0} (d : A) (test : A → Bool) (xs : List A) → list_any test xs ≡ true → (i : ℕ) × (i < length xs) × (test (get_or xs i d) ≡ true)
any-at d test [] e = absurd cc
any-at d test (x ∷ xs) e = by_test (λ later. any-at d test xs later) (test x) refl e
  where
    by_test : (list_any test xs ≡ true → (i : ℕ) × (i < length xs) × (test (get_or xs i d) ≡ true)) → (here : Bool) → test x ≡ here → (here || list_any test xs) ≡ true
        → (i : ℕ) × (i < length (x ∷ xs)) × (test (get_or (x ∷ xs) i d) ≡ true)
    by_test later true is e = (0, omega arith, is)
    by_test later false is e = let found = later e in let within = found.1 in (suc found.0, omega arith, found.2)

-- the processes that are still to come beside those before
pub record MayCome (heads : List Head) (procs todo : List (List Stmt)) : Type 0 where
  pub room : length procs + length todo ≤ 2 * length heads
  pub are : All (All (IsStmt heads)) todo
  pub stop : All EndsInStop todo
  pub once : AreDrivenOnce (procs ++ todo)

-- ---- the statements of a process

module _ (heads : List Head) (each : All IsHead heads) (apart : AreApart heads) where
  put-line : (procs : List (List Stmt)) (done : List Stmt) (stream : ℕ) (signal : Signal) (bits : List Bool) → (put : IsPut heads stream signal bits) → list_any (drives stream signal) procs ≡ false
      → after heads (inside procs done) (put_line put.head signal bits) ≡ Ok (inside procs (done ++ stmts.Put stream signal bits ∷ []))
  unfolding after edges_of
  put-line procs done stream signal bits put new = rw (stmt_of-put heads procs stream signal bits each apart put (all-at IsHead heads stream put.head each put.stands) new) refl

  await-line : (procs : List (List Stmt)) (done : List Stmt) (stream : ℕ) (head : Head) → slice_get heads stream ≡ Some head
      → after heads (inside procs done) (await_line head) ≡ Ok (inside procs (done ++ stmts.Await stream ∷ []))
  unfolding after edges_of
  await-line procs done stream head there = rw (stmt_of-await heads procs stream head apart there (all-at IsHead heads stream head each there)) refl

  pause-line : (procs : List (List Stmt)) (done : List Stmt) (edges : ℕ) → 1 ≤ edges → edges ≤ 1000000
      → after heads (inside procs done) (pause_line edges) ≡ Ok (record { stage = stages.Inside edges; procs = procs; stmts = done })
  unfolding after
  pause-line procs done edges some few = rw (edges_of-spelled edges some few) refl

  stmts-spelled : (procs : List (List Stmt)) (done todo : List Stmt) (rest : List (List ℕ)) → All (IsStmt heads) todo → EndsInStop todo → AreNew procs todo
      → procs_from heads (inside procs done) (flat_map (stmt_lines heads) todo ++ rest) ≡ procs_from heads (stopped_at procs (done ++ todo)) rest
  unfolding after
  stmts-spelled procs done [] rest are stop new = absurd stop
  stmts-spelled procs done (stmts.Stop ∷ more) rest are stop new = rw stop refl
  stmts-spelled procs done (stmts.Put stream signal bits ∷ more) rest are stop new =
      let put : IsPut heads stream signal bits = All-head (IsStmt heads) (stmts.Put stream signal bits) more are in
      let own : drives stream signal (stmts.Put stream signal bits ∷ more) ≡ true = rw (is_signal-own stream signal) refl in
      let later = stmts-spelled procs (done ++ stmts.Put stream signal bits ∷ []) more rest (All-tail (IsStmt heads) (stmts.Put stream signal bits) more are) stop (AreNew-rest procs (stmts.Put stream signal bits) more new) in
      rw put.stands (
      one_line heads (inside procs done) (inside procs (done ++ stmts.Put stream signal bits ∷ [])) (put_line put.head signal bits) (flat_map (stmt_lines heads) more ++ rest) refl (put-line procs done stream signal bits put (new stream signal own))
      ∙ later ∙ ap (λ (all : List Stmt). procs_from heads (stopped_at procs all) rest) (append_assoc done (stmts.Put stream signal bits ∷ []) more)
      )
  stmts-spelled procs done (stmts.Await stream ∷ more) rest are stop new =
      let there = slice_get-there heads stream (All-head (IsStmt heads) (stmts.Await stream) more are) in
      let later = stmts-spelled procs (done ++ stmts.Await stream ∷ []) more rest (All-tail (IsStmt heads) (stmts.Await stream) more are) stop (AreNew-rest procs (stmts.Await stream) more new) in
      rw there.1 (
      one_line heads (inside procs done) (inside procs (done ++ stmts.Await stream ∷ [])) (await_line there.0) (flat_map (stmt_lines heads) more ++ rest) refl (await-line procs done stream there.0 there.1)
      ∙ later ∙ ap (λ (all : List Stmt). procs_from heads (stopped_at procs all) rest) (append_assoc done (stmts.Await stream ∷ []) more)
      )
  stmts-spelled procs done (stmts.Pause edges ∷ more) rest are stop new =
      let within = All-head (IsStmt heads) (stmts.Pause edges) more are in
      let later = stmts-spelled procs (done ++ stmts.Pause edges ∷ []) more rest (All-tail (IsStmt heads) (stmts.Pause edges) more are) stop (AreNew-rest procs (stmts.Pause edges) more new) in
      one_line heads (inside procs done) (record { stage = stages.Inside edges; procs = procs; stmts = done }) (pause_line edges)
      (codes "      wait until rising_edge(clk);" ∷ codes "    end loop;" ∷ (flat_map (stmt_lines heads) more ++ rest)) refl (pause-line procs done edges within.0 within.1)
      ∙ later ∙ ap (λ (all : List Stmt). procs_from heads (stopped_at procs all) rest) (append_assoc done (stmts.Pause edges ∷ []) more)

  -- ---- processes

  process-spelled : (procs : List (List Stmt)) (process : List Stmt) (rest : List (List ℕ)) → length procs < 2 * length heads → All (IsStmt heads) process → EndsInStop process → AreNew procs process
      → procs_from heads (between procs) (process_lines heads process ++ rest) ≡ procs_from heads (between (procs ++ process ∷ [])) rest
  unfolding after
  process-spelled procs process rest room are stop new =
      let few : nat_lt (length procs) (2 * length heads) ≡ true = grind (arith, nat_tests) in
      one_line heads (between procs) (record { stage = stages.Begin; procs = procs; stmts = [] }) (codes "  process") (codes "  begin" ∷ ((flat_map (stmt_lines heads) process ++ codes "  end process;" ∷ []) ++ rest)) refl (rw few refl)
      ∙ ap (procs_from heads (inside procs [])) (append_assoc (flat_map (stmt_lines heads) process) (codes "  end process;" ∷ []) rest)
      ∙ stmts-spelled procs [] process (codes "  end process;" ∷ rest) are stop new

  -- an earlier process that drives a signal is not this one
  MayCome-new : (procs : List (List Stmt)) (process : List Stmt) (todo : List (List Stmt)) → AreDrivenOnce (procs ++ process ∷ todo) → AreNew procs process
  MayCome-new procs process todo once stream signal drive = not-some (list_any (drives stream signal) procs) (λ some.
      let found = any-at [] (drives stream signal) procs some in
      let here : drives stream signal (get_or (procs ++ process ∷ todo) (length procs) []) ≡ true = rw (get_or-append_seam procs process todo []) drive in
      let there : drives stream signal (get_or (procs ++ process ∷ todo) found.0 []) ≡ true = rw (get_or_append_left procs (process ∷ todo) [] found.0 found.1) found.2 in
      let same = once stream signal found.0 (length procs) there here in
      absurd (omega (arith, same, found.1)))

  pub procs-spelled : (procs todo : List (List Stmt)) (rest : List (List ℕ)) → MayCome heads procs todo
      → procs_from heads (between procs) (flat_map (process_lines heads) todo ++ codes "end architecture;" ∷ rest) ≡ took (procs ++ todo) rest
  procs-spelled procs [] rest may = ap (λ (all : List (List Stmt)). took all rest) (sym (append-nil procs))
  procs-spelled procs (process ∷ todo) rest may =
      let room = may.room in
      let next = append_assoc procs (process ∷ []) todo in
      let later = procs-spelled (procs ++ process ∷ []) todo rest (record {
        room = omega (arith, room, length-append procs (process ∷ []));
        are = All-tail (All (IsStmt heads)) process todo may.are;
        stop = All-tail EndsInStop process todo may.stop;
        once = subst AreDrivenOnce (sym next) may.once;
      }) in
      ap (procs_from heads (between procs)) (append_assoc (process_lines heads process) (flat_map (process_lines heads) todo) (codes "end architecture;" ∷ rest))
      ∙ process-spelled procs process (flat_map (process_lines heads) todo ++ codes "end architecture;" ∷ rest) (omega (arith, room)) (All-head (All (IsStmt heads)) process todo may.are) (All-head EndsInStop process todo may.stop)
      (MayCome-new procs process todo may.once)
      ∙ later ∙ ap (λ (all : List (List Stmt)). took all rest) next
