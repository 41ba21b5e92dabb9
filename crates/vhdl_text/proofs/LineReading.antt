-- A line of a process: what is read is spelled so.
use Rattle.std.proofs.Common.{◌≡◌, ℕ, ◌*◌, Bool, true, false, nat_lt, cond, List, [], ◌∷◌, ◌++◌, append_assoc, append-nil, length, length-append, Option, Some, None, Result, Ok, Err, All, refl, sym, ap, ◌∙◌, arith}
use Rattle.std.specs.Prelude.{codes}
use Rattle.std.specs.List.{flat_map}
use Rattle.std.specs.Str.{bytes_eq}
use Rattle.std.proofs.lemmas.Bool.Decides.{nat_tests}
use Rattle.std.proofs.lemmas.List.Elements.{All-nil}
use Rattle.std.proofs.lemmas.Slice.Eq.{bytes_eq-Decides}
use Rattle.tydi_base.proofs.PlainWords.{and_parts}
use Rattle.tydi_base.proofs.ReadingLaws.{ok_is}
use Rattle.tydi_reading.specs.declared.fault.Fault.{Fault}
use Rattle.tydi_reading.specs.declared.fault.Fault.TheVariants as refusals
use Rattle.tydi_reading.specs.Reading.{Outcome, took}
use Rattle.physical_stream.specs.declared.head.Head.{Head}
use Rattle.vhdl_text.specs.declared.bench.Stmt.{Stmt}
use Rattle.vhdl_text.specs.declared.bench.Stmt.TheVariants as stmts
use Rattle.vhdl_text.specs.declared.refusal.Refusal.{Refusal}
use Rattle.vhdl_text.specs.declared.stage.Stage.{Stage}
use Rattle.vhdl_text.specs.declared.stage.Stage.TheVariants as stages
use Rattle.vhdl_text.specs.Lines.{edges_of, stmt_of}
use Rattle.vhdl_text.specs.Reading.{Progress, after, after_line, ends, goes_on, is_between, lines_text, procs_from, where_line, with_edges, with_read}
use Rattle.vhdl_text.specs.Text.{pause_line, process_text, stmt_text}
use Rattle.vhdl_text.specs.WellFormed.{EndsInStop, IsStmt}
use Rattle.vhdl_text.proofs.ProcessReading.{AreDrivenOnce-last, AreNew-last, All-last, EndsInStop-last, GoPast-last, Holds, Went, flat_map-last, passed, regroup, where_line-some}
use Rattle.vhdl_text.proofs.ProcessSpelling.{between}
use Rattle.vhdl_text.proofs.StmtLemmas.{StmtRead, edges_of-some, stmt_of-some}

-- ---- statements

-- a statement more, at the stage where statements stand
with-stmt : (heads : List Head) (procs : List (List Stmt)) (done : List Stmt) (line : List ℕ) (stmt : Stmt) → Holds heads (record { stage = stages.Statements; procs = procs; stmts = done }) → StmtRead heads procs line stmt
    → Went heads (record { stage = stages.Statements; procs = procs; stmts = done }) line (record { stage = stages.Statements; procs = procs; stmts = done ++ stmt ∷ [] })
with-stmt heads procs done line stmt holds read = record {
  holds = record {
    count = holds.count;
    are = holds.are;
    stop = holds.stop;
    once = holds.once;
    current = All-last (IsStmt heads) done stmt holds.current read.is;
    new = AreNew-last procs done stmt holds.new read.new;
    begun = (holds.begun.0, GoPast-last done stmt holds.begun.1 read.past);
  };
  text =
      let before = flat_map (process_text heads) procs in
      let begin = codes "  process\n  begin\n" in
      ap (λ (t : List ℕ). before ++ (begin ++ t)) (flat_map-last (stmt_text heads) done stmt ∙ ap (λ (t : List ℕ). flat_map (stmt_text heads) done ++ t) (sym read.spelled)) ∙ regroup before begin (flat_map (stmt_text heads) done) (line ++ 10 ∷ []);
}

with-stop : (heads : List Head) (procs : List (List Stmt)) (done : List Stmt) (line : List ℕ) → Holds heads (record { stage = stages.Statements; procs = procs; stmts = done }) → line ≡ codes "    wait;"
    → Went heads (record { stage = stages.Statements; procs = procs; stmts = done }) line (record { stage = stages.EndProcess; procs = procs; stmts = done ++ stmts.Stop ∷ [] })
with-stop heads procs done line holds is = record {
  holds = record {
    count = holds.count;
    are = holds.are;
    stop = holds.stop;
    once = holds.once;
    current = All-last (IsStmt heads) done stmts.Stop holds.current tt;
    new = AreNew-last procs done stmts.Stop holds.new (λ stream signal none. absurd cc);
    begun = (holds.begun.0, EndsInStop-last done holds.begun.1);
  };
  text =
      let before = flat_map (process_text heads) procs in
      let begin = codes "  process\n  begin\n" in
      ap (λ (t : List ℕ). before ++ (begin ++ t)) (flat_map-last (stmt_text heads) done stmts.Stop ∙ ap (λ (l : List ℕ). flat_map (stmt_text heads) done ++ (l ++ 10 ∷ [])) (sym is)) ∙ regroup before begin (flat_map (stmt_text heads) done) (line ++ 10 ∷ []);
}

with-read : (heads : List Head) (procs : List (List Stmt)) (done : List Stmt) (line : List ℕ) (read : Result Stmt (Fault Refusal)) (next : Progress) → Holds heads (record { stage = stages.Statements; procs = procs; stmts = done })
    → stmt_of heads procs line ≡ read → with_read (record { stage = stages.Statements; procs = procs; stmts = done }) read ≡ Ok next → Went heads (record { stage = stages.Statements; procs = procs; stmts = done }) line next
with-read heads procs done line (Err e) next holds is found = absurd cc
with-read heads procs done line (Ok stmt) next holds is found =
    let same = ok_is {A = Progress} {F = Fault Refusal} (record { stage = stages.Statements; procs = procs; stmts = done ++ stmt ∷ [] }) next found in
    rw (← same) (with-stmt heads procs done line stmt holds (stmt_of-some heads procs line stmt is))

with-edges : (heads : List Head) (procs : List (List Stmt)) (done : List Stmt) (line : List ℕ) (edges : Option ℕ) (next : Progress) → Holds heads (record { stage = stages.Statements; procs = procs; stmts = done })
    → edges_of line ≡ edges → with_edges (record { stage = stages.Statements; procs = procs; stmts = done }) edges (stmt_of heads procs line) ≡ Ok next
    → Went heads (record { stage = stages.Statements; procs = procs; stmts = done }) line next
with-edges heads procs done line None next holds is found = with-read heads procs done line (stmt_of heads procs line) next holds refl found
with-edges heads procs done line (Some edges) next holds is found =
    let same = ok_is {A = Progress} {F = Fault Refusal} (record { stage = stages.Inside edges; procs = procs; stmts = done }) next found in
    let read = edges_of-some line edges is in
    let before = flat_map (process_text heads) procs in
    rw (← same) (record {
      holds = record {
        count = holds.count;
        are = holds.are;
        stop = holds.stop;
        once = holds.once;
        current = holds.current;
        new = holds.new;
        begun = (holds.begun.0, holds.begun.1, read.some, read.few);
      };
      text = ap (λ (l : List ℕ). before ++ (codes "  process\n  begin\n" ++ (flat_map (stmt_text heads) done ++ (l ++ 10 ∷ [])))) (sym read.spelled) ∙ regroup before (codes "  process\n  begin\n") (flat_map (stmt_text heads) done) (line ++ 10 ∷ []);
    })

-- ---- the other lines

-- the same, with another stage and another text
same-with : (heads : List Head) (now next : Progress) (line : List ℕ) → Holds heads next → passed heads next ≡ passed heads now ++ (line ++ 10 ∷ []) → Went heads now line next
same-with heads now next line holds text = record { holds = holds; text = text }

module _ (heads : List Head) (procs : List (List Stmt)) (done : List Stmt) (line : List ℕ) (next : Progress) where
  abbrev at : Stage → Progress
  at stage = record { stage = stage; procs = procs; stmts = done }

  went-between : Holds heads (at stages.Between) → after_line heads (at stages.Between) line stages.Between ≡ Ok next → Went heads (at stages.Between) line next
  went-between holds e = by_test (nat_lt (length procs) (2 * length heads)) refl e
    where
      by_test : (test : Bool) → nat_lt (length procs) (2 * length heads) ≡ test → cond {A = Result Progress (Fault Refusal)} test (where_line (codes "  process") line (at stages.Begin)) (Err refusals.Refused) ≡ Ok next → Went heads (at stages.Between) line next
      by_test false full e = absurd cc
      by_test true room e =
          let found = where_line-some (codes "  process") line (at stages.Begin) next e in
          let before = flat_map (process_text heads) procs in
          rw (← found.1) (record {
            holds = record { count = holds.count; are = holds.are; stop = holds.stop; once = holds.once; current = holds.current; new = holds.new; begun = (grind (arith, nat_tests), holds.begun) };
            text = ap (λ (l : List ℕ). before ++ (l ++ 10 ∷ [])) (sym found.0) ∙ ap (λ (t : List ℕ). t ++ (line ++ 10 ∷ [])) (sym (append-nil before));
          })

  went-begin : Holds heads (at stages.Begin) → after_line heads (at stages.Begin) line stages.Begin ≡ Ok next → Went heads (at stages.Begin) line next
  went-begin holds e =
      let found = where_line-some (codes "  begin") line (at stages.Statements) next e in
      let before = flat_map (process_text heads) procs in
      let none : done ≡ [] = holds.begun.1 in
      rw (← found.1) (record {
        holds = record { count = holds.count; are = holds.are; stop = holds.stop; once = holds.once; current = holds.current; new = holds.new; begun = (holds.begun.0, rw none refl) };
        text = ap (λ (all : List Stmt). before ++ (codes "  process\n  begin\n" ++ flat_map (stmt_text heads) all)) none ∙ ap (λ (l : List ℕ). before ++ (codes "  process\n" ++ (l ++ 10 ∷ []))) (sym found.0)
            ∙ sym (append_assoc before (codes "  process\n") (line ++ 10 ∷ []));
      })

  went-statements : Holds heads (at stages.Statements) → after_line heads (at stages.Statements) line stages.Statements ≡ Ok next → Went heads (at stages.Statements) line next
  went-statements holds e = by_test (bytes_eq line (codes "    wait;")) refl e
    where
      by_test : (test : Bool) → bytes_eq line (codes "    wait;") ≡ test
          → cond {A = Result Progress (Fault Refusal)} test (Ok (record { stage = stages.EndProcess; procs = procs; stmts = done ++ stmts.Stop ∷ [] })) (with_edges (at stages.Statements) (edges_of line) (stmt_of heads procs line)) ≡ Ok next
          → Went heads (at stages.Statements) line next
      by_test false other e = with-edges heads procs done line (edges_of line) next holds refl e
      by_test true is e =
          let same = ok_is {A = Progress} {F = Fault Refusal} (record { stage = stages.EndProcess; procs = procs; stmts = done ++ stmts.Stop ∷ [] }) next e in
          rw (← same) (with-stop heads procs done line holds ((bytes_eq-Decides line (codes "    wait;")).0 is))

  went-inside : (edges : ℕ) → Holds heads (at (stages.Inside edges)) → after_line heads (at (stages.Inside edges)) line (stages.Inside edges) ≡ Ok next → Went heads (at (stages.Inside edges)) line next
  went-inside edges holds e =
      let found = where_line-some (codes "      wait until rising_edge(clk);") line (at (stages.Ending edges)) next e in
      let before = flat_map (process_text heads) procs in
      let begin = codes "  process\n  begin\n" in
      let body = flat_map (stmt_text heads) done in
      rw (← found.1) (record {
        holds = record { count = holds.count; are = holds.are; stop = holds.stop; once = holds.once; current = holds.current; new = holds.new; begun = holds.begun };
        text = ap (λ (l : List ℕ). before ++ (begin ++ (body ++ (pause_line edges ++ (codes "\n" ++ (l ++ 10 ∷ [])))))) (sym found.0)
            ∙ ap (λ (t : List ℕ). before ++ (begin ++ (body ++ t))) (sym (append_assoc (pause_line edges) (codes "\n") (line ++ 10 ∷ [])))
            ∙ ap (λ (t : List ℕ). before ++ (begin ++ t)) (sym (append_assoc body (pause_line edges ++ codes "\n") (line ++ 10 ∷ [])))
            ∙ ap (λ (t : List ℕ). before ++ t) (sym (append_assoc begin (body ++ (pause_line edges ++ codes "\n")) (line ++ 10 ∷ [])))
            ∙ sym (append_assoc before (begin ++ (body ++ (pause_line edges ++ codes "\n"))) (line ++ 10 ∷ []));
      })

  went-ending : (edges : ℕ) → Holds heads (at (stages.Ending edges)) → after_line heads (at (stages.Ending edges)) line (stages.Ending edges) ≡ Ok next → Went heads (at (stages.Ending edges)) line next
  went-ending edges holds e =
      let found = where_line-some (codes "    end loop;") line (record { stage = stages.Statements; procs = procs; stmts = done ++ stmts.Pause edges ∷ [] }) next e in
      let before = flat_map (process_text heads) procs in
      let begin = codes "  process\n  begin\n" in
      let body = flat_map (stmt_text heads) done in
      let middle = codes "\n      wait until rising_edge(clk);\n" in
      rw (← found.1) (record {
        holds = record {
          count = holds.count;
          are = holds.are;
          stop = holds.stop;
          once = holds.once;
          current = All-last (IsStmt heads) done (stmts.Pause edges) holds.current (holds.begun.2, holds.begun.3);
          new = AreNew-last procs done (stmts.Pause edges) holds.new (λ stream signal none. absurd cc);
          begun = (holds.begun.0, GoPast-last done (stmts.Pause edges) holds.begun.1 refl);
        };
        text = ap (λ (t : List ℕ). before ++ (begin ++ t)) (flat_map-last (stmt_text heads) done (stmts.Pause edges)) ∙ ap (λ (l : List ℕ). before ++ (begin ++ (body ++ (pause_line edges ++ (middle ++ (l ++ 10 ∷ [])))))) (sym found.0)
            ∙ ap (λ (t : List ℕ). before ++ (begin ++ (body ++ t))) (sym (append_assoc (pause_line edges) middle (line ++ 10 ∷ [])))
            ∙ ap (λ (t : List ℕ). before ++ (begin ++ t)) (sym (append_assoc body (pause_line edges ++ middle) (line ++ 10 ∷ [])))
            ∙ ap (λ (t : List ℕ). before ++ t) (sym (append_assoc begin (body ++ (pause_line edges ++ middle)) (line ++ 10 ∷ [])))
            ∙ sym (append_assoc before (begin ++ (body ++ (pause_line edges ++ middle))) (line ++ 10 ∷ []));
      })

  went-end_process : Holds heads (at stages.EndProcess) → after_line heads (at stages.EndProcess) line stages.EndProcess ≡ Ok next → Went heads (at stages.EndProcess) line next
  unfolding process_text
  went-end_process holds e =
      let found = where_line-some (codes "  end process;") line (between (procs ++ done ∷ [])) next e in
      let before = flat_map (process_text heads) procs in
      let begin = codes "  process\n  begin\n" in
      let body = flat_map (stmt_text heads) done in
      let room = holds.begun.0 in
      rw (← found.1) (record {
        holds = record {
          count = omega (arith, room, length-append procs (done ∷ []));
          are = All-last (All (IsStmt heads)) procs done holds.are holds.current;
          stop = All-last EndsInStop procs done holds.stop holds.begun.1;
          once = AreDrivenOnce-last procs done holds.once holds.new;
          current = All-nil (IsStmt heads);
          new = λ stream signal none. absurd cc;
          begun = refl;
        };
        text = append-nil (flat_map (process_text heads) (procs ++ done ∷ [])) ∙ flat_map-last (process_text heads) procs done ∙ ap (λ (l : List ℕ). before ++ (begin ++ (body ++ (l ++ 10 ∷ [])))) (sym found.0)
            ∙ regroup before begin body (line ++ 10 ∷ []);
      })

went-by : (heads : List Head) (stage : Stage) (procs : List (List Stmt)) (done : List Stmt) (line : List ℕ) (next : Progress) → Holds heads (record { stage = stage; procs = procs; stmts = done })
    → after_line heads (record { stage = stage; procs = procs; stmts = done }) line stage ≡ Ok next → Went heads (record { stage = stage; procs = procs; stmts = done }) line next
went-by heads stages.Between procs done line next holds e = went-between heads procs done line next holds e
went-by heads stages.Begin procs done line next holds e = went-begin heads procs done line next holds e
went-by heads stages.Statements procs done line next holds e = went-statements heads procs done line next holds e
went-by heads (stages.Inside edges) procs done line next holds e = went-inside heads procs done line next edges holds e
went-by heads (stages.Ending edges) procs done line next holds e = went-ending heads procs done line next edges holds e
went-by heads stages.EndProcess procs done line next holds e = went-end_process heads procs done line next holds e

went : (heads : List Head) (now : Progress) (line : List ℕ) (next : Progress) → Holds heads now → after heads now line ≡ Ok next → Went heads now line next
unfolding after
went heads now line next holds e = went-by heads now.stage now.procs now.stmts line next holds e

-- ---- all processes

-- the reading of the lines of processes
pub record ProcsRead (heads : List Head) (now : Progress) (lines : List (List ℕ)) (procs : List (List Stmt)) (rest : List (List ℕ)) : Type 0 where
  pub holds : Holds heads (between procs)
  pub text : passed heads now ++ lines_text lines ≡ flat_map (process_text heads) procs ++ (codes "end architecture;\n" ++ lines_text rest)

between-is : (heads : List Head) (stage : Stage) (procs : List (List Stmt)) (done : List Stmt) → is_between stage ≡ true → Holds heads (record { stage = stage; procs = procs; stmts = done }) → Holds heads (between procs)
between-is heads stages.Between procs done is holds = record { count = holds.count; are = holds.are; stop = holds.stop; once = holds.once; current = All-nil (IsStmt heads); new = λ stream signal none. absurd cc; begun = refl }
between-is heads stages.Begin procs done is holds = absurd cc
between-is heads stages.Statements procs done is holds = absurd cc
between-is heads (stages.Inside edges) procs done is holds = absurd cc
between-is heads (stages.Ending edges) procs done is holds = absurd cc
between-is heads stages.EndProcess procs done is holds = absurd cc

between-passed : (heads : List Head) (stage : Stage) (procs : List (List Stmt)) (done : List Stmt) → is_between stage ≡ true → passed heads (record { stage = stage; procs = procs; stmts = done }) ≡ flat_map (process_text heads) procs
between-passed heads stages.Between procs done is = append-nil (flat_map (process_text heads) procs)
between-passed heads stages.Begin procs done is = absurd cc
between-passed heads stages.Statements procs done is = absurd cc
between-passed heads (stages.Inside edges) procs done is = absurd cc
between-passed heads (stages.Ending edges) procs done is = absurd cc
between-passed heads stages.EndProcess procs done is = absurd cc

procs-end : (heads : List Head) (now : Progress) (line : List ℕ) (lines : List (List ℕ)) → Holds heads now → ends now line ≡ true → ProcsRead heads now (line ∷ lines) now.procs lines
procs-end heads now line lines holds e =
    let parts = and_parts (is_between now.stage) (bytes_eq line (codes "end architecture;")) e in
    let is = (bytes_eq-Decides line (codes "end architecture;")).0 parts.1 in
    record {
      holds = between-is heads now.stage now.procs now.stmts parts.0 holds;
      text = ap (λ (l : List ℕ). passed heads now ++ ((l ++ 10 ∷ []) ++ lines_text lines)) is ∙ ap (λ (t : List ℕ). t ++ (codes "end architecture;\n" ++ lines_text lines)) (between-passed heads now.stage now.procs now.stmts parts.0);
    }

pub procs_from-some : (heads : List Head) (now : Progress) (lines : List (List ℕ)) (procs : List (List Stmt)) (rest : List (List ℕ)) → Holds heads now → procs_from heads now lines ≡ took procs rest → ProcsRead heads now lines procs rest
procs_from-some heads now [] procs rest holds e = absurd cc
procs_from-some heads now (line ∷ lines) procs rest holds e = by_end (λ next went found. procs_from-some heads next lines procs rest went found) (ends now line) refl e
  where
    more : (next : Progress) → Went heads now line next → ProcsRead heads next lines procs rest → ProcsRead heads now (line ∷ lines) procs rest
    more next went read = record { holds = read.holds; text = sym (append_assoc (passed heads now) (line ++ 10 ∷ []) (lines_text lines)) ∙ ap (λ (t : List ℕ). t ++ lines_text lines) (sym went.text) ∙ read.text }

    by_next : ((next : Progress) → Holds heads next → procs_from heads next lines ≡ took procs rest → ProcsRead heads next lines procs rest) → (found : Result Progress (Fault Refusal)) → after heads now line ≡ found
        → goes_on (line ∷ lines) (λ next. procs_from heads next lines) found ≡ took procs rest → ProcsRead heads now (line ∷ lines) procs rest
    by_next later (Ok next) is e = let gone = went heads now line next holds is in more next gone (later next gone.holds e)
    by_next later (Err fault) is e = absurd cc

    ended : (p q : List (List Stmt)) (l m : List (List ℕ)) → ◌≡◌ {A = Outcome Refusal (List ℕ) (List (List Stmt))} (took p l) (took q m) → (p ≡ q) × (l ≡ m)
    ended p q l m e = (cc, cc)

    by_end : ((next : Progress) → Holds heads next → procs_from heads next lines ≡ took procs rest → ProcsRead heads next lines procs rest) → (test : Bool) → ends now line ≡ test
        → cond {A = Outcome Refusal (List ℕ) (List (List Stmt))} test (took now.procs lines) (goes_on (line ∷ lines) (λ next. procs_from heads next lines) (after heads now line)) ≡ took procs rest → ProcsRead heads now (line ∷ lines) procs rest
    by_end later true is e = let same = ended now.procs procs lines rest e in rw (← same.0, ← same.1) (procs-end heads now line lines holds is)
    by_end later false is e = by_next later (after heads now line) refl e
