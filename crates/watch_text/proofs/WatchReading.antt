-- Monitors: what is read is spelled so.
use Rattle.std.proofs.Common.{◌≡◌, ℕ, zero, suc, ◌+◌, Bool, true, false, ◌==◌, cond, List, [], ◌∷◌, ◌++◌, append_assoc, append-nil, length, slice_get, Option, Some, None, Result, Ok, Err, refl, sym, ap, ◌∙◌, codes, arith}
use Rattle.std.specs.List.{flat_map}
use Rattle.std.proofs.lemmas.Bool.Decides.{nat_tests}
use Rattle.std.proofs.lemmas.Option.{none-some, same_Some}
use Rattle.tydi_base.specs.Pieces.{pieces_of}
use Rattle.tydi_base.proofs.ReadingLaws.{ok_is}
use Rattle.tydi_reading.specs.Reading.{Outcome, took, stopped, and_then, pure}
use Rattle.physical_stream.specs.declared.head.Head.{Head}
use Rattle.physical_stream.specs.declared.item.Item.{Item}
use Rattle.vhdl_text.specs.declared.refusal.Refusal.{Refusal}
use Rattle.vhdl_text.specs.Lines.{Cut, cut_last}
use Rattle.vhdl_text.specs.Reading.{heads_from, lines_text, the_lines}
use Rattle.vhdl_text.specs.Text.{stream_comment}
use Rattle.vhdl_text.proofs.BenchReading.{and_then-some, heads_from-some, mark-some, the_lines-some, took-same}
use Rattle.vhdl_text.proofs.BenchSpelling.{pieces-text}
use Rattle.vhdl_text.proofs.CutLemmas.{cut_last-some}
use Rattle.vhdl_text.proofs.ProcessSpelling.{lines_text-append}
use Rattle.watch_text.specs.declared.fault.WatchFault.{WatchFault}
use Rattle.watch_text.specs.declared.fault.WatchFault.TheVariants as faults
use Rattle.watch_text.specs.Reading.{MonitorsArePrintedAsRead, a_line, body_of, closed, forms_of, process_of, processes_from, processes_of, tables_from, watch_from, watch_in, watch_of, whole}
use Rattle.watch_text.specs.Statements.{PlainWatch, Statements}
use Rattle.watch_text.specs.Text.{back_text, entity_text, process_text, processes_text, tables_text, watch_text}
use Rattle.watch_text.specs.WellFormed.{IsStream, IsWellFormed}
use Rattle.watch_text.proofs.StatementReading.{process-some}
use Rattle.watch_text.proofs.TableReading.{tables-some}
use Rattle.watch_text.proofs.TableSpelling.{AreTables}
use Rattle.watch_text.proofs.WatchSpelling.{AreProcesses}

-- ---- processes of streams

record ProcessesRead (heads : List Head) (found : List Statements) (lines : List (List ℕ)) (procs : List Statements) (rest : List (List ℕ)) : Type 0 where
  more : List Statements
  all : procs ≡ found ++ more
  are : AreProcesses heads more
  text : lines_text lines ≡ processes_text heads more ++ lines_text rest

processes-some : (heads : List Head) (found : List Statements) (lines : List (List ℕ)) (procs : List Statements) (rest : List (List ℕ)) → processes_from heads found lines ≡ took procs rest → ProcessesRead heads found lines procs rest
processes-some [] found lines procs rest e =
    let same = took-same found procs lines rest e in
    rw (← same.0, ← same.1) (record { more = []; all = sym (append-nil found); are = tt; text = refl })
processes-some (head ∷ heads) found lines procs rest e =
    let first = and_then-some (process_of (forms_of head) lines) (λ process. processes_from heads (found ++ process ∷ [])) procs rest e in
    let read = process-some head lines first.0 first.1 first.2 in
    let later = processes-some heads (found ++ first.0 ∷ []) first.1 procs rest first.3 in
    record {
      more = first.0 ∷ later.more;
      all = later.all ∙ append_assoc found (first.0 ∷ []) later.more;
      are = (read.are, later.are);
      text = read.text ∙ ap (λ (t : List ℕ). process_text head first.0 ++ t) later.text ∙ sym (append_assoc (process_text head first.0) (processes_text heads later.more) (lines_text rest));
    }

-- ---- the streams of a monitor

tables-many : (heads : List Head) (want : List (List Item)) → AreTables heads want → length want ≡ length heads
tables-many [] [] are = refl
tables-many [] (first ∷ want) are = absurd are
tables-many (head ∷ heads) [] are = absurd are
tables-many (head ∷ heads) (first ∷ want) are = ap suc (tables-many heads want are.1)

processes-many : (heads : List Head) (procs : List Statements) → AreProcesses heads procs → length procs ≡ length heads
processes-many [] [] are = refl
processes-many [] (process ∷ procs) are = absurd are
processes-many (head ∷ heads) [] are = absurd are
processes-many (head ∷ heads) (process ∷ procs) are = ap suc (processes-many heads procs are.1)

streams-are : (heads : List Head) (want : List (List Item)) (procs : List Statements) → AreTables heads want → AreProcesses heads procs → (i : ℕ) (head : Head) (first : List Item) (process : Statements)
    → slice_get heads i ≡ Some head → slice_get want i ≡ Some first → slice_get procs i ≡ Some process → IsStream head first process
streams-are [] want procs tables processes i head first process there here stands = absurd (none-some head there)
streams-are (own ∷ heads) [] procs tables processes i head first process there here stands = absurd tables
streams-are (own ∷ heads) (items ∷ want) [] tables processes i head first process there here stands = absurd processes
streams-are (own ∷ heads) (items ∷ want) (stmts ∷ procs) tables processes zero head first process there here stands =
    rw (← same_Some own head there, ← same_Some items first here, ← same_Some stmts process stands) (record { few = tables.0.few; items = tables.0.items; statements = processes.0 })
streams-are (own ∷ heads) (items ∷ want) (stmts ∷ procs) tables processes (suc i) head first process there here stands = streams-are heads want procs tables.1 processes.1 i head first process there here stands

-- ---- monitors

-- the lines behind the tables, read
record BackRead (heads : List Head) (want : List (List Item)) (lines : List (List ℕ)) (watch : PlainWatch) (rest : List (List ℕ)) : Type 0 where
  procs : List Statements
  is : record { heads = heads; want = want; procs = procs } ≡ watch
  are : AreProcesses heads procs
  text : lines_text lines ≡ back_text (record { heads = heads; want = want; procs = procs }) ++ lines_text rest

back-some : (heads : List Head) (want : List (List Item)) (lines : List (List ℕ)) (watch : PlainWatch) (rest : List (List ℕ)) → processes_of heads want lines ≡ took watch rest → BackRead heads want lines watch rest
unfolding processes_of closed
back-some heads want lines watch rest e =
    let read_by = λ (procs : List Statements) (ls : List (List ℕ)). and_then {E = Refusal} {T = List ℕ} {A = Unit {0}} {B = PlainWatch} (a_line (codes "end architecture;") ls) (λ _. pure (record { heads = heads; want = want; procs = procs })) in
    let both = and_then-some (and_then (a_line (codes "begin") lines) (λ _. processes_from heads [])) read_by watch rest e in
    let first = and_then-some (a_line (codes "begin") lines) (λ _. processes_from heads []) both.0 both.1 both.2 in
    let end = and_then-some (a_line (codes "end architecture;") both.1) (λ _. pure (record { heads = heads; want = want; procs = both.0 })) watch rest both.3 in
    let same = took-same (record { heads = heads; want = want; procs = both.0 }) watch end.1 rest end.3 in
    let read = processes-some heads [] first.1 both.0 both.1 first.3 in
    let after : both.1 ≡ codes "end architecture;" ∷ rest = mark-some (codes "end architecture;") both.1 end.1 end.0 end.2 ∙ ap (λ (l : List (List ℕ)). codes "end architecture;" ∷ l) same.1 in
    record {
      procs = both.0;
      is = same.0;
      are = rw read.all read.are;
      text = ap lines_text (mark-some (codes "begin") lines first.1 first.0 first.2)
          ∙ ap (λ (t : List ℕ). codes "begin\n" ++ t) (read.text ∙ ap (λ (p : List Statements). processes_text heads p ++ lines_text both.1) (sym read.all) ∙ ap (λ (l : List (List ℕ)). processes_text heads both.0 ++ lines_text l) after
          ∙ sym (append_assoc (processes_text heads both.0) (codes "end architecture;\n") (lines_text rest)));
    }

-- the reading of all lines
record WatchRead (lines : List (List ℕ)) (watch : PlainWatch) (rest : List (List ℕ)) : Type 0 where
  well : IsWellFormed watch
  text : lines_text lines ≡ watch_text watch ++ lines_text rest

body-group : (c e t b r : List ℕ) → c ++ (e ++ (t ++ (b ++ r))) ≡ ((c ++ e) ++ (t ++ b)) ++ r
body-group c e t b r = simp append_assoc

watch_from-some : (lines : List (List ℕ)) (watch : PlainWatch) (rest : List (List ℕ)) → watch_from lines ≡ took watch rest → WatchRead lines watch rest
unfolding watch_from body_of
watch_from-some lines watch rest e =
    let front = and_then-some (and_then (a_line (codes "-- tydi-watch 1") lines) (λ _. heads_from [])) body_of watch rest e in
    let title = and_then-some (a_line (codes "-- tydi-watch 1") lines) (λ _. heads_from []) front.0 front.1 front.2 in
    let heads = front.0 in
    let own = heads_from-some [] title.1 heads front.1 (omega arith) title.3 in
    let entity = pieces_of 10 (entity_text heads) in
    let body = and_then-some (and_then (the_lines entity front.1) (λ _. tables_from heads [])) (processes_of heads) watch rest front.3 in
    let tables = and_then-some (the_lines entity front.1) (λ _. tables_from heads []) body.0 body.1 body.2 in
    let want = tables-some heads [] tables.1 body.0 body.1 own.may.each tables.3 in
    let back = back-some heads body.0 body.1 watch rest body.3 in
    let are : AreTables heads body.0 = rw want.all want.are in
    let room = own.may.room in
    let made : PlainWatch = record { heads = heads; want = body.0; procs = back.procs } in
    let comments = flat_map stream_comment heads in
    rw (← back.is) (record {
      well = record {
        heads = record { few = omega (arith, room); each = own.may.each; apart = own.may.apart };
        tables = tables-many heads body.0 are;
        processes = processes-many heads back.procs back.are;
        each = streams-are heads body.0 back.procs are back.are;
      };
      text = ap lines_text (mark-some (codes "-- tydi-watch 1") lines title.1 title.0 title.2)
          ∙ ap (λ (t : List ℕ). codes "-- tydi-watch 1\n" ++ t) (own.text
          ∙ ap (λ (t : List ℕ). comments ++ t) (ap lines_text (the_lines-some entity front.1 tables.1 tables.0 tables.2) ∙ lines_text-append entity tables.1 ∙ ap (λ (t : List ℕ). t ++ lines_text tables.1) (pieces-text (entity_text heads))
          ∙ ap (λ (t : List ℕ). (entity_text heads ++ 10 ∷ []) ++ t) (want.text ∙ ap (λ (w : List (List Item)). tables_text heads w ++ lines_text body.1) (sym want.all) ∙ ap (λ (t : List ℕ). tables_text heads body.0 ++ t) back.text))
          ∙ body-group comments (entity_text heads ++ 10 ∷ []) (tables_text heads body.0) (back_text made) (lines_text rest));
    })

-- ---- texts

same_ok : (one other : PlainWatch) → ◌≡◌ {A = Result PlainWatch WatchFault} (Ok one) (Ok other) → one ≡ other
same_ok one other e = ok_is {A = PlainWatch} {F = WatchFault} one other e

no-text : (text : List ℕ) → (length text == 0) ≡ true → text ≡ []
no-text [] is = refl
no-text (byte ∷ text) is = absurd (grind (arith, nat_tests))

whole-some : (end : ℕ) (cut_off : List ℕ) (outcome : Outcome Refusal (List ℕ) PlainWatch) (watch : PlainWatch) → whole end cut_off outcome ≡ Ok watch → (outcome ≡ took watch []) × (cut_off ≡ [])
whole-some end cut_off (took found []) watch e = by (length cut_off == 0) refl e
  where
    by : (test : Bool) → (length cut_off == 0) ≡ test → cond {A = Result PlainWatch WatchFault} test (Ok found) (Err (faults.NotForm end)) ≡ Ok watch → (◌≡◌ {A = Outcome Refusal (List ℕ) PlainWatch} (took found []) (took watch [])) × (cut_off ≡ [])
    by true is e = (ap (λ (w : PlainWatch). took w []) (same_ok found watch e), no-text cut_off is)
    by false is e = absurd cc
whole-some end cut_off (took found (line ∷ lines)) watch e = absurd cc
whole-some end cut_off (stopped fault lines) watch e = absurd cc

pub monitors_printed : MonitorsArePrintedAsRead
unfolding watch_of
monitors_printed text watch e = by (cut_last 10 text) refl e
  where
    by : (cut : Option Cut) → cut_last 10 text ≡ cut → watch_in cut ≡ Ok watch → IsWellFormed watch × (text ≡ watch_text watch)
    by None is e = absurd cc
    by (Some cut) is e =
        let found = whole-some (length cut.front + 1) cut.back (watch_from (pieces_of 10 cut.front)) watch e in
        let read = watch_from-some (pieces_of 10 cut.front) watch [] found.0 in
        (read.well, cut_last-some 10 text cut is ∙ ap (λ (b : List ℕ). cut.front ++ 10 ∷ b) found.1 ∙ sym (pieces-text cut.front) ∙ read.text ∙ append-nil (watch_text watch))
