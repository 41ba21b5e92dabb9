-- Monitors: what is spelled is read.
use Rattle.std.proofs.Common.{◌≡◌, ℕ, suc, ◌+◌, false, List, [], ◌∷◌, ◌++◌, append_assoc, append-nil, map, length, drop, slice_get, Some, All, refl, sym, ap, ◌∙◌, codes, arith}
use Rattle.std.specs.List.{flat_map, join_with_byte}
use Rattle.std.proofs.lemmas.List.Elements.{All-head, All-tail}
use Rattle.tydi_base.specs.Pieces.{pieces_of}
use Rattle.tydi_base.proofs.PieceLaws.{pieces_of-append, pieces_of-join}
use Rattle.tydi_reading.specs.Reading.{took}
use Rattle.physical_stream.specs.Params.{Parameters}
use Rattle.physical_stream.specs.StreamLine.{IsHead}
use Rattle.physical_stream.specs.declared.head.Head.{Head}
use Rattle.physical_stream.specs.declared.item.Item.{Item}
use Rattle.vhdl_text.specs.Lines.{cut_last}
use Rattle.vhdl_text.specs.Reading.{heads_from, is_comment, lines_text}
use Rattle.vhdl_text.specs.Text.{stream_comment}
use Rattle.vhdl_text.specs.WellFormed.{AreHeads}
use Rattle.vhdl_text.proofs.BenchSpelling.{MayFollow, comment_line, comments-text, heads_from-spelled, pieces-text, some-pieces, the_lines-given}
use Rattle.vhdl_text.proofs.CutLemmas.{cut_last-append, lacks-by}
use Rattle.vhdl_text.proofs.ProcessSpelling.{lines_text-append}
use Rattle.watch_text.specs.Reading.{MonitorsAreReadAsPrinted, at, body_of, closed, forms_of, processes_from, processes_of, wait_text, watch_from, watch_in, watch_of, whole}
use Rattle.watch_text.specs.Statements.{PlainWatch, Statement, Statements, dims, if_active, if_last, lanes, need_close, need_elem, no_statements, statement}
use Rattle.watch_text.specs.Text.{back_text, end_line, entity_text, fault_line, item_line, item_lines, line, process_back, process_front, process_text, processes_text, statement_text, statements_text, table_line, table_text, tables_text, type_line, watch_text}
use Rattle.watch_text.specs.WellFormed.{AreStatements, IsStream, around_process}
use Rattle.watch_text.specs.declared.opening.Opening.{Opening}
use Rattle.watch_text.specs.declared.opening.Opening.TheVariants as openings
use Rattle.watch_text.specs.Reading.{end_of, opening_text}
use Rattle.watch_text.proofs.StatementReading.{line-at}
use Rattle.watch_text.proofs.StatementSpelling.{block_lines, need_lines, process-spelled, process_lines, statement_lines, statements_lines}
use Rattle.watch_text.proofs.TableSpelling.{AreTables, a_line-given, item_lines_of, table_lines, tables-spelled, tables_lines}
use Rattle.watch_text.proofs.WatchLines.{processes_lines, watch_lines, watch_lines-lack}

-- ---- the text of the lines

item_lines-text : (p : Parameters) (number : ℕ) (want : List Item) → lines_text (item_lines_of p number want) ≡ item_lines p number want
item_lines-text p number [] = refl
item_lines-text p number (item ∷ want) =
    append_assoc (item_line p number item) (10 ∷ []) (lines_text (item_lines_of p (suc number) want)) ∙ ap (λ (t : List ℕ). item_line p number item ++ 10 ∷ t) (item_lines-text p (suc number) want)

table-group : (t l i e z n : List ℕ) → (t ++ n) ++ ((l ++ n) ++ (i ++ ((e ++ n) ++ z))) ≡ (t ++ (n ++ (l ++ n))) ++ (i ++ (e ++ (n ++ z)))
table-group t l i e z n = simp append_assoc

table_lines-text : (head : Head) (want : List Item) → lines_text (table_lines head want) ≡ table_text head want
table_lines-text head want =
    let p = head.params in
    let first = type_line head (length want) ++ 10 ∷ [] in
    let entries = item_lines_of p 0 want in
    let back = end_line p (length want) ∷ codes "  );" ∷ [] in
    ap (λ (t : List ℕ). first ++ t)
    (lines_text-append (pieces_of 10 (table_line head)) (entries ++ back) ∙ ap (λ (t : List ℕ). t ++ lines_text (entries ++ back)) (pieces-text (table_line head))
    ∙ ap (λ (t : List ℕ). (table_line head ++ 10 ∷ []) ++ t) (lines_text-append entries back ∙ ap (λ (t : List ℕ). t ++ lines_text back) (item_lines-text p 0 want)))
    ∙ table-group (type_line head (length want)) (table_line head) (item_lines p 0 want) (end_line p (length want)) (codes "  );\n") (10 ∷ [])

tables_lines-text : (heads : List Head) (want : List (List Item)) → lines_text (tables_lines heads want) ≡ tables_text heads want
tables_lines-text [] want = refl
tables_lines-text (head ∷ heads) [] = refl
tables_lines-text (head ∷ heads) (first ∷ want) =
    lines_text-append (table_lines head first) (tables_lines heads want) ∙ ap (λ (t : List ℕ). t ++ lines_text (tables_lines heads want)) (table_lines-text head first)
    ∙ ap (λ (t : List ℕ). table_text head first ++ t) (tables_lines-text heads want)

module _ (head : Head) where
  -- the lines of a statement around those inside it
  block-text : (indent : ℕ) (opening : Opening) (body : Statements) → lines_text (statements_lines (forms_of head) (indent + 2) body) ≡ statements_text head (indent + 2) body
      → lines_text (block_lines (forms_of head) indent opening (statements_lines (forms_of head) (indent + 2) body))
      ≡ line indent (opening_text (forms_of head) opening) ++ (statements_text head (indent + 2) body ++ line indent (end_of opening))
  block-text indent opening body is =
      let inside = statements_lines (forms_of head) (indent + 2) body in
      let last = at indent (end_of opening) ∷ [] in
      ap (λ (t : List ℕ). t ++ lines_text (inside ++ last)) (line-at indent (opening_text (forms_of head) opening))
      ∙ ap (λ (t : List ℕ). line indent (opening_text (forms_of head) opening) ++ t)
      (lines_text-append inside last ∙ ap (λ (t : List ℕ). t ++ lines_text last) is ∙ ap (λ (t : List ℕ). statements_text head (indent + 2) body ++ t) (append-nil (at indent (end_of opening) ++ 10 ∷ []) ∙ line-at indent (end_of opening)))

  need-text : (indent : ℕ) (need : Opening) → lines_text (need_lines (forms_of head) indent need)
      ≡ line indent (opening_text (forms_of head) need) ++ (line (indent + 2) (codes "place := place + 1;") ++ (line indent (codes "else") ++ (line (indent + 2) (fault_line head) ++ (line (indent + 2) (codes "wait;") ++ line indent (codes "end if;")))))
  unfolding forms_of
  need-text indent need = rw (
    line-at indent (opening_text (forms_of head) need),
    line-at (indent + 2) (codes "place := place + 1;"),
    line-at indent (codes "else"),
    line-at (indent + 2) (fault_line head),
    line-at (indent + 2) (codes "wait;"),
    append-nil (at indent (codes "end if;") ++ 10 ∷ []),
    line-at indent (codes "end if;"),
  ) refl

  mutual
    unfolding forms_of

    statement-text : (indent : ℕ) (first : Statement) → lines_text (statement_lines (forms_of head) indent first) ≡ statement_text head indent first
    statement-text indent (lanes body) = block-text indent openings.Lanes body (statements-text (indent + 2) body)
    statement-text indent (dims body) = block-text indent openings.Dims body (statements-text (indent + 2) body)
    statement-text indent (if_active body) = block-text indent openings.IfActive body (statements-text (indent + 2) body)
    statement-text indent (if_last body) = block-text indent openings.IfLast body (statements-text (indent + 2) body)
    statement-text indent need_elem = need-text indent openings.NeedElem
    statement-text indent need_close = need-text indent openings.NeedClose

    statements-text : (indent : ℕ) (some : Statements) → lines_text (statements_lines (forms_of head) indent some) ≡ statements_text head indent some
    statements-text indent no_statements = refl
    statements-text indent (statement first more) =
        lines_text-append (statement_lines (forms_of head) indent first) (statements_lines (forms_of head) indent more)
        ∙ ap (λ (t : List ℕ). t ++ lines_text (statements_lines (forms_of head) indent more)) (statement-text indent first) ∙ ap (λ (t : List ℕ). statement_text head indent first ++ t) (statements-text indent more)

  process_lines-text : (process : Statements) → lines_text (process_lines head process) ≡ process_text head process
  process_lines-text process =
      let lines = statements_lines (forms_of head) 6 process in
      let back = codes "    end loop;" ∷ codes "  end process;" ∷ [] in
      lines_text-append (pieces_of 10 (wait_text head)) (lines ++ back) ∙ ap (λ (t : List ℕ). t ++ lines_text (lines ++ back)) (pieces-text (wait_text head))
      ∙ ap (λ (t : List ℕ). process_front head ++ t) (lines_text-append lines back ∙ ap (λ (t : List ℕ). t ++ process_back) (statements-text 6 process))

processes_lines-text : (heads : List Head) (procs : List Statements) → lines_text (processes_lines heads procs) ≡ processes_text heads procs
processes_lines-text [] procs = refl
processes_lines-text (head ∷ heads) [] = refl
processes_lines-text (head ∷ heads) (process ∷ procs) =
    lines_text-append (process_lines head process) (processes_lines heads procs) ∙ ap (λ (t : List ℕ). t ++ lines_text (processes_lines heads procs)) (process_lines-text head process)
    ∙ ap (λ (t : List ℕ). process_text head process ++ t) (processes_lines-text heads procs)

watch_lines-text : (watch : PlainWatch) → lines_text (watch_lines watch) ≡ watch_text watch
watch_lines-text watch =
    let heads = watch.heads in
    let comments = map comment_line heads in
    let entity = pieces_of 10 (entity_text heads) in
    let tables = tables_lines heads watch.want in
    let procs = processes_lines heads watch.procs in
    let end = codes "end architecture;" ∷ [] in
    let back = codes "begin" ∷ (procs ++ end) in
    let after : lines_text back ≡ back_text watch = ap (λ (t : List ℕ). codes "begin\n" ++ t) (lines_text-append procs end ∙ ap (λ (t : List ℕ). t ++ codes "end architecture;\n") (processes_lines-text heads watch.procs)) in
    let middle : lines_text (tables ++ back) ≡ tables_text heads watch.want ++ back_text watch =
    lines_text-append tables back ∙ ap (λ (t : List ℕ). t ++ lines_text back) (tables_lines-text heads watch.want) ∙ ap (λ (t : List ℕ). tables_text heads watch.want ++ t) after in
    let body : lines_text (entity ++ (tables ++ back)) ≡ (entity_text heads ++ 10 ∷ []) ++ (tables_text heads watch.want ++ back_text watch) =
    lines_text-append entity (tables ++ back) ∙ ap (λ (t : List ℕ). t ++ lines_text (tables ++ back)) (pieces-text (entity_text heads)) ∙ ap (λ (t : List ℕ). (entity_text heads ++ 10 ∷ []) ++ t) middle in
    ap (λ (t : List ℕ). codes "-- tydi-watch 1\n" ++ t)
    (lines_text-append comments (entity ++ (tables ++ back)) ∙ ap (λ (t : List ℕ). t ++ lines_text (entity ++ (tables ++ back))) (comments-text heads) ∙ ap (λ (t : List ℕ). flat_map stream_comment heads ++ t) body
    ∙ sym (append_assoc (flat_map stream_comment heads) (entity_text heads ++ 10 ∷ []) (tables_text heads watch.want ++ back_text watch)))

-- ---- processes of streams

-- each stream has a process that it may have
abbrev pub AreProcesses : List Head → List Statements → Type 0
AreProcesses [] [] = Unit {0}
AreProcesses [] (process ∷ more) = ⊥
AreProcesses (head ∷ heads) [] = ⊥
AreProcesses (head ∷ heads) (process ∷ more) = AreStatements head.params.dims around_process process × AreProcesses heads more

processes-spelled : (heads : List Head) (found procs : List Statements) (rest : List (List ℕ)) → AreProcesses heads procs → processes_from heads found (processes_lines heads procs ++ rest) ≡ took (found ++ procs) rest
processes-spelled [] found [] rest are = ap (λ (all : List Statements). took all rest) (sym (append-nil found))
processes-spelled [] found (process ∷ more) rest are = absurd are
processes-spelled (head ∷ heads) found [] rest are = absurd are
processes-spelled (head ∷ heads) found (process ∷ more) rest are =
    ap (processes_from (head ∷ heads) found) (append_assoc (process_lines head process) (processes_lines heads more) rest)
    ∙ rw (process-spelled head process (processes_lines heads more ++ rest) are.0)
    (processes-spelled heads (found ++ process ∷ []) more rest are.1 ∙ ap (λ (all : List Statements). took all rest) (append_assoc found (process ∷ []) more))

-- ---- the streams of a monitor

less : (a b : ℕ) → ◌≡◌ {A = ℕ} (suc a) (suc b) → a ≡ b
less a b e = omega arith

-- each stream with its table and its process
abbrev AreStreams : List Head → List (List Item) → List Statements → Type 0
AreStreams heads want procs = (i : ℕ) (head : Head) (first : List Item) (process : Statements) → slice_get heads i ≡ Some head → slice_get want i ≡ Some first → slice_get procs i ≡ Some process → IsStream head first process

tables-are : (heads : List Head) (want : List (List Item)) (procs : List Statements) → All IsHead heads → length want ≡ length heads → length procs ≡ length heads → AreStreams heads want procs → AreTables heads want
tables-are [] [] procs own many count each = tt
tables-are [] (first ∷ want) procs own many count each = absurd (omega (arith, many))
tables-are (head ∷ heads) [] procs own many count each = absurd (omega (arith, many))
tables-are (head ∷ heads) (first ∷ want) [] own many count each = absurd (omega (arith, count))
tables-are (head ∷ heads) (first ∷ want) (process ∷ procs) own many count each =
    let is = each 0 head first process refl refl refl in (
      record { own = All-head IsHead head heads own; few = is.few; items = is.items },
      tables-are heads want procs (All-tail IsHead head heads own) (less (length want) (length heads) many) (less (length procs) (length heads) count) (λ i. each (suc i)),
    )

processes-are : (heads : List Head) (want : List (List Item)) (procs : List Statements) → length want ≡ length heads → length procs ≡ length heads → AreStreams heads want procs → AreProcesses heads procs
processes-are [] want [] many count each = tt
processes-are [] want (process ∷ procs) many count each = absurd (omega (arith, count))
processes-are (head ∷ heads) want [] many count each = absurd (omega (arith, count))
processes-are (head ∷ heads) [] (process ∷ procs) many count each = absurd (omega (arith, many))
processes-are (head ∷ heads) (first ∷ want) (process ∷ procs) many count each =
    let is = each 0 head first process refl refl refl in
    (is.statements, processes-are heads want procs (less (length want) (length heads) many) (less (length procs) (length heads) count) (λ i. each (suc i)))

-- ---- monitors

heads-found : (heads : List Head) (entity back : List (List ℕ)) (first : List ℕ) (rest : List (List ℕ)) → MayFollow [] heads → entity ≡ first ∷ rest → is_comment first ≡ false
    → heads_from [] (map comment_line heads ++ (entity ++ back)) ≡ took heads (entity ++ back)
heads-found heads entity back first rest may is other = rw is (heads_from-spelled [] heads first (rest ++ back) may other)

entity-begins : (heads : List Head) → pieces_of 10 (entity_text heads) ≡ codes "library ieee;" ∷ pieces_of 10 (drop 14 (entity_text heads))
entity-begins heads = pieces_of-append 10 (codes "library ieee;") (drop 14 (entity_text heads)) (lacks-by 10 (codes "library ieee;") refl)

watch_from-spelled : (watch : PlainWatch) → AreHeads watch.heads → AreTables watch.heads watch.want → AreProcesses watch.heads watch.procs → watch_from (watch_lines watch) ≡ took watch []
unfolding watch_from body_of processes_of closed
watch_from-spelled watch own tables procs =
    let heads = watch.heads in
    let entity = pieces_of 10 (entity_text heads) in
    let last = codes "end architecture;" ∷ [] in
    let third = codes "begin" ∷ (processes_lines heads watch.procs ++ last) in
    let second = tables_lines heads watch.want ++ third in
    let few = own.few in
    let may : MayFollow [] heads = record { each = own.each; room = omega (arith, few); apart = own.apart; new = λ i head there. refl } in
    let found : heads_from [] (map comment_line heads ++ (entity ++ second)) ≡ took heads (entity ++ second) =
    heads-found heads entity second (codes "library ieee;") (pieces_of 10 (drop 14 (entity_text heads))) may (entity-begins heads) refl in
    rw (
      a_line-given (codes "-- tydi-watch 1") (map comment_line heads ++ (entity ++ second)),
      found,
      the_lines-given entity second,
      tables-spelled heads [] watch.want third tables,
      a_line-given (codes "begin") (processes_lines heads watch.procs ++ last),
      processes-spelled heads [] watch.procs last procs,
      a_line-given (codes "end architecture;") [],
    ) refl

pub monitors_read : MonitorsAreReadAsPrinted
unfolding watch_of
monitors_read watch well =
    let lines = watch_lines watch in
    let joined = join_with_byte 10 lines in
    let tables = tables-are watch.heads watch.want watch.procs well.heads.each well.tables well.processes well.each in
    let procs = processes-are watch.heads watch.want watch.procs well.tables well.processes well.each in
    let text : watch_text watch ≡ joined ++ 10 ∷ [] = sym (watch_lines-text watch) ∙ some-pieces lines joined refl (omega arith) in
    ap (λ (t : List ℕ). watch_in (cut_last 10 t)) text ∙ ap watch_in (cut_last-append 10 joined [] (lacks-by 10 [] refl))
    ∙ ap (λ (l : List (List ℕ)). whole (length joined + 1) [] (watch_from l)) (pieces_of-join 10 lines (omega arith) (watch_lines-lack watch well.heads.each tables))
    ∙ ap (whole (length joined + 1) []) (watch_from-spelled watch well.heads tables procs)
