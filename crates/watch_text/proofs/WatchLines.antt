-- The lines of a monitor: none of them has an LF.
use Rattle.std.proofs.Common.{◌≡◌, ℕ, zero, suc, ◌+◌, ◌-◌, ◌<◌, ◌^◌, Bool, true, false, nat_le, if◌then◌else◌, List, [], ◌∷◌, ◌++◌, map, length, replicate, All, refl, codes, decimal, arith}
use Rattle.std.specs.List.{flat_map, list_all}
use Rattle.std.proofs.lemmas.List.Elements.{All-append, All-head, All-nil, All-tail}
use Rattle.tydi_base.specs.Binary.{binary_of}
use Rattle.tydi_base.specs.Bits.{bits_of}
use Rattle.tydi_base.specs.Path.{path_text}
use Rattle.tydi_base.specs.Pieces.{Lacks, pieces_of}
use Rattle.tydi_base.proofs.PieceLaws.{pieces_of-each_lacks}
use Rattle.tydi_base.proofs.PlainWords.{and_parts, both, decimal-plain}
use Rattle.physical_stream.specs.Params.{Parameters}
use Rattle.physical_stream.specs.Signals.{has_endi, has_stai, has_strb}
use Rattle.physical_stream.specs.StreamLine.{IsHead}
use Rattle.physical_stream.specs.declared.head.Head.{Head}
use Rattle.physical_stream.specs.declared.item.Item.{Item}
use Rattle.physical_stream.specs.declared.item.Item.TheVariants as items
use Rattle.signal_layout.specs.declared.signal.Signal.{Signal}
use Rattle.signal_layout.specs.declared.signal.Signal.TheVariants as signals
use Rattle.vhdl_text.specs.Text.{name_text, plain_name}
use Rattle.vhdl_text.proofs.BenchSpelling.{comment_line, comments-line, lines-append}
use Rattle.vhdl_text.proofs.CutLemmas.{all-append, are_lines-lack, is_line, is_not, path_bytes-not, path_text-bytes, plain-line}
use Rattle.vhdl_text.proofs.LineLemmas.{binary-all, plain_name-bytes}
use Rattle.watch_text.specs.declared.opening.Opening.{Opening}
use Rattle.watch_text.specs.declared.opening.Opening.TheVariants as openings
use Rattle.watch_text.specs.Reading.{at, end_of, forms_of, opening_text, type_back, wait_text}
use Rattle.watch_text.specs.Statements.{PlainWatch, Statement, Statements, dims, if_active, if_last, lanes, need_close, need_elem, no_statements, statement}
use Rattle.watch_text.specs.Text.{active_test, close_test, elem_test, elem_word, end_line, endi_test, entity_text, entry_front, fault_line, fault_name, if_line, item_digits, item_line, item_width, items_name, joined, lane_slice, last_test, loop_line, own_name, stai_test, strb_test, table_line, type_line, want_name, want_test, where_has, zeros}
use Rattle.watch_text.proofs.StatementSpelling.{block_lines, need_lines, process_lines, statement_lines, statements_lines}
use Rattle.watch_text.proofs.TableSpelling.{AreTables, item_lines_of, table_lines, tables_lines}

-- ---- parts of lines

joins : (front rest : List ℕ) → is_line front ≡ true → is_line rest ≡ true → is_line (front ++ rest) ≡ true
joins front rest e f = all-append (is_not 10) front rest e f

repeat-line : (count byte : ℕ) → is_not 10 byte ≡ true → is_line (replicate count byte) ≡ true
repeat-line zero byte other = refl
repeat-line (suc count) byte other = both (is_not 10 byte) (is_line (replicate count byte)) other (repeat-line count byte other)

number-line : (n : ℕ) → n < 2 ^ 64 → is_line (decimal n) ≡ true
number-line n few = plain-line (decimal n) (decimal-plain n few)

-- ---- tables

module _ (head : Head) (h : IsHead head) where
  abbrev p : Parameters
  p = head.params

  few-bits : item_width p + 1 < 2 ^ 64
  few-bits = let most = h.range.element_most in omega (arith, most)

  own_name-line : (word : List ℕ) → is_line word ≡ true → is_line (own_name head word) ≡ true
  own_name-line word is =
      joins (path_text head.path) (46 ∷ (word ++ 92 ∷ [])) (path_bytes-not 10 (path_text head.path) refl (path_text-bytes head.path h.names)) (joins word (92 ∷ []) is refl)

  name_text-line : (signal : Signal) → is_line (name_text head signal) ≡ true
  name_text-line signal = joins (plain_name head signal) (92 ∷ []) (path_bytes-not 10 (plain_name head signal) refl (plain_name-bytes head signal h)) refl

  type_line-line : (last : ℕ) → last < 2 ^ 64 → is_line (type_line head last) ≡ true
  type_line-line last few =
      joins (items_name head) (codes " is array (0 to " ++ (decimal last ++ type_back head)) (own_name-line (codes "items") refl)
      (joins (decimal last) (type_back head) (number-line last few) (joins (decimal (item_width p + 1)) (codes " downto 0);") (number-line (item_width p + 1) few-bits) refl))

  digits-line : (item : Item) → is_line (item_digits p item) ≡ true
  digits-line (items.Elem word) = joins (zeros (item_width p - p.element)) (binary_of word) (repeat-line (item_width p - p.element) 48 refl) (binary-all (is_not 10) word refl refl)
  digits-line (items.Close dim) = joins (zeros (item_width p - 6)) (binary_of (bits_of 6 dim)) (repeat-line (item_width p - 6) 48 refl) (binary-all (is_not 10) (bits_of 6 dim) refl refl)

  front-line : (number : ℕ) → number < 2 ^ 64 → is_line (entry_front number) ≡ true
  front-line number few = joins (decimal number) (codes " => \"") (number-line number few) refl

  item_line-line : (number : ℕ) (item : Item) → number < 2 ^ 64 → is_line (item_line p number item) ≡ true
  item_line-line number item few = joins (entry_front number) (item_digits p item ++ codes "\",") (front-line number few) (joins (item_digits p item) (codes "\",") (digits-line item) refl)

  end_line-line : (number : ℕ) → number < 2 ^ 64 → is_line (end_line p number) ≡ true
  end_line-line number few = joins (entry_front number) (zeros (item_width p + 2) ++ codes "\"") (front-line number few) (joins (zeros (item_width p + 2)) (codes "\"") (repeat-line (item_width p + 2) 48 refl) refl)

  item_lines-line : (number : ℕ) (want : List Item) → number + length want < 2 ^ 64 → list_all is_line (item_lines_of p number want) ≡ true
  item_lines-line number [] few = refl
  item_lines-line number (item ∷ want) few =
      both (is_line (item_line p number item)) (list_all is_line (item_lines_of p (suc number) want)) (item_line-line number item (omega (arith, few))) (item_lines-line (suc number) want (omega (arith, few)))

  table_lines-lack : (want : List Item) → length want < 2 ^ 64 → All (Lacks 10) (table_lines head want)
  table_lines-lack want few =
      let entries = item_lines_of p 0 want ++ (end_line p (length want) ∷ codes "  );" ∷ []) in
      All-append (Lacks 10) (type_line head (length want) ∷ []) (pieces_of 10 (table_line head) ++ entries)
      (are_lines-lack (type_line head (length want) ∷ []) (both (is_line (type_line head (length want))) true (type_line-line (length want) few) refl))
      (All-append (Lacks 10) (pieces_of 10 (table_line head)) entries (pieces_of-each_lacks 10 (table_line head))
      (are_lines-lack entries (lines-append (item_lines_of p 0 want) (end_line p (length want) ∷ codes "  );" ∷ []) (item_lines-line 0 want (omega (arith, few))) (both (is_line (end_line p (length want))) true (end_line-line (length want) few) refl))))

  -- ---- statements

  loop-line : (variable : List ℕ) (count : ℕ) → is_line variable ≡ true → count < 2 ^ 64 → is_line (loop_line variable count) ≡ true
  loop-line variable count is few =
      joins variable (codes " in 0 to " ++ (decimal (count - 1) ++ codes " loop")) is (joins (decimal (count - 1)) (codes " loop") (number-line (count - 1) (omega (arith, few))) refl)

  if-line : (test : List ℕ) → is_line test ≡ true → is_line (if_line test) ≡ true
  if-line test is = joins test (codes " then") is refl

  more-line : (tests : List (List ℕ)) → list_all is_line tests ≡ true → is_line (flat_map (λ test. codes " and " ++ test) tests) ≡ true
  more-line [] are = refl
  more-line (test ∷ tests) are =
      let parts = and_parts (is_line test) (list_all is_line tests) are in
      joins test (flat_map (λ test. codes " and " ++ test) tests) parts.0 (more-line tests parts.1)

  joined-line : (tests : List (List ℕ)) → list_all is_line tests ≡ true → is_line (joined tests) ≡ true
  joined-line [] are = refl
  joined-line (test ∷ tests) are =
      let parts = and_parts (is_line test) (list_all is_line tests) are in
      joins test (flat_map (λ test. codes " and " ++ test) tests) parts.0 (more-line tests parts.1)

  where-line : (has : Bool) (test : List ℕ) → is_line test ≡ true → list_all is_line (where_has has test) ≡ true
  where-line true test is = both (is_line test) true is refl
  where-line false test is = refl

  active-line : is_line (active_test head) ≡ true
  active-line =
      let stai = where_has (has_stai p) (stai_test head) in
      let endi = where_has (has_endi p) (endi_test head) in
      let strb = where_has (has_strb p) (strb_test head) in
      joined-line (stai ++ (endi ++ strb))
      (lines-append stai (endi ++ strb) (where-line (has_stai p) (stai_test head) (joins (name_text head signals.Stai) (codes ")) <= lane") (name_text-line signals.Stai) refl))
      (lines-append endi strb (where-line (has_endi p) (endi_test head) (joins (name_text head signals.Endi) (codes "))") (name_text-line signals.Endi) refl))
      (where-line (has_strb p) (strb_test head) (joins (name_text head signals.Strb) (codes "(lane) = '1'") (name_text-line signals.Strb) refl))))

  last-line : is_line (last_test head) ≡ true
  last-line =
      let most = h.range.dims_most in
      joins (name_text head signals.Last) (codes "(lane * " ++ (decimal p.dims ++ codes " + dim) = '1'")) (name_text-line signals.Last)
      (joins (decimal p.dims) (codes " + dim) = '1'") (number-line p.dims (omega (arith, most))) refl)

  slice-line : is_line (lane_slice head) ≡ true
  slice-line =
      let most = h.range.element_most in
      let few : p.element < 2 ^ 64 = omega (arith, most) in
      let less : p.element - 1 < 2 ^ 64 = omega (arith, most) in
      let last = decimal p.element ++ codes ")" in
      let mid = decimal (p.element - 1) ++ (codes " downto lane * " ++ last) in
      joins (name_text head signals.Content) (codes "(lane * " ++ (decimal p.element ++ (codes " + " ++ mid))) (name_text-line signals.Content)
      (joins (decimal p.element) (codes " + " ++ mid) (number-line p.element few)
      (joins (decimal (p.element - 1)) (codes " downto lane * " ++ last) (number-line (p.element - 1) less) (joins (decimal p.element) (codes ")") (number-line p.element few) refl)))

  want-line : (word : List ℕ) → is_line word ≡ true → is_line (want_test head word) ≡ true
  want-line word is = joins (want_name head) (codes "(place) = " ++ word) (own_name-line (codes "want") refl) is

  word-line : (width : ℕ) → is_line (elem_word head width) ≡ true
  word-line zero = refl
  word-line (suc less) = by (nat_le 6 (suc less))
    where
      by : (wide : Bool) → is_line (if wide then codes "\"10\" & " ++ lane_slice head else codes "\"10\" & \"" ++ (zeros (6 - suc less) ++ (codes "\" & " ++ lane_slice head))) ≡ true
      by true = slice-line
      by false = joins (zeros (6 - suc less)) (codes "\" & " ++ lane_slice head) (repeat-line (6 - suc less) 48 refl) slice-line

  close-line : is_line (close_test head) ≡ true
  close-line =
      let most = few-bits in
      want-line (codes "\"01\" & std_logic_vector(to_unsigned(dim, " ++ (decimal (item_width p) ++ codes "))")) (joins (decimal (item_width p)) (codes "))") (number-line (item_width p) (omega (arith, most))) refl)

  opening-line : (opening : Opening) → is_line (opening_text (forms_of head) opening) ≡ true
  unfolding forms_of
  opening-line openings.Lanes = let most = h.range.lanes_most in loop-line (codes "lane") p.lanes refl (omega (arith, most))
  opening-line openings.Dims = let most = h.range.dims_most in loop-line (codes "dim") p.dims refl (omega (arith, most))
  opening-line openings.IfActive = if-line (active_test head) active-line
  opening-line openings.IfLast = if-line (last_test head) last-line
  opening-line openings.NeedElem = if-line (elem_test head) (want-line (elem_word head p.element) (word-line p.element))
  opening-line openings.NeedClose = if-line (close_test head) close-line

  end-line : (opening : Opening) → is_line (end_of opening) ≡ true
  end-line openings.Lanes = refl
  end-line openings.Dims = refl
  end-line openings.IfActive = refl
  end-line openings.IfLast = refl
  end-line openings.NeedElem = refl
  end-line openings.NeedClose = refl

  at-line : (indent : ℕ) (text : List ℕ) → is_line text ≡ true → is_line (at indent text) ≡ true
  at-line indent text is = joins (replicate indent 32) text (repeat-line indent 32 refl) is

  block-line : (indent : ℕ) (opening : Opening) (body : List (List ℕ)) → list_all is_line body ≡ true → list_all is_line (block_lines (forms_of head) indent opening body) ≡ true
  block-line indent opening body are =
      both (is_line (at indent (opening_text (forms_of head) opening))) (list_all is_line (body ++ at indent (end_of opening) ∷ [])) (at-line indent (opening_text (forms_of head) opening) (opening-line opening))
      (lines-append body (at indent (end_of opening) ∷ []) are (both (is_line (at indent (end_of opening))) true (at-line indent (end_of opening) (end-line opening)) refl))

  need-line : (indent : ℕ) (need : Opening) → list_all is_line (need_lines (forms_of head) indent need) ≡ true
  unfolding forms_of
  need-line indent need =
      both (is_line (at indent (opening_text (forms_of head) need))) _ (at-line indent (opening_text (forms_of head) need) (opening-line need))
      (both (is_line (at (indent + 2) (codes "place := place + 1;"))) _ (at-line (indent + 2) (codes "place := place + 1;") refl)
      (both (is_line (at indent (codes "else"))) _ (at-line indent (codes "else") refl)
      (both (is_line (at (indent + 2) (fault_line head))) _ (at-line (indent + 2) (fault_line head) (joins (fault_name head) (codes " <= '1';") (own_name-line (codes "fault") refl) refl))
      (both (is_line (at (indent + 2) (codes "wait;"))) _ (at-line (indent + 2) (codes "wait;") refl)
      (both (is_line (at indent (codes "end if;"))) true (at-line indent (codes "end if;") refl) refl)))))

  mutual
    statement-line : (indent : ℕ) (first : Statement) → list_all is_line (statement_lines (forms_of head) indent first) ≡ true
    statement-line indent (lanes body) = block-line indent openings.Lanes (statements_lines (forms_of head) (indent + 2) body) (statements-line (indent + 2) body)
    statement-line indent (dims body) = block-line indent openings.Dims (statements_lines (forms_of head) (indent + 2) body) (statements-line (indent + 2) body)
    statement-line indent (if_active body) = block-line indent openings.IfActive (statements_lines (forms_of head) (indent + 2) body) (statements-line (indent + 2) body)
    statement-line indent (if_last body) = block-line indent openings.IfLast (statements_lines (forms_of head) (indent + 2) body) (statements-line (indent + 2) body)
    statement-line indent need_elem = need-line indent openings.NeedElem
    statement-line indent need_close = need-line indent openings.NeedClose

    statements-line : (indent : ℕ) (some : Statements) → list_all is_line (statements_lines (forms_of head) indent some) ≡ true
    statements-line indent no_statements = refl
    statements-line indent (statement first more) =
        lines-append (statement_lines (forms_of head) indent first) (statements_lines (forms_of head) indent more) (statement-line indent first) (statements-line indent more)

  process_lines-lack : (process : Statements) → All (Lacks 10) (process_lines head process)
  process_lines-lack process =
      let lines = statements_lines (forms_of head) 6 process ++ (codes "    end loop;" ∷ codes "  end process;" ∷ []) in
      All-append (Lacks 10) (pieces_of 10 (wait_text head)) lines (pieces_of-each_lacks 10 (wait_text head))
      (are_lines-lack lines (lines-append (statements_lines (forms_of head) 6 process) (codes "    end loop;" ∷ codes "  end process;" ∷ []) (statements-line 6 process) refl))

-- ---- monitors

-- the lines of the processes of these streams
abbrev pub processes_lines : List Head → List Statements → List (List ℕ)
processes_lines [] procs = []
processes_lines (head ∷ heads) [] = []
processes_lines (head ∷ heads) (process ∷ more) = process_lines head process ++ processes_lines heads more

-- the lines of a monitor
abbrev pub watch_lines : PlainWatch → List (List ℕ)
watch_lines watch =
    codes "-- tydi-watch 1" ∷ (map comment_line watch.heads ++ (pieces_of 10 (entity_text watch.heads) ++ (tables_lines watch.heads watch.want ++ (codes "begin" ∷ (processes_lines watch.heads watch.procs ++ codes "end architecture;" ∷ [])))))

tables_lines-lack : (heads : List Head) (want : List (List Item)) → AreTables heads want → All (Lacks 10) (tables_lines heads want)
tables_lines-lack [] want are = All-nil (Lacks 10)
tables_lines-lack (head ∷ heads) [] are = All-nil (Lacks 10)
tables_lines-lack (head ∷ heads) (first ∷ want) are =
    All-append (Lacks 10) (table_lines head first) (tables_lines heads want) (table_lines-lack head are.0.own first are.0.few) (tables_lines-lack heads want are.1)

processes_lines-lack : (heads : List Head) (procs : List Statements) → All IsHead heads → All (Lacks 10) (processes_lines heads procs)
processes_lines-lack [] procs own = All-nil (Lacks 10)
processes_lines-lack (head ∷ heads) [] own = All-nil (Lacks 10)
processes_lines-lack (head ∷ heads) (process ∷ procs) own =
    All-append (Lacks 10) (process_lines head process) (processes_lines heads procs) (process_lines-lack head (All-head IsHead head heads own) process) (processes_lines-lack heads procs (All-tail IsHead head heads own))

pub watch_lines-lack : (watch : PlainWatch) → All IsHead watch.heads → AreTables watch.heads watch.want → All (Lacks 10) (watch_lines watch)
watch_lines-lack watch own are =
    let heads = watch.heads in
    let title = codes "-- tydi-watch 1" ∷ map comment_line heads in
    let procs = processes_lines heads watch.procs in
    let back = codes "begin" ∷ (procs ++ codes "end architecture;" ∷ []) in
    let tables = tables_lines heads watch.want in
    let entity = pieces_of 10 (entity_text heads) in
    All-append (Lacks 10) title (entity ++ (tables ++ back)) (are_lines-lack title (comments-line heads own))
    (All-append (Lacks 10) entity (tables ++ back) (pieces_of-each_lacks 10 (entity_text heads))
    (All-append (Lacks 10) tables back (tables_lines-lack heads watch.want are)
    (All-append (Lacks 10) (codes "begin" ∷ []) (procs ++ codes "end architecture;" ∷ []) (are_lines-lack (codes "begin" ∷ []) refl)
    (All-append (Lacks 10) procs (codes "end architecture;" ∷ []) (processes_lines-lack heads watch.procs own) (are_lines-lack (codes "end architecture;" ∷ []) refl)))))
