-- Tables: what is read is spelled so.
use Rattle.std.proofs.Common.{◌≡◌, ℕ, suc, ◌-◌, ◌<◌, ◌^◌, Bool, true, false, cond, List, [], ◌∷◌, ◌++◌, append_assoc, append-nil, length, length-append, Option, Some, None, All, refl, sym, ap, ◌∙◌, codes, decimal, arith}
use Rattle.std.proofs.lemmas.List.Elements.{All-cons, All-head, All-nil, All-tail}
use Rattle.std.proofs.lemmas.Option.{none-some, same_Some, option_and_then_some}
use Rattle.tydi_base.specs.Decimal.{is_decimal}
use Rattle.tydi_base.specs.Pieces.{pieces_of}
use Rattle.tydi_reading.specs.Reading.{Outcome, took, and_then, pure}
use Rattle.physical_stream.specs.Params.{Parameters}
use Rattle.physical_stream.specs.StreamLine.{IsHead}
use Rattle.physical_stream.specs.declared.head.Head.{Head}
use Rattle.physical_stream.specs.declared.item.Item.{Item}
use Rattle.vhdl_text.specs.declared.refusal.Refusal.{Refusal}
use Rattle.vhdl_text.specs.Reading.{lines_text, the_lines}
use Rattle.vhdl_text.proofs.BenchReading.{and_then-some, mark-some, the_lines-some, took-same}
use Rattle.vhdl_text.proofs.BenchSpelling.{pieces-text}
use Rattle.vhdl_text.proofs.ProcessSpelling.{lines_text-append}
use Rattle.watch_text.specs.declared.entry.Entry.{Entry}
use Rattle.watch_text.specs.declared.entry.Entry.TheVariants as entries
use Rattle.watch_text.specs.Reading.{a_line, cut_before, entries_from, entry_of_line, last_of, number_in, shape_of, table_after, table_of, tables_from, type_back, type_front, with_entry, with_last, without_front}
use Rattle.watch_text.specs.Text.{end_line, item_line, item_lines, table_line, table_text, tables_text, type_line}
use Rattle.watch_text.specs.WellFormed.{IsItemOf}
use Rattle.watch_text.proofs.EntryReading.{LineRead, item_read, end_read, entry_of_line-some}
use Rattle.watch_text.proofs.LineParts.{cut_before-some, without_front-some}
use Rattle.watch_text.proofs.TableSpelling.{AreTables, type_line-flat}

-- ---- the line of the type

last_of-some : (front back line last : List ℕ) → last_of front back line ≡ Some last → line ≡ front ++ (last ++ back)
unfolding last_of
last_of-some front back line last e =
    option_and_then_some {A = List ℕ} {B = List ℕ} {P = line ≡ front ++ (last ++ back)} (λ text. number_in (cut_before (length text - length back) back text)) (without_front front line) last e (λ text there number.
    without_front-some front line text there ∙ ap (λ (t : List ℕ). front ++ t) (by_cut text (cut_before (length text - length back) back text) refl number))
  where
    by_number : (text digits : List ℕ) → text ≡ digits ++ back → (test : Bool) → cond test (Some digits) None ≡ Some last → text ≡ last ++ back
    by_number text digits is true e = is ∙ ap (λ (d : List ℕ). d ++ back) (same_Some digits last e)
    by_number text digits is false e = absurd (none-some last e)

    by_cut : (text : List ℕ) (found : Option (List ℕ)) → cut_before (length text - length back) back text ≡ found → number_in found ≡ Some last → text ≡ last ++ back
    by_cut text None is e = absurd (none-some last e)
    by_cut text (Some digits) is e = by_number text digits (cut_before-some (length text - length back) back text digits is) (is_decimal digits) e

-- ---- entries

module _ (head : Head) where
  abbrev p : Parameters
  p = head.params

  -- the entries behind some items, up to the end
  record EntriesRead (last : List ℕ) (found : List Item) (lines : List (List ℕ)) (want : List Item) (rest : List (List ℕ)) : Type 0 where
    more : List Item
    all : want ≡ found ++ more
    each : All (IsItemOf p) more
    few : length want < 2 ^ 64
    number : decimal (length want) ≡ last
    text : lines_text lines ≡ item_lines p (length found) more ++ (end_line p (length want) ++ 10 ∷ lines_text rest)

  next_entry : (found : List Item) (line : List ℕ) (lines rest : List (List ℕ)) (more : Item → Outcome Refusal (List ℕ) (List Item)) (want : List Item) (entry : Entry) (item : Item) → entry ≡ entries.Item item
      → with_entry found (line ∷ lines) lines more (Some entry) ≡ took want rest → more item ≡ took want rest
  next_entry found line lines rest more want entry item is e = sym (ap (λ (x : Entry). with_entry found (line ∷ lines) lines more (Some x)) is) ∙ e

  last_entry : (found : List Item) (line : List ℕ) (lines rest : List (List ℕ)) (more : Item → Outcome Refusal (List ℕ) (List Item)) (want : List Item) (entry : Entry) → entry ≡ entries.End
      → with_entry found (line ∷ lines) lines more (Some entry) ≡ took want rest → (found ≡ want) × (lines ≡ rest)
  last_entry found line lines rest more want entry is e = took-same found want lines rest (sym (ap (λ (x : Entry). with_entry found (line ∷ lines) lines more (Some x)) is) ∙ e)

  entries-some : (last : List ℕ) (found : List Item) (lines : List (List ℕ)) (want : List Item) (rest : List (List ℕ)) → entries_from (shape_of head) last found lines ≡ took want rest → EntriesRead last found lines want rest
  entries-some last found [] want rest e = absurd cc
  entries-some last found (line ∷ lines) want rest e =
      by_entry (λ item. entries-some last (found ++ item ∷ []) lines want rest) (entry_of_line (shape_of head) last (length found) line) refl e
    where
      Later : Type 0
      Later = (item : Item) → entries_from (shape_of head) last (found ++ item ∷ []) lines ≡ took want rest → EntriesRead last (found ++ item ∷ []) lines want rest

      with_item : (item : Item) → line ≡ item_line p (length found) item → IsItemOf p item → EntriesRead last (found ++ item ∷ []) lines want rest → EntriesRead last found (line ∷ lines) want rest
      with_item item spelled own read =
          let end = end_line p (length want) ++ 10 ∷ lines_text rest in
          let next : length (found ++ item ∷ []) ≡ suc (length found) = length-append found (item ∷ []) ∙ omega arith in
          record {
            more = item ∷ read.more;
            all = read.all ∙ append_assoc found (item ∷ []) read.more;
            each = All-cons (IsItemOf p) item read.more own read.each;
            few = read.few;
            number = read.number;
            text = append_assoc line (10 ∷ []) (lines_text lines) ∙ ap (λ (l : List ℕ). l ++ 10 ∷ lines_text lines) spelled
                ∙ ap (λ (t : List ℕ). item_line p (length found) item ++ 10 ∷ t) (read.text ∙ ap (λ (n : ℕ). item_lines p n read.more ++ end) next)
                ∙ sym (append_assoc (item_line p (length found) item) (10 ∷ item_lines p (suc (length found)) read.more) end);
          }

      with_end : found ≡ want → lines ≡ rest → line ≡ end_line p (length found) → decimal (length found) ≡ last → length found < 2 ^ 64 → EntriesRead last found (line ∷ lines) want rest
      with_end all left spelled number few =
          rw (← all, ← left) (record {
            more = [];
            all = sym (append-nil found);
            each = All-nil (IsItemOf p);
            few = few;
            number = number;
            text = append_assoc line (10 ∷ []) (lines_text lines) ∙ ap (λ (l : List ℕ). l ++ 10 ∷ lines_text lines) spelled;
          })

      by_line : Later → (entry : Entry) → LineRead head last (length found) line entry → with_entry found (line ∷ lines) lines (λ item. entries_from (shape_of head) last (found ++ item ∷ []) lines) (Some entry) ≡ took want rest
          → EntriesRead last found (line ∷ lines) want rest
      by_line later entry (item_read item is spelled own few) e =
          with_item item spelled own (later item (next_entry found line lines rest (λ item. entries_from (shape_of head) last (found ++ item ∷ []) lines) want entry item is e))
      by_line later entry (end_read is spelled number few) e =
          let same = last_entry found line lines rest (λ item. entries_from (shape_of head) last (found ++ item ∷ []) lines) want entry is e in
          with_end same.0 same.1 spelled number few

      by_entry : Later → (found_entry : Option Entry) → entry_of_line (shape_of head) last (length found) line ≡ found_entry
          → with_entry found (line ∷ lines) lines (λ item. entries_from (shape_of head) last (found ++ item ∷ []) lines) found_entry ≡ took want rest → EntriesRead last found (line ∷ lines) want rest
      by_entry later None is e = absurd cc
      by_entry later (Some entry) is e = by_line later entry (entry_of_line-some head last (length found) line entry is) e

  -- ---- tables

  regroup : (t l i e z r n : List ℕ) → (t ++ n) ++ ((l ++ n) ++ (i ++ (e ++ (n ++ (z ++ r))))) ≡ ((t ++ (n ++ (l ++ n))) ++ (i ++ (e ++ (n ++ z)))) ++ r
  regroup t l i e z r n = simp append_assoc

  -- a table that was read
  pub record TableRead (lines : List (List ℕ)) (want : List Item) (rest : List (List ℕ)) : Type 0 where
    pub few : length want < 2 ^ 64
    pub items : All (IsItemOf p) want
    pub text : lines_text lines ≡ table_text head want ++ lines_text rest

  after-some : (last line : List ℕ) (lines : List (List ℕ)) (want : List Item) (rest : List (List ℕ)) → line ≡ type_front head ++ (last ++ type_back head) → table_after (shape_of head) last lines ≡ took want rest
      → TableRead (line ∷ lines) want rest
  unfolding table_after shape_of
  after-some last line lines want rest spelled e =
      let table = pieces_of 10 (table_line head) in
      let both = and_then-some (and_then (the_lines table lines) (λ _. entries_from (shape_of head) last [])) (λ want. λ ls. and_then (a_line (codes "  );") ls) (λ _. pure want)) want rest e in
      let first = and_then-some (the_lines table lines) (λ _. entries_from (shape_of head) last []) both.0 both.1 both.2 in
      let end = and_then-some (a_line (codes "  );") both.1) (λ _. pure both.0) want rest both.3 in
      let same = took-same both.0 want end.1 rest end.3 in
      let read = entries-some last [] first.1 both.0 both.1 first.3 in
      let after : both.1 ≡ codes "  );" ∷ rest = mark-some (codes "  );") both.1 end.1 end.0 end.2 ∙ ap (λ (l : List (List ℕ)). codes "  );" ∷ l) same.1 in
      let items = item_lines p 0 both.0 in
      let end_of_table = end_line p (length both.0) in
      let first_line : line ≡ type_line head (length both.0) = spelled ∙ ap (λ (d : List ℕ). type_front head ++ (d ++ type_back head)) (sym read.number) ∙ sym (type_line-flat head (length both.0)) in
      let body : lines_text lines ≡ (table_line head ++ 10 ∷ []) ++ (items ++ (end_of_table ++ 10 ∷ (codes "  );\n" ++ lines_text rest))) =
      ap lines_text (the_lines-some table lines first.1 first.0 first.2) ∙ lines_text-append table first.1 ∙ ap (λ (t : List ℕ). t ++ lines_text first.1) (pieces-text (table_line head))
      ∙ ap (λ (t : List ℕ). (table_line head ++ 10 ∷ []) ++ t) (read.text ∙ ap (λ (m : List Item). item_lines p 0 m ++ (end_of_table ++ 10 ∷ lines_text both.1)) (sym read.all)
      ∙ ap (λ (l : List (List ℕ)). items ++ (end_of_table ++ 10 ∷ lines_text l)) after) in
      rw (← same.0) (record {
        few = read.few;
        items = rw read.all read.each;
        text = ap (λ (l : List ℕ). (l ++ 10 ∷ []) ++ lines_text lines) first_line ∙ ap (λ (t : List ℕ). (type_line head (length both.0) ++ 10 ∷ []) ++ t) body
            ∙ regroup (type_line head (length both.0)) (table_line head) items end_of_table (codes "  );\n") (lines_text rest) (10 ∷ []);
      })

  pub table-some : (lines : List (List ℕ)) (want : List Item) (rest : List (List ℕ)) → table_of (shape_of head) lines ≡ took want rest → TableRead lines want rest
  unfolding shape_of
  table-some [] want rest e = absurd cc
  table-some (line ∷ lines) want rest e = by (last_of (type_front head) (type_back head) line) refl e
    where
      by : (last : Option (List ℕ)) → last_of (type_front head) (type_back head) line ≡ last → with_last (shape_of head) (line ∷ lines) lines last ≡ took want rest → TableRead (line ∷ lines) want rest
      by None is e = absurd cc
      by (Some last) is e = after-some last line lines want rest (last_of-some (type_front head) (type_back head) line last is) e

-- ---- tables of streams

pub record TablesRead (heads : List Head) (found : List (List Item)) (lines : List (List ℕ)) (want : List (List Item)) (rest : List (List ℕ)) : Type 0 where
  pub more : List (List Item)
  pub all : want ≡ found ++ more
  pub are : AreTables heads more
  pub text : lines_text lines ≡ tables_text heads more ++ lines_text rest

pub tables-some : (heads : List Head) (found : List (List Item)) (lines : List (List ℕ)) (want : List (List Item)) (rest : List (List ℕ)) → All IsHead heads → tables_from heads found lines ≡ took want rest
    → TablesRead heads found lines want rest
tables-some [] found lines want rest own e =
    let same = took-same found want lines rest e in
    rw (← same.0, ← same.1) (record { more = []; all = sym (append-nil found); are = tt; text = refl })
tables-some (head ∷ heads) found lines want rest own e =
    let first = and_then-some (table_of (shape_of head) lines) (λ want. tables_from heads (found ++ want ∷ [])) want rest e in
    let read = table-some head lines first.0 first.1 first.2 in
    let later = tables-some heads (found ++ first.0 ∷ []) first.1 want rest (All-tail IsHead head heads own) first.3 in
    record {
      more = first.0 ∷ later.more;
      all = later.all ∙ append_assoc found (first.0 ∷ []) later.more;
      are = (record { own = All-head IsHead head heads own; few = read.few; items = read.items }, later.are);
      text = read.text ∙ ap (λ (t : List ℕ). table_text head first.0 ++ t) later.text ∙ sym (append_assoc (table_text head first.0) (tables_text heads later.more) (lines_text rest));
    }
