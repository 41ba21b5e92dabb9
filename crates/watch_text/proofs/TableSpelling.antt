-- Tables: what is spelled is read.
use Rattle.std.proofs.Common.{◌≡◌, ℕ, suc, ◌+◌, ◌-◌, ◌<◌, ◌^◌, Bool, true, false, cond, List, [], ◌∷◌, ◌++◌, append_assoc, append-nil, length, length-append, Some, None, option_and_then, All, refl, sym, ap, ◌∙◌, codes, decimal, arith}
use Rattle.std.proofs.lemmas.List.Elements.{All-head, All-tail}
use Rattle.tydi_base.specs.Decimal.{is_decimal, read_on}
use Rattle.tydi_base.specs.Pieces.{pieces_of}
use Rattle.tydi_base.proofs.DecimalLaws.{decimal_of-decimal}
use Rattle.std.proofs.lemmas.Option.{none-some}
use Rattle.tydi_reading.specs.Lists.{mark}
use Rattle.tydi_reading.specs.Reading.{took}
use Rattle.physical_stream.specs.Params.{Parameters}
use Rattle.physical_stream.specs.StreamLine.{IsHead}
use Rattle.physical_stream.specs.declared.head.Head.{Head}
use Rattle.physical_stream.specs.declared.item.Item.{Item}
use Rattle.vhdl_text.proofs.BenchSpelling.{the_lines-given}
use Rattle.watch_text.specs.Reading.{a_line, cut_before, entries_from, last_of, number_in, shape_of, table_after, table_of, tables_from, type_back, type_front, without_front}
use Rattle.watch_text.specs.Text.{end_line, item_line, items_name, table_line, type_line}
use Rattle.watch_text.specs.WellFormed.{IsItemOf}
use Rattle.watch_text.proofs.EntrySpelling.{end_line-spelled, item_line-spelled}
use Rattle.watch_text.proofs.LineParts.{cut_before-append, same-text, without_front-append}

-- ---- lines that are given

pub a_line-given : (line : List ℕ) (rest : List (List ℕ)) → a_line line (line ∷ rest) ≡ took tt rest
unfolding mark
a_line-given line rest = rw (same-text line) refl

-- ---- the line of the type

-- the line around its number
pub type_line-flat : (head : Head) (last : ℕ) → type_line head last ≡ type_front head ++ (decimal last ++ type_back head)
type_line-flat head last = ap (λ (t : List ℕ). codes "  type " ++ t) (sym (append_assoc (items_name head) (codes " is array (0 to ") (decimal last ++ type_back head)))

number-is : (n : ℕ) → n < 2 ^ 64 → is_decimal (decimal n) ≡ true
number-is n few = by (is_decimal (decimal n)) (decimal_of-decimal n few)
  where
    by : (test : Bool) → cond test (Some (read_on 0 (decimal n))) None ≡ Some n → test ≡ true
    by true e = refl
    by false e = absurd (none-some n e)

last_of-spelled : (head : Head) (last : ℕ) → last < 2 ^ 64 → last_of (type_front head) (type_back head) (type_line head last) ≡ Some (decimal last)
unfolding last_of
last_of-spelled head last few =
    let digits = decimal last in
    let back = type_back head in
    let many : length digits ≡ length (digits ++ back) - length back = omega (arith, length-append digits back) in
    let number : is_decimal digits ≡ true = number-is last few in
    ap (λ (line : List ℕ). option_and_then (λ text. number_in (cut_before (length text - length back) back text)) (without_front (type_front head) line)) (type_line-flat head last)
    ∙ rw (without_front-append (type_front head) (digits ++ back), cut_before-append (length (digits ++ back) - length back) digits back many, number) refl

-- ---- tables

-- the lines of items, the first of which has this number
abbrev pub item_lines_of : Parameters → ℕ → List Item → List (List ℕ)
item_lines_of p number [] = []
item_lines_of p number (item ∷ more) = item_line p number item ∷ item_lines_of p (suc number) more

-- the lines of a table
abbrev pub table_lines : Head → List Item → List (List ℕ)
table_lines head want =
    type_line head (length want) ∷ (pieces_of 10 (table_line head) ++ (item_lines_of head.params 0 want ++ (end_line head.params (length want) ∷ codes "  );" ∷ [])))

-- the items that a stream may expect
pub record IsTable (head : Head) (want : List Item) : Type 0 where
  pub own : IsHead head
  pub few : length want < 2 ^ 64
  pub items : All (IsItemOf head.params) want

module _ (head : Head) (h : IsHead head) (last : ℕ) (few : last < 2 ^ 64) where
  entries-spelled : (found want : List Item) (rest : List (List ℕ)) → length found + length want ≡ last → All (IsItemOf head.params) want
      → entries_from (shape_of head) (decimal last) found (item_lines_of head.params (length found) want ++ (end_line head.params last ∷ rest)) ≡ took (found ++ want) rest
  entries-spelled found [] rest many each =
      let all : length found ≡ last = omega (arith, many) in
      rw (all, end_line-spelled head h last few) (ap (λ (all : List Item). took all rest) (sym (append-nil found)))
  entries-spelled found (item ∷ want) rest many each =
      let before : length found < last = omega (arith, many) in
      let next : length (found ++ item ∷ []) ≡ suc (length found) = length-append found (item ∷ []) ∙ omega arith in
      let later = entries-spelled (found ++ item ∷ []) want rest (omega (arith, many, next)) (All-tail (IsItemOf head.params) item want each) in
      rw (item_line-spelled head h last (length found) item before few (All-head (IsItemOf head.params) item want each), ← next)
      (later ∙ ap (λ (all : List Item). took all rest) (append_assoc found (item ∷ []) want))

table-spelled : (head : Head) (want : List Item) (rest : List (List ℕ)) → IsTable head want → table_of (shape_of head) (table_lines head want ++ rest) ≡ took want rest
unfolding table_after shape_of
table-spelled head want rest is =
    let last = length want in
    let lines = item_lines_of head.params 0 want in
    let entries = lines ++ (end_line head.params last ∷ codes "  );" ∷ rest) in
    let flat : (pieces_of 10 (table_line head) ++ (lines ++ (end_line head.params last ∷ codes "  );" ∷ []))) ++ rest ≡ pieces_of 10 (table_line head) ++ entries =
    append_assoc (pieces_of 10 (table_line head)) (lines ++ (end_line head.params last ∷ codes "  );" ∷ [])) rest
    ∙ ap (λ (l : List (List ℕ)). pieces_of 10 (table_line head) ++ l) (append_assoc lines (end_line head.params last ∷ codes "  );" ∷ []) rest) in
    let found : entries_from (shape_of head) (decimal last) [] entries ≡ took want (codes "  );" ∷ rest) = entries-spelled head is.own last is.few [] want (codes "  );" ∷ rest) (omega arith) is.items in
    type-read head want rest is.few ∙ ap (table_after (shape_of head) (decimal last)) flat ∙ after-read head want rest entries found
  where
    type-read : (head : Head) (want : List Item) (rest : List (List ℕ)) → length want < 2 ^ 64 → table_of (shape_of head) (table_lines head want ++ rest)
        ≡ table_after (shape_of head) (decimal (length want)) ((pieces_of 10 (table_line head) ++ (item_lines_of head.params 0 want ++ (end_line head.params (length want) ∷ codes "  );" ∷ []))) ++ rest)
    type-read head want rest few = rw (last_of-spelled head (length want) few) refl

    after-read : (head : Head) (want : List Item) (rest entries : List (List ℕ)) → entries_from (shape_of head) (decimal (length want)) [] entries ≡ took want (codes "  );" ∷ rest)
        → table_after (shape_of head) (decimal (length want)) (pieces_of 10 (table_line head) ++ entries) ≡ took want rest
    after-read head want rest entries found = rw (the_lines-given (pieces_of 10 (table_line head)) entries, found, a_line-given (codes "  );") rest) refl

-- ---- tables of streams

-- each stream has a table that it may have
abbrev pub AreTables : List Head → List (List Item) → Type 0
AreTables [] [] = Unit {0}
AreTables [] (want ∷ more) = ⊥
AreTables (head ∷ heads) [] = ⊥
AreTables (head ∷ heads) (want ∷ more) = IsTable head want × AreTables heads more

abbrev pub tables_lines : List Head → List (List Item) → List (List ℕ)
tables_lines [] want = []
tables_lines (head ∷ heads) [] = []
tables_lines (head ∷ heads) (want ∷ more) = table_lines head want ++ tables_lines heads more

pub tables-spelled : (heads : List Head) (found want : List (List Item)) (rest : List (List ℕ)) → AreTables heads want → tables_from heads found (tables_lines heads want ++ rest) ≡ took (found ++ want) rest
tables-spelled [] found [] rest are = ap (λ (all : List (List Item)). took all rest) (sym (append-nil found))
tables-spelled [] found (want ∷ more) rest are = absurd are
tables-spelled (head ∷ heads) found [] rest are = absurd are
tables-spelled (head ∷ heads) found (want ∷ more) rest are =
    ap (tables_from (head ∷ heads) found) (append_assoc (table_lines head want) (tables_lines heads more) rest)
    ∙ rw (table-spelled head want (tables_lines heads more ++ rest) are.0)
    (tables-spelled heads (found ++ want ∷ []) more rest are.1 ∙ ap (λ (all : List (List Item)). took all rest) (append_assoc found (want ∷ []) more))
