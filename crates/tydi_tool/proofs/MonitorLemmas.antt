-- The monitor of a port for a value is well formed, and the lines that say that all is seen are shorter than its text.
use Rattle.std.proofs.Common.{◌≡◌, ◌∙◌, ℕ, zero, suc, ◌+◌, ◌^◌, ◌<◌, ◌≤◌, Bool, true, false, not, ◌&&◌, nat_le, List, [], ◌∷◌, ◌++◌, length, map, Option, Some, None, get_or, slice_get, codes, decimal, refl, sym, ap, subst, arith}
use Rattle.std.specs.List.{All, list_any, slice_index_or}
use Rattle.std.specs.Option.{option_map}
use Rattle.std.specs.Str.{bytes_eq}
use Rattle.std.proofs.lemmas.List.{length-append, length-map}
use Rattle.std.proofs.lemmas.List.Elements.{All-cons, All-nil}
use Rattle.std.proofs.lemmas.List.Folds.{list_any_at}
use Rattle.std.proofs.lemmas.Option.{get_or_from_slice_get, slice_get-map, slice_get_within}
use Rattle.std.proofs.lemmas.Slice.Eq.{bytes_eq-Decides}
use Rattle.tydi_base.specs.Path.{path_text}
use Rattle.tydi_base.proofs.PlaceLemmas.{slice_get-there}
use Rattle.physical_stream.specs.Params.{Parameters}
use Rattle.physical_stream.specs.declared.head.Head.{Head}
use Rattle.physical_stream.specs.declared.item.Item.{Item}
use Rattle.physical_stream.specs.declared.item.Item.TheVariants as items
use Rattle.cycle_trace.specs.Trace.{all_distinct, are_heads}
use Rattle.logical_value.specs.Fits.{fits_split}
use Rattle.logical_value.specs.Tree.{Tree, plain_port}
use Rattle.logical_value.specs.declared.value.PortValue.{PortValue}
use Rattle.monitor_bench.specs.Monitors.{monitor_of, process_for, statements_for}
use Rattle.port_drive.specs.Drives.{head_of_stream, heads_of, items_on}
use Rattle.port_drive.specs.Text.{AreHeadsInForm}
use Rattle.port_bench.proofs.BytesLemmas.{heads-few}
use Rattle.port_drive.proofs.DriveLemmas.{items-so}
use Rattle.port_drive.proofs.HeadLemmas.{heads-together}
use Rattle.port_drive.proofs.RunLemmas.{are-items-on}
use Rattle.scheduler.specs.Laws.{AreItems}
use Rattle.trace_decode.proofs.RowLemmas.{same_some}
use Rattle.trace_watch.specs.declared.watched.StreamWatched.{StreamWatched}
use Rattle.type_split.specs.Streams.{IsPortSplit, PlainSplit}
use Rattle.type_split.specs.declared.split.Phys.{Phys}
use Rattle.vhdl_text.specs.WellFormed.{AreApart, AreHeads}
use Rattle.watch_text.specs.Statements.{PlainWatch, Statements}
use Rattle.value_views.specs.Series.{series_of_nodes}
use Rattle.value_views.specs.Views.{Carries, EachPair, SpellsNode}
use Rattle.watch_text.specs.Text.{back_text, end_digits, end_line, entry_front, front_text, item_line, item_lines, item_width, items_name, table_back, table_front, table_line, table_text, tables_text, type_line, watch_text}
use Rattle.watch_text.specs.WellFormed.{AreStatements, IsItemOf, IsStream, IsWellFormed, around_process}
use Rattle.tydi_tool.specs.Comparisons.{items_from, items_of_value}
use Rattle.tydi_tool.specs.Reports.{path_of_stream}
use Rattle.tydi_tool.specs.WatchLaw.{all_seen, monitor_for, seen_lines}
use Rattle.tydi_tool.specs.Watches.{count_of, expected_text, lines_from, watched_line, watched_lines}
use Rattle.tydi_tool.proofs.CompareLemmas.{many-items}

-- ---- heads

both-true : (a b : Bool) → (a && b) ≡ true → (a ≡ true) × (b ≡ true)
both-true true true is = (refl, refl)
both-true true false is = cc
both-true false b is = cc

no_element : {A : Type 0} (k : ℕ) (x : A) → ◌≡◌ {A = Option A} (slice_get [] k) (Some x) → ⊥
no_element zero x is = cc
no_element (suc k) x is = cc

index-there : {A : Type 0} (xs : List A) (i : ℕ) (d : A) → i < length xs → slice_get xs i ≡ Some (slice_index_or xs i d)
index-there [] i d within = absurd (omega (arith, within))
index-there (x ∷ xs) zero d within = refl
index-there (x ∷ xs) (suc i) d within = index-there xs i d (omega (arith, within))

abbrev texts : List Head → List (List ℕ)
texts heads = map (λ (head : Head). path_text head.path) heads

-- a text that is not among others is none of them
not-there : (text : List ℕ) (others : List (List ℕ)) (i : ℕ) (other : List ℕ) → not (list_any (bytes_eq text) others) ≡ true → slice_get others i ≡ Some other → text ≡ other → ⊥
not-there text others i other none there same =
    let at : get_or others i [] ≡ other = get_or_from_slice_get others i other [] there in
    let equal : bytes_eq text (get_or others i []) ≡ true = (bytes_eq-Decides text (get_or others i [])).1 (same ∙ sym at) in
    let some : list_any (bytes_eq text) others ≡ true = list_any_at (bytes_eq text) others i [] (slice_get_within others i other there) equal in
    let clash : not true ≡ true = ap not (sym some) ∙ none in
    cc

text-at : (heads : List Head) (i : ℕ) (head : Head) → slice_get heads i ≡ Some head → slice_get (texts heads) i ≡ Some (path_text head.path)
text-at heads i head is = slice_get-map (λ (one : Head). path_text one.path) heads i ∙ ap (option_map (λ (one : Head). path_text one.path)) is

are-apart : (heads : List Head) → all_distinct (texts heads) ≡ true → AreApart heads
are-apart [] distinct a b one other is_a is_b same = absurd (no_element a one is_a)
are-apart (head ∷ heads) distinct zero zero one other is_a is_b same = refl
are-apart (head ∷ heads) distinct zero (suc b) one other is_a is_b same =
    absurd (not-there (path_text head.path) (texts heads) b (path_text other.path) (both-true _ _ distinct).0 (text-at heads b other is_b) (ap (λ (h : Head). path_text h.path) (same_some is_a) ∙ same))
are-apart (head ∷ heads) distinct (suc a) zero one other is_a is_b same =
    absurd (not-there (path_text head.path) (texts heads) a (path_text one.path) (both-true _ _ distinct).0 (text-at heads a one is_a) (ap (λ (h : Head). path_text h.path) (same_some is_b) ∙ sym same))
are-apart (head ∷ heads) distinct (suc a) (suc b) one other is_a is_b same = ap suc (are-apart heads (both-true _ _ distinct).1 a b one other is_a is_b same)

port-heads : (split : PlainSplit) → IsPortSplit split → AreHeadsInForm split → AreHeads (heads_of split)
port-heads split port form =
    let together : are_heads (heads_of split) ≡ true = heads-together split port form in
    let two = both-true (nat_le (length (heads_of split)) 65536) (all_distinct (texts (heads_of split))) together in
    record { few = heads-few (heads_of split) together; each = form; apart = are-apart (heads_of split) two.1 }

-- ---- items and statements

all-items : (p : Parameters) (want : List Item) → AreItems p want → All (IsItemOf p) want
all-items p [] are = All-nil (IsItemOf p)
all-items p (items.Elem word ∷ more) are = All-cons (IsItemOf p) (items.Elem word) more are.0 (all-items p more are.1)
all-items p (items.Close dim ∷ more) are = All-cons (IsItemOf p) (items.Close dim) more are.0 (all-items p more are.1)

can-run : (dims : ℕ) → AreStatements dims around_process (statements_for dims)
can-run zero = ((refl, (omega arith, (tt, ((refl, (omega arith, (tt, (refl, tt)))), tt)))), tt)
can-run (suc less) =
    let some : 1 ≤ suc less = omega arith in (
      (refl, (omega arith, (tt, ((refl, (omega arith, (tt, (refl, tt)))), ((refl, (some, (omega arith, (tt, ((refl, (refl, (omega arith, (tt, (refl, tt))))), tt))))), tt))))),
      tt,
    )

-- the items that a value has on the stream of this number
item-list : (split : PlainSplit) (roots : List (List Tree)) (first : ℕ) (streams : List Phys) (i : ℕ) (stream : Phys) (want : List Item) → slice_get streams i ≡ Some stream
    → slice_get (items_from split roots first streams) i ≡ Some want → want ≡ items_on split roots (first + i) stream
item-list split roots first [] i stream want there wanted = absurd (no_element i stream there)
item-list split roots first (one ∷ streams) zero stream want there wanted =
    let here : first ≡ first + 0 = omega arith in
    sym (same_some wanted) ∙ ap (items_on split roots first) (same_some there) ∙ ap (λ (n : ℕ). items_on split roots n stream) here
item-list split roots first (one ∷ streams) (suc i) stream want there wanted =
    let here : suc first + i ≡ first + suc i = omega arith in
    item-list split roots (suc first) streams i stream want there wanted ∙ ap (λ (n : ℕ). items_on split roots n stream) here

-- ---- tables and their texts

-- each item has a byte at least
item-bytes : (p : Parameters) (number : ℕ) (want : List Item) → length want ≤ length (item_lines p number want)
item-bytes p number [] = omega arith
item-bytes p number (item ∷ more) =
    let rest = item-bytes p (suc number) more in
    let line = item_line p number item in
    omega (arith, rest, length-append line (codes "\n" ++ item_lines p (suc number) more), length-append (codes "\n") (item_lines p (suc number) more))

table-bytes : (head : Head) (want : List Item) → length want ≤ length (table_text head want)
table-bytes head want =
    omega (
      arith,
      item-bytes head.params 0 want,
      length-append (table_front head (length want)) (item_lines head.params 0 want ++ table_back head (length want)),
      length-append (item_lines head.params 0 want) (table_back head (length want)),
    )

tables-bytes : (heads : List Head) (wants : List (List Item)) (i : ℕ) (head : Head) (want : List Item) → slice_get heads i ≡ Some head → slice_get wants i ≡ Some want → length want ≤ length (tables_text heads wants)
tables-bytes [] wants i head want there wanted = absurd (no_element i head there)
tables-bytes (one ∷ heads) [] i head want there wanted = absurd (no_element i want wanted)
tables-bytes (one ∷ heads) (first ∷ wants) zero head want there wanted =
    let same : first ≡ want = same_some wanted in
    omega (arith, ap length same, table-bytes one first, length-append (table_text one first) (tables_text heads wants))
tables-bytes (one ∷ heads) (first ∷ wants) (suc i) head want there wanted =
    omega (arith, tables-bytes heads wants i head want there wanted, length-append (table_text one first) (tables_text heads wants))

pub text-bytes : (watch : PlainWatch) (i : ℕ) (head : Head) (want : List Item) → slice_get watch.heads i ≡ Some head → slice_get watch.want i ≡ Some want → length want ≤ length (watch_text watch)
text-bytes watch i head want there wanted =
    omega (
      arith,
      tables-bytes watch.heads watch.want i head want there wanted,
      length-append (front_text watch.heads) (tables_text watch.heads watch.want ++ back_text watch),
      length-append (tables_text watch.heads watch.want) (back_text watch),
    )

-- ---- the monitor of a port

module _ (split : PlainSplit) (value : PortValue) (port : IsPortSplit split) (form : AreHeadsInForm split) (fits : fits_split split (plain_port value) ≡ true) where
  abbrev monitor : PlainWatch
  monitor = monitor_of split (items_of_value split value)

  pub monitor-well : length (watch_text monitor) < 2 ^ 64 → IsWellFormed monitor
  monitor-well short = record {
    heads = port-heads split port form;
    tables = many-items split (plain_port value) 0 split.streams ∙ sym (length-map split.streams head_of_stream);
    processes = length-map (heads_of split) process_for;
    each = each;
  }
    where
      each : (i : ℕ) (head : Head) (want : List Item) (process : Statements) → slice_get (heads_of split) i ≡ Some head → slice_get (items_of_value split value) i ≡ Some want
          → slice_get (map process_for (heads_of split)) i ≡ Some process → IsStream head want process
      each i head want process there wanted found =
          let within : i < length split.streams = omega (arith, slice_get_within (heads_of split) i head there, length-map split.streams head_of_stream) in
          let stream = slice_get-there split.streams i within in
          let is : head_of_stream stream.0 ≡ head = same_some (sym (ap (option_map head_of_stream) stream.1) ∙ sym (slice_get-map head_of_stream split.streams i) ∙ there) in
          let here : 0 + i ≡ i = omega arith in
          let on : want ≡ items_on split (plain_port value) i stream.0 =
          item-list split (plain_port value) 0 split.streams i stream.0 want stream.1 wanted ∙ ap (λ (n : ℕ). items_on split (plain_port value) n stream.0) here in
          let are : AreItems stream.0.params want = are-items-on split (plain_port value) i stream.0 want port fits stream.1 on in
          let runs : process_for head ≡ process = same_some (sym (ap (option_map process_for) there) ∙ sym (slice_get-map process_for (heads_of split) i) ∙ found) in
          record {
            few = omega (arith, short, text-bytes monitor i head want there wanted);
            items = subst (λ (h : Head). All (IsItemOf h.params) want) is (all-items stream.0.params want are);
            statements = subst (AreStatements head.params.dims around_process) runs (can-run head.params.dims);
          }

-- ---- the items carry the value

module _ (split : PlainSplit) (value : PortValue) (port : IsPortSplit split) (fits : fits_split split (plain_port value) ≡ true) where
  abbrev Spelled : Phys → List Item → Type 0
  Spelled phys some = SpellsNode (series_of_nodes split.nodes (plain_port value)) phys some

  each-spelled : (first : ℕ) (streams : List Phys) → ((i k : ℕ) (stream : Phys) → k ≡ first + i → slice_get streams i ≡ Some stream → Spelled stream (items_on split (plain_port value) k stream))
      → EachPair Spelled streams (items_from split (plain_port value) first streams)
  each-spelled first [] each = tt
  each-spelled first (stream ∷ streams) each = (
    each 0 first stream (omega arith) refl,
    each-spelled (suc first) streams (λ i k one is there. each (suc i) k one (omega (arith, is)) there),
  )

  pub items-carry : Carries split (plain_port value) (items_of_value split value)
  items-carry = record { fits = fits; spelled = each-spelled 0 split.streams spelled }
    where
      spelled : (i k : ℕ) (stream : Phys) → k ≡ 0 + i → slice_get split.streams i ≡ Some stream → Spelled stream (items_on split (plain_port value) k stream)
      spelled i k stream is there =
          let same : i ≡ k = omega (arith, is) in
          subst (λ (n : ℕ). Spelled stream (items_on split (plain_port value) n stream)) same (items-so split (plain_port value) port fits i stream there).spelled

-- ---- the lines that say that all is seen

-- a line of seven parts
line-length : (stream path seen place of count : List ℕ) (end : List ℕ) → length (stream ++ (path ++ (seen ++ (place ++ (of ++ (count ++ end))))))
    ≡ length stream + (length path + (length seen + (length place + (length of + (length count + length end)))))
line-length stream path seen place of count end =
    omega (
      arith,
      length-append stream (path ++ (seen ++ (place ++ (of ++ (count ++ end))))),
      length-append path (seen ++ (place ++ (of ++ (count ++ end)))),
      length-append seen (place ++ (of ++ (count ++ end))),
      length-append place (of ++ (count ++ end)),
      length-append of (count ++ end),
      length-append count end,
    )

seen-line : (path : List (List ℕ)) (count : ℕ) → length (watched_line path count (record { place = count; report = None })) ≡ 18 + (length (path_text path) + (length (decimal count) + length (decimal count)))
seen-line path count =
    let whole = line-length (codes "stream ") (path_text path) (codes " seen ") (decimal count) (codes " of ") (decimal count) (codes "\n") in
    let one : length (codes "stream ") ≡ 7 = refl in
    let two : length (codes " seen ") ≡ 6 = refl in
    let three : length (codes " of ") ≡ 4 = refl in
    let four : length (codes "\n") ≡ 1 = refl in
    omega (arith, whole, one, two, three, four)

-- three parts and a rest
parts-length : (a b c d rest : List ℕ) → length a + (length b + (length c + (length d + length rest))) ≡ length (a ++ (b ++ (c ++ (d ++ rest))))
parts-length a b c d rest =
    omega (arith, length-append a (b ++ (c ++ (d ++ rest))), length-append b (c ++ (d ++ rest)), length-append c (d ++ rest), length-append d rest)

name-length : (head : Head) → 8 + length (path_text head.path) ≡ length (items_name head)
name-length head =
    let whole = parts-length (codes "\\") (path_text head.path) (codes ".") (codes "items") (codes "\\") in
    let one : length (codes "\\") ≡ 1 = refl in
    let two : length (codes ".") ≡ 1 = refl in
    let three : length (codes "items") ≡ 5 = refl in
    omega (arith, whole, one, two, three)

type-sum : (first name middle digits rest path all : ℕ) → first ≡ 7 → middle ≡ 16 → 8 + path ≡ name → first + (name + (middle + (digits + rest))) ≡ all → 31 + (path + digits) ≤ all
type-sum first name middle digits rest path all one two three sum = omega (arith, one, two, three, sum)

type-length : (head : Head) (last : ℕ) → 31 + (length (path_text head.path) + length (decimal last)) ≤ length (type_line head last)
type-length head last =
    let rest = codes ") of std_logic_vector(" ++ (decimal (item_width head.params + 1) ++ codes " downto 0);") in
    type-sum (length (codes "  type ")) (length (items_name head)) (length (codes " is array (0 to ")) (length (decimal last)) (length rest) (length (path_text head.path)) (length (type_line head last))
    refl refl (name-length head) (parts-length (codes "  type ") (items_name head) (codes " is array (0 to ") (decimal last) rest)

front-length : (head : Head) (last : ℕ) → length (type_line head last) ≤ length (table_front head last)
front-length head last = omega (arith, length-append (type_line head last) (codes "\n" ++ (table_line head ++ codes "\n")))

back-length : (head : Head) (last : ℕ) → length (decimal last) ≤ length (table_back head last)
back-length head last =
    let rest = codes " => \"" in
    omega (
      arith,
      length-append (codes "    ") (decimal last ++ rest),
      length-append (decimal last) rest,
      length-append (entry_front last) (end_digits head.params ++ codes "\""),
      length-append (end_line head.params last) (codes "\n  );\n"),
    )

table-length : (head : Head) (want : List Item) → length (watched_line head.path (length want) (record { place = length want; report = None })) ≤ length (table_text head want)
table-length head want =
    omega (
      arith,
      seen-line head.path (length want),
      type-length head (length want),
      front-length head (length want),
      back-length head (length want),
      length-append (table_front head (length want)) (item_lines head.params 0 want ++ table_back head (length want)),
      length-append (item_lines head.params 0 want) (table_back head (length want)),
    )

module _ (watch : PlainWatch) where
  lines-length : (number : ℕ) (heads : List Head) (wants : List (List Item)) → length wants ≡ length heads
      → ((i k : ℕ) (head : Head) → k ≡ number + i → slice_get heads i ≡ Some head → path_of_stream watch.heads k ≡ head.path)
      → ((i k : ℕ) (want : List Item) → k ≡ number + i → slice_get wants i ≡ Some want → count_of watch k ≡ length want)
      → length (lines_from watch number (all_seen wants)) ≤ length (tables_text heads wants)
  lines-length number heads [] many paths counts = omega arith
  lines-length number [] (want ∷ wants) many paths counts = absurd (omega (arith, many))
  lines-length number (head ∷ heads) (want ∷ wants) many paths counts =
      let seen : StreamWatched = record { place = length want; report = None } in
      let path : path_of_stream watch.heads number ≡ head.path = paths 0 number head (omega arith) refl in
      let count : count_of watch number ≡ length want = counts 0 number want (omega arith) refl in
      let line : watched_line (path_of_stream watch.heads number) (count_of watch number) seen ≡ watched_line head.path (length want) seen =
      ap (λ (p : List (List ℕ)). watched_line p (count_of watch number) seen) path ∙ ap (λ (n : ℕ). watched_line head.path n seen) count in
      let more = lines-length (suc number) heads wants (omega (arith, many)) (λ i k one is there. paths (suc i) k one (omega (arith, is)) there) (λ i k one is there. counts (suc i) k one (omega (arith, is)) there) in
      omega (
        arith,
        more,
        ap length line,
        table-length head want,
        length-append (table_text head want) (tables_text heads wants),
        length-append (watched_line (path_of_stream watch.heads number) (count_of watch number) seen) (lines_from watch (suc number) (all_seen wants)),
      )

  path-there : (k : ℕ) (head : Head) → slice_get watch.heads k ≡ Some head → path_of_stream watch.heads k ≡ head.path
  path-there k head there =
      let paths = map (λ (one : Head). one.path) watch.heads in
      let many = length-map watch.heads (λ (one : Head). one.path) in
      same_some (sym (index-there paths k [] (omega (arith, slice_get_within watch.heads k head there, many))) ∙ slice_get-map (λ (one : Head). one.path) watch.heads k ∙ ap (option_map (λ (one : Head). one.path)) there)

  count-there : (k : ℕ) (want : List Item) → slice_get watch.want k ≡ Some want → count_of watch k ≡ length want
  count-there k want there = ap length (same_some (sym (index-there watch.want k [] (slice_get_within watch.want k want there)) ∙ there))

  all-length : length watch.want ≡ length watch.heads → length (watched_lines watch (all_seen watch.want)) ≤ length (watch_text watch)
  all-length many =
      let lines = lines-length 0 watch.heads watch.want many
      (λ i k head is there. let same : i ≡ k = omega (arith, is) in path-there k head (ap (slice_get watch.heads) (sym same) ∙ there))
      (λ i k want is there. let same : i ≡ k = omega (arith, is) in count-there k want (ap (slice_get watch.want) (sym same) ∙ there)) in
      omega (arith, lines, length-append (front_text watch.heads) (tables_text watch.heads watch.want ++ back_text watch), length-append (tables_text watch.heads watch.want) (back_text watch))

pub seen-short : (split : PlainSplit) (value : PortValue) → length (seen_lines split value) ≤ length (expected_text split value)
seen-short split value =
    all-length (monitor_for split value) (many-items split (plain_port value) 0 split.streams ∙ sym (length-map split.streams head_of_stream))
