-- Each table has fewer items than the text of its monitor has bytes.
use Rattle.std.proofs.Common.{ℕ, zero, suc, ◌<◌, ◌≤◌, List, [], ◌∷◌, ◌++◌, length, length-append, arith}
use Rattle.std.specs.List.{slice_index_or}
use Rattle.physical_stream.specs.declared.head.Head.{Head}
use Rattle.physical_stream.specs.declared.item.Item.{Item}
use Rattle.watch_text.specs.Lengths.{TablesAreShorterThanTheirText}
use Rattle.watch_text.specs.Text.{back_text, front_text, item_lines, table_back, table_front, table_text, tables_text}
use Rattle.watch_text.proofs.ItemLemmas.{lines-many}

table-longer : (head : Head) (items : List Item) → length items < length (table_text head items)
table-longer head items =
    let lines = item_lines head.params 0 items in let back = table_back head (length items) in
    let bytes : 0 < length back = omega arith in
    omega (arith, lines-many head.params 0 items, length-append (table_front head (length items)) (lines ++ back), length-append lines back, bytes)

tables-longer : (heads : List Head) (want : List (List Item)) (k : ℕ) (d : List Item) → length want ≤ length heads → k < length want → length (slice_index_or want k d) < length (tables_text heads want)
tables-longer heads [] k d few within = absurd (omega (arith, within))
tables-longer [] (items ∷ want) k d few within = absurd (omega (arith, few))
tables-longer (head ∷ heads) (items ∷ want) zero d few within = omega (arith, table-longer head items, length-append (table_text head items) (tables_text heads want))
tables-longer (head ∷ heads) (items ∷ want) (suc k) d few within =
    let later = tables-longer heads want k d (omega (arith, few)) (omega (arith, within)) in
    omega (arith, later, length-append (table_text head items) (tables_text heads want))

pub tables-are_shorter : TablesAreShorterThanTheirText
tables-are_shorter watch formed k d within =
    let few : length watch.want ≤ length watch.heads = omega (arith, formed.tables) in
    let tables = tables_text watch.heads watch.want in
    omega (arith, tables-longer watch.heads watch.want k d few within, length-append (front_text watch.heads) (tables ++ back_text watch), length-append tables (back_text watch))
