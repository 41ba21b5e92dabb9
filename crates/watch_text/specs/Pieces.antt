-- The text of a monitor where it is made piece by piece: what is left of it. This project's own.
use Rattle.std.specs.Prelude.{◌≡◌, ℕ, ◌<◌, ◌==◌, if◌then◌else◌, List, [], ◌∷◌, ◌++◌, nat_le, drop, take, length, codes}
use Rattle.physical_stream.specs.declared.head.Head.{Head}
use Rattle.physical_stream.specs.declared.item.Item.{Item}
use Rattle.vhdl_text.specs.Text.{◌⁀◌}
use Rattle.watch_text.specs.Statements.{PlainWatch, plain_watch}
use Rattle.watch_text.specs.Text.{back_text, item_lines, processes_text, table_back, table_front, tables_text, watch_text}
use Rattle.watch_text.specs.declared.pieces.Next.{Next}
use Rattle.watch_text.specs.declared.pieces.Next.TheVariants as parts
use Rattle.watch_text.specs.declared.pieces.WatchPieces.{WatchPieces}

-- the lines before the entries of a table, which are left as long as all items are
abbrev pub front_left : Head → List Item → ℕ → List ℕ
front_left head want item = if item == 0 then table_front head (length want) else []

-- what is left of a table from an item on
abbrev pub table_left : Head → List Item → ℕ → List ℕ
table_left head want item = front_left head want item ⁀ item_lines head.params item (drop item want) ⁀ table_back head (length want)

-- the lines of items from the one place to the other, with those before and behind all items where these are the first and the last
abbrev pub lines_between : Head → List Item → (from to : ℕ) → List ℕ
lines_between head want from to =
    front_left head want from ⁀ item_lines head.params from (drop from (take to want)) ⁀ (if nat_le (length want) to then table_back head (length want) else [])

-- what is left of the tables of these streams, from an item of the first on
abbrev pub tables_left : List Head → List (List Item) → ℕ → List ℕ
tables_left [] want item = []
tables_left (head ∷ heads) [] item = []
tables_left (head ∷ heads) (first ∷ want) item = table_left head first item ⁀ tables_text heads want

-- what is left of a text from a part on
abbrev pub left_from : PlainWatch → Next → List ℕ
left_from watch parts.Front = watch_text watch
left_from watch (parts.Table stream item) = tables_left (drop stream watch.heads) (drop stream watch.want) item ⁀ back_text watch
left_from watch (parts.Process stream) = processes_text (drop stream watch.heads) (drop stream watch.procs) ⁀ codes "end architecture;\n"
left_from watch parts.Nothing = []

-- the text that is left
abbrev pub text_left : WatchPieces → List ℕ
text_left pieces = left_from (plain_watch pieces.watch) pieces.next

-- a piece is a front of what is left from a part on, and what is left behind it is that from another part on. It is empty only where nothing is left.
pub record IsPiece (watch : PlainWatch) (next : Next) (piece : List ℕ) (after : Next) : Type 0 where
  pub made : left_from watch next ≡ piece ++ left_from watch after
  pub some : 0 < length (left_from watch next) → 0 < length piece
