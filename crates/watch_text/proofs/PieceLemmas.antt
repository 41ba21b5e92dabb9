-- The pieces of the text of a monitor.
use Rattle.std.proofs.Common.{◌≡◌, ◌∙◌, ◌⊎◌, inl, inr, ℕ, zero, suc, add-one, ◌+◌, ◌<◌, ◌≤◌, Bool, true, false, ◌==◌, nat_le, if◌then◌else◌, List, [], ◌∷◌, ◌++◌, append_assoc, append-nil, drop, length, length-append, take, Some, None, slice_get, refl, sym, ap, subst, arith}
use Rattle.std.proofs.lemmas.Bool.Decides.{nat_tests}
use Rattle.std.specs.Prelude.{codes}
use Rattle.physical_stream.specs.declared.head.Head.{Head}
use Rattle.physical_stream.specs.declared.item.Item.{Item}
use Rattle.watch_text.specs.Pieces.{IsPiece, front_left, lines_between, table_left, tables_left}
use Rattle.watch_text.specs.Statements.{PlainWatch, Statements}
use Rattle.watch_text.specs.Text.{back_text, item_lines, process_text, processes_text, table_back, tables_text}
use Rattle.watch_text.specs.declared.pieces.Next.{Next}
use Rattle.watch_text.specs.declared.pieces.Next.TheVariants as parts
use Rattle.watch_text.proofs.ItemLemmas.{lines-some, lines-split}

drop-from : {A : Type 0} (xs : List A) (n : ℕ) (x : A) → Some x ≡ slice_get xs n → drop n xs ≡ x ∷ drop (suc n) xs
drop-from [] n x at = absurd cc
drop-from (y ∷ xs) zero x at = let same : y ≡ x = cc in ap (λ z. z ∷ xs) same
drop-from (y ∷ xs) (suc n) x at = drop-from xs n x at

drop-past : {A : Type 0} (xs : List A) (n : ℕ) → None ≡ slice_get xs n → drop n xs ≡ []
drop-past [] zero at = refl
drop-past [] (suc n) at = refl
drop-past (x ∷ xs) zero at = absurd cc
drop-past (x ∷ xs) (suc n) at = drop-past xs n at

-- ---- processes

processes-over : (heads : List Head) (procs : List Statements) → (heads ≡ []) ⊎ (procs ≡ []) → processes_text heads procs ≡ []
processes-over [] procs over = refl
processes-over (head ∷ heads) [] over = refl
processes-over (head ∷ heads) (first ∷ procs) (inl over) = absurd cc
processes-over (head ∷ heads) (first ∷ procs) (inr over) = absurd cc

processes-from : (heads left : List Head) (procs more : List Statements) (head : Head) (process : Statements) → heads ≡ head ∷ left → procs ≡ process ∷ more
    → processes_text heads procs ≡ process_text head process ++ processes_text left more
processes-from heads left procs more head process heads_are procs_are = rw (heads_are, procs_are) refl

-- the process of a stream, and then that of the next
pub process-piece : (watch : PlainWatch) (stream after : ℕ) (head : Head) (process : Statements) (piece : List ℕ) → Some head ≡ slice_get watch.heads stream → Some process ≡ slice_get watch.procs stream
    → after ≡ stream + 1 → piece ≡ process_text head process → IsPiece watch (parts.Process stream) piece (parts.Process after)
process-piece watch stream after head process piece head_at process_at next is =
    let last = codes "end architecture;\n" in
    let later = λ (n : ℕ). processes_text (drop n watch.heads) (drop n watch.procs) in
    record {
      made =
          ap (λ (l : List ℕ). l ++ last)
          (processes-from (drop stream watch.heads) (drop (suc stream) watch.heads) (drop stream watch.procs) (drop (suc stream) watch.procs) head process (drop-from watch.heads stream head head_at)
          (drop-from watch.procs stream process process_at))
          ∙ append_assoc (process_text head process) (later (suc stream)) last ∙ ap (λ (l : List ℕ). l ++ (later (suc stream) ++ last)) (sym is)
          ∙ ap (λ (n : ℕ). piece ++ (later n ++ last)) (sym (next ∙ add-one stream));
      some = λ left. subst (λ (l : List ℕ). 0 < length l) (sym is) (omega arith);
    }

-- the end of the text
pub end-piece : (watch : PlainWatch) (stream : ℕ) (next : Next) (piece : List ℕ) → (None ≡ slice_get watch.heads stream) ⊎ (None ≡ slice_get watch.procs stream)
    → (next ≡ parts.Nothing) × (piece ≡ codes "end architecture;\n") → IsPiece watch (parts.Process stream) piece next
end-piece watch stream next piece none made = subst (IsPiece watch (parts.Process stream) piece) (sym made.0) (record {
  made = ap (λ (l : List ℕ). l ++ codes "end architecture;\n") (processes-over (drop stream watch.heads) (drop stream watch.procs) (over none)) ∙ sym made.1 ∙ sym (append-nil piece);
  some = λ left. subst (λ (l : List ℕ). 0 < length l) (sym made.1) (omega arith);
})
  where
    over : (None ≡ slice_get watch.heads stream) ⊎ (None ≡ slice_get watch.procs stream) → (drop stream watch.heads ≡ []) ⊎ (drop stream watch.procs ≡ [])
    over (inl at) = inl (drop-past watch.heads stream at)
    over (inr at) = inr (drop-past watch.procs stream at)

-- ---- tables

tables-over : (heads : List Head) (want : List (List Item)) (item : ℕ) → (heads ≡ []) ⊎ (want ≡ []) → tables_left heads want item ≡ []
tables-over [] want item over = refl
tables-over (head ∷ heads) [] item over = refl
tables-over (head ∷ heads) (first ∷ want) item (inl over) = absurd cc
tables-over (head ∷ heads) (first ∷ want) item (inr over) = absurd cc

tables-from : (heads left : List Head) (want more : List (List Item)) (head : Head) (items : List Item) (item : ℕ) → heads ≡ head ∷ left → want ≡ items ∷ more
    → tables_left heads want item ≡ table_left head items item ++ tables_text left more
tables-from heads left want more head items item heads_are want_is = rw (heads_are, want_is) refl

tables-whole : (heads : List Head) (want : List (List Item)) → tables_text heads want ≡ tables_left heads want 0
tables-whole [] want = refl
tables-whole (head ∷ heads) [] = refl
tables-whole (head ∷ heads) (first ∷ want) = refl

-- the begin of the processes
pub begin-piece : (watch : PlainWatch) (stream item : ℕ) (next : Next) (piece : List ℕ) → (None ≡ slice_get watch.heads stream) ⊎ (None ≡ slice_get watch.want stream)
    → (next ≡ parts.Process 0) × (piece ≡ codes "begin\n") → IsPiece watch (parts.Table stream item) piece next
begin-piece watch stream item next piece none made = subst (IsPiece watch (parts.Table stream item) piece) (sym made.0) (record {
  made = ap (λ (l : List ℕ). l ++ back_text watch) (tables-over (drop stream watch.heads) (drop stream watch.want) item (over none))
      ∙ ap (λ (l : List ℕ). l ++ (processes_text watch.heads watch.procs ++ codes "end architecture;\n")) (sym made.1);
  some = λ left. subst (λ (l : List ℕ). 0 < length l) (sym made.1) (omega arith);
})
  where
    over : (None ≡ slice_get watch.heads stream) ⊎ (None ≡ slice_get watch.want stream) → (drop stream watch.heads ≡ []) ⊎ (drop stream watch.want ≡ [])
    over (inl at) = inl (drop-past watch.heads stream at)
    over (inr at) = inr (drop-past watch.want stream at)

-- parts of a text, put together in another way
join-more : (front some more back later last : List ℕ) → ((front ++ ((some ++ more) ++ back)) ++ later) ++ last ≡ (front ++ (some ++ [])) ++ (((more ++ back) ++ later) ++ last)
join-more front some more back later last = simp (append_assoc, append-nil) refl

-- items in the midst of a table
pub items-piece : (watch : PlainWatch) (stream item to : ℕ) (head : Head) (items : List Item) (piece : List ℕ) → Some head ≡ slice_get watch.heads stream → Some items ≡ slice_get watch.want stream
    → item < to → to < length items → piece ≡ lines_between head items item to → IsPiece watch (parts.Table stream item) piece (parts.Table stream to)
items-piece watch stream item to head items piece head_at items_at behind within is =
    let heads_are = drop-from watch.heads stream head head_at in let want_is = drop-from watch.want stream items items_at in
    let later = tables_text (drop (suc stream) watch.heads) (drop (suc stream) watch.want) in
    let left = λ (n : ℕ). tables-from (drop stream watch.heads) (drop (suc stream) watch.heads) (drop stream watch.want) (drop (suc stream) watch.want) head items n heads_are want_is in
    let front = front_left head items item in let p = head.params in
    let some = item_lines p item (drop item (take to items)) in let more = item_lines p to (drop to items) in let back = table_back head (length items) in
    let before : item ≤ to = omega (arith, behind) in let inside : to ≤ length items = omega (arith, within) in
    let split = lines-split p items item to before inside in
    let not_first : (to == 0) ≡ false = grind (arith, nat_tests, behind) in
    let not_last : nat_le (length items) to ≡ false = grind (arith, nat_tests, within) in
    let piece_is : piece ≡ front ++ (some ++ []) = is ∙ ap (λ (b : Bool). front ++ (some ++ (if b then back else []))) not_last in
    let rest_is : table_left head items to ≡ more ++ back = ap (λ (b : Bool). (if b then front_left head items 0 else []) ++ (more ++ back)) not_first in
    record {
      made = ap (λ (l : List ℕ). l ++ back_text watch) (left item) ∙ ap (λ (l : List ℕ). ((front ++ (l ++ back)) ++ later) ++ back_text watch) split
          ∙ join-more front some more back later (back_text watch) ∙ ap (λ (l : List ℕ). l ++ (((more ++ back) ++ later) ++ back_text watch)) (sym piece_is)
          ∙ ap (λ (l : List ℕ). piece ++ ((l ++ later) ++ back_text watch)) (sym rest_is) ∙ ap (λ (l : List ℕ). piece ++ (l ++ back_text watch)) (sym (left to));
      some = λ all. let bytes = lines-some p items item to behind inside in
          omega (arith, ap length piece_is, length-append front (some ++ []), length-append some [], bytes);
    }

-- the last items of a table
pub last-piece : (watch : PlainWatch) (stream after item to : ℕ) (head : Head) (items : List Item) (piece : List ℕ) → Some head ≡ slice_get watch.heads stream → Some items ≡ slice_get watch.want stream
    → length items ≤ to → after ≡ stream + 1 → piece ≡ lines_between head items item to → IsPiece watch (parts.Table stream item) piece (parts.Table after 0)
last-piece watch stream after item to head items piece head_at items_at past next is =
    let heads_are = drop-from watch.heads stream head head_at in let want_is = drop-from watch.want stream items items_at in
    let later = tables_text (drop (suc stream) watch.heads) (drop (suc stream) watch.want) in
    let front = front_left head items item in let p = head.params in let back = table_back head (length items) in
    let last : nat_le (length items) to ≡ true = grind (arith, nat_tests, past) in
    let piece_is : piece ≡ table_left head items item =
    is ∙ ap (λ (b : Bool). front ++ (item_lines p item (drop item (take to items)) ++ (if b then back else []))) last
    ∙ ap (λ (l : List Item). front ++ (item_lines p item (drop item l) ++ back)) (take-all items to past) in
    let bytes : 0 < length back = omega arith in
    record {
      made = ap (λ (l : List ℕ). l ++ back_text watch)
          (tables-from (drop stream watch.heads) (drop (suc stream) watch.heads) (drop stream watch.want) (drop (suc stream) watch.want) head items item heads_are want_is)
          ∙ append_assoc (table_left head items item) later (back_text watch) ∙ ap (λ (l : List ℕ). l ++ (later ++ back_text watch)) (sym piece_is)
          ∙ ap (λ (l : List ℕ). piece ++ (l ++ back_text watch)) (tables-whole (drop (suc stream) watch.heads) (drop (suc stream) watch.want))
          ∙ ap (λ (n : ℕ). piece ++ (tables_left (drop n watch.heads) (drop n watch.want) 0 ++ back_text watch)) (sym (next ∙ add-one stream));
      some = λ all. let lines = item_lines p item (drop item items) in
          omega (arith, ap length piece_is, length-append front (lines ++ back), length-append lines back, bytes);
    }
  where
    take-all : {A : Type 0} (xs : List A) (n : ℕ) → length xs ≤ n → take n xs ≡ xs
    take-all [] zero within = refl
    take-all [] (suc n) within = refl
    take-all (x ∷ xs) zero within = absurd (omega (arith, within))
    take-all (x ∷ xs) (suc n) within = ap (λ l. x ∷ l) (take-all xs n (omega (arith, within)))
