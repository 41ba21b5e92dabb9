-- The text of a driving bench, part by part.
use Rattle.std.proofs.Common.{◌≡◌, ◌∙◌, ℕ, zero, suc, ◌+◌, ◌-◌, ◌<◌, ◌≤◌, ◌⊎◌, inl, inr, Bool, true, false, not, if◌then◌else◌, List, [], ◌∷◌, ◌++◌, length, map, drop, min, slice_get, slice_index_or, Option, None, Some, Result, Ok, Err, append_assoc, append-nil, length-append, refl, sym, ap, subst, arith}
use Rattle.std.specs.List.{flat_map}
use Rattle.std.proofs.Math.ListN.{set}
use Rattle.std.proofs.lemmas.Grind.{flat_map-append}
use Rattle.std.proofs.lemmas.List.{drop-map, drop-set, drop_all, length-map, length-set}
use Rattle.std.proofs.lemmas.Option.{slice_get-get_or, slice_get_within}
use Rattle.tydi_base.proofs.PlaceLemmas.{same_or_other, slice_get-set_other, slice_get-set_same}
use Rattle.physical_stream.specs.Params.{Parameters}
use Rattle.physical_stream.specs.declared.head.Head.{Head}
use Rattle.physical_stream.specs.declared.transfer.Transfer.{Transfer}
use Rattle.handshake.specs.Offers.{AreBefore, AreFirst, Offers, StandsBefore, StandsFirst}
use Rattle.handshake.specs.Run.{gap_of}
use Rattle.handshake.specs.Turns.{KeepRun, KeepRuns}
use Rattle.handshake.specs.declared.cursor.Cursor.{Cursor}
use Rattle.handshake.specs.declared.feed.TransferFeed.{Ghosts}
use Rattle.handshake.proofs.OfferLemmas.{before-few}
use Rattle.vhdl_text.specs.Parts.{BenchesHaveParts, ProcessesHaveParts, back_text, front_text, process_back, process_front}
use Rattle.vhdl_text.specs.Text.{bench_text, process_text, stmt_text}
use Rattle.vhdl_text.specs.declared.bench.Stmt.{Stmt}
use Rattle.vhdl_text.specs.declared.bench.Stmt.TheVariants as stmts
use Rattle.testbench.specs.Driving.{Driven, driving, pausing, process_from, process_of, processes_from, put_valid, showing}
use Rattle.testbench.specs.Pieces.{Writing, WrotePart, WroteTransfer, WritesPart, WritesTransfer, driven_in, lines_left, number_in, parts_left, parts_of, process_left, processes_left, rest_text, stmts_left, writing_of, writings_of}
use Rattle.testbench.specs.TextLeft.{HaveParams}
use Rattle.testbench.specs.declared.spot.Spot.{Spot}

-- ---- one transfer

same_some : {A : Type 0} {x y : A} → Some x ≡ Some y → x ≡ y
same_some is = cc

none_given : {A : Type 0} {x : A} → ◌≡◌ {A = Option A} (Some x) None → ⊥
none_given is = cc

pub offers-then : (p : Parameters) (ts : List Transfer) (gaps : List ℕ) (old new : List Transfer) (held other : Transfer) (given : Option ℕ) → held ≡ other → Offers p ts gaps old new held given → Offers p ts gaps old new other given
offers-then p ts gaps old new held other given is offers = subst (λ (t : Transfer). Offers p ts gaps old new t given) is offers

module _ (heads : List Head) (stream : ℕ) (old new : Writing) (before after : List ℕ) where
  pub wrote-transfer : (gap : ℕ) (held : Transfer) (p : Parameters) (made : List Stmt) → Offers old.params old.transfers old.gaps old.left new.left held (Some gap) → p ≡ old.params
      → made ≡ pausing stream gap ++ showing p stream held → after ≡ before ++ flat_map (stmt_text heads) made → WroteTransfer heads stream old new before after
  wrote-transfer gap held p made offers same made_is text = by old.left refl offers
    where
      by : (left : List Transfer) → old.left ≡ left → Offers old.params old.transfers old.gaps left new.left held (Some gap) → WroteTransfer heads stream old new before after
      by [] is given = absurd (none_given given.0)
      by (t ∷ more) is given =
          let number : gap ≡ gap_of old.params old.transfers old.gaps (number_in old) =
          same_some given.0 ∙ ap (λ (l : List Transfer). gap_of old.params old.transfers old.gaps (length old.transfers - length l)) (sym is) in
          record {
            transfer = t;
            left = is ∙ ap (λ (l : List Transfer). t ∷ l) (sym given.1.1);
            text = text ∙ ap (λ (l : List Stmt). before ++ flat_map (stmt_text heads) l)
                (made_is ∙ ap (λ (n : ℕ). pausing stream n ++ showing p stream held) number
                ∙ ap (λ (q : Parameters). pausing stream (gap_of old.params old.transfers old.gaps (number_in old)) ++ showing q stream held) same
                ∙ ap (λ (u : Transfer). pausing stream (gap_of old.params old.transfers old.gaps (number_in old)) ++ showing old.params stream u) given.1.0);
          }

  pub wrote-none : (held : Transfer) → Offers old.params old.transfers old.gaps old.left new.left held None → (old.left ≡ []) × (new.left ≡ [])
  wrote-none held offers = by old.left refl offers
    where
      by : (left : List Transfer) → old.left ≡ left → Offers old.params old.transfers old.gaps left new.left held None → (old.left ≡ []) × (new.left ≡ [])
      by [] is given = (is, given.1)
      by (t ∷ more) is given = absurd (none_given (sym given.0))

-- what a step says of one transfer
pub wrote-yes : (E : Type 0) (heads : List Head) (stream : ℕ) (old new : Writing) (before after : List ℕ) (b : Bool) → b ≡ true → WritesTransfer {E = E} heads stream old new before after (Ok b) → WroteTransfer heads stream old new before after
wrote-yes E heads stream old new before after b is writes = subst (λ (x : Bool). WritesTransfer {E = E} heads stream old new before after (Ok x)) is writes

pub wrote-no : (E : Type 0) (heads : List Head) (stream : ℕ) (old new : Writing) (before after : List ℕ) (b : Bool) → b ≡ false → WritesTransfer {E = E} heads stream old new before after (Ok b) → (old.left ≡ []) × ((new.left ≡ []) × (after ≡ before))
wrote-no E heads stream old new before after b is writes = subst (λ (x : Bool). WritesTransfer {E = E} heads stream old new before after (Ok x)) is writes

-- the lines of one transfer, and those that are left after it
pub record WroteLines (heads : List Head) (stream : ℕ) (old new : Writing) (before after : List ℕ) : Type 0 where
  pub part : List ℕ
  pub added : after ≡ before ++ part
  pub rest : rest_text heads stream old ≡ part ++ rest_text heads stream new
  pub fewer : length new.left < length old.left

module _ (heads : List Head) (stream : ℕ) (old new : Writing) (before after : List ℕ) (params : new.params ≡ old.params) (transfers : new.transfers ≡ old.transfers) (gaps : new.gaps ≡ old.gaps)
    (few : length old.left ≤ length old.transfers) (wrote : WroteTransfer heads stream old new before after) where
  put_stmts : List Stmt
  put_stmts = pausing stream (gap_of old.params old.transfers old.gaps (number_in old)) ++ showing old.params stream wrote.transfer

  next_number : length old.transfers - length new.left ≡ suc (number_in old)
  next_number = let one : length old.left ≡ suc (length new.left) = ap length wrote.left in omega (arith, one, few)

  stmts-new : process_from old.params stream old.transfers old.gaps (suc (number_in old)) new.left ≡ stmts_left stream new
  stmts-new =
      ap (λ (n : ℕ). process_from old.params stream old.transfers old.gaps n new.left) (sym next_number)
      ∙ ap (λ (q : Parameters). process_from q stream old.transfers old.gaps (length old.transfers - length new.left) new.left) (sym params)
      ∙ ap (λ (l : List Transfer). process_from new.params stream l old.gaps (length l - length new.left) new.left) (sym transfers)
      ∙ ap (λ (l : List ℕ). process_from new.params stream new.transfers l (number_in new) new.left) (sym gaps)

  stmts-old : stmts_left stream old ≡ put_stmts ++ stmts_left stream new
  unfolding put_stmts
  stmts-old =
      ap (process_from old.params stream old.transfers old.gaps (number_in old)) wrote.left
      ∙ sym (append_assoc (pausing stream (gap_of old.params old.transfers old.gaps (number_in old))) (showing old.params stream wrote.transfer)
      (process_from old.params stream old.transfers old.gaps (suc (number_in old)) new.left))
      ∙ ap (λ (l : List Stmt). put_stmts ++ l) stmts-new

  pub wrote-lines : WroteLines heads stream old new before after
  unfolding put_stmts
  wrote-lines = record {
    part = flat_map (stmt_text heads) put_stmts;
    added = wrote.text;
    rest = ap (λ (l : List Stmt). flat_map (stmt_text heads) l ++ process_back) stmts-old
        ∙ ap (λ (l : List ℕ). l ++ process_back) (flat_map-append (stmt_text heads) put_stmts (stmts_left stream new))
        ∙ append_assoc (flat_map (stmt_text heads) put_stmts) (flat_map (stmt_text heads) (stmts_left stream new)) process_back;
    fewer = let one : length old.left ≡ suc (length new.left) = ap length wrote.left in omega (arith, one);
  }

-- the lines of a process of which no transfer is left
pub last-lines : (heads : List Head) (stream : ℕ) (w : Writing) → w.left ≡ [] → rest_text heads stream w ≡ flat_map (stmt_text heads) (put_valid stream false ∷ stmts.Stop ∷ []) ++ process_back
last-lines heads stream w none =
    ap (λ (l : List Transfer). flat_map (stmt_text heads) (process_from w.params stream w.transfers w.gaps (number_in w) l) ++ process_back) none

-- ---- one part

pub after-same : (after mid before part : List ℕ) → after ≡ mid ++ part → mid ≡ before → after ≡ before ++ part
after-same after mid before part is same = is ∙ ap (λ (l : List ℕ). l ++ part) same

pub has-place : {A : Type 0} (xs : List A) (i : ℕ) → i < length xs → (x : A) × (slice_get xs i ≡ Some x)
has-place [] i within = absurd (omega (arith, within))
has-place (x ∷ xs) zero within = (x, refl)
has-place (x ∷ xs) (suc i) within = has-place xs i (omega (arith, within))

pub index-there : {A : Type 0} (xs : List A) (i : ℕ) (d : A) → i < length xs → slice_get xs i ≡ Some (slice_index_or xs i d)
index-there [] i d within = absurd (omega (arith, within))
index-there (x ∷ xs) zero d within = refl
index-there (x ∷ xs) (suc i) d within = index-there xs i d (omega (arith, within))

drop-there : {A : Type 0} (xs : List A) (n : ℕ) (x : A) → slice_get xs n ≡ Some x → drop n xs ≡ x ∷ drop (suc n) xs
drop-there [] n x is = cc
drop-there (y ∷ xs) zero x is = let e : y ≡ x = cc in ap (λ z. z ∷ xs) e
drop-there (y ∷ xs) (suc n) x is = drop-there xs n x is

drop-next : {A : Type 0} (xs : List A) (n : ℕ) (x : A) (more : List A) → drop n xs ≡ x ∷ more → drop (suc n) xs ≡ more
drop-next [] zero x more is = cc
drop-next [] (suc n) x more is = cc
drop-next (y ∷ xs) zero x more is = cc
drop-next (y ∷ xs) (suc n) x more is = drop-next xs n x more is

next-is : (n : ℕ) → n + 1 ≡ suc n
next-is n = omega arith

-- a part between two spots, of which the first is of this stream
module _ (heads : List Head) (spot next : Spot) (old new : List Writing) (before after : List ℕ) (n m : ℕ) (b d : Bool)
    (at : spot.stream ≡ n) (begun : spot.begun ≡ b) (to : next.stream ≡ m) (then_begun : next.begun ≡ d) where
  pub wrote-at : (part : List ℕ) → after ≡ before ++ part → processes_left heads n b (drop n old) ≡ part ++ processes_left heads m d (drop m new)
      → parts_of d (drop m new) < parts_of b (drop n old) → WrotePart heads spot next old new before after
  wrote-at part added rest fewer = record {
    part = part;
    added = added;
    rest = rw (at, begun, to, then_begun) rest;
    fewer = rw (at, begun, to, then_begun) fewer;
  }

module _ {F : Type 0} {T : Ghosts F} (rest whole : F → List Transfer) (heads : List Head) (cursors : List (Cursor F T)) (stream : ℕ) where
  -- no stream is left
  pub none-left : (begun : Bool) → length cursors ≤ stream → processes_left heads stream begun (drop stream (writings_of rest whole cursors)) ≡ []
  none-left begun past =
      let long : length (writings_of rest whole cursors) ≡ length cursors = length-map cursors (writing_of rest whole) in
      ap (processes_left heads stream begun) (drop_all stream (writings_of rest whole cursors) (omega (arith, past, long)))

  module _ (c : Cursor F T) (there : slice_get cursors stream ≡ Some c) where
    drop-old : drop stream (writings_of rest whole cursors) ≡ writing_of rest whole c ∷ drop (suc stream) (writings_of rest whole cursors)
    drop-old =
        drop-map (writing_of rest whole) stream cursors ∙ ap (map (writing_of rest whole)) (drop-there cursors stream c there)
        ∙ ap (λ (l : List Writing). writing_of rest whole c ∷ l) (sym (drop-map (writing_of rest whole) (suc stream) cursors))

    drop-new : (new : Cursor F T) → drop stream (writings_of rest whole (set cursors stream new)) ≡ writing_of rest whole new ∷ drop (suc stream) (writings_of rest whole cursors)
    drop-new new =
        drop-map (writing_of rest whole) stream (set cursors stream new)
        ∙ ap (map (writing_of rest whole)) (drop-set cursors stream new (slice_get_within cursors stream c there) ∙ ap (λ (n : ℕ). new ∷ drop n cursors) (next-is stream))
        ∙ ap (λ (l : List Writing). writing_of rest whole new ∷ l) (sym (drop-map (writing_of rest whole) (suc stream) cursors))

    drop-behind : (new : Cursor F T) → drop (suc stream) (writings_of rest whole (set cursors stream new)) ≡ drop (suc stream) (writings_of rest whole cursors)
    drop-behind new = drop-next (writings_of rest whole (set cursors stream new)) stream (writing_of rest whole new) (drop (suc stream) (writings_of rest whole cursors)) (drop-new new)

    -- the lines of all processes behind this one
    behind : List ℕ
    behind = processes_left heads (suc stream) false (drop (suc stream) (writings_of rest whole cursors))

    module _ (spot next : Spot) (before after : List ℕ) (at : spot.stream ≡ stream) where
      -- the begin of a process was written
      pub wrote-begin : spot.begun ≡ false → next.stream ≡ stream → next.begun ≡ true → after ≡ before ++ process_front
          → WrotePart heads spot next (writings_of rest whole cursors) (writings_of rest whole cursors) before after
      unfolding behind
      wrote-begin fresh to begun added =
          wrote-at heads spot next (writings_of rest whole cursors) (writings_of rest whole cursors) before after stream stream false true at fresh to begun process_front added
          (ap (processes_left heads stream false) drop-old ∙ append_assoc process_front (rest_text heads stream (writing_of rest whole c)) behind
          ∙ ap (λ (l : List ℕ). process_front ++ l) (sym (ap (processes_left heads stream true) drop-old)))
          (let one : parts_of true (drop stream (writings_of rest whole cursors)) ≡ 1 + (length (rest c.feed) + parts_of false (drop (suc stream) (writings_of rest whole cursors))) = ap (parts_of true) drop-old in
          let two : parts_of false (drop stream (writings_of rest whole cursors)) ≡ 2 + (length (rest c.feed) + parts_of false (drop (suc stream) (writings_of rest whole cursors))) = ap (parts_of false) drop-old in
          omega (arith, one, two))

      -- one transfer of a process was written
      pub wrote-more : (new : Cursor F T) → KeepRun whole c new → StandsBefore rest c (whole c.feed) → spot.begun ≡ true → next.stream ≡ stream → next.begun ≡ true
          → WroteTransfer heads stream (writing_of rest whole c) (writing_of rest whole new) before after
          → WrotePart heads spot next (writings_of rest whole cursors) (writings_of rest whole (set cursors stream new)) before after
      unfolding behind
      wrote-more new kept stands begun to still wrote =
          let lines = wrote-lines heads stream (writing_of rest whole c) (writing_of rest whole new) before after kept.params kept.all kept.gaps (before-few rest c (whole c.feed) stands) wrote in
          wrote-at heads spot next (writings_of rest whole cursors) (writings_of rest whole (set cursors stream new)) before after stream stream true true at begun to still lines.part lines.added
          (ap (processes_left heads stream true) drop-old ∙ ap (λ (l : List ℕ). l ++ behind) lines.rest
          ∙ append_assoc lines.part (rest_text heads stream (writing_of rest whole new)) behind
          ∙ ap (λ (l : List ℕ). lines.part ++ l) (sym (ap (processes_left heads stream true) (drop-new new))))
          (let one : parts_of true (drop stream (writings_of rest whole (set cursors stream new))) ≡ 1 + (length (rest new.feed) + parts_of false (drop (suc stream) (writings_of rest whole cursors))) =
          ap (parts_of true) (drop-new new) in
          let two : parts_of true (drop stream (writings_of rest whole cursors)) ≡ 1 + (length (rest c.feed) + parts_of false (drop (suc stream) (writings_of rest whole cursors))) = ap (parts_of true) drop-old in
          omega (arith, one, two, lines.fewer))

      -- the end of a process was written
      pub wrote-last : (new : Cursor F T) → rest c.feed ≡ [] → spot.begun ≡ true → next.stream ≡ stream + 1 → next.begun ≡ false
          → after ≡ before ++ (flat_map (stmt_text heads) (put_valid stream false ∷ stmts.Stop ∷ []) ++ process_back)
          → WrotePart heads spot next (writings_of rest whole cursors) (writings_of rest whole (set cursors stream new)) before after
      unfolding behind
      wrote-last new none begun to fresh added =
          let part : List ℕ = flat_map (stmt_text heads) (put_valid stream false ∷ stmts.Stop ∷ []) ++ process_back in
          wrote-at heads spot next (writings_of rest whole cursors) (writings_of rest whole (set cursors stream new)) before after stream (suc stream) true false at begun (to ∙ next-is stream) fresh part added
          (ap (processes_left heads stream true) drop-old ∙ ap (λ (l : List ℕ). l ++ behind) (last-lines heads stream (writing_of rest whole c) none)
          ∙ ap (λ (l : List ℕ). part ++ l) (sym (ap (processes_left heads (suc stream) false) (drop-behind new))))
          (let one : parts_of false (drop (suc stream) (writings_of rest whole (set cursors stream new))) ≡ parts_of false (drop (suc stream) (writings_of rest whole cursors)) = ap (parts_of false) (drop-behind new) in
          let two : parts_of true (drop stream (writings_of rest whole cursors)) ≡ 1 + (length (rest c.feed) + parts_of false (drop (suc stream) (writings_of rest whole cursors))) = ap (parts_of true) drop-old in
          omega (arith, one, two))

-- what a step says of one part
pub part-yes : (E : Type 0) (heads : List Head) (spot next : Spot) (old new : List Writing) (before after : List ℕ) (b : Bool) → b ≡ true → WritesPart {E = E} heads spot next old new before after (Ok b) → WrotePart heads spot next old new before after
part-yes E heads spot next old new before after b is writes = subst (λ (x : Bool). WritesPart {E = E} heads spot next old new before after (Ok x)) is writes

pub part-no : (E : Type 0) (heads : List Head) (spot next : Spot) (old new : List Writing) (before after : List ℕ) (b : Bool) → b ≡ false → WritesPart {E = E} heads spot next old new before after (Ok b)
    → (lines_left heads next new ≡ []) × ((lines_left heads spot old ≡ []) × (after ≡ before))
part-no E heads spot next old new before after b is writes = subst (λ (x : Bool). WritesPart {E = E} heads spot next old new before after (Ok x)) is writes

module _ (heads : List Head) (spot next : Spot) (old new : List Writing) (before after : List ℕ) (wrote : WrotePart heads spot next old new before after) where
  -- what was written and what is left are all
  pub made-more : (all : List ℕ) → all ≡ before ++ lines_left heads spot old → all ≡ after ++ lines_left heads next new
  made-more all made =
      made ∙ ap (λ (l : List ℕ). before ++ l) wrote.rest ∙ sym (append_assoc before wrote.part (lines_left heads next new))
      ∙ ap (λ (l : List ℕ). l ++ lines_left heads next new) (sym wrote.added)

  -- a part more in a sum that stops at the most
  pub counted-more : (all bytes more sum most : ℕ) → before ≡ [] → more ≡ length after → sum ≡ min (bytes + more) most → min all most ≡ min (bytes + length (lines_left heads spot old)) most
      → min all most ≡ min (sum + length (lines_left heads next new)) most
  counted-more all bytes more sum most none len is so =
      let part : length after ≡ length wrote.part = ap length (wrote.added ∙ ap (λ (l : List ℕ). l ++ wrote.part) none) in
      let left : length (lines_left heads spot old) ≡ length wrote.part + length (lines_left heads next new) = ap length wrote.rest ∙ length-append wrote.part (lines_left heads next new) in
      omega (arith, part, left, len, is, so)

-- at the end nothing is left to count
pub counted-all : (all bytes most : ℕ) (left : List ℕ) → left ≡ [] → bytes ≤ most → min all most ≡ min (bytes + length left) most → bytes ≡ min all most
counted-all all bytes most left none few so = let e : length left ≡ 0 = ap length none in omega (arith, e, few, so)

-- at the end all of the text is in the piece
pub made-all : (all piece left : List ℕ) → left ≡ [] → all ≡ piece ++ left → 0 < length all → 0 < length piece
made-all all piece left none made some = let e : length all ≡ length piece + length left = ap length made ∙ length-append piece left in let z : length left ≡ 0 = ap length none in omega (arith, e, z, some)

-- ---- cursors that keep their runs

module _ {F : Type 0} {T : Ghosts F} (whole : F → List Transfer) where
  pub keep-one : (c : Cursor F T) → KeepRun whole c c
  keep-one c = record { params = refl; gaps = refl; all = refl }

  pub keep-same : (cursors : List (Cursor F T)) → KeepRuns whole cursors cursors
  keep-same cursors = record { many = refl; each = λ i before after is here. subst (KeepRun whole before) (same_some (sym is ∙ here)) (keep-one before) }

  pub keep-then : (old mid new : List (Cursor F T)) → KeepRuns whole old mid → KeepRuns whole mid new → KeepRuns whole old new
  keep-then old mid new one two = record { many = two.many ∙ one.many; each = λ i before after is here. by i before after is here (slice_get mid i) refl }
    where
      by : (i : ℕ) (before after : Cursor F T) → slice_get old i ≡ Some before → slice_get new i ≡ Some after → (found : Option (Cursor F T)) → slice_get mid i ≡ found → KeepRun whole before after
      by i before after is here (Some c) there =
          let a = one.each i before c is there in
          let b = two.each i c after there here in
          record { params = b.params ∙ a.params; gaps = b.gaps ∙ a.gaps; all = b.all ∙ a.all }
      by i before after is here None there =
          let within : i < length new = slice_get_within new i after here in
          absurd (none_given (sym (slice_get-get_or mid i before (omega (arith, within, two.many))) ∙ there))

  module _ (cursors : List (Cursor F T)) (i : ℕ) (c new : Cursor F T) (there : slice_get cursors i ≡ Some c) where
    is_new : (j : ℕ) (d : Cursor F T) → slice_get (set cursors i new) j ≡ Some d → i ≡ j → new ≡ d
    is_new j d here same = same_some (sym (slice_get-set_same cursors i new (slice_get_within cursors i c there)) ∙ ap (slice_get (set cursors i new)) same ∙ here)

    pub keep-set : KeepRun whole c new → KeepRuns whole cursors (set cursors i new)
    keep-set kept = record { many = length-set cursors i new; each = λ j before after is here. by j before after is here (same_or_other i j) }
      where
        by : (j : ℕ) (before after : Cursor F T) → slice_get cursors j ≡ Some before → slice_get (set cursors i new) j ≡ Some after → (i ≡ j) ⊎ (i ≡ j → ⊥) → KeepRun whole before after
        by j before after is here (inl same) =
            let first : c ≡ before = same_some (sym there ∙ ap (slice_get cursors) same ∙ is) in
            subst (λ (x : Cursor F T). KeepRun whole x after) first (subst (KeepRun whole c) (is_new j after here same) kept)
        by j before after is here (inr other) =
            subst (KeepRun whole before) (same_some (sym is ∙ sym (slice_get-set_other cursors i j new other) ∙ here)) (keep-one before)

    pub before-set : (rest : F → List Transfer) → AreBefore rest whole cursors → StandsBefore rest new (whole new.feed) → AreBefore rest whole (set cursors i new)
    before-set rest all stands = λ j d here. by j d here (same_or_other i j)
      where
        by : (j : ℕ) (d : Cursor F T) → slice_get (set cursors i new) j ≡ Some d → (i ≡ j) ⊎ (i ≡ j → ⊥) → StandsBefore rest d (whole d.feed)
        by j d here (inl same) = subst (λ (x : Cursor F T). StandsBefore rest x (whole x.feed)) (is_new j d here same) stands
        by j d here (inr other) = all j d (sym (slice_get-set_other cursors i j new other) ∙ here)

-- ---- the whole text

-- a process before its first transfer
abbrev fresh_of : {F : Type 0} {T : Ghosts F} → (F → List Transfer) → Cursor F T → Writing
fresh_of whole c = record { params = c.params; transfers = whole c.feed; gaps = c.gaps; left = whole c.feed }

module _ {F : Type 0} {T : Ghosts F} (rest whole : F → List Transfer) where
  keep-rest : (one other : Cursor F T) (olds news : List (Cursor F T)) → KeepRuns whole (one ∷ olds) (other ∷ news) → KeepRuns whole olds news
  keep-rest one other olds news kept = record { many = let e = kept.many in omega (arith, e); each = λ i before after is here. kept.each (suc i) before after is here }

  -- cursors that keep their runs and stand before all transfers
  pub writings-first : (olds news : List (Cursor F T)) → KeepRuns whole olds news → AreFirst rest whole news → writings_of rest whole news ≡ map (fresh_of whole) olds
  writings-first [] [] kept first = refl
  writings-first [] (new ∷ news) kept first = let e = kept.many in absurd (omega (arith, e))
  writings-first (old ∷ olds) [] kept first = let e = kept.many in absurd (omega (arith, e))
  writings-first (old ∷ olds) (new ∷ news) kept first =
      let one = kept.each 0 old new refl refl in
      let all = (first 0 new refl).all ∙ one.all in
      let here : writing_of rest whole new ≡ fresh_of whole old = rw (one.params, one.gaps, one.all, all) refl in
      ap (λ (w : Writing). w ∷ writings_of rest whole news) here ∙ ap (λ (l : List Writing). fresh_of whole old ∷ l) (writings-first olds news (keep-rest old new olds news kept) (λ i c there. first (suc i) c there))

  module _ (parts : ProcessesHaveParts) (heads : List Head) where
    process-whole : (number : ℕ) (head : Head) (c : Cursor F T) → head.params ≡ c.params
        → process_left heads number false (fresh_of whole c) ≡ process_text heads (process_of number (record { head = head; transfers = whole c.feed; gaps = c.gaps }))
    process-whole number head c same =
        let none : length (whole c.feed) - length (whole c.feed) ≡ 0 = omega arith in
        ap (λ (n : ℕ). process_front ++ (flat_map (stmt_text heads) (process_from c.params number (whole c.feed) c.gaps n (whole c.feed)) ++ process_back)) none
        ∙ ap (λ (q : Parameters). process_front ++ (flat_map (stmt_text heads) (process_from q number (whole c.feed) c.gaps 0 (whole c.feed)) ++ process_back)) (sym same)
        ∙ sym (parts heads (process_of number (record { head = head; transfers = whole c.feed; gaps = c.gaps })))

    pub processes-whole : (number : ℕ) (some : List Head) (cursors : List (Cursor F T)) → HaveParams some cursors
        → processes_left heads number false (map (fresh_of whole) cursors) ≡ flat_map (process_text heads) (processes_from number (driven_in whole some cursors))
    processes-whole number [] [] have = refl
    processes-whole number [] (c ∷ cursors) have = cc
    processes-whole number (head ∷ some) [] have = cc
    processes-whole number (head ∷ some) (c ∷ cursors) have =
        let same : head.params ≡ c.params = cc in
        let more : HaveParams some cursors = cc in
        ap (λ (l : List ℕ). l ++ processes_left heads (suc number) false (map (fresh_of whole) cursors)) (process-whole number head c same)
        ∙ ap (λ (l : List ℕ). process_text heads (process_of number (record { head = head; transfers = whole c.feed; gaps = c.gaps })) ++ l) (processes-whole (suc number) some cursors more)

  pub heads-driven_in : (heads : List Head) (cursors : List (Cursor F T)) → HaveParams heads cursors → map (λ (d : Driven). d.head) (driven_in whole heads cursors) ≡ heads
  heads-driven_in [] [] have = refl
  heads-driven_in [] (c ∷ cursors) have = refl
  heads-driven_in (head ∷ heads) [] have = cc
  heads-driven_in (head ∷ heads) (c ∷ cursors) have = let more : HaveParams heads cursors = cc in ap (λ (l : List Head). head ∷ l) (heads-driven_in heads cursors more)

  -- all lines of the processes, then what is before and after them
  pub whole-text : BenchesHaveParts → ProcessesHaveParts → (heads : List Head) (olds news : List (Cursor F T)) (front back : List ℕ) → HaveParams heads olds → KeepRuns whole olds news → AreFirst rest whole news
      → front ≡ front_text heads → back ≡ back_text
      → front ++ (processes_left heads 0 false (writings_of rest whole news) ++ back) ≡ bench_text (driving (driven_in whole heads olds))
  whole-text benches parts heads olds news front back have kept first front_is back_is =
      let all : List Driven = driven_in whole heads olds in
      let same : map (λ (d : Driven). d.head) all ≡ heads = heads-driven_in heads olds have in
      let lines : processes_left heads 0 false (writings_of rest whole news) ≡ flat_map (process_text heads) (processes_from 0 all) =
      ap (processes_left heads 0 false) (writings-first olds news kept first) ∙ processes-whole parts heads 0 heads olds have in
      ap (λ (l : List ℕ). l ++ (processes_left heads 0 false (writings_of rest whole news) ++ back)) front_is
      ∙ ap (λ (l : List ℕ). front_text heads ++ (l ++ back)) lines
      ∙ ap (λ (l : List ℕ). front_text heads ++ (flat_map (process_text heads) (processes_from 0 all) ++ l)) back_is
      ∙ ap (λ (hs : List Head). front_text hs ++ (flat_map (process_text hs) (processes_from 0 all) ++ back_text)) (sym same)
      ∙ sym (benches (driving all))

  -- the lines of the processes are the same, whichever of two cursors that begin anew they are of
  pub lines-same : (heads : List Head) (olds ones others : List (Cursor F T)) → KeepRuns whole olds ones → AreFirst rest whole ones → KeepRuns whole olds others → AreFirst rest whole others
      → processes_left heads 0 false (writings_of rest whole ones) ≡ processes_left heads 0 false (writings_of rest whole others)
  lines-same heads olds ones others kept first other_kept other_first =
      ap (processes_left heads 0 false) (writings-first olds ones kept first ∙ sym (writings-first olds others other_kept other_first))

pub first-before : {F : Type 0} {T : Ghosts F} (rest whole : F → List Transfer) (cursors : List (Cursor F T)) → AreFirst rest whole cursors → AreBefore rest whole cursors
first-before rest whole cursors first = λ i c there. (first i c there).before

-- the bytes of three texts, one after another, in sums that stop at the most
pub three-lengths : (front lines back : List ℕ) (f b bytes one two most : ℕ) → f ≡ length front → b ≡ length back → bytes ≡ min (length lines) most → one ≡ min (bytes + f) most → two ≡ min (one + b) most
    → two ≡ min (length (front ++ (lines ++ back))) most
three-lengths front lines back f b bytes one two most f_is b_is bytes_are one_is two_is =
    omega (arith, length-append front (lines ++ back), length-append lines back, f_is, b_is, bytes_are, one_is, two_is)
