-- Benches: what is read is spelled so.
use Rattle.std.proofs.Common.{◌≡◌, ℕ, zero, suc, ◌+◌, ◌≤◌, ◌<◌, Bool, true, false, not, ◌&&◌, ◌||◌, ◌==◌, nat_lt, nat_eq, cond, List, [], ◌∷◌, ◌++◌, append_assoc, append-nil, length, drop, slice_get, Option, Some, None, Result, Ok, Err, refl, sym, ap, ◌∙◌, arith}
use Rattle.std.specs.Prelude.{codes}
use Rattle.std.specs.List.{flat_map, list_any, starts_with}
use Rattle.std.specs.Str.{bytes_eq}
use Rattle.std.proofs.lemmas.Bool.Decides.{nat_tests, Decides-eqb}
use Rattle.std.proofs.lemmas.List.Elements.{All-cons, All-nil}
use Rattle.std.proofs.lemmas.Option.{none-some, same_Some}
use Rattle.std.proofs.lemmas.Slice.Eq.{bytes_eq-Decides, starts_is}
use Rattle.tydi_base.specs.Path.{path_text}
use Rattle.tydi_base.specs.Pieces.{pieces_of}
use Rattle.tydi_base.proofs.PlainWords.{and_parts}
use Rattle.tydi_base.proofs.ReadingLaws.{ok_is}
use Rattle.tydi_reading.specs.declared.fault.Fault.TheVariants as refusals
use Rattle.tydi_reading.specs.Lists.{mark}
use Rattle.tydi_reading.specs.Reading.{Outcome, took, stopped, Reader, and_then, pure}
use Rattle.physical_stream.specs.StreamLine.{IsHead, head_of}
use Rattle.physical_stream.specs.declared.head.Head.{Head}
use Rattle.physical_stream.proofs.HeadSpelling.{head_of-some}
use Rattle.vhdl_text.specs.declared.bench.Bench.{Bench}
use Rattle.vhdl_text.specs.declared.fault.VhdlFault.{VhdlFault}
use Rattle.vhdl_text.specs.declared.fault.VhdlFault.TheVariants as faults
use Rattle.vhdl_text.specs.declared.refusal.Refusal.{Refusal}
use Rattle.vhdl_text.specs.Lines.{Cut, cut_last}
use Rattle.vhdl_text.specs.Reading.{bench_from, bench_in, bench_of, body_of, head_after, heads_from, is_comment, lines_text, new_head, no_procs, procs_from, the_lines, whole, with_head, BenchesArePrintedAsRead}
use Rattle.vhdl_text.specs.Text.{bench_text, frame_text, process_text, stream_comment}
use Rattle.vhdl_text.specs.WellFormed.{AreApart, IsWellFormed}
use Rattle.vhdl_text.proofs.BenchSpelling.{MayFollow, comment_line, frame_lines, pieces-text}
use Rattle.vhdl_text.proofs.CutLemmas.{cut_last-some}
use Rattle.vhdl_text.proofs.LineReading.{procs_from-some}
use Rattle.vhdl_text.proofs.ProcessReading.{Holds}
use Rattle.vhdl_text.proofs.ProcessSpelling.{lines_text-append}

-- ---- steps

pub took-same : {T A : Type 0} (x y : A) (l m : List T) → ◌≡◌ {A = Outcome Refusal T A} (took x l) (took y m) → (x ≡ y) × (l ≡ m)
took-same x y l m e = (cc, cc)

-- one step, and then another
pub and_then-some : {T A B : Type 0} (first : Outcome Refusal T A) (more : A → Reader Refusal T B) (y : B) (rest : List T) → and_then first more ≡ took y rest
    → (x : A) × (mid : List T) × (first ≡ took x mid) × (more x mid ≡ took y rest)
and_then-some (took x mid) more y rest e = (x, mid, refl, e)
and_then-some (stopped fault mid) more y rest e = absurd cc

pub mark-some : (line : List ℕ) (lines rest : List (List ℕ)) (x : Unit {0}) → ◌≡◌ {A = Outcome Refusal (List ℕ) (Unit {0})} (mark (λ next. bytes_eq next line) lines) (took x rest) → lines ≡ line ∷ rest
unfolding mark
mark-some line [] rest x e = absurd cc
mark-some line (next ∷ lines) rest x e = by_test (bytes_eq next line) refl e
  where
    by_test : (test : Bool) → bytes_eq next line ≡ test → cond {A = Outcome Refusal (List ℕ) (Unit {0})} test (took tt lines) (stopped refusals.Refused (next ∷ lines)) ≡ took x rest → next ∷ lines ≡ line ∷ rest
    by_test true is e = let same = (bytes_eq-Decides next line).0 is in let after = (took-same tt x lines rest e).1 in cc
    by_test false is e = absurd cc

pub the_lines-some : (wanted lines rest : List (List ℕ)) (x : Unit {0}) → the_lines wanted lines ≡ took x rest → lines ≡ wanted ++ rest
unfolding the_lines
the_lines-some [] lines rest x e = (took-same tt x lines rest e).1
the_lines-some (line ∷ wanted) lines rest x e =
    let first = and_then-some (mark (λ next. bytes_eq next line) lines) (λ _. the_lines wanted) x rest e in
    mark-some line lines first.1 first.0 first.2 ∙ ap (λ (l : List (List ℕ)). line ∷ l) (the_lines-some wanted first.1 rest x first.3)

-- ---- streams

record HeadRead (paths : List (List ℕ)) (line : List ℕ) (head : Head) : Type 0 where
  read : head_of (drop 3 line) ≡ Ok head
  room : length paths < 65536
  new : list_any (bytes_eq (path_text head.path)) paths ≡ false

pub not-true : (test : Bool) → not test ≡ true → test ≡ false
not-true true e = absurd cc
not-true false e = refl

new_head-some : (paths : List (List ℕ)) (line : List ℕ) (found : Result Head (Unit {0})) (head : Head) → head_of (drop 3 line) ≡ found → new_head paths found ≡ Some head → HeadRead paths line head
new_head-some paths line (Err e) head is read = absurd (none-some head read)
new_head-some paths line (Ok found) head is read = by_test (nat_lt (length paths) 65536 && not (list_any (bytes_eq (path_text found.path)) paths)) refl read
  where
    by_test : (test : Bool) → (nat_lt (length paths) 65536 && not (list_any (bytes_eq (path_text found.path)) paths)) ≡ test → cond test (Some found) None ≡ Some head → HeadRead paths line head
    by_test false no_more read = absurd (none-some head read)
    by_test true may read =
        let parts = and_parts (nat_lt (length paths) 65536) (not (list_any (bytes_eq (path_text found.path)) paths)) may in
        let same = same_Some found head read in
        rw (← same) (record { read = is; room = grind (arith, nat_tests); new = not-true (list_any (bytes_eq (path_text found.path)) paths) parts.1 })

head_after-some : (paths : List (List ℕ)) (line : List ℕ) (head : Head) → head_after paths line ≡ Some head → HeadRead paths line head
unfolding head_after
head_after-some paths line head e = new_head-some paths line (head_of (drop 3 line)) head refl e

-- a comment that is read
comment-is : (line : List ℕ) (head : Head) → is_comment line ≡ true → head_of (drop 3 line) ≡ Ok head → (line ≡ comment_line head) × IsHead head
comment-is line head begins e =
    let is = (starts_is Decides-eqb line (codes "-- stream ") (starts_with nat_eq line (codes "-- stream ")) refl).0 begins in
    let read = head_of-some (drop 3 line) head e in
    (is ∙ sym (ap (λ (l : List ℕ). codes "-- " ++ drop 3 l) is) ∙ ap (λ (l : List ℕ). codes "-- " ++ l) read.0, read.1)

or-false : (a b : Bool) → (a || b) ≡ false → (a ≡ false) × (b ≡ false)
or-false true b e = absurd cc
or-false false b e = (refl, e)

MayFollow-more : (paths : List (List ℕ)) (head : Head) (heads : List Head) → IsHead head → length paths < 65536 → list_any (bytes_eq (path_text head.path)) paths ≡ false → MayFollow (path_text head.path ∷ paths) heads → MayFollow paths (head ∷ heads)
MayFollow-more paths head heads first few own may =
    let room = may.room in
    record { each = All-cons IsHead head heads first may.each; room = omega arith; apart = apart; new = new }
  where
    differs : (i : ℕ) (other : Head) → slice_get heads i ≡ Some other → (bytes_eq (path_text other.path) (path_text head.path) ≡ false) × (list_any (bytes_eq (path_text other.path)) paths ≡ false)
    differs i other there = or-false (bytes_eq (path_text other.path) (path_text head.path)) (list_any (bytes_eq (path_text other.path)) paths) (may.new i other there)

    clash : (i : ℕ) (one other : Head) → ◌≡◌ {A = Option Head} (Some head) (Some one) → slice_get heads i ≡ Some other → path_text other.path ≡ path_text one.path → ⊥
    clash i one other is there same =
        let first_is = same_Some head one is in
        let equal = (bytes_eq-Decides (path_text other.path) (path_text head.path)).1 (same ∙ ap (λ (h : Head). path_text h.path) (sym first_is)) in
        cc (sym equal ∙ (differs i other there).0)

    apart : AreApart (head ∷ heads)
    apart zero zero one other here there same = refl
    apart zero (suc b) one other here there same = absurd (clash b one other here there (sym same))
    apart (suc a) zero one other here there same = absurd (clash a other one there here same)
    apart (suc a) (suc b) one other here there same = ap suc (may.apart a b one other here there same)

    new : (i : ℕ) (other : Head) → slice_get (head ∷ heads) i ≡ Some other → list_any (bytes_eq (path_text other.path)) paths ≡ false
    new zero other there = ap (λ (h : Head). list_any (bytes_eq (path_text h.path)) paths) (sym (same_Some head other there)) ∙ own
    new (suc i) other there = (differs i other there).1

-- the reading of the lines of streams
pub record HeadsRead (paths lines : List (List ℕ)) (heads : List Head) (rest : List (List ℕ)) : Type 0 where
  pub may : MayFollow paths heads
  pub text : lines_text lines ≡ flat_map stream_comment heads ++ lines_text rest

no-heads : (paths lines : List (List ℕ)) (heads : List Head) (rest : List (List ℕ)) → length paths ≤ 65536 → ◌≡◌ {A = Outcome Refusal (List ℕ) (List Head)} (took [] lines) (took heads rest) → HeadsRead paths lines heads rest
no-heads paths lines heads rest few e =
    let same = took-same [] heads lines rest e in
    rw (← same.0, ← same.1) (record {
      may = record { each = All-nil IsHead; room = omega arith; apart = λ a b one other here there same. absurd (none-some one here); new = λ i head there. absurd (none-some head there) };
      text = refl;
    })

pub heads_from-some : (paths lines : List (List ℕ)) (heads : List Head) (rest : List (List ℕ)) → length paths ≤ 65536 → heads_from paths lines ≡ took heads rest → HeadsRead paths lines heads rest
heads_from-some paths [] heads rest few e = no-heads paths [] heads rest few e
heads_from-some paths (line ∷ lines) heads rest few e = by_test (λ head hs found room. heads_from-some (path_text head.path ∷ paths) lines hs rest room found) (is_comment line) refl e
  where
    Later : Type 0
    Later = (head : Head) (hs : List Head) → heads_from (path_text head.path ∷ paths) lines ≡ took hs rest → length (path_text head.path ∷ paths) ≤ 65536 → HeadsRead (path_text head.path ∷ paths) lines hs rest

    by_head : Later → is_comment line ≡ true → (found : Option Head) → head_after paths line ≡ found → with_head (line ∷ lines) (λ head. heads_from (path_text head.path ∷ paths) lines) found ≡ took heads rest
        → HeadsRead paths (line ∷ lines) heads rest
    by_head later begins None is e = absurd cc
    by_head later begins (Some head) is e =
        let after = head_after-some paths line head is in
        let spelled = comment-is line head begins after.read in
        let more = and_then-some (heads_from (path_text head.path ∷ paths) lines) (λ hs. pure (head ∷ hs)) heads rest e in
        let same = took-same (head ∷ more.0) heads more.1 rest more.3 in
        let room = after.room in
        let read = later head more.0 (more.2 ∙ ap (λ (r : List (List ℕ)). took more.0 r) same.1) (omega arith) in
        rw (← same.0) (record {
          may = MayFollow-more paths head more.0 spelled.1 after.room after.new read.may;
          text = ap (λ (l : List ℕ). (l ++ 10 ∷ []) ++ lines_text lines) spelled.0 ∙ ap (λ (t : List ℕ). stream_comment head ++ t) read.text ∙ sym (append_assoc (stream_comment head) (flat_map stream_comment more.0) (lines_text rest));
        })

    by_test : Later → (test : Bool) → is_comment line ≡ test → cond {A = Outcome Refusal (List ℕ) (List Head)} test (with_head (line ∷ lines) (λ head. heads_from (path_text head.path ∷ paths) lines) (head_after paths line)) (took [] (line ∷ lines)) ≡ took heads rest
        → HeadsRead paths (line ∷ lines) heads rest
    by_test later true is e = by_head later is (head_after paths line) refl e
    by_test later false is e = no-heads paths (line ∷ lines) heads rest few e

-- ---- benches

-- the reading of all lines
record BenchRead (lines : List (List ℕ)) (bench : Bench) (rest : List (List ℕ)) : Type 0 where
  well : IsWellFormed bench
  text : lines_text lines ≡ bench_text bench ++ lines_text rest

holds-none : (heads : List Head) → Holds heads no_procs
holds-none heads = record {
  count = omega arith;
  are = All-nil _;
  stop = All-nil _;
  once = λ stream signal a b one other. absurd cc;
  current = All-nil _;
  new = λ stream signal none. absurd cc;
  begun = refl;
}

body_of-some : (heads : List Head) (lines : List (List ℕ)) (bench : Bench) (rest : List (List ℕ)) → MayFollow [] heads → body_of heads lines ≡ took bench rest
    → (IsWellFormed bench) × (bench.heads ≡ heads) × (lines_text lines ≡ frame_text heads ++ 10 ∷ (flat_map (process_text heads) bench.procs ++ (codes "end architecture;\n" ++ lines_text rest)))
unfolding body_of
body_of-some heads lines bench rest may e =
    let frame = and_then-some (the_lines (frame_lines heads) lines) (λ _. λ ls. and_then (procs_from heads no_procs ls) (λ procs. pure (record { heads = heads; procs = procs }))) bench rest e in
    let procs = and_then-some (procs_from heads no_procs frame.1) (λ procs. pure (record { heads = heads; procs = procs })) bench rest frame.3 in
    let same = took-same (record { heads = heads; procs = procs.0 }) bench procs.1 rest procs.3 in
    let read = procs_from-some heads no_procs frame.1 procs.0 procs.1 (holds-none heads) procs.2 in
    let room = may.room in
    rw (← same.0) (
      record {
        heads = record { few = omega arith; each = may.each; apart = may.apart };
        count = read.holds.count;
        stmts = read.holds.are;
        ends = read.holds.stop;
        once = read.holds.once;
      },
      refl,
      ap lines_text (the_lines-some (frame_lines heads) lines frame.1 frame.0 frame.2) ∙ lines_text-append (frame_lines heads) frame.1 ∙ ap (λ (t : List ℕ). t ++ lines_text frame.1) (pieces-text (frame_text heads))
          ∙ append_assoc (frame_text heads) (10 ∷ []) (lines_text frame.1) ∙ ap (λ (t : List ℕ). frame_text heads ++ 10 ∷ t) (read.text ∙ ap (λ (r : List (List ℕ)). flat_map (process_text heads) procs.0 ++ (codes "end architecture;\n" ++ lines_text r)) same.1),
    )

regroup : (c f p r : List ℕ) → c ++ (f ++ 10 ∷ (p ++ (codes "end architecture;\n" ++ r))) ≡ (c ++ (f ++ 10 ∷ (p ++ codes "end architecture;\n"))) ++ r
regroup c f p r =
    ap (λ (t : List ℕ). c ++ (f ++ 10 ∷ t)) (sym (append_assoc p (codes "end architecture;\n") r)) ∙ ap (λ (t : List ℕ). c ++ t) (sym (append_assoc f (10 ∷ (p ++ codes "end architecture;\n")) r))
    ∙ sym (append_assoc c (f ++ 10 ∷ (p ++ codes "end architecture;\n")) r)

bench_from-some : (lines : List (List ℕ)) (bench : Bench) (rest : List (List ℕ)) → bench_from lines ≡ took bench rest → BenchRead lines bench rest
unfolding bench_from
bench_from-some lines bench rest e =
    let found = and_then-some (and_then (the_lines (codes "-- tydi-bench 1" ∷ []) lines) (λ _. heads_from [])) body_of bench rest e in
    let first = and_then-some (the_lines (codes "-- tydi-bench 1" ∷ []) lines) (λ _. heads_from []) found.0 found.1 found.2 in
    let title = the_lines-some (codes "-- tydi-bench 1" ∷ []) lines first.1 first.0 first.2 in
    let heads = heads_from-some [] first.1 found.0 found.1 (omega arith) first.3 in
    let body = body_of-some found.0 found.1 bench rest heads.may found.3 in
    let all = λ (hs : List Head). codes "-- tydi-bench 1\n" ++ (flat_map stream_comment hs ++ (frame_text hs ++ 10 ∷ (flat_map (process_text hs) bench.procs ++ (codes "end architecture;\n" ++ lines_text rest)))) in
    record {
      well = body.0;
      text = ap lines_text title ∙ ap (λ (t : List ℕ). codes "-- tydi-bench 1\n" ++ t) (heads.text ∙ ap (λ (t : List ℕ). flat_map stream_comment found.0 ++ t) body.2) ∙ ap all (sym body.1)
          ∙ ap (λ (t : List ℕ). codes "-- tydi-bench 1\n" ++ t) (regroup (flat_map stream_comment bench.heads) (frame_text bench.heads) (flat_map (process_text bench.heads) bench.procs) (lines_text rest));
    }

whole-some : (end : ℕ) (cut_off : List ℕ) (outcome : Outcome Refusal (List ℕ) Bench) (bench : Bench) → whole end cut_off outcome ≡ Ok bench → (outcome ≡ took bench []) × (cut_off ≡ [])
whole-some end cut_off (stopped fault lines) bench e = absurd cc
whole-some end cut_off (took found (line ∷ lines)) bench e = absurd cc
whole-some end cut_off (took found []) bench e = by_test cut_off (length cut_off == 0) refl e
  where
    by_test : (text : List ℕ) (test : Bool) → (length text == 0) ≡ test → cond {A = Result Bench VhdlFault} test (Ok found) (Err (faults.NotForm end)) ≡ Ok bench → (◌≡◌ {A = Outcome Refusal (List ℕ) Bench} (took found []) (took bench [])) × (text ≡ [])
    by_test text false is e = absurd cc
    by_test [] true is e = (ap (λ (b : Bench). took b []) (ok_is found bench e), refl)
    by_test (byte ∷ text) true is e = absurd (grind (arith, nat_tests))

bench_in-some : (text : List ℕ) (found : Option Cut) (bench : Bench) → cut_last 10 text ≡ found → bench_in found ≡ Ok bench → (IsWellFormed bench) × (text ≡ bench_text bench)
bench_in-some text None bench is e = absurd cc
bench_in-some text (Some cut) bench is e =
    let whole_is = whole-some (length cut.front + 1) cut.back (bench_from (pieces_of 10 cut.front)) bench e in
    let read = bench_from-some (pieces_of 10 cut.front) bench [] whole_is.0 in
    let lines : text ≡ lines_text (pieces_of 10 cut.front) = cut_last-some 10 text cut is ∙ ap (λ (b : List ℕ). cut.front ++ 10 ∷ b) whole_is.1 ∙ sym (pieces-text cut.front) in
    (read.well, lines ∙ read.text ∙ append-nil (bench_text bench))

pub benches_printed : BenchesArePrintedAsRead
unfolding bench_of
benches_printed text bench e = bench_in-some text (cut_last 10 text) bench refl e
