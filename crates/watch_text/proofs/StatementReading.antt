-- Statements: what is read is spelled so.
use Rattle.std.proofs.Common.{◌≡◌, ℕ, ◌+◌, ◌≤◌, Bool, true, false, not, ◌&&◌, nat_le, cond, List, [], ◌∷◌, ◌++◌, append_assoc, append-nil, replicate, Option, Some, None, Result, Ok, Err, refl, sym, ap, ◌∙◌, codes, arith}
use Rattle.std.specs.Str.{bytes_eq}
use Rattle.std.proofs.lemmas.Bool.Decides.{nat_tests}
use Rattle.std.proofs.lemmas.Slice.Eq.{bytes_eq-Decides}
use Rattle.tydi_base.specs.Pieces.{pieces_of}
use Rattle.tydi_base.proofs.PlainWords.{and_parts}
use Rattle.tydi_base.proofs.ReadingLaws.{ok_is}
use Rattle.tydi_reading.specs.declared.fault.Fault.{Fault}
use Rattle.tydi_reading.specs.declared.fault.Fault.TheVariants as refusals
use Rattle.tydi_reading.specs.Reading.{Outcome, took, and_then, pure}
use Rattle.tydi_reading.proofs.TableLemmas.{entry-word}
use Rattle.physical_stream.specs.declared.head.Head.{Head}
use Rattle.vhdl_text.specs.declared.refusal.Refusal.{Refusal}
use Rattle.vhdl_text.specs.Reading.{lines_text, the_lines}
use Rattle.vhdl_text.proofs.BenchReading.{and_then-some, mark-some, not-true, the_lines-some, took-same}
use Rattle.vhdl_text.proofs.BenchSpelling.{pieces-text}
use Rattle.vhdl_text.proofs.ProcessSpelling.{lines_text-append}
use Rattle.watch_text.specs.declared.forms.Forms.{Forms}
use Rattle.watch_text.specs.declared.opening.Opening.{Opening}
use Rattle.watch_text.specs.declared.opening.Opening.TheVariants as openings
use Rattle.watch_text.specs.declared.stage.Stage.{Stage}
use Rattle.watch_text.specs.declared.stage.Stage.TheVariants as stages
use Rattle.watch_text.specs.Reading.{Opened, Progress, Next, a_line, after, after_line, all_openings, allows, around_inside, at, begins, by_place, closes, end_of, ends, forms_of, goes_on, indent_of, inside, is_free, is_need, is_none_of, is_outside, made, no_progress, opening_of, opening_text, process_of, statements_from, then_comes, wait_text, where_line, with_need, with_opening, without_front}
use Rattle.watch_text.specs.Statements.{Statement, Statements, no_statements, statements_of}
use Rattle.watch_text.specs.Text.{fault_line, line, process_back, process_front, process_text, statement_text, statements_text}
use Rattle.watch_text.specs.WellFormed.{Around, AreStatements, IsSome, IsStatement, around_process}
use Rattle.watch_text.proofs.LineParts.{without_front-some}
use Rattle.watch_text.proofs.StatementSpelling.{indent-inside, room-inside}

-- ---- lines

-- a line so far to the right
pub line-at : (indent : ℕ) (text : List ℕ) → at indent text ++ 10 ∷ [] ≡ line indent text
line-at indent text = append_assoc (replicate indent 32) text (10 ∷ [])

-- ---- one statement more

module _ (count : ℕ) (around : Around) where
  AreStatements-last : (some : List Statement) (last : Statement) → AreStatements count around (statements_of some) → IsStatement count around last → AreStatements count around (statements_of (some ++ last ∷ []))
  AreStatements-last [] last are is = (is, tt)
  AreStatements-last (first ∷ more) last are is = (are.0, AreStatements-last more last are.1 is)

text-last : (head : Head) (indent : ℕ) (some : List Statement) (last : Statement) → statements_text head indent (statements_of (some ++ last ∷ [])) ≡ statements_text head indent (statements_of some) ++ statement_text head indent last
text-last head indent [] last = append-nil (statement_text head indent last)
text-last head indent (first ∷ more) last =
    ap (λ (t : List ℕ). statement_text head indent first ++ t) (text-last head indent more last)
    ∙ sym (append_assoc (statement_text head indent first) (statements_text head indent (statements_of more)) (statement_text head indent last))

some-of : (some : List Statement) → is_none_of some ≡ false → IsSome (statements_of some)
some-of [] is = absurd cc
some-of (first ∷ more) is = tt

-- ---- what is read so far

module _ (head : Head) where
  abbrev pub forms : Forms
  forms = forms_of head

  abbrev pub count : ℕ
  count = head.params.dims

  -- the lines of the statements that are begun
  abbrev pub begun_text : List Opened → List ℕ
  begun_text [] = []
  begun_text (inner ∷ begun) = begun_text begun ++ (statements_text head (indent_of inner.around) (statements_of inner.earlier) ++ line (indent_of inner.around) (opening_text forms inner.opening))

  -- the lines of a need that is begun
  abbrev pub stage_text : ℕ → Stage → List ℕ
  stage_text i stages.Free = []
  stage_text i (stages.Counts need) = line i (opening_text forms need)
  stage_text i (stages.Otherwise need) = line i (opening_text forms need) ++ line (i + 2) (codes "place := place + 1;")
  stage_text i (stages.Raises need) = (line i (opening_text forms need) ++ line (i + 2) (codes "place := place + 1;")) ++ line i (codes "else")
  stage_text i (stages.Stops need) = ((line i (opening_text forms need) ++ line (i + 2) (codes "place := place + 1;")) ++ line i (codes "else")) ++ line (i + 2) (fault_line head)
  stage_text i (stages.Ends need) =
      (((line i (opening_text forms need) ++ line (i + 2) (codes "place := place + 1;")) ++ line i (codes "else")) ++ line (i + 2) (fault_line head)) ++ line (i + 2) (codes "wait;")

  -- the lines so far
  abbrev pub passed : Progress → List ℕ
  passed now = begun_text now.begun ++ (statements_text head (indent_of now.around) (statements_of now.earlier) ++ stage_text (indent_of now.around) now.stage)

  -- a need that may stand there
  abbrev pub MayNeed : Around → Opening → Type 0
  MayNeed around need = (allows count around need ≡ true) × (is_need need ≡ true)

  abbrev pub StandsAt : Around → Stage → Type 0
  StandsAt around stages.Free = Unit {0}
  StandsAt around (stages.Counts need) = MayNeed around need
  StandsAt around (stages.Otherwise need) = MayNeed around need
  StandsAt around (stages.Raises need) = MayNeed around need
  StandsAt around (stages.Stops need) = MayNeed around need
  StandsAt around (stages.Ends need) = MayNeed around need

  -- a statement that is begun may stand where it does, and this stands around those inside it
  pub record MayHold (around : Around) (inner : Opened) : Type 0 where
    pub is : around ≡ around_inside inner.around inner.opening
    pub may : allows count inner.around inner.opening ≡ true
    pub holds : is_need inner.opening ≡ false
    pub are : AreStatements count inner.around (statements_of inner.earlier)

  abbrev pub AreBegun : Around → List Opened → Type 0
  AreBegun around [] = around ≡ around_process
  AreBegun around (inner ∷ begun) = MayHold around inner × AreBegun inner.around begun

  -- the facts of all that is read
  pub record Holds (now : Progress) : Type 0 where
    pub are : AreStatements count now.around (statements_of now.earlier)
    pub begun : AreBegun now.around now.begun
    pub stands : StandsAt now.around now.stage

  -- after a line
  pub record Went (now : Progress) (spelled : List ℕ) (next : Progress) : Type 0 where
    pub holds : Holds next
    pub text : passed next ≡ passed now ++ (spelled ++ 10 ∷ [])

  room-few : (around : Around) (begun : List Opened) → AreBegun around begun → around.room ≤ 7
  room-few around [] are = let room = ap (λ (a : Around). a.room) are in omega (arith, room)
  room-few around (inner ∷ begun) are =
      let outer = room-inside inner.around inner.opening (room-few inner.around begun are.1) in
      let room = ap (λ (a : Around). a.room) are.0.is in
      omega (arith, room, outer)

  -- ---- a statement begins

  opening_of-some : (text : List ℕ) (opening : Opening) → opening_of forms text ≡ Some opening → text ≡ opening_text forms opening
  unfolding opening_of
  opening_of-some text opening e = entry-word (opening_text forms) all_openings text opening e

  add-line : (b s l t : List ℕ) → l ≡ t → b ++ (s ++ l) ≡ (b ++ (s ++ [])) ++ t
  add-line b s l t same = ap (λ (x : List ℕ). b ++ (s ++ x)) same ∙ sym (append_assoc b s t) ∙ ap (λ (x : List ℕ). (b ++ x) ++ t) (sym (append-nil s))

  went-begins : (around : Around) (earlier : List Statement) (begun : List Opened) (opening : Opening) (text : List ℕ) (next : Progress) → Holds (record { stage = stages.Free; around = around; earlier = earlier; begun = begun })
      → text ≡ at (indent_of around) (opening_text forms opening) → begins count (record { stage = stages.Free; around = around; earlier = earlier; begun = begun }) opening ≡ Ok next
      → Went (record { stage = stages.Free; around = around; earlier = earlier; begun = begun }) text next
  went-begins around earlier begun opening text next holds is e = by_may (allows count around opening) refl e
    where
      now : Progress
      now = record { stage = stages.Free; around = around; earlier = earlier; begun = begun }

      same : line (indent_of around) (opening_text forms opening) ≡ text ++ 10 ∷ []
      same = sym (line-at (indent_of around) (opening_text forms opening)) ∙ ap (λ (t : List ℕ). t ++ 10 ∷ []) (sym is)

      stmts : List ℕ
      stmts = statements_text head (indent_of around) (statements_of earlier)

      by_need : allows count around opening ≡ true → (need : Bool) → is_need opening ≡ need → ◌≡◌ {A = Result Progress (Fault Refusal)} (Ok (cond need (then_comes now (stages.Counts opening)) (inside now opening))) (Ok next) → Went now text next
      by_need may true need e =
          let step = ok_is {A = Progress} {F = Fault Refusal} (then_comes now (stages.Counts opening)) next e in
          rw (← step) (record {
            holds = record { are = holds.are; begun = holds.begun; stands = (may, need) };
            text = add-line (begun_text begun) stmts (line (indent_of around) (opening_text forms opening)) (text ++ 10 ∷ []) same;
          })
      by_need may false need e =
          let step = ok_is {A = Progress} {F = Fault Refusal} (inside now opening) next e in
          rw (← step) (record {
            holds = record { are = tt; begun = (record { is = refl; may = may; holds = need; are = holds.are }, holds.begun); stands = tt };
            text = append-nil (begun_text begun ++ (stmts ++ line (indent_of around) (opening_text forms opening)))
                ∙ add-line (begun_text begun) stmts (line (indent_of around) (opening_text forms opening)) (text ++ 10 ∷ []) same;
          })

      by_may : (may : Bool) → allows count around opening ≡ may → cond {A = Result Progress (Fault Refusal)} may (Ok (cond (is_need opening) (then_comes now (stages.Counts opening)) (inside now opening))) (Err refusals.Refused) ≡ Ok next → Went now text next
      by_may false may e = absurd cc
      by_may true may e = by_need may (is_need opening) refl e

  -- ---- a statement ends

  -- the lines of a statement around those inside it
  block-text : (indent : ℕ) (opening : Opening) (body : Statements) → is_need opening ≡ false
      → statement_text head indent (made opening body) ≡ line indent (opening_text forms opening) ++ (statements_text head (indent + 2) body ++ line indent (end_of opening))
  unfolding forms_of
  block-text indent openings.Lanes body holds = refl
  block-text indent openings.Dims body holds = refl
  block-text indent openings.IfActive body holds = refl
  block-text indent openings.IfLast body holds = refl
  block-text indent openings.NeedElem body holds = absurd cc
  block-text indent openings.NeedClose body holds = absurd cc

  has-room : (around : Around) (opening : Opening) → allows count around opening ≡ true → is_need opening ≡ false → 1 ≤ around.room
  has-room around openings.Lanes may holds = let parts = and_parts (not around.in_lanes) (nat_le 1 around.room) may in grind (arith, nat_tests, parts.1)
  has-room around openings.Dims may holds =
      let parts = and_parts (not around.in_dims) (nat_le 1 count && nat_le 1 around.room) may in
      let room = and_parts (nat_le 1 count) (nat_le 1 around.room) parts.1 in
      grind (arith, nat_tests, room.1)
  has-room around openings.IfActive may holds = let parts = and_parts around.in_lanes (nat_le 1 around.room) may in grind (arith, nat_tests, parts.1)
  has-room around openings.IfLast may holds =
      let parts = and_parts around.in_lanes (around.in_dims && nat_le 1 around.room) may in
      let room = and_parts around.in_dims (nat_le 1 around.room) parts.1 in
      grind (arith, nat_tests, room.1)
  has-room around openings.NeedElem may holds = absurd cc
  has-room around openings.NeedClose may holds = absurd cc

  block-is : (around : Around) (opening : Opening) (body : Statements) → allows count around opening ≡ true → is_need opening ≡ false → IsSome body → AreStatements count (around_inside around opening) body
      → IsStatement count around (made opening body)
  block-is around openings.Lanes body may holds some are =
      let parts = and_parts (not around.in_lanes) (nat_le 1 around.room) may in (not-true around.in_lanes parts.0, (has-room around openings.Lanes may refl, (some, are)))
  block-is around openings.Dims body may holds some are =
      let parts = and_parts (not around.in_dims) (nat_le 1 count && nat_le 1 around.room) may in
      let room = and_parts (nat_le 1 count) (nat_le 1 around.room) parts.1 in
      (not-true around.in_dims parts.0, (grind (arith, nat_tests, room.0), (has-room around openings.Dims may refl, (some, are))))
  block-is around openings.IfActive body may holds some are =
      let parts = and_parts around.in_lanes (nat_le 1 around.room) may in (parts.0, (has-room around openings.IfActive may refl, (some, are)))
  block-is around openings.IfLast body may holds some are =
      let parts = and_parts around.in_lanes (around.in_dims && nat_le 1 around.room) may in
      let room = and_parts around.in_dims (nat_le 1 around.room) parts.1 in
      (parts.0, (room.0, (has-room around openings.IfLast may refl, (some, are))))
  block-is around openings.NeedElem body may holds some are = absurd cc
  block-is around openings.NeedClose body may holds some are = absurd cc

  end-text : (b e o s l : List ℕ) → b ++ (e ++ (o ++ (s ++ l))) ≡ ((b ++ (e ++ o)) ++ (s ++ [])) ++ l
  end-text b e o s l = rw (append-nil s) (simp append_assoc)

  went-closes : (around : Around) (earlier : List Statement) (begun : List Opened) (text : List ℕ) (next : Progress) → Holds (record { stage = stages.Free; around = around; earlier = earlier; begun = begun })
      → closes (record { stage = stages.Free; around = around; earlier = earlier; begun = begun }) text begun ≡ Ok next → Went (record { stage = stages.Free; around = around; earlier = earlier; begun = begun }) text next
  went-closes around earlier [] text next holds e = absurd cc
  went-closes around earlier (inner ∷ begun) text next holds e = by (not (is_none_of earlier) && bytes_eq text (at (indent_of inner.around) (end_of inner.opening))) refl e
    where
      shut : Progress
      shut = record { stage = stages.Free; around = inner.around; earlier = inner.earlier ++ made inner.opening (statements_of earlier) ∷ []; begun = begun }

      by : (test : Bool) → (not (is_none_of earlier) && bytes_eq text (at (indent_of inner.around) (end_of inner.opening))) ≡ test → cond {A = Result Progress (Fault Refusal)} test (Ok shut) (Err refusals.Refused) ≡ Ok next
          → Went (record { stage = stages.Free; around = around; earlier = earlier; begun = inner ∷ begun }) text next
      by false is e = absurd cc
      by true is e =
          let parts = and_parts (not (is_none_of earlier)) (bytes_eq text (at (indent_of inner.around) (end_of inner.opening))) is in
          let spelled = (bytes_eq-Decides text (at (indent_of inner.around) (end_of inner.opening))).0 parts.1 in
          let step = ok_is {A = Progress} {F = Fault Refusal} shut next e in
          let hold = holds.begun.0 in
          let i = indent_of inner.around in
          let body = statements_of earlier in
          let own : AreStatements count (around_inside inner.around inner.opening) body = rw (← hold.is) holds.are in
          let far : indent_of around ≡ i + 2 = ap indent_of hold.is ∙ indent-inside inner.around inner.opening (has-room inner.around inner.opening hold.may hold.holds) (room-few inner.around begun holds.begun.1) in
          let first = line i (opening_text forms inner.opening) in
          let before = statements_text head i (statements_of inner.earlier) in
          let last : line i (end_of inner.opening) ≡ text ++ 10 ∷ [] = sym (line-at i (end_of inner.opening)) ∙ ap (λ (t : List ℕ). t ++ 10 ∷ []) (sym spelled) in
          let block : statement_text head i (made inner.opening body) ≡ first ++ (statements_text head (indent_of around) body ++ (text ++ 10 ∷ [])) =
          block-text i inner.opening body hold.holds ∙ ap (λ (n : ℕ). first ++ (statements_text head n body ++ line i (end_of inner.opening))) (sym far)
          ∙ ap (λ (t : List ℕ). first ++ (statements_text head (indent_of around) body ++ t)) last in
          rw (← step) (record {
            holds = record {
              are = AreStatements-last count inner.around inner.earlier (made inner.opening body) hold.are (block-is inner.around inner.opening body hold.may hold.holds (some-of earlier (not-true (is_none_of earlier) parts.0)) own);
              begun = holds.begun.1;
              stands = tt;
            };
            text = ap (λ (t : List ℕ). begun_text begun ++ t) (append-nil (statements_text head i (statements_of (inner.earlier ++ made inner.opening body ∷ []))) ∙ text-last head i inner.earlier (made inner.opening body) ∙ ap (λ (t : List ℕ). before ++ t) block)
                ∙ end-text (begun_text begun) before first (statements_text head (indent_of around) body) (text ++ 10 ∷ []);
          })

  went-free : (around : Around) (earlier : List Statement) (begun : List Opened) (text : List ℕ) (next : Progress) → Holds (record { stage = stages.Free; around = around; earlier = earlier; begun = begun })
      → after_line forms (record { stage = stages.Free; around = around; earlier = earlier; begun = begun }) text stages.Free ≡ Ok next → Went (record { stage = stages.Free; around = around; earlier = earlier; begun = begun }) text next
  unfolding forms_of
  went-free around earlier begun text next holds e = by_front (without_front (replicate (indent_of around) 32) text) refl e
    where
      now : Progress
      now = record { stage = stages.Free; around = around; earlier = earlier; begun = begun }

      by_opening : (rest : List ℕ) → text ≡ at (indent_of around) rest → (found : Option Opening) → opening_of forms rest ≡ found → with_opening count now found ≡ Ok next → Went now text next
      by_opening rest is None found e = absurd cc
      by_opening rest is (Some opening) found e = went-begins around earlier begun opening text next holds (is ∙ ap (at (indent_of around)) (opening_of-some rest opening found)) e

      by_front : (front : Option (List ℕ)) → without_front (replicate (indent_of around) 32) text ≡ front → by_place forms now text front ≡ Ok next → Went now text next
      by_front None is e = went-closes around earlier begun text next holds e
      by_front (Some rest) is e = by_opening rest (without_front-some (replicate (indent_of around) 32) text rest is) (opening_of forms rest) refl e

  -- ---- the other lines of a need

  where_line-some : (wanted text : List ℕ) (now next : Progress) → where_line wanted text now ≡ Ok next → (text ≡ wanted) × (now ≡ next)
  where_line-some wanted text now next e = by (bytes_eq text wanted) refl e
    where
      by : (test : Bool) → bytes_eq text wanted ≡ test → cond {A = Result Progress (Fault Refusal)} test (Ok now) (Err refusals.Refused) ≡ Ok next → (text ≡ wanted) × (now ≡ next)
      by true is e = ((bytes_eq-Decides text wanted).0 is, ok_is {A = Progress} {F = Fault Refusal} now next e)
      by false is e = absurd cc

  stage-line : (b s st l t : List ℕ) → l ≡ t → b ++ (s ++ (st ++ l)) ≡ (b ++ (s ++ st)) ++ t
  stage-line b s st l t same =
      ap (λ (x : List ℕ). b ++ (s ++ (st ++ x))) same ∙ ap (λ (x : List ℕ). b ++ x) (sym (append_assoc s st t)) ∙ sym (append_assoc b (s ++ st) t)

  need-group : (a b c d e f : List ℕ) → a ++ (b ++ (c ++ (d ++ (e ++ f)))) ≡ ((((a ++ b) ++ c) ++ d) ++ e) ++ f
  need-group a b c d e f = simp append_assoc

  -- the lines of a need
  whole-need : (indent : ℕ) (need : Opening) → is_need need ≡ true → statement_text head indent (made need no_statements) ≡ stage_text indent (stages.Ends need) ++ line indent (codes "end if;")
  unfolding forms_of
  whole-need indent openings.Lanes is = absurd cc
  whole-need indent openings.Dims is = absurd cc
  whole-need indent openings.IfActive is = absurd cc
  whole-need indent openings.IfLast is = absurd cc
  whole-need indent openings.NeedElem is =
      need-group (line indent (opening_text forms openings.NeedElem)) (line (indent + 2) (codes "place := place + 1;")) (line indent (codes "else")) (line (indent + 2) (fault_line head)) (line (indent + 2) (codes "wait;")) (line indent (codes "end if;"))
  whole-need indent openings.NeedClose is =
      need-group (line indent (opening_text forms openings.NeedClose)) (line (indent + 2) (codes "place := place + 1;")) (line indent (codes "else")) (line (indent + 2) (fault_line head)) (line (indent + 2) (codes "wait;")) (line indent (codes "end if;"))

  need-is : (around : Around) (need : Opening) → MayNeed around need → IsStatement count around (made need no_statements)
  need-is around openings.Lanes may = absurd cc
  need-is around openings.Dims may = absurd cc
  need-is around openings.IfActive may = absurd cc
  need-is around openings.IfLast may = absurd cc
  need-is around openings.NeedElem may = may.0
  need-is around openings.NeedClose may = may.0

  module _ (around : Around) (earlier : List Statement) (begun : List Opened) (text : List ℕ) (next : Progress) where
    abbrev now_at : Stage → Progress
    now_at stage = record { stage = stage; around = around; earlier = earlier; begun = begun }

    same-line : (indent : ℕ) (wanted : List ℕ) → text ≡ at indent wanted → line indent wanted ≡ text ++ 10 ∷ []
    same-line indent wanted is = sym (line-at indent wanted) ∙ ap (λ (t : List ℕ). t ++ 10 ∷ []) (sym is)

    -- a line that leads to the next stage
    went-on : (stage later : Stage) (indent : ℕ) (wanted : List ℕ) → Holds (now_at stage) → StandsAt around later → stage_text (indent_of around) later ≡ stage_text (indent_of around) stage ++ line indent wanted
        → where_line (at indent wanted) text (now_at later) ≡ Ok next → Went (now_at stage) text next
    went-on stage later indent wanted holds stands more e =
        let found = where_line-some (at indent wanted) text (now_at later) next e in
        let stmts = statements_text head (indent_of around) (statements_of earlier) in
        rw (← found.1) (record {
          holds = record { are = holds.are; begun = holds.begun; stands = stands };
          text = ap (λ (t : List ℕ). begun_text begun ++ (stmts ++ t)) more
              ∙ stage-line (begun_text begun) stmts (stage_text (indent_of around) stage) (line indent wanted) (text ++ 10 ∷ []) (same-line indent wanted found.0);
        })

    went-ends : (need : Opening) → Holds (now_at (stages.Ends need)) → where_line (at (indent_of around) (codes "end if;")) text (with_need (now_at (stages.Ends need)) need) ≡ Ok next → Went (now_at (stages.Ends need)) text next
    went-ends need holds e =
        let found = where_line-some (at (indent_of around) (codes "end if;")) text (with_need (now_at (stages.Ends need)) need) next e in
        let i = indent_of around in
        let stmts = statements_text head i (statements_of earlier) in
        rw (← found.1) (record {
          holds = record { are = AreStatements-last count around earlier (made need no_statements) holds.are (need-is around need holds.stands); begun = holds.begun; stands = tt };
          text = ap (λ (t : List ℕ). begun_text begun ++ t) (append-nil (statements_text head i (statements_of (earlier ++ made need no_statements ∷ []))) ∙ text-last head i earlier (made need no_statements)
              ∙ ap (λ (t : List ℕ). stmts ++ t) (whole-need i need holds.stands.1))
              ∙ stage-line (begun_text begun) stmts (stage_text i (stages.Ends need)) (line i (codes "end if;")) (text ++ 10 ∷ []) (same-line i (codes "end if;") found.0);
        })

    went-at : (stage : Stage) → Holds (now_at stage) → after_line forms (now_at stage) text stage ≡ Ok next → Went (now_at stage) text next
    unfolding forms_of
    went-at stages.Free holds e = went-free around earlier begun text next holds e
    went-at (stages.Counts need) holds e = went-on (stages.Counts need) (stages.Otherwise need) (indent_of around + 2) (codes "place := place + 1;") holds holds.stands refl e
    went-at (stages.Otherwise need) holds e = went-on (stages.Otherwise need) (stages.Raises need) (indent_of around) (codes "else") holds holds.stands refl e
    went-at (stages.Raises need) holds e = went-on (stages.Raises need) (stages.Stops need) (indent_of around + 2) (fault_line head) holds holds.stands refl e
    went-at (stages.Stops need) holds e = went-on (stages.Stops need) (stages.Ends need) (indent_of around + 2) (codes "wait;") holds holds.stands refl e
    went-at (stages.Ends need) holds e = went-ends need holds e

  went : (now : Progress) (text : List ℕ) (next : Progress) → Holds now → after forms now text ≡ Ok next → Went now text next
  unfolding after
  went now text next holds e = went-at now.around now.earlier now.begun text next now.stage holds e

  -- ---- processes

  -- the statements of a process that was read
  record StatementsRead (now : Progress) (lines : List (List ℕ)) (process : Statements) (rest : List (List ℕ)) : Type 0 where
    are : AreStatements count around_process process
    text : passed now ++ lines_text lines ≡ statements_text head 6 process ++ (codes "    end loop;\n" ++ lines_text rest)

  free-is : (stage : Stage) → is_free stage ≡ true → stage ≡ stages.Free
  free-is stages.Free is = refl
  free-is (stages.Counts need) is = absurd cc
  free-is (stages.Otherwise need) is = absurd cc
  free-is (stages.Raises need) is = absurd cc
  free-is (stages.Stops need) is = absurd cc
  free-is (stages.Ends need) is = absurd cc

  outside-is : (begun : List Opened) → is_outside begun ≡ true → begun ≡ []
  outside-is [] is = refl
  outside-is (inner ∷ begun) is = absurd cc

  last-line : (around : Around) (earlier : List Statement) (stage : Stage) (begun : List Opened) (text : List ℕ) (lines : List (List ℕ)) → Holds (record { stage = stage; around = around; earlier = earlier; begun = begun })
      → stage ≡ stages.Free → begun ≡ [] → text ≡ codes "    end loop;" → StatementsRead (record { stage = stage; around = around; earlier = earlier; begun = begun }) (text ∷ lines) (statements_of earlier) lines
  last-line around earlier stages.Free [] text lines holds free outside is =
      let stmts = statements_text head 6 (statements_of earlier) in
      let at_process : indent_of around ≡ 6 = ap indent_of holds.begun in
      record {
        are = rw (← holds.begun) holds.are;
        text = ap (λ (l : List ℕ). (statements_text head (indent_of around) (statements_of earlier) ++ []) ++ ((l ++ 10 ∷ []) ++ lines_text lines)) is
            ∙ ap (λ (t : List ℕ). t ++ (codes "    end loop;\n" ++ lines_text lines)) (append-nil (statements_text head (indent_of around) (statements_of earlier)))
            ∙ ap (λ (n : ℕ). statements_text head n (statements_of earlier) ++ (codes "    end loop;\n" ++ lines_text lines)) at_process;
      }
  last-line around earlier stages.Free (inner ∷ begun) text lines holds free outside is = absurd cc
  last-line around earlier (stages.Counts need) begun text lines holds free outside is = absurd cc
  last-line around earlier (stages.Otherwise need) begun text lines holds free outside is = absurd cc
  last-line around earlier (stages.Raises need) begun text lines holds free outside is = absurd cc
  last-line around earlier (stages.Stops need) begun text lines holds free outside is = absurd cc
  last-line around earlier (stages.Ends need) begun text lines holds free outside is = absurd cc

  statements-some : (now : Progress) (lines : List (List ℕ)) (process : Statements) (rest : List (List ℕ)) → Holds now → statements_from forms now lines ≡ took process rest → StatementsRead now lines process rest
  statements-some now [] process rest holds e = absurd cc
  statements-some now (text ∷ lines) process rest holds e = by_end (λ next next_holds found. statements-some next lines process rest next_holds found) (ends now text) refl e
    where
      Later : Type 0
      Later = (next : Progress) → Holds next → statements_from forms next lines ≡ took process rest → StatementsRead next lines process rest

      by_next : Later → (found : Next) → after forms now text ≡ found → goes_on (text ∷ lines) (λ next. statements_from forms next lines) found ≡ took process rest → StatementsRead now (text ∷ lines) process rest
      by_next later (Err fault) is e = absurd cc
      by_next later (Ok next) is e =
          let gone = went now text next holds is in
          let read = later next gone.holds e in
          record { are = read.are; text = sym (append_assoc (passed now) (text ++ 10 ∷ []) (lines_text lines)) ∙ ap (λ (t : List ℕ). t ++ lines_text lines) (sym gone.text) ∙ read.text }

      by_end : Later → (test : Bool) → ends now text ≡ test → cond {A = Outcome Refusal (List ℕ) Statements} test (took (statements_of now.earlier) lines) (goes_on (text ∷ lines) (λ next. statements_from forms next lines) (after forms now text)) ≡ took process rest
          → StatementsRead now (text ∷ lines) process rest
      by_end later false is e = by_next later (after forms now text) refl e
      by_end later true is e =
          let same = took-same (statements_of now.earlier) process lines rest e in
          let parts = and_parts (is_free now.stage) (is_outside now.begun && bytes_eq text (codes "    end loop;")) is in
          let more = and_parts (is_outside now.begun) (bytes_eq text (codes "    end loop;")) parts.1 in
          rw (← same.0, ← same.1) (last-line now.around now.earlier now.stage now.begun text lines holds (free-is now.stage parts.0) (outside-is now.begun more.0) ((bytes_eq-Decides text (codes "    end loop;")).0 more.1))

  -- a process that was read
  pub record ProcessRead (lines : List (List ℕ)) (process : Statements) (rest : List (List ℕ)) : Type 0 where
    pub are : AreStatements count around_process process
    pub text : lines_text lines ≡ process_text head process ++ lines_text rest

  process-group : (f s e r : List ℕ) → f ++ (s ++ (e ++ r)) ≡ (f ++ (s ++ e)) ++ r
  process-group f s e r = simp append_assoc

  pub process-some : (lines : List (List ℕ)) (process : Statements) (rest : List (List ℕ)) → process_of forms lines ≡ took process rest → ProcessRead lines process rest
  unfolding process_of forms_of
  process-some lines process rest e =
      let front = pieces_of 10 (wait_text head) in
      let both = and_then-some (and_then (the_lines front lines) (λ _. statements_from forms no_progress)) (λ process. λ ls. and_then (a_line (codes "  end process;") ls) (λ _. pure process)) process rest e in
      let first = and_then-some (the_lines front lines) (λ _. statements_from forms no_progress) both.0 both.1 both.2 in
      let end = and_then-some (a_line (codes "  end process;") both.1) (λ _. pure both.0) process rest both.3 in
      let same = took-same both.0 process end.1 rest end.3 in
      let read = statements-some no_progress first.1 both.0 both.1 (record { are = tt; begun = refl; stands = tt }) first.3 in
      let after : both.1 ≡ codes "  end process;" ∷ rest = mark-some (codes "  end process;") both.1 end.1 end.0 end.2 ∙ ap (λ (l : List (List ℕ)). codes "  end process;" ∷ l) same.1 in
      rw (← same.0) (record {
        are = read.are;
        text = ap lines_text (the_lines-some front lines first.1 first.0 first.2) ∙ lines_text-append front first.1 ∙ ap (λ (t : List ℕ). t ++ lines_text first.1) (pieces-text (wait_text head))
            ∙ ap (λ (t : List ℕ). process_front head ++ t) (read.text ∙ ap (λ (l : List (List ℕ)). statements_text head 6 both.0 ++ (codes "    end loop;\n" ++ lines_text l)) after)
            ∙ process-group (process_front head) (statements_text head 6 both.0) process_back (lines_text rest);
      })
