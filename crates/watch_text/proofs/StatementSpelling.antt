-- Statements: what is spelled is read.
use Rattle.std.proofs.Common.{◌≡◌, ℕ, zero, suc, ◌+◌, ◌-◌, ◌*◌, ◌≤◌, Bool, true, false, ◌&&◌, nat_le, cond, List, [], ◌∷◌, ◌++◌, append_assoc, append-nil, drop, replicate, slice_index, None, Ok, refl, sym, ap, ◌∙◌, codes, arith}
use Rattle.std.specs.Str.{bytes_eq}
use Rattle.std.proofs.lemmas.Bool.Decides.{nat_tests}
use Rattle.tydi_base.specs.Pieces.{pieces_of}
use Rattle.tydi_reading.specs.Reading.{took}
use Rattle.physical_stream.specs.declared.head.Head.{Head}
use Rattle.vhdl_text.proofs.BenchSpelling.{the_lines-given}
use Rattle.watch_text.specs.declared.forms.Forms.{Forms}
use Rattle.watch_text.specs.declared.opening.Opening.{Opening}
use Rattle.watch_text.specs.declared.opening.Opening.TheVariants as openings
use Rattle.watch_text.specs.declared.stage.Stage.{Stage}
use Rattle.watch_text.specs.declared.stage.Stage.TheVariants as stages
use Rattle.watch_text.specs.Reading.{Opened, Progress, after, allows, around_inside, at, end_of, ends, forms_of, indent_of, inside, is_need, is_none_of, is_outside, made, no_progress, opening_text, process_of, statements_from, then_comes, wait_text, where_line, with_need, without_front}
use Rattle.watch_text.specs.Statements.{Statement, Statements, dims, if_active, if_last, lanes, need_close, need_elem, no_statements, statement, statements_of}
use Rattle.watch_text.specs.WellFormed.{Around, AreStatements, IsSome, IsStatement, around_process, in_dim_loop, in_lane_loop, in_test}
use Rattle.watch_text.proofs.LineParts.{same-text, without_front-append, without_front-none}
use Rattle.watch_text.proofs.OpeningLemmas.{differ-at, opening_of-own}
use Rattle.watch_text.proofs.TableSpelling.{a_line-given}

-- ---- lists of statements

abbrev pub list_of : Statements → List Statement
list_of no_statements = []
list_of (statement first more) = first ∷ list_of more

pub statements_of-list : (some : Statements) → statements_of (list_of some) ≡ some
statements_of-list no_statements = refl
statements_of-list (statement first more) = ap (statement first) (statements_of-list more)

some-list : (some : Statements) → IsSome some → is_none_of (list_of some) ≡ false
some-list no_statements is = absurd is
some-list (statement first more) is = refl

-- ---- lines

-- the lines of a statement around those inside it
abbrev pub block_lines : Forms → ℕ → Opening → List (List ℕ) → List (List ℕ)
block_lines forms indent opening body = at indent (opening_text forms opening) ∷ (body ++ at indent (end_of opening) ∷ [])

-- the lines of a need
abbrev pub need_lines : Forms → ℕ → Opening → List (List ℕ)
need_lines forms indent need =
    at indent (opening_text forms need) ∷ at (indent + 2) (codes "place := place + 1;") ∷ at indent (codes "else") ∷ at (indent + 2) forms.fault_line ∷ at (indent + 2) (codes "wait;")
    ∷ at indent (codes "end if;") ∷ []

abbrev mutual
  pub statement_lines : Forms → ℕ → Statement → List (List ℕ)
  statement_lines forms indent (lanes body) = block_lines forms indent openings.Lanes (statements_lines forms (indent + 2) body)
  statement_lines forms indent (dims body) = block_lines forms indent openings.Dims (statements_lines forms (indent + 2) body)
  statement_lines forms indent (if_active body) = block_lines forms indent openings.IfActive (statements_lines forms (indent + 2) body)
  statement_lines forms indent (if_last body) = block_lines forms indent openings.IfLast (statements_lines forms (indent + 2) body)
  statement_lines forms indent need_elem = need_lines forms indent openings.NeedElem
  statement_lines forms indent need_close = need_lines forms indent openings.NeedClose

  pub statements_lines : Forms → ℕ → Statements → List (List ℕ)
  statements_lines forms indent no_statements = []
  statements_lines forms indent (statement first more) = statement_lines forms indent first ++ statements_lines forms indent more

-- ---- where lines stand

pub indent-inside : (around : Around) (opening : Opening) → 1 ≤ around.room → around.room ≤ 7 → indent_of (around_inside around opening) ≡ indent_of around + 2
indent-inside around openings.Lanes some few = omega arith
indent-inside around openings.Dims some few = omega arith
indent-inside around openings.IfActive some few = omega arith
indent-inside around openings.IfLast some few = omega arith
indent-inside around openings.NeedElem some few = omega arith
indent-inside around openings.NeedClose some few = omega arith

pub room-inside : (around : Around) (opening : Opening) → around.room ≤ 7 → (around_inside around opening).room ≤ 7
room-inside around openings.Lanes few = omega arith
room-inside around openings.Dims few = omega arith
room-inside around openings.IfActive few = omega arith
room-inside around openings.IfLast few = omega arith
room-inside around openings.NeedElem few = omega arith
room-inside around openings.NeedClose few = omega arith

-- a line farther to the right than the end of a process is no such end
pub not-end : (around : Around) (text : List ℕ) → around.room ≤ 7 → bytes_eq (at (indent_of around) text) (codes "    end loop;") ≡ false
not-end around text few =
    let far : indent_of around ≡ suc (suc (suc (suc (suc (15 - 2 * around.room))))) = omega (arith, few) in
    ap (λ (n : ℕ). bytes_eq (at n text) (codes "    end loop;")) far ∙ differ-at 4 (at (suc (suc (suc (suc (suc (15 - 2 * around.room)))))) text) (codes "    end loop;") (λ e. omega (arith, e))

-- a line that ends a list stands less far to the right than the list
spaces-clash : (indent : ℕ) (text rest : List ℕ) → at indent (101 ∷ text) ≡ at (suc (suc indent)) rest → ⊥
spaces-clash zero text rest same = let bytes = ap (λ (l : List ℕ). slice_index l 0) same in omega (arith, bytes)
spaces-clash (suc indent) text rest same = spaces-clash indent text rest (ap (λ (l : List ℕ). drop 1 l) same)

end-begins : (opening : Opening) → (text : List ℕ) × (end_of opening ≡ 101 ∷ text)
end-begins openings.Lanes = (codes "nd loop;", refl)
end-begins openings.Dims = (codes "nd loop;", refl)
end-begins openings.IfActive = (codes "nd if;", refl)
end-begins openings.IfLast = (codes "nd if;", refl)
end-begins openings.NeedElem = (codes "nd if;", refl)
end-begins openings.NeedClose = (codes "nd if;", refl)

end-less : (indent more : ℕ) (opening : Opening) → more ≡ indent + 2 → without_front (replicate more 32) (at indent (end_of opening)) ≡ None
end-less indent more opening far =
    let text = end-begins opening in
    let two : more ≡ suc (suc indent) = omega (arith, far) in
    without_front-none (replicate more 32) (at indent (end_of opening)) (λ rest same.
    spaces-clash indent text.0 rest (ap (λ (t : List ℕ). at indent t) (sym text.1) ∙ same ∙ ap (λ (n : ℕ). at n rest) two))

-- ---- steps

opened : (head : Head) (around : Around) (earlier : List Statement) (begun : List Opened) (opening : Opening) → allows head.params.dims around opening ≡ true
    → after (forms_of head) (record { stage = stages.Free; around = around; earlier = earlier; begun = begun }) (at (indent_of around) (opening_text (forms_of head) opening))
    ≡ Ok (cond (is_need opening) (then_comes (record { stage = stages.Free; around = around; earlier = earlier; begun = begun }) (stages.Counts opening)) (inside (record { stage = stages.Free; around = around; earlier = earlier; begun = begun }) opening))
unfolding after forms_of
opened head around earlier begun opening may =
    rw (without_front-append (replicate (indent_of around) 32) (opening_text (forms_of head) opening), opening_of-own head opening, may) refl

shut : (head : Head) (around : Around) (earlier : List Statement) (begun : List Opened) (opening : Opening) (body : Statements) → 1 ≤ around.room → around.room ≤ 7 → IsSome body
    → after (forms_of head) (record { stage = stages.Free; around = around_inside around opening; earlier = list_of body; begun = record { opening = opening; around = around; earlier = earlier } ∷ begun })
    (at (indent_of around) (end_of opening)) ≡ Ok (record { stage = stages.Free; around = around; earlier = earlier ++ made opening body ∷ []; begun = begun })
unfolding after
shut head around earlier begun opening body some few is =
    rw (end-less (indent_of around) (indent_of (around_inside around opening)) opening (indent-inside around opening some few), some-list body is, same-text (at (indent_of around) (end_of opening)), statements_of-list body) refl

module _ (head : Head) where
  abbrev forms : Forms
  forms = forms_of head

  abbrev count : ℕ
  count = head.params.dims

  -- a statement may come next
  abbrev pub free : Around → List Statement → List Opened → Progress
  free around earlier begun = record { stage = stages.Free; around = around; earlier = earlier; begun = begun }

  -- the need whose line comes next
  abbrev needs : Around → List Statement → List Opened → Stage → Progress
  needs around earlier begun stage = record { stage = stage; around = around; earlier = earlier; begun = begun }

  go : (now next : Progress) (text : List ℕ) (rest : List (List ℕ)) → ends now text ≡ false → after forms now text ≡ Ok next → statements_from forms now (text ∷ rest) ≡ statements_from forms next rest
  go now next text rest on step = rw (on, step) refl

  -- the first line of a statement that may stand there
  opens : (around : Around) (earlier : List Statement) (begun : List Opened) (opening : Opening) (rest : List (List ℕ)) → around.room ≤ 7 → allows count around opening ≡ true
      → statements_from forms (free around earlier begun) (at (indent_of around) (opening_text forms opening) ∷ rest)
      ≡ statements_from forms (cond (is_need opening) (then_comes (free around earlier begun) (stages.Counts opening)) (inside (free around earlier begun) opening)) rest
  opens around earlier begun opening rest few may =
      go (free around earlier begun) (cond (is_need opening) (then_comes (free around earlier begun) (stages.Counts opening)) (inside (free around earlier begun) opening)) (at (indent_of around) (opening_text forms opening)) rest (on begun) step
    where
      on : (some : List Opened) → (is_outside some && bytes_eq (at (indent_of around) (opening_text forms opening)) (codes "    end loop;")) ≡ false
      on [] = not-end around (opening_text forms opening) few
      on (inner ∷ more) = refl

      step : after forms (free around earlier begun) (at (indent_of around) (opening_text forms opening)) ≡ Ok (cond (is_need opening) (then_comes (free around earlier begun) (stages.Counts opening)) (inside (free around earlier begun) opening))
      step = opened head around earlier begun opening may

  -- the last line of a statement that holds some
  shuts : (around : Around) (earlier : List Statement) (begun : List Opened) (opening : Opening) (body : Statements) (rest : List (List ℕ)) → 1 ≤ around.room → around.room ≤ 7 → IsSome body
      → statements_from forms (free (around_inside around opening) (list_of body) (record { opening = opening; around = around; earlier = earlier } ∷ begun)) (at (indent_of around) (end_of opening) ∷ rest)
      ≡ statements_from forms (free around (earlier ++ made opening body ∷ []) begun) rest
  shuts around earlier begun opening body rest some few is =
      let now = free (around_inside around opening) (list_of body) (record { opening = opening; around = around; earlier = earlier } ∷ begun) in
      let next = free around (earlier ++ made opening body ∷ []) begun in
      go now next (at (indent_of around) (end_of opening)) rest refl (shut head around earlier begun opening body some few is)

  -- one of the other lines of a need
  passes : (now next : Progress) (text : List ℕ) (rest : List (List ℕ)) → ends now text ≡ false → after forms now text ≡ where_line text text next → statements_from forms now (text ∷ rest) ≡ statements_from forms next rest
  passes now next text rest on step = go now next text rest on (step ∙ rw (same-text text) refl)

  need-spelled : (around : Around) (earlier : List Statement) (begun : List Opened) (need : Opening) (rest : List (List ℕ)) → around.room ≤ 7 → allows count around need ≡ true → is_need need ≡ true
      → statements_from forms (free around earlier begun) (need_lines forms (indent_of around) need ++ rest) ≡ statements_from forms (free around (earlier ++ made need no_statements ∷ []) begun) rest
  unfolding after
  need-spelled around earlier begun need rest few may is =
      let now = λ (stage : Stage). needs around earlier begun stage in
      let i = indent_of around in
      let five = at i (codes "end if;") ∷ rest in
      let four = at (i + 2) (codes "wait;") ∷ five in
      let three = at (i + 2) forms.fault_line ∷ four in
      let two = at i (codes "else") ∷ three in
      let one = at (i + 2) (codes "place := place + 1;") ∷ two in
      opens around earlier begun need one few may ∙ ap (λ (b : Bool). statements_from forms (cond b (now (stages.Counts need)) (inside (free around earlier begun) need)) one) is
      ∙ passes (now (stages.Counts need)) (now (stages.Otherwise need)) (at (i + 2) (codes "place := place + 1;")) two refl refl
      ∙ passes (now (stages.Otherwise need)) (now (stages.Raises need)) (at i (codes "else")) three refl refl
      ∙ passes (now (stages.Raises need)) (now (stages.Stops need)) (at (i + 2) forms.fault_line) four refl refl
      ∙ passes (now (stages.Stops need)) (now (stages.Ends need)) (at (i + 2) (codes "wait;")) five refl refl
      ∙ passes (now (stages.Ends need)) (with_need (now (stages.Ends need)) need) (at i (codes "end if;")) rest refl refl

  -- a statement around others, where those are read
  block-spelled : (around : Around) (earlier : List Statement) (begun : List Opened) (opening : Opening) (body : Statements) (rest : List (List ℕ)) → 1 ≤ around.room → around.room ≤ 7 → allows count around opening ≡ true
      → is_need opening ≡ false → IsSome body
      → ((opened : List Opened) (rest : List (List ℕ)) → statements_from forms (free (around_inside around opening) [] opened) (statements_lines forms (indent_of (around_inside around opening)) body ++ rest)
      ≡ statements_from forms (free (around_inside around opening) (list_of body) opened) rest)
      → statements_from forms (free around earlier begun) (block_lines forms (indent_of around) opening (statements_lines forms (indent_of around + 2) body) ++ rest)
      ≡ statements_from forms (free around (earlier ++ made opening body ∷ []) begun) rest
  block-spelled around earlier begun opening body rest some few may no_need is read =
      let now = free around earlier begun in
      let stack = record { opening = opening; around = around; earlier = earlier } ∷ begun in
      let last = at (indent_of around) (end_of opening) in
      let lines = statements_lines forms (indent_of around + 2) body in
      opens around earlier begun opening ((lines ++ last ∷ []) ++ rest) few may
      ∙ ap (λ (b : Bool). statements_from forms (cond b (then_comes now (stages.Counts opening)) (inside now opening)) ((lines ++ last ∷ []) ++ rest)) no_need
      ∙ ap (statements_from forms (inside now opening)) (append_assoc lines (last ∷ []) rest ∙ ap (λ (n : ℕ). statements_lines forms n body ++ (last ∷ rest)) (sym (indent-inside around opening some few)))
      ∙ read stack (last ∷ rest) ∙ shuts around earlier begun opening body rest some few is

  allowed : (around : Around) (opening : Opening) → 1 ≤ around.room → nat_le 1 around.room ≡ true
  allowed around opening some = grind (arith, nat_tests, some)

  mutual
    pub statement-spelled : (around : Around) (earlier : List Statement) (begun : List Opened) (first : Statement) (rest : List (List ℕ)) → around.room ≤ 7 → IsStatement count around first
        → statements_from forms (free around earlier begun) (statement_lines forms (indent_of around) first ++ rest) ≡ statements_from forms (free around (earlier ++ first ∷ []) begun) rest
    statement-spelled around earlier begun (lanes body) rest few is =
        let some : nat_le 1 around.room ≡ true = grind (arith, nat_tests, is.1.0) in
        let may : allows count around openings.Lanes ≡ true = rw (is.0, some) refl in
        block-spelled around earlier begun openings.Lanes body rest is.1.0 few may refl is.1.1.0
        (λ opened left. statements-spelled (in_lane_loop around) [] opened body left (room-inside around openings.Lanes few) is.1.1.1)
    statement-spelled around earlier begun (dims body) rest few is =
        let some : nat_le 1 around.room ≡ true = grind (arith, nat_tests, is.1.1.0) in
        let has : nat_le 1 count ≡ true = grind (arith, nat_tests, is.1.0) in
        let may : allows count around openings.Dims ≡ true = rw (is.0, has, some) refl in
        block-spelled around earlier begun openings.Dims body rest is.1.1.0 few may refl is.1.1.1.0
        (λ opened left. statements-spelled (in_dim_loop around) [] opened body left (room-inside around openings.Dims few) is.1.1.1.1)
    statement-spelled around earlier begun (if_active body) rest few is =
        let some : nat_le 1 around.room ≡ true = grind (arith, nat_tests, is.1.0) in
        let may : allows count around openings.IfActive ≡ true = rw (is.0, some) refl in
        block-spelled around earlier begun openings.IfActive body rest is.1.0 few may refl is.1.1.0
        (λ opened left. statements-spelled (in_test around) [] opened body left (room-inside around openings.IfActive few) is.1.1.1)
    statement-spelled around earlier begun (if_last body) rest few is =
        let some : nat_le 1 around.room ≡ true = grind (arith, nat_tests, is.1.1.0) in
        let may : allows count around openings.IfLast ≡ true = rw (is.0, is.1.0, some) refl in
        block-spelled around earlier begun openings.IfLast body rest is.1.1.0 few may refl is.1.1.1.0
        (λ opened left. statements-spelled (in_test around) [] opened body left (room-inside around openings.IfLast few) is.1.1.1.1)
    statement-spelled around earlier begun need_elem rest few is = need-spelled around earlier begun openings.NeedElem rest few is refl
    statement-spelled around earlier begun need_close rest few is = need-spelled around earlier begun openings.NeedClose rest few is refl

    pub statements-spelled : (around : Around) (earlier : List Statement) (begun : List Opened) (some : Statements) (rest : List (List ℕ)) → around.room ≤ 7 → AreStatements count around some
        → statements_from forms (free around earlier begun) (statements_lines forms (indent_of around) some ++ rest) ≡ statements_from forms (free around (earlier ++ list_of some) begun) rest
    statements-spelled around earlier begun no_statements rest few are = ap (λ (all : List Statement). statements_from forms (free around all begun) rest) (sym (append-nil earlier))
    statements-spelled around earlier begun (statement first more) rest few are =
        let i = indent_of around in
        ap (statements_from forms (free around earlier begun)) (append_assoc (statement_lines forms i first) (statements_lines forms i more) rest)
        ∙ statement-spelled around earlier begun first (statements_lines forms i more ++ rest) few are.0 ∙ statements-spelled around (earlier ++ first ∷ []) begun more rest few are.1
        ∙ ap (λ (all : List Statement). statements_from forms (free around all begun) rest) (append_assoc earlier (first ∷ []) (list_of more))

  -- ---- processes

  -- the lines of a process
  abbrev pub process_lines : Statements → List (List ℕ)
  process_lines process = pieces_of 10 (wait_text head) ++ (statements_lines forms 6 process ++ (codes "    end loop;" ∷ codes "  end process;" ∷ []))

  pub process-spelled : (process : Statements) (rest : List (List ℕ)) → AreStatements count around_process process → process_of forms (process_lines process ++ rest) ≡ took process rest
  unfolding process_of forms_of
  process-spelled process rest are =
      let front = pieces_of 10 (wait_text head) in
      let lines = statements_lines forms 6 process in
      let back = codes "    end loop;" ∷ codes "  end process;" ∷ rest in
      let flat : (front ++ (lines ++ (codes "    end loop;" ∷ codes "  end process;" ∷ []))) ++ rest ≡ front ++ (lines ++ back) =
      append_assoc front (lines ++ (codes "    end loop;" ∷ codes "  end process;" ∷ [])) rest ∙ ap (λ (l : List (List ℕ)). front ++ l) (append_assoc lines (codes "    end loop;" ∷ codes "  end process;" ∷ []) rest) in
      let read : statements_from forms no_progress (lines ++ back) ≡ took process (codes "  end process;" ∷ rest) =
      statements-spelled around_process [] [] process back (omega arith) are ∙ ap (λ (some : Statements). took some (codes "  end process;" ∷ rest)) (statements_of-list process) in
      ap (process_of forms) flat ∙ rw (the_lines-given front (lines ++ back), read, a_line-given (codes "  end process;") rest) refl
