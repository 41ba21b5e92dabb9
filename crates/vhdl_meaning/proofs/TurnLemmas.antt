-- The turns of the processes at an edge.
use Rattle.std.proofs.Common.{◌≡◌, ◌∙◌, ℕ, zero, suc, ◌+◌, ◌<◌, ◌≤◌, ◌⊎◌, inl, inr, Bool, true, false, cond, ◌==◌, ◌||◌, if◌then◌else◌, List, [], ◌∷◌, ◌++◌, length, map, take, drop, get_or, slice_get, Some, refl, sym, ap, subst, append_assoc, arith}
use Rattle.std.specs.List.{flat_map, count_by}
use Rattle.std.proofs.Math.Path.{fun_ext}
use Rattle.std.proofs.lemmas.List.{append-nil, length-set, get_or-set_same, get_or-set_other, drop_more, take-append-drop}
use Rattle.std.proofs.lemmas.List.Sums.{sum_by-cons, sum_by-append}
use Rattle.std.proofs.lemmas.Bool.{cases_eq, eq-eqb, eqb-true}
use Rattle.tydi_base.proofs.PlaceLemmas.{slice_get-there}
use Rattle.physical_stream.specs.declared.head.Head.{Head}
use Rattle.signal_layout.specs.declared.signal.Signal.{Signal}
use Rattle.vhdl_text.specs.WellFormed.{Assigned, IsPut}
use Rattle.vhdl_text.specs.declared.bench.Stmt.{Stmt}
use Rattle.vhdl_text.specs.declared.bench.Stmt.TheVariants as stmts
use Rattle.vhdl_meaning.specs.declared.lines.Lines.{Lines}
use Rattle.vhdl_meaning.specs.declared.process.Process.{Process}
use Rattle.vhdl_meaning.specs.Meaning.{Values, Standing, IsOrder, words_for, last_of, assigned_by, waits_at, resumed, in_order, current, after_edge}
use Rattle.vhdl_meaning.specs.Place.{with_edges, left_of}
use Rattle.vhdl_meaning.specs.Held.{LinesFit, LinesHave}
use Rattle.vhdl_meaning.specs.Sound.{ArePutsSound}
use Rattle.vhdl_meaning.specs.Standing.{StandsAt}
use Rattle.vhdl_meaning.specs.Turns.{lefts, at_start, ArePlaces, among, Turned, Turns, CanTurn, HasTurned}
use Rattle.vhdl_meaning.proofs.ProcessLemmas.{words_for-append, last_of-append, get-map, or-left, or-right}
use Rattle.vhdl_meaning.proofs.HeldLemmas.{ArePuts, all-fit, all-have}

-- ---- statements

-- each assignment among these statements can be made to its stream
abbrev pub AreAssignable : List Head → List Stmt → Type 0
AreAssignable heads left = (index stream : ℕ) (signal : Signal) (bits : List Bool) → slice_get left index ≡ Some (stmts.Put stream signal bits) → IsPut heads stream signal bits

pub assignable-sound : (heads : List Head) (procs : List (List Stmt)) (number : ℕ) → ArePutsSound heads procs → AreAssignable heads (get_or procs number [])
assignable-sound heads procs number sound index stream signal bits is =
    let there = slice_get-there heads stream (sound.within number index stream signal bits is) in
    let takes = sound.takes number index stream signal bits there.0 is there.1 in
    record { head = there.0; stands = there.1; driven = takes.driven; present = takes.present; width = takes.width }

assignable-drop : (heads : List Head) (program : List Stmt) (place : ℕ) → AreAssignable heads program → AreAssignable heads (drop place program)
assignable-drop heads program zero all = all
assignable-drop heads [] (suc place) all = all
assignable-drop heads (stmt ∷ program) (suc place) all = assignable-drop heads program place (λ index. all (suc index))

pub puts-ahead : (heads : List Head) (left : List Stmt) → AreAssignable heads left → ArePuts heads (assigned_by left)
puts-ahead heads [] all = tt
puts-ahead heads (stmts.Put stream signal bits ∷ more) all = (all 0 stream signal bits refl, puts-ahead heads more (λ index. all (suc index)))
puts-ahead heads (stmts.Pause edges ∷ more) all = tt
puts-ahead heads (stmts.Await stream ∷ more) all = tt
puts-ahead heads (stmts.Stop ∷ more) all = tt

puts-with : (heads : List Head) (ready : List Bool) (edges : ℕ) (left : List Stmt) → AreAssignable heads left → ArePuts heads (assigned_by (resumed ready (with_edges edges left)))
puts-with heads ready edges [] all = tt
puts-with heads ready edges (stmts.Put stream signal bits ∷ more) all = (all 0 stream signal bits refl, puts-ahead heads more (λ index. all (suc index)))
puts-with heads ready zero (stmts.Pause n ∷ more) all = puts-ahead heads more (λ index. all (suc index))
puts-with heads ready (suc zero) (stmts.Pause n ∷ more) all = puts-ahead heads more (λ index. all (suc index))
puts-with heads ready (suc (suc edges)) (stmts.Pause n ∷ more) all = tt
puts-with heads ready edges (stmts.Await stream ∷ more) all = by_bit (get_or ready stream false)
  where
    by_bit : (bit : Bool) → ArePuts heads (assigned_by (if bit then more else stmts.Await stream ∷ more))
    by_bit true = puts-ahead heads more (λ index. all (suc index))
    by_bit false = tt
puts-with heads ready edges (stmts.Stop ∷ more) all = tt

-- ---- the statements that are left, process by process

get-lefts : (programs : List (List Stmt)) (places : List Process) (number : ℕ) → number < length places → length places ≡ length programs →
    get_or (lefts programs places) number [] ≡ left_of (get_or programs number []) (get_or places number at_start)
get-lefts [] [] number less same = absurd (omega (arith, less))
get-lefts [] (place ∷ places) number less same = cc
get-lefts (program ∷ programs) [] number less same = absurd (omega (arith, less))
get-lefts (program ∷ programs) (place ∷ places) zero less same = refl
get-lefts (program ∷ programs) (place ∷ places) (suc number) less same = get-lefts programs places number (omega (arith, less)) (omega (arith, same))

lefts-turned : (programs : List (List Stmt)) (ready : List Bool) (old new : List Process) → length old ≡ length programs → length new ≡ length programs →
    ((number : ℕ) → number < length old → Turned (get_or programs number []) ready (get_or old number at_start) (get_or new number at_start)) →
    lefts programs new ≡ map waits_at (map (resumed ready) (lefts programs old))
lefts-turned [] ready old new same1 same2 turned = refl
lefts-turned (program ∷ programs) ready [] new same1 same2 turned = cc
lefts-turned (program ∷ programs) ready (was ∷ old) [] same1 same2 turned = cc
lefts-turned (program ∷ programs) ready (was ∷ old) (is ∷ new) same1 same2 turned =
    let first = turned 0 (omega arith) in
    ap (λ l. l ∷ lefts programs new) first.left
    ∙ ap (λ l. waits_at (resumed ready (left_of program was)) ∷ l) (lefts-turned programs ready old new (omega (arith, same1)) (omega (arith, same2)) (λ number less. turned (suc number) (omega (arith, less))))

-- ---- orders

pub among-more : (number one : ℕ) (done : List ℕ) → among number (done ++ one ∷ []) ≡ (among number done || (one == number || false))
among-more number one [] = refl
among-more number one (x ∷ done) = by_test (among-more number one done) (x == number)
  where
    by_test : among number (done ++ one ∷ []) ≡ (among number done || (one == number || false)) → (test : Bool) → (test || among number (done ++ one ∷ [])) ≡ (test || among number done || (one == number || false))
    by_test so true = refl
    by_test so false = so

pub count-none : (number : ℕ) (order : List ℕ) → among number order ≡ false → count_by (λ at. at == number) order ≡ 0
count-none number [] none = refl
count-none number (x ∷ order) none =
    let here : (x == number) ≡ false = or-left (x == number) (among number order) none in
    let rest = count-none number order (or-right (x == number) (among number order) none) in
    sum_by-cons (λ at. cond (at == number) 1 0) x order ∙ ap (λ (b : Bool). cond b 1 0 + count_by (λ at. at == number) order) here ∙ omega (arith, rest)

pub none-count : (number : ℕ) (order : List ℕ) → count_by (λ at. at == number) order ≡ 0 → among number order ≡ false
none-count number [] none = refl
none-count number (x ∷ order) none = by_test (x == number) refl (sym (sum_by-cons (λ at. cond (at == number) 1 0) x order) ∙ none) (none-count number order)
  where
    by_test : (test : Bool) → (x == number) ≡ test → cond test 1 0 + count_by (λ at. at == number) order ≡ 0 → (count_by (λ at. at == number) order ≡ 0 → among number order ≡ false) →
        (test || among number order) ≡ false
    by_test true is c so = absurd (omega (arith, c))
    by_test false is c so = so (omega (arith, c))

pub has-all : (count number : ℕ) (order : List ℕ) → IsOrder count order → number < count → among number order ≡ true
has-all count number order whole less = by_test (among number order) refl
  where
    by_test : (test : Bool) → among number order ≡ test → test ≡ true
    by_test true is = refl
    by_test false is = let c = whole.once number less in let n = count-none number order is in absurd (omega (arith, c, n))

pub not-yet : (count index : ℕ) (order : List ℕ) → IsOrder count order → index < length order → among (get_or order index 0) (take index order) ≡ false
not-yet count index order whole less =
    let x : ℕ = get_or order index 0 in
    let c = whole.once x (whole.within index 0 less) in
    let split : take index order ++ x ∷ drop (index + 1) order ≡ order = ap (λ l. take index order ++ l) (sym (drop_more order index 0 less)) ∙ take-append-drop index order in
    let sum : count_by (λ at. at == x) order ≡ count_by (λ at. at == x) (take index order) + count_by (λ at. at == x) (x ∷ drop (index + 1) order) =
    ap (count_by (λ at. at == x)) (sym split) ∙ sum_by-append (λ at. cond (at == x) 1 0) (take index order) (x ∷ drop (index + 1) order) in
    let one : count_by (λ at. at == x) (x ∷ drop (index + 1) order) ≡ 1 + count_by (λ at. at == x) (drop (index + 1) order) =
    sum_by-cons (λ at. cond (at == x) 1 0) x (drop (index + 1) order) ∙ ap (λ (b : Bool). cond b 1 0 + count_by (λ at. at == x) (drop (index + 1) order)) (eq-eqb x x refl) in
    none-count x (take index order) (omega (arith, c, sum, one))

not-same : (a b : ℕ) → (a ≡ b → ⊥) → (a == b || false) ≡ false
not-same a b apart = by_test (a == b) (eqb-true a b)
  where
    by_test : (test : Bool) → (test ≡ true → a ≡ b) → (test || false) ≡ false
    by_test true so = absurd (apart (so refl))
    by_test false so = refl

left-true : (a b : Bool) → b ≡ false → (a || b) ≡ true → a ≡ true
left-true true b none is = refl
left-true false b none is = absurd (let e : true ≡ false = sym is ∙ none in cc)

-- ---- the values after one turn more

pub values-more : (xs ys : List Assigned) (values : Values) → current (xs ++ ys) values ≡ current ys (current xs values)
values-more xs ys values = fun_ext (λ stream. fun_ext (λ signal.
    ap (last_of (values stream signal)) (words_for-append stream signal xs ys) ∙ last_of-append (values stream signal) (words_for stream signal xs) (words_for stream signal ys)))

flat-more : (procs : List (List Stmt)) (done : List ℕ) (number : ℕ) →
    flat_map assigned_by (in_order (done ++ number ∷ []) procs) ≡ flat_map assigned_by (in_order done procs) ++ assigned_by (get_or procs number [])
flat-more procs [] number = append-nil (assigned_by (get_or procs number []))
flat-more procs (x ∷ done) number =
    ap (λ l. assigned_by (get_or procs x []) ++ l) (flat-more procs done number)
    ∙ sym (append_assoc (assigned_by (get_or procs x [])) (flat_map assigned_by (in_order done procs)) (assigned_by (get_or procs number [])))

module _ (heads : List Head) (programs : List (List Stmt)) (sound : ArePutsSound heads programs) (ready : List Bool) (old : List Process) (are : ArePlaces programs old) (before : List Lines) where
  -- the processes at the edge, those whose wait is met behind it
  abbrev going : List (List Stmt)
  going = map (resumed ready) (lefts programs old)

  -- the statements of a process that stands here
  abbrev ahead : ℕ → Process → List Stmt
  ahead number place = resumed ready (left_of (get_or programs number []) place)

  pub turns-none : LinesFit heads before → Turns heads programs ready [] old old before before
  turns-none fit = record { count = refl; waiting = λ number is. refl; turned = λ number is less. absurd (let e : false ≡ true = is in cc); fit = fit; values = λ now have. have }

  puts-of : (number : ℕ) (place : Process) → ArePuts heads (assigned_by (ahead number place))
  puts-of number place = puts-with heads ready place.edges (drop place.place (get_or programs number [])) (assignable-drop heads (get_or programs number []) place.place (assignable-sound heads programs number sound))

  pub turns-can : (done : List ℕ) (new : List Process) (lines : List Lines) (number : ℕ) → Turns heads programs ready done old new before lines →
      among number done ≡ false → number < length programs → CanTurn programs new number ready lines
  turns-can done new lines number t yet less =
      let same = are.count in
      let w = are.within number (omega (arith, same, less)) in
      let c = t.count in
      record {
        program = less;
        place = omega (arith, c, same, less);
        within = subst (λ (x : Process). x.place ≤ length (get_or programs number [])) (sym (t.waiting number yet)) w;
        puts = (all-fit heads (assigned_by (ahead number (get_or new number at_start))) lines sound.narrow (puts-of number (get_or new number at_start)) t.fit).0;
      }

  pub turns-more : (done : List ℕ) (new next : List Process) (lines after : List Lines) (number : ℕ) → Turns heads programs ready done old new before lines →
      HasTurned programs new next number ready lines after → among number done ≡ false → number < length programs →
      Turns heads programs ready (done ++ number ∷ []) old next before after
  turns-more done new next lines after number t h yet less = record {
    count = ap length h.places ∙ length-set new number h.is ∙ t.count;
    waiting = waits;
    turned = turns;
    fit = subst (LinesFit heads) (sym h.lines) (all-fit heads (assigned_by (ahead number here)) lines sound.narrow (puts-of number here) t.fit).1;
    values = λ now have. subst (λ v. LinesHave heads after v) (sym (values-are now)) (subst (λ l. LinesHave heads l (current (assigned_by (ahead number here)) (current (flat_map assigned_by (in_order done going)) now))) (sym h.lines)
        (all-have heads (assigned_by (ahead number here)) lines (current (flat_map assigned_by (in_order done going)) now) sound.narrow (puts-of number here) t.fit (t.values now have)));
  }
    where
      here : Process
      here = get_or new number at_start

      in-new : number < length new
      in-new = let c = t.count in let same = are.count in omega (arith, c, same, less)

      own : get_or going number [] ≡ ahead number here
      own = get-map (resumed ready) (lefts programs old) number refl
          ∙ ap (resumed ready) (get-lefts programs old number (let same = are.count in omega (arith, same, less)) are.count ∙ ap (left_of (get_or programs number [])) (sym (t.waiting number yet)))

      values-are : (now : Values) → current (flat_map assigned_by (in_order (done ++ number ∷ []) going)) now ≡ current (assigned_by (ahead number here)) (current (flat_map assigned_by (in_order done going)) now)
      values-are now = ap (λ l. current l now) (flat-more going done number ∙ ap (λ l. flat_map assigned_by (in_order done going) ++ assigned_by l) own)
          ∙ values-more (flat_map assigned_by (in_order done going)) (assigned_by (ahead number here)) now

      other : (k : ℕ) → (k ≡ number → ⊥) → get_or next k at_start ≡ get_or new k at_start
      other k no-match = ap (λ l. get_or l k at_start) h.places ∙ get_or-set_other new number k h.is at_start no-match

      waits : (k : ℕ) → among k (done ++ number ∷ []) ≡ false → get_or next k at_start ≡ get_or old k at_start
      waits k is =
          let both : (among k done || (number == k || false)) ≡ false = sym (among-more k number done) ∙ is in
          let first = or-left (among k done) (number == k || false) both in
          let second = or-left (number == k) false (or-right (among k done) (number == k || false) both) in
          other k (λ e. let s = eq-eqb number k (sym e) in let f : true ≡ false = sym s ∙ second in cc) ∙ t.waiting k first

      turns : (k : ℕ) → among k (done ++ number ∷ []) ≡ true → k < length old → Turned (get_or programs k []) ready (get_or old k at_start) (get_or next k at_start)
      turns k is within = by_place (cases_eq k number)
        where
          by_place : (k ≡ number) ⊎ (k ≡ number → ⊥) → Turned (get_or programs k []) ready (get_or old k at_start) (get_or next k at_start)
          by_place (inl e) =
              let got : get_or next number at_start ≡ h.is = ap (λ l. get_or l number at_start) h.places ∙ get_or-set_same new number h.is at_start in-new in
              subst (λ n. Turned (get_or programs n []) ready (get_or old n at_start) (get_or next n at_start)) (sym e)
              (subst (λ x. Turned (get_or programs number []) ready (get_or old number at_start) x) (sym got)
              (subst (λ x. Turned (get_or programs number []) ready x h.is) (t.waiting number yet) h.turned))
          by_place (inr apart) =
              let away : (number == k || false) ≡ false = not-same number k (λ e. apart (sym e)) in
              let had : among k done ≡ true = left-true (among k done) (number == k || false) away (sym (among-more k number done) ∙ is) in
              subst (λ x. Turned (get_or programs k []) ready (get_or old k at_start) x) (sym (other k apart)) (t.turned k had within)

  -- the turn of each process of an order
  each-turned : (order : List ℕ) (new : List Process) (after : List Lines) → IsOrder (length programs) order → Turns heads programs ready order old new before after →
      (number : ℕ) → number < length old → Turned (get_or programs number []) ready (get_or old number at_start) (get_or new number at_start)
  each-turned order new after once t number less =
      let same = are.count in
      t.turned number (has-all (length programs) number order once (omega (arith, same, less))) less

  pub turns-places : (order : List ℕ) (new : List Process) (after : List Lines) → IsOrder (length programs) order → Turns heads programs ready order old new before after → ArePlaces programs new
  turns-places order new after once t =
      let c = t.count in
      record { count = t.count ∙ are.count; within = λ number less. (each-turned order new after once t number (omega (arith, c, less))).within }

  -- after all turns the processes and the signals are as the bench is one edge on
  pub turns-stand : (now : Standing) (order : List ℕ) (new : List Process) (after : List Lines) → IsOrder (length programs) order → Turns heads programs ready order old new before after →
      StandsAt heads programs old before now → StandsAt heads programs new after (after_edge (record { ready = ready; order = order }) now)
  turns-stand now order new after once t s = record {
    procs = lefts-turned programs ready old new are.count (t.count ∙ are.count) (each-turned order new after once t) ∙ ap (λ l. map waits_at (map (resumed ready) l)) s.procs;
    values = subst (λ l. LinesHave heads after (current (flat_map assigned_by (in_order order (map (resumed ready) l))) now.values)) s.procs (t.values now.values s.values);
  }
