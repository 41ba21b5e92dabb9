-- The table of drivers, as processes and statements are added.
use Rattle.std.proofs.Common.{◌≡◌, ◌≢◌, ℕ, zero, suc, ◌+◌, ◌*◌, ◌≤◌, ◌<◌, Bool, true, false, ◌&&◌, ◌||◌, ◌==◌, nat_lt, nat_le, List, [], ◌∷◌, ◌++◌, length, length-append, get_or, replicate, slice_set, Some, None, Ok, refl, sym, ap, ◌∙◌, inl, inr, ◌⊎◌, subst, arith}
use Rattle.std.specs.List.{list_any}
use Rattle.std.proofs.Math.Bool.{and-false}
use Rattle.std.proofs.lemmas.Bool.{eqb-true}
use Rattle.std.proofs.lemmas.Bool.Decides.{nat_tests}
use Rattle.std.proofs.lemmas.Grind.{get_or-set_at}
use Rattle.std.proofs.lemmas.List.{get_or-set_other, length-set}
use Rattle.std.proofs.lemmas.Option.{none-some, same_Some, slice_get_within}
use Rattle.std.proofs.lemmas.List.Folds.{list_any-append}
use Rattle.physical_stream.specs.declared.head.Head.{Head}
use Rattle.signal_layout.specs.declared.signal.Signal.{Signal}
use Rattle.signal_layout.specs.declared.signal.Signal.TheVariants as signals
use Rattle.vhdl_text.specs.declared.bench.Stmt.{Stmt}
use Rattle.vhdl_text.specs.declared.bench.Stmt.TheVariants as stmts
use Rattle.vhdl_text.specs.declared.place.Place.{Place}
use Rattle.vhdl_text.specs.Drivers.{AreDrivers, MayDrive, SaysOf, driver_in, put_place}
use Rattle.vhdl_text.specs.Lines.{stmt_of}
use Rattle.vhdl_text.specs.WellFormed.{IsStmt, drives, is_signal, puts, signal_number}
use Rattle.tydi_base.proofs.PlainWords.{and_parts}
use Rattle.vhdl_text.proofs.ProcessReading.{drives-last}
use Rattle.vhdl_text.proofs.StmtLemmas.{is_signal-own, is_signal-same, stmt_of-some}

pub signal_number-below : (signal : Signal) → signal_number signal < 8
signal_number-below signals.Valid = omega arith
signal_number-below signals.Ready = omega arith
signal_number-below signals.Content = omega arith
signal_number-below signals.Last = omega arith
signal_number-below signals.Stai = omega arith
signal_number-below signals.Endi = omega arith
signal_number-below signals.Strb = omega arith
signal_number-below signals.User = omega arith

-- ---- no process

none-said : (stream : ℕ) (signal : Signal) → SaysOf [] [] stream signal 0
none-said stream signal = record { earlier = refl; most = omega arith; now = λ drive. absurd cc; last = λ same. absurd (omega (arith, same)) }

get_or-zeros : (count i : ℕ) → get_or {A = ℕ} (replicate count 0) i 0 ≡ 0
get_or-zeros zero i = refl
get_or-zeros (suc count) zero = refl
get_or-zeros (suc count) (suc i) = get_or-zeros count i

length-zeros : (count : ℕ) → length (replicate {A = ℕ} count 0) ≡ count
length-zeros zero = refl
length-zeros (suc count) = ap suc (length-zeros count)

pub drivers-start : (heads : List Head) (table : List ℕ) → table ≡ replicate (8 * length heads) 0 → AreDrivers heads table [] []
drivers-start heads table is = rw is (record {
  size = length-zeros (8 * length heads);
  says = λ stream signal within. subst (SaysOf [] [] stream signal) (sym (get_or-zeros (8 * length heads) (8 * stream + signal_number signal))) (none-said stream signal);
})

-- ---- a process more

drives-none : (stream : ℕ) (signal : Signal) → drives stream signal [] ≡ false
drives-none stream signal = refl

or-is : (a b c : Bool) → (a ≡ true → c ≡ true) → (b ≡ true → c ≡ true) → (c ≡ true → (a ≡ true) ⊎ (b ≡ true)) → (a || (b || false)) ≡ c
or-is true b c one other back = sym (one refl)
or-is false true c one other back = sym (other refl)
or-is false false true one other back = elim (back refl) [ inl e ↦ absurd cc | inr e ↦ absurd cc ]
or-is false false false one other back = refl

process-said : (procs : List (List Stmt)) (done : List Stmt) (stream : ℕ) (signal : Signal) (driver : ℕ) → SaysOf procs done stream signal driver → SaysOf (procs ++ done ∷ []) [] stream signal driver
process-said procs done stream signal driver says =
    let most = says.most in
    let many : length (procs ++ done ∷ []) ≡ length procs + 1 = length-append procs (done ∷ []) in
    let before = list_any (drives stream signal) procs in
    let within = nat_lt 0 driver && nat_le driver (length procs + 1) in
    record {
      earlier = list_any-append (drives stream signal) procs (done ∷ []) ∙ or-is before (drives stream signal done) within (λ is. was-before is) (λ drive. was-now drive) back ∙ ap (λ n. nat_lt 0 driver && nat_le driver n) (sym many);
      most = omega (arith, most, many);
      now = λ drive. absurd cc;
      last = λ same. absurd (omega (arith, same, many, most));
    }
  where
    was-before : list_any (drives stream signal) procs ≡ true → (nat_lt 0 driver && nat_le driver (length procs + 1)) ≡ true
    was-before is = let e = sym says.earlier ∙ is in grind (arith, nat_tests)

    was-now : drives stream signal done ≡ true → (nat_lt 0 driver && nat_le driver (length procs + 1)) ≡ true
    was-now drive = let some = says.now drive in let most = says.most in grind (arith, nat_tests)

    back : (nat_lt 0 driver && nat_le driver (length procs + 1)) ≡ true → (list_any (drives stream signal) procs ≡ true) ⊎ (drives stream signal done ≡ true)
    back e = by_number (nat_le driver (length procs)) refl
      where
        by_number : (test : Bool) → nat_le driver (length procs) ≡ test → (list_any (drives stream signal) procs ≡ true) ⊎ (drives stream signal done ≡ true)
        by_number true is = inl (says.earlier ∙ grind (arith, nat_tests))
        by_number false is = inr (says.last (let past : length procs < driver = grind (arith, nat_tests) in let most : driver ≤ length procs + 1 = grind (arith, nat_tests) in omega arith))

pub drivers-process : (heads : List Head) (table : List ℕ) (procs : List (List Stmt)) (done : List Stmt) → AreDrivers heads table procs done → AreDrivers heads table (procs ++ done ∷ []) []
drivers-process heads table procs done are = record { size = are.size; says = λ stream signal within. process-said procs done stream signal (driver_in table stream signal) (are.says stream signal within) }

-- ---- a statement more

drives-more : (stream : ℕ) (signal : Signal) (done : List Stmt) (stmt : Stmt) → puts stream signal stmt ≡ true → drives stream signal (done ++ stmt ∷ []) ≡ true
drives-more stream signal [] stmt e = rw e refl
drives-more stream signal (first ∷ done) stmt e = or-right (puts stream signal first) (drives stream signal (done ++ stmt ∷ [])) (drives-more stream signal done stmt e)
  where
    or-right : (a b : Bool) → b ≡ true → (a || b) ≡ true
    or-right true b e = refl
    or-right false b e = e

drives-kept : (stream : ℕ) (signal : Signal) (done : List Stmt) (stmt : Stmt) → drives stream signal done ≡ true → drives stream signal (done ++ stmt ∷ []) ≡ true
drives-kept stream signal [] stmt e = absurd cc
drives-kept stream signal (first ∷ done) stmt e = by_first (puts stream signal first) refl e (drives-kept stream signal done stmt)
  where
    by_first : (test : Bool) → puts stream signal first ≡ test → (test || drives stream signal done) ≡ true → (drives stream signal done ≡ true → drives stream signal (done ++ stmt ∷ []) ≡ true)
        → (puts stream signal first || drives stream signal (done ++ stmt ∷ [])) ≡ true
    by_first true is e later = rw is refl
    by_first false is e later = rw (is, later e) refl

-- a statement that does not assign to the signal
other-said : (procs : List (List Stmt)) (done : List Stmt) (stmt : Stmt) (stream : ℕ) (signal : Signal) (driver : ℕ) → puts stream signal stmt ≡ false → SaysOf procs done stream signal driver → SaysOf procs (done ++ stmt ∷ []) stream signal driver
other-said procs done stmt stream signal driver none says = record {
  earlier = says.earlier;
  most = says.most;
  now = λ drive. elim (drives-last stream signal done stmt drive) [ inl before ↦ says.now before | inr here ↦ absurd (cc (sym here ∙ none)) ];
  last = λ same. drives-kept stream signal done stmt (says.last same);
}

-- one that does, where no whole process does
put-said : (procs : List (List Stmt)) (done : List Stmt) (stmt : Stmt) (stream : ℕ) (signal : Signal) → puts stream signal stmt ≡ true → list_any (drives stream signal) procs ≡ false
    → SaysOf procs (done ++ stmt ∷ []) stream signal (length procs + 1)
put-said procs done stmt stream signal puts_it new = record {
  earlier = new ∙ sym (beyond (length procs));
  most = omega arith;
  now = λ drive. omega arith;
  last = λ same. drives-more stream signal done stmt puts_it;
}
  where
    beyond : (n : ℕ) → (nat_lt 0 (n + 1) && nat_le (n + 1) n) ≡ false
    beyond n = let past : nat_le (n + 1) n ≡ false = grind (arith, nat_tests) in rw past (and-false (nat_lt 0 (n + 1)))

-- a statement that assigns to nothing
pub drivers-other : (heads : List Head) (table : List ℕ) (procs : List (List Stmt)) (done : List Stmt) (stmt : Stmt) → ((stream : ℕ) (signal : Signal) → puts stream signal stmt ≡ false) → AreDrivers heads table procs done
    → AreDrivers heads table procs (done ++ stmt ∷ [])
drivers-other heads table procs done stmt none are = record { size = are.size; says = λ stream signal within. other-said procs done stmt stream signal (driver_in table stream signal) (none stream signal) (are.says stream signal within) }

-- two places of the table are the same where the streams and the signals are
same_place : (a b n m : ℕ) → n < 8 → m < 8 → 8 * a + n ≡ 8 * b + m → (a ≡ b) × (n ≡ m)
same_place a b n m one other e = (omega arith, omega arith)

puts-own : (stream s n m : ℕ) → stream ≡ s → n ≡ m → (stream == s && n == m) ≡ true
puts-own stream s n m one other = grind (arith, nat_tests)

pub drivers-put : (heads : List Head) (table : List ℕ) (procs : List (List Stmt)) (done : List Stmt) (stream : ℕ) (signal : Signal) (bits : List Bool) → AreDrivers heads table procs done → stream < length heads
    → list_any (drives stream signal) procs ≡ false → AreDrivers heads (slice_set table (8 * stream + signal_number signal) (length procs + 1)) procs (done ++ stmts.Put stream signal bits ∷ [])
drivers-put heads table procs done stream signal bits are within new = record {
  size = length-set table (8 * stream + signal_number signal) (length procs + 1) ∙ are.size;
  says = λ s g there. by_place s g there (puts s g (stmts.Put stream signal bits)) refl;
}
  where
    room : 8 * stream + signal_number signal < length table
    room = let small = signal_number-below signal in let size = are.size in omega arith

    apart : (s : ℕ) (g : Signal) → puts s g (stmts.Put stream signal bits) ≡ false → 8 * s + signal_number g ≢ 8 * stream + signal_number signal
    apart s g other same =
        let parts = same_place s stream (signal_number g) (signal_number signal) (signal_number-below g) (signal_number-below signal) same in
        cc (sym other ∙ puts-own stream s (signal_number signal) (signal_number g) (sym parts.0) (sym parts.1))

    by_place : (s : ℕ) (g : Signal) → s < length heads → (test : Bool) → puts s g (stmts.Put stream signal bits) ≡ test
        → SaysOf procs (done ++ stmts.Put stream signal bits ∷ []) s g (get_or (slice_set table (8 * stream + signal_number signal) (length procs + 1)) (8 * s + signal_number g) 0)
    by_place s g there true is =
        let parts = and_parts (stream == s) (is_signal signal g) is in
        let one : stream ≡ s = eqb-true stream s parts.0 in
        let other : signal_number signal ≡ signal_number g = eqb-true (signal_number signal) (signal_number g) parts.1 in
        let here : get_or (slice_set table (8 * stream + signal_number signal) (length procs + 1)) (8 * s + signal_number g) 0 ≡ length procs + 1 =
        get_or-set_at table (8 * stream + signal_number signal) (8 * s + signal_number g) (length procs + 1) 0 (omega arith) room in
        subst (SaysOf procs (done ++ stmts.Put stream signal bits ∷ []) s g) (sym here)
        (put-said procs done (stmts.Put stream signal bits) s g is (subst (λ (x : ℕ). list_any (drives x g) procs ≡ false) one (subst (λ (y : Signal). list_any (drives stream y) procs ≡ false) (is_signal-same signal g parts.1) new)))
    by_place s g there false is =
        subst (SaysOf procs (done ++ stmts.Put stream signal bits ∷ []) s g) (sym (get_or-set_other table (8 * stream + signal_number signal) (8 * s + signal_number g) (length procs + 1) 0 (apart s g is)))
        (other-said procs done (stmts.Put stream signal bits) s g (driver_in table s g) is (are.says s g there))

-- a further statement that assigns to this place, which the table notes
pub drivers-stmt : (heads : List Head) (table : List ℕ) (procs : List (List Stmt)) (done : List Stmt) (stmt : Stmt) (place : Place) → Some place ≡ put_place stmt → MayDrive heads procs stmt
    → ((bits : List Bool) → place.stream < length heads → list_any (drives place.stream place.signal) procs ≡ false → AreDrivers heads table procs (done ++ stmts.Put place.stream place.signal bits ∷ []))
    → AreDrivers heads table procs (done ++ stmt ∷ [])
drivers-stmt heads table procs done (stmts.Put stream signal bits) place at may told =
    let same : place ≡ record { stream = stream; signal = signal } = same_Some place (record { stream = stream; signal = signal }) at in
    let own = may stream signal (is_signal-own stream signal) in
    let after = λ (p : Place). (b : List Bool) → p.stream < length heads → list_any (drives p.stream p.signal) procs ≡ false → AreDrivers heads table procs (done ++ stmts.Put p.stream p.signal b ∷ []) in
    subst after same told bits own.0 own.1
drivers-stmt heads table procs done (stmts.Pause edges) place at may told = absurd (none-some place (sym at))
drivers-stmt heads table procs done (stmts.Await stream) place at may told = absurd (none-some place (sym at))
drivers-stmt heads table procs done stmts.Stop place at may told = absurd (none-some place (sym at))

pub drivers-no_put : (heads : List Head) (table : List ℕ) (procs : List (List Stmt)) (done : List Stmt) (stmt : Stmt) → None ≡ put_place stmt → AreDrivers heads table procs done → AreDrivers heads table procs (done ++ stmt ∷ [])
drivers-no_put heads table procs done (stmts.Put stream signal bits) none are = absurd (none-some (record { stream = stream; signal = signal }) none)
drivers-no_put heads table procs done (stmts.Pause edges) none are = drivers-other heads table procs done (stmts.Pause edges) (λ s g. refl) are
drivers-no_put heads table procs done (stmts.Await stream) none are = drivers-other heads table procs done (stmts.Await stream) (λ s g. refl) are
drivers-no_put heads table procs done stmts.Stop none are = drivers-other heads table procs done stmts.Stop (λ s g. refl) are

-- a statement of one line that is read
pub may_drive : (heads : List Head) (procs : List (List Stmt)) (stmt : Stmt) → IsStmt heads stmt → ((stream : ℕ) (signal : Signal) → puts stream signal stmt ≡ true → list_any (drives stream signal) procs ≡ false) → MayDrive heads procs stmt
may_drive heads procs (stmts.Put to which bits) is new stream signal e =
    let same : to ≡ stream = eqb-true to stream (and_parts (to == stream) (is_signal which signal) e).0 in
    (subst (λ n. n < length heads) same (slice_get_within heads to is.head is.stands), new stream signal e)
may_drive heads procs (stmts.Pause edges) is new stream signal e = absurd cc
may_drive heads procs (stmts.Await from) is new stream signal e = absurd cc
may_drive heads procs stmts.Stop is new stream signal e = absurd cc

-- a statement of one line, read beside these streams and after these processes
pub stmt_of-may_drive : (heads : List Head) (procs : List (List Stmt)) (line : List ℕ) (stmt : Stmt) → stmt_of heads procs line ≡ Ok stmt → MayDrive heads procs stmt
stmt_of-may_drive heads procs line stmt e = let read = stmt_of-some heads procs line stmt e in may_drive heads procs stmt read.is read.new
