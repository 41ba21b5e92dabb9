-- The assignments of a process, and the signals that it drives.
use Rattle.std.proofs.Common.{◌≡◌, ◌∙◌, ℕ, zero, suc, Bool, true, false, ◌==◌, ◌&&◌, ◌||◌, if◌then◌else◌, List, [], ◌∷◌, ◌++◌, map, get_or, refl, sym, ap}
use Rattle.signal_layout.specs.declared.signal.Signal.{Signal}
use Rattle.vhdl_text.specs.declared.bench.Stmt.{Stmt}
use Rattle.vhdl_text.specs.declared.bench.Stmt.TheVariants as stmts
use Rattle.vhdl_meaning.specs.Meaning.{words_for, last_of, assigned_by, waits_at, resumed}
use Rattle.vhdl_text.specs.WellFormed.{Assigned, is_signal, puts, drives}

-- ---- words

pub words_for-append : (stream : ℕ) (signal : Signal) (xs ys : List Assigned) → words_for stream signal (xs ++ ys) ≡ words_for stream signal xs ++ words_for stream signal ys
words_for-append stream signal [] ys = refl
words_for-append stream signal (a ∷ xs) ys = by_test (a.stream == stream && is_signal a.signal signal) (words_for-append stream signal xs ys)
  where
    by_test : (test : Bool) → words_for stream signal (xs ++ ys) ≡ words_for stream signal xs ++ words_for stream signal ys →
        (if test then a.bits ∷ words_for stream signal (xs ++ ys) else words_for stream signal (xs ++ ys))
        ≡ (if test then a.bits ∷ words_for stream signal xs else words_for stream signal xs) ++ words_for stream signal ys
    by_test true same = ap (λ l. a.bits ∷ l) same
    by_test false same = same

pub last_of-append : (before : List Bool) (xs ys : List (List Bool)) → last_of before (xs ++ ys) ≡ last_of (last_of before xs) ys
last_of-append before [] ys = refl
last_of-append before (x ∷ xs) ys = last_of-append x xs ys

-- ---- tests

pub or-left : (a b : Bool) → (a || b) ≡ false → a ≡ false
or-left true b is = is
or-left false b is = refl

pub or-right : (a b : Bool) → (a || b) ≡ false → b ≡ false
or-right true b is = absurd (let e : true ≡ false = is in cc)
or-right false b is = is

pub or-more : (a b c : Bool) → (b ≡ true → c ≡ true) → (a || b) ≡ true → (a || c) ≡ true
or-more true b c so is = refl
or-more false b c so is = so is

pub or-second : (a b : Bool) → b ≡ true → (a || b) ≡ true
or-second true b is = refl
or-second false b is = is

pub and-left : (a b : Bool) → (a && b) ≡ true → a ≡ true
and-left true b is = refl
and-left false b is = is

pub and-right : (a b : Bool) → (a && b) ≡ true → b ≡ true
and-right true b is = is
and-right false b is = absurd (let e : false ≡ true = is in cc)

pub and-both : (a b : Bool) → a ≡ true → b ≡ true → (a && b) ≡ true
and-both true b first second = second
and-both false b first second = first

pub not-true : (b : Bool) → (b ≡ true → ⊥) → b ≡ false
not-true true so = absurd (so refl)
not-true false so = refl

-- ---- a process that does not drive a signal assigns nothing to it

pub quiet : (stream : ℕ) (signal : Signal) (left : List Stmt) → drives stream signal left ≡ false → words_for stream signal (assigned_by left) ≡ []
quiet stream signal [] is = refl
quiet stream signal (stmts.Put to which bits ∷ more) is =
    let none = or-left (to == stream && is_signal which signal) (drives stream signal more) is in
    ap (λ (b : Bool). if b then bits ∷ words_for stream signal (assigned_by more) else words_for stream signal (assigned_by more)) none
    ∙ quiet stream signal more (or-right (to == stream && is_signal which signal) (drives stream signal more) is)
quiet stream signal (stmts.Pause edges ∷ more) is = refl
quiet stream signal (stmts.Await from ∷ more) is = refl
quiet stream signal (stmts.Stop ∷ more) is = refl

-- the statements that are left of it drive no further signal

pub drives-waits : (stream : ℕ) (signal : Signal) (left : List Stmt) → drives stream signal (waits_at left) ≡ true → drives stream signal left ≡ true
drives-waits stream signal [] is = is
drives-waits stream signal (stmts.Put to which bits ∷ more) is = or-second (puts stream signal (stmts.Put to which bits)) (drives stream signal more) (drives-waits stream signal more is)
drives-waits stream signal (stmts.Pause edges ∷ more) is = is
drives-waits stream signal (stmts.Await from ∷ more) is = is
drives-waits stream signal (stmts.Stop ∷ more) is = is

pub drives-resumed : (stream : ℕ) (signal : Signal) (ready : List Bool) (left : List Stmt) → drives stream signal (resumed ready left) ≡ true → drives stream signal left ≡ true
drives-resumed stream signal ready [] is = is
drives-resumed stream signal ready (stmts.Put to which bits ∷ more) is = is
drives-resumed stream signal ready (stmts.Pause zero ∷ more) is = is
drives-resumed stream signal ready (stmts.Pause (suc zero) ∷ more) is = is
drives-resumed stream signal ready (stmts.Pause (suc (suc edges)) ∷ more) is = is
drives-resumed stream signal ready (stmts.Await from ∷ more) is = by_bit (get_or ready from false) is
  where
    by_bit : (bit : Bool) → drives stream signal (if bit then more else stmts.Await from ∷ more) ≡ true → drives stream signal more ≡ true
    by_bit true so = so
    by_bit false so = so
drives-resumed stream signal ready (stmts.Stop ∷ more) is = is

-- ---- a process by its number

pub get-map : (f : List Stmt → List Stmt) (procs : List (List Stmt)) (number : ℕ) → f [] ≡ [] → get_or (map f procs) number [] ≡ f (get_or procs number [])
get-map f [] number none = sym none
get-map f (left ∷ procs) zero none = refl
get-map f (left ∷ procs) (suc number) none = get-map f procs number none
