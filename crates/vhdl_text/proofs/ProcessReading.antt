-- Processes: what is read is spelled so.
use Rattle.std.proofs.Common.{◌≡◌, ℕ, ◌+◌, ◌*◌, ◌≤◌, ◌<◌, Bool, true, false, ◌&&◌, ◌||◌, cond, List, [], ◌∷◌, ◌++◌, append_assoc, append-nil, length, length-append, get_or, Result, Ok, Err, All, refl, sym, ap, ◌∙◌, inl, inr, ◌⊎◌, arith}
use Rattle.std.specs.Prelude.{codes}
use Rattle.std.specs.List.{flat_map, list_all, list_any}
use Rattle.std.specs.Str.{bytes_eq}
use Rattle.std.proofs.Math.Seq.{get_or-append_seam}
use Rattle.std.proofs.lemmas.Bool.{cases_lt}
use Rattle.std.proofs.lemmas.Grind.{flat_map-append}
use Rattle.std.proofs.lemmas.List.{get_or_append_left, get_or_past}
use Rattle.std.proofs.lemmas.List.Elements.{All-append, All-cons, All-nil}
use Rattle.std.proofs.lemmas.List.Folds.{list_all-append, list_any_at}
use Rattle.std.proofs.lemmas.Slice.Eq.{bytes_eq-Decides}
use Rattle.tydi_base.proofs.PlainWords.{both}
use Rattle.tydi_base.proofs.ReadingLaws.{ok_is}
use Rattle.tydi_reading.specs.declared.fault.Fault.{Fault}
use Rattle.tydi_reading.specs.declared.fault.Fault.TheVariants as refusals
use Rattle.physical_stream.specs.declared.head.Head.{Head}
use Rattle.signal_layout.specs.declared.signal.Signal.{Signal}
use Rattle.vhdl_text.specs.declared.bench.Stmt.{Stmt}
use Rattle.vhdl_text.specs.declared.bench.Stmt.TheVariants as stmts
use Rattle.vhdl_text.specs.declared.refusal.Refusal.{Refusal}
use Rattle.vhdl_text.specs.declared.stage.Stage.{Stage}
use Rattle.vhdl_text.specs.declared.stage.Stage.TheVariants as stages
use Rattle.vhdl_text.specs.Reading.{Progress, where_line}
use Rattle.vhdl_text.specs.Text.{pause_line, process_text, stmt_text}
use Rattle.vhdl_text.specs.WellFormed.{AreDrivenOnce, EndsInStop, IsStmt, drives, puts}
use Rattle.vhdl_text.proofs.ProcessSpelling.{AreNew}
use Rattle.vhdl_text.proofs.StmtLemmas.{goes_past}

-- ---- what stands behind

-- the lines of the process that is begun
abbrev pub open_text : List Head → Stage → List Stmt → List ℕ
open_text heads stages.Between done = []
open_text heads stages.Begin done = codes "  process\n"
open_text heads stages.Statements done = codes "  process\n  begin\n" ++ flat_map (stmt_text heads) done
open_text heads (stages.Inside edges) done = codes "  process\n  begin\n" ++ (flat_map (stmt_text heads) done ++ (pause_line edges ++ codes "\n"))
open_text heads (stages.Ending edges) done = codes "  process\n  begin\n" ++ (flat_map (stmt_text heads) done ++ (pause_line edges ++ codes "\n      wait until rising_edge(clk);\n"))
open_text heads stages.EndProcess done = codes "  process\n  begin\n" ++ flat_map (stmt_text heads) done

-- the lines so far
abbrev pub passed : List Head → Progress → List ℕ
passed heads now = flat_map (process_text heads) now.procs ++ open_text heads now.stage now.stmts

-- a process more has room
abbrev pub HasRoom : List Head → List (List Stmt) → Type 0
HasRoom heads procs = length procs < 2 * length heads

-- no statement so far stops
abbrev pub GoPast : List Stmt → Type 0
GoPast done = list_all goes_past done ≡ true

-- the facts of the process that is begun
abbrev pub StandsOpen : List Head → List (List Stmt) → Stage → List Stmt → Type 0
StandsOpen heads procs stages.Between done = done ≡ []
StandsOpen heads procs stages.Begin done = HasRoom heads procs × (done ≡ [])
StandsOpen heads procs stages.Statements done = HasRoom heads procs × GoPast done
StandsOpen heads procs (stages.Inside edges) done = HasRoom heads procs × GoPast done × (1 ≤ edges) × (edges ≤ 1000000)
StandsOpen heads procs (stages.Ending edges) done = HasRoom heads procs × GoPast done × (1 ≤ edges) × (edges ≤ 1000000)
StandsOpen heads procs stages.EndProcess done = HasRoom heads procs × EndsInStop done

-- the facts of all that is read
pub record Holds (heads : List Head) (now : Progress) : Type 0 where
  pub count : length now.procs ≤ 2 * length heads
  pub are : All (All (IsStmt heads)) now.procs
  pub stop : All EndsInStop now.procs
  pub once : AreDrivenOnce now.procs
  pub current : All (IsStmt heads) now.stmts
  pub new : AreNew now.procs now.stmts
  pub begun : StandsOpen heads now.procs now.stage now.stmts

-- after a line
pub record Went (heads : List Head) (now : Progress) (line : List ℕ) (next : Progress) : Type 0 where
  pub holds : Holds heads next
  pub text : passed heads next ≡ passed heads now ++ (line ++ 10 ∷ [])

-- ---- one more

pub All-last : {A : Type 0} (P : A → Type 0) (xs : List A) (x : A) → All P xs → P x → All P (xs ++ x ∷ [])
All-last P xs x each last = All-append P xs (x ∷ []) each (All-cons P x [] last (All-nil P))

pub flat_map-last : {A : Type 0} (f : A → List ℕ) (xs : List A) (x : A) → flat_map f (xs ++ x ∷ []) ≡ flat_map f xs ++ f x
flat_map-last f xs x = flat_map-append f xs (x ∷ []) ∙ ap (λ (t : List ℕ). flat_map f xs ++ t) (append-nil (f x))

pub GoPast-last : (done : List Stmt) (stmt : Stmt) → GoPast done → goes_past stmt ≡ true → GoPast (done ++ stmt ∷ [])
GoPast-last done stmt past last = list_all-append goes_past done (stmt ∷ []) ∙ both (list_all goes_past done) (goes_past stmt && true) past (both (goes_past stmt) true last refl)

pub EndsInStop-last : (done : List Stmt) → GoPast done → EndsInStop (done ++ stmts.Stop ∷ [])
EndsInStop-last [] past = refl
EndsInStop-last (stmts.Put stream signal bits ∷ done) past = EndsInStop-last done past
EndsInStop-last (stmts.Pause edges ∷ done) past = EndsInStop-last done past
EndsInStop-last (stmts.Await stream ∷ done) past = EndsInStop-last done past
EndsInStop-last (stmts.Stop ∷ done) past = absurd cc

or-parts : (a b : Bool) → (a || b) ≡ true → (a ≡ true) ⊎ (b ≡ true)
or-parts true b e = inl refl
or-parts false b e = inr e

pub drives-last : (stream : ℕ) (signal : Signal) (done : List Stmt) (stmt : Stmt) → drives stream signal (done ++ stmt ∷ []) ≡ true → (drives stream signal done ≡ true) ⊎ (puts stream signal stmt ≡ true)
drives-last stream signal [] stmt e = elim (or-parts (puts stream signal stmt) false e) [
  | inl here ↦ inr here
  | inr none ↦ absurd cc
]
drives-last stream signal (first ∷ done) stmt e = by_first (drives-last stream signal done stmt) (or-parts (puts stream signal first) (drives stream signal (done ++ stmt ∷ [])) e)
  where
    or-of : (a b : Bool) → (a ≡ true) ⊎ (b ≡ true) → (a || b) ≡ true
    or-of true b e = refl
    or-of false b (inl e) = absurd cc
    or-of false b (inr e) = e

    by_later : (drives stream signal done ≡ true) ⊎ (puts stream signal stmt ≡ true) → (drives stream signal (first ∷ done) ≡ true) ⊎ (puts stream signal stmt ≡ true)
    by_later (inl e) = inl (or-of (puts stream signal first) (drives stream signal done) (inr e))
    by_later (inr e) = inr e

    by_first : (drives stream signal (done ++ stmt ∷ []) ≡ true → (drives stream signal done ≡ true) ⊎ (puts stream signal stmt ≡ true)) → (puts stream signal first ≡ true) ⊎ (drives stream signal (done ++ stmt ∷ []) ≡ true)
        → (drives stream signal (first ∷ done) ≡ true) ⊎ (puts stream signal stmt ≡ true)
    by_first later (inl e) = inl (or-of (puts stream signal first) (drives stream signal done) (inl e))
    by_first later (inr e) = by_later (later e)

pub AreNew-last : (procs : List (List Stmt)) (done : List Stmt) (stmt : Stmt) → AreNew procs done → ((stream : ℕ) (signal : Signal) → puts stream signal stmt ≡ true → list_any (drives stream signal) procs ≡ false) → AreNew procs (done ++ stmt ∷ [])
AreNew-last procs done stmt new last stream signal e = elim (drives-last stream signal done stmt e) [
  | inl before ↦ new stream signal before
  | inr here ↦ last stream signal here
]

-- a driver among processes and one more: one of these, or the last one
abbrev Driver : ℕ → Signal → List (List Stmt) → List Stmt → ℕ → Type 0
Driver stream signal procs process number = ((number < length procs) × (drives stream signal (get_or procs number []) ≡ true)) ⊎ ((number ≡ length procs) × (drives stream signal process ≡ true))

before_or_last : (number count : ℕ) → (number < count) ⊎ ((number ≡ count) ⊎ (count + 1 ≤ number))
before_or_last number count = elim (cases_lt number count) [
  | inl before ↦ inl before
  | inr past ↦ (elim (cases_lt count number) [ inl beyond ↦ inr (inr (omega arith)) | inr here ↦ inr (inl (omega arith)) ])
]

driver-of : (stream : ℕ) (signal : Signal) (procs : List (List Stmt)) (process : List Stmt) (number : ℕ) → drives stream signal (get_or (procs ++ process ∷ []) number []) ≡ true → Driver stream signal procs process number
driver-of stream signal procs process number e = elim (before_or_last number (length procs)) [
  | inl before ↦ inl (before, ap (drives stream signal) (sym (get_or_append_left procs (process ∷ []) [] number before)) ∙ e)
  | inr (inl here) ↦ inr (here, ap (drives stream signal) (sym (get_or-append_seam procs process [] [])) ∙ ap (λ n. drives stream signal (get_or (procs ++ process ∷ []) n [])) (sym here) ∙ e)
  | inr (inr past) ↦ absurd (cc (sym e ∙ ap (drives stream signal) (get_or_past (procs ++ process ∷ []) number [] (omega (arith, past, length-append procs (process ∷ []))))))
]

-- a process more, that drives no signal which one before drives
pub AreDrivenOnce-last : (procs : List (List Stmt)) (process : List Stmt) → AreDrivenOnce procs → AreNew procs process → AreDrivenOnce (procs ++ process ∷ [])
AreDrivenOnce-last procs process once new stream signal a b one other = by_drivers (driver-of stream signal procs process a one) (driver-of stream signal procs process b other)
  where
    clash : (number : ℕ) → number < length procs → drives stream signal (get_or procs number []) ≡ true → drives stream signal process ≡ true → ⊥
    clash number within drive last = cc (sym (list_any_at (drives stream signal) procs number [] within drive) ∙ new stream signal last)

    by_drivers : Driver stream signal procs process a → Driver stream signal procs process b → a ≡ b
    by_drivers (inl x) (inl y) = once stream signal a b x.1 y.1
    by_drivers (inl x) (inr y) = absurd (clash a x.0 x.1 y.1)
    by_drivers (inr x) (inl y) = absurd (clash b y.0 y.1 x.1)
    by_drivers (inr x) (inr y) = x.0 ∙ sym y.0

-- ---- texts

pub regroup : (p l f x : List ℕ) → p ++ (l ++ (f ++ x)) ≡ (p ++ (l ++ f)) ++ x
regroup p l f x = ap (λ (t : List ℕ). p ++ t) (sym (append_assoc l f x)) ∙ sym (append_assoc p (l ++ f) x)

pub where_line-some : (wanted line : List ℕ) (next found : Progress) → where_line wanted line next ≡ Ok found → (line ≡ wanted) × (next ≡ found)
where_line-some wanted line next found e = by_test (bytes_eq line wanted) refl e
  where
    by_test : (test : Bool) → bytes_eq line wanted ≡ test → cond {A = Result Progress (Fault Refusal)} test (Ok next) (Err refusals.Refused) ≡ Ok found → (line ≡ wanted) × (next ≡ found)
    by_test true is e = ((bytes_eq-Decides line wanted).0 is, ok_is next found e)
    by_test false is e = absurd cc
