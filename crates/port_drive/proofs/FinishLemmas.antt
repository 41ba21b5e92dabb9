-- Whether the runs of a port finish.
use Rattle.std.proofs.Common.{◌≡◌, ◌∙◌, ℕ, suc, ◌+◌, ◌<◌, ◌≤◌, ◌==◌, Bool, true, false, if◌then◌else◌, List, [], ◌∷◌, length, drop, get_or, slice_get, Some, None, Result, Ok, Err, refl, sym, ap, arith}
use Rattle.std.proofs.lemmas.Bool.Decides.{nat_tests}
use Rattle.std.proofs.lemmas.List.{at_drop_more, drop_all}
use Rattle.tydi_base.specs.Reading.{◌>>=◌}
use Rattle.handshake.proofs.BoundLemmas.{runs_finish}
use Rattle.type_split.specs.Streams.{PlainSplit}
use Rattle.logical_value.specs.Tree.{Tree}
use Rattle.plan_text.specs.declared.plan.StreamPlan.{StreamPlan}
use Rattle.handshake.specs.Rows.{StreamRun, undone_in}
use Rattle.port_drive.specs.Drives.{NotFinished, Undriven, drive_of, finished_from, left_of, runs_of}
use Rattle.port_drive.specs.Finishing.{HasReadyBits, ReadyRunsDrive, finishing, unfinished_from}

finishing-from : (number : ℕ) (all rest : List StreamRun) → finished_from number all rest ≡ finishing all (unfinished_from number (undone_in rest))
finishing-from number all [] = refl
finishing-from number all (run ∷ rest) = by_test (left_of run == 0) (finishing-from (suc number) all rest)
  where
    by_test : (test : Bool) → finished_from (suc number) all rest ≡ finishing all (unfinished_from (suc number) (undone_in rest))
        → (if test then finished_from (suc number) all rest else Err (NotFinished number (left_of run))) ≡ finishing all (if test then unfinished_from (suc number) (undone_in rest) else Some (NotFinished number (left_of run)))
    by_test true later = later
    by_test false later = refl

pub runs-finish : (split : PlainSplit) (value : List (List Tree)) (plans : List StreamPlan) (runs : List StreamRun) → runs_of split value plans ≡ Ok runs
    → drive_of split value plans ≡ finishing runs (unfinished_from 0 (undone_in runs))
runs-finish split value plans runs made = ap (λ (r : Result (List StreamRun) Undriven). r >>= λ all. finished_from 0 all all) made ∙ finishing-from 0 runs runs

-- no run leaves transfers where each has enough ready bits
ready-none : (number : ℕ) (runs : List StreamRun) → ((i : ℕ) (run : StreamRun) → slice_get runs i ≡ Some run → HasReadyBits run) → unfinished_from number (undone_in runs) ≡ None
ready-none number [] ready = refl
ready-none number (run ∷ runs) ready =
    let none : left_of run ≡ 0 = runs_finish run.params run.transfers run.gaps run.ready (ready 0 run refl) in
    let test : (left_of run == 0) ≡ true = grind (arith, nat_tests) in
    ap (λ (b : Bool). if b then unfinished_from (suc number) (undone_in runs) else Some (NotFinished number (left_of run))) test
    ∙ ready-none (suc number) runs (λ i one there. ready (suc i) one there)

pub ready-drive : ReadyRunsDrive
ready-drive split value plans runs made ready = runs-finish split value plans runs made ∙ ap (finishing runs) (ready-none 0 runs ready)

-- ---- the first stream that leaves transfers

-- the stream of this number is looked at next: none before it leaves transfers
abbrev pub IsUnfinishedFrom : ℕ → List ℕ → Type 0
IsUnfinishedFrom number undone = unfinished_from 0 undone ≡ unfinished_from number (drop number undone)

module _ (undone : List ℕ) (number left : ℕ) (within : number < length undone) (is : left ≡ get_or undone number 0) (before : IsUnfinishedFrom number undone) where
  looked-at : unfinished_from 0 undone ≡ (if left == 0 then unfinished_from (suc number) (drop (number + 1) undone) else Some (NotFinished number left))
  looked-at =
      before ∙ at_drop_more (unfinished_from number) undone number 0 within
      ∙ ap (λ (n : ℕ). if n == 0 then unfinished_from (suc number) (drop (number + 1) undone) else Some (NotFinished number n)) (sym is)

  pub unfinished-next : left ≤ 0 → IsUnfinishedFrom (number + 1) undone
  unfinished-next none =
      let test : (left == 0) ≡ true = grind (arith, nat_tests) in
      let next : suc number ≡ number + 1 = omega arith in
      looked-at
      ∙ ap (λ (b : Bool). if b then unfinished_from (suc number) (drop (number + 1) undone) else Some (NotFinished number left)) test
      ∙ ap (λ (n : ℕ). unfinished_from n (drop (number + 1) undone)) next

  pub unfinished-here : 0 < left → unfinished_from 0 undone ≡ Some (NotFinished number left)
  unfinished-here some =
      let test : (left == 0) ≡ false = grind (arith, nat_tests) in
      looked-at ∙ ap (λ (b : Bool). if b then unfinished_from (suc number) (drop (number + 1) undone) else Some (NotFinished number left)) test

pub unfinished-none : (undone : List ℕ) (number : ℕ) → length undone ≤ number → IsUnfinishedFrom number undone → unfinished_from 0 undone ≡ None
unfinished-none undone number all before = before ∙ ap (unfinished_from number) (drop_all number undone all)
