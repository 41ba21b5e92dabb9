-- The error of a bench's text is never want of memory.
use Rattle.std.proofs.Common.{◌≡◌, ℕ, ◌+◌, ◌==◌, Bool, true, false, List, [], ◌∷◌, length, Option, Some, None, Result, Ok, Err, IsSome, if◌then◌else◌, refl, codes}
use Rattle.std.specs.Str.{bytes_eq}
use Rattle.tydi_base.proofs.ReadingLaws.{FaultsAre, FaultsAre-cond, FaultsAre-err, FaultsAre-ok, faults_are}
use Rattle.tydi_base.specs.Path.{path_text}
use Rattle.tydi_base.specs.Pieces.{pieces_of}
use Rattle.tydi_reading.specs.Lists.{mark}
use Rattle.tydi_reading.specs.Reading.{Outcome, took, stopped, Reader, and_then, pure, ◌>>◌, rest_of, sees}
use Rattle.tydi_reading.specs.declared.fault.Fault.{Fault}
use Rattle.tydi_reading.specs.declared.fault.Fault.TheVariants as refusals
use Rattle.physical_stream.specs.declared.head.Head.{Head}
use Rattle.vhdl_text.specs.declared.bench.Bench.{Bench}
use Rattle.vhdl_text.specs.declared.bench.Stmt.{Stmt}
use Rattle.vhdl_text.specs.declared.fault.VhdlFault.{VhdlFault}
use Rattle.vhdl_text.specs.declared.fault.VhdlFault.TheVariants as faults
use Rattle.vhdl_text.specs.declared.place.Place.{Place}
use Rattle.vhdl_text.specs.declared.refusal.Refusal.{Refusal}
use Rattle.vhdl_text.specs.declared.refusal.Refusal.TheVariants.{UnknownSignal, SecondDriver}
use Rattle.vhdl_text.specs.declared.stage.Stage.{Stage}
use Rattle.vhdl_text.specs.declared.stage.Stage.TheVariants as stages
use Rattle.vhdl_text.specs.Lines.{Between, Cut, await_in, await_of, between, constant_at, cut_last, edges_of, no_port, paths_of, place_of, put_at, put_in, put_of, put_width, put_word, refusal_in, stmt_in, stmt_of}
use Rattle.vhdl_text.specs.Reading.{Progress, after, after_line, bench_from, bench_in, bench_of, body_of, ends, goes_on, head_after, heads_from, is_comment, no_procs, offset_of, procs_from, the_lines, told_at, where_line, whole, with_edges, with_head, with_read}
use Rattle.vhdl_text.specs.Text.{frame_text, quote_of}

-- a refusal that is no want of memory
abbrev Calm : Fault Refusal → Type 0
Calm fault = IsSome (refusal_in fault)

-- ---- statements

no_port-calm : (back : List ℕ) → FaultsAre Calm (no_port back)
no_port-calm back = search faults_are

put_word-calm : (earlier : List (List Stmt)) (place : Place) (found : Option (List Bool)) → FaultsAre Calm (put_word earlier place found)
put_word-calm earlier place None = search faults_are
put_word-calm earlier place (Some bits) = search faults_are

put_at-calm : (earlier : List (List Stmt)) (back : List ℕ) (place : Place) (width : Option ℕ) → FaultsAre Calm (put_at earlier back place width)
put_at-calm earlier back place None = no_port-calm back
put_at-calm earlier back place (Some width) = put_word-calm earlier place (constant_at (quote_of place.signal) width back)

put_in-calm : (heads : List Head) (earlier : List (List Stmt)) (back : List ℕ) (place : Option Place) → FaultsAre Calm (put_in heads earlier back place)
put_in-calm heads earlier back None = no_port-calm back
put_in-calm heads earlier back (Some place) = put_at-calm earlier back place (put_width heads place)

put_of-calm : (heads : List Head) (earlier : List (List Stmt)) (name back : List ℕ) → FaultsAre Calm (put_of heads earlier name back)
unfolding put_of
put_of-calm heads earlier name back = put_in-calm heads earlier back (place_of (paths_of heads) name)

await_in-calm : (place : Option Place) → FaultsAre Calm (await_in place)
await_in-calm None = search faults_are
await_in-calm (Some place) = search faults_are

await_of-calm : (paths : List (List ℕ)) (name back : List ℕ) → FaultsAre Calm (await_of paths name back)
unfolding await_of
await_of-calm paths name back = FaultsAre-cond _ _ _ (await_in-calm (place_of paths name)) (FaultsAre-err refusals.Refused refl)

stmt_in-calm : (heads : List Head) (earlier : List (List Stmt)) (parts : Option Between) → FaultsAre Calm (stmt_in heads earlier parts)
stmt_in-calm heads earlier None = search faults_are
stmt_in-calm heads earlier (Some parts) =
    FaultsAre-cond _ _ _ (put_of-calm heads earlier parts.inside parts.back)
    (FaultsAre-cond _ _ _ (await_of-calm (paths_of heads) parts.inside parts.back) (FaultsAre-err refusals.Refused refl))

stmt_of-calm : (heads : List Head) (earlier : List (List Stmt)) (line : List ℕ) → FaultsAre Calm (stmt_of heads earlier line)
unfolding stmt_of
stmt_of-calm heads earlier line = stmt_in-calm heads earlier (between 92 line)

-- ---- lines

where_line-calm : (wanted line : List ℕ) (next : Progress) → FaultsAre Calm (where_line wanted line next)
where_line-calm wanted line next = search faults_are

with_read-calm : (so_far : Progress) (read : Result Stmt (Fault Refusal)) → FaultsAre Calm read → FaultsAre Calm (with_read so_far read)
with_read-calm so_far (Ok stmt) calm = FaultsAre-ok _
with_read-calm so_far (Err e) calm = FaultsAre-err e calm.are

with_edges-calm : (so_far : Progress) (edges : Option ℕ) (read : Result Stmt (Fault Refusal)) → FaultsAre Calm read → FaultsAre Calm (with_edges so_far edges read)
with_edges-calm so_far (Some edges) read calm = FaultsAre-ok _
with_edges-calm so_far None read calm = with_read-calm so_far read calm

after_line-calm : (heads : List Head) (so_far : Progress) (line : List ℕ) (stage : Stage) → FaultsAre Calm (after_line heads so_far line stage)
after_line-calm heads so_far line stages.Between = search (faults_are, where_line-calm)
after_line-calm heads so_far line stages.Begin = where_line-calm _ line _
after_line-calm heads so_far line stages.Statements =
    FaultsAre-cond _ _ _ (FaultsAre-ok _) (with_edges-calm so_far (edges_of line) (stmt_of heads so_far.procs line) (stmt_of-calm heads so_far.procs line))
after_line-calm heads so_far line (stages.Inside edges) = where_line-calm _ line _
after_line-calm heads so_far line (stages.Ending edges) = where_line-calm _ line _
after_line-calm heads so_far line stages.EndProcess = where_line-calm _ line _

after-calm : (heads : List Head) (so_far : Progress) (line : List ℕ) → FaultsAre Calm (after heads so_far line)
unfolding after
after-calm heads so_far line = after_line-calm heads so_far line so_far.stage

-- ---- readers

-- a reading that does not stop for want of memory
abbrev CalmIn : {A : Type 0} → Outcome Refusal (List ℕ) A → Type 0
CalmIn (took x rest) = Unit {0}
CalmIn (stopped e rest) = Calm e

record IsCalm {A : Type 0} (outcome : Outcome Refusal (List ℕ) A) : Type 0 where
  calm : CalmIn outcome

then-calm : {A B : Type 0} (outcome : Outcome Refusal (List ℕ) A) (f : A → Reader Refusal (List ℕ) B) → IsCalm outcome → ((x : A) (rest : List (List ℕ)) → IsCalm (f x rest)) → IsCalm (and_then outcome f)
then-calm (took x rest) f first later = later x rest
then-calm (stopped e rest) f first later = record { calm = first.calm }

mark-calm : (is : List ℕ → Bool) (lines : List (List ℕ)) → IsCalm (mark {E = Refusal} {T = List ℕ} is lines)
unfolding mark
mark-calm is lines = by (sees is lines)
  where
    by : (test : Bool) → IsCalm (if test then took (tt {0}) (rest_of lines) else stopped refusals.Refused lines)
    by true = record { calm = tt }
    by false = record { calm = refl }

lines-calm : (wanted lines : List (List ℕ)) → IsCalm (the_lines wanted lines)
unfolding the_lines
lines-calm [] lines = record { calm = tt }
lines-calm (line ∷ more) lines = then-calm (mark (λ next. bytes_eq next line) lines) (λ _. the_lines more) (mark-calm (λ next. bytes_eq next line) lines) (λ x rest. lines-calm more rest)

heads-calm : (lines : List (List ℕ)) (paths : List (List ℕ)) → IsCalm (heads_from paths lines)
heads-calm [] paths = record { calm = tt }
heads-calm (line ∷ lines) paths = by (is_comment line) (by_head (head_after paths line) (λ head. heads-calm lines (path_text head.path ∷ paths)))
  where
    by_head : (found : Option Head) → ((head : Head) → IsCalm (heads_from (path_text head.path ∷ paths) lines)) → IsCalm (with_head (line ∷ lines) (λ head. heads_from (path_text head.path ∷ paths) lines) found)
    by_head None more = record { calm = refl }
    by_head (Some head) more = then-calm (heads_from (path_text head.path ∷ paths) lines) (λ heads. pure (head ∷ heads)) (more head) (λ heads rest. record { calm = tt })

    by : (test : Bool) → IsCalm (with_head (line ∷ lines) (λ head. heads_from (path_text head.path ∷ paths) lines) (head_after paths line)) →
        IsCalm (if test then with_head (line ∷ lines) (λ head. heads_from (path_text head.path ∷ paths) lines) (head_after paths line) else took [] (line ∷ lines))
    by true calm = calm
    by false calm = record { calm = tt }

procs-calm : (lines : List (List ℕ)) (heads : List Head) (so_far : Progress) → IsCalm (procs_from heads so_far lines)
procs-calm [] heads so_far = record { calm = refl }
procs-calm (line ∷ lines) heads so_far = by (ends so_far line) (by_next (after heads so_far line) (after-calm heads so_far line) (λ next. procs-calm lines heads next))
  where
    by_next : (next : Result Progress (Fault Refusal)) → FaultsAre Calm next → ((more : Progress) → IsCalm (procs_from heads more lines)) → IsCalm (goes_on (line ∷ lines) (λ more. procs_from heads more lines) next)
    by_next (Ok next) calm more = more next
    by_next (Err e) calm more = record { calm = calm.are }

    by : (test : Bool) → IsCalm (goes_on (line ∷ lines) (λ more. procs_from heads more lines) (after heads so_far line)) →
        IsCalm (if test then took so_far.procs lines else goes_on (line ∷ lines) (λ more. procs_from heads more lines) (after heads so_far line))
    by true calm = record { calm = tt }
    by false calm = calm

body-calm : (heads : List Head) (lines : List (List ℕ)) → IsCalm (body_of heads lines)
unfolding body_of
body-calm heads lines =
    then-calm (the_lines (pieces_of 10 (frame_text heads)) lines) _ (lines-calm (pieces_of 10 (frame_text heads)) lines)
    (λ x rest. then-calm (procs_from heads no_procs rest) _ (procs-calm rest heads no_procs) (λ procs left. record { calm = tt }))

from-calm : (lines : List (List ℕ)) → IsCalm (bench_from lines)
unfolding bench_from
from-calm lines =
    then-calm ((the_lines (codes "-- tydi-bench 1" ∷ []) >> heads_from []) lines) body_of
    (then-calm (the_lines (codes "-- tydi-bench 1" ∷ []) lines) (λ _. heads_from []) (lines-calm (codes "-- tydi-bench 1" ∷ []) lines) (λ x rest. heads-calm rest []))
    (λ heads rest. body-calm heads rest)

-- ---- a text

told-calm : (offset : ℕ) (e : Fault Refusal) → Calm e → told_at offset e ≡ faults.Memory → ⊥
told-calm offset refusals.Refused calm is = cc
told-calm offset (refusals.Unfit UnknownSignal) calm is = cc
told-calm offset (refusals.Unfit SecondDriver) calm is = cc
told-calm offset refusals.Memory calm is = absurd cc

same-error : (one other : VhdlFault) → ◌≡◌ {A = Result Bench VhdlFault} (Err one) (Err other) → one ≡ other
same-error one other is = cc

whole-calm : (end : ℕ) (cut_off : List ℕ) (outcome : Outcome Refusal (List ℕ) Bench) → IsCalm outcome → whole end cut_off outcome ≡ Err faults.Memory → ⊥
whole-calm end cut_off (took bench []) calm is = by (length cut_off == 0) is
  where
    by : (test : Bool) → ◌≡◌ {A = Result Bench VhdlFault} (if test then Ok bench else Err (faults.NotForm end)) (Err faults.Memory) → ⊥
    by true is = cc
    by false is = told-calm end refusals.Refused refl (same-error (faults.NotForm end) faults.Memory is)
whole-calm end cut_off (took bench (line ∷ lines)) calm is = told-calm (offset_of end (line ∷ lines)) refusals.Refused refl (same-error _ faults.Memory is)
whole-calm end cut_off (stopped e lines) calm is = told-calm (offset_of end lines) e calm.calm (same-error _ faults.Memory is)

-- the error of a bench's text is never want of memory
pub benches_free : (text : List ℕ) → bench_of text ≡ Err faults.Memory → ⊥
unfolding bench_of
benches_free text is = by (cut_last 10 text) is
  where
    by : (cut : Option Cut) → bench_in cut ≡ Err faults.Memory → ⊥
    by None is = told-calm 0 refusals.Refused refl (same-error (faults.NotForm 0) faults.Memory is)
    by (Some cut) is = whole-calm (length cut.front + 1) cut.back (bench_from (pieces_of 10 cut.front)) (from-calm (pieces_of 10 cut.front)) is
