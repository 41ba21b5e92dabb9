-- Benches, by the steps of their reading.
use Rattle.std.proofs.Common.{◌≡◌, ◌≢◌, ℕ, ◌+◌, ◌-◌, false, List, [], ◌∷◌, length, length-append, Some, None, Result, Err, refl, sym, ap, ◌∙◌, subst, arith}
use Rattle.std.specs.Prelude.{codes}
use Rattle.std.specs.List.{join_with_byte}
use Rattle.std.specs.Str.{bytes_eq}
use Rattle.tydi_base.specs.Pieces.{pieces_of}
use Rattle.tydi_base.specs.Reading.{Gives}
use Rattle.tydi_reading.specs.Lists.{mark}
use Rattle.tydi_reading.specs.Reading.{Outcome, took, stopped, at_end}
use Rattle.tydi_reading.specs.declared.fault.Fault.{Fault}
use Rattle.tydi_reading.specs.declared.fault.Fault.TheVariants as refusals
use Rattle.physical_stream.specs.declared.head.Head.{Head}
use Rattle.vhdl_text.specs.declared.bench.Bench.{Bench}
use Rattle.vhdl_text.specs.declared.fault.VhdlFault.{VhdlFault}
use Rattle.vhdl_text.specs.declared.fault.VhdlFault.TheVariants as faults
use Rattle.vhdl_text.specs.declared.refusal.Refusal.{Refusal}
use Rattle.vhdl_text.specs.declared.refusal.Refusal.TheVariants.{UnknownSignal, SecondDriver}
use Rattle.vhdl_text.specs.Lines.{cut_last}
use Rattle.vhdl_text.specs.Reading.{bench_from, bench_in, bench_of, body_of, fault_in, heads_from, lines_text, offset_of, the_lines, told_at, whole}
use Rattle.vhdl_text.proofs.BenchSpelling.{lines_text-join}

-- ---- offsets

pub offset_of-some : (end : ℕ) (lines : List (List ℕ)) → at_end lines ≡ false → end - length (join_with_byte 10 lines) ≡ offset_of (end + 1) lines
offset_of-some end [] some = absurd cc
offset_of-some end (line ∷ lines) some =
    let text = join_with_byte 10 (line ∷ lines) in
    let many : length (lines_text (line ∷ lines)) ≡ length text + 1 = ap length (lines_text-join line lines) ∙ length-append text (10 ∷ []) in
    omega (arith, many)

-- ---- the first line

-- the first line, taken or not
abbrev pub title_of : List (List ℕ) → Outcome Refusal (List ℕ) (Unit {0})
title_of lines = mark (λ next. bytes_eq next (codes "-- tydi-bench 1")) lines

pub bench_from-title : (lines rest : List (List ℕ)) (e : Fault Refusal) → title_of lines ≡ stopped e rest → bench_from lines ≡ stopped e rest
unfolding bench_from the_lines
bench_from-title lines rest e stops = rw stops refl

pub bench_from-heads : (lines mid rest : List (List ℕ)) (x : Unit {0}) (e : Fault Refusal) → title_of lines ≡ took x mid → heads_from [] mid ≡ stopped e rest → bench_from lines ≡ stopped e rest
unfolding bench_from the_lines
bench_from-heads lines mid rest x e title stops = rw (title, stops) refl

pub bench_from-body : (lines mid rest : List (List ℕ)) (x : Unit {0}) (heads : List Head) → title_of lines ≡ took x mid → heads_from [] mid ≡ took heads rest → bench_from lines ≡ body_of heads rest
unfolding bench_from the_lines
bench_from-body lines mid rest x heads title read = rw (title, read) refl

-- ---- all lines

pub bench_of-none : (text : List ℕ) → None ≡ cut_last 10 text → bench_of text ≡ Err (faults.NotForm 0)
unfolding bench_of
bench_of-none text none = ap bench_in (sym none)

pub bench_of-cut : (text front back : List ℕ) → Some (record { front = front; back = back }) ≡ cut_last 10 text → bench_of text ≡ whole (length front + 1) back (bench_from (pieces_of 10 front))
unfolding bench_of
bench_of-cut text front back cut = ap bench_in (sym cut)

bench_of-is : (text front back : List ℕ) (lines : List (List ℕ)) (outcome : Outcome Refusal (List ℕ) Bench) → Some (record { front = front; back = back }) ≡ cut_last 10 text → lines ≡ pieces_of 10 front → bench_from lines ≡ outcome
    → bench_of text ≡ whole (length front + 1) back outcome
bench_of-is text front back lines outcome cut are read =
    bench_of-cut text front back cut ∙ ap (λ (ls : List (List ℕ)). whole (length front + 1) back (bench_from ls)) (sym are) ∙ ap (whole (length front + 1) back) read

pub bench_of-took : (text front back : List ℕ) (lines rest : List (List ℕ)) (bench : Bench) (result : Result Bench VhdlFault) → Some (record { front = front; back = back }) ≡ cut_last 10 text → lines ≡ pieces_of 10 front → bench_from lines ≡ took bench rest
    → Gives fault_in (λ found. found) result (whole (length front + 1) back (took bench rest)) → Gives fault_in (λ found. found) result (bench_of text)
bench_of-took text front back lines rest bench result cut are read gives =
    subst (λ (reading : Result Bench VhdlFault). Gives fault_in (λ found. found) result reading) (sym (bench_of-is text front back lines (took bench rest) cut are read)) gives

pub bench_of-stopped : (text front back : List ℕ) (lines rest : List (List ℕ)) (e : Fault Refusal) (offset : ℕ) → Some (record { front = front; back = back }) ≡ cut_last 10 text → lines ≡ pieces_of 10 front
    → (e ≢ refusals.Memory → bench_from lines ≡ stopped e rest) → offset ≡ offset_of (length front + 1) rest → Gives {X = Bench} fault_in (λ found. found) (Err (told_at offset e)) (bench_of text)
bench_of-stopped text front back lines rest e offset cut are stops at = rw at (by_fault e stops)
  where
    by_fault : (e : Fault Refusal) → (e ≢ refusals.Memory → bench_from lines ≡ stopped e rest) → Gives {X = Bench} fault_in (λ found. found) (Err (told_at (offset_of (length front + 1) rest) e)) (bench_of text)
    by_fault refusals.Refused stops = bench_of-is text front back lines (stopped refusals.Refused rest) cut are (stops (λ same. absurd cc))
    by_fault (refusals.Unfit UnknownSignal) stops = bench_of-is text front back lines (stopped (refusals.Unfit UnknownSignal) rest) cut are (stops (λ same. absurd cc))
    by_fault (refusals.Unfit SecondDriver) stops = bench_of-is text front back lines (stopped (refusals.Unfit SecondDriver) rest) cut are (stops (λ same. absurd cc))
    by_fault refusals.Memory stops = tt
