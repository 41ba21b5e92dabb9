-- The error of a run's text is never want of memory.
use Rattle.std.proofs.Common.{◌≡◌, ℕ, List, [], ◌∷◌, length, Option, Some, None, Err, IsSome}
use Rattle.std.proofs.lemmas.Result.{IfErr-at_err}
use Rattle.tydi_base.proofs.ReadingLaws.{FaultsAre, FaultsAre-bind, FaultsAre-err, FaultsAre-ok, faults_are}
use Rattle.tydi_base.specs.Reading.{or_fault}
use Rattle.tydi_base.specs.declared.place.Place.{Place}
use Rattle.physical_stream.specs.declared.head.Head.{Head}
use Rattle.vhdl_text.specs.declared.bench.Bench.{Bench}
use Rattle.vhdl_meaning.specs.RunFaults.{fault_in}
use Rattle.vhdl_meaning.specs.RunLines.{TextLine, lines_in}
use Rattle.vhdl_meaning.specs.RunText.{Given, bits_for, cycles_of, end_of, given_of, header_of, next_of, nothing_given, order_in, order_of, ready_line, run_in_lines, run_of, title_of, with_bits, with_more, with_order, with_ready}
use Rattle.vhdl_meaning.specs.declared.run.RunFault.{RunFault}
use Rattle.vhdl_meaning.specs.declared.run.RunFault.TheVariants as faults

-- an error that is no want of memory
abbrev Calm : RunFault → Type 0
Calm fault = IsSome (fault_in fault)

or_fault-calm : {A : Type 0} (fault : RunFault) (o : Option A) → Calm fault → FaultsAre Calm (or_fault fault o)
or_fault-calm fault None calm = FaultsAre-err fault calm
or_fault-calm fault (Some x) calm = FaultsAre-ok x

-- ---- lines

ready_line-calm : (place : Place) (heads : List Head) (text : List ℕ) → FaultsAre Calm (ready_line place heads text)
unfolding ready_line
ready_line-calm place heads text = search (faults_are, or_fault-calm) depth 9

bits_for-calm : (place : Place) (cycles : ℕ) (word : List ℕ) → FaultsAre Calm (bits_for place cycles word)
unfolding bits_for
bits_for-calm place cycles word = search faults_are

with_bits-calm : (place : Place) (cycles number : ℕ) (word : List ℕ) (given : Given) → FaultsAre Calm (with_bits place cycles number word given)
unfolding with_bits
with_bits-calm place cycles number word given = search (faults_are, bits_for-calm)

with_ready-calm : (place : Place) (cycles : ℕ) (heads : List Head) (text : List ℕ) (given : Given) → FaultsAre Calm (with_ready place cycles heads text given)
unfolding with_ready
with_ready-calm place cycles heads text given = search (faults_are, ready_line-calm, with_bits-calm)

order_in-calm : (place : Place) (count : ℕ) (words : List (List ℕ)) → FaultsAre Calm (order_in place count words)
unfolding order_in
order_in-calm place count words = search (faults_are, or_fault-calm)

order_of-calm : (place : Place) (count : ℕ) (line : List ℕ) → FaultsAre Calm (order_of place count line)
unfolding order_of
order_of-calm place count line = search (faults_are, order_in-calm)

with_order-calm : (place : Place) (cycles count : ℕ) (line : List ℕ) (given : Given) → FaultsAre Calm (with_order place cycles count line given)
unfolding with_order
with_order-calm place cycles count line given = search (faults_are, order_of-calm)

with_more-calm : (cycles : ℕ) (heads : List Head) (count : ℕ) (line : TextLine) (given : Given) → FaultsAre Calm (with_more cycles heads count line given)
unfolding with_more
with_more-calm cycles heads count line given = search (faults_are, with_ready-calm, with_order-calm)

given_of-calm : (cycles : ℕ) (heads : List Head) (count : ℕ) (given : Given) (lines : List TextLine) → FaultsAre Calm (given_of cycles heads count given lines)
given_of-calm cycles heads count given [] = FaultsAre-ok given
given_of-calm cycles heads count given (line ∷ lines) =
    FaultsAre-bind (with_more cycles heads count line given) _ (with_more-calm cycles heads count line given) (λ more. given_of-calm cycles heads count more lines)

-- ---- a text

next_of-calm : (end : Place) (lines : List TextLine) → FaultsAre Calm (next_of end lines)
next_of-calm end [] = search faults_are
next_of-calm end (line ∷ lines) = search faults_are

title_of-calm : (line : TextLine) → FaultsAre Calm (title_of line)
unfolding title_of
title_of-calm line = search faults_are

cycles_of-calm : (line : TextLine) → FaultsAre Calm (cycles_of line)
unfolding cycles_of
cycles_of-calm line = search faults_are

header_of-calm : (end : Place) (lines : List TextLine) → FaultsAre Calm (header_of end lines)
unfolding header_of
header_of-calm end lines = search (faults_are, next_of-calm, title_of-calm, cycles_of-calm) depth 9

run_in_lines-calm : (heads : List Head) (count : ℕ) (end : Place) (lines : List TextLine) → FaultsAre Calm (run_in_lines heads count end lines)
unfolding run_in_lines
run_in_lines-calm heads count end lines =
    FaultsAre-bind (header_of end lines) _ (header_of-calm end lines)
    (λ header. FaultsAre-bind (given_of header.0 heads count (nothing_given (length heads)) header.1) _ (given_of-calm header.0 heads count (nothing_given (length heads)) header.1) (λ given. FaultsAre-ok _))

-- the error of a run's text is never want of memory
pub runs_free : (bench : Bench) (text : List ℕ) → run_of bench text ≡ Err faults.Memory → ⊥
runs_free bench text is = let calm : Calm faults.Memory = IfErr-at_err Calm is (run_in_lines-calm bench.heads (length bench.procs) (end_of text) (lines_in text)).are in absurd cc
