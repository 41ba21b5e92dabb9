-- The error of a plan's text is never want of memory.
use Rattle.std.proofs.Common.{◌≡◌, ℕ, Bool, List, [], ◌∷◌, Option, Some, None, Result, Ok, Err, IsSome, refl}
use Rattle.std.proofs.lemmas.Result.{IfErr-at_err}
use Rattle.tydi_base.proofs.ReadingLaws.{FaultsAre, FaultsAre-bind, FaultsAre-cond, FaultsAre-err, FaultsAre-ok, faults_are}
use Rattle.tydi_base.specs.HexWords.{hex_fault, hex_word, in_width, value_in_width}
use Rattle.tydi_base.specs.Pieces.{words_of}
use Rattle.tydi_base.specs.Reading.{or_fault}
use Rattle.tydi_base.specs.declared.hex_word.BitsFault.{BitsFault}
use Rattle.tydi_base.specs.declared.hex_word.BitsFault.TheVariants as bits
use Rattle.tydi_base.specs.declared.place.Place.{Place}
use Rattle.physical_stream.specs.Params.{Parameters}
use Rattle.type_split.specs.declared.split.Phys.{Phys}
use Rattle.plan_text.specs.Blocks.{begun_by, blocks_of, in_block, new_block, read_plans, with_begun, with_gaps, with_line, with_more, with_ready, with_users, with_wishes}
use Rattle.plan_text.specs.Faults.{fault_in}
use Rattle.plan_text.specs.Lines.{TextLine, lines_in, told}
use Rattle.plan_text.specs.Text.{cycles_of, end_of, header_of, next_of, plan_in_lines, plan_of, title_of}
use Rattle.plan_text.specs.Words.{each, gap_of, ready_of, user_in, user_of, users_of, wish_of, wish_with, wishes_of}
use Rattle.plan_text.specs.declared.fault.PlanFault.{PlanFault}
use Rattle.plan_text.specs.declared.fault.PlanFault.TheVariants as faults
use Rattle.plan_text.specs.declared.plan.StreamPlan.{StreamPlan}

-- an error that is no want of memory
abbrev Calm : PlanFault → Type 0
Calm fault = IsSome (fault_in fault)

or_fault-calm : {A : Type 0} (fault : PlanFault) (o : Option A) → Calm fault → FaultsAre Calm (or_fault fault o)
or_fault-calm fault None calm = FaultsAre-err fault calm
or_fault-calm fault (Some x) calm = FaultsAre-ok x

each-calm : {A : Type 0} (read : List ℕ → Result A PlanFault) → ((word : List ℕ) → FaultsAre Calm (read word)) → (words : List (List ℕ)) → FaultsAre Calm (each read words)
each-calm read calm [] = FaultsAre-ok []
each-calm read calm (word ∷ words) =
    FaultsAre-bind (read word) _ (calm word) (λ first. FaultsAre-bind (each read words) _ (each-calm read calm words) (λ more. FaultsAre-ok (first ∷ more)))

-- ---- words

gap_of-calm : (place : Place) (word : List ℕ) → FaultsAre Calm (gap_of place word)
unfolding gap_of
gap_of-calm place word = search (faults_are, or_fault-calm)

ready_of-calm : (place : Place) (cycles : ℕ) (word : List ℕ) → FaultsAre Calm (ready_of place cycles word)
unfolding ready_of
ready_of-calm place cycles word = search faults_are

wish_of-calm : (place : Place) (word : List ℕ) → FaultsAre Calm (wish_of place word)
unfolding wish_of wish_with
wish_of-calm place word = search (faults_are, or_fault-calm)

wishes_of-calm : (place : Place) (lanes : ℕ) (words : List (List ℕ)) → FaultsAre Calm (wishes_of place lanes words)
unfolding wishes_of
wishes_of-calm place lanes words = FaultsAre-bind (each (wish_of place) words) _ (each-calm (wish_of place) (wish_of-calm place) words) (λ wishes. search faults_are)

-- an error of a word of bits that is no want of memory
abbrev CalmBits : BitsFault → Type 0
CalmBits fault = IsSome (hex_fault fault)

in_width-calm : (width : ℕ) (word : List Bool) (found : Option ℕ) → FaultsAre CalmBits (in_width width word found)
unfolding in_width
in_width-calm width word None = search faults_are
in_width-calm width word (Some index) = search faults_are

value-calm : (width : ℕ) (word : List Bool) (found : Option ℕ) → FaultsAre CalmBits (value_in_width width word found)
unfolding value_in_width
value-calm width word None = search (faults_are, in_width-calm)
value-calm width word (Some index) = search faults_are

hex_word-calm : (width : ℕ) (word : List ℕ) → FaultsAre CalmBits (hex_word width word)
unfolding hex_word
hex_word-calm width word = search (faults_are, value-calm)

user_in-calm : (place : Place) (read : Result (List Bool) BitsFault) → FaultsAre CalmBits read → FaultsAre Calm (user_in place read)
user_in-calm place (Ok word) calm = FaultsAre-ok word
user_in-calm place (Err (bits.NotHex index)) calm = FaultsAre-err (faults.Syntax place) refl
user_in-calm place (Err (bits.TooWide index)) calm = FaultsAre-err (faults.UserTooWide place) refl
user_in-calm place (Err bits.Memory) calm = let no : IsSome (hex_fault bits.Memory) = calm.are in absurd cc

users_of-calm : (place : Place) (width : ℕ) (words : List (List ℕ)) → FaultsAre Calm (users_of place width words)
unfolding users_of
users_of-calm place width words =
    FaultsAre-cond _ _ _ (each-calm (user_of place width) (λ word. user_in-calm place (hex_word width word) (hex_word-calm width word)) words) (FaultsAre-err (faults.Syntax place) refl)

-- ---- lines

with_gaps-calm : (place : Place) (text : List ℕ) (plan : StreamPlan) → FaultsAre Calm (with_gaps place text plan)
unfolding with_gaps
with_gaps-calm place text plan =
    FaultsAre-cond _ _ _ (FaultsAre-bind (each (gap_of place) (words_of text)) _ (each-calm (gap_of place) (gap_of-calm place) (words_of text)) (λ gaps. FaultsAre-ok _)) (FaultsAre-err (faults.Syntax place) refl)

with_ready-calm : (place : Place) (cycles : ℕ) (word : List ℕ) (plan : StreamPlan) → FaultsAre Calm (with_ready place cycles word plan)
unfolding with_ready
with_ready-calm place cycles word plan = search (faults_are, ready_of-calm)

with_wishes-calm : (place : Place) (lanes : ℕ) (text : List ℕ) (plan : StreamPlan) → FaultsAre Calm (with_wishes place lanes text plan)
unfolding with_wishes
with_wishes-calm place lanes text plan = search (faults_are, wishes_of-calm)

with_users-calm : (place : Place) (width : ℕ) (text : List ℕ) (plan : StreamPlan) → FaultsAre Calm (with_users place width text plan)
unfolding with_users
with_users-calm place width text plan = search (faults_are, users_of-calm)

with_line-calm : (place : Place) (cycles : ℕ) (p : Parameters) (line : List ℕ) (plan : StreamPlan) → FaultsAre Calm (with_line place cycles p line plan)
unfolding with_line
with_line-calm place cycles p line plan = search (faults_are, with_gaps-calm, with_ready-calm, with_wishes-calm, with_users-calm) depth 9

new_block-calm : (place : Place) (found : _) (stream : ℕ × Parameters) → FaultsAre Calm (new_block place found stream)
new_block-calm place found stream = search faults_are

begun_by-calm : (place : Place) (streams : List Phys) (found : _) (text : List ℕ) → FaultsAre Calm (begun_by place streams found text)
unfolding begun_by
begun_by-calm place streams found text = search (faults_are, or_fault-calm, new_block-calm)

with_begun-calm : (place : Place) (streams : List Phys) (found : _) (text : List ℕ) → FaultsAre Calm (with_begun place streams found text)
unfolding with_begun
with_begun-calm place streams found text = search (faults_are, begun_by-calm)

in_block-calm : (cycles : ℕ) (line : TextLine) (found : _) → FaultsAre Calm (in_block cycles line found)
unfolding in_block
in_block-calm cycles line [] = search faults_are
in_block-calm cycles line (block ∷ before) = search (faults_are, with_line-calm)

with_more-calm : (cycles : ℕ) (streams : List Phys) (line : TextLine) (found : _) → FaultsAre Calm (with_more cycles streams line found)
unfolding with_more
with_more-calm cycles streams line found = search (faults_are, with_begun-calm, in_block-calm)

blocks_of-calm : (cycles : ℕ) (streams : List Phys) (found : _) (lines : List TextLine) → FaultsAre Calm (blocks_of cycles streams found lines)
blocks_of-calm cycles streams found [] = FaultsAre-ok found
blocks_of-calm cycles streams found (line ∷ lines) =
    FaultsAre-bind (with_more cycles streams line found) _ (with_more-calm cycles streams line found) (λ more. blocks_of-calm cycles streams more lines)

read_plans-calm : (cycles : ℕ) (streams : List Phys) (lines : List TextLine) → FaultsAre Calm (read_plans cycles streams lines)
unfolding read_plans
read_plans-calm cycles streams lines = FaultsAre-bind (blocks_of cycles streams [] lines) _ (blocks_of-calm cycles streams [] lines) (λ found. FaultsAre-ok _)

-- ---- a text

next_of-calm : (end : Place) (lines : List TextLine) → FaultsAre Calm (next_of end lines)
next_of-calm end [] = search faults_are
next_of-calm end (line ∷ lines) = search faults_are

title_of-calm : (line : TextLine) → FaultsAre Calm (title_of line)
unfolding title_of
title_of-calm line = search faults_are

cycles_of-calm : (line : TextLine) → FaultsAre Calm (cycles_of line)
unfolding cycles_of
cycles_of-calm line = search faults_are

header_of-calm : (end : Place) (lines : List TextLine) → FaultsAre Calm (header_of end lines)
unfolding header_of
header_of-calm end lines = search (faults_are, next_of-calm, title_of-calm, cycles_of-calm) depth 9

plan_in_lines-calm : (streams : List Phys) (end : Place) (lines : List TextLine) → FaultsAre Calm (plan_in_lines streams end lines)
unfolding plan_in_lines
plan_in_lines-calm streams end lines = search (faults_are, header_of-calm, read_plans-calm)

-- the error of a plan's text is never want of memory
pub plans_free : (streams : List Phys) (text : List ℕ) → plan_of streams text ≡ Err faults.Memory → ⊥
plans_free streams text is = let calm : Calm faults.Memory = IfErr-at_err Calm is (plan_in_lines-calm streams (end_of text) (told (lines_in text))).are in absurd cc
