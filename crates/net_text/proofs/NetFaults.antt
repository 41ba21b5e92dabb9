-- The fault of a net's text is never want of memory.
use Rattle.std.proofs.Common.{ℕ, List, [], ◌∷◌, length, Option, Some, None, IsSome}
use Rattle.std.proofs.lemmas.Result.{IfErr-at_err}
use Rattle.tydi_base.proofs.ReadingLaws.{FaultsAre, FaultsAre-bind, FaultsAre-err, FaultsAre-ok, faults_are}
use Rattle.tydi_base.specs.Reading.{or_fault}
use Rattle.tydi_base.specs.declared.place.Place.{Place}
use Rattle.type_split.specs.declared.split.Phys.{Phys}
use Rattle.net_text.specs.Faults.{fault_in}
use Rattle.net_text.specs.Laws.{NetsNeedNoMemory}
use Rattle.net_text.specs.Lines.{TextLine, lines_in}
use Rattle.net_text.specs.Text.{after_title, capacities_of, net_in_lines, net_with, no_net, order_of, order_of_words, stages_line, with_capacities, with_more, with_order, with_stages}
use Rattle.net_text.specs.declared.net.NetFault.{NetFault}
use Rattle.net_text.specs.declared.net.NetFault.TheVariants as faults
use Rattle.net_text.specs.declared.net.NetPlan.{NetPlan}

-- a fault that is no want of memory
abbrev Calm : NetFault → Type 0
Calm fault = IsSome (fault_in fault)

or_fault-calm : {A : Type 0} (fault : NetFault) (o : Option A) → Calm fault → FaultsAre Calm (or_fault fault o)
or_fault-calm fault None calm = FaultsAre-err fault calm
or_fault-calm fault (Some x) calm = FaultsAre-ok x

-- ---- lines

stages_line-calm : (place : Place) (streams : List Phys) (words : List (List ℕ)) → FaultsAre Calm (stages_line place streams words)
unfolding stages_line
stages_line-calm place streams [] = search faults_are
stages_line-calm place streams (word ∷ words) = search (faults_are, or_fault-calm) depth 9

capacities_of-calm : (place : Place) (words : List (List ℕ)) → FaultsAre Calm (capacities_of place words)
unfolding capacities_of
capacities_of-calm place words = search (faults_are, or_fault-calm) depth 9

with_capacities-calm : (place : Place) (number : ℕ) (words : List (List ℕ)) (net : NetPlan) → FaultsAre Calm (with_capacities place number words net)
unfolding with_capacities
with_capacities-calm place number words net = search (faults_are, capacities_of-calm)

with_stages-calm : (place : Place) (streams : List Phys) (text : List ℕ) (net : NetPlan) → FaultsAre Calm (with_stages place streams text net)
unfolding with_stages
with_stages-calm place streams text net = search (faults_are, stages_line-calm, with_capacities-calm)

order_of_words-calm : (place : Place) (count : ℕ) (words : List (List ℕ)) → FaultsAre Calm (order_of_words place count words)
unfolding order_of_words
order_of_words-calm place count words = search (faults_are, or_fault-calm)

order_of-calm : (place : Place) (count : ℕ) (line : List ℕ) → FaultsAre Calm (order_of place count line)
unfolding order_of
order_of-calm place count line = search (faults_are, order_of_words-calm)

with_order-calm : (place : Place) (cycles : ℕ) (line : List ℕ) (net : NetPlan) → FaultsAre Calm (with_order place cycles line net)
unfolding with_order
with_order-calm place cycles line net = search (faults_are, order_of-calm)

with_more-calm : (cycles : ℕ) (streams : List Phys) (line : TextLine) (net : NetPlan) → FaultsAre Calm (with_more cycles streams line net)
unfolding with_more
with_more-calm cycles streams line net = search (faults_are, with_stages-calm, with_order-calm)

net_with-calm : (cycles : ℕ) (streams : List Phys) (net : NetPlan) (lines : List TextLine) → FaultsAre Calm (net_with cycles streams net lines)
net_with-calm cycles streams net [] = FaultsAre-ok net
net_with-calm cycles streams net (line ∷ lines) =
    FaultsAre-bind (with_more cycles streams line net) _ (with_more-calm cycles streams line net) (λ more. net_with-calm cycles streams more lines)

-- ---- a text

after_title-calm : (lines : List TextLine) → FaultsAre Calm (after_title lines)
unfolding after_title
after_title-calm [] = search faults_are
after_title-calm (line ∷ lines) = search faults_are

net_in_lines-calm : (streams : List Phys) (cycles : ℕ) (lines : List TextLine) → FaultsAre Calm (net_in_lines streams cycles lines)
unfolding net_in_lines
net_in_lines-calm streams cycles lines = FaultsAre-bind (after_title lines) _ (after_title-calm lines) (λ more. net_with-calm cycles streams (no_net (length streams)) more)

-- the fault of a net's text is never want of memory
pub nets-need_no_memory : NetsNeedNoMemory
nets-need_no_memory streams cycles text is = let calm : Calm faults.Memory = IfErr-at_err Calm is (net_in_lines-calm streams cycles (lines_in text)).are in absurd cc
