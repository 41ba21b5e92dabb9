-- The laws of all runs (this project's own).
use Rattle.std.specs.Prelude.{◌≡◌, ℕ, Bool, true, List, [], ◌∷◌, ◌++◌, length, None, zero, suc, ◌+◌, ◌≤◌, false}
use Rattle.physical_stream.specs.Params.{Parameters}
use Rattle.physical_stream.specs.Counts.{transfers_of}
use Rattle.physical_stream.specs.Items.{items_of, items_of_all}
use Rattle.physical_stream.specs.Shape.{tail_of, is_whole}
use Rattle.physical_stream.specs.Ending.{ending_of}
use Rattle.physical_stream.specs.Breaks.{Breaks}
use Rattle.physical_stream.specs.declared.item.Item.{Item}
use Rattle.physical_stream.specs.declared.rule.Rule.{Rule}
use Rattle.physical_stream.specs.declared.end.End.TheVariants as ends
use Rattle.physical_stream.specs.declared.transfer.Transfer.{Transfer}
use Rattle.complexity_rules.specs.Waiting.{IsLowestShown}
use Rattle.physical_stream.specs.Cycles.{Cycle}
use Rattle.handshake.specs.Run.{IsRun, gap_of, run_of, undone}

-- each of these transfers, shown after these items and those of the ones before it, breaks no rule on what is shown
abbrev pub AreObedient : Parameters → List Item → List Transfer → Type 0
AreObedient p done [] = Unit {0}
AreObedient p done (t ∷ ts) = IsLowestShown p (tail_of done) t None × AreObedient p (done ++ items_of p t) ts

-- no run of such transfers breaks a rule, where their items leave nothing open
abbrev pub RunsAreLegal : Type 0
RunsAreLegal = (p : Parameters) (ts : List Transfer) (gaps : List ℕ) (ready : List Bool) → AreObedient p [] ts → is_whole p.dims (tail_of (items_of_all p ts)) ≡ true →
    (rule : Rule) (number : ℕ) → Breaks rule p (run_of p ts gaps ready) number → ⊥

-- and one in which all of them are done ends whole
abbrev pub RunsEndWhole : Type 0
RunsEndWhole = (p : Parameters) (ts : List Transfer) (gaps : List ℕ) (ready : List Bool) → AreObedient p [] ts → is_whole p.dims (tail_of (items_of_all p ts)) ≡ true →
    transfers_of (run_of p ts gaps ready) ≡ length ts → ending_of p (run_of p ts gaps ready) ≡ ends.Whole

-- a list of cycles is the run of these transfers exactly where it is what the function gives
abbrev pub OneRunIs : Type 0
OneRunIs = (p : Parameters) (ts : List Transfer) (gaps : List ℕ) (ready : List Bool) → IsRun p ts gaps ready (run_of p ts gaps ready) × ((cycles : List Cycle) → IsRun p ts gaps ready cycles → cycles ≡ run_of p ts gaps ready)

-- the sum of the effective gaps of so many transfers
abbrev pub gaps_below : Parameters → List Transfer → List ℕ → ℕ → ℕ
gaps_below p ts gaps zero = 0
gaps_below p ts gaps (suc t) = gaps_below p ts gaps t + gap_of p ts gaps t

-- how many ready bits are 1
abbrev pub ones_in : List Bool → ℕ
ones_in [] = 0
ones_in (true ∷ bits) = suc (ones_in bits)
ones_in (false ∷ bits) = ones_in bits

-- no transfer is left where as many ready bits are 1 as there are transfers and cycles of effective gaps
abbrev pub RunsFinish : Type 0
RunsFinish = (p : Parameters) (ts : List Transfer) (gaps : List ℕ) (ready : List Bool) → length ts + gaps_below p ts gaps (length ts) ≤ ones_in ready → undone p ts gaps ready ≡ 0
