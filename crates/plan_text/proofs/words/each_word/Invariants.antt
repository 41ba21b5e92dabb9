use Rattle.std.proofs.Common.{◌≡◌, ℕ, List, Result, length}
use Rattle.tydi_base.specs.Pieces.{words_of}
use Rattle.plan_text.specs.Words.{DoesRead, each}
use Rattle.plan_text.specs.declared.fault.PlanFault.{PlanFault}
use Rattle.plan_text.proofs.WordLemmas.{behind}
use Rattle.plan_text.proofs.words.each_word.Given as goal

-- the values of the rest, behind those that were found, are those of all
abbrev pub invariant-words : goal.invariant-words
invariant-words g l = (reader : List ℕ → Result g.row.T.Denot PlanFault) → DoesRead g.F.Fn l.read reader → behind l.found (each reader (words_of l.rest)) ≡ each reader (words_of l.fn.text)

abbrev pub decreases-words : goal.decreases-words
decreases-words g l = length l.rest
