use Rattle.std.proofs.Common.{◌≡◌, length}
use Rattle.value_text.specs.Words.{are_names}
use Rattle.value_text.proofs.words.are_names.Given as goal

-- all are names where those that are left are
abbrev pub invariant-names : goal.invariant-names
invariant-names l = are_names l.rest ≡ are_names l.text

abbrev pub decreases-names : goal.decreases-names
decreases-names l = length l.rest
