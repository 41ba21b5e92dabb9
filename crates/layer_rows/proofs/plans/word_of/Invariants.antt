use Rattle.std.proofs.Common.{◌≡◌, length}
use Rattle.layer_rows.proofs.plans.word_of.Given as goal

-- the word keeps its width
abbrev pub invariant-bits : goal.invariant-bits
invariant-bits l = length l.word ≡ l.width
