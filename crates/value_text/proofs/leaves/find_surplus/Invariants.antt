use Rattle.std.proofs.Common.{◌≡◌, length}
use Rattle.value_text.specs.Leaves.{surplus}
use Rattle.value_text.specs.Tokens.{tokens_of}
use Rattle.value_text.proofs.leaves.find_surplus.Given as goal

-- the leaf that is looked for is among those that are left
abbrev pub invariant-tokens : goal.invariant-tokens
invariant-tokens l = surplus l.room l.tokens ≡ surplus l.most (tokens_of l.text)

abbrev pub decreases-tokens : goal.decreases-tokens
decreases-tokens l = length l.tokens
