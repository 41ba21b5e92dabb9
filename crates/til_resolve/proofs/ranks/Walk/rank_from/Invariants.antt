use Rattle.std.proofs.Common.{◌≡◌, length}
use Rattle.til_resolve.proofs.ranks.Walk.rank_from.Given as goal

-- as many ranks as before
abbrev pub invariant-open : goal.invariant-open
invariant-open l = length l.self.ranks.items ≡ length l.initial.self.ranks.items

abbrev pub decreases-open : goal.decreases-open
decreases-open l = length l.self.open.items
