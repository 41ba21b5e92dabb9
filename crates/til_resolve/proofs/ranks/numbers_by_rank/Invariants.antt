use Rattle.std.proofs.Common.{◌≡◌, ◌+◌, length}
use Rattle.til_resolve.specs.Graph.{AreByRank}
use Rattle.til_resolve.proofs.ranks.numbers_by_rank.Given as goal

-- each number before this one was put at its rank, and the order is as long as before
abbrev pub invariant-numbers : goal.invariant-numbers
invariant-numbers l = (length l.order.items ≡ length l.ranks + 1) × AreByRank l.ranks l.order.items l.number
