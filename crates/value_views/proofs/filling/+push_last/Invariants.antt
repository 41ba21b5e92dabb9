use Rattle.std.proofs.Common.{◌≡◌, ◌++◌, length, map, reverse}
use Rattle.logical_value.specs.Tree as values
use Rattle.value_views.specs.Series.{leaves}
use Rattle.value_views.proofs.filling.+push_last.Given as goal

abbrev pub decreases-push_last : goal.decreases-push_last
decreases-push_last l = l.depth

abbrev pub decreases-rest : goal.decreases-rest
decreases-rest l = length l.rest

-- the leaves that are left stand before those in the queue
abbrev pub invariant-rest : goal.invariant-rest
invariant-rest l = leaves l.depth (map values.plain l.rest) ++ map values.plain (reverse l.queue)
    ≡ leaves l.depth (map values.plain l.fn.series) ++ map values.plain (reverse l.initial.queue)
