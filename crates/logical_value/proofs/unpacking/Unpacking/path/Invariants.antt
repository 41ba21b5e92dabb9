use Rattle.std.proofs.Common.{◌≡◌, ℕ, List, take, map}
use Rattle.std.specs.Borrow.{Bor}
use Rattle.logical_value.proofs.unpacking.Unpacking.path.Given as goal

-- the names so far
abbrev pub invariant-names : goal.invariant-names
invariant-names l = l.path ≡ map (λ (name : Bor (List ℕ)). name.now) (take l.name-index l.name-items)
