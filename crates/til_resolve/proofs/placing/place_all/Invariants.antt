use Rattle.std.proofs.Common.{take}
use Rattle.std.specs.List.{flat_map}
use Rattle.til_resolve.specs.Declarations.{declared_in}
use Rattle.til_resolve.specs.Placing.{IsPlaced}
use Rattle.til_resolve.proofs.placing.place_all.Given as goal

-- the declarations of the namespaces so far
abbrev pub invariant-namespaces : goal.invariant-namespaces
invariant-namespaces l = IsPlaced l.placing (flat_map declared_in (take l.namespace-index l.namespace-items))
