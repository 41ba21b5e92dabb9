use Rattle.std.proofs.Common.{◌≡◌, take}
use Rattle.tydi_base.proofs.try_clone.ListTryClone.try_clone.Given as goal

-- the copies so far
abbrev pub invariant-elements : goal.invariant-elements
invariant-elements g l = l.copy ≡ take l.element-index l.element-items
