use Rattle.std.proofs.Common.{◌≡◌, ◌∷◌, drop}
use Rattle.tydi_base.specs.Name as spec
use Rattle.tydi_base.proofs.name.has_double_underscore.Given as goal

-- the bytes that are left decide for the whole name whether two `_` stand together
abbrev pub invariant-loop-byte : goal.invariant-loop-byte
invariant-loop-byte l = spec.has_double_underscore (l.previous ∷ drop l.byte-index l.text) ≡ spec.has_double_underscore l.fn.text
