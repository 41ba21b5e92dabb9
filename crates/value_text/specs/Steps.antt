-- The effect of a function that judges one token. It serves the reading, and no public clause.
use Rattle.std.specs.Prelude.{◌≡◌, Result, Ok, Err}
use Rattle.tydi_reading.specs.declared.fault.Fault.{Fault}
use Rattle.tydi_reading.specs.declared.fault.Fault.TheVariants as faults
use Rattle.value_text.specs.declared.fault.Why.{Why}

-- the fault is that the token is unfit for this reason, unless memory ran out
abbrev pub IsUnfit : {A : Type 0} → Result A Why → Fault Why → Type 0
IsUnfit wanted faults.Refused = ⊥
IsUnfit wanted (faults.Unfit why) = wanted ≡ Err why
IsUnfit wanted faults.Memory = Unit {0}

-- a function gives its result, unless memory ran out
abbrev pub Judges : {A : Type 0} → Result A Why → Result A (Fault Why) → Type 0
Judges wanted (Ok x) = wanted ≡ Ok x
Judges wanted (Err e) = IsUnfit wanted e
