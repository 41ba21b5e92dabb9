-- Answers of the check of a link, and of more: the first fault, or the thing that is made. Want of memory says nothing. This
-- project's own.
use Rattle.std.specs.Prelude.{◌≡◌, ⊤, Option, Some, None, Result, Ok, Err}
use Rattle.link_check.specs.declared.fault.LinkFault.{LinkFault}
use Rattle.link_check.specs.declared.fault.LinkFault.TheVariants as faults

-- a fault of links is the one of these, or there was no memory
abbrev pub IsTold : Option LinkFault → LinkFault → Type 0
IsTold first (faults.UnknownEnd place) = first ≡ Some (faults.UnknownEnd place)
IsTold first (faults.SameSide place) = first ≡ Some (faults.SameSide place)
IsTold first (faults.NotCompatible place difference) = first ≡ Some (faults.NotCompatible place difference)
IsTold first (faults.LinkedTwice place) = first ≡ Some (faults.LinkedTwice place)
IsTold first (faults.Unlinked place) = first ≡ Some (faults.Unlinked place)
IsTold first faults.DesignTooLarge = ⊥
IsTold first faults.Memory = ⊤

-- where there is a first fault, it is reported, and else the value is good
abbrev pub Judges : {A : Type 0} → Option LinkFault → (A → Type 0) → Result A LinkFault → Type 0
Judges first Good (Ok value) = (first ≡ None) × Good value
Judges first Good (Err fault) = IsTold first fault
