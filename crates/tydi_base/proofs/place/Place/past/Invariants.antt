use Rattle.std.proofs.Common.{◌≡◌, take}
use Rattle.tydi_base.specs.Places.{place_past}
use Rattle.tydi_base.proofs.place.Place.past.Given as goal

-- the place after the bytes so far
abbrev pub invariant-bytes : goal.invariant-bytes
invariant-bytes l = l.place ≡ place_past l.fn.self (take l.byte-index l.piece)
