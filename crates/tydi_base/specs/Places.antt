-- Where bytes of a text stand. This project's own.
use Rattle.std.specs.Prelude.{◌≡◌, ℕ, ◌+◌, ◌==◌, List, [], ◌∷◌, take, if◌then◌else◌}
use Rattle.tydi_base.specs.declared.place.Place.{Place}

-- the place of the first byte of a text
abbrev pub start : Place
start = record { offset = 0; line = 1; column = 1 }

-- the place so many bytes further on in a line
abbrev pub along : Place → ℕ → Place
along place count = record { offset = place.offset + count; line = place.line; column = place.column + count }

-- the place after a byte at this place: an LF ends its line, and each other byte is one column
abbrev pub place_after : Place → ℕ → Place
place_after place byte =
    if byte == 10 then record { offset = place.offset + 1; line = place.line + 1; column = 1 }
    else along place 1

-- the place after bytes of which the first stands at this place
abbrev pub place_past : Place → List ℕ → Place
place_past place [] = place
place_past place (byte ∷ bytes) = place_past (place_after place byte) bytes

-- a place is that of its byte in a text
abbrev pub IsPlaceIn : List ℕ → Place → Type 0
IsPlaceIn text place = place ≡ place_past start (take place.offset text)
