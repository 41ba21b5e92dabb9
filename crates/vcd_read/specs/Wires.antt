-- What is kept of each code (this project's own).
use Rattle.std.specs.Prelude.{◌≡◌, ℕ, ◌≤◌, Bool, false, ◌==◌, nat_le, if◌then◌else◌, List, length, slice_get, Option, Some, None, IfSome}
use Rattle.vcd_read.specs.History.{Part, before_block, declared_width, states_at, word_at}
use Rattle.vcd_read.specs.Numbers.{number_of}
use Rattle.vcd_read.specs.declared.wire.Wire.{Wire}
use Rattle.vcd_read.specs.declared.wires.Wires.{Wires}

-- the word of a code before the last block, which has this number
abbrev pub word_before : Wire → ℕ → Option (List Bool)
word_before wire block = if wire.block == block then wire.earlier else wire.current

-- the same of a code that is found
abbrev pub before_of : Option Wire → ℕ → Option (List Bool)
before_of None block = None
before_of (Some wire) block = word_before wire block

abbrev pub width_in : Option Wire → Option ℕ
width_in None = None
width_in (Some wire) = Some wire.width

-- a width, and no bits where there is none
abbrev pub width_or_none : Option ℕ → ℕ
width_or_none None = 0
width_or_none (Some width) = width

-- so many states are not more than the bits
abbrev pub has_room : Option ℕ → ℕ → Bool
has_room None count = false
has_room (Some width) count = nat_le count width

abbrev pub is_one : Option ℕ → Bool
is_one None = false
is_one (Some width) = width == 1

abbrev pub current_of : Option Wire → Option (List Bool)
current_of None = None
current_of (Some wire) = wire.current

-- a code after a change in this block
abbrev pub changed : Wire → ℕ → Option (List Bool) → Wire
changed wire block word = record { width = wire.width; block = block; earlier = word_before wire block; current = word }

-- a word has this width
abbrev pub IsWide : ℕ → Option (List Bool) → Type 0
IsWide width word = IfSome word (λ bits. length bits ≡ width)

-- what is kept of a code is what it is after these parts, the last block of which has this number
pub record IsWire (wire : Wire) (block : ℕ) (code : List ℕ) (parts : List Part) : Type 0 where
  pub width : declared_width code parts ≡ Some wire.width
  pub current : wire.current ≡ word_at code parts
  pub earlier : word_before wire block ≡ word_at code (before_block parts)
  pub past : wire.block ≤ block
  pub current_wide : IsWide wire.width wire.current
  pub earlier_wide : IsWide wire.width wire.earlier

-- a code that is not declared has no values
pub record IsUndeclared (code : List ℕ) (parts : List Part) : Type 0 where
  pub width : declared_width code parts ≡ None
  pub current : states_at code parts ≡ None
  pub earlier : states_at code (before_block parts) ≡ None

-- a code of this number is kept so
abbrev pub IsKept : List Wire → ℕ → List ℕ → List Part → Option ℕ → Type 0
IsKept wires block code parts None = IsUndeclared code parts
IsKept wires block code parts (Some number) = (wire : Wire) × ((slice_get wires number ≡ Some wire) × IsWire wire block code parts)

-- all codes are kept so
pub record AreWires (codes : List (List ℕ)) (wires : List Wire) (block : ℕ) (parts : List Part) : Type 0 where
  pub long : length wires ≡ length codes
  pub each : (code : List ℕ) → IsKept wires block code parts (number_of codes code)

abbrev pub StandFor : Wires → List Part → Type 0
StandFor wires parts = AreWires wires.codes wires.wires wires.block parts
