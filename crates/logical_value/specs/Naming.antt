-- A word whose tags are read. It serves the reading, and no public clause.
use Rattle.std.specs.Prelude.{◌≡◌, ℕ, ◌+◌, ◌≤◌, Bool, if◌then◌else◌, List, length, take, drop, Option, Some, None}
use Rattle.logical_types.specs.Tree.{Ltype, Parts}
use Rattle.logical_types.specs.Width.{width_of, total_width, greatest_width}
use Rattle.logical_value.specs.Agreement.{names_variants, name_variants, names_in_variant}

-- so many bits stand from a place on, in a word that is no wider than an element
pub record CanPass (word : List Bool) (offset width : ℕ) : Type 0 where
  pub there : offset + width ≤ length word
  pub narrow : length word ≤ 4096

-- the place behind so many bits is found where each tag in them names a variant
abbrev pub Passes : List Bool → (offset width : ℕ) → Bool → Option ℕ → Type 0
Passes word offset width named result = CanPass word offset width → result ≡ (if named then Some (offset + width) else None)

-- the place behind a type's bits, from a place on
abbrev pub PassesType : List Bool → ℕ → Ltype → Option ℕ → Type 0
PassesType word offset ltype result = Passes word offset (width_of ltype) (names_variants ltype (take (width_of ltype) (drop offset word))) result

-- the place behind the bits of fields
abbrev pub PassesFields : List Bool → ℕ → Parts → Option ℕ → Type 0
PassesFields word offset parts result = Passes word offset (total_width parts) (name_variants parts (drop offset word)) result

-- whether there is a variant of this number, and each tag in it names a variant
abbrev pub NamesVariant : List Bool → ℕ → Parts → ℕ → Bool → Type 0
NamesVariant word offset parts tag result = CanPass word offset (greatest_width parts) → result ≡ names_in_variant parts tag (drop offset word)
