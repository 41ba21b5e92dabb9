-- The laws of all words and values of an element (this project's own).
use Rattle.std.specs.Prelude.{◌≡◌, ◌↔◌, ℕ, Bool, true, List, length, Some, is_none}
use Rattle.logical_types.specs.Tree.{Ltype}
use Rattle.logical_types.specs.Width.{width_of}
use Rattle.logical_value.specs.Agreement.{Agrees, IsUnpacked, StandsForSome, bad_tag, cleared, names_variants}
use Rattle.logical_value.specs.Element.{IsElement, set_apart}
use Rattle.logical_value.specs.Fits.{fits_element}
use Rattle.logical_value.specs.Packed.{pack_of}
use Rattle.logical_value.specs.Tree.{Tree, plain, plain_port}
use Rattle.logical_value.specs.declared.value.PortValue.{PortValue}
use Rattle.logical_value.specs.declared.value.Value.{Value}

-- the word of a value stands for that value with what stands for its Streams apart
abbrev pub PackedIsUnpacked : Type 0
PackedIsUnpacked = (ltype : Ltype) (value : Tree) → IsElement ltype value → IsUnpacked ltype (pack_of ltype value) (set_apart ltype value)

-- the word of a value that a word stands for is that word with its ignored bits zero
abbrev pub UnpackedIsPacked : Type 0
UnpackedIsPacked = (ltype : Ltype) (bits : List Bool) (value : Tree) → length bits ≡ width_of ltype → Agrees ltype bits value → pack_of ltype value ≡ cleared ltype bits

-- a value that a word of the element's width stands for is a value of the element, which has a word
abbrev pub UnpackedAreElements : Type 0
UnpackedAreElements = (ltype : Ltype) (bits : List Bool) (value : Tree) → length bits ≡ width_of ltype → Agrees ltype bits value → IsElement ltype value

-- a word stands for one value at most
abbrev pub OneValue : Type 0
OneValue = (ltype : Ltype) (bits : List Bool) (one other : Tree) → IsUnpacked ltype bits one → IsUnpacked ltype bits other → one ≡ other

-- a word with a tag that names no variant, of those that are read, agrees with no value
abbrev pub BadTagsAgreeWithNone : Type 0
BadTagsAgreeWithNone = (ltype : Ltype) (bits : List Bool) (names path : List (List ℕ)) (value : Tree) → bad_tag names ltype bits ≡ Some path → Agrees ltype bits value → ⊥

-- a value that fits a type in a series is a value of an element, which has a word
abbrev pub FitsAreElements : Type 0
FitsAreElements = (ltype : Ltype) (value : Tree) → fits_element ltype value ≡ true → IsElement ltype value

-- a word that stands for a value agrees with a value of the element exactly where this, with its Streams apart, is that value
abbrev pub AgreesWithOne : Type 0
AgreesWithOne = (ltype : Ltype) (bits : List Bool) (one value : Tree) → IsUnpacked ltype bits one → IsElement ltype value → Agrees ltype bits value ↔ (set_apart ltype value ≡ one)

-- each tag that is read names a variant exactly where the word stands for some value
abbrev pub NamesWhereItStands : Type 0
NamesWhereItStands = (ltype : Ltype) (bits : List Bool) → (names_variants ltype bits ≡ true) ↔ StandsForSome ltype bits

-- and exactly where there is no bad tag
abbrev pub NamesWhereNoneIsBad : Type 0
NamesWhereNoneIsBad = (names : List (List ℕ)) (ltype : Ltype) (bits : List Bool) → names_variants ltype bits ≡ is_none (bad_tag names ltype bits)

-- values with one plain form are the same, those of a port's type and those in them
abbrev pub PlainIsOneToOne : Type 0
PlainIsOneToOne = ((one other : PortValue) → plain_port one ≡ plain_port other → one ≡ other) × ((one other : Value) → plain one ≡ plain other → one ≡ other)

-- the word of a value of an element is as wide as the element
abbrev pub PackedHasWidth : Type 0
PackedHasWidth = (ltype : Ltype) (value : Tree) → IsElement ltype value → length (pack_of ltype value) ≡ width_of ltype
