-- The laws of values and their texts (this project's own).
use Rattle.std.specs.Prelude.{◌≡◌, ℕ, Bool, true, List, map, Ok}
use Rattle.logical_value.specs.Fits.{fits_split}
use Rattle.logical_value.specs.Tree.{plain, plain_port}
use Rattle.logical_value.specs.declared.value.PortValue.{PortValue}
use Rattle.logical_value.specs.declared.value.Value.{Value}
use Rattle.type_split.specs.Streams.{IsPortSplit, PlainSplit}
use Rattle.value_text.specs.Canonical.{canonical}
use Rattle.value_text.specs.Port.{value_in}
use Rattle.value_text.specs.Printable.{HasNames, IsNamedSplit, IsSmall}
use Rattle.value_text.specs.Reading.{IsFaulty, IsValue}
use Rattle.value_text.specs.Tokens.{PlainToken}
use Rattle.value_text.specs.declared.fault.ValueFault.{ValueFault}
use Rattle.value_text.specs.declared.fault.ValueFault.TheVariants as faults

-- the series that tokens are, for a split, are a value of the port's type that was split
abbrev pub ReadSeriesFit : Type 0
ReadSeriesFit = (split : PlainSplit) (tokens : List PlainToken) (roots : List (List Value)) → value_in split tokens ≡ Ok roots → fits_split split (map (map plain) roots) ≡ true

-- the value that a text is, for a split, is a value of the port's type that was split
abbrev pub ReadValuesFit : Type 0
ReadValuesFit = (split : PlainSplit) (text : List ℕ) (value : PortValue) → IsValue split text value → fits_split split (plain_port value) ≡ true

-- a value that fits a split whose nodes and streams have names, and that is within the limits of a text: its canonical text, whatever the
-- user words, is that value for this split
abbrev pub ValuesAreReadAsPrinted : Type 0
ValuesAreReadAsPrinted = (split : PlainSplit) (value : PortValue) (users : List (List (List Bool))) → IsNamedSplit split → fits_split split (plain_port value) ≡ true
    → IsSmall (plain_port value) → IsValue split (canonical split (plain_port value) users) value

-- the nodes and streams of a split as `split_type` gives it, of a type whose fields and variants have names, have names
abbrev pub PortSplitsAreNamed : Type 0
PortSplitsAreNamed = (split : PlainSplit) (port : IsPortSplit split) → HasNames port.ltype → IsNamedSplit split

-- a text is one value for a split at most, and only want of memory is reported of it then
abbrev pub ValuesAreReadOnce : Type 0
ValuesAreReadOnce = (split : PlainSplit) (text : List ℕ) (value : PortValue) → IsValue split text value
    → ((other : PortValue) → IsValue split text other → other ≡ value) × ((fault : ValueFault) → IsFaulty split text fault → fault ≡ faults.Memory)
