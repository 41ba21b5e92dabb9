-- A text as a value of the port's type that was split, or why it is none, and where. This project's own.
use Rattle.std.specs.Prelude.{◌≡◌, ℕ, List, Some, None, Ok, Err}
use Rattle.tydi_base.specs.declared.place.Place.{Place}
use Rattle.logical_value.specs.declared.value.PortValue.{PortValue}
use Rattle.type_split.specs.Streams.{PlainSplit}
use Rattle.value_text.specs.declared.fault.ValueFault.{ValueFault}
use Rattle.value_text.specs.declared.fault.ValueFault.TheVariants as faults
use Rattle.value_text.specs.declared.fault.Why.{Why}
use Rattle.value_text.specs.declared.fault.Why.TheVariants as whys
use Rattle.value_text.specs.Grammar.{Text}
use Rattle.value_text.specs.Leaves.{most_leaves, surplus}
use Rattle.value_text.specs.Port.{place_at, value_in}
use Rattle.value_text.specs.Stops.{syntax_place}
use Rattle.value_text.specs.Tokens.{tokens_of}

-- a text of the form of a value, with at most 1,000,000 leaves
pub record IsText (text : List ℕ) : Type 0 where
  pub form : Text (tokens_of text)
  pub few : surplus most_leaves (tokens_of text) ≡ None

-- a text is this value
pub record IsValue (split : PlainSplit) (text : List ℕ) (value : PortValue) : Type 0 where
  pub well_formed : IsText text
  pub is : value_in split (tokens_of text) ≡ Ok value.roots

-- a text of the form is no value, first for this reason, and at this place
pub record IsUnfit (split : PlainSplit) (text : List ℕ) (why : Why) (place : Place) : Type 0 where
  pub well_formed : IsText text
  pub left : ℕ
  pub first : value_in split (tokens_of text) ≡ Err (why, left)
  pub at : place ≡ place_at text left

-- a text of the form has too many leaves, and the one that is one too many begins at this place
pub record HasTooMany (text : List ℕ) (place : Place) : Type 0 where
  pub form : Text (tokens_of text)
  pub left : ℕ
  pub one : surplus most_leaves (tokens_of text) ≡ Some left
  pub at : place ≡ place_at text left

-- a text has not the form, and stops being of the form at this place
pub record HasNoForm (text : List ℕ) (place : Place) : Type 0 where
  pub none : Text (tokens_of text) → ⊥
  pub at : place ≡ syntax_place text

-- why a text is no value: it has not the form, else too many leaves, else something in it does not fit; want of memory says nothing
abbrev pub IsFaulty : PlainSplit → List ℕ → ValueFault → Type 0
IsFaulty split text (faults.Syntax place) = HasNoForm text place
IsFaulty split text (faults.WrongShape place) = IsUnfit split text whys.WrongShape place
IsFaulty split text (faults.UnknownField place) = IsUnfit split text whys.UnknownField place
IsFaulty split text (faults.OutOfRange place) = IsUnfit split text whys.OutOfRange place
IsFaulty split text (faults.TooManyLeaves place) = HasTooMany text place
IsFaulty split text faults.Memory = Unit {0}
