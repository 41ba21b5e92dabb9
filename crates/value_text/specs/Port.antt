-- A text of the form as a value of the port's type that was split: the series of its roots, in their order. This project's own.
use Rattle.std.specs.Prelude.{ℕ, ◌-◌, Bool, false, List, [], ◌∷◌, ◌++◌, length, take, Option, Some, None, slice_get, Result, Ok, Err}
use Rattle.tydi_base.specs.Path.{path_text}
use Rattle.tydi_base.specs.Places.{place_past, start}
use Rattle.tydi_base.specs.declared.place.Place.{Place}
use Rattle.tydi_reading.specs.Lists.{repeated}
use Rattle.tydi_reading.specs.Reading.{Outcome, took, stopped, ◌>>=◌, ◌>>◌, ◌<<◌, ◌<$>◌, pure}
use Rattle.tydi_reading.specs.declared.fault.Fault.TheVariants as faults
use Rattle.logical_value.specs.declared.value.Value.{Value}
use Rattle.type_split.specs.Nodes.{StreamNode}
use Rattle.type_split.specs.Streams.{PlainSplit}
use Rattle.value_text.specs.declared.fault.ValueFault.{ValueFault}
use Rattle.value_text.specs.declared.fault.ValueFault.TheVariants as values
use Rattle.value_text.specs.declared.fault.Why.{Why}
use Rattle.value_text.specs.declared.fault.Why.TheVariants as whys
use Rattle.value_text.specs.Syntax.{Reader}
use Rattle.value_text.specs.Tokens.{PlainToken}
use Rattle.value_text.specs.Typed.{element, nest, shaped, wrong}
use Rattle.value_text.specs.Words.{is_byte, is_path_text_of, root_word}

-- a token is this path, and its `=`
abbrev pub is_path_of : List (List ℕ) → PlainToken → Bool
is_path_of path = is_path_text_of (path_text path)

-- values up to a semicolon
unfoldable pub series_values : Reader Value → Reader (List Value)
series_values item = repeated (is_byte 59) false item << shaped (is_byte 59)

-- the line of a root of this node
unfoldable pub root_line : StreamNode → Reader (List Value)
root_line node = shaped root_word >> (shaped (is_path_of node.path) >> series_values (nest (element node.element) node.params.dims))

-- the line of a root, by its node
abbrev pub root_of : Option StreamNode → Reader (List Value)
root_of None = wrong whys.WrongShape
root_of (Some node) = root_line node

-- one series more, behind those that are found
unfoldable pub next_root : Reader (List Value) → List (List Value) → Reader (List (List Value))
next_root line found = (λ series. found ++ series ∷ []) <$> line

-- the lines of these roots, behind the series that are found
abbrev pub roots_from : List StreamNode → List ℕ → List (List Value) → Reader (List (List Value))
roots_from nodes [] found = pure found
roots_from nodes (root ∷ roots) found = next_root (root_of (slice_get nodes root)) found >>= roots_from nodes roots

-- no line is left; one more is reported at its path
unfoldable pub no_more : Reader (Unit {0})
no_more [] = took tt []
no_more (token ∷ rest) = wrong whys.WrongShape rest

-- the lines of a port's roots
unfoldable pub port : PlainSplit → Reader (List (List Value))
port split = roots_from split.nodes split.roots [] << no_more

-- how many bytes there are from the next token on
abbrev pub left_of : List PlainToken → ℕ
left_of [] = 0
left_of (token ∷ rest) = token.left

-- the value that is read, or why there is none, and how many bytes there are from there on: a token that nothing asks for is of another shape
abbrev pub valued : Outcome Why PlainToken (List (List Value)) → Result (List (List Value)) (Why × ℕ)
valued (took value rest) = Ok value
valued (stopped (faults.Unfit why) rest) = Err (why, left_of rest)
valued (stopped faults.Refused rest) = Err (whys.WrongShape, left_of rest)
valued (stopped faults.Memory rest) = Err (whys.WrongShape, left_of rest)

-- the value of a port that tokens are
abbrev pub value_in : PlainSplit → List PlainToken → Result (List (List Value)) (Why × ℕ)
value_in split tokens = valued (port split tokens)

-- the place in a text from which on there are so many bytes
abbrev pub place_at : List ℕ → ℕ → Place
place_at text left = place_past start (take (length text - left) text)

-- the fault of this reason at a place
abbrev pub fault_of : Why → Place → ValueFault
fault_of whys.WrongShape place = values.WrongShape place
fault_of whys.UnknownField place = values.UnknownField place
fault_of whys.OutOfRange place = values.OutOfRange place
