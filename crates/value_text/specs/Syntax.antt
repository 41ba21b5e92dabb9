-- How a text is seen to have the form of a value. No public clause names these. This project's own.
use Rattle.std.specs.Prelude.{ℕ, zero, suc, true, false, List}
use Rattle.tydi_reading.specs.Lists.{followed, listed, mark, repeated}
use Rattle.tydi_reading.specs.Reading.{◌>>◌, ◌<<◌, ◌<$>◌, led}
use Rattle.tydi_reading.specs.Reading as reading
use Rattle.value_text.specs.declared.fault.Why.{Why}
use Rattle.value_text.specs.declared.opening.Opening.{Opening}
use Rattle.value_text.specs.declared.opening.Opening.TheVariants as openings
use Rattle.value_text.specs.Grammar.{most_levels}
use Rattle.value_text.specs.Tokens.{PlainToken}
use Rattle.value_text.specs.Words.{field_name, is_byte, is_spaced, leaf, opening, root_path, root_word}

-- a reader of tokens
abbrev pub Reader : Type 0 → Type 0
Reader A = reading.Reader Why PlainToken A

-- things are passed
abbrev pub passed : List (Unit {0}) → Unit {0}
passed items = tt

-- this byte
abbrev pub byte : ℕ → Reader (Unit {0})
byte value = mark (is_byte value)

-- a member by itself
abbrev pub leaf_word : Reader (Unit {0})
leaf_word = mark leaf

-- things with commas between them, and this byte
unfoldable pub items : ℕ → Reader (Unit {0}) → Reader (Unit {0})
items close item = passed <$> (listed (is_byte close) false (is_byte 44) item << mark (is_byte close))

-- a name before a colon, and a member
unfoldable pub field : Reader (Unit {0}) → Reader (Unit {0})
field item = mark field_name >> item

-- the content of the list, Group or variant that was opened, and its end
abbrev pub inside : Reader (Unit {0}) → Opening → Reader (Unit {0})
inside item openings.List = items 93 item
inside item openings.Group = items 125 (field item)
inside item openings.Variant = item << mark (is_byte 41)

-- a member, by those that it holds
unfoldable pub member_with : Reader (Unit {0}) → Reader (Unit {0})
member_with item = led opening (inside item) (mark leaf)

-- a member of at most so many levels
unfoldable pub member : ℕ → Reader (Unit {0})
member zero = mark leaf
member (suc levels) = member_with (member levels)

-- members one after another, and a semicolon
unfoldable pub series : Reader (Unit {0}) → Reader (Unit {0})
series item = passed <$> (followed (is_byte 59) false is_spaced item << mark (is_byte 59))

-- the line of a root
unfoldable pub root : Reader (Unit {0})
root = mark root_word >> (mark root_path >> series (member most_levels))

-- the lines of a text
unfoldable pub text : Reader (Unit {0})
text = passed <$> repeated (λ _. false) true root
