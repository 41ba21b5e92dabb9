-- The grammar of a value's text: which tokens have the form of members, of the lines of roots, and of a text. This project's own. No
-- reader is in it.
use Rattle.std.specs.Prelude.{◌≡◌, ◌⊎◌, ℕ, zero, suc, Bool, true, List, [], ◌∷◌}
use Rattle.tydi_reading.specs.Forms.{◌⋯◌, Form}
use Rattle.tydi_reading.specs.Lists.{Each, Followed, Listed}
use Rattle.value_text.specs.declared.opening.Opening.{Opening}
use Rattle.value_text.specs.declared.opening.Opening.TheVariants as openings
use Rattle.value_text.specs.Tokens.{PlainToken}
use Rattle.value_text.specs.Words.{field_name, is_byte, is_spaced, leaf, opening, root_path, root_word}
use Rattle.std.specs.Prelude.{Some}

-- one token, of which a test holds
abbrev pub Is : (PlainToken → Bool) → Form PlainToken
Is test ts = (token : PlainToken) × (ts ≡ token ∷ []) × (test token ≡ true)

-- one token that is this byte
abbrev pub Byte : ℕ → Form PlainToken
Byte byte = Is (is_byte byte)

-- one token that opens this
abbrev pub Opens : Opening → Form PlainToken
Opens what ts = (token : PlainToken) × (ts ≡ token ∷ []) × (opening token ≡ Some what)

-- any number of things of one form, with a comma between each two
abbrev pub Commas : Form PlainToken → Form PlainToken
Commas Item ts = (items : List (Unit {0})) × Listed (Byte 44) (λ _. Item) items ts

-- a name before a colon, and what has this form
abbrev pub Field : Form PlainToken → Form PlainToken
Field Member = Is field_name ⋯ Member

-- the content of what was opened, and its end: members of a list, fields in braces, the member of a variant
abbrev pub Inside : Form PlainToken → Opening → Form PlainToken
Inside Member openings.List = Commas Member ⋯ Byte 93
Inside Member openings.Group = Commas (Field Member) ⋯ Byte 125
Inside Member openings.Variant = Member ⋯ Byte 41

-- a member in which nothing nests deeper than so many levels: a word alone, or what is opened
abbrev pub Member : ℕ → Form PlainToken
Member zero ts = Is leaf ts
Member (suc levels) ts = ((what : Opening) × ((Opens what ⋯ Inside (Member levels) what) ts)) ⊎ Is leaf ts

-- how deep members may nest
abbrev pub most_levels : ℕ
most_levels = 2200

-- members one after another, with white space or a comment between each two, and a semicolon
abbrev pub Series : Form PlainToken → Form PlainToken
Series Item = (λ ts. (items : List (Unit {0})) × Followed is_spaced (λ _. Item) items ts) ⋯ Byte 59

-- the line of a root
abbrev pub Root : Form PlainToken
Root = Is root_word ⋯ Is root_path ⋯ Series (Member most_levels)

-- a text: any number of lines of roots
abbrev pub Text : Form PlainToken
Text ts = (roots : List (Unit {0})) × Each (λ _. Root) roots ts
