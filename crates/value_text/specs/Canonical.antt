-- The canonical text of a value of a port's type, by recursion on the type and the value. This project's own.
use Rattle.std.specs.Prelude.{ℕ, zero, suc, Bool, nat_lt, if◌then◌else◌, List, [], ◌∷◌, ◌++◌, length, Option, Some, None, slice_get, codes, decimal}
use Rattle.std.specs.List.{flat_map}
use Rattle.tydi_base.specs.Bits.{number_of_bits}
use Rattle.tydi_base.specs.Hex.{hex_of}
use Rattle.tydi_base.specs.Path.{path_text}
use Rattle.logical_types.specs.Synchronicity.{is_apart}
use Rattle.logical_types.specs.Tree.{Ltype, Parts}
use Rattle.logical_types.specs.Tree as types
use Rattle.type_split.specs.Nodes.{StreamNode}
use Rattle.type_split.specs.Streams.{PlainSplit}
use Rattle.type_split.specs.declared.split.Phys.{Phys}
use Rattle.logical_value.specs.Tree.{Tree, word, group, union, list, Trees, no_trees, tree, trees_of}

-- one text and then another, from the right: so a text is its first part and then the others
infixr 6 ◌⁀◌
abbrev pub ◌⁀◌ : List ℕ → List ℕ → List ℕ
one ⁀ other = one ++ other

-- ---- words

-- the number of a word that is written in decimal: one of at most 128 bits
abbrev pub short_number : List Bool → Option ℕ
short_number bits = if nat_lt 128 (length bits) then None else Some (number_of_bits bits)

-- a number in decimal, or a word in hexadecimal with a digit for each four bits
abbrev pub number_or_hex : Option ℕ → List Bool → List ℕ
number_or_hex (Some number) bits = decimal number
number_or_hex None bits = codes "0x" ++ hex_of bits

-- a word
abbrev pub word_text : List Bool → List ℕ
word_text bits = number_or_hex (short_number bits) bits

-- ---- values of elements

-- values one after another, with a text before the first, and one between each two
abbrev pub nests_text : (Tree → List ℕ) → List ℕ → List ℕ → Trees → List ℕ
nests_text text between before no_trees = []
nests_text text between before (tree value others) = (before ++ text value) ++ nests_text text between between others

-- a nest of this depth, whose leaves have such texts
abbrev pub nest_text : (Tree → List ℕ) → ℕ → Tree → List ℕ
nest_text text zero value = text value
nest_text text (suc depth) (list members) = codes "[" ⁀ nests_text (nest_text text depth) (codes ", ") [] members ⁀ codes "]"
nest_text text (suc depth) value = []

-- a name, and in brackets the text of its member
abbrev pub named_text : List ℕ → List ℕ → List ℕ
named_text name text = name ⁀ codes "(" ⁀ text ⁀ codes ")"

-- a value of an element of a type: a Null, the word of a Bits, the fields of a Group in braces, the variant of a Union with its value in
-- brackets; of a Stream a nest of its own dimensionality, or that it is apart
abbrev mutual
  pub element_text : Ltype → Tree → List ℕ
  element_text types.null value = codes "null"
  element_text (types.bits width) (word bits) = word_text bits
  element_text (types.group parts) (group values) = codes "{" ⁀ fields_text [] parts values ⁀ codes "}"
  element_text (types.union parts) (union tag value) = variant_text parts tag value
  element_text (types.stream element user settings) value =
      if is_apart settings.sync then codes "apart" else nest_text (element_text element) settings.dims value
  element_text ltype value = []

  -- a value for each of these parts, after its name, with a text before the first, and a comma and a space between each two
  pub fields_text : List ℕ → Parts → Trees → List ℕ
  fields_text before (types.part name ltype more) (tree value others) =
      ((before ⁀ name ⁀ codes ": ") ++ element_text ltype value) ++ fields_text (codes ", ") more others
  fields_text before parts values = []

  -- a value of the variant of this number
  pub variant_text : Parts → ℕ → Tree → List ℕ
  variant_text types.no_parts tag value = []
  variant_text (types.part name ltype more) zero value = named_text name (element_text ltype value)
  variant_text (types.part name ltype more) (suc tag) value = variant_text more tag value

-- ---- the lines of a value

-- the series of a root: one space between each two of its members
abbrev pub root_text : Option StreamNode → List Tree → List ℕ
root_text None series = []
root_text (Some node) series =
    (codes "root " ⁀ path_text node.path ⁀ codes " = ") ⁀ nests_text (nest_text (element_text node.element) node.params.dims) (codes " ") [] (trees_of series) ⁀ codes ";\n"

-- a line for each of these roots, with its series
abbrev pub roots_text : List StreamNode → List ℕ → List (List Tree) → List ℕ
roots_text nodes [] series = []
roots_text nodes (root ∷ roots) [] = []
roots_text nodes (root ∷ roots) (series ∷ more) = root_text (slice_get nodes root) series ++ roots_text nodes roots more

-- a user word in hexadecimal, after a space
abbrev pub user_word : List Bool → List ℕ
user_word bits = codes " " ++ hex_of bits

-- the user words of a stream that has bits for them
abbrev pub user_line : Phys → List (List Bool) → List ℕ
user_line stream words =
    if nat_lt 0 stream.params.user then codes "// users " ⁀ path_text stream.path ⁀ flat_map user_word words ⁀ codes "\n" else []

-- the user words of each of these streams
abbrev pub users_text : List Phys → List (List (List Bool)) → List ℕ
users_text [] users = []
users_text (stream ∷ streams) [] = []
users_text (stream ∷ streams) (words ∷ more) = user_line stream words ++ users_text streams more

-- the canonical text of a value, with the user words of each physical stream
abbrev pub canonical : PlainSplit → List (List Tree) → List (List (List Bool)) → List ℕ
canonical split value users = roots_text split.nodes split.roots value ++ users_text split.streams users
