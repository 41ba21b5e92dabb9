-- The text that is left, as parts of which the last comes first; and how many steps they take at most. This project's own.
use Rattle.std.specs.Prelude.{◌≡◌, ℕ, Bool, suc, ◌+◌, ◌*◌, ◌<◌, ◌≤◌, List, ◌++◌, length, drop, min, reverse}
use Rattle.std.specs.List.{flat_map, sum_by}
use Rattle.tydi_base.specs.Lengths.{most_bytes}
use Rattle.logical_types.specs.Tree.{plain, plain_parts}
use Rattle.logical_value.specs.Tree.{Tree, null, word, group, union, list, apart, Trees, no_trees, tree, plain_values}
use Rattle.value_text.specs.Canonical.{element_text, fields_text, nest_text, nests_text, user_word}
use Rattle.value_text.specs.Items.{items_of}
use Rattle.value_text.specs.declared.items.Items.{Items}
use Rattle.value_text.specs.declared.pending.FieldsLeft.{FieldsLeft}
use Rattle.value_text.specs.declared.pending.NestsLeft.{NestsLeft}
use Rattle.value_text.specs.declared.pending.Pending.{Pending}
use Rattle.value_text.specs.declared.pending.Pending.TheVariants as parts

-- the text of a part
abbrev pub part_text : Pending → List ℕ
part_text (parts.Mark text) = text.now
part_text (parts.Line text) = text
part_text (parts.Nests left) = nests_text (nest_text (element_text (plain left.element)) left.depth) left.between.now left.before.now (plain_values (items_of left.values))
part_text (parts.Fields left) = fields_text left.before.now (plain_parts (drop left.at left.parts)) (plain_values (items_of left.values))
part_text (parts.Words words) = flat_map user_word (items_of words)

-- the text of parts, the first of which comes first
abbrev pub lines_text : List Pending → List ℕ
lines_text lines = flat_map part_text lines

-- the text of parts, the last of which comes first
abbrev pub rest_of : List Pending → List ℕ
rest_of left = lines_text (reverse left)

-- how many values there are in a value, with itself
abbrev mutual
  pub number_of_values : Tree → ℕ
  number_of_values null = 1
  number_of_values (word bits) = 1
  number_of_values (group values) = suc (number_in values)
  number_of_values (union tag value) = suc (number_of_values value)
  number_of_values (list values) = suc (number_in values)
  number_of_values apart = 1

  pub number_in : Trees → ℕ
  number_in no_trees = 0
  number_in (tree value others) = number_of_values value + number_in others

-- how many steps a part takes at most
abbrev pub part_steps : Pending → ℕ
part_steps (parts.Mark text) = 1
part_steps (parts.Line text) = 1
part_steps (parts.Nests left) = 1 + 3 * number_in (plain_values (items_of left.values))
part_steps (parts.Fields left) = 1 + 3 * number_in (plain_values (items_of left.values))
part_steps (parts.Words words) = 1 + length (items_of words)

-- how many steps parts take at most
abbrev pub steps_of : List Pending → ℕ
steps_of left = sum_by part_steps left

-- a text, which takes so many steps, is begun: what is written now and what is left are what they were with this text between them, and
-- fewer steps are left than it takes
pub record Begins (text : List ℕ) (steps : ℕ) (left left_now : List Pending) (out out_now : List ℕ) : Type 0 where
  pub written : out_now ++ rest_of left_now ≡ out ++ (text ++ rest_of left)
  pub fewer : steps_of left_now < steps_of left + steps

-- the same, where what is written now is counted alone, up to the greatest number of 64 bits
pub record Counts (text : List ℕ) (steps : ℕ) (left left_now : List Pending) (bytes : ℕ) : Type 0 where
  pub counted : min (bytes + length (rest_of left_now)) most_bytes ≡ min (length text + length (rest_of left)) most_bytes
  pub few : bytes ≤ most_bytes
  pub fewer : steps_of left_now < steps_of left + steps

-- the kinds of parts
abbrev pub nests_part : NestsLeft → Pending
nests_part left = parts.Nests left

abbrev pub fields_part : FieldsLeft → Pending
fields_part left = parts.Fields left

abbrev pub words_part : Items (List Bool) → Pending
words_part words = parts.Words words
