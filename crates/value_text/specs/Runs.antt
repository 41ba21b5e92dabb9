-- Words one after another, of which many are written at once. This project's own.
use Rattle.std.specs.Prelude.{◌≡◌, ℕ, ◌≤◌, List, [], ◌++◌, length, take}
use Rattle.logical_types.specs.Tree.{plain}
use Rattle.logical_value.specs.Tree.{Tree, word, plain_values}
use Rattle.logical_value.specs.declared.value.Value.{Value}
use Rattle.value_text.specs.Canonical.{element_text, nest_text, nests_text, word_text}
use Rattle.value_text.specs.Pending.{number_in}
use Rattle.value_text.specs.declared.pending.NestsLeft.{NestsLeft}

-- the text of a value where a word is to stand: a value that is no word has none
abbrev pub leaf_text : Tree → List ℕ
leaf_text (word bits) = word_text bits
leaf_text value = []

-- each of these nests is a word, in no sequence
abbrev pub HasWords : NestsLeft → Type 0
HasWords nests = (value : Tree) → nest_text (element_text (plain nests.element)) nests.depth value ≡ leaf_text value

-- words are written, each after a text: what is written now and what is left are what they were, and no more values are left
pub record LeavesWritten (between : List ℕ) (values values_now : List Value) (out out_now : List ℕ) : Type 0 where
  pub written : out_now ++ nests_text leaf_text between between (plain_values values_now) ≡ out ++ nests_text leaf_text between between (plain_values values)
  pub fewer : number_in (plain_values values_now) ≤ number_in (plain_values values)

-- the first words are written, each after a text; there are so many of them
pub record FirstWritten (between : List ℕ) (values : List Value) (count : ℕ) (out out_now : List ℕ) : Type 0 where
  pub few : count ≤ length values
  pub written : out_now ≡ out ++ nests_text leaf_text between between (plain_values (take count values))
