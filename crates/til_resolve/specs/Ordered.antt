-- Names and paths as keys of ordered tables. The order looks first at a word of each, which is a hash of its letters, and then at the letters themselves. So a search reads the
-- letters of few names, and names whose words meet are in order all the same.
use Rattle.std.specs.Prelude.{ℕ, nat_eq, Bool, ◌&&◌, List}
use Rattle.std.specs.Hash.FoldHasher as hashed
use Rattle.std.specs.List.{fold}
use Rattle.std.specs.Ordering.{nat_cmp, on, ordering_then, then_cmp}
use Rattle.std.specs.declared.cmp.Ordering.{Ordering}
use Rattle.std.specs.Cmp.Lexicographic.{pointwise, slice_cmp}
use Rattle.til_parser.specs.declared.tree.AstName.{AstName}
use Rattle.til_resolve.specs.Paths.{texts_of}

-- the word of a name
unfoldable pub word_of : List ℕ → ℕ
word_of name = hashed.finish (hashed.write hashed.initial name)

-- the word of a path
unfoldable pub word_of_path : List (List ℕ) → ℕ
word_of_path names = hashed.finish (fold hashed.write hashed.initial names)

-- names by their words, and then by their letters
abbrev pub by_name : List ℕ → List ℕ → Ordering
by_name = then_cmp (on word_of nat_cmp) (slice_cmp nat_cmp)

-- a name that belongs to a thing of a number, as a port to its streamlet
abbrev pub Key : Type 0
Key = ℕ × List ℕ

-- keys by their numbers, and then by their names
abbrev pub by_key : Key → Key → Ordering
by_key one other = ordering_then (nat_cmp one.0 other.0) (by_name one.1 other.1)

-- keys are the same
abbrev pub is_same_key : Key → Key → Bool
is_same_key one other = nat_eq one.0 other.0 && pointwise nat_eq one.1 other.1

-- written names, one after another
abbrev pub by_letters : List AstName → List AstName → Ordering
by_letters one other = slice_cmp (slice_cmp nat_cmp) (texts_of one) (texts_of other)

-- paths by their words, and then name by name
abbrev pub by_path : List (List ℕ) → List (List ℕ) → Ordering
by_path = then_cmp (on word_of_path nat_cmp) (slice_cmp (slice_cmp nat_cmp))
