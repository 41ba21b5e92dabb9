-- Which values are values of a port's type (this project's own, after the nested streams of the Tydi specification).
use Rattle.std.specs.Prelude.{ℕ, zero, suc, Bool, true, false, ◌&&◌, ◌==◌, if◌then◌else◌, List, [], ◌∷◌, length, Option, Some, None, slice_get}
use Rattle.logical_types.specs.Synchronicity.{is_apart}
use Rattle.logical_types.specs.Tree.{Ltype, Parts}
use Rattle.logical_types.specs.Tree as types
use Rattle.type_split.specs.Nodes.{StreamNode}
use Rattle.type_split.specs.Streams.{PlainSplit}
use Rattle.logical_value.specs.Tree.{Tree, null, word, group, union, list, apart, Trees, no_trees, tree, trees_of}

-- all of these values pass a test
abbrev pub all_pass : (Tree → Bool) → Trees → Bool
all_pass test no_trees = true
all_pass test (tree value others) = test value && all_pass test others

-- a nest of this depth whose leaves pass a test
abbrev pub is_nest : (Tree → Bool) → ℕ → Tree → Bool
is_nest test zero value = test value
is_nest test (suc depth) (list values) = all_pass (is_nest test depth) values
is_nest test (suc depth) value = false

-- the value stands for a Stream whose value is given elsewhere
abbrev pub stands_apart : Tree → Bool
stands_apart apart = true
stands_apart value = false

-- a value of an element of a type: a Null has one value, a Bits a word of its width, a Group a value for each field, a Union the number
-- of a variant and a value of it. A Stream whose sequences are tied to those around it has a nest of its own dimensionality in each
-- element; any other is apart, since it has a series of its own.
abbrev mutual
  pub fits_element : Ltype → Tree → Bool
  fits_element types.null null = true
  fits_element (types.bits width) (word bits) = length bits == width
  fits_element (types.group parts) (group values) = fit_fields parts values
  fits_element (types.union parts) (union tag value) = fits_variant parts tag value
  fits_element (types.stream element user settings) value =
      if is_apart settings.sync then stands_apart value else is_nest (fits_element element) settings.dims value
  fits_element ltype value = false

  -- a value for each of these parts
  pub fit_fields : Parts → Trees → Bool
  fit_fields types.no_parts no_trees = true
  fit_fields (types.part name ltype more) (tree value others) = fits_element ltype value && fit_fields more others
  fit_fields parts values = false

  -- a value of the variant of this number
  pub fits_variant : Parts → ℕ → Tree → Bool
  fits_variant types.no_parts tag value = false
  fits_variant (types.part name ltype more) zero value = fits_element ltype value
  fits_variant (types.part name ltype more) (suc tag) value = fits_variant more tag value

-- a series of a node: each member is a nest of the node's effective dimensionality, whose leaves are values of its elements
abbrev pub fits_series : Option StreamNode → List Tree → Bool
fits_series None series = false
fits_series (Some node) series = all_pass (is_nest (fits_element node.element) node.params.dims) (trees_of series)

-- a series for each of these roots, and no more
abbrev pub fit_roots : List StreamNode → List ℕ → List (List Tree) → Bool
fit_roots nodes [] [] = true
fit_roots nodes (root ∷ roots) (series ∷ more) = fits_series (slice_get nodes root) series && fit_roots nodes roots more
fit_roots nodes roots series = false

-- a value of the port's type that was split: a series for each of its roots
abbrev pub fits_split : PlainSplit → List (List Tree) → Bool
fits_split split value = fit_roots split.nodes split.roots value
