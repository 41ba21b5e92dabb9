-- Worked values and their views, by evaluation.
use Rattle.std.proofs.Common.{◌≡◌, ℕ, true, false, List, [], ◌∷◌, map, Some, None, refl}
use Rattle.tydi_base.specs.Bits.{bits_of}
use Rattle.tydi_base.specs.Bits as words
use Rattle.tydi_base.specs.Level.{whole_level}
use Rattle.physical_stream.specs.declared.item.Item.TheVariants.{Elem, Close}
use Rattle.logical_types.specs.declared.ltype.Sync.{Sync}
use Rattle.logical_types.specs.declared.ltype.Sync.TheVariants as syncs
use Rattle.logical_types.specs.Tree.{Ltype, Settings}
use Rattle.logical_types.specs.Tree as types
use Rattle.logical_types.specs.Width as widths
use Rattle.type_split.specs.Streams.{split_of}
use Rattle.logical_value.specs.Fits.{fits_split}
use Rattle.logical_value.specs.Tree.{Tree, word, group, union, list, apart, no_trees, tree, trees_of}
use Rattle.nest_shape.specs.Tree.{leaf}
use Rattle.nest_shape.specs.Tree as nests
use Rattle.value_views.specs.Comparing.{disagreement_of}
use Rattle.value_views.specs.Laws.{items_of_views}
use Rattle.value_views.specs.Series.{NodeSeries, series_of_nodes}
use Rattle.value_views.specs.Views.{nest_of, view_of_stream}
use Rattle.value_views.specs.Words.{given_at}

-- a Stream of these dimensions, of level 1
abbrev stream : Ltype → ℕ → Sync → Ltype
stream element dims sync = types.stream element types.null (record {
  throughput = record { num = 1; den = 1 };
  dims = dims;
  sync = sync;
  level = whole_level 1;
  reverse = false;
  keep = false;
})

-- a Group, or a Union, of two parts named a and b
abbrev two_parts : Ltype → Ltype → types.Parts
two_parts a b = types.part (97 ∷ []) a (types.part (98 ∷ []) b types.no_parts)

abbrev byte : Ltype
byte = types.bits 8

abbrev number : ℕ → Tree
number n = word (bits_of 8 n)

abbrev some : List Tree → Tree
some values = list (trees_of values)

abbrev pair_of : Tree → Tree → Tree
pair_of a b = group (tree a (tree b no_trees))

abbrev nested_bytes : Ltype
nested_bytes = stream byte 2 syncs.Sync

empty_lists : view_of_stream (split_of nested_bytes) ((some (some [] ∷ []) ∷ some [] ∷ []) ∷ []) 0 ≡ Some (nest_of (nest_of [] ∷ []) ∷ nest_of [] ∷ [])
empty_lists = refl

their_items : items_of_views (split_of nested_bytes) ((some (some [] ∷ []) ∷ some [] ∷ []) ∷ []) ≡ (Close 0 ∷ Close 1 ∷ Close 1 ∷ []) ∷ []
their_items = refl

-- [{a: 1, b: [2, 3]}, {a: 4, b: []}], where b is a Flatten or a Sync Stream
abbrev records : Sync → Ltype
records sync = stream (types.group (two_parts byte (stream byte 1 sync))) 1 syncs.Sync

abbrev two_records : List (List Tree)
two_records = (some (pair_of (number 1) (some (number 2 ∷ number 3 ∷ [])) ∷ pair_of (number 4) (some []) ∷ []) ∷ []) ∷ []

abbrev leaf_of : ℕ → nests.Tree
leaf_of n = leaf (bits_of 8 n)

they_fit : fits_split (split_of (records syncs.Flatten)) two_records ≡ true
unfolding bits_of
they_fit = refl

outer_view : view_of_stream (split_of (records syncs.Flatten)) two_records 0 ≡ Some (nest_of (leaf_of 1 ∷ leaf_of 4 ∷ []) ∷ [])
unfolding bits_of
outer_view = refl

flatten_view : view_of_stream (split_of (records syncs.Flatten)) two_records 1 ≡ Some (nest_of (leaf_of 2 ∷ leaf_of 3 ∷ []) ∷ nest_of [] ∷ [])
unfolding bits_of
flatten_view = refl

-- a Sync Stream keeps the list around the two
sync_view : view_of_stream (split_of (records syncs.Sync)) two_records 1 ≡ Some (nest_of (nest_of (leaf_of 2 ∷ leaf_of 3 ∷ []) ∷ nest_of [] ∷ []) ∷ [])
unfolding bits_of
sync_view = refl

flatten_items : items_of_views (split_of (records syncs.Flatten)) two_records
    ≡ (Elem (bits_of 8 1) ∷ Elem (bits_of 8 4) ∷ Close 0 ∷ []) ∷ (Elem (bits_of 8 2) ∷ Elem (bits_of 8 3) ∷ Close 0 ∷ Close 0 ∷ []) ∷ []
unfolding bits_of
flatten_items = refl

-- a(5) b(6), where b is a Flatten Stream: the leaf that selects a has no nest of b
abbrev choices : Ltype
choices = stream (types.union (two_parts byte (stream byte 0 syncs.Flatten))) 0 syncs.Sync

abbrev two_choices : List (List Tree)
two_choices = (union 0 (number 5) ∷ union 1 (number 6) ∷ []) ∷ []

choices_view : view_of_stream (split_of choices) two_choices 0 ≡ Some (leaf (bits_of 9 10) ∷ leaf (bits_of 9 1) ∷ [])
unfolding bits_of widths.tag_width
choices_view = refl

selected_view : view_of_stream (split_of choices) two_choices 1 ≡ Some (leaf_of 6 ∷ [])
unfolding bits_of widths.tag_width
selected_view = refl

-- [{a: 1, b: -}], where b is a Desync Stream of one dimension more, with a series of its own
abbrev apart_records : Ltype
apart_records = stream (types.group (two_parts byte (stream byte 1 syncs.Desync))) 1 syncs.Sync

abbrev two_roots : List (List Tree)
two_roots = (some (pair_of (number 1) apart ∷ []) ∷ []) ∷ (some (some (number 2 ∷ []) ∷ some [] ∷ []) ∷ []) ∷ []

two_roots_fit : fits_split (split_of apart_records) two_roots ≡ true
unfolding bits_of
two_roots_fit = refl

root_view : view_of_stream (split_of apart_records) two_roots 1 ≡ Some (nest_of (nest_of (leaf_of 2 ∷ []) ∷ nest_of [] ∷ []) ∷ [])
unfolding bits_of
root_view = refl

dims_of_nodes : map (λ (node : NodeSeries). node.dims) (series_of_nodes (split_of apart_records).nodes two_roots) ≡ 1 ∷ 2 ∷ []
dims_of_nodes = refl

-- ---- joining

-- one packet of the child too few
flatten_too_few : disagreement_of (split_of (records syncs.Flatten)) ((nest_of (leaf_of 1 ∷ leaf_of 4 ∷ []) ∷ []) ∷ (nest_of (leaf_of 2 ∷ leaf_of 3 ∷ []) ∷ []) ∷ [])
    ≡ Some (record { path = (98 ∷ []) ∷ []; packet = 1 })
unfolding bits_of
flatten_too_few = refl

flatten_agrees : disagreement_of (split_of (records syncs.Flatten)) ((nest_of (leaf_of 1 ∷ leaf_of 4 ∷ []) ∷ []) ∷ (nest_of (leaf_of 2 ∷ leaf_of 3 ∷ []) ∷ nest_of [] ∷ []) ∷ []) ≡ None
unfolding bits_of
flatten_agrees = refl

-- a Sync Stream with other lists above its own dimension
sync_differs : disagreement_of (split_of (records syncs.Sync)) ((nest_of (leaf_of 1 ∷ leaf_of 4 ∷ []) ∷ []) ∷ (nest_of (nest_of (leaf_of 2 ∷ []) ∷ []) ∷ []) ∷ [])
    ≡ Some (record { path = (98 ∷ []) ∷ []; packet = 0 })
unfolding bits_of
sync_differs = refl

sync_agrees : disagreement_of (split_of (records syncs.Sync)) ((nest_of (leaf_of 1 ∷ leaf_of 4 ∷ []) ∷ []) ∷ (nest_of (nest_of (leaf_of 2 ∷ []) ∷ nest_of [] ∷ []) ∷ []) ∷ []) ≡ None
unfolding bits_of
sync_agrees = refl

-- a(5) b(6) without the nest of b: packets are numbered among the leaves that select b
none_selected : disagreement_of (split_of choices) ((leaf (bits_of 9 10) ∷ leaf (bits_of 9 1) ∷ []) ∷ [] ∷ []) ≡ Some (record { path = (98 ∷ []) ∷ []; packet = 0 })
unfolding bits_of widths.tag_width words.number_of_bits
none_selected = refl

one_selected : disagreement_of (split_of choices) ((leaf (bits_of 9 10) ∷ leaf (bits_of 9 1) ∷ []) ∷ (leaf_of 6 ∷ []) ∷ []) ≡ None
unfolding bits_of widths.tag_width words.number_of_bits
one_selected = refl

-- a Stream without a physical stream has the lists of its Sync Stream b, and those of the second Sync Stream are compared with them
abbrev unseen : Ltype
unseen = stream (types.group (two_parts (stream byte 1 syncs.Sync) (stream byte 0 syncs.Sync))) 1 syncs.Sync

unseen_series : given_at (split_of unseen) ((nest_of (nest_of (leaf_of 7 ∷ []) ∷ nest_of [] ∷ []) ∷ []) ∷ (nest_of (leaf_of 8 ∷ []) ∷ []) ∷ []) 0
    ≡ some (pair_of apart apart ∷ pair_of apart apart ∷ []) ∷ []
unfolding bits_of
unseen_series = refl

unseen_differs : disagreement_of (split_of unseen) ((nest_of (nest_of (leaf_of 7 ∷ []) ∷ nest_of [] ∷ []) ∷ []) ∷ (nest_of (leaf_of 8 ∷ []) ∷ []) ∷ [])
    ≡ Some (record { path = (98 ∷ []) ∷ []; packet = 0 })
unfolding bits_of
unseen_differs = refl

-- roots agree with any
roots_agree : disagreement_of (split_of apart_records) ((nest_of (leaf_of 1 ∷ []) ∷ []) ∷ [] ∷ []) ≡ None
unfolding bits_of
roots_agree = refl
