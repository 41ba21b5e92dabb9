-- The generated value of a port's type, by a seed and a count (this project's own).
use Rattle.std.specs.Prelude.{ℕ, zero, suc, ◌/◌, ◌%◌, if◌then◌else◌, List, [], ◌∷◌, ◌++◌, Option, Some, None, slice_get}
use Rattle.logical_types.specs.Synchronicity.{is_apart}
use Rattle.logical_types.specs.Tree.{Ltype, Parts, number_of_parts}
use Rattle.logical_types.specs.Tree as types
use Rattle.logical_value.specs.declared.value.Value.{Value}
use Rattle.logical_value.specs.declared.value.Value.TheVariants as values
use Rattle.type_split.specs.Nodes.{StreamNode}
use Rattle.type_split.specs.Streams.{PlainSplit}
use Rattle.value_gen.specs.Draws.{Maker, and_then, draw_after, made_by, pure, times, word_drawn}

-- how many parts a list has, by its draw
abbrev pub parts_drawn : ℕ → ℕ
parts_drawn draw = draw / 4096 % 4

-- which of so many variants a Union has, by its draw
abbrev pub variant_drawn : ℕ → ℕ → ℕ
variant_drawn many draw = draw / 256 % many

-- a nest of this depth with such leaves: a list draws how many parts it has, and then they are made
abbrev pub nest : Maker Value → ℕ → Maker Value
nest item zero last = item last
nest item (suc depth) last = made_by values.List (times (parts_drawn (draw_after last)) (nest item depth) [] (draw_after last))

abbrev mutual
  -- a value of an element of a type
  pub element : Ltype → Maker Value
  element types.null last = pure values.Null last
  element (types.bits width) last = made_by values.Word (word_drawn width last)
  element (types.group parts) last = made_by values.Group (fields parts [] last)
  element (types.union parts) last =
      made_by (values.Union (variant_drawn (number_of_parts parts) (draw_after last)))
      (variant parts (variant_drawn (number_of_parts parts) (draw_after last)) (draw_after last))
  element (types.stream inner user settings) last = if is_apart settings.sync then pure values.Apart last else nest (element inner) settings.dims last

  -- the fields of a Group that are left, behind those that are found
  pub fields : Parts → List Value → Maker (List Value)
  fields types.no_parts found last = pure found last
  fields (types.part name ltype more) found last = and_then (element ltype last) (λ value. fields more (found ++ value ∷ []))

  -- a value of the variant of this number; there is one for each number that is drawn
  pub variant : Parts → ℕ → Maker Value
  variant types.no_parts number last = pure values.Null last
  variant (types.part name ltype more) zero last = element ltype last
  variant (types.part name ltype more) (suc number) last = variant more number last

-- a value of a Union that selects the variant of this number
abbrev pub selected : ℕ → Parts → Maker Value
selected number parts last = made_by (values.Union number) (variant parts number last)

-- so many members of a root, by its node
abbrev pub series : ℕ → Option StreamNode → Maker (List Value)
series count None last = pure [] last
series count (Some node) last = times count (nest (element node.element) node.params.dims) [] last

-- the series of these roots, behind those that are found
abbrev pub roots_from : ℕ → List StreamNode → List ℕ → List (List Value) → Maker (List (List Value))
roots_from count nodes [] found last = pure found last
roots_from count nodes (root ∷ roots) found last =
    and_then (series count (slice_get nodes root) last) (λ one. roots_from count nodes roots (found ++ one ∷ []))

-- the generated value of a port: so many members for each of its roots, in the order of the roots, by the draws after the seed
abbrev pub generated : PlainSplit → (seed count : ℕ) → List (List Value)
generated split seed count = (roots_from count split.nodes split.roots [] seed).made
