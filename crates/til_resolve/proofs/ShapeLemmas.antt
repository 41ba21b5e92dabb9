-- The shape of a type is what it comes to by the shapes of the types in it.
use Rattle.std.proofs.Common.{◌≡◌, suc, ◌+◌, ◌≤◌, Bool, true, false, min, max, refl, sym, ap, ◌∙◌, arith}
use Rattle.logical_types.specs.Fold.{fold, fold_parts}
use Rattle.logical_types.specs.Size.{number_of_nodes, nodes_in_parts, depth_of, depth_of_parts}
use Rattle.logical_types.specs.Tree.{Ltype, null, bits, group, union, stream, Parts, no_parts, part}
use Rattle.til_resolve.specs.declared.shape.Shape.{Shape}
use Rattle.til_resolve.specs.Shapes.{around, beside, nothing, shape_layers, shape_of}

same_shape : (one other : Shape) → one.nodes ≡ other.nodes → one.depth ≡ other.depth → one.stream ≡ other.stream → one ≡ other
same_shape one other nodes depth streams =
    ap (λ n. record { nodes = n; depth = one.depth; stream = one.stream }) nodes
    ∙ ap (λ n. record { nodes = other.nodes; depth = n; stream = one.stream }) depth
    ∙ ap (λ b. record { nodes = other.nodes; depth = other.depth; stream = b }) streams

-- the shape of parts beside one another
abbrev shape_of_parts : Parts → Shape
shape_of_parts parts = record { nodes = min (nodes_in_parts parts) 65537; depth = min (depth_of_parts parts) 65; stream = false }

-- a shape that types beside one another may have
record IsBeside (shape : Shape) : Type 0 where
  few : shape.nodes ≤ 65537
  none : shape.stream ≡ false

beside-is : (one other : Shape) → IsBeside (beside one other)
beside-is one other = record { few = omega arith; none = refl }

around-parts : (is_stream : Bool) (parts : Parts) → record { nodes = min (suc (nodes_in_parts parts)) 65537; depth = min (suc (depth_of_parts parts)) 65; stream = is_stream }
    ≡ around is_stream (beside nothing (shape_of_parts parts))
around-parts is_stream parts = same_shape
    (record { nodes = min (suc (nodes_in_parts parts)) 65537; depth = min (suc (depth_of_parts parts)) 65; stream = is_stream })
    (around is_stream (beside nothing (shape_of_parts parts))) (omega arith) (omega arith) refl

around-both : (one other : Ltype) → record { nodes = min (suc (number_of_nodes one + number_of_nodes other)) 65537; depth = min (suc (max (depth_of one) (depth_of other))) 65; stream = true }
    ≡ around true (beside (shape_of one) (shape_of other))
around-both one other = same_shape
    (record { nodes = min (suc (number_of_nodes one + number_of_nodes other)) 65537; depth = min (suc (max (depth_of one) (depth_of other))) 65; stream = true })
    (around true (beside (shape_of one) (shape_of other))) (omega arith) (omega arith) refl

beside-more : (before : Shape) (ltype : Ltype) (more : Parts)
    → beside (beside before (shape_of ltype)) (shape_of_parts more)
    ≡ beside before (record { nodes = min (number_of_nodes ltype + nodes_in_parts more) 65537; depth = min (max (depth_of ltype) (depth_of_parts more)) 65; stream = false })
beside-more before ltype more = same_shape
    (beside (beside before (shape_of ltype)) (shape_of_parts more))
    (beside before (record { nodes = min (number_of_nodes ltype + nodes_in_parts more) 65537; depth = min (max (depth_of ltype) (depth_of_parts more)) 65; stream = false }))
    (omega arith) (omega arith) refl

beside-none : (before : Shape) → IsBeside before → before ≡ beside before (shape_of_parts no_parts)
beside-none before is = same_shape before (beside before (shape_of_parts no_parts)) (omega (arith, is.few)) (omega arith) is.none

mutual
  pub shape-is : (ltype : Ltype) → fold shape_layers ltype ≡ shape_of ltype
  shape-is null = refl
  shape-is (bits width) = refl
  shape-is (group parts) = ap (around false) (shapes-are nothing parts (record { few = omega arith; none = refl })) ∙ sym (around-parts false parts)
  shape-is (union parts) = ap (around false) (shapes-are nothing parts (record { few = omega arith; none = refl })) ∙ sym (around-parts false parts)
  shape-is (stream element user settings) =
      ap (λ s. around true (beside s (fold shape_layers user))) (shape-is element)
      ∙ ap (λ s. around true (beside (shape_of element) s)) (shape-is user)
      ∙ sym (around-both element user)

  shapes-are : (before : Shape) (parts : Parts) → IsBeside before → fold_parts shape_layers before parts ≡ beside before (shape_of_parts parts)
  shapes-are before no_parts is = beside-none before is
  shapes-are before (part name ltype more) is =
      ap (λ s. fold_parts shape_layers (beside before s) more) (shape-is ltype)
      ∙ shapes-are (beside before (shape_of ltype)) more (beside-is before (shape_of ltype))
      ∙ beside-more before ltype more
