-- How large a type is: its nodes are as many as there are in preorder, whatever is around it.
use Rattle.std.proofs.Common.{◌≡◌, ℕ, suc, ◌+◌, ◌++◌, length, refl, ap, arith, length-append}
use Rattle.logical_types.specs.declared.streams.Around.{Around}
use Rattle.logical_types.specs.Faults.{inside, nodes, nodes_of_parts}
use Rattle.logical_types.specs.Size.{number_of_nodes, nodes_in_parts}
use Rattle.logical_types.specs.Tree.{Ltype, null, bits, group, union, stream, Parts, no_parts, part}

mutual
  pub number_of_nodes-length : (around : Around) (ltype : Ltype) → number_of_nodes ltype ≡ length (nodes around ltype)
  number_of_nodes-length around null = refl
  number_of_nodes-length around (bits width) = refl
  number_of_nodes-length around (group parts) = ap (λ (n : ℕ). suc n) (nodes_in_parts-length around parts)
  number_of_nodes-length around (union parts) = ap (λ (n : ℕ). suc n) (nodes_in_parts-length around parts)
  number_of_nodes-length around (stream element user settings) =
      let inner = inside around settings in
      let all = length-append (nodes inner element) (nodes inner user) in
      let one = number_of_nodes-length inner element in
      let other = number_of_nodes-length inner user in
      let sum : number_of_nodes element + number_of_nodes user ≡ length (nodes inner element ++ nodes inner user) = omega (arith, all, one, other) in
      ap (λ (n : ℕ). suc n) sum

  pub nodes_in_parts-length : (around : Around) (parts : Parts) → nodes_in_parts parts ≡ length (nodes_of_parts around parts)
  nodes_in_parts-length around no_parts = refl
  nodes_in_parts-length around (part name ltype more) =
      let all = length-append (nodes around ltype) (nodes_of_parts around more) in
      let one = number_of_nodes-length around ltype in
      let rest = nodes_in_parts-length around more in
      omega (arith, all, one, rest)
