use Rattle.std.proofs.Common.{◌≡◌, ℕ, ◌++◌, ◌∷◌, [], List, filter, length, ap, ◌∙◌, arith}
use Rattle.tydi_base.specs.Width.{index_width}
use Rattle.logical_types.specs.Tree.{number_of_parts, plain_parts}
use Rattle.logical_types.specs.Width.{greatest_width}
use Rattle.logical_types.proofs.PlainLemmas.{number_of_parts-plain}
use Rattle.split_text.specs.declared.fields.Field.{Field}
use Rattle.split_text.specs.Fields.{has_bits, field, tag_in, union_in}
use Rattle.split_text.proofs.FieldLemmas.{adds-then, union_fields-are}
use Rattle.split_text.proofs.fields.Fields.add_union.Goals as goal

pub returns : goal.returns
unfolding Rattle.logical_types.specs.Width.tag_width
returns c = λ most.
    let parts = plain_parts c.args.parts.now in
    let tag : c.index_width-tag.result ≡ index_width (length c.args.parts.now) = c.index_width-tag.ensures.value in
    let numbered : index_width (number_of_parts parts) ≡ index_width (length c.args.parts.now) = ap index_width (number_of_parts-plain c.args.parts.now) in
    let room : c.saturating_sub-room.result ≡ greatest_width parts = omega (arith, most, tag, numbered, c.union_width.ensures, c.saturating_sub-room.ensures) in
    let first = c.in_ok-shared.ensures (omega (arith, most, tag, numbered)) in
    let second = c.in_ok-end.ensures (omega (arith, most, tag, numbered, room, first.ends)) in
    let names = c.args.self.now.names in
    let one : List Field = field (tag_in names) c.args.offset c.index_width-tag.result ∷ [] in
    let other : List (List ℕ) → List Field = λ n. field (union_in n) c.in_ok-shared.shared c.saturating_sub-room.result ∷ [] in
    record {
      ends = omega (arith, tag, numbered, room, first.ends, second.ends);
      names = second.names ∙ first.names;
      fields = adds-then c.args.self.now.fields c.add_named.new.self.fields c.add_named-2.new.self.fields one (other c.add_named.new.self.names) first.fields second.fields
          ∙ ap (λ (n : List (List ℕ)). c.args.self.now.fields ++ filter has_bits (one ++ other n)) first.names
          ∙ ap (λ (l : List Field). c.args.self.now.fields ++ filter has_bits l)
          (union_fields-are names c.args.offset c.args.parts.now c.index_width-tag.result c.in_ok-shared.shared c.saturating_sub-room.result tag first.ends room);
    }
