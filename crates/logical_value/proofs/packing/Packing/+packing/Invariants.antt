use Rattle.std.proofs.Common.{◌≡◌, drop}
use Rattle.logical_types.specs.Tree.{plain_parts}
use Rattle.logical_value.specs.Element.{AreElements, IsVariant}
use Rattle.logical_value.specs.Packed.{pack_variant}
use Rattle.logical_value.specs.Tree.{plain, plain_values}
use Rattle.logical_value.proofs.PackingLemmas.{Continues}
use Rattle.logical_value.proofs.packing.Packing.+packing.Given as goal

-- the values that are left fit the parts that are left, and once these are written all are
abbrev pub invariant-put_fields-parts : goal.invariant-put_fields-parts
invariant-put_fields-parts l = AreElements (plain_parts l.parts) (plain_values l.fields)
    → Continues l.initial.self l.self (plain_parts l.parts) (plain_values l.fields) (plain_parts (drop l.part-index l.parts)) (plain_values l.left)

-- nothing was written, and the variant that is looked for is among those that are left
abbrev pub invariant-put_variant-parts : goal.invariant-put_variant-parts
invariant-put_variant-parts l = record {
  kept : l.self ≡ l.initial.self;
  is : IsVariant (plain_parts l.parts) l.tag (plain l.value) → IsVariant (plain_parts (drop l.part-index l.parts)) l.left (plain l.value);
  same : pack_variant l.room (plain_parts (drop l.part-index l.parts)) l.left (plain l.value) ≡ pack_variant l.room (plain_parts l.parts) l.tag (plain l.value);
}
