-- Worked rows: four bytes after the seed 1, the first list, and a Null.
use Rattle.std.proofs.Common.{◌≡◌, ◌+◌, ◌*◌, [], ◌∷◌, map, refl}
use Rattle.tydi_base.specs.Bits.{bits_of}
use Rattle.logical_types.specs.Tree as types
use Rattle.logical_value.specs.declared.value.Value.TheVariants as values
use Rattle.value_gen.specs.Draws.{draw_after, times}
use Rattle.value_gen.specs.Made.{element, parts_drawn, variant_drawn}

four-bytes : (times 4 (element (types.bits 8)) [] 1).made ≡ map (λ number. values.Word (bits_of 8 number)) (110 ∷ 159 ∷ 228 ∷ 205 ∷ [])
unfolding bits_of
four-bytes = refl

-- the first draw after the seed 1 gives a list of one part, and the second of three variants
first-list : parts_drawn (draw_after 1) ≡ 1
first-list = refl

first-variant : variant_drawn 3 (draw_after 1) ≡ 2
first-variant = refl

-- a word of 20 bits takes two draws, the lowest bits first
wide-word : (element (types.bits 20) 1).made ≡ values.Word (bits_of 20 (39022 + 65536 * 15))
unfolding bits_of
wide-word = refl

no-draw : (element types.null 1).last ≡ 1
no-draw = refl
