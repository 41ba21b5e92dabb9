-- Examples of plans' texts, by evaluation. Nothing cites them.
use Rattle.std.proofs.Common.{◌≡◌, ℕ, true, false, List, [], ◌∷◌, ◌++◌, Result, Ok, Err, refl, codes}
use Rattle.std.specs.List.{flat_map}
use Rattle.tydi_base.specs.Level.{whole_level}
use Rattle.type_split.specs.declared.split.Phys.{Phys}
use Rattle.plan_text.specs.declared.fault.PlanFault.{PlanFault}
use Rattle.plan_text.specs.declared.fault.PlanFault.TheVariants.{Syntax, UnknownStream, ReadyLength, MaskTooWide}
use Rattle.plan_text.specs.declared.plan.Plan.{Plan}
use Rattle.plan_text.specs.Text.{plan_of, title_of, cycles_of, header_of, plan_in_lines}
use Rattle.plan_text.specs.Blocks.{read_plans, with_more, in_block, with_line, with_gaps, with_ready, with_wishes, with_users, with_begun, begun_by}
use Rattle.plan_text.specs.Words.{gap_of, ready_of, wish_of, wish_with, wishes_of, users_of, mask_of}
use Rattle.tydi_base.specs.Bits.{number_of_bits, bits_of}
use Rattle.tydi_base.specs.Hex.{bits_of_digits, digit_of}
use Rattle.tydi_base.specs.HexWords.{hex_word, value_in_width, in_width, resized, counted, highest_one, one_from, hex_bits, first_not_hex}

-- lines, each with its LF
abbrev lines : List (List ℕ) → List ℕ
lines texts = flat_map (λ text. text ++ 10 ∷ []) texts

-- a stream of this path and so many lanes, with user words of four bits
abbrev stream : List (List ℕ) → ℕ → Phys
stream path lanes = record { path = path; params = record { lanes = lanes; dims = 1; level = whole_level 8; element = 8; user = 4 }; reversed = false; root = 0; node = 0 }

-- the stream `-` of two lanes, and the stream `b` of four
abbrev streams : List Phys
streams = stream [] 2 ∷ stream (codes "b" ∷ []) 4 ∷ []

abbrev read : List (List ℕ) → Result Plan PlanFault
read texts = plan_of streams (lines texts)

-- texts of plans, each with what it spells
record Examples : Type 0 where
  blocks_come_in_any_order : read (codes "tydi-plan 1" ∷ codes "// a stall" ∷ codes "cycles 3" ∷ codes "stream b" ∷ codes "ready 011" ∷ codes "wishes c+late f+laned" ∷ [] ∷ codes "stream -" ∷ codes "gaps 0 7" ∷ codes "users a" ∷ [])
      ≡ Ok (record {
        cycles = 3;
        streams =
            record { gaps = 0 ∷ 7 ∷ []; ready = true ∷ true ∷ true ∷ []; wishes = []; users = (false ∷ true ∷ false ∷ true ∷ []) ∷ [] }
            ∷ record { gaps = []; ready = false ∷ true ∷ true ∷ []; wishes = record { mask = 12; late = true; laned = false } ∷ record { mask = 15; late = false; laned = true } ∷ []; users = [] }
            ∷ [];
      })
  skipped_lines_count : read (codes "// two" ∷ codes "tydi-plan 1" ∷ [] ∷ codes "cycles 3" ∷ codes "stream c" ∷ []) ≡ Err (UnknownStream (record { offset = 29; line = 5; column = 1 }))
  an_early_end_is_told_at_the_end : read (codes "tydi-plan 1" ∷ codes "// no cycles" ∷ []) ≡ Err (Syntax (record { offset = 25; line = 3; column = 1 }))
  the_first_line_with_a_fault_is_told : read (codes "tydi-plan 1" ∷ codes "cycles 3" ∷ codes "stream -" ∷ codes "ready 11" ∷ codes "wishes 4" ∷ []) ≡ Err (ReadyLength (record { offset = 30; line = 4; column = 1 }))
  the_form_of_a_line_comes_first : read (codes "tydi-plan 1" ∷ codes "cycles 3" ∷ codes "stream -" ∷ codes "wishes 4 3+laned+late" ∷ []) ≡ Err (Syntax (record { offset = 30; line = 4; column = 1 }))
  a_mask_has_no_one_above_the_lanes : read (codes "tydi-plan 1" ∷ codes "cycles 3" ∷ codes "stream -" ∷ codes "wishes 3 4" ∷ []) ≡ Err (MaskTooWide (record { offset = 30; line = 4; column = 1 }))

examples : Examples
unfolding title_of cycles_of header_of plan_in_lines read_plans with_more in_block with_line with_gaps with_ready with_wishes with_users with_begun begun_by gap_of ready_of wish_of wish_with wishes_of users_of mask_of number_of_bits bits_of bits_of_digits digit_of hex_word value_in_width in_width resized counted highest_one one_from hex_bits first_not_hex
examples = record { blocks_come_in_any_order = refl; skipped_lines_count = refl; an_early_end_is_told_at_the_end = refl; the_first_line_with_a_fault_is_told = refl; the_form_of_a_line_comes_first = refl; a_mask_has_no_one_above_the_lanes = refl }
