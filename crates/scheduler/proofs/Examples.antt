-- Examples of single transfers, by evaluation.
use Rattle.std.proofs.Common.{◌≡◌, refl, ℕ, true, false, List, [], ◌∷◌}
use Rattle.tydi_base.specs.Level.{whole_level}
use Rattle.tydi_base.specs.Bits.{bits_of, number_of_bits}
use Rattle.physical_stream.specs.Params.{Parameters}
use Rattle.physical_stream.specs.declared.transfer.Transfer.{Transfer}
use Rattle.physical_stream.specs.declared.item.Item.{Item}
use Rattle.physical_stream.specs.declared.item.Item.TheVariants.{Elem, Close}
use Rattle.scheduler.specs.Lanes.{transfer_of}
use Rattle.scheduler.specs.Planned.{load_of, first_wish}
use Rattle.plan_text.specs.declared.plan.Wish.{Wish}

-- the signals of a transfer but the user word, as numbers
record Seen : Type 0 where
  content : ℕ
  last : ℕ
  stai : ℕ
  endi : ℕ
  strb : ℕ

abbrev seen : Transfer → Seen
seen t = record { content = number_of_bits t.content; last = number_of_bits t.last; stai = t.stai; endi = t.endi; strb = t.strb }

-- so many lanes, dimensions and level, with elements of 8 bits
abbrev stream : ℕ → ℕ → ℕ → Parameters
stream n d c = record { lanes = n; dims = d; level = whole_level c; element = 8; user = 0 }

abbrev shown : Parameters → Wish → List Item → Seen
shown p wish items = seen (transfer_of p (load_of p wish items).lanes [])

abbrev plain : Parameters → Wish
plain p = first_wish p []

abbrev word : ℕ → Item
word n = Elem (bits_of 8 n)

three_elements_fill_three_lanes : shown (stream 3 1 1) (plain (stream 3 1 1)) (word 1 ∷ word 2 ∷ word 3 ∷ word 4 ∷ word 5 ∷ Close 0 ∷ []) ≡ record { content = 197121; last = 0; stai = 0; endi = 2; strb = 7 }
unfolding bits_of number_of_bits
three_elements_fill_three_lanes = refl

two_elements_and_the_end_go_together : shown (stream 3 1 1) (plain (stream 3 1 1)) (word 4 ∷ word 5 ∷ Close 0 ∷ []) ≡ record { content = 1284; last = 4; stai = 0; endi = 1; strb = 7 }
unfolding bits_of number_of_bits
two_elements_and_the_end_go_together = refl

each_lane_has_its_ends : shown (stream 4 1 8) (record { mask = 15; late = false; laned = true }) (word 1 ∷ word 2 ∷ Close 0 ∷ word 3 ∷ Close 0 ∷ []) ≡ record { content = 197121; last = 6; stai = 0; endi = 2; strb = 7 }
unfolding bits_of number_of_bits
each_lane_has_its_ends = refl

the_lanes_of_the_mask_at_7 : shown (stream 4 1 7) (record { mask = 10; late = false; laned = false }) (word 1 ∷ word 2 ∷ Close 0 ∷ word 3 ∷ Close 0 ∷ []) ≡ record { content = 33554688; last = 8; stai = 1; endi = 3; strb = 10 }
unfolding bits_of number_of_bits
the_lanes_of_the_mask_at_7 = refl

as_many_lanes_from_the_lowest_at_6 : shown (stream 4 1 6) (record { mask = 10; late = false; laned = false }) (word 1 ∷ word 2 ∷ Close 0 ∷ word 3 ∷ Close 0 ∷ []) ≡ record { content = 131328; last = 8; stai = 1; endi = 2; strb = 15 }
unfolding bits_of number_of_bits
as_many_lanes_from_the_lowest_at_6 = refl

as_many_lowest_lanes_at_5 : shown (stream 4 1 5) (record { mask = 10; late = false; laned = false }) (word 1 ∷ word 2 ∷ Close 0 ∷ word 3 ∷ Close 0 ∷ []) ≡ record { content = 513; last = 8; stai = 0; endi = 1; strb = 15 }
unfolding bits_of number_of_bits
as_many_lowest_lanes_at_5 = refl

late_ends_are_left_at_4 : shown (stream 1 1 4) (record { mask = 1; late = true; laned = false }) (word 1 ∷ Close 0 ∷ []) ≡ record { content = 1; last = 0; stai = 0; endi = 0; strb = 1 }
unfolding bits_of number_of_bits
late_ends_are_left_at_4 = refl

late_ends_are_taken_at_3 : shown (stream 1 1 3) (record { mask = 1; late = true; laned = false }) (word 1 ∷ Close 0 ∷ []) ≡ record { content = 1; last = 1; stai = 0; endi = 0; strb = 1 }
unfolding bits_of number_of_bits
late_ends_are_taken_at_3 = refl

no_mask_is_an_empty_transfer_at_4 : shown (stream 1 1 4) (record { mask = 0; late = false; laned = false }) (word 1 ∷ Close 0 ∷ []) ≡ record { content = 0; last = 0; stai = 0; endi = 0; strb = 0 }
unfolding bits_of number_of_bits
no_mask_is_an_empty_transfer_at_4 = refl
