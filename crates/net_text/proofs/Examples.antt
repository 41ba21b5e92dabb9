-- Examples of nets' texts, by evaluation. Nothing cites them.
use Rattle.std.proofs.Common.{◌≡◌, ℕ, true, false, List, [], ◌∷◌, ◌++◌, Result, Ok, Err, refl, codes}
use Rattle.std.specs.List.{flat_map}
use Rattle.tydi_base.specs.Level.{whole_level}
use Rattle.type_split.specs.declared.split.Phys.{Phys}
use Rattle.net_text.specs.declared.net.NetFault.{NetFault}
use Rattle.net_text.specs.declared.net.NetFault.TheVariants.{Syntax, UnknownStream, StreamTwice, CapacityRange, TooManyStages, NotOrder, TooManyOrders}
use Rattle.net_text.specs.declared.net.NetPlan.{NetPlan}
use Rattle.net_text.specs.Text.{after_title, capacities_of, net_in_lines, net_of, order_of, order_of_words, stages_line, with_capacities, with_more, with_order, with_stages}

-- lines, each with its LF
abbrev lines : List (List ℕ) → List ℕ
lines texts = flat_map (λ text. text ++ 10 ∷ []) texts

-- a stream of this path
abbrev stream : List (List ℕ) → Phys
stream path = record { path = path; params = record { lanes = 1; dims = 1; level = whole_level 3; element = 8; user = 0 }; reversed = false; root = 0; node = 0 }

-- the net of a text for the streams `-` and `b`, in two cycles
abbrev read : List ℕ → Result NetPlan NetFault
read text = net_of (stream [] ∷ stream (codes "b" ∷ []) ∷ []) 2 text

abbrev at : ℕ → ℕ → NetFault
at offset line = Syntax (record { offset = offset; line = line; column = 1 })

-- texts of nets, each with what it spells
record Examples : Type 0 where
  no_lines : read (lines (codes "tydi-net 1" ∷ [])) ≡ Ok (record { stages = [] ∷ [] ∷ []; orders = [] })
  stages_and_orders : read (lines (codes "tydi-net 1" ∷ codes "stages b 1 64" ∷ codes "order 3 0 2 1" ∷ codes "order 0 1 2 3" ∷ []))
      ≡ Ok (record { stages = [] ∷ (1 ∷ 64 ∷ []) ∷ []; orders = (3 ∷ 0 ∷ 2 ∷ 1 ∷ []) ∷ (0 ∷ 1 ∷ 2 ∷ 3 ∷ []) ∷ [] })
  an_empty_text_ends_early : read [] ≡ Err (at 0 1)
  the_last_line_has_its_lf : read (lines (codes "tydi-net 1" ∷ []) ++ codes "stages - 0") ≡ Err (at 11 2)
  the_title_has_its_lf : read (codes "tydi-net 1") ≡ Err (at 0 1)
  a_line_is_not_empty : read (lines (codes "tydi-net 1" ∷ [] ∷ [])) ≡ Err (at 11 2)
  a_line_has_a_capacity : read (lines (codes "tydi-net 1" ∷ codes "stages -" ∷ [])) ≡ Err (at 11 2)
  a_leading_zero_is_no_form : read (lines (codes "tydi-net 1" ∷ codes "stages c 01" ∷ [])) ≡ Err (at 11 2)
  a_stream_is_there : read (lines (codes "tydi-net 1" ∷ codes "stages c 0" ∷ [])) ≡ Err (UnknownStream (record { offset = 11; line = 2; column = 1 }))
  a_stream_stands_once : read (lines (codes "tydi-net 1" ∷ codes "stages - 1" ∷ codes "stages - 0" ∷ [])) ≡ Err (StreamTwice (record { offset = 22; line = 3; column = 1 }))
  the_range_comes_before_the_number : read (lines (codes "tydi-net 1" ∷ codes "stages - 1 1 1 1 1 1 1 1 1 1 1 1 1 1 1 1 65" ∷ [])) ≡ Err (CapacityRange (record { offset = 11; line = 2; column = 1 }))
  sixteen_stages : read (lines (codes "tydi-net 1" ∷ codes "stages - 1 1 1 1 1 1 1 1 1 1 1 1 1 1 1 1 1" ∷ [])) ≡ Err (TooManyStages (record { offset = 11; line = 2; column = 1 }))
  stages_come_first : read (lines (codes "tydi-net 1" ∷ codes "order 1 0" ∷ codes "stages - 1" ∷ [])) ≡ Err (at 21 3)
  an_order_has_numbers : read (lines (codes "tydi-net 1" ∷ codes "order" ∷ [])) ≡ Err (NotOrder (record { offset = 11; line = 2; column = 1 }))
  a_space_is_no_form : read (lines (codes "tydi-net 1" ∷ codes "order " ∷ [])) ≡ Err (at 11 2)
  each_component_once : read (lines (codes "tydi-net 1" ∷ codes "stages b 2" ∷ codes "order 0 1 1" ∷ [])) ≡ Err (NotOrder (record { offset = 22; line = 3; column = 1 }))
  no_more_orders_than_cycles : read (lines (codes "tydi-net 1" ∷ codes "order 1 0" ∷ codes "order 0 1" ∷ codes "order 1 0" ∷ [])) ≡ Err (TooManyOrders (record { offset = 31; line = 4; column = 1 }))
  the_form_of_an_order_comes_first : read (lines (codes "tydi-net 1" ∷ codes "order 1 0" ∷ codes "order 0 1" ∷ codes "order 1 1" ∷ [])) ≡ Err (NotOrder (record { offset = 31; line = 4; column = 1 }))

examples : Examples
unfolding after_title capacities_of net_in_lines order_of order_of_words stages_line with_capacities with_more with_order with_stages
examples = record {
  no_lines = refl;
  stages_and_orders = refl;
  an_empty_text_ends_early = refl;
  the_last_line_has_its_lf = refl;
  the_title_has_its_lf = refl;
  a_line_is_not_empty = refl;
  a_line_has_a_capacity = refl;
  a_leading_zero_is_no_form = refl;
  a_stream_is_there = refl;
  a_stream_stands_once = refl;
  the_range_comes_before_the_number = refl;
  sixteen_stages = refl;
  stages_come_first = refl;
  an_order_has_numbers = refl;
  a_space_is_no_form = refl;
  each_component_once = refl;
  no_more_orders_than_cycles = refl;
  the_form_of_an_order_comes_first = refl;
}
