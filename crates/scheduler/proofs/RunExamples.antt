-- Examples of runs, by evaluation.
use Rattle.std.proofs.Common.{◌≡◌, refl, ℕ, Bool, true, false, List, [], ◌∷◌, map, is_some, length, replicate}
use Rattle.tydi_base.specs.Level.{whole_level}
use Rattle.tydi_base.specs.Bits.{bits_of}
use Rattle.physical_stream.specs.Params.{Parameters}
use Rattle.physical_stream.specs.Cycles.{Cycle}
use Rattle.physical_stream.specs.Counts.{transfers_of}
use Rattle.physical_stream.specs.declared.item.Item.{Item}
use Rattle.physical_stream.specs.declared.item.Item.TheVariants.{Elem, Close}
use Rattle.handshake.specs.Run.{run_of}
use Rattle.scheduler.specs.Planned.{plan_on}

-- one lane, one dimension, elements of 8 bits, at this level
abbrev stream : ℕ → Parameters
stream c = record { lanes = 1; dims = 1; level = whole_level c; element = 8; user = 0 }

abbrev word : ℕ → Item
word n = Elem (bits_of 8 n)

-- the valid bits
abbrev valids : List Cycle → List Bool
valids cycles = map (λ (c : Cycle). is_some c.shown) cycles

abbrev two_sequences : List Item
two_sequences = word 1 ∷ word 2 ∷ Close 0 ∷ word 3 ∷ Close 0 ∷ []

gaps_between_sequences_at_1 : valids (run_of (stream 1) (plan_on 6 (stream 1) [] [] two_sequences) (0 ∷ 3 ∷ 3 ∷ []) (replicate 6 true)) ≡ true ∷ true ∷ false ∷ false ∷ false ∷ true ∷ []
unfolding bits_of
gaps_between_sequences_at_1 = refl

gaps_between_all_at_3 : valids (run_of (stream 3) (plan_on 6 (stream 3) [] [] two_sequences) (0 ∷ 3 ∷ 3 ∷ []) (replicate 9 true)) ≡ true ∷ false ∷ false ∷ false ∷ true ∷ false ∷ false ∷ false ∷ true ∷ []
unfolding bits_of
gaps_between_all_at_3 = refl

two_not_ready : valids (run_of (stream 3) (plan_on 6 (stream 3) [] [] (word 72 ∷ word 105 ∷ Close 0 ∷ [])) (0 ∷ 1 ∷ []) (false ∷ false ∷ true ∷ true ∷ true ∷ [])) ≡ true ∷ true ∷ true ∷ false ∷ true ∷ []
unfolding bits_of
two_not_ready = refl

one_is_left : transfers_of (run_of (stream 3) (plan_on 6 (stream 3) [] [] (word 72 ∷ word 105 ∷ Close 0 ∷ [])) (0 ∷ 1 ∷ []) (false ∷ false ∷ true ∷ true ∷ false ∷ [])) ≡ 1
unfolding bits_of
one_is_left = refl

two_lanes_halve : length (plan_on 4 (record { lanes = 2; dims = 0; level = whole_level 4; element = 8; user = 0 }) [] [] (word 1 ∷ word 2 ∷ word 3 ∷ word 4 ∷ [])) ≡ 2
unfolding bits_of
two_lanes_halve = refl
