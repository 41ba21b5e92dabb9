use Rattle.logical_value.proofs.LawLemmas.{packed_is_unpacked, unpacked_are_elements, unpacked_is_packed}
use Rattle.logical_value.proofs.laws.words_and_values_are_tied.Goals as goal

pub returns : goal.returns
returns c = record { packed = packed_is_unpacked; unpacked = unpacked_is_packed; elements = unpacked_are_elements }
