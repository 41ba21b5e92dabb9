use Rattle.std.proofs.Common.{◌∙◌}
use Rattle.value_text.proofs.LeafLemmas.{surplus-step}
use Rattle.value_text.proofs.leaves.find_surplus.Goals as goal

pub tokens-preserved : goal.tokens-preserved
tokens-preserved c = surplus-step c.tokens.room c.room_after-room.result c.tokens.tokens c.skip.new.self c.in-Some.token c.begins_leaf-counts.result c.in-Some.ensures c.skip.ensures
    c.begins_leaf-counts.ensures c.room_after-room.ensures c.else-counts.either ∙ c.tokens.invariant
