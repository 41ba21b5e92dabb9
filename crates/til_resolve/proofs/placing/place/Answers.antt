use Rattle.std.proofs.lemmas.Result.{on_ok_weaker}
use Rattle.til_resolve.proofs.PlacingLemmas.{IsPlaced-more}
use Rattle.til_resolve.proofs.placing.place.Goals as goal

pub returns : goal.returns
returns c = on_ok_weaker c.declare.result
    (λ added. IsPlaced-more (record { spaces = c.number_of.new.spaces; declared = c.declare.new.declared }) c.args.placing.now.spaces.keys c.as_slice-names.result c.args.placing.now.declared
    c.args.namespace.now c.in_ok-home.home c.in_ok-home.ensures.finds c.in_ok-home.ensures.keys c.in_ok-home.ensures.index c.requires.homes c.as_slice-names.ensures added)
    c.declare.ensures
