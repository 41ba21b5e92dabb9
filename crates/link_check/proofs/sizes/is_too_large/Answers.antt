use Rattle.std.proofs.Common.{◌≡◌, ◌<◌, ◌↔◌, ℕ, IsTrue, List, map, length, refl, ap, sym, ◌∙◌, subst}
use Rattle.std.proofs.lemmas.List.{length-map, with_items_is}
use Rattle.til_resolve.specs.PlainProject.{plain_streamlet}
use Rattle.link_check.specs.Counts.{IsBelow, entry}
use Rattle.link_check.proofs.CountLemmas.{settled-tells}
use Rattle.link_check.proofs.sizes.is_too_large.Goals as goal

pub returns : goal.returns
returns c =
    let streamlets = map plain_streamlet c.args.streamlets.now in
    let counts = c.raise_all.new.counts in
    let is : c.as_slice.result.now ≡ counts = c.as_slice.ensures.value ∙ with_items_is c.rounds.counts counts (c.rounds-test.ensures.long ∙ c.as_mut_slice.ensures.len) in
    settled-tells streamlets counts c.has_too_many.result
    (c.rounds-test.ensures.long ∙ ap length c.as_mut_slice.ensures.value ∙ c.rounds.invariant.long ∙ sym (length-map c.args.streamlets.now plain_streamlet))
    (c.rounds-test.ensures.settled refl)
    (c.rounds-test.ensures.below (subst (IsBelow streamlets) (sym c.as_mut_slice.ensures.value) c.rounds.invariant.below))
    (subst (λ (those : List ℕ). IsTrue c.has_too_many.result ↔ ((number : ℕ) × (65536 < entry those number))) is c.has_too_many.ensures)
