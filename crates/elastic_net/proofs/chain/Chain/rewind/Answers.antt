use Rattle.std.proofs.Common.{◌≡◌, ◌∙◌, ◌+◌, ℕ, ap, length, replicate, arith}
use Rattle.std.proofs.lemmas.List.{length-replicate, with_items_is}
use Rattle.std.specs.Vec.{with_items}
use Rattle.elastic_net.proofs.FirstLemmas.{first-chain, first-shown}
use Rattle.elastic_net.proofs.chain.Chain.rewind.Goals as goal

pub returns-clause-stands : goal.returns-clause-stands
returns-clause-stands g c =
    let self = c.args.self.now in
    let whole = g.F.TransferFeed.whole self.feed in
    let long : length c.as_mut_slice.result.now ≡ length self.stages + 1 = omega (arith, ap length c.as_mut_slice.ensures.value, self.each) in
    let zeros : c.clear_counts.new.past ≡ replicate (length self.stages + 1) 0 = c.clear_counts.ensures ∙ ap (λ (n : ℕ). replicate n 0) long in
    let many : length c.clear_counts.new.past ≡ self.past.len = omega (arith, ap length zeros, length-replicate {A = ℕ} (length self.stages + 1) 0, self.past.ok.0, self.each) in
    record {
      chain = first-chain self.params whole self.gaps self.stages (with_items self.past c.clear_counts.new.past).items self.places.items (g.F.TransferFeed.rest c.rewind.new.self) self.pause c.left-self.result
          (with_items_is self.past c.clear_counts.new.past many ∙ zeros) self.size (c.left-self.ensures ∙ ap length c.rewind.ensures.rest) c.left-self.type_inv c.rewind.ensures.rest;
      seen = first-shown whole self.stages self.number;
    }
