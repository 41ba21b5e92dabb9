use Rattle.std.proofs.Common.{◌≡◌, ◌∙◌, ◌+◌, List, ℕ, ap, length, refl, sym, sum, replicate, arith}
use Rattle.std.proofs.lemmas.List.{length-replicate}
use Rattle.elastic_net.proofs.FirstLemmas.{first-chain, first-shown}
use Rattle.elastic_net.proofs.chain.Chain.new.Goals as goal

pub returns-clause-stands : goal.returns-clause-stands
returns-clause-stands g c =
    let same : c.in_ok-kept.kept ≡ c.args.stages.now = c.in_ok-kept.ensures in
    record {
      chain = first-chain c.args.params (g.F.TransferFeed.rest c.args.feed) c.args.gaps c.in_ok-kept.kept c.in_ok-past.past.items c.in_ok-places.places.items (g.F.TransferFeed.rest c.args.feed) 0 c.left-total.result
          (c.in_ok-past.ensures ∙ ap (λ (l : List ℕ). replicate (length l + 1) 0) (sym same))
          (omega (arith, ap sum same, c.ring_size.ensures, c.in_ok-places.ensures.many)) c.left-total.ensures c.left-total.type_inv refl;
      seen = first-shown (g.F.TransferFeed.rest c.args.feed) c.in_ok-kept.kept 0;
    }

pub invariant_of-result : goal.invariant_of-result
invariant_of-result g c =
    let same : c.in_ok-kept.kept ≡ c.args.stages.now = c.in_ok-kept.ensures in
    record {
      size = omega (arith, ap sum same, c.ring_size.ensures, c.in_ok-places.ensures.many);
      fits = c.in_ok-places.ensures.fit;
      same = c.requires.same;
      each = ap length c.in_ok-past.ensures ∙ omega (arith, length-replicate {A = ℕ} (length c.args.stages.now + 1) 0, ap length same);
    }
