use Rattle.std.proofs.Common.{◌≡◌, ◌∙◌, ◌+◌, ℕ, List, ◌++◌, length, take, drop, refl, sym, ap, subst, arith}
use Rattle.handshake.proofs.RewindLemmas.{given-back}
use Rattle.elastic_net.proofs.NetLemmas.{rows-whole}
use Rattle.elastic_net.proofs.PortLemmas.{at-start, net-kept, stages-kept}
use Rattle.elastic_net.specs.Nets.{AreOrders, ChainRun, left_of_chains, sink_rows, sink_rows_after}
use Rattle.elastic_net.specs.Ports.{AreAt, KeepChains, net_in, stages_in}
use Rattle.elastic_net.specs.declared.chain.Chain.{Chain}
use Rattle.elastic_net.proofs.elastic_feed.ElasticRunCycleFeed.rewind.Goals as goal

pub returns-clause-rows : goal.returns-clause-rows
returns-clause-rows g c =
    let self = c.args.self.now in
    let new = c.rewind_all.new.chains in
    let old : c.as_mut_slice.result.now ≡ self.chains.items = c.as_mut_slice.ensures.value in
    let kept : KeepChains g.F.TransferFeed.whole self.chains.items new = subst (λ (l : List (Chain g.row.F.Denot g.F.TransferFeed)). KeepChains g.F.TransferFeed.whole l new) old c.rewind_all.ensures.kept in
    let back : take self.chains.len (new ++ drop (length new) self.chains.items) ≡ new = given-back new self.chains.items self.chains.len (kept.many ∙ sym self.chains.ok.0) in
    let net : net_in g.F.TransferFeed.rest g.F.TransferFeed.whole (take self.chains.len (new ++ drop (length new) self.chains.items)) self.ready self.orders ≡ net_in g.F.TransferFeed.rest g.F.TransferFeed.whole self.chains.items self.ready self.orders =
    ap (λ (l : List (Chain g.row.F.Denot g.F.TransferFeed)). net_in g.F.TransferFeed.rest g.F.TransferFeed.whole l self.ready self.orders) back
    ∙ net-kept g.F.TransferFeed.rest g.F.TransferFeed.whole self.chains.items new self.ready self.orders kept in
    let count : self.many + self.number ≡ self.number + self.many = omega arith in
    ap (λ (l : List ChainRun). sink_rows_after l 0 0 (self.many + self.number)) net ∙ rows-whole _ 0 (self.many + self.number)
    ∙ ap (sink_rows (net_in g.F.TransferFeed.rest g.F.TransferFeed.whole self.chains.items self.ready self.orders) 0) count

pub returns-clause-whole : goal.returns-clause-whole
returns-clause-whole g c =
    let self = c.args.self.now in
    let new = c.rewind_all.new.chains in
    let old : c.as_mut_slice.result.now ≡ self.chains.items = c.as_mut_slice.ensures.value in
    let kept : KeepChains g.F.TransferFeed.whole self.chains.items new = subst (λ (l : List (Chain g.row.F.Denot g.F.TransferFeed)). KeepChains g.F.TransferFeed.whole l new) old c.rewind_all.ensures.kept in
    let back : take self.chains.len (new ++ drop (length new) self.chains.items) ≡ new = given-back new self.chains.items self.chains.len (kept.many ∙ sym self.chains.ok.0) in
    let net : net_in g.F.TransferFeed.rest g.F.TransferFeed.whole (take self.chains.len (new ++ drop (length new) self.chains.items)) self.ready self.orders ≡ net_in g.F.TransferFeed.rest g.F.TransferFeed.whole self.chains.items self.ready self.orders =
    ap (λ (l : List (Chain g.row.F.Denot g.F.TransferFeed)). net_in g.F.TransferFeed.rest g.F.TransferFeed.whole l self.ready self.orders) back
    ∙ net-kept g.F.TransferFeed.rest g.F.TransferFeed.whole self.chains.items new self.ready self.orders kept in
    let count : 0 + (self.many + self.number) ≡ self.number + self.many = omega arith in
    ap (λ (l : List ChainRun). sink_rows l 0 (0 + (self.many + self.number))) net ∙ ap (sink_rows (net_in g.F.TransferFeed.rest g.F.TransferFeed.whole self.chains.items self.ready self.orders) 0) count

pub returns-clause-undone : goal.returns-clause-undone
returns-clause-undone g c =
    let self = c.args.self.now in
    let new = c.rewind_all.new.chains in
    let old : c.as_mut_slice.result.now ≡ self.chains.items = c.as_mut_slice.ensures.value in
    let kept : KeepChains g.F.TransferFeed.whole self.chains.items new = subst (λ (l : List (Chain g.row.F.Denot g.F.TransferFeed)). KeepChains g.F.TransferFeed.whole l new) old c.rewind_all.ensures.kept in
    let back : take self.chains.len (new ++ drop (length new) self.chains.items) ≡ new = given-back new self.chains.items self.chains.len (kept.many ∙ sym self.chains.ok.0) in
    let net : net_in g.F.TransferFeed.rest g.F.TransferFeed.whole (take self.chains.len (new ++ drop (length new) self.chains.items)) self.ready self.orders ≡ net_in g.F.TransferFeed.rest g.F.TransferFeed.whole self.chains.items self.ready self.orders =
    ap (λ (l : List (Chain g.row.F.Denot g.F.TransferFeed)). net_in g.F.TransferFeed.rest g.F.TransferFeed.whole l self.ready self.orders) back
    ∙ net-kept g.F.TransferFeed.rest g.F.TransferFeed.whole self.chains.items new self.ready self.orders kept in
    ap left_of_chains net

pub invariant_of-self : goal.invariant_of-self
invariant_of-self g c =
    let self = c.args.self.now in
    let new = c.rewind_all.new.chains in
    let old : c.as_mut_slice.result.now ≡ self.chains.items = c.as_mut_slice.ensures.value in
    let kept : KeepChains g.F.TransferFeed.whole self.chains.items new = subst (λ (l : List (Chain g.row.F.Denot g.F.TransferFeed)). KeepChains g.F.TransferFeed.whole l new) old c.rewind_all.ensures.kept in
    let back : take self.chains.len (new ++ drop (length new) self.chains.items) ≡ new = given-back new self.chains.items self.chains.len (kept.many ∙ sym self.chains.ok.0) in
    let same : stages_in new ≡ stages_in self.chains.items = stages-kept g.F.TransferFeed.rest g.F.TransferFeed.whole self.chains.items new kept in
    record {
      at = subst (λ (l : List (Chain g.row.F.Denot g.F.TransferFeed)). AreAt g.F.TransferFeed.rest g.F.TransferFeed.whole l self.ready self.orders 0 (self.many + self.number) 0 0) (sym back)
          (at-start g.F.TransferFeed.rest g.F.TransferFeed.whole self.chains.items self.ready self.orders self.number self.many self.stream self.first self.at new (self.many + self.number) refl c.rewind_all.ensures.first kept);
      few = omega (arith, self.few);
      ordered = subst (λ (l : List (List ℕ)). AreOrders l self.orders) (sym (ap (λ (l : List (Chain g.row.F.Denot g.F.TransferFeed)). stages_in l) back ∙ same)) self.ordered;
    }
