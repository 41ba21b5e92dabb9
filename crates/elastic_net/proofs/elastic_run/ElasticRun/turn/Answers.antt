use Rattle.std.proofs.Common.{◌≡◌, ◌∙◌, suc, ◌-◌, ◌<◌, Bool, ℕ, List, length, slice_get, min, ◌+◌, ◌^◌, None, Some, sym, ap, subst, arith}
use Rattle.std.proofs.lemmas.List.{get_or-set_same}
use Rattle.std.proofs.lemmas.Option.{slice_get-get_or}
use Rattle.handshake.specs.Rows.{rows_behind}
use Rattle.physical_stream.specs.Cycles.{Cycle}
use Rattle.elastic_net.specs.declared.chain.Chain.{Chain}
use Rattle.elastic_net.specs.Turns.{FirstTurn}
use Rattle.elastic_net.proofs.NetLemmas.{counted-down, has-some, is-none}
use Rattle.elastic_net.proofs.PortLemmas.{CycleCall, at-last, at-next, none-turn, orders-kept, turn-first, turn-last, turn-net, turn-next}
use Rattle.elastic_net.proofs.elastic_run.ElasticRun.turn.Goals as goal

pub returns-then-is_empty-clause-first : goal.returns-then-is_empty-clause-first
returns-then-is_empty-clause-first g c =
    let self = c.args.self.now in
    subst (λ (rows : List Cycle). FirstTurn g.F.TransferFeed.rest g.F.TransferFeed.whole rows self.chains.items None)
    (sym (none-turn g.F.TransferFeed.rest g.F.TransferFeed.whole self.chains.items self.ready self.orders self.number self.many self.stream self.first self.at (is-none self.chains.items _ _ self.chains.ok.0 c.is_empty.ensures c.if-is_empty.true))) tt

pub returns-then-is_empty-clause-rows : goal.returns-then-is_empty-clause-rows
returns-then-is_empty-clause-rows g c =
    let self = c.args.self.now in
    let none = none-turn g.F.TransferFeed.rest g.F.TransferFeed.whole self.chains.items self.ready self.orders self.number self.many self.stream self.first self.at (is-none self.chains.items _ _ self.chains.ok.0 c.is_empty.ensures c.if-is_empty.true) in
    none ∙ sym (ap rows_behind none)

pub invariant_of-self-then-stream-len : goal.invariant_of-self-then-stream-len
invariant_of-self-then-stream-len g c =
    let self = c.args.self.now in
    let chain = c.index_mut.result.now in
    let some : self.many ≡ suc (self.many - 1) = counted-down self.many c.if-self-eq0.false in
    let within : self.stream < length self.chains.items = self.at.within (has-some _ _ _ self.chains.ok.0 c.is_empty.ensures c.if-is_empty.false) in
    let there : slice_get self.chains.items self.stream ≡ Some chain = slice_get-get_or self.chains.items self.stream chain within ∙ ap Some (sym c.index_mut.ensures.value) in
    let bit = λ (bits : List Bool) (here : slice_get self.ready self.stream ≡ Some bits). c.bit_of-ready.ensures bits (ap (λ (l : List (List Bool)). slice_get l self.stream) c.as_slice.ensures ∙ here) in
    let call = subst (λ (l : List (List ℕ)). CycleCall g.F.TransferFeed.rest g.F.TransferFeed.whole chain c.act_cycle.new.chain self.first self.number c.bit_of-ready.result l) c.as_slice-2.ensures c.act_cycle.ensures.stands in
    let read = c.index.ensures in
    let is : c.index.result.now ≡ c.act_cycle.new.chain = read ∙ get_or-set_same self.chains.items self.stream c.act_cycle.new.chain c.index.result.now within in
    record {
      at = at-next g.F.TransferFeed.rest g.F.TransferFeed.whole self.chains.items self.ready self.orders self.number self.many self.stream self.first self.at (self.many - 1) chain c.act_cycle.new.chain c.bit_of-ready.result some there c.act_cycle.ensures.kept self.ordered bit call c.first_behind-self.result (c.first_behind-self.ensures ∙ ap (λ (x : Chain g.row.F.Denot g.F.TransferFeed). min (self.first + suc (length x.stages)) (2 ^ 64 - 1)) is) (omega (arith, c.if-stream-len.true, c.len.ensures, self.chains.ok.0));
      few = self.few;
      ordered = orders-kept g.F.TransferFeed.rest g.F.TransferFeed.whole self.chains.items self.ready self.orders self.number self.many self.stream self.first self.at (self.many - 1) chain c.act_cycle.new.chain c.bit_of-ready.result some there c.act_cycle.ensures.kept self.ordered bit call;
    }

pub invariant_of-self-2 : goal.invariant_of-self-2
invariant_of-self-2 g c =
    let self = c.args.self.now in
    let chain = c.index_mut.result.now in
    let some : self.many ≡ suc (self.many - 1) = counted-down self.many c.if-self-eq0.false in
    let within : self.stream < length self.chains.items = self.at.within (has-some _ _ _ self.chains.ok.0 c.is_empty.ensures c.if-is_empty.false) in
    let there : slice_get self.chains.items self.stream ≡ Some chain = slice_get-get_or self.chains.items self.stream chain within ∙ ap Some (sym c.index_mut.ensures.value) in
    let bit = λ (bits : List Bool) (here : slice_get self.ready self.stream ≡ Some bits). c.bit_of-ready.ensures bits (ap (λ (l : List (List Bool)). slice_get l self.stream) c.as_slice.ensures ∙ here) in
    let call = subst (λ (l : List (List ℕ)). CycleCall g.F.TransferFeed.rest g.F.TransferFeed.whole chain c.act_cycle.new.chain self.first self.number c.bit_of-ready.result l) c.as_slice-2.ensures c.act_cycle.ensures.stands in
    record {
      at = at-last g.F.TransferFeed.rest g.F.TransferFeed.whole self.chains.items self.ready self.orders self.number self.many self.stream self.first self.at (self.many - 1) chain c.act_cycle.new.chain c.bit_of-ready.result some there c.act_cycle.ensures.kept self.ordered bit call (omega (arith, c.if-stream-len.false, c.len.ensures, self.chains.ok.0));
      few = omega (arith, self.few, some);
      ordered = orders-kept g.F.TransferFeed.rest g.F.TransferFeed.whole self.chains.items self.ready self.orders self.number self.many self.stream self.first self.at (self.many - 1) chain c.act_cycle.new.chain c.bit_of-ready.result some there c.act_cycle.ensures.kept self.ordered bit call;
    }

pub returns-then-stream-len-clause-first : goal.returns-then-stream-len-clause-first
returns-then-stream-len-clause-first g c =
    let self = c.args.self.now in
    let chain = c.index_mut.result.now in
    let some : self.many ≡ suc (self.many - 1) = counted-down self.many c.if-self-eq0.false in
    let within : self.stream < length self.chains.items = self.at.within (has-some _ _ _ self.chains.ok.0 c.is_empty.ensures c.if-is_empty.false) in
    let there : slice_get self.chains.items self.stream ≡ Some chain = slice_get-get_or self.chains.items self.stream chain within ∙ ap Some (sym c.index_mut.ensures.value) in
    let bit = λ (bits : List Bool) (here : slice_get self.ready self.stream ≡ Some bits). c.bit_of-ready.ensures bits (ap (λ (l : List (List Bool)). slice_get l self.stream) c.as_slice.ensures ∙ here) in
    let call = subst (λ (l : List (List ℕ)). CycleCall g.F.TransferFeed.rest g.F.TransferFeed.whole chain c.act_cycle.new.chain self.first self.number c.bit_of-ready.result l) c.as_slice-2.ensures c.act_cycle.ensures.stands in
    turn-first g.F.TransferFeed.rest g.F.TransferFeed.whole self.chains.items self.ready self.orders self.number self.many self.stream self.first self.at (self.many - 1) chain c.act_cycle.new.chain c.bit_of-ready.result some there c.act_cycle.ensures.kept self.ordered bit call

pub returns-then-stream-len-clause-rows : goal.returns-then-stream-len-clause-rows
returns-then-stream-len-clause-rows g c =
    let self = c.args.self.now in
    let chain = c.index_mut.result.now in
    let some : self.many ≡ suc (self.many - 1) = counted-down self.many c.if-self-eq0.false in
    let within : self.stream < length self.chains.items = self.at.within (has-some _ _ _ self.chains.ok.0 c.is_empty.ensures c.if-is_empty.false) in
    let there : slice_get self.chains.items self.stream ≡ Some chain = slice_get-get_or self.chains.items self.stream chain within ∙ ap Some (sym c.index_mut.ensures.value) in
    let bit = λ (bits : List Bool) (here : slice_get self.ready self.stream ≡ Some bits). c.bit_of-ready.ensures bits (ap (λ (l : List (List Bool)). slice_get l self.stream) c.as_slice.ensures ∙ here) in
    let call = subst (λ (l : List (List ℕ)). CycleCall g.F.TransferFeed.rest g.F.TransferFeed.whole chain c.act_cycle.new.chain self.first self.number c.bit_of-ready.result l) c.as_slice-2.ensures c.act_cycle.ensures.stands in
    turn-next g.F.TransferFeed.rest g.F.TransferFeed.whole self.chains.items self.ready self.orders self.number self.many self.stream self.first self.at (self.many - 1) chain c.act_cycle.new.chain c.bit_of-ready.result some there c.act_cycle.ensures.kept self.ordered bit call

pub returns-then-stream-len-clause-net : goal.returns-then-stream-len-clause-net
returns-then-stream-len-clause-net g c =
    let self = c.args.self.now in
    let chain = c.index_mut.result.now in
    let some : self.many ≡ suc (self.many - 1) = counted-down self.many c.if-self-eq0.false in
    let within : self.stream < length self.chains.items = self.at.within (has-some _ _ _ self.chains.ok.0 c.is_empty.ensures c.if-is_empty.false) in
    let there : slice_get self.chains.items self.stream ≡ Some chain = slice_get-get_or self.chains.items self.stream chain within ∙ ap Some (sym c.index_mut.ensures.value) in
    let bit = λ (bits : List Bool) (here : slice_get self.ready self.stream ≡ Some bits). c.bit_of-ready.ensures bits (ap (λ (l : List (List Bool)). slice_get l self.stream) c.as_slice.ensures ∙ here) in
    let call = subst (λ (l : List (List ℕ)). CycleCall g.F.TransferFeed.rest g.F.TransferFeed.whole chain c.act_cycle.new.chain self.first self.number c.bit_of-ready.result l) c.as_slice-2.ensures c.act_cycle.ensures.stands in
    turn-net g.F.TransferFeed.rest g.F.TransferFeed.whole self.chains.items self.ready self.orders self.number self.many self.stream self.first self.at (self.many - 1) chain c.act_cycle.new.chain c.bit_of-ready.result some there c.act_cycle.ensures.kept self.ordered bit call

pub returns-clause-first : goal.returns-clause-first
returns-clause-first g c =
    let self = c.args.self.now in
    let chain = c.index_mut.result.now in
    let some : self.many ≡ suc (self.many - 1) = counted-down self.many c.if-self-eq0.false in
    let within : self.stream < length self.chains.items = self.at.within (has-some _ _ _ self.chains.ok.0 c.is_empty.ensures c.if-is_empty.false) in
    let there : slice_get self.chains.items self.stream ≡ Some chain = slice_get-get_or self.chains.items self.stream chain within ∙ ap Some (sym c.index_mut.ensures.value) in
    let bit = λ (bits : List Bool) (here : slice_get self.ready self.stream ≡ Some bits). c.bit_of-ready.ensures bits (ap (λ (l : List (List Bool)). slice_get l self.stream) c.as_slice.ensures ∙ here) in
    let call = subst (λ (l : List (List ℕ)). CycleCall g.F.TransferFeed.rest g.F.TransferFeed.whole chain c.act_cycle.new.chain self.first self.number c.bit_of-ready.result l) c.as_slice-2.ensures c.act_cycle.ensures.stands in
    turn-first g.F.TransferFeed.rest g.F.TransferFeed.whole self.chains.items self.ready self.orders self.number self.many self.stream self.first self.at (self.many - 1) chain c.act_cycle.new.chain c.bit_of-ready.result some there c.act_cycle.ensures.kept self.ordered bit call

pub returns-clause-rows : goal.returns-clause-rows
returns-clause-rows g c =
    let self = c.args.self.now in
    let chain = c.index_mut.result.now in
    let some : self.many ≡ suc (self.many - 1) = counted-down self.many c.if-self-eq0.false in
    let within : self.stream < length self.chains.items = self.at.within (has-some _ _ _ self.chains.ok.0 c.is_empty.ensures c.if-is_empty.false) in
    let there : slice_get self.chains.items self.stream ≡ Some chain = slice_get-get_or self.chains.items self.stream chain within ∙ ap Some (sym c.index_mut.ensures.value) in
    let bit = λ (bits : List Bool) (here : slice_get self.ready self.stream ≡ Some bits). c.bit_of-ready.ensures bits (ap (λ (l : List (List Bool)). slice_get l self.stream) c.as_slice.ensures ∙ here) in
    let call = subst (λ (l : List (List ℕ)). CycleCall g.F.TransferFeed.rest g.F.TransferFeed.whole chain c.act_cycle.new.chain self.first self.number c.bit_of-ready.result l) c.as_slice-2.ensures c.act_cycle.ensures.stands in
    turn-last g.F.TransferFeed.rest g.F.TransferFeed.whole self.chains.items self.ready self.orders self.number self.many self.stream self.first self.at (self.many - 1) chain c.act_cycle.new.chain c.bit_of-ready.result some there c.act_cycle.ensures.kept self.ordered bit call (omega (arith, c.if-stream-len.false, c.len.ensures, self.chains.ok.0))

pub returns-clause-net : goal.returns-clause-net
returns-clause-net g c =
    let self = c.args.self.now in
    let chain = c.index_mut.result.now in
    let some : self.many ≡ suc (self.many - 1) = counted-down self.many c.if-self-eq0.false in
    let within : self.stream < length self.chains.items = self.at.within (has-some _ _ _ self.chains.ok.0 c.is_empty.ensures c.if-is_empty.false) in
    let there : slice_get self.chains.items self.stream ≡ Some chain = slice_get-get_or self.chains.items self.stream chain within ∙ ap Some (sym c.index_mut.ensures.value) in
    let bit = λ (bits : List Bool) (here : slice_get self.ready self.stream ≡ Some bits). c.bit_of-ready.ensures bits (ap (λ (l : List (List Bool)). slice_get l self.stream) c.as_slice.ensures ∙ here) in
    let call = subst (λ (l : List (List ℕ)). CycleCall g.F.TransferFeed.rest g.F.TransferFeed.whole chain c.act_cycle.new.chain self.first self.number c.bit_of-ready.result l) c.as_slice-2.ensures c.act_cycle.ensures.stands in
    turn-net g.F.TransferFeed.rest g.F.TransferFeed.whole self.chains.items self.ready self.orders self.number self.many self.stream self.first self.at (self.many - 1) chain c.act_cycle.new.chain c.bit_of-ready.result some there c.act_cycle.ensures.kept self.ordered bit call
