use Rattle.std.proofs.Common.{◌≡◌, suc, ℕ, length, subst, arith}
use Rattle.elastic_net.specs.Orders.{count_from}
use Rattle.elastic_net.specs.Sinks.{acts_of}
use Rattle.elastic_net.specs.Standing.{StandsFor}
use Rattle.elastic_net.proofs.CycleLemmas.{counts-more}
use Rattle.elastic_net.proofs.ordering.act_in_turn.Goals as goal

pub components-preserved : goal.components-preserved
components-preserved g c =
    counts-more g.F.TransferFeed.rest g.F.TransferFeed.whole c.args.chain.now c.components.chain c.act.new.self c.components.invariant.kept c.components.component c.args.ready c.components.invariant c.act.ensures.kept c.act.ensures.stands

pub returns-clause-stands : goal.returns-clause-stands
returns-clause-stands g c = λ ts s stands fresh.
    let chain = c.args.chain.now in
    let all : c.components.component ≡ suc (length chain.stages) = omega (arith, c.components-test.false, c.len-component-end.ensures, chain.past.ok.0, chain.each, c.components.auto.component-end) in
    subst (λ (n : ℕ). StandsFor g.F.TransferFeed.rest c.components.chain ts (acts_of chain.params ts chain.gaps chain.stages (count_from 0 n) c.args.ready s)) all (c.components.invariant.stands ts s stands fresh)
