use Rattle.std.proofs.Common.{◌∙◌, ℕ, List, length, length-append, [], ◌∷◌, ap, subst, sym, arith}
use Rattle.logical_value.specs.Tree.{plain_port}
use Rattle.type_split.specs.Streams.{plain_split}
use Rattle.port_drive.proofs.RunLemmas.{end-of, turn-of}
use Rattle.port_drive.proofs.StartLemmas.{stream-there}
use Rattle.elastic_net.specs.Nets.{AreOrders}
use Rattle.port_elastic.proofs.ChainLemmas.{begun-all, begun-err, begun-more, own-there, staged-all, stages-few, starts-chain}
use Rattle.port_elastic.proofs.OrderLemmas.{net-orders}
use Rattle.port_elastic.proofs.chains.elastic_run.Goals as goal

pub bounds-as_slice-number : goal.bounds-as_slice-number
bounds-as_slice-number c =
    let turn = turn-of c.args.plan.cycles c.args.split.now.streams c.args.plan.streams c.into_iter-one-iterator.result c.plans.one-iterator c.next.new.self c.plans.yielded c.plans.number c.requires.plan.each
    (c.into_iter-one-iterator.ensures.into_iter_gives.0 ∙ c.into_vec-one-items.ensures)
    (c.into_iter-one-iterator.ensures.into_iter_gives.1 ∙ c.into_vec-one-items.result.ok.0 ∙ ap length c.into_vec-one-items.ensures)
    c.plans.invariant.number c.plans.yielded_by c.next.result c.in-Some.one c.in-Some.is c.next.ensures.steps in
    omega (arith, turn.within, ap length c.as_slice.ensures)

pub stream_planner-requires-clause-there : goal.stream_planner-requires-clause-there
stream_planner-requires-clause-there c =
    let turn = turn-of c.args.plan.cycles c.args.split.now.streams c.args.plan.streams c.into_iter-one-iterator.result c.plans.one-iterator c.next.new.self c.plans.yielded c.plans.number c.requires.plan.each
    (c.into_iter-one-iterator.ensures.into_iter_gives.0 ∙ c.into_vec-one-items.ensures)
    (c.into_iter-one-iterator.ensures.into_iter_gives.1 ∙ c.into_vec-one-items.result.ok.0 ∙ ap length c.into_vec-one-items.ensures)
    c.plans.invariant.number c.plans.yielded_by c.next.result c.in-Some.one c.in-Some.is c.next.ensures.steps in
    stream-there c.args.split.now.streams c.as_slice.result.now c.plans.number c.index-as_slice-number.result turn.within c.as_slice.ensures c.index-as_slice-number.is

pub stream_planner-requires-clause-masks : goal.stream_planner-requires-clause-masks
stream_planner-requires-clause-masks c =
    let turn = turn-of c.args.plan.cycles c.args.split.now.streams c.args.plan.streams c.into_iter-one-iterator.result c.plans.one-iterator c.next.new.self c.plans.yielded c.plans.number c.requires.plan.each
    (c.into_iter-one-iterator.ensures.into_iter_gives.0 ∙ c.into_vec-one-items.ensures)
    (c.into_iter-one-iterator.ensures.into_iter_gives.1 ∙ c.into_vec-one-items.result.ok.0 ∙ ap length c.into_vec-one-items.ensures)
    c.plans.invariant.number c.plans.yielded_by c.next.result c.in-Some.one c.in-Some.is c.next.ensures.steps in
    let there = stream-there c.args.split.now.streams c.as_slice.result.now c.plans.number c.index-as_slice-number.result turn.within c.as_slice.ensures c.index-as_slice-number.is in
    (turn.fits c.index-as_slice-number.result there).masks

pub stream_planner-requires-clause-users : goal.stream_planner-requires-clause-users
stream_planner-requires-clause-users c =
    let turn = turn-of c.args.plan.cycles c.args.split.now.streams c.args.plan.streams c.into_iter-one-iterator.result c.plans.one-iterator c.next.new.self c.plans.yielded c.plans.number c.requires.plan.each
    (c.into_iter-one-iterator.ensures.into_iter_gives.0 ∙ c.into_vec-one-items.ensures)
    (c.into_iter-one-iterator.ensures.into_iter_gives.1 ∙ c.into_vec-one-items.result.ok.0 ∙ ap length c.into_vec-one-items.ensures)
    c.plans.invariant.number c.plans.yielded_by c.next.result c.in-Some.one c.in-Some.is c.next.ensures.steps in
    let there = stream-there c.args.split.now.streams c.as_slice.result.now c.plans.number c.index-as_slice-number.result turn.within c.as_slice.ensures c.index-as_slice-number.is in
    (turn.fits c.index-as_slice-number.result there).users

pub returns-in_err-planner-clause-runs : goal.returns-in_err-planner-clause-runs
returns-in_err-planner-clause-runs c =
    let turn = turn-of c.args.plan.cycles c.args.split.now.streams c.args.plan.streams c.into_iter-one-iterator.result c.plans.one-iterator c.next.new.self c.plans.yielded c.plans.number c.requires.plan.each
    (c.into_iter-one-iterator.ensures.into_iter_gives.0 ∙ c.into_vec-one-items.ensures)
    (c.into_iter-one-iterator.ensures.into_iter_gives.1 ∙ c.into_vec-one-items.result.ok.0 ∙ ap length c.into_vec-one-items.ensures)
    c.plans.invariant.number c.plans.yielded_by c.next.result c.in-Some.one c.in-Some.is c.next.ensures.steps in
    let there = stream-there c.args.split.now.streams c.as_slice.result.now c.plans.number c.index-as_slice-number.result turn.within c.as_slice.ensures c.index-as_slice-number.is in
    begun-err (plain_split c.args.split.now) (plain_port c.args.value.now) c.args.plan.cycles c.args.plan.streams c.args.net.stages c.plans.number c.plans.chains c.plans.ready c.plans.invariant.begun c.index-as_slice-number.result c.in-Some.one turn there
    c.from_residual.result c.in_err-planner.field-0.0 c.from_residual.ensures.1 c.in_err-planner.ensures

pub bounds-as_slice-number-in-plans : goal.bounds-as_slice-number-in-plans
bounds-as_slice-number-in-plans c =
    let turn = turn-of c.args.plan.cycles c.args.split.now.streams c.args.plan.streams c.into_iter-one-iterator.result c.plans.one-iterator c.next.new.self c.plans.yielded c.plans.number c.requires.plan.each
    (c.into_iter-one-iterator.ensures.into_iter_gives.0 ∙ c.into_vec-one-items.ensures)
    (c.into_iter-one-iterator.ensures.into_iter_gives.1 ∙ c.into_vec-one-items.result.ok.0 ∙ ap length c.into_vec-one-items.ensures)
    c.plans.invariant.number c.plans.yielded_by c.next.result c.in-Some.one c.in-Some.is c.next.ensures.steps in
    omega (arith, turn.within, c.requires.net.streams_are, ap length c.as_slice-in-plans.ensures)

pub new-requires-in-plans-2-clause-few : goal.new-requires-in-plans-2-clause-few
new-requires-in-plans-2-clause-few c =
    let turn = turn-of c.args.plan.cycles c.args.split.now.streams c.args.plan.streams c.into_iter-one-iterator.result c.plans.one-iterator c.next.new.self c.plans.yielded c.plans.number c.requires.plan.each
    (c.into_iter-one-iterator.ensures.into_iter_gives.0 ∙ c.into_vec-one-items.ensures)
    (c.into_iter-one-iterator.ensures.into_iter_gives.1 ∙ c.into_vec-one-items.result.ok.0 ∙ ap length c.into_vec-one-items.ensures)
    c.plans.invariant.number c.plans.yielded_by c.next.result c.in-Some.one c.in-Some.is c.next.ensures.steps in
    stages-few c.args.net.stages c.plans.number c.as_slice-own.result.now c.requires.net.stages (omega (arith, turn.within, c.requires.net.streams_are))
    (own-there c.args.net.stages c.as_slice-in-plans.result.now c.plans.number c.index-as_slice-number-in-plans.result c.as_slice-own.result.now c.as_slice-in-plans.ensures c.index-as_slice-number-in-plans.is c.as_slice-own.ensures)

pub overflow_add-number : goal.overflow_add-number
overflow_add-number c =
    let turn = turn-of c.args.plan.cycles c.args.split.now.streams c.args.plan.streams c.into_iter-one-iterator.result c.plans.one-iterator c.next.new.self c.plans.yielded c.plans.number c.requires.plan.each
    (c.into_iter-one-iterator.ensures.into_iter_gives.0 ∙ c.into_vec-one-items.ensures)
    (c.into_iter-one-iterator.ensures.into_iter_gives.1 ∙ c.into_vec-one-items.result.ok.0 ∙ ap length c.into_vec-one-items.ensures)
    c.plans.invariant.number c.plans.yielded_by c.next.result c.in-Some.one c.in-Some.is c.next.ensures.steps in
    omega (arith, turn.few, c.into_iter-one-iterator.ensures.into_iter_gives.1, c.into_iter-one-iterator.ensures.into_iter_gives.2, c.into_vec-one-items.result.ok.0, ap length c.into_vec-one-items.ensures)

pub plans-preserved : goal.plans-preserved
plans-preserved c =
    let turn = turn-of c.args.plan.cycles c.args.split.now.streams c.args.plan.streams c.into_iter-one-iterator.result c.plans.one-iterator c.next.new.self c.plans.yielded c.plans.number c.requires.plan.each
    (c.into_iter-one-iterator.ensures.into_iter_gives.0 ∙ c.into_vec-one-items.ensures)
    (c.into_iter-one-iterator.ensures.into_iter_gives.1 ∙ c.into_vec-one-items.result.ok.0 ∙ ap length c.into_vec-one-items.ensures)
    c.plans.invariant.number c.plans.yielded_by c.next.result c.in-Some.one c.in-Some.is c.next.ensures.steps in
    let there = stream-there c.args.split.now.streams c.as_slice.result.now c.plans.number c.index-as_slice-number.result turn.within c.as_slice.ensures c.index-as_slice-number.is in
    let own = own-there c.args.net.stages c.as_slice-in-plans.result.now c.plans.number c.index-as_slice-number-in-plans.result c.as_slice-own.result.now c.as_slice-in-plans.ensures c.index-as_slice-number-in-plans.is c.as_slice-own.ensures in
    let starts =
    starts-chain c.index-as_slice-number.result.params _ c.in-Some.one c.as_slice-own.result.now c.in_ok-planner.planner c.in_ok-new.field-0 c.in_ok-planner.ensures c.in_ok-new.ensures.params c.in_ok-new.ensures.gaps
    c.in_ok-new.ensures.stages c.in_ok-new.ensures.whole c.in_ok-new.ensures.stands in
    let begun =
    begun-more (plain_split c.args.split.now) (plain_port c.args.value.now) c.args.plan.cycles c.args.plan.streams c.args.net.stages c.plans.number c.plans.chains c.plans.ready c.plans.invariant.begun c.index-as_slice-number.result c.in-Some.one turn there
    c.as_slice-own.result.now c.in_ok-new.field-0 (omega (arith, turn.within, c.requires.net.streams_are)) own starts in
    record {
      number = omega (arith, c.plans.invariant.number, length-append c.plans.yielded (c.in-Some.one ∷ []));
      begun = rw (c.in_ok-push.ensures.ok, c.in_ok-push-2.ensures.ok) begun;
    }

pub new-requires-2-clause-ordered : goal.new-requires-2-clause-ordered
new-requires-2-clause-ordered c =
    let all = end-of c.args.plan.cycles c.args.split.now.streams c.args.plan.streams c.into_iter-one-iterator.result c.plans.one-iterator c.next.new.self c.plans.yielded c.plans.number c.requires.plan.each
    (c.into_iter-one-iterator.ensures.into_iter_gives.0 ∙ c.into_vec-one-items.ensures)
    (c.into_iter-one-iterator.ensures.into_iter_gives.1 ∙ c.into_vec-one-items.result.ok.0 ∙ ap length c.into_vec-one-items.ensures)
    c.plans.invariant.number c.plans.yielded_by c.next.result c.in-None.is c.next.ensures.steps in
    subst (λ (stages : List (List ℕ)). AreOrders stages c.args.net.orders) (sym (staged-all (plain_split c.args.split.now) (plain_port c.args.value.now) c.args.plan.cycles c.args.plan.streams c.args.net.stages c.plans.number c.plans.chains c.plans.ready c.plans.invariant.begun all c.requires.net.streams_are)) (net-orders (length c.args.split.now.streams) c.args.plan.cycles c.args.net c.requires.net)

pub returns-clause-runs : goal.returns-clause-runs
returns-clause-runs c =
    let all = end-of c.args.plan.cycles c.args.split.now.streams c.args.plan.streams c.into_iter-one-iterator.result c.plans.one-iterator c.next.new.self c.plans.yielded c.plans.number c.requires.plan.each
    (c.into_iter-one-iterator.ensures.into_iter_gives.0 ∙ c.into_vec-one-items.ensures)
    (c.into_iter-one-iterator.ensures.into_iter_gives.1 ∙ c.into_vec-one-items.result.ok.0 ∙ ap length c.into_vec-one-items.ensures)
    c.plans.invariant.number c.plans.yielded_by c.next.result c.in-None.is c.next.ensures.steps in
    rw (c.new-2.ensures.chains, c.new-2.ensures.ready) (begun-all (plain_split c.args.split.now) (plain_port c.args.value.now) c.args.plan.cycles c.args.plan.streams c.args.net.stages c.plans.number c.plans.chains c.plans.ready c.plans.invariant.begun all)

pub returns-clause-net : goal.returns-clause-net
returns-clause-net c =
    let all = end-of c.args.plan.cycles c.args.split.now.streams c.args.plan.streams c.into_iter-one-iterator.result c.plans.one-iterator c.next.new.self c.plans.yielded c.plans.number c.requires.plan.each
    (c.into_iter-one-iterator.ensures.into_iter_gives.0 ∙ c.into_vec-one-items.ensures)
    (c.into_iter-one-iterator.ensures.into_iter_gives.1 ∙ c.into_vec-one-items.result.ok.0 ∙ ap length c.into_vec-one-items.ensures)
    c.plans.invariant.number c.plans.yielded_by c.next.result c.in-None.is c.next.ensures.steps in
    (rw c.new-2.ensures.chains (staged-all (plain_split c.args.split.now) (plain_port c.args.value.now) c.args.plan.cycles c.args.plan.streams c.args.net.stages c.plans.number c.plans.chains c.plans.ready c.plans.invariant.begun all c.requires.net.streams_are), c.new-2.ensures.orders)
