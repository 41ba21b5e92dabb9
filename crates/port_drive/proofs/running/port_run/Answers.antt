use Rattle.std.proofs.Common.{◌∙◌, length, length-append, [], ◌∷◌, ap, arith}
use Rattle.logical_value.specs.Tree.{plain_port}
use Rattle.type_split.specs.Streams.{plain_split}
use Rattle.port_drive.proofs.RunLemmas.{begun-all, begun-err, begun-more, end-of, turn-of}
use Rattle.port_drive.proofs.StartLemmas.{stream-there}
use Rattle.port_drive.proofs.running.port_run.Goals as goal

pub bounds-as_slice-number : goal.bounds-as_slice-number
bounds-as_slice-number c =
    let turn = turn-of c.args.plan.cycles c.args.split.now.streams c.args.plan.streams c.into_iter-one-iterator.result c.plans.one-iterator c.next.new.self c.plans.yielded c.plans.number c.requires.plan.each
    (c.into_iter-one-iterator.ensures.into_iter_gives.0 ∙ c.into_vec-one-items.ensures)
    (c.into_iter-one-iterator.ensures.into_iter_gives.1 ∙ c.into_vec-one-items.result.ok.0 ∙ ap length c.into_vec-one-items.ensures)
    c.plans.invariant.number c.plans.yielded_by c.next.result c.in-Some.one c.in-Some.is c.next.ensures.steps in
    omega (arith, turn.within, ap length c.as_slice.ensures)

pub stream_run-requires : goal.stream_run-requires
stream_run-requires c =
    let turn = turn-of c.args.plan.cycles c.args.split.now.streams c.args.plan.streams c.into_iter-one-iterator.result c.plans.one-iterator c.next.new.self c.plans.yielded c.plans.number c.requires.plan.each
    (c.into_iter-one-iterator.ensures.into_iter_gives.0 ∙ c.into_vec-one-items.ensures)
    (c.into_iter-one-iterator.ensures.into_iter_gives.1 ∙ c.into_vec-one-items.result.ok.0 ∙ ap length c.into_vec-one-items.ensures)
    c.plans.invariant.number c.plans.yielded_by c.next.result c.in-Some.one c.in-Some.is c.next.ensures.steps in
    let there = stream-there c.args.split.now.streams c.as_slice.result.now c.plans.number c.index-as_slice-number.result turn.within c.as_slice.ensures c.index-as_slice-number.is in
    let fits = turn.fits c.index-as_slice-number.result there in
    record { split = c.requires.split; value = c.requires.value; there = there; masks = fits.masks; users = fits.users }

pub returns-in_err-cursor-clause-runs : goal.returns-in_err-cursor-clause-runs
returns-in_err-cursor-clause-runs c =
    let turn = turn-of c.args.plan.cycles c.args.split.now.streams c.args.plan.streams c.into_iter-one-iterator.result c.plans.one-iterator c.next.new.self c.plans.yielded c.plans.number c.requires.plan.each
    (c.into_iter-one-iterator.ensures.into_iter_gives.0 ∙ c.into_vec-one-items.ensures)
    (c.into_iter-one-iterator.ensures.into_iter_gives.1 ∙ c.into_vec-one-items.result.ok.0 ∙ ap length c.into_vec-one-items.ensures)
    c.plans.invariant.number c.plans.yielded_by c.next.result c.in-Some.one c.in-Some.is c.next.ensures.steps in
    let there = stream-there c.args.split.now.streams c.as_slice.result.now c.plans.number c.index-as_slice-number.result turn.within c.as_slice.ensures c.index-as_slice-number.is in
    begun-err (plain_split c.args.split.now) (plain_port c.args.value.now) c.args.plan.cycles c.args.plan.streams c.plans.number c.plans.cursors c.plans.ready c.plans.invariant.begun c.index-as_slice-number.result c.in-Some.one turn there
    c.from_residual.result c.in_err-cursor.field-0.0 c.from_residual.ensures.1 c.in_err-cursor.ensures

pub overflow_add-number : goal.overflow_add-number
overflow_add-number c =
    let turn = turn-of c.args.plan.cycles c.args.split.now.streams c.args.plan.streams c.into_iter-one-iterator.result c.plans.one-iterator c.next.new.self c.plans.yielded c.plans.number c.requires.plan.each
    (c.into_iter-one-iterator.ensures.into_iter_gives.0 ∙ c.into_vec-one-items.ensures)
    (c.into_iter-one-iterator.ensures.into_iter_gives.1 ∙ c.into_vec-one-items.result.ok.0 ∙ ap length c.into_vec-one-items.ensures)
    c.plans.invariant.number c.plans.yielded_by c.next.result c.in-Some.one c.in-Some.is c.next.ensures.steps in
    omega (arith, turn.few, c.into_iter-one-iterator.ensures.into_iter_gives.1, c.into_iter-one-iterator.ensures.into_iter_gives.2, c.into_vec-one-items.result.ok.0, ap length c.into_vec-one-items.ensures)

pub plans-preserved : goal.plans-preserved
plans-preserved c =
    let turn = turn-of c.args.plan.cycles c.args.split.now.streams c.args.plan.streams c.into_iter-one-iterator.result c.plans.one-iterator c.next.new.self c.plans.yielded c.plans.number c.requires.plan.each
    (c.into_iter-one-iterator.ensures.into_iter_gives.0 ∙ c.into_vec-one-items.ensures)
    (c.into_iter-one-iterator.ensures.into_iter_gives.1 ∙ c.into_vec-one-items.result.ok.0 ∙ ap length c.into_vec-one-items.ensures)
    c.plans.invariant.number c.plans.yielded_by c.next.result c.in-Some.one c.in-Some.is c.next.ensures.steps in
    let there = stream-there c.args.split.now.streams c.as_slice.result.now c.plans.number c.index-as_slice-number.result turn.within c.as_slice.ensures c.index-as_slice-number.is in
    let begun = begun-more (plain_split c.args.split.now) (plain_port c.args.value.now) c.args.plan.cycles c.args.plan.streams c.plans.number c.plans.cursors c.plans.ready c.plans.invariant.begun c.index-as_slice-number.result c.in-Some.one turn there c.in_ok-cursor.cursor c.in_ok-cursor.ensures in
    record {
      number = omega (arith, c.plans.invariant.number, length-append c.plans.yielded (c.in-Some.one ∷ []));
      begun = rw (c.in_ok-push.ensures.ok, c.in_ok-push-2.ensures.ok) begun;
    }

pub returns-clause-runs : goal.returns-clause-runs
returns-clause-runs c =
    let all = end-of c.args.plan.cycles c.args.split.now.streams c.args.plan.streams c.into_iter-one-iterator.result c.plans.one-iterator c.next.new.self c.plans.yielded c.plans.number c.requires.plan.each
    (c.into_iter-one-iterator.ensures.into_iter_gives.0 ∙ c.into_vec-one-items.ensures)
    (c.into_iter-one-iterator.ensures.into_iter_gives.1 ∙ c.into_vec-one-items.result.ok.0 ∙ ap length c.into_vec-one-items.ensures)
    c.plans.invariant.number c.plans.yielded_by c.next.result c.in-None.is c.next.ensures.steps in
    rw (c.new-2.ensures.cursors, c.new-2.ensures.ready) (begun-all (plain_split c.args.split.now) (plain_port c.args.value.now) c.args.plan.cycles c.args.plan.streams c.plans.number c.plans.cursors c.plans.ready c.plans.invariant.begun all)
