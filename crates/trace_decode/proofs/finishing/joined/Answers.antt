use Rattle.std.proofs.Common.{◌∙◌, ℕ, length, subst}
use Rattle.std.proofs.lemmas.List.{length_push}
use Rattle.type_split.specs.Streams.{plain_split}
use Rattle.trace_decode.proofs.JoinLemmas.{AreMade, are_views, joined-err, joined-ok, kept_end, kept_there, made_more, some_built}
use Rattle.trace_decode.proofs.finishing.joined.Goals as goal

pub series_of-requires : goal.series_of-requires
series_of-requires c =
    let gives = c.into_iter-one-iterator.ensures.into_iter_gives in
    let there = kept_there c.args.kept.items c.into_iter-one-iterator.result c.kept.one-iterator c.next.new.self c.kept.yielded gives.0 (gives.1 ∙ c.args.kept.ok.0) c.kept.yielded_by c.next.result c.in-Some.one c.in-Some.is c.next.ensures.steps in
    some_built (plain_split c.args.split.now) c.requires.finished.0 c.args.kept.items c.requires.finished.1 (length c.kept.yielded) c.in-Some.one there

pub kept-preserved : goal.kept-preserved
kept-preserved c done finished =
    let gives = c.into_iter-one-iterator.ensures.into_iter_gives in
    let there = kept_there c.args.kept.items c.into_iter-one-iterator.result c.kept.one-iterator c.next.new.self c.kept.yielded gives.0 (gives.1 ∙ c.args.kept.ok.0) c.kept.yielded_by c.next.result c.in-Some.one c.in-Some.is c.next.ensures.steps in
    rw (c.in_ok-push.ensures.ok, c.in_ok-push-2.ensures.ok, length_push c.kept.yielded c.in-Some.one)
    (made_more (plain_split c.args.split.now) done c.args.kept.items (length c.kept.yielded) c.kept.views c.kept.users c.in-Some.one c.series_of.result finished (c.kept.invariant done finished) there c.series_of.ensures)

pub join-requires-clause-views : goal.join-requires-clause-views
join-requires-clause-views c =
    let gives = c.into_iter-one-iterator.ensures.into_iter_gives in
    let all = kept_end c.args.kept.items c.into_iter-one-iterator.result c.kept.one-iterator c.next.new.self c.kept.yielded gives.0 (gives.1 ∙ c.args.kept.ok.0) c.kept.yielded_by c.next.result c.in-None.is c.next.ensures.steps in
    let done = c.requires.finished.0 in
    let finished = c.requires.finished.1 in
    let made = subst (λ (n : ℕ). AreMade (plain_split c.args.split.now) done c.args.kept.items n c.kept.views c.kept.users) all (c.kept.invariant done finished) in
    are_views (plain_split c.args.split.now) c.requires.can.port done c.args.kept.items finished c.kept.views c.kept.users made

pub returns-in-Ok : goal.returns-in-Ok
returns-in-Ok c done finished =
    let gives = c.into_iter-one-iterator.ensures.into_iter_gives in
    let all = kept_end c.args.kept.items c.into_iter-one-iterator.result c.kept.one-iterator c.next.new.self c.kept.yielded gives.0 (gives.1 ∙ c.args.kept.ok.0) c.kept.yielded_by c.next.result c.in-None.is c.next.ensures.steps in
    let made = subst (λ (n : ℕ). AreMade (plain_split c.args.split.now) done c.args.kept.items n c.kept.views c.kept.users) all (c.kept.invariant done finished) in
    joined-ok (plain_split c.args.split.now) c.requires.can.port done c.args.kept.items finished c.kept.views c.kept.users made c.in-Ok.value c.in-Ok.ensures

pub returns-in-Err : goal.returns-in-Err
returns-in-Err c done finished =
    let gives = c.into_iter-one-iterator.ensures.into_iter_gives in
    let all = kept_end c.args.kept.items c.into_iter-one-iterator.result c.kept.one-iterator c.next.new.self c.kept.yielded gives.0 (gives.1 ∙ c.args.kept.ok.0) c.kept.yielded_by c.next.result c.in-None.is c.next.ensures.steps in
    let made = subst (λ (n : ℕ). AreMade (plain_split c.args.split.now) done c.args.kept.items n c.kept.views c.kept.users) all (c.kept.invariant done finished) in
    joined-err (plain_split c.args.split.now) c.requires.can.port done c.args.kept.items finished c.kept.views c.kept.users made c.in-Err.fault c.fault_of_join.result
    c.in-Err.ensures c.fault_of_join.ensures
