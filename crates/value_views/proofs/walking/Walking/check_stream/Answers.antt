use Rattle.std.proofs.Common.{arith, ap, get_or, map, sym, ◌∙◌}
use Rattle.std.proofs.lemmas.List.{length-map}
use Rattle.logical_value.specs.Tree.{plain}
use Rattle.type_split.specs.Streams.{node_view}
use Rattle.value_views.proofs.GivenNodeLemmas.{node-at}
use Rattle.value_views.proofs.WalkingLemmas.{check-none, check-some, found-packet}
use Rattle.value_views.proofs.walking.Walking.check_stream.Goals as goal

pub returns-in_ok-path-in-Some : goal.returns-in_ok-path-in-Some
returns-in_ok-path-in-Some c = λ path paths.
    let count = length-map c.args.self.now.given.now (λ s. map plain s) in
    let long = c.requires.long in
    let around = c.requires.around in
    let number = c.requires.number in
    let node = get_or c.as_slice-in-Some.result.now c.args.number c.index-as_slice-number.result in
    check-some _ path c.in_ok-path-in-Some.path _ c.in-Some.packet (sym c.is_apart.ensures ∙ c.if-is_apart.false)
    (found-packet c.args.way.now c.args.dims c.args.sync c.args.self.now.given.now c.args.around c.args.number c.index-self-around.result c.as_slice.result.now c.index-self-number.result
    c.as_slice-series.result.now c.packet_of.result (omega (arith, count, long, around)) (omega (arith, count, long, number)) c.as_slice.ensures c.as_slice-series.ensures c.packet_of.ensures ∙ c.in-Some.is)
    (c.in_ok-path-in-Some.ensures ∙ paths (node_view node) (node-at c.args.self.now.split.now c.args.number c.as_slice-in-Some.result.now node c.as_slice-in-Some.ensures number
    (ap (λ n. get_or c.as_slice-in-Some.result.now c.args.number n) c.index-as_slice-number.is)))

pub returns-in-None : goal.returns-in-None
returns-in-None c = λ path paths.
    let count = length-map c.args.self.now.given.now (λ s. map plain s) in
    let long = c.requires.long in
    let around = c.requires.around in
    let number = c.requires.number in
    check-none _ path _ (sym c.is_apart.ensures ∙ c.if-is_apart.false)
    (found-packet c.args.way.now c.args.dims c.args.sync c.args.self.now.given.now c.args.around c.args.number c.index-self-around.result c.as_slice.result.now c.index-self-number.result
    c.as_slice-series.result.now c.packet_of.result (omega (arith, count, long, around)) (omega (arith, count, long, number)) c.as_slice.ensures c.as_slice-series.ensures c.packet_of.ensures ∙ c.in-None.is)
