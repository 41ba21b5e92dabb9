use Rattle.std.proofs.Common.{◌≡◌, ◌∙◌, ◌++◌, ◌∷◌, [], ℕ, List, suc, ap, arith, length, map, subst, sym}
use Rattle.std.proofs.lemmas.List.{length-map}
use Rattle.logical_value.specs.Tree.{plain}
use Rattle.logical_value.specs.declared.value.Value.{Value}
use Rattle.type_split.specs.Streams.{node_view, plain_split}
use Rattle.value_views.specs.Filling.{IsFilling}
use Rattle.value_views.specs.Giving.{plain_series}
use Rattle.value_views.specs.Series.{series_at}
use Rattle.value_views.specs.Taking.{left}
use Rattle.value_views.proofs.PortFillLemmas.{filling-done, filling-start, front-last, front-shorter, front-whole, length-shorter}
use Rattle.value_views.proofs.joining.fill_port.Goals as goal

pub nodes-init : goal.nodes-init
nodes-init c =
    let count = length-map c.args.split.now.nodes node_view in
    let given = length-map c.args.given.items (λ (one : List Value). map plain one) in
    let long = c.requires.1.given.long in
    record {
      within = omega (arith, count, given, long);
      front = front-whole c.args.given.items;
      fills = λ all filled.
          filling-start (plain_split c.args.split.now) all (length c.args.given.items) _ _ (omega (arith, given, long)) (ap plain_series c.new-roots.ensures);
    }

pub fill_node-requires : goal.fill_node-requires
fill_node-requires c =
    let cut = c.in-Some.ensures.items in
    let shorter = length-shorter c.nodes.rest.items c.pop.new.self.items c.in-Some.ones cut in
    let long = c.len-number.ensures ∙ c.pop.new.self.ok.0 in
    let within = c.nodes.invariant.within in
    record { port = c.requires.1.can.port; number = omega (arith, shorter, long, within) }

pub nodes-preserved : goal.nodes-preserved
nodes-preserved c =
    let split = plain_split c.args.split.now in
    let given = c.args.given.items in
    let rest = c.nodes.rest.items in
    let new = c.pop.new.self.items in
    let one = c.in-Some.ones in
    let cut : rest ≡ new ++ one ∷ [] = c.in-Some.ensures.items in
    let shorter = length-shorter rest new one cut in
    let long : c.len-number.result ≡ length new = c.len-number.ensures ∙ c.pop.new.self.ok.0 in
    let within = c.nodes.invariant.within in
    record {
      within = omega (arith, shorter, within);
      front = front-shorter rest new given one cut c.nodes.invariant.front;
      fills = λ all filled. subst (λ (n : ℕ). IsFilling split all n (left c.fill_node.new.self) (plain_series c.fill_node.new.roots)) long
          (c.in_ok-fill_node.ensures (plain_series given) all filled
          (ap (λ (n : ℕ). series_at n (plain_series given)) long ∙ front-last rest new given one cut c.nodes.invariant.front)
          (subst (λ (n : ℕ). IsFilling split all n (left c.nodes.filling) (plain_series c.nodes.roots)) (shorter ∙ ap suc (sym long)) (c.nodes.invariant.fills all filled)));
    }

pub returns : goal.returns
returns c views give agree =
    let none = c.in_default.ensures.cases.0 in
    let long = c.nodes.rest.ok.0 in
    filling-done (plain_split c.args.split.now) views (plain_series c.args.given.items) (length c.nodes.rest.items) (left c.nodes.filling) c.nodes.roots c.in_ok-roots.roots
    give.can give.given agree (omega (arith, none, long)) c.in_ok-roots.ensures c.nodes.invariant.fills
