use Rattle.std.proofs.Common.{◌≡◌, List, map, rules, ap, sym, ◌∙◌, subst}
use Rattle.std.proofs.lemmas.Fn.{always_returns_same}
use Rattle.til_resolve.specs.PlainProject.{plain_streamlet}
use Rattle.link_check.specs.Bodies.{body_lent, bodies_lent}
use Rattle.link_check.specs.Order.{stands_at, bodies_in_text}
use Rattle.link_check.specs.declared.order.Body.{Body}
use Rattle.link_check.proofs.OrderLemmas.{sorted-is}
use Rattle.link_check.proofs.order.bodies_in_order.Goals as goal

pub returns : goal.returns
returns c =
    let all = map plain_streamlet c.args.streamlets.now in
    subst (λ (bodies : List Body). bodies_lent all bodies ≡ bodies_in_text all) (sym c.from_vec.ensures)
    (sorted-is all c.into_vec-bodies.result.items c.sort_unstable_by_key.new.self.items
    (ap (bodies_lent all) c.into_vec-bodies.ensures ∙ c.in_ok-all_bodies.ensures) c.sort_unstable_by_key.ensures.permutation
    (c.sort_unstable_by_key.ensures.sorted (λ (body : Body). stands_at (body_lent all body)) (always_returns_same _ (λ a r. r ≡ stands_at (body_lent all a.0.now)) _ (λ a r q k. search rules))))
