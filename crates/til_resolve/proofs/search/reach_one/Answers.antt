use Rattle.std.proofs.Common.{◌≡◌, [], ◌∷◌, false, get_or, set, true, subst, sym, ◌∙◌}
use Rattle.std.proofs.lemmas.List.{get_or_read}
use Rattle.std.proofs.lemmas.Result.{on_ok_weaker}
use Rattle.til_resolve.specs.Graph.{Reaches}
use Rattle.til_resolve.proofs.GraphLemmas.{Reaches-mark_one}
use Rattle.til_resolve.proofs.search.reach_one.Goals as goal

pub returns : goal.returns
returns c =
    let old = c.args.reached.now.items in
    let waiting = c.args.waiting.now in
    let target = c.args.target in
    let unmarked : get_or old target false ≡ false = sym (get_or_read old target c.index.result.now c.requires c.index.ensures false) ∙ c.if-index.false in
    on_ok_weaker c.push.result (λ is. subst (λ l. Reaches old waiting (target ∷ []) (set old target true) l) (sym is) (Reaches-mark_one old waiting target c.requires unmarked)) c.push.ensures.ok
