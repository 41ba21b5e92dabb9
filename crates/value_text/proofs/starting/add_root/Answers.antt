use Rattle.std.proofs.Common.{◌≡◌, ◌++◌, ℕ, List, ap, codes, refl}
use Rattle.std.proofs.lemmas.Result.{on_ok_weaker}
use Rattle.tydi_base.specs.Path.{path_text}
use Rattle.value_text.specs.Items.{items_of}
use Rattle.value_text.specs.Pending.{lines_text}
use Rattle.value_text.proofs.LineLemmas.{no_root-added, root-added}
use Rattle.value_text.proofs.starting.add_root.Goals as goal

pub returns-in_ok-push-in-Some-2 : goal.returns-in_ok-push-in-Some-2
returns-in_ok-push-in-Some-2 c =
    let head = codes "root " ++ (path_text c.in-Some.node.now.path ++ codes " = ") in
    let empty : c.new-head.result ++ head ≡ head = ap (λ (l : List ℕ). l ++ head) c.new-head.ensures in
    on_ok_weaker c.push-in-Some-2.result (λ pushed. root-added c.args.split.now.nodes c.args.root c.in-Some.node.now _ _ c.from.result (items_of c.args.series) _ _ _
    c.args.lines.now c.push.new.self c.push-in-Some.new.self c.push-in-Some-2.new.self c.node.view_is c.in-Some.ensures.value c.in_ok-try_clone-in-Some.ensures c.from.ensures
    (cc (c.in_ok-emit-in-Some.ensures.ok, empty, c.node.view_is)) refl refl c.in_ok-push-in-Some.ensures.ok c.in_ok-push-in-Some-2.ensures.ok pushed) c.push-in-Some-2.ensures.ok

pub returns-in-None : goal.returns-in-None
returns-in-None c = no_root-added c.args.split.now.nodes c.args.root (items_of c.args.series) (lines_text c.args.lines.now) c.in-None.ensures.value
