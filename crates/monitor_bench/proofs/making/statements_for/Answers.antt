use Rattle.std.proofs.Common.{◌≡◌, ◌∙◌, ◌∷◌, [], List, ap}
use Rattle.std.proofs.lemmas.Result.{IfOk-weaker}
use Rattle.watch_text.specs.Statements.{lanes, plain_statements}
use Rattle.watch_text.specs.declared.watch.WStmt.{WStmt}
use Rattle.watch_text.specs.declared.watch.WStmt.TheVariants as statements
use Rattle.monitor_bench.specs.Monitors.{only, statements_for}
use Rattle.watch_text.proofs.PlainLemmas.{plain-Lanes}
use Rattle.monitor_bench.proofs.making.statements_for.Goals as goal

pub returns : goal.returns
returns c =
    let body = c.in_ok-lane_statements.field-0 in
    IfOk-weaker c.only.result (λ (made : List WStmt). made ≡ statements.Lanes body ∷ []) (λ (made : List WStmt). plain_statements made ≡ statements_for c.args.dims)
    (λ made is. ap plain_statements is ∙ ap only (plain-Lanes body ∙ ap lanes c.in_ok-lane_statements.ensures)) c.only.ensures
