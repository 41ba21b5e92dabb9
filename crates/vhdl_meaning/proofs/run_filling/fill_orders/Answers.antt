use Rattle.std.proofs.Common.{◌∙◌, ◌<◌, [], ◌∷◌, ◌++◌, length, ap, arith}
use Rattle.std.proofs.lemmas.Bool.Decides.{nat_tests}
use Rattle.vhdl_meaning.proofs.RunLemmas.{orders_in-more}
use Rattle.vhdl_meaning.proofs.run_filling.fill_orders.Goals as goal

-- src/run_filling.rt:56:5
pub cycles-preserved : goal.cycles-preserved
cycles-preserved c =
    let less : length c.cycles.all < c.args.cycles = let l = c.len.ensures in let t = c.cycles-test.true in grind (arith, nat_tests) in
    orders_in-more c.args.cycles c.args.count c.cycles.all c.push.new.self less (c.in_ok-push.ensures.ok ∙ ap (λ order. c.cycles.all ++ order ∷ []) c.in_ok-text_order.ensures) ∙ c.cycles.invariant
