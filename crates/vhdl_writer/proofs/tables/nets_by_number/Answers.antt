use Rattle.std.proofs.Common.{Some, None, Option, nat_eq, cond, ap, sym, ◌∙◌}
use Rattle.std.specs.Option.{option_or}
use Rattle.link_check.specs.declared.nets.ImplNets.{ImplNets}
use Rattle.vhdl_writer.proofs.TableLemmas.{find-more, lent-more}
use Rattle.vhdl_writer.proofs.tables.nets_by_number.Goals as goal

pub impls-preserved : goal.impls-preserved
impls-preserved c = λ number.
    let one = c.one-item.result in
    lent-more _ _ _ _ (c.in_ok-keep_first.ensures number)
    ∙ ap (λ (o : Option ImplNets). option_or o (cond (nat_eq one.streamlet number) (Some one) None)) (c.impls.invariant number)
    ∙ sym (find-more (λ (x : ImplNets). nat_eq x.streamlet number) c.args.impls.now c.impls.one-index one c.impls-test.true c.one-item.is)
