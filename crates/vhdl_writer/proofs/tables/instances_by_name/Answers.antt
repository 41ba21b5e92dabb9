use Rattle.std.proofs.Common.{ℕ, List, option_copied, Some, None, Option, cond, ap, sym, ◌∙◌}
use Rattle.std.specs.BTreeMap.{get}
use Rattle.std.specs.Option.{option_or}
use Rattle.std.specs.Str.{bytes_eq}
use Rattle.til_resolve.specs.declared.project.Instance.{Instance}
use Rattle.vhdl_writer.proofs.TableLemmas.{find-more, lent-more}
use Rattle.til_resolve.specs.Ordered.{by_name}
use Rattle.vhdl_writer.proofs.tables.instances_by_name.Goals as goal

pub instances-preserved : goal.instances-preserved
instances-preserved c = λ key.
    let one = c.instance-item.result in
    lent-more _ _ _ _ (c.in_ok-keep_first.ensures key)
    ∙ ap (λ (k : List ℕ). option_or (option_copied (get by_name c.instances.table key)) (cond (bytes_eq k key) (Some one) None)) c.new.ensures
    ∙ ap (λ (o : Option Instance). option_or o (cond (bytes_eq one.name key) (Some one) None)) (c.instances.invariant key)
    ∙ sym (find-more (λ (x : Instance). bytes_eq x.name key) c.args.instances.now c.instances.instance-index one c.instances-test.true c.instance-item.is)
