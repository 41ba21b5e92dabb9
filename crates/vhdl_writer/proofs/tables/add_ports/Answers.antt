use Rattle.std.proofs.Common.{ℕ, List, ◌&&◌, nat_eq, Some, None, Option, option_copied, cond, ap, ◌∙◌}
use Rattle.std.specs.Option.{option_or}
use Rattle.std.specs.Str.{bytes_eq}
use Rattle.std.specs.BTreeMap.{get}
use Rattle.til_resolve.specs.Ordered.{by_key, is_same_key}
use Rattle.vhdl_writer.specs.declared.component.SplitPort.{SplitPort}
use Rattle.vhdl_writer.proofs.TableLemmas.{home-more, lent-more}
use Rattle.vhdl_writer.proofs.tables.add_ports.Goals as goal

pub ports-preserved : goal.ports-preserved
ports-preserved c = λ key.
    let one = c.port-item.result in
    lent-more _ _ _ _ (c.in_ok-keep_first.ensures key)
    ∙ ap (λ (name : List ℕ). option_or (option_copied (get by_key c.ports.table key)) (cond (is_same_key (c.args.home, name) key) (Some one) None)) c.new.ensures
    ∙ ap (λ (o : Option SplitPort). option_or o (cond (nat_eq c.args.home key.0 && bytes_eq one.name key.1) (Some one) None)) (c.ports.invariant key)
    ∙ home-more (option_copied (get by_key c.args.table.now key)) c.args.ports.now c.ports.port-index one c.args.home key c.ports-test.true c.port-item.is
