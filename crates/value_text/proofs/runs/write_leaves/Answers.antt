use Rattle.value_text.specs.Items.{items_of}
use Rattle.value_text.proofs.RunLemmas.{leaves-written}
use Rattle.value_text.proofs.runs.write_leaves.Goals as goal

pub words-preserved : goal.words-preserved
words-preserved c =
    leaves-written c.args.between.now (items_of c.args.values) (items_of c.words.left) (items_of c.skip-left.result) c.in_ok-count.count c.args.out.now c.words.out c.write_some.new.out
    c.words.invariant c.in_ok-count.ensures c.skip-left.ensures
