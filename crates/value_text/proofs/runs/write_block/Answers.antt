use Rattle.std.proofs.Common.{arith}
use Rattle.std.proofs.lemmas.Option.{slice_get_within}
use Rattle.value_text.specs.Items.{items_of}
use Rattle.value_text.proofs.RunLemmas.{first-more}
use Rattle.value_text.proofs.runs.write_block.Goals as goal

pub leaves-preserved : goal.leaves-preserved
leaves-preserved c =
    first-more c.args.between.now (items_of c.args.values.now) c.leaves.count c.in-Some.value.now c.new-block.result c.leaves.block c.put_leaf.new.block c.leaves.invariant
    c.in-Some.ensures.found c.if-not-put_leaf.ensures

pub leaves-smaller : goal.leaves-smaller
leaves-smaller c = let within = slice_get_within (items_of c.args.values.now) c.leaves.count c.in-Some.value.now c.in-Some.ensures.found in omega (arith, within)
