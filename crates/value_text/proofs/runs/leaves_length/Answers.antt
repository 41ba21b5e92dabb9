use Rattle.std.proofs.Common.{refl, arith}
use Rattle.std.proofs.lemmas.Option.{slice_get_within}
use Rattle.value_text.specs.Items.{items_of}
use Rattle.value_text.proofs.RunLemmas.{counts-more}
use Rattle.value_text.proofs.runs.leaves_length.Goals as goal

pub leaves-preserved : goal.leaves-preserved
leaves-preserved c =
    counts-more c.args.nests.now.before.now c.args.nests.now.between.now (items_of c.args.nests.now.values) c.leaves.count c.leaves.lead c.leaves.bytes c.in-Some.value.now _ c.leaf_length.result
    c.saturating_add.result c.saturating_add-bytes.result c.leaves.invariant c.in-Some.ensures.found refl c.leaf_length.ensures c.saturating_add.ensures c.saturating_add-bytes.ensures

pub leaves-smaller : goal.leaves-smaller
leaves-smaller c = let within = slice_get_within (items_of c.args.nests.now.values) c.leaves.count c.in-Some.value.now c.in-Some.ensures.found in omega (arith, within)
