use Rattle.std.proofs.Common.{refl}
use Rattle.logical_types.specs.Tree.{plain}
use Rattle.logical_value.specs.Tree.{plain as plain_value}
use Rattle.logical_value.proofs.PackingLemmas.{packed-whole}
use Rattle.logical_value.proofs.packing.packed.Goals as goal

pub returns : goal.returns
returns c =
    packed-whole (record { alloc = c.args.alloc; bits = c.in_ok-zeros.field-0; offset = 0 }) c.put.new.self (plain c.args.ltype.now) (plain_value c.args.value.now) c.width.result
    c.width.ensures c.in_ok-zeros.ensures refl c.requires.plain c.requires.element (c.in_ok-put.ensures c.requires.element)
