use Rattle.std.proofs.Common.{arith}
use Rattle.logical_types.specs.Tree.{plain}
use Rattle.logical_value.specs.Tree.{plain as plain_value}
use Rattle.logical_value.proofs.LawLemmas.{unpacked_are_elements}
use Rattle.layer_rows.proofs.values.write_unpacked.Goals as goal

pub write_packed-requires-clause-element : goal.write_packed-requires-clause-element
write_packed-requires-clause-element c =
    unpacked_are_elements (plain c.args.ltype.now) c.in-Ok.word (plain_value c.in-Ok-unpack.value) (omega (arith, c.len.ensures, c.if-len-bits.false, c.width-bits.ensures))
    c.in-Ok-unpack.ensures.agrees
