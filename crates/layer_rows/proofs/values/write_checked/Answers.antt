use Rattle.logical_types.specs.Tree.{plain}
use Rattle.logical_types.proofs.PlainTypes.{IsPlain-IsValid}
use Rattle.layer_rows.proofs.values.write_checked.Goals as goal

pub write_unpacked-requires-clause-plain : goal.write_unpacked-requires-clause-plain
write_unpacked-requires-clause-plain c = IsPlain-IsValid (plain c.args.ltype.now) c.in-Ok.ensures.valid
