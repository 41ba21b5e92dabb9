use Rattle.std.proofs.Common.{◌≤◌, sym, subst}
use Rattle.logical_types.specs.Tree.{plain_of_stream}
use Rattle.logical_types.specs.declared.ltype.StreamType.{StreamType}
use Rattle.til_resolve.specs.PlainProject.{plain_port}
use Rattle.type_split.specs.Nodes.{number_of_streams}
use Rattle.vhdl_writer.proofs.SplitLemmas.{few-of}
use Rattle.vhdl_writer.proofs.splitting.split_port.Goals as goal

pub split_type-requires-clause-few : goal.split_type-requires-clause-few
split_type-requires-clause-few c =
    subst (λ (one : StreamType). number_of_streams (plain_of_stream one) ≤ 65536) (sym c.deref.ensures) (few-of (plain_port c.args.port.now).ltype c.requires)
