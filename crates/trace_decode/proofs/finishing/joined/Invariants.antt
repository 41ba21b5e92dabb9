use Rattle.std.proofs.Common.{List, length}
use Rattle.physical_stream.specs.declared.item.Item.{Item}
use Rattle.type_split.specs.Streams.{plain_split}
use Rattle.trace_decode.specs.Finishing.{AreFinished}
use Rattle.trace_decode.proofs.JoinLemmas.{AreMade}
use Rattle.trace_decode.proofs.finishing.joined.Given as goal

abbrev pub invariant-kept : goal.invariant-kept
invariant-kept l =
    (done : List (List Item)) → AreFinished (plain_split l.split) done l.fn.kept.items → AreMade (plain_split l.split) done l.fn.kept.items (length l.yielded) l.views l.users
