use Rattle.type_split.specs.Streams.{plain_split}
use Rattle.trace_decode.proofs.UntaggedLemmas.{AreTaggedTo}
use Rattle.trace_decode.proofs.decode_run.tagged_streams.Given as goal

abbrev pub invariant-streams : goal.invariant-streams
invariant-streams l = AreTaggedTo (plain_split l.split) l.stream-index l.tagged.items
