use Rattle.std.proofs.Common.{ap}
use Rattle.type_split.specs.Streams.{plain_split}
use Rattle.type_split.specs.declared.split.Phys.{Phys}
use Rattle.trace_compare.proofs.TellLemmas.{tells}
use Rattle.trace_compare.proofs.telling.difference_at.Goals as goal

pub returns : goal.returns
returns c =
    tells (plain_split c.args.split.now) c.args.wants.now c.args.states.now c.args.stream c.index-as_slice-stream.result c.index-wants-stream.result c.index-states-stream.result c.as_slice-want.result.now
    c.as_slice.result.now _ c.first_difference.result (ap (λ (q : Phys). q.params.dims) c.phys.view_is) c.as_slice.ensures c.index-as_slice-stream.is c.index-wants-stream.is c.index-states-stream.is
    c.as_slice-want.ensures c.first_difference.ensures
