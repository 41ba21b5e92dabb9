use Rattle.std.proofs.Common.{Option, subst}
use Rattle.nest_shape.specs.declared.builder.Builder.{Builder}
use Rattle.trace_decode.specs.Keeping.{Builds}
use Rattle.trace_decode.proofs.KeepLemmas.{may_close_so}
use Rattle.trace_decode.proofs.stream_kept.StreamKept.may_close.Goals as goal

pub returns-in-Some-clause-nested : goal.returns-in-Some-clause-nested
returns-in-Some-clause-nested c done built =
    may_close_so done c.args.dim c.may_close.result (c.may_close.ensures.told done (subst (λ (o : Option Builder). Builds done o) c.in-Some.is built))
