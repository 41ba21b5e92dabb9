use Rattle.std.proofs.Common.{[], ◌∷◌, if◌then◌else◌}
use Rattle.physical_stream.specs.Items.{last_bit, parts_below}
use Rattle.physical_stream.specs.declared.item.Item.TheVariants.{Close}
use Rattle.trace_decode.specs.Keeping.{HasDims, Takes}
use Rattle.trace_decode.proofs.stream_kept.StreamKept.take_closes.Given as goal

abbrev pub invariant-dims : goal.invariant-dims
invariant-dims l = record {
  taken : Takes (parts_below (λ dim. if last_bit l.p l.transfer l.lane dim then Close dim ∷ [] else []) l.dim) l.initial.self l.self;
  dims : HasDims l.p.dims l.self.builder;
}
