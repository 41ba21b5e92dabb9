use Rattle.std.proofs.Common.{◌≡◌, ℕ, [], ◌∷◌, if◌then◌else◌, ap, subst, arith}
use Rattle.physical_stream.specs.Items.{last_bit, parts_below}
use Rattle.physical_stream.specs.Params.{Parameters}
use Rattle.physical_stream.specs.declared.item.Item.TheVariants.{Close}
use Rattle.trace_decode.specs.Keeping.{Takes}
use Rattle.trace_decode.proofs.KeepLemmas.{takes-part}
use Rattle.trace_decode.proofs.stream_kept.StreamKept.take_closes.Goals as goal

pub dims-preserved : goal.dims-preserved
dims-preserved c = record {
  taken =
      takes-part (λ dim. if last_bit c.args.p.now c.args.transfer.now c.args.lane dim then Close dim ∷ [] else []) c.dims.dim c.args.self.now c.dims.self c.take_close.new.self
      c.dims.invariant.taken c.in_ok-take_close.ensures.taken;
  dims = c.in_ok-take_close.ensures.taken.dims c.args.p.now.dims c.dims.invariant.dims;
}

pub returns : goal.returns
returns c =
    let same : c.p.inside.dims ≡ c.args.p.now.dims = ap (λ (p : Parameters). p.dims) c.p.view_is in
    let all : c.dims.dim ≡ c.args.p.now.dims = omega (arith, c.dims.auto.dim-end, c.dims-test.false) in
    record {
      taken =
          subst (λ (n : ℕ). Takes (parts_below (λ dim. if last_bit c.args.p.now c.args.transfer.now c.args.lane dim then Close dim ∷ [] else []) n) c.args.self.now c.dims.self) all
          c.dims.invariant.taken;
    }
