use Rattle.std.proofs.Common.{◌∙◌, List, refl, sym, subst}
use Rattle.physical_stream.specs.declared.head.Head.{Head}
use Rattle.vcd_read.specs.Finding.{FindsWiring}
use Rattle.vcd_read.proofs.SamplerLemmas.{wires-before, wires-now}
use Rattle.vcd_read.proofs.sampler.Sampler.wire.Goals as goal

pub returns-then-is_wired : goal.returns-then-is_wired
returns-then-is_wired c = record {
  heads = refl;
  samples = refl;
  wiring = wires-before c.args.finder c.args.self.now.heads c.args.self.now.wiring (sym
      c.is_wired.ensures ∙ c.if-is_wired.true);
}

pub returns : goal.returns
returns c = record {
  heads = refl;
  samples = refl;
  wiring = wires-now c.args.finder c.args.self.now.heads c.args.self.now.wiring c.in_ok-self.field-0 c.harness-found.result (sym c.is_wired.ensures
      ∙ c.if-is_wired.false)
      (λ scope parts st. subst (λ (heads : List Head). FindsWiring scope parts c.args.finder heads c.harness-found.result) c.as_slice.ensures
      (c.harness-found.ensures scope parts st)) c.in_ok-self.ensures;
}
