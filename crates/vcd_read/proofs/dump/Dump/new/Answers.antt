use Rattle.std.proofs.Common.{refl, ap}
use Rattle.vcd_read.specs.declared.times.Times.{Times}
use Rattle.vcd_read.proofs.SamplerLemmas.{new-sampler}
use Rattle.vcd_read.proofs.dump.Dump.new.Goals as goal

pub returns-clause-stands : goal.returns-clause-stands
returns-clause-stands c = record {
  open_are = c.in_ok-new.ensures.open;
  wanted_is = c.in_ok-new.ensures.wanted;
  ended_is = refl;
  wires_are = c.new-2.ensures.stands;
  variables_are = c.new-3.ensures c.new-2.result.codes c.args.scope.now;
  last = ap (λ (times : Times). times.last) c.none.ensures;
  back = ap (λ (times : Times). times.back) c.none.ensures;
  sampled = new-sampler (record { scope = c.args.scope.now; heads = c.args.heads }) c.new-2.result.codes c.new-4.result c.new-4.ensures c.requires;
}
