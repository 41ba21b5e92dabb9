use Rattle.std.proofs.Common.{rules, List, subst, arith}
use Rattle.type_split.specs.Streams.{plain_split}
use Rattle.type_split.specs.declared.split.Phys.{Phys}
use Rattle.trace_decode.specs.Running.{AreFresh}
use Rattle.trace_decode.proofs.RunLemmas.{few_streams, runs-begun}
use Rattle.trace_decode.proofs.decode_run.DecodeRun.of.Goals as goal

pub returns : goal.returns
returns c = record {
  heads = c.requires.same;
  surveyed = c.in_ok-start.ensures.started;
  cycles = c.requires.header.few_cycles;
  streams = few_streams c.args.header.now.heads c.requires.header.streams;
  rows = search rules;
  most = omega arith;
  kept =
      runs-begun (plain_split c.args.split.now) c.args.header.now c.start.new.self c.in_ok-kept.kept.items c.requires.header c.requires.same
      (subst (λ (l : List Phys). AreFresh l c.in_ok-kept.kept.items) c.as_slice.ensures c.in_ok-kept.ensures);
  tagged = c.in_ok-tagged.ensures;
  tag = λ cycle stream bad. let none = bad.stands in cc;
}
