use Rattle.std.proofs.Common.{List, map, refl, ap, subst, arith}
use Rattle.physical_stream.specs.declared.head.Head.{Head}
use Rattle.physical_stream.specs.declared.head.Header.{Header}
use Rattle.cycle_trace.specs.RowSink.{begun_by}
use Rattle.cycle_trace.specs.Surveying.{AreChecked, unseen}
use Rattle.cycle_trace.proofs.EndLemmas.{AreChecked-unseen, IsFirst-none_yet}
use Rattle.cycle_trace.proofs.surveying.run.SurveyRun.of.Goals as goal

pub returns : goal.returns
returns c =
    let t = begun_by c.args.header.now in
    let have = subst (λ (heads : List Head). AreChecked (map unseen heads) c.in_ok-checkers.checkers.items) c.as_slice.ensures c.in_ok-checkers.ensures in
    record {
      cycles = ap (λ (h : Header). h.cycles) c.in_ok-try_clone.ensures;
      heads = ap (λ (h : Header). h.heads) c.in_ok-try_clone.ensures;
      few = c.requires.few_cycles;
      next = record { place = omega arith; within = λ some. some };
      says = (AreChecked-unseen t c.in_ok-checkers.checkers.items refl have, IsFirst-none_yet t refl);
    }
