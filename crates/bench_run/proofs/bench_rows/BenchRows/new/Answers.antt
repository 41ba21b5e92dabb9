use Rattle.std.proofs.Common.{◌≡◌, [], length, refl, sym, subst, ap, arith}
use Rattle.vhdl_text.specs.declared.bench.Bench.{Bench}
use Rattle.vhdl_meaning.specs.RunLaws.{FitsBench}
use Rattle.vhdl_meaning.specs.Simulated.{StandsFor}
use Rattle.bench_run.proofs.bench_rows.BenchRows.new.Goals as goal

pub invariant_of-result : goal.invariant_of-result
invariant_of-result c =
    let sim = c.in_ok-sim.sim in
    let same : sim.bench ≡ c.args.bench = c.in_ok-sim.ensures.same in
    record {
      at = record {
        fits = subst (λ (b : Bench). FitsBench b c.args.run) (sym same) c.requires.run;
        stands = subst (λ (b : Bench). StandsFor sim b []) (sym same) c.in_ok-sim.ensures;
        room = omega (arith, c.in_ok-resize.ensures.len, c.resize.new.self.ok.0, c.len.ensures, ap (λ (b : Bench). length b.heads) same);
        bits = refl;
        within = omega arith;
        few = omega arith;
      };
    }
