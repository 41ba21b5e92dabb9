use Rattle.std.proofs.Common.{List, sym, subst, arith}
use Rattle.vcd_read.specs.Finding.{IsFirst, kept_by}
use Rattle.vcd_read.specs.Wanted.{codes_in, widths_in}
use Rattle.vcd_read.specs.declared.fault.VcdFault.{VcdFault}
use Rattle.vcd_read.proofs.FindLemmas.{faults-here, streams-next}
use Rattle.vcd_read.proofs.finder.Finder.probes.Goals as goal

pub returns-in-Err : goal.returns-in-Err
returns-in-Err c scope parts st =
    let inv = c.streams.invariant scope parts st in
    subst (λ (l : List VcdFault). IsFirst l c.in-Err.fault) (sym inv.0)
    (faults-here (kept_by c.args.self) (widths_in parts) (codes_in scope parts) c.args.heads.now c.streams.stream c.index-heads-stream.result c.in-Err.fault
    (let t = c.streams-test.true in omega (arith, t)) c.index-heads-stream.is
    (c.in-Err.ensures scope parts st))

pub streams-preserved : goal.streams-preserved
streams-preserved c scope parts st =
    let inv = c.streams.invariant scope parts st in let one = c.in-Ok.ensures scope parts st in
    streams-next (kept_by c.args.self) (widths_in parts) (codes_in scope parts) c.args.heads.now c.streams.stream c.streams.probes c.push.new.self
    c.index-heads-stream.result c.in-Ok.probe
    (let t = c.streams-test.true in omega (arith, t)) c.index-heads-stream.is inv.0 inv.1 one.0 one.1 c.in_ok-push-in-Ok.ensures.ok
