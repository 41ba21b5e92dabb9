use Rattle.std.proofs.Common.{◌∙◌, ℕ, ◌+◌, ◌==◌, if◌then◌else◌, length, ap, sym, subst, arith}
use Rattle.physical_stream.specs.Cycles.{cycle_in}
use Rattle.physical_stream.specs.declared.head.Header.{Header}
use Rattle.cycle_trace.specs.Surveying.{IsNextRow}
use Rattle.cycle_trace.proofs.SurveyorLemmas.{turn, next_row}
use Rattle.cycle_trace.proofs.surveying.run.SurveyRun.see.Goals as goal

pub next_stream-self-requires : goal.next_stream-self-requires
next_stream-self-requires c =
    let t = c.requires.0 in
    let stands = c.requires.1.0 in
    let here = turn t c.args.self.now.cycle c.args.self.now.stream stands.next (cycle_in c.args.row) c.requires.1.1 in
    omega (arith, here.in_streams, c.len.ensures, ap length stands.heads, c.judge.ensures.same.stream, ap (λ (h : Header). length h.heads) c.judge.ensures.same.header)

pub next_cycle-self-requires : goal.next_cycle-self-requires
next_cycle-self-requires c =
    let t = c.requires.0 in
    let stands = c.requires.1.0 in
    let here = turn t c.args.self.now.cycle c.args.self.now.stream stands.next (cycle_in c.args.row) c.requires.1.1 in
    omega (arith, here.in_cycles, stands.few, c.judge.ensures.same.cycle)

pub returns : goal.returns
returns c t stands can =
    let same = c.judge.ensures.same in
    let heads = ap (λ (h : Header). h.heads) same.header ∙ stands.heads in
    let at_cycle = subst (λ (n : ℕ). IsNextRow t n c.args.self.now.stream) (sym same.cycle) stands.next in
    let at_stream = subst (λ (n : ℕ). IsNextRow t c.judge.new.self.cycle n) (sym same.stream) at_cycle in
    record {
      cycles = ap (λ (h : Header). h.cycles) same.header ∙ stands.cycles;
      heads = heads;
      few = stands.few;
      next =
          next_row t c.judge.new.self.cycle c.judge.new.self.stream at_stream (cycle_in c.args.row) can c.next_cycle-self.result c.next_stream-self.result
          (c.next_stream-self.ensures ∙ ap (λ (n : ℕ). if c.judge.new.self.stream + 1 == n then 0 else c.judge.new.self.stream + 1) (c.len.ensures ∙ ap length heads)) c.next_cycle-self.ensures;
      says = c.judge.ensures.says t stands can;
    }
