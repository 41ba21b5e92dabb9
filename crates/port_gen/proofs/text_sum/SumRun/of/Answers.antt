use Rattle.std.proofs.Common.{◌∙◌, ◌++◌, List, ℕ, ap, refl}
use Rattle.cycle_trace.specs.Spelling.{header_text}
use Rattle.cycle_trace.specs.Trace.{params_of_heads}
use Rattle.cycle_trace.specs.Version.{version_of}
use Rattle.port_gen.specs.Sums.{sum_on}
use Rattle.port_gen.proofs.SumLemmas.{sums-begun}
use Rattle.port_gen.proofs.text_sum.SumRun.of.Goals as goal

pub returns : goal.returns
returns c =
    sums-begun c.args.header.now _ c.write_header.new.out (c.in_ok-params_of.ensures ∙ ap params_of_heads c.as_slice-2.ensures) refl
    (c.in_ok-write_header.ensures.ok ∙ ap (λ (l : List ℕ). l ++ header_text (version_of c.args.header.now.heads) c.args.header.now.cycles c.args.header.now.heads) c.new-room.ensures) (c.with_bytes-total.ensures ∙ ap (sum_on 0) c.as_slice.ensures)
