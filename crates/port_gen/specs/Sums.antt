-- The sum of a trace's text, and the sink that keeps it (this project's own).
use Rattle.std.specs.Prelude.{◌≡◌, ℕ, ◌+◌, ◌%◌, ◌^◌, List, Option, Some, None}
use Rattle.std.specs.List.{sum}
use Rattle.cycle_trace.specs.Surveying.{IsNextRow}
use Rattle.cycle_trace.specs.Trace.{TraceText, params_of_heads}
use Rattle.port_drive.specs.Text.{written_text}
use Rattle.port_gen.specs.declared.text_sum.SumRun.{SumRun}
use Rattle.port_gen.specs.declared.text_sum.TextSum.{TextSum}

-- the sum of bytes and of those before them, modulo 2^32
abbrev pub sum_on : ℕ → List ℕ → ℕ
sum_on before bytes = (before + sum bytes) % 2 ^ 32

-- the sum of all bytes of the text of a trace, modulo 2^32
abbrev pub text_sum_of : TraceText → ℕ
text_sum_of t = sum_on 0 (written_text t)

-- the state that is kept of the rows so far
pub record SumsTo (run : SumRun) (t : TraceText) : Type 0 where
  pub streams : run.streams ≡ params_of_heads t.heads
  pub cycle : ℕ
  pub next : IsNextRow t cycle run.stream
  pub sum_is : run.total ≡ text_sum_of t

abbrev pub SumStandsFor : Option SumRun → Option TraceText → Type 0
SumStandsFor None None = Unit {0}
SumStandsFor None (Some t) = ⊥
SumStandsFor (Some run) None = ⊥
SumStandsFor (Some run) (Some t) = SumsTo run t

-- a sum stands for nothing, or for a header and the rows so far
abbrev pub SumStands : TextSum → Option TraceText → Type 0
SumStands text said = SumStandsFor text.run said
