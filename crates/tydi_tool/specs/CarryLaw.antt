-- The law of `carry` (this project's own): which trace is written, and what is known of it.
use Rattle.std.specs.Prelude.{◌≡◌, ℕ, ◌≤◌, List, length, Some, Ok}
use Rattle.tydi_io.specs.Store.{Files}
use Rattle.cycle_trace.specs.Trace.{TraceText}
use Rattle.cycle_trace.specs.TraceText.{trace_of}
use Rattle.til_resolve.specs.PlainProject.{PlainProject}
use Rattle.link_check.specs.Carriers.{CanRise}
use Rattle.link_check.specs.Carry.{carried}
use Rattle.link_check.specs.Checked.{linked}
use Rattle.link_check.specs.declared.end_heads.EndHeads.{EndHeads}
use Rattle.link_check.specs.declared.nets.Nets.{Nets}
use Rattle.port_drive.specs.Text.{written_text}
use Rattle.carried_values.specs.Laws.{ArrivesWhole}
use Rattle.tydi_tool.specs.declared.answer.Answer.TheVariants as answers
use Rattle.tydi_tool.specs.Causes.{CarryWords, HasRead, HasTrace}
use Rattle.tydi_tool.specs.Commands.{Says}
use Rattle.tydi_tool.specs.Designs.{DesignWords, HasHeads, ReadsDesign, leaf_at, top_at}
use Rattle.tydi_tool.specs.Words.{Carry}

-- the words of a trace that is carried
abbrev pub carry_words : (project top from to trace : List ℕ) → CarryWords
carry_words project top from to trace = record { design = record { project = project; top = top; from = from; to = to }; trace = trace }

-- A text is written for a trace that is carried. The nets of the project lead from the leaf source FROM to the leaf sink TO, whose types are
-- compatible, and the trace has the heads where its streams come from. The text is that of the trace with the heads where they arrive, and is
-- read as this trace. It arrives whole by the types of both ends: the same cycles with valid and ready, the same items done in each, the same
-- endings, legal where it was legal, and carrying the same values.
pub record WritesArrived (known : Files) (words : CarryWords) (text : List ℕ) : Type 0 where
  pub read : PlainProject
  pub project : HasRead known words.design.project read
  pub top : ℕ
  pub named : top_at read.streamlets words.design.top ≡ Some top
  pub nets : Nets
  pub nets_are : linked read.streamlets ≡ Ok nets
  pub heads : EndHeads
  pub joined : HasHeads read.streamlets nets (leaf_at top words.design.from) (leaf_at top words.design.to) heads
  pub t : TraceText
  pub trace : HasTrace known words.trace t
  pub same : t.heads ≡ heads.from
  pub whole : ArrivesWhole joined.types.one.ltype joined.types.other.ltype t (carried heads.to t)
  pub is : text ≡ written_text (carried heads.to t)
  pub read_back : trace_of text ≡ Ok (carried heads.to t)

-- each text that is written is that of such a trace
abbrev pub WrittenTracesArrive : Type 0
WrittenTracesArrive = (known : Files) (project top from to trace text : List ℕ) → Says (Some known) (Some (Carry project top from to trace)) (answers.Done text)
    → (length text ≤ 67108864) × WritesArrived known (carry_words project top from to trace) text

-- on no way from a leaf source to a leaf sink does the level of a stream fall, so no trace is refused for its level
abbrev pub LevelsRiseOnTheWay : Type 0
LevelsRiseOnTheWay = (words : DesignWords) (bytes : List ℕ) (heads : EndHeads) → ReadsDesign words bytes (Ok heads) → CanRise heads.from heads.to
