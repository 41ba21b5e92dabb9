-- The laws of `compare` (this project's own): what it says is the same, and that it says so of what `drive` writes.
use Rattle.std.specs.Prelude.{◌≡◌, ℕ, ◌↔◌, List, Some, codes}
use Rattle.tydi_io.specs.Store.{Files}
use Rattle.cycle_trace.specs.Trace.{TraceText, streams_of}
use Rattle.logical_value.specs.declared.value.PortValue.{PortValue}
use Rattle.port_drive.specs.Drives.{heads_of}
use Rattle.port_drive.specs.Laws.{done_on}
use Rattle.type_split.specs.Streams.{PlainSplit}
use Rattle.tydi_tool.specs.declared.answer.Answer.{Answer}
use Rattle.tydi_tool.specs.declared.answer.Answer.TheVariants as answers
use Rattle.tydi_tool.specs.Causes.{CompareWords, HasCompare}
use Rattle.tydi_tool.specs.Commands.{Says}
use Rattle.tydi_tool.specs.Comparisons.{items_of_value}
use Rattle.tydi_tool.specs.Words.{Compare, Drive}

-- the words of a trace that is compared with a value
abbrev pub compare_words : (project port value trace : List ℕ) → CompareWords
compare_words project port value trace = record { at = record { project = project; port = port }; value = value; trace = trace }

-- a trace has the heads of a port, and the items done on each stream are exactly those of the value
pub record ShowsValue (split : PlainSplit) (value : PortValue) (t : TraceText) : Type 0 where
  pub heads : t.heads ≡ heads_of split
  pub items : done_on (streams_of t) ≡ items_of_value split value

-- the text is written for files of a port, a value and a trace that shows the value
pub record WritesSame (known : Files) (words : CompareWords) (text : List ℕ) : Type 0 where
  pub split : PlainSplit
  pub value : PortValue
  pub t : TraceText
  pub all : HasCompare known words split value t
  pub shows : ShowsValue split value t
  pub is : text ≡ codes "same\n"

-- each text that `compare` writes is so
abbrev pub SameTracesShowValues : Type 0
SameTracesShowValues = (known : Files) (project port value trace text : List ℕ) → Says (Some known) (Some (Compare project port value trace)) (answers.Done text)
    → WritesSame known (compare_words project port value trace) text

-- and where a trace shows the value, the answer is that it is the same, and no other
abbrev pub ShownValuesAreSame : Type 0
ShownValuesAreSame = (known : Files) (project port word trace : List ℕ) (split : PlainSplit) (value : PortValue) (t : TraceText)
    → HasCompare known (compare_words project port word trace) split value t → ShowsValue split value t
    → (a : Answer) → Says (Some known) (Some (Compare project port word trace)) a ↔ (a ≡ answers.Done (codes "same\n"))

-- wherever a file holds a text that `drive` wrote for a value, beside the same project and value, the answer is that it is the same, and no other
abbrev pub DrivenTracesAreSame : Type 0
DrivenTracesAreSame = (known after : Files) (project port value plan trace text : List ℕ) → Says (Some known) (Some (Drive project port value plan)) (answers.Done text)
    → after project ≡ known project → after value ≡ known value → after trace ≡ Some text
    → (a : Answer) → Says (Some after) (Some (Compare project port value trace)) a ↔ (a ≡ answers.Done (codes "same\n"))
