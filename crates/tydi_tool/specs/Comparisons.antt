-- The comparison of a trace of a port with a value, and the answer of `compare` (this project's own).
use Rattle.std.specs.Prelude.{◌≡◌, ℕ, suc, ◌<◌, ◌++◌, List, [], ◌∷◌, Option, Some, None, Result, Ok, Err, codes, decimal}
use Rattle.std.specs.List.{All, flat_map}
use Rattle.tydi_base.specs.Hex.{hex_of}
use Rattle.tydi_base.specs.Path.{path_text}
use Rattle.physical_stream.specs.declared.item.Item.{Item}
use Rattle.physical_stream.specs.declared.item.Item.TheVariants as items
use Rattle.cycle_trace.specs.Trace.{TraceText}
use Rattle.cycle_trace.specs.TraceText.{trace_of}
use Rattle.cycle_trace.specs.declared.fault.TraceFault.{TraceFault}
use Rattle.logical_value.specs.Tree.{Tree, plain_port}
use Rattle.logical_value.specs.declared.value.PortValue.{PortValue}
use Rattle.port_drive.specs.Drives.{items_on}
use Rattle.trace_compare.specs.Texts.{Comparison, Compared, IsComparisonOf, IsFed, Misspelled, OtherHeader, split_of, wants_of}
use Rattle.trace_compare.specs.declared.difference.Difference.{Difference}
use Rattle.type_split.specs.Streams.{PlainSplit}
use Rattle.type_split.specs.declared.split.Phys.{Phys}
use Rattle.vhdl_text.specs.Text.{◌⁀◌}
use Rattle.tydi_tool.specs.declared.answer.Answer.{Answer}
use Rattle.tydi_tool.specs.declared.answer.Answer.TheVariants as answers
use Rattle.tydi_tool.specs.declared.compare_file.CompareFile.{CompareFile}
use Rattle.tydi_tool.specs.declared.compare_file.Comparing.{Comparing}
use Rattle.tydi_tool.specs.declared.compare_file.Comparing.TheVariants as findings
use Rattle.tydi_tool.specs.Decodes.{other_header}
use Rattle.tydi_tool.specs.Drives.{path_of}
use Rattle.tydi_tool.specs.Outcome.{output_answer}
use Rattle.tydi_tool.specs.Reading.{RefusesBy, Seen}
use Rattle.tydi_tool.specs.Refusals.{refusal_line, refusal_of_trace}

-- ---- what is expected

-- the items that a value has on these streams, the first of which has this number: the flat form of each stream's view
abbrev pub items_from : PlainSplit → List (List Tree) → ℕ → List Phys → List (List Item)
items_from split roots number [] = []
items_from split roots number (stream ∷ streams) = items_on split roots number stream ∷ items_from split roots (suc number) streams

-- the items that a value has on each stream of the port
abbrev pub items_of_value : PlainSplit → PortValue → List (List Item)
items_of_value split value = items_from split (plain_port value) 0 split.streams

-- ---- the lines

-- numbers with a point between each two
abbrev pub points : List ℕ → List ℕ
points [] = []
points (first ∷ more) = decimal first ++ flat_map (λ (number : ℕ). codes "." ++ decimal number) more

-- the cycle in which an item comes, or a hyphen where it does not come
abbrev pub cycle_text : Option ℕ → List ℕ
cycle_text None = codes "-"
cycle_text (Some cycle) = decimal cycle

-- an item: the word of an element in hexadecimal, the dimension of a Close; or the end of the list
abbrev pub item_text : Option Item → List ℕ
item_text None = codes "end"
item_text (Some (items.Elem word)) = codes "0x" ++ hex_of word
item_text (Some (items.Close dimension)) = codes "close " ++ decimal dimension

-- the line of the first difference of a stream
abbrev pub difference_line : List (List ℕ) → Difference → List ℕ
difference_line path d =
    codes "differs stream " ⁀ path_text path ⁀ codes " item " ⁀ decimal d.item ⁀ codes " at " ⁀ points d.place ⁀ codes " cycle " ⁀ cycle_text d.cycle
    ⁀ codes " want " ⁀ item_text d.want ⁀ codes " got " ⁀ item_text d.got ⁀ codes "\n"

-- the lines of differences, each with the path of its stream
abbrev pub difference_lines : PlainSplit → List Difference → List ℕ
difference_lines split differences = flat_map (λ (d : Difference). difference_line (path_of split d.stream) d) differences

-- ---- the text of a trace, beside a value of its port

-- by what was read of a text: the comparison of the trace with these items, a list for each stream, or the first error of the text
abbrev pub ReadsAgainst : PlainSplit → List (List Item) → List ℕ → Result TraceText TraceFault → Result Comparison (List ℕ) → Type 0
ReadsAgainst split wants word (Ok t) (Ok found) = IsComparisonOf split wants t found
ReadsAgainst split wants word (Ok t) (Err line) = ⊥
ReadsAgainst split wants word (Err fault) read = RefusesBy (refusal_of_trace word fault) read

-- the text of a trace is read as its comparison with these items
abbrev pub ReadsComparison : PlainSplit → List (List Item) → List ℕ → List ℕ → Result Comparison (List ℕ) → Type 0
ReadsComparison split wants word bytes read = ReadsAgainst split wants word (trace_of bytes) read

-- ---- the answer

-- the answer to the differences of the streams: that there is none, or a line for each
abbrev pub TellsDifferences : PlainSplit → List Difference → Answer → Type 0
TellsDifferences split [] a = a ≡ output_answer (codes "same\n")
TellsDifferences split (first ∷ more) a = a ≡ answers.Verdict (difference_lines split (first ∷ more))

-- the answer to a trace of this word of which this is found: the refusal of its heads, or its differences
abbrev pub TellsComparison : PlainSplit → List ℕ → Comparison → Answer → Type 0
TellsComparison split word (Misspelled fault) a = ⊥
TellsComparison split word (OtherHeader place) a = a ≡ answers.Refused (refusal_line (other_header word place))
TellsComparison split word (Compared differences) a = TellsDifferences split differences a

-- ---- in code

-- what was found, as a comparison
abbrev pub comparison_in : Comparing → Comparison
comparison_in (findings.OtherHeader place) = OtherHeader place
comparison_in (findings.Differences differences) = Compared differences

-- each difference is of one of so many streams
abbrev pub NameStreams : ℕ → List Difference → Type 0
NameStreams streams differences = All (λ (d : Difference). d.stream < streams) differences

abbrev pub NamesStreams : ℕ → Comparison → Type 0
NamesStreams streams (Compared differences) = NameStreams streams differences
NamesStreams streams found = Unit {0}

-- ---- a reader of the text, which comes in pieces

-- it was fed some bytes
abbrev pub IsFedSome : CompareFile → Type 0
IsFedSome file = (bytes : List ℕ) × IsFed file.comparer bytes

-- with these bytes after all that it was fed
abbrev pub compares_after : CompareFile → List ℕ → Result Comparing (List ℕ) → Type 0
compares_after file rest read = (bytes : List ℕ) → IsFed file.comparer bytes
    → Seen comparison_in (ReadsComparison (split_of file.comparer) (wants_of file.comparer) file.word.now (bytes ++ rest)) read

-- it was fed nothing of the trace of this word, which is read beside these items of this port
pub record IsNewBeside (split : PlainSplit) (wants : List (List Item)) (word : List ℕ) (file : CompareFile) : Type 0 where
  pub word_is : file.word.now ≡ word
  pub none : file.fed ≡ 0
  pub fed : IsFed file.comparer []
  pub split_is : split_of file.comparer ≡ split
  pub wants_are : wants_of file.comparer ≡ wants
