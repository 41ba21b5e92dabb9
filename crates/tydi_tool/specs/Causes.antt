-- The table of causes: each row has the cause of an answer, and the very line or text that is said of it, written out here once
-- more. So a name that is exchanged in the definition of the answers and in the code breaks a law (this project's own).
use Rattle.std.specs.Prelude.{◌≡◌, ℕ, ◌<◌, ◌≤◌, ◌⊎◌, ◌↔◌, ◌==◌, ◌||◌, if◌then◌else◌, true, false, List, [], ◌∷◌, ◌++◌, length, drop, slice_get, Option, Some, None, option_map, Ok, Err, codes, decimal}
use Rattle.std.specs.Str.{bytes_eq, is_utf8}
use Rattle.std.specs.Str.Lossy.{utf8_valid_len}
use Rattle.tydi_base.specs.Path.{colon_text, path_text}
use Rattle.tydi_base.specs.declared.place.Place.{Place}
use Rattle.tydi_io.specs.Store.{Files}
use Rattle.physical_stream.specs.First.{Offence, IsFirst}
use Rattle.physical_stream.specs.Rules.{number_of_rule, name_of_rule}
use Rattle.physical_stream.specs.declared.end.End.{End}
use Rattle.physical_stream.specs.declared.end.End.TheVariants as ends
use Rattle.cycle_trace.specs.Trace.{TraceText, streams_of}
use Rattle.cycle_trace.specs.TraceText.{trace_of}
use Rattle.cycle_trace.specs.Survey.{UnfinishedStream, counts_of, first_unfinished}
use Rattle.cycle_trace.specs.Surveying.{offends_in}
use Rattle.cycle_trace.specs.declared.fault.TraceFault.{TraceFault}
use Rattle.cycle_trace.specs.declared.fault.TraceFault.TheVariants as reading
use Rattle.til_lexer.specs.Tokens.{tokens_of}
use Rattle.til_lexer.specs.declared.fault.LexFault.{LexFault}
use Rattle.til_lexer.specs.declared.fault.LexFault.TheVariants as lexing
use Rattle.til_lexer.specs.declared.token.Token.{Token}
use Rattle.til_parser.specs.Canonical.{canonical}
use Rattle.til_parser.specs.Faults.{IsFaultOf}
use Rattle.til_parser.specs.Lexemes.{lexemes_of}
use Rattle.til_parser.specs.declared.fault.ParseFault.{ParseFault}
use Rattle.til_parser.specs.declared.fault.ParseFault.TheVariants as parsing
use Rattle.til_parser.specs.declared.tree.Ast.{Ast}
use Rattle.logical_types.specs.Tree.{Ltype}
use Rattle.logical_types.specs.declared.fault.TypeFault.{TypeFault}
use Rattle.logical_types.specs.declared.fault.TypeFault.TheVariants as typing
use Rattle.til_resolve.specs.Faults.{IsToldOf}
use Rattle.til_resolve.specs.PlainProject.{PlainPort, PlainProject}
use Rattle.til_resolve.specs.declared.project.Test.{Test}
use Rattle.til_resolve.specs.declared.fault.ResolveFault.{ResolveFault}
use Rattle.til_resolve.specs.declared.fault.ResolveFault.TheVariants as resolving
use Rattle.type_split.specs.Carried.{uncarried_of}
use Rattle.type_split.specs.Streams.{PlainSplit, clash_of, split_of}
use Rattle.logical_value.specs.Tree.{plain_port}
use Rattle.logical_value.specs.declared.value.PortValue.{PortValue}
use Rattle.plan_text.specs.Text.{plan_of}
use Rattle.plan_text.specs.declared.fault.PlanFault.{PlanFault}
use Rattle.plan_text.specs.declared.fault.PlanFault.TheVariants as planning
use Rattle.plan_text.specs.declared.plan.Plan.{Plan}
use Rattle.port_bench.specs.Benches.{bench_text_of}
use Rattle.port_drive.specs.Drives as driving
use Rattle.port_drive.specs.Drives.{Undriven, drive_of, heads_of}
use Rattle.port_drive.specs.Text.{drive_text}
use Rattle.port_gen.specs.Jobs.{NoJob, NotDriven, TooManyCycles, TooManyLeaves, job_of}
use Rattle.port_gen.specs.Summaries.{Summary, summary_of}
use Rattle.split_text.specs.Text.{split_text}
use Rattle.trace_compare.specs.Differences.{AreDifferences}
use Rattle.trace_compare.specs.declared.difference.Difference.{Difference}
use Rattle.monitor_bench.specs.Monitors.{monitor_of}
use Rattle.trace_watch.specs.Watched.{watched_of}
use Rattle.trace_watch.specs.declared.watched.StreamWatched.{StreamWatched}
use Rattle.watch_text.specs.Reading.{watch_of}
use Rattle.watch_text.specs.Statements.{PlainWatch}
use Rattle.watch_text.specs.Text.{watch_text}
use Rattle.watch_text.specs.declared.fault.WatchFault.{WatchFault}
use Rattle.watch_text.specs.declared.fault.WatchFault.TheVariants as watching
use Rattle.value_text.specs.Reading.{IsFaulty, IsValue}
use Rattle.value_text.specs.declared.fault.ValueFault.{ValueFault}
use Rattle.value_text.specs.declared.fault.ValueFault.TheVariants as valuing
use Rattle.port_drive.specs.Laws.{done_on}
use Rattle.logical_value.specs.Tree.{Tree}
use Rattle.trace_decode.specs.Outcome.{DifferFirst, DisagreeAt, users_on}
use Rattle.trace_decode.specs.Tags.{OffendsWithTags}
use Rattle.value_text.specs.Canonical as values
use Rattle.value_views.specs.Comparing.{Disagreement}
use Rattle.value_views.specs.Views.{Carries}
use Rattle.tydi_tool.specs.declared.answer.Answer.{Answer}
use Rattle.tydi_tool.specs.declared.answer.Answer.TheVariants as answers
use Rattle.tydi_tool.specs.Ask.{Ask, Ends, Asks}
use Rattle.tydi_tool.specs.Commands.{ask_of, Says}
use Rattle.tydi_tool.specs.Comparisons.{difference_lines, items_of_value}
use Rattle.tydi_tool.specs.Drives.{path_of}
use Rattle.tydi_tool.specs.Dumps.{wanted_of}
use Rattle.tydi_tool.specs.Files.{file_of}
use Rattle.tydi_tool.specs.Lines.{counts_text}
use Rattle.tydi_tool.specs.Ports.{port_named}
use Rattle.tydi_tool.specs.Projects.{ReadsProject}
use Rattle.tydi_tool.specs.Reports.{path_of_stream}
use Rattle.tydi_tool.specs.Trees.{IsSpelled, ReadsTree}
use Rattle.tydi_tool.specs.Watches.{IsQuiet, watched_lines}
use Rattle.vhdl_text.specs.Reading.{bench_of}
use Rattle.vhdl_text.specs.declared.bench.Bench.{Bench}
use Rattle.vhdl_text.specs.declared.language.Language.{Language}
use Rattle.vhdl_text.specs.declared.fault.VhdlFault.{VhdlFault}
use Rattle.vhdl_text.specs.declared.fault.VhdlFault.TheVariants as benching
use Rattle.vhdl_meaning.specs.RunText.{run_of}
use Rattle.vhdl_meaning.specs.declared.run.RunFault.{RunFault}
use Rattle.vhdl_meaning.specs.declared.run.RunFault.TheVariants as running
use Rattle.vhdl_meaning.specs.declared.run.SimRun.{SimRun}
use Rattle.bench_run.specs.Traces.{trace_text_of}
use Rattle.link_check.specs.Checked.{linked}
use Rattle.link_check.specs.Text.{nets_text}
use Rattle.link_check.specs.declared.difference.Why.{Why}
use Rattle.link_check.specs.declared.difference.Why.TheVariants as whys
use Rattle.link_check.specs.declared.fault.LinkFault.{LinkFault}
use Rattle.link_check.specs.declared.fault.LinkFault.TheVariants as linking
use Rattle.link_check.specs.declared.nets.Nets.{Nets}
use Rattle.tydi_tool.specs.Tests.{test_named, tested_port}
use Rattle.tydi_tool.specs.Words as requests
use Rattle.tydi_tool.specs.Words.{Request, Check, Decode, Drive, Link, Read, Sim, Split, FileWord, Carry, Design}
use Rattle.link_check.specs.Carry.{FirstOther, carried}
use Rattle.link_check.specs.declared.end_heads.EndHeads.{EndHeads}
use Rattle.port_drive.specs.Text.{written_text}
use Rattle.tydi_tool.specs.Designs.{AreJoined, DesignWords, HasClash, HasNoClash, ReadsDesign, leaf_at, top_at}
use Rattle.vcd_read.specs.Shown.{shown}
use Rattle.vcd_read.specs.declared.fault.VcdFault.{VcdFault}
use Rattle.vcd_read.specs.declared.fault.VcdFault.TheVariants as dumping
use Rattle.vhdl_text.specs.Text.{signal_word}
use Rattle.vhdl_writer.specs.Architecture.{architectures}
use Rattle.vhdl_writer.specs.Designs.{design_text}
use Rattle.vhdl_writer.specs.PortClashes.{first_clash}
use Rattle.vhdl_writer.specs.declared.clash.Clash.{Clash}

-- ---- which row an answer is of

pub data Row : Type 0 where
  NoFile : Row
  TooLong : Row
  NotUtf8 : Row
  LexerFault : Row
  ParserFault : Row
  ResolverFault : Row
  NoPort : Row
  NoStreamlet : Row
  NameClash : Row
  NoCarrier : Row
  TextFault : Row
  OtherHeader : Row
  CountNotMultiple : Row
  NotFinished : Row
  NotLinked : Row
  NoPath : Row
  OutputTooLong : Row
  AnOffence : Row
  AnUnfinished : Row
  ADisagreement : Row
  ADifference : Row
  AReport : Row
  AText : Row
  NoTest : Row

-- the row of each name of a fault
abbrev pub rows_of_faults : List (List ℕ × Row)
rows_of_faults =
    (codes "NoFile", NoFile) ∷ (codes "TooLong", TooLong) ∷ (codes "NotUtf8", NotUtf8)
    ∷ (codes "StrayChar", LexerFault) ∷ (codes "OpenString", LexerFault) ∷ (codes "OpenDoc", LexerFault)
    ∷ (codes "NameNotAscii", LexerFault) ∷ (codes "BadName", LexerFault) ∷ (codes "NumberTooLong", LexerFault)
    ∷ (codes "Unexpected", ParserFault) ∷ (codes "EndOfText", ParserFault) ∷ (codes "TooDeep", ParserFault)
    ∷ (codes "DeclaredTwice", ResolverFault) ∷ (codes "UnknownName", ResolverFault) ∷ (codes "WrongKind", ResolverFault)
    ∷ (codes "CyclicType", ResolverFault) ∷ (codes "TypeTooLarge", ResolverFault) ∷ (codes "BadType", ResolverFault)
    ∷ (codes "PortNotStream", ResolverFault) ∷ (codes "CyclicInstance", ResolverFault)
    ∷ (codes "NoStreamlet", NoStreamlet) ∷ (codes "NoPath", NoPath) ∷ (codes "NoTest", NoTest)
    ∷ (codes "NoPort", NoPort) ∷ (codes "NameClash", NameClash) ∷ (codes "NoCarrier", NoCarrier)
    ∷ (codes "BadHeader", TextFault) ∷ (codes "TooManyCycles", TextFault) ∷ (codes "BadRow", TextFault)
    ∷ (codes "WrongSignals", TextFault) ∷ (codes "RowsMissing", TextFault) ∷ (codes "RowsLeft", TextFault)
    ∷ (codes "Syntax", TextFault) ∷ (codes "WrongShape", TextFault) ∷ (codes "UnknownField", TextFault)
    ∷ (codes "OutOfRange", TextFault) ∷ (codes "TooManyLeaves", TextFault)
    ∷ (codes "UnknownStream", TextFault) ∷ (codes "StreamTwice", TextFault) ∷ (codes "ReadyLength", TextFault)
    ∷ (codes "MaskTooWide", TextFault) ∷ (codes "UserTooWide", TextFault)
    ∷ (codes "NotForm", TextFault) ∷ (codes "UnknownSignal", TextFault) ∷ (codes "TwoDrivers", TextFault)
    ∷ (codes "NotOrder", TextFault) ∷ (codes "TooManyOrders", TextFault)
    ∷ (codes "TimeBack", TextFault) ∷ (codes "NoClock", TextFault) ∷ (codes "NoSignal", TextFault)
    ∷ (codes "OtherWidth", TextFault) ∷ (codes "NotBit", TextFault)
    ∷ (codes "OtherHeader", OtherHeader) ∷ (codes "CountNotMultiple", CountNotMultiple) ∷ (codes "NotFinished", NotFinished)
    ∷ (codes "UnknownEnd", NotLinked) ∷ (codes "SameSide", NotLinked) ∷ (codes "NotCompatible", NotLinked)
    ∷ (codes "LinkedTwice", NotLinked) ∷ (codes "Unlinked", NotLinked) ∷ (codes "DesignTooLarge", NotLinked)
    ∷ (codes "OutputTooLong", OutputTooLong) ∷ []

-- the row of each word with which a verdict begins
abbrev pub rows_of_verdicts : List (List ℕ × Row)
rows_of_verdicts =
    (codes "offence", AnOffence) ∷ (codes "unfinished", AnUnfinished) ∷ (codes "disagree", ADisagreement) ∷ (codes "differs", ADifference)
    ∷ (codes "stream", AReport) ∷ []

abbrev pub row_in : List (List ℕ × Row) → List ℕ → Option Row
row_in [] name = None
row_in (one ∷ more) name = if bytes_eq one.0 name then Some one.1 else row_in more name

-- the bytes before the first space or line feed
abbrev pub first_word : List ℕ → List ℕ
first_word [] = []
first_word (byte ∷ more) = if byte == 32 || byte == 10 then [] else byte ∷ first_word more

-- the row of an answer, by its first word; that of a refusal stands behind `tydi: `
abbrev pub row_of : Answer → Option Row
row_of (answers.Refused line) = row_in rows_of_faults (first_word (drop 6 line))
row_of (answers.Verdict line) = row_in rows_of_verdicts (first_word line)
row_of (answers.Done text) = Some AText

-- ---- the files

-- the command comes to ask for this file: those before it are there and are read
abbrev pub Reaches : Files → FileWord → Ask → Type 0
Reaches known file (Ends Tells) = ⊥
Reaches known file (Asks first X Reads next) =
    (file ≡ first) ⊎ ((bytes : List ℕ) × ((file_of known first ≡ Ok bytes) × ((x : X) × (Reads bytes (Ok x) × Reaches known file (next x)))))

-- the store has these bytes by this word, and not more than the limit
pub record HasBytes (known : Files) (word : List ℕ) (limit : ℕ) (bytes : List ℕ) : Type 0 where
  pub there : known word ≡ Some bytes
  pub within : length bytes ≤ limit

-- ---- the words of each command, and the files that it reads

-- the project whose text a command reads
abbrev pub project_of : Request → Option (List ℕ)
project_of (Check trace) = None
project_of (Read project) = Some project
project_of (Split project port) = Some project
project_of (Drive project port value plan) = Some project
project_of (Decode project port trace) = Some project
project_of (Sim bench run) = None
project_of (Link project) = Some project
project_of (Carry project top from to trace) = Some project
project_of (Design language project) = Some project
project_of (requests.Bench project port value plan) = Some project
project_of (requests.Testbench project test) = Some project
project_of (requests.Vcd project port scope file) = Some project
project_of (requests.Gen project port seed count) = Some project
project_of (requests.Compare project port value trace) = Some project
project_of (requests.Expect project port value) = Some project
project_of (requests.Watch monitor trace) = None

-- the project that a command resolves
abbrev pub resolved_of : Request → Option (List ℕ)
resolved_of (Check trace) = None
resolved_of (Read project) = None
resolved_of (Split project port) = Some project
resolved_of (Drive project port value plan) = Some project
resolved_of (Decode project port trace) = Some project
resolved_of (Sim bench run) = None
resolved_of (Link project) = Some project
resolved_of (Carry project top from to trace) = Some project
resolved_of (Design language project) = Some project
resolved_of (requests.Bench project port value plan) = Some project
resolved_of (requests.Testbench project test) = Some project
resolved_of (requests.Vcd project port scope file) = Some project
resolved_of (requests.Gen project port seed count) = Some project
resolved_of (requests.Compare project port value trace) = Some project
resolved_of (requests.Expect project port value) = Some project
resolved_of (requests.Watch monitor trace) = None

-- the trace that a command reads before it reads anything else
abbrev pub trace_in : Request → Option (List ℕ)
trace_in (Check trace) = Some trace
trace_in request = None

-- a port of a project
pub record PortWords : Type 0 where
  pub project : List ℕ
  pub port : List ℕ

-- the port that a command begins with
abbrev pub port_in : Request → Option PortWords
port_in (Split project port) = Some (record { project = project; port = port })
port_in (Drive project port value plan) = Some (record { project = project; port = port })
port_in (Decode project port trace) = Some (record { project = project; port = port })
port_in (requests.Bench project port value plan) = Some (record { project = project; port = port })
port_in (requests.Vcd project port scope file) = Some (record { project = project; port = port })
port_in (requests.Gen project port seed count) = Some (record { project = project; port = port })
port_in (requests.Compare project port value trace) = Some (record { project = project; port = port })
port_in (requests.Expect project port value) = Some (record { project = project; port = port })
port_in request = None

-- the port that a command begins with, each of whose nodes has to be carried
abbrev pub carried_in : Request → Option PortWords
carried_in (Drive project port value plan) = Some (record { project = project; port = port })
carried_in (Decode project port trace) = Some (record { project = project; port = port })
carried_in (requests.Bench project port value plan) = Some (record { project = project; port = port })
carried_in (requests.Gen project port seed count) = Some (record { project = project; port = port })
carried_in (requests.Compare project port value trace) = Some (record { project = project; port = port })
carried_in (requests.Expect project port value) = Some (record { project = project; port = port })
carried_in request = None

-- a port of a project, a value of it and a plan of its streams
pub record DriveWords : Type 0 where
  pub at : PortWords
  pub value : List ℕ
  pub plan : List ℕ

-- the port that a command drives, with the files of the value and the plan
abbrev pub driven_in : Request → Option DriveWords
driven_in (Drive project port value plan) = Some (record { at = record { project = project; port = port }; value = value; plan = plan })
driven_in (requests.Bench project port value plan) = Some (record { at = record { project = project; port = port }; value = value; plan = plan })
driven_in request = None

-- a port of a project, and a value of it
pub record ValueWords : Type 0 where
  pub at : PortWords
  pub value : List ℕ

-- the port of which a command reads a value from a file
abbrev pub valued_in : Request → Option ValueWords
valued_in (Drive project port value plan) = Some (record { at = record { project = project; port = port }; value = value })
valued_in (requests.Bench project port value plan) = Some (record { at = record { project = project; port = port }; value = value })
valued_in (requests.Compare project port value trace) = Some (record { at = record { project = project; port = port }; value = value })
valued_in (requests.Expect project port value) = Some (record { at = record { project = project; port = port }; value = value })
valued_in request = None

-- a port of a project, a value of it, and a trace of it
pub record CompareWords : Type 0 where
  pub at : PortWords
  pub value : List ℕ
  pub trace : List ℕ

-- the port whose trace a command compares with a value, with the files of both
abbrev pub compared_in : Request → Option CompareWords
compared_in (requests.Compare project port value trace) = Some (record { at = record { project = project; port = port }; value = value; trace = trace })
compared_in request = None

-- a port of a project, and a trace of it
pub record DecodeWords : Type 0 where
  pub at : PortWords
  pub trace : List ℕ

-- the port that a command decodes, with the file of the trace
abbrev pub decoded_in : Request → Option DecodeWords
decoded_in (Decode project port trace) = Some (record { at = record { project = project; port = port }; trace = trace })
decoded_in request = None

-- a bench and a run of it
pub record SimWords : Type 0 where
  pub bench : List ℕ
  pub run : List ℕ

-- the bench that a command runs
abbrev pub simulated_in : Request → Option SimWords
simulated_in (Sim bench run) = Some (record { bench = bench; run = run })
simulated_in request = None

-- a monitor, and a trace over which it runs
pub record WatchWords : Type 0 where
  pub monitor : List ℕ
  pub trace : List ℕ

-- the monitor that a command runs
abbrev pub watched_in : Request → Option WatchWords
watched_in (requests.Watch monitor trace) = Some (record { monitor = monitor; trace = trace })
watched_in request = None

-- a design, two leaf ports of it, and a trace at the first
pub record CarryWords : Type 0 where
  pub design : DesignWords
  pub trace : List ℕ

-- the trace that a command carries
abbrev pub carried_words : Request → Option CarryWords
carried_words (Carry project top from to trace) = Some (record { design = record { project = project; top = top; from = from; to = to }; trace = trace })
carried_words request = None

-- under this top, a command that carries a trace comes past a clash: no two streams of its leaf source clash
pub record IsPastClash (read : PlainProject) (words : DesignWords) (top : ℕ) : Type 0 where
  pub named : top_at read.streamlets words.top ≡ Some top
  pub apart : HasNoClash read.streamlets (leaf_at top words.from)

-- a command checks the links of the project of this word, once it has read it so: to write its nets or its architectures, or to carry a
-- trace along them
abbrev pub ChecksLinks : Request → List ℕ → PlainProject → Type 0
ChecksLinks (Link project) word read = word ≡ project
ChecksLinks (Carry project top from to trace) word read = (word ≡ project) × ((number : ℕ) × IsPastClash read
    (record { project = project; top = top; from = from; to = to }) number)
ChecksLinks (Design language project) word read = (word ≡ project) × (first_clash read.streamlets ≡ None)
ChecksLinks request word read = ⊥

-- the project each port of which a command splits before it checks the links
abbrev pub designed_in : Request → Option (List ℕ)
designed_in (Design language project) = Some project
designed_in request = None

-- a declared test of a project
pub record TestWords : Type 0 where
  pub project : List ℕ
  pub test : List ℕ

-- the declared test that a command makes the testbench of
abbrev pub tested_in : Request → Option TestWords
tested_in (requests.Testbench project test) = Some (record { project = project; test = test })
tested_in request = None

-- a port of a project, and a dump of its signals in a scope
pub record DumpWords : Type 0 where
  pub at : PortWords
  pub scope : List ℕ
  pub file : List ℕ

-- the port that a command samples, with the scope and the file of the dump
abbrev pub sampled_in : Request → Option DumpWords
sampled_in (requests.Vcd project port scope file) = Some (record { at = record { project = project; port = port }; scope = scope; file = file })
sampled_in request = None

-- a port of a project, a seed and a count
pub record JobWords : Type 0 where
  pub at : PortWords
  pub seed : ℕ
  pub count : ℕ

-- the port that a command makes a job of
abbrev pub generated_in : Request → Option JobWords
generated_in (requests.Gen project port seed count) = Some (record { at = record { project = project; port = port }; seed = seed; count = count })
generated_in request = None

-- a text of at most so many bytes that a command reads by this word
pub record HasText (known : Files) (named : Option (List ℕ)) (limit : ℕ) (word bytes : List ℕ) : Type 0 where
  pub word_is : named ≡ Some word
  pub file : HasBytes known word limit bytes

-- the project whose text a command reads, of at most 4 MiB
abbrev pub HasProjectText : Files → Request → (word bytes : List ℕ) → Type 0
HasProjectText known request word bytes = HasText known (project_of request) 4194304 word bytes

-- the same, of a command that resolves it
abbrev pub HasProject : Files → Request → (word bytes : List ℕ) → Type 0
HasProject known request word bytes = HasText known (resolved_of request) 4194304 word bytes

-- the trace that a command reads first, of at most 64 MiB
abbrev pub HasTraceText : Files → Request → (word bytes : List ℕ) → Type 0
HasTraceText known request word bytes = HasText known (trace_in request) 67108864 word bytes

-- the project is there and is read, and has this port
pub record HasPort (known : Files) (words : PortWords) (ltype : Ltype) : Type 0 where
  pub bytes : List ℕ
  pub file : HasBytes known words.project 4194304 bytes
  pub read : PlainProject
  pub reads : ReadsProject words.project bytes (Ok read)
  pub found : PlainPort
  pub named : port_named read words.port ≡ Some found
  pub type_is : ltype ≡ found.ltype

-- the project has the port, and no two physical streams of it clash: this is its split
pub record HasSplit (known : Files) (words : PortWords) (split : PlainSplit) : Type 0 where
  pub ltype : Ltype
  pub port : HasPort known words ltype
  pub apart : clash_of ltype ≡ None
  pub is : split ≡ split_of ltype

-- the same, and each node of it is carried
pub record HasCarried (known : Files) (words : PortWords) (split : PlainSplit) : Type 0 where
  pub split_is : HasSplit known words split
  pub carried : uncarried_of split ≡ None

-- a file of at most 16 MiB has the text of this value of the port
pub record HasValue (known : Files) (split : PlainSplit) (word : List ℕ) (value : PortValue) : Type 0 where
  pub bytes : List ℕ
  pub file : HasBytes known word 16777216 bytes
  pub reads : IsValue split bytes value

-- a file of at most 16 MiB has the text of this plan of the port
pub record HasPlan (known : Files) (split : PlainSplit) (word : List ℕ) (plan : Plan) : Type 0 where
  pub bytes : List ℕ
  pub file : HasBytes known word 16777216 bytes
  pub reads : plan_of split.streams bytes ≡ Ok plan

-- all that a command needs to drive a port is there
pub record HasDrive (known : Files) (words : DriveWords) (split : PlainSplit) (value : PortValue) (plan : Plan) : Type 0 where
  pub at : HasCarried known words.at split
  pub value_is : HasValue known split words.value value
  pub plan_is : HasPlan known split words.plan plan

-- all that a command needs to decode a port is there: the port, each node of which is carried, and a file of at most 64 MiB with the text of this
-- trace
pub record HasDecode (known : Files) (words : DecodeWords) (split : PlainSplit) (read : TraceText) : Type 0 where
  pub at : HasCarried known words.at split
  pub bytes : List ℕ
  pub file : HasBytes known words.trace 67108864 bytes
  pub reads : trace_of bytes ≡ Ok read

-- all that a command needs to compare a trace with a value is there: the port, each node of which is carried, the value, and a file of at most
-- 64 MiB with the text of this trace
pub record HasCompare (known : Files) (words : CompareWords) (split : PlainSplit) (value : PortValue) (t : TraceText) : Type 0 where
  pub at : HasCarried known words.at split
  pub value_is : HasValue known split words.value value
  pub bytes : List ℕ
  pub file : HasBytes known words.trace 67108864 bytes
  pub reads : trace_of bytes ≡ Ok t

-- a trace of a port has the heads of the port, and no offence by rules 1 to 11
pub record IsLegalOf (split : PlainSplit) (read : TraceText) : Type 0 where
  pub same : read.heads ≡ heads_of split
  pub legal : (o : Offence) → OffendsWithTags split read o → ⊥

-- a file of at most 64 MiB has the text of this bench
pub record HasBench (known : Files) (word : List ℕ) (bench : Bench) : Type 0 where
  pub bytes : List ℕ
  pub file : HasBytes known word 67108864 bytes
  pub reads : bench_of bytes ≡ Ok bench

-- a file of at most 64 MiB has the text of this monitor
pub record HasMonitor (known : Files) (word : List ℕ) (watch : PlainWatch) : Type 0 where
  pub bytes : List ℕ
  pub file : HasBytes known word 67108864 bytes
  pub reads : watch_of bytes ≡ Ok watch

-- all that a command needs to run a monitor is there: the monitor, and a file of at most 64 MiB with the text of this trace
pub record HasWatch (known : Files) (words : WatchWords) (watch : PlainWatch) (t : TraceText) : Type 0 where
  pub monitor_is : HasMonitor known words.monitor watch
  pub bytes : List ℕ
  pub file : HasBytes known words.trace 67108864 bytes
  pub reads : trace_of bytes ≡ Ok t

-- a file of at most 16 MiB has the text of this run of the bench
pub record HasRun (known : Files) (bench : Bench) (word : List ℕ) (run : SimRun) : Type 0 where
  pub bytes : List ℕ
  pub file : HasBytes known word 16777216 bytes
  pub reads : run_of bench bytes ≡ Ok run

-- the project is there and is read
pub record HasRead (known : Files) (word : List ℕ) (read : PlainProject) : Type 0 where
  pub bytes : List ℕ
  pub file : HasBytes known word 4194304 bytes
  pub reads : ReadsProject word bytes (Ok read)

-- the project is there and is read, and has this test, which drives a port of this type
pub record HasTest (known : Files) (words : TestWords) (test : Test) (ltype : Ltype) : Type 0 where
  pub read : PlainProject
  pub project : HasRead known words.project read
  pub named : test_named read words.test ≡ Some test
  pub found : PlainPort
  pub drives : tested_port read test ≡ Some found
  pub type_is : ltype ≡ found.ltype

-- no two physical streams of that port clash: this is its split
pub record HasTestSplit (known : Files) (words : TestWords) (test : Test) (split : PlainSplit) : Type 0 where
  pub ltype : Ltype
  pub port : HasTest known words test ltype
  pub apart : clash_of ltype ≡ None
  pub is : split ≡ split_of ltype

-- the same, and each node of it is carried
pub record HasTestCarried (known : Files) (words : TestWords) (test : Test) (split : PlainSplit) : Type 0 where
  pub split_is : HasTestSplit known words test split
  pub carried : uncarried_of split ≡ None

-- all that the testbench of a declared test needs is there: the texts of its value and of its plan are these
pub record HasTestDrive (known : Files) (words : TestWords) (split : PlainSplit) (value : PortValue) (plan : Plan) : Type 0 where
  pub test : Test
  pub at : HasTestCarried known words test split
  pub value_is : IsValue split test.value value
  pub plan_is : plan_of split.streams test.plan ≡ Ok plan

-- and these are the heads of a trace between the two leaf ports
pub record HasDesign (known : Files) (words : DesignWords) (heads : EndHeads) : Type 0 where
  pub bytes : List ℕ
  pub file : HasBytes known words.project 4194304 bytes
  pub reads : ReadsDesign words bytes (Ok heads)

-- a file of at most 64 MiB has the text of this trace
pub record HasTrace (known : Files) (word : List ℕ) (t : TraceText) : Type 0 where
  pub bytes : List ℕ
  pub file : HasBytes known word 67108864 bytes
  pub reads : trace_of bytes ≡ Ok t

-- all that a command needs to sample a port is there: the port, and a file of at most 64 MiB with the text of a dump that shows this trace of it
pub record HasDump (known : Files) (words : DumpWords) (split : PlainSplit) (t : TraceText) : Type 0 where
  pub at : HasSplit known words.at split
  pub bytes : List ℕ
  pub file : HasBytes known words.file 67108864 bytes
  pub shows : shown (wanted_of words.scope split) bytes ≡ Ok t

-- ---- the lines

-- a place in a text, as it stands in a line
abbrev pub at_place : Place → List ℕ
at_place place = decimal place.line ++ codes ":" ++ decimal place.column

-- a port of the streamlet of a path, as it stands in a line
abbrev pub at_port : List (List ℕ) → List ℕ → List ℕ
at_port streamlet port = colon_text streamlet ++ codes "." ++ port

abbrev pub lexer_line : List ℕ → LexFault → Option (List ℕ)
lexer_line word (lexing.StrayChar place) = Some (codes "tydi: StrayChar " ++ word ++ codes " " ++ at_place place ++ codes "\n")
lexer_line word (lexing.OpenString place) = Some (codes "tydi: OpenString " ++ word ++ codes " " ++ at_place place ++ codes "\n")
lexer_line word (lexing.OpenDoc place) = Some (codes "tydi: OpenDoc " ++ word ++ codes " " ++ at_place place ++ codes "\n")
lexer_line word (lexing.NameNotAscii place) = Some (codes "tydi: NameNotAscii " ++ word ++ codes " " ++ at_place place ++ codes "\n")
lexer_line word (lexing.BadName place) = Some (codes "tydi: BadName " ++ word ++ codes " " ++ at_place place ++ codes "\n")
lexer_line word (lexing.NumberTooLong place) = Some (codes "tydi: NumberTooLong " ++ word ++ codes " " ++ at_place place ++ codes "\n")
lexer_line word lexing.Memory = None

-- the place is that of the token of this number
abbrev pub parser_line : List ℕ → List Token → ParseFault → Option (List ℕ)
parser_line word tokens (parsing.Unexpected index) =
    option_map (λ (token : Token). codes "tydi: Unexpected " ++ word ++ codes " " ++ at_place token.place ++ codes "\n") (slice_get tokens index)
parser_line word tokens parsing.EndOfText = Some (codes "tydi: EndOfText " ++ word ++ codes "\n")
parser_line word tokens (parsing.TooDeep index) =
    option_map (λ (token : Token). codes "tydi: TooDeep " ++ word ++ codes " " ++ at_place token.place ++ codes "\n") (slice_get tokens index)
parser_line word tokens parsing.Memory = None

abbrev pub type_fault_text : TypeFault → List ℕ
type_fault_text typing.ZeroBits = codes "ZeroBits"
type_fault_text typing.ElementTooWide = codes "ElementTooWide"
type_fault_text typing.BadThroughput = codes "BadThroughput"
type_fault_text typing.TooManyLanes = codes "TooManyLanes"
type_fault_text typing.TooManyDims = codes "TooManyDims"
type_fault_text typing.UserHasStream = codes "UserHasStream"
type_fault_text typing.NameTwice = codes "NameTwice"
type_fault_text typing.EmptyUnion = codes "EmptyUnion"

abbrev pub resolver_line : List ℕ → ResolveFault → Option (List ℕ)
resolver_line word (resolving.DeclaredTwice place) = Some (codes "tydi: DeclaredTwice " ++ word ++ codes " " ++ at_place place ++ codes "\n")
resolver_line word (resolving.UnknownName place) = Some (codes "tydi: UnknownName " ++ word ++ codes " " ++ at_place place ++ codes "\n")
resolver_line word (resolving.WrongKind place) = Some (codes "tydi: WrongKind " ++ word ++ codes " " ++ at_place place ++ codes "\n")
resolver_line word (resolving.CyclicType place) = Some (codes "tydi: CyclicType " ++ word ++ codes " " ++ at_place place ++ codes "\n")
resolver_line word (resolving.TypeTooLarge place) = Some (codes "tydi: TypeTooLarge " ++ word ++ codes " " ++ at_place place ++ codes "\n")
resolver_line word (resolving.BadType place fault) =
    Some (codes "tydi: BadType " ++ word ++ codes " " ++ at_place place ++ codes " " ++ type_fault_text fault ++ codes "\n")
resolver_line word (resolving.PortNotStream place) = Some (codes "tydi: PortNotStream " ++ word ++ codes " " ++ at_place place ++ codes "\n")
resolver_line word (resolving.CyclicInstance place) = Some (codes "tydi: CyclicInstance " ++ word ++ codes " " ++ at_place place ++ codes "\n")
resolver_line word resolving.Memory = None

abbrev pub trace_line : List ℕ → TraceFault → Option (List ℕ)
trace_line word (reading.BadHeader line) = Some (codes "tydi: BadHeader " ++ word ++ codes " " ++ decimal line ++ codes "\n")
trace_line word reading.TooManyCycles = Some (codes "tydi: TooManyCycles " ++ word ++ codes "\n")
trace_line word (reading.BadRow line) = Some (codes "tydi: BadRow " ++ word ++ codes " " ++ decimal line ++ codes "\n")
trace_line word (reading.WrongSignals line) = Some (codes "tydi: WrongSignals " ++ word ++ codes " " ++ decimal line ++ codes "\n")
trace_line word (reading.RowsMissing want got) =
    Some (codes "tydi: RowsMissing " ++ word ++ codes " " ++ decimal want ++ codes " " ++ decimal got ++ codes "\n")
trace_line word (reading.RowsLeft line) = Some (codes "tydi: RowsLeft " ++ word ++ codes " " ++ decimal line ++ codes "\n")
trace_line word reading.Memory = None

abbrev pub value_line : List ℕ → ValueFault → Option (List ℕ)
value_line word (valuing.Syntax place) = Some (codes "tydi: Syntax " ++ word ++ codes " " ++ at_place place ++ codes "\n")
value_line word (valuing.WrongShape place) = Some (codes "tydi: WrongShape " ++ word ++ codes " " ++ at_place place ++ codes "\n")
value_line word (valuing.UnknownField place) = Some (codes "tydi: UnknownField " ++ word ++ codes " " ++ at_place place ++ codes "\n")
value_line word (valuing.OutOfRange place) = Some (codes "tydi: OutOfRange " ++ word ++ codes " " ++ at_place place ++ codes "\n")
value_line word (valuing.TooManyLeaves place) = Some (codes "tydi: TooManyLeaves " ++ word ++ codes " " ++ at_place place ++ codes "\n")
value_line word valuing.Memory = None

abbrev pub plan_line : List ℕ → PlanFault → Option (List ℕ)
plan_line word (planning.Syntax place) = Some (codes "tydi: Syntax " ++ word ++ codes " " ++ at_place place ++ codes "\n")
plan_line word (planning.UnknownStream place) = Some (codes "tydi: UnknownStream " ++ word ++ codes " " ++ at_place place ++ codes "\n")
plan_line word (planning.StreamTwice place) = Some (codes "tydi: StreamTwice " ++ word ++ codes " " ++ at_place place ++ codes "\n")
plan_line word (planning.ReadyLength place) = Some (codes "tydi: ReadyLength " ++ word ++ codes " " ++ at_place place ++ codes "\n")
plan_line word (planning.MaskTooWide place) = Some (codes "tydi: MaskTooWide " ++ word ++ codes " " ++ at_place place ++ codes "\n")
plan_line word (planning.UserTooWide place) = Some (codes "tydi: UserTooWide " ++ word ++ codes " " ++ at_place place ++ codes "\n")
plan_line word (planning.TooManyCycles place) = Some (codes "tydi: TooManyCycles " ++ word ++ codes " " ++ at_place place ++ codes "\n")
plan_line word planning.Memory = None

abbrev pub bench_line : List ℕ → VhdlFault → Option (List ℕ)
bench_line word (benching.NotForm offset) = Some (codes "tydi: NotForm " ++ word ++ codes " " ++ decimal offset ++ codes "\n")
bench_line word (benching.UnknownSignal offset) = Some (codes "tydi: UnknownSignal " ++ word ++ codes " " ++ decimal offset ++ codes "\n")
bench_line word (benching.TwoDrivers offset) = Some (codes "tydi: TwoDrivers " ++ word ++ codes " " ++ decimal offset ++ codes "\n")
bench_line word benching.Memory = None

abbrev pub monitor_line : List ℕ → WatchFault → Option (List ℕ)
monitor_line word (watching.NotForm offset) = Some (codes "tydi: NotForm " ++ word ++ codes " " ++ decimal offset ++ codes "\n")
monitor_line word watching.Memory = None

abbrev pub run_line : List ℕ → RunFault → Option (List ℕ)
run_line word (running.Syntax place) = Some (codes "tydi: Syntax " ++ word ++ codes " " ++ at_place place ++ codes "\n")
run_line word (running.UnknownStream place) = Some (codes "tydi: UnknownStream " ++ word ++ codes " " ++ at_place place ++ codes "\n")
run_line word (running.StreamTwice place) = Some (codes "tydi: StreamTwice " ++ word ++ codes " " ++ at_place place ++ codes "\n")
run_line word (running.ReadyLength place) = Some (codes "tydi: ReadyLength " ++ word ++ codes " " ++ at_place place ++ codes "\n")
run_line word (running.NotOrder place) = Some (codes "tydi: NotOrder " ++ word ++ codes " " ++ at_place place ++ codes "\n")
run_line word (running.TooManyCycles place) = Some (codes "tydi: TooManyCycles " ++ word ++ codes " " ++ at_place place ++ codes "\n")
run_line word (running.TooManyOrders place) = Some (codes "tydi: TooManyOrders " ++ word ++ codes " " ++ at_place place ++ codes "\n")
run_line word running.Memory = None

abbrev pub dump_line : PlainSplit → List ℕ → VcdFault → Option (List ℕ)
dump_line split word (dumping.Syntax offset) = Some (codes "tydi: Syntax " ++ word ++ codes " " ++ decimal offset ++ codes "\n")
dump_line split word (dumping.TimeBack offset) = Some (codes "tydi: TimeBack " ++ word ++ codes " " ++ decimal offset ++ codes "\n")
dump_line split word dumping.NoClock = Some (codes "tydi: NoClock " ++ word ++ codes "\n")
dump_line split word (dumping.NoSignal stream signal) =
    Some (codes "tydi: NoSignal " ++ word ++ codes " " ++ path_text (path_of split stream) ++ codes " " ++ signal_word signal ++ codes "\n")
dump_line split word (dumping.OtherWidth stream signal) =
    Some (codes "tydi: OtherWidth " ++ word ++ codes " " ++ path_text (path_of split stream) ++ codes " " ++ signal_word signal ++ codes "\n")
dump_line split word dumping.TooManyCycles = Some (codes "tydi: TooManyCycles " ++ word ++ codes "\n")
dump_line split word (dumping.NotBit cycle stream) =
    Some (codes "tydi: NotBit " ++ word ++ codes " " ++ decimal cycle ++ codes " " ++ path_text (path_of split stream) ++ codes "\n")
dump_line split word dumping.Memory = None

abbrev pub why_text : Why → List ℕ
why_text whys.Shape = codes "Shape"
why_text whys.Throughput = codes "Throughput"
why_text whys.Dims = codes "Dims"
why_text whys.Sync = codes "Sync"
why_text whys.Level = codes "Level"
why_text whys.Direction = codes "Direction"
why_text whys.User = codes "User"
why_text whys.Keep = codes "Keep"

abbrev pub link_line : List ℕ → LinkFault → Option (List ℕ)
link_line word (linking.UnknownEnd place) = Some (codes "tydi: UnknownEnd " ++ word ++ codes " " ++ at_place place ++ codes "\n")
link_line word (linking.SameSide place) = Some (codes "tydi: SameSide " ++ word ++ codes " " ++ at_place place ++ codes "\n")
link_line word (linking.NotCompatible place difference) =
    Some (codes "tydi: NotCompatible " ++ word ++ codes " " ++ at_place place ++ codes " " ++ path_text difference.path ++ codes " " ++ why_text difference.why ++ codes "\n")
link_line word (linking.LinkedTwice place) = Some (codes "tydi: LinkedTwice " ++ word ++ codes " " ++ at_place place ++ codes "\n")
link_line word (linking.Unlinked place) = Some (codes "tydi: Unlinked " ++ word ++ codes " " ++ at_place place ++ codes "\n")
link_line word linking.DesignTooLarge = Some (codes "tydi: DesignTooLarge " ++ word ++ codes "\n")
link_line word linking.Memory = None

-- the line of a port without a job that names no stream
abbrev pub job_line : NoJob → Option (List ℕ)
job_line TooManyLeaves = Some (codes "tydi: TooManyLeaves\n")
job_line (NotDriven reason) = None
job_line TooManyCycles = Some (codes "tydi: TooManyCycles\n")

-- the line of a stream that does not end whole
abbrev pub unfinished_line : List (List ℕ) → End → Option (List ℕ)
unfinished_line path ends.Whole = None
unfinished_line path ends.Pending = Some (codes "unfinished stream " ++ path_text path ++ codes " pending\n")
unfinished_line path (ends.Unclosed k) = Some (codes "unfinished stream " ++ path_text path ++ codes " open " ++ decimal k ++ codes "\n")

-- ---- the causes

-- the store has no file of a word that the command comes to
pub record NoFileCause (known : Files) (request : Request) (a : Answer) : Type 0 where
  pub file : FileWord
  pub reached : Reaches known file (ask_of request)
  pub lacking : known file.word ≡ None
  pub said : a ≡ answers.Refused (codes "tydi: NoFile " ++ file.word ++ codes "\n")

-- a file that the command comes to has more bytes than its limit
pub record TooLongCause (known : Files) (request : Request) (a : Answer) : Type 0 where
  pub file : FileWord
  pub reached : Reaches known file (ask_of request)
  pub bytes : List ℕ
  pub there : known file.word ≡ Some bytes
  pub long : file.limit < length bytes
  pub said : a ≡ answers.Refused (codes "tydi: TooLong " ++ file.word ++ codes "\n")

-- the project is not UTF-8; the number is the length of its longest front that is
pub record NotUtf8Cause (known : Files) (request : Request) (a : Answer) : Type 0 where
  pub word : List ℕ
  pub bytes : List ℕ
  pub project : HasProjectText known request word bytes
  pub coded : is_utf8 bytes ≡ false
  pub said : a ≡ answers.Refused (codes "tydi: NotUtf8 " ++ word ++ codes " " ++ decimal (utf8_valid_len bytes) ++ codes "\n")

-- the text of the project has no tokens
pub record LexerCause (known : Files) (request : Request) (a : Answer) : Type 0 where
  pub word : List ℕ
  pub bytes : List ℕ
  pub project : HasProjectText known request word bytes
  pub coded : is_utf8 bytes ≡ true
  pub fault : LexFault
  pub lexed : tokens_of bytes ≡ Err fault
  pub line : List ℕ
  pub told : lexer_line word fault ≡ Some line
  pub said : a ≡ answers.Refused line

-- the tokens of the project spell no tree
pub record ParserCause (known : Files) (request : Request) (a : Answer) : Type 0 where
  pub word : List ℕ
  pub bytes : List ℕ
  pub project : HasProjectText known request word bytes
  pub coded : is_utf8 bytes ≡ true
  pub tokens : List Token
  pub lexed : tokens_of bytes ≡ Ok tokens
  pub none : (ast : Ast) → IsSpelled bytes tokens ast → ⊥
  pub fault : ParseFault
  pub is : IsFaultOf (lexemes_of bytes tokens) fault
  pub line : List ℕ
  pub told : parser_line word tokens fault ≡ Some line
  pub said : a ≡ answers.Refused line

-- the tree of the project has an error, and this one is reported
pub record ResolverCause (known : Files) (request : Request) (a : Answer) : Type 0 where
  pub word : List ℕ
  pub bytes : List ℕ
  pub project : HasProject known request word bytes
  pub ast : Ast
  pub tree : ReadsTree word bytes (Ok ast)
  pub fault : ResolveFault
  pub is : IsToldOf ast fault
  pub line : List ℕ
  pub told : resolver_line word fault ≡ Some line
  pub said : a ≡ answers.Refused line

-- no port of the project has the path that the word spells, if it spells one
pub record NoPortCause (known : Files) (request : Request) (a : Answer) : Type 0 where
  pub words : PortWords
  pub named : port_in request ≡ Some words
  pub bytes : List ℕ
  pub file : HasBytes known words.project 4194304 bytes
  pub read : PlainProject
  pub reads : ReadsProject words.project bytes (Ok read)
  pub none : port_named read words.port ≡ None
  pub said : a ≡ answers.Refused (codes "tydi: NoPort " ++ words.port ++ codes "\n")

-- two physical streams of the port that a command begins with clash on this path
pub record PortClashes (known : Files) (request : Request) (path : List (List ℕ)) : Type 0 where
  pub words : PortWords
  pub named : port_in request ≡ Some words
  pub ltype : Ltype
  pub port : HasPort known words ltype
  pub clash : clash_of ltype ≡ Some path

-- two physical streams of the leaf source where a trace comes from clash on this path
pub record SourceClashes (known : Files) (request : Request) (path : List (List ℕ)) : Type 0 where
  pub words : CarryWords
  pub named : carried_words request ≡ Some words
  pub read : PlainProject
  pub project : HasRead known words.design.project read
  pub top : ℕ
  pub top_is : top_at read.streamlets words.design.top ≡ Some top
  pub clash : HasClash read.streamlets (leaf_at top words.design.from) path

-- two physical streams of the port that a declared test drives clash on this path
pub record TestClashes (known : Files) (request : Request) (path : List (List ℕ)) : Type 0 where
  pub words : TestWords
  pub named : tested_in request ≡ Some words
  pub test : Test
  pub ltype : Ltype
  pub port : HasTest known words test ltype
  pub clash : clash_of ltype ≡ Some path

-- two physical streams of the port clash on this path
pub record NameClashCause (known : Files) (request : Request) (a : Answer) : Type 0 where
  pub path : List (List ℕ)
  pub clashes : PortClashes known request path ⊎ (SourceClashes known request path ⊎ TestClashes known request path)
  pub said : a ≡ answers.Refused (codes "tydi: NameClash " ++ path_text path ++ codes "\n")

-- two physical streams of some port of the project clash on this path, and it is the first such port
pub record DesignClashCause (known : Files) (request : Request) (a : Answer) : Type 0 where
  pub word : List ℕ
  pub named : designed_in request ≡ Some word
  pub bytes : List ℕ
  pub file : HasBytes known word 4194304 bytes
  pub read : PlainProject
  pub reads : ReadsProject word bytes (Ok read)
  pub clash : Clash
  pub is : first_clash read.streamlets ≡ Some clash
  pub said : a ≡ answers.Refused (codes "tydi: NameClash " ++ at_port clash.streamlet clash.port ++ codes " " ++ path_text clash.path ++ codes "\n")

-- the same of the port that a command begins with, or of a whole project
abbrev pub ClashCause : Files → Request → Answer → Type 0
ClashCause known request a = NameClashCause known request a ⊎ DesignClashCause known request a

-- a node of the port that a command begins with is not carried, and the first such one has this path
pub record PortUncarried (known : Files) (request : Request) (path : List (List ℕ)) : Type 0 where
  pub words : PortWords
  pub named : carried_in request ≡ Some words
  pub split : PlainSplit
  pub split_is : HasSplit known words split
  pub uncarried : uncarried_of split ≡ Some path

-- the same of the port that a declared test drives
pub record TestUncarried (known : Files) (request : Request) (path : List (List ℕ)) : Type 0 where
  pub words : TestWords
  pub named : tested_in request ≡ Some words
  pub test : Test
  pub split : PlainSplit
  pub split_is : HasTestSplit known words test split
  pub uncarried : uncarried_of split ≡ Some path

-- a node of the port is not carried, and the first such one has this path
pub record NoCarrierCause (known : Files) (request : Request) (a : Answer) : Type 0 where
  pub path : List (List ℕ)
  pub uncarried : PortUncarried known request path ⊎ TestUncarried known request path
  pub said : a ≡ answers.Refused (codes "tydi: NoCarrier " ++ path_text path ++ codes "\n")

-- no test of the project has the path that the word spells, if it spells one
pub record NoTestCause (known : Files) (request : Request) (a : Answer) : Type 0 where
  pub words : TestWords
  pub named : tested_in request ≡ Some words
  pub read : PlainProject
  pub project : HasRead known words.project read
  pub none : test_named read words.test ≡ None
  pub said : a ≡ answers.Refused (codes "tydi: NoTest " ++ words.test ++ codes "\n")

-- the text of the trace has no reading, with this line
pub record HasTraceFault (known : Files) (request : Request) (line : List ℕ) : Type 0 where
  pub word : List ℕ
  pub bytes : List ℕ
  pub trace : HasTraceText known request word bytes
  pub fault : TraceFault
  pub reads : trace_of bytes ≡ Err fault
  pub told : trace_line word fault ≡ Some line

-- the text of the value has no reading as one of the port, with this line
pub record HasValueFault (known : Files) (request : Request) (line : List ℕ) : Type 0 where
  pub words : ValueWords
  pub named : valued_in request ≡ Some words
  pub split : PlainSplit
  pub at : HasCarried known words.at split
  pub bytes : List ℕ
  pub file : HasBytes known words.value 16777216 bytes
  pub fault : ValueFault
  pub reads : IsFaulty split bytes fault
  pub told : value_line words.value fault ≡ Some line

-- the value is read, and the text of the plan has no reading, with this line
pub record HasPlanFault (known : Files) (request : Request) (line : List ℕ) : Type 0 where
  pub words : DriveWords
  pub named : driven_in request ≡ Some words
  pub split : PlainSplit
  pub at : HasCarried known words.at split
  pub value : PortValue
  pub value_is : HasValue known split words.value value
  pub bytes : List ℕ
  pub file : HasBytes known words.plan 16777216 bytes
  pub fault : PlanFault
  pub reads : plan_of split.streams bytes ≡ Err fault
  pub told : plan_line words.plan fault ≡ Some line

-- the text of the bench has no reading, with this line
pub record HasBenchFault (known : Files) (request : Request) (line : List ℕ) : Type 0 where
  pub words : SimWords
  pub named : simulated_in request ≡ Some words
  pub bytes : List ℕ
  pub file : HasBytes known words.bench 67108864 bytes
  pub fault : VhdlFault
  pub reads : bench_of bytes ≡ Err fault
  pub told : bench_line words.bench fault ≡ Some line

-- the bench is read, and the text of the run has no reading, with this line
pub record HasRunFault (known : Files) (request : Request) (line : List ℕ) : Type 0 where
  pub words : SimWords
  pub named : simulated_in request ≡ Some words
  pub bench : Bench
  pub bench_is : HasBench known words.bench bench
  pub bytes : List ℕ
  pub file : HasBytes known words.run 16777216 bytes
  pub fault : RunFault
  pub reads : run_of bench bytes ≡ Err fault
  pub told : run_line words.run fault ≡ Some line

-- the port is there, each node of it is carried, and the text of the trace has no reading, with this line
pub record HasPortTraceFault (known : Files) (request : Request) (line : List ℕ) : Type 0 where
  pub words : DecodeWords
  pub named : decoded_in request ≡ Some words
  pub split : PlainSplit
  pub at : HasCarried known words.at split
  pub bytes : List ℕ
  pub file : HasBytes known words.trace 67108864 bytes
  pub fault : TraceFault
  pub reads : trace_of bytes ≡ Err fault
  pub told : trace_line words.trace fault ≡ Some line

-- the port and the value are there, and the text of the trace that is compared has no reading, with this line
pub record HasComparedFault (known : Files) (request : Request) (line : List ℕ) : Type 0 where
  pub words : CompareWords
  pub named : compared_in request ≡ Some words
  pub split : PlainSplit
  pub at : HasCarried known words.at split
  pub value : PortValue
  pub value_is : HasValue known split words.value value
  pub bytes : List ℕ
  pub file : HasBytes known words.trace 67108864 bytes
  pub fault : TraceFault
  pub reads : trace_of bytes ≡ Err fault
  pub told : trace_line words.trace fault ≡ Some line

-- the text of the monitor has no reading, with this line
pub record HasMonitorFault (known : Files) (request : Request) (line : List ℕ) : Type 0 where
  pub words : WatchWords
  pub named : watched_in request ≡ Some words
  pub bytes : List ℕ
  pub file : HasBytes known words.monitor 67108864 bytes
  pub fault : WatchFault
  pub reads : watch_of bytes ≡ Err fault
  pub told : monitor_line words.monitor fault ≡ Some line

-- the monitor is read, and the text of the trace has no reading, with this line
pub record HasWatchedFault (known : Files) (request : Request) (line : List ℕ) : Type 0 where
  pub words : WatchWords
  pub named : watched_in request ≡ Some words
  pub watch : PlainWatch
  pub monitor_is : HasMonitor known words.monitor watch
  pub bytes : List ℕ
  pub file : HasBytes known words.trace 67108864 bytes
  pub fault : TraceFault
  pub reads : trace_of bytes ≡ Err fault
  pub told : trace_line words.trace fault ≡ Some line

-- the heads between the leaf ports are there, and the text of the trace that is carried has no reading, with this line
pub record HasCarriedFault (known : Files) (request : Request) (line : List ℕ) : Type 0 where
  pub words : CarryWords
  pub named : carried_words request ≡ Some words
  pub heads : EndHeads
  pub design : HasDesign known words.design heads
  pub bytes : List ℕ
  pub file : HasBytes known words.trace 67108864 bytes
  pub fault : TraceFault
  pub reads : trace_of bytes ≡ Err fault
  pub told : trace_line words.trace fault ≡ Some line

-- the text of the value that a declared test holds has no reading as one of its port, with this line; its place is inside that text
pub record HasTestValueFault (known : Files) (request : Request) (line : List ℕ) : Type 0 where
  pub words : TestWords
  pub named : tested_in request ≡ Some words
  pub test : Test
  pub split : PlainSplit
  pub at : HasTestCarried known words test split
  pub fault : ValueFault
  pub reads : IsFaulty split test.value fault
  pub told : value_line (words.test ++ codes " value") fault ≡ Some line

-- the value is read, and the text of the plan that a declared test holds has no reading, with this line; its place is inside that text
pub record HasTestPlanFault (known : Files) (request : Request) (line : List ℕ) : Type 0 where
  pub words : TestWords
  pub named : tested_in request ≡ Some words
  pub test : Test
  pub split : PlainSplit
  pub at : HasTestCarried known words test split
  pub value : PortValue
  pub value_is : IsValue split test.value value
  pub fault : PlanFault
  pub reads : plan_of split.streams test.plan ≡ Err fault
  pub told : plan_line (words.test ++ codes " plan") fault ≡ Some line

-- the port is there, and the text of the dump shows no trace of it, with this line
pub record HasDumpFault (known : Files) (request : Request) (line : List ℕ) : Type 0 where
  pub words : DumpWords
  pub named : sampled_in request ≡ Some words
  pub split : PlainSplit
  pub at : HasSplit known words.at split
  pub bytes : List ℕ
  pub file : HasBytes known words.file 67108864 bytes
  pub fault : VcdFault
  pub reads : shown (wanted_of words.scope split) bytes ≡ Err fault
  pub told : dump_line split words.file fault ≡ Some line

-- an error of one of these texts, with this line
abbrev pub HasTextFault : Files → Request → List ℕ → Type 0
HasTextFault known request line =
    HasTraceFault known request line
    ⊎ (HasValueFault known request line
    ⊎ (HasPlanFault known request line
    ⊎ (HasBenchFault known request line
    ⊎ (HasRunFault known request line
    ⊎ (HasPortTraceFault known request line
    ⊎ (HasCarriedFault known request line
    ⊎ (HasTestValueFault known request line
    ⊎ (HasTestPlanFault known request line
    ⊎ (HasDumpFault known request line
    ⊎ (HasComparedFault known request line
    ⊎ (HasMonitorFault known request line
    ⊎ HasWatchedFault known request line)))))))))))

-- the text of a trace, a value, a plan, a bench, a run, a dump or a monitor has no reading, be it a file's or a declared test's
pub record TextFaultCause (known : Files) (request : Request) (a : Answer) : Type 0 where
  pub line : List ℕ
  pub faulty : HasTextFault known request line
  pub said : a ≡ answers.Refused line

-- each node of the port is carried, and a seed and a count make no job of it, for this reason
pub record HasNoJob (known : Files) (request : Request) (split : PlainSplit) (reason : NoJob) : Type 0 where
  pub words : JobWords
  pub named : generated_in request ≡ Some words
  pub at : HasCarried known words.at split
  pub is : job_of split words.seed words.count ≡ Err reason

-- the value of the job has too many leaves, or the job has too many cycles
pub record NoJobCause (known : Files) (request : Request) (a : Answer) : Type 0 where
  pub split : PlainSplit
  pub reason : NoJob
  pub none : HasNoJob known request split reason
  pub line : List ℕ
  pub told : job_line reason ≡ Some line
  pub said : a ≡ answers.Refused line

-- a text has no reading, or a port has no job for a reason that bears the name of an error of texts
abbrev pub FaultCause : Files → Request → Answer → Type 0
FaultCause known request a = TextFaultCause known request a ⊎ NoJobCause known request a

-- the value and the plan of two files do not drive the port, for this reason
pub record HasReason (known : Files) (request : Request) (split : PlainSplit) (reason : Undriven) : Type 0 where
  pub words : DriveWords
  pub named : driven_in request ≡ Some words
  pub value : PortValue
  pub plan : Plan
  pub all : HasDrive known words split value plan
  pub is : drive_of split (plain_port value) plan.streams ≡ Err reason

-- the same of the value and the plan that a declared test holds
pub record HasTestReason (known : Files) (request : Request) (split : PlainSplit) (reason : Undriven) : Type 0 where
  pub words : TestWords
  pub named : tested_in request ≡ Some words
  pub value : PortValue
  pub plan : Plan
  pub all : HasTestDrive known words split value plan
  pub is : drive_of split (plain_port value) plan.streams ≡ Err reason

-- the value and the plan do not drive the port, for this reason
abbrev pub IsUndriven : Files → Request → PlainSplit → Undriven → Type 0
IsUndriven known request split reason = HasReason known request split reason ⊎ HasTestReason known request split reason

-- the lanes of a stream do not divide its elements, and this is the first such stream
pub record CountNotMultipleCause (known : Files) (request : Request) (a : Answer) : Type 0 where
  pub split : PlainSplit
  pub stream : ℕ
  pub count : ℕ
  pub lanes : ℕ
  pub reason : IsUndriven known request split (driving.CountNotMultiple stream count lanes)
  pub said : a ≡ answers.Refused (codes "tydi: CountNotMultiple " ++ path_text (path_of split stream) ++ codes " " ++ decimal count ++ codes " " ++ decimal lanes ++ codes "\n")

-- the lanes of a stream do not divide its elements of a job, and this is the first such stream
pub record JobNotMultipleCause (known : Files) (request : Request) (a : Answer) : Type 0 where
  pub split : PlainSplit
  pub stream : ℕ
  pub count : ℕ
  pub lanes : ℕ
  pub none : HasNoJob known request split (NotDriven (driving.CountNotMultiple stream count lanes))
  pub said : a ≡ answers.Refused (codes "tydi: CountNotMultiple " ++ path_text (path_of split stream) ++ codes " " ++ decimal count ++ codes " " ++ decimal lanes ++ codes "\n")

-- the same of the items of a value that a command is given, or of those of a job
abbrev pub CountCause : Files → Request → Answer → Type 0
CountCause known request a = CountNotMultipleCause known request a ⊎ JobNotMultipleCause known request a

-- the run of a stream leaves so many transfers after the cycles of the plan, and this is the first such stream
pub record NotFinishedCause (known : Files) (request : Request) (a : Answer) : Type 0 where
  pub split : PlainSplit
  pub stream : ℕ
  pub left : ℕ
  pub reason : IsUndriven known request split (driving.NotFinished stream left)
  pub said : a ≡ answers.Refused (codes "tydi: NotFinished " ++ path_text (path_of split stream) ++ codes " " ++ decimal left ++ codes "\n")

-- the project is read, and its links have this error first
pub record LinkFaultCause (known : Files) (request : Request) (a : Answer) : Type 0 where
  pub word : List ℕ
  pub bytes : List ℕ
  pub file : HasBytes known word 4194304 bytes
  pub read : PlainProject
  pub reads : ReadsProject word bytes (Ok read)
  pub checks : ChecksLinks request word read
  pub fault : LinkFault
  pub is : linked read.streamlets ≡ Err fault
  pub line : List ℕ
  pub told : link_line word fault ≡ Some line
  pub said : a ≡ answers.Refused line

-- no streamlet of the project has the path that the word of the top spells, if it spells one
pub record NoStreamletCause (known : Files) (request : Request) (a : Answer) : Type 0 where
  pub words : CarryWords
  pub named : carried_words request ≡ Some words
  pub read : PlainProject
  pub project : HasRead known words.design.project read
  pub none : top_at read.streamlets words.design.top ≡ None
  pub said : a ≡ answers.Refused (codes "tydi: NoStreamlet " ++ words.design.top ++ codes "\n")

-- the nets of the project do not lead from the one port to the other: not where the first is no leaf source
pub record NoPathCause (known : Files) (request : Request) (a : Answer) : Type 0 where
  pub words : CarryWords
  pub named : carried_words request ≡ Some words
  pub read : PlainProject
  pub project : HasRead known words.design.project read
  pub top : ℕ
  pub past : IsPastClash read words.design top
  pub nets : Nets
  pub nets_are : linked read.streamlets ≡ Ok nets
  pub none : AreJoined read.streamlets nets (leaf_at top words.design.from) (leaf_at top words.design.to) → ⊥
  pub said : a ≡ answers.Refused (codes "tydi: NoPath " ++ words.design.from ++ codes " " ++ words.design.to ++ codes "\n")

-- the trace has other heads than those where its streams come from, first at this stream
pub record CarriedOtherHeader (known : Files) (request : Request) (a : Answer) : Type 0 where
  pub words : CarryWords
  pub named : carried_words request ≡ Some words
  pub heads : EndHeads
  pub design : HasDesign known words.design heads
  pub t : TraceText
  pub trace : HasTrace known words.trace t
  pub stream : ℕ
  pub first : FirstOther heads.from t.heads stream
  pub said : a ≡ answers.Refused (codes "tydi: OtherHeader " ++ words.trace ++ codes " " ++ decimal stream ++ codes "\n")

-- the trace that is checked has an offence by rules 1 to 10, and this is the first
pub record CheckedOffence (known : Files) (request : Request) (a : Answer) : Type 0 where
  pub word : List ℕ
  pub bytes : List ℕ
  pub trace : HasTraceText known request word bytes
  pub read : TraceText
  pub reads : trace_of bytes ≡ Ok read
  pub first : Offence
  pub is_first : IsFirst (offends_in read) (Some first)
  pub said : a ≡ answers.Verdict (codes "offence cycle " ++ decimal first.cycle ++ codes " stream " ++ path_text (path_of_stream read.heads first.stream)
      ++ codes " rule " ++ decimal (number_of_rule first.rule) ++ codes " " ++ name_of_rule first.rule ++ codes "\n")

-- the trace that is decoded has an offence by rules 1 to 11, and this is the first
pub record DecodedOffence (known : Files) (request : Request) (a : Answer) : Type 0 where
  pub words : DecodeWords
  pub named : decoded_in request ≡ Some words
  pub split : PlainSplit
  pub read : TraceText
  pub all : HasDecode known words split read
  pub same : read.heads ≡ heads_of split
  pub first : Offence
  pub is_first : IsFirst (OffendsWithTags split read) (Some first)
  pub said : a ≡ answers.Verdict (codes "offence cycle " ++ decimal first.cycle ++ codes " stream " ++ path_text (path_of split first.stream)
      ++ codes " rule " ++ decimal (number_of_rule first.rule) ++ codes " " ++ name_of_rule first.rule ++ codes "\n")

-- the trace has an offence, and this is the first
abbrev pub OffenceCause : Files → Request → Answer → Type 0
OffenceCause known request a = CheckedOffence known request a ⊎ DecodedOffence known request a

-- the trace that is checked has no offence, and this is its first stream that does not end whole
pub record CheckedUnfinished (known : Files) (request : Request) (a : Answer) : Type 0 where
  pub word : List ℕ
  pub bytes : List ℕ
  pub trace : HasTraceText known request word bytes
  pub read : TraceText
  pub reads : trace_of bytes ≡ Ok read
  pub legal : (o : Offence) → offends_in read o → ⊥
  pub left : UnfinishedStream
  pub is_left : first_unfinished 0 (streams_of read) ≡ Some left
  pub line : List ℕ
  pub told : unfinished_line (path_of_stream read.heads left.stream) left.end ≡ Some line
  pub said : a ≡ answers.Verdict line

-- the trace that is decoded has no offence, and this is its first stream that does not end whole
pub record DecodedUnfinished (known : Files) (request : Request) (a : Answer) : Type 0 where
  pub words : DecodeWords
  pub named : decoded_in request ≡ Some words
  pub split : PlainSplit
  pub read : TraceText
  pub all : HasDecode known words split read
  pub legal : IsLegalOf split read
  pub left : UnfinishedStream
  pub is_left : first_unfinished 0 (streams_of read) ≡ Some left
  pub line : List ℕ
  pub told : unfinished_line (path_of split left.stream) left.end ≡ Some line
  pub said : a ≡ answers.Verdict line

-- the trace has no offence, and this is its first stream that does not end whole
abbrev pub UnfinishedCause : Files → Request → Answer → Type 0
UnfinishedCause known request a = CheckedUnfinished known request a ⊎ DecodedUnfinished known request a

-- the heads of the trace differ from those of the port, first at this place
pub record DecodedOtherHeader (known : Files) (request : Request) (a : Answer) : Type 0 where
  pub words : DecodeWords
  pub named : decoded_in request ≡ Some words
  pub split : PlainSplit
  pub read : TraceText
  pub all : HasDecode known words split read
  pub place : ℕ
  pub differ : DifferFirst read.heads (heads_of split) place
  pub said : a ≡ answers.Refused (codes "tydi: OtherHeader " ++ words.trace ++ codes " " ++ decimal place ++ codes "\n")

-- the same of a trace that is compared with a value
pub record ComparedOtherHeader (known : Files) (request : Request) (a : Answer) : Type 0 where
  pub words : CompareWords
  pub named : compared_in request ≡ Some words
  pub split : PlainSplit
  pub value : PortValue
  pub read : TraceText
  pub all : HasCompare known words split value read
  pub place : ℕ
  pub differ : DifferFirst read.heads (heads_of split) place
  pub said : a ≡ answers.Refused (codes "tydi: OtherHeader " ++ words.trace ++ codes " " ++ decimal place ++ codes "\n")

-- the heads of the trace differ from those of a monitor, first at this place
pub record WatchedOtherHeader (known : Files) (request : Request) (a : Answer) : Type 0 where
  pub words : WatchWords
  pub named : watched_in request ≡ Some words
  pub watch : PlainWatch
  pub read : TraceText
  pub all : HasWatch known words watch read
  pub place : ℕ
  pub differ : DifferFirst read.heads watch.heads place
  pub said : a ≡ answers.Refused (codes "tydi: OtherHeader " ++ words.trace ++ codes " " ++ decimal place ++ codes "\n")

-- the trace has other heads, first at this place
abbrev pub OtherHeaderCause : Files → Request → Answer → Type 0
OtherHeaderCause known request a =
    DecodedOtherHeader known request a
    ⊎ (CarriedOtherHeader known request a
    ⊎ (ComparedOtherHeader known request a
    ⊎ WatchedOtherHeader known request a))

-- the trace has no offence, and each stream ends whole, but the items done are those of no value, first at this stream and packet
pub record DisagreeCause (known : Files) (request : Request) (a : Answer) : Type 0 where
  pub words : DecodeWords
  pub named : decoded_in request ≡ Some words
  pub split : PlainSplit
  pub read : TraceText
  pub all : HasDecode known words split read
  pub legal : IsLegalOf split read
  pub whole : first_unfinished 0 (streams_of read) ≡ None
  pub place : Disagreement
  pub disagree : DisagreeAt split (done_on (streams_of read)) place
  pub said : a ≡ answers.Verdict (codes "disagree stream " ++ path_text place.path ++ codes " packet " ++ decimal place.packet ++ codes "\n")

-- the trace has the heads of the port, and of some streams the items done are not those of the value: these are their first differences, in the
-- order of the streams
pub record DifferenceCause (known : Files) (request : Request) (a : Answer) : Type 0 where
  pub words : CompareWords
  pub named : compared_in request ≡ Some words
  pub split : PlainSplit
  pub value : PortValue
  pub read : TraceText
  pub all : HasCompare known words split value read
  pub same : read.heads ≡ heads_of split
  pub first : Difference
  pub more : List Difference
  pub are : AreDifferences (items_of_value split value) (streams_of read) (first ∷ more)
  pub said : a ≡ answers.Verdict (difference_lines split (first ∷ more))

-- the trace has the heads of the monitor, and the process of this stream sets its fault at this edge. The verdict has a line for each stream.
pub record ReportCause (known : Files) (request : Request) (a : Answer) : Type 0 where
  pub words : WatchWords
  pub named : watched_in request ≡ Some words
  pub watch : PlainWatch
  pub read : TraceText
  pub all : HasWatch known words watch read
  pub same : read.heads ≡ watch.heads
  pub stream : ℕ
  pub one : StreamWatched
  pub there : slice_get (watched_of watch (streams_of read)) stream ≡ Some one
  pub edge : ℕ
  pub reported : one.report ≡ Some edge
  pub said : a ≡ answers.Verdict (watched_lines watch (watched_of watch (streams_of read)))

-- ---- the text of an answer

-- the trace has no offence, and each stream ends whole
pub record IsLegalText (known : Files) (trace text : List ℕ) : Type 0 where
  pub bytes : List ℕ
  pub file : HasBytes known trace 67108864 bytes
  pub read : TraceText
  pub reads : trace_of bytes ≡ Ok read
  pub legal : (o : Offence) → offends_in read o → ⊥
  pub whole : first_unfinished 0 (streams_of read) ≡ None
  pub is : text ≡ codes "legal\n" ++ counts_text read.heads (counts_of (streams_of read)).streams

-- the project is read as a tree
pub record IsTreeText (known : Files) (project text : List ℕ) : Type 0 where
  pub bytes : List ℕ
  pub file : HasBytes known project 4194304 bytes
  pub ast : Ast
  pub reads : ReadsTree project bytes (Ok ast)
  pub is : text ≡ canonical ast

-- the project has the port, and no two physical streams of it clash
pub record IsSplitText (known : Files) (words : PortWords) (text : List ℕ) : Type 0 where
  pub split : PlainSplit
  pub split_is : HasSplit known words split
  pub is : text ≡ split_text split

-- the value and the plan drive the port
pub record IsDriveText (known : Files) (words : DriveWords) (text : List ℕ) : Type 0 where
  pub split : PlainSplit
  pub value : PortValue
  pub plan : Plan
  pub all : HasDrive known words split value plan
  pub is : drive_text split (plain_port value) plan ≡ Ok text

-- the trace has no offence, each stream ends whole, and the items done carry this value
pub record IsDecodeText (known : Files) (words : DecodeWords) (text : List ℕ) : Type 0 where
  pub split : PlainSplit
  pub read : TraceText
  pub all : HasDecode known words split read
  pub legal : IsLegalOf split read
  pub whole : first_unfinished 0 (streams_of read) ≡ None
  pub value : List (List Tree)
  pub carries : Carries split value (done_on (streams_of read))
  pub is : text ≡ values.canonical split value (users_on (streams_of read))

-- the bench and the run are read
pub record IsSimText (known : Files) (words : SimWords) (text : List ℕ) : Type 0 where
  pub bench : Bench
  pub run : SimRun
  pub bench_is : HasBench known words.bench bench
  pub run_is : HasRun known bench words.run run
  pub is : text ≡ trace_text_of bench run

-- the project is read, and its links have these nets and no error
pub record IsLinkText (known : Files) (project text : List ℕ) : Type 0 where
  pub bytes : List ℕ
  pub file : HasBytes known project 4194304 bytes
  pub read : PlainProject
  pub reads : ReadsProject project bytes (Ok read)
  pub nets : Nets
  pub nets_are : linked read.streamlets ≡ Ok nets
  pub is : text ≡ nets_text read.streamlets nets

-- the trace has the heads where its streams come from, and arrives under those where they go
pub record IsCarriedText (known : Files) (words : CarryWords) (text : List ℕ) : Type 0 where
  pub heads : EndHeads
  pub design : HasDesign known words.design heads
  pub t : TraceText
  pub trace : HasTrace known words.trace t
  pub same : t.heads ≡ heads.from
  pub is : text ≡ written_text (carried heads.to t)

-- the project is read, no port of it has two physical streams of one path, and its links have these nets and no error
pub record IsDesignText (known : Files) (language : Language) (project text : List ℕ) : Type 0 where
  pub bytes : List ℕ
  pub file : HasBytes known project 4194304 bytes
  pub read : PlainProject
  pub reads : ReadsProject project bytes (Ok read)
  pub apart : first_clash read.streamlets ≡ None
  pub nets : Nets
  pub nets_are : linked read.streamlets ≡ Ok nets
  pub is : text ≡ design_text language (architectures read.streamlets nets.impls)

-- the value and the plan drive the port, and this is the text of the testbench that drives it
pub record IsBenchText (known : Files) (words : DriveWords) (text : List ℕ) : Type 0 where
  pub split : PlainSplit
  pub value : PortValue
  pub plan : Plan
  pub all : HasDrive known words split value plan
  pub is : bench_text_of split (plain_port value) plan ≡ Ok text

-- the value and the plan of the test drive its port, and this is the text of the testbench that drives it
pub record IsTestbenchText (known : Files) (words : TestWords) (text : List ℕ) : Type 0 where
  pub split : PlainSplit
  pub value : PortValue
  pub plan : Plan
  pub all : HasTestDrive known words split value plan
  pub is : bench_text_of split (plain_port value) plan ≡ Ok text

-- the dump shows a trace of the port, and this is its text
pub record IsDumpText (known : Files) (words : DumpWords) (text : List ℕ) : Type 0 where
  pub split : PlainSplit
  pub t : TraceText
  pub all : HasDump known words split t
  pub is : text ≡ written_text t

-- each node of the port is carried, a seed and a count make a job of it, and this is its summary
pub record IsSummaryText (known : Files) (words : JobWords) (text : List ℕ) : Type 0 where
  pub split : PlainSplit
  pub at : HasCarried known words.at split
  pub summary : Summary
  pub summary_is : summary_of split words.seed words.count ≡ Ok summary
  pub is : text ≡ counts_text (heads_of split) summary.counts ++ (codes "cycles " ++ decimal summary.cycles ++ codes "\ntext " ++ decimal summary.text ++ codes "\ntrace " ++ decimal summary.trace ++ codes "\n")

-- the trace has the heads of the port, and there is no stream of which the items done are not those of the value
pub record IsSameText (known : Files) (words : CompareWords) (text : List ℕ) : Type 0 where
  pub split : PlainSplit
  pub value : PortValue
  pub t : TraceText
  pub all : HasCompare known words split value t
  pub same : t.heads ≡ heads_of split
  pub none : AreDifferences (items_of_value split value) (streams_of t) []
  pub is : text ≡ codes "same\n"

-- the value of the port is there, and this is the text of the monitor that expects its items
pub record IsExpectedText (known : Files) (words : ValueWords) (text : List ℕ) : Type 0 where
  pub split : PlainSplit
  pub at : HasCarried known words.at split
  pub value : PortValue
  pub value_is : HasValue known split words.value value
  pub is : text ≡ watch_text (monitor_of split (items_of_value split value))

-- the trace has the heads of the monitor, and no process sets its fault: there is a line for each stream
pub record IsQuietText (known : Files) (words : WatchWords) (text : List ℕ) : Type 0 where
  pub watch : PlainWatch
  pub t : TraceText
  pub all : HasWatch known words watch t
  pub same : t.heads ≡ watch.heads
  pub quiet : IsQuiet (watched_of watch (streams_of t))
  pub is : text ≡ watched_lines watch (watched_of watch (streams_of t))

-- the text that a command makes of the files
abbrev pub IsTextOf : Files → Request → List ℕ → Type 0
IsTextOf known (Check trace) text = IsLegalText known trace text
IsTextOf known (Read project) text = IsTreeText known project text
IsTextOf known (Split project port) text = IsSplitText known (record { project = project; port = port }) text
IsTextOf known (Drive project port value plan) text = IsDriveText known (record { at = record { project = project; port = port }; value = value; plan = plan }) text
IsTextOf known (Decode project port trace) text = IsDecodeText known (record { at = record { project = project; port = port }; trace = trace }) text
IsTextOf known (Sim bench run) text = IsSimText known (record { bench = bench; run = run }) text
IsTextOf known (Link project) text = IsLinkText known project text
IsTextOf known (Carry project top from to trace) text =
    IsCarriedText known (record { design = record { project = project; top = top; from = from; to = to }; trace = trace }) text
IsTextOf known (Design language project) text = IsDesignText known language project text
IsTextOf known (requests.Bench project port value plan) text = IsBenchText known (record { at = record { project = project; port = port }; value = value; plan = plan }) text
IsTextOf known (requests.Testbench project test) text = IsTestbenchText known (record { project = project; test = test }) text
IsTextOf known (requests.Vcd project port scope file) text =
    IsDumpText known (record { at = record { project = project; port = port }; scope = scope; file = file }) text
IsTextOf known (requests.Gen project port seed count) text = IsSummaryText known (record { at = record { project = project; port = port }; seed = seed; count = count }) text
IsTextOf known (requests.Compare project port value trace) text =
    IsSameText known (record { at = record { project = project; port = port }; value = value; trace = trace }) text
IsTextOf known (requests.Expect project port value) text = IsExpectedText known (record { at = record { project = project; port = port }; value = value }) text
IsTextOf known (requests.Watch monitor trace) text = IsQuietText known (record { monitor = monitor; trace = trace }) text

-- the text is over 64 MiB
pub record OutputTooLongCause (known : Files) (request : Request) (a : Answer) : Type 0 where
  pub text : List ℕ
  pub is : IsTextOf known request text
  pub long : 67108864 < length text
  pub said : a ≡ answers.Refused (codes "tydi: OutputTooLong\n")

pub record TextCause (known : Files) (request : Request) (a : Answer) : Type 0 where
  pub text : List ℕ
  pub is : IsTextOf known request text
  pub within : length text ≤ 67108864
  pub said : a ≡ answers.Done text

-- the cause of each row
abbrev pub CausedBy : Row → Files → Request → Answer → Type 0
CausedBy NoFile known request a = NoFileCause known request a
CausedBy TooLong known request a = TooLongCause known request a
CausedBy NotUtf8 known request a = NotUtf8Cause known request a
CausedBy LexerFault known request a = LexerCause known request a
CausedBy ParserFault known request a = ParserCause known request a
CausedBy ResolverFault known request a = ResolverCause known request a
CausedBy NoPort known request a = NoPortCause known request a
CausedBy NoStreamlet known request a = NoStreamletCause known request a
CausedBy NameClash known request a = ClashCause known request a
CausedBy NoCarrier known request a = NoCarrierCause known request a
CausedBy TextFault known request a = FaultCause known request a
CausedBy OtherHeader known request a = OtherHeaderCause known request a
CausedBy CountNotMultiple known request a = CountCause known request a
CausedBy NotFinished known request a = NotFinishedCause known request a
CausedBy NotLinked known request a = LinkFaultCause known request a
CausedBy NoPath known request a = NoPathCause known request a
CausedBy OutputTooLong known request a = OutputTooLongCause known request a
CausedBy AnOffence known request a = OffenceCause known request a
CausedBy AnUnfinished known request a = UnfinishedCause known request a
CausedBy ADisagreement known request a = DisagreeCause known request a
CausedBy ADifference known request a = DifferenceCause known request a
CausedBy AReport known request a = ReportCause known request a
CausedBy AText known request a = TextCause known request a
CausedBy NoTest known request a = NoTestCause known request a

-- ---- the laws

-- where the store reports its files, an answer of this row is said exactly where the cause stands
abbrev pub ExactlyWhere : Row → (Files → Request → Answer → Type 0) → Type 0
ExactlyWhere row Cause = (known : Files) (request : Request) (a : Answer) → (Says (Some known) (Some request) a × (row_of a ≡ Some row)) ↔ Cause known request a

-- each answer is of a row
abbrev pub EachIsOfARow : Type 0
EachIsOfARow = (known : Files) (request : Request) (a : Answer) → Says (Some known) (Some request) a → (row : Row) × ((row_of a ≡ Some row) × CausedBy row known request a)
