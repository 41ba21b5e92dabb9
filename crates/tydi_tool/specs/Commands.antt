-- The files that each command asks for, and its answer for given words and files (this project's own). A new command is one more
-- case here.
use Rattle.std.specs.Prelude.{◌≡◌, ℕ, List, Option, Some, None}
use Rattle.tydi_io.specs.Store.{Files}
use Rattle.til_parser.specs.Canonical.{canonical}
use Rattle.til_parser.specs.declared.tree.Ast.{Ast}
use Rattle.til_resolve.specs.PlainProject.{PlainProject}
use Rattle.type_split.specs.Streams.{PlainSplit}
use Rattle.split_text.specs.Text.{split_text}
use Rattle.tydi_tool.specs.declared.answer.Answer.{Answer}
use Rattle.tydi_tool.specs.declared.driven_text.DrivenText.{DrivenText}
use Rattle.tydi_tool.specs.declared.traces.Survey.{Survey}
use Rattle.logical_value.specs.declared.value.PortValue.{PortValue}
use Rattle.plan_text.specs.declared.plan.Plan.{Plan}
use Rattle.vhdl_text.specs.declared.bench.Bench.{Bench}
use Rattle.vhdl_text.specs.declared.language.Language.{Language}
use Rattle.vhdl_meaning.specs.declared.run.SimRun.{SimRun}
use Rattle.bench_run.specs.Traces.{trace_text_of}
use Rattle.trace_decode.specs.Outcome.{Outcome}
use Rattle.tydi_tool.specs.Decodes.{ReadsOutcome, TellsOutcome}
use Rattle.tydi_tool.specs.Drives.{TellsBench, TellsDriven, TellsText, carried}
use Rattle.tydi_tool.specs.Texts.{ReadsPlan, ReadsValue}
use Rattle.tydi_tool.specs.Benches.{ReadsBench, ReadsRun}
use Rattle.tydi_tool.specs.Entities.{TellsDesign}
use Rattle.tydi_tool.specs.Jobs.{TellsJob}
use Rattle.tydi_tool.specs.Links.{TellsLinked}
use Rattle.tydi_tool.specs.Dumps.{ReadsDump}
use Rattle.trace_compare.specs.Texts.{Comparison}
use Rattle.physical_stream.specs.declared.item.Item.{Item}
use Rattle.tydi_tool.specs.Comparisons.{ReadsComparison, TellsComparison, items_of_value}
use Rattle.trace_watch.specs.Texts.{Watching}
use Rattle.watch_text.specs.Statements.{PlainWatch}
use Rattle.tydi_tool.specs.Watches.{ReadsWatch, ReadsWatching, TellsExpected, TellsWatching}
use Rattle.tydi_tool.specs.Words as requests
use Rattle.tydi_tool.specs.Words.{Request, Check, Decode, Drive, Link, Read, Sim, Split, bench_file, trace_file, project_file, text_file, Carry, Design, dump_file, monitor_file}
use Rattle.cycle_trace.specs.Trace.{TraceText}
use Rattle.link_check.specs.declared.end_heads.EndHeads.{EndHeads}
use Rattle.port_drive.specs.Text.{written_text}
use Rattle.tydi_tool.specs.Arrivals.{ReadsCycles, TellsArrived}
use Rattle.tydi_tool.specs.Designs.{DesignWords, ReadsDesign}
use Rattle.tydi_tool.specs.Outcome.{output_answer}
use Rattle.tydi_tool.specs.Ports.{split_at}
use Rattle.tydi_tool.specs.Projects.{ReadsProject}
use Rattle.tydi_tool.specs.Reports.{Reports}
use Rattle.tydi_tool.specs.Traces.{ReadsTrace}
use Rattle.tydi_tool.specs.Tests.{TellsTest}
use Rattle.tydi_tool.specs.Trees.{ReadsTree}
use Rattle.tydi_tool.specs.Ask.{Ask, Ends, Asks, SaysBy, goes_on}

-- `check TRACE`: the report of a survey
abbrev pub check_ask : List ℕ → Ask
check_ask trace = Asks (trace_file trace) Survey (ReadsTrace trace) (λ survey. Ends (λ a. Reports survey.heads survey.found a))

-- `read PROJECT`: the canonical text
abbrev pub read_ask : List ℕ → Ask
read_ask project = Asks (project_file project) Ast (ReadsTree project) (λ ast. Ends (λ a. a ≡ output_answer (canonical ast)))

-- a command that begins with a project
abbrev pub project_ask : List ℕ → (PlainProject → Ask) → Ask
project_ask project next = Asks (project_file project) PlainProject (ReadsProject project) next

-- a command that begins with the split of a port of a project
abbrev pub port_ask : (project port : List ℕ) → (PlainSplit → Ask) → Ask
port_ask project port next = project_ask project (λ read. goes_on (split_at read port) next)

-- `split PROJECT PORT`: the physical streams of the port
abbrev pub split_ask : (project port : List ℕ) → Ask
split_ask project port = port_ask project port (λ split. Ends (λ a. a ≡ output_answer (split_text split)))

-- a command that begins with the split of a port each of whose nodes is carried
abbrev pub carried_ask : (project port : List ℕ) → (PlainSplit → Ask) → Ask
carried_ask project port next = port_ask project port (λ split. goes_on (carried split) (λ done. next split))

-- a command that ends with a plan of a port
abbrev pub plan_ask : List ℕ → PlainSplit → (Plan → Answer → Type 0) → Ask
plan_ask plan split Tells = Asks (text_file plan) Plan (ReadsPlan plan split) (λ read. Ends (Tells read))

-- a command that goes on with a value of a port
abbrev pub valued_ask : List ℕ → PlainSplit → (PortValue → Ask) → Ask
valued_ask value split next = Asks (text_file value) PortValue (ReadsValue value split) next

-- a command that ends with a value and then a plan of a port
abbrev pub planned_ask : (value plan : List ℕ) → PlainSplit → (PortValue → Plan → Answer → Type 0) → Ask
planned_ask value plan split Tells = valued_ask value split (λ read. plan_ask plan split (Tells read))

-- a command that ends with this text of a port that is driven
abbrev pub driven_ask : DrivenText → (project port value plan : List ℕ) → Ask
driven_ask text project port value plan = carried_ask project port (λ split. planned_ask value plan split (TellsText text split))

-- `drive PROJECT PORT VALUE PLAN`: the trace that drives the port
abbrev pub drive_ask : (project port value plan : List ℕ) → Ask
drive_ask project port value plan = carried_ask project port (λ split. planned_ask value plan split (TellsDriven split))

-- a command that ends with the trace of a port
abbrev pub outcome_ask : List ℕ → PlainSplit → Ask
outcome_ask trace split = Asks (trace_file trace) Outcome (ReadsOutcome split trace) (λ outcome. Ends (TellsOutcome split trace outcome))

-- `decode PROJECT PORT TRACE`: the value that the trace carries, or the first place that is not the port's, not legal, not whole or not of one
-- value. The project and its port are decided before the trace is started.
abbrev pub decode_ask : (project port trace : List ℕ) → Ask
decode_ask project port trace = carried_ask project port (outcome_ask trace)

-- a command that ends with a run of a bench: the trace
abbrev pub run_ask : List ℕ → Bench → Ask
run_ask run bench = Asks (text_file run) SimRun (ReadsRun run bench) (λ read. Ends (λ a. a ≡ output_answer (trace_text_of bench read)))

-- `sim BENCH RUN`: the trace of a bench under a run, by the meaning of the bench
abbrev pub sim_ask : (bench run : List ℕ) → Ask
sim_ask bench run = Asks (bench_file bench) Bench (ReadsBench bench) (run_ask run)

-- `link PROJECT`: the nets of its implementations
abbrev pub link_ask : List ℕ → Ask
link_ask project = project_ask project (λ read. Ends (TellsLinked project read))

-- a command that ends with a trace between these heads: the trace that arrives
abbrev pub arrival_ask : List ℕ → EndHeads → Ask
arrival_ask trace heads = Asks (trace_file trace) TraceText (ReadsCycles trace) (λ t. Ends (TellsArrived trace heads t))

-- `carry PROJECT TOP FROM TO TRACE`: the trace at the sink
abbrev pub carry_ask : DesignWords → List ℕ → Ask
carry_ask words trace = Asks (project_file words.project) EndHeads (ReadsDesign words) (arrival_ask trace)

-- the words of a design
abbrev pub of_design : (project top from to : List ℕ) → DesignWords
of_design project top from to = record { project = project; top = top; from = from; to = to }

-- `vhdl PROJECT`, `verilog PROJECT`: its entities and architectures in this language
abbrev pub design_ask : Language → List ℕ → Ask
design_ask language project = project_ask project (λ read. Ends (TellsDesign language project read))

-- `bench PROJECT PORT VALUE PLAN`: the testbench that drives the port
abbrev pub bench_ask : (project port value plan : List ℕ) → Ask
bench_ask project port value plan = carried_ask project port (λ split. planned_ask value plan split (TellsBench split))

-- `testbench PROJECT TEST`: the testbench of a declared test
abbrev pub testbench_ask : (project test : List ℕ) → Ask
testbench_ask project test = project_ask project (λ read. Ends (TellsTest read test))

-- a command that ends with a dump of the signals of a port: the trace that they show
abbrev pub dump_ask : (scope file : List ℕ) → PlainSplit → Ask
dump_ask scope file split = Asks (dump_file file) TraceText (ReadsDump scope file split) (λ t. Ends (λ a. a ≡ output_answer (written_text t)))

-- `vcd PROJECT PORT SCOPE FILE`: the trace that the dump shows of the port. The project and its port are decided before the dump is started.
abbrev pub vcd_ask : (project port scope file : List ℕ) → Ask
vcd_ask project port scope file = port_ask project port (dump_ask scope file)

-- `gen PROJECT PORT SEED COUNT`: the summary of a job
abbrev pub gen_ask : (project port : List ℕ) (seed count : ℕ) → Ask
gen_ask project port seed count = carried_ask project port (λ split. Ends (TellsJob split seed count))

-- a command that ends with a trace of a port, of whose streams these items are expected
abbrev pub against_ask : List ℕ → PlainSplit → List (List Item) → Ask
against_ask trace split wants = Asks (trace_file trace) Comparison (ReadsComparison split wants trace) (λ found. Ends (TellsComparison split trace found))

-- a command that ends with a trace of a port beside a value of it
abbrev pub compared_ask : List ℕ → PlainSplit → PortValue → Ask
compared_ask trace split value = against_ask trace split (items_of_value split value)

-- `compare PROJECT PORT VALUE TRACE`: where the trace differs from the value first, on each stream. The project, its port and the value are decided
-- before the trace is started.
abbrev pub compare_ask : (project port value trace : List ℕ) → Ask
compare_ask project port value trace = carried_ask project port (λ split. valued_ask value split (compared_ask trace split))

-- a command that ends with a value of a port: the monitor that expects it
abbrev pub expected_ask : List ℕ → PlainSplit → Ask
expected_ask value split = valued_ask value split (λ read. Ends (TellsExpected split read))

-- `expect PROJECT PORT VALUE`: the monitor of the port for the value
abbrev pub expect_ask : (project port value : List ℕ) → Ask
expect_ask project port value = carried_ask project port (expected_ask value)

-- a command that ends with a trace: what a monitor says of it
abbrev pub watched_ask : List ℕ → PlainWatch → Ask
watched_ask trace watch = Asks (trace_file trace) Watching (ReadsWatching watch trace) (λ found. Ends (TellsWatching watch trace found))

-- `watch MONITOR TRACE`: what a monitor says of each stream of a trace. The monitor is decided before the trace is started.
abbrev pub watch_ask : (monitor trace : List ℕ) → Ask
watch_ask monitor trace = Asks (monitor_file monitor) PlainWatch (ReadsWatch monitor) (watched_ask trace)

abbrev pub ask_of : Request → Ask
ask_of (Check trace) = check_ask trace
ask_of (Read project) = read_ask project
ask_of (Split project port) = split_ask project port
ask_of (Drive project port value plan) = drive_ask project port value plan
ask_of (Decode project port trace) = decode_ask project port trace
ask_of (Sim bench run) = sim_ask bench run
ask_of (Link project) = link_ask project
ask_of (Carry project top from to trace) = carry_ask (of_design project top from to) trace
ask_of (Design language project) = design_ask language project
ask_of (requests.Bench project port value plan) = bench_ask project port value plan
ask_of (requests.Testbench project test) = testbench_ask project test
ask_of (requests.Vcd project port scope file) = vcd_ask project port scope file
ask_of (requests.Gen project port seed count) = gen_ask project port seed count
ask_of (requests.Compare project port value trace) = compare_ask project port value trace
ask_of (requests.Expect project port value) = expect_ask project port value
ask_of (requests.Watch monitor trace) = watch_ask monitor trace

-- the answer of the tool: none where the words spell no command
abbrev pub Says : Option Files → Option Request → Answer → Type 0
Says told None a = ⊥
Says told (Some request) a = SaysBy told (ask_of request) a
