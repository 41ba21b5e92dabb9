-- Each answer comes exactly where its cause stands.
use Rattle.std.proofs.Common.{◌≡◌, ℕ, ◌<◌, ◌≤◌, ◌⊎◌, ◌++◌, inl, inr, Bool, cond, List, length, Option, Some, None, option_map, Result}
use Rattle.std.proofs.Common.{Ok, Err, codes, decimal, refl, sym, ap, ◌∙◌, subst}
use Rattle.std.specs.Str.Lossy.{utf8_valid_len}
use Rattle.tydi_base.specs.Path.{path_text}
use Rattle.tydi_io.specs.Store.{Files}
use Rattle.physical_stream.specs.First.{Offence, IsFirst}
use Rattle.cycle_trace.specs.Trace.{TraceText, streams_of}
use Rattle.cycle_trace.specs.TraceText.{trace_of}
use Rattle.cycle_trace.specs.Survey.{Surveys, UnfinishedStream, counts_of, first_unfinished, survey_of}
use Rattle.cycle_trace.specs.Surveying.{offends_in}
use Rattle.cycle_trace.specs.declared.surveying.counts.Counts.{Counts}
use Rattle.cycle_trace.specs.declared.surveying.counts.SurveyFault.{SurveyFault}
use Rattle.cycle_trace.specs.declared.fault.TraceFault.{TraceFault}
use Rattle.til_lexer.specs.declared.fault.LexFault.{LexFault}
use Rattle.til_lexer.specs.declared.token.Token.{Token}
use Rattle.til_parser.specs.Canonical.{canonical}
use Rattle.til_parser.specs.declared.tree.Ast.{Ast}
use Rattle.til_resolve.specs.PlainProject.{PlainProject}
use Rattle.type_split.specs.Streams.{PlainSplit, clash_of}
use Rattle.logical_value.specs.Tree.{plain_port}
use Rattle.logical_value.specs.declared.value.PortValue.{PortValue}
use Rattle.plan_text.specs.declared.plan.Plan.{Plan}
use Rattle.handshake.specs.Rows.{StreamRun}
use Rattle.port_bench.specs.Benches.{bench_text_of}
use Rattle.port_drive.specs.Drives as driving
use Rattle.port_drive.specs.Drives.{Undriven, drive_of}
use Rattle.port_drive.specs.Laws as driven_ports
use Rattle.port_drive.specs.Text.{drive_text, written_text}
use Rattle.split_text.specs.Text.{split_text}
use Rattle.tydi_tool.specs.declared.answer.Answer.{Answer}
use Rattle.tydi_tool.specs.declared.answer.Answer.TheVariants as answers
use Rattle.tydi_tool.specs.declared.traces.Survey.{Survey}
use Rattle.tydi_tool.specs.Ask.{Ask, Ends, SaysBy, goes_on}
use Rattle.tydi_tool.specs.Causes as rows
use Rattle.tydi_tool.specs.Causes.{Row, row_of, HasBytes, HasText, HasTraceText, HasSplit, HasDrive, HasReason, HasTraceFault, HasValueFault, HasPlanFault}
use Rattle.tydi_tool.specs.Causes.{HasBench, HasRun, HasBenchFault, HasRunFault, HasTextFault, PortWords, DriveWords, SimWords, simulated_in, carried_in}
use Rattle.tydi_tool.specs.Causes.{driven_in, port_in, project_of, resolved_of, trace_in, unfinished_line, IsTextOf, CausedBy, ExactlyWhere, NoFileCause}
use Rattle.tydi_tool.specs.Causes.{TooLongCause, NotUtf8Cause, LexerCause, ParserCause, ResolverCause, NoPortCause, NameClashCause, NoCarrierCause}
use Rattle.tydi_tool.specs.Causes.{TextFaultCause, CountNotMultipleCause, NotFinishedCause, LinkFaultCause, CheckedOffence, CheckedUnfinished, OffenceCause}
use Rattle.tydi_tool.specs.Causes.{UnfinishedCause, DecodeWords, decoded_in, link_line, ChecksLinks, PortClashes, SourceClashes, DesignClashCause}
use Rattle.tydi_tool.specs.Causes.{CompareWords, ValueWords, WatchWords, at_port, compared_in, valued_in, watched_in, IsUndriven, PortUncarried, TestClashes, TestUncarried}
use Rattle.tydi_tool.specs.Commands.{ask_of, Says, check_ask, dump_ask, outcome_ask, carried_ask, link_ask, planned_ask, port_ask, run_ask, sim_ask, of_design}
use Rattle.tydi_tool.specs.Commands.{compared_ask, design_ask, expected_ask, plan_ask, valued_ask}
use Rattle.tydi_tool.specs.Drives.{TellsBench, TellsDriven, TellsMade, carried, path_of, refusal_of_driving}
use Rattle.tydi_tool.specs.Files.{NoFile, TooLong}
use Rattle.tydi_tool.specs.Jobs.{TellsJob}
use Rattle.tydi_tool.specs.Lines.{legal_text}
use Rattle.tydi_tool.specs.Outcome.{output_answer, output_limit, output_too_long_line}
use Rattle.tydi_tool.specs.Ports.{split_at, split_unless}
use Rattle.tydi_tool.specs.Projects.{ReadsProject}
use Rattle.tydi_tool.specs.Refusals.{not_utf8, refusal_line, refusal_of_lexing, refusal_of_resolving, refusal_of_trace, refusal_of_value, refusal_of_bench, refusal_of_run}
use Rattle.tydi_tool.specs.Reports.{Reports, path_of_stream}
use Rattle.tydi_tool.specs.Traces.{ReadsReading, ReadsTrace}
use Rattle.tydi_tool.specs.Trees.{ReadsCoded, ReadsTokens, ReadsTree, refusal_of_parsing}
use Rattle.tydi_tool.specs.Tests.{TellsTest}
use Rattle.tydi_tool.specs.Words as requests
use Rattle.tydi_tool.specs.Words.{Request, Check, Decode, Drive, Link, Read, Sim, Split, bench_file, project_file, text_file, trace_file, Carry, Design}
use Rattle.tydi_tool.proofs.AnswerLemmas.{not_read}
use Rattle.link_check.specs.Checked.{linked}
use Rattle.link_check.specs.Text.{nets_text}
use Rattle.link_check.specs.declared.fault.LinkFault.{LinkFault}
use Rattle.link_check.specs.declared.nets.Nets.{Nets}
use Rattle.vhdl_writer.specs.PortClashes.{first_clash}
use Rattle.vhdl_writer.specs.declared.clash.Clash.{Clash}
use Rattle.tydi_tool.specs.Entities.{TellsApart, TellsDesign, text_of_nets}
use Rattle.tydi_tool.specs.Links.{TellsChecked, TellsLinked, TellsRefusal, refusal_of_linking}
use Rattle.tydi_tool.specs.Refusals.{Refusal}
use Rattle.vhdl_text.specs.Reading.{bench_of}
use Rattle.vhdl_text.specs.declared.bench.Bench.{Bench}
use Rattle.vhdl_text.specs.declared.language.Language.{Language}
use Rattle.vhdl_text.specs.declared.fault.VhdlFault.{VhdlFault}
use Rattle.vhdl_meaning.specs.RunText.{run_of}
use Rattle.vhdl_meaning.specs.declared.run.RunFault.{RunFault}
use Rattle.vhdl_meaning.specs.declared.run.SimRun.{SimRun}
use Rattle.bench_run.specs.Traces.{trace_text_of}
use Rattle.tydi_tool.specs.Reading.{ReadsResult}
use Rattle.tydi_tool.specs.Benches.{ReadsBench, ReadsRun}
use Rattle.tydi_tool.proofs.BenchLemmas.{ReadsBench-read, ReadsRun-read, bench-read, run-read}
use Rattle.tydi_tool.proofs.CauseLines.{bench_text, by_line, caused_row, lexer_text, line_of, link_text, one_word, parser_text, resolver_text, run_text, same_some, three_words, trace_text, two_words, value_text}
use Rattle.tydi_tool.proofs.CompareCauses.{compares, of_compare, says-compared_fault, says-compared_header, says-difference, says-same_text, told-compared}
use Rattle.tydi_tool.proofs.WatchCauses.{monitors, of_expect, of_watch, runs, says-expected, says-monitor_fault, says-quiet_text, says-report, says-watched_fault, says-watched_header, told-expected, told-watch}
use Rattle.tydi_tool.proofs.CauseDecodes.{decodes, says-decoded_offence, says-decoded_unfinished, says-disagreement, says-other_header}
use Rattle.tydi_tool.proofs.CauseDecodes.{says-port_trace_fault, says-value_text, told-decoded}
use Rattle.tydi_tool.proofs.CauseSteps.{Told, ends_line, plan-refused, over_test, reaches-read, refuses_project, reports_end, refuses_tree, says-found, says-plan}
use Rattle.tydi_tool.proofs.CauseSteps.{says-planned, says-port, says-read, says-refused, says-uncarried, says-value, says_lack}
use Rattle.tydi_tool.proofs.CauseSteps.{told-carried, told-file, told-planned, told-port, values, within_test, gives_text}
use Rattle.tydi_tool.proofs.CarryCauses.{of_carry, says-unread, says_carried_fault, says_carried_text, says_no_path, says_no_streamlet, says_other_header}
use Rattle.tydi_tool.proofs.CarryCauses.{says_source_clash, says_unlinked, told_carry}
use Rattle.tydi_tool.proofs.DriveLemmas.{Made}
use Rattle.tydi_tool.proofs.DumpCauses.{of_dump, says-dump_text, says_dump_fault, told-sampled}
use Rattle.tydi_tool.proofs.JobCauses.{of_job, says-job_count, says-no_job, says-summary, told-job}
use Rattle.tydi_tool.proofs.MadeCauses.{tells-made, tells-unmade, told-made}
use Rattle.tydi_tool.proofs.TestCauses.{bench_by, of_test, says_no_test, says_test_clash, says_test_plan, says_test_reason, says_test_uncarried, says_test_value, says_testbench_text, told_testbench}
use Rattle.tydi_tool.proofs.FileLemmas.{file_of-long, file_of-missing}

-- the words of a port of a project, and those of a port that is driven
abbrev pub of_project : (project port : List ℕ) → PortWords
of_project project port = record { project = project; port = port }

abbrev pub of_drive : (project port value plan : List ℕ) → DriveWords
of_drive project port value plan = record { at = of_project project port; value = value; plan = plan }

-- those of a port that is decoded
abbrev pub of_decode : (project port trace : List ℕ) → DecodeWords
of_decode project port trace = record { at = of_project project port; trace = trace }

-- ---- an answer has a cause

-- the text of a trace is refused
refuses_trace : (known : Files) (request : Request) (word bytes line : List ℕ) (a : Answer) → HasTraceText known request word bytes → ReadsTrace word bytes (Err line)
    → a ≡ answers.Refused line → Told known request a
refuses_trace known request word bytes line a trace refused said = by (trace_of bytes) refl refused
  where
    by : (read : Result TraceText TraceFault) → trace_of bytes ≡ read → ReadsReading word read (Err line) → Told known request a
    by (Ok t) is refused = absurd refused
    by (Err fault) is refused = (
      rows.TextFault,
      inl (record {
        line = line;
        faulty = inl (record {
          word = word;
          bytes = bytes;
          trace = trace;
          fault = fault;
          reads = is;
          told = sym (trace_text word fault) ∙ line_of Survey (refusal_of_trace word fault) line refused;
        });
        said = said;
      }),
    )

-- a trace is surveyed
reports_trace : (known : Files) (trace bytes : List ℕ) (a : Answer) (survey : Survey) → HasBytes known trace 67108864 bytes → ReadsTrace trace bytes (Ok survey)
    → Reports survey.heads survey.found a → Told known (Check trace) a
reports_trace known trace bytes a survey file reads said = by (trace_of bytes) refl reads
  where
    by_found : (t : TraceText) (first : Option Offence) (left : Option UnfinishedStream) → trace_of bytes ≡ Ok t → IsFirst (offends_in t) first → first_unfinished 0 (streams_of t) ≡ left
        → Reports t.heads (survey_of first left (counts_of (streams_of t))) a → Told known (Check trace) a
    by_found t (Some first) left is is_first is_left said = (
      rows.AnOffence,
      inl (record {
        word = trace;
        bytes = bytes;
        trace = record { word_is = refl; file = file };
        read = t;
        reads = is;
        first = first;
        is_first = is_first;
        said = said;
      }),
    )
    by_found t None (Some left) is is_first is_left said =
        let line = ends_line (path_of_stream t.heads left.stream) left.end a said in (
          rows.AnUnfinished,
          inl (record {
            word = trace;
            bytes = bytes;
            trace = record { word_is = refl; file = file };
            read = t;
            reads = is;
            legal = is_first;
            left = left;
            is_left = is_left;
            line = line.0;
            told = line.1.0;
            said = line.1.1;
          }),
        )
    by_found t None None is is_first is_left said =
        gives_text known (Check trace) (legal_text t.heads (counts_of (streams_of t)).streams) a (record {
          bytes = bytes;
          file = file;
          read = t;
          reads = is;
          legal = is_first;
          whole = is_left;
          is = refl;
        }) said

    by : (read : Result TraceText TraceFault) → trace_of bytes ≡ read → ReadsReading trace read (Ok survey) → Told known (Check trace) a
    by (Ok t) is surveyed =
        by_found t surveyed.found.first (first_unfinished 0 (streams_of t)) is surveyed.found.is_first refl
        (subst (λ (found : Result Counts SurveyFault). Reports t.heads found a) surveyed.found.says
        (subst (λ heads. Reports heads survey.found a) surveyed.heads said))
    by (Err fault) is refused = absurd (not_read (refusal_of_trace trace fault) survey refused)

-- a value and a plan drive a port, or do not
drives_port : (known : Files) (request : Request) (words : DriveWords) (split : PlainSplit) (value : PortValue) (plan : Plan) (write : List StreamRun → List ℕ) (a : Answer) → driven_in request ≡ Some words
    → HasDrive known words split value plan → ((text : List ℕ) → Made split (plain_port value) plan write ≡ Ok text → IsTextOf known request text) → TellsMade split (Made split (plain_port value) plan write) a
    → Told known request a
drives_port known request words split value plan write a named all text says =
    told-made split value plan write a known request (λ reason is. inl (record { words = words; named = named; value = value; plan = plan; all = all; is = is })) text says

-- the text of the trace that the runs of a port make
abbrev trace_by : PlainSplit → Plan → List StreamRun → List ℕ
trace_by split plan runs = written_text (driven_ports.trace_of split plan.cycles runs)

-- the text of a bench is refused
refuses_bench : (known : Files) (bench run bytes line : List ℕ) (a : Answer) → HasBytes known bench 67108864 bytes → ReadsBench bench bytes (Err line) → a ≡ answers.Refused line → Told known (Sim bench run) a
refuses_bench known bench run bytes line a file refused said = by (bench_of bytes) refl refused
  where
    by : (read : Result Bench VhdlFault) → bench_of bytes ≡ read → ReadsResult (refusal_of_bench bench) read (Err line) → Told known (Sim bench run) a
    by (Ok found) is refused = absurd cc
    by (Err fault) is refused = (
      rows.TextFault,
      inl (record {
        line = line;
        faulty = inr (inr (inr (inl (record {
          words = record { bench = bench; run = run };
          named = refl;
          bytes = bytes;
          file = file;
          fault = fault;
          reads = is;
          told = sym (bench_text bench fault) ∙ line_of Bench (refusal_of_bench bench fault) line refused;
        }))));
        said = said;
      }),
    )

-- the text of a run is refused
refuses_run : (known : Files) (bench run : List ℕ) (read : Bench) → HasBench known bench read → (bytes line : List ℕ) (a : Answer) → HasBytes known run 16777216 bytes → ReadsRun run read bytes (Err line)
    → a ≡ answers.Refused line → Told known (Sim bench run) a
refuses_run known bench run read has bytes line a file refused said = by (run_of read bytes) refl refused
  where
    by : (reading : Result SimRun RunFault) → run_of read bytes ≡ reading → ReadsResult (refusal_of_run run) reading (Err line) → Told known (Sim bench run) a
    by (Ok found) is refused = absurd cc
    by (Err fault) is refused = (
      rows.TextFault,
      inl (record {
        line = line;
        faulty = inr (inr (inr (inr (inl (record {
          words = record { bench = bench; run = run };
          named = refl;
          bench = read;
          bench_is = has;
          bytes = bytes;
          file = file;
          fault = fault;
          reads = is;
          told = sym (run_text run fault) ∙ line_of SimRun (refusal_of_run run fault) line refused;
        })))));
        said = said;
      }),
    )

-- ---- how each command goes on after the steps that it shares with others

-- with the split of its port
abbrev split_end : PlainSplit → Ask
split_end split = Ends (λ a. a ≡ output_answer (split_text split))

abbrev driven_next : (value plan : List ℕ) → PlainSplit → Ask
driven_next value plan split = planned_ask value plan split (TellsDriven split)

abbrev benched_next : (value plan : List ℕ) → PlainSplit → Ask
benched_next value plan split = planned_ask value plan split (TellsBench split)

abbrev job_next : (seed count : ℕ) → PlainSplit → Ask
job_next seed count split = Ends (TellsJob split seed count)

abbrev compare_next : (value trace : List ℕ) → PlainSplit → Ask
compare_next value trace split = valued_ask value split (compared_ask trace split)

abbrev port_next : Request → PlainSplit → Ask
port_next (Split project port) split = split_end split
port_next (Drive project port value plan) split = goes_on (carried split) (λ done. driven_next value plan split)
port_next (Decode project port trace) split = goes_on (carried split) (λ done. outcome_ask trace split)
port_next (requests.Bench project port value plan) split = goes_on (carried split) (λ done. benched_next value plan split)
port_next (requests.Vcd project port scope file) split = dump_ask scope file split
port_next (requests.Gen project port seed count) split = goes_on (carried split) (λ done. job_next seed count split)
port_next (requests.Compare project port value trace) split = goes_on (carried split) (λ done. compare_next value trace split)
port_next (requests.Expect project port value) split = goes_on (carried split) (λ done. expected_ask value split)
port_next request split = Ends (λ a. ⊥)

-- with the split of a port that is carried
abbrev carried_next : Request → PlainSplit → Ask
carried_next (Drive project port value plan) split = driven_next value plan split
carried_next (Decode project port trace) split = outcome_ask trace split
carried_next (requests.Bench project port value plan) split = benched_next value plan split
carried_next (requests.Gen project port seed count) split = job_next seed count split
carried_next (requests.Compare project port value trace) split = compare_next value trace split
carried_next (requests.Expect project port value) split = expected_ask value split
carried_next request split = Ends (λ a. ⊥)

-- with a value and a plan of its port
abbrev driven_end : Request → PlainSplit → PortValue → Plan → Answer → Type 0
driven_end (Drive project port value plan) split read planned a = TellsDriven split read planned a
driven_end (requests.Bench project port value plan) split read planned a = TellsBench split read planned a
driven_end request split read planned a = ⊥

-- a bench under a run
told_sim : (known : Files) (bench run : List ℕ) (a : Answer) → SaysBy (Some known) (sim_ask bench run) a → Told known (Sim bench run) a
told_sim known bench run a says =
    told-file known (bench_file bench) (ReadsBench bench) (run_ask run) a (Sim bench run) (inl refl)
    (λ bytes line file refused said. refuses_bench known bench run bytes line a file refused said)
    (λ bytes read file reads said. by_run bytes read file reads said) says
  where
    by_run : (bytes : List ℕ) (read : Bench) → HasBytes known bench 67108864 bytes → ReadsBench bench bytes (Ok read) → SaysBy (Some known) (run_ask run read) a → Told known (Sim bench run) a
    by_run bytes read file reads said =
        let has : HasBench known bench read = record { bytes = bytes; file = file; reads = bench-read bench bytes read reads } in
        told-file known (text_file run) (ReadsRun run read) (λ made. Ends (λ b. b ≡ output_answer (trace_text_of read made))) a (Sim bench run)
        (reaches-read known (bench_file bench) (ReadsBench bench) (run_ask run) a (text_file run) bytes read file reads (inl refl))
        (λ run_bytes line run_file refused said. refuses_run known bench run read has run_bytes line a run_file refused said)
        (λ run_bytes made run_file made_is said.
        gives_text known (Sim bench run) (trace_text_of read made) a (record {
          bench = read;
          run = made;
          bench_is = has;
          run_is = record { bytes = run_bytes; file = run_file; reads = run-read run read run_bytes made made_is };
          is = refl;
        }) said) said

-- the links of a project
checks_links : (known : Files) (request : Request) (project bytes : List ℕ) (a : Answer) (read : PlainProject) (write : Nets → List ℕ) → ChecksLinks request project read
    → HasBytes known project 4194304 bytes → ReadsProject project bytes (Ok read) → ((nets : Nets) → linked read.streamlets ≡ Ok nets → IsTextOf known request (write nets))
    → TellsChecked project write (linked read.streamlets) a → Told known request a
checks_links known request project bytes a read write checks file reads text says = by (linked read.streamlets) refl says
  where
    by_refusal : (fault : LinkFault) → linked read.streamlets ≡ Err fault → (refusal : Option Refusal) → refusal_of_linking project fault ≡ refusal → TellsRefusal refusal a → Told known request a
    by_refusal fault is None none says = absurd says
    by_refusal fault is (Some refusal) some says = (
      rows.NotLinked,
      record {
        word = project;
        bytes = bytes;
        file = file;
        read = read;
        reads = reads;
        checks = checks;
        fault = fault;
        is = is;
        line = refusal_line refusal;
        told = sym (link_text project fault) ∙ ap (option_map refusal_line) some;
        said = says;
      },
    )

    by : (found : Result Nets LinkFault) → linked read.streamlets ≡ found → TellsChecked project write found a → Told known request a
    by (Ok nets) is says = gives_text known request (write nets) a (text nets is) says
    by (Err fault) is says = by_refusal fault is (refusal_of_linking project fault) refl says

told_link : (known : Files) (project : List ℕ) (a : Answer) → SaysBy (Some known) (link_ask project) a → Told known (Link project) a
told_link known project a says =
    told-file known (project_file project) (ReadsProject project) (λ read. Ends (TellsLinked project read)) a (Link project) (inl refl)
    (λ bytes line file refused said. refuses_project known (Link project) project bytes line a refl refl file refused said)
    (λ bytes read file reads said. checks_links known (Link project) project bytes a read (nets_text read.streamlets) refl file reads
    (λ nets is. record { bytes = bytes; file = file; read = read; reads = reads; nets = nets; nets_are = is; is = refl }) said) says

-- the entities and architectures of a project
writes_design : (known : Files) (language : Language) (project bytes : List ℕ) (a : Answer) (read : PlainProject) → HasBytes known project 4194304 bytes → ReadsProject project bytes (Ok read)
    → TellsDesign language project read a → Told known (Design language project) a
writes_design known language project bytes a read file reads says = by (first_clash read.streamlets) refl says
  where
    by : (found : Option Clash) → first_clash read.streamlets ≡ found → TellsApart language project read.streamlets found a → Told known (Design language project) a
    by None apart says =
        checks_links known (Design language project) project bytes a read (text_of_nets language read.streamlets) (refl, apart) file reads
        (λ nets is. record { bytes = bytes; file = file; read = read; reads = reads; apart = apart; nets = nets; nets_are = is; is = refl }) says
    by (Some clash) is says = (
      rows.NameClash,
      inr (record {
        word = project;
        named = refl;
        bytes = bytes;
        file = file;
        read = read;
        reads = reads;
        clash = clash;
        is = is;
        said = says ∙ ap answers.Refused (two_words (codes "tydi: ") (codes "NameClash") (codes " ") (at_port clash.streamlet clash.port) (path_text clash.path) (codes "\n"));
      }),
    )

told_design : (known : Files) (language : Language) (project : List ℕ) (a : Answer) → SaysBy (Some known) (design_ask language project) a → Told known (Design language project) a
told_design known language project a says =
    told-file known (project_file project) (ReadsProject project) (λ read. Ends (TellsDesign language project read)) a (Design language project) (inl refl)
    (λ bytes line file refused said. refuses_project known (Design language project) project bytes line a refl refl file refused said)
    (λ bytes read file reads said. writes_design known language project bytes a read file reads said) says

pub told : (known : Files) (request : Request) (a : Answer) → SaysBy (Some known) (ask_of request) a → Told known request a
told known (Check trace) a says =
    told-file known (trace_file trace) (ReadsTrace trace) (λ survey. Ends (λ b. Reports survey.heads survey.found b)) a (Check trace) (inl refl)
    (λ bytes line file refused said. refuses_trace known (Check trace) trace bytes line a (record { word_is = refl; file = file }) refused said)
    (λ bytes survey file reads said. reports_trace known trace bytes a survey file reads said) says
told known (Read project) a says =
    told-file known (project_file project) (ReadsTree project) (λ ast. Ends (λ b. b ≡ output_answer (canonical ast))) a (Read project) (inl refl)
    (λ bytes line file refused said. refuses_tree known (Read project) project bytes line a (record { word_is = refl; file = file }) refused said)
    (λ bytes ast file reads said. gives_text known (Read project) (canonical ast) a (record { bytes = bytes; file = file; ast = ast; reads = reads; is = refl }) said) says
told known (Split project port) a says =
    told-port known (of_project project port) split_end (Split project port) a refl refl refl (inl refl)
    (λ split has said. gives_text known (Split project port) (split_text split) a (record { split = split; split_is = has; is = refl }) said) says
told known (Drive project port value plan) a says =
    told-carried known (of_project project port) (driven_next value plan) (Drive project port value plan) a refl refl refl refl (inl refl)
    (λ split at said. told-planned known (of_drive project port value plan) TellsDriven (Drive project port value plan) a refl refl split at (λ other reached. reached)
    (λ read planned all tells. drives_port known (Drive project port value plan) (of_drive project port value plan) split read planned (trace_by split planned) a refl all
    (λ text is. record { split = split; value = read; plan = planned; all = all; is = is }) tells) said) says
told known (Decode project port trace) a says =
    told-carried known (of_project project port) (outcome_ask trace) (Decode project port trace) a refl refl refl refl (inl refl)
    (λ split at said. told-decoded known (of_decode project port trace) (Decode project port trace) a refl split at refl
    (λ text is tells. gives_text known (Decode project port trace) text a is tells) said) says
told known (Sim bench run) a says = told_sim known bench run a says
told known (Link project) a says = told_link known project a says
told known (Carry project top from to trace) a says = told_carry known project top from to trace a says
told known (Design language project) a says = told_design known language project a says
told known (requests.Bench project port value plan) a says =
    told-carried known (of_project project port) (benched_next value plan) (requests.Bench project port value plan) a refl refl refl refl (inl refl)
    (λ split at said. told-planned known (of_drive project port value plan) TellsBench (requests.Bench project port value plan) a refl refl split at (λ other reached. reached)
    (λ read planned all tells. drives_port known (requests.Bench project port value plan) (of_drive project port value plan) split read planned (bench_by split) a refl all
    (λ text is. record { split = split; value = read; plan = planned; all = all; is = is }) tells) said) says
told known (requests.Compare project port value trace) a says =
    told-carried known (of_project project port) (compare_next value trace) (requests.Compare project port value trace) a refl refl refl refl (inl refl)
    (λ split at said. told-compared known (of_compare project port value trace) (requests.Compare project port value trace) a refl refl split at refl
    (λ text is tells. gives_text known (requests.Compare project port value trace) text a is tells) said) says
told known (requests.Expect project port value) a says =
    told-carried known (of_project project port) (expected_ask value) (requests.Expect project port value) a refl refl refl refl (inl refl)
    (λ split at said. told-expected known (of_expect project port value) (requests.Expect project port value) a refl split at refl
    (λ text is tells. gives_text known (requests.Expect project port value) text a is tells) said) says
told known (requests.Watch monitor trace) a says =
    told-watch known (of_watch monitor trace) (requests.Watch monitor trace) a refl refl (λ text is tells. gives_text known (requests.Watch monitor trace) text a is tells) says
told known (requests.Testbench project test) a says = told_testbench known project test a says
told known (requests.Vcd project port scope file) a says =
    told-port known (of_project project port) (dump_ask scope file) (requests.Vcd project port scope file) a refl refl refl (inl refl)
    (λ split has said. told-sampled known (of_dump project port scope file) (requests.Vcd project port scope file) a refl split has refl
    (λ text is tells. gives_text known (requests.Vcd project port scope file) text a is tells) said) says
told known (requests.Gen project port seed count) a says =
    told-carried known (of_project project port) (job_next seed count) (requests.Gen project port seed count) a refl refl refl refl (inl refl)
    (λ split at said. told-job known (of_job project port seed count) (requests.Gen project port seed count) a refl split at (λ text is. is) said) says

-- ---- a cause gives its answer

same_words : (one other : PortWords) → ◌≡◌ {A = Option PortWords} (Some one) (Some other) → one ≡ other
same_words one other e = cc

same_driven : (one other : DriveWords) → ◌≡◌ {A = Option DriveWords} (Some one) (Some other) → one ≡ other
same_driven one other e = cc

same_decoded : (one other : DecodeWords) → ◌≡◌ {A = Option DecodeWords} (Some one) (Some other) → one ≡ other
same_decoded one other e = cc

same_name : (one other : List ℕ) → ◌≡◌ {A = Option (List ℕ)} (Some one) (Some other) → one ≡ other
same_name one other e = cc

no_word : (word : List ℕ) → ◌≡◌ {A = Option (List ℕ)} None (Some word) → ⊥
no_word word e = cc

-- a command that begins with a port says the same as the rest of it after the port
from_port : (known : Files) (request : Request) (words : PortWords) (a : Answer) → port_in request ≡ Some words → SaysBy (Some known) (port_ask words.project words.port (port_next request)) a
    → SaysBy (Some known) (ask_of request) a
from_port known (Check trace) words a named said = absurd cc
from_port known (Read project) words a named said = absurd cc
from_port known (Sim bench run) words a named said = absurd cc
from_port known (Link project) words a named said = absurd cc
from_port known (Carry project top from to trace) words a named said = absurd cc
from_port known (Design language project) words a named said = absurd cc
from_port known (requests.Testbench project test) words a named said = absurd cc
from_port known (requests.Watch monitor trace) words a named said = absurd cc
from_port known (Split project port) words a named said =
    subst (λ (w : PortWords). SaysBy (Some known) (port_ask w.project w.port split_end) a) (sym (same_words (of_project project port) words named)) said
from_port known (requests.Vcd project port scope file) words a named said =
    subst (λ (w : PortWords). SaysBy (Some known) (port_ask w.project w.port (dump_ask scope file)) a) (sym (same_words (of_project project port) words named)) said
from_port known (Drive project port value plan) words a named said =
    subst (λ (w : PortWords). SaysBy (Some known) (carried_ask w.project w.port (driven_next value plan)) a) (sym (same_words (of_project project port) words named)) said
from_port known (Decode project port trace) words a named said =
    subst (λ (w : PortWords). SaysBy (Some known) (carried_ask w.project w.port (outcome_ask trace)) a) (sym (same_words (of_project project port) words named)) said
from_port known (requests.Bench project port value plan) words a named said =
    subst (λ (w : PortWords). SaysBy (Some known) (carried_ask w.project w.port (benched_next value plan)) a) (sym (same_words (of_project project port) words named)) said
from_port known (requests.Gen project port seed count) words a named said =
    subst (λ (w : PortWords). SaysBy (Some known) (carried_ask w.project w.port (job_next seed count)) a) (sym (same_words (of_project project port) words named)) said
from_port known (requests.Compare project port value trace) words a named said =
    subst (λ (w : PortWords). SaysBy (Some known) (carried_ask w.project w.port (compare_next value trace)) a) (sym (same_words (of_project project port) words named)) said
from_port known (requests.Expect project port value) words a named said =
    subst (λ (w : PortWords). SaysBy (Some known) (carried_ask w.project w.port (expected_ask value)) a) (sym (same_words (of_project project port) words named)) said

-- the same of a port that has to be carried
from_carried : (known : Files) (request : Request) (words : PortWords) (a : Answer) → carried_in request ≡ Some words → SaysBy (Some known) (carried_ask words.project words.port (carried_next request)) a
    → SaysBy (Some known) (ask_of request) a
from_carried known (Check trace) words a named said = absurd cc
from_carried known (Read project) words a named said = absurd cc
from_carried known (Sim bench run) words a named said = absurd cc
from_carried known (Link project) words a named said = absurd cc
from_carried known (Carry project top from to trace) words a named said = absurd cc
from_carried known (Design language project) words a named said = absurd cc
from_carried known (requests.Testbench project test) words a named said = absurd cc
from_carried known (requests.Vcd project port scope file) words a named said = absurd cc
from_carried known (requests.Watch monitor trace) words a named said = absurd cc
from_carried known (Split project port) words a named said = absurd cc
from_carried known (Drive project port value plan) words a named said =
    subst (λ (w : PortWords). SaysBy (Some known) (carried_ask w.project w.port (driven_next value plan)) a) (sym (same_words (of_project project port) words named)) said
from_carried known (Decode project port trace) words a named said =
    subst (λ (w : PortWords). SaysBy (Some known) (carried_ask w.project w.port (outcome_ask trace)) a) (sym (same_words (of_project project port) words named)) said
from_carried known (requests.Bench project port value plan) words a named said =
    subst (λ (w : PortWords). SaysBy (Some known) (carried_ask w.project w.port (benched_next value plan)) a) (sym (same_words (of_project project port) words named)) said
from_carried known (requests.Gen project port seed count) words a named said =
    subst (λ (w : PortWords). SaysBy (Some known) (carried_ask w.project w.port (job_next seed count)) a) (sym (same_words (of_project project port) words named)) said
from_carried known (requests.Compare project port value trace) words a named said =
    subst (λ (w : PortWords). SaysBy (Some known) (carried_ask w.project w.port (compare_next value trace)) a) (sym (same_words (of_project project port) words named)) said
from_carried known (requests.Expect project port value) words a named said =
    subst (λ (w : PortWords). SaysBy (Some known) (carried_ask w.project w.port (expected_ask value)) a) (sym (same_words (of_project project port) words named)) said

-- the same of a port that is driven
abbrev drives_by : Request → DriveWords → Ask
drives_by request words = carried_ask words.at.project words.at.port (λ split. planned_ask words.value words.plan split (driven_end request split))

from_driven : (known : Files) (request : Request) (words : DriveWords) (a : Answer) → driven_in request ≡ Some words → SaysBy (Some known) (drives_by request words) a → SaysBy (Some known) (ask_of request) a
from_driven known (Check trace) words a named said = absurd cc
from_driven known (Read project) words a named said = absurd cc
from_driven known (Sim bench run) words a named said = absurd cc
from_driven known (Link project) words a named said = absurd cc
from_driven known (Carry project top from to trace) words a named said = absurd cc
from_driven known (Design language project) words a named said = absurd cc
from_driven known (requests.Testbench project test) words a named said = absurd cc
from_driven known (requests.Vcd project port scope file) words a named said = absurd cc
from_driven known (requests.Gen project port seed count) words a named said = absurd cc
from_driven known (requests.Compare project port value trace) words a named said = absurd cc
from_driven known (requests.Expect project port value) words a named said = absurd cc
from_driven known (requests.Watch monitor trace) words a named said = absurd cc
from_driven known (Split project port) words a named said = absurd cc
from_driven known (Decode project port trace) words a named said = absurd cc
from_driven known (Drive project port value plan) words a named said =
    subst (λ (w : DriveWords). SaysBy (Some known) (drives_by (Drive project port value plan) w) a) (sym (same_driven (of_drive project port value plan) words named)) said
from_driven known (requests.Bench project port value plan) words a named said =
    subst (λ (w : DriveWords). SaysBy (Some known) (drives_by (requests.Bench project port value plan) w) a) (sym (same_driven (of_drive project port value plan) words named)) said

-- the same of a port that is decoded
from_decoded : (known : Files) (request : Request) (words : DecodeWords) (a : Answer) → decoded_in request ≡ Some words → SaysBy (Some known) (decodes known words) a → SaysBy (Some known) (ask_of request) a
from_decoded known (Check trace) words a named said = absurd cc
from_decoded known (Read project) words a named said = absurd cc
from_decoded known (Sim bench run) words a named said = absurd cc
from_decoded known (Link project) words a named said = absurd cc
from_decoded known (Design language project) words a named said = absurd cc
from_decoded known (requests.Bench project port value plan) words a named said = absurd cc
from_decoded known (requests.Testbench project test) words a named said = absurd cc
from_decoded known (requests.Vcd project port scope file) words a named said = absurd cc
from_decoded known (requests.Gen project port seed count) words a named said = absurd cc
from_decoded known (requests.Compare project port value trace) words a named said = absurd cc
from_decoded known (requests.Expect project port value) words a named said = absurd cc
from_decoded known (requests.Watch monitor trace) words a named said = absurd cc
from_decoded known (Split project port) words a named said = absurd cc
from_decoded known (Drive project port value plan) words a named said = absurd cc
from_decoded known (Carry project top from to trace) words a named said = absurd cc
from_decoded known (Decode project port trace) words a named said =
    subst (λ (w : DecodeWords). SaysBy (Some known) (decodes known w) a) (sym (same_decoded (of_decode project port trace) words named)) said

says_no_file : (known : Files) (request : Request) (a : Answer) → NoFileCause known request a → SaysBy (Some known) (ask_of request) a
says_no_file known request a cause =
    subst (SaysBy (Some known) (ask_of request)) (ap answers.Refused (one_word (codes "tydi: ") (codes "NoFile") (codes " ") cause.file.word (codes "\n")) ∙ sym cause.said)
    (says_lack known (ask_of request) cause.file cause.reached NoFile (file_of-missing known cause.file cause.lacking))

says_too_long : (known : Files) (request : Request) (a : Answer) → TooLongCause known request a → SaysBy (Some known) (ask_of request) a
says_too_long known request a cause =
    subst (SaysBy (Some known) (ask_of request)) (ap answers.Refused (one_word (codes "tydi: ") (codes "TooLong") (codes " ") cause.file.word (codes "\n")) ∙ sym cause.said)
    (says_lack known (ask_of request) cause.file cause.reached TooLong (file_of-long known cause.file cause.bytes cause.there cause.long))

-- a project whose text is refused, in a command that begins with a port of it
refused_in_port : (known : Files) (words : PortWords) (next : PlainSplit → Ask) (bytes line : List ℕ) (a : Answer) → HasBytes known words.project 4194304 bytes → ReadsProject words.project bytes (Err line) → a ≡ answers.Refused line
    → SaysBy (Some known) (port_ask words.project words.port next) a
refused_in_port known words next bytes line a file refused said =
    says-refused known (project_file words.project) (ReadsProject words.project) (λ read. goes_on (split_at read words.port) next) a bytes line file refused said

-- the project of a command that resolves it is refused
says_project : (known : Files) (request : Request) (word bytes line : List ℕ) (a : Answer) → HasText known (resolved_of request) 4194304 word bytes → ReadsProject word bytes (Err line) → a ≡ answers.Refused line
    → SaysBy (Some known) (ask_of request) a
says_project known (Check trace) word bytes line a project refused said = absurd (no_word word project.word_is)
says_project known (Read name) word bytes line a project refused said = absurd (no_word word project.word_is)
says_project known (Sim bench run) word bytes line a project refused said = absurd (no_word word project.word_is)
says_project known (requests.Watch monitor trace) word bytes line a project refused said = absurd (no_word word project.word_is)
says_project known (Split name port) word bytes line a project refused said =
    let same = same_name name word project.word_is in
    from_port known (Split name port) (of_project name port) a refl
    (refused_in_port known (of_project name port) split_end bytes line a
    (subst (λ (w : List ℕ). HasBytes known w 4194304 bytes) (sym same) project.file) (subst (λ (w : List ℕ). ReadsProject w bytes (Err line)) (sym same) refused) said)
says_project known (Drive name port value plan) word bytes line a project refused said =
    let same = same_name name word project.word_is in
    from_port known (Drive name port value plan) (of_project name port) a refl
    (refused_in_port known (of_project name port) (port_next (Drive name port value plan)) bytes line a
    (subst (λ (w : List ℕ). HasBytes known w 4194304 bytes) (sym same) project.file) (subst (λ (w : List ℕ). ReadsProject w bytes (Err line)) (sym same) refused) said)
says_project known (Decode name port trace) word bytes line a project refused said =
    let same = same_name name word project.word_is in
    from_port known (Decode name port trace) (of_project name port) a refl
    (refused_in_port known (of_project name port) (port_next (Decode name port trace)) bytes line a
    (subst (λ (w : List ℕ). HasBytes known w 4194304 bytes) (sym same) project.file) (subst (λ (w : List ℕ). ReadsProject w bytes (Err line)) (sym same) refused) said)
says_project known (Link name) word bytes line a project refused said =
    let same = same_name name word project.word_is in
    says-refused known (project_file name) (ReadsProject name) (λ read. Ends (TellsLinked name read)) a bytes line
    (subst (λ (w : List ℕ). HasBytes known w 4194304 bytes) (sym same) project.file) (subst (λ (w : List ℕ). ReadsProject w bytes (Err line)) (sym same) refused) said
says_project known (Carry name top from to trace) word bytes line a project refused said =
    let same = same_name name word project.word_is in
    says-unread known (of_carry (of_design name top from to) trace) bytes line a
    (subst (λ (w : List ℕ). HasBytes known w 4194304 bytes) (sym same) project.file) (subst (λ (w : List ℕ). ReadsProject w bytes (Err line)) (sym same) refused) said
says_project known (Design language name) word bytes line a project refused said =
    let same = same_name name word project.word_is in
    says-refused known (project_file name) (ReadsProject name) (λ read. Ends (TellsDesign language name read)) a bytes line
    (subst (λ (w : List ℕ). HasBytes known w 4194304 bytes) (sym same) project.file) (subst (λ (w : List ℕ). ReadsProject w bytes (Err line)) (sym same) refused) said
says_project known (requests.Bench name port value plan) word bytes line a project refused said =
    let same = same_name name word project.word_is in
    from_port known (requests.Bench name port value plan) (of_project name port) a refl
    (refused_in_port known (of_project name port) (port_next (requests.Bench name port value plan)) bytes line a
    (subst (λ (w : List ℕ). HasBytes known w 4194304 bytes) (sym same) project.file) (subst (λ (w : List ℕ). ReadsProject w bytes (Err line)) (sym same) refused) said)
says_project known (requests.Vcd name port scope file) word bytes line a project refused said =
    let same = same_name name word project.word_is in
    from_port known (requests.Vcd name port scope file) (of_project name port) a refl
    (refused_in_port known (of_project name port) (port_next (requests.Vcd name port scope file)) bytes line a
    (subst (λ (w : List ℕ). HasBytes known w 4194304 bytes) (sym same) project.file) (subst (λ (w : List ℕ). ReadsProject w bytes (Err line)) (sym same) refused) said)
says_project known (requests.Gen name port seed count) word bytes line a project refused said =
    let same = same_name name word project.word_is in
    from_port known (requests.Gen name port seed count) (of_project name port) a refl
    (refused_in_port known (of_project name port) (port_next (requests.Gen name port seed count)) bytes line a
    (subst (λ (w : List ℕ). HasBytes known w 4194304 bytes) (sym same) project.file) (subst (λ (w : List ℕ). ReadsProject w bytes (Err line)) (sym same) refused) said)
says_project known (requests.Compare name port value trace) word bytes line a project refused said =
    let same = same_name name word project.word_is in
    from_port known (requests.Compare name port value trace) (of_project name port) a refl
    (refused_in_port known (of_project name port) (port_next (requests.Compare name port value trace)) bytes line a
    (subst (λ (w : List ℕ). HasBytes known w 4194304 bytes) (sym same) project.file) (subst (λ (w : List ℕ). ReadsProject w bytes (Err line)) (sym same) refused) said)
says_project known (requests.Expect name port value) word bytes line a project refused said =
    let same = same_name name word project.word_is in
    from_port known (requests.Expect name port value) (of_project name port) a refl
    (refused_in_port known (of_project name port) (port_next (requests.Expect name port value)) bytes line a
    (subst (λ (w : List ℕ). HasBytes known w 4194304 bytes) (sym same) project.file) (subst (λ (w : List ℕ). ReadsProject w bytes (Err line)) (sym same) refused) said)
says_project known (requests.Testbench name test) word bytes line a project refused said =
    let same = same_name name word project.word_is in
    says-refused known (project_file name) (ReadsProject name) (λ read. Ends (TellsTest read test)) a bytes line
    (subst (λ (w : List ℕ). HasBytes known w 4194304 bytes) (sym same) project.file) (subst (λ (w : List ℕ). ReadsProject w bytes (Err line)) (sym same) refused) said

-- the text of a command's project is refused
says_tree : (known : Files) (request : Request) (word bytes line : List ℕ) (a : Answer) → HasText known (project_of request) 4194304 word bytes → ReadsTree word bytes (Err line) → a ≡ answers.Refused line
    → SaysBy (Some known) (ask_of request) a
says_tree known (Check trace) word bytes line a project refused said = absurd (no_word word project.word_is)
says_tree known (Sim bench run) word bytes line a project refused said = absurd (no_word word project.word_is)
says_tree known (requests.Watch monitor trace) word bytes line a project refused said = absurd (no_word word project.word_is)
says_tree known (Read name) word bytes line a project refused said =
    let same = same_name name word project.word_is in
    says-refused known (project_file name) (ReadsTree name) (λ ast. Ends (λ b. b ≡ output_answer (canonical ast))) a bytes line
    (subst (λ (w : List ℕ). HasBytes known w 4194304 bytes) (sym same) project.file) (subst (λ (w : List ℕ). ReadsTree w bytes (Err line)) (sym same) refused) said
says_tree known (Split name port) word bytes line a project refused said =
    says_project known (Split name port) word bytes line a (record { word_is = project.word_is; file = project.file }) (inl refused) said
says_tree known (Drive name port value plan) word bytes line a project refused said =
    says_project known (Drive name port value plan) word bytes line a (record { word_is = project.word_is; file = project.file }) (inl refused) said
says_tree known (Decode name port trace) word bytes line a project refused said =
    says_project known (Decode name port trace) word bytes line a (record { word_is = project.word_is; file = project.file }) (inl refused) said
says_tree known (Link name) word bytes line a project refused said =
    says_project known (Link name) word bytes line a (record { word_is = project.word_is; file = project.file }) (inl refused) said
says_tree known (Carry name top from to trace) word bytes line a project refused said =
    says_project known (Carry name top from to trace) word bytes line a (record { word_is = project.word_is; file = project.file }) (inl refused) said
says_tree known (Design language name) word bytes line a project refused said =
    says_project known (Design language name) word bytes line a (record { word_is = project.word_is; file = project.file }) (inl refused) said
says_tree known (requests.Bench name port value plan) word bytes line a project refused said =
    says_project known (requests.Bench name port value plan) word bytes line a (record { word_is = project.word_is; file = project.file }) (inl refused) said
says_tree known (requests.Vcd name port scope file) word bytes line a project refused said =
    says_project known (requests.Vcd name port scope file) word bytes line a (record { word_is = project.word_is; file = project.file }) (inl refused) said
says_tree known (requests.Testbench name test) word bytes line a project refused said =
    says_project known (requests.Testbench name test) word bytes line a (record { word_is = project.word_is; file = project.file }) (inl refused) said
says_tree known (requests.Gen name port seed count) word bytes line a project refused said =
    says_project known (requests.Gen name port seed count) word bytes line a (record { word_is = project.word_is; file = project.file }) (inl refused) said
says_tree known (requests.Compare name port value trace) word bytes line a project refused said =
    says_project known (requests.Compare name port value trace) word bytes line a (record { word_is = project.word_is; file = project.file }) (inl refused) said
says_tree known (requests.Expect name port value) word bytes line a project refused said =
    says_project known (requests.Expect name port value) word bytes line a (record { word_is = project.word_is; file = project.file }) (inl refused) said

says_not_utf8 : (known : Files) (request : Request) (a : Answer) → NotUtf8Cause known request a → SaysBy (Some known) (ask_of request) a
says_not_utf8 known request a cause =
    let line = refusal_line (not_utf8 cause.word (utf8_valid_len cause.bytes)) in
    says_tree known request cause.word cause.bytes line a cause.project
    (subst (λ (coded : Bool). ReadsCoded cause.word cause.bytes coded (Err line)) (sym cause.coded) refl)
    (cause.said ∙ ap answers.Refused (sym (two_words (codes "tydi: ") (codes "NotUtf8") (codes " ") cause.word (decimal (utf8_valid_len cause.bytes)) (codes "\n"))))

says_lexer : (known : Files) (request : Request) (a : Answer) → LexerCause known request a → SaysBy (Some known) (ask_of request) a
says_lexer known request a cause =
    says_tree known request cause.word cause.bytes cause.line a cause.project
    (subst (λ (coded : Bool). ReadsCoded cause.word cause.bytes coded (Err cause.line)) (sym cause.coded)
    (subst (λ (read : Result (List Token) LexFault). ReadsTokens cause.word cause.bytes read (Err cause.line)) (sym cause.lexed)
    (by_line Ast (refusal_of_lexing cause.word cause.fault) cause.line (lexer_text cause.word cause.fault ∙ cause.told)))) cause.said

says_parser : (known : Files) (request : Request) (a : Answer) → ParserCause known request a → SaysBy (Some known) (ask_of request) a
says_parser known request a cause =
    says_tree known request cause.word cause.bytes cause.line a cause.project
    (subst (λ (coded : Bool). ReadsCoded cause.word cause.bytes coded (Err cause.line)) (sym cause.coded)
    (subst (λ (read : Result (List Token) LexFault). ReadsTokens cause.word cause.bytes read (Err cause.line)) (sym cause.lexed)
    (inr (record {
      none = cause.none;
      fault = cause.fault;
      is = cause.is;
      says = by_line Ast (refusal_of_parsing cause.word cause.tokens cause.fault) cause.line (parser_text cause.word cause.tokens cause.fault ∙ cause.told);
    })))) cause.said

says_resolver : (known : Files) (request : Request) (a : Answer) → ResolverCause known request a → SaysBy (Some known) (ask_of request) a
says_resolver known request a cause =
    says_project known request cause.word cause.bytes cause.line a cause.project
    (inr (cause.ast, (cause.tree, (cause.fault, (cause.is, by_line PlainProject (refusal_of_resolving cause.word cause.fault) cause.line (resolver_text cause.word cause.fault ∙ cause.told))))))
    cause.said

says_no_port : (known : Files) (request : Request) (a : Answer) → NoPortCause known request a → SaysBy (Some known) (ask_of request) a
says_no_port known request a cause =
    from_port known request cause.words a cause.named
    (says-found known cause.words (port_next request) a cause.bytes cause.read None cause.file cause.reads cause.none
    (cause.said ∙ ap answers.Refused (sym (one_word (codes "tydi: ") (codes "NoPort") (codes " ") cause.words.port (codes "\n")))))

says_port_clash : (known : Files) (request : Request) (path : List (List ℕ)) (a : Answer) → PortClashes known request path
    → a ≡ answers.Refused (codes "tydi: NameClash " ++ path_text path ++ codes "\n")
    → SaysBy (Some known) (ask_of request) a
says_port_clash known request path a cause said =
    from_port known request cause.words a cause.named
    (says-found known cause.words (port_next request) a cause.port.bytes cause.port.read (Some cause.port.found) cause.port.file cause.port.reads cause.port.named
    (subst (λ (o : Option (List (List ℕ))). SaysBy (Some known) (goes_on (split_unless cause.port.found.ltype o) (port_next request)) a)
    (sym (ap clash_of (sym cause.port.type_is) ∙ cause.clash))
    (said ∙ ap answers.Refused (sym (one_word (codes "tydi: ") (codes "NameClash") (codes " ") (path_text path) (codes "\n"))))))

says_name_clash : (known : Files) (request : Request) (a : Answer) → NameClashCause known request a → SaysBy (Some known) (ask_of request) a
says_name_clash known request a cause = by cause.clashes
  where
    by : PortClashes known request cause.path ⊎ (SourceClashes known request cause.path ⊎ TestClashes known request cause.path) → SaysBy (Some known) (ask_of request) a
    by (inl port) = says_port_clash known request cause.path a port cause.said
    by (inr (inl source)) = says_source_clash known request cause.path a source cause.said
    by (inr (inr test)) = says_test_clash known request a cause.path test cause.said

says_port_uncarried : (known : Files) (request : Request) (path : List (List ℕ)) (a : Answer) → PortUncarried known request path
    → a ≡ answers.Refused (codes "tydi: NoCarrier " ++ path_text path ++ codes "\n") → SaysBy (Some known) (ask_of request) a
says_port_uncarried known request path a cause said =
    from_carried known request cause.words a cause.named
    (says-uncarried known cause.words (carried_next request) a cause.split (Some path) cause.split_is cause.uncarried
    (said ∙ ap answers.Refused (sym (one_word (codes "tydi: ") (codes "NoCarrier") (codes " ") (path_text path) (codes "\n")))))

says_no_carrier : (known : Files) (request : Request) (a : Answer) → NoCarrierCause known request a → SaysBy (Some known) (ask_of request) a
says_no_carrier known request a cause = by cause.uncarried
  where
    by : PortUncarried known request cause.path ⊎ TestUncarried known request cause.path → SaysBy (Some known) (ask_of request) a
    by (inl port) = says_port_uncarried known request cause.path a port cause.said
    by (inr test) = says_test_uncarried known request a cause.path test cause.said

-- a text that has no reading
says_trace_fault : (known : Files) (request : Request) (line : List ℕ) (a : Answer) → HasTraceFault known request line → a ≡ answers.Refused line → SaysBy (Some known) (ask_of request) a
says_trace_fault known (Read name) line a has said = absurd (no_word has.word has.trace.word_is)
says_trace_fault known (Sim bench run) line a has said = absurd (no_word has.word has.trace.word_is)
says_trace_fault known (Link name) line a has said = absurd (no_word has.word has.trace.word_is)
says_trace_fault known (Carry name top from to trace) line a has said = absurd (no_word has.word has.trace.word_is)
says_trace_fault known (Design language name) line a has said = absurd (no_word has.word has.trace.word_is)
says_trace_fault known (requests.Bench name port value plan) line a has said = absurd (no_word has.word has.trace.word_is)
says_trace_fault known (requests.Testbench name test) line a has said = absurd (no_word has.word has.trace.word_is)
says_trace_fault known (requests.Vcd name port scope file) line a has said = absurd (no_word has.word has.trace.word_is)
says_trace_fault known (requests.Gen name port seed count) line a has said = absurd (no_word has.word has.trace.word_is)
says_trace_fault known (requests.Compare name port value trace) line a has said = absurd (no_word has.word has.trace.word_is)
says_trace_fault known (requests.Expect name port value) line a has said = absurd (no_word has.word has.trace.word_is)
says_trace_fault known (requests.Watch monitor trace) line a has said = absurd (no_word has.word has.trace.word_is)
says_trace_fault known (Split name port) line a has said = absurd (no_word has.word has.trace.word_is)
says_trace_fault known (Drive name port value plan) line a has said = absurd (no_word has.word has.trace.word_is)
says_trace_fault known (Decode name port trace) line a has said = absurd (no_word has.word has.trace.word_is)
says_trace_fault known (Check trace) line a has said =
    let same = same_name trace has.word has.trace.word_is in
    says-refused known (trace_file trace) (ReadsTrace trace) (λ survey. Ends (λ b. Reports survey.heads survey.found b)) a has.bytes line
    (subst (λ (w : List ℕ). HasBytes known w 67108864 has.bytes) (sym same) has.trace.file) (subst (λ (w : List ℕ). ReadsTrace w has.bytes (Err line)) (sym same) refused) said
  where
    refused : ReadsTrace has.word has.bytes (Err line)
    refused = subst (λ (read : Result TraceText TraceFault). ReadsReading has.word read (Err line)) (sym has.reads)
        (by_line Survey (refusal_of_trace has.word has.fault) line (trace_text has.word has.fault ∙ has.told))

-- a command that reads a value of a port says the same as the rest of it after the value
abbrev valued_next : Request → PlainSplit → PortValue → Ask
valued_next (Drive project port value plan) split read = plan_ask plan split (TellsDriven split read)
valued_next (requests.Bench project port value plan) split read = plan_ask plan split (TellsBench split read)
valued_next (requests.Compare project port value trace) split read = compared_ask trace split read
valued_next (requests.Expect project port value) split read = monitors split read
valued_next request split read = Ends (λ a. ⊥)

abbrev of_value : (project port value : List ℕ) → ValueWords
of_value project port value = record { at = of_project project port; value = value }

same_valued : (one other : ValueWords) → ◌≡◌ {A = Option ValueWords} (Some one) (Some other) → one ≡ other
same_valued one other e = cc

from_valued : (known : Files) (request : Request) (words : ValueWords) (a : Answer) → valued_in request ≡ Some words → SaysBy (Some known) (values known words (valued_next request)) a → SaysBy (Some known) (ask_of request) a
from_valued known (Check trace) words a named said = absurd cc
from_valued known (Read project) words a named said = absurd cc
from_valued known (Sim bench run) words a named said = absurd cc
from_valued known (Link project) words a named said = absurd cc
from_valued known (Carry project top from to trace) words a named said = absurd cc
from_valued known (Design language project) words a named said = absurd cc
from_valued known (requests.Testbench project test) words a named said = absurd cc
from_valued known (requests.Vcd project port scope file) words a named said = absurd cc
from_valued known (requests.Gen project port seed count) words a named said = absurd cc
from_valued known (requests.Watch monitor trace) words a named said = absurd cc
from_valued known (Split project port) words a named said = absurd cc
from_valued known (Decode project port trace) words a named said = absurd cc
from_valued known (Drive project port value plan) words a named said =
    subst (λ (w : ValueWords). SaysBy (Some known) (values known w (valued_next (Drive project port value plan))) a) (sym (same_valued (of_value project port value) words named)) said
from_valued known (requests.Bench project port value plan) words a named said =
    subst (λ (w : ValueWords). SaysBy (Some known) (values known w (valued_next (requests.Bench project port value plan))) a) (sym (same_valued (of_value project port value) words named)) said
from_valued known (requests.Compare project port value trace) words a named said =
    subst (λ (w : ValueWords). SaysBy (Some known) (values known w (valued_next (requests.Compare project port value trace))) a) (sym (same_valued (of_value project port value) words named)) said
from_valued known (requests.Expect project port value) words a named said =
    subst (λ (w : ValueWords). SaysBy (Some known) (values known w (valued_next (requests.Expect project port value))) a) (sym (same_valued (of_value project port value) words named)) said

says_value_fault : (known : Files) (request : Request) (line : List ℕ) (a : Answer) → HasValueFault known request line → a ≡ answers.Refused line → SaysBy (Some known) (ask_of request) a
says_value_fault known request line a has said =
    from_valued known request has.words a has.named
    (says-value known has.words (valued_next request) a has.split has.at has.bytes line has.file
    (has.fault, (has.reads, by_line PortValue (refusal_of_value has.words.value has.fault) line (value_text has.words.value has.fault ∙ has.told))) said)

-- a command that compares a trace with a value
same_compared : (one other : CompareWords) → ◌≡◌ {A = Option CompareWords} (Some one) (Some other) → one ≡ other
same_compared one other e = cc

from_compared : (known : Files) (request : Request) (words : CompareWords) (a : Answer) → compared_in request ≡ Some words → SaysBy (Some known) (compares known words) a → SaysBy (Some known) (ask_of request) a
from_compared known (Check trace) words a named said = absurd cc
from_compared known (Read project) words a named said = absurd cc
from_compared known (Sim bench run) words a named said = absurd cc
from_compared known (Link project) words a named said = absurd cc
from_compared known (Carry project top from to trace) words a named said = absurd cc
from_compared known (Design language project) words a named said = absurd cc
from_compared known (requests.Bench project port value plan) words a named said = absurd cc
from_compared known (requests.Testbench project test) words a named said = absurd cc
from_compared known (requests.Vcd project port scope file) words a named said = absurd cc
from_compared known (requests.Gen project port seed count) words a named said = absurd cc
from_compared known (requests.Expect project port value) words a named said = absurd cc
from_compared known (requests.Watch monitor trace) words a named said = absurd cc
from_compared known (Split project port) words a named said = absurd cc
from_compared known (Drive project port value plan) words a named said = absurd cc
from_compared known (Decode project port trace) words a named said = absurd cc
from_compared known (requests.Compare project port value trace) words a named said =
    subst (λ (w : CompareWords). SaysBy (Some known) (compares known w) a) (sym (same_compared (of_compare project port value trace) words named)) said

-- a command that runs a monitor over a trace
same_watched : (one other : WatchWords) → ◌≡◌ {A = Option WatchWords} (Some one) (Some other) → one ≡ other
same_watched one other e = cc

from_watched : (known : Files) (request : Request) (words : WatchWords) (a : Answer) → watched_in request ≡ Some words → SaysBy (Some known) (runs known words) a → SaysBy (Some known) (ask_of request) a
from_watched known (Check trace) words a named said = absurd cc
from_watched known (Read project) words a named said = absurd cc
from_watched known (Sim bench run) words a named said = absurd cc
from_watched known (Link project) words a named said = absurd cc
from_watched known (Carry project top from to trace) words a named said = absurd cc
from_watched known (Design language project) words a named said = absurd cc
from_watched known (requests.Bench project port value plan) words a named said = absurd cc
from_watched known (requests.Testbench project test) words a named said = absurd cc
from_watched known (requests.Vcd project port scope file) words a named said = absurd cc
from_watched known (requests.Gen project port seed count) words a named said = absurd cc
from_watched known (requests.Compare project port value trace) words a named said = absurd cc
from_watched known (requests.Expect project port value) words a named said = absurd cc
from_watched known (Split project port) words a named said = absurd cc
from_watched known (Drive project port value plan) words a named said = absurd cc
from_watched known (Decode project port trace) words a named said = absurd cc
from_watched known (requests.Watch monitor trace) words a named said =
    subst (λ (w : WatchWords). SaysBy (Some known) (runs known w) a) (sym (same_watched (of_watch monitor trace) words named)) said

says_plan_fault : (known : Files) (request : Request) (line : List ℕ) (a : Answer) → HasPlanFault known request line → a ≡ answers.Refused line → SaysBy (Some known) (ask_of request) a
says_plan_fault known request line a has said =
    from_driven known request has.words a has.named
    (says-plan known has.words (driven_end request) a has.split has.at has.value has.value_is has.bytes line has.file
    (plan-refused has.words.plan has.split has.bytes line has.fault has.reads has.told) said)

-- a bench and a run
same_simulated : (one other : SimWords) → ◌≡◌ {A = Option SimWords} (Some one) (Some other) → one ≡ other
same_simulated one other e = cc

from_simulated : (known : Files) (request : Request) (words : SimWords) (a : Answer) → simulated_in request ≡ Some words → SaysBy (Some known) (sim_ask words.bench words.run) a → SaysBy (Some known) (ask_of request) a
from_simulated known (Check trace) words a named said = absurd cc
from_simulated known (Read project) words a named said = absurd cc
from_simulated known (Split project port) words a named said = absurd cc
from_simulated known (Drive project port value plan) words a named said = absurd cc
from_simulated known (Link project) words a named said = absurd cc
from_simulated known (Decode project port trace) words a named said = absurd cc
from_simulated known (Carry project top from to trace) words a named said = absurd cc
from_simulated known (Design language project) words a named said = absurd cc
from_simulated known (requests.Bench project port value plan) words a named said = absurd cc
from_simulated known (requests.Testbench project test) words a named said = absurd cc
from_simulated known (requests.Vcd project port scope file) words a named said = absurd cc
from_simulated known (requests.Gen project port seed count) words a named said = absurd cc
from_simulated known (requests.Compare project port value trace) words a named said = absurd cc
from_simulated known (requests.Expect project port value) words a named said = absurd cc
from_simulated known (requests.Watch monitor trace) words a named said = absurd cc
from_simulated known (Sim bench run) words a named said =
    subst (λ (w : SimWords). SaysBy (Some known) (sim_ask w.bench w.run) a) (sym (same_simulated (record { bench = bench; run = run }) words named)) said

-- the bench is read, and the rest says the answer
says-benched : (known : Files) (bench run : List ℕ) (a : Answer) (read : Bench) → HasBench known bench read → SaysBy (Some known) (run_ask run read) a → SaysBy (Some known) (sim_ask bench run) a
says-benched known bench run a read has said =
    says-read known (bench_file bench) (ReadsBench bench) (run_ask run) a has.bytes read has.file (ReadsBench-read bench has.bytes read has.reads) said

pub says-simulated : (known : Files) (bench run : List ℕ) (a : Answer) (read : Bench) (made : SimRun) → HasBench known bench read → HasRun known read run made → a ≡ output_answer (trace_text_of read made)
    → SaysBy (Some known) (sim_ask bench run) a
says-simulated known bench run a read made has has_run said =
    says-benched known bench run a read has
    (says-read known (text_file run) (ReadsRun run read) (λ one. Ends (λ b. b ≡ output_answer (trace_text_of read one))) a has_run.bytes made has_run.file (ReadsRun-read run read has_run.bytes made has_run.reads) said)

says_bench_fault : (known : Files) (request : Request) (line : List ℕ) (a : Answer) → HasBenchFault known request line → a ≡ answers.Refused line → SaysBy (Some known) (ask_of request) a
says_bench_fault known request line a has said =
    from_simulated known request has.words a has.named
    (says-refused known (bench_file has.words.bench) (ReadsBench has.words.bench) (run_ask has.words.run) a has.bytes line has.file refused said)
  where
    refused : ReadsBench has.words.bench has.bytes (Err line)
    refused = subst (λ (read : Result Bench VhdlFault). ReadsResult (refusal_of_bench has.words.bench) read (Err line)) (sym has.reads)
        (by_line Bench (refusal_of_bench has.words.bench has.fault) line (bench_text has.words.bench has.fault ∙ has.told))

says_run_fault : (known : Files) (request : Request) (line : List ℕ) (a : Answer) → HasRunFault known request line → a ≡ answers.Refused line → SaysBy (Some known) (ask_of request) a
says_run_fault known request line a has said =
    from_simulated known request has.words a has.named
    (says-benched known has.words.bench has.words.run a has.bench has.bench_is
    (says-refused known (text_file has.words.run) (ReadsRun has.words.run has.bench) (λ one. Ends (λ b. b ≡ output_answer (trace_text_of has.bench one))) a has.bytes line has.file refused said))
  where
    refused : ReadsRun has.words.run has.bench has.bytes (Err line)
    refused = subst (λ (read : Result SimRun RunFault). ReadsResult (refusal_of_run has.words.run) read (Err line)) (sym has.reads)
        (by_line SimRun (refusal_of_run has.words.run has.fault) line (run_text has.words.run has.fault ∙ has.told))

says_text_fault : (known : Files) (request : Request) (line : List ℕ) (a : Answer) → HasTextFault known request line → a ≡ answers.Refused line
    → SaysBy (Some known) (ask_of request) a
says_text_fault known request line a (inl has) said = says_trace_fault known request line a has said
says_text_fault known request line a (inr (inl has)) said = says_value_fault known request line a has said
says_text_fault known request line a (inr (inr (inl has))) said = says_plan_fault known request line a has said
says_text_fault known request line a (inr (inr (inr (inl has)))) said = says_bench_fault known request line a has said
says_text_fault known request line a (inr (inr (inr (inr (inl has))))) said = says_run_fault known request line a has said
says_text_fault known request line a (inr (inr (inr (inr (inr (inl has)))))) said = from_decoded known request has.words a has.named (says-port_trace_fault known has.words request line a has refl said)
says_text_fault known request line a (inr (inr (inr (inr (inr (inr (inl has))))))) said = says_carried_fault known request line a has said
says_text_fault known request line a (inr (inr (inr (inr (inr (inr (inr (inl has)))))))) said = says_test_value known request a line has said
says_text_fault known request line a (inr (inr (inr (inr (inr (inr (inr (inr (inl has))))))))) said = says_test_plan known request a line has said
says_text_fault known request line a (inr (inr (inr (inr (inr (inr (inr (inr (inr (inl has)))))))))) said = says_dump_fault known request line a has said
says_text_fault known request line a (inr (inr (inr (inr (inr (inr (inr (inr (inr (inr (inl has))))))))))) said =
    from_compared known request has.words a has.named (says-compared_fault known request line a has said)
says_text_fault known request line a (inr (inr (inr (inr (inr (inr (inr (inr (inr (inr (inr (inl has)))))))))))) said =
    from_watched known request has.words a has.named (says-monitor_fault known request line a has said)
says_text_fault known request line a (inr (inr (inr (inr (inr (inr (inr (inr (inr (inr (inr (inr has)))))))))))) said =
    from_watched known request has.words a has.named (says-watched_fault known request line a has said)

-- a port that is not driven
says_file_reason : (known : Files) (request : Request) (split : PlainSplit) (reason : Undriven) (a : Answer) → HasReason known request split reason
    → a ≡ answers.Refused (refusal_line (refusal_of_driving split reason)) → SaysBy (Some known) (ask_of request) a
says_file_reason known request split reason a has said =
    from_driven known request has.words a has.named (says-planned known has.words (driven_end request) a split has.value has.plan has.all (ends request has.named))
  where
    ends : (asked : Request) → driven_in asked ≡ Some has.words → driven_end asked split has.value has.plan a
    ends (Check trace) named = absurd cc
    ends (Read project) named = absurd cc
    ends (Sim bench run) named = absurd cc
    ends (Link project) named = absurd cc
    ends (Carry project top from to trace) named = absurd cc
    ends (Design language project) named = absurd cc
    ends (Split project port) named = absurd cc
    ends (Decode project port trace) named = absurd cc
    ends (requests.Testbench project test) named = absurd cc
    ends (requests.Vcd project port scope file) named = absurd cc
    ends (requests.Gen project port seed count) named = absurd cc
    ends (requests.Compare project port value trace) named = absurd cc
    ends (requests.Expect project port value) named = absurd cc
    ends (requests.Watch monitor trace) named = absurd cc
    ends (Drive project port value plan) named = tells-unmade split has.value has.plan (trace_by split has.plan) a reason has.is said
    ends (requests.Bench project port value plan) named = tells-unmade split has.value has.plan (bench_by split) a reason has.is said

says_reason : (known : Files) (request : Request) (split : PlainSplit) (reason : Undriven) (a : Answer) → IsUndriven known request split reason → a ≡ answers.Refused (refusal_line (refusal_of_driving split reason))
    → SaysBy (Some known) (ask_of request) a
says_reason known request split reason a (inl has) said = says_file_reason known request split reason a has said
says_reason known request split reason a (inr has) said = says_test_reason known request a split reason has said

says_count : (known : Files) (request : Request) (a : Answer) → CountNotMultipleCause known request a → SaysBy (Some known) (ask_of request) a
says_count known request a cause =
    says_reason known request cause.split (driving.CountNotMultiple cause.stream cause.count cause.lanes) a cause.reason
    (cause.said ∙ ap answers.Refused (sym (three_words (codes "tydi: ") (codes "CountNotMultiple") (codes " ") (path_text (path_of cause.split cause.stream)) (decimal cause.count) (decimal cause.lanes) (codes "\n"))))

says_not_finished : (known : Files) (request : Request) (a : Answer) → NotFinishedCause known request a → SaysBy (Some known) (ask_of request) a
says_not_finished known request a cause =
    says_reason known request cause.split (driving.NotFinished cause.stream cause.left) a cause.reason
    (cause.said ∙ ap answers.Refused (sym (two_words (codes "tydi: ") (codes "NotFinished") (codes " ") (path_text (path_of cause.split cause.stream)) (decimal cause.left) (codes "\n"))))

-- the links of a project that is read
says_linked : (known : Files) (project bytes : List ℕ) (a : Answer) (read : PlainProject) (found : Result Nets LinkFault) → HasBytes known project 4194304 bytes → ReadsProject project bytes (Ok read)
    → linked read.streamlets ≡ found → TellsChecked project (nets_text read.streamlets) found a → SaysBy (Some known) (link_ask project) a
says_linked known project bytes a read found file reads is tells =
    says-read known (project_file project) (ReadsProject project) (λ one. Ends (TellsLinked project one)) a bytes read file reads
    (subst (λ (r : Result Nets LinkFault). TellsChecked project (nets_text read.streamlets) r a) (sym is) tells)

-- the first clash of a project that is read
says_apart : (known : Files) (language : Language) (project bytes : List ℕ) (a : Answer) (read : PlainProject) (found : Option Clash) → HasBytes known project 4194304 bytes → ReadsProject project bytes (Ok read)
    → first_clash read.streamlets ≡ found → TellsApart language project read.streamlets found a → SaysBy (Some known) (design_ask language project) a
says_apart known language project bytes a read found file reads is tells =
    says-read known (project_file project) (ReadsProject project) (λ one. Ends (TellsDesign language project one)) a bytes read file reads
    (subst (λ (o : Option Clash). TellsApart language project read.streamlets o a) (sym is) tells)

-- the links of a project without a clash
says_wired : (known : Files) (language : Language) (project bytes : List ℕ) (a : Answer) (read : PlainProject) (found : Result Nets LinkFault) → HasBytes known project 4194304 bytes → ReadsProject project bytes (Ok read)
    → first_clash read.streamlets ≡ None → linked read.streamlets ≡ found → TellsChecked project (text_of_nets language read.streamlets) found a → SaysBy (Some known) (design_ask language project) a
says_wired known language project bytes a read found file reads apart is tells =
    says_apart known language project bytes a read None file reads apart (subst (λ (r : Result Nets LinkFault). TellsChecked project (text_of_nets language read.streamlets) r a) (sym is) tells)

says_design_clash : (known : Files) (request : Request) (a : Answer) → DesignClashCause known request a → SaysBy (Some known) (ask_of request) a
says_design_clash known (Check trace) a cause = absurd (no_word cause.word cause.named)
says_design_clash known (Read name) a cause = absurd (no_word cause.word cause.named)
says_design_clash known (Sim bench run) a cause = absurd (no_word cause.word cause.named)
says_design_clash known (Split name port) a cause = absurd (no_word cause.word cause.named)
says_design_clash known (Drive name port value plan) a cause = absurd (no_word cause.word cause.named)
says_design_clash known (requests.Bench name port value plan) a cause = absurd (no_word cause.word cause.named)
says_design_clash known (requests.Testbench name test) a cause = absurd (no_word cause.word cause.named)
says_design_clash known (requests.Vcd name port scope file) a cause = absurd (no_word cause.word cause.named)
says_design_clash known (requests.Gen name port seed count) a cause = absurd (no_word cause.word cause.named)
says_design_clash known (requests.Compare name port value trace) a cause = absurd (no_word cause.word cause.named)
says_design_clash known (requests.Expect name port value) a cause = absurd (no_word cause.word cause.named)
says_design_clash known (requests.Watch monitor trace) a cause = absurd (no_word cause.word cause.named)
says_design_clash known (Link name) a cause = absurd (no_word cause.word cause.named)
says_design_clash known (Decode name port trace) a cause = absurd (no_word cause.word cause.named)
says_design_clash known (Carry name top from to trace) a cause = absurd (no_word cause.word cause.named)
says_design_clash known (Design language name) a cause =
    let same = sym (same_name name cause.word cause.named) in
    says_apart known language name cause.bytes a cause.read (Some cause.clash)
    (subst (λ (w : List ℕ). HasBytes known w 4194304 cause.bytes) same cause.file) (subst (λ (w : List ℕ). ReadsProject w cause.bytes (Ok cause.read)) same cause.reads) cause.is
    (cause.said ∙ ap answers.Refused (sym (two_words (codes "tydi: ") (codes "NameClash") (codes " ") (at_port cause.clash.streamlet cause.clash.port) (path_text cause.clash.path) (codes "\n"))))

tells_by : (refusal : Option Refusal) (line : List ℕ) (a : Answer) → option_map refusal_line refusal ≡ Some line → a ≡ answers.Refused line → TellsRefusal refusal a
tells_by (Some refusal) line a told said = said ∙ ap answers.Refused (sym (same_some (refusal_line refusal) line told))
tells_by None line a told said = absurd cc

says_link_fault : (known : Files) (request : Request) (a : Answer) → LinkFaultCause known request a → SaysBy (Some known) (ask_of request) a
says_link_fault known (Check trace) a cause = absurd cause.checks
says_link_fault known (Read name) a cause = absurd cause.checks
says_link_fault known (Sim bench run) a cause = absurd cause.checks
says_link_fault known (Split name port) a cause = absurd cause.checks
says_link_fault known (Drive name port value plan) a cause = absurd cause.checks
says_link_fault known (requests.Bench name port value plan) a cause = absurd cause.checks
says_link_fault known (requests.Testbench name test) a cause = absurd cause.checks
says_link_fault known (requests.Vcd name port scope file) a cause = absurd cause.checks
says_link_fault known (requests.Gen name port seed count) a cause = absurd cause.checks
says_link_fault known (requests.Compare name port value trace) a cause = absurd cause.checks
says_link_fault known (requests.Expect name port value) a cause = absurd cause.checks
says_link_fault known (requests.Watch monitor trace) a cause = absurd cause.checks
says_link_fault known (Decode name port trace) a cause = absurd cause.checks
says_link_fault known (Carry name top from to trace) a cause =
    let same = cause.checks.0 in
    says_unlinked known (of_carry (of_design name top from to) trace) a cause.read cause.checks.1.0 cause.fault cause.line
    (record {
      bytes = cause.bytes;
      file = subst (λ (w : List ℕ). HasBytes known w 4194304 cause.bytes) same cause.file;
      reads = subst (λ (w : List ℕ). ReadsProject w cause.bytes (Ok cause.read)) same cause.reads;
    }) cause.checks.1.1 cause.is (subst (λ (w : List ℕ). link_line w cause.fault ≡ Some cause.line) same cause.told) cause.said
says_link_fault known (Link name) a cause =
    let same = cause.checks in
    says_linked known name cause.bytes a cause.read (Err cause.fault)
    (subst (λ (w : List ℕ). HasBytes known w 4194304 cause.bytes) same cause.file) (subst (λ (w : List ℕ). ReadsProject w cause.bytes (Ok cause.read)) same cause.reads) cause.is
    (tells_by (refusal_of_linking name cause.fault) cause.line a
    (link_text name cause.fault ∙ subst (λ (w : List ℕ). link_line w cause.fault ≡ Some cause.line) same cause.told) cause.said)
says_link_fault known (Design language name) a cause =
    let same = cause.checks.0 in
    says_wired known language name cause.bytes a cause.read (Err cause.fault)
    (subst (λ (w : List ℕ). HasBytes known w 4194304 cause.bytes) same cause.file) (subst (λ (w : List ℕ). ReadsProject w cause.bytes (Ok cause.read)) same cause.reads) cause.checks.1 cause.is
    (tells_by (refusal_of_linking name cause.fault) cause.line a
    (link_text name cause.fault ∙ subst (λ (w : List ℕ). link_line w cause.fault ≡ Some cause.line) same cause.told) cause.said)

-- a trace that is surveyed
says_surveyed : (known : Files) (trace bytes : List ℕ) (t : TraceText) (found : Result Counts SurveyFault) (a : Answer) → HasBytes known trace 67108864 bytes → trace_of bytes ≡ Ok t
    → Surveys (offends_in t) (streams_of t) found → Reports t.heads found a → SaysBy (Some known) (check_ask trace) a
says_surveyed known trace bytes t found a file reads surveyed said =
    says-read known (trace_file trace) (ReadsTrace trace) (λ survey. Ends (λ b. Reports survey.heads survey.found b)) a bytes (record { heads = t.heads; found = found }) file read said
  where
    read : ReadsTrace trace bytes (Ok (record { heads = t.heads; found = found }))
    read = subst (λ (reading : Result TraceText TraceFault). ReadsReading trace reading (Ok (record { heads = t.heads; found = found }))) (sym reads)
        (record { heads = refl; found = surveyed })

checked_offence : (known : Files) (request : Request) (a : Answer) → CheckedOffence known request a → SaysBy (Some known) (ask_of request) a
checked_offence known (Read name) a cause = absurd (no_word cause.word cause.trace.word_is)
checked_offence known (Sim bench run) a cause = absurd (no_word cause.word cause.trace.word_is)
checked_offence known (Link name) a cause = absurd (no_word cause.word cause.trace.word_is)
checked_offence known (Split name port) a cause = absurd (no_word cause.word cause.trace.word_is)
checked_offence known (Drive name port value plan) a cause = absurd (no_word cause.word cause.trace.word_is)
checked_offence known (Decode name port trace) a cause = absurd (no_word cause.word cause.trace.word_is)
checked_offence known (Carry name top from to trace) a cause = absurd (no_word cause.word cause.trace.word_is)
checked_offence known (Design language name) a cause = absurd (no_word cause.word cause.trace.word_is)
checked_offence known (requests.Bench name port value plan) a cause = absurd (no_word cause.word cause.trace.word_is)
checked_offence known (requests.Vcd name port scope file) a cause = absurd (no_word cause.word cause.trace.word_is)
checked_offence known (requests.Testbench name test) a cause = absurd (no_word cause.word cause.trace.word_is)
checked_offence known (requests.Gen name port seed count) a cause = absurd (no_word cause.word cause.trace.word_is)
checked_offence known (requests.Compare name port value trace) a cause = absurd (no_word cause.word cause.trace.word_is)
checked_offence known (requests.Expect name port value) a cause = absurd (no_word cause.word cause.trace.word_is)
checked_offence known (requests.Watch monitor trace) a cause = absurd (no_word cause.word cause.trace.word_is)
checked_offence known (Check trace) a cause =
    let t = cause.read in
    says_surveyed known trace cause.bytes t (survey_of (Some cause.first) (first_unfinished 0 (streams_of t)) (counts_of (streams_of t))) a
    (subst (λ (w : List ℕ). HasBytes known w 67108864 cause.bytes) (sym (same_name trace cause.word cause.trace.word_is)) cause.trace.file) cause.reads
    (record { first = Some cause.first; is_first = cause.is_first; says = refl }) cause.said

checked_unfinished : (known : Files) (request : Request) (a : Answer) → CheckedUnfinished known request a → SaysBy (Some known) (ask_of request) a
checked_unfinished known (Read name) a cause = absurd (no_word cause.word cause.trace.word_is)
checked_unfinished known (Sim bench run) a cause = absurd (no_word cause.word cause.trace.word_is)
checked_unfinished known (Link name) a cause = absurd (no_word cause.word cause.trace.word_is)
checked_unfinished known (Split name port) a cause = absurd (no_word cause.word cause.trace.word_is)
checked_unfinished known (Drive name port value plan) a cause = absurd (no_word cause.word cause.trace.word_is)
checked_unfinished known (Decode name port trace) a cause = absurd (no_word cause.word cause.trace.word_is)
checked_unfinished known (Carry name top from to trace) a cause = absurd (no_word cause.word cause.trace.word_is)
checked_unfinished known (Design language name) a cause = absurd (no_word cause.word cause.trace.word_is)
checked_unfinished known (requests.Bench name port value plan) a cause = absurd (no_word cause.word cause.trace.word_is)
checked_unfinished known (requests.Vcd name port scope file) a cause = absurd (no_word cause.word cause.trace.word_is)
checked_unfinished known (requests.Testbench name test) a cause = absurd (no_word cause.word cause.trace.word_is)
checked_unfinished known (requests.Gen name port seed count) a cause = absurd (no_word cause.word cause.trace.word_is)
checked_unfinished known (requests.Compare name port value trace) a cause = absurd (no_word cause.word cause.trace.word_is)
checked_unfinished known (requests.Expect name port value) a cause = absurd (no_word cause.word cause.trace.word_is)
checked_unfinished known (requests.Watch monitor trace) a cause = absurd (no_word cause.word cause.trace.word_is)
checked_unfinished known (Check trace) a cause =
    let t = cause.read in
    says_surveyed known trace cause.bytes t (survey_of None (Some cause.left) (counts_of (streams_of t))) a
    (subst (λ (w : List ℕ). HasBytes known w 67108864 cause.bytes) (sym (same_name trace cause.word cause.trace.word_is)) cause.trace.file) cause.reads
    (record { first = None; is_first = cause.legal; says = ap (λ (left : Option UnfinishedStream). survey_of None left (counts_of (streams_of t))) (sym cause.is_left) })
    (reports_end (path_of_stream t.heads cause.left.stream) cause.left.end cause.line a cause.told cause.said)

says_offence : (known : Files) (request : Request) (a : Answer) → OffenceCause known request a → SaysBy (Some known) (ask_of request) a
says_offence known request a (inl cause) = checked_offence known request a cause
says_offence known request a (inr cause) = from_decoded known request cause.words a cause.named (says-decoded_offence known request a cause)

says_unfinished : (known : Files) (request : Request) (a : Answer) → UnfinishedCause known request a → SaysBy (Some known) (ask_of request) a
says_unfinished known request a (inl cause) = checked_unfinished known request a cause
says_unfinished known request a (inr cause) = from_decoded known request cause.words a cause.named (says-decoded_unfinished known request a cause)

-- a text
pub says_text : (known : Files) (request : Request) (text : List ℕ) (a : Answer) → IsTextOf known request text → a ≡ output_answer text → SaysBy (Some known) (ask_of request) a
says_text known (Check trace) text a is said =
    let t = is.read in
    says_surveyed known trace is.bytes t (survey_of None None (counts_of (streams_of t))) a is.file is.reads
    (record { first = None; is_first = is.legal; says = ap (λ (left : Option UnfinishedStream). survey_of None left (counts_of (streams_of t))) (sym is.whole) })
    (said ∙ ap output_answer is.is)
says_text known (Read name) text a is said =
    says-read known (project_file name) (ReadsTree name) (λ ast. Ends (λ b. b ≡ output_answer (canonical ast))) a is.bytes is.ast is.file is.reads (said ∙ ap output_answer is.is)
says_text known (Split name port) text a is said =
    says-port known (of_project name port) split_end a is.split is.split_is (said ∙ ap output_answer is.is)
says_text known (Drive name port value plan) text a is said =
    says-planned known (of_drive name port value plan) TellsDriven a is.split is.value is.plan is.all
    (tells-made is.split (drive_text is.split (plain_port is.value) is.plan) text a is.is said)
says_text known (Decode name port trace) text a is said = says-value_text known (of_decode name port trace) text a is said
says_text known (Sim bench run) text a is said =
    says-simulated known bench run a is.bench is.run is.bench_is is.run_is (said ∙ ap output_answer is.is)
says_text known (Link name) text a is said = says_linked known name is.bytes a is.read (Ok is.nets) is.file is.reads is.nets_are (said ∙ ap output_answer is.is)
says_text known (Carry name top from to trace) text a is said = says_carried_text known (of_carry (of_design name top from to) trace) text a is said
says_text known (Design language name) text a is said = says_wired known language name is.bytes a is.read (Ok is.nets) is.file is.reads is.apart is.nets_are (said ∙ ap output_answer is.is)
says_text known (requests.Bench name port value plan) text a is said =
    says-planned known (of_drive name port value plan) TellsBench a is.split is.value is.plan is.all
    (tells-made is.split (bench_text_of is.split (plain_port is.value) is.plan) text a is.is said)
says_text known (requests.Testbench name test) text a is said = says_testbench_text known (of_test name test) text a is said
says_text known (requests.Vcd name port scope file) text a is said = says-dump_text known (of_dump name port scope file) text a is said
says_text known (requests.Gen name port seed count) text a is said = says-summary known (of_job name port seed count) text a is said
says_text known (requests.Compare name port value trace) text a is said = says-same_text known (of_compare name port value trace) text a is said
says_text known (requests.Expect name port value) text a is said = says-expected known (of_expect name port value) text a is said
says_text known (requests.Watch monitor trace) text a is said = says-quiet_text known (of_watch monitor trace) text a is said

answer_over : (text : List ℕ) → 67108864 < length text → output_answer text ≡ answers.Refused (codes "tydi: OutputTooLong\n")
answer_over text long = ap (λ (b : Bool). cond b (answers.Refused output_too_long_line) (answers.Done text)) (over_test output_limit (length text) long)

answer_within : (text : List ℕ) → length text ≤ 67108864 → output_answer text ≡ answers.Done text
answer_within text short = ap (λ (b : Bool). cond b (answers.Refused output_too_long_line) (answers.Done text)) (within_test output_limit (length text) short)

comes : (row : Row) (known : Files) (request : Request) (a : Answer) → CausedBy row known request a → SaysBy (Some known) (ask_of request) a
comes rows.NoFile known request a cause = says_no_file known request a cause
comes rows.TooLong known request a cause = says_too_long known request a cause
comes rows.NotUtf8 known request a cause = says_not_utf8 known request a cause
comes rows.LexerFault known request a cause = says_lexer known request a cause
comes rows.ParserFault known request a cause = says_parser known request a cause
comes rows.ResolverFault known request a cause = says_resolver known request a cause
comes rows.NoPort known request a cause = says_no_port known request a cause
comes rows.NoStreamlet known request a cause = says_no_streamlet known request a cause
comes rows.NameClash known request a (inl cause) = says_name_clash known request a cause
comes rows.NameClash known request a (inr cause) = says_design_clash known request a cause
comes rows.NoCarrier known request a cause = says_no_carrier known request a cause
comes rows.TextFault known request a (inl cause) = says_text_fault known request cause.line a cause.faulty cause.said
comes rows.TextFault known request a (inr cause) = says-no_job known request a cause
comes rows.OtherHeader known request a (inl cause) = from_decoded known request cause.words a cause.named (says-other_header known request a cause)
comes rows.CountNotMultiple known request a (inl cause) = says_count known request a cause
comes rows.CountNotMultiple known request a (inr cause) = says-job_count known request a cause
comes rows.NotFinished known request a cause = says_not_finished known request a cause
comes rows.NotLinked known request a cause = says_link_fault known request a cause
comes rows.NoPath known request a cause = says_no_path known request a cause
comes rows.OtherHeader known request a (inr (inl cause)) = says_other_header known request a cause
comes rows.OtherHeader known request a (inr (inr (inl cause))) = from_compared known request cause.words a cause.named (says-compared_header known request a cause)
comes rows.OtherHeader known request a (inr (inr (inr cause))) = from_watched known request cause.words a cause.named (says-watched_header known request a cause)
comes rows.OutputTooLong known request a cause = says_text known request cause.text a cause.is (cause.said ∙ sym (answer_over cause.text cause.long))
comes rows.AnOffence known request a cause = says_offence known request a cause
comes rows.AnUnfinished known request a cause = says_unfinished known request a cause
comes rows.ADisagreement known request a cause = from_decoded known request cause.words a cause.named (says-disagreement known request a cause)
comes rows.ADifference known request a cause = from_compared known request cause.words a cause.named (says-difference known request a cause)
comes rows.AReport known request a cause = from_watched known request cause.words a cause.named (says-report known request a cause)
comes rows.AText known request a cause = says_text known request cause.text a cause.is (cause.said ∙ sym (answer_within cause.text cause.within))
comes rows.NoTest known request a cause = says_no_test known request a cause

-- ---- the laws

pub exactly : (row : Row) → ExactlyWhere row (CausedBy row)
exactly row known request a = (only, λ cause. (comes row known request a cause, caused_row row known request a cause))
  where
    same_row : (one other : Row) → ◌≡◌ {A = Option Row} (Some one) (Some other) → one ≡ other
    same_row one other e = cc

    only : Says (Some known) (Some request) a × (row_of a ≡ Some row) → CausedBy row known request a
    only both =
        let cause = told known request a both.0 in
        subst (λ (r : Row). CausedBy r known request a) (same_row cause.0 row (sym (caused_row cause.0 known request a cause.1) ∙ both.1)) cause.1

pub each : (known : Files) (request : Request) (a : Answer) → Says (Some known) (Some request) a → (row : Row) × ((row_of a ≡ Some row) × CausedBy row known request a)
each known request a says = let cause = told known request a says in (cause.0, (caused_row cause.0 known request a cause.1, cause.1))
