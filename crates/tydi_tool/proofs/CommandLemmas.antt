-- To given words and files there is one answer, of each command.
use Rattle.std.proofs.Common.{◌≡◌, sym, ◌∙◌, refl, Some}
use Rattle.std.specs.Str.{is_utf8}
use Rattle.tydi_io.specs.Store.{Files}
use Rattle.cycle_trace.specs.TraceText.{trace_of}
use Rattle.link_check.specs.Laws.{AnswersAreOfTheProject}
use Rattle.til_parser.specs.Canonical.{canonical}
use Rattle.tydi_tool.specs.declared.answer.Answer.{Answer}
use Rattle.tydi_tool.specs.Ask.{Ends, SaysBy}
use Rattle.tydi_tool.specs.Commands.{compared_ask, ask_of, dump_ask, expected_ask, outcome_ask, planned_ask, of_design, valued_ask}
use Rattle.tydi_tool.specs.Drives.{TellsBench, TellsDriven}
use Rattle.tydi_tool.specs.Jobs.{TellsJob}
use Rattle.tydi_tool.specs.Laws.{AsksAlways, AsksOnce, HasSome}
use Rattle.tydi_tool.specs.Outcome.{output_answer}
use Rattle.split_text.specs.Text.{split_text}
use Rattle.tydi_tool.specs.Watches.{expected_text}
use Rattle.tydi_tool.specs.Words.{Request, Check, Decode, Drive, Link, Read, Sim, Split, Carry, Design, Bench, Testbench, Vcd, Gen, Compare, Expect, Watch}
use Rattle.bench_run.specs.Traces.{trace_text_of}
use Rattle.tydi_tool.proofs.BenchLemmas.{ReadsBench-once, ReadsBench-some, ReadsRun-once, ReadsRun-some}
use Rattle.tydi_tool.proofs.AnswerLemmas.{ReadsTrace-once, ReadsTree-once, Reports-one, SaysBy-one}
use Rattle.tydi_tool.proofs.ReadingLemmas.{IsFoundAmong-read}
use Rattle.tydi_tool.proofs.DecodeLemmas.{HasOutcomes, outcome-always, outcome-once}
use Rattle.tydi_tool.proofs.EntityLemmas.{design-one, design-some}
use Rattle.tydi_tool.proofs.DumpLemmas.{dump-always, dump-once}
use Rattle.vcd_read.specs.Laws.{FaultsNameStreams}
use Rattle.logical_value.specs.Tree.{plain_port}
use Rattle.port_bench.specs.Benches.{bench_text_of}
use Rattle.port_drive.specs.Text.{drive_text}
use Rattle.tydi_tool.proofs.DriveLemmas.{made-one, made-some, planned-always, planned-once}
use Rattle.tydi_tool.proofs.TestAnswers.{test-one, test-some}
use Rattle.link_check.specs.CarryLaws.{ChainsKeepTypes}
use Rattle.tydi_tool.proofs.ArrivalLemmas.{ReadsCycles-once, ReadsCycles-some, arrived-one, arrived-some}
use Rattle.trace_compare.specs.Laws.{SomeComparison}
use Rattle.trace_compare.proofs.LawLemmas.{one_comparison}
use Rattle.tydi_tool.proofs.CompareLemmas.{compared-always, compared-once}
use Rattle.tydi_tool.proofs.TextLemmas.{ReadsValue-once, ReadsValue-some}
use Rattle.tydi_tool.proofs.WatchLemmas.{ReadsWatch-once, ReadsWatch-some, watched-always, watched-once}
use Rattle.tydi_tool.proofs.DesignLemmas.{ReadsDesign-once, ReadsDesign-some}
use Rattle.tydi_tool.proofs.JobLemmas.{job-one, job-some}
use Rattle.tydi_tool.proofs.LinkLemmas.{linked-one, linked-some}
use Rattle.tydi_tool.proofs.ProjectLemmas.{ReadsProject-once, ReadsProject-some, ReadsProject-sound}
use Rattle.tydi_tool.proofs.StepLemmas.{carried-always, carried-once, port-always, port-once}
use Rattle.tydi_tool.proofs.SomeLemmas.{ReadsCoded-some, ReadsReading-some, Reports-some, SaysBy-some}

asks_once : (request : Request) → AsksOnce (ask_of request)
asks_once (Check trace) = (ReadsTrace-once trace, λ bytes survey reads a b p q. Reports-one survey.heads survey.found a b p q)
asks_once (Read project) = (ReadsTree-once project, λ bytes ast reads a b p q. p ∙ sym q)
asks_once (Split project port) = port-once project port (λ split. Ends (λ a. a ≡ output_answer (split_text split))) (λ split is a b p q. p ∙ sym q)
asks_once (Drive project port value plan) =
    carried-once project port (λ split. planned_ask value plan split (TellsDriven split)) (λ split can. planned-once value plan split (TellsDriven split) (λ v p a b x y. made-one split (drive_text split (plain_port v) p) a b x y))
asks_once (Decode project port trace) = carried-once project port (outcome_ask trace) (outcome-once trace)
asks_once (Sim bench run) = (ReadsBench-once bench, λ bytes read reads. (ReadsRun-once run read, λ run_bytes made said a b p q. p ∙ sym q))
asks_once (Link project) = (ReadsProject-once project, λ bytes read reads. linked-one project read)
asks_once (Carry project top from to trace) = (
  ReadsDesign-once (of_design project top from to),
  λ bytes heads reads. (
    ReadsCycles-once trace,
    λ trace_bytes t said a b p q. arrived-one trace heads t a
        b p q,
  ),
)
asks_once (Design language project) = (ReadsProject-once project, λ bytes read reads. design-one language project read)
asks_once (Bench project port value plan) =
    carried-once project port (λ split. planned_ask value plan split (TellsBench split)) (λ split can. planned-once value plan split (TellsBench split) (λ v p a b x y. made-one split (bench_text_of split (plain_port v) p) a b x y))
asks_once (Testbench project test) = (ReadsProject-once project, λ bytes read reads. test-one read test)
asks_once (Vcd project port scope file) = port-once project port (dump_ask scope file) (λ split is. dump-once scope file split)
asks_once (Compare project port value trace) = carried-once project port (λ split. valued_ask value split (compared_ask trace split)) (λ split can. compared-once one_comparison value trace split)
asks_once (Expect project port value) =
    carried-once project port (expected_ask value) (λ split can. (ReadsValue-once value split, λ bytes read reads a b p q. p ∙ sym q))
asks_once (Watch monitor trace) = (ReadsWatch-once monitor, λ bytes watch reads. watched-once trace watch)
asks_once (Gen project port seed count) = carried-once project port (λ split. Ends (TellsJob split seed count)) (λ split can a b p q. job-one split seed count a b p q)

-- one answer
pub SaysBy-request : (told : Files) (request : Request) (a b : Answer) → SaysBy (Some told) (ask_of request) a → SaysBy (Some told) (ask_of request) b → a ≡ b
SaysBy-request told request a b p q = SaysBy-one told (ask_of request) a b (asks_once request) p q

asks_always : AnswersAreOfTheProject → HasOutcomes → ChainsKeepTypes → FaultsNameStreams → SomeComparison → (request : Request) → AsksAlways (ask_of request)
asks_always checks outcomes chains dumps compares (Check trace) = (
  λ bytes. ReadsReading-some trace bytes (trace_of bytes) refl,
  λ bytes survey reads none. let a = Reports-some survey.heads survey.found (IsFoundAmong-read trace bytes survey reads) in none a.0 a.1,
)
asks_always checks outcomes chains dumps compares (Read project) = (λ bytes. ReadsCoded-some project bytes (is_utf8 bytes) refl, λ bytes ast reads none. none (output_answer (canonical ast)) refl)
asks_always checks outcomes chains dumps compares (Split project port) = port-always project port (λ split. Ends (λ a. a ≡ output_answer (split_text split))) (λ split is none. none (output_answer (split_text split)) refl)
asks_always checks outcomes chains dumps compares (Drive project port value plan) =
    carried-always project port (λ split. planned_ask value plan split (TellsDriven split)) (λ split can. planned-always value plan split (TellsDriven split) (λ v p. made-some split (drive_text split (plain_port v) p)))
asks_always checks outcomes chains dumps compares (Decode project port trace) = carried-always project port (outcome_ask trace) (outcome-always outcomes trace)
asks_always checks outcomes chains dumps compares (Sim bench run) = (
  λ bytes. ReadsBench-some bench bytes,
  λ bytes read reads. (λ run_bytes. ReadsRun-some run read run_bytes, λ run_bytes made said none. none (output_answer (trace_text_of read made)) refl),
)
asks_always checks outcomes chains dumps compares (Link project) = (ReadsProject-some project, λ bytes read reads. linked-some checks project read)
asks_always checks outcomes chains dumps compares (Carry project top from to trace) = (
  ReadsDesign-some checks chains (of_design project top from to),
  λ bytes heads reads. (
    ReadsCycles-some trace,
    λ trace_bytes t said. arrived-some trace
        heads t,
  ),
)
asks_always checks outcomes chains dumps compares (Design language project) = (ReadsProject-some project, λ bytes read reads. design-some checks language project read)
asks_always checks outcomes chains dumps compares (Bench project port value plan) =
    carried-always project port (λ split. planned_ask value plan split (TellsBench split)) (λ split can. planned-always value plan split (TellsBench split) (λ v p. made-some split (bench_text_of split (plain_port v) p)))
asks_always checks outcomes chains dumps compares (Testbench project test) = (ReadsProject-some project, λ bytes read reads. test-some read test (ReadsProject-sound project bytes read reads))
asks_always checks outcomes chains dumps compares (Vcd project port scope file) = port-always project port (dump_ask scope file) (λ split is. dump-always dumps scope file split)
asks_always checks outcomes chains dumps compares (Compare project port value trace) =
    carried-always project port (λ split. valued_ask value split (compared_ask trace split)) (λ split can. compared-always compares value trace split)
asks_always checks outcomes chains dumps compares (Expect project port value) =
    carried-always project port (expected_ask value) (λ split can. (ReadsValue-some value split, λ bytes read reads none. none (output_answer (expected_text split read)) refl))
asks_always checks outcomes chains dumps compares (Watch monitor trace) = (ReadsWatch-some monitor, λ bytes watch reads. watched-always trace watch)
asks_always checks outcomes chains dumps compares (Gen project port seed count) = carried-always project port (λ split. Ends (TellsJob split seed count)) (λ split can. job-some split seed count)

-- some answer
pub SaysBy-request-some : AnswersAreOfTheProject → HasOutcomes → ChainsKeepTypes → FaultsNameStreams → SomeComparison → (told : Files) (request : Request) → HasSome Answer (SaysBy (Some told) (ask_of request))
SaysBy-request-some checks outcomes chains dumps compares told request = SaysBy-some told (ask_of request) (asks_always checks outcomes chains dumps compares request)
