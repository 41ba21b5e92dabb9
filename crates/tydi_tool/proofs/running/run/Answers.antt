use Rattle.tydi_tool.proofs.RunLemmas.{is_done, IsAnswered-run, IsCaused-answered, IsComplete-run, ReportsRead-run, OutFront-run, OutPart-run}
use Rattle.tydi_tool.proofs.RunLemmas.{LeavesOut-run, Refusal-run, ErrFront-run, LeavesErr-run, StartedAtEnd-run, WritesReadBack-answered}
use Rattle.tydi_tool.proofs.RunLemmas.{WritesTrace-answered, WritesValue-answered, usage-run, read-run, write-run, write_line-run, memory-run}
use Rattle.tydi_tool.proofs.RunLemmas.{WritesCarried-answered, WritesWired-answered, usage-exactly, WritesLines-answered, WritesSampled-answered, WritesJob-answered, WritesCompared-answered, AnswersCauses-complete}
use Rattle.tydi_tool.proofs.RunLemmas.{WritesExpected-answered, WritesWatched-answered}
use Rattle.tydi_tool.proofs.running.run.Goals as goal

pub returns-clause-read_fault_line : goal.returns-clause-read_fault_line
returns-clause-read_fault_line g c = ReportsRead-run _ _ _ _ _ _ _ _ _ _ _ _ c.run_words.ensures

pub returns-clause-answered : goal.returns-clause-answered
returns-clause-answered g c = IsAnswered-run _ _ _ _ _ _ _ _ _ _ _ _ c.run_words.ensures

pub returns-clause-caused : goal.returns-clause-caused
returns-clause-caused g c = λ ends. IsCaused-answered _ _ _ _ _ _ _ (IsAnswered-run _ _ _ _ _ _ _ _ _ _ _ _ c.run_words.ensures ends)

pub returns-clause-complete : goal.returns-clause-complete
returns-clause-complete g c = IsComplete-run _ _ _ _ _ _ _ _ _ _ _ _ c.run_words.ensures

pub returns-clause-told : goal.returns-clause-told
returns-clause-told g c = λ store out err. AnswersCauses-complete _ _ _ _ _ _ _ (IsComplete-run _ _ _ _ _ _ _ _ _ _ _ _ c.run_words.ensures store out err)

pub returns-clause-out_front : goal.returns-clause-out_front
returns-clause-out_front g c = OutFront-run _ _ _ _ _ _ _ _ _ _ _ _ c.run_words.ensures

pub returns-clause-out_part : goal.returns-clause-out_part
returns-clause-out_part g c = OutPart-run _ _ _ _ _ _ _ _ _ _ _ _ c.run_words.ensures

pub returns-clause-out_left : goal.returns-clause-out_left
returns-clause-out_left g c = LeavesOut-run _ _ _ _ _ _ _ _ _ _ _ _ c.run_words.ensures

pub returns-clause-refusal_left : goal.returns-clause-refusal_left
returns-clause-refusal_left g c = Refusal-run _ _ _ _ _ _ _ _ _ _ _ _ c.run_words.ensures

pub returns-clause-err_front : goal.returns-clause-err_front
returns-clause-err_front g c = ErrFront-run _ _ _ _ _ _ _ _ _ _ _ _ c.run_words.ensures

pub returns-clause-err_left : goal.returns-clause-err_left
returns-clause-err_left g c = LeavesErr-run _ _ _ _ _ _ _ _ _ _ _ _ c.run_words.ensures

pub returns-clause-started : goal.returns-clause-started
returns-clause-started g c = StartedAtEnd-run _ _ _ _ _ _ _ _ _ _ _ _ c.run_words.ensures

pub returns-clause-usage_line : goal.returns-clause-usage_line
returns-clause-usage_line g c = usage-run _ _ _ _ _ _ _ _ _ _ _ _ c.run_words.ensures

pub returns-clause-read_fault : goal.returns-clause-read_fault
returns-clause-read_fault g c = read-run _ _ _ _ _ _ _ _ _ _ _ _ c.run_words.ensures

pub returns-clause-write_fault : goal.returns-clause-write_fault
returns-clause-write_fault g c = write-run _ _ _ _ _ _ _ _ _ _ _ _ c.run_words.ensures

pub returns-clause-write_fault_line : goal.returns-clause-write_fault_line
returns-clause-write_fault_line g c = write_line-run _ _ _ _ _ _ _ _ _ _ _ _ c.run_words.ensures

pub returns-clause-memory_line : goal.returns-clause-memory_line
returns-clause-memory_line g c = memory-run _ _ _ _ _ _ _ _ _ _ _ _ c.run_words.ensures

pub returns-clause-driven : goal.returns-clause-driven
returns-clause-driven g c = λ done. WritesTrace-answered _ _ _ _ _ _ _ (IsAnswered-run _ _ _ _ _ _ _ _ _ _ _ _ c.run_words.ensures (is_done _ done)) done

pub returns-clause-read_back : goal.returns-clause-read_back
returns-clause-read_back g c = λ done. WritesReadBack-answered _ _ _ _ _ _ _ (IsAnswered-run _ _ _ _ _ _ _ _ _ _ _ _ c.run_words.ensures (is_done _ done)) done

pub returns-clause-decoded : goal.returns-clause-decoded
returns-clause-decoded g c = λ done. WritesValue-answered _ _ _ _ _ _ _ (IsAnswered-run _ _ _ _ _ _ _ _ _ _ _ _ c.run_words.ensures (is_done _ done)) done

pub returns-clause-carried : goal.returns-clause-carried
returns-clause-carried g c = λ done.
    WritesCarried-answered c.carried_traces_arrive.ensures.written _ _ _ _ _ _ _ (IsAnswered-run _ _ _ _ _ _ _ _ _ _ _ _ c.run_words.ensures (is_done _ done))
    done

pub returns-clause-wired : goal.returns-clause-wired
returns-clause-wired g c = λ done.
    WritesWired-answered c.written_designs_are_wired.ensures.wired _ _ _ _ _ _ _ (IsAnswered-run _ _ _ _ _ _ _ _ _ _ _ _ c.run_words.ensures (is_done _ done))
    done

pub returns-clause-benched : goal.returns-clause-benched
returns-clause-benched g c = λ done.
    WritesLines-answered c.benches_drive_ports.ensures.written c.benches_drive_ports.ensures.tested _ _ _ _ _ _ _
    (IsAnswered-run _ _ _ _ _ _ _ _ _ _ _ _ c.run_words.ensures (is_done _ done)) done

pub returns-clause-sampled : goal.returns-clause-sampled
returns-clause-sampled g c = λ done.
    WritesSampled-answered c.dumps_are_sampled.ensures.written _ _ _ _ _ _ _ (IsAnswered-run _ _ _ _ _ _ _ _ _ _ _ _ c.run_words.ensures (is_done _ done))
    done

pub returns-clause-generated : goal.returns-clause-generated
returns-clause-generated g c = λ done.
    WritesJob-answered c.jobs_are_reported.ensures _ _ _ _ _ _ _ (IsAnswered-run _ _ _ _ _ _ _ _ _ _ _ _ c.run_words.ensures (is_done _ done))
    done

pub returns-clause-compared : goal.returns-clause-compared
returns-clause-compared g c = λ done.
    WritesCompared-answered c.traces_are_compared.ensures.same _ _ _ _ _ _ _ (IsAnswered-run _ _ _ _ _ _ _ _ _ _ _ _ c.run_words.ensures (is_done _ done))
    done

pub returns-clause-expected : goal.returns-clause-expected
returns-clause-expected g c = λ done.
    WritesExpected-answered c.monitors_are_watched.ensures.written _ _ _ _ _ _ _ (IsAnswered-run _ _ _ _ _ _ _ _ _ _ _ _ c.run_words.ensures (is_done _ done))
    done

pub returns-clause-watched : goal.returns-clause-watched
returns-clause-watched g c = λ done.
    WritesWatched-answered c.monitors_are_watched.ensures.quiet _ _ _ _ _ _ _ (IsAnswered-run _ _ _ _ _ _ _ _ _ _ _ _ c.run_words.ensures (is_done _ done))
    done

pub returns-clause-usage : goal.returns-clause-usage
returns-clause-usage g c = usage-exactly _ _ _ _ _ _ _ _ _ _ _ _ c.run_words.ensures
