use Rattle.monitor_bench.proofs.LawLemmas.{monitors_report}
use Rattle.monitor_bench.proofs.laws.monitors_report_the_first_difference.Goals as goal

pub returns : goal.returns
returns c = monitors_report
