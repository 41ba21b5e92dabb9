use Rattle.vcd_read.proofs.LawLemmas.{faults_name_streams}
use Rattle.vcd_read.proofs.laws.faults_name_streams.Goals as goal

pub returns : goal.returns
returns c = faults_name_streams
