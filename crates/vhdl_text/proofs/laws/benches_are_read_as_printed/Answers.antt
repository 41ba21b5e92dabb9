use Rattle.vhdl_text.proofs.BenchReading.{benches_printed}
use Rattle.vhdl_text.proofs.BenchSpelling.{benches_read}
use Rattle.vhdl_text.proofs.laws.benches_are_read_as_printed.Goals as goal

pub returns-clause-spelled : goal.returns-clause-spelled
returns-clause-spelled c = benches_read

pub returns-clause-read : goal.returns-clause-read
returns-clause-read c = benches_printed
