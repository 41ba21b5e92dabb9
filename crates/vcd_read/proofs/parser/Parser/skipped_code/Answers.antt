use Rattle.std.proofs.Common.{refl}
use Rattle.vcd_read.specs.Profile.{Beginning, next}
use Rattle.vcd_read.proofs.parser.Parser.skipped_code.Goals as goal

pub returns-clause-takes : goal.returns-clause-takes
unfolding next
returns-clause-takes c wanted parts is = (record { awaited = Beginning; parts = parts }, (refl, record { dump_is = is; awaited_is = refl }))
