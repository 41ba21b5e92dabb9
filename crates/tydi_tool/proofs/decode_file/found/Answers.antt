use Rattle.std.proofs.Common.{subst}
use Rattle.trace_decode.specs.Texts.{IsReadBack}
use Rattle.tydi_tool.proofs.DecodeLemmas.{found-carried}
use Rattle.tydi_tool.proofs.decode_file.found.Goals as goal

pub returns-in-Ok : goal.returns-in-Ok
returns-in-Ok c = λ split bytes has. found-carried split c.args.word.now bytes c.in-Ok.decoded (subst (IsReadBack split bytes) c.in-Ok.is has)

pub returns-in-Err : goal.returns-in-Err
returns-in-Err c = λ split bytes has. c.found_none.ensures split bytes (subst (IsReadBack split bytes) c.in-Err.is has)
