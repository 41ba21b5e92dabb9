use Rattle.std.proofs.Common.{subst}
use Rattle.trace_compare.specs.Texts.{IsComparedText}
use Rattle.tydi_tool.proofs.CompareLemmas.{found-differences}
use Rattle.tydi_tool.proofs.compare_file.found.Goals as goal

pub returns-in-Ok : goal.returns-in-Ok
returns-in-Ok c = λ split wants bytes has. found-differences split wants c.args.word.now bytes c.in-Ok.differences (subst (IsComparedText split wants bytes) c.in-Ok.is has)

pub returns-in-Err : goal.returns-in-Err
returns-in-Err c = λ split wants bytes has. c.found_none.ensures split wants bytes (subst (IsComparedText split wants bytes) c.in-Err.is has)
