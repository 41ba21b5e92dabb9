use Rattle.std.proofs.Common.{◌∙◌, refl, subst, sym}
use Rattle.vcd_read.specs.Parser as parsers
use Rattle.vcd_read.proofs.ReaderLemmas.{not-empty, token-step}
use Rattle.vcd_read.proofs.reader.take_token.Goals as goal

pub returns-clause-takes : goal.returns-clause-takes
returns-clause-takes c wanted reached st =
    subst (parsers.Takes wanted c.take.result c.take.new.self) (token-step reached.awaited reached.parts c.args.start c.args.bytes.now c.args.bytes.now refl
    (not-empty c.args.bytes.now (sym c.is_empty.ensures ∙ c.if-is_empty.false))) (c.take.ensures.takes wanted reached st)
