use Rattle.std.proofs.Common.{◌∙◌, not, refl, sym, ap}
use Rattle.vcd_read.specs.Profile.{VarWidth, next}
use Rattle.vcd_read.specs.Words.{is_end}
use Rattle.vcd_read.proofs.ParserLemmas.{granted, refused}
use Rattle.vcd_read.proofs.parser.Parser.var_kind.Goals as goal

pub returns-then-is_end-clause-takes : goal.returns-then-is_end-clause-takes
unfolding next
returns-then-is_end-clause-takes c wanted parts is open_yet = refused (not (is_end c.args.word.now)) c.args.offset _ (ap not (sym c.is_end.ensures
    ∙ c.if-is_end.true))

pub returns-clause-takes : goal.returns-clause-takes
unfolding next
returns-clause-takes c wanted parts is open_yet = (
  record { awaited = VarWidth; parts = parts },
  (
    granted (not (is_end c.args.word.now)) c.args.offset _ (ap
        not (sym c.is_end.ensures ∙ c.if-is_end.false)),
    record { dump_is = is; awaited_is = (refl, open_yet) },
  ),
)
