use Rattle.std.proofs.Common.{◌∙◌, ◌∷◌, refl, sym}
use Rattle.vcd_read.specs.History.{Closes}
use Rattle.vcd_read.specs.Profile.{Beginning, next}
use Rattle.vcd_read.specs.Words.{is_end}
use Rattle.vcd_read.proofs.ParserLemmas.{granted, refused}
use Rattle.vcd_read.proofs.parser.Parser.upscope_end.Goals as goal

pub returns-then-not-is_end-clause-takes : goal.returns-then-not-is_end-clause-takes
unfolding next
returns-then-not-is_end-clause-takes c wanted parts is = refused (is_end c.args.word.now) c.args.offset _ (sym c.is_end.ensures ∙ c.if-not-is_end.true)

pub returns-clause-takes : goal.returns-clause-takes
unfolding next
returns-clause-takes c wanted parts is = (
  record { awaited = Beginning; parts = Closes ∷ parts },
  (
    granted (is_end c.args.word.now) c.args.offset _ (sym
        c.is_end.ensures ∙ c.if-not-is_end.false),
    record { dump_is = c.close_scope.ensures.stands wanted parts is; awaited_is = refl },
  ),
)
