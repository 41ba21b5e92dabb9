use Rattle.std.proofs.Common.{◌∙◌, ◌∷◌, refl, sym}
use Rattle.vcd_read.specs.History.{Ends}
use Rattle.vcd_read.specs.Profile.{Beginning, next}
use Rattle.vcd_read.specs.Words.{is_end}
use Rattle.vcd_read.proofs.ParserLemmas.{granted, refused}
use Rattle.vcd_read.proofs.parser.Parser.definitions_end.Goals as goal

pub returns-then-not-is_end-clause-takes : goal.returns-then-not-is_end-clause-takes
unfolding next
returns-then-not-is_end-clause-takes c wanted parts is = refused (is_end c.args.word.now) c.args.offset _ (sym c.is_end.ensures ∙ c.if-not-is_end.true)

pub returns-in-Ok-clause-takes : goal.returns-in-Ok-clause-takes
unfolding next
returns-in-Ok-clause-takes c wanted parts is = (
  record { awaited = Beginning; parts = Ends ∷ parts },
  (
    granted (is_end c.args.word.now) c.args.offset _ (sym
        c.is_end.ensures ∙ c.if-not-is_end.false),
    record { dump_is = c.in-Ok.ensures.stands wanted parts is; awaited_is = refl },
  ),
)
