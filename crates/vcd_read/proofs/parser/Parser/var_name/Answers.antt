use Rattle.std.proofs.Common.{◌∙◌, not, sym, ap}
use Rattle.vcd_read.specs.Profile.{VarRange, next}
use Rattle.vcd_read.specs.Words.{is_end, without_range}
use Rattle.vcd_read.proofs.ParserLemmas.{granted, refused}
use Rattle.vcd_read.proofs.parser.Parser.var_name.Goals as goal

pub returns-then-is_end-clause-takes : goal.returns-then-is_end-clause-takes
unfolding next
returns-then-is_end-clause-takes c wanted parts is may = refused (not (is_end c.args.word.now)) c.args.offset _ (ap not (sym c.is_end.ensures
    ∙ c.if-is_end.true))

pub returns-clause-takes : goal.returns-clause-takes
unfolding next
returns-clause-takes c wanted parts is may = (
  record { awaited = VarRange c.args.self.now.width c.args.self.now.code (without_range c.args.word.now); parts = parts },
  (
    granted (not (is_end c.args.word.now)) c.args.offset _ (ap not (sym c.is_end.ensures ∙ c.if-is_end.false)),
    record {
      dump_is = is;
      awaited_is = (
        ap (VarRange c.args.self.now.width c.args.self.now.code) (sym (c.in_ok-self.ensures.ok
            ∙ c.without_range.ensures)),
        may,
      );
    },
  ),
)
