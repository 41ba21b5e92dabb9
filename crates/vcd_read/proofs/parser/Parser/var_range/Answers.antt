use Rattle.std.proofs.Common.{◌∙◌, ◌∷◌, refl, sym, ap, subst, if◌then◌else◌}
use Rattle.vcd_read.specs.History.{Declares}
use Rattle.vcd_read.specs.Profile.{Beginning, VarEnd, provided, next, reach}
use Rattle.vcd_read.specs.Words.{is_range}
use Rattle.vcd_read.proofs.ParserLemmas.{granted, refused}
use Rattle.vcd_read.specs.Parser.{Takes}
use Rattle.vcd_read.proofs.parser.Parser.var_range.Goals as goal

pub returns-then-is_end-clause-takes : goal.returns-then-is_end-clause-takes
unfolding next
returns-then-is_end-clause-takes c wanted parts is may =
    subst (Takes wanted c.declare.result c.declare.new.self) (sym (ap (λ test. if test then reach Beginning (Declares c.args.self.now.width
    c.args.self.now.code c.args.self.now.name ∷ parts) else provided (is_range c.args.word.now) c.args.offset (reach (VarEnd c.args.self.now.width
    c.args.self.now.code c.args.self.now.name) parts)) (sym c.is_end.ensures ∙ c.if-is_end.true))) (c.declare.ensures.takes wanted parts is may)

pub returns-then-not-is_range-clause-takes : goal.returns-then-not-is_range-clause-takes
unfolding next
returns-then-not-is_range-clause-takes c wanted parts is may =
    ap (λ test. if test then reach Beginning (Declares c.args.self.now.width c.args.self.now.code c.args.self.now.name ∷ parts) else provided (is_range
    c.args.word.now) c.args.offset (reach (VarEnd c.args.self.now.width c.args.self.now.code c.args.self.now.name) parts)) (sym c.is_end.ensures
    ∙ c.if-is_end.false)
    ∙ refused (is_range c.args.word.now) c.args.offset _ (sym c.is_range.ensures ∙ c.if-not-is_range.true)

pub returns-clause-takes : goal.returns-clause-takes
unfolding next
returns-clause-takes c wanted parts is may = (
  record { awaited = VarEnd c.args.self.now.width c.args.self.now.code c.args.self.now.name; parts = parts },
  (
    ap (λ test. if test then reach Beginning (Declares c.args.self.now.width c.args.self.now.code c.args.self.now.name ∷ parts) else provided (is_range
        c.args.word.now) c.args.offset (reach (VarEnd c.args.self.now.width c.args.self.now.code c.args.self.now.name) parts)) (sym c.is_end.ensures
        ∙ c.if-is_end.false)
        ∙ granted (is_range c.args.word.now) c.args.offset _ (sym c.is_range.ensures ∙ c.if-not-is_range.false),
    record { dump_is = is; awaited_is = (refl, may) },
  ),
)
