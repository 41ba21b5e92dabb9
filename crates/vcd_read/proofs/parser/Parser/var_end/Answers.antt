use Rattle.std.proofs.Common.{◌∙◌, ◌∷◌, sym, subst}
use Rattle.vcd_read.specs.History.{Declares}
use Rattle.vcd_read.specs.Profile.{Beginning, next, reach}
use Rattle.vcd_read.specs.Words.{is_end}
use Rattle.vcd_read.proofs.ParserLemmas.{granted, refused}
use Rattle.vcd_read.specs.Parser.{Takes}
use Rattle.vcd_read.proofs.parser.Parser.var_end.Goals as goal

pub returns-then-not-is_end-clause-takes : goal.returns-then-not-is_end-clause-takes
unfolding next
returns-then-not-is_end-clause-takes c wanted parts is may = refused (is_end c.args.word.now) c.args.offset _ (sym c.is_end.ensures ∙ c.if-not-is_end.true)

pub returns-clause-takes : goal.returns-clause-takes
unfolding next
returns-clause-takes c wanted parts is may =
    subst (Takes wanted c.declare.result c.declare.new.self) (sym (granted (is_end c.args.word.now) c.args.offset (reach Beginning (Declares
    c.args.self.now.width c.args.self.now.code c.args.self.now.name ∷ parts)) (sym c.is_end.ensures
    ∙ c.if-not-is_end.false))) (c.declare.ensures.takes wanted parts is may)
