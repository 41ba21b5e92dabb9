use Rattle.std.proofs.Common.{◌^◌, ℕ, List, refl, sym, ap, subst}
use Rattle.tydi_base.specs.Decimal.{below, decimal_of}
use Rattle.vcd_read.specs.History.{declared_width}
use Rattle.vcd_read.specs.Parser.{Takes, token}
use Rattle.vcd_read.specs.Profile.{SkippedCode, change, command, scalar, stamp, vector}
use Rattle.vcd_read.specs.Words.{states_of}
use Rattle.vcd_read.specs.declared.keyword.Keyword.{Keyword}
use Rattle.vcd_read.specs.declared.mark.Mark.{Mark}
use Rattle.vcd_read.specs.declared.parser.Stage.TheVariants as stages
use Rattle.vcd_read.proofs.ParserLemmas.{waits-takes}
use Rattle.vcd_read.proofs.parser.Parser.change.Goals as goal

pub returns-in-Stamp-clause-takes : goal.returns-in-Stamp-clause-takes
unfolding change
returns-in-Stamp-clause-takes c wanted parts is = subst (λ (m : Mark). Takes wanted c.stamp.result c.stamp.new.self (change parts (token c.args.offset
    c.args.word.now) m)) (sym c.in-Stamp.is)
    (subst (λ (rest : List ℕ). Takes wanted c.stamp.result c.stamp.new.self (stamp parts c.args.offset (below (2 ^ 64)
    (decimal_of rest)))) c.after_first-rest.ensures (c.stamp.ensures.takes wanted parts is))

pub returns-in-Vector-clause-takes : goal.returns-in-Vector-clause-takes
unfolding change
returns-in-Vector-clause-takes c wanted parts is = subst (λ (m : Mark). Takes wanted c.vector.result c.vector.new.self (change parts (token c.args.offset
    c.args.word.now) m)) (sym c.in-Vector.is)
    (subst (λ (rest : List ℕ). Takes wanted c.vector.result c.vector.new.self (vector parts c.args.offset (states_of rest))) c.after_first-rest.ensures
    (c.vector.ensures.takes wanted parts is))

pub returns-in-Command-clause-takes : goal.returns-in-Command-clause-takes
unfolding change
returns-in-Command-clause-takes c wanted parts is = subst (λ (m : Mark). Takes wanted c.command.result c.command.new.self (change parts (token c.args.offset
    c.args.word.now) m)) (sym c.in-Command.is)
    (subst (λ (k : Keyword). Takes wanted c.command.result c.command.new.self (command parts c.args.offset k)) c.keyword_of.ensures (c.command.ensures.takes
    wanted parts is))

pub returns-in-Skipped-clause-takes : goal.returns-in-Skipped-clause-takes
unfolding change
returns-in-Skipped-clause-takes c wanted parts is = waits-takes wanted parts c.await_token.result c.args.self.now c.await_token.new.self stages.SkippedCode
    SkippedCode (change parts (token c.args.offset c.args.word.now) c.args.mark) c.await_token.ensures is refl (ap (change parts (token c.args.offset
    c.args.word.now)) c.in-Skipped.is)

pub returns-in-Scalar-clause-takes : goal.returns-in-Scalar-clause-takes
unfolding change
returns-in-Scalar-clause-takes c wanted parts is = subst (λ (m : Mark). Takes wanted c.scalar.result c.scalar.new.self (change parts (token c.args.offset
    c.args.word.now) m)) (sym c.in-Scalar.is)
    (subst (λ (rest : List ℕ). Takes wanted c.scalar.result c.scalar.new.self (scalar parts c.args.offset rest c.in-Scalar.state (declared_width rest
    parts))) c.after_first-rest.ensures (c.scalar.ensures.takes wanted parts is))

pub returns-in-Nothing-clause-takes : goal.returns-in-Nothing-clause-takes
unfolding change
returns-in-Nothing-clause-takes c wanted parts is = ap (change parts (token c.args.offset c.args.word.now)) c.in-Nothing.is
