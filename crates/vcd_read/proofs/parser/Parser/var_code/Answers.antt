use Rattle.std.proofs.Common.{◌∙◌, ℕ, not, List, sym, ap, subst}
use Rattle.vcd_read.specs.History.{declared_width}
use Rattle.vcd_read.specs.Profile.{VarName, may_have_width, next}
use Rattle.vcd_read.specs.Words.{is_end}
use Rattle.vcd_read.proofs.ParserLemmas.{granted, refused}
use Rattle.vcd_read.specs.Dump.{MayDeclare}
use Rattle.vcd_read.proofs.parser.Parser.var_code.Goals as goal

pub returns-then-is_end-clause-takes : goal.returns-then-is_end-clause-takes
unfolding next
returns-then-is_end-clause-takes c wanted parts is open_yet = refused (not (is_end c.args.word.now)) c.args.offset _ (ap not (sym c.is_end.ensures
    ∙ c.if-is_end.true))

pub returns-then-not-may_have_width-clause-takes : goal.returns-then-not-may_have_width-clause-takes
unfolding next
returns-then-not-may_have_width-clause-takes c wanted parts is open_yet = granted (not (is_end c.args.word.now)) c.args.offset _ (ap not (sym
    c.is_end.ensures ∙ c.if-is_end.false)) ∙ refused (may_have_width (declared_width c.args.word.now parts) c.args.self.now.width) c.args.offset _ (sym
    (c.may_have_width.ensures parts is.wires_are) ∙ c.if-not-may_have_width.true)

pub returns-clause-takes : goal.returns-clause-takes
unfolding next
returns-clause-takes c wanted parts is open_yet =
    let may = sym (c.may_have_width.ensures parts is.wires_are) ∙ c.if-not-may_have_width.false in (
      record { awaited = VarName c.args.self.now.width c.args.word.now; parts = parts },
      (
        granted (not (is_end c.args.word.now)) c.args.offset _ (ap not (sym c.is_end.ensures ∙ c.if-is_end.false))
            ∙ granted (may_have_width (declared_width c.args.word.now parts) c.args.self.now.width) c.args.offset _ may,
        record {
          dump_is = is;
          awaited_is = (
            ap (VarName c.args.self.now.width) (sym c.in_ok-self.ensures.ok),
            subst (λ (k : List ℕ). MayDeclare
                c.args.self.now.width k parts) (sym c.in_ok-self.ensures.ok) (may, open_yet),
          );
        },
      ),
    )
