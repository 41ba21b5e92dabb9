use Rattle.std.proofs.Common.{◌∙◌, if◌then◌else◌, sym, ap, subst}
use Rattle.std.specs.Prelude.{slice_index}
use Rattle.vcd_read.specs.Parser.{Takes, token}
use Rattle.vcd_read.specs.Profile.{beginning, change, declaration, next}
use Rattle.vcd_read.specs.Words.{keyword_of, mark_of}
use Rattle.vcd_read.specs.declared.keyword.Keyword.{Keyword}
use Rattle.vcd_read.specs.declared.mark.Mark.{Mark}
use Rattle.vcd_read.proofs.parser.Parser.begin.Goals as goal

pub returns-then-has_ended-clause-takes : goal.returns-then-has_ended-clause-takes
unfolding next beginning
returns-then-has_ended-clause-takes c wanted parts is = subst (Takes wanted c.change.result c.change.new.self)
    (sym (ap (λ test. if test then change parts (token c.args.offset c.args.word.now) (mark_of (slice_index c.args.word.now 0)) else declaration parts
    c.args.offset (keyword_of c.args.word.now)) (sym is.ended_is ∙ sym c.has_ended.ensures ∙ c.if-has_ended.true)))
    (subst (λ (m : Mark). Takes wanted c.change.result c.change.new.self (change parts (token c.args.offset c.args.word.now) m)) c.mark_of-mark.ensures
    (c.change.ensures.takes wanted parts is))

pub returns-else-has_ended-clause-takes : goal.returns-else-has_ended-clause-takes
unfolding next beginning
returns-else-has_ended-clause-takes c wanted parts is = subst (Takes wanted c.begin_declaration.result c.begin_declaration.new.self)
    (sym (ap (λ test. if test then change parts (token c.args.offset c.args.word.now) (mark_of (slice_index c.args.word.now 0)) else declaration parts
    c.args.offset (keyword_of c.args.word.now)) (sym is.ended_is ∙ sym c.has_ended.ensures ∙ c.if-has_ended.false)))
    (subst (λ (k : Keyword). Takes wanted c.begin_declaration.result c.begin_declaration.new.self (declaration parts c.args.offset k))
    c.keyword_of-keyword.ensures (c.begin_declaration.ensures.takes wanted parts is (sym is.ended_is ∙ sym c.has_ended.ensures ∙ c.if-has_ended.false)))
