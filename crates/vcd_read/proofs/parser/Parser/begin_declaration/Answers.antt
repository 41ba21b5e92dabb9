use Rattle.std.proofs.Common.{refl, sym, ap, subst}
use Rattle.vcd_read.specs.Parser.{Takes}
use Rattle.vcd_read.specs.Profile.{ScopeKind, SectionEnd, VarKind, declaration}
use Rattle.vcd_read.specs.declared.keyword.Keyword.{Keyword}
use Rattle.vcd_read.specs.declared.parser.Stage.TheVariants as stages
use Rattle.vcd_read.proofs.ParserLemmas.{waits-takes}
use Rattle.vcd_read.proofs.parser.Parser.begin_declaration.Goals as goal

pub returns-in-Section-clause-takes : goal.returns-in-Section-clause-takes
unfolding declaration
returns-in-Section-clause-takes c wanted parts is open_yet = waits-takes wanted parts c.await_token.result c.args.self.now c.await_token.new.self
    stages.SectionEnd SectionEnd (declaration parts c.args.offset c.args.keyword) c.await_token.ensures is refl (ap (declaration parts c.args.offset)
    c.in-Section.is)

pub returns-in-Scope-clause-takes : goal.returns-in-Scope-clause-takes
unfolding declaration
returns-in-Scope-clause-takes c wanted parts is open_yet = waits-takes wanted parts c.await_token-in-Scope.result c.args.self.now
    c.await_token-in-Scope.new.self stages.ScopeKind ScopeKind (declaration parts c.args.offset c.args.keyword) c.await_token-in-Scope.ensures is refl (ap
    (declaration parts c.args.offset) c.in-Scope.is)

pub returns-in-Var-clause-takes : goal.returns-in-Var-clause-takes
unfolding declaration
returns-in-Var-clause-takes c wanted parts is open_yet = waits-takes wanted parts c.await_token-in-Var.result c.args.self.now c.await_token-in-Var.new.self
    stages.VarKind VarKind (declaration parts c.args.offset c.args.keyword) c.await_token-in-Var.ensures is (refl, open_yet)
    (ap (declaration parts c.args.offset) c.in-Var.is)

pub returns-in-Dump-clause-takes : goal.returns-in-Dump-clause-takes
unfolding declaration
returns-in-Dump-clause-takes c wanted parts is open_yet = ap (declaration parts c.args.offset) c.in-Dump.is

pub returns-in-End-clause-takes : goal.returns-in-End-clause-takes
unfolding declaration
returns-in-End-clause-takes c wanted parts is open_yet = ap (declaration parts c.args.offset) c.in-End.is

pub returns-in-Other-clause-takes : goal.returns-in-Other-clause-takes
unfolding declaration
returns-in-Other-clause-takes c wanted parts is open_yet = ap (declaration parts c.args.offset) c.in-Other.is

pub returns-in-Upscope-clause-takes : goal.returns-in-Upscope-clause-takes
returns-in-Upscope-clause-takes c wanted parts is open_yet = subst (λ (k : Keyword). Takes wanted c.begin_upscope.result c.begin_upscope.new.self
    (declaration parts c.args.offset k)) (sym c.in-Upscope.is) (c.begin_upscope.ensures.takes wanted parts is)

pub returns-in-EndDefinitions-clause-takes : goal.returns-in-EndDefinitions-clause-takes
returns-in-EndDefinitions-clause-takes c wanted parts is open_yet = subst (λ (k : Keyword). Takes wanted c.begin_end.result c.begin_end.new.self (declaration
    parts c.args.offset k)) (sym c.in-EndDefinitions.is) (c.begin_end.ensures.takes wanted parts is)
