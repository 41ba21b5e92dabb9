use Rattle.std.proofs.Common.{sym, subst}
use Rattle.vcd_read.specs.Parser.{Takes, token}
use Rattle.vcd_read.specs.Profile.{Awaited, next}
use Rattle.vcd_read.specs.declared.parser.Stage.TheVariants as stages
use Rattle.vcd_read.proofs.ParserLemmas.{at-stage}
use Rattle.vcd_read.proofs.parser.Parser.take.Goals as goal

pub returns-in-Beginning-clause-takes : goal.returns-in-Beginning-clause-takes
returns-in-Beginning-clause-takes c wanted reached st =
    let old = c.args.self.now in
    let aw = at-stage old.stage stages.Beginning old.width old.code old.name old.offset old.vector reached.parts reached.awaited c.in-Beginning.is
    st.awaited_is in
    subst (λ (a : Awaited). Takes wanted c.begin.result c.begin.new.self (next a reached.parts (token c.args.offset c.args.word.now))) (sym aw)
    (c.begin.ensures.takes wanted reached.parts st.dump_is)

pub returns-in-SectionEnd-clause-takes : goal.returns-in-SectionEnd-clause-takes
returns-in-SectionEnd-clause-takes c wanted reached st =
    let old = c.args.self.now in
    let aw = at-stage old.stage stages.SectionEnd old.width old.code old.name old.offset old.vector reached.parts reached.awaited c.in-SectionEnd.is
    st.awaited_is in
    subst (λ (a : Awaited). Takes wanted c.section_end.result c.section_end.new.self (next a reached.parts (token c.args.offset c.args.word.now)))
    (sym aw) (c.section_end.ensures.takes wanted reached.parts st.dump_is)

pub returns-in-ScopeKind-clause-takes : goal.returns-in-ScopeKind-clause-takes
returns-in-ScopeKind-clause-takes c wanted reached st =
    let old = c.args.self.now in
    let aw = at-stage old.stage stages.ScopeKind old.width old.code old.name old.offset old.vector reached.parts reached.awaited c.in-ScopeKind.is
    st.awaited_is in
    subst (λ (a : Awaited). Takes wanted c.scope_kind.result c.scope_kind.new.self (next a reached.parts (token c.args.offset c.args.word.now))) (sym aw)
    (c.scope_kind.ensures.takes wanted reached.parts st.dump_is)

pub returns-in-ScopeName-clause-takes : goal.returns-in-ScopeName-clause-takes
returns-in-ScopeName-clause-takes c wanted reached st =
    let old = c.args.self.now in
    let aw = at-stage old.stage stages.ScopeName old.width old.code old.name old.offset old.vector reached.parts reached.awaited c.in-ScopeName.is
    st.awaited_is in
    subst (λ (a : Awaited). Takes wanted c.scope_name.result c.scope_name.new.self (next a reached.parts (token c.args.offset c.args.word.now))) (sym aw)
    (c.scope_name.ensures.takes wanted reached.parts st.dump_is)

pub returns-in-ScopeEnd-clause-takes : goal.returns-in-ScopeEnd-clause-takes
returns-in-ScopeEnd-clause-takes c wanted reached st =
    let old = c.args.self.now in
    let aw = at-stage old.stage stages.ScopeEnd old.width old.code old.name old.offset old.vector reached.parts reached.awaited c.in-ScopeEnd.is
    st.awaited_is in
    subst (λ (a : Awaited). Takes wanted c.scope_end.result c.scope_end.new.self (next a reached.parts (token c.args.offset c.args.word.now))) (sym aw)
    (c.scope_end.ensures.takes wanted reached.parts st.dump_is)

pub returns-in-UpscopeEnd-clause-takes : goal.returns-in-UpscopeEnd-clause-takes
returns-in-UpscopeEnd-clause-takes c wanted reached st =
    let old = c.args.self.now in
    let aw = at-stage old.stage stages.UpscopeEnd old.width old.code old.name old.offset old.vector reached.parts reached.awaited c.in-UpscopeEnd.is
    st.awaited_is in
    subst (λ (a : Awaited). Takes wanted c.upscope_end.result c.upscope_end.new.self (next a reached.parts (token c.args.offset c.args.word.now)))
    (sym aw) (c.upscope_end.ensures.takes wanted reached.parts st.dump_is)

pub returns-in-VarKind-clause-takes : goal.returns-in-VarKind-clause-takes
returns-in-VarKind-clause-takes c wanted reached st =
    let old = c.args.self.now in
    let aw = at-stage old.stage stages.VarKind old.width old.code old.name old.offset old.vector reached.parts reached.awaited c.in-VarKind.is st.awaited_is
    in
    subst (λ (a : Awaited). Takes wanted c.var_kind.result c.var_kind.new.self (next a reached.parts (token c.args.offset c.args.word.now))) (sym aw.0)
    (c.var_kind.ensures.takes wanted reached.parts st.dump_is aw.1)

pub returns-in-VarWidth-clause-takes : goal.returns-in-VarWidth-clause-takes
returns-in-VarWidth-clause-takes c wanted reached st =
    let old = c.args.self.now in
    let aw = at-stage old.stage stages.VarWidth old.width old.code old.name old.offset old.vector reached.parts reached.awaited c.in-VarWidth.is
    st.awaited_is in
    subst (λ (a : Awaited). Takes wanted c.var_width.result c.var_width.new.self (next a reached.parts (token c.args.offset c.args.word.now))) (sym aw.0)
    (c.var_width.ensures.takes wanted reached.parts st.dump_is aw.1)

pub returns-in-VarCode-clause-takes : goal.returns-in-VarCode-clause-takes
returns-in-VarCode-clause-takes c wanted reached st =
    let old = c.args.self.now in
    let aw = at-stage old.stage stages.VarCode old.width old.code old.name old.offset old.vector reached.parts reached.awaited c.in-VarCode.is st.awaited_is
    in
    subst (λ (a : Awaited). Takes wanted c.var_code.result c.var_code.new.self (next a reached.parts (token c.args.offset c.args.word.now))) (sym aw.0)
    (c.var_code.ensures.takes wanted reached.parts st.dump_is aw.1)

pub returns-in-VarName-clause-takes : goal.returns-in-VarName-clause-takes
returns-in-VarName-clause-takes c wanted reached st =
    let old = c.args.self.now in
    let aw = at-stage old.stage stages.VarName old.width old.code old.name old.offset old.vector reached.parts reached.awaited c.in-VarName.is st.awaited_is
    in
    subst (λ (a : Awaited). Takes wanted c.var_name.result c.var_name.new.self (next a reached.parts (token c.args.offset c.args.word.now))) (sym aw.0)
    (c.var_name.ensures.takes wanted reached.parts st.dump_is aw.1)

pub returns-in-VarRange-clause-takes : goal.returns-in-VarRange-clause-takes
returns-in-VarRange-clause-takes c wanted reached st =
    let old = c.args.self.now in
    let aw = at-stage old.stage stages.VarRange old.width old.code old.name old.offset old.vector reached.parts reached.awaited c.in-VarRange.is
    st.awaited_is in
    subst (λ (a : Awaited). Takes wanted c.var_range.result c.var_range.new.self (next a reached.parts (token c.args.offset c.args.word.now))) (sym aw.0)
    (c.var_range.ensures.takes wanted reached.parts st.dump_is aw.1)

pub returns-in-VarEnd-clause-takes : goal.returns-in-VarEnd-clause-takes
returns-in-VarEnd-clause-takes c wanted reached st =
    let old = c.args.self.now in
    let aw = at-stage old.stage stages.VarEnd old.width old.code old.name old.offset old.vector reached.parts reached.awaited c.in-VarEnd.is st.awaited_is in
    subst (λ (a : Awaited). Takes wanted c.var_end.result c.var_end.new.self (next a reached.parts (token c.args.offset c.args.word.now))) (sym aw.0)
    (c.var_end.ensures.takes wanted reached.parts st.dump_is aw.1)

pub returns-in-DefinitionsEnd-clause-takes : goal.returns-in-DefinitionsEnd-clause-takes
returns-in-DefinitionsEnd-clause-takes c wanted reached st =
    let old = c.args.self.now in
    let aw = at-stage old.stage stages.DefinitionsEnd old.width old.code old.name old.offset old.vector reached.parts reached.awaited c.in-DefinitionsEnd.is
    st.awaited_is in
    subst (λ (a : Awaited). Takes wanted c.definitions_end.result c.definitions_end.new.self (next a reached.parts (token c.args.offset c.args.word.now)))
    (sym aw) (c.definitions_end.ensures.takes wanted reached.parts st.dump_is)

pub returns-in-VectorCode-clause-takes : goal.returns-in-VectorCode-clause-takes
returns-in-VectorCode-clause-takes c wanted reached st =
    let old = c.args.self.now in
    let aw = at-stage old.stage stages.VectorCode old.width old.code old.name old.offset old.vector reached.parts reached.awaited c.in-VectorCode.is
    st.awaited_is in
    subst (λ (a : Awaited). Takes wanted c.vector_code.result c.vector_code.new.self (next a reached.parts (token c.args.offset c.args.word.now)))
    (sym aw.is) (c.vector_code.ensures.takes wanted reached.parts aw.states st.dump_is aw.letters_are)

pub returns-in-SkippedCode-clause-takes : goal.returns-in-SkippedCode-clause-takes
returns-in-SkippedCode-clause-takes c wanted reached st =
    let old = c.args.self.now in
    let aw = at-stage old.stage stages.SkippedCode old.width old.code old.name old.offset old.vector reached.parts reached.awaited c.in-SkippedCode.is
    st.awaited_is in
    subst (λ (a : Awaited). Takes wanted c.skipped_code.result c.skipped_code.new.self (next a reached.parts (token c.args.offset c.args.word.now)))
    (sym aw) (c.skipped_code.ensures.takes wanted reached.parts st.dump_is)
