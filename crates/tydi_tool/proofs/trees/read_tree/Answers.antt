use Rattle.std.proofs.Common.{List, ℕ, subst, ◌∙◌}
use Rattle.til_lexer.specs.Tokens.{tokens_of}
use Rattle.tydi_tool.specs.Reading.{ReadsAs}
use Rattle.tydi_tool.specs.Trees.{ReadsTokens}
use Rattle.tydi_tool.proofs.ReadingLemmas.{ReadsTree-utf8, ReadsTree-other}
use Rattle.tydi_tool.proofs.trees.read_tree.Goals as goal

pub returns-in-Ok : goal.returns-in-Ok
returns-in-Ok c = ReadsTree-utf8 c.args.word.now c.args.bytes.now c.read_text.result c.in-Ok.ensures.cases.1
    (subst (λ (text : List ℕ). ReadsAs (ReadsTokens c.args.word.now text (tokens_of text)) c.read_text.result) c.in-Ok.ensures.cases.0 c.read_text.ensures)

pub returns-in-Err : goal.returns-in-Err
returns-in-Err c = ReadsTree-other c.args.word.now c.args.bytes.now c.valid_up_to.result c.refused.result c.in-Err.ensures.cases.0
    (c.valid_up_to.ensures ∙ c.in-Err.ensures.valid_len) c.refused.ensures
