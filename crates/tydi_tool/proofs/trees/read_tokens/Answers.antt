use Rattle.tydi_tool.proofs.ReadingLemmas.{ReadsTokens-unparsed}
use Rattle.tydi_tool.proofs.trees.read_tokens.Goals as goal

pub returns-in-Err : goal.returns-in-Err
returns-in-Err c = ReadsTokens-unparsed c.args.word.now c.args.text.now c.args.tokens.now c.in-Err.fault c.unparsed.result c.unparsed.ensures c.in-Err.ensures.none c.in-Err.ensures.exact
