use Rattle.std.proofs.Common.{List, ap, sym, ◌∙◌}
use Rattle.std.specs.Hash.FoldHasher as hashed
use Rattle.std.specs.List.{fold}
use Rattle.std.proofs.lemmas.List.{take_all}
use Rattle.til_parser.specs.declared.tree.AstName.{AstName}
use Rattle.til_resolve.specs.Ordered.{word_of_path}
use Rattle.til_resolve.specs.Paths.{texts_of}
use Rattle.til_resolve.proofs.OrderLemmas.{hashed-more}
use Rattle.til_resolve.proofs.ordered.word_of_names.Goals as goal

pub names-preserved : goal.names-preserved
names-preserved c = c.write.ensures ∙ ap (hashed.write c.names.hasher) c.as_bytes.ensures.value ∙ ap (λ h. hashed.write h c.name-item.result.name) c.names.invariant
    ∙ sym (hashed-more c.args.names.now c.names.name-index c.name-item.result c.names-test.true c.name-item.is)

pub returns : goal.returns
unfolding word_of_path
returns c = c.finish.ensures ∙ ap hashed.finish (c.names.invariant ∙ ap (λ (l : List AstName). fold hashed.write hashed.initial (texts_of l)) (take_all c.names.name-index c.args.names.now c.names-test.false))
