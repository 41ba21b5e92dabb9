use Rattle.std.proofs.Common.{ap, ◌∙◌}
use Rattle.std.specs.Hash.FoldHasher as hashed
use Rattle.til_resolve.specs.Ordered.{word_of}
use Rattle.til_resolve.proofs.ordered.word_of_name.Goals as goal

pub returns : goal.returns
unfolding word_of
returns c = c.finish.ensures ∙ ap hashed.finish (c.write.ensures ∙ (λ i. hashed.write (c.default-hasher.ensures i) (c.as_bytes.ensures.value i)))
