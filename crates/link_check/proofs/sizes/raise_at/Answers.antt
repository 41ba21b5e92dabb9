use Rattle.std.proofs.Common.{ℕ, List, sym, ap, ◌∙◌, subst}
use Rattle.til_resolve.specs.declared.project.Instance.{Instance}
use Rattle.link_check.specs.Counts.{IsRaised, counted}
use Rattle.link_check.proofs.CountLemmas.{instances_at-is}
use Rattle.link_check.proofs.sizes.raise_at.Goals as goal

pub returns : goal.returns
returns c =
    subst (λ (count : ℕ). IsRaised c.args.counts.now c.args.number count c.raise.new.counts c.raise.result)
    (c.count_of-count.ensures ∙ ap (λ (those : List Instance). counted c.args.counts.now those) (c.instances_of.ensures
    ∙ sym (instances_at-is c.args.streamlets.now c.args.number c.index-streamlets-number.result c.requires.within c.index-streamlets-number.is)))
    c.raise.ensures
