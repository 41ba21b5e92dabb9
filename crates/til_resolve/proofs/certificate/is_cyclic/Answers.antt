use Rattle.std.proofs.Common.{[], ◌∙◌}
use Rattle.std.proofs.lemmas.Bool.{false≢true}
use Rattle.std.proofs.lemmas.List.{get_or_read}
use Rattle.til_resolve.proofs.RankLemmas.{Falls-from, acyclic}
use Rattle.til_resolve.proofs.certificate.is_cyclic.Goals as goal

pub returns-then-falls_from : goal.returns-then-falls_from
returns-then-falls_from c =
    let graph = c.args.graph.now in
    let ranks = c.args.ranks.now in
    let number = c.args.number in (
      λ is. absurd (false≢true is),
      λ way. absurd (acyclic ranks graph number c.requires.rises
          (Falls-from ranks graph number c.as_slice.result.now c.rank_of.result
          (c.as_slice.ensures ∙ get_or_read graph number c.index-graph-number.result c.requires.within c.index-graph-number.is []) c.rank_of.ensures (c.falls_from.ensures.0 c.if-falls_from.true)) way),
    )
