use Rattle.std.proofs.Common.{[], sym, ◌∙◌}
use Rattle.std.proofs.lemmas.Bool.{false≢true}
use Rattle.std.proofs.lemmas.List.{get_or_read}
use Rattle.til_resolve.proofs.RankLemmas.{NeverRises-at}
use Rattle.til_resolve.proofs.certificate.never_rises.Goals as goal

pub returns-then-not-never_rises_from : goal.returns-then-not-never_rises_from
returns-then-not-never_rises_from c =
    let graph = c.args.graph.now in
    let number = c.numbers.number in (
      λ is. absurd (false≢true is),
      λ rises. sym c.if-not-never_rises_from.true
          ∙ c.never_rises_from.ensures.1 (NeverRises-at c.args.ranks.now graph number c.as_slice.result.now c.rank_of.result
          (c.as_slice.ensures ∙ get_or_read graph number c.index-graph-number.result c.numbers-test.true c.index-graph-number.is []) c.rank_of.ensures rises),
    )
