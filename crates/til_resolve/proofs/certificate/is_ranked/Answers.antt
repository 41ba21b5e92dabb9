use Rattle.std.proofs.Common.{[], ◌∙◌, arith}
use Rattle.std.proofs.lemmas.List.{get_or_read}
use Rattle.til_resolve.proofs.RankLemmas.{Falls-at, Falls-from}
use Rattle.til_resolve.proofs.certificate.is_ranked.Goals as goal

pub returns : goal.returns
returns c =
    let graph = c.args.graph.now in
    let ranks = c.args.ranks.now in
    let number = c.args.number in
    let targets = c.as_slice.ensures ∙ get_or_read graph number c.index-graph-number.result c.requires c.index-graph-number.is [] in (
      λ is. record {
        above = omega arith;
        within = omega arith;
        falls = Falls-from ranks graph number c.as_slice.result.now c.rank_of-rank.result targets c.rank_of-rank.ensures (c.falls_from.ensures.0 is);
      },
      λ ranked. c.falls_from.ensures.1 (Falls-at ranks graph number c.as_slice.result.now c.rank_of-rank.result targets c.rank_of-rank.ensures ranked.falls),
    )
