use Rattle.std.proofs.Common.{refl}
use Rattle.reshape.proofs.TurnLemmas.{row-shows}
use Rattle.reshape.proofs.run_feed.ReshapeRunCycleFeed.next.Goals as goal

pub returns-then-turn : goal.returns-then-turn
returns-then-turn g c = (
  (refl, (λ run. tt), (c.in-Some.ensures.rows, c.in-Some.ensures.whole, c.in-Some.ensures.undone)),
  record { first = row-shows _ c.turn.new.self.shown c.in-Some.turn _ c.if-turn.true refl c.in-Some.ensures.first; after = tt },
)
