use Rattle.std.proofs.Common.{◌≡◌, ◌∙◌, ◌+◌, ◌&&◌, ◌++◌, ◌∷◌, [], Bool, false, get_or, Some, slice_get, nat_le, take, sym, subst, ap}
use Rattle.std.specs.Option.{IfSome, option_copied}
use Rattle.std.proofs.lemmas.Option.{slice_get-get_or}
use Rattle.physical_stream.specs.Params.{Parameters}
use Rattle.physical_stream.specs.Cycles.{cycle_in, done_in, done_of, items_done}
use Rattle.physical_stream.specs.Items.{items_of_all}
use Rattle.physical_stream.specs.Signals.{Fits}
use Rattle.handshake.specs.Run.{run_of}
use Rattle.reshape.specs.Reshaping.{Sides, near_cycles, sides_of}
use Rattle.reshape.specs.Standing.{buffer_in, from_of, offered_by, to_of}
use Rattle.reshape.proofs.CrossLemmas.{at-moved, at-next, next-fits}
use Rattle.reshape.proofs.crossing.cross.Goals as goal
use Rattle.reshape.proofs.crossing.cross.Goals.{then-shows, else-shows}

pub edge-requires-clause-fits : goal.edge-requires-clause-fits
edge-requires-clause-fits g c =
    let near = c.args.near.now in
    let sides : Sides = sides_of near.params (to_of c.args.reshaper.now) (g.F.TransferFeed.whole near.feed) near.gaps (take c.args.number c.args.ready.now) in
    let row = c.cycle-given.ensures.row (g.F.TransferFeed.whole near.feed) sides.near c.requires.at.stands in
    subst (λ (p : Parameters). IfSome (option_copied c.cycle-given.result.shown) (Fits p)) (sym c.requires.at.from)
    (next-fits near.params (g.F.TransferFeed.whole near.feed) near.gaps (run_of near.params (g.F.TransferFeed.whole near.feed) near.gaps sides.near) _ (cycle_in c.cycle-given.result) row c.requires.fits)

pub returns-clause-at : goal.returns-clause-at
returns-clause-at g c =
    let near = c.args.near.now in
    let after = c.cycle-given.follows.lender-at-none in
    let reshaper = c.args.reshaper.now in
    let new = c.edge.new.self in
    let to = to_of reshaper in
    let ts = g.F.TransferFeed.whole near.feed in
    let at = c.requires.at in
    let ready = c.args.ready.now in
    let bit : Bool = get_or c.args.ready.now c.args.number false in
    let sides : Sides = sides_of near.params (to_of reshaper) (g.F.TransferFeed.whole near.feed) near.gaps (take c.args.number c.args.ready.now) in
    let given = cycle_in c.cycle-given.result in
    let taken : c.if-shows.edge ≡ (c.args.shows && (get_or c.args.ready.now c.args.number false)) = elim c.if-shows.branch [
      | then-shows w ↦ w.edge-is ∙ sym (ap (λ (b : Bool). b && (get_or c.args.ready.now c.args.number false)) w.if-shows.true)
      | else-shows w ↦ w.edge-is ∙ w.if-shows.false ∙ sym (ap (λ (b : Bool). b && (get_or c.args.ready.now c.args.number false)) w.if-shows.false)
    ] in
    let here : slice_get c.args.ready.now c.args.number ≡ Some (get_or c.args.ready.now c.args.number false) = slice_get-get_or c.args.ready.now c.args.number false c.requires.more in
    let stands = c.edge.ensures.stands (items_done near.params (near_cycles near.params (to_of reshaper) (g.F.TransferFeed.whole near.feed) near.gaps sides)) (done_of sides.far) (record { items = at.items }) in
    let items = subst (λ (p : Parameters). items_of_all (to_of reshaper) (done_of sides.far ++ done_in (record { ready = c.args.shows && (get_or c.args.ready.now c.args.number false); shown = offered_by reshaper })) ++ buffer_in new
    ≡ items_done near.params (near_cycles near.params (to_of reshaper) (g.F.TransferFeed.whole near.feed) near.gaps sides) ++ items_done p (given ∷ [])) at.from
    (subst (λ (b : Bool). items_of_all (to_of reshaper) (done_of sides.far ++ done_in (record { ready = b; shown = offered_by reshaper })) ++ buffer_in new
    ≡ items_done near.params (near_cycles near.params (to_of reshaper) (g.F.TransferFeed.whole near.feed) near.gaps sides) ++ items_done (from_of reshaper) (given ∷ [])) taken
    (subst (λ (p : Parameters). items_of_all p (done_of sides.far ++ done_in (record { ready = c.if-shows.edge; shown = offered_by reshaper })) ++ buffer_in new
    ≡ items_done near.params (near_cycles near.params (to_of reshaper) (g.F.TransferFeed.whole near.feed) near.gaps sides) ++ items_done (from_of reshaper) (given ∷ [])) c.edge.ensures.to stands.items)) in
    at-moved g.F.TransferFeed.rest g.F.TransferFeed.whole near.params (to_of reshaper) (g.F.TransferFeed.whole near.feed) near.gaps after new c.args.ready.now (c.args.number + 1) c.cycle-given.follows.holds-at-none.1 c.edge.ensures.to
    c.cycle-given.follows.holds-at-none.3 c.cycle-given.follows.holds-at-none.2
    (at-next near.params (to_of reshaper) (g.F.TransferFeed.whole near.feed) near.gaps g.F.TransferFeed.rest c.args.ready.now c.args.number near after reshaper new at c.args.shows (get_or c.args.ready.now c.args.number false) here c.requires.shows given
    (c.cycle-given.ensures.row (g.F.TransferFeed.whole near.feed) sides.near at.stands) c.requires.more c.edge.ensures.from (c.cycle-given.follows.holds-at-none.0 (g.F.TransferFeed.whole near.feed) sides.near at.stands) items
    c.left-left.result (c.left-left.ensures (g.F.TransferFeed.whole near.feed) sides.near at.stands) (c.edge.ensures.ended ∙ ap (nat_le c.left-left.result) c.transfers_in.ensures))
