use Rattle.std.proofs.Common.{◌≡◌, ◌∙◌, true, Some, slice_get, sym, ap}
use Rattle.std.proofs.lemmas.Option.{slice_get-get_or}
use Rattle.physical_stream.specs.declared.item.Item.{Item}
use Rattle.trace_compare.proofs.FrontLemmas.{same_more}
use Rattle.trace_compare.proofs.same_items.same_front.Goals as goal

pub items-preserved : goal.items-preserved
items-preserved c =
    let so : c.is_item_at.result ≡ true = let told = c.if-not-is_item_at.false in cc in
    let there : slice_get c.args.items.now c.items.place ≡ Some c.index-items-place.result =
    slice_get-get_or c.args.items.now c.items.place c.index-items-place.result c.items-test.true ∙ ap (λ (x : Item). Some x) (sym c.index-items-place.is) in
    same_more c.args.want.now c.args.items.now c.items.place c.index-items-place.result c.items.invariant (c.is_item_at.ensures.0 so) there
