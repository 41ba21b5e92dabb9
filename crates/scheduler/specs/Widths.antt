-- The facts that items, masks and user words fit a stream have one proof at most, as facts that a struct keeps must.
use Rattle.std.specs.Prelude.{Bool, List, [], ◌∷◌}
use Rattle.std.proofs.Props.{props}
use mathlib.Core.HLevel.{×_prop}
use Rattle.physical_stream.specs.Params.{Parameters}
use Rattle.physical_stream.specs.declared.item.Item.{Item}
use Rattle.physical_stream.specs.declared.item.Item.TheVariants.{Elem, Close}
use Rattle.plan_text.specs.declared.plan.Wish.{Wish}
use Rattle.scheduler.specs.Laws.{AreItems, UsersFit}
use Rattle.scheduler.specs.Planned.{MasksFit}

pub AreItems-prop : (p : Parameters) (items : List Item) → IsProp (AreItems p items)
AreItems-prop p [] = Prim.hlevel props
AreItems-prop p (Elem word ∷ more) = ×_prop (Prim.hlevel props) (AreItems-prop p more)
AreItems-prop p (Close dim ∷ more) = ×_prop (Prim.hlevel props) (AreItems-prop p more)

pub MasksFit-prop : (p : Parameters) (wishes : List Wish) → IsProp (MasksFit p wishes)
MasksFit-prop p [] = Prim.hlevel props
MasksFit-prop p (wish ∷ more) = ×_prop (Prim.hlevel props) (MasksFit-prop p more)

pub UsersFit-prop : (p : Parameters) (users : List (List Bool)) → IsProp (UsersFit p users)
UsersFit-prop p [] = Prim.hlevel props
UsersFit-prop p (user ∷ more) = ×_prop (Prim.hlevel props) (UsersFit-prop p more)

pub ruleset plan_props = (props, AreItems-prop, MasksFit-prop, UsersFit-prop)
