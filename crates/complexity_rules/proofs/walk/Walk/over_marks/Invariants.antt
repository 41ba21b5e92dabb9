use Rattle.std.proofs.Common.{◌+◌, ◌≤◌, ◌++◌, ◌∷◌, [], List, Option, if◌then◌else◌}
use Rattle.physical_stream.specs.Items.{last_bit, parts_below}
use Rattle.physical_stream.specs.declared.item.Item.{Item}
use Rattle.physical_stream.specs.declared.item.Item.TheVariants as items
use Rattle.physical_stream.specs.declared.item.Tail.{Tail}
use Rattle.complexity_rules.specs.Walk.{Finds}
use Rattle.complexity_rules.proofs.walk.Walk.over_marks.Given as goal

abbrev pub invariant-dims : goal.invariant-dims
invariant-dims l = record {
  found : (begins : Option Tail) (over : List Item) → Finds l.p.dims begins over l.fn.self →
      Finds l.p.dims begins (over ++ parts_below (λ dim. if last_bit l.p l.transfer l.lane dim then items.Close dim ∷ [] else []) l.dim) l.walk;
  few : l.walk.packets ≤ l.fn.self.packets + l.dim;
}
