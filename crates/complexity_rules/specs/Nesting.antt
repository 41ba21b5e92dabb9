-- The items done are nested (this project's own).
use Rattle.std.specs.Prelude.{ℕ, List}
use Rattle.tydi_base.specs.Level.{IsLevel}
use Rattle.physical_stream.specs.Params.{Parameters}
use Rattle.physical_stream.specs.Cycles.{Cycle, items_done}
use Rattle.physical_stream.specs.Breaks.{Breaks}
use Rattle.physical_stream.specs.Shape.{IsNested}
use Rattle.physical_stream.specs.declared.rule.Rule.TheVariants.{Nest}

-- the items done of cycles none of which breaks the rule on nesting are nested
abbrev pub ItemsAreNested : Type 0
ItemsAreNested = (p : Parameters) (cycles : List Cycle) → IsLevel p.level → ((number : ℕ) → Breaks Nest p cycles number → ⊥) → IsNested (items_done p cycles)
