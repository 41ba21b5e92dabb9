-- Where a stream may pause (this project's own).
use Rattle.std.specs.Prelude.{◌↔◌, IsTrue, ℕ, Bool, true, false, not, ◌&&◌, nat_lt, List, Option, Some, None}
use Rattle.physical_stream.specs.Params.{Parameters}
use Rattle.physical_stream.specs.Shape.{is_whole, tail_of}
use Rattle.physical_stream.specs.Breaks.{BreaksInnerPause, BreaksOuterPause}
use Rattle.physical_stream.specs.Rules.{Binds}
use Rattle.physical_stream.specs.declared.item.Item.{Item}
use Rattle.physical_stream.specs.declared.item.Tail.{Tail}
use Rattle.physical_stream.specs.declared.item.Tail.TheVariants as tails
use Rattle.physical_stream.specs.declared.rule.Rule.TheVariants.{InnerPause, OuterPause}
use Rattle.complexity_rules.specs.Lowest.{is_broken}

-- after these items a low valid breaks neither of the rules on pauses that bind at the stream's level
pub record MayPause (p : Parameters) (done : List Item) : Type 0 where
  pub inner : Binds InnerPause p.level → BreaksInnerPause p done → ⊥
  pub outer : Binds OuterPause p.level → BreaksOuterPause p done → ⊥

-- the last item is an element
abbrev pub is_after_element : Option Tail → Bool
is_after_element None = false
is_after_element (Some tails.Elem) = true
is_after_element (Some (tails.Close dim)) = false

-- there are dimensions, and the innermost sequence has elements and is open
abbrev pub is_inside_sequence : ℕ → Option Tail → Bool
is_inside_sequence dims tail = nat_lt 0 dims && is_after_element tail

-- there are dimensions, and a packet is begun and open
abbrev pub is_inside_packet : ℕ → Option Tail → Bool
is_inside_packet dims tail = nat_lt 0 dims && not (is_whole dims tail)

-- after items of which the last is of this kind a low valid breaks neither of the rules on pauses, as a test
abbrev pub pauses_after : Parameters → Option Tail → Bool
pauses_after p tail = not (is_broken p.level InnerPause (is_inside_sequence p.dims tail)) && not (is_broken p.level OuterPause (is_inside_packet p.dims tail))

-- the test says where the stream may pause
abbrev pub PausesAsTested : Type 0
PausesAsTested = (p : Parameters) (done : List Item) → IsTrue (pauses_after p (tail_of done)) ↔ MayPause p done
