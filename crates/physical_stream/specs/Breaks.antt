-- The violation of each rule (after the Tydi specification's complexity levels; the texts of the rules are this project's own).
-- `before` are the cycles before, `now` is the cycle in question. Rules 2 to 7 and 10 look at each cycle with valid, whether
-- it is taken or not.
use Rattle.std.specs.Prelude.{◌≡◌, ℕ, ◌+◌, ◌<◌, ◌≤◌, true, false, List, [], ◌∷◌, ◌++◌, ◌⊎◌, Option, Some, None, take, slice_get}
use Rattle.std.specs.List.{All}
use Rattle.std.specs.Int.{bit_at}
use Rattle.physical_stream.specs.Params.{Parameters}
use Rattle.physical_stream.specs.Items.{is_active, last_bit, items_of}
use Rattle.physical_stream.specs.Shape.{tail_of, is_whole, closes_empty, may_close}
use Rattle.physical_stream.specs.Cycles.{Cycle, items_done, waiting_of}
use Rattle.physical_stream.specs.Rules.{Binds}
use Rattle.physical_stream.specs.declared.transfer.Transfer.{Transfer}
use Rattle.physical_stream.specs.declared.item.Item.{Item}
use Rattle.physical_stream.specs.declared.item.Item.TheVariants as items
use Rattle.physical_stream.specs.declared.item.Tail.TheVariants as tails
use Rattle.physical_stream.specs.declared.rule.Rule.{Rule}
use Rattle.physical_stream.specs.declared.rule.Rule.TheVariants.{Hold, Index, LaneLast, Strobe, Start, End, Empty, InnerPause, OuterPause, Nest, Tag}

-- 1 Hold: a transfer was offered and not taken, and this cycle does not show it again, the same in every signal
pub record BreaksHold (before : List Cycle) (now : Cycle) : Type 0 where
  pub offered : Transfer
  pub waits : waiting_of before ≡ Some offered
  pub changed : now.shown ≡ Some offered → ⊥

-- 2 Index: not stai ≤ endi ≤ N-1
abbrev pub BreaksIndex : Parameters → Transfer → Type 0
BreaksIndex p t = (t.endi < t.stai) ⊎ (p.lanes ≤ t.endi)

-- 3 LaneLast: a lane before the last one has a last bit
pub record BreaksLaneLast (p : Parameters) (t : Transfer) : Type 0 where
  pub lane : ℕ
  pub dim : ℕ
  pub early : lane + 1 < p.lanes
  pub within : dim < p.dims
  pub marked : last_bit p t lane dim ≡ true

-- 4 Strobe: one strobe bit is 1 and another is 0
pub record BreaksStrobe (p : Parameters) (t : Transfer) : Type 0 where
  pub one : ℕ
  pub other : ℕ
  pub one_within : one < p.lanes
  pub other_within : other < p.lanes
  pub one_set : bit_at t.strb one ≡ 1
  pub other_clear : bit_at t.strb other ≡ 0

-- 5 Start: stai is not 0
abbrev pub BreaksStart : Transfer → Type 0
BreaksStart t = 0 < t.stai

-- 6 End: endi is not N-1, and no last bit is set
abbrev pub BreaksEnd : Parameters → Transfer → Type 0
BreaksEnd p t = (t.endi + 1 ≡ p.lanes → ⊥) × All (λ bit. bit ≡ false) t.last

-- no lane is active
abbrev pub IsInactive : Parameters → Transfer → Type 0
IsInactive p t = (lane : ℕ) → lane < p.lanes → is_active t lane ≡ false

abbrev pub IsElem : Item → Type 0
IsElem (items.Elem word) = Unit {0}
IsElem (items.Close dim) = ⊥

-- the first Close of what is shown, where it stands in the items done followed by those shown
pub record FirstClose (done shown : List Item) : Type 0 where
  pub front : List Item
  pub dim : ℕ
  pub rest : List Item
  pub elements : All IsElem front
  pub splits : shown ≡ front ++ items.Close dim ∷ rest

-- 7 Empty: no lane is active, and nothing is closed, or the first Close does not close an empty sequence
pub record BreaksEmpty (p : Parameters) (done : List Item) (t : Transfer) : Type 0 where
  pub inactive : IsInactive p t
  pub closes : (items_of p t ≡ []) ⊎ ((first : FirstClose done (items_of p t)) × (closes_empty (tail_of (done ++ first.front)) first.dim ≡ false))

-- 8 InnerPause: valid is low while the innermost sequence has elements and is open
abbrev pub BreaksInnerPause : Parameters → List Item → Type 0
BreaksInnerPause p done = (0 < p.dims) × (tail_of done ≡ Some tails.Elem)

-- 9 OuterPause: valid is low while a packet is begun and open
abbrev pub BreaksOuterPause : Parameters → List Item → Type 0
BreaksOuterPause p done = (0 < p.dims) × (is_whole p.dims (tail_of done) ≡ false)

-- 10 Nest: some Close of what is shown stands where it may not, in the items done followed by those shown
pub record BreaksNest (p : Parameters) (done : List Item) (t : Transfer) : Type 0 where
  pub front : List Item
  pub dim : ℕ
  pub rest : List Item
  pub splits : items_of p t ≡ front ++ items.Close dim ∷ rest
  pub misplaced : may_close (tail_of (done ++ front)) dim ≡ false

-- a rule on the transfer that is shown
abbrev pub OnShown : (Transfer → Type 0) → Option Transfer → Type 0
OnShown broken None = ⊥
OnShown broken (Some t) = broken t

-- a rule on a cycle without valid
abbrev pub OnPause : Type 0 → Option Transfer → Type 0
OnPause broken None = broken
OnPause broken (Some t) = ⊥

-- the violation of a rule, where the rule binds. Rule 11 speaks of logical types: without them nothing breaks it.
abbrev pub Forbids : Rule → Parameters → List Cycle → Cycle → Type 0
Forbids Hold p before now = BreaksHold before now
Forbids Index p before now = OnShown (BreaksIndex p) now.shown
Forbids LaneLast p before now = OnShown (BreaksLaneLast p) now.shown
Forbids Strobe p before now = OnShown (BreaksStrobe p) now.shown
Forbids Start p before now = OnShown BreaksStart now.shown
Forbids End p before now = OnShown (BreaksEnd p) now.shown
Forbids Empty p before now = OnShown (BreaksEmpty p (items_done p before)) now.shown
Forbids InnerPause p before now = OnPause (BreaksInnerPause p (items_done p before)) now.shown
Forbids OuterPause p before now = OnPause (BreaksOuterPause p (items_done p before)) now.shown
Forbids Nest p before now = OnShown (BreaksNest p (items_done p before)) now.shown
Forbids Tag p before now = ⊥

-- the cycle breaks the rule, which binds at the stream's level
abbrev pub BreaksAfter : Rule → Parameters → List Cycle → Cycle → Type 0
BreaksAfter rule p before now = Binds rule p.level × Forbids rule p before now

-- which rules a cycle breaks after others, by the parameters of the stream
abbrev pub Breaking : Type 1
Breaking = Rule → Parameters → List Cycle → Cycle → Type 0

-- in the list of cycles, the cycle of this number breaks the rule. The caller passes what breaks it, since the rule on tags
-- needs the type of the elements.
pub record BreaksBy (Broken : Breaking) (rule : Rule) (p : Parameters) (cycles : List Cycle) (number : ℕ) : Type 0 where
  pub now : Cycle
  pub stands : slice_get cycles number ≡ Some now
  pub broken : Broken rule p (take number cycles) now

-- the same by rules 1 to 10
abbrev pub Breaks : Rule → Parameters → List Cycle → ℕ → Type 0
Breaks rule p cycles number = BreaksBy BreaksAfter rule p cycles number
