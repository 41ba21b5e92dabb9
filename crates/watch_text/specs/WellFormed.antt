-- Which monitors are well formed (this project's own).
use Rattle.std.specs.Prelude.{◌^◌, ◌≡◌, ℕ, ◌≤◌, ◌<◌, ◌-◌, Bool, true, false, List, length, slice_get, Some}
use Rattle.std.specs.List.{All}
use Rattle.physical_stream.specs.Params.{Parameters}
use Rattle.physical_stream.specs.declared.head.Head.{Head}
use Rattle.physical_stream.specs.declared.item.Item.{Item}
use Rattle.physical_stream.specs.declared.item.Item.TheVariants as items
use Rattle.vhdl_text.specs.WellFormed.{AreHeads}
use Rattle.watch_text.specs.Statements.{PlainWatch, Statement, Statements, dims, if_active, if_last, lanes, need_close, need_elem, no_statements, statement}

-- an item that a stream can have: an element of its width, or the end of a sequence of one of its dimensions
abbrev pub IsItemOf : Parameters → Item → Type 0
IsItemOf p (items.Elem word) = length word ≡ p.element
IsItemOf p (items.Close dim) = dim < p.dims

-- what stands around statements: whether a loop over lanes and one over dimensions do, and how many lists may still stand in one another inside
pub record Around : Type 0 where
  pub in_lanes : Bool
  pub in_dims : Bool
  pub room : ℕ

-- what stands around the statements of a test
abbrev pub in_test : Around → Around
in_test around = record { in_lanes = around.in_lanes; in_dims = around.in_dims; room = around.room - 1 }

-- what stands around the statements of a loop over lanes, and of one over dimensions
abbrev pub in_lane_loop : Around → Around
in_lane_loop around = record { in_lanes = true; in_dims = around.in_dims; room = around.room - 1 }

abbrev pub in_dim_loop : Around → Around
in_dim_loop around = record { in_lanes = around.in_lanes; in_dims = true; room = around.room - 1 }

-- what stands around the statements of a process: no loop. Its own list and seven more may stand in one another.
abbrev pub around_process : Around
around_process = record { in_lanes = false; in_dims = false; room = 7 }

-- a list that is not empty
abbrev pub IsSome : Statements → Type 0
IsSome no_statements = ⊥
IsSome (statement first more) = Unit {0}

-- a list inside a statement: there is room for it, it is not empty, and its statements may stand there
abbrev pub IsInside : Around → Statements → Type 0 → Type 0
IsInside around body are_statements = (1 ≤ around.room) × (IsSome body × are_statements)

-- statements that a process of a stream of so many dimensions may have with this around them. A loop stands in none of its own kind, a test stands in
-- the loops that it asks about, and so does a need.
abbrev mutual
  pub IsStatement : ℕ → Around → Statement → Type 0
  IsStatement count around (lanes body) = (around.in_lanes ≡ false) × IsInside around body (AreStatements count (in_lane_loop around) body)
  IsStatement count around (dims body) = (around.in_dims ≡ false) × ((1 ≤ count) × IsInside around body (AreStatements count (in_dim_loop around) body))
  IsStatement count around (if_active body) = (around.in_lanes ≡ true) × IsInside around body (AreStatements count (in_test around) body)
  IsStatement count around (if_last body) = (around.in_lanes ≡ true) × ((around.in_dims ≡ true) × IsInside around body (AreStatements count (in_test around) body))
  IsStatement count around need_elem = around.in_lanes ≡ true
  IsStatement count around need_close = around.in_dims ≡ true

  pub AreStatements : ℕ → Around → Statements → Type 0
  AreStatements count around no_statements = Unit {0}
  AreStatements count around (statement first more) = IsStatement count around first × AreStatements count around more

-- a stream of a monitor: the items that it expects and the statements of its process
pub record IsStream (head : Head) (want : List Item) (process : Statements) : Type 0 where
  -- the number of each entry has a decimal text
  pub few : length want < 2 ^ 64
  pub items : All (IsItemOf head.params) want
  pub statements : AreStatements head.params.dims around_process process

-- a monitor that has a text
pub record IsWellFormed (watch : PlainWatch) : Type 0 where
  pub heads : AreHeads watch.heads
  pub tables : length watch.want ≡ length watch.heads
  pub processes : length watch.procs ≡ length watch.heads
  pub each : (i : ℕ) (head : Head) (want : List Item) (process : Statements) → slice_get watch.heads i ≡ Some head → slice_get watch.want i ≡ Some want
      → slice_get watch.procs i ≡ Some process → IsStream head want process
