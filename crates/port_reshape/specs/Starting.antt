-- The run through a reshaper before its first cycle, as the code keeps it (this project's own).
use Rattle.std.specs.Prelude.{◌≡◌, ◌≤◌, ◌↔◌, ℕ, Bool, true, false, IsTrue, List, [], ◌++◌, ◌∷◌, drop, length, Result, Ok, Err, MatchOption}
use Rattle.physical_stream.specs.Cycles.{Cycle}
use Rattle.physical_stream.specs.Params.{Parameters}
use Rattle.physical_stream.specs.Shape.{IsNested, is_whole, tail_of}
use Rattle.physical_stream.specs.declared.head.Head.{Head}
use Rattle.physical_stream.specs.declared.item.Item.{Item}
use Rattle.type_split.specs.declared.split.Phys.{Phys}
use Rattle.plan_text.specs.declared.plan.StreamPlan.{StreamPlan}
use Rattle.handshake.specs.Rows.{StreamRun}
use Rattle.handshake.specs.declared.cycle_feed.CycleFeed as cycles
use Rattle.handshake.specs.declared.feed.TransferFeed as transfers
use Rattle.scheduler.specs.Laws.{AreItems, IsMultiple, UsersFit}
use Rattle.scheduler.specs.Planned.{MasksFit, plan_of}
use Rattle.scheduler.specs.Planners.{whole_of}
use Rattle.scheduler.specs.declared.planner.Planner.{Planner}
use Rattle.reshape.specs.Reshaping.{far_of, undone_far}
use Rattle.reshape.specs.Standing.{from_of, to_of}
use Rattle.reshape.specs.declared.reshape_run.ReshapeRun.{ReshapeRun}
use Rattle.reshape.specs.declared.reshaper.Reshaper.{Reshaper}
use Rattle.trace_pieces.specs.Rows.{rows_from}
use Rattle.trace_pieces.specs.declared.pieces.TracePieces.{TracePieces}
use Rattle.port_drive.specs.Drives.{CountNotMultiple}
use Rattle.port_drive.specs.Faults.{reason_in}
use Rattle.port_drive.specs.declared.fault.DriveFault.{DriveFault}
use Rattle.port_reshape.specs.declared.far_items.FarItems.{FarItems}

-- items of a stream, and a plan of it, can pass from one side to the other: the sides have the same dimensions and elements, and the far side no user word
pub record CanPass (from to : Parameters) (items : List Item) (plan : StreamPlan) : Type 0 where
  pub some : 1 ≤ from.lanes
  pub some_far : 1 ≤ to.lanes
  pub dims : from.dims ≡ to.dims
  pub element : from.element ≡ to.element
  pub no_user : to.user ≡ 0
  pub fit : AreItems from items
  pub nested : IsNested items
  pub whole : is_whole from.dims (tail_of items) ≡ true
  pub masks : MasksFit from plan.wishes
  pub users : UsersFit from plan.users

-- the head of a stream with these parameters
abbrev pub far_head : Phys → Parameters → Head
far_head stream to = record { path = stream.path; params = to; reversed = stream.reversed }

module _ {T : transfers.Ghosts Planner} where
  -- the run of the source
  abbrev pub source_in : ReshapeRun Planner T → StreamRun
  source_in run = record { params = run.near.params; transfers = whole_of run.near.feed; gaps = run.near.gaps; ready = run.ready }

  -- all cycles of the far side
  abbrev pub far_rows : ReshapeRun Planner T → List Cycle
  far_rows run = far_of run.near.params (to_of run.reshaper) (whole_of run.near.feed) run.near.gaps run.ready

  -- those that are left
  abbrev pub rows_left : ReshapeRun Planner T → List Cycle
  rows_left run = drop run.number (far_rows run)

  -- how many far transfers are not done after all cycles
  abbrev pub left_in : ReshapeRun Planner T → List ℕ
  left_in run = undone_far run.near.params (to_of run.reshaper) (whole_of run.near.feed) run.near.gaps run.ready ∷ []

  -- the header, where it is still to come, and the rows that are left
  abbrev pub text_left : {G : cycles.Ghosts (ReshapeRun Planner T)} → TracePieces (ReshapeRun Planner T) G → List ℕ
  text_left pieces = pieces.header ++ rows_from pieces.streams pieces.stream (rows_left pieces.feed)

-- the reshaper between two sides, where the lanes of the far side divide the items; else that they do not
abbrev pub IsReshaperOf : (from to : Parameters) → (divides : Bool) → (count : ℕ) → Result Reshaper DriveFault → Type 0
IsReshaperOf from to divides count (Ok reshaper) = (divides ≡ true) × (from_of reshaper ≡ from) × (to_of reshaper ≡ to)
IsReshaperOf from to divides count (Err e) = MatchOption (reason_in e) (Unit {0}) (λ reason. (divides ≡ false) × (reason ≡ CountNotMultiple 0 count to.lanes))

-- what is known of these items at the far side
pub record IsFarOf (to : Parameters) (items : List Item) (far : FarItems) : Type 0 where
  pub divides : IsTrue far.divides ↔ IsMultiple to items
  pub count : far.count ≡ length items
  pub planned : far.planned ≡ length (plan_of to [] [] items)
