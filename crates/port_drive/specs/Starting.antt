-- The runs of a port before their first cycle, as the code keeps them. This project's own.
use Rattle.std.specs.Prelude.{◌≡◌, ℕ, Bool, true, false, List, [], length, Result, Ok, Err, MatchOption}
use Rattle.physical_stream.specs.Params.{Parameters}
use Rattle.physical_stream.specs.declared.item.Item.{Item}
use Rattle.handshake.specs.Ports.{runs_in}
use Rattle.handshake.specs.Rows.{StreamRun}
use Rattle.handshake.specs.Standing.{StandsFor}
use Rattle.handshake.specs.declared.cursor.Cursor.{Cursor}
use Rattle.handshake.specs.declared.feed.TransferFeed.{Ghosts}
use Rattle.handshake.specs.declared.port_run.PortRun.{PortRun}
use Rattle.plan_text.specs.declared.plan.Wish.{Wish}
use Rattle.scheduler.specs.Planned.{plan_of}
use Rattle.scheduler.specs.Planners.{rest_of, whole_of}
use Rattle.scheduler.specs.declared.planner.Planner.{Planner}
use Rattle.port_drive.specs.Drives.{CountNotMultiple, is_multiple}
use Rattle.port_drive.specs.Faults.{reason_in}
use Rattle.port_drive.specs.declared.fault.DriveFault.{DriveFault}

module _ {T : Ghosts Planner} where
  -- a cursor stands before the first cycle of the run of items by a plan, with these gaps
  pub record StartsItems (p : Parameters) (items : List Item) (gaps : List ℕ) (wishes : List Wish) (users : List (List Bool)) (c : Cursor Planner T) : Type 0 where
    pub multiple : is_multiple p items ≡ true
    pub params : c.params ≡ p
    pub whole : whole_of c.feed ≡ plan_of p wishes users items
    pub gaps_are : c.gaps ≡ gaps
    pub stands : StandsFor rest_of c (whole_of c.feed) []

  -- such a cursor, or that the lanes of the stream of this number do not divide the items; want of memory says nothing
  abbrev pub Starts : ℕ → Parameters → List Item → List ℕ → List Wish → List (List Bool) → Result (Cursor Planner T) DriveFault → Type 0
  Starts number p items gaps wishes users (Ok c) = StartsItems p items gaps wishes users c
  Starts number p items gaps wishes users (Err e) =
      MatchOption (reason_in e) (Unit {0}) (λ reason. (is_multiple p items ≡ false) × (reason ≡ CountNotMultiple number (length items) p.lanes))

  -- the runs of a port, as its cursors and ready bits have them
  abbrev pub runs_of_port : PortRun Planner T → List StreamRun
  runs_of_port run = runs_in rest_of whole_of run.cursors.items run.ready

  -- a port stands before its first row, with so many cycles to come
  pub record StandsAtStart (cycles : ℕ) (run : PortRun Planner T) : Type 0 where
    pub number : run.number ≡ 0
    pub many : run.many ≡ cycles
    pub stream : run.stream ≡ 0
