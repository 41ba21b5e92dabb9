-- The chains of a port before their first cycle, as the code keeps them (this project's own).
use Rattle.std.specs.Prelude.{◌≡◌, ℕ, Bool, true, false, List, length, Result, Ok, Err, MatchOption}
use Rattle.physical_stream.specs.Params.{Parameters}
use Rattle.physical_stream.specs.declared.item.Item.{Item}
use Rattle.handshake.specs.Rows.{StreamRun}
use Rattle.handshake.specs.declared.feed.TransferFeed.{Ghosts}
use Rattle.plan_text.specs.declared.plan.Wish.{Wish}
use Rattle.scheduler.specs.Planned.{plan_of}
use Rattle.scheduler.specs.Planners.{rest_of, whole_of}
use Rattle.scheduler.specs.declared.planner.Planner.{Planner}
use Rattle.elastic_net.specs.Nets.{ChainRun}
use Rattle.elastic_net.specs.Ports.{chain_runs, net_in, stages_in}
use Rattle.elastic_net.specs.declared.elastic_run.ElasticRun.{ElasticRun}
use Rattle.port_drive.specs.Drives.{CountNotMultiple, is_multiple}
use Rattle.port_drive.specs.Faults.{reason_in}
use Rattle.port_drive.specs.declared.fault.DriveFault.{DriveFault}

-- a planner gives the transfers that are planned of these items, and has given none
pub record PlansItems (p : Parameters) (items : List Item) (wishes : List Wish) (users : List (List Bool)) (planner : Planner) : Type 0 where
  pub multiple : is_multiple p items ≡ true
  pub params : planner.params ≡ p
  pub whole : whole_of planner ≡ plan_of p wishes users items
  pub rest : rest_of planner ≡ whole_of planner

-- such a planner, or that the lanes of the stream of this number do not divide the items; want of memory says nothing
abbrev pub Plans : ℕ → Parameters → List Item → List Wish → List (List Bool) → Result Planner DriveFault → Type 0
Plans number p items wishes users (Ok planner) = PlansItems p items wishes users planner
Plans number p items wishes users (Err e) =
    MatchOption (reason_in e) (Unit {0}) (λ reason. (is_multiple p items ≡ false) × (reason ≡ CountNotMultiple number (length items) p.lanes))

module _ {T : Ghosts Planner} where
  -- the runs of a port, as its chains and ready bits have them
  abbrev pub runs_of_net : ElasticRun Planner T → List StreamRun
  runs_of_net run = chain_runs rest_of whole_of run.chains.items run.ready

  -- the stages of each stream
  abbrev pub stages_of_net : ElasticRun Planner T → List (List ℕ)
  stages_of_net run = stages_in run.chains.items

  -- the chains of a port
  abbrev pub chains_of_net : ElasticRun Planner T → List ChainRun
  chains_of_net run = net_in rest_of whole_of run.chains.items run.ready run.orders

  -- a port stands before its first row, with so many cycles to come
  pub record StandsAtStart (cycles : ℕ) (run : ElasticRun Planner T) : Type 0 where
    pub number : run.number ≡ 0
    pub many : run.many ≡ cycles
    pub stream : run.stream ≡ 0
