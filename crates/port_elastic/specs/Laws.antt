-- The laws of ports that are driven through stages (this project's own).
use Rattle.std.specs.Prelude.{◌≡◌, ℕ, suc, ◌+◌, ◌*◌, ◌≤◌, List, length, slice_get, Some, Ok}
use Rattle.logical_value.specs.Tree.{Tree}
use Rattle.type_split.specs.Streams.{PlainSplit}
use Rattle.plan_text.specs.Laws.{FitsPort}
use Rattle.plan_text.specs.declared.plan.Plan.{Plan}
use Rattle.plan_text.specs.declared.plan.StreamPlan.{StreamPlan}
use Rattle.handshake.specs.Laws.{gaps_below, ones_in}
use Rattle.handshake.specs.Rows.{StreamRun}
use Rattle.net_text.specs.Laws.{FitsNet}
use Rattle.net_text.specs.declared.net.NetPlan.{NetPlan}
use Rattle.elastic_net.specs.Nets.{ChainRun}
use Rattle.port_drive.specs.Drives.{runs_of}
use Rattle.port_drive.specs.Text.{IsDrivenText, MayDrive, drive_text}
use Rattle.port_elastic.specs.Elastic.{AreHigh, chains_on, elastic_of, elastic_text}

-- two plans of a stream are the same but for their gaps
pub record SameButGaps (one other : StreamPlan) : Type 0 where
  pub ready : other.ready ≡ one.ready
  pub wishes : other.wishes ≡ one.wishes
  pub users : other.users ≡ one.users

-- two plans of a port are of as many cycles, and the same for each stream but for its gaps
pub record DifferInGaps (one other : Plan) : Type 0 where
  pub cycles : other.cycles ≡ one.cycles
  pub many : length other.streams ≡ length one.streams
  pub streams : (number : ℕ) (first second : StreamPlan) → slice_get one.streams number ≡ Some first → slice_get other.streams number ≡ Some second → SameButGaps first second

-- a port whose streams may pause, a value of its type, a plan of its streams, and a net of these in so many cycles
pub record MayFlow (split : PlainSplit) (value : List (List Tree)) (plan : Plan) (net : NetPlan) : Type 0 where
  pub drive : MayDrive split value plan
  pub net_fits : FitsNet (length split.streams) plan.cycles net
  pub high : AreHigh split.streams

-- the text is the one that drives the port directly by a plan with other gaps; so it is that of a trace each stream of which breaks no rule
-- and ends whole, whose items carry the value, and which is read back as this trace alone
pub record IsFlowText (split : PlainSplit) (value : List (List Tree)) (plan : Plan) (text : List ℕ) : Type 0 where
  pub other : Plan
  pub same : DifferInGaps plan other
  pub fits : FitsPort split.streams other
  pub drives : drive_text split value other ≡ Ok text
  pub driven : IsDrivenText split value other text

-- each text that drives a port through stages is such
abbrev pub ElasticTextsAreDriven : Type 0
ElasticTextsAreDriven = (split : PlainSplit) (value : List (List Tree)) (plan : Plan) (net : NetPlan) (text : List ℕ) →
    MayFlow split value plan net → elastic_text split value plan net ≡ Ok text → IsFlowText split value plan text

-- as many ready bits of a stream are 1 as there are moves to make, one of each transfer by each component, and cycles of effective gaps
abbrev pub HasFlowBits : ChainRun → Type 0
HasFlowBits c =
    suc (length c.stages) * length c.run.transfers + gaps_below c.run.params c.run.transfers c.run.gaps (length c.run.transfers) ≤ ones_in c.run.ready

-- all transfers of a port come to their sinks where each of its chains has so many ready bits
abbrev pub ReadyChainsFinish : Type 0
ReadyChainsFinish = (split : PlainSplit) (value : List (List Tree)) (plan : Plan) (net : NetPlan) (runs : List StreamRun) →
    MayFlow split value plan net → runs_of split value plan.streams ≡ Ok runs →
    ((number : ℕ) (chain : ChainRun) → slice_get (chains_on runs net) number ≡ Some chain → HasFlowBits chain) → elastic_of split value plan.streams net ≡ Ok (chains_on runs net)
