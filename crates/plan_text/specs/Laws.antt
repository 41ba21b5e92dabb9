-- The limits that plans keep which texts spell (this project's own).
use Rattle.std.specs.Prelude.{◌≡◌, ◌<◌, ◌≤◌, ◌^◌, ℕ, List, [], ◌∷◌, length, All, Ok}
use Rattle.physical_stream.specs.Params.{Parameters}
use Rattle.type_split.specs.declared.split.Phys.{Phys}
use Rattle.plan_text.specs.declared.plan.Plan.{Plan}
use Rattle.plan_text.specs.declared.plan.StreamPlan.{StreamPlan}
use Rattle.plan_text.specs.Text.{plan_of}
use Rattle.plan_text.specs.Words.{most_cycles}

-- a plan of a stream with these parameters, in a run of so many cycles
pub record FitsStream (cycles : ℕ) (p : Parameters) (plan : StreamPlan) : Type 0 where
  pub gaps : All (λ gap. gap ≤ most_cycles) plan.gaps
  pub ready : length plan.ready ≡ cycles
  pub wishes : All (λ wish. wish.mask < 2 ^ p.lanes) plan.wishes
  pub users : All (λ user. length user ≡ p.user) plan.users

-- each stream has its plan
abbrev pub FitEach : ℕ → List Phys → List StreamPlan → Type 0
FitEach cycles [] [] = Unit {0}
FitEach cycles [] (plan ∷ plans) = ⊥
FitEach cycles (stream ∷ streams) [] = ⊥
FitEach cycles (stream ∷ streams) (plan ∷ plans) = FitsStream cycles stream.params plan × FitEach cycles streams plans

-- a plan of a port with these streams
pub record FitsPort (streams : List Phys) (plan : Plan) : Type 0 where
  pub cycles : plan.cycles ≤ most_cycles
  pub each : FitEach plan.cycles streams plan.streams

-- the plan that a text spells for streams has a plan for each, with a ready bit for each cycle, and keeps the limits of gaps, masks and
-- user words
abbrev pub PlansFit : Type 0
PlansFit = (streams : List Phys) (text : List ℕ) (plan : Plan) → plan_of streams text ≡ Ok plan → FitsPort streams plan
