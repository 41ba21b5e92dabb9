-- The plan of a job: always ready, with neither gaps nor wishes nor user words (this project's own).
use Rattle.std.specs.Prelude.{ℕ, true, List, [], map, replicate}
use Rattle.type_split.specs.Streams.{PlainSplit}
use Rattle.type_split.specs.declared.split.Phys.{Phys}
use Rattle.plan_text.specs.declared.plan.Plan.{Plan}
use Rattle.plan_text.specs.declared.plan.StreamPlan.{StreamPlan}

-- the plan of a stream over so many cycles
abbrev pub ready_plan : ℕ → StreamPlan
ready_plan cycles = record { gaps = []; ready = replicate cycles true; wishes = []; users = [] }

-- the plan of these streams over so many cycles
abbrev pub plan_over : ℕ → List Phys → Plan
plan_over cycles streams = record { cycles = cycles; streams = map (λ (stream : Phys). ready_plan cycles) streams }

-- the plan of a port's streams in a job of so many cycles
abbrev pub job_plan : PlainSplit → ℕ → Plan
job_plan split cycles = plan_over cycles split.streams
