-- How the texts of a value and of a plan are read (this project's own).
use Rattle.std.specs.Prelude.{◌≡◌, ℕ, List, Result, Ok, Err}
use Rattle.logical_value.specs.declared.value.PortValue.{PortValue}
use Rattle.plan_text.specs.Text.{plan_of}
use Rattle.plan_text.specs.declared.fault.PlanFault.{PlanFault}
use Rattle.plan_text.specs.declared.plan.Plan.{Plan}
use Rattle.type_split.specs.Streams.{PlainSplit}
use Rattle.value_text.specs.Reading.{IsFaulty, IsValue}
use Rattle.value_text.specs.declared.fault.ValueFault.{ValueFault}
use Rattle.tydi_tool.specs.Reading.{RefusesBy}
use Rattle.tydi_tool.specs.Refusals.{refusal_of_plan, refusal_of_value}

-- the text of a value of a port is read as the value, or refused for an error that it has; the errors are of the file of this word
abbrev pub ReadsValue : List ℕ → PlainSplit → List ℕ → Result PortValue (List ℕ) → Type 0
ReadsValue word split bytes (Ok value) = IsValue split bytes value
ReadsValue word split bytes (Err line) = (fault : ValueFault) × (IsFaulty split bytes fault × RefusesBy {X = PortValue} (refusal_of_value word fault) (Err line))

-- a plan, or its first error, as the answer to a text
abbrev pub ReadsPlanned : List ℕ → Result Plan PlanFault → Result Plan (List ℕ) → Type 0
ReadsPlanned word (Ok plan) read = read ≡ Ok plan
ReadsPlanned word (Err fault) read = RefusesBy (refusal_of_plan word fault) read

-- the text of a plan for the streams of a port is read as the plan, or refused for its first error
abbrev pub ReadsPlan : List ℕ → PlainSplit → List ℕ → Result Plan (List ℕ) → Type 0
ReadsPlan word split bytes read = ReadsPlanned word (plan_of split.streams bytes) read
