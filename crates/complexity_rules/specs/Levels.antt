-- Every greater level allows what one level allows (this project's own).
use Rattle.std.specs.Prelude.{◌≡◌, ℕ, ◌≤◌, ◌↔◌, List, length, slice_get, Some}
use Rattle.tydi_base.specs.Level.{IsAtMost, LevelNumbers, number_of}
use Rattle.physical_stream.specs.Params.{Parameters}
use Rattle.physical_stream.specs.Items.{items_of_all}
use Rattle.physical_stream.specs.Cycles.{Cycle, StreamTrace, done_in}
use Rattle.physical_stream.specs.Breaks.{Breaking, BreaksAfter}
use Rattle.physical_stream.specs.Ending.{ending_of}
use Rattle.physical_stream.specs.First.{Offence, OffendsBy}
use Rattle.physical_stream.specs.Levels.{at_level}
use Rattle.physical_stream.specs.Rules.{Binds}
use Rattle.physical_stream.specs.declared.rule.Rule.{Rule}

-- a rule that binds at a level binds at every level that is at most it
abbrev pub RulesBindBelow : Type 0
RulesBindBelow = (rule : Rule) (lower level : LevelNumbers) → IsAtMost lower level → Binds rule level → Binds rule lower

-- two levels with one first number bind the same rules
abbrev pub FirstNumbersBind : Type 0
FirstNumbersBind = (rule : Rule) (level other : LevelNumbers) → number_of level ≡ number_of other → Binds rule level ↔ Binds rule other

-- the same cycles of the same stream, at a level whose first number is not lower
pub record IsRaised (from to : StreamTrace) : Type 0 where
  pub cycles : to.cycles ≡ from.cycles
  pub params : to.params ≡ at_level to.params.level from.params
  pub level : number_of from.params.level ≤ number_of to.params.level

-- so it is at every level that the first one is at most
abbrev pub AtMostIsRaised : Type 0
AtMostIsRaised =
    (from to : StreamTrace) → to.cycles ≡ from.cycles → to.params ≡ at_level to.params.level from.params → IsAtMost from.params.level to.params.level → IsRaised from to

-- each stream of the first list stands in the second one, at its own place, at a level whose first number is not lower
pub record AreRaised (from to : List StreamTrace) : Type 0 where
  pub many : length to ≡ length from
  pub each : (stream : ℕ) (low high : StreamTrace) → slice_get from stream ≡ Some low → slice_get to stream ≡ Some high → IsRaised low high

-- a cycle that breaks a rule at a level breaks it at every lower one
abbrev pub BreaksBelow : Breaking → Type 0
BreaksBelow Broken =
    (rule : Rule) (level : LevelNumbers) (p : Parameters) (before : List Cycle) (now : Cycle) → number_of p.level ≤ number_of level →
    Broken rule (at_level level p) before now → Broken rule p before now

-- rules 1 to 10 are such
abbrev pub RulesBreakBelow : Type 0
RulesBreakBelow = BreaksBelow BreaksAfter

-- an offence at the greater levels is one at the lower ones, by the violations of each stream: a trace without offence there has
-- none here
abbrev pub OffencesFallBy : (ℕ → Breaking) → Type 0
OffencesFallBy Broken = (from to : List StreamTrace) (o : Offence) → AreRaised from to → OffendsBy Broken to o → OffendsBy Broken from o

-- so it is by rules 1 to 10
abbrev pub OffencesFall : Type 0
OffencesFall = OffencesFallBy (λ stream. BreaksAfter)

-- the items that are done in each cycle do not depend on the level
abbrev pub ItemsStay : Type 0
ItemsStay = (from to : StreamTrace) (now : Cycle) → IsRaised from to → items_of_all to.params (done_in now) ≡ items_of_all from.params (done_in now)

-- the ending does not depend on the level
abbrev pub EndingStays : Type 0
EndingStays = (from to : StreamTrace) → IsRaised from to → ending_of to.params to.cycles ≡ ending_of from.params from.cycles
