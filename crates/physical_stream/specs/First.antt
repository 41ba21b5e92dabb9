-- The first offence of a trace (this project's own).
use Rattle.std.specs.Prelude.{◌≡◌, ℕ, ◌<◌, ◌≤◌, List, ◌⊎◌, Option, Some, None, slice_get}
use Rattle.physical_stream.specs.Cycles.{StreamTrace}
use Rattle.physical_stream.specs.Breaks.{Breaking, BreaksAfter, BreaksBy}
use Rattle.physical_stream.specs.Rules.{number_of_rule}
use Rattle.physical_stream.specs.declared.rule.Rule.{Rule}

-- in this cycle this stream breaks this rule; cycles and streams are numbered from 0
pub record Offence : Type 0 where
  pub cycle : ℕ
  pub stream : ℕ
  pub rule : Rule

-- at least as early: by cycle, then by stream, then by rule
abbrev pub IsNotAfter : Offence → Offence → Type 0
IsNotAfter a b = (a.cycle < b.cycle) ⊎ ((a.cycle ≡ b.cycle) × ((a.stream < b.stream) ⊎ ((a.stream ≡ b.stream) × (number_of_rule a.rule ≤ number_of_rule b.rule))))

-- the least of all offences, or none where there is none. The caller passes what counts as one, since the rule on tags needs
-- types.
abbrev pub IsFirst : (Offence → Type 0) → Option Offence → Type 0
IsFirst Offends None = (o : Offence) → Offends o → ⊥
IsFirst Offends (Some first) = Offends first × ((o : Offence) → Offends o → IsNotAfter first o)

-- the offences of a trace by what breaks the rules of each of its streams
pub record OffendsBy (Broken : ℕ → Breaking) (streams : List StreamTrace) (o : Offence) : Type 0 where
  pub trace : StreamTrace
  pub stands : slice_get streams o.stream ≡ Some trace
  pub breaks : BreaksBy (Broken o.stream) o.rule trace.params trace.cycles o.cycle

-- the offences of a trace by rules 1 to 10
abbrev pub Offends : List StreamTrace → Offence → Type 0
Offends streams o = OffendsBy (λ stream. BreaksAfter) streams o
