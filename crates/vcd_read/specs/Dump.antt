-- What is kept of a value change dump (this project's own).
use Rattle.std.specs.Prelude.{◌≡◌, ℕ, Bool, true, false, List}
use Rattle.vcd_read.specs.History.{Part, declared_width, has_ended, open_scopes, time_back, time_of}
use Rattle.vcd_read.specs.Profile.{may_have_width}
use Rattle.vcd_read.specs.Sampling as sampling
use Rattle.vcd_read.specs.Variables as variables
use Rattle.vcd_read.specs.Wires as wires
use Rattle.vcd_read.specs.Wanted.{Wanted}
use Rattle.vcd_read.specs.declared.dump.Dump.{Dump}
use Rattle.vcd_read.specs.declared.sampler.Sampler.{Sampler}
use Rattle.vcd_read.specs.declared.scopes.Scopes.{Scopes}
use Rattle.vcd_read.specs.declared.times.Times.{Times}
use Rattle.vcd_read.specs.declared.variables.Variables.{Variables}
use Rattle.vcd_read.specs.declared.wires.Wires.{Wires}

-- what is kept is what these parts say, of the wanted signals
pub record IsKept (wanted : Wanted) (scopes : Scopes) (ended : Bool) (kept : Wires) (named : Variables) (times : Times) (sampler : Sampler)
    (parts : List Part) : Type 0 where
  pub open_are : scopes.open ≡ open_scopes parts
  pub wanted_is : scopes.wanted ≡ wanted.scope
  pub ended_is : ended ≡ has_ended parts
  pub wires_are : wires.StandFor kept parts
  pub variables_are : variables.StandFor kept.codes wanted.scope named parts
  pub last : times.last ≡ time_of parts
  pub back : times.back ≡ time_back parts
  pub sampled : sampling.StandsFor wanted kept.codes sampler parts

abbrev pub StandsFor : Wanted → Dump → List Part → Type 0
StandsFor wanted dump parts = IsKept wanted dump.scopes dump.ended dump.wires dump.variables dump.times dump.sampler parts

-- it stands for some parts
abbrev pub StandsForSome : Dump → Type 0
StandsForSome dump = (wanted : Wanted) × ((parts : List Part) × StandsFor wanted dump parts)

-- the declarations have not ended, and this code may be declared with this width after these parts
abbrev pub MayDeclare : (width : ℕ) → (code : List ℕ) → List Part → Type 0
MayDeclare width code parts = (may_have_width (declared_width code parts) width ≡ true) × (has_ended parts ≡ false)
