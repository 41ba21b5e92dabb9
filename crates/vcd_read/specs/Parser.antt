-- A dump that is read up to some token (this project's own).
use Rattle.std.specs.Prelude.{◌≡◌, ℕ, Bool, false, if◌then◌else◌, List, ◌∷◌, map, slice_get, Some, Result, Ok, Err}
use Rattle.vcd_read.specs.Dump as dumps
use Rattle.vcd_read.specs.Dump.{MayDeclare}
use Rattle.vcd_read.specs.History.{Changes, Part, declared_width, has_ended}
use Rattle.vcd_read.specs.Letters.{letter_of}
use Rattle.vcd_read.specs.Profile.{Awaited, Beginning, DefinitionsEnd, Reached, ScopeEnd, ScopeKind, ScopeName, SectionEnd, SkippedCode, Step, UpscopeEnd}
use Rattle.vcd_read.specs.Profile.{VarCode, VarEnd, VarKind, VarName, VarRange, VarWidth, VectorCode, finished, reach}
use Rattle.vcd_read.specs.Numbers.{number_of}
use Rattle.vcd_read.specs.Tokens.{DumpToken}
use Rattle.vcd_read.specs.Wanted.{Wanted}
use Rattle.vcd_read.specs.Wires.{width_in}
use Rattle.vcd_read.specs.Words.{filled}
use Rattle.vcd_read.specs.declared.dump.Dump.{Dump}
use Rattle.vcd_read.specs.declared.parser.Parser.{Parser}
use Rattle.vcd_read.specs.declared.parser.Stage.{Stage}
use Rattle.vcd_read.specs.declared.parser.Stage.TheVariants as stages
use Rattle.vcd_read.specs.declared.parser.Stop.{Stop}
use Rattle.vcd_read.specs.declared.parser.Stop.TheVariants as stops
use Rattle.vcd_read.specs.declared.state.State.{State}

-- the token of these bytes at this place
abbrev pub token : ℕ → List ℕ → DumpToken
token offset bytes = record { offset = offset; bytes = bytes }

-- the letters of a vector are those of its states
pub record IsVector (offset : ℕ) (letters : List ℕ) (awaited : Awaited) : Type 0 where
  pub states : List State
  pub is : awaited ≡ VectorCode offset states
  pub letters_are : letters ≡ map letter_of states

-- the declarations have not ended
abbrev pub IsOpen : List Part → Type 0
IsOpen parts = has_ended parts ≡ false

-- this is what may come next after these parts, with what the part that is begun has said
abbrev pub IsAwaited : Stage → (width : ℕ) → (code name : List ℕ) → (offset : ℕ) → (vector : List ℕ) → List Part → Awaited → Type 0
IsAwaited stages.Beginning width code name offset vector parts awaited = awaited ≡ Beginning
IsAwaited stages.SectionEnd width code name offset vector parts awaited = awaited ≡ SectionEnd
IsAwaited stages.ScopeKind width code name offset vector parts awaited = awaited ≡ ScopeKind
IsAwaited stages.ScopeName width code name offset vector parts awaited = awaited ≡ ScopeName
IsAwaited stages.ScopeEnd width code name offset vector parts awaited = awaited ≡ ScopeEnd name
IsAwaited stages.UpscopeEnd width code name offset vector parts awaited = awaited ≡ UpscopeEnd
IsAwaited stages.VarKind width code name offset vector parts awaited = (awaited ≡ VarKind) × IsOpen parts
IsAwaited stages.VarWidth width code name offset vector parts awaited = (awaited ≡ VarWidth) × IsOpen parts
IsAwaited stages.VarCode width code name offset vector parts awaited = (awaited ≡ VarCode width) × IsOpen parts
IsAwaited stages.VarName width code name offset vector parts awaited = (awaited ≡ VarName width code) × MayDeclare width code parts
IsAwaited stages.VarRange width code name offset vector parts awaited = (awaited ≡ VarRange width code name) × MayDeclare width code parts
IsAwaited stages.VarEnd width code name offset vector parts awaited = (awaited ≡ VarEnd width code name) × MayDeclare width code parts
IsAwaited stages.DefinitionsEnd width code name offset vector parts awaited = awaited ≡ DefinitionsEnd
IsAwaited stages.VectorCode width code name offset vector parts awaited = IsVector offset vector awaited
IsAwaited stages.SkippedCode width code name offset vector parts awaited = awaited ≡ SkippedCode

abbrev pub Awaits : Parser → Reached → Type 0
Awaits parser reached = IsAwaited parser.stage parser.width parser.code parser.name parser.offset parser.vector reached.parts reached.awaited

-- what is reached is what is kept
pub record StandsFor (wanted : Wanted) (parser : Parser) (reached : Reached) : Type 0 where
  pub dump_is : dumps.StandsFor wanted parser.dump reached.parts
  pub awaited_is : Awaits parser reached

-- a token took what is kept to what is reached, or it is the one against the profile
abbrev pub Takes : Wanted → Result (Unit {0}) Stop → Parser → Step → Type 0
Takes wanted (Ok fine) new step = (reached : Reached) × ((step ≡ Ok reached) × StandsFor wanted new reached)
Takes wanted (Err (stops.Syntax offset)) new step = step ≡ Err offset
Takes wanted (Err stops.Memory) new step = Unit {0}

-- a token takes what is kept to this step, whatever the parts before it were
abbrev pub TakesFrom : Dump → Result (Unit {0}) Stop → Parser → (List Part → Step) → Type 0
TakesFrom old result new step = (wanted : Wanted) (parts : List Part) → dumps.StandsFor wanted old parts → Takes wanted result new (step parts)

-- the same before the declarations end
abbrev pub TakesOpen : Dump → Result (Unit {0}) Stop → Parser → (List Part → Step) → Type 0
TakesOpen old result new step = (wanted : Wanted) (parts : List Part) → dumps.StandsFor wanted old parts → IsOpen parts → Takes wanted result new (step parts)

-- the same where the code of the variable that is begun may be declared
abbrev pub TakesVariable : Parser → Result (Unit {0}) Stop → Parser → (List Part → Step) → Type 0
TakesVariable old result new step =
    (wanted : Wanted) (parts : List Part) → dumps.StandsFor wanted old.dump parts → MayDeclare old.width old.code parts → Takes wanted result new (step parts)

-- the same where a vector of some states is begun
abbrev pub TakesVector : Parser → Result (Unit {0}) Stop → Parser → (List Part → List State → Step) → Type 0
TakesVector old result new step = (wanted : Wanted) (parts : List Part) (states : List State) → dumps.StandsFor wanted old.dump parts
    → old.vector ≡ map letter_of states
    → Takes wanted result new (step parts states)

-- the code of this number changes to the vector that is begun
abbrev pub ChangesVector : ℕ → Parser → Result (Unit {0}) Stop → Parser → Type 0
ChangesVector number old result new =
    (wanted : Wanted) (parts : List Part) (states : List State) (code : List ℕ) (width : ℕ) → dumps.StandsFor wanted old.dump parts
    → old.vector ≡ map letter_of states
    → number_of old.dump.wires.codes code ≡ Some number → width_in (slice_get old.dump.wires.wires number) ≡ Some width
    → declared_width code parts ≡ Some width
    → Takes wanted result new (reach Beginning (Changes code (filled width states) ∷ parts))

-- a text may end here, or ends early, at its size
abbrev pub MayFinish : Parser → Bool → Type 0
MayFinish parser result = (wanted : Wanted) (reached : Reached) (size : ℕ) → StandsFor wanted parser reached
    → finished size reached.awaited reached.parts ≡ (if result then Ok reached.parts else Err size)

-- the next token is awaited so, and all else stays
abbrev pub Waits : Result (Unit {0}) Stop → (old new : Parser) → Stage → Type 0
Waits (Ok fine) old new stage = new ≡ record old { stage = stage }
Waits (Err e) old new stage = ⊥
