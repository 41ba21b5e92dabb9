-- The bytes of the two sinks after a run (this project's own).
use Rattle.std.specs.Prelude.{◌≡◌, ℕ, ◌<◌, ◌≤◌, ◌⊎◌, List, [], ◌++◌, length, take, Option, option_map, Result, Ok, Err}
use Rattle.tydi_tool.specs.declared.answer.Reply.{Reply}
use Rattle.tydi_tool.specs.declared.delivery.WriteError.{WriteError}
use Rattle.tydi_tool.specs.declared.delivery.WriteError.TheVariants as errors
use Rattle.tydi_tool.specs.declared.status.Status.{Status}
use Rattle.tydi_tool.specs.declared.status.Status.TheVariants as statuses
use Rattle.tydi_tool.specs.Outcome.{out_of, err_of, status_of, memory_line, write_fault_line}

-- a sink that reports its bytes has these more
abbrev pub Adds : Option (List ℕ) → Option (List ℕ) → List ℕ → Type 0
Adds old new bytes = new ≡ option_map (λ taken. taken ++ bytes) old

-- it has some front of these more
pub record AddsFront (old new : Option (List ℕ)) (whole : List ℕ) : Type 0 where
  pub count : ℕ
  pub within : count ≤ length whole
  pub added : Adds old new (take count whole)

-- it has a front of these more that is not all of them
pub record AddsPart (old new : Option (List ℕ)) (whole : List ℕ) : Type 0 where
  pub count : ℕ
  pub shorter : count < length whole
  pub added : Adds old new (take count whole)

-- a text that is made as it is written: all of it, or a front where the sink failed, or one that is not all where there was no
-- memory for the rest
abbrev pub Writes : {T : Type 0} → Type 0 → Result T WriteError → (old new : Option (List ℕ)) → List ℕ → Type 0
Writes rose (Ok _) old new text = Adds old new text
Writes rose (Err errors.Failed) old new text = rose × ((0 < length text) × AddsFront old new text)
Writes rose (Err errors.Memory) old new text = AddsPart old new text

-- the next piece of a text: it was made and written, or a front of it where the sink failed, or it was not made
abbrev pub WritesPiece : {T : Type 0} → Type 0 → Result T WriteError → (old new : Option (List ℕ)) → (text left : List ℕ) → Type 0
WritesPiece rose (Ok _) old new text left = (piece : List ℕ) × ((text ≡ piece ++ left) × ((0 < length piece) × Adds old new piece))
WritesPiece rose (Err errors.Failed) old new text left = rose × AddsFront old new text
WritesPiece rose (Err errors.Memory) old new text left = Adds old new []

-- a line for err, with the status that it is to end with: all was written, or err failed over it
pub record IsLined (status wanted : Status) (err_old err_new : Option (List ℕ)) (line : List ℕ) : Type 0 where
  pub ends : status ≡ wanted
  pub err : Adds err_old err_new line

pub record IsCut (err_rose : Type 0) (status : Status) (err_old err_new : Option (List ℕ)) (line : List ℕ) : Type 0 where
  pub rose : err_rose
  pub some : 0 < length line
  pub ends : status ≡ statuses.WriteFault
  pub err : AddsFront err_old err_new line

abbrev pub TakesLine : (err_rose : Type 0) → (status wanted : Status) → (err_old err_new : Option (List ℕ)) → List ℕ → Type 0
TakesLine err_rose status wanted err_old err_new line = IsLined status wanted err_old err_new line ⊎ IsCut err_rose status err_old err_new line

-- out has all of its text, if any, and err its line, if any, or a front of it where err failed
pub record IsWritten (err_rose : Type 0) (reply : Reply) (status : Status) (out_old out_new err_old err_new : Option (List ℕ)) : Type 0 where
  pub out : Adds out_old out_new (out_of reply)
  pub err : TakesLine err_rose status (status_of reply) err_old err_new (err_of reply)

-- out failed over a text that is not empty: it has a front of its text, and err the line of WriteFault, or, where err failed too,
-- a front of it
pub record OutFails (out_rose err_rose : Type 0) (text : List ℕ) (status : Status) (out_old out_new err_old err_new : Option (List ℕ)) : Type 0 where
  pub rose : out_rose
  pub some : 0 < length text
  pub ends : status ≡ statuses.WriteFault
  pub out : AddsFront out_old out_new text
  pub err : Adds err_old err_new write_fault_line ⊎ (err_rose × AddsFront err_old err_new write_fault_line)

-- there was no memory for the rest of a text: out has a front of it that is not all, and err the line of want of memory
pub record OutWants (err_rose : Type 0) (text : List ℕ) (status : Status) (out_old out_new err_old err_new : Option (List ℕ)) : Type 0 where
  pub out : AddsPart out_old out_new text
  pub err : TakesLine err_rose status statuses.Memory err_old err_new memory_line

-- a text for out, with the status that it is to end with: all was written and err is as before; or out failed; or memory was
-- missing
abbrev pub DeliversText : (out_rose err_rose : Type 0) → List ℕ → (wanted status : Status) → (out_old out_new err_old err_new : Option (List ℕ)) → Type 0
DeliversText out_rose err_rose text wanted status out_old out_new err_old err_new =
    ((status ≡ wanted) × (Adds out_old out_new text × Adds err_old err_new []))
    ⊎ (OutFails out_rose err_rose text status out_old out_new err_old err_new ⊎ OutWants err_rose text status out_old out_new err_old err_new)

-- how a reply is delivered
abbrev pub Delivers : (out_rose err_rose : Type 0) → Reply → Status → (out_old out_new err_old err_new : Option (List ℕ)) → Type 0
Delivers out_rose err_rose reply status out_old out_new err_old err_new =
    IsWritten err_rose reply status out_old out_new err_old err_new
    ⊎ (OutFails out_rose err_rose (out_of reply) status out_old out_new err_old err_new ⊎ OutWants err_rose (out_of reply) status out_old out_new err_old err_new)
