-- A command as one value: it asks for files, one after another, and ends with an answer. The definitions over it state, once and
-- for any number of files, the answer and the file that decides (this project's own).
use Rattle.std.specs.Prelude.{◌≡◌, ℕ, ◌⊎◌, List, [], ◌∷◌, Option, IfSome, Result, Ok, Err}
use Rattle.tydi_io.specs.Store.{Files}
use Rattle.tydi_tool.specs.declared.answer.Answer.{Answer}
use Rattle.tydi_tool.specs.declared.answer.Answer.TheVariants as answers
use Rattle.tydi_tool.specs.declared.answer.Reply.{Reply}
use Rattle.tydi_tool.specs.declared.answer.Reply.TheVariants as replies
use Rattle.tydi_tool.specs.Refusals.{Refusal, refusal_line}
use Rattle.tydi_tool.specs.Words.{FileWord}
use Rattle.tydi_tool.specs.Outcome.{read_fault_line}
use Rattle.tydi_tool.specs.Files.{Lack, lack_line, IsFound, IsPulled, IsGiven}

-- a command ends with an answer, as a relation says; or it asks for a file within its limit, whose bytes are read as an x or
-- refused with a line, and goes on with x
pub data Ask : Type 1 where
  Ends : (Answer → Type 0) → Ask
  Asks : FileWord → (X : Type 0) → (List ℕ → Result X (List ℕ) → Type 0) → (X → Ask) → Ask

-- With what a step gives of what was read, a command goes on; or it ends with the refusal. A step that reads without a file is of
-- this kind, as of a text that stands in another: the value and the plan that a declared test holds, or the links of a body. It asks
-- for nothing, so the file that decides is the one before it, and the store stays where it stood; and what it gives is a function of
-- what was read, so there is one refusal, with its name and its details. A command on a declared test is then
--   project_ask project (λ read. goes_on (test_at read test) (λ found. goes_on (value_in found) (λ value.
--     goes_on (plan_in found) (λ plan. Ends (λ a. a ≡ output_answer (text found value plan))))))
-- and a check of links is `goes_on (linked read) next`, whose `linked` gives the links or the refusal at the first bad place. Only a
-- reading that is a relation, of which no function says what it gives, would need a constructor of its own.
abbrev pub goes_on : {V : Type 0} → Result V Refusal → (V → Ask) → Ask
goes_on (Ok v) next = next v
goes_on (Err refusal) next = Ends (λ a. a ≡ answers.Refused (refusal_line refusal))

-- the answer at the end where a step is the last: by the value that it gives, or the refusal
abbrev pub TellsOf : {V : Type 0} → Result V Refusal → (V → Answer → Type 0) → Answer → Type 0
TellsOf (Ok v) Tells a = Tells v a
TellsOf (Err refusal) Tells a = a ≡ answers.Refused (refusal_line refusal)

-- ---- the answer

-- by what is found of a file: it is lacking, its bytes are refused with the line of the answer, or they are read as an x of which
-- the rest holds
abbrev pub SaysOfBytes : {X : Type 0} → (List ℕ → Result X (List ℕ) → Type 0) → (X → Type 0) → List ℕ → Answer → Type 0
SaysOfBytes {X} Reads Rest bytes a =
    ((line : List ℕ) × (Reads bytes (Err line) × (a ≡ answers.Refused line))) ⊎ ((x : X) × (Reads bytes (Ok x) × Rest x))

abbrev pub SaysOfFile : {X : Type 0} → (List ℕ → Result X (List ℕ) → Type 0) → (X → Type 0) → List ℕ → Result (List ℕ) Lack → Answer → Type 0
SaysOfFile Reads Rest word (Ok bytes) a = SaysOfBytes Reads Rest bytes a
SaysOfFile Reads Rest word (Err lack) a = a ≡ answers.Refused (lack_line lack word)

-- the answer to files that the store may have; where the store reports its files, to these
abbrev pub SaysBy : Option Files → Ask → Answer → Type 0
SaysBy told (Ends Tells) a = Tells a
SaysBy told (Asks file X Reads next) a =
    (found : Result (List ℕ) Lack) × (IsFound told file found × SaysOfFile {X = X} Reads (λ x. SaysBy told (next x) a) file.word found a)

-- ---- which file decides

-- such an answer, or want of memory
abbrev pub Judges : (Answer → Type 0) → Reply → Type 0
Judges Tells (replies.Says a) = Tells a
Judges Tells (replies.ReadFault line) = ⊥
Judges Tells replies.Memory = Unit {0}

-- a file is lacking; or a call of the store failed over it, and it was given within its limit; or memory was missing, then or
-- before it was started
abbrev pub Stops : Option Files → FileWord → Option (List ℕ × ℕ) → (rose here : Type 0) → Reply → Type 0
Stops told file started rose here (replies.Says a) =
    (lack : Lack) × (IsFound told file (Err lack) × ((a ≡ answers.Refused (lack_line lack file.word)) × IsPulled told file started))
Stops told file started rose here (replies.ReadFault line) = rose × ((line ≡ read_fault_line file.word) × IfSome told (λ known. IsGiven known file started))
Stops told file started rose here replies.Memory = here ⊎ IfSome told (λ known. IsGiven known file started)

-- bytes of a file are refused, and it is the started one; or they are read as an x of which the rest holds
abbrev pub DecidesBytes : {X : Type 0} → (List ℕ → Result X (List ℕ) → Type 0) → (X → Type 0) → Type 0 → List ℕ → Reply → Type 0
DecidesBytes {X} Reads Rest pulled bytes reply =
    ((line : List ℕ) × (Reads bytes (Err line) × ((reply ≡ replies.Says (answers.Refused line)) × pulled))) ⊎ ((x : X) × (Reads bytes (Ok x) × Rest x))

-- the reply of a command, the file that decides it, and the file that is started at the end: a file is asked for only after those
-- before it were found and read. `here` says where the store stands if no more file is asked for.
abbrev pub DecidedBy : Option Files → Option (List ℕ × ℕ) → (rose here : Type 0) → Ask → Reply → Type 0
DecidedBy told started rose here (Ends Tells) reply = Judges Tells reply × here
DecidedBy told started rose here (Asks file X Reads next) reply =
    Stops told file started rose here reply
    ⊎ ((bytes : List ℕ) × (IsFound told file (Ok bytes)
    × DecidesBytes {X = X} Reads (λ x. DecidedBy told started rose (IsPulled told file started) (next x) reply) (IsPulled told file started) bytes reply))

-- the same of a whole command: without a file the store stands as before
abbrev pub Decides : Option Files → (old new : Option (List ℕ × ℕ)) → Type 0 → Ask → Reply → Type 0
Decides told old new rose ask reply = DecidedBy told new rose (IfSome told (λ known. new ≡ old)) ask reply

-- ---- a file of a command

-- a file that was asked for: it was read as an x, or it decides the reply
abbrev pub IsAsked : {X : Type 0} → Option Files → FileWord → (List ℕ → Result X (List ℕ) → Type 0) → (old new : Option (List ℕ × ℕ)) → Type 0 → Result X Reply → Type 0
IsAsked told file Reads old started rose (Ok x) = (bytes : List ℕ) × (IsFound told file (Ok bytes) × (Reads bytes (Ok x) × IsPulled told file started))
IsAsked told file Reads old started rose (Err reply) =
    Stops told file started rose (IfSome told (λ known. started ≡ old)) reply
    ⊎ ((bytes : List ℕ) × (IsFound told file (Ok bytes) × ((line : List ℕ) × (Reads bytes (Err line) × ((reply ≡ replies.Says (answers.Refused line)) × IsPulled told file started)))))

-- the files that a command may ask for are these, in this order, up to where it ends
abbrev pub AsksFor : List FileWord → Ask → Type 0
AsksFor files (Ends Tells) = Unit {0}
AsksFor [] (Asks file X Reads next) = ⊥
AsksFor (first ∷ more) (Asks file X Reads next) = (file ≡ first) × ((x : X) → AsksFor more (next x))

-- it asks for a file at least
abbrev pub AsksSome : Ask → Type 0
AsksSome (Ends Tells) = ⊥
AsksSome (Asks file X Reads next) = Unit {0}
