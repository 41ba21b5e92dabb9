-- How the bytes of a file are read: as a value, or refused with a line (this project's own).
use Rattle.std.specs.Prelude.{◌≡◌, ℕ, ◌⊎◌, List, Option, Some, None, Result, Ok, Err}
use Rattle.tydi_tool.specs.declared.answer.Answer.TheVariants as answers
use Rattle.tydi_tool.specs.declared.answer.Reply.{Reply}
use Rattle.tydi_tool.specs.declared.answer.Reply.TheVariants as replies
use Rattle.tydi_tool.specs.Refusals.{Refusal, refusal_line}

-- a text is refused by this refusal; where there is none, it is not refused
abbrev pub RefusesBy : {X : Type 0} → Option Refusal → Result X (List ℕ) → Type 0
RefusesBy (Some refusal) read = read ≡ Err (refusal_line refusal)
RefusesBy None read = ⊥

-- a value, or the refusal of an error, as the answer to a text
abbrev pub ReadsResult : {X F : Type 0} → (F → Option Refusal) → Result X F → Result X (List ℕ) → Type 0
ReadsResult refusal (Ok x) read = read ≡ Ok x
ReadsResult refusal (Err fault) read = RefusesBy (refusal fault) read

-- bytes are read as a y by way of an x: they are read as an x, of which a step makes a y, or the one or the other refuses them
abbrev pub ReadsBy : {X Y : Type 0} → (List ℕ → Result X (List ℕ) → Type 0) → (X → Result Y (List ℕ) → Type 0) → List ℕ → Result Y (List ℕ) → Type 0
ReadsBy {X} Reads Step bytes (Ok y) = (x : X) × (Reads bytes (Ok x) × Step x (Ok y))
ReadsBy {X} Reads Step bytes (Err line) = Reads bytes (Err line) ⊎ ((x : X) × (Reads bytes (Ok x) × Step x (Err line)))

-- a reading as plain data, of what it gives in code
abbrev pub Seen : {X V : Type 0} → (X → V) → (Result V (List ℕ) → Type 0) → Result X (List ℕ) → Type 0
Seen view Reads (Ok x) = Reads (Ok (view x))
Seen view Reads (Err line) = Reads (Err line)

-- the result of a reader on bytes: the value that they are read as, or the reply, which has the line that refuses them or is want
-- of memory
abbrev pub ReadsAs : {X : Type 0} → (Result X (List ℕ) → Type 0) → Result X Reply → Type 0
ReadsAs Reads (Ok x) = Reads (Ok x)
ReadsAs Reads (Err (replies.Says (answers.Refused line))) = Reads (Err line)
ReadsAs Reads (Err replies.Memory) = Unit {0}
ReadsAs Reads (Err reply) = ⊥

-- the reply that refuses by this refusal, or want of memory; want of memory alone where there is none
abbrev pub IsRefusedBy : Option Refusal → Reply → Type 0
IsRefusedBy (Some refusal) reply = (reply ≡ replies.Says (answers.Refused (refusal_line refusal))) ⊎ (reply ≡ replies.Memory)
IsRefusedBy None reply = reply ≡ replies.Memory

-- the refusal where there is nothing else
abbrev pub refusal_in : {V : Type 0} → Result V Refusal → Option Refusal
refusal_in (Ok v) = None
refusal_in (Err refusal) = Some refusal

-- a step gives the expected value, seen as plain data, or the reply with the expected refusal, or want of memory
abbrev pub Gives : {X V : Type 0} → (X → V) → Result V Refusal → Result X Reply → Type 0
Gives view wanted (Ok x) = wanted ≡ Ok (view x)
Gives view wanted (Err reply) = IsRefusedBy (refusal_in wanted) reply
