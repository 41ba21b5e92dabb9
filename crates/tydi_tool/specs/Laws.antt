-- Laws of the definitions: to given words and files there is an answer, and one.
use Rattle.std.specs.Prelude.{◌≡◌, ℕ, List, Some, Result, Ok, Err}
use Rattle.tydi_io.specs.Store.{Files}
use Rattle.tydi_tool.specs.declared.answer.Answer.{Answer}
use Rattle.tydi_tool.specs.Words.{Request}
use Rattle.tydi_tool.specs.Ask.{Ask, Ends, Asks, SaysBy}
use Rattle.tydi_tool.specs.Commands.{ask_of}

-- bytes are read in one way
pub record ReadsOnce {X : Type 0} (Reads : List ℕ → Result X (List ℕ) → Type 0) : Type 0 where
  pub same : (bytes : List ℕ) (x y : X) → Reads bytes (Ok x) → Reads bytes (Ok y) → x ≡ y
  pub apart : (bytes : List ℕ) (x : X) (line : List ℕ) → Reads bytes (Ok x) → Reads bytes (Err line) → ⊥
  pub lines : (bytes one other : List ℕ) → Reads bytes (Err one) → Reads bytes (Err other) → one ≡ other

-- a command reads each file in one way, and says one thing at its end
abbrev pub AsksOnce : Ask → Type 0
AsksOnce (Ends Tells) = (a b : Answer) → Tells a → Tells b → a ≡ b
AsksOnce (Asks file X Reads next) = ReadsOnce Reads × ((bytes : List ℕ) (x : X) → Reads bytes (Ok x) → AsksOnce (next x))

-- it is not so that there is none
abbrev pub HasSome : (A : Type 0) → (A → Type 0) → Type 0
HasSome A P = ((a : A) → P a → ⊥) → ⊥

-- whatever the bytes, they are read or refused, and at the end something is said
abbrev pub AsksAlways : Ask → Type 0
AsksAlways (Ends Tells) = HasSome Answer Tells
AsksAlways (Asks file X Reads next) =
    ((bytes : List ℕ) → HasSome (Result X (List ℕ)) (Reads bytes)) × ((bytes : List ℕ) (x : X) → Reads bytes (Ok x) → AsksAlways (next x))

-- to given words and files there is one answer
abbrev pub OneAnswer : Type 0
OneAnswer = (request : Request) (told : Files) (a b : Answer) → SaysBy (Some told) (ask_of request) a → SaysBy (Some told) (ask_of request) b → a ≡ b

-- to given words and files there is an answer
abbrev pub SomeAnswer : Type 0
SomeAnswer = (request : Request) (told : Files) → HasSome Answer (SaysBy (Some told) (ask_of request))
