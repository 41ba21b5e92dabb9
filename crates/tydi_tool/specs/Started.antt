-- Which files a command leaves started (this project's own).
use Rattle.std.specs.Prelude.{◌≡◌, ℕ, ◌⊎◌, if◌then◌else◌, List, [], ◌∷◌, Option, Some, None, IfSome, is_none}
use Rattle.tydi_io.specs.Store.{Files}
use Rattle.tydi_tool.specs.declared.answer.Reply.{Reply}
use Rattle.tydi_tool.specs.declared.answer.Reply.TheVariants as replies
use Rattle.tydi_tool.specs.Words.{FileWord}
use Rattle.tydi_tool.specs.Outcome.{read_fault_line}
use Rattle.tydi_tool.specs.Files.{pulled_out, IsGiven}

-- the file is one of these
abbrev pub IsOneOf : List FileWord → FileWord → Type 0
IsOneOf [] file = ⊥
IsOneOf (first ∷ more) file = (file ≡ first) ⊎ IsOneOf more file

-- the first of these words that the store lacks
abbrev pub first_lacking : Files → List FileWord → Option (List ℕ)
first_lacking known [] = None
first_lacking known (file ∷ more) = if is_none (known file.word) then Some file.word else first_lacking known more

-- a file of the command was pulled to its end or to one byte past its limit; where there is no such file, none is started
pub record IsPulledOut (known : Files) (files : List FileWord) (started : Option (List ℕ × ℕ)) : Type 0 where
  pub file : FileWord
  pub named : IsOneOf files file
  pub place : started ≡ pulled_out known file

-- a file of the command is started and gave at most one byte more than its limit; where there is no such file, none is started
pub record IsGivenOne (known : Files) (files : List FileWord) (started : Option (List ℕ × ℕ)) : Type 0 where
  pub file : FileWord
  pub named : IsOneOf files file
  pub given : IsGiven known file started

-- no file was started, or one was, within its limit
abbrev pub StartsWithin : Files → List FileWord → (old new : Option (List ℕ × ℕ)) → Type 0
StartsWithin known files old new = (new ≡ old) ⊎ IsGivenOne known files new

-- the word is that of the started file; where none is started, it is the first word that the store lacks
abbrev pub NamesStarted : Files → List FileWord → Option (List ℕ × ℕ) → List ℕ → Type 0
NamesStarted known files None word = first_lacking known files ≡ Some word
NamesStarted known files (Some (name, given)) word = name ≡ word

-- a call of the store failed, and the line names the file
pub record NamesFailed (faulty : Type 0) (told : Option Files) (files : List FileWord) (new : Option (List ℕ × ℕ)) (line : List ℕ) : Type 0 where
  pub rose : faulty
  pub file : FileWord
  pub named : IsOneOf files file
  pub says : line ≡ read_fault_line file.word
  pub starts : IfSome told (λ known. IsGivenOne known files new × NamesStarted known files new file.word)

-- which file a command of these files leaves started with this reply
abbrev pub Leaves : Option Files → List FileWord → (old new : Option (List ℕ × ℕ)) → Type 0 → Reply → Type 0
Leaves told files old new rose (replies.Says a) = IfSome told (λ known. IsPulledOut known files new)
Leaves told files old new rose (replies.ReadFault line) = NamesFailed rose told files new line
Leaves told files old new rose replies.Memory = IfSome told (λ known. StartsWithin known files old new)
