-- A file that is started, pulled, and fed to a reader piece by piece (this project's own).
use Rattle.std.specs.Prelude.{◌≡◌, ℕ, ◌≤◌, ◌⊎◌, List, [], ◌++◌, length, take, Option, Some, IfSome, Result, Ok, Err}
use Rattle.tydi_io.specs.Faults.{Rose}
use Rattle.tydi_io.specs.Store.{Files, left_of, given_more}
use Rattle.tydi_tool.specs.declared.answer.Answer.TheVariants as answers
use Rattle.tydi_tool.specs.declared.answer.Reply.{Reply}
use Rattle.tydi_tool.specs.declared.answer.Reply.TheVariants as replies
use Rattle.tydi_tool.specs.declared.loading.LoadError.{LoadError}
use Rattle.tydi_tool.specs.declared.loading.LoadError.TheVariants as errors
use Rattle.tydi_tool.specs.Outcome.{read_fault_line}
use Rattle.tydi_tool.specs.Words.{FileWord}
use Rattle.tydi_tool.specs.Files.{NoFile, TooLong, lack_line, IsFound, IsPulled, IsGiven}

-- a reader was fed these bytes: whatever follows them, it reads as the reader before it reads all
abbrev pub IsFed : {X : Type 0} → (old new : List ℕ → Result X (List ℕ) → Type 0) → List ℕ → Type 0
IsFed {X} old new bytes = (rest : List ℕ) (read : Result X (List ℕ)) → new rest read → old (bytes ++ rest) read

-- the file was found and pulled to its end, and the reader was fed all of it
pub record IsLoaded {X : Type 0} (told : Option Files) (file : FileWord) (started : Option (List ℕ × ℕ)) (old new : List ℕ → Result X (List ℕ) → Type 0) : Type 0 where
  pub bytes : List ℕ
  pub found : IsFound told file (Ok bytes)
  pub pulled : IsPulled told file started
  pub fed : IsFed old new bytes

-- the result of a load, and where it leaves the file
abbrev pub Loads : {X T : Type 0} → Option Files → FileWord → Option (List ℕ × ℕ) → (old new : List ℕ → Result X (List ℕ) → Type 0) → Result T LoadError → Type 0
Loads told file started old new (Ok _) = IsLoaded told file started old new
Loads told file started old new (Err errors.NoFile) = IsFound told file (Err NoFile) × IsPulled told file started
Loads told file started old new (Err errors.TooLong) = IsFound told file (Err TooLong) × IsPulled told file started
Loads told file started old new (Err errors.ReadFault) = IfSome told (λ known. IsGiven known file started)
Loads told file started old new (Err errors.Memory) = IfSome told (λ known. IsGiven known file started)

-- the store's faults never fall, and a load fails to read only where they rose
pub record ReadsFaults {T : Type 0} (before after : ℕ) (result : Result T LoadError) : Type 0 where
  pub later : before ≤ after
  pub rose : result ≡ Err errors.ReadFault → Rose before after

-- the file is there, and is started at its first byte
pub record IsAtStart (known : Files) (word : List ℕ) (started : Option (List ℕ × ℕ)) : Type 0 where
  pub file : List ℕ
  pub named : known word ≡ Some file
  pub place : started ≡ Some (word, 0)

-- one pull gave these bytes, none only at the end
pub record Gives (known : Files) (before after : Option (List ℕ × ℕ)) (more : List ℕ) : Type 0 where
  pub within : length more ≤ length (left_of known before)
  pub bytes : more ≡ take (length more) (left_of known before)
  pub ends : more ≡ [] → left_of known before ≡ []
  pub place : after ≡ given_more before (length more)

-- one pull gave so many bytes, and the reader was fed them
pub record IsFedMore {X : Type 0} (told : Option Files) (before after : Option (List ℕ × ℕ)) (old new : List ℕ → Result X (List ℕ) → Type 0) (count : ℕ) : Type 0 where
  pub more : List ℕ
  pub counted : length more ≡ count
  pub gives : IfSome told (λ known. Gives known before after more)
  pub fed : IsFed old new more

-- one pull gave at most so many bytes, and there was no memory for the reader to take them
pub record IsFedNoMore (told : Option Files) (before after : Option (List ℕ × ℕ)) (room : ℕ) : Type 0 where
  pub more : List ℕ
  pub limited : length more ≤ room
  pub gives : IfSome told (λ known. Gives known before after more)

-- the result of one pull into so much room
abbrev pub Feeds : {X : Type 0} → Option Files → (before after : Option (List ℕ × ℕ)) → (old new : List ℕ → Result X (List ℕ) → Type 0) → ℕ → Result ℕ LoadError → Type 0
Feeds told before after old new room (Ok count) = IsFedMore told before after old new count
Feeds told before after old new room (Err errors.ReadFault) = IfSome told (λ known. after ≡ before)
Feeds told before after old new room (Err errors.Memory) = IsFedNoMore told before after room
Feeds told before after old new room (Err error) = ⊥

-- the reply where a file was not loaded: its line, or want of memory for it
abbrev pub RepliesToError : List ℕ → LoadError → Reply → Type 0
RepliesToError word errors.NoFile reply = (reply ≡ replies.Says (answers.Refused (lack_line NoFile word))) ⊎ (reply ≡ replies.Memory)
RepliesToError word errors.TooLong reply = (reply ≡ replies.Says (answers.Refused (lack_line TooLong word))) ⊎ (reply ≡ replies.Memory)
RepliesToError word errors.ReadFault reply = (reply ≡ replies.ReadFault (read_fault_line word)) ⊎ (reply ≡ replies.Memory)
RepliesToError word errors.Memory reply = reply ≡ replies.Memory
