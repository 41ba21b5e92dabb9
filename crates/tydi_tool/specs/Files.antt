-- The bytes that are found of a file, and how far it was given (this project's own).
use Rattle.std.specs.Prelude.{◌≡◌, ℕ, ◌+◌, ◌≤◌, nat_lt, if◌then◌else◌, List, length, min, Option, Some, None, IfSome, option_map, MatchOption, Result, Ok, Err, codes}
use Rattle.tydi_io.specs.Store.{Files}
use Rattle.tydi_tool.specs.Words.{FileWord}
use Rattle.tydi_tool.specs.Refusals.{of_file, refusal_line}

-- why there are no bytes of a file to read: the store has no such file, or it has more bytes than its limit
pub data Lack : Type 0 where
  NoFile : Lack
  TooLong : Lack

abbrev pub lack_name : Lack → List ℕ
lack_name NoFile = codes "NoFile"
lack_name TooLong = codes "TooLong"

abbrev pub lack_line : Lack → List ℕ → List ℕ
lack_line lack word = refusal_line (of_file (lack_name lack) word)

abbrev pub bytes_within : ℕ → Option (List ℕ) → Result (List ℕ) Lack
bytes_within limit None = Err NoFile
bytes_within limit (Some bytes) = if nat_lt limit (length bytes) then Err TooLong else Ok bytes

-- the bytes of a file, where it is there and not too long
abbrev pub file_of : Files → FileWord → Result (List ℕ) Lack
file_of known file = bytes_within file.limit (known file.word)

-- the bytes that may be found of a file: those that the store reports; where it reports nothing, any bytes within the limit, or
-- none
abbrev pub IsFound : Option Files → FileWord → Result (List ℕ) Lack → Type 0
IsFound (Some known) file found = file_of known file ≡ found
IsFound None file (Ok bytes) = length bytes ≤ file.limit
IsFound None file (Err lack) = Unit {0}

-- the place in a file once it was pulled to its end or to one byte past its limit; none where there is no such file
abbrev pub pulled_out : Files → FileWord → Option (List ℕ × ℕ)
pulled_out known file = option_map (λ bytes. (file.word, min (length bytes) (file.limit + 1))) (known file.word)

-- the file was pulled so, and is the started one
abbrev pub IsPulled : Option Files → FileWord → Option (List ℕ × ℕ) → Type 0
IsPulled told file started = IfSome told (λ known. started ≡ pulled_out known file)

-- the file is started, and at most one byte more than its limit was given
pub record GivenWithin (file : FileWord) (bytes : List ℕ) (started : Option (List ℕ × ℕ)) : Type 0 where
  pub given : ℕ
  pub within : given ≤ length bytes
  pub limited : given ≤ file.limit + 1
  pub place : started ≡ Some (file.word, given)

-- the same, or there is no such file, and none is started
abbrev pub IsGiven : Files → FileWord → Option (List ℕ × ℕ) → Type 0
IsGiven known file started = MatchOption (known file.word) (started ≡ None) (λ bytes. GivenWithin file bytes started)
