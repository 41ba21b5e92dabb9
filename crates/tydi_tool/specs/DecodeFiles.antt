-- A reader of the text of the trace of a port, which comes in pieces (this project's own).
use Rattle.std.specs.Prelude.{◌≡◌, ℕ, List, [], ◌++◌, Result}
use Rattle.trace_decode.specs.Texts.{IsFed, split_of}
use Rattle.type_split.specs.Streams.{PlainSplit}
use Rattle.tydi_tool.specs.declared.decode_file.DecodeFile.{DecodeFile}
use Rattle.tydi_tool.specs.declared.decoding.Decoding.{Decoding}
use Rattle.tydi_tool.specs.Decodes.{ReadsOutcome, outcome_in}
use Rattle.tydi_tool.specs.Reading.{Seen}

-- it was fed some bytes
abbrev pub IsFedSome : DecodeFile → Type 0
IsFedSome file = (bytes : List ℕ) × IsFed file.decoder bytes

-- with these bytes after all that it was fed
abbrev pub decodes_after : DecodeFile → List ℕ → Result Decoding (List ℕ) → Type 0
decodes_after file rest read = (bytes : List ℕ) → IsFed file.decoder bytes → Seen outcome_in (ReadsOutcome (split_of file.decoder) file.word.now (bytes ++ rest)) read

-- it was fed nothing of the trace of this word, which is read against this port
pub record IsNewFor (split : PlainSplit) (word : List ℕ) (file : DecodeFile) : Type 0 where
  pub word_is : file.word.now ≡ word
  pub none : file.fed ≡ 0
  pub fed : IsFed file.decoder []
  pub split_is : split_of file.decoder ≡ split
