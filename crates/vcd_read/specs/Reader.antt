-- A reader of dumps stands for the bytes that it was fed (this project's own).
use Rattle.std.specs.Prelude.{◌≡◌, ℕ, ◌+◌, ◌^◌, ◌<◌, ◌≤◌, List, [], ◌∷◌, ◌++◌, length, Option, Some, None, Err, IsTrue}
use Rattle.vcd_read.specs.Parser as parsers
use Rattle.vcd_read.specs.Profile.{Beginning, Reached, Step, read_on}
use Rattle.vcd_read.specs.Tokens.{is_blank, tokens_from, tokens_of}
use Rattle.vcd_read.specs.Wanted.{Wanted}
use Rattle.vcd_read.specs.declared.fault.VcdFault.{VcdFault}
use Rattle.vcd_read.specs.declared.fault.VcdFault.TheVariants as faults
use Rattle.vcd_read.specs.declared.parser.Parser.{Parser}
use Rattle.vcd_read.specs.declared.parser.Stop.{Stop}
use Rattle.vcd_read.specs.declared.parser.Stop.TheVariants as stops
use Rattle.vcd_read.specs.declared.reader.VcdReader.{VcdReader}

-- what the tokens of a text reach
abbrev pub reads : List ℕ → Step
reads text = read_on Beginning [] (tokens_of text)

-- a text that begins with these bytes goes on from what is reached, with the token that is begun
abbrev pub GoesOn : (fed : List ℕ) → Reached → (start : ℕ) → (begun : List ℕ) → Type 0
GoesOn fed reached start begun = (more : List ℕ) → reads (fed ++ more) ≡ read_on reached.awaited reached.parts (tokens_from start begun more)

-- the same token is against the profile in every text that begins with these bytes; after want of memory nothing is known
abbrev pub Fails : (fed : List ℕ) → Stop → Type 0
Fails fed (stops.Syntax offset) = (more : List ℕ) → reads (fed ++ more) ≡ Err offset
Fails fed stops.Memory = Unit {0}

-- what is kept is what these bytes reach
pub record Reads (wanted : Wanted) (parser : Parser) (start : ℕ) (begun fed : List ℕ) : Type 0 where
  pub reached : Reached
  pub stands : parsers.StandsFor wanted parser reached
  pub goes : GoesOn fed reached start begun
  pub size : start + length begun ≡ length fed
  pub past : parser.dump.wires.block ≤ start

-- the facts known after these bytes
abbrev pub Stands : Wanted → Option Stop → Parser → ℕ → (begun fed : List ℕ) → Type 0
Stands wanted None parser start begun fed = Reads wanted parser start begun fed
Stands wanted (Some stop) parser start begun fed = Fails fed stop

-- a reader stands for the bytes that it was fed
abbrev pub StandsFor : Wanted → VcdReader → List ℕ → Type 0
StandsFor wanted reader fed = Stands wanted reader.stop reader.parser reader.start reader.begun fed

-- some bytes were fed, and so many more may be
abbrev pub HasRoom : VcdReader → ℕ → Type 0
HasRoom reader more = (wanted : Wanted) × ((fed : List ℕ) × (StandsFor wanted reader fed × (length fed + more < 2 ^ 64)))

-- the token that is begun ends with these bytes, before any white space
abbrev pub EndsWord : (word : List ℕ) → (old new : VcdReader) → Type 0
EndsWord word old new = (wanted : Wanted) (fed : List ℕ) (byte : ℕ) → IsTrue (is_blank byte) → StandsFor wanted old fed
    → StandsFor wanted new (fed ++ word ++ byte ∷ [])

-- the error of a text of which no more is read
abbrev pub fault_of : Stop → VcdFault
fault_of (stops.Syntax offset) = faults.Syntax offset
fault_of stops.Memory = faults.Memory
