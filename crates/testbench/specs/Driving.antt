-- The bench that drives transfers with gaps (this project's own).
use Rattle.std.specs.Prelude.{ℕ, zero, suc, Bool, true, false, if◌then◌else◌, List, [], ◌∷◌, ◌++◌, map}
use Rattle.std.specs.List.{All, flat_map}
use Rattle.tydi_base.specs.Bits.{bits_of}
use Rattle.physical_stream.specs.Params.{Parameters}
use Rattle.physical_stream.specs.Signals.{Shows}
use Rattle.physical_stream.specs.declared.head.Head.{Head}
use Rattle.physical_stream.specs.declared.transfer.Transfer.{Transfer}
use Rattle.signal_layout.specs.Layout.{is_present, bits_of_signal}
use Rattle.signal_layout.specs.declared.signal.Signal.{Signal}
use Rattle.signal_layout.specs.declared.signal.Signal.TheVariants as signals
use Rattle.handshake.specs.Run.{gap_of}
use Rattle.vhdl_text.specs.declared.bench.Stmt.{Stmt}
use Rattle.vhdl_text.specs.declared.bench.Stmt.TheVariants as stmts
use Rattle.vhdl_text.specs.declared.bench.Bench.{Bench}

-- a stream, the transfers that it is to show, and the gaps before them
pub record Driven : Type 0 where
  pub head : Head
  pub transfers : List Transfer
  pub gaps : List ℕ

-- the word of a payload signal of a transfer
abbrev pub word_of : Parameters → Transfer → Signal → List Bool
word_of p t signals.Valid = []
word_of p t signals.Ready = []
word_of p t signals.Content = t.content
word_of p t signals.Last = t.last
word_of p t signals.Stai = bits_of (bits_of_signal p signals.Stai) t.stai
word_of p t signals.Endi = bits_of (bits_of_signal p signals.Endi) t.endi
word_of p t signals.Strb = bits_of (bits_of_signal p signals.Strb) t.strb
word_of p t signals.User = t.user

-- the payload signals, in the order in which they are set
abbrev pub payload : List Signal
payload = signals.Content ∷ signals.Last ∷ signals.Stai ∷ signals.Endi ∷ signals.Strb ∷ signals.User ∷ []

-- valid is set to this bit
abbrev pub put_valid : ℕ → Bool → Stmt
put_valid stream bit = stmts.Put stream signals.Valid (bit ∷ [])

-- a signal is set where the stream has it
abbrev pub put_present : Parameters → ℕ → Transfer → Signal → List Stmt
put_present p stream t signal = if is_present p signal then stmts.Put stream signal (word_of p t signal) ∷ [] else []

-- each payload signal that the stream has is set
abbrev pub put_payload : Parameters → ℕ → Transfer → List Stmt
put_payload p stream t = flat_map (put_present p stream t) payload

-- a pause with valid low, where the gap is not 0
abbrev pub pausing : ℕ → ℕ → List Stmt
pausing stream zero = []
pausing stream (suc edges) = put_valid stream false ∷ stmts.Pause (suc edges) ∷ []

-- a transfer is set, shown, and awaited
abbrev pub showing : Parameters → ℕ → Transfer → List Stmt
showing p stream t = put_payload p stream t ++ put_valid stream true ∷ stmts.Await stream ∷ []

-- the process of a stream from its transfer of this number on
abbrev pub process_from : Parameters → ℕ → List Transfer → List ℕ → ℕ → List Transfer → List Stmt
process_from p stream ts gaps number [] = put_valid stream false ∷ stmts.Stop ∷ []
process_from p stream ts gaps number (t ∷ more) =
    pausing stream (gap_of p ts gaps number) ++ (showing p stream t ++ process_from p stream ts gaps (suc number) more)

-- the process of a stream
abbrev pub process_of : ℕ → Driven → List Stmt
process_of stream d = process_from d.head.params stream d.transfers d.gaps 0 d.transfers

-- the processes of streams, of which the first has this number
abbrev pub processes_from : ℕ → List Driven → List (List Stmt)
processes_from stream [] = []
processes_from stream (d ∷ more) = process_of stream d ∷ processes_from (suc stream) more

-- the bench with a process for each stream
abbrev pub driving : List Driven → Bench
driving streams = record { heads = map (λ (d : Driven). d.head) streams; procs = processes_from 0 streams }

-- each transfer is one that its stream can show
abbrev pub AreShown : Driven → Type 0
AreShown d = All (Shows d.head.params) d.transfers
