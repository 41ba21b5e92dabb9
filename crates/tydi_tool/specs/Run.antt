-- The promises of a run, clause by clause (this project's own). `request` is the command that the words spell, `told` the
-- files of the store where it reports them; a sink's bytes stand for themselves where the sink reports them.
use Rattle.std.specs.Prelude.{◌≡◌, ℕ, ◌⊎◌, List, [], ◌++◌, Option, Some, None, IfSome, codes}
use Rattle.tydi_io.specs.Store.{Files}
use Rattle.tydi_tool.specs.declared.answer.Answer.{Answer}
use Rattle.tydi_tool.specs.declared.answer.Answer.TheVariants as answers
use Rattle.tydi_tool.specs.declared.answer.Reply.{Reply}
use Rattle.tydi_tool.specs.declared.status.Status.{Status}
use Rattle.tydi_tool.specs.declared.status.Status.TheVariants as statuses
use Rattle.tydi_tool.specs.DecodeLaw.{IsReadBack, WritesDecoded, decode_words}
use Rattle.tydi_tool.specs.DriveLaw.{WritesDriven, drive_words}
use Rattle.tydi_tool.specs.Words.{Request, Check, Decode, Drive, Link, Read, Sim, Split, FileWord, file_words, Carry, Design, Bench, Testbench, Vcd, Gen, Compare, Expect, Watch}
use Rattle.tydi_tool.specs.BenchLaw.{WritesBench, WritesTestbench, test_words}
use Rattle.tydi_tool.specs.CarryLaw.{WritesArrived, carry_words}
use Rattle.tydi_tool.specs.CompareLaw.{WritesSame, compare_words}
use Rattle.tydi_tool.specs.DumpLaw.{WritesShown, dump_words}
use Rattle.tydi_tool.specs.JobLaw.{WritesSummary, job_words}
use Rattle.tydi_tool.specs.WatchLaw.{WritesMonitor, expect_words, watch_words}
use Rattle.tydi_tool.specs.WiringLaw.{WritesDesign}
use Rattle.tydi_tool.specs.Outcome.{read_fault_line, out_of_answer, err_of_answer, status_of_answer, usage_line, memory_line, write_fault_line}
use Rattle.tydi_tool.specs.Delivery.{Adds, AddsFront, AddsPart, TakesLine, Delivers}
use Rattle.tydi_tool.specs.Ask.{Decides}
use Rattle.tydi_tool.specs.Causes.{Row, CausedBy, IsQuietText}
use Rattle.tydi_tool.specs.Commands.{ask_of, Says}
use Rattle.tydi_tool.specs.Started.{IsOneOf, IsPulledOut, StartsWithin, NamesStarted}

-- the files that the command names, none where there is no command
abbrev pub files_of : Option Request → List FileWord
files_of None = []
files_of (Some request) = file_words request

-- ---- the whole of it

-- there is no command: nothing is started and nothing goes to out
pub record EndsUnasked (err_rose : Type 0) (told : Option Files) (started_old started_new : Option (List ℕ × ℕ)) (status : Status)
    (out_old out_new err_old err_new : Option (List ℕ)) : Type 0 where
  pub started : IfSome told (λ known. started_new ≡ started_old)
  pub out : Adds out_old out_new []
  pub err : TakesLine err_rose status statuses.Usage err_old err_new usage_line

-- the command has a reply, which its files decide one after another, and which is delivered
pub record EndsAsked (store_rose out_rose err_rose : Type 0) (request : Request) (told : Option Files) (started_old started_new : Option (List ℕ × ℕ)) (status : Status)
    (out_old out_new err_old err_new : Option (List ℕ)) : Type 0 where
  pub reply : Reply
  pub decided : Decides told started_old started_new store_rose (ask_of request) reply
  pub delivered : Delivers out_rose err_rose reply status out_old out_new err_old err_new

abbrev pub Runs : (store_rose out_rose err_rose : Type 0) → Option Request → Option Files → (started_old started_new : Option (List ℕ × ℕ)) → Status
    → (out_old out_new err_old err_new : Option (List ℕ)) → Type 0
Runs store_rose out_rose err_rose None told started_old started_new status out_old out_new err_old err_new =
    EndsUnasked err_rose told started_old started_new status out_old out_new err_old err_new
Runs store_rose out_rose err_rose (Some request) told started_old started_new status out_old out_new err_old err_new =
    EndsAsked store_rose out_rose err_rose request told started_old started_new status out_old out_new err_old err_new

-- ---- consequences of it

-- Usage comes only where the words spell no command; there it comes, or WriteFault, where err failed
abbrev pub UsageExactly : Option Request → Type 0 → Status → Type 0
UsageExactly request err_rose status =
    (status ≡ statuses.Usage → request ≡ None) × (request ≡ None → (status ≡ statuses.Usage) ⊎ ((status ≡ statuses.WriteFault) × err_rose))

-- the status of an answer: the run ended with no fault and with memory
abbrev pub EndsInAnswer : Status → Type 0
EndsInAnswer statuses.Done = Unit {0}
EndsInAnswer statuses.Refused = Unit {0}
EndsInAnswer statuses.Verdict = Unit {0}
EndsInAnswer status = ⊥

-- the run ended with the answer to the words and the files: out has exactly its text or verdict, err exactly its line
pub record IsAnswered (told : Option Files) (request : Option Request) (status : Status) (out_old out_new err_old err_new : Option (List ℕ)) : Type 0 where
  pub answer : Answer
  pub says : Says told request answer
  pub ends : status ≡ status_of_answer answer
  pub out : Adds out_old out_new (out_of_answer answer)
  pub err : Adds err_old err_new (err_of_answer answer)

-- where the store reports its files: the answer's cause stands in the words and the files, by a row of the table of causes, and out
-- has exactly the text or verdict of that row, err exactly its line
pub record IsCaused (known : Files) (request : Option Request) (status : Status) (out_old out_new err_old err_new : Option (List ℕ)) : Type 0 where
  pub asked : Request
  pub is : request ≡ Some asked
  pub row : Row
  pub answer : Answer
  pub cause : CausedBy row known asked answer
  pub ends : status ≡ status_of_answer answer
  pub out : Adds out_old out_new (out_of_answer answer)
  pub err : Adds err_old err_new (err_of_answer answer)

-- the run ended with this answer: out has exactly its text or verdict, err exactly its line
pub record EndsWith (answer : Answer) (status : Status) (out_old out_new err_old err_new : Option (List ℕ)) : Type 0 where
  pub ends : status ≡ status_of_answer answer
  pub out : Adds out_old out_new (out_of_answer answer)
  pub err : Adds err_old err_new (err_of_answer answer)

-- wherever the cause of an answer stands in the words and the files, by a row of the table of causes, the run ended with this answer, or for
-- want of memory
abbrev pub AnswersCauses : Files → Option Request → Status → (out_old out_new err_old err_new : Option (List ℕ)) → Type 0
AnswersCauses known None status out_old out_new err_old err_new = Unit {0}
AnswersCauses known (Some request) status out_old out_new err_old err_new =
    (row : Row) (answer : Answer) → CausedBy row known request answer → (status ≡ statuses.Memory) ⊎ EndsWith answer status out_old out_new err_old err_new

-- a run over which no count of faults rose: it ends with that answer, as Usage, or for want of memory
abbrev pub IsComplete : Option Files → Option Request → Status → (out_old out_new err_old err_new : Option (List ℕ)) → Type 0
IsComplete told None status out_old out_new err_old err_new = status ≡ statuses.Usage
IsComplete told (Some request) status out_old out_new err_old err_new =
    (status ≡ statuses.Memory) ⊎ IsAnswered told (Some request) status out_old out_new err_old err_new

-- a read failed: out is as before, err has exactly the line, which names the started file, or, where none is started, the
-- first file word that the store lacks
pub record ReportsRead (told : Option Files) (request : Option Request) (started : Option (List ℕ × ℕ)) (out_old out_new err_old err_new : Option (List ℕ)) : Type 0 where
  pub file : FileWord
  pub named : IsOneOf (files_of request) file
  pub starts : IfSome told (λ known. NamesStarted known (files_of request) started file.word)
  pub out : Adds out_old out_new []
  pub err : Adds err_old err_new (codes "tydi: ReadFault " ++ file.word ++ codes "\n")

-- out has its old bytes, and then a front of what the answer gives to it
pub record HasFront (told : Option Files) (request : Option Request) (out_old out_new : Option (List ℕ)) : Type 0 where
  pub answer : Answer
  pub says : Says told request answer
  pub front : AddsFront out_old out_new (out_of_answer answer)

-- in every case: out is as before, or has such a front
abbrev pub OutFront : Option Files → Option Request → (out_old out_new : Option (List ℕ)) → Type 0
OutFront told request out_old out_new = Adds out_old out_new [] ⊎ HasFront told request out_old out_new

-- out has its old bytes, and then a front of what the answer gives to it that is not all
pub record HasPart (told : Option Files) (request : Option Request) (out_old out_new : Option (List ℕ)) : Type 0 where
  pub answer : Answer
  pub says : Says told request answer
  pub part : AddsPart out_old out_new (out_of_answer answer)

-- where memory was missing: out is as before, or has such a front; it never has all of a text
abbrev pub OutPart : Option Files → Option Request → (out_old out_new : Option (List ℕ)) → Type 0
OutPart told request out_old out_new = Adds out_old out_new [] ⊎ HasPart told request out_old out_new

-- the statuses with which out is as before
abbrev pub LeavesOut : Status → Type 0
LeavesOut statuses.Refused = Unit {0}
LeavesOut statuses.Usage = Unit {0}
LeavesOut statuses.ReadFault = Unit {0}
LeavesOut status = ⊥

-- the statuses with which err is as before
abbrev pub LeavesErr : Status → Type 0
LeavesErr statuses.Done = Unit {0}
LeavesErr statuses.Verdict = Unit {0}
LeavesErr status = ⊥

-- an answer that gives nothing to out
abbrev pub IsRefusal : Answer → Type 0
IsRefusal (answers.Refused line) = Unit {0}
IsRefusal answer = ⊥

-- a line that err may take: that of words that spell no command, that of the answer to the words and the files, that of a failed
-- read where the store's faults rose, that of a failed write where out's faults rose, or that of want of memory
pub record IsLineOfAnswer (told : Option Files) (request : Option Request) (line : List ℕ) : Type 0 where
  pub answer : Answer
  pub says : Says told request answer
  pub is : line ≡ err_of_answer answer

pub record IsLineOfRead (store_rose : Type 0) (request : Option Request) (line : List ℕ) : Type 0 where
  pub rose : store_rose
  pub file : FileWord
  pub named : IsOneOf (files_of request) file
  pub is : line ≡ read_fault_line file.word

abbrev pub IsLineOfCommand : Option Files → Option Request → (store_rose out_rose : Type 0) → List ℕ → Type 0
IsLineOfCommand told request store_rose out_rose line =
    IsLineOfAnswer told request line ⊎ (IsLineOfRead store_rose request line ⊎ ((out_rose × (line ≡ write_fault_line)) ⊎ (line ≡ memory_line)))

abbrev pub IsLine : Option Files → Option Request → (store_rose out_rose : Type 0) → List ℕ → Type 0
IsLine told None store_rose out_rose line = line ≡ usage_line
IsLine told (Some request) store_rose out_rose line = IsLineOfCommand told (Some request) store_rose out_rose line

-- in every case: err has its old bytes, and then a front of one such line
pub record ErrFront (told : Option Files) (request : Option Request) (store_rose out_rose : Type 0) (err_old err_new : Option (List ℕ)) : Type 0 where
  pub line : List ℕ
  pub is : IsLine told request store_rose out_rose line
  pub front : AddsFront err_old err_new line

-- the file that is started at the end. Without a command nothing was started. With an answer a file of the command was given
-- to its end, or to one byte past its limit; in every case none was started, or one, within its limit.
abbrev pub StartedAtEnd : Files → Option Request → Status → (old new : Option (List ℕ × ℕ)) → Type 0
StartedAtEnd known None status old new = new ≡ old
StartedAtEnd known (Some request) status old new = StartsWithin known (file_words request) old new × (EndsInAnswer status → IsPulledOut known (file_words request) new)

-- where the command drives a port, out has exactly the text of a trace more that has the run of the planned transfers on each stream, breaks
-- no rule, ends whole on each stream and carries the value
abbrev pub WritesTrace : Files → Option Request → (out_old out_new : Option (List ℕ)) → Type 0
WritesTrace known None out_old out_new = Unit {0}
WritesTrace known (Some (Check trace)) out_old out_new = Unit {0}
WritesTrace known (Some (Read project)) out_old out_new = Unit {0}
WritesTrace known (Some (Split project port)) out_old out_new = Unit {0}
WritesTrace known (Some (Decode project port trace)) out_old out_new = Unit {0}
WritesTrace known (Some (Sim bench run)) out_old out_new = Unit {0}
WritesTrace known (Some (Link project)) out_old out_new = Unit {0}
WritesTrace known (Some (Carry project top from to trace)) out_old out_new = Unit {0}
WritesTrace known (Some (Design language project)) out_old out_new = Unit {0}
WritesTrace known (Some (Bench project port value plan)) out_old out_new = Unit {0}
WritesTrace known (Some (Testbench project test)) out_old out_new = Unit {0}
WritesTrace known (Some (Vcd project port scope file)) out_old out_new = Unit {0}
WritesTrace known (Some (Gen project port seed count)) out_old out_new = Unit {0}
WritesTrace known (Some (Compare project port value trace)) out_old out_new = Unit {0}
WritesTrace known (Some (Expect project port value)) out_old out_new = Unit {0}
WritesTrace known (Some (Watch monitor trace)) out_old out_new = Unit {0}
WritesTrace known (Some (Drive project port value plan)) out_old out_new =
    (text : List ℕ) × (WritesDriven known (drive_words project port value plan) text × Adds out_old out_new text)

-- where the command drives a port, wherever a file holds what out was given, `decode` gives exactly the value that was driven
abbrev pub WritesReadBack : Files → Option Request → (out_old out_new : Option (List ℕ)) → Type 0
WritesReadBack known (Some (Drive project port value plan)) out_old out_new =
    (text : List ℕ) × (IsReadBack known (drive_words project port value plan) text × Adds out_old out_new text)
WritesReadBack known request out_old out_new = Unit {0}

-- where the command decodes a port, out has exactly the text of the one value more that the trace carries, which is legal and ends whole on each stream
abbrev pub WritesValue : Files → Option Request → (out_old out_new : Option (List ℕ)) → Type 0
WritesValue known (Some (Decode project port trace)) out_old out_new =
    (text : List ℕ) × (WritesDecoded known (decode_words project port trace) text × Adds out_old out_new text)
WritesValue known request out_old out_new = Unit {0}

-- where the command carries a trace, out has exactly the text of a trace more that arrives whole at the other end of a chain of nets
abbrev pub WritesCarried : Files → Option Request → (out_old out_new : Option (List ℕ)) → Type 0
WritesCarried known (Some (Carry project top from to trace)) out_old out_new =
    (text : List ℕ) × (WritesArrived known (carry_words project top from to trace) text × Adds out_old out_new text)
WritesCarried known request out_old out_new = Unit {0}

-- where the command writes a project in VHDL or in Verilog, out has exactly the text more of its entities and architectures, which are wired by its nets
abbrev pub WritesWired : Files → Option Request → (out_old out_new : Option (List ℕ)) → Type 0
WritesWired known (Some (Design language project)) out_old out_new =
    (text : List ℕ) × (WritesDesign known language project text × Adds out_old out_new text)
WritesWired known request out_old out_new = Unit {0}

-- where the command makes a testbench, of a port or of a declared test, out has exactly the text of a testbench more that drives the port: under any
-- ready bits and any orders it shows the run of the planned transfers, and `sim` of it with the plan's cycles and ready bits gives what `drive` gives
abbrev pub WritesLines : Files → Option Request → (out_old out_new : Option (List ℕ)) → Type 0
WritesLines known (Some (Bench project port value plan)) out_old out_new =
    (text : List ℕ) × (WritesBench known (drive_words project port value plan) text × Adds out_old out_new text)
WritesLines known (Some (Testbench project test)) out_old out_new =
    (text : List ℕ) × (WritesTestbench known (test_words project test) text × Adds out_old out_new text)
WritesLines known request out_old out_new = Unit {0}

-- where the command samples a dump, out has exactly the text more of the trace that the dump shows of the port, which is read as this trace
abbrev pub WritesSampled : Files → Option Request → (out_old out_new : Option (List ℕ)) → Type 0
WritesSampled known (Some (Vcd project port scope file)) out_old out_new =
    (text : List ℕ) × (WritesShown known (dump_words project port scope file) text × Adds out_old out_new text)
WritesSampled known request out_old out_new = Unit {0}

-- where the command compares a trace with a value and all is the same, out has exactly the line more that says so, and the trace shows the value
abbrev pub WritesCompared : Files → Option Request → (out_old out_new : Option (List ℕ)) → Type 0
WritesCompared known (Some (Compare project port value trace)) out_old out_new =
    (text : List ℕ) × (WritesSame known (compare_words project port value trace) text × Adds out_old out_new text)
WritesCompared known request out_old out_new = Unit {0}

-- where the command makes a monitor, out has exactly the text more of the monitor that expects the items of the value
abbrev pub WritesExpected : Files → Option Request → (out_old out_new : Option (List ℕ)) → Type 0
WritesExpected known (Some (Expect project port value)) out_old out_new =
    (text : List ℕ) × (WritesMonitor known (expect_words project port value) text × Adds out_old out_new text)
WritesExpected known request out_old out_new = Unit {0}

-- where the command runs a monitor and no process reports, out has exactly the lines more of what each stream has seen
abbrev pub WritesWatched : Files → Option Request → (out_old out_new : Option (List ℕ)) → Type 0
WritesWatched known (Some (Watch monitor trace)) out_old out_new =
    (text : List ℕ) × (IsQuietText known (watch_words monitor trace) text × Adds out_old out_new text)
WritesWatched known request out_old out_new = Unit {0}

-- where the command makes a job of a port, out has exactly the text more of the summary of that job, which drives the port with a value and carries it
abbrev pub WritesJob : Files → Option Request → (out_old out_new : Option (List ℕ)) → Type 0
WritesJob known (Some (Gen project port seed count)) out_old out_new =
    (text : List ℕ) × (WritesSummary known (job_words project port seed count) text × Adds out_old out_new text)
WritesJob known request out_old out_new = Unit {0}
