-- Which texts are benches, and the first line that makes a text none (this project's own). A line ends with its LF.
use Rattle.std.specs.Prelude.{◌≡◌, ℕ, ◌+◌, ◌-◌, ◌*◌, Bool, true, false, not, ◌==◌, ◌&&◌, nat_lt, nat_eq, if◌then◌else◌, List, [], ◌∷◌, ◌++◌, length, drop, Option, Some, None, Result, Ok, Err, codes}
use Rattle.std.specs.List.{flat_map, list_any, starts_with}
use Rattle.std.specs.Str.{bytes_eq}
use Rattle.tydi_base.specs.Path.{path_text}
use Rattle.tydi_base.specs.Pieces.{pieces_of}
use Rattle.tydi_reading.specs.declared.fault.Fault.{Fault}
use Rattle.tydi_reading.specs.declared.fault.Fault.TheVariants as refusals
use Rattle.tydi_reading.specs.Lists.{mark}
use Rattle.tydi_reading.specs.Reading.{Outcome, took, stopped, Reader, and_then, pure, ◌>>=◌, ◌>>◌, ◌<$>◌}
use Rattle.physical_stream.specs.StreamLine.{head_of}
use Rattle.physical_stream.specs.declared.head.Head.{Head}
use Rattle.vhdl_text.specs.declared.bench.Stmt.{Stmt}
use Rattle.vhdl_text.specs.declared.bench.Stmt.TheVariants as stmts
use Rattle.vhdl_text.specs.declared.bench.Bench.{Bench}
use Rattle.vhdl_text.specs.declared.fault.VhdlFault.{VhdlFault}
use Rattle.vhdl_text.specs.declared.fault.VhdlFault.TheVariants as faults
use Rattle.vhdl_text.specs.declared.refusal.Refusal.{Refusal}
use Rattle.vhdl_text.specs.declared.refusal.Refusal.TheVariants.{UnknownSignal, SecondDriver}
use Rattle.vhdl_text.specs.declared.stage.Stage.{Stage}
use Rattle.vhdl_text.specs.declared.stage.Stage.TheVariants as stages
use Rattle.vhdl_text.specs.Lines.{Cut, cut_last, edges_of, stmt_of}
use Rattle.vhdl_text.specs.Text.{bench_text, frame_text}
use Rattle.vhdl_text.specs.WellFormed.{IsWellFormed}

-- ---- lines that are given

-- just these lines
unfoldable pub the_lines : List (List ℕ) → Reader Refusal (List ℕ) (Unit {0})
the_lines [] = pure tt
the_lines (line ∷ more) = mark (λ next. bytes_eq next line) >> the_lines more

-- ---- streams

-- a line that is a stream as a comment
abbrev pub is_comment : List ℕ → Bool
is_comment line = starts_with nat_eq line (codes "-- stream ")

-- a head after heads of these paths: not one of these, and not one too many
abbrev pub new_head : List (List ℕ) → Result Head (Unit {0}) → Option Head
new_head paths (Err e) = None
new_head paths (Ok head) = if nat_lt (length paths) 65536 && not (list_any (bytes_eq (path_text head.path)) paths) then Some head else None

-- the head that a comment spells, after heads of these paths
unfoldable pub head_after : List (List ℕ) → List ℕ → Option Head
head_after paths line = new_head paths (head_of (drop 3 line))

-- a head, and the heads after it
abbrev pub with_head : List (List ℕ) → (Head → Outcome Refusal (List ℕ) (List Head)) → Option Head → Outcome Refusal (List ℕ) (List Head)
with_head lines more None = stopped refusals.Refused lines
with_head lines more (Some head) = and_then (more head) (λ heads. pure (head ∷ heads))

-- the heads of the comments that the lines begin with, after heads of these paths
abbrev pub heads_from : List (List ℕ) → Reader Refusal (List ℕ) (List Head)
heads_from paths [] = took [] []
heads_from paths (line ∷ lines) =
    if is_comment line then with_head (line ∷ lines) (λ head. heads_from (path_text head.path ∷ paths) lines) (head_after paths line) else took [] (line ∷ lines)

-- ---- processes

-- how far the processes are read: what comes next, the whole processes, and the statements of the one that is begun
pub record Progress : Type 0 where
  pub stage : Stage
  pub procs : List (List Stmt)
  pub stmts : List Stmt

-- the same processes, with this next
abbrev pub then_comes : Progress → Stage → Progress
then_comes so_far stage = record { stage = stage; procs = so_far.procs; stmts = so_far.stmts }

-- one statement more, with this next
abbrev pub with_stmt : Progress → Stage → Stmt → Progress
with_stmt so_far stage stmt = record { stage = stage; procs = so_far.procs; stmts = so_far.stmts ++ stmt ∷ [] }

-- goes on where the line is this one
abbrev pub where_line : List ℕ → List ℕ → Progress → Result Progress (Fault Refusal)
where_line wanted line next = if bytes_eq line wanted then Ok next else Err refusals.Refused

-- a statement of one line, if it is one
abbrev pub with_read : Progress → Result Stmt (Fault Refusal) → Result Progress (Fault Refusal)
with_read so_far (Ok stmt) = Ok (with_stmt so_far stages.Statements stmt)
with_read so_far (Err e) = Err e

-- a pause of so many edges begins, or a statement of one line stands there
abbrev pub with_edges : Progress → Option ℕ → Result Stmt (Fault Refusal) → Result Progress (Fault Refusal)
with_edges so_far (Some edges) read = Ok (then_comes so_far (stages.Inside edges))
with_edges so_far None read = with_read so_far read

-- after a line of a process, beside these streams
abbrev pub after_line : List Head → Progress → List ℕ → Stage → Result Progress (Fault Refusal)
after_line heads so_far line stages.Between =
    if nat_lt (length so_far.procs) (2 * length heads) then where_line (codes "  process") line (then_comes so_far stages.Begin) else Err refusals.Refused
after_line heads so_far line stages.Begin = where_line (codes "  begin") line (then_comes so_far stages.Statements)
after_line heads so_far line stages.Statements =
    if bytes_eq line (codes "    wait;") then Ok (with_stmt so_far stages.EndProcess stmts.Stop)
    else with_edges so_far (edges_of line) (stmt_of heads so_far.procs line)
after_line heads so_far line (stages.Inside edges) = where_line (codes "      wait until rising_edge(clk);") line (then_comes so_far (stages.Ending edges))
after_line heads so_far line (stages.Ending edges) = where_line (codes "    end loop;") line (with_stmt so_far stages.Statements (stmts.Pause edges))
after_line heads so_far line stages.EndProcess = where_line (codes "  end process;") line (record { stage = stages.Between; procs = so_far.procs ++ so_far.stmts ∷ []; stmts = [] })

unfoldable pub after : List Head → Progress → List ℕ → Result Progress (Fault Refusal)
after heads so_far line = after_line heads so_far line so_far.stage

-- no process is begun
abbrev pub is_between : Stage → Bool
is_between stages.Between = true
is_between stages.Begin = false
is_between stages.Statements = false
is_between (stages.Inside edges) = false
is_between (stages.Ending edges) = false
is_between stages.EndProcess = false

-- the line ends the architecture
abbrev pub ends : Progress → List ℕ → Bool
ends so_far line = is_between so_far.stage && bytes_eq line (codes "end architecture;")

-- goes on from there, or stops before these lines
abbrev pub goes_on : List (List ℕ) → (Progress → Outcome Refusal (List ℕ) (List (List Stmt))) → Result Progress (Fault Refusal) → Outcome Refusal (List ℕ) (List (List Stmt))
goes_on lines more (Ok next) = more next
goes_on lines more (Err e) = stopped e lines

-- the processes up to the end of the architecture
abbrev pub procs_from : List Head → Progress → Reader Refusal (List ℕ) (List (List Stmt))
procs_from heads so_far [] = stopped refusals.Refused []
procs_from heads so_far (line ∷ lines) =
    if ends so_far line then took so_far.procs lines else goes_on (line ∷ lines) (λ next. procs_from heads next lines) (after heads so_far line)

-- no process is read
abbrev pub no_procs : Progress
no_procs = record { stage = stages.Between; procs = []; stmts = [] }

-- ---- benches

-- a bench of these streams: what follows their comments
unfoldable pub body_of : List Head → Reader Refusal (List ℕ) Bench
body_of heads = the_lines (pieces_of 10 (frame_text heads)) >> (λ procs. record { heads = heads; procs = procs }) <$> procs_from heads no_procs

-- the bench that lines begin with
unfoldable pub bench_from : Reader Refusal (List ℕ) Bench
bench_from = the_lines (codes "-- tydi-bench 1" ∷ []) >> heads_from [] >>= body_of

-- lines, each with its LF
abbrev pub lines_text : List (List ℕ) → List ℕ
lines_text lines = flat_map (λ line. line ++ 10 ∷ []) lines

-- where the next of these lines begins in a text: those of the text end there
abbrev pub offset_of : ℕ → List (List ℕ) → ℕ
offset_of end lines = end - length (lines_text lines)

-- a refusal of the line that begins there
abbrev pub told_at : ℕ → Fault Refusal → VhdlFault
told_at offset refusals.Refused = faults.NotForm offset
told_at offset (refusals.Unfit UnknownSignal) = faults.UnknownSignal offset
told_at offset (refusals.Unfit SecondDriver) = faults.TwoDrivers offset
told_at offset refusals.Memory = faults.Memory

-- all lines, which end there, are to be a bench, and no byte is to follow them
abbrev pub whole : ℕ → List ℕ → Outcome Refusal (List ℕ) Bench → Result Bench VhdlFault
whole end cut_off (took bench []) = if length cut_off == 0 then Ok bench else Err (faults.NotForm end)
whole end cut_off (took bench (line ∷ lines)) = Err (faults.NotForm (offset_of end (line ∷ lines)))
whole end cut_off (stopped e lines) = Err (told_at (offset_of end lines) e)

-- the bench of a text that is cut after its last LF: a text without LF has no line
abbrev pub bench_in : Option Cut → Result Bench VhdlFault
bench_in None = Err (faults.NotForm 0)
bench_in (Some cut) = whole (length cut.front + 1) cut.back (bench_from (pieces_of 10 cut.front))

-- the bench that a text spells, or the first line that makes it none
unfoldable pub bench_of : List ℕ → Result Bench VhdlFault
bench_of text = bench_in (cut_last 10 text)

-- a text is no bench; want of memory is no error of it
abbrev pub fault_in : VhdlFault → Option VhdlFault
fault_in (faults.NotForm offset) = Some (faults.NotForm offset)
fault_in (faults.UnknownSignal offset) = Some (faults.UnknownSignal offset)
fault_in (faults.TwoDrivers offset) = Some (faults.TwoDrivers offset)
fault_in faults.Memory = None

-- ---- the laws

-- the text of a well-formed bench is read as that bench
abbrev pub BenchesAreReadAsPrinted : Type 0
BenchesAreReadAsPrinted = (bench : Bench) → IsWellFormed bench → bench_of (bench_text bench) ≡ Ok bench

-- a text that is read as a bench is the text of that bench, which is well formed
abbrev pub BenchesArePrintedAsRead : Type 0
BenchesArePrintedAsRead = (text : List ℕ) (bench : Bench) → bench_of text ≡ Ok bench → IsWellFormed bench × (text ≡ bench_text bench)
