-- The commands that words spell (this project's own).
use Rattle.std.specs.Prelude.{ℕ, suc, ◌*◌, ◌^◌, Bool, false, not, ◌==◌, ◌&&◌, if◌then◌else◌, List, [], ◌∷◌, Option, Some, None, codes, IsTrue}
use Rattle.std.specs.List.{AllByRecursion, list_all}
use Rattle.std.specs.Str.{bytes_eq}
use Rattle.tydi_base.specs.Name.{is_name}
use Rattle.tydi_base.specs.Pieces.{pieces_of}
use Rattle.tydi_base.specs.Decimal.{below, decimal_of}
use Rattle.vhdl_text.specs.declared.language.Language.{Language}
use Rattle.vhdl_text.specs.declared.language.Language.TheVariants as languages
use Rattle.tydi_tool.specs.declared.words.Command.{Command}
use Rattle.tydi_tool.specs.declared.words.Command.TheVariants as commands

-- a command with its words, apart from where they lie in memory
pub data Request : Type 0 where
  Check : List ℕ → Request
  Read : List ℕ → Request
  Split : List ℕ → List ℕ → Request
  Drive : List ℕ → List ℕ → List ℕ → List ℕ → Request
  Decode : List ℕ → List ℕ → List ℕ → Request
  Sim : List ℕ → List ℕ → Request
  Link : List ℕ → Request
  Carry : List ℕ → List ℕ → List ℕ → List ℕ → List ℕ → Request
  Design : Language → List ℕ → Request
  Bench : List ℕ → List ℕ → List ℕ → List ℕ → Request
  Testbench : List ℕ → List ℕ → Request
  Vcd : List ℕ → List ℕ → List ℕ → List ℕ → Request
  Gen : List ℕ → List ℕ → (seed count : ℕ) → Request
  Compare : List ℕ → List ℕ → List ℕ → List ℕ → Request
  Expect : List ℕ → List ℕ → List ℕ → Request
  Watch : List ℕ → List ℕ → Request

abbrev pub request_from : Command → Request
request_from (commands.Check trace) = Check trace.now
request_from (commands.Read project) = Read project.now
request_from (commands.Split project port) = Split project.now port.now
request_from (commands.Drive project port value plan) = Drive project.now port.now value.now plan.now
request_from (commands.Decode project port trace) = Decode project.now port.now trace.now
request_from (commands.Sim bench run) = Sim bench.now run.now
request_from (commands.Link project) = Link project.now
request_from (commands.Carry project top from to trace) = Carry project.now top.now from.now to.now trace.now
request_from (commands.Vhdl project) = Design languages.Vhdl project.now
request_from (commands.Verilog project) = Design languages.Verilog project.now
request_from (commands.Bench project port value plan) = Bench project.now port.now value.now plan.now
request_from (commands.Testbench project test) = Testbench project.now test.now
request_from (commands.Vcd project port scope file) = Vcd project.now port.now scope.now file.now
request_from (commands.Gen project port seed count) = Gen project.now port.now seed count
request_from (commands.Compare project port value trace) = Compare project.now port.now value.now trace.now
request_from (commands.Expect project port value) = Expect project.now port.now value.now
request_from (commands.Watch monitor trace) = Watch monitor.now trace.now

-- a word that is not empty and does not begin with `-`
abbrev pub is_word : List ℕ → Bool
is_word [] = false
is_word (c ∷ cs) = not (c == 45)

-- `check TRACE`
abbrev pub check_request : List (List ℕ) → Option Request
check_request (trace ∷ []) = if is_word trace then Some (Check trace) else None
check_request words = None

-- `read PROJECT`
abbrev pub read_request : List (List ℕ) → Option Request
read_request (project ∷ []) = if is_word project then Some (Read project) else None
read_request words = None

-- `split PROJECT PORT`
abbrev pub split_request : List (List ℕ) → Option Request
split_request (project ∷ port ∷ []) = if is_word project && is_word port then Some (Split project port) else None
split_request words = None

-- `drive PROJECT PORT VALUE PLAN`
abbrev pub drive_request : List (List ℕ) → Option Request
drive_request (project ∷ port ∷ value ∷ plan ∷ []) =
    if (is_word project && is_word port) && (is_word value && is_word plan) then Some (Drive project port value plan) else None
drive_request words = None

-- `decode PROJECT PORT TRACE`
abbrev pub decode_request : List (List ℕ) → Option Request
decode_request (project ∷ port ∷ trace ∷ []) = if (is_word project && is_word port) && is_word trace then Some (Decode project port trace) else None
decode_request words = None

-- `sim BENCH RUN`
abbrev pub sim_request : List (List ℕ) → Option Request
sim_request (bench ∷ run ∷ []) = if is_word bench && is_word run then Some (Sim bench run) else None
sim_request words = None

-- `link PROJECT`
abbrev pub link_request : List (List ℕ) → Option Request
link_request (project ∷ []) = if is_word project then Some (Link project) else None
link_request words = None

-- `carry PROJECT TOP FROM TO TRACE`
abbrev pub carry_request : List (List ℕ) → Option Request
carry_request (project ∷ top ∷ from ∷ to ∷ trace ∷ []) =
    if is_word project && ((is_word top && is_word from) && (is_word to && is_word trace)) then Some (Carry project top from to trace) else None
carry_request words = None

-- `vhdl PROJECT` and `verilog PROJECT`
abbrev pub design_request : Language → List (List ℕ) → Option Request
design_request language (project ∷ []) = if is_word project then Some (Design language project) else None
design_request language words = None

-- `bench PROJECT PORT VALUE PLAN`
abbrev pub bench_request : List (List ℕ) → Option Request
bench_request (project ∷ port ∷ value ∷ plan ∷ []) =
    if (is_word project && is_word port) && (is_word value && is_word plan) then Some (Bench project port value plan) else None
bench_request words = None

-- `testbench PROJECT TEST`
abbrev pub testbench_request : List (List ℕ) → Option Request
testbench_request (project ∷ test ∷ []) = if is_word project && is_word test then Some (Testbench project test) else None
testbench_request words = None

-- a scope of a dump: names with a point between each two, one at least
abbrev pub is_scope : List ℕ → Bool
is_scope word = list_all is_name (pieces_of 46 word)

-- `vcd PROJECT PORT SCOPE FILE`
abbrev pub vcd_request : List (List ℕ) → Option Request
vcd_request (project ∷ port ∷ scope ∷ file ∷ []) =
    if (is_word project && is_word port) && is_scope scope && is_word file then Some (Vcd project port scope file) else None
vcd_request words = None

-- the number that a word spells in decimal, without leading zeros and of at most so much
abbrev pub number_word : ℕ → List ℕ → Option ℕ
number_word most word = below (suc most) (decimal_of word)

-- a job of a port with a seed and a count, where both are there
abbrev pub job_request : (project port : List ℕ) → Option ℕ → Option ℕ → Option Request
job_request project port (Some seed) (Some count) = Some (Gen project port seed count)
job_request project port (Some seed) None = None
job_request project port None count = None

-- `gen PROJECT PORT SEED COUNT`: a seed is at most 65,535, and a count at most 100,000
abbrev pub gen_request : List (List ℕ) → Option Request
gen_request (project ∷ port ∷ seed ∷ count ∷ []) = if is_word project && is_word port then job_request project port (number_word 65535 seed) (number_word 100000 count) else None
gen_request words = None

-- `compare PROJECT PORT VALUE TRACE`
abbrev pub compare_request : List (List ℕ) → Option Request
compare_request (project ∷ port ∷ value ∷ trace ∷ []) =
    if (is_word project && is_word port) && (is_word value && is_word trace) then Some (Compare project port value trace) else None
compare_request words = None

-- `expect PROJECT PORT VALUE`
abbrev pub expect_request : List (List ℕ) → Option Request
expect_request (project ∷ port ∷ value ∷ []) = if (is_word project && is_word port) && is_word value then Some (Expect project port value) else None
expect_request words = None

-- `watch MONITOR TRACE`
abbrev pub watch_request : List (List ℕ) → Option Request
watch_request (monitor ∷ trace ∷ []) = if is_word monitor && is_word trace then Some (Watch monitor trace) else None
watch_request words = None

-- the command that the words spell: the command's own word, and then exactly its words
abbrev pub request_of : List (List ℕ) → Option Request
request_of [] = None
request_of (command ∷ words) =
    if bytes_eq command (codes "check") then check_request words
    else (if bytes_eq command (codes "read") then read_request words
    else (if bytes_eq command (codes "split") then split_request words
    else (if bytes_eq command (codes "drive") then drive_request words
    else (if bytes_eq command (codes "sim") then sim_request words
    else (if bytes_eq command (codes "link") then link_request words
    else (if bytes_eq command (codes "decode") then decode_request words
    else (if bytes_eq command (codes "carry") then carry_request words
    else (if bytes_eq command (codes "vhdl") then design_request languages.Vhdl words
    else (if bytes_eq command (codes "verilog") then design_request languages.Verilog words
    else (if bytes_eq command (codes "bench") then bench_request words
    else (if bytes_eq command (codes "testbench") then testbench_request words
    else (if bytes_eq command (codes "vcd") then vcd_request words
    else (if bytes_eq command (codes "gen") then gen_request words
    else (if bytes_eq command (codes "compare") then compare_request words
    else (if bytes_eq command (codes "expect") then expect_request words
    else (if bytes_eq command (codes "watch") then watch_request words
    else None))))))))))))))))

-- a file that a command names, and the most bytes that it may have
pub record FileWord : Type 0 where
  pub word : List ℕ
  pub limit : ℕ

-- 64 MiB
abbrev pub trace_limit : ℕ
trace_limit = 64 * 2 ^ 20

-- 4 MiB
abbrev pub project_limit : ℕ
project_limit = 4 * 2 ^ 20

-- the most bytes of a value, a plan or a run: 16 MiB
abbrev pub text_limit : ℕ
text_limit = 16 * 2 ^ 20

abbrev pub trace_file : List ℕ → FileWord
trace_file word = record { word = word; limit = trace_limit }

abbrev pub project_file : List ℕ → FileWord
project_file word = record { word = word; limit = project_limit }

-- the file of a value, a plan or a run
abbrev pub text_file : List ℕ → FileWord
text_file word = record { word = word; limit = text_limit }

-- a bench may have as many bytes as a trace
abbrev pub bench_file : List ℕ → FileWord
bench_file word = record { word = word; limit = trace_limit }

-- a monitor may have as many bytes as a trace
abbrev pub monitor_file : List ℕ → FileWord
monitor_file word = record { word = word; limit = trace_limit }

-- a dump may have as many bytes as a trace
abbrev pub dump_file : List ℕ → FileWord
dump_file word = record { word = word; limit = trace_limit }

-- the files of a command, in the order in which they are read
abbrev pub file_words : Request → List FileWord
file_words (Check trace) = trace_file trace ∷ []
file_words (Read project) = project_file project ∷ []
file_words (Split project port) = project_file project ∷ []
file_words (Drive project port value plan) = project_file project ∷ text_file value ∷ text_file plan ∷ []
file_words (Decode project port trace) = project_file project ∷ trace_file trace ∷ []
file_words (Sim bench run) = bench_file bench ∷ text_file run ∷ []
file_words (Link project) = project_file project ∷ []
file_words (Carry project top from to trace) = project_file project ∷ trace_file trace ∷ []
file_words (Design language project) = project_file project ∷ []
file_words (Bench project port value plan) = project_file project ∷ text_file value ∷ text_file plan ∷ []
file_words (Testbench project test) = project_file project ∷ []
file_words (Vcd project port scope file) = project_file project ∷ dump_file file ∷ []
file_words (Gen project port seed count) = project_file project ∷ []
file_words (Compare project port value trace) = project_file project ∷ text_file value ∷ trace_file trace ∷ []
file_words (Expect project port value) = project_file project ∷ text_file value ∷ []
file_words (Watch monitor trace) = monitor_file monitor ∷ trace_file trace ∷ []

-- the store may start each file of the command
abbrev pub Allows : (List ℕ → Bool) → Option Request → Type 0
Allows allowed None = Unit {0}
Allows allowed (Some request) = AllByRecursion (λ file. IsTrue (allowed file.word)) (file_words request)
