-- Declared tests that words name, the ports that they drive, and the answer to a test: its testbench, or why it has none (this project's own).
use Rattle.std.specs.Prelude.{◌≡◌, ℕ, ◌≤◌, true, List, [], ◌∷◌, ◌++◌, length, find, slice_get, Contains, Option, Some, None, option_and_then, codes}
use Rattle.std.specs.Str.{bytes_eq}
use Rattle.tydi_base.specs.Path.{colon_text, path_at}
use Rattle.logical_types.specs.Tree.{Ltype}
use Rattle.logical_value.specs.declared.value.PortValue.{PortValue}
use Rattle.plan_text.specs.declared.plan.Plan.{Plan}
use Rattle.til_resolve.specs.PlainProject.{PlainPort, PlainProject, PlainStreamlet, plain_test_at}
use Rattle.til_resolve.specs.declared.project.Test.{Test}
use Rattle.type_split.specs.Streams.{PlainSplit, clash_of}
use Rattle.tydi_tool.specs.declared.answer.Answer.{Answer}
use Rattle.tydi_tool.specs.declared.answer.Answer.TheVariants as answers
use Rattle.tydi_tool.specs.Ask.{SaysOfBytes, TellsOf}
use Rattle.tydi_tool.specs.Drives.{TellsBench, carried}
use Rattle.tydi_tool.specs.Ports.{port_named, split_unless}
use Rattle.tydi_tool.specs.Refusals.{no_test, refusal_line}
use Rattle.tydi_tool.specs.Texts.{ReadsPlan, ReadsValue}

-- the test of a project that a word names, which is a path with `::` between its names
abbrev pub test_named : PlainProject → List ℕ → Option Test
test_named project word = option_and_then (plain_test_at project.tests) (path_at true word)

-- the port that a test drives: that of its name, of its streamlet
abbrev pub tested_port : PlainProject → Test → Option PlainPort
tested_port project test = option_and_then (λ (streamlet : PlainStreamlet). find (λ (port : PlainPort). bytes_eq port.name test.port) streamlet.ports) (slice_get project.streamlets test.streamlet)

-- the word of the port of this name of a streamlet: the streamlet's path, with `::` between its names, a point, and the name
abbrev pub port_word : Option PlainStreamlet → List ℕ → List ℕ
port_word None name = []
port_word (Some streamlet) name = colon_text streamlet.path ++ 46 ∷ name

-- the word of the port that a test drives
abbrev pub tested_word : PlainProject → Test → List ℕ
tested_word project test = port_word (slice_get project.streamlets test.streamlet) test.port

-- a test drives a port, and the word of that port names it
pub record HasPortWord (project : PlainProject) (test : Test) : Type 0 where
  pub port : PlainPort
  pub drives : tested_port project test ≡ Some port
  pub named : port_named project (tested_word project test) ≡ Some port

-- the texts of a value and of a plan that a test of this word declares stand in lines by these words, in the place of files
abbrev pub value_word : List ℕ → List ℕ
value_word word = word ++ codes " value"

abbrev pub plan_word : List ℕ → List ℕ
plan_word word = word ++ codes " plan"

-- the answer to a test of this word with this value, whose port has this split: the testbench, or the refusal of the text of its plan, at the
-- place inside it
abbrev pub TellsPlanned : List ℕ → PlainSplit → Test → PortValue → Answer → Type 0
TellsPlanned word split test value a = SaysOfBytes {X = Plan} (ReadsPlan (plan_word word) split) (λ plan. TellsBench split value plan a) test.plan a

-- the same, or before it the refusal of the text of its value, at the place inside it
abbrev pub TellsTexts : List ℕ → PlainSplit → Test → Answer → Type 0
TellsTexts word split test a = SaysOfBytes {X = PortValue} (ReadsValue (value_word word) split) (λ value. TellsPlanned word split test value a) test.value a

-- the answer by the split of the port, unless a node of it is not carried
abbrev pub TellsSplit : List ℕ → Test → PlainSplit → Answer → Type 0
TellsSplit word test split a = TellsOf (carried split) (λ done b. TellsTexts word split test b) a

-- the answer by the type of the port, unless two of its physical streams clash
abbrev pub TellsTyped : List ℕ → Test → Ltype → Answer → Type 0
TellsTyped word test ltype a = TellsOf (split_unless ltype (clash_of ltype)) (TellsSplit word test) a

-- the answer by the port that a test drives, which each test of a project has
abbrev pub TellsPort : List ℕ → Test → Option PlainPort → Answer → Type 0
TellsPort word test None a = ⊥
TellsPort word test (Some port) a = TellsTyped word test port.ltype a

-- the answer by the test that the word names, if it names one
abbrev pub TellsFound : PlainProject → List ℕ → Option Test → Answer → Type 0
TellsFound project word None a = a ≡ answers.Refused (refusal_line (no_test word))
TellsFound project word (Some test) a = TellsPort word test (tested_port project test) a

-- the answer to the word of a test of a project
abbrev pub TellsTest : PlainProject → List ℕ → Answer → Type 0
TellsTest project word a = TellsFound project word (test_named project word) a

-- the texts of the tests of a project have no more bytes than a project may have
pub record AreShort (test : Test) : Type 0 where
  pub value : length test.value ≤ 4194304
  pub plan : length test.plan ≤ 4194304

abbrev pub HasShortTests : PlainProject → Type 0
HasShortTests project = (test : Test) → Contains project.tests test → AreShort test
