-- The causes of the answers of `testbench`, in both directions.
use Rattle.std.proofs.Common.{◌≡◌, ℕ, ◌++◌, inl, inr, List, Option, Some, None, Result, Err, codes, refl, sym, ap, ◌∙◌, subst}
use Rattle.tydi_base.specs.Path.{path_text}
use Rattle.tydi_io.specs.Store.{Files}
use Rattle.handshake.specs.Rows.{StreamRun}
use Rattle.logical_types.specs.Tree.{Ltype}
use Rattle.logical_value.specs.Tree.{plain_port}
use Rattle.logical_value.specs.declared.value.PortValue.{PortValue}
use Rattle.plan_text.specs.declared.plan.Plan.{Plan}
use Rattle.port_bench.specs.Benches.{bench_of_runs, bench_text_of}
use Rattle.port_drive.specs.Drives.{Undriven}
use Rattle.til_resolve.specs.PlainProject.{PlainPort, PlainProject}
use Rattle.til_resolve.specs.declared.project.Test.{Test}
use Rattle.type_split.specs.Carried.{uncarried_of}
use Rattle.type_split.specs.Streams.{PlainSplit, clash_of, split_of}
use Rattle.value_text.specs.Reading.{IsValue}
use Rattle.vhdl_text.specs.Text.{bench_text}
use Rattle.tydi_tool.specs.declared.answer.Answer.{Answer}
use Rattle.tydi_tool.specs.declared.answer.Answer.TheVariants as answers
use Rattle.tydi_tool.specs.Ask.{Ends, SaysBy, TellsOf}
use Rattle.tydi_tool.specs.Causes as rows
use Rattle.tydi_tool.specs.Causes.{HasBytes, HasRead, HasTest, HasTestCarried, HasTestDrive, HasTestPlanFault, HasTestReason, HasTestSplit, HasTestValueFault, IsTestbenchText}
use Rattle.tydi_tool.specs.Causes.{NoTestCause, TestClashes, TestUncarried, TestWords, tested_in}
use Rattle.tydi_tool.specs.Commands.{ask_of, testbench_ask}
use Rattle.tydi_tool.specs.Drives.{TellsBench, carried_unless, refusal_of_driving}
use Rattle.tydi_tool.specs.Outcome.{output_answer}
use Rattle.tydi_tool.specs.Ports.{split_unless}
use Rattle.tydi_tool.specs.Projects.{ReadsProject}
use Rattle.tydi_tool.specs.Refusals.{Refusal, refusal_line, refusal_of_value}
use Rattle.tydi_tool.specs.Tests.{TellsFound, TellsPlanned, TellsPort, TellsSplit, TellsTest, TellsTexts, TellsTyped, plan_word, test_named, tested_port, value_word}
use Rattle.tydi_tool.specs.Texts.{ReadsValue}
use Rattle.tydi_tool.specs.Words.{Request, Bench, Carry, Check, Decode, Drive, Link, Read, Sim, Split, Testbench, Design, project_file, Vcd, Gen, Compare, Expect, Watch}
use Rattle.tydi_tool.proofs.CauseLines.{by_line, line_of, one_word, value_text}
use Rattle.tydi_tool.proofs.CauseSteps.{Told, plan-fault, plan-refused, refuses_project, says-read, told-file}
use Rattle.tydi_tool.proofs.MadeCauses.{tells-made, tells-unmade, told-made}
use Rattle.tydi_tool.proofs.PortLemmas.{split_unless-none}
use Rattle.tydi_tool.proofs.TextLemmas.{ReadsPlan-read, plan-read}

-- the words of a declared test
abbrev pub of_test : (project test : List ℕ) → TestWords
of_test project test = record { project = project; test = test }

-- the text of the testbench that the runs of a port make
abbrev pub bench_by : PlainSplit → List StreamRun → List ℕ
bench_by split runs = bench_text (bench_of_runs split runs)

-- ---- an answer has a cause

module _ (known : Files) (project test : List ℕ) (a : Answer) where
  abbrev command : Request
  command = Testbench project test

  abbrev words : TestWords
  words = of_test project test

  module _ (found : Test) where
    module _ (split : PlainSplit) (at : HasTestCarried known words found split) where
      -- the value and the plan are read
      told-driven : (value : PortValue) (plan : Plan) → HasTestDrive known words split value plan → TellsBench split value plan a → Told known command a
      told-driven value plan all tells =
          told-made split value plan (bench_by split) a known command
          (λ reason is. inr (record { words = words; named = refl; value = value; plan = plan; all = all; is = is }))
          (λ text is. record { split = split; value = value; plan = plan; all = all; is = is }) tells

      -- the value is read; the plan is refused, or read
      told-planned : (value : PortValue) → IsValue split found.value value → TellsPlanned test split found value a → Told known command a
      told-planned value reads (inl refused) =
          let fault = plan-fault (plan_word test) split found.plan refused.0 refused.1.0 in (
            rows.TextFault,
            inl (record {
              line = refused.0;
              faulty = inr (inr (inr (inr (inr (inr (inr (inr (inl (record {
                words = words;
                named = refl;
                test = found;
                split = split;
                at = at;
                value = value;
                value_is = reads;
                fault = fault.0;
                reads = fault.1.0;
                told = fault.1.1;
              })))))))));
              said = refused.1.1;
            }),
          )
      told-planned value reads (inr read) =
          told-driven value read.0 (record { test = found; at = at; value_is = reads; plan_is = plan-read (plan_word test) split found.plan read.0 read.1.0 }) read.1.1

      -- the value is refused, or read
      told-texts : TellsTexts test split found a → Told known command a
      told-texts (inl refused) = (
        rows.TextFault,
        inl (record {
          line = refused.0;
          faulty = inr (inr (inr (inr (inr (inr (inr (inl (record {
            words = words;
            named = refl;
            test = found;
            split = split;
            at = at;
            fault = refused.1.0.0;
            reads = refused.1.0.1.0;
            told = sym (value_text (value_word test) refused.1.0.0) ∙ line_of PortValue (refusal_of_value (value_word test) refused.1.0.0) refused.0 refused.1.0.1.1;
          }))))))));
          said = refused.1.1;
        }),
      )
      told-texts (inr read) = told-planned read.0 read.1.0 read.1.1

    -- a node of the port is not carried, or all are
    told-split : (split : PlainSplit) → HasTestSplit known words found split → TellsSplit test found split a → Told known command a
    told-split split has said = by (uncarried_of split) refl said
      where
        by : (uncarried : Option (List (List ℕ))) → uncarried_of split ≡ uncarried → TellsOf (carried_unless uncarried) (λ done b. TellsTexts test split found b) a → Told known command a
        by None is said = told-texts split (record { split_is = has; carried = is }) said
        by (Some path) is said = (
          rows.NoCarrier,
          record {
            path = path;
            uncarried = inr (record { words = words; named = refl; test = found; split = split; split_is = has; uncarried = is });
            said = said ∙ ap answers.Refused (one_word (codes "tydi: ") (codes "NoCarrier") (codes " ") (path_text path) (codes "\n"));
          },
        )

    -- two physical streams of the port clash, or none
    told-typed : (ltype : Ltype) → HasTest known words found ltype → TellsTyped test found ltype a → Told known command a
    told-typed ltype has said = by (clash_of ltype) refl said
      where
        by : (clash : Option (List (List ℕ))) → clash_of ltype ≡ clash → TellsOf (split_unless ltype clash) (TellsSplit test found) a → Told known command a
        by None is said = told-split (split_of ltype) (record { ltype = ltype; port = has; apart = is; is = refl }) said
        by (Some path) is said = (
          rows.NameClash,
          inl (record {
            path = path;
            clashes = inr (inr (record { words = words; named = refl; test = found; ltype = ltype; port = has; clash = is }));
            said = said ∙ ap answers.Refused (one_word (codes "tydi: ") (codes "NameClash") (codes " ") (path_text path) (codes "\n"));
          }),
        )

  -- the project is read
  told-read : (read : PlainProject) → HasRead known project read → TellsTest read test a → Told known command a
  told-read read has said = by (test_named read test) refl said
    where
      by_port : (found : Test) → test_named read test ≡ Some found → (port : Option PlainPort) → tested_port read found ≡ port → TellsPort test found port a → Told known command a
      by_port found named None drives said = absurd said
      by_port found named (Some port) drives said =
          told-typed found port.ltype (record { read = read; project = has; named = named; found = port; drives = drives; type_is = refl }) said

      by : (found : Option Test) → test_named read test ≡ found → TellsFound read test found a → Told known command a
      by None none said = (
        rows.NoTest,
        record {
          words = words;
          named = refl;
          read = read;
          project = has;
          none = none;
          said = said ∙ ap answers.Refused (one_word (codes "tydi: ") (codes "NoTest") (codes " ") test (codes "\n"));
        },
      )
      by (Some found) named said = by_port found named (tested_port read found) refl said

  pub told_testbench : SaysBy (Some known) (testbench_ask project test) a → Told known command a
  told_testbench says =
      told-file known (project_file project) (ReadsProject project) (λ read. Ends (TellsTest read test)) a command (inl refl)
      (λ bytes line file refused said. refuses_project known command project bytes line a refl refl file refused said)
      (λ bytes read file reads said. told-read read (record { bytes = bytes; file = file; reads = reads }) said) says

-- ---- a cause gives its answer

same_tested : (one other : TestWords) → ◌≡◌ {A = Option TestWords} (Some one) (Some other) → one ≡ other
same_tested one other e = cc

from_tested : (known : Files) (request : Request) (words : TestWords) (a : Answer) → tested_in request ≡ Some words → SaysBy (Some known) (testbench_ask words.project words.test) a
    → SaysBy (Some known) (ask_of request) a
from_tested known (Check trace) words a named said = absurd cc
from_tested known (Read project) words a named said = absurd cc
from_tested known (Split project port) words a named said = absurd cc
from_tested known (Drive project port value plan) words a named said = absurd cc
from_tested known (Decode project port trace) words a named said = absurd cc
from_tested known (Sim bench run) words a named said = absurd cc
from_tested known (Link project) words a named said = absurd cc
from_tested known (Carry project top from to trace) words a named said = absurd cc
from_tested known (Design language project) words a named said = absurd cc
from_tested known (Bench project port value plan) words a named said = absurd cc
from_tested known (Vcd project port scope file) words a named said = absurd cc
from_tested known (Gen project port seed count) words a named said = absurd cc
from_tested known (Compare project port value trace) words a named said = absurd cc
from_tested known (Expect project port value) words a named said = absurd cc
from_tested known (Watch monitor trace) words a named said = absurd cc
from_tested known (Testbench project test) words a named said =
    subst (λ (w : TestWords). SaysBy (Some known) (testbench_ask w.project w.test) a) (sym (same_tested (of_test project test) words named)) said

module _ (known : Files) (words : TestWords) (a : Answer) where
  abbrev Said : Type 0
  Said = SaysBy (Some known) (testbench_ask words.project words.test) a

  -- the project is read, and the end says the answer
  says-tested : (read : PlainProject) → HasRead known words.project read → TellsTest read words.test a → Said
  says-tested read has tells =
      says-read known (project_file words.project) (ReadsProject words.project) (λ one. Ends (TellsTest one words.test)) a has.bytes read has.file has.reads tells

  says-typed : (test : Test) (ltype : Ltype) → HasTest known words test ltype → TellsTyped words.test test ltype a → Said
  says-typed test ltype has tells =
      says-tested has.read has.project
      (subst (λ (o : Option Test). TellsFound has.read words.test o a) (sym has.named)
      (subst (λ (o : Option PlainPort). TellsPort words.test test o a) (sym has.drives) (subst (λ (l : Ltype). TellsTyped words.test test l a) has.type_is tells)))

  says-split : (test : Test) (split : PlainSplit) → HasTestSplit known words test split → TellsSplit words.test test split a → Said
  says-split test split has tells =
      says-typed test has.ltype has.port
      (subst (λ (r : Result PlainSplit Refusal). TellsOf r (TellsSplit words.test test) a) (sym (split_unless-none has.ltype split has.is has.apart)) tells)

  says-texts : (test : Test) (split : PlainSplit) → HasTestCarried known words test split → TellsTexts words.test split test a → Said
  says-texts test split has tells =
      says-split test split has.split_is (subst (λ (o : Option (List (List ℕ))). TellsOf (carried_unless o) (λ done b. TellsTexts words.test split test b) a) (sym has.carried) tells)

  -- the texts are read, and what they drive says the answer
  says-driven : (split : PlainSplit) (value : PortValue) (plan : Plan) → HasTestDrive known words split value plan → TellsBench split value plan a → Said
  says-driven split value plan has tells =
      says-texts has.test split has.at (inr (value, (has.value_is, inr (plan, (ReadsPlan-read (plan_word words.test) split has.test.plan plan has.plan_is, tells)))))

module _ (known : Files) (request : Request) (a : Answer) where
  pub says_no_test : NoTestCause known request a → SaysBy (Some known) (ask_of request) a
  says_no_test cause =
      from_tested known request cause.words a cause.named
      (says-tested known cause.words a cause.read cause.project
      (subst (λ (o : Option Test). TellsFound cause.read cause.words.test o a) (sym cause.none)
      (cause.said ∙ ap answers.Refused (sym (one_word (codes "tydi: ") (codes "NoTest") (codes " ") cause.words.test (codes "\n"))))))

  pub says_test_clash : (path : List (List ℕ)) → TestClashes known request path → a ≡ answers.Refused (codes "tydi: NameClash " ++ path_text path ++ codes "\n") → SaysBy (Some known) (ask_of request) a
  says_test_clash path cause said =
      from_tested known request cause.words a cause.named
      (says-typed known cause.words a cause.test cause.ltype cause.port
      (subst (λ (o : Option (List (List ℕ))). TellsOf (split_unless cause.ltype o) (TellsSplit cause.words.test cause.test) a) (sym cause.clash)
      (said ∙ ap answers.Refused (sym (one_word (codes "tydi: ") (codes "NameClash") (codes " ") (path_text path) (codes "\n"))))))

  pub says_test_uncarried : (path : List (List ℕ)) → TestUncarried known request path → a ≡ answers.Refused (codes "tydi: NoCarrier " ++ path_text path ++ codes "\n") → SaysBy (Some known) (ask_of request) a
  says_test_uncarried path cause said =
      from_tested known request cause.words a cause.named
      (says-split known cause.words a cause.test cause.split cause.split_is
      (subst (λ (o : Option (List (List ℕ))). TellsOf (carried_unless o) (λ done b. TellsTexts cause.words.test cause.split cause.test b) a) (sym cause.uncarried)
      (said ∙ ap answers.Refused (sym (one_word (codes "tydi: ") (codes "NoCarrier") (codes " ") (path_text path) (codes "\n"))))))

  pub says_test_value : (line : List ℕ) → HasTestValueFault known request line → a ≡ answers.Refused line → SaysBy (Some known) (ask_of request) a
  says_test_value line has said =
      from_tested known request has.words a has.named
      (says-texts known has.words a has.test has.split has.at (inl (line, (refused, said))))
    where
      refused : ReadsValue (value_word has.words.test) has.split has.test.value (Err line)
      refused = (has.fault, (has.reads, by_line PortValue (refusal_of_value (value_word has.words.test) has.fault) line (value_text (value_word has.words.test) has.fault ∙ has.told)))

  pub says_test_plan : (line : List ℕ) → HasTestPlanFault known request line → a ≡ answers.Refused line → SaysBy (Some known) (ask_of request) a
  says_test_plan line has said =
      from_tested known request has.words a has.named
      (says-texts known has.words a has.test has.split has.at
      (inr (has.value, (has.value_is, inl (line, (plan-refused (plan_word has.words.test) has.split has.test.plan line has.fault has.reads has.told, said))))))

  pub says_test_reason : (split : PlainSplit) (reason : Undriven) → HasTestReason known request split reason → a ≡ answers.Refused (refusal_line (refusal_of_driving split reason))
      → SaysBy (Some known) (ask_of request) a
  says_test_reason split reason has said =
      from_tested known request has.words a has.named
      (says-driven known has.words a split has.value has.plan has.all (tells-unmade split has.value has.plan (bench_by split) a reason has.is said))

pub says_testbench_text : (known : Files) (words : TestWords) (text : List ℕ) (a : Answer) → IsTestbenchText known words text → a ≡ output_answer text
    → SaysBy (Some known) (testbench_ask words.project words.test) a
says_testbench_text known words text a is said =
    says-driven known words a is.split is.value is.plan is.all (tells-made is.split (bench_text_of is.split (plain_port is.value) is.plan) text a is.is said)
