-- The testbenches that `bench` and `testbench` write.
use Rattle.std.proofs.Common.{◌≡◌, ◌≢◌, ℕ, ◌≤◌, ◌↔◌, inl, inr, Bool, true, false, cond, nat_lt, List, length, Option, Some, Result, Ok, Err, refl, sym, ap, ◌∙◌, subst, arith}
use Rattle.tydi_base.specs.Reading.{◌>>=◌}
use Rattle.tydi_io.specs.Store.{Files}
use Rattle.bench_run.specs.Traces.{trace_text_of}
use Rattle.handshake.specs.Rows.{StreamRun}
use Rattle.logical_value.specs.Tree.{plain_port}
use Rattle.logical_value.specs.declared.value.PortValue.{PortValue}
use Rattle.plan_text.specs.Text.{plan_of}
use Rattle.plan_text.specs.declared.plan.Plan.{Plan}
use Rattle.port_bench.specs.Benches.{bench_of_runs, bench_text_of}
use Rattle.port_bench.specs.Laws.{BenchesShowTheirRuns, DrivenPortsHaveBenches}
use Rattle.port_drive.specs.Drives.{Undriven, drive_of}
use Rattle.port_drive.specs.Laws.{IsDriven, trace_of}
use Rattle.port_drive.specs.Text.{MayDrive, drive_text, written_text}
use Rattle.port_drive.proofs.TextLemmas.{texts-are}
use Rattle.til_resolve.specs.PlainProject.{PlainPort, PlainProject}
use Rattle.til_resolve.specs.declared.project.Test.{Test}
use Rattle.type_split.specs.Streams.{PlainSplit}
use Rattle.value_text.specs.Reading.{IsValue}
use Rattle.vhdl_meaning.proofs.RunFitLemmas.{runs_fit}
use Rattle.vhdl_text.specs.Reading.{bench_of}
use Rattle.vhdl_text.specs.Text.{bench_text}
use Rattle.tydi_tool.specs.declared.answer.Answer.{Answer}
use Rattle.tydi_tool.specs.declared.answer.Answer.TheVariants as answers
use Rattle.tydi_tool.specs.Ask.{Ask, Asks, Ends, SaysBy, SaysOfFile, goes_on}
use Rattle.tydi_tool.specs.BenchLaw.{AcceptedPortsHaveBenches, BenchesAreRefusedAsDrives, HoldsTexts, IsBenchOf, ShowsDrive, TestbenchesAreBenches, WritesBench, WritesTestbench}
use Rattle.tydi_tool.specs.BenchLaw.{WrittenBenchesDrive, WrittenTestbenchesDrive, test_words}
use Rattle.tydi_tool.specs.Causes as rows
use Rattle.tydi_tool.specs.Causes.{DriveWords, HasBytes, HasDrive, HasRead, HasRun, HasTestDrive, IsBenchText, IsTestbenchText, TestWords, TextCause}
use Rattle.tydi_tool.specs.Commands.{Says, carried_ask, planned_ask}
use Rattle.tydi_tool.specs.DriveLaw.{drive_words}
use Rattle.tydi_tool.specs.Drives.{TellsBench, TellsDriven, TellsMade, carried}
use Rattle.tydi_tool.specs.Files.{Lack}
use Rattle.tydi_tool.specs.Outcome.{output_answer, output_limit, output_too_long_line}
use Rattle.tydi_tool.specs.Ports.{port_named, split_at}
use Rattle.tydi_tool.specs.Projects.{ReadsProject}
use Rattle.tydi_tool.specs.Refusals.{Refusal}
use Rattle.tydi_tool.specs.Tests.{AreShort, HasPortWord, test_named, tested_port}
use Rattle.tydi_tool.specs.Texts.{ReadsPlan, ReadsValue}
use Rattle.tydi_tool.specs.Words.{Bench, Drive, FileWord, Sim, Testbench, project_file, text_file}
use Rattle.tydi_tool.proofs.CauseLemmas.{exactly, says-simulated, says_text}
use Rattle.tydi_tool.proofs.CommandLemmas.{SaysBy-request}
use Rattle.tydi_tool.proofs.DriveLawLemmas.{accepted-driven, may-drive, may-drive-by}
use Rattle.tydi_tool.proofs.FormLemmas.{IsPortFormed}
use Rattle.tydi_tool.proofs.ProjectLemmas.{ReadsProject-once}
use Rattle.tydi_tool.proofs.TestLemmas.{test-inside, tested-formed, tests-short}
use Rattle.tydi_tool.proofs.TestWordLemmas.{has-port_word}

-- ---- texts

same_text : (one other : List ℕ) → answers.Done one ≡ answers.Done other → one ≡ other
same_text one other e = cc

same_bytes : (one other : List ℕ) → ◌≡◌ {A = Option (List ℕ)} (Some one) (Some other) → one ≡ other
same_bytes one other e = cc

same_test : (one other : Test) → ◌≡◌ {A = Option Test} (Some one) (Some other) → one ≡ other
same_test one other e = cc

same_port : (one other : PlainPort) → ◌≡◌ {A = Option PlainPort} (Some one) (Some other) → one ≡ other
same_port one other e = cc

same_runs : (one other : List ℕ) → ◌≡◌ {A = Result (List ℕ) Undriven} (Ok one) (Ok other) → one ≡ other
same_runs one other e = cc

no_text : (text : List ℕ) (reason : Undriven) → ◌≡◌ {A = Result (List ℕ) Undriven} (Err reason) (Ok text) → ⊥
no_text text reason e = cc

-- ---- the testbench of a port

module _ (benches : DrivenPortsHaveBenches) (shows : BenchesShowTheirRuns) (split : PlainSplit) (value : PortValue) (plan : Plan) (may : MayDrive split (plain_port value) plan) where
  -- a text that is made is that of such a testbench
  bench-of : (text : List ℕ) → bench_text_of split (plain_port value) plan ≡ Ok text → IsBenchOf split (plain_port value) plan text
  bench-of text is = by (drive_of split (plain_port value) plan.streams) refl is
    where
      by : (driven : Result (List StreamRun) Undriven) → drive_of split (plain_port value) plan.streams ≡ driven → (driven >>= λ runs. Ok (bench_text (bench_of_runs split runs))) ≡ Ok text
          → IsBenchOf split (plain_port value) plan text
      by (Err reason) drives written = absurd (no_text text reason written)
      by (Ok runs) drives written =
          let made : drive_text split (plain_port value) plan ≡ Ok (written_text (trace_of split plan.cycles runs)) =
          ap (λ (r : Result (List StreamRun) Undriven). r >>= λ some. Ok (written_text (trace_of split plan.cycles some))) drives in
          let trace = texts-are split (plain_port value) plan (written_text (trace_of split plan.cycles runs)) may made in
          let one : trace.runs ≡ runs = (let e : ◌≡◌ {A = Result (List StreamRun) Undriven} (Ok trace.runs) (Ok runs) = sym trace.drives ∙ drives in cc) in
          record {
            runs = runs;
            drives = drives;
            driven = subst (IsDriven split (plain_port value) plan) one trace.driven;
            is = sym (same_runs (bench_text (bench_of_runs split runs)) text written);
            bench = benches split (plain_port value) plan runs may drives;
            bytes = λ run fits is. shows split (plain_port value) plan runs run may drives fits is;
          }

  -- `sim` gives what `drive` gives
  shows-drive : (text : List ℕ) (of_it : IsBenchOf split (plain_port value) plan text) → length text ≤ 67108864 → ShowsDrive split value plan of_it.runs text
  shows-drive text of_it within before after words bench other run has there has_run is a = (only, back)
    where
      simulated : Answer
      simulated = output_answer (trace_text_of (bench_of_runs split of_it.runs) run)

      driven : Answer
      driven = output_answer (written_text (trace_of split plan.cycles of_it.runs))

      same : simulated ≡ driven
      same = ap output_answer (of_it.bytes run (runs_fit (bench_of_runs split of_it.runs) has_run.bytes run has_run.reads) is)

      says_sim : Says (Some after) (Some (Sim bench other)) simulated
      says_sim =
          says-simulated after bench other simulated (bench_of_runs split of_it.runs) run
          (record { bytes = text; file = record { there = there; within = within }; reads = subst (λ (l : List ℕ). bench_of l ≡ Ok (bench_of_runs split of_it.runs)) (sym of_it.is) of_it.bench.read }) has_run refl

      says_drive : Says (Some before) (Some (Drive words.at.project words.at.port words.value words.plan)) driven
      says_drive =
          (accepted-driven before words.at.project words.at.port words.value words.plan split value plan of_it.runs (record { read = has; drives = of_it.drives })).0

      only : Says (Some after) (Some (Sim bench other)) a → Says (Some before) (Some (Drive words.at.project words.at.port words.value words.plan)) a
      only says =
          subst (Says (Some before) (Some (Drive words.at.project words.at.port words.value words.plan)))
          (sym same ∙ SaysBy-request after (Sim bench other) simulated a says_sim says) says_drive

      back : Says (Some before) (Some (Drive words.at.project words.at.port words.value words.plan)) a → Says (Some after) (Some (Sim bench other)) a
      back says =
          subst (Says (Some after) (Some (Sim bench other)))
          (same ∙ SaysBy-request before (Drive words.at.project words.at.port words.value words.plan) driven a says_drive says) says_sim

module _ (benches : DrivenPortsHaveBenches) (shows : BenchesShowTheirRuns) where
  -- ---- what `bench` writes

  writes-bench : (known : Files) (words : DriveWords) (text : List ℕ) → length text ≤ 67108864 → IsBenchText known words text → WritesBench known words text
  writes-bench known words text within is =
      let may = may-drive known words is.split is.value is.plan is.all in
      let of_it = bench-of benches shows is.split is.value is.plan may text is.is in
      record { split = is.split; value = is.value; plan = is.plan; read = is.all; bench = of_it; shows = shows-drive benches shows is.split is.value is.plan may text of_it within }

  pub written-benches : WrittenBenchesDrive
  written-benches known project port value plan text says =
      let words = drive_words project port value plan in
      let cause = (exactly rows.AText known (Bench project port value plan) (answers.Done text)).0 (says, refl) in
      let same : text ≡ cause.text = same_text text cause.text cause.said in (
        subst (λ (l : List ℕ). length l ≤ 67108864) (sym same) cause.within,
        subst (WritesBench known words) (sym same) (writes-bench known words cause.text cause.within cause.is),
      )

  -- ---- what `testbench` writes

  -- the value and the plan of a test may drive its port
  may-test : (known : Files) (words : TestWords) (split : PlainSplit) (value : PortValue) (plan : Plan) → HasTestDrive known words split value plan → MayDrive split (plain_port value) plan
  may-test known words split value plan has =
      let at = has.at.split_is in
      may-drive-by at.ltype split value plan has.test.value has.test.plan
      (subst IsPortFormed (sym at.port.type_is) (tested-formed words.project at.port.project.bytes at.port.read has.test at.port.found at.port.project.reads at.port.drives)) at.apart at.is has.value_is has.plan_is

  writes-testbench : (known : Files) (words : TestWords) (text : List ℕ) → length text ≤ 67108864 → IsTestbenchText known words text → WritesTestbench known words text
  writes-testbench known words text within is =
      let may = may-test known words is.split is.value is.plan is.all in
      let of_it = bench-of benches shows is.split is.value is.plan may text is.is in
      record { split = is.split; value = is.value; plan = is.plan; read = is.all; bench = of_it; shows = shows-drive benches shows is.split is.value is.plan may text of_it within }

  pub written-testbenches : WrittenTestbenchesDrive
  written-testbenches known project test text says =
      let words = test_words project test in
      let cause = (exactly rows.AText known (Testbench project test) (answers.Done text)).0 (says, refl) in
      let same : text ≡ cause.text = same_text text cause.text cause.said in (
        subst (λ (l : List ℕ). length l ≤ 67108864) (sym same) cause.within,
        subst (WritesTestbench known words) (sym same) (writes-testbench known words cause.text cause.within cause.is),
      )

-- ---- what `bench` accepts

pub accepted-benches : AcceptedPortsHaveBenches
accepted-benches known project port word other split value plan runs accepts =
    let text = bench_text (bench_of_runs split runs) in
    let is : bench_text_of split (plain_port value) plan ≡ Ok text = ap (λ (r : Result (List StreamRun) Undriven). r >>= λ some. Ok (bench_text (bench_of_runs split some))) accepts.drives in
    says_text known (Bench project port word other) text (output_answer text) (record { split = split; value = value; plan = plan; all = accepts.read; is = is }) refl

-- ---- what `bench` and `drive` refuse

-- the same rest of a command says the same
module _ {X : Type 0} (Reads : List ℕ → Result X (List ℕ) → Type 0) (One Other : X → Type 0) (each : (x : X) → One x → Other x) where
  over-file : (word : List ℕ) (found : Result (List ℕ) Lack) (a : Answer) → SaysOfFile {X = X} Reads One word found a → SaysOfFile {X = X} Reads Other word found a
  over-file word (Err lack) a says = says
  over-file word (Ok bytes) a (inl line) = inl line
  over-file word (Ok bytes) a (inr x) = inr (x.0, (x.1.0, each x.0 x.1.1))

pub over-ask : {X : Type 0} (known : Files) (file : FileWord) (Reads : List ℕ → Result X (List ℕ) → Type 0) (one other : X → Ask) (a : Answer)
    → ((x : X) → SaysBy (Some known) (one x) a → SaysBy (Some known) (other x) a) → SaysBy (Some known) (Asks file X Reads one) a → SaysBy (Some known) (Asks file X Reads other) a
over-ask {X} known file Reads one other a each says =
    (says.0, (says.1.0, over-file Reads (λ x. SaysBy (Some known) (one x) a) (λ x. SaysBy (Some known) (other x) a) each file.word says.0 a says.1.1))

over-step : {V : Type 0} (known : Files) (wanted : Result V Refusal) (one other : V → Ask) (a : Answer)
    → ((v : V) → SaysBy (Some known) (one v) a → SaysBy (Some known) (other v) a) → SaysBy (Some known) (goes_on wanted one) a → SaysBy (Some known) (goes_on wanted other) a
over-step known (Ok v) one other a each says = each v says
over-step known (Err refusal) one other a each says = says

module _ (known : Files) (project port value plan : List ℕ) (One Other : PlainSplit → PortValue → Plan → Answer → Type 0) (a : Answer)
    (each : (split : PlainSplit) (v : PortValue) (p : Plan) → One split v p a → Other split v p a) where
  over-drive : SaysBy (Some known) (carried_ask project port (λ split. planned_ask value plan split (One split))) a
      → SaysBy (Some known) (carried_ask project port (λ split. planned_ask value plan split (Other split))) a
  over-drive =
      over-ask known (project_file project) (ReadsProject project) (λ read. goes_on (split_at read port) (λ split. goes_on (carried split) (λ done. planned_ask value plan split (One split))))
      (λ read. goes_on (split_at read port) (λ split. goes_on (carried split) (λ done. planned_ask value plan split (Other split)))) a
      (λ read. over-step known (split_at read port) (λ split. goes_on (carried split) (λ done. planned_ask value plan split (One split)))
      (λ split. goes_on (carried split) (λ done. planned_ask value plan split (Other split))) a
      (λ split. over-step {V = Unit {0}} known (carried split) (λ done. planned_ask value plan split (One split)) (λ done. planned_ask value plan split (Other split)) a
      (λ done. over-ask known (text_file value) (ReadsValue value split) (λ v. Asks (text_file plan) Plan (ReadsPlan plan split) (λ p. Ends (One split v p)))
      (λ v. Asks (text_file plan) Plan (ReadsPlan plan split) (λ p. Ends (Other split v p))) a
      (λ v. over-ask known (text_file plan) (ReadsPlan plan split) (λ p. Ends (One split v p)) (λ p. Ends (Other split v p)) a (λ p says. each split v p says)))))

-- a text is refused for its length alone
pub long-alone : (text line : List ℕ) → answers.Refused line ≡ output_answer text → line ≡ output_too_long_line
long-alone text line is = by (nat_lt output_limit (length text)) is
  where
    by : (long : Bool) → answers.Refused line ≡ cond long (answers.Refused output_too_long_line) (answers.Done text) → line ≡ output_too_long_line
    by true is = cc
    by false is = absurd cc

-- where the one text of the runs is not there, so is the other not
refused-alike : (split : PlainSplit) (driven : Result (List StreamRun) Undriven) (one other : List StreamRun → List ℕ) (line : List ℕ) → line ≢ output_too_long_line
    → TellsMade split (driven >>= λ runs. Ok (one runs)) (answers.Refused line) → TellsMade split (driven >>= λ runs. Ok (other runs)) (answers.Refused line)
refused-alike split (Ok runs) one other line own says = absurd (own (long-alone (one runs) line says))
refused-alike split (Err reason) one other line own says = says

pub refused-benches : BenchesAreRefusedAsDrives
refused-benches known project port value plan line own = (
  over-drive known project port value plan TellsBench TellsDriven (answers.Refused line)
      (λ split v p. refused-alike split (drive_of split (plain_port v) p.streams) (λ runs. bench_text (bench_of_runs split runs)) (λ runs. written_text (trace_of split p.cycles runs)) line own),
  over-drive known project port value plan TellsDriven TellsBench (answers.Refused line)
      (λ split v p. refused-alike split (drive_of split (plain_port v) p.streams) (λ runs. written_text (trace_of split p.cycles runs)) (λ runs. bench_text (bench_of_runs split runs)) line own),
)

-- ---- `testbench` and `bench`

module _ (known after : Files) (project port value plan test : List ℕ) (holds : HoldsTexts known after project value plan test) (worded : HasPortWord holds.read holds.declared)
    (names : port_named holds.read port ≡ tested_port holds.read holds.declared) where
  abbrev words : DriveWords
  words = drive_words project port value plan

  -- the texts are within the limit of a file
  short : AreShort holds.declared
  short = tests-short project holds.project_is.bytes holds.read holds.project_is.reads holds.project_is.file.within holds.declared (test-inside holds.read test holds.declared holds.test_is)

  -- the project is read in one way
  same-read : (bytes : List ℕ) (read : PlainProject) → known project ≡ Some bytes → ReadsProject project bytes (Ok read) → read ≡ holds.read
  same-read bytes read there reads =
      let same : bytes ≡ holds.project_is.bytes = same_bytes bytes holds.project_is.bytes (sym there ∙ holds.project_is.file.there) in
      (ReadsProject-once project).same holds.project_is.bytes read holds.read (subst (λ (l : List ℕ). ReadsProject project l (Ok read)) same reads) holds.project_is.reads

  -- the files drive the port of the test
  files-drive : (split : PlainSplit) (v : PortValue) (p : Plan) → HasTestDrive known (test_words project test) split v p → HasDrive after words split v p
  files-drive split v p has = record {
    at = record {
      split_is = record {
        ltype = has.at.split_is.ltype;
        port = record {
          bytes = holds.project_is.bytes;
          file = record { there = holds.same ∙ holds.project_is.file.there; within = holds.project_is.file.within };
          read = holds.read;
          reads = holds.project_is.reads;
          found = worded.port;
          named = names ∙ worded.drives;
          type_is = type_is;
        };
        apart = has.at.split_is.apart;
        is = has.at.split_is.is;
      };
      carried = has.at.carried;
    };
    value_is = record { bytes = holds.declared.value; file = record { there = holds.value_is; within = omega (arith, short.value) }; reads = subst (λ (t : Test). IsValue split t.value v) declared has.value_is };
    plan_is = record {
      bytes = holds.declared.plan;
      file = record { there = holds.plan_is; within = omega (arith, short.plan) };
      reads = subst (λ (t : Test). plan_of split.streams t.plan ≡ Ok p) declared has.plan_is;
    };
  }
    where
      read : has.at.split_is.port.read ≡ holds.read
      read = same-read has.at.split_is.port.project.bytes has.at.split_is.port.read has.at.split_is.port.project.file.there has.at.split_is.port.project.reads

      declared : has.test ≡ holds.declared
      declared = same_test has.test holds.declared (sym (subst (λ (r : PlainProject). test_named r test ≡ Some has.test) read has.at.split_is.port.named) ∙ holds.test_is)

      found : has.at.split_is.port.found ≡ worded.port
      found = same_port has.at.split_is.port.found worded.port
          (sym (subst (λ (t : Test). tested_port holds.read t ≡ Some has.at.split_is.port.found) declared
          (subst (λ (r : PlainProject). tested_port r has.test ≡ Some has.at.split_is.port.found) read has.at.split_is.port.drives)) ∙ worded.drives)

      type_is : has.at.split_is.ltype ≡ worded.port.ltype
      type_is = has.at.split_is.port.type_is ∙ ap (λ (one : PlainPort). one.ltype) found

  -- and the test drives the port of the files
  test-drives : (split : PlainSplit) (v : PortValue) (p : Plan) → HasDrive after words split v p → HasTestDrive known (test_words project test) split v p
  test-drives split v p has = record {
    test = holds.declared;
    at = record {
      split_is = record {
        ltype = has.at.split_is.ltype;
        port = record { read = holds.read; project = holds.project_is; named = holds.test_is; found = worded.port; drives = worded.drives; type_is = type_is };
        apart = has.at.split_is.apart;
        is = has.at.split_is.is;
      };
      carried = has.at.carried;
    };
    value_is = subst (λ (l : List ℕ). IsValue split l v) (same_bytes has.value_is.bytes holds.declared.value (sym has.value_is.file.there ∙ holds.value_is)) has.value_is.reads;
    plan_is = subst (λ (l : List ℕ). plan_of split.streams l ≡ Ok p) (same_bytes has.plan_is.bytes holds.declared.plan (sym has.plan_is.file.there ∙ holds.plan_is)) has.plan_is.reads;
  }
    where
      read : has.at.split_is.port.read ≡ holds.read
      read = same-read has.at.split_is.port.bytes has.at.split_is.port.read (sym holds.same ∙ has.at.split_is.port.file.there) has.at.split_is.port.reads

      found : has.at.split_is.port.found ≡ worded.port
      found = same_port has.at.split_is.port.found worded.port
          (sym (subst (λ (r : PlainProject). port_named r port ≡ Some has.at.split_is.port.found) read has.at.split_is.port.named) ∙ names ∙ worded.drives)

      type_is : has.at.split_is.ltype ≡ worded.port.ltype
      type_is = has.at.split_is.port.type_is ∙ ap (λ (one : PlainPort). one.ltype) found

  alike : (text : List ℕ) → Says (Some known) (Some (Testbench project test)) (answers.Done text) ↔ Says (Some after) (Some (Bench project port value plan)) (answers.Done text)
  alike text = (only, back)
    where
      only : Says (Some known) (Some (Testbench project test)) (answers.Done text) → Says (Some after) (Some (Bench project port value plan)) (answers.Done text)
      only says =
          let cause = (exactly rows.AText known (Testbench project test) (answers.Done text)).0 (says, refl) in
          let is = cause.is in
          let other : TextCause after (Bench project port value plan) (answers.Done text) = record {
            text = cause.text;
            is = record { split = is.split; value = is.value; plan = is.plan; all = files-drive is.split is.value is.plan is.all; is = is.is };
            within = cause.within;
            said = cause.said;
          } in
          ((exactly rows.AText after (Bench project port value plan) (answers.Done text)).1 other).0

      back : Says (Some after) (Some (Bench project port value plan)) (answers.Done text) → Says (Some known) (Some (Testbench project test)) (answers.Done text)
      back says =
          let cause = (exactly rows.AText after (Bench project port value plan) (answers.Done text)).0 (says, refl) in
          let is = cause.is in
          let other : TextCause known (Testbench project test) (answers.Done text) = record {
            text = cause.text;
            is = record { split = is.split; value = is.value; plan = is.plan; all = test-drives is.split is.value is.plan is.all; is = is.is };
            within = cause.within;
            said = cause.said;
          } in
          ((exactly rows.AText known (Testbench project test) (answers.Done text)).1 other).0

pub alike-benches : TestbenchesAreBenches
alike-benches known after project value plan test holds = (worded, λ port text names. alike known after project port value plan test holds worded names text)
  where
    worded : HasPortWord holds.read holds.declared
    worded = has-port_word project holds.project_is.bytes holds.read holds.project_is.reads holds.declared (test-inside holds.read test holds.declared holds.test_is)
