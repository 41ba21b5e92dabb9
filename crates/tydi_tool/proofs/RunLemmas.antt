-- From the one contract of a run to its clauses.
use Rattle.std.proofs.Common.{◌≡◌, ℕ, ◌<◌, ◌⊎◌, inl, inr, List, [], ◌∷◌, length, Option, None, Some, IfSome, codes, refl, sym, ap, ◌∙◌, subst, arith, ⊎_elim}
use Rattle.tydi_io.specs.Store.{Files}
use Rattle.tydi_tool.specs.declared.answer.Answer.{Answer}
use Rattle.tydi_tool.specs.declared.answer.Answer.TheVariants as answers
use Rattle.tydi_tool.specs.declared.answer.Reply.{Reply}
use Rattle.tydi_tool.specs.declared.answer.Reply.TheVariants as replies
use Rattle.tydi_tool.specs.declared.status.Status.{Status}
use Rattle.tydi_tool.specs.declared.status.Status.TheVariants as statuses
use Rattle.tydi_tool.specs.Drives.{TellsBench, TellsDriven}
use Rattle.tydi_tool.specs.Words.{Request, Check, Decode, Drive, Link, Read, Sim, Split, FileWord, file_words, text_file, trace_file, Carry, Design, Bench, Testbench, Vcd, dump_file, Gen, Compare, Expect, Watch}
use Rattle.split_text.specs.Text.{split_text}
use Rattle.tydi_tool.specs.Outcome.{out_of_answer, output_answer, out_of, err_of, status_of, status_of_answer, usage_line, memory_line, write_fault_line}
use Rattle.tydi_tool.specs.Delivery.{Adds, AddsFront, AddsPart, TakesLine, IsLined, IsCut, IsWritten, OutFails, OutWants, Delivers}
use Rattle.tydi_tool.specs.Ask.{AsksFor, AsksSome, Decides, Ends}
use Rattle.tydi_tool.specs.Commands.{ask_of, Says, compared_ask, dump_ask, expected_ask, outcome_ask, planned_ask, valued_ask}
use Rattle.tydi_tool.specs.Started.{IsPulledOut, IsGivenOne, NamesStarted, StartsWithin, Leaves}
use Rattle.tydi_tool.specs.Run.{Runs, AnswersCauses, EndsAsked, EndsUnasked, EndsInAnswer, EndsWith, IsAnswered, IsComplete, IsCaused, ReportsRead, OutFront, OutPart, IsRefusal}
use Rattle.tydi_tool.specs.Run.{IsLine, ErrFront, LeavesOut, LeavesErr, StartedAtEnd, UsageExactly, WritesReadBack, WritesTrace, WritesValue, WritesCarried, WritesWired, WritesLines, WritesCompared, WritesExpected, WritesSampled, WritesWatched, WritesJob}
use Rattle.tydi_tool.proofs.CauseLemmas.{exactly, told}
use Rattle.tydi_tool.proofs.CauseLines.{one_word}
use Rattle.tydi_tool.proofs.DecodeLemmas.{outcome-for}
use Rattle.tydi_tool.proofs.DecodeLawLemmas.{driven-read_back, written-carried}
use Rattle.tydi_tool.proofs.DriveLawLemmas.{written-driven}
use Rattle.tydi_tool.proofs.DriveLemmas.{planned-for}
use Rattle.tydi_tool.proofs.DumpLemmas.{dump-for}
use Rattle.tydi_tool.specs.DecodeLaw.{IsReadBack, WritesDecoded, decode_words}
use Rattle.tydi_tool.specs.BenchLaw.{WritesBench, WritesTestbench, WrittenBenchesDrive, WrittenTestbenchesDrive, test_words}
use Rattle.tydi_tool.specs.CarryLaw.{WritesArrived, WrittenTracesArrive, carry_words}
use Rattle.tydi_tool.specs.JobLaw.{WritesSummary, WrittenSummariesAreOfJobs, job_words}
use Rattle.tydi_tool.specs.Jobs.{TellsJob}
use Rattle.tydi_tool.specs.DriveLaw.{WritesDriven, drive_words}
use Rattle.tydi_tool.specs.DumpLaw.{WritesShown, WrittenDumpsAreShown, dump_words}
use Rattle.tydi_tool.specs.WiringLaw.{WritesDesign, WrittenDesignsAreWired}
use Rattle.tydi_tool.specs.Causes.{IsQuietText}
use Rattle.tydi_tool.specs.CompareLaw.{SameTracesShowValues, WritesSame, compare_words}
use Rattle.tydi_tool.specs.WatchLaw.{WritesMonitor, WrittenLinesAreQuiet, WrittenMonitorsReport, expect_words, watch_words}
use Rattle.tydi_tool.proofs.CommandLemmas.{SaysBy-request}
use Rattle.tydi_tool.proofs.AskLemmas.{SaysBy-decided}
use Rattle.tydi_tool.proofs.DeliveryLemmas.{AddsFront-all, AddsFront-part, AddsPart-some}
use Rattle.tydi_tool.proofs.FileLemmas.{IsGiven-pulled_out}
use Rattle.tydi_tool.proofs.StartedLemmas.{Leaves-decided}
use Rattle.tydi_tool.proofs.StepLemmas.{carried-for, port-for}

-- the files of each command are those that it asks for
asks_for : (request : Request) → AsksFor (file_words request) (ask_of request)
asks_for (Check trace) = (refl, λ x. tt)
asks_for (Read project) = (refl, λ x. tt)
asks_for (Split project port) = port-for project port [] (λ split. Ends (λ a. a ≡ output_answer (split_text split))) (λ split. tt)
asks_for (Drive project port value plan) =
    carried-for project port (text_file value ∷ text_file plan ∷ []) (λ split. planned_ask value plan split (TellsDriven split)) (λ split. planned-for value plan split (TellsDriven split))
asks_for (Decode project port trace) = carried-for project port (trace_file trace ∷ []) (outcome_ask trace) (outcome-for trace)
asks_for (Sim bench run) = (refl, λ read. (refl, λ made. tt))
asks_for (Link project) = (refl, λ x. tt)
asks_for (Carry project top from to trace) = (refl, λ heads. (refl, λ t. tt))
asks_for (Design language project) = (refl, λ x. tt)
asks_for (Bench project port value plan) =
    carried-for project port (text_file value ∷ text_file plan ∷ []) (λ split. planned_ask value plan split (TellsBench split)) (λ split. planned-for value plan split (TellsBench split))
asks_for (Testbench project test) = (refl, λ x. tt)
asks_for (Vcd project port scope file) = port-for project port (dump_file file ∷ []) (dump_ask scope file) (dump-for scope file)
asks_for (Compare project port value trace) =
    carried-for project port (text_file value ∷ trace_file trace ∷ []) (λ split. valued_ask value split (compared_ask trace split)) (λ split. (refl, λ read. (refl, λ found. tt)))
asks_for (Expect project port value) = carried-for project port (text_file value ∷ []) (expected_ask value) (λ split. (refl, λ read. tt))
asks_for (Watch monitor trace) = (refl, λ watch. (refl, λ found. tt))
asks_for (Gen project port seed count) = carried-for project port [] (λ split. Ends (TellsJob split seed count)) (λ split. tt)

asks_some : (request : Request) → AsksSome (ask_of request)
asks_some (Check trace) = tt
asks_some (Read project) = tt
asks_some (Split project port) = tt
asks_some (Drive project port value plan) = tt
asks_some (Decode project port trace) = tt
asks_some (Sim bench run) = tt
asks_some (Link project) = tt
asks_some (Carry project top from to trace) = tt
asks_some (Design language project) = tt
asks_some (Bench project port value plan) = tt
asks_some (Testbench project test) = tt
asks_some (Vcd project port scope file) = tt
asks_some (Gen project port seed count) = tt
asks_some (Compare project port value trace) = tt
asks_some (Expect project port value) = tt
asks_some (Watch monitor trace) = tt

-- ---- a run of a command

module _ (request : Request) (told : Option Files) (old new : Option (List ℕ × ℕ)) (rose out_rose err_rose : Type 0) (status : Status) (out_old out_new err_old err_new : Option (List ℕ)) where
  abbrev Asked : Type 0
  Asked = EndsAsked rose out_rose err_rose request told old new status out_old out_new err_old err_new

  -- the reply that says an answer says the answer to the words and the files
  says_of : (a : Answer) → Decides told old new rose (ask_of request) (replies.Says a) → Says told (Some request) a
  says_of a d = SaysBy-decided told new rose (IfSome told (λ known. new ≡ old)) (ask_of request) a d

  leaves_of : (reply : Reply) → Decides told old new rose (ask_of request) reply → Leaves told (file_words request) old new rose reply
  leaves_of reply d = Leaves-decided (file_words request) old new rose told (ask_of request) reply (asks_for request) (asks_some request) d

  no_answer : EndsInAnswer statuses.WriteFault → ⊥
  no_answer ends = ends

  -- a status of an answer is that of the reply, all of which was written
  written_of : (reply : Reply) → Delivers out_rose err_rose reply status out_old out_new err_old err_new → EndsInAnswer status →
      (status ≡ status_of reply) × (Adds out_old out_new (out_of reply) × Adds err_old err_new (err_of reply))
  written_of reply (inl w) ends =
      ⊎_elim (λ (l : IsLined status (status_of reply) err_old err_new (err_of reply)). (l.ends, (w.out, l.err)))
      (λ (c : IsCut err_rose status err_old err_new (err_of reply)). absurd (subst EndsInAnswer c.ends ends)) w.err
  written_of reply (inr (inl f)) ends = absurd (subst EndsInAnswer f.ends ends)
  written_of reply (inr (inr m)) ends =
      ⊎_elim (λ (l : IsLined status statuses.Memory err_old err_new memory_line). absurd (subst EndsInAnswer l.ends ends))
      (λ (c : IsCut err_rose status err_old err_new memory_line). absurd (subst EndsInAnswer c.ends ends)) m.err

  answered_by : (reply : Reply) → Decides told old new rose (ask_of request) reply → status ≡ status_of reply → EndsInAnswer (status_of reply) →
      Adds out_old out_new (out_of reply) → Adds err_old err_new (err_of reply) → IsAnswered told (Some request) status out_old out_new err_old err_new
  answered_by (replies.Says a) d is ends out err = record { answer = a; says = says_of a d; ends = is; out = out; err = err }
  answered_by (replies.ReadFault line) d is ends out err = absurd ends
  answered_by replies.Memory d is ends out err = absurd ends

  answered : Asked → EndsInAnswer status → IsAnswered told (Some request) status out_old out_new err_old err_new
  answered r ends =
      let w = written_of r.reply r.delivered ends in
      answered_by r.reply r.decided w.0 (subst EndsInAnswer w.0 ends) w.1.0 w.1.1

  -- with no fault
  complete_by : (reply : Reply) → Decides told old new rose (ask_of request) reply → (rose → ⊥) → status ≡ status_of reply →
      Adds out_old out_new (out_of reply) → Adds err_old err_new (err_of reply) → IsComplete told (Some request) status out_old out_new err_old err_new
  complete_by (replies.Says a) d quiet is out err = inr (record { answer = a; says = says_of a d; ends = is; out = out; err = err })
  complete_by (replies.ReadFault line) d quiet is out err = absurd (quiet (leaves_of (replies.ReadFault line) d).rose)
  complete_by replies.Memory d quiet is out err = inl is

  complete_from : (reply : Reply) → Decides told old new rose (ask_of request) reply → Delivers out_rose err_rose reply status out_old out_new err_old err_new →
      (rose → ⊥) → (out_rose → ⊥) → (err_rose → ⊥) → IsComplete told (Some request) status out_old out_new err_old err_new
  complete_from reply d (inl w) quiet out_quiet err_quiet =
      ⊎_elim (λ (l : IsLined status (status_of reply) err_old err_new (err_of reply)). complete_by reply d quiet l.ends w.out l.err)
      (λ (c : IsCut err_rose status err_old err_new (err_of reply)). absurd (err_quiet c.rose)) w.err
  complete_from reply d (inr (inl f)) quiet out_quiet err_quiet = absurd (out_quiet f.rose)
  complete_from reply d (inr (inr m)) quiet out_quiet err_quiet =
      ⊎_elim (λ (l : IsLined status statuses.Memory err_old err_new memory_line). inl l.ends)
      (λ (c : IsCut err_rose status err_old err_new memory_line). absurd (err_quiet c.rose)) m.err

  -- a failed read
  read_status : (reply : Reply) → status_of reply ≡ statuses.ReadFault → (line : List ℕ) × (reply ≡ replies.ReadFault line)
  read_status (replies.Says (answers.Refused line)) e = cc
  read_status (replies.Says (answers.Verdict line)) e = cc
  read_status (replies.Says (answers.Done text)) e = cc
  read_status (replies.ReadFault line) e = (line, refl)
  read_status replies.Memory e = cc

  other_status : (a b : Status) → status ≡ a → status ≡ b → a ≡ b
  other_status a b x y = sym x ∙ y

  reports_line : (line : List ℕ) → Decides told old new rose (ask_of request) (replies.ReadFault line) → Adds out_old out_new [] → Adds err_old err_new line →
      ReportsRead told (Some request) new out_old out_new err_old err_new
  reports_line line d out err =
      let failed = leaves_of (replies.ReadFault line) d in record {
        file = failed.file;
        named = failed.named;
        starts = starts told failed.file failed.starts;
        out = out;
        err = subst (λ (l : List ℕ). Adds err_old err_new l) (failed.says ∙ one_word (codes "tydi: ") (codes "ReadFault") (codes " ") failed.file.word (codes "\n")) err;
      }
    where
      starts : (told : Option Files) (file : FileWord) → IfSome told (λ known. IsGivenOne known (file_words request) new × NamesStarted known (file_words request) new file.word) →
          IfSome told (λ known. NamesStarted known (file_words request) new file.word)
      starts None file both = tt
      starts (Some known) file both = both.1

  reports_reply : (reply : Reply) → Decides told old new rose (ask_of request) reply → status_of reply ≡ statuses.ReadFault → Adds out_old out_new (out_of reply) → Adds err_old err_new (err_of reply) →
      ReportsRead told (Some request) new out_old out_new err_old err_new
  reports_reply reply d e out err =
      let line = read_status reply e in
      reports_line line.0 (subst (Decides told old new rose (ask_of request)) line.1 d)
      (subst (λ (r : Reply). Adds out_old out_new (out_of r)) line.1 out) (subst (λ (r : Reply). Adds err_old err_new (err_of r)) line.1 err)

  reports_from : (reply : Reply) → Decides told old new rose (ask_of request) reply → Delivers out_rose err_rose reply status out_old out_new err_old err_new →
      status ≡ statuses.ReadFault → ReportsRead told (Some request) new out_old out_new err_old err_new
  reports_from reply d (inl w) e =
      ⊎_elim (λ (l : IsLined status (status_of reply) err_old err_new (err_of reply)). reports_reply reply d (sym l.ends ∙ e) w.out l.err)
      (λ (c : IsCut err_rose status err_old err_new (err_of reply)). absurd (no_write (other_status statuses.WriteFault statuses.ReadFault c.ends e))) w.err
    where
      no_write : statuses.WriteFault ≡ statuses.ReadFault → ⊥
      no_write x = cc
  reports_from reply d (inr (inl f)) e = absurd (no_write (other_status statuses.WriteFault statuses.ReadFault f.ends e))
    where
      no_write : statuses.WriteFault ≡ statuses.ReadFault → ⊥
      no_write x = cc
  reports_from reply d (inr (inr m)) e =
      ⊎_elim (λ (l : IsLined status statuses.Memory err_old err_new memory_line). absurd (no_memory (other_status statuses.Memory statuses.ReadFault l.ends e)))
      (λ (c : IsCut err_rose status err_old err_new memory_line). absurd (no_write (other_status statuses.WriteFault statuses.ReadFault c.ends e))) m.err
    where
      no_write : statuses.WriteFault ≡ statuses.ReadFault → ⊥
      no_write x = cc

      no_memory : statuses.Memory ≡ statuses.ReadFault → ⊥
      no_memory x = cc

  -- a front of what is said
  front_by : (reply : Reply) → Decides told old new rose (ask_of request) reply → 0 < length (out_of reply) → AddsFront out_old out_new (out_of reply) → OutFront told (Some request) out_old out_new
  front_by (replies.Says a) d some front = inr (record { answer = a; says = says_of a d; front = front })
  front_by (replies.ReadFault line) d some front = absurd (omega arith)
  front_by replies.Memory d some front = absurd (omega arith)

  front_all : (reply : Reply) → Decides told old new rose (ask_of request) reply → Adds out_old out_new (out_of reply) → OutFront told (Some request) out_old out_new
  front_all (replies.Says a) d adds = inr (record { answer = a; says = says_of a d; front = AddsFront-all out_old out_new (out_of_answer a) adds })
  front_all (replies.ReadFault line) d adds = inl adds
  front_all replies.Memory d adds = inl adds

  front_from : (reply : Reply) → Decides told old new rose (ask_of request) reply → Delivers out_rose err_rose reply status out_old out_new err_old err_new → OutFront told (Some request) out_old out_new
  front_from reply d (inl w) = front_all reply d w.out
  front_from reply d (inr (inl f)) = front_by reply d f.some f.out
  front_from reply d (inr (inr m)) = front_by reply d (AddsPart-some out_old out_new (out_of reply) m.out) (AddsFront-part out_old out_new (out_of reply) m.out)

  -- where memory was missing
  part_by : (reply : Reply) → Decides told old new rose (ask_of request) reply → AddsPart out_old out_new (out_of reply) → OutPart told (Some request) out_old out_new
  part_by (replies.Says a) d part = inr (record { answer = a; says = says_of a d; part = part })
  part_by (replies.ReadFault line) d part = absurd (omega (arith, part.shorter))
  part_by replies.Memory d part = absurd (omega (arith, part.shorter))

  none_by : (reply : Reply) → status_of reply ≡ statuses.Memory → Adds out_old out_new (out_of reply) → Adds out_old out_new []
  none_by (replies.Says (answers.Refused line)) e out = cc
  none_by (replies.Says (answers.Verdict line)) e out = cc
  none_by (replies.Says (answers.Done text)) e out = cc
  none_by (replies.ReadFault line) e out = cc
  none_by replies.Memory e out = out

  part_from : (reply : Reply) → Decides told old new rose (ask_of request) reply → Delivers out_rose err_rose reply status out_old out_new err_old err_new → status ≡ statuses.Memory
      → OutPart told (Some request) out_old out_new
  part_from reply d (inl w) e =
      ⊎_elim (λ (l : IsLined status (status_of reply) err_old err_new (err_of reply)). inl (none_by reply (sym l.ends ∙ e) w.out))
      (λ (c : IsCut err_rose status err_old err_new (err_of reply)). absurd (no_write (other_status statuses.WriteFault statuses.Memory c.ends e))) w.err
    where
      no_write : statuses.WriteFault ≡ statuses.Memory → ⊥
      no_write x = cc
  part_from reply d (inr (inl f)) e = absurd (no_write (other_status statuses.WriteFault statuses.Memory f.ends e))
    where
      no_write : statuses.WriteFault ≡ statuses.Memory → ⊥
      no_write x = cc
  part_from reply d (inr (inr m)) e = part_by reply d m.out

  -- the line of a reply is one that err may take
  line_of : (reply : Reply) → Decides told old new rose (ask_of request) reply → IsLine told (Some request) rose out_rose (err_of reply)
  line_of (replies.Says a) d = inl (record { answer = a; says = says_of a d; is = refl })
  line_of (replies.ReadFault line) d = let failed = leaves_of (replies.ReadFault line) d in inr (inl (record { rose = failed.rose; file = failed.file; named = failed.named; is = failed.says }))
  line_of replies.Memory d = inr (inr (inr refl))

  front_of_line : (wanted : Status) (line : List ℕ) → TakesLine err_rose status wanted err_old err_new line → AddsFront err_old err_new line
  front_of_line wanted line (inl l) = AddsFront-all err_old err_new line l.err
  front_of_line wanted line (inr c) = c.err

  err_from : (reply : Reply) → Decides told old new rose (ask_of request) reply → Delivers out_rose err_rose reply status out_old out_new err_old err_new →
      ErrFront told (Some request) rose out_rose err_old err_new
  err_from reply d (inl w) = record { line = err_of reply; is = line_of reply d; front = front_of_line (status_of reply) (err_of reply) w.err }
  err_from reply d (inr (inl f)) = record {
    line = write_fault_line;
    is = inr (inr (inl (f.rose, refl)));
    front = ⊎_elim (AddsFront-all err_old err_new write_fault_line) (λ x. x.1) f.err;
  }
  err_from reply d (inr (inr m)) = record { line = memory_line; is = inr (inr (inr refl)); front = front_of_line statuses.Memory memory_line m.err }

-- ---- the clauses

module _ (told : Option Files) (old new : Option (List ℕ × ℕ)) (rose out_rose err_rose : Type 0) (status : Status) (out_old out_new err_old err_new : Option (List ℕ)) where
  abbrev RunsOn : Option Request → Type 0
  RunsOn request = Runs rose out_rose err_rose request told old new status out_old out_new err_old err_new

  unasked : EndsUnasked err_rose told old new status out_old out_new err_old err_new → (status ≡ statuses.Usage) ⊎ (status ≡ statuses.WriteFault)
  unasked r = ⊎_elim (λ (l : IsLined status statuses.Usage err_old err_new usage_line). inl l.ends) (λ (c : IsCut err_rose status err_old err_new usage_line). inr c.ends) r.err

  no_answer_unasked : EndsUnasked err_rose told old new status out_old out_new err_old err_new → EndsInAnswer status → ⊥
  no_answer_unasked r ends = ⊎_elim (λ e. subst EndsInAnswer e ends) (λ e. subst EndsInAnswer e ends) (unasked r)

  pub IsAnswered-run : (request : Option Request) → RunsOn request → EndsInAnswer status → IsAnswered told request status out_old out_new err_old err_new
  IsAnswered-run None r ends = absurd (no_answer_unasked r ends)
  IsAnswered-run (Some request) r ends = answered request told old new rose out_rose err_rose status out_old out_new err_old err_new r ends

  pub IsComplete-run : (request : Option Request) → RunsOn request → (rose → ⊥) → (out_rose → ⊥) → (err_rose → ⊥) → IsComplete told request status out_old out_new err_old err_new
  IsComplete-run None r quiet out_quiet err_quiet =
      ⊎_elim (λ (l : IsLined status statuses.Usage err_old err_new usage_line). l.ends) (λ (c : IsCut err_rose status err_old err_new usage_line). absurd (err_quiet c.rose)) r.err
  IsComplete-run (Some request) r quiet out_quiet err_quiet =
      complete_from request told old new rose out_rose err_rose status out_old out_new err_old err_new r.reply r.decided r.delivered quiet out_quiet err_quiet

  pub ReportsRead-run : (request : Option Request) → RunsOn request → status ≡ statuses.ReadFault → ReportsRead told request new out_old out_new err_old err_new
  ReportsRead-run None r e = absurd (⊎_elim (λ u. no_usage (sym u ∙ e)) (λ w. no_write (sym w ∙ e)) (unasked r))
    where
      no_usage : statuses.Usage ≡ statuses.ReadFault → ⊥
      no_usage x = cc

      no_write : statuses.WriteFault ≡ statuses.ReadFault → ⊥
      no_write x = cc
  ReportsRead-run (Some request) r e = reports_from request told old new rose out_rose err_rose status out_old out_new err_old err_new r.reply r.decided r.delivered e

  pub OutFront-run : (request : Option Request) → RunsOn request → OutFront told request out_old out_new
  OutFront-run None r = inl r.out
  OutFront-run (Some request) r = front_from request told old new rose out_rose err_rose status out_old out_new err_old err_new r.reply r.decided r.delivered

  pub OutPart-run : (request : Option Request) → RunsOn request → status ≡ statuses.Memory → OutPart told request out_old out_new
  OutPart-run None r e = inl r.out
  OutPart-run (Some request) r e = part_from request told old new rose out_rose err_rose status out_old out_new err_old err_new r.reply r.decided r.delivered e

  pub ErrFront-run : (request : Option Request) → RunsOn request → ErrFront told request rose out_rose err_old err_new
  ErrFront-run None r = record {
    line = usage_line;
    is = refl;
    front = ⊎_elim (λ (l : IsLined status statuses.Usage err_old err_new usage_line). AddsFront-all err_old err_new usage_line l.err) (λ (c : IsCut err_rose status err_old err_new usage_line). c.err) r.err;
  }
  ErrFront-run (Some request) r = err_from request told old new rose out_rose err_rose status out_old out_new err_old err_new r.reply r.decided r.delivered

-- an answer to files that the store reports has its cause in them
pub IsCaused-answered : (files : Option Files) (request : Option Request) (status : Status) (out_old out_new err_old err_new : Option (List ℕ)) →
    IsAnswered files request status out_old out_new err_old err_new → IfSome files (λ known. IsCaused known request status out_old out_new err_old err_new)
IsCaused-answered None request status out_old out_new err_old err_new a = tt
IsCaused-answered (Some known) None status out_old out_new err_old err_new a = absurd a.says
IsCaused-answered (Some known) (Some request) status out_old out_new err_old err_new a =
    let cause = told known request a.answer a.says in
    record { asked = request; is = refl; row = cause.0; answer = a.answer; cause = cause.1; ends = a.ends; out = a.out; err = a.err }

pub is_done : (status : Status) → status ≡ statuses.Done → EndsInAnswer status
is_done status done = subst EndsInAnswer (sym done) tt

-- out has exactly a text more that the command writes, of which more is known
written_text : (request : Request) (known : Files) (Is : List ℕ → Type 0) → ((text : List ℕ) → Says (Some known) (Some request) (answers.Done text) → Is text)
    → (status : Status) (out_old out_new err_old err_new : Option (List ℕ)) → IsAnswered (Some known) (Some request) status out_old out_new err_old err_new → status ≡ statuses.Done
    → (text : List ℕ) × (Is text × Adds out_old out_new text)
written_text request known Is is status out_old out_new err_old err_new a done = by a.answer a.says (sym a.ends ∙ done) a.out
  where
    by : (answer : Answer) → Says (Some known) (Some request) answer → status_of_answer answer ≡ statuses.Done → Adds out_old out_new (out_of_answer answer) → (text : List ℕ) × (Is text × Adds out_old out_new text)
    by (answers.Done text) says ends out = (text, (is text says, out))
    by (answers.Verdict line) says ends out = absurd cc
    by (answers.Refused line) says ends out = absurd cc

-- where no count of faults rose, an answer whose cause stands is the answer
pub AnswersCauses-complete : (files : Option Files) (request : Option Request) (status : Status) (out_old out_new err_old err_new : Option (List ℕ)) →
    IsComplete files request status out_old out_new err_old err_new → IfSome files (λ known. AnswersCauses known request status out_old out_new err_old err_new)
AnswersCauses-complete None request status out_old out_new err_old err_new complete = tt
AnswersCauses-complete (Some known) None status out_old out_new err_old err_new complete = tt
AnswersCauses-complete (Some known) (Some request) status out_old out_new err_old err_new (inl memory) = λ row answer cause. inl memory
AnswersCauses-complete (Some known) (Some request) status out_old out_new err_old err_new (inr a) = λ row answer cause.
    inr (subst (λ (b : Answer). EndsWith b status out_old out_new err_old err_new)
    (SaysBy-request known request a.answer answer a.says ((exactly row known request answer).1 cause).0) (record { ends = a.ends; out = a.out; err = a.err }))

-- a text that is written for a port that is driven is that of such a trace
pub WritesTrace-answered : (files : Option Files) (request : Option Request) (status : Status) (out_old out_new err_old err_new : Option (List ℕ)) →
    IsAnswered files request status out_old out_new err_old err_new → status ≡ statuses.Done → IfSome files (λ known. WritesTrace known request out_old out_new)
WritesTrace-answered None request status out_old out_new err_old err_new a done = tt
WritesTrace-answered (Some known) None status out_old out_new err_old err_new a done = tt
WritesTrace-answered (Some known) (Some (Check trace)) status out_old out_new err_old err_new a done = tt
WritesTrace-answered (Some known) (Some (Read project)) status out_old out_new err_old err_new a done = tt
WritesTrace-answered (Some known) (Some (Split project port)) status out_old out_new err_old err_new a done = tt
WritesTrace-answered (Some known) (Some (Decode project port trace)) status out_old out_new err_old err_new a done = tt
WritesTrace-answered (Some known) (Some (Sim bench run)) status out_old out_new err_old err_new a done = tt
WritesTrace-answered (Some known) (Some (Link project)) status out_old out_new err_old err_new a done = tt
WritesTrace-answered (Some known) (Some (Carry project top from to trace)) status out_old out_new err_old err_new a done = tt
WritesTrace-answered (Some known) (Some (Design language project)) status out_old out_new err_old err_new a done = tt
WritesTrace-answered (Some known) (Some (Bench project port value plan)) status out_old out_new err_old err_new a done = tt
WritesTrace-answered (Some known) (Some (Testbench project test)) status out_old out_new err_old err_new a done = tt
WritesTrace-answered (Some known) (Some (Vcd project port scope file)) status out_old out_new err_old err_new a done = tt
WritesTrace-answered (Some known) (Some (Gen project port seed count)) status out_old out_new err_old err_new a done = tt
WritesTrace-answered (Some known) (Some (Compare project port value trace)) status out_old out_new err_old err_new a done = tt
WritesTrace-answered (Some known) (Some (Expect project port value)) status out_old out_new err_old err_new a done = tt
WritesTrace-answered (Some known) (Some (Watch monitor trace)) status out_old out_new err_old err_new a done = tt
WritesTrace-answered (Some known) (Some (Drive project port value plan)) status out_old out_new err_old err_new a done =
    written_text (Drive project port value plan) known (WritesDriven known (drive_words project port value plan)) (λ text says. (written-driven known project port value plan text says).1)
    status out_old out_new err_old err_new a done

-- each text that is written for a port that is driven is read back
pub WritesReadBack-answered : (files : Option Files) (request : Option Request) (status : Status) (out_old out_new err_old err_new : Option (List ℕ)) →
    IsAnswered files request status out_old out_new err_old err_new → status ≡ statuses.Done → IfSome files (λ known. WritesReadBack known request out_old out_new)
WritesReadBack-answered None request status out_old out_new err_old err_new a done = tt
WritesReadBack-answered (Some known) None status out_old out_new err_old err_new a done = tt
WritesReadBack-answered (Some known) (Some (Check trace)) status out_old out_new err_old err_new a done = tt
WritesReadBack-answered (Some known) (Some (Read project)) status out_old out_new err_old err_new a done = tt
WritesReadBack-answered (Some known) (Some (Split project port)) status out_old out_new err_old err_new a done = tt
WritesReadBack-answered (Some known) (Some (Decode project port trace)) status out_old out_new err_old err_new a done = tt
WritesReadBack-answered (Some known) (Some (Sim bench run)) status out_old out_new err_old err_new a done = tt
WritesReadBack-answered (Some known) (Some (Link project)) status out_old out_new err_old err_new a done = tt
WritesReadBack-answered (Some known) (Some (Design language project)) status out_old out_new err_old err_new a done = tt
WritesReadBack-answered (Some known) (Some (Bench project port value plan)) status out_old out_new err_old err_new a done = tt
WritesReadBack-answered (Some known) (Some (Testbench project test)) status out_old out_new err_old err_new a done = tt
WritesReadBack-answered (Some known) (Some (Vcd project port scope file)) status out_old out_new err_old err_new a done = tt
WritesReadBack-answered (Some known) (Some (Gen project port seed count)) status out_old out_new err_old err_new a done = tt
WritesReadBack-answered (Some known) (Some (Compare project port value trace)) status out_old out_new err_old err_new a done = tt
WritesReadBack-answered (Some known) (Some (Expect project port value)) status out_old out_new err_old err_new a done = tt
WritesReadBack-answered (Some known) (Some (Watch monitor trace)) status out_old out_new err_old err_new a done = tt
WritesReadBack-answered (Some known) (Some (Carry project top from to trace)) status out_old out_new err_old err_new a done = tt
WritesReadBack-answered (Some known) (Some (Drive project port value plan)) status out_old out_new err_old err_new a done =
    written_text (Drive project port value plan) known (IsReadBack known (drive_words project port value plan)) (λ text says. driven-read_back known project port value plan text says)
    status out_old out_new err_old err_new a done

-- each text that is written for a port that is decoded is that of the value that the trace carries
pub WritesValue-answered : (files : Option Files) (request : Option Request) (status : Status) (out_old out_new err_old err_new : Option (List ℕ)) →
    IsAnswered files request status out_old out_new err_old err_new → status ≡ statuses.Done → IfSome files (λ known. WritesValue known request out_old out_new)
WritesValue-answered None request status out_old out_new err_old err_new a done = tt
WritesValue-answered (Some known) None status out_old out_new err_old err_new a done = tt
WritesValue-answered (Some known) (Some (Check trace)) status out_old out_new err_old err_new a done = tt
WritesValue-answered (Some known) (Some (Read project)) status out_old out_new err_old err_new a done = tt
WritesValue-answered (Some known) (Some (Split project port)) status out_old out_new err_old err_new a done = tt
WritesValue-answered (Some known) (Some (Drive project port value plan)) status out_old out_new err_old err_new a done = tt
WritesValue-answered (Some known) (Some (Sim bench run)) status out_old out_new err_old err_new a done = tt
WritesValue-answered (Some known) (Some (Link project)) status out_old out_new err_old err_new a done = tt
WritesValue-answered (Some known) (Some (Design language project)) status out_old out_new err_old err_new a done = tt
WritesValue-answered (Some known) (Some (Bench project port value plan)) status out_old out_new err_old err_new a done = tt
WritesValue-answered (Some known) (Some (Testbench project test)) status out_old out_new err_old err_new a done = tt
WritesValue-answered (Some known) (Some (Vcd project port scope file)) status out_old out_new err_old err_new a done = tt
WritesValue-answered (Some known) (Some (Gen project port seed count)) status out_old out_new err_old err_new a done = tt
WritesValue-answered (Some known) (Some (Compare project port value trace)) status out_old out_new err_old err_new a done = tt
WritesValue-answered (Some known) (Some (Expect project port value)) status out_old out_new err_old err_new a done = tt
WritesValue-answered (Some known) (Some (Watch monitor trace)) status out_old out_new err_old err_new a done = tt
WritesValue-answered (Some known) (Some (Carry project top from to trace)) status out_old out_new err_old err_new a done = tt
WritesValue-answered (Some known) (Some (Decode project port trace)) status out_old out_new err_old err_new a done =
    written_text (Decode project port trace) known (WritesDecoded known (decode_words project port trace)) (λ text says. (written-carried known project port trace text says).1)
    status out_old out_new err_old err_new a done

-- where a trace is carried, out has the text of the trace that arrives
pub WritesCarried-answered : WrittenTracesArrive → (files : Option Files) (request : Option Request) (status : Status)
    (out_old out_new err_old err_new : Option (List ℕ)) →
    IsAnswered files request status out_old out_new err_old err_new → status ≡ statuses.Done
    → IfSome files (λ known. WritesCarried known request out_old out_new)
WritesCarried-answered arrive None request status out_old out_new err_old err_new a done = tt
WritesCarried-answered arrive (Some known) None status out_old out_new err_old err_new a done = tt
WritesCarried-answered arrive (Some known) (Some (Check trace)) status out_old out_new err_old err_new a done = tt
WritesCarried-answered arrive (Some known) (Some (Read project)) status out_old out_new err_old err_new a done = tt
WritesCarried-answered arrive (Some known) (Some (Split project port)) status out_old out_new err_old err_new a done = tt
WritesCarried-answered arrive (Some known) (Some (Drive project port value plan)) status out_old out_new err_old err_new a done = tt
WritesCarried-answered arrive (Some known) (Some (Design language project)) status out_old out_new err_old err_new a done = tt
WritesCarried-answered arrive (Some known) (Some (Bench project port value plan)) status out_old out_new err_old err_new a done = tt
WritesCarried-answered arrive (Some known) (Some (Testbench project test)) status out_old out_new err_old err_new a done = tt
WritesCarried-answered arrive (Some known) (Some (Vcd project port scope file)) status out_old out_new err_old err_new a done = tt
WritesCarried-answered arrive (Some known) (Some (Gen project port seed count)) status out_old out_new err_old err_new a done = tt
WritesCarried-answered arrive (Some known) (Some (Compare project port value trace)) status out_old out_new err_old err_new a done = tt
WritesCarried-answered arrive (Some known) (Some (Expect project port value)) status out_old out_new err_old err_new a done = tt
WritesCarried-answered arrive (Some known) (Some (Watch monitor trace)) status out_old out_new err_old err_new a done = tt
WritesCarried-answered arrive (Some known) (Some (Decode project port trace)) status out_old out_new err_old err_new a done = tt
WritesCarried-answered arrive (Some known) (Some (Sim bench run)) status out_old out_new err_old err_new a done = tt
WritesCarried-answered arrive (Some known) (Some (Link project)) status out_old out_new err_old err_new a done = tt
WritesCarried-answered arrive (Some known) (Some (Carry project top from to trace)) status out_old out_new err_old err_new a done =
    by a.answer a.says (sym a.ends ∙ done) a.out
  where
    by : (answer : Answer) → Says (Some known) (Some (Carry project top from to trace)) answer → status_of_answer answer ≡ statuses.Done
        → Adds out_old out_new (out_of_answer answer)
        → (text : List ℕ) × (WritesArrived known (carry_words project top from to trace) text × Adds out_old out_new text)
    by (answers.Done text) says ends out = (text, ((arrive known project top from to trace text says).1, out))
    by (answers.Verdict line) says ends out = absurd cc
    by (answers.Refused line) says ends out = absurd cc

-- where a project is written in VHDL, out has the text of its entities and architectures
pub WritesWired-answered : WrittenDesignsAreWired → (files : Option Files) (request : Option Request) (status : Status)
    (out_old out_new err_old err_new : Option (List ℕ)) →
    IsAnswered files request status out_old out_new err_old err_new → status ≡ statuses.Done
    → IfSome files (λ known. WritesWired known request out_old out_new)
WritesWired-answered wired None request status out_old out_new err_old err_new a done = tt
WritesWired-answered wired (Some known) (Some (Design language project)) status out_old out_new err_old err_new a done =
    written_text (Design language project) known (WritesDesign known language project) (λ text says. (wired known language project text says).1)
    status out_old out_new err_old err_new a done
WritesWired-answered wired (Some known) request status out_old out_new err_old err_new a done = tt

-- where a testbench is made, out has its text
pub WritesLines-answered : WrittenBenchesDrive → WrittenTestbenchesDrive → (files : Option Files) (request : Option Request) (status : Status) (out_old out_new err_old err_new : Option (List ℕ)) →
    IsAnswered files request status out_old out_new err_old err_new → status ≡ statuses.Done → IfSome files (λ known. WritesLines known request out_old out_new)
WritesLines-answered bench test None request status out_old out_new err_old err_new a done = tt
WritesLines-answered bench test (Some known) None status out_old out_new err_old err_new a done = tt
WritesLines-answered bench test (Some known) (Some (Check trace)) status out_old out_new err_old err_new a done = tt
WritesLines-answered bench test (Some known) (Some (Read project)) status out_old out_new err_old err_new a done = tt
WritesLines-answered bench test (Some known) (Some (Split project port)) status out_old out_new err_old err_new a done = tt
WritesLines-answered bench test (Some known) (Some (Drive project port value plan)) status out_old out_new err_old err_new a done = tt
WritesLines-answered bench test (Some known) (Some (Decode project port trace)) status out_old out_new err_old err_new a done = tt
WritesLines-answered bench test (Some known) (Some (Sim bench_word run)) status out_old out_new err_old err_new a done = tt
WritesLines-answered bench test (Some known) (Some (Link project)) status out_old out_new err_old err_new a done = tt
WritesLines-answered bench test (Some known) (Some (Carry project top from to trace)) status out_old out_new err_old err_new a done = tt
WritesLines-answered bench test (Some known) (Some (Design language project)) status out_old out_new err_old err_new a done = tt
WritesLines-answered bench test (Some known) (Some (Vcd project port scope file)) status out_old out_new err_old err_new a done = tt
WritesLines-answered bench test (Some known) (Some (Bench project port value plan)) status out_old out_new err_old err_new a done =
    written_text (Bench project port value plan) known (WritesBench known (drive_words project port value plan)) (λ text says. (bench known project port value plan text says).1)
    status out_old out_new err_old err_new a done
WritesLines-answered bench test (Some known) (Some (Testbench project word)) status out_old out_new err_old err_new a done =
    written_text (Testbench project word) known (WritesTestbench known (test_words project word)) (λ text says. (test known project word text says).1)
    status out_old out_new err_old err_new a done
WritesLines-answered bench test (Some known) (Some (Gen project port seed count)) status out_old out_new err_old err_new a done = tt
WritesLines-answered bench test (Some known) (Some (Compare project port value trace)) status out_old out_new err_old err_new a done = tt
WritesLines-answered bench test (Some known) (Some (Expect project port value)) status out_old out_new err_old err_new a done = tt
WritesLines-answered bench test (Some known) (Some (Watch monitor trace)) status out_old out_new err_old err_new a done = tt

-- where a job of a port is made, out has the text of its summary
pub WritesJob-answered : WrittenSummariesAreOfJobs → (files : Option Files) (request : Option Request) (status : Status) (out_old out_new err_old err_new : Option (List ℕ)) →
    IsAnswered files request status out_old out_new err_old err_new → status ≡ statuses.Done → IfSome files (λ known. WritesJob known request out_old out_new)
WritesJob-answered jobs None request status out_old out_new err_old err_new a done = tt
WritesJob-answered jobs (Some known) (Some (Gen project port seed count)) status out_old out_new err_old err_new a done =
    written_text (Gen project port seed count) known (WritesSummary known (job_words project port seed count)) (λ text says. (jobs known project port text seed count says).1)
    status out_old out_new err_old err_new a done
WritesJob-answered jobs (Some known) request status out_old out_new err_old err_new a done = tt

-- where a trace is compared and is the same, out has the line that says so
pub WritesCompared-answered : SameTracesShowValues → (files : Option Files) (request : Option Request) (status : Status) (out_old out_new err_old err_new : Option (List ℕ)) →
    IsAnswered files request status out_old out_new err_old err_new → status ≡ statuses.Done → IfSome files (λ known. WritesCompared known request out_old out_new)
WritesCompared-answered same None request status out_old out_new err_old err_new a done = tt
WritesCompared-answered same (Some known) (Some (Compare project port value trace)) status out_old out_new err_old err_new a done =
    written_text (Compare project port value trace) known (WritesSame known (compare_words project port value trace)) (λ text says. same known project port value trace text says)
    status out_old out_new err_old err_new a done
WritesCompared-answered same (Some known) request status out_old out_new err_old err_new a done = tt

-- where a monitor is made, out has its text
pub WritesExpected-answered : WrittenMonitorsReport → (files : Option Files) (request : Option Request) (status : Status) (out_old out_new err_old err_new : Option (List ℕ)) →
    IsAnswered files request status out_old out_new err_old err_new → status ≡ statuses.Done → IfSome files (λ known. WritesExpected known request out_old out_new)
WritesExpected-answered written None request status out_old out_new err_old err_new a done = tt
WritesExpected-answered written (Some known) (Some (Expect project port value)) status out_old out_new err_old err_new a done =
    written_text (Expect project port value) known (WritesMonitor known (expect_words project port value)) (λ text says. (written known project port value text says).1)
    status out_old out_new err_old err_new a done
WritesExpected-answered written (Some known) request status out_old out_new err_old err_new a done = tt

-- where a monitor runs and no process reports, out has the lines of what each stream has seen
pub WritesWatched-answered : WrittenLinesAreQuiet → (files : Option Files) (request : Option Request) (status : Status) (out_old out_new err_old err_new : Option (List ℕ)) →
    IsAnswered files request status out_old out_new err_old err_new → status ≡ statuses.Done → IfSome files (λ known. WritesWatched known request out_old out_new)
WritesWatched-answered quiet None request status out_old out_new err_old err_new a done = tt
WritesWatched-answered quiet (Some known) (Some (Watch monitor trace)) status out_old out_new err_old err_new a done =
    written_text (Watch monitor trace) known (IsQuietText known (watch_words monitor trace)) (λ text says. quiet known monitor trace text says)
    status out_old out_new err_old err_new a done
WritesWatched-answered quiet (Some known) request status out_old out_new err_old err_new a done = tt

-- where a dump is sampled, out has the text of the trace that it shows
pub WritesSampled-answered : WrittenDumpsAreShown → (files : Option Files) (request : Option Request) (status : Status)
    (out_old out_new err_old err_new : Option (List ℕ)) →
    IsAnswered files request status out_old out_new err_old err_new → status ≡ statuses.Done
    → IfSome files (λ known. WritesSampled known request out_old out_new)
WritesSampled-answered shown None request status out_old out_new err_old err_new a done = tt
WritesSampled-answered shown (Some known) (Some (Vcd project port scope file)) status out_old out_new err_old err_new a done =
    written_text (Vcd project port scope file) known (WritesShown known (dump_words project port scope file))
    (λ text says. (shown known project port scope file text says).1) status out_old out_new err_old err_new a done
WritesSampled-answered shown (Some known) request status out_old out_new err_old err_new a done = tt

-- where the answer is a refusal, nothing goes to out
no_out : (a : Answer) → IsRefusal a → out_of_answer a ≡ []
no_out (answers.Refused line) h = refl
no_out (answers.Verdict line) h = absurd h
no_out (answers.Done text) h = absurd h

empty : (bytes : List ℕ) → bytes ≡ [] → 0 < length bytes → ⊥
empty bytes none some = omega (arith, ap length none)

nothing_out : (known : Files) (request : Request) (old new : Option (List ℕ × ℕ)) (rose : Type 0) (reply : Reply) (a : Answer) → Decides (Some known) old new rose (ask_of request) reply →
    Says (Some known) (Some request) a → IsRefusal a → out_of reply ≡ []
nothing_out known request old new rose (replies.Says b) a d says refusal =
    ap out_of_answer (SaysBy-request known request b a (SaysBy-decided (Some known) new rose (new ≡ old) (ask_of request) b d) says) ∙ no_out a refusal
nothing_out known request old new rose (replies.ReadFault line) a d says refusal = refl
nothing_out known request old new rose replies.Memory a d says refusal = refl

pub Refusal-run : (told : Option Files) (request : Option Request) (old new : Option (List ℕ × ℕ)) (rose out_rose err_rose : Type 0) (status : Status) (out_old out_new err_old err_new : Option (List ℕ)) →
    Runs rose out_rose err_rose request told old new status out_old out_new err_old err_new →
    IfSome told (λ known. (a : Answer) → Says (Some known) request a → IsRefusal a → Adds out_old out_new [])
Refusal-run None request old new rose out_rose err_rose status out_old out_new err_old err_new r = tt
Refusal-run (Some known) None old new rose out_rose err_rose status out_old out_new err_old err_new r = λ a says refusal. r.out
Refusal-run (Some known) (Some request) old new rose out_rose err_rose status out_old out_new err_old err_new r = λ a says refusal.
    let none = nothing_out known request old new rose r.reply a r.decided says refusal in
    ⊎_elim (λ (w : IsWritten err_rose r.reply status out_old out_new err_old err_new). subst (λ (bytes : List ℕ). Adds out_old out_new bytes) none w.out)
    (⊎_elim (λ (f : OutFails out_rose err_rose (out_of r.reply) status out_old out_new err_old err_new). absurd (empty (out_of r.reply) none f.some))
    (λ (m : OutWants err_rose (out_of r.reply) status out_old out_new err_old err_new). absurd (empty (out_of r.reply) none (AddsPart-some out_old out_new (out_of r.reply) m.out)))) r.delivered

-- ---- the file that is started at the end

-- in every case none was started, or one, within its limit
starts_within : (known : Files) (request : Request) (old new : Option (List ℕ × ℕ)) (rose : Type 0) (reply : Reply) →
    Leaves (Some known) (file_words request) old new rose reply → StartsWithin known (file_words request) old new
starts_within known request old new rose (replies.Says a) out = inr (record { file = out.file; named = out.named; given = IsGiven-pulled_out known out.file new out.place })
starts_within known request old new rose (replies.ReadFault line) r = inr r.starts.0
starts_within known request old new rose replies.Memory r = r

-- with an answer a file was pulled out
pulled_out_by : (known : Files) (request : Request) (old new : Option (List ℕ × ℕ)) (rose : Type 0) (reply : Reply) →
    Leaves (Some known) (file_words request) old new rose reply → EndsInAnswer (status_of reply) → IsPulledOut known (file_words request) new
pulled_out_by known request old new rose (replies.Says a) out ends = out
pulled_out_by known request old new rose (replies.ReadFault line) r ends = absurd ends
pulled_out_by known request old new rose replies.Memory r ends = absurd ends

pub StartedAtEnd-run : (told : Option Files) (request : Option Request) (old new : Option (List ℕ × ℕ)) (rose out_rose err_rose : Type 0) (status : Status) (out_old out_new err_old err_new : Option (List ℕ)) →
    Runs rose out_rose err_rose request told old new status out_old out_new err_old err_new →
    IfSome told (λ known. StartedAtEnd known request status old new)
StartedAtEnd-run None request old new rose out_rose err_rose status out_old out_new err_old err_new r = tt
StartedAtEnd-run (Some known) None old new rose out_rose err_rose status out_old out_new err_old err_new r = r.started
StartedAtEnd-run (Some known) (Some request) old new rose out_rose err_rose status out_old out_new err_old err_new r =
    let left = leaves_of request (Some known) old new rose out_rose err_rose status out_old out_new err_old err_new r.reply r.decided in (
      starts_within known request old new rose r.reply left,
      λ ends. let w = written_of request (Some known) old new rose out_rose err_rose status out_old out_new err_old err_new r.reply r.delivered ends in
          pulled_out_by known request old new rose r.reply left (subst EndsInAnswer w.0 ends),
    )

-- ---- the statuses with which a sink is as before

out_none : (reply : Reply) → LeavesOut (status_of reply) → out_of reply ≡ []
out_none (replies.Says (answers.Refused line)) leaves = refl
out_none (replies.Says (answers.Verdict line)) leaves = absurd leaves
out_none (replies.Says (answers.Done text)) leaves = absurd leaves
out_none (replies.ReadFault line) leaves = refl
out_none replies.Memory leaves = absurd leaves

err_none : (reply : Reply) → LeavesErr (status_of reply) → err_of reply ≡ []
err_none (replies.Says (answers.Refused line)) leaves = absurd leaves
err_none (replies.Says (answers.Verdict line)) leaves = refl
err_none (replies.Says (answers.Done text)) leaves = refl
err_none (replies.ReadFault line) leaves = absurd leaves
err_none replies.Memory leaves = absurd leaves

module _ (told : Option Files) (old new : Option (List ℕ × ℕ)) (rose out_rose err_rose : Type 0) (status : Status) (out_old out_new err_old err_new : Option (List ℕ)) where
  -- a status with which a property does not go that a line's own status and WriteFault lack
  lined : (Leaves : Status → Type 0) (wanted : Status) (line : List ℕ) → (Leaves wanted → ⊥) → (Leaves statuses.WriteFault → ⊥) →
      TakesLine err_rose status wanted err_old err_new line → Leaves status → ⊥
  lined Leaves wanted line own fault takes leaves =
      ⊎_elim (λ (l : IsLined status wanted err_old err_new line). own (subst Leaves l.ends leaves))
      (λ (c : IsCut err_rose status err_old err_new line). fault (subst Leaves c.ends leaves)) takes

  out_reply : (reply : Reply) → Delivers out_rose err_rose reply status out_old out_new err_old err_new → LeavesOut status → Adds out_old out_new []
  out_reply reply (inl w) leaves =
      ⊎_elim (λ (l : IsLined status (status_of reply) err_old err_new (err_of reply)). subst (λ (bytes : List ℕ). Adds out_old out_new bytes) (out_none reply (subst LeavesOut l.ends leaves)) w.out)
      (λ (c : IsCut err_rose status err_old err_new (err_of reply)). absurd (subst LeavesOut c.ends leaves)) w.err
  out_reply reply (inr (inl f)) leaves = absurd (subst LeavesOut f.ends leaves)
  out_reply reply (inr (inr m)) leaves = absurd (lined LeavesOut statuses.Memory memory_line (λ h. h) (λ h. h) m.err leaves)

  err_reply : (reply : Reply) → Delivers out_rose err_rose reply status out_old out_new err_old err_new → LeavesErr status → Adds err_old err_new []
  err_reply reply (inl w) leaves =
      ⊎_elim (λ (l : IsLined status (status_of reply) err_old err_new (err_of reply)). subst (λ (bytes : List ℕ). Adds err_old err_new bytes) (err_none reply (subst LeavesErr l.ends leaves)) l.err)
      (λ (c : IsCut err_rose status err_old err_new (err_of reply)). absurd (subst LeavesErr c.ends leaves)) w.err
  err_reply reply (inr (inl f)) leaves = absurd (subst LeavesErr f.ends leaves)
  err_reply reply (inr (inr m)) leaves = absurd (lined LeavesErr statuses.Memory memory_line (λ h. h) (λ h. h) m.err leaves)

  pub LeavesOut-run : (request : Option Request) → Runs rose out_rose err_rose request told old new status out_old out_new err_old err_new → LeavesOut status → Adds out_old out_new []
  LeavesOut-run None r leaves = r.out
  LeavesOut-run (Some request) r leaves = out_reply r.reply r.delivered leaves

  pub LeavesErr-run : (request : Option Request) → Runs rose out_rose err_rose request told old new status out_old out_new err_old err_new → LeavesErr status → Adds err_old err_new []
  LeavesErr-run None r leaves = absurd (lined LeavesErr statuses.Usage usage_line (λ h. h) (λ h. h) r.err leaves)
  LeavesErr-run (Some request) r leaves = err_reply r.reply r.delivered leaves

-- ---- clauses by the status alone

never_usage : (reply : Reply) → status_of reply ≡ statuses.Usage → ⊥
never_usage (replies.Says (answers.Refused line)) e = cc
never_usage (replies.Says (answers.Verdict line)) e = cc
never_usage (replies.Says (answers.Done text)) e = cc
never_usage (replies.ReadFault line) e = cc
never_usage replies.Memory e = cc

never_write : (reply : Reply) → status_of reply ≡ statuses.WriteFault → ⊥
never_write (replies.Says (answers.Refused line)) e = cc
never_write (replies.Says (answers.Verdict line)) e = cc
never_write (replies.Says (answers.Done text)) e = cc
never_write (replies.ReadFault line) e = cc
never_write replies.Memory e = cc

memory_reply : (reply : Reply) → status_of reply ≡ statuses.Memory → reply ≡ replies.Memory
memory_reply (replies.Says (answers.Refused line)) e = cc
memory_reply (replies.Says (answers.Verdict line)) e = cc
memory_reply (replies.Says (answers.Done text)) e = cc
memory_reply (replies.ReadFault line) e = cc
memory_reply replies.Memory e = refl

apart : (s a b : Status) → s ≡ a → s ≡ b → a ≡ b
apart s a b x y = sym x ∙ y

usage_apart : (s : Status) → s ≡ statuses.Usage → s ≡ statuses.WriteFault → ⊥
usage_apart s x y = let e = apart s statuses.Usage statuses.WriteFault x y in cc

read_apart_usage : (s : Status) → s ≡ statuses.ReadFault → s ≡ statuses.Usage → ⊥
read_apart_usage s x y = let e = apart s statuses.ReadFault statuses.Usage x y in cc

read_apart : (s : Status) → s ≡ statuses.ReadFault → s ≡ statuses.WriteFault → ⊥
read_apart s x y = let e = apart s statuses.ReadFault statuses.WriteFault x y in cc

memory_apart : (s : Status) → s ≡ statuses.Memory → s ≡ statuses.WriteFault → ⊥
memory_apart s x y = let e = apart s statuses.Memory statuses.WriteFault x y in cc

memory_apart_usage : (s : Status) → s ≡ statuses.Memory → s ≡ statuses.Usage → ⊥
memory_apart_usage s x y = let e = apart s statuses.Memory statuses.Usage x y in cc

memory_apart_read : (s : Status) → s ≡ statuses.Memory → s ≡ statuses.ReadFault → ⊥
memory_apart_read s x y = let e = apart s statuses.Memory statuses.ReadFault x y in cc

-- how a reply was delivered, by the status
record Whole (reply : Reply) (status : Status) (err_old err_new : Option (List ℕ)) : Type 0 where
  ends : status ≡ status_of reply
  err : Adds err_old err_new (err_of reply)

record Failed (out_rose err_rose : Type 0) (status : Status) (err_old err_new : Option (List ℕ)) : Type 0 where
  ends : status ≡ statuses.WriteFault
  rose : out_rose ⊎ err_rose
  line : (err_rose → ⊥) → Adds err_old err_new write_fault_line

record Wanted (status : Status) (err_old err_new : Option (List ℕ)) : Type 0 where
  ends : status ≡ statuses.Memory
  err : Adds err_old err_new memory_line

module _ (out_rose err_rose : Type 0) (reply : Reply) (status : Status) (out_old out_new err_old err_new : Option (List ℕ)) where
  how : Delivers out_rose err_rose reply status out_old out_new err_old err_new →
      Whole reply status err_old err_new ⊎ (Failed out_rose err_rose status err_old err_new ⊎ Wanted status err_old err_new)
  how (inl w) =
      ⊎_elim (λ (l : IsLined status (status_of reply) err_old err_new (err_of reply)). inl (record { ends = l.ends; err = l.err }))
      (λ (c : IsCut err_rose status err_old err_new (err_of reply)). inr (inl (record { ends = c.ends; rose = inr c.rose; line = λ quiet. absurd (quiet c.rose) }))) w.err
  how (inr (inl f)) = inr (inl (record { ends = f.ends; rose = inl f.rose; line = λ quiet. ⊎_elim (λ l. l) (λ p. absurd (quiet p.0)) f.err }))
  how (inr (inr m)) =
      ⊎_elim (λ (l : IsLined status statuses.Memory err_old err_new memory_line). inr (inr (record { ends = l.ends; err = l.err })))
      (λ (c : IsCut err_rose status err_old err_new memory_line). inr (inl (record { ends = c.ends; rose = inr c.rose; line = λ quiet. absurd (quiet c.rose) }))) m.err

  how_usage : Delivers out_rose err_rose reply status out_old out_new err_old err_new → status ≡ statuses.Usage → ⊥
  how_usage d is = ⊎_elim (λ (w : Whole reply status err_old err_new). never_usage reply (sym w.ends ∙ is))
      (⊎_elim (λ (f : Failed out_rose err_rose status err_old err_new). usage_apart status is f.ends) (λ (m : Wanted status err_old err_new). memory_apart_usage status m.ends is)) (how d)

  how_write : Delivers out_rose err_rose reply status out_old out_new err_old err_new → status ≡ statuses.WriteFault → Failed out_rose err_rose status err_old err_new
  how_write d is = ⊎_elim (λ (w : Whole reply status err_old err_new). absurd (never_write reply (sym w.ends ∙ is)))
      (⊎_elim (λ (f : Failed out_rose err_rose status err_old err_new). f) (λ (m : Wanted status err_old err_new). absurd (memory_apart status m.ends is))) (how d)

  how_read : Delivers out_rose err_rose reply status out_old out_new err_old err_new → status ≡ statuses.ReadFault → status_of reply ≡ statuses.ReadFault
  how_read d is = ⊎_elim (λ (w : Whole reply status err_old err_new). sym w.ends ∙ is)
      (⊎_elim (λ (f : Failed out_rose err_rose status err_old err_new). absurd (read_apart status is f.ends)) (λ (m : Wanted status err_old err_new). absurd (memory_apart_read status m.ends is))) (how d)

  how_memory : Delivers out_rose err_rose reply status out_old out_new err_old err_new → status ≡ statuses.Memory → Adds err_old err_new memory_line
  how_memory d is = ⊎_elim (λ (w : Whole reply status err_old err_new). subst (λ (r : Reply). Adds err_old err_new (err_of r)) (memory_reply reply (sym w.ends ∙ is)) w.err)
      (⊎_elim (λ (f : Failed out_rose err_rose status err_old err_new). absurd (memory_apart status is f.ends)) (λ (m : Wanted status err_old err_new). m.err)) (how d)

module _ (told : Option Files) where
  -- Usage comes exactly where there is no command, a failure of err aside
  pub usage-exactly : (request : Option Request) (old new : Option (List ℕ × ℕ)) (rose out_rose err_rose : Type 0) (status : Status) (out_old out_new err_old err_new : Option (List ℕ)) →
      Runs rose out_rose err_rose request told old new status out_old out_new err_old err_new → UsageExactly request err_rose status
  usage-exactly None old new rose out_rose err_rose status out_old out_new err_old err_new r = (
    λ is. refl,
    λ is. ⊎_elim (λ (l : IsLined status statuses.Usage err_old err_new usage_line). inl l.ends) (λ (c : IsCut err_rose status err_old err_new usage_line). inr (c.ends, c.rose)) r.err,
  )
  usage-exactly (Some request) old new rose out_rose err_rose status out_old out_new err_old err_new r = (
    λ is. absurd (how_usage out_rose err_rose r.reply status out_old out_new err_old err_new r.delivered is),
    λ none. absurd cc,
  )

  pub usage-run : (request : Option Request) (old new : Option (List ℕ × ℕ)) (rose out_rose err_rose : Type 0) (status : Status) (out_old out_new err_old err_new : Option (List ℕ)) →
      Runs rose out_rose err_rose request told old new status out_old out_new err_old err_new → status ≡ statuses.Usage → Adds out_old out_new [] × Adds err_old err_new usage_line
  usage-run None old new rose out_rose err_rose status out_old out_new err_old err_new r is =
      ⊎_elim (λ (l : IsLined status statuses.Usage err_old err_new usage_line). (r.out, l.err)) (λ (c : IsCut err_rose status err_old err_new usage_line). absurd (usage_apart status is c.ends)) r.err
  usage-run (Some request) old new rose out_rose err_rose status out_old out_new err_old err_new r is = absurd (how_usage out_rose err_rose r.reply status out_old out_new err_old err_new r.delivered is)

  pub write-run : (request : Option Request) (old new : Option (List ℕ × ℕ)) (rose out_rose err_rose : Type 0) (status : Status) (out_old out_new err_old err_new : Option (List ℕ)) →
      Runs rose out_rose err_rose request told old new status out_old out_new err_old err_new → status ≡ statuses.WriteFault → out_rose ⊎ err_rose
  write-run None old new rose out_rose err_rose status out_old out_new err_old err_new r is =
      ⊎_elim (λ (l : IsLined status statuses.Usage err_old err_new usage_line). absurd (usage_apart status l.ends is)) (λ (c : IsCut err_rose status err_old err_new usage_line). inr c.rose) r.err
  write-run (Some request) old new rose out_rose err_rose status out_old out_new err_old err_new r is = (how_write out_rose err_rose r.reply status out_old out_new err_old err_new r.delivered is).rose

  pub write_line-run : (request : Option Request) (old new : Option (List ℕ × ℕ)) (rose out_rose err_rose : Type 0) (status : Status) (out_old out_new err_old err_new : Option (List ℕ)) →
      Runs rose out_rose err_rose request told old new status out_old out_new err_old err_new → status ≡ statuses.WriteFault → (err_rose → ⊥) → Adds err_old err_new write_fault_line
  write_line-run None old new rose out_rose err_rose status out_old out_new err_old err_new r is quiet =
      ⊎_elim (λ (l : IsLined status statuses.Usage err_old err_new usage_line). absurd (usage_apart status l.ends is)) (λ (c : IsCut err_rose status err_old err_new usage_line). absurd (quiet c.rose)) r.err
  write_line-run (Some request) old new rose out_rose err_rose status out_old out_new err_old err_new r is quiet = (how_write out_rose err_rose r.reply status out_old out_new err_old err_new r.delivered is).line quiet

  pub memory-run : (request : Option Request) (old new : Option (List ℕ × ℕ)) (rose out_rose err_rose : Type 0) (status : Status) (out_old out_new err_old err_new : Option (List ℕ)) →
      Runs rose out_rose err_rose request told old new status out_old out_new err_old err_new → status ≡ statuses.Memory → Adds err_old err_new memory_line
  memory-run None old new rose out_rose err_rose status out_old out_new err_old err_new r is =
      ⊎_elim (λ (l : IsLined status statuses.Usage err_old err_new usage_line). absurd (memory_apart_usage status is l.ends)) (λ (c : IsCut err_rose status err_old err_new usage_line). absurd (memory_apart status is c.ends)) r.err
  memory-run (Some request) old new rose out_rose err_rose status out_old out_new err_old err_new r is = how_memory out_rose err_rose r.reply status out_old out_new err_old err_new r.delivered is

  rose_of : (request : Request) (old new : Option (List ℕ × ℕ)) (rose out_rose err_rose : Type 0) (status : Status) (out_old out_new err_old err_new : Option (List ℕ)) (reply : Reply) →
      Decides told old new rose (ask_of request) reply → status_of reply ≡ statuses.ReadFault → rose
  rose_of request old new rose out_rose err_rose status out_old out_new err_old err_new (replies.Says (answers.Refused line)) d is = cc
  rose_of request old new rose out_rose err_rose status out_old out_new err_old err_new (replies.Says (answers.Verdict line)) d is = cc
  rose_of request old new rose out_rose err_rose status out_old out_new err_old err_new (replies.Says (answers.Done text)) d is = cc
  rose_of request old new rose out_rose err_rose status out_old out_new err_old err_new (replies.ReadFault line) d is =
      (Leaves-decided (file_words request) old new rose told (ask_of request) (replies.ReadFault line) (asks_for request) (asks_some request) d).rose
  rose_of request old new rose out_rose err_rose status out_old out_new err_old err_new replies.Memory d is = cc

  pub read-run : (request : Option Request) (old new : Option (List ℕ × ℕ)) (rose out_rose err_rose : Type 0) (status : Status) (out_old out_new err_old err_new : Option (List ℕ)) →
      Runs rose out_rose err_rose request told old new status out_old out_new err_old err_new → status ≡ statuses.ReadFault → rose
  read-run None old new rose out_rose err_rose status out_old out_new err_old err_new r is =
      ⊎_elim (λ (l : IsLined status statuses.Usage err_old err_new usage_line). absurd (read_apart_usage status is l.ends)) (λ (c : IsCut err_rose status err_old err_new usage_line). absurd (read_apart status is c.ends)) r.err
  read-run (Some request) old new rose out_rose err_rose status out_old out_new err_old err_new r is =
      rose_of request old new rose out_rose err_rose status out_old out_new err_old err_new r.reply r.decided (how_read out_rose err_rose r.reply status out_old out_new err_old err_new r.delivered is)
