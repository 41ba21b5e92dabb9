-- Each answer of `carry` comes exactly where its cause stands.
use Rattle.std.proofs.Common.{◌≡◌, ◌∙◌, ◌++◌, ℕ, inl, inr, List, Option, Some, None, Result, Ok, Err, codes, decimal, refl, sym, ap, subst}
use Rattle.tydi_base.specs.Path.{path_text}
use Rattle.tydi_io.specs.Store.{Files}
use Rattle.cycle_trace.specs.Trace.{TraceText}
use Rattle.cycle_trace.specs.TraceText.{trace_of}
use Rattle.cycle_trace.specs.declared.fault.TraceFault.{TraceFault}
use Rattle.til_resolve.specs.PlainProject.{PlainProject}
use Rattle.link_check.specs.Carry.{carried}
use Rattle.link_check.specs.Checked.{linked}
use Rattle.link_check.specs.declared.end_heads.EndHeads.{EndHeads}
use Rattle.link_check.specs.declared.fault.LinkFault.{LinkFault}
use Rattle.link_check.specs.declared.nets.Nets.{Nets}
use Rattle.port_drive.specs.Text.{written_text}
use Rattle.tydi_tool.specs.declared.answer.Answer.{Answer}
use Rattle.tydi_tool.specs.declared.answer.Answer.TheVariants as answers
use Rattle.tydi_tool.specs.Arrivals.{ReadsCycles, TellsArrived}
use Rattle.tydi_tool.specs.Ask.{Ends, SaysBy}
use Rattle.tydi_tool.specs.Causes as rows
use Rattle.tydi_tool.specs.Causes.{CarryWords, HasBytes, HasCarriedFault, HasDesign, HasRead, HasTrace, IsCarriedText, IsPastClash, NoPathCause}
use Rattle.tydi_tool.specs.Causes.{NoStreamletCause, CarriedOtherHeader, SourceClashes, carried_words, link_line}
use Rattle.tydi_tool.specs.Commands.{arrival_ask, ask_of, carry_ask, of_design}
use Rattle.tydi_tool.specs.Designs.{DesignWords, FindsHeads, HeadsByNets, HeadsByTop, HeadsUnder, ReadsDesign, no_streamlet, top_at}
use Rattle.tydi_tool.specs.Links.{refusal_of_linking}
use Rattle.tydi_tool.specs.Outcome.{output_answer}
use Rattle.tydi_tool.specs.Projects.{ReadsProject}
use Rattle.tydi_tool.specs.Reading.{ReadsResult}
use Rattle.tydi_tool.specs.Refusals.{refusal_line, refusal_of_trace}
use Rattle.tydi_tool.specs.Words.{Request, Carry, Check, Decode, Drive, Link, Read, Sim, Split, Design, Bench, Testbench, project_file, trace_file, Vcd, Gen, Compare, Expect, Watch}
use Rattle.tydi_tool.proofs.ArrivalLemmas.{cycles-read, read-cycles}
use Rattle.tydi_tool.proofs.CauseLines.{by_line, line_of, link_text, one_word, trace_text, two_words}
use Rattle.tydi_tool.proofs.CauseSteps.{Told, gives_text, reaches-read, refuses_project, says-read, says-refused, told-file}

-- the words of a trace that is carried
abbrev pub of_carry : DesignWords → List ℕ → CarryWords
of_carry design trace = record { design = design; trace = trace }

line_same : (line other : List ℕ) → ◌≡◌ {A = Result EndHeads (List ℕ)} (Err line) (Err other) → line ≡ other
line_same line other e = cc

-- ---- an answer has a cause

module _ (known : Files) (project top from to trace : List ℕ) (a : Answer) where
  abbrev words : DesignWords
  words = of_design project top from to

  abbrev command : Request
  command = Carry project top from to trace

  -- the text of the project has no heads between the ports
  refuses-design : (bytes line : List ℕ) → HasBytes known project 4194304 bytes → ReadsDesign words bytes (Err line) → a ≡ answers.Refused line
      → Told known command a
  refuses-design bytes line file (inl refused) said = refuses_project known command project bytes line a refl refl file refused said
  refuses-design bytes line file (inr found) said = by_top (top_at found.0.streamlets top) refl found.1.1
    where
      has : HasRead known project found.0
      has = record { bytes = bytes; file = file; reads = found.1.0 }

      by_nets : (number : ℕ) → IsPastClash found.0 words number → (nets : Result Nets LinkFault) → linked found.0.streamlets ≡ nets
          → HeadsByNets words found.0.streamlets number nets (Err line) → Told known command a
      by_nets number past (Ok nets) is none = (
        rows.NoPath,
        record {
          words = of_carry words trace;
          named = refl;
          read = found.0;
          project = has;
          top = number;
          past = past;
          nets = nets;
          nets_are = is;
          none = none.0;
          said = said ∙ ap answers.Refused (none.1 ∙ two_words (codes "tydi: ") (codes "NoPath") (codes " ") from to (codes "\n"));
        },
      )
      by_nets number past (Err fault) is refused = (
        rows.NotLinked,
        record {
          word = project;
          bytes = bytes;
          file = file;
          read = found.0;
          reads = found.1.0;
          checks = (refl, (number, past));
          fault = fault;
          is = is;
          line = line;
          told = sym (link_text project fault) ∙ line_of EndHeads (refusal_of_linking project fault) line refused;
          said = said;
        },
      )

      by_top : (number : Option ℕ) → top_at found.0.streamlets top ≡ number → HeadsByTop words found.0.streamlets number (Err line) → Told known command a
      by_top None none refused = (
        rows.NoStreamlet,
        record {
          words = of_carry words trace;
          named = refl;
          read = found.0;
          project = has;
          none = none;
          said = said ∙ ap answers.Refused (line_same line _ refused ∙ one_word (codes "tydi: ") (codes "NoStreamlet") (codes " ") top (codes "\n"));
        },
      )
      by_top (Some number) named (inl clash) = (
        rows.NameClash,
        inl (record {
          path = clash.path;
          clashes = inr (inl (record { words = of_carry words trace; named = refl; read = found.0; project = has; top = number; top_is = named; clash = clash.clash }));
          said = said ∙ ap answers.Refused (clash.is ∙ one_word (codes "tydi: ") (codes "NameClash") (codes " ") (path_text clash.path) (codes "\n"));
        }),
      )
      by_top (Some number) named (inr rest) = by_nets number (record { named = named; apart = rest.0 }) (linked found.0.streamlets) refl rest.1

  -- the heads are there
  module _ (heads : EndHeads) (design : HasDesign known words heads) where
    -- the text of the trace is refused
    refuses-cycles : (bytes line : List ℕ) → HasBytes known trace 67108864 bytes → ReadsCycles trace bytes (Err line) → a ≡ answers.Refused line
        → Told known command a
    refuses-cycles bytes line file refused said = by (trace_of bytes) refl refused
      where
        by : (read : Result TraceText TraceFault) → trace_of bytes ≡ read → ReadsResult (refusal_of_trace trace) read (Err line) → Told known command a
        by (Ok t) is refused = absurd cc
        by (Err fault) is refused = (
          rows.TextFault,
          inl (record {
            line = line;
            faulty = inr (inr (inr (inr (inr (inr (inl (record {
              words = of_carry words trace;
              named = refl;
              heads = heads;
              design = design;
              bytes = bytes;
              file = file;
              fault = fault;
              reads = is;
              told = sym (trace_text trace fault) ∙ line_of TraceText (refusal_of_trace trace fault) line refused;
            })))))));
            said = said;
          }),
        )

    -- the trace is read
    tells-arrived : (t : TraceText) → HasTrace known trace t → TellsArrived trace heads t a → Told known command a
    tells-arrived t has (inl same) =
        gives_text known command (written_text (carried heads.to t)) a (record
        { heads = heads; design = design; t = t; trace = has; same = same.0; is = refl }) same.1
    tells-arrived t has (inr other) = (
      rows.OtherHeader,
      inr (inl (record {
        words = of_carry words trace;
        named = refl;
        heads = heads;
        design = design;
        t = t;
        trace = has;
        stream = other.stream;
        first = other.first;
        said = other.is ∙ ap answers.Refused (two_words (codes "tydi: ") (codes "OtherHeader") (codes " ") trace (decimal other.stream) (codes "\n"));
      })),
    )

  pub told_carry : SaysBy (Some known) (carry_ask words trace) a → Told known command a
  told_carry says =
      told-file known (project_file project) (ReadsDesign words) (arrival_ask trace) a command (inl refl) refuses-design
      (λ bytes heads file reads said.
      let design : HasDesign known words heads = record { bytes = bytes; file = file; reads = reads } in
      told-file known (trace_file trace) (ReadsCycles trace) (λ t. Ends (TellsArrived trace heads t)) a command
      (reaches-read known (project_file project) (ReadsDesign words) (arrival_ask trace) a (trace_file trace) bytes heads file reads (inl refl))
      (refuses-cycles heads design)
      (λ trace_bytes t trace_file_is trace_is tells.
      tells-arrived heads design t (record { bytes = trace_bytes; file = trace_file_is; reads = cycles-read trace trace_bytes t trace_is }) tells) said) says

-- ---- a cause gives its answer

same_carry : (one other : CarryWords) → ◌≡◌ {A = Option CarryWords} (Some one) (Some other) → one ≡ other
same_carry one other e = cc

pub from_carried_words : (known : Files) (request : Request) (words : CarryWords) (a : Answer) → carried_words request ≡ Some words
    → SaysBy (Some known) (carry_ask words.design words.trace) a
    → SaysBy (Some known) (ask_of request) a
from_carried_words known (Check trace) words a named said = absurd cc
from_carried_words known (Read project) words a named said = absurd cc
from_carried_words known (Sim bench run) words a named said = absurd cc
from_carried_words known (Link project) words a named said = absurd cc
from_carried_words known (Design language project) words a named said = absurd cc
from_carried_words known (Split project port) words a named said = absurd cc
from_carried_words known (Drive project port value plan) words a named said = absurd cc
from_carried_words known (Decode project port trace) words a named said = absurd cc
from_carried_words known (Bench project port value plan) words a named said = absurd cc
from_carried_words known (Testbench project test) words a named said = absurd cc
from_carried_words known (Vcd project port scope file) words a named said = absurd cc
from_carried_words known (Gen project port seed count) words a named said = absurd cc
from_carried_words known (Compare project port value trace) words a named said = absurd cc
from_carried_words known (Expect project port value) words a named said = absurd cc
from_carried_words known (Watch monitor trace) words a named said = absurd cc
from_carried_words known (Carry project top from to trace) words a named said =
    subst (λ (w : CarryWords). SaysBy (Some known) (carry_ask w.design w.trace) a) (sym
    (same_carry (of_carry (of_design project top from to) trace) words named)) said

-- the words do not lead to heads
refused-design : (known : Files) (words : CarryWords) (read : PlainProject) (line : List ℕ) (a : Answer) → HasRead known words.design.project read
    → FindsHeads words.design read (Err line) → a ≡ answers.Refused line
    → SaysBy (Some known) (carry_ask words.design words.trace) a
refused-design known words read line a has finds said =
    says-refused known (project_file words.design.project) (ReadsDesign words.design) (arrival_ask words.trace) a has.bytes line has.file
    (inr (read, (has.reads, finds))) said

pub says-unread : (known : Files) (words : CarryWords) (bytes line : List ℕ) (a : Answer) → HasBytes known words.design.project 4194304 bytes
    → ReadsProject words.design.project bytes (Err line) → a ≡ answers.Refused line
    → SaysBy (Some known) (carry_ask words.design words.trace) a
says-unread known words bytes line a file refused said =
    says-refused known (project_file words.design.project) (ReadsDesign words.design) (arrival_ask words.trace) a bytes line file (inl refused) said

pub says_no_streamlet : (known : Files) (request : Request) (a : Answer) → NoStreamletCause known request a → SaysBy (Some known) (ask_of request) a
says_no_streamlet known request a cause =
    from_carried_words known request cause.words a cause.named
    (refused-design known cause.words cause.read _ a cause.project
    (subst (λ (top : Option ℕ). HeadsByTop cause.words.design cause.read.streamlets top (Err (refusal_line (no_streamlet cause.words.design.top)))) (sym cause.none) refl)
    (cause.said ∙ ap answers.Refused (sym (one_word (codes "tydi: ") (codes "NoStreamlet") (codes " ") cause.words.design.top (codes "\n")))))

-- under a top that is named
under-top : (words : DesignWords) (read : PlainProject) (top : ℕ) (line : List ℕ) → top_at read.streamlets words.top ≡ Some top
    → HeadsUnder words read.streamlets top (Err line) → FindsHeads words read (Err line)
under-top words read top line named under = subst (λ (number : Option ℕ). HeadsByTop words read.streamlets number (Err line)) (sym named) under

pub says_source_clash : (known : Files) (request : Request) (path : List (List ℕ)) (a : Answer) → SourceClashes known request path
    → a ≡ answers.Refused (codes "tydi: NameClash " ++ path_text path ++ codes "\n")
    → SaysBy (Some known) (ask_of request) a
says_source_clash known request path a cause said =
    from_carried_words known request cause.words a cause.named
    (refused-design known cause.words cause.read _ a cause.project
    (under-top cause.words.design cause.read cause.top _ cause.top_is (inl (record { path = path; clash = cause.clash; is = refl })))
    (said ∙ ap answers.Refused (sym (one_word (codes "tydi: ") (codes "NameClash") (codes " ") (path_text path) (codes "\n")))))

-- past a clash, by the nets or the link error
past-clash : (words : DesignWords) (read : PlainProject) (top : ℕ) (line : List ℕ) (nets : Result Nets LinkFault) → IsPastClash read words top
    → linked read.streamlets ≡ nets
    → HeadsByNets words read.streamlets top nets (Err line) → FindsHeads words read (Err line)
past-clash words read top line nets past is by =
    under-top words read top line past.named (inr (
      past.apart,
      subst (λ (n : Result Nets LinkFault). HeadsByNets words read.streamlets top n (Err line))
          (sym is) by,
    ))

pub says_no_path : (known : Files) (request : Request) (a : Answer) → NoPathCause known request a → SaysBy (Some known) (ask_of request) a
says_no_path known request a cause =
    from_carried_words known request cause.words a cause.named
    (refused-design known cause.words cause.read _ a cause.project
    (past-clash cause.words.design cause.read cause.top _ (Ok cause.nets) cause.past cause.nets_are (cause.none, refl))
    (cause.said ∙ ap answers.Refused (sym (two_words (codes "tydi: ") (codes "NoPath") (codes " ") cause.words.design.from cause.words.design.to
    (codes "\n")))))

pub says_unlinked : (known : Files) (words : CarryWords) (a : Answer) (read : PlainProject) (top : ℕ) (fault : LinkFault) (line : List ℕ)
    → HasRead known words.design.project read → IsPastClash read words.design top
    → linked read.streamlets ≡ Err fault → link_line words.design.project fault ≡ Some line → a ≡ answers.Refused line
    → SaysBy (Some known) (carry_ask words.design words.trace) a
says_unlinked known words a read top fault line has past is told said =
    refused-design known words read line a has
    (past-clash words.design read top line (Err fault) past is (by_line EndHeads (refusal_of_linking words.design.project fault) line
    (link_text words.design.project fault ∙ told))) said

-- the heads are there
designed : (known : Files) (words : CarryWords) (a : Answer) (heads : EndHeads) → HasDesign known words.design heads
    → SaysBy (Some known) (arrival_ask words.trace heads) a → SaysBy (Some known) (carry_ask words.design words.trace) a
designed known words a heads has said = says-read known (project_file words.design.project) (ReadsDesign words.design) (arrival_ask words.trace) a has.bytes
    heads has.file has.reads said

pub says_carried_fault : (known : Files) (request : Request) (line : List ℕ) (a : Answer) → HasCarriedFault known request line → a ≡ answers.Refused line
    → SaysBy (Some known) (ask_of request) a
says_carried_fault known request line a has said =
    from_carried_words known request has.words a has.named
    (designed known has.words a has.heads has.design
    (says-refused known (trace_file has.words.trace) (ReadsCycles has.words.trace) (λ t. Ends (TellsArrived has.words.trace has.heads t)) a has.bytes line
    has.file refused said))
  where
    refused : ReadsCycles has.words.trace has.bytes (Err line)
    refused = subst (λ (read : Result TraceText TraceFault). ReadsResult (refusal_of_trace has.words.trace) read (Err line)) (sym has.reads)
        (by_line TraceText (refusal_of_trace has.words.trace has.fault) line (trace_text has.words.trace has.fault ∙ has.told))

-- and so is the trace
traced : (known : Files) (words : CarryWords) (a : Answer) (heads : EndHeads) (t : TraceText) → HasDesign known words.design heads
    → HasTrace known words.trace t → TellsArrived words.trace heads t a
    → SaysBy (Some known) (carry_ask words.design words.trace) a
traced known words a heads t design has tells =
    designed known words a heads design
    (says-read known (trace_file words.trace) (ReadsCycles words.trace) (λ one. Ends (TellsArrived words.trace heads one)) a has.bytes t has.file
    (read-cycles words.trace has.bytes t has.reads) tells)

pub says_other_header : (known : Files) (request : Request) (a : Answer) → CarriedOtherHeader known request a → SaysBy (Some known) (ask_of request) a
says_other_header known request a cause =
    from_carried_words known request cause.words a cause.named
    (traced known cause.words a cause.heads cause.t cause.design cause.trace (inr (record {
      stream = cause.stream;
      first = cause.first;
      is = cause.said ∙ ap answers.Refused (sym (two_words (codes "tydi: ") (codes "OtherHeader") (codes " ") cause.words.trace (decimal cause.stream)
          (codes "\n")));
    })))

pub says_carried_text : (known : Files) (words : CarryWords) (text : List ℕ) (a : Answer) → IsCarriedText known words text → a ≡ output_answer text
    → SaysBy (Some known) (carry_ask words.design words.trace) a
says_carried_text known words text a is said = traced known words a is.heads is.t is.design is.trace (inl (is.same, said ∙ ap output_answer is.is))
