-- The steps of a command that samples a dump, in both directions: from an answer to its cause, and from a cause to its answer.
use Rattle.std.proofs.Common.{◌≡◌, ℕ, ◌∙◌, inl, inr, List, Option, Some, Result, Ok, Err, refl, sym, ap, subst}
use Rattle.tydi_io.specs.Store.{Files}
use Rattle.cycle_trace.specs.Trace.{TraceText}
use Rattle.port_drive.specs.Text.{written_text}
use Rattle.type_split.specs.Streams.{PlainSplit}
use Rattle.vcd_read.specs.Shown.{shown}
use Rattle.vcd_read.specs.declared.fault.VcdFault.{VcdFault}
use Rattle.tydi_tool.specs.declared.answer.Answer.{Answer}
use Rattle.tydi_tool.specs.declared.answer.Answer.TheVariants as answers
use Rattle.tydi_tool.specs.Ask.{Ask, Ends, SaysBy}
use Rattle.tydi_tool.specs.Causes as rows
use Rattle.tydi_tool.specs.Causes.{DumpWords, HasBytes, HasDump, HasDumpFault, HasSplit, IsDumpText, Reaches, sampled_in}
use Rattle.tydi_tool.specs.Commands.{ask_of, dump_ask, port_ask}
use Rattle.tydi_tool.specs.Dumps.{ReadsDump, refusal_of_dump, wanted_of}
use Rattle.tydi_tool.specs.Outcome.{output_answer}
use Rattle.tydi_tool.specs.Reading.{ReadsResult}
use Rattle.tydi_tool.specs.Words.{Request, Check, Decode, Drive, Link, Read, Sim, Split, Carry, Design, Bench, Testbench, Vcd, Gen, Compare, Expect, Watch, dump_file}
use Rattle.tydi_tool.proofs.CauseLines.{by_line, dump_text, line_of}
use Rattle.tydi_tool.proofs.CauseSteps.{Told, reaches-port, says-port, says-read, says-refused, told-file}
use Rattle.tydi_tool.proofs.DumpLemmas.{dump-read, read-dump}

-- the words of a port that is sampled
abbrev pub of_dump : (project port scope file : List ℕ) → DumpWords
of_dump project port scope file = record { at = record { project = project; port = port }; scope = scope; file = file }

module _ (known : Files) (words : DumpWords) where
  -- a command that samples a port
  abbrev pub samples : Ask
  samples = port_ask words.at.project words.at.port (dump_ask words.scope words.file)

  -- ---- an answer has a cause

  module _ (request : Request) (a : Answer) (named : sampled_in request ≡ Some words) (split : PlainSplit) (at : HasSplit known words.at split) where
    -- the text of the dump shows no trace
    refuses_dump : (bytes line : List ℕ) → HasBytes known words.file 67108864 bytes → ReadsDump words.scope words.file split bytes (Err line)
        → a ≡ answers.Refused line → Told known request a
    refuses_dump bytes line file refused said = by (shown (wanted_of words.scope split) bytes) refl refused
      where
        by : (read : Result TraceText VcdFault) → shown (wanted_of words.scope split) bytes ≡ read
            → ReadsResult (refusal_of_dump split words.file) read (Err line) → Told known request a
        by (Ok t) is refused = absurd cc
        by (Err fault) is refused = (
          rows.TextFault,
          inl (record {
            line = line;
            faulty = inr (inr (inr (inr (inr (inr (inr (inr (inr (inl (record {
              words = words;
              named = named;
              split = split;
              at = at;
              bytes = bytes;
              file = file;
              fault = fault;
              reads = is;
              told = sym (dump_text split words.file fault) ∙ line_of TraceText (refusal_of_dump split words.file fault) line refused;
            }))))))))));
            said = said;
          }),
        )

    -- a dump that is sampled
    pub told-sampled : ask_of request ≡ samples → ((text : List ℕ) → IsDumpText known words text → a ≡ output_answer text → Told known request a)
        → SaysBy (Some known) (dump_ask words.scope words.file split) a → Told known request a
    told-sampled same text says =
        told-file known (dump_file words.file) (ReadsDump words.scope words.file split) (λ t. Ends (λ b. b ≡ output_answer (written_text t))) a request
        (subst (Reaches known (dump_file words.file)) (sym same)
        (reaches-port known words.at (dump_ask words.scope words.file) (dump_file words.file) split at (inl refl)))
        refuses_dump
        (λ bytes t file reads said. text (written_text t) (record {
          split = split;
          t = t;
          all = record { at = at; bytes = bytes; file = file; shows = dump-read words.scope words.file split bytes t reads };
          is = refl;
        }) said) says

  -- ---- a cause gives its answer

  pub says-dump : (a : Answer) (split : PlainSplit) (t : TraceText) → HasDump known words split t → a ≡ output_answer (written_text t) → SaysBy (Some known) samples a
  says-dump a split t all said =
      says-port known words.at (dump_ask words.scope words.file) a split all.at
      (says-read known (dump_file words.file) (ReadsDump words.scope words.file split) (λ one. Ends (λ b. b ≡ output_answer (written_text one))) a all.bytes t
      all.file (read-dump words.scope words.file split all.bytes t all.shows) said)

  pub says-dump_text : (text : List ℕ) (a : Answer) → IsDumpText known words text → a ≡ output_answer text → SaysBy (Some known) samples a
  says-dump_text text a is said = says-dump a is.split is.t is.all (said ∙ ap output_answer is.is)

-- the text of the dump is refused
says-refused_dump : (known : Files) (request : Request) (line : List ℕ) (a : Answer) (has : HasDumpFault known request line) → a ≡ answers.Refused line
    → SaysBy (Some known) (samples known has.words) a
says-refused_dump known request line a has said =
    says-port known has.words.at (dump_ask has.words.scope has.words.file) a has.split has.at
    (says-refused known (dump_file has.words.file) (ReadsDump has.words.scope has.words.file has.split)
    (λ one. Ends (λ b. b ≡ output_answer (written_text one))) a has.bytes line has.file refused said)
  where
    refused : ReadsDump has.words.scope has.words.file has.split has.bytes (Err line)
    refused = subst (λ (read : Result TraceText VcdFault). ReadsResult (refusal_of_dump has.split has.words.file) read (Err line)) (sym has.reads)
        (by_line TraceText (refusal_of_dump has.split has.words.file has.fault) line (dump_text has.split has.words.file has.fault ∙ has.told))

same_dump : (one other : DumpWords) → ◌≡◌ {A = Option DumpWords} (Some one) (Some other) → one ≡ other
same_dump one other e = cc

from_sampled : (known : Files) (request : Request) (words : DumpWords) (a : Answer) → sampled_in request ≡ Some words → SaysBy (Some known) (samples known words) a
    → SaysBy (Some known) (ask_of request) a
from_sampled known (Check trace) words a named said = absurd cc
from_sampled known (Read project) words a named said = absurd cc
from_sampled known (Split project port) words a named said = absurd cc
from_sampled known (Drive project port value plan) words a named said = absurd cc
from_sampled known (Decode project port trace) words a named said = absurd cc
from_sampled known (Sim bench run) words a named said = absurd cc
from_sampled known (Link project) words a named said = absurd cc
from_sampled known (Carry project top from to trace) words a named said = absurd cc
from_sampled known (Design language project) words a named said = absurd cc
from_sampled known (Bench project port value plan) words a named said = absurd cc
from_sampled known (Testbench project test) words a named said = absurd cc
from_sampled known (Gen project port seed count) words a named said = absurd cc
from_sampled known (Compare project port value trace) words a named said = absurd cc
from_sampled known (Expect project port value) words a named said = absurd cc
from_sampled known (Watch monitor trace) words a named said = absurd cc
from_sampled known (Vcd project port scope file) words a named said =
    subst (λ (w : DumpWords). SaysBy (Some known) (samples known w) a) (sym (same_dump (of_dump project port scope file) words named)) said

pub says_dump_fault : (known : Files) (request : Request) (line : List ℕ) (a : Answer) → HasDumpFault known request line → a ≡ answers.Refused line
    → SaysBy (Some known) (ask_of request) a
says_dump_fault known request line a has said = from_sampled known request has.words a has.named (says-refused_dump known request line a has said)
