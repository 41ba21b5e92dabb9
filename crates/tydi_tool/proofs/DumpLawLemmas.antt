-- The trace that `vcd` writes.
use Rattle.std.proofs.Common.{◌≡◌, ◌∙◌, ℕ, ◌≤◌, List, length, refl, sym, ap, subst}
use Rattle.tydi_io.specs.Store.{Files}
use Rattle.cycle_trace.specs.Spelling.{TracesAreReadAsSpelled}
use Rattle.cycle_trace.specs.TraceText.{trace_of}
use Rattle.cycle_trace.specs.Version.{version_of}
use Rattle.physical_stream.specs.StreamLine.{IsHead}
use Rattle.logical_types.specs.Tree.{Ltype}
use Rattle.port_drive.specs.Forms.{TypesInFormHaveHeads}
use Rattle.port_drive.specs.Text.{AreHeadsInForm, PortHeadsStandTogether}
use Rattle.port_drive.proofs.TextLemmas.{version-fits}
use Rattle.std.specs.List.{All}
use Rattle.type_split.specs.Streams.{IsPortSplit, PlainSplit}
use Rattle.vcd_read.specs.Laws.{DumpsShowTraces}
use Rattle.tydi_tool.specs.declared.answer.Answer.TheVariants as answers
use Rattle.tydi_tool.specs.Causes as rows
use Rattle.tydi_tool.specs.Causes.{DumpWords, HasDump, HasPort, HasSplit, IsDumpText, PortWords}
use Rattle.tydi_tool.specs.Dumps.{wanted_of}
use Rattle.tydi_tool.specs.DumpLaw.{ShownDumpsAreWritten, WritesShown, WrittenDumpsAreShown, dump_words}
use Rattle.tydi_tool.specs.Words.{Vcd}
use Rattle.tydi_tool.proofs.CauseLemmas.{exactly}
use Rattle.tydi_tool.proofs.DumpCauses.{says-dump}
use Rattle.tydi_tool.proofs.FormLemmas.{IsPortFormed, port-formed}

-- the port of a dump is one of a project that its text spells
formed-of : (known : Files) (words : PortWords) (ltype : Ltype) → HasPort known words ltype → IsPortFormed ltype
formed-of known words ltype port =
    subst IsPortFormed (sym port.type_is) (port-formed words.project port.bytes port.read words.port port.found port.reads port.named)

-- the split of a port
split-of : (known : Files) (words : PortWords) (split : PlainSplit) → HasSplit known words split → IsPortSplit split
split-of known words split at =
    let formed = formed-of known words at.ltype at.port in
    record { ltype = at.ltype; port = formed.port; valid = formed.valid.valid; few = formed.valid.few; apart = at.apart; is = at.is }

-- the heads of its streams are in form
heads-in-form : TypesInFormHaveHeads → (known : Files) (words : PortWords) (split : PlainSplit) → HasSplit known words split → AreHeadsInForm split
heads-in-form forms known words split at =
    let formed = formed-of known words at.ltype at.port in subst AreHeadsInForm (sym at.is) (forms at.ltype formed.valid.valid formed.form)

module _ (spelled : TracesAreReadAsSpelled) (forms : TypesInFormHaveHeads) (together : PortHeadsStandTogether) (shows : DumpsShowTraces) where
  writes-shown : (known : Files) (words : DumpWords) (text : List ℕ) → IsDumpText known words text → WritesShown known words text
  writes-shown known words text is =
      let form = heads-in-form forms known words.at is.split is.all.at in
      let trace = shows (wanted_of words.scope is.split) is.all.bytes is.t (together is.split (split-of known words.at is.split is.all.at) form) is.all.shows in
      record {
        split = is.split;
        t = is.t;
        all = is.all;
        heads = trace.0;
        is_trace = trace.1;
        is = is.is;
        read = ap trace_of is.is
            ∙ spelled (version_of is.t.heads) is.t trace.1 (subst (All IsHead) (sym trace.0) form) (version-fits is.t.heads);
      }

  same_text : (one other : List ℕ) → answers.Done one ≡ answers.Done other → one ≡ other
  same_text one other e = cc

  pub written-shown : WrittenDumpsAreShown
  written-shown known project port scope file text says =
      let cause = (exactly rows.AText known (Vcd project port scope file) (answers.Done text)).0 (says, refl) in
      let same : text ≡ cause.text = same_text text cause.text cause.said in (
        subst (λ (l : List ℕ). length l ≤ 67108864) (sym same) cause.within,
        subst (WritesShown known (dump_words project port scope file)) (sym same) (writes-shown known (dump_words project port scope file) cause.text cause.is),
      )

pub shown-written : ShownDumpsAreWritten
shown-written known project port scope file split t all = says-dump known (dump_words project port scope file) _ split t all refl
