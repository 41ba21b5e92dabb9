-- The trace that `carry` writes.
use Rattle.std.proofs.Common.{◌≡◌, ◌∙◌, ℕ, ◌≤◌, Bool, true, false, List, [], ◌∷◌, length, Some, Ok, All, refl, sym, ap, subst}
use Rattle.std.proofs.Common.{if◌then◌else◌}
use Rattle.std.proofs.lemmas.List.Elements.{All-nil, All-cons, All-head, All-tail}
use Rattle.tydi_io.specs.Store.{Files}
use Rattle.physical_stream.specs.StreamLine.{IsHead}
use Rattle.physical_stream.specs.declared.head.Head.{Head}
use Rattle.cycle_trace.specs.Spelling.{TracesAreReadAsSpelled, TracesAreSpelledAsRead}
use Rattle.cycle_trace.specs.TraceText.{trace_of}
use Rattle.cycle_trace.specs.Version.{version_of}
use Rattle.til_resolve.specs.PlainProject.{PlainPort, PlainProject}
use Rattle.link_check.specs.Carry.{carried, head_to, heads_of_port, heads_to}
use Rattle.link_check.specs.CarryLaws.{CompatiblePortsRise, port_at}
use Rattle.link_check.specs.Checked.{linked}
use Rattle.link_check.specs.declared.leaf.LeafPort.{LeafPort}
use Rattle.link_check.specs.declared.nets.Nets.{Nets}
use Rattle.port_drive.specs.Forms.{TypesInFormHaveHeads}
use Rattle.port_drive.proofs.TextLemmas.{version-fits}
use Rattle.carried_values.specs.Laws.{ArrivesWhole, TracesArriveWhole}
use Rattle.tydi_tool.specs.declared.answer.Answer.TheVariants as answers
use Rattle.tydi_tool.specs.Causes as rows
use Rattle.tydi_tool.specs.Causes.{CarryWords, HasDesign, HasRead, HasTrace, IsCarriedText}
use Rattle.tydi_tool.specs.CarryLaw.{LevelsRiseOnTheWay, WritesArrived, WrittenTracesArrive, carry_words}
use Rattle.tydi_tool.specs.Designs.{HasHeads, leaf_at, top_at}
use Rattle.tydi_tool.specs.Words.{Carry}
use Rattle.tydi_tool.proofs.CauseLemmas.{exactly}
use Rattle.tydi_tool.proofs.DesignLemmas.{design-rises, found-heads, leaf-formed}
use Rattle.tydi_tool.proofs.FormLemmas.{IsPortFormed, read-formed}

-- ---- the heads where a trace arrives are in form

to-in-form : (source sink : Head) → IsHead source → IsHead sink → IsHead (head_to source sink)
to-in-form source sink one other = by source.reversed
  where
    by : (reversed : Bool) → IsHead (if reversed then source else sink)
    by true = one
    by false = other

all-in-form : (sources sinks : List Head) → All IsHead sources → All IsHead sinks → All IsHead (heads_to sources sinks)
all-in-form [] sinks ones others = All-nil IsHead
all-in-form (source ∷ sources) [] ones others = All-nil IsHead
all-in-form (source ∷ sources) (sink ∷ sinks) ones others =
    All-cons IsHead (head_to source sink) (heads_to sources sinks) (to-in-form source sink (All-head IsHead source sources ones)
    (All-head IsHead sink sinks others))
    (all-in-form sources sinks (All-tail IsHead source sources ones) (All-tail IsHead sink sinks others))

-- ---- the text

module _ (spelled : TracesAreReadAsSpelled) (read : TracesAreSpelledAsRead) (forms : TypesInFormHaveHeads) (whole : TracesArriveWhole) where
  module _ (known : Files) (words : CarryWords) (text : List ℕ) (is : IsCarriedText known words text) where
    writes : (project : PlainProject) → HasRead known words.design.project project → (top : ℕ) → top_at project.streamlets words.design.top ≡ Some top
        → (nets : Nets) → linked project.streamlets ≡ Ok nets
        → HasHeads project.streamlets nets (leaf_at top words.design.from) (leaf_at top words.design.to) is.heads → WritesArrived known words text
    writes project has top named nets nets_are joined = record {
      read = project;
      project = has;
      top = top;
      named = named;
      nets = nets;
      nets_are = nets_are;
      heads = is.heads;
      joined = joined;
      t = is.t;
      trace = is.trace;
      same = is.same;
      whole = arrives;
      is = is.is;
      read_back = ap trace_of is.is ∙ spelled (version_of is.heads.to) (carried is.heads.to is.t) arrives.trace in-form (version-fits is.heads.to);
    }
      where
        arrives : ArrivesWhole joined.types.one.ltype joined.types.other.ltype is.t (carried is.heads.to is.t)
        arrives = whole joined.types.one.ltype joined.types.other.ltype is.t (carried is.heads.to is.t) (record {
          compatible = joined.types.compatible;
          trace = (read is.trace.bytes is.t is.trace.reads).0;
          from = is.same ∙ joined.between.from;
          to = ap (λ (heads : List Head). carried heads is.t) joined.between.to;
        })

        formed : (leaf : LeafPort) (port : PlainPort) → port_at project.streamlets leaf ≡ Some port → IsPortFormed port.ltype
        formed leaf port there = leaf-formed project.streamlets leaf port (read-formed words.design.project has.bytes project has.reads) there

        heads-formed : (leaf : LeafPort) (port : PlainPort) → port_at project.streamlets leaf ≡ Some port → All IsHead (heads_of_port port.ltype)
        heads-formed leaf port there = let form = formed leaf port there in forms port.ltype form.valid.valid form.form

        in-form : All IsHead is.heads.to
        in-form = subst (All IsHead) (sym joined.between.to)
            (all-in-form (heads_of_port joined.types.one.ltype) (heads_of_port joined.types.other.ltype)
            (heads-formed joined.joined.source joined.types.one joined.types.here) (heads-formed joined.joined.sink joined.types.other joined.types.there))

    pub writes-arrived : WritesArrived known words text
    writes-arrived =
        let design = is.design in
        let found = found-heads words.design design.reads.0 is.heads design.reads.1.1 in
        writes design.reads.0 (record { bytes = design.bytes; file = design.file; reads = design.reads.1.0 }) found.0 found.1.1.0 found.1.0 found.1.1.1.0
        found.1.1.1.1

  same_text : (one other : List ℕ) → answers.Done one ≡ answers.Done other → one ≡ other
  same_text one other e = cc

  pub written-arrives : WrittenTracesArrive
  written-arrives known project top from to trace text says =
      let cause = (exactly rows.AText known (Carry project top from to trace) (answers.Done text)).0 (says, refl) in
      let same : text ≡ cause.text = same_text text cause.text cause.said in (
        subst (λ (l : List ℕ). length l ≤ 67108864) (sym same) cause.within,
        subst (WritesArrived known (carry_words project top from to trace)) (sym same) (writes-arrived known (carry_words project top from to trace)
            cause.text cause.is),
      )

-- ---- levels

pub levels-rise : CompatiblePortsRise → LevelsRiseOnTheWay
levels-rise ports words bytes heads reads = design-rises ports words bytes heads reads
