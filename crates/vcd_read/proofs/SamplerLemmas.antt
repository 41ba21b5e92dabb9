-- What is known of the wanted signals, part after part.
use Rattle.std.proofs.Common.{◌≡◌, ◌∙◌, ℕ, ◌&&◌, Bool, true, false, List, [], ◌∷◌, ◌++◌, slice_get, Option, Some, None, Result, Ok, Err, if◌then◌else◌}
use Rattle.std.proofs.Common.{refl, sym, ap, subst, arith}
use Rattle.std.proofs.lemmas.List.{append-nil}
use Rattle.std.specs.Option.{MatchOption}
use Rattle.cycle_trace.specs.Trace.{TraceText, are_heads}
use Rattle.physical_stream.specs.declared.head.Head.{Head}
use Rattle.signal_layout.specs.Layout.{is_present}
use Rattle.signal_layout.specs.declared.signal.Signal.{Signal}
use Rattle.tydi_base.specs.Reading.{Gives}
use Rattle.vhdl_text.specs.Text.{plain_name}
use Rattle.vcd_read.specs.Finding as finding
use Rattle.vcd_read.specs.Finding.{AreProbes, IsHarness}
use Rattle.vcd_read.specs.History.{Part, Declares, Ends, Stamps, before_block, clock_in, edge, edges, edges_before, has_ended, is_bit, is_same_time, rises}
use Rattle.vcd_read.specs.History.{signal_in, time_of, word_at}
use Rattle.vcd_read.specs.Kept.{kept_bytes, kept_text}
use Rattle.vcd_read.specs.Numbers.{number_of}
use Rattle.vcd_read.specs.Probes.{Words, rises_by}
use Rattle.vcd_read.specs.Samples.{AreAtStart, AreSamples, TellsRows}
use Rattle.vcd_read.specs.Sampling.{CanSampleAll, EndsBlock, EndsIf, EndsSampling, IsFault, IsNew, IsOpen, IsSampled, IsWired, IsWiring}
use Rattle.vcd_read.specs.Sampling.{IsWiringOf, IsWrong, StandsAt, StandsFor, WiresFrom, is_wired}
use Rattle.vcd_read.specs.Shown.{clock_shown, edges_shown, fault_in, signals_shown, wiring_shown}
use Rattle.vcd_read.specs.Wanted.{Codes, Wanted, Widths, codes_in, widths_in, wiring_fault}
use Rattle.vcd_read.specs.Wires.{AreWires, before_of, current_of}
use Rattle.vcd_read.specs.declared.dump_text.DumpText.{DumpText}
use Rattle.vcd_read.specs.declared.fault.VcdFault.{VcdFault}
use Rattle.vcd_read.specs.declared.finder.Finder.{Finder}
use Rattle.vcd_read.specs.declared.sampler.Harness.{Harness}
use Rattle.vcd_read.specs.declared.sampler.Sampler.{Sampler}
use Rattle.vcd_read.specs.declared.sampler.Wiring.{Wiring}
use Rattle.vcd_read.specs.declared.sampler.Wiring.TheVariants as wirings
use Rattle.vcd_read.specs.declared.samples.Samples.{Samples}
use Rattle.vcd_read.specs.declared.wire.Wire.{Wire}
use Rattle.vcd_read.proofs.SampleLemmas.{all-sample, edge-more}
use Rattle.vcd_read.proofs.WireLemmas.{kept-at}

-- a signal that a stream lacks has no code
absent-none : (scope : List (List ℕ)) (parts : List Part) (head : Head) (signal : Signal) → is_present head.params signal ≡ false
    → codes_in scope parts head signal ≡ None
absent-none scope parts head signal absent = ap (λ (test : Bool). if test then signal_in scope (plain_name head signal) parts else None) absent

-- ---- one step of the code

module _ (finder : Finder) (heads : List Head) where
  -- the signals were looked for before
  pub wires-before : (wiring : Wiring) → is_wired wiring ≡ true → WiresFrom finder heads wiring wiring
  wires-before wirings.Open is = absurd (let e = is in cc)
  wires-before (wirings.Wrong fault) is = refl
  wires-before (wirings.Found harness) is = refl

  -- they are looked for now
  pub wires-now : (wiring new : Wiring) (found : Result Harness VcdFault) → is_wired wiring ≡ false
      → ((scope : List (List ℕ)) (parts : List Part) → finding.StandsFor scope parts finder → finding.FindsWiring scope parts finder heads found)
      → IsWiringOf found new → WiresFrom finder heads wiring new
  wires-now wirings.Open new found is finds made = (found, (finds, made))
  wires-now (wirings.Wrong fault) new found is finds made = absurd (let e = is in cc)
  wires-now (wirings.Found harness) new found is finds made = absurd (let e = is in cc)

-- nothing is sampled where not all signals are found
pub ends-none : (wiring : Wiring) (before now : Words) (old : Samples) → ((harness : Harness) → wiring ≡ wirings.Found harness → ⊥)
    → EndsBlock wiring before now old old
ends-none wirings.Open before now old none = refl
ends-none (wirings.Wrong fault) before now old none = refl
ends-none (wirings.Found harness) before now old none = absurd (none harness refl)

module _ (wanted : Wanted) where
  abbrev Edges : Type 0
  Edges = List ℕ → List (List Part)

  -- ---- parts that say nothing of the signals

  module _ (kept : List (List ℕ)) (parts other : List Part) (rising later : Edges) (ended : has_ended other ≡ has_ended parts)
      (codes : codes_in wanted.scope other ≡ codes_in wanted.scope parts)
      (widths : widths_in other ≡ widths_in parts) (clocks : clock_in wanted.scope other ≡ clock_in wanted.scope parts) (edges_are : (clock : List ℕ)
      → later clock ≡ rising clock) where
    same-harness : (harness : Harness) → IsHarness kept (widths_in parts) (codes_in wanted.scope parts) (clock_in wanted.scope parts) wanted.heads harness
        → IsHarness kept (widths_in other) (codes_in wanted.scope other) (clock_in wanted.scope other) wanted.heads harness
    same-harness harness is =
        subst (λ (w : Widths). IsHarness kept w (codes_in wanted.scope other) (clock_in wanted.scope other) wanted.heads harness) (sym widths)
        (subst (λ (k : Codes). IsHarness kept (widths_in parts) k (clock_in wanted.scope other) wanted.heads harness) (sym codes)
        (subst (λ (o : Option (List ℕ)). IsHarness kept (widths_in parts) (codes_in wanted.scope parts) o wanted.heads harness) (sym clocks) is))

    same-wiring : (wiring : Wiring) (samples : Samples) → IsWiring wanted kept parts rising wiring samples → IsWiring wanted kept other later wiring samples
    same-wiring wirings.Open samples is = record { before_end = ended ∙ is.before_end; none = λ clock. edges_are clock ∙ is.none clock; start = is.start }
    same-wiring (wirings.Wrong fault) samples is =
        record { ended = ended ∙ is.ended; wrong = (λ i. wiring_fault (codes i) (widths i) (clocks i) wanted.heads) ∙ is.wrong; is = is.is }
    same-wiring (wirings.Found harness) samples is = record {
      ended = ended ∙ is.ended;
      found = same-harness harness is.found;
      made = λ clock at. subst (λ (k : Codes). AreSamples k wanted.heads (later clock) samples) (sym codes)
          (subst (λ (l : List (List Part)). AreSamples (codes_in wanted.scope parts) wanted.heads l samples) (sym (edges_are clock))
          (is.made clock (sym clocks ∙ at)));
    }

    pub same-sampler : (sampler : Sampler) → StandsAt wanted kept sampler parts rising → StandsAt wanted kept sampler other later
    same-sampler sampler is = record { heads = is.heads; apart = is.apart; wiring = same-wiring sampler.wiring sampler.samples is.wiring }

  -- ---- the beginning

  pub new-sampler : (kept : List (List ℕ)) (sampler : Sampler) → IsNew wanted.heads sampler → are_heads wanted.heads ≡ true → StandsFor wanted kept sampler []
  new-sampler kept sampler is apart = record {
    heads = is.heads_are;
    apart = apart;
    wiring = subst (λ (w : Wiring). IsWiring wanted kept [] (λ clock. edges_before clock []) w sampler.samples) (sym is.open_is)
        (record { before_end = refl; none = λ clock. refl; start = is.start });
  }

  -- ---- a declaration

  module _ (kept later : List (List ℕ)) (parts : List Part) (width : ℕ) (code name : List ℕ) (open_yet : has_ended parts ≡ false) where
    declares-wiring : (wiring : Wiring) (samples : Samples) → IsWiring wanted kept parts (λ clock. edges_before clock parts) wiring samples
        → IsWiring wanted later (Declares width code name ∷ parts) (λ clock. edges_before clock (Declares width code name ∷ parts)) wiring samples
    declares-wiring wirings.Open samples is = record { before_end = is.before_end; none = is.none; start = is.start }
    declares-wiring (wirings.Wrong fault) samples is = absurd (let e = sym open_yet ∙ is.ended in cc)
    declares-wiring (wirings.Found harness) samples is = absurd (let e = sym open_yet ∙ is.ended in cc)

    pub declares-sampler : (sampler : Sampler) → StandsFor wanted kept sampler parts → StandsFor wanted later sampler (Declares width code name ∷ parts)
    declares-sampler sampler is = record { heads = is.heads; apart = is.apart; wiring = declares-wiring sampler.wiring sampler.samples is.wiring }

  -- ---- the end of the declarations

  at-start : (codes : Codes) (samples : Samples) (rising : List (List Part)) → AreAtStart samples → rising ≡ [] → AreSamples codes wanted.heads rising samples
  at-start codes samples rising start none = subst (λ (l : List (List Part)). AreSamples codes wanted.heads l samples) (sym none) (record {
    many = λ few. start.cycles;
    over = λ past. absurd (omega (arith, past));
    first = λ few. start.not_bit;
    rows = λ few fine. start.rows;
  })

  module _ (kept : List (List ℕ)) (parts : List Part) (finder : Finder) (stands : finding.StandsFor wanted.scope parts finder)
      (codes_are : finding.kept_by finder ≡ kept) where
    abbrev later : Edges
    later clock = edges_before clock (Ends ∷ parts)

    found-wiring : (found : Result Harness VcdFault) (new : Wiring) (samples : Samples) → IsOpen parts (λ clock. edges_before clock parts) samples
        → finding.FindsWiring wanted.scope parts finder wanted.heads found → IsWiringOf found new
        → IsWiring wanted kept (Ends ∷ parts) later new samples
    found-wiring (Ok harness) new samples is finds made = subst (λ (w : Wiring). IsWiring wanted kept (Ends ∷ parts) later w samples) (sym made) (record {
      ended = refl;
      found = subst (λ (ks : List (List ℕ)). IsHarness ks (widths_in parts) (codes_in wanted.scope parts)
          (clock_in wanted.scope parts) wanted.heads harness) codes_are finds;
      made = λ clock at. at-start (codes_in wanted.scope parts) samples (edges_before clock parts) is.start (is.none clock);
    })
    found-wiring (Err fault) new samples is finds made = subst (λ (w : Wiring). IsWiring wanted kept (Ends ∷ parts) later w samples) (sym made.0) (record {
      ended = refl;
      wrong = subst (λ (o : Option VcdFault). MatchOption o (Unit {0}) (λ f. wiring_fault (codes_in wanted.scope parts) (widths_in parts)
          (clock_in wanted.scope parts) wanted.heads ≡ Some f)) made.1 finds;
      is = made.1;
    })

    ends-wiring : (old new : Wiring) (heads : List Head) (samples : Samples) → heads ≡ wanted.heads
        → IsWiring wanted kept parts (λ clock. edges_before clock parts) old samples → WiresFrom finder heads old new
        → IsWiring wanted kept (Ends ∷ parts) later new samples
    ends-wiring wirings.Open new heads samples same is wires =
        found-wiring wires.0 new samples is (subst (λ (hs : List Head). finding.FindsWiring wanted.scope parts finder hs wires.0) same (wires.1.0
        wanted.scope parts stands)) wires.1.1
    ends-wiring (wirings.Wrong fault) new heads samples same is wires = subst (λ (w : Wiring). IsWiring wanted kept (Ends ∷ parts) later w samples)
        (sym wires)
        (record { ended = refl; wrong = is.wrong; is = is.is })
    ends-wiring (wirings.Found harness) new heads samples same is wires = subst (λ (w : Wiring). IsWiring wanted kept (Ends ∷ parts) later w samples)
        (sym wires)
        (record { ended = refl; found = is.found; made = is.made })

    pub ends-sampler : (old new : Sampler) → StandsFor wanted kept old parts → IsWired finder old new → StandsFor wanted kept new (Ends ∷ parts)
    ends-sampler old new is wired = record {
      heads = wired.heads ∙ is.heads;
      apart = is.apart;
      wiring = subst (IsWiring wanted kept (Ends ∷ parts) later new.wiring) (sym wired.samples)
          (ends-wiring old.wiring new.wiring old.heads old.samples is.heads is.wiring wired.wiring);
    }

  -- ---- the end of a block

  module _ (kept : List (List ℕ)) (all : List Wire) (block : ℕ) (parts : List Part) (are : AreWires kept all block parts) where
    abbrev before : Words
    before number = before_of (slice_get all number) block

    abbrev now : Words
    now number = current_of (slice_get all number)

    abbrev rising : Edges
    rising clock = edges_before clock parts

    can-wiring : (wiring : Wiring) (samples : Samples) → IsWiring wanted kept parts rising wiring samples → CanSampleAll wiring before
    can-wiring wirings.Open samples is = tt
    can-wiring (wirings.Wrong fault) samples is = tt
    can-wiring (wirings.Found harness) samples is = all-sample kept all block parts are (codes_in wanted.scope parts)
        (absent-none wanted.scope parts) wanted.heads harness.probes is.found.probes_are

    -- all streams can be sampled
    pub can-sampler : (sampler : Sampler) → StandsFor wanted kept sampler parts → CanSampleAll sampler.wiring before
    can-sampler sampler is = can-wiring sampler.wiring sampler.samples is.wiring

    rises-is : (clock : List ℕ) (number : ℕ) → number_of kept clock ≡ Some number → rises_by before now number ≡ rises clock parts
    rises-is clock number at =
        let has = kept-at kept all block number clock parts are at in
        let was : before number ≡ word_at clock (before_block parts) = ap (λ (o : Option Wire). before_of o block) has.1.0 ∙ has.1.1.earlier in
        let is : now number ≡ word_at clock parts = ap current_of has.1.0 ∙ has.1.1.current in
        λ i. is_bit false (was i) && is_bit true (is i)

    ends-by : (harness : Harness) (clock : List ℕ) (old new : Samples) (test : Bool) → rises clock parts ≡ test
        → AreProbes kept (widths_in parts) (codes_in wanted.scope parts) wanted.heads harness.probes
        → AreSamples (codes_in wanted.scope parts) wanted.heads (rising clock) old → EndsIf test before harness old new
        → AreSamples (codes_in wanted.scope parts) wanted.heads (edges clock parts) new
    ends-by harness clock old new true is probes samples adds =
        subst (λ (b : Bool). AreSamples (codes_in wanted.scope parts) wanted.heads (rising clock ++ (if b then before_block parts ∷ [] else [])) new) (sym is)
        (edge-more kept all block parts are (codes_in wanted.scope parts) (absent-none wanted.scope parts) wanted.heads harness.probes probes (rising clock)
        old new samples adds)
    ends-by harness clock old new false is probes samples same =
        subst (λ (b : Bool). AreSamples (codes_in wanted.scope parts) wanted.heads (rising clock ++ (if b then before_block parts ∷ [] else [])) new) (sym is)
        (subst (λ (l : List (List Part)). AreSamples (codes_in wanted.scope parts) wanted.heads l new) (sym (append-nil (rising clock)))
        (subst (AreSamples (codes_in wanted.scope parts) wanted.heads (rising clock)) (sym same) samples))

    ends-block : (wiring : Wiring) (old new : Samples) → has_ended parts ≡ true → IsWiring wanted kept parts rising wiring old
        → EndsBlock wiring before now old new → IsWiring wanted kept parts (λ clock. edges clock parts) wiring new
    ends-block wirings.Open old new ended is ends = absurd (let e = sym ended ∙ is.before_end in cc)
    ends-block (wirings.Wrong fault) old new ended is ends = record { ended = is.ended; wrong = is.wrong; is = is.is }
    ends-block (wirings.Found harness) old new ended is ends = record {
      ended = is.ended;
      found = is.found;
      made = λ clock at.
          let one : is.found.clock_is.code ≡ clock = let e = sym is.found.clock_is.found_is ∙ at in cc in
          let numbered : number_of kept clock ≡ Some harness.clock = subst (λ (k : List ℕ). number_of kept k ≡ Some harness.clock) one
          is.found.clock_is.numbered in
          ends-by harness clock old new (rises clock parts) refl is.found.probes_are (is.made clock at)
          (subst (λ (b : Bool). EndsIf b before harness old new) (rises-is clock harness.clock numbered) ends);
    }

    pub block-sampler : (old new : Sampler) → has_ended parts ≡ true → StandsFor wanted kept old parts → EndsSampling before now old new
        → StandsAt wanted kept new parts (λ clock. edges clock parts)
    block-sampler old new ended is ends = record {
      heads = ends.heads ∙ is.heads;
      apart = is.apart;
      wiring = subst (λ (w : Wiring). IsWiring wanted kept parts (λ clock. edges clock parts) w new.samples) (sym ends.wiring)
          (ends-block old.wiring old.samples new.samples ended is.wiring ends.samples);
    }

  -- a time stamp of another time begins a block
  pub stamp-edges : (parts : List Part) (offset time : ℕ) (clock : List ℕ) → is_same_time (time_of parts) time ≡ false
      → edges_before clock (Stamps offset time ∷ parts) ≡ edges clock parts
  stamp-edges parts offset time clock other = ap (λ (b : Bool). if b then edges_before clock parts else edges_before clock parts ++ edge clock parts) other

  -- ---- the end of the text

  wrong-told : (parts : List Part) (fault : VcdFault) → IsFault fault → wiring_fault (codes_in wanted.scope parts) (widths_in parts)
      (clock_in wanted.scope parts) wanted.heads ≡ Some fault
      → MatchOption (fault_in fault) (Unit {0}) (λ f. kept_text (signals_shown wanted parts) ≡ Err f)
  unfolding wiring_shown kept_text
  wrong-told parts fault is wrong = subst (λ (o : Option VcdFault). MatchOption o (Unit {0}) (λ f. kept_text (signals_shown wanted parts) ≡ Err f)) (sym is)
      (ap (λ (o : Option VcdFault). kept_text (wiring_shown wanted parts o)) wrong)

  -- what the signals show, where nothing is wrong with them
  shown-is : (parts : List Part) (clock : List ℕ) → wiring_fault (codes_in wanted.scope parts) (widths_in parts)
      (clock_in wanted.scope parts) wanted.heads ≡ None → clock_in wanted.scope parts ≡ Some clock
      → signals_shown wanted parts ≡ edges_shown (codes_in wanted.scope parts) wanted.heads (edges clock parts)
  unfolding wiring_shown clock_shown
  shown-is parts clock right at = ap (wiring_shown wanted parts) right ∙ ap (clock_shown (codes_in wanted.scope parts) wanted.heads parts) at

  pub tells-wrong : (kept : List (List ℕ)) (parts : List Part) (wiring : Wiring) (samples : Samples) (fault : VcdFault) → wiring ≡ wirings.Wrong fault
      → IsWiring wanted kept parts (λ clock. edges clock parts) wiring samples
      → MatchOption (fault_in fault) (Unit {0}) (λ f. kept_text (signals_shown wanted parts) ≡ Err f)
  tells-wrong kept parts wiring samples fault is stands =
      let wrong : IsWrong wanted parts fault = subst (λ (w : Wiring). IsWiring wanted kept parts (λ clock. edges clock parts) w samples) is stands in
      wrong-told parts fault wrong.is wrong.wrong

  pub tells-found : (kept : List (List ℕ)) (parts : List Part) (wiring : Wiring) (samples : Samples) (harness : Harness) (heads : List Head)
      (result : Result (Option DumpText) VcdFault) → wiring ≡ wirings.Found harness → heads ≡ wanted.heads
      → IsWiring wanted kept parts (λ clock. edges clock parts) wiring samples → TellsRows samples heads result
      → Gives fault_in kept_bytes result (kept_text (signals_shown wanted parts))
  tells-found kept parts wiring samples harness heads result is same stands tells =
      let found : IsSampled wanted kept parts (λ clock. edges clock parts) harness samples = subst (λ (w : Wiring). IsWiring wanted kept parts (λ clock.
      edges clock parts) w samples) is stands in
      let clock = found.found.clock_is.code in
      let at = found.found.clock_is.found_is in
      subst (λ (t : Result TraceText VcdFault). Gives fault_in kept_bytes result (kept_text t)) (sym (shown-is parts clock found.found.right at))
      (subst (λ (hs : List Head). Gives fault_in kept_bytes result (kept_text (edges_shown (codes_in wanted.scope parts) hs (edges clock parts)))) same
      (tells (codes_in wanted.scope parts) (edges clock parts) (subst (λ (hs : List Head). AreSamples (codes_in wanted.scope parts) hs (edges clock parts)
      samples) (sym same) (found.made clock at))))
