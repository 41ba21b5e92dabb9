-- What is known of the wanted signals and of the rows that they made (this project's own).
use Rattle.std.specs.Prelude.{◌≡◌, ℕ, Bool, true, false, List, [], Option, Some, Result, Ok, Err}
use Rattle.std.specs.List.{All}
use Rattle.cycle_trace.specs.Trace.{are_heads}
use Rattle.physical_stream.specs.declared.head.Head.{Head}
use Rattle.tydi_base.specs.Reading.{Gives}
use Rattle.vcd_read.specs.Finding as finding
use Rattle.vcd_read.specs.Finding.{IsHarness}
use Rattle.vcd_read.specs.History.{Part, clock_in, edges, edges_before, has_ended}
use Rattle.vcd_read.specs.Kept.{kept_bytes, kept_text}
use Rattle.vcd_read.specs.Probes.{CanSample, Words, rises_by}
use Rattle.vcd_read.specs.Samples.{AddsEdge, AreAtStart, AreSamples}
use Rattle.vcd_read.specs.Shown.{fault_in, signals_shown}
use Rattle.vcd_read.specs.Wanted.{Wanted, codes_in, widths_in, wiring_fault}
use Rattle.vcd_read.specs.declared.dump_text.DumpText.{DumpText}
use Rattle.vcd_read.specs.declared.fault.VcdFault.{VcdFault}
use Rattle.vcd_read.specs.declared.finder.Finder.{Finder}
use Rattle.vcd_read.specs.declared.sampler.Harness.{Harness}
use Rattle.vcd_read.specs.declared.sampler.Sampler.{Sampler}
use Rattle.vcd_read.specs.declared.sampler.Wiring.{Wiring}
use Rattle.vcd_read.specs.declared.sampler.Wiring.TheVariants as wirings
use Rattle.vcd_read.specs.declared.samples.Samples.{Samples}

-- ---- the end of the declarations

-- a fault that stands for one of a dump: no want of memory
abbrev pub IsFault : VcdFault → Type 0
IsFault fault = fault_in fault ≡ Some fault

-- what is known after a search with this answer
abbrev pub IsWiringOf : Result Harness VcdFault → Wiring → Type 0
IsWiringOf (Ok harness) wiring = wiring ≡ wirings.Found harness
IsWiringOf (Err fault) wiring = (wiring ≡ wirings.Wrong fault) × IsFault fault

abbrev pub is_wired : Wiring → Bool
is_wired wirings.Open = false
is_wired (wirings.Wrong fault) = true
is_wired (wirings.Found harness) = true

-- the signals were looked for, where they were not before
abbrev pub WiresFrom : Finder → List Head → (old new : Wiring) → Type 0
WiresFrom finder heads wirings.Open new =
    (found : Result Harness VcdFault) × (((scope : List (List ℕ)) (parts : List Part) → finding.StandsFor scope parts finder
    → finding.FindsWiring scope parts finder heads found) × IsWiringOf found new)
WiresFrom finder heads (wirings.Wrong fault) new = new ≡ wirings.Wrong fault
WiresFrom finder heads (wirings.Found harness) new = new ≡ wirings.Found harness

pub record IsWired (finder : Finder) (old new : Sampler) : Type 0 where
  pub heads : new.heads ≡ old.heads
  pub samples : new.samples ≡ old.samples
  pub wiring : WiresFrom finder old.heads old.wiring new.wiring

-- ---- the end of a block

abbrev pub CanSampleAll : Wiring → Words → Type 0
CanSampleAll wirings.Open words = Unit {0}
CanSampleAll (wirings.Wrong fault) words = Unit {0}
CanSampleAll (wirings.Found harness) words = All (CanSample words) harness.probes

-- an edge is added where the clock rises
abbrev pub EndsIf : Bool → Words → Harness → (old new : Samples) → Type 0
EndsIf true before harness old new = AddsEdge before harness.probes old new
EndsIf false before harness old new = new ≡ old

abbrev pub EndsBlockBy : Harness → (before now : Words) → (old new : Samples) → Type 0
EndsBlockBy harness before now old new = EndsIf (rises_by before now harness.clock) before harness old new

abbrev pub EndsBlock : Wiring → (before now : Words) → (old new : Samples) → Type 0
EndsBlock wirings.Open before now old new = new ≡ old
EndsBlock (wirings.Wrong fault) before now old new = new ≡ old
EndsBlock (wirings.Found harness) before now old new = EndsBlockBy harness before now old new

pub record EndsSampling (before now : Words) (old new : Sampler) : Type 0 where
  pub heads : new.heads ≡ old.heads
  pub wiring : new.wiring ≡ old.wiring
  pub samples : EndsBlock old.wiring before now old.samples new.samples

-- ---- what is kept, after these parts

-- before the declarations end nothing is known, and there is no edge
pub record IsOpen (parts : List Part) (rising : List ℕ → List (List Part)) (samples : Samples) : Type 0 where
  pub before_end : has_ended parts ≡ false
  pub none : (clock : List ℕ) → rising clock ≡ []
  pub start : AreAtStart samples

-- this is the first thing that is wrong
pub record IsWrong (wanted : Wanted) (parts : List Part) (fault : VcdFault) : Type 0 where
  pub ended : has_ended parts ≡ true
  pub wrong : wiring_fault (codes_in wanted.scope parts) (widths_in parts) (clock_in wanted.scope parts) wanted.heads ≡ Some fault
  pub is : IsFault fault

-- all is found, and the rows are those of the edges
pub record IsSampled (wanted : Wanted) (kept : List (List ℕ)) (parts : List Part) (rising : List ℕ
    → List (List Part)) (harness : Harness) (samples : Samples) : Type 0 where
  pub ended : has_ended parts ≡ true
  pub found : IsHarness kept (widths_in parts) (codes_in wanted.scope parts) (clock_in wanted.scope parts) wanted.heads harness
  pub made : (clock : List ℕ) → clock_in wanted.scope parts ≡ Some clock → AreSamples (codes_in wanted.scope parts) wanted.heads (rising clock) samples

abbrev pub IsWiring : Wanted → List (List ℕ) → List Part → (List ℕ → List (List Part)) → Wiring → Samples → Type 0
IsWiring wanted kept parts rising wirings.Open samples = IsOpen parts rising samples
IsWiring wanted kept parts rising (wirings.Wrong fault) samples = IsWrong wanted parts fault
IsWiring wanted kept parts rising (wirings.Found harness) samples = IsSampled wanted kept parts rising harness samples

-- the same, where a clock of each code rises at these edges
pub record StandsAt (wanted : Wanted) (kept : List (List ℕ)) (sampler : Sampler) (parts : List Part) (rising : List ℕ → List (List Part)) : Type 0 where
  pub heads : sampler.heads ≡ wanted.heads
  pub apart : are_heads wanted.heads ≡ true
  pub wiring : IsWiring wanted kept parts rising sampler.wiring sampler.samples

-- the edges are those of the blocks that have ended
abbrev pub StandsFor : Wanted → List (List ℕ) → Sampler → List Part → Type 0
StandsFor wanted kept sampler parts = StandsAt wanted kept sampler parts (λ clock. edges_before clock parts)

-- it is at its start, for the streams with these heads
pub record IsNew (heads : List Head) (sampler : Sampler) : Type 0 where
  pub heads_are : sampler.heads ≡ heads
  pub open_is : sampler.wiring ≡ wirings.Open
  pub start : AreAtStart sampler.samples

-- the text or the error at the end
abbrev pub Tells : Sampler → Result (Option DumpText) VcdFault → Type 0
Tells sampler result = (wanted : Wanted) (kept : List (List ℕ)) (parts : List Part) → StandsAt wanted kept sampler parts (λ clock. edges clock parts)
    → Gives fault_in kept_bytes result (kept_text (signals_shown wanted parts))
