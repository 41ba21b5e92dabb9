-- The rows of the rising edges so far, as they are kept (this project's own).
use Rattle.std.specs.Prelude.{◌≡◌, ◌<◌, ◌≤◌, ℕ, suc, ◌+◌, if◌then◌else◌, List, [], ◌∷◌, ◌++◌, length, Option, Some, None, Result}
use Rattle.std.specs.List.{flat_map}
use Rattle.cycle_trace.specs.Spelling.{row_text}
use Rattle.cycle_trace.specs.Trace.{most_cycles}
use Rattle.physical_stream.specs.declared.head.Head.{Head}
use Rattle.tydi_base.specs.Reading.{Gives}
use Rattle.vcd_read.specs.History.{Part}
use Rattle.vcd_read.specs.Kept.{IsKept, kept_bytes, kept_text}
use Rattle.vcd_read.specs.Probes.{Words, sample_by, text_by}
use Rattle.vcd_read.specs.Sampled.{makes_row, not_bit, row_of, sample_at}
use Rattle.vcd_read.specs.Shown.{edges_shown, fault_in}
use Rattle.vcd_read.specs.Wanted.{Codes}
use Rattle.vcd_read.specs.declared.dump_text.DumpText.{DumpText}
use Rattle.vcd_read.specs.declared.fault.VcdFault.{VcdFault}
use Rattle.vcd_read.specs.declared.kept_rows.KeptRows.{KeptRows}
use Rattle.vcd_read.specs.declared.place.Place.{Place}
use Rattle.vcd_read.specs.declared.probe.Probe.{Probe}
use Rattle.vcd_read.specs.declared.samples.Samples.{Samples}

-- ---- one edge

-- the first of these streams that makes no row, of which the first has this number
abbrev pub probe_not_bit : Words → (cycle stream : ℕ) → List Probe → Option Place
probe_not_bit words cycle stream [] = None
probe_not_bit words cycle stream (probe ∷ probes) =
    if makes_row probe.params (sample_by words probe) then probe_not_bit words cycle (suc stream) probes else Some (record { cycle = cycle; stream = stream })

-- the rows of an edge were added to the text; or this is the first that is not of bits
abbrev pub WritesRows : Words → (cycle : ℕ) → List Probe → (old new : KeptRows) → Option Place → Type 0
WritesRows words cycle probes old new None =
    (probe_not_bit words cycle 0 probes ≡ None) × ((text : List ℕ) → IsKept old text → IsKept new (text ++ flat_map (text_by words) probes))
WritesRows words cycle probes old new (Some place) = probe_not_bit words cycle 0 probes ≡ Some place

-- an edge was added. Once there are too many no more are counted, and no row is added behind one that is not of bits.
pub record AddsEdge (words : Words) (probes : List Probe) (old new : Samples) : Type 0 where
  pub many : old.cycles ≤ most_cycles → new.cycles ≡ old.cycles + 1
  pub full : most_cycles < old.cycles → new.cycles ≡ old.cycles
  pub stays : (place : Place) → old.cycles < most_cycles → old.not_bit ≡ Some place → new.not_bit ≡ Some place
  pub rows : old.cycles < most_cycles → old.not_bit ≡ None → WritesRows words old.cycles probes old.rows new.rows new.not_bit

-- ---- all edges

-- no edge was added
pub record AreAtStart (samples : Samples) : Type 0 where
  pub cycles : samples.cycles ≡ 0
  pub not_bit : samples.not_bit ≡ None
  pub rows : IsKept samples.rows []

-- the text of the rows of an edge
abbrev pub edge_text : Codes → List Head → List Part → List ℕ
edge_text codes heads before = flat_map (λ head. row_text head.params (row_of head.params (sample_at codes head before))) heads

-- what is kept is what these edges make
pub record AreSamples (codes : Codes) (heads : List Head) (rising : List (List Part)) (samples : Samples) : Type 0 where
  pub many : length rising ≤ most_cycles → samples.cycles ≡ length rising
  pub over : most_cycles < length rising → samples.cycles ≡ most_cycles + 1
  pub first : length rising ≤ most_cycles → samples.not_bit ≡ not_bit codes heads 0 rising
  pub rows : length rising ≤ most_cycles → not_bit codes heads 0 rising ≡ None → IsKept samples.rows (flat_map (edge_text codes heads) rising)

-- the text or the error of what is kept
abbrev pub TellsRows : Samples → List Head → Result (Option DumpText) VcdFault → Type 0
TellsRows samples heads result =
    (codes : Codes) (rising : List (List Part)) → AreSamples codes heads rising samples → Gives fault_in kept_bytes result (kept_text (edges_shown codes
    heads rising))
