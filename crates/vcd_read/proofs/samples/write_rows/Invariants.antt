use Rattle.std.proofs.Common.{◌≡◌, ◌++◌, ℕ, List, drop, take}
use Rattle.std.specs.List.{flat_map}
use Rattle.vcd_read.specs.Kept.{IsKept}
use Rattle.vcd_read.specs.Probes.{text_by, words_before}
use Rattle.vcd_read.specs.Samples.{probe_not_bit}
use Rattle.vcd_read.proofs.samples.write_rows.Given as goal

-- the streams so far make rows, and their text is added
abbrev pub invariant-streams : goal.invariant-streams
invariant-streams l = record {
  passed : probe_not_bit (words_before l.wires) l.cycle 0 l.probes ≡ probe_not_bit (words_before l.wires) l.cycle l.stream (drop l.stream l.probes);
  kept : (text : List ℕ) → IsKept l.initial.rows text → IsKept l.rows (text ++ flat_map (text_by (words_before l.wires)) (take l.stream l.probes));
}
