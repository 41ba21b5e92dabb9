use Rattle.std.proofs.Common.{◌≡◌, ℕ, List, drop, take}
use Rattle.vcd_read.specs.Finding.{AreProbes, StandsFor, kept_by}
use Rattle.vcd_read.specs.History.{Part}
use Rattle.vcd_read.specs.Wanted.{codes_in, faults_from, widths_in}
use Rattle.vcd_read.proofs.finder.Finder.probes.Given as goal

-- nothing is wrong with the streams so far
abbrev pub invariant-streams : goal.invariant-streams
invariant-streams l = (scope : List (List ℕ)) (parts : List Part) → StandsFor scope parts l.self
    → (faults_from (codes_in scope parts) (widths_in parts) 0 l.heads ≡ faults_from (codes_in scope parts) (widths_in parts) l.stream (drop l.stream l.heads))
    × AreProbes (kept_by l.self) (widths_in parts) (codes_in scope parts) (take l.stream l.heads) l.probes
