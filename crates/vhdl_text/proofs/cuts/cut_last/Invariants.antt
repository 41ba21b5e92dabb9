use Rattle.std.proofs.Common.{◌≤◌, drop, length}
use Rattle.tydi_base.specs.Pieces.{Lacks}
use Rattle.vhdl_text.proofs.cuts.cut_last.Given as goal

-- the bytes from here on are none of this kind
abbrev pub invariant-bytes : goal.invariant-bytes
invariant-bytes l = (l.left ≤ length l.text) × Lacks l.mark (drop l.left l.text)

abbrev pub decreases-bytes : goal.decreases-bytes
decreases-bytes l = l.left
