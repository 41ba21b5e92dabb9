use Rattle.std.proofs.Common.{◌≡◌, None, replicate}
use Rattle.vhdl_meaning.proofs.draft.Draft.new.Given as goal

abbrev pub invariant-heads : goal.invariant-heads
invariant-heads l = l.ready.items ≡ replicate l._number None
