use Rattle.std.proofs.Common.{◌≡◌, ◌∙◌, ℕ, length, min, ap, subst, Result}
use Rattle.std.specs.Prelude.{IfOk}
use Rattle.tydi_base.specs.Lengths.{most_bytes}
use Rattle.tydi_base.specs.declared.memory.Memory.{Memory}
use Rattle.handshake.specs.Turns.{KeepRuns}
use Rattle.testbench.specs.Pieces.{processes_left, writings_of}
use Rattle.testbench.proofs.PieceLemmas.{first-before, keep-then, lines-same}
use Rattle.testbench.proofs.pieces.measured.Goals as goal

pub count-counted-requires-clause-before : goal.count-counted-requires-clause-before
count-counted-requires-clause-before g c = first-before g.F.TransferFeed.rest g.F.TransferFeed.whole c.rewind_all.new.cursors c.rewind_all.ensures.first

pub returns-clause-kept : goal.returns-clause-kept
returns-clause-kept g c =
    keep-then g.F.TransferFeed.whole c.args.cursors.now c.rewind_all.new.cursors c.rewind_all-2.new.cursors c.rewind_all.ensures.kept
    (keep-then g.F.TransferFeed.whole c.rewind_all.new.cursors c.count-counted.new.cursors c.rewind_all-2.new.cursors c.count-counted.ensures.kept c.rewind_all-2.ensures.kept)

pub returns-clause-bytes : goal.returns-clause-bytes
returns-clause-bytes g c =
    let once : KeepRuns g.F.TransferFeed.whole c.args.cursors.now c.rewind_all-2.new.cursors =
    keep-then g.F.TransferFeed.whole c.args.cursors.now c.rewind_all.new.cursors c.rewind_all-2.new.cursors c.rewind_all.ensures.kept
    (keep-then g.F.TransferFeed.whole c.rewind_all.new.cursors c.count-counted.new.cursors c.rewind_all-2.new.cursors c.count-counted.ensures.kept c.rewind_all-2.ensures.kept) in
    subst (λ (n : ℕ). IfOk c.count-counted.result (λ bytes. bytes ≡ min n most_bytes))
    (ap length (lines-same g.F.TransferFeed.rest g.F.TransferFeed.whole c.args.heads.now c.args.cursors.now c.rewind_all.new.cursors c.rewind_all-2.new.cursors c.rewind_all.ensures.kept c.rewind_all.ensures.first once c.rewind_all-2.ensures.first))
    c.count-counted.ensures.bytes
