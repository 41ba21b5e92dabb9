use Rattle.std.proofs.Common.{length, min, ◌≡◌, ◌+◌, arith}
use Rattle.tydi_base.specs.Lengths.{most_bytes}
use Rattle.testbench.specs.Pieces.{lines_left, writings_of}
use Rattle.tydi_base.specs.declared.memory.Memory.{Memory}
use Rattle.testbench.proofs.PieceLemmas.{counted-more, keep-then, part-yes}
use Rattle.testbench.proofs.filling.count.Goals as goal

pub returns-in_err-write_part-clause-kept : goal.returns-in_err-write_part-clause-kept
returns-in_err-write_part-clause-kept g c = keep-then g.F.TransferFeed.whole c.args.cursors.now c.parts.cursors c.write_part.new.cursors c.parts.invariant.kept c.write_part.ensures.kept

pub returns-clause-kept : goal.returns-clause-kept
returns-clause-kept g c = keep-then g.F.TransferFeed.whole c.args.cursors.now c.parts.cursors c.write_part.new.cursors c.parts.invariant.kept c.write_part.ensures.kept

pub parts-preserved : goal.parts-preserved
parts-preserved g c =
    let sum : c.saturating_add-bytes.result ≡ min (c.parts.bytes + c.len.result) most_bytes = c.saturating_add-bytes.ensures in
    record {
      before = c.write_part.ensures.before;
      kept = keep-then g.F.TransferFeed.whole c.args.cursors.now c.parts.cursors c.write_part.new.cursors c.parts.invariant.kept c.write_part.ensures.kept;
      empty = c.truncate.ensures;
      bytes = counted-more c.args.heads.now c.parts.spot c.write_part.new.spot (writings_of g.F.TransferFeed.rest g.F.TransferFeed.whole c.parts.cursors) (writings_of g.F.TransferFeed.rest g.F.TransferFeed.whole c.write_part.new.cursors) c.parts.piece c.write_part.new.piece
          (part-yes Memory c.args.heads.now c.parts.spot c.write_part.new.spot (writings_of g.F.TransferFeed.rest g.F.TransferFeed.whole c.parts.cursors) (writings_of g.F.TransferFeed.rest g.F.TransferFeed.whole c.write_part.new.cursors) c.parts.piece c.write_part.new.piece
          c.in_ok-write_part.field-0 c.if-branch.true c.in_ok-write_part.ensures.writes)
          (length (lines_left c.args.heads.now c.args.spot.now (writings_of g.F.TransferFeed.rest g.F.TransferFeed.whole c.args.cursors.now))) c.parts.bytes c.len.result c.saturating_add-bytes.result most_bytes
          c.parts.invariant.empty c.len.ensures sum c.parts.invariant.bytes;
      few = omega (arith, sum);
    }
