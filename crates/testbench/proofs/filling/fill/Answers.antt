use Rattle.std.proofs.Common.{refl}
use Rattle.testbench.specs.Pieces.{lines_left, writings_of}
use Rattle.tydi_base.specs.declared.memory.Memory.{Memory}
use Rattle.testbench.proofs.PieceLemmas.{keep-then, made-more, part-yes}
use Rattle.testbench.proofs.filling.fill.Goals as goal

pub returns-in_err-write_part-clause-kept : goal.returns-in_err-write_part-clause-kept
returns-in_err-write_part-clause-kept g c = keep-then g.F.TransferFeed.whole c.args.cursors.now c.parts.cursors c.write_part.new.cursors c.parts.invariant.kept c.write_part.ensures.kept

pub returns-then-not-branch-clause-kept : goal.returns-then-not-branch-clause-kept
returns-then-not-branch-clause-kept g c = keep-then g.F.TransferFeed.whole c.args.cursors.now c.parts.cursors c.write_part.new.cursors c.parts.invariant.kept c.write_part.ensures.kept

pub parts-preserved : goal.parts-preserved
parts-preserved g c = record {
  before = c.write_part.ensures.before;
  kept = keep-then g.F.TransferFeed.whole c.args.cursors.now c.parts.cursors c.write_part.new.cursors c.parts.invariant.kept c.write_part.ensures.kept;
  made = made-more c.args.heads.now c.parts.spot c.write_part.new.spot (writings_of g.F.TransferFeed.rest g.F.TransferFeed.whole c.parts.cursors) (writings_of g.F.TransferFeed.rest g.F.TransferFeed.whole c.write_part.new.cursors) c.parts.piece c.write_part.new.piece
      (part-yes Memory c.args.heads.now c.parts.spot c.write_part.new.spot (writings_of g.F.TransferFeed.rest g.F.TransferFeed.whole c.parts.cursors) (writings_of g.F.TransferFeed.rest g.F.TransferFeed.whole c.write_part.new.cursors) c.parts.piece c.write_part.new.piece
      c.in_ok-write_part.field-0 c.if-not-branch.false c.in_ok-write_part.ensures.writes)
      (lines_left c.args.heads.now c.args.spot.now (writings_of g.F.TransferFeed.rest g.F.TransferFeed.whole c.args.cursors.now)) c.parts.invariant.made;
}
