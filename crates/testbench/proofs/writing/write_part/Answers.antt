use Rattle.std.proofs.Common.{◌≡◌, ◌∙◌, List, Bool, Some, refl, sym, ap, arith}
use Rattle.handshake.specs.Offers.{StandsBefore}
use Rattle.tydi_base.specs.declared.memory.Memory.{Memory}
use Rattle.testbench.proofs.PieceLemmas.{before-set, index-there, keep-set, keep-same, wrote-begin, wrote-last, wrote-more, wrote-no, wrote-yes, after-same, has-place}
use Rattle.testbench.specs.Pieces.{writing_of}
use Rattle.testbench.proofs.writing.write_part.Goals as goal

pub returns-then-not-spot-clause-writes : goal.returns-then-not-spot-clause-writes
returns-then-not-spot-clause-writes g c =
    let there = has-place c.args.cursors.now c.args.spot.now.stream (omega (arith, c.if-stream-cursors.false)) in
    wrote-begin g.F.TransferFeed.rest g.F.TransferFeed.whole c.args.heads.now c.args.cursors.now c.args.spot.now.stream there.0 there.1 c.args.spot.now _ c.args.piece.now c.begin_process.new.out refl
    c.if-not-spot.true refl refl c.in_ok-begin_process.ensures.ok

pub write_transfer-requires : goal.write_transfer-requires
write_transfer-requires g c = record {
  before = c.requires.before c.args.spot.now.stream _ (index-there c.args.cursors.now c.args.spot.now.stream c.index-cursors-stream.result (omega (arith, c.if-stream-cursors.false)));
}

pub returns-in_err-write_transfer-clause-before : goal.returns-in_err-write_transfer-clause-before
returns-in_err-write_transfer-clause-before g c =
    before-set g.F.TransferFeed.whole c.args.cursors.now c.args.spot.now.stream _ c.write_transfer.new.cursor
    (index-there c.args.cursors.now c.args.spot.now.stream c.index-cursors-stream.result (omega (arith, c.if-stream-cursors.false))) g.F.TransferFeed.rest c.requires.before c.write_transfer.ensures.before

pub returns-in_err-write_transfer-clause-kept : goal.returns-in_err-write_transfer-clause-kept
returns-in_err-write_transfer-clause-kept g c =
    keep-set g.F.TransferFeed.whole c.args.cursors.now c.args.spot.now.stream _ c.write_transfer.new.cursor
    (index-there c.args.cursors.now c.args.spot.now.stream c.index-cursors-stream.result (omega (arith, c.if-stream-cursors.false))) c.write_transfer.ensures.kept

pub returns-then-branch-clause-before : goal.returns-then-branch-clause-before
returns-then-branch-clause-before g c =
    before-set g.F.TransferFeed.whole c.args.cursors.now c.args.spot.now.stream _ c.write_transfer.new.cursor
    (index-there c.args.cursors.now c.args.spot.now.stream c.index-cursors-stream.result (omega (arith, c.if-stream-cursors.false))) g.F.TransferFeed.rest c.requires.before c.write_transfer.ensures.before

pub returns-then-branch-clause-kept : goal.returns-then-branch-clause-kept
returns-then-branch-clause-kept g c =
    keep-set g.F.TransferFeed.whole c.args.cursors.now c.args.spot.now.stream _ c.write_transfer.new.cursor
    (index-there c.args.cursors.now c.args.spot.now.stream c.index-cursors-stream.result (omega (arith, c.if-stream-cursors.false))) c.write_transfer.ensures.kept

pub returns-in_err-write_end-clause-before : goal.returns-in_err-write_end-clause-before
returns-in_err-write_end-clause-before g c =
    before-set g.F.TransferFeed.whole c.args.cursors.now c.args.spot.now.stream _ c.write_transfer.new.cursor
    (index-there c.args.cursors.now c.args.spot.now.stream c.index-cursors-stream.result (omega (arith, c.if-stream-cursors.false))) g.F.TransferFeed.rest c.requires.before c.write_transfer.ensures.before

pub returns-in_err-write_end-clause-kept : goal.returns-in_err-write_end-clause-kept
returns-in_err-write_end-clause-kept g c =
    keep-set g.F.TransferFeed.whole c.args.cursors.now c.args.spot.now.stream _ c.write_transfer.new.cursor
    (index-there c.args.cursors.now c.args.spot.now.stream c.index-cursors-stream.result (omega (arith, c.if-stream-cursors.false))) c.write_transfer.ensures.kept

pub returns-clause-before : goal.returns-clause-before
returns-clause-before g c =
    before-set g.F.TransferFeed.whole c.args.cursors.now c.args.spot.now.stream _ c.write_transfer.new.cursor
    (index-there c.args.cursors.now c.args.spot.now.stream c.index-cursors-stream.result (omega (arith, c.if-stream-cursors.false))) g.F.TransferFeed.rest c.requires.before c.write_transfer.ensures.before

pub returns-clause-kept : goal.returns-clause-kept
returns-clause-kept g c =
    keep-set g.F.TransferFeed.whole c.args.cursors.now c.args.spot.now.stream _ c.write_transfer.new.cursor
    (index-there c.args.cursors.now c.args.spot.now.stream c.index-cursors-stream.result (omega (arith, c.if-stream-cursors.false))) c.write_transfer.ensures.kept

pub returns-then-branch-clause-writes : goal.returns-then-branch-clause-writes
returns-then-branch-clause-writes g c =
    let there = index-there c.args.cursors.now c.args.spot.now.stream c.index-cursors-stream.result (omega (arith, c.if-stream-cursors.false)) in
    wrote-more g.F.TransferFeed.rest g.F.TransferFeed.whole c.args.heads.now c.args.cursors.now c.args.spot.now.stream _ there c.args.spot.now c.args.spot.now c.args.piece.now c.write_transfer.new.piece refl
    c.write_transfer.new.cursor c.write_transfer.ensures.kept (c.requires.before c.args.spot.now.stream _ there) c.if-not-spot.false refl c.if-not-spot.false
    (wrote-yes Memory c.args.heads.now c.args.spot.now.stream _ _ c.args.piece.now c.write_transfer.new.piece c.in_ok-write_transfer.field-0 c.if-branch.true c.in_ok-write_transfer.ensures.writes)

pub returns-clause-writes : goal.returns-clause-writes
returns-clause-writes g c =
    let there = index-there c.args.cursors.now c.args.spot.now.stream c.index-cursors-stream.result (omega (arith, c.if-stream-cursors.false)) in
    let none = wrote-no Memory c.args.heads.now c.args.spot.now.stream _ _ c.args.piece.now c.write_transfer.new.piece c.in_ok-write_transfer.field-0 c.if-branch.false c.in_ok-write_transfer.ensures.writes in
    wrote-last g.F.TransferFeed.rest g.F.TransferFeed.whole c.args.heads.now c.args.cursors.now c.args.spot.now.stream _ there c.args.spot.now _ c.args.piece.now c.write_end.new.piece refl
    c.write_transfer.new.cursor none.0 c.if-not-spot.false refl refl (after-same c.write_end.new.piece c.write_transfer.new.piece c.args.piece.now _ c.in_ok-write_end.ensures none.1.1)
