use Rattle.std.proofs.Common.{◌≡◌, ◌∙◌, ◌≤◌, List, ◌++◌, length, take, drop, sym, ap, subst, arith}
use Rattle.handshake.proofs.RewindLemmas.{given-back}
use Rattle.handshake.specs.Offers.{AreBefore}
use Rattle.handshake.specs.declared.cursor.Cursor.{Cursor}
use Rattle.testbench.proofs.bench_pieces.BenchPieces.next.Goals as goal

pub fill-filled-requires-clause-before : goal.fill-filled-requires-clause-before
fill-filled-requires-clause-before g c =
    subst (λ (l : List (Cursor g.row.F.Denot g.F.TransferFeed)). AreBefore g.F.TransferFeed.rest g.F.TransferFeed.whole l) (sym c.as_mut_slice.ensures.value) c.args.self.now.before

pub invariant_of-self-then-is_empty : goal.invariant_of-self-then-is_empty
invariant_of-self-then-is_empty g c =
    let self = c.args.self.now in
    let new = c.fill-filled.new.cursors in
    let old : c.as_mut_slice.result.now ≡ self.cursors.items = c.as_mut_slice.ensures.value in
    let many : length new ≡ length self.cursors.items = c.fill-filled.ensures.kept.many ∙ ap length old in
    let back : take self.cursors.len (new ++ drop (length new) self.cursors.items) ≡ new = given-back new self.cursors.items self.cursors.len (many ∙ sym self.cursors.ok.0) in
    record {
      before = subst (λ (l : List (Cursor g.row.F.Denot g.F.TransferFeed)). AreBefore g.F.TransferFeed.rest g.F.TransferFeed.whole l) (sym back) c.fill-filled.ensures.before;
      few = subst (λ (l : List (Cursor g.row.F.Denot g.F.TransferFeed)). length l ≤ 65536) (sym back) (omega (arith, many, self.few));
    }

pub invariant_of-self-else-is_empty : goal.invariant_of-self-else-is_empty
invariant_of-self-else-is_empty g c =
    let self = c.args.self.now in
    let new = c.fill-filled.new.cursors in
    let old : c.as_mut_slice.result.now ≡ self.cursors.items = c.as_mut_slice.ensures.value in
    let many : length new ≡ length self.cursors.items = c.fill-filled.ensures.kept.many ∙ ap length old in
    let back : take self.cursors.len (new ++ drop (length new) self.cursors.items) ≡ new = given-back new self.cursors.items self.cursors.len (many ∙ sym self.cursors.ok.0) in
    record {
      before = subst (λ (l : List (Cursor g.row.F.Denot g.F.TransferFeed)). AreBefore g.F.TransferFeed.rest g.F.TransferFeed.whole l) (sym back) c.fill-filled.ensures.before;
      few = subst (λ (l : List (Cursor g.row.F.Denot g.F.TransferFeed)). length l ≤ 65536) (sym back) (omega (arith, many, self.few));
    }
