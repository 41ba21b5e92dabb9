use Rattle.std.proofs.Common.{◌≡◌, ◌∙◌, ◌+◌, List, ◌++◌, length, take, drop, sym, ap, subst, arith}
use Rattle.handshake.proofs.PortLemmas.{rows-whole, runs-kept}
use Rattle.handshake.proofs.RewindLemmas.{given-back}
use Rattle.handshake.specs.Ports.{runs_in}
use Rattle.handshake.specs.Rows.{StreamRun, rows_after, rows_from, undone_in}
use Rattle.handshake.specs.Turns.{KeepRuns}
use Rattle.handshake.specs.declared.cursor.Cursor.{Cursor}
use Rattle.handshake.proofs.port_feed.PortRunCycleFeed.rewind.Goals as goal

pub returns-clause-rows : goal.returns-clause-rows
returns-clause-rows g c =
    let self = c.args.self.now in
    let new = c.rewind_all.new.cursors in
    let old : c.as_mut_slice.result.now ≡ self.cursors.items = c.as_mut_slice.ensures.value in
    let kept : KeepRuns g.F.TransferFeed.whole self.cursors.items new = subst (λ (l : List (Cursor g.row.F.Denot g.F.TransferFeed)). KeepRuns g.F.TransferFeed.whole l new) old c.rewind_all.ensures.kept in
    let back : take self.cursors.len (new ++ drop (length new) self.cursors.items) ≡ new = given-back new self.cursors.items self.cursors.len (kept.many ∙ sym self.cursors.ok.0) in
    let runs : runs_in g.F.TransferFeed.rest g.F.TransferFeed.whole (take self.cursors.len (new ++ drop (length new) self.cursors.items)) self.ready ≡ runs_in g.F.TransferFeed.rest g.F.TransferFeed.whole self.cursors.items self.ready =
    ap (λ (l : List (Cursor g.row.F.Denot g.F.TransferFeed)). runs_in g.F.TransferFeed.rest g.F.TransferFeed.whole l self.ready) back
    ∙ runs-kept g.F.TransferFeed.rest g.F.TransferFeed.whole self.cursors.items new self.ready kept in
    let count : self.many + self.number ≡ self.number + self.many = omega arith in
    ap (λ (l : List StreamRun). rows_after l 0 0 (self.many + self.number)) runs ∙ rows-whole _ 0 (self.many + self.number)
    ∙ ap (rows_from (runs_in g.F.TransferFeed.rest g.F.TransferFeed.whole self.cursors.items self.ready) 0) count

pub returns-clause-whole : goal.returns-clause-whole
returns-clause-whole g c =
    let self = c.args.self.now in
    let new = c.rewind_all.new.cursors in
    let old : c.as_mut_slice.result.now ≡ self.cursors.items = c.as_mut_slice.ensures.value in
    let kept : KeepRuns g.F.TransferFeed.whole self.cursors.items new = subst (λ (l : List (Cursor g.row.F.Denot g.F.TransferFeed)). KeepRuns g.F.TransferFeed.whole l new) old c.rewind_all.ensures.kept in
    let back : take self.cursors.len (new ++ drop (length new) self.cursors.items) ≡ new = given-back new self.cursors.items self.cursors.len (kept.many ∙ sym self.cursors.ok.0) in
    let runs : runs_in g.F.TransferFeed.rest g.F.TransferFeed.whole (take self.cursors.len (new ++ drop (length new) self.cursors.items)) self.ready ≡ runs_in g.F.TransferFeed.rest g.F.TransferFeed.whole self.cursors.items self.ready =
    ap (λ (l : List (Cursor g.row.F.Denot g.F.TransferFeed)). runs_in g.F.TransferFeed.rest g.F.TransferFeed.whole l self.ready) back
    ∙ runs-kept g.F.TransferFeed.rest g.F.TransferFeed.whole self.cursors.items new self.ready kept in
    let count : 0 + (self.many + self.number) ≡ self.number + self.many = omega arith in
    ap (λ (l : List StreamRun). rows_from l 0 (0 + (self.many + self.number))) runs ∙ ap (rows_from (runs_in g.F.TransferFeed.rest g.F.TransferFeed.whole self.cursors.items self.ready) 0) count

pub returns-clause-undone : goal.returns-clause-undone
returns-clause-undone g c =
    let self = c.args.self.now in
    let new = c.rewind_all.new.cursors in
    let old : c.as_mut_slice.result.now ≡ self.cursors.items = c.as_mut_slice.ensures.value in
    let kept : KeepRuns g.F.TransferFeed.whole self.cursors.items new = subst (λ (l : List (Cursor g.row.F.Denot g.F.TransferFeed)). KeepRuns g.F.TransferFeed.whole l new) old c.rewind_all.ensures.kept in
    let back : take self.cursors.len (new ++ drop (length new) self.cursors.items) ≡ new = given-back new self.cursors.items self.cursors.len (kept.many ∙ sym self.cursors.ok.0) in
    let runs : runs_in g.F.TransferFeed.rest g.F.TransferFeed.whole (take self.cursors.len (new ++ drop (length new) self.cursors.items)) self.ready ≡ runs_in g.F.TransferFeed.rest g.F.TransferFeed.whole self.cursors.items self.ready =
    ap (λ (l : List (Cursor g.row.F.Denot g.F.TransferFeed)). runs_in g.F.TransferFeed.rest g.F.TransferFeed.whole l self.ready) back
    ∙ runs-kept g.F.TransferFeed.rest g.F.TransferFeed.whole self.cursors.items new self.ready kept in
    ap undone_in runs
