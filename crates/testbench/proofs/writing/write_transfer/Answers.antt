use Rattle.std.proofs.Common.{◌∙◌, List, refl, sym, ap, ◌++◌, Some}
use Rattle.std.specs.List.{flat_map}
use Rattle.vhdl_text.specs.Text.{stmt_text}
use Rattle.vhdl_text.specs.declared.bench.Stmt.{Stmt}
use Rattle.testbench.specs.Pieces.{writing_of}
use Rattle.testbench.proofs.PieceLemmas.{offers-then, wrote-none, wrote-transfer}
use Rattle.testbench.proofs.writing.write_transfer.Goals as goal

pub returns-in_ok-write_stmts-in-Some-clause-writes : goal.returns-in_ok-write_stmts-in-Some-clause-writes
returns-in_ok-write_stmts-in-Some-clause-writes g c =
    wrote-transfer c.args.heads.now c.args.stream (writing_of g.F.TransferFeed.rest g.F.TransferFeed.whole c.args.cursor.now) (writing_of g.F.TransferFeed.rest g.F.TransferFeed.whole c.offer.new.self) c.args.piece.now c.write_stmts.new.out
    c.in-Some.gap c.held.result.now c.params.result c.in_ok-stmts-in-Some.stmts
    (offers-then c.args.cursor.now.params (g.F.TransferFeed.whole c.args.cursor.now.feed) c.args.cursor.now.gaps (g.F.TransferFeed.rest c.args.cursor.now.feed) (g.F.TransferFeed.rest c.offer.new.self.feed) c.offer.new.self.held c.held.result.now (Some c.in-Some.gap)
    (sym c.held.ensures.is) (c.in-Some.ensures.offers (g.F.TransferFeed.whole c.args.cursor.now.feed) c.requires.before))
    (c.params.ensures ∙ c.in-Some.ensures.params) c.in_ok-stmts-in-Some.ensures
    (c.in_ok-write_stmts-in-Some.ensures.ok ∙ ap (λ (l : List Stmt). c.args.piece.now ++ flat_map (stmt_text c.args.heads.now) l) c.as_slice.ensures)

pub returns-in-None-clause-writes : goal.returns-in-None-clause-writes
returns-in-None-clause-writes g c =
    let none = wrote-none c.args.heads.now c.args.stream (writing_of g.F.TransferFeed.rest g.F.TransferFeed.whole c.args.cursor.now) (writing_of g.F.TransferFeed.rest g.F.TransferFeed.whole c.offer.new.self) c.args.piece.now c.args.piece.now _
    (c.in-None.ensures.offers (g.F.TransferFeed.whole c.args.cursor.now.feed) c.requires.before) in
    (none.0, (none.1, refl))
