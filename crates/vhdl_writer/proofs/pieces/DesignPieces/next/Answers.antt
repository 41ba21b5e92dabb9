use Rattle.std.proofs.Common.{◌∙◌, ap, arith}
use Rattle.vhdl_writer.specs.Designs.{directive_left}
use Rattle.vhdl_writer.proofs.PieceLemmas.{none-made, none-some, piece-made}
use Rattle.vhdl_writer.proofs.pieces.DesignPieces.next.Goals as goal

pub returns-in_ok-piece-in-Some-clause-made : goal.returns-in_ok-piece-in-Some-clause-made
returns-in_ok-piece-in-Some-clause-made c =
    piece-made c.args.self.now.language c.args.self.now.archs c.args.self.now.first c.args.self.now.last c.args.self.now.next c.in-Some.arch.now c.in_ok-piece-in-Some.field-0 c.after-self.result
    c.if-self.false c.in-Some.ensures.value c.in_ok-piece-in-Some.ensures
    (c.after-self.ensures (let within = c.in-Some.ensures.within in let count = c.len.ensures in omega (arith, within, count)))

pub returns-in_ok-piece-in-None-clause-made : goal.returns-in_ok-piece-in-None-clause-made
returns-in_ok-piece-in-None-clause-made c =
    none-made c.args.self.now.language c.args.self.now.archs c.args.self.now.first c.args.self.now.last c.args.self.now.next c.in_ok-piece-in-None.field-0 c.if-self.false c.in-None.ensures.value
    (c.in_ok-piece-in-None.ensures ∙ c.where_left.ensures ∙ ap (directive_left c.args.self.now.last) c.last_directive.ensures)

pub returns-in_ok-piece-in-None-clause-some : goal.returns-in_ok-piece-in-None-clause-some
returns-in_ok-piece-in-None-clause-some c =
    none-some c.args.self.now.language c.args.self.now.archs c.args.self.now.first c.args.self.now.last c.args.self.now.next c.in_ok-piece-in-None.field-0 c.if-self.false c.in-None.ensures.value
    (c.in_ok-piece-in-None.ensures ∙ c.where_left.ensures ∙ ap (directive_left c.args.self.now.last) c.last_directive.ensures)
