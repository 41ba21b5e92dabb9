use Rattle.std.proofs.Common.{◌∙◌, arith, sym}
use Rattle.std.proofs.Math.Facts.{Fits-lt-pow}
use Rattle.cycle_trace.proofs.RowStartLemmas.{row_start-front}
use Rattle.cycle_trace.proofs.row.fields.two_bits.Goals as goal

pub returns : goal.returns
returns c =
    row_start-front c.args.line.now _ _ c.bit_byte.result c.bit_byte-2.result c.bit_byte.ensures c.bit_byte-2.ensures c.bit_byte.type_inv c.bit_byte-2.type_inv
    (omega (arith, c.if-line-lt4.false)) (Fits-lt-pow (c.type_inv.line 0)) (Fits-lt-pow (c.type_inv.line 1)) (Fits-lt-pow (c.type_inv.line 2))
    (sym c.four_bytes-front.ensures ∙ c.if-front-four_bytes.false ∙ c.four_bytes.ensures)
