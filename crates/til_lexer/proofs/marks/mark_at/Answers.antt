use Rattle.std.proofs.Common.{◌∙◌, sym, ap, refl}
use Rattle.til_lexer.specs.Found.{along_line, placed}
use Rattle.til_lexer.specs.Pieces.{number_at, symbol_at}
use Rattle.til_lexer.proofs.LineLemmas.{mark-doc, mark-number, mark-quoted, mark-symbol, number-in_line, placed-in_line, room-in_line, symbol-in_line}
use Rattle.til_lexer.proofs.marks.mark_at.Goals as goal

pub on_line-requires-clause-fits : goal.on_line-requires-clause-fits
on_line-requires-clause-fits c =
    rw c.number_at.ensures (room-in_line c.args.place.offset _ c.args.bytes.now (number_at c.args.place c.args.bytes.now) c.requires.fits
    (number-in_line c.args.place c.args.bytes.now (sym c.if-is_ascii_digit.ensures.value)))

pub on_line-requires-else-first-eq-HASH-clause-fits : goal.on_line-requires-else-first-eq-HASH-clause-fits
on_line-requires-else-first-eq-HASH-clause-fits c =
    rw c.symbol_at.ensures (room-in_line c.args.place.offset _ c.args.bytes.now (symbol_at c.args.place c.args.bytes.now) c.requires.fits
    (symbol-in_line c.args.place c.args.bytes.now c.requires.some))

pub returns-then-is_ascii_digit : goal.returns-then-is_ascii_digit
returns-then-is_ascii_digit c =
    c.on_line.ensures ∙ ap (along_line c.args.place) c.number_at.ensures
    ∙ placed-in_line c.args.place c.args.bytes.now _ (number-in_line c.args.place c.args.bytes.now (sym c.if-is_ascii_digit.ensures.value))
    ∙ ap (placed c.args.place c.args.bytes.now) (sym (mark-number c.args.place c.args.bytes.now c.if-is_ascii_digit.ensures.value))

pub returns-then-first-eq-QUOTE : goal.returns-then-first-eq-QUOTE
returns-then-first-eq-QUOTE c = c.closed_token.ensures ∙ mark-quoted c.args.place c.args.bytes.now c.if-first-eq-QUOTE.true c.requires.some _ refl

pub returns-then-first-eq-HASH : goal.returns-then-first-eq-HASH
returns-then-first-eq-HASH c =
    c.closed_token-then-first-eq-HASH.ensures ∙ mark-doc c.args.place c.args.bytes.now c.if-first-eq-HASH.true c.requires.some _ refl

pub returns-else-first-eq-HASH : goal.returns-else-first-eq-HASH
returns-else-first-eq-HASH c =
    c.on_line-else-first-eq-HASH.ensures ∙ ap (along_line c.args.place) c.symbol_at.ensures
    ∙ placed-in_line c.args.place c.args.bytes.now _ (symbol-in_line c.args.place c.args.bytes.now c.requires.some)
    ∙ ap (placed c.args.place c.args.bytes.now) (sym (mark-symbol c.args.place c.args.bytes.now c.if-is_ascii_digit.ensures.value c.if-first-eq-QUOTE.false c.if-first-eq-HASH.false))
