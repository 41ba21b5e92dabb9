use Rattle.std.proofs.Common.{◌≡◌, ◌∙◌, ◌+◌, codes, length, length-append, None, ap, sym, arith}
use Rattle.tydi_base.specs.Hex.{hex_of}
use Rattle.tydi_base.proofs.HexLemmas.{length-hex_of}
use Rattle.value_text.specs.Canonical.{number_or_hex, short_number, word_text}
use Rattle.value_text.proofs.word.word_length.Goals as goal

pub returns-in-None : goal.returns-in-None
returns-in-None c =
    let none : short_number c.args.word.now ≡ None = sym c.decimal_of.ensures ∙ c.in-None.is in
    let long : length (word_text c.args.word.now) ≡ 2 + length (hex_of c.args.word.now) =
    ap (λ o. length (number_or_hex o c.args.word.now)) none ∙ length-append (codes "0x") (hex_of c.args.word.now) in
    omega (arith, long, length-hex_of c.args.word.now, c.len.ensures, c.hex_length.ensures.digits)
