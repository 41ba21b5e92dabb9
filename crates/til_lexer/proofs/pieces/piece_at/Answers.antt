use Rattle.std.proofs.Common.{◌∙◌, sym, ap, Ok}
use Rattle.til_lexer.specs.declared.piece.Piece.TheVariants as pieces
use Rattle.til_lexer.specs.Found.{along_line, placed}
use Rattle.til_lexer.specs.Pieces.{mark_at, word_token}
use Rattle.til_lexer.specs.Spans.{line_length}
use Rattle.til_lexer.specs.Words.{word_of}
use Rattle.std.specs.Str.{chars}
use Rattle.til_lexer.proofs.LineLemmas.{comment-in_line, found-comment, found-mark, found-space, found-word, placed-in_line, room-in_line, word-in_line}
use Rattle.til_lexer.proofs.pieces.piece_at.Goals as goal

pub on_line-requires-then-starts_word-clause-fits : goal.on_line-requires-then-starts_word-clause-fits
on_line-requires-then-starts_word-clause-fits c =
    rw c.word_at.ensures (room-in_line c.args.place.offset _ c.args.text.now (word_token c.args.place (word_of (chars c.args.text.now))) c.requires.fits
    (word-in_line c.args.place c.args.text.now c.utf8.text c.requires.some))

pub returns-then-is_space : goal.returns-then-is_space
returns-then-is_space c =
    found-space c.args.place c.as_bytes-bytes.result.now c.args.text.now c.space_span-span.result c.as_bytes-bytes.ensures.value c.if-is_space.ensures c.space_span-span.ensures

pub returns-then-begins_comment : goal.returns-then-begins_comment
returns-then-begins_comment c =
    c.on_line.ensures ∙ ap (λ n. along_line c.args.place (Ok (pieces.Blank n))) (c.line_length.ensures.value ∙ ap line_length c.as_bytes-bytes.ensures.value)
    ∙ placed-in_line c.args.place c.args.text.now (Ok (pieces.Blank (line_length c.args.text.now))) (comment-in_line c.args.text.now)
    ∙ ap (placed c.args.place c.args.text.now) (ap (λ b. Ok (pieces.Blank (line_length b))) (sym c.as_bytes-bytes.ensures.value)
    ∙ sym (found-comment c.args.place c.as_bytes-bytes.result.now c.args.text.now c.as_bytes-bytes.ensures.value c.if-is_space.ensures c.if-begins_comment.ensures))

pub returns-then-starts_word : goal.returns-then-starts_word
returns-then-starts_word c =
    c.on_line-then-starts_word.ensures ∙ ap (along_line c.args.place) c.word_at.ensures
    ∙ placed-in_line c.args.place c.args.text.now _ (word-in_line c.args.place c.args.text.now c.utf8.text c.requires.some)
    ∙ ap (placed c.args.place c.args.text.now)
    (sym (found-word c.args.place c.as_bytes-bytes.result.now c.args.text.now c.as_bytes-bytes.ensures.value c.if-is_space.ensures c.if-begins_comment.ensures c.if-starts_word.ensures))

pub returns-else-starts_word : goal.returns-else-starts_word
returns-else-starts_word c =
    c.mark_at.ensures ∙ ap (λ b. placed c.args.place b (mark_at c.args.place b)) c.as_bytes-bytes.ensures.value ∙ ap (placed c.args.place c.args.text.now)
    (sym (found-mark c.args.place c.as_bytes-bytes.result.now c.args.text.now c.as_bytes-bytes.ensures.value c.if-is_space.ensures c.if-begins_comment.ensures c.if-starts_word.ensures))
