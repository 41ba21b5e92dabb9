use Rattle.std.proofs.Common.{take, sym, ◌∙◌, ap, arith}
use Rattle.std.specs.List.{prefix_len}
use Rattle.tydi_base.specs.Name.{is_name_byte, has_name_form}
use Rattle.til_lexer.proofs.WordLemmas.{name_cut, word-none, word-other, word-name, word-bad}
use Rattle.til_lexer.proofs.words.word_at.Goals as goal
use Rattle.til_lexer.proofs.words.word_at.Goals.{then-count-eq0-via-then-count-eq0, then-count-eq0-via-else-count-eq0+then-continues}

pub continues-requires : goal.continues-requires
continues-requires c =
    let is = c.name_bytes_at-count.ensures.value ∙ ap (prefix_len is_name_byte) c.as_bytes-bytes.ensures.value in
    (name_cut c.args.text.now c.name_bytes_at-count.result c.utf8.text is (omega arith)).boundary

pub returns-then-count-eq0 : goal.returns-then-count-eq0
returns-then-count-eq0 c =
    let is = c.name_bytes_at-count.ensures.value ∙ ap (prefix_len is_name_byte) c.as_bytes-bytes.ensures.value in
    elim c.then-count-eq0.branch [
      | then-count-eq0-via-then-count-eq0 w ↦ word-none c.args.place c.args.text.now c.name_bytes_at-count.result c.utf8.text is w.if-count-eq0.true c.requires
      | then-count-eq0-via-else-count-eq0+then-continues w ↦
          let some = w.if-count-eq0.false in
          word-other c.args.place c.args.text.now c.name_bytes_at-count.result c.utf8.text is (omega arith) (sym w.continues.ensures ∙ w.if-continues.true)
    ]

pub returns-then-has_name_form : goal.returns-then-has_name_form
returns-then-has_name_form c =
    let is = c.name_bytes_at-count.ensures.value ∙ ap (prefix_len is_name_byte) c.as_bytes-bytes.ensures.value in
    let form = ap (λ bytes. has_name_form (take c.name_bytes_at-count.result bytes)) (sym c.as_bytes-bytes.ensures.value) ∙ sym c.has_name_form.ensures ∙ c.if-has_name_form.true in
    word-name c.args.place c.args.text.now c.name_bytes_at-count.result c.utf8.text is (omega arith) (sym c.continues.ensures ∙ c.if-continues.false) form

pub returns-else-has_name_form : goal.returns-else-has_name_form
returns-else-has_name_form c =
    let is = c.name_bytes_at-count.ensures.value ∙ ap (prefix_len is_name_byte) c.as_bytes-bytes.ensures.value in
    let form = ap (λ bytes. has_name_form (take c.name_bytes_at-count.result bytes)) (sym c.as_bytes-bytes.ensures.value) ∙ sym c.has_name_form.ensures ∙ c.if-has_name_form.false in
    word-bad c.args.place c.args.text.now c.name_bytes_at-count.result c.utf8.text is (omega arith) (sym c.continues.ensures ∙ c.if-continues.false) form
