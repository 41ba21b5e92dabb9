use Rattle.std.proofs.Common.{◌∙◌, List, inl, inr, ap, arith}
use Rattle.std.proofs.lemmas.Result.{IfOk-weaker}
use Rattle.physical_stream.specs.declared.item.Item.{Item}
use Rattle.watch_text.specs.Pieces.{lines_between}
use Rattle.watch_text.specs.Statements.{plain_watch}
use Rattle.watch_text.proofs.PieceLemmas.{begin-piece, items-piece, last-piece}
use Rattle.watch_text.proofs.pieces.write_table.Goals as goal

pub returns-in_default : goal.returns-in_default
returns-in_default c =
    IfOk-weaker c.write_begin.result _ _ (λ next made. begin-piece (plain_watch c.args.watch.now) c.args.stream c.args.item next c.write_begin.new.piece (inl c.in_default.ensures.value) made)
    c.write_begin.ensures

pub returns-in_default-get : goal.returns-in_default-get
returns-in_default-get c =
    IfOk-weaker c.write_begin-in_default-get.result _ _
    (λ next made. begin-piece (plain_watch c.args.watch.now) c.args.stream c.args.item next c.write_begin-in_default-get.new.piece (inr c.in_default-get.ensures.value) made)
    c.write_begin-in_default-get.ensures

pub returns-then-to-len : goal.returns-then-to-len
returns-then-to-len c =
    let head = c.in-Some.head.now in let items = c.in-Some-get.want.now in let to = c.end_of_piece-to.result in
    let test = c.if-to-len.true in let first = c.len.ensures in let second = c.len-2.ensures in
    items-piece (plain_watch c.args.watch.now) c.args.stream c.args.item to head items c.write_items.new.piece c.in-Some.ensures.value c.in-Some-get.ensures.value
    (c.end_of_piece-to.ensures (omega (arith, test, first, second))) (omega (arith, test, second))
    (c.in_ok-write_items.ensures ∙ ap (λ (l : List Item). lines_between head l c.args.item to) c.as_slice.ensures)

pub returns : goal.returns
returns c =
    let head = c.in-Some.head.now in let items = c.in-Some-get.want.now in let to = c.end_of_piece-to.result in
    let test = c.if-to-len.false in let second = c.len-2.ensures in
    last-piece (plain_watch c.args.watch.now) c.args.stream c.after-stream.result c.args.item to head items c.write_items.new.piece c.in-Some.ensures.value c.in-Some-get.ensures.value
    (omega (arith, test, second)) (c.after-stream.ensures (let within = c.in-Some.ensures.within in let count = c.len-3.ensures in omega (arith, within, count)))
    (c.in_ok-write_items.ensures ∙ ap (λ (l : List Item). lines_between head l c.args.item to) c.as_slice.ensures)
