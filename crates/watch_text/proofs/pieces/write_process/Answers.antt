use Rattle.std.proofs.Common.{◌∙◌, ◌++◌, List, ℕ, inl, inr, ap, arith, option_map, sym}
use Rattle.std.proofs.lemmas.Option.{slice_get-map}
use Rattle.std.proofs.lemmas.Result.{IfOk-weaker}
use Rattle.watch_text.specs.Statements.{plain_statements, plain_watch}
use Rattle.watch_text.specs.Text.{process_text}
use Rattle.watch_text.specs.declared.watch.WStmt.{WStmt}
use Rattle.watch_text.proofs.PieceLemmas.{end-piece, process-piece}
use Rattle.watch_text.proofs.pieces.write_process.Goals as goal

pub returns-in_default : goal.returns-in_default
returns-in_default c =
    IfOk-weaker c.write_end.result _ _ (λ next made. end-piece (plain_watch c.args.watch.now) c.args.stream next c.write_end.new.piece (inl c.in_default.ensures.value) made) c.write_end.ensures

pub returns-in_default-get : goal.returns-in_default-get
returns-in_default-get c =
    let procs = c.args.watch.now.procs in
    let none = ap (option_map plain_statements) c.in_default-get.ensures.value ∙ sym (slice_get-map plain_statements procs c.args.stream) in
    IfOk-weaker c.write_end-in_default-get.result _ _ (λ next made. end-piece (plain_watch c.args.watch.now) c.args.stream next c.write_end-in_default-get.new.piece (inr none) made)
    c.write_end-in_default-get.ensures

pub returns : goal.returns
returns c =
    let watch = c.args.watch.now in let process = c.in-Some-get.process.now in let head = c.in-Some.head.now in
    let at = ap (option_map plain_statements) c.in-Some-get.ensures.value ∙ sym (slice_get-map plain_statements watch.procs c.args.stream) in
    process-piece (plain_watch watch) c.args.stream c.after-stream.result head (plain_statements process) c.emit.new.self c.in-Some.ensures.value at
    (c.after-stream.ensures (let within = c.in-Some.ensures.within in let count = c.len.ensures in omega (arith, within, count)))
    (c.in_ok-emit.ensures.ok ∙ ap (λ (l : List ℕ). l ++ process_text head (plain_statements c.as_slice.result.now)) c.requires
    ∙ ap (λ (l : List WStmt). process_text head (plain_statements l)) c.as_slice.ensures)
