use Rattle.std.proofs.Common.{◌++◌, ap, ◌∙◌, refl, rules, codes, append_assoc}
use Rattle.std.proofs.lemmas.Result.{on_ok_weaker}
use Rattle.til_parser.specs.{Canonical.stream_text, Canonical.settings_text, Canonical.type_text, Grammar.truth_word, Tree.plain, Tree.settings_of}
use Rattle.til_parser.proofs.PlainLemmas.{plain-Group, plain-Stream, plain-Union}
use Rattle.til_parser.proofs.texts.WrittenLemmas.{front_before, listed, stream-written}
use Rattle.til_parser.proofs.printing.+ltype.Goals as goal

pub write_type-returns-in-Group-clause-ok : goal.write_type-returns-in-Group-clause-ok
write_type-returns-in-Group-clause-ok t c =
    on_ok_weaker c.write_parts.result (λ ok. rw (c.in-Group.is, plain-Group, ← listed, ← c.as_slice.ensures) ok) c.write_parts.ensures.ok

pub write_type-returns-in-Union-clause-ok : goal.write_type-returns-in-Union-clause-ok
write_type-returns-in-Union-clause-ok t c = on_ok_weaker c.write_parts-in-Union.result
    (λ ok. rw (c.in-Union.is, plain-Union, ← listed, ← c.as_slice-in-Union.ensures) ok) c.write_parts-in-Union.ensures.ok

pub write_type-returns-in-Stream-clause-ok : goal.write_type-returns-in-Stream-clause-ok
write_type-returns-in-Stream-clause-ok t c = on_ok_weaker c.write_stream.result
    (λ ok. rw (c.in-Stream.is, plain-Stream) (ok ∙ ap (λ stream. c.args.out.now ++ stream_text stream) c.get.ensures)) c.write_stream.ensures.ok

pub write_parts-returns-in_err-write_part-2-clause-err : goal.write_parts-returns-in_err-write_part-2-clause-err
write_parts-returns-in_err-write_part-2-clause-err t c = search (
  rules,
  front_before c.args.out.now c.args.word.now _ _ refl
      (front_before _ _ _ _ c.in_ok-write_part.ensures.ok (front_before _ _ _ _ c.parts.invariant c.in_err-write_part-2.ensures.err)),
)

pub write_stream-returns-clause-ok : goal.write_stream-returns-clause-ok
write_stream-returns-clause-ok t c = on_ok_weaker c.emit-3.result
    (λ ok. stream-written c.args.out.now (codes "Stream(data: ") (type_text (plain c.args.stream.now.element)) (type_text (plain c.args.stream.now.user)) (codes ", keep: ")
    (truth_word c.args.stream.now.keep) (codes ")") c.emit.new.self c.write_type.new.out c.emit-2.new.self c.write_type-2.new.out c.emit-3.new.self
    (settings_text (settings_of c.args.stream.now)) (λ l. simp append_assoc) c.in_ok-emit.ensures.ok c.in_ok-write_type.ensures.ok c.in_ok-emit-2.ensures.ok
    c.in_ok-write_type-2.ensures.ok (rw c.truth_word.ensures at ok))
    c.emit-3.ensures.ok
