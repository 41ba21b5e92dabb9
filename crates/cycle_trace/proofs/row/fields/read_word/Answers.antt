use Rattle.std.proofs.Common.{◌≡◌, ℕ, true, Some, None, subst}
use Rattle.std.proofs.lemmas.Bool.{not-false}
use Rattle.tydi_base.specs.Hex.{word_at}
use Rattle.cycle_trace.proofs.WordFieldLemmas.{word_field-none, word_field-read, word_field-unread}
use Rattle.cycle_trace.proofs.row.fields.read_word.Goals as goal

pub returns-in_default-clause-read : goal.returns-in_default-clause-read
returns-in_default-clause-read c =
    let there : c.args.signal.present ≡ true = not-false c.args.signal.present c.if-not-signal.false in
    rw there (word_field-none _ _ _ (rw c.requires.many at c.in_default.ensures))

pub returns-then-read_sized_hex-clause-read : goal.returns-then-read_sized_hex-clause-read
returns-then-read_sized_hex-clause-read c =
    let read = subst (λ (width : ℕ). word_at width c.in-Some.digits.now ≡ Some c.read_sized_hex.new.self) c.requires.wide (c.read_sized_hex.ensures.read c.if-read_sized_hex.true) in
    let there : c.args.signal.present ≡ true = not-false c.args.signal.present c.if-not-signal.false in
    rw there (word_field-read _ _ _ _ _ (rw c.requires.many at c.in-Some.ensures) _ read)

pub returns-else-read_sized_hex-clause-read : goal.returns-else-read_sized_hex-clause-read
returns-else-read_sized_hex-clause-read c =
    let none = subst (λ (width : ℕ). word_at width c.in-Some.digits.now ≡ None) c.requires.wide (c.read_sized_hex.ensures.none c.if-read_sized_hex.false) in
    let there : c.args.signal.present ≡ true = not-false c.args.signal.present c.if-not-signal.false in
    rw there (word_field-unread _ _ _ _ _ (rw c.requires.many at c.in-Some.ensures) none)
