use Rattle.std.proofs.Common.{sym, ◌∙◌, refl}
use Rattle.cycle_trace.proofs.RowFormLemmas.{SameFrom-next, goes-Signal_found, goes-Signal_none}
use Rattle.cycle_trace.proofs.row.form.after_signal.Goals as goal

pub keys-init : goal.keys-init
keys-init c = λ word words. refl

pub returns-then-key_at-byte : goal.returns-then-key_at-byte
returns-then-key_at-byte c = goes-Signal_found c.args.next c.keys.key c.args.byte c.keys.invariant c.kind_of.result c.keys-test.true (sym c.key_at.ensures ∙ c.if-key_at-byte.true) c.kind_of.ensures

pub keys-preserved : goal.keys-preserved
keys-preserved c = SameFrom-next c.args.next c.keys.key c.args.byte c.keys.invariant c.keys-test.true (λ same. c.if-key_at-byte.false (c.key_at.ensures ∙ same))

pub returns : goal.returns
returns c = goes-Signal_none c.args.next c.keys.key c.args.byte c.keys.invariant c.keys-test.false
