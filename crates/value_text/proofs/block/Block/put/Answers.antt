use Rattle.std.proofs.Common.{◌≡◌, ◌∙◌, ◌+◌, ◌-◌, ◌++◌, List, ℕ, length, take, drop, ap, sym, arith, decimal}
use Rattle.std.proofs.lemmas.Slice.{take-put_mid}
use borrow.Rule.Slice.PartMut.{put_mid}
use Rattle.value_text.proofs.BlockLemmas.{digits-put}
use Rattle.value_text.proofs.block.Block.put.Goals as goal

pub returns : goal.returns
returns c =
    let used = c.self.inside.used in
    let bytes = c.self.inside.bytes in
    let start = used + length c.args.between.now in
    let copied = c.copy_from_slice.ensures.after in
    let mid = put_mid used (start - used) bytes c.copy_from_slice.new.self in
    let put : take start mid ≡ take used bytes ++ c.args.between.now =
    take-put_mid used (start - used) bytes c.copy_from_slice.new.self start (omega (arith, ap length copied)) (omega (arith, c.self.invariant, c.self.ranges)) ∙ ap (λ (l : List ℕ). take used bytes ++ l) copied in
    let number = decimal c.args.number in
    let new = c.write_digits.new.buf in
    let begins : c.write_digits.result ≡ start = omega (arith, c.write_digits.ensures.start, c.decimal_length-digits.ensures.digits) in
    digits-put bytes mid new c.args.between.now number used start (start + c.decimal_length-digits.result) put
    (ap (λ (n : ℕ). take n new) (sym begins) ∙ c.write_digits.ensures.before ∙ ap (λ (n : ℕ). take n mid) begins)
    (ap (λ (n : ℕ). drop n new) (sym begins) ∙ c.write_digits.ensures.written) (omega (arith, c.decimal_length-digits.ensures.digits))
    ∙ ap (λ (l : List ℕ). l ++ (c.args.between.now ++ number)) c.self.view_is
