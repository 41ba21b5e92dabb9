use Rattle.std.proofs.Common.{◌∙◌, ℕ, ◌+◌, ap, sym, refl, arith}
use Rattle.logical_value.proofs.PackingLemmas.{Puts-word, Puts-no_room}
use Rattle.logical_value.proofs.packing.Packing.put_bits.Goals as goal

pub put_word-requires : goal.put_word-requires
put_word-requires c = omega (arith, c.in-Some.ensures.within refl, c.len.ensures, c.len-2.ensures)

pub returns-in-Some : goal.returns-in-Some
returns-in-Some c =
    Puts-word c.args.self.now (record { alloc = c.args.self.now.alloc; bits = c.put_word.new.self; offset = c.in-Some.end }) c.args.word.now c.put_word.ensures
    (c.in-Some.ensures.end ∙ ap (λ (n : ℕ). c.args.self.now.offset + n) c.len.ensures)

pub returns-in_default : goal.returns-in_default
returns-in_default c = Puts-no_room c.args.self.now c.args.self.now c.args.word.now c.len.result c.end_of.result (sym c.len.ensures) c.in_default.is
    (λ within. c.end_of.ensures.some (omega (arith, within, c.len-2.ensures)))
