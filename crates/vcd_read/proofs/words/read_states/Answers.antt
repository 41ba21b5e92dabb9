use Rattle.std.proofs.Common.{◌∙◌, ◌++◌, List, ℕ, sym, ap}
use Rattle.vcd_read.proofs.WordLemmas.{keeps-digits}
use Rattle.vcd_read.proofs.words.read_states.Goals as goal

pub returns-then-are_bits : goal.returns-then-are_bits
returns-then-are_bits c =
    keeps-digits c.args.letters.now c.extend_from_slice.new.self (sym c.are_bits.ensures ∙ c.if-are_bits.true)
    (c.in_ok-extend_from_slice.ensures.ok ∙ ap (λ (l : List ℕ). l ++ c.args.letters.now) c.truncate.ensures)
