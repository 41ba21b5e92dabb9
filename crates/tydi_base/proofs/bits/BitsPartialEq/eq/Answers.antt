use Rattle.std.proofs.Common.{◌≡◌, ◌<◌, ℕ, Decides, eqb, get_or, rules}
use Rattle.tydi_base.proofs.BitsLemmas.{same_word, other_width, compared}
use Rattle.tydi_base.proofs.bits.BitsPartialEq.eq.Goals as goal
use Rattle.tydi_base.proofs.bits.BitsPartialEq.eq.Goals.{After-are_same, Else-self-other}

same_width : (c : After-are_same) → Decides c.are_same.result (c.args.self.now ≡ c.args.other.now)
same_width c =
    let fit : (k : ℕ) → get_or c.as_slice-bytes.result.now k 0 < 256 = search rules
    in let others_fit : (k : ℕ) → get_or c.as_slice-others.result.now k 0 < 256 = search rules
    in same_word c.self.inside.len c.other.inside.len _ _ _ _ _ _ c.self.view_is c.other.view_is c.self.invariant
    c.other.invariant c.as_slice-bytes.ensures c.as_slice-others.ensures fit others_fit c.if-self-other.true c.are_same.ensures

two_widths : (c : Else-self-other)
    → Decides (eqb c.self.inside.len c.other.inside.len) (c.args.self.now ≡ c.args.other.now)
two_widths c =
    other_width c.self.inside.len c.other.inside.len _ _ _ _ c.self.view_is c.other.view_is c.self.invariant
    c.other.invariant c.if-self-other.false

pub returns-then-self-other : goal.returns-then-self-other
returns-then-self-other c = record { eq = compared _ _ (same_width c); same = same_width c }

pub returns-else-self-other : goal.returns-else-self-other
returns-else-self-other c = record { eq = compared _ _ (two_widths c); same = two_widths c }
