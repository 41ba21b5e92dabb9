-- Blocks of words.
use Rattle.std.proofs.Common.{◌≡◌, ◌∙◌, ℕ, ◌+◌, List, ◌++◌, length, take, drop, sym, ap, append_assoc}
use Rattle.std.proofs.Math.Seq.{take-add, take-append_seam}

-- digits behind a text that was put
pub digits-put : (old mid new between digits : List ℕ) (used start end : ℕ) → take start mid ≡ take used old ++ between → take start new ≡ take start mid
    → drop start new ≡ digits ++ drop end mid → start + length digits ≡ end → take end new ≡ take used old ++ (between ++ digits)
digits-put old mid new between digits used start end put kept written long =
    ap (λ (n : ℕ). take n new) (sym long) ∙ take-add start (length digits) new
    ∙ ap (λ (l : List ℕ). l ++ take (length digits) (drop start new)) (kept ∙ put)
    ∙ ap (λ (l : List ℕ). (take used old ++ between) ++ l) (ap (take (length digits)) written ∙ take-append_seam digits (drop end mid))
    ∙ append_assoc (take used old) between digits
