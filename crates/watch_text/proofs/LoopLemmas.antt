-- Loops that write a text, or count its bytes, part after part: what stands there, with what is left, is the whole.
use Rattle.std.proofs.Common.{◌≡◌, ◌∙◌, ℕ, ◌+◌, ◌≤◌, List, [], ◌++◌, append_assoc, append-nil, length, length-append, min, sym, ap, subst, arith}
use Rattle.tydi_base.specs.Lengths.{most_bytes}
use Rattle.tydi_base.specs.Writing.{StandsInFront}
use Rattle.tydi_base.proofs.WritingLemmas.{front_stays}

-- ---- written

-- behind the old text a whole one is begun, of which this is left
pub record IsBegun (old out rest whole : List ℕ) : Type 0 where
  pub front : StandsInFront old out
  pub all : out ++ rest ≡ old ++ whole

pub begun-more : (old out new part rest left whole : List ℕ) → IsBegun old out rest whole → new ≡ out ++ part → rest ≡ part ++ left → IsBegun old new left whole
begun-more old out new part rest left whole begun written is = record {
  front = subst (λ (l : List ℕ). StandsInFront old l) (sym written) (front_stays old out part begun.front);
  all = ap (λ (l : List ℕ). l ++ left) written ∙ append_assoc out part left ∙ ap (λ (l : List ℕ). out ++ l) (sym is) ∙ begun.all;
}

pub begun-end : (old out rest whole : List ℕ) → IsBegun old out rest whole → rest ≡ [] → out ≡ old ++ whole
begun-end old out rest whole begun over = sym (append-nil out) ∙ ap (λ (l : List ℕ). out ++ l) (sym over) ∙ begun.all

-- ---- counted

-- so many bytes, with those of the rest, are those of the whole, as far as a length goes
pub record IsCounted (count : ℕ) (rest whole : List ℕ) : Type 0 where
  pub few : count ≤ most_bytes
  pub all : min (count + length rest) most_bytes ≡ min (length whole) most_bytes

pub counted-more : (count new bytes : ℕ) (part rest left whole : List ℕ) → IsCounted count rest whole → bytes ≡ min (length part) most_bytes → new ≡ min (count + bytes) most_bytes → rest ≡ part ++ left
    → IsCounted new left whole
counted-more count new bytes part rest left whole counted of_part sum is =
    let joined : length rest ≡ length part + length left = ap length is ∙ length-append part left in
    let all = counted.all in
    record { few = omega (arith, sum); all = omega (arith, sum, of_part, joined, all) }

pub counted-end : (count : ℕ) (rest whole : List ℕ) → IsCounted count rest whole → rest ≡ [] → count ≡ min (length whole) most_bytes
counted-end count rest whole counted over = let few = counted.few in let all = counted.all in let none : length rest ≡ 0 = ap length over in omega (arith, few, all, none)
