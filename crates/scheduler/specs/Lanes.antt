-- A transfer by what its lanes carry (this project's own, after the Tydi specification's signals).
use Rattle.std.specs.Prelude.{ℕ, zero, suc, ◌-◌, ◌^◌, Bool, false, ◌||◌, ◌==◌, nat_le, if◌then◌else◌, List, [], ◌∷◌, Option, Some, None, is_some, bit_or}
use Rattle.tydi_base.specs.Bits.{zero_bits}
use Rattle.tydi_base.specs.Level.{number_of}
use Rattle.physical_stream.specs.Params.{Parameters}
use Rattle.physical_stream.specs.Items.{parts_below}
use Rattle.physical_stream.specs.declared.transfer.Transfer.{Transfer}

-- the content of a lane: its element, where it is active, and the dimensions that it closes, ascending
pub record Lane : Type 0 where
  pub word : Option (List Bool)
  pub closes : List ℕ

abbrev pub no_lane : Lane
no_lane = record { word = None; closes = [] }

abbrev pub word_or : ℕ → Option (List Bool) → List Bool
word_or width None = zero_bits width
word_or width (Some word) = word

abbrev pub is_among : ℕ → List ℕ → Bool
is_among n [] = false
is_among n (m ∷ ms) = (n == m) || is_among n ms

-- the lowest lane below n that is active, or else the other
abbrev pub lowest_active : (ℕ → Lane) → ℕ → ℕ → ℕ
lowest_active lanes zero other = other
lowest_active lanes (suc n) other = lowest_active lanes n (if is_some (lanes n).word then n else other)

-- the greatest lane below n that is active, or else the other
abbrev pub highest_active : (ℕ → Lane) → ℕ → ℕ → ℕ
highest_active lanes zero other = other
highest_active lanes (suc n) other = if is_some (lanes n).word then n else highest_active lanes n other

-- some lane below n is active
abbrev pub some_active : (ℕ → Lane) → ℕ → Bool
some_active lanes zero = false
some_active lanes (suc n) = some_active lanes n || is_some (lanes n).word

-- one bit for each lane below n that is active
abbrev pub active_bits : (ℕ → Lane) → ℕ → ℕ
active_bits lanes zero = 0
active_bits lanes (suc n) = bit_or (active_bits lanes n) (if is_some (lanes n).word then 2 ^ n else 0)

abbrev pub strobe_of : Parameters → (ℕ → Lane) → ℕ
strobe_of p lanes = if nat_le 7 (number_of p.level) then active_bits lanes p.lanes else (if some_active lanes p.lanes then 2 ^ p.lanes - 1 else 0)

-- the transfer whose lanes carry this
abbrev pub transfer_of : Parameters → (ℕ → Lane) → List Bool → Transfer
transfer_of p lanes user = record {
  content = parts_below (λ lane. word_or p.element (lanes lane).word) p.lanes;
  last = parts_below (λ lane. parts_below (λ dim. is_among dim (lanes lane).closes ∷ []) p.dims) p.lanes;
  stai = lowest_active lanes p.lanes 0;
  endi = highest_active lanes p.lanes (p.lanes - 1);
  strb = strobe_of p lanes;
  user = user;
}
