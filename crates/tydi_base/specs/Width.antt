-- The width of a number that tells things apart (Tydi specification, signals: lane indices and union tags).
use Rattle.std.specs.Prelude.{ℕ, zero, suc, ◌^◌, ◌≤◌, nat_le, if◌then◌else◌}

-- the least k from low on with n ≤ 2 ^ k, looked for up to so many times
abbrev pub least_power : ℕ → ℕ → ℕ → ℕ
least_power n low zero = low
least_power n low (suc more) = if nat_le n (2 ^ low) then low else least_power n (suc low) more

-- the bits that number n things: the least k with n ≤ 2 ^ k
abbrev pub index_width : ℕ → ℕ
index_width n = least_power n 0 n

-- so many bits number n things, and no fewer do
pub record IsIndexWidth (n width : ℕ) : Type 0 where
  pub enough : n ≤ 2 ^ width
  pub least : (other : ℕ) → n ≤ 2 ^ other → width ≤ other
