-- Words and numbers as wide as a stream has them.
use Rattle.std.proofs.Common.{List, length, ◌≡◌, ◌∙◌, ◌+◌, ◌-◌, ◌*◌, ◌/◌, ◌%◌, ◌^◌, ◌==◌, Decides, ◌<◌, ◌≤◌, ℕ, Bool, false, ap, arith}
use Rattle.std.proofs.Math.Nat.{lt-div-mul-add, div-eq_of_lt, mod-eq_of_lt, zero-mul}
use Rattle.std.proofs.Math.Pow.{pow_mono}
use Rattle.std.proofs.lemmas.Bool.Decides.{Decides-eqb, Decides-like}
use Rattle.std.proofs.lemmas.Nat.{pow_pos}
use Rattle.std.proofs.lemmas.List.{length-replicate}
use Rattle.tydi_base.specs.Bits.{zero_bits}
use Rattle.tydi_base.specs.Width.{index_width}
use Rattle.tydi_base.proofs.WidthLaws.{index_width-enough, index_width-least}
use Rattle.physical_stream.specs.Params.{Parameters}
use Rattle.physical_stream.specs.Signals.{Fits}

-- so many lanes as a number of sixteen bits can say are numbered by sixteen bits
pub narrow_width : (lanes width : ℕ) → lanes < 2 ^ 16 → width ≡ index_width lanes → width ≤ 16
narrow_width lanes width few is = let least : index_width lanes ≤ 16 = (index_width-least lanes).least 16 (omega arith) in omega (arith, is)

-- a one is shifted that far in a number of 32 bits
pub shifted_one : (width : ℕ) → width ≤ 16 → (1 * 2 ^ width % 2 ^ 32 ≡ 2 ^ width) × (2 ^ width ≤ 2 ^ 16)
shifted_one width narrow =
    let most : 2 ^ width ≤ 2 ^ 16 = pow_mono {j = 16} narrow in
    let below : 1 * 2 ^ width < 2 ^ 32 = omega arith in
    let same : 1 * 2 ^ width % 2 ^ 32 ≡ 1 * 2 ^ width = mod-eq_of_lt below in
    (omega (arith, same), most)

quotient_zero : (n bound : ℕ) → 0 < bound → n / bound ≡ 0 → n < bound
quotient_zero n bound some e =
    let whole : n < n / bound * bound + bound = lt-div-mul-add some
    in let none : n / bound * bound ≡ 0 = ap (λ (k : ℕ). k * bound) e ∙ zero-mul bound
    in omega arith

-- no bit stands at or above the lanes exactly where a shift by them leaves nothing
pub strobe_decides : (strb lanes : ℕ) → Decides (strb / 2 ^ lanes == 0) (strb < 2 ^ lanes)
strobe_decides strb lanes =
    Decides-like _ (λ e. quotient_zero strb (2 ^ lanes) (pow_pos lanes) e) (λ below. div-eq_of_lt below) (Decides-eqb (strb / 2 ^ lanes) 0)

-- words of zeros as wide as the stream has them, and the last lane, fit the stream
pub zeros_fit : (p : Parameters) (content last user : List Bool) (endi : ℕ) → 1 ≤ p.lanes → endi ≡ p.lanes - 1 →
    content ≡ zero_bits (p.lanes * p.element) → last ≡ zero_bits (p.lanes * p.dims) → user ≡ zero_bits p.user →
    Fits p (record { content = content; last = last; stai = 0; endi = endi; strb = 0; user = user })
zeros_fit p content last user endi some endi_is content_is last_is user_is = record {
  content = ap length content_is ∙ length-replicate _ false;
  last = ap length last_is ∙ length-replicate _ false;
  stai = pow_pos _;
  endi = omega (arith, index_width-enough p.lanes);
  strb = pow_pos _;
  user = ap length user_is ∙ length-replicate _ false;
}
