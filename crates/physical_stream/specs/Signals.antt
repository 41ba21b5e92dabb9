-- Which payload signals a physical stream has, how wide they are, and what an absent one stands at (Tydi specification,
-- signals; presence and defaults are this project's own).
use Rattle.std.specs.Prelude.{◌≡◌, ◌-◌, ◌*◌, ◌^◌, ◌<◌, Bool, false, ◌&&◌, ◌||◌, nat_lt, nat_le, length}
use Rattle.tydi_base.specs.Bits.{zero_bits}
use Rattle.tydi_base.specs.Level.{number_of}
use Rattle.tydi_base.specs.Width.{index_width}
use Rattle.physical_stream.specs.Params.{Parameters}
use Rattle.physical_stream.specs.declared.transfer.Transfer.{Transfer}

-- data is there where elements have bits
abbrev pub has_content : Parameters → Bool
has_content p = nat_lt 0 p.element

-- last bits are there where there is a dimension
abbrev pub has_last : Parameters → Bool
has_last p = nat_lt 0 p.dims

abbrev pub has_stai : Parameters → Bool
has_stai p = nat_le 6 (number_of p.level) && nat_lt 1 p.lanes

abbrev pub has_endi : Parameters → Bool
has_endi p = (nat_le 5 (number_of p.level) || nat_lt 0 p.dims) && nat_lt 1 p.lanes

abbrev pub has_strb : Parameters → Bool
has_strb p = nat_le 7 (number_of p.level) || nat_lt 0 p.dims

abbrev pub has_user : Parameters → Bool
has_user p = nat_lt 0 p.user

-- the transfer that is zero in every signal but endi, which is the last lane
abbrev pub zero_transfer : Parameters → Transfer
zero_transfer p = record {
  content = zero_bits (p.lanes * p.element);
  last = zero_bits (p.lanes * p.dims);
  stai = 0;
  endi = p.lanes - 1;
  strb = 0;
  user = zero_bits p.user;
}

-- every signal has the width that the stream gives it, whether it is present or not
pub record Fits (p : Parameters) (t : Transfer) : Type 0 where
  pub content : length t.content ≡ p.lanes * p.element
  pub last : length t.last ≡ p.lanes * p.dims
  pub stai : t.stai < 2 ^ index_width p.lanes
  pub endi : t.endi < 2 ^ index_width p.lanes
  pub strb : t.strb < 2 ^ p.lanes
  pub user : length t.user ≡ p.user

-- a signal that the stream lacks stands at its default; an absent data, last or user word has no bits
pub record StandsAtDefaults (p : Parameters) (t : Transfer) : Type 0 where
  pub stai : has_stai p ≡ false → t.stai ≡ 0
  pub endi : has_endi p ≡ false → t.endi ≡ p.lanes - 1
  pub strb : has_strb p ≡ false → t.strb ≡ 2 ^ p.lanes - 1

-- a transfer that the stream can show
pub record Shows (p : Parameters) (t : Transfer) : Type 0 where
  pub fits : Fits p t
  pub defaults : StandsAtDefaults p t
