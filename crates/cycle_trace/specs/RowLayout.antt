-- The facts about a stream that the reader of its rows uses (this project's own).
use Rattle.std.specs.Prelude.{◌≡◌, ℕ, ◌-◌, ◌+◌, ◌*◌, ◌/◌, ◌^◌, ◌≤◌, max, Bool, ◌||◌, List, [], ◌∷◌, is_some}
use Rattle.tydi_base.specs.Width.{index_width}
use Rattle.physical_stream.specs.Params.{Parameters}
use Rattle.physical_stream.specs.Signals.{has_content, has_last, has_stai, has_endi, has_strb, has_user}
use Rattle.physical_stream.specs.declared.head.Head.{Head}
use Rattle.signal_layout.specs.declared.layout.Signals.{Signals}
use Rattle.cycle_trace.specs.RowText.{has_payload}
use Rattle.cycle_trace.specs.declared.row.layout.WordSignal.{WordSignal}

-- some signal besides valid and ready has a width
abbrev pub has_payload_in : Signals → Bool
has_payload_in signals = is_some signals.content || is_some signals.last || is_some signals.stai || is_some signals.endi || is_some signals.strb || is_some signals.user

-- the word signal is there as said, and so wide; and so many digits spell it
pub record IsWord (signal : WordSignal) (present : Bool) (width : ℕ) : Type 0 where
  pub there : signal.present ≡ present
  pub wide : signal.width ≡ width
  pub many : signal.digits ≡ (signal.width + 3) / 4

-- these are what the signals of this stream are
pub record LaysOut (p : Parameters) (content last strb user : WordSignal) (stai endi payload : Bool) (index_limit last_lane all_lanes : ℕ) : Type 0 where
  pub content_word : IsWord content (has_content p) (p.lanes * p.element)
  pub last_word : IsWord last (has_last p) (p.lanes * p.dims)
  pub strb_word : IsWord strb (has_strb p) p.lanes
  pub user_word : IsWord user (has_user p) p.user
  pub stai_there : stai ≡ has_stai p
  pub endi_there : endi ≡ has_endi p
  pub payload_there : payload ≡ has_payload p
  pub limit : index_limit ≡ 2 ^ index_width p.lanes
  pub small : index_limit ≤ 2 ^ 16
  pub lane : last_lane ≡ p.lanes - 1
  pub ones : all_lanes ≡ 2 ^ p.lanes - 1
  pub narrow : p.lanes ≤ 128

-- no row of this stream has more bytes: its bits and a dash, or six signals, each with a space, a key and `=` before it; the
-- numbers of lanes have three digits at most
abbrev pub row_room : Parameters → ℕ
row_room p = 29 + (p.lanes * p.element + 3) / 4 + (p.lanes * p.dims + 3) / 4 + (p.lanes + 3) / 4 + (p.user + 3) / 4

-- as many bytes as the longest of the rows of these streams may have
abbrev pub rows_room : List Head → ℕ
rows_room [] = 0
rows_room (head ∷ heads) = max (row_room head.params) (rows_room heads)
