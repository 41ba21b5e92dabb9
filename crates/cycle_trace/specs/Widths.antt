-- The widths of the words of a transfer (this project's own).
use Rattle.std.specs.Prelude.{◌≡◌, ◌*◌, length}
use Rattle.physical_stream.specs.Params.{Parameters}
use Rattle.physical_stream.specs.declared.transfer.Transfer.{Transfer}

-- the words of bits are as wide as the stream says
pub record HasWidths (p : Parameters) (t : Transfer) : Type 0 where
  pub content : length t.content ≡ p.lanes * p.element
  pub last : length t.last ≡ p.lanes * p.dims
  pub user : length t.user ≡ p.user
