use Rattle.tydi_base.proofs.HexLemmas.{word_at-hex_of, hex_of-word_at}
use Rattle.tydi_base.proofs.hex.hexadecimal_is_read_as_spelled.Goals as goal

pub returns : goal.returns
returns c = record { spelled = word_at-hex_of; read = hex_of-word_at }
