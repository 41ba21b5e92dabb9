use Rattle.std.proofs.Common.{◌≡◌, length}
use Rattle.std.specs.List.{list_all}
use Rattle.tydi_base.specs.Decimal.{is_decimal}
use Rattle.tydi_base.specs.Pieces.{words_of}
use Rattle.net_text.proofs.ordering.are_decimals.Given as goal

-- the words of the rest decide
abbrev pub invariant-words : goal.invariant-words
invariant-words l = list_all is_decimal (words_of l.rest) ≡ list_all is_decimal (words_of l.fn.text)

abbrev pub decreases-words : goal.decreases-words
decreases-words l = length l.rest
