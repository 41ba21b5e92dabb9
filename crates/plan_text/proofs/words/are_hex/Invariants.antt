use Rattle.std.proofs.Common.{◌≡◌, length}
use Rattle.std.specs.List.{list_all}
use Rattle.tydi_base.specs.Pieces.{words_of}
use Rattle.plan_text.specs.Words.{is_hex}
use Rattle.plan_text.proofs.words.are_hex.Given as goal

-- the words of the rest decide
abbrev pub invariant-words : goal.invariant-words
invariant-words l = list_all is_hex (words_of l.rest) ≡ list_all is_hex (words_of l.fn.text)

abbrev pub decreases-words : goal.decreases-words
decreases-words l = length l.rest
