-- Words of few digits.
use Rattle.std.proofs.Common.{◌≡◌, ◌∙◌, ℕ, ◌^◌, ◌<◌, ◌≤◌, true, false, nat_lt, List, length, is_some, ap, arith}
use Rattle.std.specs.Char.{is_ascii_digit}
use Rattle.std.specs.List.{list_all}
use Rattle.std.proofs.lemmas.Bool.Decides.{nat_tests}
use Rattle.std.proofs.lemmas.Str.Parse.{digits_value_short}
use Rattle.tydi_base.specs.Decimal.{below, read_on}
use Rattle.tydi_base.proofs.DecimalLaws.{own, padded-is}
use Rattle.tydi_base.proofs.NumberLemmas.{below-fits}
use Rattle.value_text.specs.Words.{number_of}

-- at most 38 digits are a number below 2 ^ 128
pub short-number : (text : List ℕ) → 0 < length text → length text ≤ 38 → list_all is_ascii_digit text ≡ true → is_some (number_of text) ≡ true
short-number text some few each =
    let short : nat_lt 39 (length text) ≡ false = grind (arith, nat_tests, few) in
    let small : read_on 0 text < 10 ^ 38 = digits_value_short own text 38 each few in
    let fits : read_on 0 text < 2 ^ 128 = omega (arith, small) in
    rw short (ap is_some (ap (below (2 ^ 128)) (padded-is text some each) ∙ below-fits (2 ^ 128) (read_on 0 text) fits))
