-- The words of defaults.
use Rattle.std.proofs.Common.{◌≡◌, ◌∙◌, ℕ, zero, suc, ◌-◌, ◌<◌, ◌^◌, true, ltb, List, Bool, Option, None, Some, refl, sym, ap, arith}
use Rattle.std.proofs.lemmas.Bool.Decides.{nat_tests}
use Rattle.tydi_base.specs.Bits.{bits_of}
use Rattle.tydi_base.specs.Numbers.{word_of_number}
use Rattle.tydi_base.specs.Width.{index_width}
use Rattle.tydi_base.proofs.WidthLaws.{index_width-enough, index_width-few}

fits : (width number : ℕ) → number < 2 ^ width → word_of_number width number ≡ Some (bits_of width number)
unfolding word_of_number
fits width number below = let test : ltb number (2 ^ width) ≡ true = grind (arith, nat_tests) in rw test refl

-- a word that was made of a number that its bits are enough for
pub word-made : (width number : ℕ) (found : Option (List Bool)) (word : List Bool) → number < 2 ^ width → found ≡ word_of_number width number → found ≡ Some word → word ≡ bits_of width number
word-made width number found word below is some = let one : Some word ≡ Some (bits_of width number) = sym some ∙ is ∙ fits width number below in cc

-- and one was made
pub word-there : (width number : ℕ) (found : Option (List Bool)) → number < 2 ^ width → found ≡ word_of_number width number → found ≡ None → ⊥
word-there width number found below is none = let clash : None ≡ Some (bits_of width number) = sym none ∙ is ∙ fits width number below in cc

-- the number of the last lane can be written
pub last-fits : (lanes : ℕ) → lanes - 1 < 2 ^ index_width lanes
last-fits zero = let none : 0 ≡ index_width 0 = index_width-few 0 (omega arith) in let one : 2 ^ 0 ≡ 2 ^ index_width 0 = ap (λ n. 2 ^ n) none in omega (arith, one)
last-fits (suc n) = let enough = index_width-enough (suc n) in omega (arith, enough)
