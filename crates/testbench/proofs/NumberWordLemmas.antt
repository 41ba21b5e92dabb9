-- The word of a number.
use Rattle.std.proofs.Common.{◌≡◌, ◌∙◌, ℕ, ◌<◌, ◌^◌, Bool, true, ltb, List, Option, None, Some, refl, sym, arith}
use Rattle.std.proofs.lemmas.Bool.Decides.{nat_tests}
use Rattle.tydi_base.specs.Bits.{bits_of}
use Rattle.tydi_base.specs.Numbers.{word_of_number}

word_of_number-fits : (width number : ℕ) → number < 2 ^ width → word_of_number width number ≡ Some (bits_of width number)
unfolding word_of_number
word_of_number-fits width number below = let test : ltb number (2 ^ width) ≡ true = grind (arith, nat_tests) in rw test refl

-- a word that was made of a number that its bits are enough for
pub number-made : (width number : ℕ) (found : Option (List Bool)) (word : List Bool) → number < 2 ^ width → found ≡ word_of_number width number → found ≡ Some word → word ≡ bits_of width number
number-made width number found word below is some = let one : Some word ≡ Some (bits_of width number) = sym some ∙ is ∙ word_of_number-fits width number below in cc

-- and one was made
pub number-there : (width number : ℕ) (found : Option (List Bool)) → number < 2 ^ width → found ≡ word_of_number width number → found ≡ None → ⊥
number-there width number found below is none = let clash : None ≡ Some (bits_of width number) = sym none ∙ is ∙ word_of_number-fits width number below in cc
