-- The text of a level as a word, and its length.
use Rattle.std.proofs.Common.{◌≡◌, ℕ, ◌+◌, ◌≤◌, Bool, true, false, ◌==◌, List, [], ◌∷◌, ◌++◌, length, length-append, refl, arith}
use Rattle.std.specs.Prelude.{codes}
use Rattle.std.specs.Fmt.{decimal}
use Rattle.std.specs.List.{list_all}
use Rattle.std.proofs.lemmas.Fmt.{length-decimal-le}
use Rattle.std.proofs.lemmas.List.Elements.{All-cons, All-head, All-nil, All-tail}
use Rattle.std.specs.Prelude.{All}
use Rattle.tydi_base.specs.Level.{LevelNumbers, IsLevel, later_text, level_text}
use Rattle.tydi_base.proofs.PlainWords.{is_plain, decimal-plain, plain-append}

later-plain : (numbers : List ℕ) → All (λ n. n ≤ 255) numbers → is_plain (later_text numbers) ≡ true
unfolding later_text
later-plain [] small = refl
later-plain (n ∷ numbers) small = by_test (list_all (λ m. m == 0) (n ∷ numbers)) refl (later-plain numbers (All-tail (λ m. m ≤ 255) n numbers small))
  where
    by_test : (test : Bool) → list_all (λ m. m == 0) (n ∷ numbers) ≡ test → is_plain (later_text numbers) ≡ true → is_plain (later_text (n ∷ numbers)) ≡ true
    by_test true is rest = rw is refl
    by_test false is rest =
        let first : n ≤ 255 = All-head (λ m. m ≤ 255) n numbers small in
        rw is (plain-append (decimal n) (later_text numbers) (decimal-plain n (omega arith)) rest)

pub level_text-plain : (level : LevelNumbers) → IsLevel level → is_plain (level_text level) ≡ true
unfolding level_text
level_text-plain level is =
    let first = is.first in
    let small : All (λ n. n ≤ 255) (level.second ∷ level.third ∷ level.fourth ∷ []) =
    All-cons (λ n. n ≤ 255) level.second (level.third ∷ level.fourth ∷ []) is.second
    (All-cons (λ n. n ≤ 255) level.third (level.fourth ∷ []) is.third (All-cons (λ n. n ≤ 255) level.fourth [] is.fourth (All-nil (λ n. n ≤ 255)))) in
    plain-append (decimal level.first) (later_text (level.second ∷ level.third ∷ level.fourth ∷ [])) (decimal-plain level.first (omega arith)) (later-plain (level.second ∷ level.third ∷ level.fourth ∷ []) small)

pub length-byte : (n : ℕ) → n ≤ 255 → length (decimal n) ≤ 3
length-byte n small = length-decimal-le 3 n (omega arith) (omega arith) (omega arith)

module _ (level : LevelNumbers) where
  pub length-four : length (decimal level.first ++ (codes "." ++ (decimal level.second ++ (codes "." ++ (decimal level.third ++ (codes "." ++ decimal level.fourth))))))
      ≡ length (decimal level.first) + length (decimal level.second) + length (decimal level.third) + length (decimal level.fourth) + 3
  length-four = simp length-append (omega arith)

  pub length-three : length (decimal level.first ++ (codes "." ++ (decimal level.second ++ (codes "." ++ decimal level.third))))
      ≡ length (decimal level.first) + length (decimal level.second) + length (decimal level.third) + 2
  length-three = simp length-append (omega arith)

  pub length-two : length (decimal level.first ++ (codes "." ++ decimal level.second)) ≡ length (decimal level.first) + length (decimal level.second) + 1
  length-two = simp length-append (omega arith)
