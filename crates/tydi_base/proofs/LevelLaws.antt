-- The text of a level: each spelling is read, and each text that is read is a spelling.
use Rattle.std.proofs.Common.{◌≡◌, ℕ, ◌^◌, ◌<◌, ◌≤◌, Bool, true, false, ◌&&◌, ◌==◌, cond, nat_le, List, [], ◌∷◌, ◌++◌, length, append-nil, Option, Some, None, refl, sym, ap, ◌∙◌, arith}
use Rattle.std.specs.Prelude.{codes, option_map, IsSome, IfSome, ◌↔◌}
use Rattle.std.specs.Fmt.{decimal}
use Rattle.std.specs.List.{list_all, join_with_byte}
use Rattle.std.proofs.lemmas.Bool.Decides.{nat_tests}
use Rattle.std.proofs.lemmas.Option.{option_and_then_some}
use Rattle.std.proofs.lemmas.List.Splits.{length-slice_split}
use Rattle.tydi_base.specs.Decimal.{below, decimal_of}
use Rattle.tydi_base.specs.Pieces.{pieces_of}
use Rattle.tydi_base.specs.Level.{LevelNumbers, IsFirst, IsLevel, LevelsAreReadAsSpelled, LevelsAreSpelledAsRead, later_text, level_of, level_of_pieces, level_text, made_of, next_number, piece_number, pieces_left}
use Rattle.tydi_base.proofs.DecimalLaws.{decimal_of-decimal, decimal_of-some}
use Rattle.tydi_base.proofs.PieceLaws.{join-pieces_of, pieces_of-append, pieces_of-lacks}
use Rattle.tydi_base.proofs.PlainWords.{and_parts, both, decimal-lacks_point}

abbrev are_zeros : List ℕ → Bool
are_zeros numbers = list_all (λ m. m == 0) numbers

-- ---- one number

number-spelled : (last : Bool) (n : ℕ) → n ≤ 255 → (last && n == 0) ≡ false → piece_number last (decimal n) ≡ Some n
unfolding piece_number
number-spelled last n small not_zero =
    let read : below 256 (decimal_of (decimal n)) ≡ Some n = rw (decimal_of-decimal n (omega arith)) (grind (arith, nat_tests)) in
    rw (read, not_zero) refl

-- the number that a piece spells
record IsNumber (last : Bool) (piece : List ℕ) (n : ℕ) : Type 0 where
  spelled : piece ≡ decimal n
  small : n ≤ 255
  some : (last && n == 0) ≡ false

below-is : (o : Option ℕ) (n : ℕ) → below 256 o ≡ Some n → (o ≡ Some n) × (n ≤ 255)
below-is None n e = absurd cc
below-is (Some m) n e = (grind (arith, nat_tests), grind (arith, nat_tests))

number-read : (last : Bool) (piece : List ℕ) (n : ℕ) → piece_number last piece ≡ Some n → IsNumber last piece n
unfolding piece_number
number-read last piece n e = option_and_then_some (λ m. cond (last && m == 0) None (Some m)) (below 256 (decimal_of piece)) n e (λ m read kept. by_test m read (last && m == 0) refl kept)
  where
    by_test : (m : ℕ) → below 256 (decimal_of piece) ≡ Some m → (test : Bool) → (last && m == 0) ≡ test → ◌≡◌ {A = Option ℕ} (cond test None (Some m)) (Some n) → IsNumber last piece n
    by_test m read true zero_is kept = absurd cc
    by_test m read false some kept =
        let is : m ≡ n = cc in
        let parts = below-is (decimal_of piece) m read in
        rw (← is) (record { spelled = decimal_of-some piece m (let le = parts.1 in omega arith) parts.0; small = parts.1; some = some })

-- ---- the pieces of numbers that are left

abbrev left_of : List ℕ → List (List ℕ)
left_of [] = []
left_of (n ∷ numbers) = cond (are_zeros (n ∷ numbers)) [] (pieces_of 46 (decimal n ++ later_text numbers))

later-none : (numbers : List ℕ) → are_zeros numbers ≡ true → later_text numbers ≡ []
unfolding later_text
later-none [] e = refl
later-none (n ∷ numbers) e = rw e refl

later-some : (n : ℕ) (numbers : List ℕ) → are_zeros (n ∷ numbers) ≡ false → later_text (n ∷ numbers) ≡ 46 ∷ (decimal n ++ later_text numbers)
unfolding later_text
later-some n numbers e = rw e refl

left-none : (numbers : List ℕ) → are_zeros numbers ≡ true → left_of numbers ≡ []
left-none [] e = refl
left-none (n ∷ numbers) e = rw e refl

left-some : (n : ℕ) (numbers : List ℕ) → are_zeros (n ∷ numbers) ≡ false → left_of (n ∷ numbers) ≡ pieces_of 46 (decimal n ++ later_text numbers)
left-some n numbers e = rw e refl

-- the pieces of a number that is the last, and of one that is not
last-pieces : (n : ℕ) (numbers : List ℕ) → n ≤ 255 → are_zeros numbers ≡ true → pieces_of 46 (decimal n ++ later_text numbers) ≡ decimal n ∷ []
last-pieces n numbers small none =
    ap (λ (text : List ℕ). pieces_of 46 (decimal n ++ text)) (later-none numbers none)
    ∙ ap (pieces_of 46) (append-nil (decimal n)) ∙ pieces_of-lacks 46 (decimal n) (decimal-lacks_point n (omega arith))

more-pieces : (n m : ℕ) (numbers : List ℕ) → n ≤ 255 → are_zeros (m ∷ numbers) ≡ false → pieces_of 46 (decimal n ++ later_text (m ∷ numbers)) ≡ decimal n ∷ left_of (m ∷ numbers)
more-pieces n m numbers small some =
    ap (λ (text : List ℕ). pieces_of 46 (decimal n ++ text)) (later-some m numbers some)
    ∙ pieces_of-append 46 (decimal n) (decimal m ++ later_text numbers) (decimal-lacks_point n (omega arith))
    ∙ ap (λ (pieces : List (List ℕ)). decimal n ∷ pieces) (sym (left-some m numbers some))

next-more : (piece : List ℕ) (pieces : List (List ℕ)) → 0 < length pieces → next_number (piece ∷ pieces) ≡ option_map (λ n. (n, pieces)) (piece_number false piece)
unfolding next_number
next-more piece [] some = absurd (omega arith)
next-more piece (next ∷ pieces) some = refl

left-nonempty : (n : ℕ) (numbers : List ℕ) → are_zeros (n ∷ numbers) ≡ false → 0 < length (left_of (n ∷ numbers))
left-nonempty n numbers some = rw (left-some n numbers some) (let long = length-slice_split (λ b. b == 46) (decimal n ++ later_text numbers) in omega arith)

zeros-of : (n : ℕ) (numbers : List ℕ) → are_zeros (n ∷ numbers) ≡ true → (n ≡ 0) × (are_zeros numbers ≡ true)
zeros-of n numbers e = let parts = and_parts (n == 0) (are_zeros numbers) e in let first = parts.0 in (grind (arith, nat_tests), parts.1)

last-some : (n : ℕ) (numbers : List ℕ) → are_zeros (n ∷ numbers) ≡ false → are_zeros numbers ≡ true → (n == 0) ≡ false
last-some n numbers e none = by_test (n == 0) refl
  where
    by_test : (test : Bool) → (n == 0) ≡ test → test ≡ false
    by_test false is = refl
    by_test true is = absurd (let all = both (n == 0) (are_zeros numbers) is none in cc)

-- ---- read as spelled

next-left : (n : ℕ) (numbers : List ℕ) → n ≤ 255 → next_number (left_of (n ∷ numbers)) ≡ Some (n, left_of numbers)
unfolding next_number
next-left n numbers small = by_test (are_zeros (n ∷ numbers)) refl
  where
    last : are_zeros (n ∷ numbers) ≡ false → are_zeros numbers ≡ true → next_number (left_of (n ∷ numbers)) ≡ Some (n, left_of numbers)
    last some none =
        let number = number-spelled true n small (last-some n numbers some none) in
        rw (left-some n numbers some, last-pieces n numbers small none, number, left-none numbers none) refl

    more : (rest : List ℕ) → are_zeros (n ∷ rest) ≡ false → are_zeros rest ≡ false → next_number (left_of (n ∷ rest)) ≡ Some (n, left_of rest)
    more [] some others = absurd cc
    more (m ∷ rest) some others =
        ap next_number (left-some n (m ∷ rest) some ∙ more-pieces n m rest small others)
        ∙ next-more (decimal n) (left_of (m ∷ rest)) (left-nonempty m rest others)
        ∙ ap (option_map (λ k. (k, left_of (m ∷ rest)))) (number-spelled false n small refl)

    by_rest : (test : Bool) → are_zeros numbers ≡ test → are_zeros (n ∷ numbers) ≡ false → next_number (left_of (n ∷ numbers)) ≡ Some (n, left_of numbers)
    by_rest true none some = last some none
    by_rest false others some = more numbers some others

    by_test : (test : Bool) → are_zeros (n ∷ numbers) ≡ test → next_number (left_of (n ∷ numbers)) ≡ Some (n, left_of numbers)
    by_test true none = let parts = zeros-of n numbers none in let first = parts.0 in rw (left-none (n ∷ numbers) none, left-none numbers parts.1, first) refl
    by_test false some = by_rest (are_zeros numbers) refl some

pub level_of-level_text : LevelsAreReadAsSpelled
unfolding level_of level_of_pieces level_text made_of
level_of-level_text level is =
    let first = is.first in
    let a = level.first in
    let later = level.second ∷ level.third ∷ level.fourth ∷ [] in
    let positive : (a == 0) ≡ false = grind (arith, nat_tests) in
    let some : are_zeros (a ∷ later) ≡ false = rw positive refl in
    let in_range : (nat_le 1 a && nat_le a 8) ≡ true = grind (arith, nat_tests) in
    rw (
      ← left-some a later some,
      next-left a later (omega arith),
      next-left level.second (level.third ∷ level.fourth ∷ []) is.second,
      next-left level.third (level.fourth ∷ []) is.third,
      next-left level.fourth [] is.fourth,
      in_range,
    ) refl

-- ---- spelled as read

left-none-is : (numbers : List ℕ) → left_of numbers ≡ [] → are_zeros numbers ≡ true
left-none-is [] e = refl
left-none-is (n ∷ numbers) e = by_test (are_zeros (n ∷ numbers)) refl
  where
    by_test : (test : Bool) → are_zeros (n ∷ numbers) ≡ test → test ≡ true
    by_test true is = refl
    by_test false some = absurd (let long = left-nonempty n numbers some in let none = ap length e in omega arith)

-- the number that was read, and the pieces that it was read from
record IsFront (pieces : List (List ℕ)) (n : ℕ) (numbers : List ℕ) : Type 0 where
  pieces_are : pieces ≡ left_of (n ∷ numbers)
  small : n ≤ 255

mapped : {A : Type 0} (o : Option ℕ) (rest : A) (n : ℕ) (left : A) → option_map {U = ℕ × A} (λ k. (k, rest)) o ≡ Some (n, left) → (o ≡ Some n) × (rest ≡ left)
mapped None rest n left e = absurd cc
mapped {A} (Some k) rest n left e = let both : ◌≡◌ {A = ℕ × A} (k, rest) (n, left) = cc in (ap (λ p. Some p.0) both, ap (λ p. p.1) both)

next-back : (pieces : List (List ℕ)) (n : ℕ) (numbers : List ℕ) → next_number pieces ≡ Some (n, left_of numbers) → IsFront pieces n numbers
unfolding next_number
next-back [] n numbers e =
    let both : ◌≡◌ {A = ℕ × List (List ℕ)} (0, []) (n, left_of numbers) = cc in
    let zero_is : 0 ≡ n = ap (λ p. p.0) both in
    let none = left-none-is numbers (sym (ap (λ p. p.1) both)) in
    let test : (n == 0) ≡ true = grind (arith, nat_tests) in
    record { pieces_are = sym (left-none (n ∷ numbers) (rw (test, none) refl)); small = omega arith }
next-back (piece ∷ []) n numbers e =
    let parts = mapped (piece_number true piece) [] n (left_of numbers) e in
    let number = number-read true piece n parts.0 in
    let none = left-none-is numbers (sym parts.1) in
    let positive : (n == 0) ≡ false = number.some in
    let some : are_zeros (n ∷ numbers) ≡ false = rw positive refl in
    record { pieces_are = ap (λ (word : List ℕ). word ∷ []) number.spelled ∙ sym (left-some n numbers some ∙ last-pieces n numbers number.small none); small = number.small }
next-back (piece ∷ next ∷ pieces) n [] e = let parts = mapped (piece_number false piece) (next ∷ pieces) n [] e in let none = parts.1 in absurd cc
next-back (piece ∷ next ∷ pieces) n (m ∷ numbers) e = by_test (are_zeros (m ∷ numbers)) refl
  where
    by_test : (test : Bool) → are_zeros (m ∷ numbers) ≡ test → IsFront (piece ∷ next ∷ pieces) n (m ∷ numbers)
    by_test true none =
        let parts = mapped (piece_number false piece) (next ∷ pieces) n (left_of (m ∷ numbers)) e in
        let is = parts.1 ∙ left-none (m ∷ numbers) none in absurd cc
    by_test false others =
        let parts = mapped (piece_number false piece) (next ∷ pieces) n (left_of (m ∷ numbers)) e in
        let number = number-read false piece n parts.0 in
        let some : are_zeros (n ∷ m ∷ numbers) ≡ false = not_all (n == 0) (are_zeros (m ∷ numbers)) others in
        let front : (piece ∷ next ∷ pieces) ≡ decimal n ∷ left_of (m ∷ numbers) = (let rest = parts.1 in let word = number.spelled in cc) in
        record { pieces_are = front ∙ sym (left-some n (m ∷ numbers) some ∙ more-pieces n m numbers number.small others); small = number.small }
      where
        not_all : (one other : Bool) → other ≡ false → (one && other) ≡ false
        not_all true other e = e
        not_all false other e = refl

no_more : (pieces : List (List ℕ)) → (length pieces == 0) ≡ true → pieces ≡ left_of []
no_more [] e = refl
no_more (piece ∷ pieces) e = absurd (grind (arith, nat_tests))

-- the numbers that were read of pieces
record AreRead (pieces : List (List ℕ)) (level : LevelNumbers) : Type 0 where
  pieces_are : pieces ≡ left_of (level.first ∷ level.second ∷ level.third ∷ level.fourth ∷ [])
  level_is : IsLevel level

made-is : (a b c d : ℕ) (level : LevelNumbers) → made_of a b c d ≡ Some level → (1 ≤ a) × (a ≤ 8) × (level ≡ record { first = a; second = b; third = c; fourth = d })
unfolding made_of
made-is a b c d level e = by_test (nat_le 1 a && nat_le a 8) refl e
  where
    by_test : (test : Bool) → (nat_le 1 a && nat_le a 8) ≡ test → cond {A = Option LevelNumbers} test (Some (record { first = a; second = b; third = c; fourth = d })) None ≡ Some level → (1 ≤ a) × (a ≤ 8) × (level ≡ record { first = a; second = b; third = c; fourth = d })
    by_test true is e = (grind (arith, nat_tests), grind (arith, nat_tests), sym cc)
    by_test false is e = absurd cc

pieces-read : (pieces : List (List ℕ)) (level : LevelNumbers) → level_of_pieces pieces ≡ Some level → AreRead pieces level
unfolding level_of_pieces
pieces-read pieces level e =
    option_and_then_some _ (next_number pieces) level e (λ a first rest.
    option_and_then_some _ (next_number a.1) level rest (λ b second rest.
    option_and_then_some _ (next_number b.1) level rest (λ c third rest.
    option_and_then_some _ (next_number c.1) level rest (λ d fourth rest. ended a b c d first second third fourth (length d.1 == 0) refl rest))))
  where
    ended : (a b c d : ℕ × List (List ℕ)) → next_number pieces ≡ Some a → next_number a.1 ≡ Some b → next_number b.1 ≡ Some c → next_number c.1 ≡ Some d
        → (test : Bool) → (length d.1 == 0) ≡ test → cond test (made_of a.0 b.0 c.0 d.0) None ≡ Some level → AreRead pieces level
    ended a b c d first second third fourth false more e = absurd cc
    ended a b c d first second third fourth true none e =
        let made = made-is a.0 b.0 c.0 d.0 level e in
        let four = next-back c.1 d.0 [] (fourth ∙ ap (λ left. Some (d.0, left)) (no_more d.1 none)) in
        let three = next-back b.1 c.0 (d.0 ∷ []) (third ∙ ap (λ left. Some (c.0, left)) four.pieces_are) in
        let two = next-back a.1 b.0 (c.0 ∷ d.0 ∷ []) (second ∙ ap (λ left. Some (b.0, left)) three.pieces_are) in
        let one = next-back pieces a.0 (b.0 ∷ c.0 ∷ d.0 ∷ []) (first ∙ ap (λ left. Some (a.0, left)) two.pieces_are) in
        rw (made.2) (record { pieces_are = one.pieces_are; level_is = record { first = (made.0, made.1); second = two.small; third = three.small; fourth = four.small } })

pub level_of-some : LevelsAreSpelledAsRead
unfolding level_of level_text
level_of-some text level e =
    let read = pieces-read (pieces_of 46 text) level e in
    let first = read.level_is.first in
    let later = level.second ∷ level.third ∷ level.fourth ∷ [] in
    let positive : (level.first == 0) ≡ false = grind (arith, nat_tests) in
    let some : are_zeros (level.first ∷ later) ≡ false = rw positive refl in
    let pieces : pieces_of 46 text ≡ pieces_of 46 (decimal level.first ++ later_text later) = read.pieces_are ∙ left-some level.first later some in
    (sym (join-pieces_of 46 text) ∙ ap (join_with_byte 46) pieces ∙ join-pieces_of 46 (decimal level.first ++ later_text later), read.level_is)

-- ---- one call of the reader after another

pub piece-none : (last : Bool) (piece : List ℕ) → below (2 ^ 64) (decimal_of piece) ≡ None → piece_number last piece ≡ None
unfolding piece_number
piece-none last piece e = by_number (decimal_of piece) refl e
  where
    by_number : (o : Option ℕ) → decimal_of piece ≡ o → below (2 ^ 64) o ≡ None → piece_number last piece ≡ None
    by_number None is e = rw is refl
    by_number (Some n) is e = let great : below 256 (Some n) ≡ None = grind (arith, nat_tests) in rw (is, great) refl

below-there : (o : Option ℕ) (limit n : ℕ) → below limit o ≡ Some n → (o ≡ Some n) × (n < limit)
below-there None limit n e = absurd cc
below-there (Some m) limit n e = (grind (arith, nat_tests), grind (arith, nat_tests))

module _ (last : Bool) (piece : List ℕ) (n : ℕ) (read : below (2 ^ 64) (decimal_of piece) ≡ Some n) where
  pub piece-great : 255 < n → piece_number last piece ≡ None
  unfolding piece_number
  piece-great great =
      let is = (below-there (decimal_of piece) (2 ^ 64) n read).0 in
      let none : below 256 (Some n) ≡ None = grind (arith, nat_tests) in rw (is, none) refl

  pub piece-ends : n ≤ 255 → (test : Bool) → (last && n == 0) ≡ test → piece_number last piece ≡ cond test None (Some n)
  unfolding piece_number
  piece-ends small test e =
      let is = (below-there (decimal_of piece) (2 ^ 64) n read).0 in
      let fits : below 256 (Some n) ≡ Some n = grind (arith, nat_tests) in rw (is, fits, e) refl

pub next-none : next_number (pieces_left None) ≡ Some (0, [])
unfolding next_number pieces_left
next-none = refl

pub next-split : (text piece rest : List ℕ) → pieces_of 46 text ≡ piece ∷ pieces_of 46 rest
    → next_number (pieces_left (Some text)) ≡ option_map (λ n. (n, pieces_left (Some rest))) (piece_number false piece)
unfolding pieces_left
next-split text piece rest e = rw e (next-more piece (pieces_of 46 rest) (let long = length-slice_split (λ b. b == 46) rest in omega arith))

pub next-whole : (text : List ℕ) → pieces_of 46 text ≡ text ∷ [] → next_number (pieces_left (Some text)) ≡ option_map (λ n. (n, pieces_left None)) (piece_number true text)
unfolding next_number pieces_left
next-whole text e = rw e refl

pub made-some : (a b c d : ℕ) → 1 ≤ a → a ≤ 8 → made_of a b c d ≡ Some (record { first = a; second = b; third = c; fourth = d })
unfolding made_of
made-some a b c d low high = let in_range : (nat_le 1 a && nat_le a 8) ≡ true = grind (arith, nat_tests) in rw in_range refl

pub made-none : (a b c d : ℕ) → (1 ≤ a → a ≤ 8 → ⊥) → made_of a b c d ≡ None
unfolding made_of
made-none a b c d outside = by_test (nat_le 1 a && nat_le a 8) refl
  where
    by_test : (test : Bool) → (nat_le 1 a && nat_le a 8) ≡ test → cond {A = Option LevelNumbers} test (Some (record { first = a; second = b; third = c; fourth = d })) None ≡ None
    by_test true is = absurd (outside (grind (arith, nat_tests)) (grind (arith, nat_tests)))
    by_test false is = refl

pub made-iff : (a b c d : ℕ) (made : Option LevelNumbers) → made ≡ made_of a b c d → IsSome made ↔ IsFirst a
made-iff a b c d (Some level) e = let is = made-is a b c d level (sym e) in (λ _. (is.0, is.1), λ _. refl)
made-iff a b c d None e = (λ no. absurd cc, λ is. absurd (let there = made-some a b c d is.0 is.1 in cc))

pub made-value : (a b c d : ℕ) (made : Option LevelNumbers) → made ≡ made_of a b c d → IfSome made (λ level. level ≡ record { first = a; second = b; third = c; fourth = d })
made-value a b c d (Some level) e = (made-is a b c d level (sym e)).2
made-value a b c d None e = tt

-- the calls of the reader
module _ (text : List ℕ) where
  pub fails-first : next_number (pieces_left (Some text)) ≡ None → level_of text ≡ None
  unfolding level_of level_of_pieces pieces_left
  fails-first e = rw e refl

  module _ (a : ℕ × List (List ℕ)) (first : next_number (pieces_left (Some text)) ≡ Some a) where
    pub fails-second : next_number a.1 ≡ None → level_of text ≡ None
    unfolding level_of level_of_pieces pieces_left
    fails-second e = rw (first, e) refl

    module _ (b : ℕ × List (List ℕ)) (second : next_number a.1 ≡ Some b) where
      pub fails-third : next_number b.1 ≡ None → level_of text ≡ None
      unfolding level_of level_of_pieces pieces_left
      fails-third e = rw (first, second, e) refl

      module _ (c : ℕ × List (List ℕ)) (third : next_number b.1 ≡ Some c) where
        pub fails-fourth : next_number c.1 ≡ None → level_of text ≡ None
        unfolding level_of level_of_pieces pieces_left
        fails-fourth e = rw (first, second, third, e) refl

        pub ends-there : (d : ℕ × List (List ℕ)) → next_number c.1 ≡ Some d → (test : Bool) → (length d.1 == 0) ≡ test
            → level_of text ≡ cond test (made_of a.0 b.0 c.0 d.0) None
        unfolding level_of level_of_pieces pieces_left
        ends-there d fourth test e = rw (first, second, third, fourth, e) refl

pub left-there : (text : List ℕ) → (length (pieces_left (Some text)) == 0) ≡ false
unfolding pieces_left
left-there text = let some = length-slice_split (λ b. b == 46) text in grind (arith, nat_tests)

-- the texts that the code writes
and_none : (one : Bool) → (one && false) ≡ false
and_none true = refl
and_none false = refl

module _ (level : LevelNumbers) where
  pub text-four : (level.fourth ≡ 0 → ⊥)
      → level_text level ≡ decimal level.first ++ (codes "." ++ (decimal level.second ++ (codes "." ++ (decimal level.third ++ (codes "." ++ decimal level.fourth)))))
  unfolding level_text later_text
  text-four some = let d : (level.fourth == 0) ≡ false = grind (arith, nat_tests) in
      rw (d, and_none (level.third == 0), and_none (level.second == 0)) (ap (λ (rest : List ℕ). decimal level.first ++ (codes "." ++ (decimal level.second ++ (codes "." ++ (decimal level.third ++ (codes "." ++ rest))))))
      (append-nil (decimal level.fourth)))

  module _ (d : level.fourth ≡ 0) where
    pub text-three : (level.third ≡ 0 → ⊥) → level_text level ≡ decimal level.first ++ (codes "." ++ (decimal level.second ++ (codes "." ++ decimal level.third)))
    unfolding level_text later_text
    text-three some = let c : (level.third == 0) ≡ false = grind (arith, nat_tests) in
        rw (d, c, and_none (level.second == 0)) (ap (λ (rest : List ℕ). decimal level.first ++ (codes "." ++ (decimal level.second ++ (codes "." ++ rest)))) (append-nil (decimal level.third)))

    module _ (c : level.third ≡ 0) where
      pub text-two : (level.second ≡ 0 → ⊥) → level_text level ≡ decimal level.first ++ (codes "." ++ decimal level.second)
      unfolding level_text later_text
      text-two some = let b : (level.second == 0) ≡ false = grind (arith, nat_tests) in
          rw (d, c, b) (ap (λ (rest : List ℕ). decimal level.first ++ (codes "." ++ rest)) (append-nil (decimal level.second)))

      pub text-one : level.second ≡ 0 → level_text level ≡ decimal level.first
      unfolding level_text later_text
      text-one b = rw (d, c, b) (append-nil (decimal level.first))

pub none-left : (length (pieces_left None) == 0) ≡ true
unfolding pieces_left
none-left = refl
