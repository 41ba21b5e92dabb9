-- How long numbers, lists of parts and paths are as texts.
use Rattle.std.proofs.Common.{◌≡◌, ℕ, ◌+◌, ◌/◌, ◌%◌, ◌^◌, ◌<◌, ◌≤◌, List, [], ◌∷◌, ◌++◌, length, take, get_or, Option, Some, None, append-nil, length-append, refl, sym, ap, ◌∙◌, arith}
use Rattle.std.specs.Fmt.{decimal}
use Rattle.std.specs.List.{flat_map, join_with_byte}
use Rattle.std.proofs.lemmas.Fmt.{decimal_digit, decimal_step}
use Rattle.std.proofs.lemmas.List.{take_more}
use Rattle.std.proofs.lemmas.List.Concat.{flat_map-append}
use Rattle.std.proofs.lemmas.Bool.Decides.{nat_tests}
use Rattle.std.proofs.lemmas.Option.{cond_some}
use Rattle.std.proofs.lemmas.Str.Parse.{digits_value_short}
use Rattle.tydi_base.specs.Decimal.{below, decimal_of, is_decimal, read_on}
use Rattle.tydi_base.specs.Path.{path_text}
use Rattle.tydi_base.proofs.DecimalLaws.{is_decimal-to, own}

-- ---- decimal numbers

pub length-decimal_one : (n : ℕ) → n < 10 → length (decimal n) ≡ 1
length-decimal_one n few = ap length (decimal_digit n few)

pub length-decimal_more : (n : ℕ) → 10 ≤ n → n < 2 ^ 64 → length (decimal n) ≡ length (decimal (n / 10)) + 1
length-decimal_more n more below = ap length (decimal_step n more below) ∙ length-append (decimal (n / 10)) ((48 + n % 10) ∷ [])

-- ---- lists of parts

-- one part more
pub length-parts_more : {A : Type 0} (part : A → List ℕ) (xs : List A) (i : ℕ) (x : A) → i < length xs → x ≡ get_or xs i x → length (flat_map part (take (i + 1) xs)) ≡ length (flat_map part (take i xs)) + length (part x)
length-parts_more part xs i x within is =
    let parts : take (i + 1) xs ≡ take i xs ++ x ∷ [] = take_more xs i x within ∙ ap (λ y. take i xs ++ y ∷ []) (sym is) in
    ap (λ ys. length (flat_map part ys)) parts ∙ ap length (flat_map-append part (take i xs) (x ∷ []))
    ∙ length-append (flat_map part (take i xs)) (part x ++ []) ∙ ap (λ (text : List ℕ). length (flat_map part (take i xs)) + length text) (append-nil (part x))

-- ---- paths

-- a name after a point
abbrev pub pointed : List ℕ → List ℕ
pointed name = 46 ∷ name

joined : (name : List ℕ) (names : List (List ℕ)) → join_with_byte 46 (name ∷ names) ≡ name ++ flat_map pointed names
joined name [] = sym (append-nil name)
joined name (next ∷ names) = ap (λ (rest : List ℕ). name ++ 46 ∷ rest) (joined next names)

pub length-path_text : (name : List ℕ) (names : List (List ℕ)) → length (path_text (name ∷ names)) ≡ length name + length (flat_map pointed names)
length-path_text name names = ap length (joined name names) ∙ length-append name (flat_map pointed names)

-- ---- numbers of few digits

pub decimal_of-below : (digits : List ℕ) (n k : ℕ) → length digits ≤ k → decimal_of digits ≡ Some n → n < 10 ^ k
decimal_of-below digits n k short e =
    let parts = cond_some (is_decimal digits) (read_on 0 digits) n e in
    let h = is_decimal-to digits parts.0 in
    let lt : read_on 0 digits < 10 ^ k = digits_value_short own digits k h.each short in
    rw (← parts.1) lt

below-all : (o : Option ℕ) → ((n : ℕ) → o ≡ Some n → n < 10 ^ 10) → below (2 ^ 64) o ≡ o
below-all None h = refl
below-all (Some n) h = let lt = h n refl in let fits : n < 2 ^ 64 = omega arith in grind (arith, nat_tests)

-- a number of at most ten digits is below every limit that is larger
pub below-short : (digits : List ℕ) → length digits ≤ 10 → below (2 ^ 64) (decimal_of digits) ≡ decimal_of digits
below-short digits short = below-all (decimal_of digits) (λ n e. decimal_of-below digits n 10 short e)
