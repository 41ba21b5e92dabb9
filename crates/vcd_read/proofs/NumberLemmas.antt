-- The numbers of texts.
use Rattle.std.proofs.Common.{◌≡◌, ◌∙◌, ℕ, suc, ◌+◌, ◌<◌, Bool, true, false, cond, not, nat_lt, ◌||◌, List, [], ◌∷◌, ◌++◌, length, map, position, Option}
use Rattle.std.proofs.Common.{Some, None, option_map, if◌then◌else◌, refl, sym, ap, arith}
use Rattle.std.proofs.lemmas.Bool.Decides.{nat_tests}
use Rattle.std.specs.Option.{option_or}
use Rattle.std.specs.List.{list_any}
use Rattle.std.specs.Str.{bytes_eq}
use Rattle.std.specs.Cmp.Lexicographic.{bytes_decides}
use Rattle.vcd_read.specs.Numbers.{number_after, number_of, KeepsNumbers}

position-step : (test : Bool) (m n : ℕ) (rest : Option ℕ) → cond (nat_lt m n) (Some m) None ≡ rest
    → cond (nat_lt (cond (not test) (1 + m) 0) (suc n)) (Some (cond (not test) (1 + m) 0)) None ≡ number_after test rest
position-step true m n rest is = let some : nat_lt 0 (suc n) ≡ true = grind (arith, nat_tests) in ap (λ b. cond b (Some 0) None) some
position-step false m n rest is = by (nat_lt m n) (grind (arith, nat_tests)) ∙ ap (option_map suc) is
  where
    by : (b : Bool) → nat_lt (1 + m) (suc n) ≡ b → cond (nat_lt (1 + m) (suc n)) (Some (1 + m)) None ≡ option_map suc (cond b (Some m) None)
    by true e = ap (λ b. cond b (Some (1 + m)) None) e ∙ ap (λ (k : ℕ). Some k) (omega arith)
    by false e = ap (λ b. cond b (Some (1 + m)) None) e

-- a place that is searched for is the number
pub position-number : {A : Type 0} (f : A → List ℕ) (text : List ℕ) (xs : List A) → position (λ x. bytes_eq text (f x)) xs ≡ number_of (map f xs) text
position-number f text [] = refl
position-number f text (x ∷ xs) = position-step (bytes_eq text (f x)) _ (length xs) (number_of (map f xs) text) (position-number f text xs)

-- a text with no number is none of them
pub none-number : {A : Type 0} (f : A → List ℕ) (text : List ℕ) (xs : List A) → number_of (map f xs) text ≡ None
    → list_any (λ x. bytes_eq text (f x)) xs ≡ false
none-number f text [] is = refl
none-number f text (x ∷ xs) is = by (bytes_eq text (f x)) (number_of (map f xs) text) (none-number f text xs) is
  where
    by : (test : Bool) (rest : Option ℕ) → (rest ≡ None → list_any (λ y. bytes_eq text (f y)) xs ≡ false) → number_after test rest ≡ None
        → (test || list_any (λ y. bytes_eq text (f y)) xs) ≡ false
    by true rest others is = absurd (let clash = is in cc)
    by false None others is = others refl
    by false (Some k) others is = absurd (let clash = is in cc)

-- the number of a text among one more
pub number-push : (texts : List (List ℕ)) (last text : List ℕ) → number_of (texts ++ last ∷ []) text ≡ option_or (number_of texts text)
    (if bytes_eq text last then Some (length texts) else None)
number-push [] last text = by (bytes_eq text last)
  where
    by : (test : Bool) → number_after test None ≡ option_or None (if test then Some 0 else None)
    by true = refl
    by false = refl
number-push (first ∷ others) last text = ap (number_after (bytes_eq text first)) (number-push others last text)
    ∙ by (bytes_eq text first) (number_of others text) (bytes_eq text last)
  where
    by : (test : Bool) (rest : Option ℕ) (is : Bool) → number_after test (option_or rest (if is then Some (length others) else None)) ≡ option_or
        (number_after test rest) (if is then Some (length (first ∷ others)) else None)
    by true rest is = refl
    by false (Some k) is = refl
    by false None true = ap (λ (k : ℕ). Some k) (omega arith)
    by false None false = refl

-- a number is below how many there are
pub number-within : (texts : List (List ℕ)) (text : List ℕ) (number : ℕ) → number_of texts text ≡ Some number → number < length texts
number-within [] text number is = absurd (let clash = is in cc)
number-within (first ∷ others) text number is = by (bytes_eq text first) (number_of others text) (number-within others text) is
  where
    by : (test : Bool) (rest : Option ℕ) → ((k : ℕ) → rest ≡ Some k → k < length others) → number_after test rest ≡ Some number
        → number < length (first ∷ others)
    by true rest within is = let zero_is : 0 ≡ number = cc in omega arith
    by false None within is = absurd (let clash = is in cc)
    by false (Some k) within is = let next : suc k ≡ number = cc in let below = within k refl in omega arith

-- a text that is the same is the same text
pub same-bytes : (one other : List ℕ) → bytes_eq one other ≡ true → one ≡ other
same-bytes one other is = (bytes_decides one other).0 is

-- no two texts have one number
pub number-one : (texts : List (List ℕ)) (one other : List ℕ) (number : ℕ) → number_of texts one ≡ Some number → number_of texts other ≡ Some number
    → one ≡ other
number-one [] one other number is also = absurd (let clash = is in cc)
number-one (first ∷ others) one other number is also = by (bytes_eq one first) (bytes_eq other first) refl refl (number_of others one)
    (number_of others other) (number-one others one other) is also
  where
    by : (a b : Bool) → bytes_eq one first ≡ a → bytes_eq other first ≡ b → (r s : Option ℕ) → ((k : ℕ) → r ≡ Some k → s ≡ Some k → one ≡ other)
        → number_after a r ≡ Some number → number_after b s ≡ Some number → one ≡ other
    by true true p q r s same is also = same-bytes one first p ∙ sym (same-bytes other first q)
    by true false p q r None same is also = absurd (let clash = also in cc)
    by true false p q r (Some k) same is also = absurd (let zero_is : 0 ≡ number = cc in let next : suc k ≡ number = cc in omega arith)
    by false true p q None s same is also = absurd (let clash = is in cc)
    by false true p q (Some k) s same is also = absurd (let next : suc k ≡ number = cc in let zero_is : 0 ≡ number = cc in omega arith)
    by false false p q None s same is also = absurd (let clash = is in cc)
    by false false p q (Some k) None same is also = absurd (let clash = also in cc)
    by false false p q (Some k) (Some j) same is also =
        let one_next : suc k ≡ number = cc in let other_next : suc j ≡ number = cc in let equal : j ≡ k = omega arith in
        same k refl (ap (λ (n : ℕ). Some n) equal)

-- a text that is added leaves the numbers
pub keeps-push : (texts : List (List ℕ)) (last : List ℕ) → KeepsNumbers texts (texts ++ last ∷ [])
keeps-push texts last text number is = number-push texts last text ∙ ap (λ (o : Option ℕ). option_or o (if bytes_eq text last then Some (length texts) else
    None)) is

-- the last text has the number of those before it, where it was none of them
pub number-last : (texts : List (List ℕ)) (last : List ℕ) → number_of texts last ≡ None → number_of (texts ++ last ∷ []) last ≡ Some (length texts)
number-last texts last none =
    number-push texts last last ∙ ap (λ (o : Option ℕ). option_or o (if bytes_eq last last then Some (length texts) else None)) none
    ∙ ap (λ b. if b then Some (length texts) else None) ((bytes_decides last last).1 refl)
