-- The lines of a text keep the limits of plans.
use Rattle.std.proofs.Common.{◌≡◌, ◌∙◌, ◌<◌, ◌≤◌, ◌^◌, ℕ, Bool, true, false, ◌&&◌, cond, eqb, ltb, nat_le, List, [], ◌∷◌, ◌++◌, length, map, Option, Some, None, Result, Ok, Err, refl, ap, sym, subst, arith, All}
use Rattle.std.specs.List.{list_all}
use Rattle.std.proofs.lemmas.Bool.Decides.{nat_tests}
use Rattle.std.proofs.lemmas.Bool.{eqb-true}
use Rattle.std.proofs.lemmas.List.{length-append, length-map, length-replicate, length-take}
use Rattle.std.proofs.lemmas.List.Elements.{All-nil, All-cons}
use Rattle.tydi_base.specs.Bits.{zero_bits}
use Rattle.tydi_base.specs.Decimal.{decimal_of}
use Rattle.tydi_base.specs.HexWords.{hex_word, value_in_width, in_width, resized, counted, hex_bits, highest_one, first_not_hex}
use Rattle.tydi_base.specs.declared.hex_word.BitsFault.{BitsFault}
use Rattle.tydi_base.specs.declared.hex_word.BitsFault.TheVariants as bits
use Rattle.tydi_base.specs.declared.place.Place.{Place}
use Rattle.tydi_base.specs.Reading.{or_fault}
use Rattle.tydi_base.proofs.ReadingLaws.{bind_ok}
use Rattle.tydi_base.proofs.TestLemmas.{kept}
use Rattle.plan_text.specs.declared.fault.PlanFault.{PlanFault}
use Rattle.plan_text.specs.declared.fault.PlanFault.TheVariants.{Syntax, ReadyLength, MaskTooWide}
use Rattle.plan_text.specs.declared.plan.Wish.{Wish}
use Rattle.plan_text.specs.Words.{are_bits, each, fits_lanes, gap_of, is_hex, most_cycles, ready_of, user_in, user_of, users_of, wish_of, wishes_of}

-- the value of each word has a property that each value of the reader has
pub each-all : {A : Type 0} (P : A → Type 0) (read : List ℕ → Result A PlanFault) → ((word : List ℕ) (x : A) → read word ≡ Ok x → P x) → (words : List (List ℕ)) (xs : List A) → each read words ≡ Ok xs → All P xs
each-all P read is [] xs e = let same : [] ≡ xs = cc in rw (← same) (All-nil P)
each-all {A} P read is (word ∷ words) xs e =
    let (first, one, rest) = bind_ok (read word) _ xs e in
    let (more, others, whole) = bind_ok (each read words) _ xs rest in
    let same : first ∷ more ≡ xs = cc in
    subst (All P) same (All-cons P first more (is word first one) (each-all P read is words more others))

-- ---- gaps, ready bits and wishes

pub gap_of-most : (place : Place) (word : List ℕ) (gap : ℕ) → gap_of place word ≡ Ok gap → gap ≤ most_cycles
unfolding gap_of
gap_of-most place word gap e =
    let (n, read, rest) = bind_ok (or_fault (Syntax place) (decimal_of word)) _ gap e in
    let few = kept (nat_le n most_cycles) (Ok n) (Syntax place) gap rest in
    let within : n ≤ most_cycles = let test = few.0 in grind (arith, nat_tests) in
    let is : n ≡ gap = let same : ◌≡◌ {A = Result ℕ PlanFault} (Ok n) (Ok gap) = few.1 in cc in
    omega (arith, within, is)

pub ready_of-length : (place : Place) (cycles : ℕ) (word : List ℕ) (ready : List Bool) → ready_of place cycles word ≡ Ok ready → length ready ≡ cycles
unfolding ready_of
ready_of-length place cycles word ready e = by_tests (are_bits word) (eqb (length word) cycles) refl e
  where
    by_tests : (digits long : Bool) → eqb (length word) cycles ≡ long
        → ◌≡◌ {A = Result (List Bool) PlanFault} (cond digits (cond long (Ok (map (λ digit. eqb digit 49) word)) (Err (ReadyLength place))) (Err (Syntax place))) (Ok ready) → length ready ≡ cycles
    by_tests true true same read =
        let is : map (λ digit. eqb digit 49) word ≡ ready = cc in
        ap length (sym is) ∙ length-map word (λ digit. eqb digit 49) ∙ eqb-true (length word) cycles same
    by_tests true false same read = absurd cc
    by_tests false long same read = absurd cc

list_all-all : {A : Type 0} (test : A → Bool) (P : A → Type 0) → ((x : A) → test x ≡ true → P x) → (xs : List A) → list_all test xs ≡ true → All P xs
list_all-all test P is [] e = All-nil P
list_all-all test P is (x ∷ xs) e = by_test (test x) refl e (list_all-all test P is xs)
  where
    by_test : (b : Bool) → test x ≡ b → (b && list_all test xs) ≡ true → (list_all test xs ≡ true → All P xs) → All P (x ∷ xs)
    by_test true here rest others = All-cons P x xs (is x here) (others rest)
    by_test false here rest others = absurd cc

pub wishes_of-fit : (place : Place) (lanes : ℕ) (words : List (List ℕ)) (wishes : List Wish) → wishes_of place lanes words ≡ Ok wishes → All (λ wish. wish.mask < 2 ^ lanes) wishes
unfolding wishes_of
wishes_of-fit place lanes words wishes e =
    let (found, read, rest) = bind_ok (each (wish_of place) words) _ wishes e in
    by_test found (list_all (fits_lanes lanes) found) refl rest
  where
    by_test : (found : List Wish) (fit : Bool) → list_all (fits_lanes lanes) found ≡ fit → ◌≡◌ {A = Result (List Wish) PlanFault} (cond fit (Ok found) (Err (MaskTooWide place))) (Ok wishes) → All (λ wish. wish.mask < 2 ^ lanes) wishes
    by_test found true fit rest =
        let is : found ≡ wishes = cc in
        subst (All (λ wish. wish.mask < 2 ^ lanes)) is (list_all-all (fits_lanes lanes) (λ wish. wish.mask < 2 ^ lanes) (λ wish fits. grind (arith, nat_tests)) found fit)
    by_test found false fit rest = absurd cc

-- ---- user words

resized-length : (width : ℕ) (bits : List Bool) → length (resized width bits) ≡ width
unfolding resized
resized-length width bits = omega (arith, length-take width (bits ++ zero_bits width), length-append bits (zero_bits width), length-replicate width false)

in_width-length : (width : ℕ) (found : List Bool) (highest : Option ℕ) (word : List Bool) → in_width width found highest ≡ Ok word → length word ≡ width
unfolding in_width
in_width-length width found None word e = let is : resized width found ≡ word = cc in ap length (sym is) ∙ resized-length width found
in_width-length width found (Some index) word e = by_test (ltb index width) e
  where
    by_test : (within : Bool) → ◌≡◌ {A = Result (List Bool) BitsFault} (cond within (Ok (resized width found)) (Err (bits.TooWide (counted index)))) (Ok word) → length word ≡ width
    by_test true read = let is : resized width found ≡ word = cc in ap length (sym is) ∙ resized-length width found
    by_test false read = absurd cc

hex_word-length : (width : ℕ) (digits : List ℕ) (word : List Bool) → hex_word width digits ≡ Ok word → length word ≡ width
unfolding hex_word value_in_width
hex_word-length width digits word e = by_first (first_not_hex digits) e
  where
    by_first : (first : Option ℕ) → value_in_width width (hex_bits digits) first ≡ Ok word → length word ≡ width
    by_first None read = in_width-length width (hex_bits digits) (highest_one (hex_bits digits)) word read
    by_first (Some index) read = absurd cc

user_of-length : (place : Place) (width : ℕ) (word : List ℕ) (user : List Bool) → user_of place width word ≡ Ok user → length user ≡ width
user_of-length place width word user e = by_word (hex_word width word) refl e
  where
    by_word : (read : Result (List Bool) BitsFault) → hex_word width word ≡ read → user_in place read ≡ Ok user → length user ≡ width
    by_word (Ok found) is same = let one : found ≡ user = cc in hex_word-length width word user (is ∙ ap (λ (bits : List Bool). Ok bits) one)
    by_word (Err (bits.NotHex index)) is same = absurd cc
    by_word (Err (bits.TooWide index)) is same = absurd cc
    by_word (Err bits.Memory) is same = absurd cc

pub users_of-fit : (place : Place) (width : ℕ) (words : List (List ℕ)) (users : List (List Bool)) → users_of place width words ≡ Ok users → All (λ user. length user ≡ width) users
unfolding users_of
users_of-fit place width words users e = by_test (list_all is_hex words) e
  where
    by_test : (form : Bool) → ◌≡◌ {A = Result (List (List Bool)) PlanFault} (cond form (each (user_of place width) words) (Err (Syntax place))) (Ok users) → All (λ user. length user ≡ width) users
    by_test true read = each-all (λ user. length user ≡ width) (user_of place width) (λ word user. user_of-length place width word user) words users read
    by_test false read = absurd cc
