-- The bytes that are found of a file.
use Rattle.std.proofs.Common.{◌≡◌, ℕ, ◌<◌, ◌≤◌, ◌+◌, List, length, min, Option, None, Some, MatchOption, option_map, refl, sym, ap, ◌∙◌, subst, arith, Result, Ok, Err, Bool, true, false, cond, nat_lt}
use Rattle.std.proofs.lemmas.Bool.Decides.{nat_tests}
use Rattle.tydi_io.specs.Store.{Files}
use Rattle.tydi_tool.specs.Words.{FileWord}
use Rattle.tydi_tool.specs.Files.{Lack, NoFile, TooLong, bytes_within, file_of, pulled_out, GivenWithin, IsFound, IsGiven}

pub file_of-there : (known : Files) (file : FileWord) (bytes : List ℕ) → known file.word ≡ Some bytes → length bytes ≤ file.limit → file_of known file ≡ Ok bytes
file_of-there known file bytes named within =
    ap (bytes_within file.limit) named ∙ ap (λ (b : Bool). cond b (Err TooLong) (Ok bytes)) (not_over file.limit (length bytes) within)
  where
    not_over : (limit n : ℕ) → n ≤ limit → nat_lt limit n ≡ false
    not_over limit n h = grind (arith, nat_tests)

pub file_of-missing : (known : Files) (file : FileWord) → known file.word ≡ None → file_of known file ≡ Err NoFile
file_of-missing known file none = ap (bytes_within file.limit) none

pub file_of-long : (known : Files) (file : FileWord) (bytes : List ℕ) → known file.word ≡ Some bytes → file.limit < length bytes → file_of known file ≡ Err TooLong
file_of-long known file bytes named long =
    ap (bytes_within file.limit) named ∙ ap (λ (b : Bool). cond b (Err TooLong) (Ok bytes)) (over file.limit (length bytes) long)
  where
    over : (limit n : ℕ) → limit < n → nat_lt limit n ≡ true
    over limit n h = grind (arith, nat_tests)

-- where a file of this length is left
pub pulled_out-at : (known : Files) (file : FileWord) (bytes : List ℕ) (k : ℕ) → known file.word ≡ Some bytes → min (length bytes) (file.limit + 1) ≡ k →
    Some (file.word, k) ≡ pulled_out known file
pulled_out-at known file bytes k named e =
    sym (ap (λ (found : Option (List ℕ)). option_map (λ all. (file.word, min (length all) (file.limit + 1))) found) named ∙ ap (λ n. Some (file.word, n)) e)

-- a file that is there, and was given within its limit
pub IsGiven-there : (known : Files) (file : FileWord) (bytes : List ℕ) (started : Option (List ℕ × ℕ)) → known file.word ≡ Some bytes → GivenWithin file bytes started → IsGiven known file started
IsGiven-there known file bytes started named given =
    subst (λ (found : Option (List ℕ)). MatchOption found (started ≡ None) (λ all. GivenWithin file all started)) (sym named) given

-- a file that was pulled out is given within its limit
pub IsGiven-pulled_out : (known : Files) (file : FileWord) (started : Option (List ℕ × ℕ)) → started ≡ pulled_out known file → IsGiven known file started
IsGiven-pulled_out known file started e = by_file (known file.word) refl
  where
    by_file : (found : Option (List ℕ)) → known file.word ≡ found → IsGiven known file started
    by_file None is = subst (λ (found : Option (List ℕ)). MatchOption found (started ≡ None) (λ all. GivenWithin file all started)) (sym is)
        (e ∙ ap (λ (found : Option (List ℕ)). option_map (λ all. (file.word, min (length all) (file.limit + 1))) found) is)
    by_file (Some bytes) is = IsGiven-there known file bytes started is
        (record {
          given = min (length bytes) (file.limit + 1);
          within = omega arith;
          limited = omega arith;
          place = e ∙ ap (λ (found : Option (List ℕ)). option_map (λ all. (file.word, min (length all) (file.limit + 1))) found) is;
        })

-- the bytes that are found of a file are within its limit
pub found-within : (told : Option Files) (file : FileWord) (bytes : List ℕ) → IsFound told file (Ok bytes) → length bytes ≤ file.limit
found-within None file bytes found = found
found-within (Some known) file bytes found = by_file (known file.word) found
  where
    same : (one other : List ℕ) → ◌≡◌ {A = Result (List ℕ) Lack} (Ok one) (Ok other) → one ≡ other
    same one other e = cc

    not_over : (limit n : ℕ) → nat_lt limit n ≡ false → n ≤ limit
    not_over limit n h = grind (arith, nat_tests)

    by_length : (all : List ℕ) (long : Bool) → nat_lt file.limit (length all) ≡ long → ◌≡◌ {A = Result (List ℕ) Lack} (cond long (Err TooLong) (Ok all)) (Ok bytes) → length bytes ≤ file.limit
    by_length all true long is = absurd cc
    by_length all false short is = subst (λ (l : List ℕ). length l ≤ file.limit) (same all bytes is) (not_over file.limit (length all) short)

    by_file : (stored : Option (List ℕ)) → bytes_within file.limit stored ≡ Ok bytes → length bytes ≤ file.limit
    by_file None is = absurd cc
    by_file (Some all) is = by_length all (nat_lt file.limit (length all)) refl is
