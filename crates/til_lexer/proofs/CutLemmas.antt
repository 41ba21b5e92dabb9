-- Where pieces end.
use Rattle.std.proofs.Common.{◌≡◌, ℕ, ◌+◌, ◌-◌, ◌<◌, ◌≤◌, Bool, true, false, not, cond, eqb, List, [], ◌∷◌, length, drop, get_or, length-drop, refl, subst, arith}
use Rattle.std.specs.Char.{is_ascii_digit}
use Rattle.std.specs.List.{prefix_len}
use Rattle.std.specs.Str.{IsUtf8, IsCharBoundary}
use Rattle.std.proofs.lemmas.Bool.Decides.{nat_tests}
use Rattle.std.proofs.lemmas.List.{get_or-drop}
use Rattle.std.proofs.lemmas.List.Sums.{prefix_len-le-length, prefix_len_passes, prefix_len_stops}
use Rattle.std.proofs.lemmas.Str.{IsCharBoundary-after_ascii, IsCharBoundary-before_ascii, IsCharBoundary-end}
use Rattle.til_lexer.specs.Spans.{is_space, space_length, begins_comment, line_length, digits_at, digits_after_point}

-- so many bytes stand at the front of a text, one at least, and the last of them is ASCII
pub record EndsInAscii (bytes : List ℕ) (count : ℕ) : Type 0 where
  pub some : 0 < count
  pub within : count ≤ length bytes
  pub last : get_or bytes (count - 1) 0 < 128

-- so many bytes, one at least, can be cut off the front of a text: no character is cut in two
pub record CanCut (bytes : List ℕ) (count : ℕ) : Type 0 where
  pub some : 0 < count
  pub boundary : IsCharBoundary bytes count

-- a span further on in a text that ends in ASCII
pub ends_past : (bytes : List ℕ) (before count : ℕ) → before ≤ length bytes → EndsInAscii (drop before bytes) count → EndsInAscii bytes (before + count)
ends_past bytes before count within ends =
    let place : before + (count - 1) ≡ before + count - 1 = let some = ends.some in omega arith in
    record {
      some = let some = ends.some in omega arith;
      within = let inside = ends.within in omega (arith, length-drop before bytes);
      last = subst (λ at. get_or bytes at 0 < 128) place (subst (λ byte. byte < 128) (get_or-drop before bytes (count - 1) 0) ends.last);
    }

-- bytes that pass a test of ASCII alone
pub prefix_ends : (p : ℕ → Bool) → ((byte : ℕ) → p byte ≡ true → byte < 128) → (bytes : List ℕ) → 0 < prefix_len p bytes → EndsInAscii bytes (prefix_len p bytes)
prefix_ends p ascii bytes some = record {
  some = some;
  within = prefix_len-le-length p bytes;
  last = ascii _ (prefix_len_passes p bytes (prefix_len p bytes - 1) 0 (omega arith));
}

pub first_passes : (p : ℕ → Bool) (bytes : List ℕ) → 0 < length bytes → p (get_or bytes 0 0) ≡ true → 0 < prefix_len p bytes
first_passes p [] some passes = absurd (omega arith)
first_passes p (byte ∷ bytes) some passes = rw passes (omega arith)

pub ends_cut : (bytes : List ℕ) (count : ℕ) → IsUtf8 bytes → EndsInAscii bytes count → CanCut bytes count
ends_cut bytes count utf8 ends =
    let some = ends.some in
    let within = ends.within in
    let place : count - 1 + 1 ≡ count = omega arith in
    record {
      some = some;
      boundary = subst (λ at. IsCharBoundary bytes at) place (IsCharBoundary-after_ascii bytes (count - 1) utf8 (omega arith) ends.last);
    }

pub is_space-ascii : (byte : ℕ) → is_space byte ≡ true → byte < 128
is_space-ascii byte is = grind (arith, nat_tests)

pub space_cut : (bytes : List ℕ) → IsUtf8 bytes → 0 < length bytes → is_space (get_or bytes 0 0) ≡ true → CanCut bytes (space_length bytes)
space_cut bytes utf8 some is = ends_cut bytes (space_length bytes) utf8 (prefix_ends is_space is_space-ascii bytes (first_passes is_space bytes some is))

begins_comment-first : (bytes : List ℕ) → begins_comment bytes ≡ true → (0 < length bytes) × (not (eqb (get_or bytes 0 0) 10) ≡ true)
begins_comment-first [] is = absurd (grind (arith, nat_tests))
begins_comment-first (byte ∷ bytes) is = (omega arith, grind (arith, nat_tests))

pub line_cut : (bytes : List ℕ) → begins_comment bytes ≡ true → CanCut bytes (line_length bytes)
line_cut bytes is = record {
  some = first_passes (λ byte. not (eqb byte 10)) bytes (begins_comment-first bytes is).0 (begins_comment-first bytes is).1;
  boundary = by_cases (eqb (line_length bytes) (length bytes)) refl;
}
  where
    by_cases : (whole : Bool) → eqb (line_length bytes) (length bytes) ≡ whole → IsCharBoundary bytes (line_length bytes)
    by_cases true same = let all : length bytes ≡ line_length bytes = grind (arith, nat_tests) in subst (λ at. IsCharBoundary bytes at) all (IsCharBoundary-end bytes)
    by_cases false differ =
        let most = prefix_len-le-length (λ byte. not (eqb byte 10)) bytes in
        let within : line_length bytes < length bytes = grind (arith, nat_tests) in
        let stops = prefix_len_stops (λ byte. not (eqb byte 10)) bytes 0 within in
        IsCharBoundary-before_ascii bytes (line_length bytes) within (grind (arith, nat_tests))

pub is_ascii_digit-ascii : (byte : ℕ) → is_ascii_digit byte ≡ true → byte < 128
is_ascii_digit-ascii byte is = grind (arith, nat_tests)

pub digits_end : (bytes : List ℕ) → is_ascii_digit (get_or bytes 0 0) ≡ true → EndsInAscii bytes (digits_at bytes)
digits_end [] is = absurd (grind (arith, nat_tests))
digits_end (byte ∷ bytes) is = prefix_ends is_ascii_digit is_ascii_digit-ascii (byte ∷ bytes) (first_passes is_ascii_digit (byte ∷ bytes) (omega arith) is)

fraction_ends : (bytes : List ℕ) → 0 < digits_after_point bytes → EndsInAscii bytes (1 + digits_after_point bytes)
fraction_ends [] some = absurd (omega arith)
fraction_ends (byte ∷ bytes) some = by_cases (eqb byte 46) refl some
  where
    by_cases : (point : Bool) → eqb byte 46 ≡ point → 0 < cond point (digits_at bytes) 0 → EndsInAscii (byte ∷ bytes) (1 + cond point (digits_at bytes) 0)
    by_cases true is some = ends_past (byte ∷ bytes) 1 (digits_at bytes) (omega arith) (prefix_ends is_ascii_digit is_ascii_digit-ascii bytes some)
    by_cases false is some = absurd (omega arith)

pub number_ends : (bytes : List ℕ) (whole fraction : ℕ) → whole ≤ length bytes → fraction ≡ digits_after_point (drop whole bytes) → 0 < fraction → EndsInAscii bytes (whole + 1 + fraction)
number_ends bytes whole fraction within is some =
    let order : whole + (1 + fraction) ≡ whole + 1 + fraction = omega arith in
    subst (λ count. EndsInAscii bytes count) order (ends_past bytes whole (1 + fraction) within (rw is (fraction_ends (drop whole bytes) (rw is at some))))
