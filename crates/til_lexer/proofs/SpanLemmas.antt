-- Bytes that are passed line by line.
use Rattle.std.proofs.Common.{◌≡◌, ℕ, suc, ◌+◌, ◌-◌, ◌<◌, Bool, true, false, not, ◌&&◌, cond, eqb, ltb, ltb-false, List, [], ◌∷◌, ◌++◌, length, length-drop, take, take_all, drop, take-add, drop-drop, get_or, get_or-take, refl, sym, ap, ◌∙◌, arith}
use Rattle.std.specs.List.{prefix_len}
use Rattle.std.proofs.lemmas.Bool.Decides.{nat_tests}
use Rattle.std.proofs.lemmas.List.Folds.{length-prefix_len}
use Rattle.std.proofs.lemmas.List.Sums.{prefix_len-drop_all, prefix_len-drop_no, prefix_len_passes}
use Rattle.tydi_base.specs.declared.place.Place.{Place}
use Rattle.tydi_base.specs.Pieces.{Lacks}
use Rattle.til_lexer.specs.declared.spans.Span.{Span}
use Rattle.til_lexer.specs.Places.{along, place_after, place_past}
use Rattle.til_lexer.specs.Spans.{IsSpan, in_line}
use Rattle.til_lexer.proofs.PlaceLemmas.{past-along, past-suc, place_past-append, prefix-suc}

in_line-lacks : (test : ℕ → Bool) (bytes : List ℕ) → Lacks 10 (take (in_line test bytes) bytes)
in_line-lacks test bytes k d inside =
    let most = length-prefix_len (λ byte. not (eqb byte 10) && test byte) bytes in
    let before : k < in_line test bytes = omega arith in
    let passes = prefix_len_passes (λ byte. not (eqb byte 10) && test byte) bytes k d before in
    rw (get_or-take (in_line test bytes) bytes k d before) (λ same. grind (arith, nat_tests))

in_line-front : (test : ℕ → Bool) (bytes : List ℕ) → prefix_len test bytes ≡ in_line test bytes + prefix_len test (drop (in_line test bytes) bytes)
in_line-front test [] = refl
in_line-front test (byte ∷ bytes) = by_cases (eqb byte 10) (test byte) refl (in_line-front test bytes)
  where
    by_cases : (ends passes : Bool) → test byte ≡ passes → prefix_len test bytes ≡ in_line test bytes + prefix_len test (drop (in_line test bytes) bytes)
        → prefix_len test (byte ∷ bytes) ≡ cond (not ends && passes) (1 + in_line test bytes) 0 + prefix_len test (drop (cond (not ends && passes) (1 + in_line test bytes) 0) (byte ∷ bytes))
    by_cases true passes is front = omega arith
    by_cases false false is front = omega arith
    by_cases false true is front =
        let step : 1 + prefix_len test bytes ≡ suc (in_line test bytes) + prefix_len test (drop (in_line test bytes) bytes) = omega arith in
        let more : 1 + in_line test bytes ≡ suc (in_line test bytes) = omega arith in
        rw (is, more) step

in_line-along : (test : ℕ → Bool) (place : Place) (bytes : List ℕ) → along place (in_line test bytes) ≡ place_past place (take (in_line test bytes) bytes)
in_line-along test place bytes = ap (along place) (sym (length-prefix_len _ bytes)) ∙ sym (past-along place (take (in_line test bytes) bytes) (in_line-lacks test bytes))

-- bytes at the front of a text pass a test, and what is left of it is all else that is to be passed
pub record Passed (test : ℕ → Bool) (place : Place) (bytes : List ℕ) (span : Span) : Type 0 where
  pub after_is : span.after ≡ place_past place (take span.count bytes)
  pub whole : prefix_len test bytes ≡ span.count + prefix_len test (drop span.count bytes)

-- the rest of a line more
pub passed-line : (test : ℕ → Bool) (place : Place) (bytes : List ℕ) (before after : Span) (more : ℕ) → Passed test place bytes before
    → more ≡ in_line test (take (length bytes - before.count) (drop before.count bytes)) → after.count ≡ before.count + more → after.after ≡ along before.after more
    → Passed test place bytes after
passed-line test place bytes before after more passed found counts moved =
    let rest = drop before.count bytes in
    let is : more ≡ in_line test rest = found ∙ ap (in_line test) (take_all (length bytes - before.count) rest (omega (arith, length-drop before.count bytes))) in
    let front : take (before.count + more) bytes ≡ take before.count bytes ++ take more rest = take-add before.count more bytes in
    let left : drop (before.count + more) bytes ≡ drop more rest = sym (drop-drop more before.count bytes) in
    let whole = passed.whole in
    let line : prefix_len test rest ≡ more + prefix_len test (drop more rest) = rw is (in_line-front test rest) in
    record {
      after_is =
          moved ∙ ap (λ p. along p more) passed.after_is ∙ rw is (in_line-along test (place_past place (take before.count bytes)) rest)
          ∙ sym (place_past-append place (take before.count bytes) (take more rest)) ∙ ap (place_past place) (sym front) ∙ ap (λ n. place_past place (take n bytes)) (sym counts);
      whole = rw (counts, left) (omega arith);
    }

-- the byte that ends a line more
pub passed-byte : (test : ℕ → Bool) (place : Place) (bytes : List ℕ) (before after : Span) (byte : ℕ) → Passed test place bytes before
    → before.count < length bytes → byte ≡ get_or bytes before.count 0 → true ≡ test byte → after.count ≡ before.count + 1 → after.after ≡ place_after before.after byte
    → Passed test place bytes after
passed-byte test place bytes before after byte passed within is passes counts moved =
    let step = prefix-suc test bytes before.count within (ap test (sym is) ∙ sym passes) in
    let whole = passed.whole in
    record {
      after_is =
          moved ∙ ap (λ b. place_after before.after b) is ∙ ap (λ p. place_after p (get_or bytes before.count 0)) passed.after_is ∙ sym (past-suc place bytes before.count within)
          ∙ ap (λ n. place_past place (take n bytes)) (sym counts);
      whole = rw counts (omega arith);
    }

-- all that passes, where nothing passes behind it
all_passed : (test : ℕ → Bool) (place : Place) (bytes : List ℕ) (span : Span) → Passed test place bytes span → prefix_len test (drop span.count bytes) ≡ 0
    → IsSpan place bytes (prefix_len test bytes) span
all_passed test place bytes span passed none =
    let whole = passed.whole in
    let all : span.count ≡ prefix_len test bytes = omega arith in
    (all, passed.after_is ∙ ap (λ n. place_past place (take n bytes)) all)

pub passed-up_to : (test : ℕ → Bool) (place : Place) (bytes : List ℕ) (span : Span) (byte : ℕ) → Passed test place bytes span
    → span.count < length bytes → byte ≡ get_or bytes span.count 0 → false ≡ test byte → IsSpan place bytes (prefix_len test bytes) span
passed-up_to test place bytes span byte passed within is fails =
    all_passed test place bytes span passed (prefix_len-drop_no test bytes span.count 0 within (ap test (sym is) ∙ sym fails))

pub passed-whole : (test : ℕ → Bool) (place : Place) (bytes : List ℕ) (span : Span) → Passed test place bytes span → false ≡ ltb span.count (length bytes)
    → IsSpan place bytes (prefix_len test bytes) span
passed-whole test place bytes span passed past = all_passed test place bytes span passed (prefix_len-drop_all test bytes span.count (ltb-false span.count (length bytes) (sym past)))
