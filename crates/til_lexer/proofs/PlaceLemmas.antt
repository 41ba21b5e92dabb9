-- Bytes that pass a test, and what stands before a mark.
use Rattle.std.proofs.Common.{◌≡◌, ℕ, zero, suc, ◌+◌, ◌<◌, Bool, true, eqb, ltb, Some, List, [], ◌∷◌, length, drop, get_or, sym, ap, arith}
use Rattle.std.specs.List.{position_or_len, prefix_len}
use Rattle.std.proofs.lemmas.Bool.Decides.{nat_tests}
use Rattle.tydi_base.specs.declared.place.Place.{Place}
use Rattle.til_lexer.specs.declared.spans.Span.{Span}
use Rattle.til_lexer.specs.Spans.{IsMarked, IsSpan}
pub use Rattle.tydi_base.proofs.PlacePassing.{IsNear, after-along, near_after, near_past, offset_after, offset_past, past-along, past-suc, place_past-append}

-- one byte more passes a test
prefix-next : (test : ℕ → Bool) (bytes : List ℕ) (at : ℕ) → at < length bytes → test (get_or bytes at 0) ≡ true
    → prefix_len test (drop at bytes) ≡ suc (prefix_len test (drop (suc at) bytes))
prefix-next test [] at within passes = absurd (omega arith)
prefix-next test (byte ∷ bytes) zero within passes = rw passes (omega arith)
prefix-next test (byte ∷ bytes) (suc at) within passes = prefix-next test bytes at (omega arith) passes

pub prefix-suc : (test : ℕ → Bool) (bytes : List ℕ) (at : ℕ) → at < length bytes → test (get_or bytes at 0) ≡ true
    → prefix_len test (drop at bytes) ≡ suc (prefix_len test (drop (at + 1) bytes))
prefix-suc test bytes at within passes = let more : at + 1 ≡ suc at = omega arith in rw more (prefix-next test bytes at within passes)

-- the span before a mark that is there
pub marked : (mark : ℕ) (place : Place) (bytes : List ℕ) (span : Span) → IsSpan place bytes (position_or_len (λ byte. eqb byte mark) bytes) span → span.count < length bytes
    → IsMarked mark place bytes span
marked mark place bytes span is within =
    let there : ltb (position_or_len (λ byte. eqb byte mark) bytes) (length bytes) ≡ true = let count = is.0 in grind (arith, nat_tests) in
    (rw there (ap Some (sym is.0)), rw is.0 is.1)
