-- The streams of a trace, by their heads.
use Rattle.std.proofs.Common.{◌≡◌, ◌∙◌, ℕ, zero, suc, ◌+◌, List, [], ◌∷◌, length, Some, refl, sym, ap, arith}
use Rattle.std.specs.List.{slice_get}
use Rattle.std.specs.Option.{option_map}
use Rattle.std.proofs.lemmas.Option.{slice_get_within}
use Rattle.tydi_base.proofs.PlaceLemmas.{slice_get-there}
use Rattle.physical_stream.specs.Cycles.{StreamTrace}
use Rattle.physical_stream.specs.declared.head.Head.{Head}
use Rattle.cycle_trace.specs.Trace.{TraceText, cycles_of_stream, streams_from, streams_of}

-- the stream of a head
abbrev pub stream_with : TraceText → ℕ → Head → StreamTrace
stream_with t stream head = record { params = head.params; cycles = cycles_of_stream t stream }

pub slice_get-streams : (t : TraceText) (k : ℕ) (heads : List Head) (s : ℕ) → slice_get (streams_from t k heads) s ≡ option_map (stream_with t (k + s)) (slice_get heads s)
slice_get-streams t k [] s = refl
slice_get-streams t k (h ∷ heads) zero = let here : k ≡ k + 0 = omega arith in ap (λ (n : ℕ). Some (stream_with t n h)) here
slice_get-streams t k (h ∷ heads) (suc s) =
    let there : suc k + s ≡ k + suc s = omega arith in slice_get-streams t (suc k) heads s ∙ ap (λ (n : ℕ). option_map (stream_with t n) (slice_get heads s)) there

pub stream_of_head : (t : TraceText) (s : ℕ) → slice_get (streams_of t) s ≡ option_map (stream_with t s) (slice_get t.heads s)
stream_of_head t s = let here : 0 + s ≡ s = omega arith in slice_get-streams t 0 t.heads s ∙ ap (λ (n : ℕ). option_map (stream_with t n) (slice_get t.heads s)) here

pub length-streams : (t : TraceText) (k : ℕ) (heads : List Head) → length (streams_from t k heads) ≡ length heads
length-streams t k [] = refl
length-streams t k (h ∷ heads) = let more = length-streams t (suc k) heads in omega arith

pub head_at : (t : TraceText) (s : ℕ) (trace : StreamTrace) → slice_get (streams_of t) s ≡ Some trace → (head : Head) × (slice_get t.heads s ≡ Some head) × (trace ≡ stream_with t s head)
head_at t s trace is =
    let found = slice_get-there t.heads s (omega (arith, slice_get_within (streams_of t) s trace is, length-streams t 0 t.heads)) in
    let same : Some trace ≡ Some (stream_with t s found.0) = sym is ∙ stream_of_head t s ∙ ap (option_map (stream_with t s)) found.1 in
    (found.0, found.1, cc)
