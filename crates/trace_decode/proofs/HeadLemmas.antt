-- The first place at which two lists of heads differ.
use Rattle.std.proofs.Common.{◌≡◌, ◌∙◌, ℕ, suc, ◌+◌, ◌<◌, ◌≤◌, List, [], ◌∷◌, ◌++◌, length, map, take, get_or, Some, slice_get, refl, sym, ap, arith, add-one}
use Rattle.std.specs.Prelude.{option_map}
use Rattle.std.proofs.Math.Nat.{lt_of_not-le}
use Rattle.std.proofs.Math.Seq.{take-suc}
use Rattle.std.proofs.lemmas.List.{take_all}
use Rattle.std.proofs.lemmas.Option.{get_or_from_slice_get, slice_get-map, slice_get_past, slice_get_read, slice_get_within}
use Rattle.tydi_base.proofs.PlaceLemmas.{slice_get-there}
use Rattle.physical_stream.specs.declared.head.Head.{Head}
use Rattle.type_split.specs.declared.split.Phys.{Phys}
use Rattle.port_drive.specs.Drives.{head_of_stream}
use Rattle.trace_decode.specs.Outcome.{DifferFirst}

-- the lists are the same before this place, which is in the first list or at its end
pub record SameBefore (one other : List Head) (place : ℕ) : Type 0 where
  pub same : take place one ≡ take place other
  pub within : place ≤ length one

-- one place more
pub same_more : (one other : List Head) (place : ℕ) (x : Head) → SameBefore one other place → slice_get one place ≡ Some x → slice_get other place ≡ Some x → SameBefore one other (place + 1)
same_more one other place x before here there =
    let inside = slice_get_within one place x here in
    record {
      same =
          ap (λ (k : ℕ). take k one) (add-one place) ∙ take-slice_get one place x here ∙ ap (λ (l : List Head). l ++ x ∷ []) before.same
          ∙ sym (take-slice_get other place x there) ∙ ap (λ (k : ℕ). take k other) (sym (add-one place));
      within = omega arith;
    }
  where
    take-slice_get : (l : List Head) (at : ℕ) (h : Head) → slice_get l at ≡ Some h → take (suc at) l ≡ take at l ++ h ∷ []
    take-slice_get l at h found = take-suc l at h (slice_get_within l at h found) ∙ ap (λ (k : Head). take at l ++ k ∷ []) (get_or_from_slice_get l at h h found)

-- the first list ends here, or has another head
pub differ_here : (one other : List Head) (place : ℕ) (x : Head) → SameBefore one other place → slice_get other place ≡ Some x → (slice_get one place ≡ Some x → ⊥) → DifferFirst one other place
differ_here one other place x before there unlike = record { same = before.same; differ = λ same. unlike (same ∙ there) }

-- the head of a stream, by its place
pub head_there : (streams : List Phys) (place : ℕ) (stream : Phys) → place < length streams → stream ≡ get_or streams place stream → slice_get (map head_of_stream streams) place ≡ Some (head_of_stream stream)
head_there streams place stream within is = slice_get-map head_of_stream streams place ∙ ap (option_map head_of_stream) (slice_get_read streams (length streams) place stream refl within is)

-- the second list ends, and so does the first or not
pub same_at_end : (one other : List Head) (place : ℕ) → SameBefore one other place → length other ≤ place → length one ≡ length other → one ≡ other
same_at_end one other place before end long =
    let past : length one ≤ place = omega arith in
    sym (take_all place one past) ∙ before.same ∙ take_all place other end

pub differ_past : (one other : List Head) (place : ℕ) → SameBefore one other place → place ≡ length other → (length one ≡ length other → ⊥) → DifferFirst one other place
differ_past one other place before end unlike = record {
  same = before.same;
  differ = λ same.
      let inside : place < length one = lt_of_not-le (λ (past : length one ≤ place). unlike (let w = before.within in omega arith)) in
      let here = slice_get-there one place inside in
      let none = sym here.1 ∙ same ∙ slice_get_past other place (omega arith) in
      cc;
}
