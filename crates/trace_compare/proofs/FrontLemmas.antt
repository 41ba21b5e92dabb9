-- Where items go on as it is expected.
use Rattle.std.proofs.Common.{◌≡◌, ◌∙◌, ℕ, zero, suc, ◌+◌, ◌-◌, ◌<◌, ◌≤◌, List, [], ◌∷◌, ◌++◌, length, take, drop, Some, slice_get, refl, sym, ap, subst, arith, add-one}
use Rattle.std.proofs.Math.Seq.{take-add, take-append-add, take-suc}
use Rattle.std.proofs.lemmas.List.{length-drop, take_all}
use Rattle.std.proofs.lemmas.Option.{get_or_from_slice_get, slice_get_within}
use Rattle.physical_stream.specs.declared.item.Item.{Item}
use Rattle.trace_compare.specs.Differences.{DifferFirst}
use Rattle.trace_compare.specs.Keeping.{IsSameFront}

-- the expected items and these are the same up to this place
pub record SameTo (want items : List Item) (place : ℕ) : Type 0 where
  pub same : take place want ≡ take place items
  pub expected : place ≤ length want
  pub within : place ≤ length items

-- one place more
pub same_more : (want items : List Item) (place : ℕ) (x : Item) → SameTo want items place → slice_get want place ≡ Some x → slice_get items place ≡ Some x → SameTo want items (place + 1)
same_more want items place x before here there =
    let inside = slice_get_within want place x here in
    let found = slice_get_within items place x there in
    record {
      same =
          ap (λ (k : ℕ). take k want) (add-one place) ∙ take-slice_get want place x here ∙ ap (λ (l : List Item). l ++ x ∷ []) before.same
          ∙ sym (take-slice_get items place x there) ∙ ap (λ (k : ℕ). take k items) (sym (add-one place));
      expected = omega arith;
      within = omega arith;
    }
  where
    take-slice_get : (l : List Item) (at : ℕ) (h : Item) → slice_get l at ≡ Some h → take (suc at) l ≡ take at l ++ h ∷ []
    take-slice_get l at h found = take-suc l at h (slice_get_within l at h found) ∙ ap (λ (k : Item). take at l ++ k ∷ []) (get_or_from_slice_get l at h h found)

-- the items of a slice up to its end
pub front_rest : (want items : List Item) (same count : ℕ) → IsSameFront (take (length want - same) (drop same want)) items count → IsSameFront (drop same want) items count
front_rest want items same count front =
    subst (λ (l : List Item). IsSameFront l items count) (take_all (length want - same) (drop same want) (omega (arith, length-drop same want))) front

-- ---- elements behind others

pub slice_get-behind : {A : Type 0} (front back : List A) (k m : ℕ) → m ≡ length front + k → slice_get (front ++ back) m ≡ slice_get back k
slice_get-behind [] back k m is = ap (slice_get back) (omega (arith, is))
slice_get-behind (x ∷ front) back k zero is = absurd (omega (arith, is))
slice_get-behind (x ∷ front) back k (suc m) is = slice_get-behind front back k m (omega (arith, is))

pub slice_get-dropped : {A : Type 0} (l : List A) (n k m : ℕ) → m ≡ n + k → slice_get (drop n l) k ≡ slice_get l m
slice_get-dropped l zero k m is = ap (slice_get l) (omega (arith, is))
slice_get-dropped [] (suc n) k m is = refl
slice_get-dropped (x ∷ l) (suc n) k zero is = absurd (omega (arith, is))
slice_get-dropped (x ∷ l) (suc n) k (suc m) is = slice_get-dropped l n k m (omega (arith, is))

-- ---- items after those that are the expected ones

module _ (want done items : List Item) (same count : ℕ) (agrees : done ≡ take same want) (long : length done ≡ same) (front : IsSameFront (drop same want) items count) where
  -- the expected items up to there
  expected_to : take (same + count) want ≡ done ++ take count items
  expected_to = take-add same count want ∙ ap (λ (l : List Item). l ++ take count (drop same want)) (sym agrees) ∙ ap (λ (l : List Item). done ++ l) front.same

  pub most_expected : same ≤ length want → same + count ≤ length want
  most_expected within = omega (arith, front.expected, length-drop same want)

  -- they are all the expected ones
  pub all_agree : length items ≤ count → done ++ items ≡ take (same + count) want
  all_agree end = ap (λ (l : List Item). done ++ l) (sym (take_all count items end)) ∙ sym expected_to

  -- the first that is another
  pub differ_there : count < length items → DifferFirst want (done ++ items) (same + count)
  differ_there less = record {
    same = expected_to ∙ sym (ap (λ (k : ℕ). take (k + count) (done ++ items)) (sym long) ∙ take-append-add done items count);
    differ = λ here. front.other less (slice_get-dropped want same count (same + count) refl ∙ here ∙ slice_get-behind done items count (same + count) (ap (λ (k : ℕ). k + count) (sym long)));
  }
