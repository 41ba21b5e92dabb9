-- Sets of keys in order, and of texts by their bytes.
use Rattle.std.proofs.Common.{◌≡◌, ℕ, Bool, true, false, not, ◌&&◌, ◌||◌, List, [], ◌∷◌, refl, sym, ap, ◌∙◌}
use Rattle.std.specs.List.{list_all, list_any}
use Rattle.std.specs.Str.{bytes_eq}
use Rattle.std.specs.declared.cmp.Ordering.{Ordering}
use Rattle.std.specs.declared.cmp.Ordering.TheVariants as orderings
use Rattle.std.specs.declared.vec.Vec.{Vec}
use Rattle.std.specs.Ordering.{is_eq, match_ordering, nat_cmp}
use Rattle.std.specs.BTreeSet.{BTreeSet, insert_key}
use Rattle.std.specs.Cmp.Lexicographic.{slice_cmp, nat_list_eq_equiv}
use Rattle.std.proofs.lemmas.Map.Text.{is_eq-slice_cmp}
use Rattle.tydi_base.specs.TextSet.{AddsText, HasTexts}

-- ---- a key that is inserted

or_twice : (a b : Bool) → (a || b) ≡ (a || (a || b))
or_twice true b = refl
or_twice false b = refl

or_swap : (a b c : Bool) → (a || (b || c)) ≡ (b || (a || c))
or_swap true true c = refl
or_swap true false c = refl
or_swap false b c = refl

-- a test with one answer for equal keys holds for a key that is inserted, or of one that was there
pub insert_key-any : {K : Type 0} (cmp : K → K → Ordering) (test : K → Bool) → ((one other : K) → cmp one other ≡ orderings.Equal → test one ≡ test other) → (keys : List K) (key : K)
    → list_any test (insert_key cmp keys key) ≡ (test key || list_any test keys)
insert_key-any cmp test alike [] key = refl
insert_key-any cmp test alike (first ∷ keys) key = by_order (insert_key-any cmp test alike keys key) (cmp key first) refl
  where
    by_order : list_any test (insert_key cmp keys key) ≡ (test key || list_any test keys) → (order : Ordering) → cmp key first ≡ order
        → list_any test (match_ordering order (key ∷ first ∷ keys) (first ∷ keys) (first ∷ insert_key cmp keys key)) ≡ (test key || (test first || list_any test keys))
    by_order behind orderings.Less is = refl
    by_order behind orderings.Equal is = or_twice (test first) (list_any test keys) ∙ ap (λ b. b || (test first || list_any test keys)) (sym (alike key first is))
    by_order behind orderings.Greater is = ap (λ b. test first || b) behind ∙ or_swap (test first) (test key) (list_any test keys)

-- ---- texts

-- equal texts are equal to the same texts
alike : (text one other : List ℕ) → slice_cmp nat_cmp one other ≡ orderings.Equal → is_eq (slice_cmp nat_cmp text one) ≡ is_eq (slice_cmp nat_cmp text other)
alike text one other is =
    let same : bytes_eq one other ≡ true = sym (is_eq-slice_cmp one other) ∙ ap is_eq is in
    let back = nat_list_eq_equiv.symm text one ∙ nat_list_eq_equiv.congr one other text same ∙ nat_list_eq_equiv.symm other text in
    is_eq-slice_cmp text one ∙ back ∙ sym (is_eq-slice_cmp text other)

pub AddsText-inserted : {Y : Type 0} (old new : BTreeSet (Vec ℕ Y)) (text : Vec ℕ Y) → new.keys ≡ insert_key (λ x y. slice_cmp nat_cmp x.items y.items) old.keys text → AddsText old new text.items
AddsText-inserted old new text is other =
    ap (list_any (λ k. is_eq (slice_cmp nat_cmp other k.items))) is
    ∙ insert_key-any (λ x y. slice_cmp nat_cmp x.items y.items) (λ k. is_eq (slice_cmp nat_cmp other k.items)) (λ x y same. alike other x.items y.items same) old.keys text
    ∙ ap (λ b. b || list_any (λ k. is_eq (slice_cmp nat_cmp other k.items)) old.keys) (is_eq-slice_cmp other text.items)

pub HasTexts-more : {Y : Type 0} (old new : BTreeSet (Vec ℕ Y)) (text : List ℕ) (texts : List (List ℕ)) → HasTexts old texts → AddsText old new text → HasTexts new (text ∷ texts)
HasTexts-more old new text texts h adds = record { same = λ other. adds other ∙ ap (λ b. bytes_eq other text || b) (h.same other) }

-- ---- texts that are not among others

-- none of the texts is one of these
abbrev pub are_new : List (List ℕ) → List (List ℕ) → Bool
are_new known texts = list_all (λ text. not (list_any (bytes_eq text) known)) texts

pub are_new-none : (texts : List (List ℕ)) → are_new [] texts ≡ true
are_new-none [] = refl
are_new-none (text ∷ texts) = are_new-none texts

four_tests : (x u y v : Bool) → (not (x || u) && (not y && v)) ≡ (not (x || y) && (not u && v))
four_tests true u y v = refl
four_tests false true true v = refl
four_tests false true false v = refl
four_tests false false true v = refl
four_tests false false false v = refl

-- one text more
pub are_new-more : (known : List (List ℕ)) (path : List ℕ) (texts : List (List ℕ)) → are_new (path ∷ known) texts ≡ (not (list_any (bytes_eq path) texts) && are_new known texts)
are_new-more known path [] = refl
are_new-more known path (text ∷ texts) =
    rw (nat_list_eq_equiv.symm text path, are_new-more known path texts)
    (four_tests (bytes_eq path text) (list_any (bytes_eq text) known) (list_any (bytes_eq path) texts) (are_new known texts))
