-- Things that are gone through once.
use Rattle.std.proofs.Common.{◌≡◌, ◌∙◌, ℕ, ◌-◌, ◌≤◌, Bool, true, false, nat_le, List, ◌++◌, length, take, drop, reverse, refl, sym, ap, arith}
use Rattle.std.proofs.lemmas.Bool.Decides.{nat_tests}
use Rattle.std.proofs.lemmas.List.{drop_all, length-drop, length-reverse, reverse-append, reverse-reverse, take-append-drop}
use Rattle.std.proofs.Math.Seq.{drop-append_seam}

-- the last of them come first: without the last ones, those after the first ones are left
pub kept-reversed : {T : Type 0} (items : List T) (count rest : ℕ) → count ≤ length items → rest ≡ length items - count → reverse (take rest items) ≡ drop count (reverse items)
kept-reversed items count rest few is =
    let back = drop rest items in
    let long : length (reverse back) ≡ count = length-reverse back ∙ length-drop rest items ∙ omega (arith, few, is) in
    sym (ap (λ l. drop count (reverse l)) (sym (take-append-drop rest items)) ∙ ap (drop count) (reverse-append (take rest items) back)
    ∙ ap (λ (n : ℕ). drop n (reverse back ++ reverse (take rest items))) (sym long) ∙ drop-append_seam (reverse back) (reverse (take rest items)))

-- those behind the first ones, the last of them first
pub behind-reversed : {T : Type 0} (list reversed kept : List T) (passed count : ℕ) → reversed ≡ reverse list → count ≡ length reversed - passed → kept ≡ take count reversed
    → reverse kept ≡ drop passed list
behind-reversed list reversed kept passed count is many cut = by_test (nat_le passed (length list)) refl
  where
    long : length reversed ≡ length list
    long = ap length is ∙ length-reverse list

    by_test : (test : Bool) → nat_le passed (length list) ≡ test → reverse kept ≡ drop passed list
    by_test true told =
        let few : passed ≤ length reversed = grind (arith, nat_tests, told, long) in
        ap reverse cut ∙ kept-reversed reversed passed count few many ∙ ap (λ l. drop passed (reverse l)) is ∙ ap (drop passed) (reverse-reverse list)
    by_test false told =
        let past : length list ≤ passed = grind (arith, nat_tests, told) in
        let none : count ≡ 0 = omega (arith, many, long, past) in
        ap reverse (cut ∙ ap (λ (n : ℕ). take n reversed) none) ∙ sym (drop_all passed list past)
