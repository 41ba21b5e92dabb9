-- The orders of names and of paths are total, and they tie exactly where names, or paths, are the same. It serves the keys of ordered tables.
use Rattle.std.specs.Prelude.{◌≡◌, ℕ, Bool, true, List, nat_eq}
use Rattle.std.proofs.Common.{true≢false, sym, ap, subst, ◌∙◌}
use Rattle.std.specs.Ordering.{nat_cmp, on, then_cmp, is_eq, eq_by_cmp, ordering_then}
use Rattle.std.specs.declared.cmp.Ordering.{Ordering}
use Rattle.std.specs.declared.cmp.Ordering.TheVariants.{Less, Equal, Greater}
use Rattle.std.specs.Bool.{Decides}
use Rattle.std.specs.Cmp.{IsTotalOrder, then_total, on_total, nat_cmp_total, tied_itself, both_ways}
use Rattle.std.specs.Cmp.Lexicographic.{pointwise, slice_cmp, nat_list_cmp_total, lists_total, lists_ties, texts_ties, bytes_decides, pointwise_decides}
use Rattle.til_resolve.specs.Ordered.{word_of, word_of_path, by_name, by_path}

-- an order that looks at a word first ties where the order behind it does
module _ {K : Type 0} (word : K → ℕ) (R : K → K → Ordering) (total : IsTotalOrder R) (same : K → K → Bool) (ties : (x y : K) → same x y ≡ eq_by_cmp R x y)
    (decides : (x y : K) → Decides (same x y) (x ≡ y)) where
  worded-total : IsTotalOrder (then_cmp (on word nat_cmp) R)
  worded-total = then_total (on_total word nat_cmp_total) total

  last_tied : (a b : Ordering) → is_eq (ordering_then a b) ≡ true → is_eq b ≡ true
  last_tied Less b e = absurd (true≢false (sym e))
  last_tied Equal b e = e
  last_tied Greater b e = absurd (true≢false (sym e))

  worded-ties : (x y : K) → same x y ≡ eq_by_cmp (then_cmp (on word nat_cmp) R) x y
  worded-ties x y = both_ways (same x y) (is_eq (then_cmp (on word nat_cmp) R x y))
      (λ e. subst (λ z. is_eq (then_cmp (on word nat_cmp) R x z) ≡ true) ((decides x y).0 e) (ap is_eq (tied_itself worded-total x)))
      (λ e. ties x y ∙ last_tied (nat_cmp (word x) (word y)) (R x y) e)

pub by_name-total : IsTotalOrder by_name
by_name-total = worded-total word_of (slice_cmp nat_cmp) nat_list_cmp_total (pointwise nat_eq) texts_ties bytes_decides

pub by_name-ties : (x y : List ℕ) → pointwise nat_eq x y ≡ eq_by_cmp by_name x y
by_name-ties = worded-ties word_of (slice_cmp nat_cmp) nat_list_cmp_total (pointwise nat_eq) texts_ties bytes_decides

pub by_path-total : IsTotalOrder by_path
by_path-total = worded-total word_of_path (slice_cmp (slice_cmp nat_cmp)) (lists_total nat_list_cmp_total) (pointwise (pointwise nat_eq)) (lists_ties (slice_cmp nat_cmp) texts_ties) (pointwise_decides bytes_decides)

pub by_path-ties : (x y : List (List ℕ)) → pointwise (pointwise nat_eq) x y ≡ eq_by_cmp by_path x y
by_path-ties = worded-ties word_of_path (slice_cmp (slice_cmp nat_cmp)) (lists_total nat_list_cmp_total) (pointwise (pointwise nat_eq)) (lists_ties (slice_cmp nat_cmp) texts_ties) (pointwise_decides bytes_decides)
