-- One row more: the first row in which a tag that is read names no variant.
use Rattle.std.proofs.Common.{◌≡◌, ◌∙◌, ◌⊎◌, inl, inr, ℕ, ◌+◌, ◌*◌, ◌/◌, ◌%◌, ◌<◌, ◌≤◌, Bool, true, false, [], ◌∷◌, length, Option, Some, None, slice_get, refl, sym, ap, subst, arith}
use Rattle.std.proofs.lemmas.Bool.{cases_lt}
use Rattle.std.proofs.lemmas.Nat.{mul-add-lt}
use Rattle.std.proofs.lemmas.Option.{slice_get_within}
use Rattle.tydi_base.proofs.PlaceLemmas.{same_or_other, slice_get-front, slice_get-next, slice_get-other}
use Rattle.physical_stream.specs.Cycles.{Cycle}
use Rattle.physical_stream.specs.declared.head.Head.{Head}
use Rattle.physical_stream.specs.declared.rule.Rule.TheVariants.{Tag}
use Rattle.type_split.specs.Streams.{PlainSplit}
use Rattle.cycle_trace.specs.RowSink.{with_row}
use Rattle.cycle_trace.specs.Trace.{TraceText}
use Rattle.cycle_trace.specs.declared.surveying.outcome.FoundOffence.{FoundOffence}
use Rattle.trace_decode.specs.Keeping.{are_named_in}
use Rattle.trace_decode.specs.Running.{IsTagWith}
use Rattle.trace_decode.specs.Standing.{HasBadTag, IsFirstTag, TagsSay}
use Rattle.trace_decode.specs.Tags.{element_at}
use Rattle.trace_decode.proofs.RowLemmas.{same_some}

-- the stream and the cycle of a row are those of its place
pub same_place : (n c s d u : ℕ) → s < n → u < n → c * n + s ≡ d * n + u → (c ≡ d) × (s ≡ u)
same_place n c s d u inside within same = by_cases (cases_lt c d) (cases_lt d c)
  where
    by_cases : (c < d) ⊎ (d ≤ c) → (d < c) ⊎ (c ≤ d) → (c ≡ d) × (s ≡ u)
    by_cases (inl less) other = absurd (omega (arith, mul-add-lt c n s d less inside))
    by_cases (inr more) (inl less) = absurd (omega (arith, mul-add-lt d n u c less within))
    by_cases (inr more) (inr most) = let even : c ≡ d = omega arith in (even, omega (arith, ap (λ (k : ℕ). k * n) even))

module _ (split : PlainSplit) (t : TraceText) (row : Cycle) (cycle at : ℕ) (place : length t.rows ≡ cycle * length t.heads + at) (within : at < length t.heads)
    (head : Head) (there : slice_get t.heads at ≡ Some head) where
  -- a bad tag of the longer list is one of the list, or one of the row
  cases : (c s : ℕ) → HasBadTag split (with_row t row) c s → HasBadTag split t c s ⊎ ((c * length t.heads + s ≡ length t.rows) × (are_named_in (element_at split at) head.params row ≡ false))
  cases c s bad = by_cases (same_or_other (c * length t.heads + s) (length t.rows))
    where
      by_cases : (c * length t.heads + s ≡ length t.rows) ⊎ (c * length t.heads + s ≡ length t.rows → ⊥)
          → HasBadTag split t c s ⊎ ((c * length t.heads + s ≡ length t.rows) × (are_named_in (element_at split at) head.params row ≡ false))
      by_cases (inr other) =
          inl (record { head = bad.head; there = bad.there; row = bad.row; stands = sym (slice_get-other t.rows row (c * length t.heads + s) other) ∙ bad.stands; unnamed = bad.unnamed })
      by_cases (inl same) =
          let is_at : s ≡ at = (same_place (length t.heads) c s cycle at (slice_get_within t.heads s bad.head bad.there) within (same ∙ place)).1 in
          let is_row : row ≡ bad.row = same_some (sym (slice_get-next t.rows row (c * length t.heads + s) same) ∙ bad.stands) in
          let is_head : bad.head ≡ head = same_some (sym bad.there ∙ ap (slice_get t.heads) is_at ∙ there) in
          inr (
            same,
            ap (λ (k : ℕ). are_named_in (element_at split k) head.params row) (sym is_at)
                ∙ ap (λ (h : Head). are_named_in (element_at split s) h.params row) (sym is_head) ∙ ap (are_named_in (element_at split s) bad.head.params) is_row ∙ bad.unnamed,
          )

  stays : (c s : ℕ) → HasBadTag split t c s → HasBadTag split (with_row t row) c s
  stays c s bad = record {
    head = bad.head;
    there = bad.there;
    row = bad.row;
    stands = slice_get-front t.rows (row ∷ []) (c * length t.heads + s) (slice_get_within t.rows (c * length t.heads + s) bad.row bad.stands) ∙ bad.stands;
    unnamed = bad.unnamed;
  }

  -- the first one stays
  first-stays : (found : FoundOffence) → IsFirstTag split t found → IsFirstTag split (with_row t row) found
  first-stays found is = record { rule = is.rule; bad = stays found.cycle found.stream is.bad; first = λ c s bad. by_cases c s (cases c s bad) }
    where
      before : found.cycle * length t.heads + found.stream < length t.rows
      before = slice_get_within t.rows (found.cycle * length t.heads + found.stream) is.bad.row is.bad.stands

      by_cases : (c s : ℕ) → HasBadTag split t c s ⊎ ((c * length t.heads + s ≡ length t.rows) × (are_named_in (element_at split at) head.params row ≡ false))
          → found.cycle * length t.heads + found.stream ≤ c * length t.heads + s
      by_cases c s (inl old) = is.first c s old
      by_cases c s (inr new) = omega (arith, before, new.0)

  -- there is none still
  none-more : TagsSay split t None → are_named_in (element_at split at) head.params row ≡ true → TagsSay split (with_row t row) None
  none-more none named c s bad = by_cases (cases c s bad)
    where
      by_cases : HasBadTag split t c s ⊎ ((c * length t.heads + s ≡ length t.rows) × (are_named_in (element_at split at) head.params row ≡ false)) → ⊥
      by_cases (inl old) = none c s old
      by_cases (inr new) = let unlike = sym named ∙ new.1 in cc

  -- the row has the first one
  first-here : TagsSay split t None → are_named_in (element_at split at) head.params row ≡ false → TagsSay split (with_row t row) (Some (record { cycle = cycle; stream = at; rule = Tag }))
  first-here none unnamed = record {
    rule = refl;
    bad = record { head = head; there = there; row = row; stands = slice_get-next t.rows row (cycle * length t.heads + at) (sym place); unnamed = unnamed };
    first = λ c s bad. by_cases c s (cases c s bad);
  }
    where
      by_cases : (c s : ℕ) → HasBadTag split t c s ⊎ ((c * length t.heads + s ≡ length t.rows) × (are_named_in (element_at split at) head.params row ≡ false))
          → cycle * length t.heads + at ≤ c * length t.heads + s
      by_cases c s (inl old) = absurd (none c s old)
      by_cases c s (inr new) = omega (arith, new.0, place)

  -- one row more
  pub tags-more : (tag result : Option FoundOffence) (named : Bool) (rows streams : ℕ) → rows / streams ≡ cycle → rows % streams ≡ at → named ≡ are_named_in (element_at split at) head.params row
      → TagsSay split t tag → IsTagWith tag named rows streams result → TagsSay split (with_row t row) result
  tags-more None result true rows streams is_cycle is_at named says is = subst (TagsSay split (with_row t row)) (sym is) (none-more says (sym named))
  tags-more None result false rows streams is_cycle is_at named says is =
      let found : FoundOffence = record { cycle = rows / streams; stream = rows % streams; rule = Tag } in
      let here : found ≡ record { cycle = cycle; stream = at; rule = Tag } =
      ap (λ (c : ℕ). let f : FoundOffence = record { cycle = c; stream = rows % streams; rule = Tag } in f) is_cycle ∙ ap (λ (s : ℕ). let f : FoundOffence = record { cycle = cycle; stream = s; rule = Tag } in f) is_at in
      subst (TagsSay split (with_row t row)) (sym (is ∙ ap (λ (f : FoundOffence). Some f) here)) (first-here says (sym named))
  tags-more (Some found) result named rows streams is_cycle is_at says_named says is = subst (TagsSay split (with_row t row)) (sym is) (first-stays found says)
