-- Counts of instances that rise until they are settled.
use Rattle.std.proofs.Common.{◌≡◌, ◌≢◌, ◌↔◌, ◌⊎◌, inl, inr, ℕ, zero, suc, ◌+◌, ◌-◌, ◌<◌, ◌≤◌, IsTrue, Bool, true, false, ◌||◌, cond, ltb, eqb, List, [], ◌∷◌, map, length, get_or, set, Option, Some, None, refl, sym, ap, ◌∙◌, subst, arith}
use Rattle.std.specs.List.{sum_by, slice_get}
use Rattle.std.proofs.lemmas.Bool.{ltb-true, ltb-false}
use Rattle.std.proofs.lemmas.Bool.Decides.{eqb_tells}
use Rattle.std.proofs.lemmas.List.{get_or-set_same, get_or-set_other, length-set}
use Rattle.std.proofs.lemmas.List.Sums.{sum_by-cons, sum_by-set}
use Rattle.std.proofs.lemmas.Option.{slice_get-map, slice_get_past}
use Rattle.til_resolve.specs.PlainProject.{PlainStreamlet, plain_streamlet}
use Rattle.til_resolve.specs.SoundProject.{instances_inside}
use Rattle.til_resolve.specs.declared.project.Instance.{Instance}
use Rattle.til_resolve.specs.declared.project.Streamlet.{Streamlet}
use Rattle.link_check.specs.Counts.{entry, counted, IsBelow, HasSettled, IsRaised, room}
use Rattle.link_check.specs.Sizes.{instances_found, instances_at, instances_down, IsTooLarge}
use Rattle.link_check.proofs.TestLemmas.{clash}

-- ---- sums

sum_by-rises : (f g : Instance → ℕ) (xs : List Instance) → ((x : Instance) → f x ≤ g x) → sum_by f xs ≤ sum_by g xs
sum_by-rises f g [] rises = omega arith
sum_by-rises f g (x ∷ xs) rises = omega (arith, sum_by-cons f x xs, sum_by-cons g x xs, rises x, sum_by-rises f g xs rises)

-- ---- instances down to a level

down-more : (streamlets : List PlainStreamlet) (levels number : ℕ) → instances_down streamlets levels number ≤ instances_down streamlets (suc levels) number
down-more streamlets zero number = omega arith
down-more streamlets (suc levels) number =
    sum_by-rises (λ (one : Instance). 1 + instances_down streamlets levels one.streamlet) (λ (one : Instance). 1 + instances_down streamlets (suc levels) one.streamlet) (instances_at streamlets number)
    (λ one. omega (arith, down-more streamlets levels one.streamlet))

-- the instances of the streamlet at a number
pub instances_at-is : (streamlets : List Streamlet) (number : ℕ) (one : Streamlet) → number < length streamlets → one ≡ get_or streamlets number one
    → instances_at (map plain_streamlet streamlets) number ≡ instances_inside one.body
instances_at-is streamlets number one within is = ap instances_found (slice_get-map plain_streamlet streamlets number ∙ ap (λ (o : Option Streamlet). some o) (there streamlets number one within is))
  where
    some : Option Streamlet → Option PlainStreamlet
    some None = None
    some (Some streamlet) = Some (plain_streamlet streamlet)

    there : (xs : List Streamlet) (n : ℕ) (x : Streamlet) → n < length xs → x ≡ get_or xs n x → slice_get xs n ≡ Some x
    there [] n x within is = absurd (omega (arith, within))
    there (y ∷ xs) zero x within is = ap (λ z. Some z) (sym is)
    there (y ∷ xs) (suc n) x within is = there xs n x (omega (arith, within)) is

-- ---- one count more

module _ (streamlets : List PlainStreamlet) where
  raised-below : (counts : List ℕ) (number count : ℕ) → number < length counts → count ≡ counted counts (instances_at streamlets number)
      → IsBelow streamlets counts → IsBelow streamlets (set counts number count)
  raised-below counts number count within is below = record {
    levels = suc below.levels;
    below = λ n. by n (eqb_tells n number);
  }
    where
      by : (n : ℕ) → ((eqb n number ≡ true) × (n ≡ number)) ⊎ ((eqb n number ≡ false) × (n ≢ number)) → entry (set counts number count) n ≤ instances_down streamlets (suc below.levels) n
      by n (inl same) =
          let here : entry (set counts number count) n ≡ count = ap (entry (set counts number count)) same.1 ∙ get_or-set_same counts number count 0 within in
          let sums = sum_by-rises (λ (one : Instance). 1 + entry counts one.streamlet) (λ (one : Instance). 1 + instances_down streamlets below.levels one.streamlet) (instances_at streamlets number)
          (λ one. omega (arith, below.below one.streamlet)) in
          let there : instances_down streamlets (suc below.levels) n ≡ instances_down streamlets (suc below.levels) number = ap (instances_down streamlets (suc below.levels)) same.1 in
          omega (arith, here, is, sums, there)
      by n (inr apart) =
          let here : entry (set counts number count) n ≡ entry counts n = get_or-set_other counts number n count 0 apart.1 in
          omega (arith, here, below.below n, down-more streamlets below.levels n)

  raised-room : (counts : List ℕ) (number count : ℕ) → number < length counts → count ≡ counted counts (instances_at streamlets number) → entry counts number < count
      → room (set counts number count) + 1 ≤ room counts
  raised-room counts number count within is less = omega (arith, sum_by-set (λ c. 65537 - c) counts number count 0 within, is, less)

-- the counts before a number were raised where they were too low
pub record Raises (streamlets : List PlainStreamlet) (initial counts : List ℕ) (raised : Bool) (number : ℕ) : Type 0 where
  pub long : length counts ≡ length initial
  pub below : IsBelow streamlets initial → IsBelow streamlets counts
  pub settled : raised ≡ false → HasSettled streamlets counts number
  pub less : room counts + cond raised 1 0 ≤ room initial

-- whichever count is raised, those are settled that were, and the one of its number
pub raises : (streamlets : List PlainStreamlet) (initial counts new : List ℕ) (number end after : ℕ) (raised up : Bool) → number < length initial
    → IsRaised counts number (counted counts (instances_at streamlets number)) new up
    → ((n : ℕ) → n < after → (n < end) ⊎ (n ≡ number))
    → Raises streamlets initial counts raised end → Raises streamlets initial new (up || raised) after
raises streamlets initial counts new number end after raised up within one covers before =
    by (ltb (entry counts number) count) refl
  where
    count : ℕ
    count = counted counts (instances_at streamlets number)

    known : (b : Bool) → 0 ≤ cond b 1 0
    known b = omega arith

    grown : (b : Bool) → ltb (entry counts number) count ≡ b → Raises streamlets initial (cond b (set counts number count) counts) (b || raised) after
    grown true less =
        let low = ltb-true (entry counts number) count less in
        let inside : number < length counts = omega (arith, before.long, within) in
        record {
          long = length-set counts number count ∙ before.long;
          below = λ h. raised-below streamlets counts number count inside refl (before.below h);
          settled = λ e. clash (sym e);
          less = omega (arith, raised-room streamlets counts number count inside refl low, before.less, known raised);
        }
    grown false most =
        let high = ltb-false (entry counts number) count most in
        record {
          long = before.long;
          below = before.below;
          settled = λ e n low. settled_at e n (covers n low) high;
          less = before.less;
        }
      where
        settled_at : raised ≡ false → (n : ℕ) → (n < end) ⊎ (n ≡ number) → count ≤ entry counts number → counted counts (instances_at streamlets n) ≤ entry counts n
        settled_at e n (inl below) high = before.settled e n below
        settled_at e n (inr same) high = subst (λ m. counted counts (instances_at streamlets m) ≤ entry counts m) (sym same) high

    by : (b : Bool) → ltb (entry counts number) count ≡ b → Raises streamlets initial new (up || raised) after
    by b e = subst (λ (those : List ℕ). Raises streamlets initial those (up || raised) after) (sym (one.value ∙ ap (λ t. cond t (set counts number count) counts) e))
        (subst (λ t. Raises streamlets initial (cond b (set counts number count) counts) (t || raised) after) (sym (one.is ∙ e)) (grown b e))

-- the next number is settled too
pub covers-next : (number n : ℕ) → n < number + 1 → (n < number) ⊎ (n ≡ number)
covers-next number n low = by (eqb_tells n number)
  where
    by : ((eqb n number ≡ true) × (n ≡ number)) ⊎ ((eqb n number ≡ false) × (n ≢ number)) → (n < number) ⊎ (n ≡ number)
    by (inl same) = inr same.1
    by (inr apart) = inl (omega (arith, low, apart.1))

-- ---- settled counts

-- where no count is over the limit, none is too low
settled-all : (streamlets : List PlainStreamlet) (counts : List ℕ) → length counts ≡ length streamlets → HasSettled streamlets counts (length counts)
    → ((number : ℕ) → entry counts number ≤ 65536) → (levels number : ℕ) → instances_down streamlets levels number ≤ entry counts number
settled-all streamlets counts long settled small zero number = omega arith
settled-all streamlets counts long settled small (suc levels) number =
    by (ltb number (length counts)) refl
    (sum_by-rises (λ (one : Instance). 1 + instances_down streamlets levels one.streamlet) (λ (one : Instance). 1 + entry counts one.streamlet) (instances_at streamlets number)
    (λ one. omega (arith, settled-all streamlets counts long settled small levels one.streamlet)))
  where
    by : (b : Bool) → ltb number (length counts) ≡ b
        → instances_down streamlets (suc levels) number ≤ sum_by (λ (one : Instance). 1 + entry counts one.streamlet) (instances_at streamlets number)
        → instances_down streamlets (suc levels) number ≤ entry counts number
    by true within sums = omega (arith, sums, settled number (ltb-true number (length counts) within), small number)
    by false past sums =
        let none : instances_at streamlets number ≡ [] = ap instances_found (slice_get_past streamlets number (omega (arith, long, ltb-false number (length counts) past))) in
        let zero_is : instances_down streamlets (suc levels) number ≡ 0 = ap (sum_by (λ (one : Instance). 1 + instances_down streamlets levels one.streamlet)) none in
        omega (arith, zero_is)

-- some count is over the limit exactly where the design is too large
pub settled-tells : (streamlets : List PlainStreamlet) (counts : List ℕ) (found : Bool) → length counts ≡ length streamlets → HasSettled streamlets counts (length counts)
    → IsBelow streamlets counts → IsTrue found ↔ ((number : ℕ) × (65536 < entry counts number)) → IsTrue found ↔ IsTooLarge streamlets
settled-tells streamlets counts found long settled below h = (large, back found h)
  where
    large : IsTrue found → IsTooLarge streamlets
    large is = let one = h.0 is in record { levels = below.levels; number = one.0; many = omega (arith, one.1, below.below one.0) }

    back : (b : Bool) → IsTrue b ↔ ((number : ℕ) × (65536 < entry counts number)) → IsTooLarge streamlets → IsTrue b
    back true k too = refl
    back false k too =
        let small : (number : ℕ) → entry counts number ≤ 65536 = λ number. bounded number (ltb 65536 (entry counts number)) refl in
        absurd (omega (arith, too.many, settled-all streamlets counts long settled small too.levels too.number, small too.number))
      where
        bounded : (number : ℕ) (b : Bool) → ltb 65536 (entry counts number) ≡ b → entry counts number ≤ 65536
        bounded number true over = clash (k.1 (number, ltb-true 65536 (entry counts number) over))
        bounded number false within = ltb-false 65536 (entry counts number) within
