-- Lanes that mark no end, and a walk over them.
use Rattle.std.proofs.Common.{◌≡◌, ◌∙◌, ℕ, zero, suc, ◌+◌, ◌-◌, ◌*◌, ◌/◌, ◌%◌, ◌^◌, ◌<◌, ◌≤◌, Bool, true, false, ◌==◌, IfSome, MatchOption, cond, if◌then◌else◌, List, [], ◌∷◌, ◌++◌, get_or, Option, Some, refl, sym, ap, subst, arith}
use Rattle.std.specs.Bool.{then_some}
use Rattle.std.specs.Int.{bit_at}
use Rattle.std.specs.Int.Count.{ones}
use Rattle.std.proofs.Math.Nat.{add-mul, add-zero, div-mul-le_self, mul_comm, mul-le-mul_right}
use Rattle.std.proofs.Math.Numerals.{add-one}
use Rattle.std.proofs.lemmas.Nat.{mul-add-lt, shr-shr, zero_from_ones}
use Rattle.std.proofs.lemmas.Nat.Bits.{bit_at_lowest, bit_at-suc, bit_at-zero}
use Rattle.std.proofs.lemmas.Option.{cond_some}
use Rattle.tydi_base.specs.Bits.{number_of_bits}
use Rattle.tydi_base.specs.Hex.{no_ones}
use Rattle.tydi_base.specs.Numbers.{number_below}
use Rattle.physical_stream.specs.Params.{Parameters}
use Rattle.physical_stream.specs.Items.{is_active, last_bit, lane_closes, lane_items, lane_word, parts_below}
use Rattle.physical_stream.specs.declared.item.Item.{Item}
use Rattle.physical_stream.specs.declared.item.Item.TheVariants as items
use Rattle.physical_stream.specs.declared.item.Tail.{Tail}
use Rattle.physical_stream.specs.declared.item.Tail.TheVariants as tails
use Rattle.physical_stream.specs.declared.transfer.Transfer.{Transfer}
use Rattle.complexity_rules.specs.Unmarked.{active_lanes, AreUnmarked, AreZeros, ShowsMarks}
use Rattle.complexity_rules.specs.Walk.{Finds}
use Rattle.complexity_rules.specs.declared.walk.Walk.{Walk}
use Rattle.complexity_rules.proofs.LaneLemmas.{closes}
use Rattle.complexity_rules.proofs.WalkLemmas.{Finds-element, Finds-none}

-- ---- the last bits as a number

-- a word has no one where its number has none
number-clear : (bits : List Bool) (place : ℕ) → bit_at (number_of_bits bits) place ≡ 0 → get_or bits place false ≡ false
unfolding number_of_bits
number-clear [] place clear = refl
number-clear (false ∷ bits) zero clear = refl
number-clear (true ∷ bits) zero clear =
    let odd : (1 + 2 * number_of_bits bits) % 2 ≡ 0 = sym (bit_at_lowest (1 + 2 * number_of_bits bits)) ∙ clear in absurd (omega arith)
number-clear (bit ∷ bits) (suc place) clear = number-clear bits place (by_bit bit clear)
  where
    by_bit : (bit : Bool) → bit_at (cond bit 1 0 + 2 * number_of_bits bits) (suc place) ≡ 0 → bit_at (number_of_bits bits) place ≡ 0
    by_bit false clear =
        let half : (0 + 2 * number_of_bits bits) / 2 ≡ number_of_bits bits = omega arith in
        ap (λ (n : ℕ). bit_at n place) (sym half) ∙ sym (bit_at-suc (0 + 2 * number_of_bits bits) place) ∙ clear
    by_bit true clear =
        let half : (1 + 2 * number_of_bits bits) / 2 ≡ number_of_bits bits = omega arith in
        ap (λ (n : ℕ). bit_at n place) (sym half) ∙ sym (bit_at-suc (1 + 2 * number_of_bits bits) place) ∙ clear

pub shows_marks : (t : Transfer) (most : ℕ) (marks : Option ℕ) → marks ≡ number_below most t.last → ShowsMarks marks t
unfolding number_below
shows_marks t most marks is number place found clear =
    let parts = cond_some (no_ones _) (number_of_bits t.last) number (sym is ∙ found) in
    number-clear t.last place (ap (λ (n : ℕ). bit_at n place) parts.1 ∙ clear)

-- lanes are unmarked where the number has no one at their places
unmarked_by : (p : Parameters) (t : Transfer) (marks : Option ℕ) (number from to : ℕ) → ShowsMarks marks t → marks ≡ Some number →
    ((place : ℕ) → place < (to - from) * p.dims → bit_at number (from * p.dims + place) ≡ 0) → AreUnmarked p t from to
unmarked_by p t marks number from to shows is clear lane dim after before within =
    let steps : lane ≡ from + (lane - from) = omega arith in
    let place : lane * p.dims + dim ≡ from * p.dims + ((lane - from) * p.dims + dim) =
    ap (λ (n : ℕ). n * p.dims + dim) steps ∙ ap (λ (n : ℕ). n + dim) (add-mul from (lane - from) p.dims) ∙ omega arith in
    let inside : (lane - from) * p.dims + dim < (to - from) * p.dims =
    omega (arith, mul-add-lt (lane - from) p.dims dim (to - from) (omega arith) within, mul_comm p.dims (to - from)) in
    shows number (lane * p.dims + dim) is (ap (bit_at number) place ∙ clear ((lane - from) * p.dims + dim) inside)

pub place_of : (lane width from inside dims : ℕ) → lane ≡ from → width ≡ inside → inside ≡ dims → lane * width ≡ from * dims
place_of lane width from inside dims at as_wide same = ap (λ (n : ℕ). n * width) at ∙ ap (λ (n : ℕ). from * n) (as_wide ∙ same)

-- ---- the first one of a number from a place on

-- the rest of the number is 0
zeros-all : (number place rest : ℕ) → rest ≡ number / 2 ^ place → rest ≡ 0 → (count : ℕ) → AreZeros number place count
zeros-all number place rest is none count next within =
    ap (λ (n : ℕ). n % 2) (sym (shr-shr number place next)) ∙ ap (λ (n : ℕ). bit_at n next) (sym is ∙ none) ∙ bit_at-zero next

-- the rest of it begins with so many zeros
zeros-before : (number place rest zeros : ℕ) → rest ≡ number / 2 ^ place → ((next : ℕ) → next < zeros → bit_at rest next ≡ 0) → AreZeros number place zeros
zeros-before number place rest zeros is lowest next within = ap (λ (n : ℕ). n % 2) (sym (shr-shr number place next)) ∙ ap (λ (n : ℕ). bit_at n next) (sym is) ∙ lowest next within

-- the answer about the first one, where the rest of the number is this
pub first_one-told : (number place rest zeros : ℕ) (some : Bool) (found : Option ℕ) → rest ≡ number / 2 ^ place → (some ≡ false → rest ≡ 0) → (some ≡ true → (next : ℕ) → next < zeros → bit_at rest next ≡ 0)
    → found ≡ then_some some zeros → MatchOption found ((count : ℕ) → AreZeros number place count) (AreZeros number place)
first_one-told number place rest zeros false found is none lowest told = subst (λ (o : Option ℕ). MatchOption o ((count : ℕ) → AreZeros number place count) (AreZeros number place)) (sym told) (zeros-all number place rest is (none refl))
first_one-told number place rest zeros true found is none lowest told = subst (λ (o : Option ℕ). MatchOption o ((count : ℕ) → AreZeros number place count) (AreZeros number place)) (sym told) (zeros-before number place rest zeros is (lowest refl))

-- and there is one where it says
pub first_one-set : (number place rest count : ℕ) (some : Bool) (found : Option ℕ) → rest ≡ number / 2 ^ place → (some ≡ true → bit_at rest count ≡ 1) → found ≡ then_some some count →
    IfSome found (λ at. bit_at number (place + at) ≡ 1)
first_one-set number place rest count false found is one told = subst (λ (o : Option ℕ). IfSome o (λ at. bit_at number (place + at) ≡ 1)) (sym told) tt
first_one-set number place rest count true found is one told =
    subst (λ (o : Option ℕ). IfSome o (λ at. bit_at number (place + at) ≡ 1)) (sym told)
    (ap (λ (n : ℕ). n % 2) (sym (shr-shr number place count)) ∙ ap (λ (n : ℕ). bit_at n count) (sym is) ∙ one refl)

-- no lane is marked where the number has zeros alone from the first of them on
pub unmarked_all : (p : Parameters) (t : Transfer) (marks : Option ℕ) (number from to start : ℕ) → ShowsMarks marks t → marks ≡ Some number → start ≡ from * p.dims →
    ((count : ℕ) → AreZeros number start count) → AreUnmarked p t from to
unmarked_all p t marks number from to start shows is at zeros =
    unmarked_by p t marks number from to shows is (λ place within. ap (λ (n : ℕ). bit_at number (n + place)) (sym at) ∙ zeros (suc place) place (omega arith))

-- none of the lanes before the first one of the number is marked
pub unmarked_before : (p : Parameters) (t : Transfer) (marks : Option ℕ) (number from to start zeros : ℕ) → ShowsMarks marks t → marks ≡ Some number → start ≡ from * p.dims →
    AreZeros number start zeros → to - from ≤ zeros / p.dims → AreUnmarked p t from to
unmarked_before p t marks number from to start zeros shows is at clear few =
    unmarked_by p t marks number from to shows is (λ place within.
    let most : (to - from) * p.dims ≤ zeros = omega (arith, mul-le-mul_right p.dims few, div-mul-le_self zeros p.dims) in
    ap (λ (n : ℕ). bit_at number (n + place)) (sym at) ∙ clear place (omega arith))

-- ---- a walk over unmarked lanes

unmarked_closes : (bits : ℕ → Bool) (n : ℕ) → ((dim : ℕ) → dim < n → bits dim ≡ false) → parts_below (closes bits) n ≡ []
unmarked_closes bits zero unmarked = refl
unmarked_closes bits (suc n) unmarked =
    ap (λ (is : List Item). is ++ closes bits n) (unmarked_closes bits n (λ dim within. unmarked dim (omega arith)))
    ∙ ap (λ (b : Bool). if b then items.Close n ∷ [] else []) (unmarked n (omega arith))

-- the findings of a walk after so many elements more
abbrev pub past_elements : ℕ → ℕ → Walk → Walk
past_elements dims zero walk = walk
past_elements dims (suc count) walk = record {
  tail = Some tails.Elem;
  active = true;
  first_close = walk.first_close;
  misplaced = walk.misplaced;
  packets = walk.packets + cond (dims == 0) (suc count) 0;
}

one_element_more : (dims count : ℕ) (walk : Walk) →
    ◌≡◌ {A = Walk} (record {
      tail = Some tails.Elem;
      active = true;
      first_close = (past_elements dims count walk).first_close;
      misplaced = (past_elements dims count walk).misplaced;
      packets = (past_elements dims count walk).packets + cond (dims == 0) 1 0;
    }) (past_elements dims (suc count) walk)
one_element_more dims zero walk = refl
one_element_more dims (suc count) walk = ap (λ (n : ℕ). record { tail = Some tails.Elem; active = true; first_close = walk.first_close; misplaced = walk.misplaced; packets = n }) (counts (dims == 0))
  where
    counts : (flat : Bool) → walk.packets + cond flat (suc count) 0 + cond flat 1 0 ≡ walk.packets + cond flat (suc (suc count)) 0
    counts false = omega arith
    counts true = omega arith

Finds-lane : (p : Parameters) (t : Transfer) (begins : Option Tail) (over : List Item) (lane count : ℕ) (walk : Walk) → lane_closes p t lane ≡ [] →
    Finds p.dims begins over (past_elements p.dims count walk) → Finds p.dims begins (over ++ lane_items p t lane) (past_elements p.dims (count + cond (is_active t lane) 1 0) walk)
Finds-lane p t begins over lane count walk unmarked found = by_active (is_active t lane)
  where
    by_active : (active : Bool) → Finds p.dims begins (over ++ ((if active then items.Elem (lane_word p t lane) ∷ [] else []) ++ lane_closes p t lane)) (past_elements p.dims (count + cond active 1 0) walk)
    by_active false =
        subst (λ (n : ℕ). Finds p.dims begins (over ++ lane_closes p t lane) (past_elements p.dims n walk)) (sym (add-zero count))
        (subst (λ (is : List Item). Finds p.dims begins (over ++ is) (past_elements p.dims count walk)) (sym unmarked) (Finds-none p.dims begins over (past_elements p.dims count walk) found))
    by_active true =
        subst (λ (n : ℕ). Finds p.dims begins (over ++ (items.Elem (lane_word p t lane) ∷ lane_closes p t lane)) (past_elements p.dims n walk)) (sym (add-one count))
        (subst (λ (is : List Item). Finds p.dims begins (over ++ (items.Elem (lane_word p t lane) ∷ is)) (past_elements p.dims (suc count) walk)) (sym unmarked)
        (subst (Finds p.dims begins (over ++ items.Elem (lane_word p t lane) ∷ [])) (one_element_more p.dims count walk)
        (Finds-element p.dims begins over (lane_word p t lane) (past_elements p.dims count walk) _ refl found)))

Finds-lanes : (p : Parameters) (t : Transfer) (begins : Option Tail) (from count : ℕ) (walk : Walk) → AreUnmarked p t from (from + count) →
    Finds p.dims begins (parts_below (lane_items p t) from) walk → Finds p.dims begins (parts_below (lane_items p t) (from + count)) (past_elements p.dims (active_lanes t from count) walk)
Finds-lanes p t begins from zero walk unmarked found = subst (λ (n : ℕ). Finds p.dims begins (parts_below (lane_items p t) n) walk) (sym (add-zero from)) found
Finds-lanes p t begins from (suc count) walk unmarked found =
    let next : from + suc count ≡ suc (from + count) = omega arith in
    subst (λ (n : ℕ). Finds p.dims begins (parts_below (lane_items p t) n) (past_elements p.dims (active_lanes t from (suc count)) walk)) (sym next)
    (Finds-lane p t begins (parts_below (lane_items p t) (from + count)) (from + count) (active_lanes t from count) walk
    (unmarked_closes (last_bit p t (from + count)) p.dims (λ dim within. unmarked (from + count) dim (omega arith) (omega arith) within))
    (Finds-lanes p t begins from count walk (λ lane dim after before within. unmarked lane dim after (omega arith) within) found))

-- a walk over the lanes from one up to another, of which none marks an end and so many are active
pub Finds-unmarked : (p : Parameters) (t : Transfer) (begins : Option Tail) (from to : ℕ) (walk : Walk) → from ≤ to → AreUnmarked p t from to →
    Finds p.dims begins (parts_below (lane_items p t) from) walk → Finds p.dims begins (parts_below (lane_items p t) to) (past_elements p.dims (active_lanes t from (to - from)) walk)
Finds-unmarked p t begins from to walk order unmarked found =
    let all : from + (to - from) ≡ to = omega arith in
    subst (λ (n : ℕ). Finds p.dims begins (parts_below (lane_items p t) n) (past_elements p.dims (active_lanes t from (to - from)) walk)) all
    (Finds-lanes p t begins from (to - from) walk (λ lane dim after before within. unmarked lane dim after (omega arith) within) found)

-- none of them is active
pub no_elements : (dims count elements : ℕ) (walk : Walk) → ones elements ≡ count → elements ≡ 0 → past_elements dims count walk ≡ walk
unfolding ones
no_elements dims count elements walk counted none = let is : count ≡ 0 = sym counted ∙ ap ones none in ap (λ (n : ℕ). past_elements dims n walk) is

-- some of them are
pub some_elements : (dims count elements packets : ℕ) (walk : Walk) → ones elements ≡ count → (elements ≡ 0 → ⊥) → packets ≡ walk.packets + cond (dims == 0) count 0 →
    past_elements dims count walk ≡ record { tail = Some tails.Elem; active = true; first_close = walk.first_close; misplaced = walk.misplaced; packets = packets }
some_elements dims zero elements packets walk counted some packed = absurd (some (zero_from_ones elements counted))
some_elements dims (suc count) elements packets walk counted some packed =
    ap (λ (n : ℕ). record { tail = Some tails.Elem; active = true; first_close = walk.first_close; misplaced = walk.misplaced; packets = n }) (sym packed)
