-- The places of a chain's ring.
use Rattle.std.proofs.Common.{◌≡◌, ◌∙◌, ℕ, zero, suc, ◌+◌, ◌-◌, ◌*◌, ◌/◌, ◌%◌, ◌<◌, ◌≤◌, ◌⊎◌, inl, inr, Bool, true, false, List, [], ◌∷◌, length, drop, sum, slice_get, slice_index, slice_set, Some, refl, sym, ap, subst, arith}
use Rattle.std.proofs.Math.Nat.{suc-mul}
use Rattle.std.proofs.lemmas.Bool.{cases_lt}
use Rattle.std.proofs.lemmas.List.{length-set}
use Rattle.std.proofs.lemmas.List.Sums.{sum_by-cons}
use Rattle.std.proofs.lemmas.Nat.{div-add-mod', mul-le}
use Rattle.physical_stream.specs.declared.transfer.Transfer.{Transfer}
use Rattle.handshake.proofs.CursorLemmas.{drop-get, drop-next}
use Rattle.elastic_net.specs.Orders.{how_many}
use Rattle.elastic_net.specs.States.{beyond}
use Rattle.elastic_net.specs.Standing.{KeepsNumbers, KeepsPlaces, taken_of}
use Rattle.elastic_net.proofs.NumberLemmas.{beyond-split}

-- two numbers that are less than the ring's size apart have two places
pub mod-apart : (t b n : ℕ) → t < b → b - t < n → t % n ≡ b % n → ⊥
mod-apart t b n less near same = by_lt (cases_lt (t / n) (b / n))
  where
    first : (t / n) * n + t % n ≡ t
    first = div-add-mod' t n

    second : (b / n) * n + b % n ≡ b
    second = div-add-mod' b n

    by_lt : ((t / n) < (b / n)) ⊎ ((b / n) ≤ (t / n)) → ⊥
    by_lt (inr le) =
        let more : (b / n) * n ≤ (t / n) * n = mul-le (b / n) n (t / n) n le (omega arith) in
        omega (arith, first, second, more, same, less)
    by_lt (inl lower) =
        let more : suc (t / n) * n ≤ (b / n) * n = mul-le (suc (t / n)) n (b / n) n (omega arith) (omega arith) in
        let one : suc (t / n) * n ≡ (t / n) * n + n = suc-mul (t / n) n in
        omega (arith, first, second, more, one, same, near)

-- the stages hold no more than their capacities together
few-on : (stages : List ℕ) (first : ℕ) (numbers : List ℕ) → ((stage : ℕ) → stage < length stages → how_many (suc (first + stage)) numbers ≤ slice_index stages stage) →
    beyond first numbers ≤ beyond (first + length stages) numbers + sum stages
few-on [] first numbers room = let e : first + 0 ≡ first = omega arith in omega (arith, ap (λ (n : ℕ). beyond n numbers) e)
few-on (capacity ∷ stages) first numbers room =
    let here : how_many (suc (first + 0)) numbers ≤ capacity = room 0 (omega arith) in
    let e : first + 0 ≡ first = omega arith in
    let at : how_many (suc (first + 0)) numbers ≡ how_many (suc first) numbers = ap (λ (n : ℕ). how_many (suc n) numbers) e in
    let more : beyond (suc first) numbers ≤ beyond (suc first + length stages) numbers + sum stages =
    few-on stages (suc first) numbers
    (λ stage less. let f : first + suc stage ≡ suc first + stage = omega arith in
    subst (λ (n : ℕ). how_many (suc n) numbers ≤ slice_index stages stage) f (room (suc stage) (omega (arith, less)))) in
    let g : suc first + length stages ≡ first + suc (length stages) = omega arith in
    let total : sum (capacity ∷ stages) ≡ capacity + sum stages = sum_by-cons (λ (x : ℕ). x) capacity stages in
    omega (arith, here, at, more, ap (λ (n : ℕ). beyond n numbers) g, total, beyond-split first numbers)

pub few-inside : (stages : List ℕ) (ts : List Transfer) (numbers past : List ℕ) → KeepsNumbers stages ts numbers past → beyond 0 numbers ≤ beyond (length stages) numbers + sum stages
few-inside stages ts numbers past k =
    let e : 0 + length stages ≡ length stages = omega arith in
    let all : beyond 0 numbers ≤ beyond (0 + length stages) numbers + sum stages =
    few-on stages 0 numbers (λ stage less. let f : stage ≡ 0 + stage = omega arith in subst (λ (n : ℕ). how_many (suc n) numbers ≤ slice_index stages stage) f (k.room stage less)) in
    omega (arith, all, ap (λ (n : ℕ). beyond n numbers) e)

-- ---- a place that is written

pub get-set_same : {A : Type 0} (xs : List A) (i : ℕ) (x : A) → i < length xs → slice_get (slice_set xs i x) i ≡ Some x
get-set_same [] i x less = absurd (omega (arith, less))
get-set_same (y ∷ xs) zero x less = refl
get-set_same (y ∷ xs) (suc i) x less = get-set_same xs i x (omega (arith, less))

pub get-set_other : {A : Type 0} (xs : List A) (i j : ℕ) (x : A) → (j ≡ i → ⊥) → slice_get (slice_set xs i x) j ≡ slice_get xs j
get-set_other [] i j x apart = refl
get-set_other (y ∷ xs) zero zero x apart = absurd (apart refl)
get-set_other (y ∷ xs) zero (suc j) x apart = refl
get-set_other (y ∷ xs) (suc i) zero x apart = refl
get-set_other (y ∷ xs) (suc i) (suc j) x apart = get-set_other xs i j x (λ same. apart (ap suc same))

pub drop-some : {A : Type 0} (xs : List A) (n : ℕ) (x : A) (more : List A) → drop n xs ≡ x ∷ more → n < length xs
drop-some [] zero x more is = cc
drop-some [] (suc n) x more is = cc
drop-some (y ∷ xs) zero x more is = omega arith
drop-some (y ∷ xs) (suc n) x more is = omega (arith, drop-some xs n x more is)

-- the next transfer of the feed is in its place
pub ring-filled : (stages : List ℕ) (ts : List Transfer) (numbers past : List ℕ) (places rest new : List Transfer) (into : Transfer) (slot : ℕ) → KeepsNumbers stages ts numbers past →
    KeepsPlaces stages ts numbers false places rest → rest ≡ into ∷ new → slot ≡ beyond 0 numbers % length places → slot < length places → KeepsPlaces stages ts numbers true (slice_set places slot into) new
ring-filled stages ts numbers past places rest new into slot k r fed at within = record {
  size = omega (arith, r.size, long);
  within = drop-some ts (beyond 0 numbers) into new (r.left ∙ fed);
  left = drop-next ts (beyond 0 numbers) into new (r.left ∙ fed);
  held = λ t upto less. subst (λ (n : ℕ). slice_get (slice_set places slot into) (t % n) ≡ slice_get ts t) (sym long) (by_lt t upto less (cases_lt t (beyond 0 numbers)));
}
  where
    long : length (slice_set places slot into) ≡ length places
    long = length-set places slot into

    by_lt : (t : ℕ) → beyond (length stages) numbers ≤ suc t → t < suc (beyond 0 numbers) → (t < beyond 0 numbers) ⊎ (beyond 0 numbers ≤ t) → slice_get (slice_set places slot into) (t % length places) ≡ slice_get ts t
    by_lt t upto less (inl lower) =
        let few : beyond 0 numbers ≤ beyond (length stages) numbers + sum stages = few-inside stages ts numbers past k in
        let near : beyond 0 numbers - t < length places = omega (arith, few, upto, r.size) in
        get-set_other places slot (t % length places) into (λ same. mod-apart t (beyond 0 numbers) (length places) lower near (same ∙ at)) ∙ r.held t upto lower
    by_lt t upto less (inr le) =
        let here : t ≡ beyond 0 numbers = omega (arith, le, less) in
        subst (λ (n : ℕ). slice_get (slice_set places slot into) (n % length places) ≡ slice_get ts n) (sym here)
        (subst (λ (n : ℕ). slice_get (slice_set places slot into) n ≡ slice_get ts (beyond 0 numbers)) at
        (get-set_same places slot into within ∙ sym (drop-get ts (beyond 0 numbers) into new (r.left ∙ fed))))

-- as many transfers are taken from the feed, and more have left the chain
pub ring-kept : (stages : List ℕ) (ts : List Transfer) (numbers later : List ℕ) (holds after : Bool) (places rest : List Transfer) → KeepsPlaces stages ts numbers holds places rest →
    taken_of later after ≡ taken_of numbers holds → beyond (length stages) numbers ≤ beyond (length stages) later → KeepsPlaces stages ts later after places rest
ring-kept stages ts numbers later holds after places rest r same more = record {
  size = r.size;
  within = omega (arith, r.within, same);
  left = ap (λ (n : ℕ). drop n ts) same ∙ r.left;
  held = λ t upto less. r.held t (omega (arith, more, upto)) (omega (arith, less, same));
}
