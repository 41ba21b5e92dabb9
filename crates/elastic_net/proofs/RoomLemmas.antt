-- Whether the place behind a component has room.
use Rattle.std.proofs.Common.{◌≡◌, ◌∙◌, ℕ, zero, suc, ◌+◌, ◌-◌, ◌<◌, ◌≤◌, Bool, nat_lt, if◌then◌else◌, List, [], ◌∷◌, length, get_or, slice_get, slice_index, None, Some, refl, sym, ap, arith}
use Rattle.std.proofs.lemmas.List.{get_or_read}
use Rattle.physical_stream.specs.declared.transfer.Transfer.{Transfer}
use Rattle.elastic_net.specs.Orders.{how_many}
use Rattle.elastic_net.specs.States.{beyond}
use Rattle.elastic_net.specs.Standing.{KeepsNumbers}
use Rattle.elastic_net.proofs.NumberLemmas.{beyond-split, lt_no, lt_yes}

pub index-get : (xs : List ℕ) (i x : ℕ) → slice_get xs i ≡ Some x → slice_index xs i ≡ x
index-get [] i x is = cc
index-get (y ∷ xs) zero x is = cc
index-get (y ∷ xs) (suc i) x is = index-get xs i x is

pub none-past : {A : Type 0} (xs : List A) (i : ℕ) → slice_get xs i ≡ None → length xs ≤ i
none-past [] i is = omega arith
none-past (y ∷ xs) zero is = cc
none-past (y ∷ xs) (suc i) is = omega (arith, none-past xs i is)

pub past-none : {A : Type 0} (xs : List A) (i : ℕ) → length xs ≤ i → slice_get xs i ≡ None
past-none [] i le = refl
past-none (y ∷ xs) zero le = absurd (omega arith)
past-none (y ∷ xs) (suc i) le = past-none xs i (omega (arith, le))

-- what a component reads of the counts
pub count-read : (stages : List ℕ) (ts : List Transfer) (numbers past : List ℕ) → KeepsNumbers stages ts numbers past → (component x : ℕ) → component ≤ length stages → length past ≡ suc (length stages) →
    x ≡ get_or past component x → x ≡ beyond component numbers
count-read stages ts numbers past k component x within long read = get_or_read past component x (omega arith) read 0 ∙ k.counts component within

pub room-stage : (stages : List ℕ) (ts : List Transfer) (numbers past : List ℕ) → KeepsNumbers stages ts numbers past → (ready : Bool) (component capacity most here next inside : ℕ) →
    component < length stages → length past ≡ suc (length stages) → Some capacity ≡ slice_get stages component → most ≡ capacity → here ≡ get_or past component here → next ≡ get_or past (component + 1) next → inside ≡ here - next →
    nat_lt inside most ≡ (if nat_lt component (length stages) then nat_lt (how_many (suc component) numbers) (slice_index stages component) else ready)
room-stage stages ts numbers past k ready component capacity most here next inside less long found most_is at at_next is =
    let a : here ≡ beyond component numbers = count-read stages ts numbers past k component here (omega arith) long at in
    let b : next ≡ beyond (component + 1) numbers = count-read stages ts numbers past k (component + 1) next (omega arith) long at_next in
    let one : component + 1 ≡ suc component = omega arith in
    let c : beyond (component + 1) numbers ≡ beyond (suc component) numbers = ap (λ (n : ℕ). beyond n numbers) one in
    let many : inside ≡ how_many (suc component) numbers = omega (arith, a, b, c, is, beyond-split component numbers) in
    let cap : most ≡ slice_index stages component = most_is ∙ sym (index-get stages component capacity (sym found)) in
    ap (λ (n : ℕ). nat_lt n most) many ∙ ap (nat_lt (how_many (suc component) numbers)) cap
    ∙ sym (ap (λ (b : Bool). if b then nat_lt (how_many (suc component) numbers) (slice_index stages component) else ready) (lt_yes component (length stages) less))

pub room-sink : (stages numbers : List ℕ) (ready : Bool) (component : ℕ) → None ≡ slice_get stages component →
    ready ≡ (if nat_lt component (length stages) then nat_lt (how_many (suc component) numbers) (slice_index stages component) else ready)
room-sink stages numbers ready component none =
    sym (ap (λ (b : Bool). if b then nat_lt (how_many (suc component) numbers) (slice_index stages component) else ready) (lt_no component (length stages) (none-past stages component (sym none))))
