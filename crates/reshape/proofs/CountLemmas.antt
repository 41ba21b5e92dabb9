-- How many transfers are planned, front after front.
use Rattle.std.proofs.Common.{◌≡◌, ◌∙◌, ℕ, zero, suc, ◌+◌, ◌-◌, ◌<◌, ◌≤◌, true, false, List, [], ◌∷◌, length, drop, slice_get, Some, sym, ap, subst, get_or, arith}
use Rattle.std.proofs.lemmas.List.{length-drop, drop-drop}
use Rattle.std.proofs.lemmas.Option.{slice_get-get_or}
use Rattle.physical_stream.specs.Params.{Parameters}
use Rattle.physical_stream.specs.declared.item.Item.{Item}
use Rattle.scheduler.specs.Laws.{AreItems}
use Rattle.scheduler.specs.Planned.{plan_of}
use Rattle.scheduler.proofs.PlanLemmas.{plan_step}
use Rattle.scheduler.proofs.ScheduleLemmas.{plan-over}
use Rattle.reshape.specs.Fronts.{goes_on, no_front, with_item, IsBegun, IsFront}
use Rattle.reshape.specs.declared.front.Front.{Front}
use Rattle.reshape.proofs.DueLemmas.{size-some}
use Rattle.reshape.proofs.FrontLemmas.{begun-more, begun-none, front-over, front-rest, front-stops, goes-none}

-- how many transfers are planned without wishes
abbrev pub planned : Parameters → List Item → ℕ
planned p items = length (plan_of p [] [] items)

-- so many fronts are counted, and the items before this place behind them are of one that is begun
pub record IsCounting (p : Parameters) (items : List Item) (count : ℕ) (front : Front) (place : ℕ) : Type 0 where
  pub few : count + front.size ≤ place
  pub begun : IsBegun p (drop (place - front.size) items) front
  pub all : count + planned p (drop (place - front.size) items) ≡ planned p items

pub counting-none : (p : Parameters) (items : List Item) → IsCounting p items 0 no_front 0
counting-none p items = record { few = omega arith; begun = begun-none p items; all = omega arith }

abbrev nothing : List Item
nothing = []

-- one front is one transfer
one-front : (p : Parameters) (items : List Item) (front : Front) → 1 ≤ p.lanes → 0 < length items → IsFront p items front → planned p items ≡ 1 + planned p (drop front.size items)
one-front p [] front some less is_front = absurd (omega (arith, less))
one-front p (item ∷ more) front some less is_front =
    ap length (plan_step p [] [] item more some tt) ∙ ap (λ (l : List Item). suc (planned p l)) (front-rest p some (item ∷ more) front is_front) ∙ omega arith

module _ (p : Parameters) (items : List Item) (count : ℕ) (front : Front) (place : ℕ) (counting : IsCounting p items count front place) where
  start : ℕ
  start = place - front.size

  few-so : count + front.size ≤ place
  few-so = counting.few

  module _ (less : place < length items) (item : Item) (at : item ≡ get_or items place item) where
    there : slice_get items place ≡ Some item
    there = slice_get-get_or items place item less ∙ ap Some (sym at)

    next-there : slice_get (drop (place - front.size) items) front.size ≡ Some item
    next-there = behind items (place - front.size) front.size item (ap (slice_get items) (let f = few-so in omega (arith, f)) ∙ there)
      where
        behind : (xs : List Item) (n m : ℕ) (x : Item) → slice_get xs (n + m) ≡ Some x → slice_get (drop n xs) m ≡ Some x
        behind xs zero m x is = ap (slice_get xs) (let e : m ≡ zero + m = omega arith in e) ∙ is
        behind [] (suc n) m x is = absurd (none (suc n + m) is)
          where
            none : (k : ℕ) → slice_get nothing k ≡ Some x → ⊥
            none zero e = cc
            none (suc k) e = cc
        behind (y ∷ xs) (suc n) m x is = behind xs n m x (ap (slice_get (y ∷ xs)) (let e : suc (n + m) ≡ suc n + m = omega arith in e) ∙ is)

    pub room : front.size < length items
    room = let f = few-so in omega (arith, f, less)

    pub counting-more : AreItems p (item ∷ []) → goes_on p.lanes front item ≡ true → (more : Front) → more ≡ with_item front item → more.size ≡ front.size + 1 → IsCounting p items count more (place + 1)
    counting-more fit goes more is size =
        let f = few-so in
        let same : place + 1 - more.size ≡ place - front.size = omega (arith, f, size) in
        record {
          few = omega (arith, f, size);
          begun = subst (λ (n : ℕ). IsBegun p (drop n items) more) (sym same) (subst (IsBegun p (drop (place - front.size) items)) (sym is) (begun-more p (drop (place - front.size) items) front counting.begun item next-there goes fit));
          all = ap (λ (n : ℕ). count + planned p (drop n items)) same ∙ counting.all;
        }

    pub counting-next : 1 ≤ p.lanes → AreItems p (item ∷ []) → goes_on p.lanes front item ≡ false → (first : Front) → first ≡ with_item no_front item → first.size ≡ 1 → IsCounting p items (count + 1) first (place + 1)
    counting-next some fit stop first is size =
        let f = few-so in
        let is_front = front-stops p (drop (place - front.size) items) front counting.begun item next-there stop in
        let long = length-drop (place - front.size) items in
        let there_is : 0 < length (drop (place - front.size) items) = omega (arith, long, less, f) in
        let size_some = some-size (drop (place - front.size) items) is_front there_is in
        let same : place + 1 - first.size ≡ place = omega (arith, size) in
        let behind : drop front.size (drop (place - front.size) items) ≡ drop place items = drop-drop front.size (place - front.size) items ∙ ap (λ (n : ℕ). drop n items) (omega (arith, f)) in
        let one = one-front p (drop (place - front.size) items) front some there_is is_front in
        let a = counting.all in
        record {
          few = omega (arith, f, size, size_some);
          begun = subst (λ (n : ℕ). IsBegun p (drop n items) first) (sym same)
              (subst (IsBegun p (drop place items)) (sym is) (begun-more p (drop place items) no_front (begun-none p (drop place items)) item (head-there items place there) (goes-none p some item) fit));
          all = ap (λ (n : ℕ). count + 1 + planned p (drop n items)) same ∙ omega (arith, a, one, ap (planned p) behind);
        }
      where
        some-size : (left : List Item) → IsFront p left front → 0 < length left → 0 < front.size
        some-size [] is_front none = absurd (omega (arith, none))
        some-size (x ∷ left) is_front none = size-some p some x left front is_front

        head-there : (xs : List Item) (n : ℕ) → slice_get xs n ≡ Some item → slice_get (drop n xs) 0 ≡ Some item
        head-there [] zero e = e
        head-there [] (suc n) e = cc
        head-there (x ∷ xs) zero e = e
        head-there (x ∷ xs) (suc n) e = head-there xs n e

  -- all items are before this place
  module _ (some : 1 ≤ p.lanes) (most : length items ≤ place) (all_in : place ≤ length items) where
    pub counted-all : front.size ≡ 0 → count ≡ planned p items
    counted-all none =
        let f = few-so in
        let a = counting.all in
        let over = ap length (plan-over p items [] [] (place - front.size) 0 (omega (arith, most, none))) in
        omega (arith, a, over)

    pub counted-last : (front.size ≡ 0 → ⊥) → count + 1 ≡ planned p items
    counted-last not_zero =
        let f = few-so in
        let a = counting.all in
        let long = length-drop (place - front.size) items in
        let there_is : 0 < length (drop (place - front.size) items) = omega (arith, long, all_in, most, f, not_zero) in
        let is_front = front-over p (drop (place - front.size) items) front counting.begun (omega (arith, long, most, f)) in
        let one = one-front p (drop (place - front.size) items) front some there_is is_front in
        let behind : drop front.size (drop (place - front.size) items) ≡ drop place items = drop-drop front.size (place - front.size) items ∙ ap (λ (n : ℕ). drop n items) (omega (arith, f)) in
        let over = ap length (plan-over p items [] [] place 0 most) in
        omega (arith, a, one, ap (planned p) behind, over)
