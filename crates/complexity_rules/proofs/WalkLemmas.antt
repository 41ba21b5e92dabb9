-- The results of a walk over items, item by item and list by list.
use Rattle.std.proofs.Common.{◌≡◌, ◌≤◌, ◌∙◌, ℕ, ◌+◌, Bool, true, false, not, ◌||◌, if◌then◌else◌, List, [], ◌∷◌, ◌++◌, cond, ◌==◌, Option, None, Some, refl, sym, ap, subst, append_assoc}
use Rattle.std.proofs.Math.Bool.{or-false, or-true}
use Rattle.std.proofs.lemmas.List.{append-nil}
use Rattle.std.proofs.lemmas.List.Sums.{sum_by_push}
use Rattle.physical_stream.specs.Params.{Parameters}
use Rattle.physical_stream.specs.Items.{parts_below, lane_items, items_of}
use Rattle.physical_stream.specs.declared.transfer.Transfer.{Transfer}
use Rattle.physical_stream.specs.Counts.{ends_packet}
use Rattle.physical_stream.specs.Shape.{tail_over, may_close, has_misplaced}
use Rattle.physical_stream.specs.declared.item.Item.{Item}
use Rattle.physical_stream.specs.declared.item.Item.TheVariants as items
use Rattle.physical_stream.specs.declared.item.Tail.{Tail}
use Rattle.physical_stream.specs.declared.item.Tail.TheVariants as tails
use Rattle.physical_stream.proofs.ItemsLemmas.{parts_below-more}
use Rattle.physical_stream.proofs.ShapeLemmas.{tail_over-append, has_misplaced-append}
use Rattle.complexity_rules.specs.Walk.{has_element, first_close, first_of_two, Finds}
use Rattle.complexity_rules.specs.declared.walk.Walk.{Walk}

pub has_element-append : (a b : List Item) → has_element (a ++ b) ≡ (has_element a || has_element b)
has_element-append [] b = refl
has_element-append (items.Elem word ∷ a) b = refl
has_element-append (items.Close dim ∷ a) b = has_element-append a b

pub first_close-append : (a b : List Item) → first_close (a ++ b) ≡ first_of_two (first_close a) (first_close b)
first_close-append [] b = refl
first_close-append (items.Elem word ∷ a) b = first_close-append a b
first_close-append (items.Close dim ∷ a) b = refl

-- ---- one item more

first_of_two-none : (x : Option ℕ) → first_of_two x None ≡ x
first_of_two-none None = refl
first_of_two-none (Some x) = refl

-- over an element
pub Finds-element : (dims : ℕ) (begins : Option Tail) (over : List Item) (word : List Bool) (walk : Walk) (packets : ℕ) →
    packets ≡ walk.packets + cond (dims == 0) 1 0 → Finds dims begins over walk →
    Finds dims begins (over ++ items.Elem word ∷ [])
    (record { tail = Some tails.Elem; active = true; first_close = walk.first_close; misplaced = walk.misplaced; packets = packets })
Finds-element dims begins over word walk packets counted f = record {
  last = sym (tail_over-append begins over (items.Elem word ∷ []));
  active = sym (has_element-append over (items.Elem word ∷ []) ∙ or-true (has_element over));
  first = f.first ∙ sym (first_close-append over (items.Elem word ∷ []) ∙ first_of_two-none (first_close over));
  misplaced = f.misplaced ∙ sym (has_misplaced-append begins over (items.Elem word ∷ []) ∙ or-false (has_misplaced begins over));
  packets =
      counted ∙ ap (λ (n : ℕ). n + cond (dims == 0) 1 0) f.packets
      ∙ sym (sum_by_push (λ i. cond (ends_packet dims i) 1 0) over (items.Elem word));
}

-- over a Close
pub Finds-close : (dims : ℕ) (begins : Option Tail) (over : List Item) (dim : ℕ) (walk : Walk) (first : Option ℕ) (misplaced : Bool) (packets : ℕ) →
    first ≡ first_of_two walk.first_close (Some dim) → misplaced ≡ (walk.misplaced || not (may_close walk.tail dim)) →
    packets ≡ walk.packets + cond (dim + 1 == dims) 1 0 → Finds dims begins over walk →
    Finds dims begins (over ++ items.Close dim ∷ [])
    (record { tail = Some (tails.Close dim); active = walk.active; first_close = first; misplaced = misplaced; packets = packets })
Finds-close dims begins over dim walk first misplaced packets first_is misplaced_is counted f = record {
  last = sym (tail_over-append begins over (items.Close dim ∷ []));
  active = f.active ∙ sym (has_element-append over (items.Close dim ∷ []) ∙ or-false (has_element over));
  first = first_is ∙ ap (λ (x : Option ℕ). first_of_two x (Some dim)) f.first ∙ sym (first_close-append over (items.Close dim ∷ []));
  misplaced =
      misplaced_is ∙ ap (λ (b : Bool). b || not (may_close walk.tail dim)) f.misplaced
      ∙ ap (λ (t : Option Tail). has_misplaced begins over || not (may_close t dim)) f.last
      ∙ ap (λ (b : Bool). has_misplaced begins over || b) (sym (or-false (not (may_close (tail_over begins over) dim))))
      ∙ sym (has_misplaced-append begins over (items.Close dim ∷ []));
  packets =
      counted ∙ ap (λ (n : ℕ). n + cond (dim + 1 == dims) 1 0) f.packets
      ∙ sym (sum_by_push (λ i. cond (ends_packet dims i) 1 0) over (items.Close dim));
}

-- no item more
pub Finds-none : (dims : ℕ) (begins : Option Tail) (over : List Item) (walk : Walk) → Finds dims begins over walk → Finds dims begins (over ++ []) walk
Finds-none dims begins over walk f = subst (λ (is : List Item). Finds dims begins is walk) (sym (append-nil over)) f

-- the items of one place more, where a walk goes place by place
pub Finds-place : (dims : ℕ) (begins : Option Tail) (over : List Item) (part : ℕ → List Item) (n : ℕ) (walk : Walk) →
    Finds dims begins ((over ++ parts_below part n) ++ part n) walk → Finds dims begins (over ++ parts_below part (n + 1)) walk
Finds-place dims begins over part n walk f =
    subst (λ (is : List Item). Finds dims begins is walk)
    (append_assoc over (parts_below part n) (part n) ∙ ap (λ (is : List Item). over ++ is) (sym (parts_below-more part n))) f

-- an item that is there, or not
pub Finds-there : (dims : ℕ) (begins : Option Tail) (over : List Item) (item : Item) (there : Bool) (walk : Walk) → there ≡ true →
    Finds dims begins (over ++ item ∷ []) walk → Finds dims begins (over ++ (if there then item ∷ [] else [])) walk
Finds-there dims begins over item there walk is f =
    subst (λ (b : Bool). Finds dims begins (over ++ (if b then item ∷ [] else [])) walk) (sym is) f

pub Finds-absent : (dims : ℕ) (begins : Option Tail) (over : List Item) (item : Item) (there : Bool) (walk : Walk) → there ≡ false →
    Finds dims begins over walk → Finds dims begins (over ++ (if there then item ∷ [] else [])) walk
Finds-absent dims begins over item there walk is f =
    subst (λ (b : Bool). Finds dims begins (over ++ (if b then item ∷ [] else [])) walk) (sym is) (Finds-none dims begins over walk f)

-- the one of two walks that went over the item where it is there
pub Finds-chosen : (dims : ℕ) (begins : Option Tail) (over : List Item) (item : Item) (there : Bool) (over_item walk : Walk) →
    Finds dims begins (over ++ item ∷ []) over_item → Finds dims begins over walk → Finds dims begins (over ++ (if there then item ∷ [] else [])) (cond there over_item walk)
Finds-chosen dims begins over item true over_item walk found f = found
Finds-chosen dims begins over item false over_item walk found f = Finds-none dims begins over walk f

pub chosen-few : (there : Bool) (one other : Walk) (most : ℕ) → one.packets ≤ most → other.packets ≤ most → (cond there one other).packets ≤ most
chosen-few true one other most few less = few
chosen-few false one other most few less = less

-- two parts, one after another
pub Finds-parts : (dims : ℕ) (begins : Option Tail) (over a b : List Item) (walk : Walk) →
    Finds dims begins ((over ++ a) ++ b) walk → Finds dims begins (over ++ (a ++ b)) walk
Finds-parts dims begins over a b walk f = subst (λ (is : List Item). Finds dims begins is walk) (append_assoc over a b) f

-- the lanes before the last one, and then the last one, are all
pub Finds-all : (p : Parameters) (t : Transfer) (begins : Option Tail) (before : ℕ) (walk : Walk) → before + 1 ≡ p.lanes →
    Finds p.dims begins (parts_below (lane_items p t) before ++ lane_items p t before) walk → Finds p.dims begins (items_of p t) walk
Finds-all p t begins before walk next f =
    subst (λ (is : List Item). Finds p.dims begins is walk) (sym (parts_below-more (lane_items p t) before) ∙ ap (parts_below (lane_items p t)) next) f
