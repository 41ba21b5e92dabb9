-- The tail of items, list by list, and which Close among them may not stand.
use Rattle.std.proofs.Common.{◌≡◌, ◌∙◌, ℕ, Bool, true, false, not, ◌||◌, List, [], ◌∷◌, ◌++◌, Option, None, Some, refl, sym, ap}
use Rattle.std.proofs.Math.Bool.{or_assoc}
use Rattle.std.proofs.lemmas.Bool.{or_right}
use Rattle.physical_stream.specs.Shape.{kind_of, tail_of, tail_over, may_close, is_misplaced, has_misplaced, IsNested}
use Rattle.physical_stream.specs.declared.item.Item.{Item}
use Rattle.physical_stream.specs.declared.item.Item.TheVariants as items
use Rattle.physical_stream.specs.declared.item.Tail.{Tail}

-- ---- the tail

pub tail_over-append : (tail : Option Tail) (a b : List Item) → tail_over tail (a ++ b) ≡ tail_over (tail_over tail a) b
tail_over-append tail [] b = refl
tail_over-append tail (i ∷ a) b = tail_over-append (Some (kind_of i)) a b

pub tail_of-over_none : (is : List Item) → tail_of is ≡ tail_over None is
tail_of-over_none [] = refl
tail_of-over_none (i ∷ []) = refl
tail_of-over_none (i ∷ j ∷ more) = tail_of-over_none (j ∷ more)

-- the tail of more items is that of a walk from the tail before them
pub tail_of-over : (done is : List Item) → tail_of (done ++ is) ≡ tail_over (tail_of done) is
tail_of-over done is =
    tail_of-over_none (done ++ is) ∙ tail_over-append None done is ∙ ap (λ (t : Option Tail). tail_over t is) (sym (tail_of-over_none done))

-- ---- a Close that may not stand

pub has_misplaced-append : (tail : Option Tail) (a b : List Item) → has_misplaced tail (a ++ b) ≡ (has_misplaced tail a || has_misplaced (tail_over tail a) b)
has_misplaced-append tail [] b = refl
has_misplaced-append tail (i ∷ a) b =
    ap (λ (more : Bool). is_misplaced tail i || more) (has_misplaced-append (Some (kind_of i)) a b)
    ∙ sym (or_assoc (is_misplaced tail i) (has_misplaced (Some (kind_of i)) a) (has_misplaced (tail_over (Some (kind_of i)) a) b))

pub has_misplaced-there : (tail : Option Tail) (front rest : List Item) (dim : ℕ) → may_close (tail_over tail front) dim ≡ false →
    has_misplaced tail (front ++ items.Close dim ∷ rest) ≡ true
has_misplaced-there tail front rest dim wrong =
    has_misplaced-append tail front (items.Close dim ∷ rest)
    ∙ or_right (has_misplaced tail front) _ (ap (λ (b : Bool). not b || has_misplaced (Some (kind_of (items.Close dim))) rest) wrong)

-- items among which no Close is misplaced are nested
pub IsNested-placed : (done : List Item) → has_misplaced None done ≡ false → IsNested done
IsNested-placed done placed front rest dim splits = by_close (may_close (tail_of front) dim) refl
  where
    by_close : (may : Bool) → may_close (tail_of front) dim ≡ may → may ≡ true
    by_close true is = refl
    by_close false is =
        let wrong : may_close (tail_over None front) dim ≡ false = ap (λ (tail : Option Tail). may_close tail dim) (sym (tail_of-over_none front)) ∙ is in
        let clash : false ≡ true = sym placed ∙ ap (has_misplaced None) splits ∙ has_misplaced-there None front rest dim wrong in cc
