-- Items that enter a buffer, and items that leave it.
use Rattle.std.proofs.Common.{◌≡◌, ◌∙◌, ℕ, ◌+◌, ◌-◌, ◌<◌, ◌≤◌, Bool, List, [], ◌∷◌, ◌++◌, length, take, drop, refl, sym, ap, subst, arith, get_or}
use Rattle.std.specs.List.{All}
use Rattle.std.proofs.lemmas.List.{length-append, length-drop, length-take-le, drop-drop, get_or_append_left, get_or-append_right}
use Rattle.physical_stream.specs.Params.{Parameters}
use Rattle.physical_stream.specs.declared.item.Item.{Item}
use Rattle.physical_stream.specs.declared.item.Item.TheVariants.{Elem, Close}
use Rattle.scheduler.specs.Laws.{AreItems}
use Rattle.scheduler.proofs.LoadLemmas.{AreItems-append}
use Rattle.reshape.specs.Held.{held_in}
use Rattle.reshape.proofs.FrontLemmas.{held-append}

-- ---- words

pub wide-front : (w : ℕ) (words front : List (List Bool)) (word : List Bool) → words ≡ front ++ word ∷ [] → All (λ (x : List Bool). length x ≡ w) words → All (λ (x : List Bool). length x ≡ w) front
wide-front w words front word is all k d less =
    let long = ap length is ∙ length-append front (word ∷ []) in
    ap length (sym (ap (λ (l : List (List Bool)). get_or l k d) is ∙ get_or_append_left front (word ∷ []) d k less)) ∙ all k d (omega (arith, long, less))

pub wide-last : (w : ℕ) (words front : List (List Bool)) (word : List Bool) → words ≡ front ++ word ∷ [] → All (λ (x : List Bool). length x ≡ w) words → length word ≡ w
wide-last w words front word is all =
    let long = ap length is ∙ length-append front (word ∷ []) in
    let place : length front - length front ≡ 0 = omega arith in
    let last : get_or words (length front) [] ≡ word = ap (λ (l : List (List Bool)). get_or l (length front) []) is ∙ get_or-append_right front (word ∷ []) (length front) (length front) [] refl (omega arith) ∙ ap (λ (k : ℕ). get_or (word ∷ []) k []) place in
    ap length (sym last) ∙ all (length front) [] (omega (arith, long))

-- ---- items

pub fit-close : (p : Parameters) (items new : List Item) (dim : ℕ) → new ≡ items ++ Close dim ∷ [] → dim < p.dims → AreItems p items → AreItems p new
fit-close p items new dim is less fit = subst (AreItems p) (sym is) (AreItems-append p items (Close dim ∷ []) fit (less, tt))

pub fit-element : (p : Parameters) (items new : List Item) (word : List Bool) → new ≡ items ++ Elem word ∷ [] → length word ≡ p.element → AreItems p items → AreItems p new
fit-element p items new word is wide fit = subst (AreItems p) (sym is) (AreItems-append p items (Elem word ∷ []) fit (wide, tt))

pub held-close : (items new : List Item) (dim : ℕ) → new ≡ items ++ Close dim ∷ [] → held_in new ≡ held_in items
held-close items new dim is = ap held_in is ∙ omega (arith, held-append items (Close dim ∷ []))

pub held-element : (items new : List Item) (word : List Bool) → new ≡ items ++ Elem word ∷ [] → held_in new ≡ held_in items + 1
held-element items new word is = ap held_in is ∙ omega (arith, held-append items (Elem word ∷ []))

pub drop-more : (items : List Item) (now next : List Item) (n : ℕ) → now ≡ drop n items → next ≡ drop 1 now → next ≡ drop (n + 1) items
drop-more items now next n is more = more ∙ ap (drop 1) is ∙ drop-drop 1 n items ∙ ap (λ (k : ℕ). drop k items) (omega arith)

pub copied-wide : (w from : ℕ) (word new content : List Bool) → new ≡ take (length word) (drop from content) → from + w ≤ length content → length word ≡ w → length new ≡ w
copied-wide w from word new content is room wide = ap length is ∙ omega (arith, length-take-le (length word) (drop from content) (omega (arith, room, wide, length-drop from content)), wide)
