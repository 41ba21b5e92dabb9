-- The lines of items, from one place to another.
use Rattle.std.proofs.Common.{◌≡◌, ◌∙◌, ℕ, zero, suc, add-one, ◌+◌, ◌<◌, ◌≤◌, List, [], ◌∷◌, ◌++◌, append_assoc, drop, get_or, length, length-append, length-drop, length-take, take, sym, ap, arith}
use Rattle.std.proofs.lemmas.List.{take-append-drop}
use Rattle.std.specs.Prelude.{codes}
use Rattle.physical_stream.specs.Params.{Parameters}
use Rattle.physical_stream.specs.declared.item.Item.{Item}
use Rattle.watch_text.specs.Text.{item_line, item_lines}

drop-taken : {A : Type 0} (xs : List A) (to n : ℕ) (x : A) → n < length xs → x ≡ get_or xs n x → n < to → drop n (take to xs) ≡ x ∷ drop (suc n) (take to xs)
drop-taken [] to n x within is below = absurd (omega (arith, within))
drop-taken (y ∷ xs) zero n x within is below = absurd (omega (arith, below))
drop-taken (y ∷ xs) (suc to) zero x within is below = ap (λ z. z ∷ take to xs) (sym is)
drop-taken (y ∷ xs) (suc to) (suc n) x within is below = drop-taken xs to n x (omega (arith, within)) is (omega (arith, below))

-- one more line
pub lines-step : (p : Parameters) (items : List Item) (to number : ℕ) (item : Item) → number < length items → item ≡ get_or items number item → number < to
    → item_lines p number (drop number (take to items)) ≡ (item_line p number item ++ codes "\n") ++ item_lines p (number + 1) (drop (number + 1) (take to items))
lines-step p items to number item within is below =
    ap (item_lines p number) (drop-taken items to number item within is below) ∙ sym (append_assoc (item_line p number item) (codes "\n") (item_lines p (suc number) (drop (suc number) (take to items))))
    ∙ ap (λ (n : ℕ). (item_line p number item ++ codes "\n") ++ item_lines p n (drop n (take to items))) (sym (add-one number))

-- ---- lines in two parts

lines-append : (p : Parameters) (number : ℕ) (some others : List Item) → item_lines p number (some ++ others) ≡ item_lines p number some ++ item_lines p (number + length some) others
lines-append p number [] others = let same : number ≡ number + 0 = omega arith in ap (λ (n : ℕ). item_lines p n others) same
lines-append p number (item ∷ some) others =
    let same : suc number + length some ≡ number + suc (length some) = omega arith in
    ap (λ (l : List ℕ). item_line p number item ++ 10 ∷ l) (lines-append p (suc number) some others ∙ ap (λ (n : ℕ). item_lines p (suc number) some ++ item_lines p n others) same)
    ∙ sym (append_assoc (item_line p number item) (10 ∷ item_lines p (suc number) some) (item_lines p (number + suc (length some)) others))

drop-split : {A : Type 0} (xs : List A) (n to : ℕ) → n ≤ to → to ≤ length xs → drop n xs ≡ drop n (take to xs) ++ drop to xs
drop-split xs zero to behind within = sym (take-append-drop to xs)
drop-split [] (suc n) to behind within = absurd (omega (arith, behind, within))
drop-split (x ∷ xs) (suc n) zero behind within = absurd (omega (arith, behind))
drop-split (x ∷ xs) (suc n) (suc to) behind within = drop-split xs n to (omega (arith, behind)) (omega (arith, within))

length-between : {A : Type 0} (xs : List A) (n to : ℕ) → n ≤ to → to ≤ length xs → n + length (drop n (take to xs)) ≡ to
length-between xs n to behind within = omega (arith, length-drop n (take to xs), length-take to xs, behind, within)

-- the lines from a place on are those up to another, and those from there on
pub lines-split : (p : Parameters) (items : List Item) (from to : ℕ) → from ≤ to → to ≤ length items
    → item_lines p from (drop from items) ≡ item_lines p from (drop from (take to items)) ++ item_lines p to (drop to items)
lines-split p items from to behind within =
    ap (item_lines p from) (drop-split items from to behind within) ∙ lines-append p from (drop from (take to items)) (drop to items)
    ∙ ap (λ (n : ℕ). item_lines p from (drop from (take to items)) ++ item_lines p n (drop to items)) (length-between items from to behind within)

-- there are no more items than bytes
pub lines-many : (p : Parameters) (number : ℕ) (items : List Item) → length items ≤ length (item_lines p number items)
lines-many p number [] = omega arith
lines-many p number (item ∷ items) =
    omega (arith, lines-many p (suc number) items, length-append (item_line p number item) (10 ∷ item_lines p (suc number) items))

-- lines from a place to one behind it have bytes
pub lines-some : (p : Parameters) (items : List Item) (from to : ℕ) → from < to → to ≤ length items → 0 < length (item_lines p from (drop from (take to items)))
lines-some p items from to behind within =
    let before : from ≤ to = omega (arith, behind) in
    omega (arith, lines-many p from (drop from (take to items)), length-between items from to before within, behind)
