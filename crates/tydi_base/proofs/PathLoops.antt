-- The loops over the names of a path.
use Rattle.std.proofs.Common.{◌≡◌, ℕ, ◌-◌, ◌≤◌, Bool, true, false, ◌&&◌, cond, List, [], ◌∷◌, ◌++◌, length, get_or, take, drop, Some, None, refl, sym, ap, ◌∙◌, arith, append_assoc}
use Rattle.std.specs.List.{list_all, join_with_byte, flat_map}
use Rattle.std.proofs.lemmas.List.{append-nil, length-take, take-take, take_rest, take-append-le}
use Rattle.std.proofs.lemmas.List.Concat.{flat_map-cons}
use Rattle.std.proofs.lemmas.List.Folds.{list_all-append}
use Rattle.std.proofs.lemmas.Option.{cond_some}
use Rattle.std.proofs.Math.Seq.{take-length}
use Rattle.tydi_base.specs.Name.{is_name, name_of}
use Rattle.tydi_base.specs.Path.{path_pieces, names_of, spelled_path, separator_of}

-- ---- reading: the pieces of the text are the names so far and the pieces of the rest

pub record Reads (colons : Bool) (text : List ℕ) (names : List (List ℕ)) (rest : List ℕ) : Type 0 where
  pub whole : path_pieces colons text ≡ names ++ path_pieces colons rest
  pub each : list_all is_name names ≡ true

none_of : (b : Bool) (x : List ℕ) → cond b (Some x) None ≡ None → b ≡ false
none_of true x e = absurd cc
none_of false x e = refl

and_false : (b : Bool) → (b && false) ≡ false
and_false true = refl
and_false false = refl

name_of-none : (piece : List ℕ) → name_of piece ≡ None → is_name piece ≡ false
name_of-none piece e = none_of (is_name piece) piece e

name_of-some : (piece name : List ℕ) → name_of piece ≡ Some name → (is_name piece ≡ true) × (piece ≡ name)
name_of-some piece name e = cond_some (is_name piece) piece name e

-- a piece that is no name
names_of-no_name : (colons : Bool) (text : List ℕ) (front : List (List ℕ)) (piece : List ℕ) (pieces : List (List ℕ)) → path_pieces colons text ≡ front ++ piece ∷ pieces → name_of piece ≡ None → names_of colons text ≡ None
names_of-no_name colons text front piece pieces whole e =
    let no-name = name_of-none piece e in
    let parts = list_all-append is_name front (piece ∷ pieces) in
    let none : list_all is_name (path_pieces colons text) ≡ false = rw (whole, parts, no-name) (and_false (list_all is_name front)) in
    rw none refl

pub Reads-no_name : (colons : Bool) (text : List ℕ) (names : List (List ℕ)) (rest piece after : List ℕ) → Reads colons text names rest → path_pieces colons rest ≡ piece ∷ path_pieces colons after → name_of piece ≡ None → names_of colons text ≡ None
Reads-no_name colons text names rest piece after h first e =
    names_of-no_name colons text names piece (path_pieces colons after) (h.whole ∙ ap (λ (pieces : List (List ℕ)). names ++ pieces) first) e

pub Reads-no_last : (colons : Bool) (text : List ℕ) (names : List (List ℕ)) (rest : List ℕ) → Reads colons text names rest → path_pieces colons rest ≡ rest ∷ [] → name_of rest ≡ None → names_of colons text ≡ None
Reads-no_last colons text names rest h last e =
    names_of-no_name colons text names rest [] (h.whole ∙ ap (λ (pieces : List (List ℕ)). names ++ pieces) last) e

pub names_of-some : (colons : Bool) (text : List ℕ) (names : List (List ℕ)) → names_of colons text ≡ Some names → list_all is_name names ≡ true
names_of-some colons text names e =
    let parts = cond_some (list_all is_name (path_pieces colons text)) (path_pieces colons text) names e in
    rw (← parts.1) parts.0

-- one more name
more_names : (names : List (List ℕ)) (name : List ℕ) → list_all is_name names ≡ true → is_name name ≡ true → list_all is_name (names ++ name ∷ []) ≡ true
more_names names name each is = rw (list_all-append is_name names (name ∷ []), each, is) refl

pub Reads-more : (colons : Bool) (text : List ℕ) (names : List (List ℕ)) (rest piece after name : List ℕ) → Reads colons text names rest → path_pieces colons rest ≡ piece ∷ path_pieces colons after → name_of piece ≡ Some name → Reads colons text (names ++ name ∷ []) after
Reads-more colons text names rest piece after name h first e =
    let parts = name_of-some piece name e in
    let is : is_name name ≡ true = rw (← parts.1) parts.0 in
    let split : path_pieces colons text ≡ names ++ name ∷ path_pieces colons after = rw (← parts.1) (h.whole ∙ ap (λ (pieces : List (List ℕ)). names ++ pieces) first) in
    record { whole = split ∙ sym (append_assoc names (name ∷ []) (path_pieces colons after)); each = more_names names name h.each is }

pub Reads-last : (colons : Bool) (text : List ℕ) (names : List (List ℕ)) (rest name : List ℕ) → Reads colons text names rest → path_pieces colons rest ≡ rest ∷ [] → name_of rest ≡ Some name → Some (names ++ name ∷ []) ≡ names_of colons text
Reads-last colons text names rest name h last e =
    let parts = name_of-some rest name e in
    let is : is_name name ≡ true = rw (← parts.1) parts.0 in
    let split : path_pieces colons text ≡ names ++ name ∷ [] = rw (← parts.1) (h.whole ∙ ap (λ (pieces : List (List ℕ)). names ++ pieces) last) in
    rw (split, more_names names name h.each is) refl

-- ---- writing: what is written and what is left are the whole text, and what stood there before still stands

pub record Writes (colons : Bool) (before : List ℕ) (names : List (List ℕ)) (out : List ℕ) (left : List (List ℕ)) : Type 0 where
  pub whole : out ++ flat_map (λ name. separator_of colons ++ name) left ≡ before ++ spelled_path colons names
  pub kept : take (length before) out ≡ before

pub kept-append : (before out more : List ℕ) → take (length before) out ≡ before → take (length before) (out ++ more) ≡ before
kept-append before out more kept =
    let le : length before ≤ length out = omega (arith, length-take (length before) out, ap length kept) in
    rw (take-append-le (length before) out more le) kept

pub kept-kept : (before out new : List ℕ) → take (length before) out ≡ before → take (length out) new ≡ out → take (length before) new ≡ before
kept-kept before out new kept outer =
    let le : length before ≤ length out = omega (arith, length-take (length before) out, ap length kept) in
    let inner : take (length before) (take (length out) new) ≡ take (length before) new = take-take (length before) (length out) new le in
    sym inner ∙ ap (take (length before)) outer ∙ kept

join-flat_map : (separator : ℕ) (name : List ℕ) (names : List (List ℕ)) → join_with_byte separator (name ∷ names) ≡ name ++ flat_map (λ n. separator ∷ n) names
join-flat_map separator name [] = sym (append-nil name)
join-flat_map separator name (next ∷ names) =
    ap (λ (tail : List ℕ). name ++ separator ∷ tail) (join-flat_map separator next names) ∙ sym (ap (λ (tail : List ℕ). name ++ tail) (flat_map-cons (λ (n : List ℕ). separator ∷ n) next names))

-- the first name, and before each of the others a separator
spelled_path-cons : (colons : Bool) (name : List ℕ) (names : List (List ℕ)) → spelled_path colons (name ∷ names) ≡ name ++ flat_map (λ n. separator_of colons ++ n) names
spelled_path-cons true name names = refl
spelled_path-cons false name names = join-flat_map 46 name names

pub Writes-first : (colons : Bool) (before : List ℕ) (names : List (List ℕ)) (name : List ℕ) (others : List (List ℕ)) → names ≡ name ∷ others → Writes colons before names (before ++ name) others
Writes-first colons before names name others e = record {
  whole = rw e (append_assoc before name (flat_map (λ n. separator_of colons ++ n) others) ∙ sym (ap (λ (tail : List ℕ). before ++ tail) (spelled_path-cons colons name others)));
  kept = kept-append before before name (take-length before);
}

-- the others are as `[first, others @ ..]` reads
pub Writes-init : (colons : Bool) (before : List ℕ) (names : List (List ℕ)) (out name : List ℕ) → 1 ≤ length names → name ≡ get_or names 0 name → out ≡ before ++ name → Writes colons before names out (take (length names - 1) (drop 1 names))
Writes-init colons before [] out name some first e = absurd (omega arith)
Writes-init colons before (other ∷ others) out name some first e =
    let rest : take (length (other ∷ others) - 1) (drop 1 (other ∷ others)) ≡ others = take_rest (other ∷ others) 1 in
    let same : other ∷ others ≡ name ∷ others = rw (← first) refl in
    rw (rest, e) (Writes-first colons before (other ∷ others) name others same)

pub Writes-more : (colons : Bool) (before : List ℕ) (names : List (List ℕ)) (out name : List ℕ) (left : List (List ℕ)) → Writes colons before names out (name ∷ left) → Writes colons before names (out ++ (separator_of colons ++ name)) left
Writes-more colons before names out name left h = record {
  whole = append_assoc out (separator_of colons ++ name) (flat_map (λ n. separator_of colons ++ n) left) ∙ sym (ap (λ (tail : List ℕ). out ++ tail) (flat_map-cons (λ (n : List ℕ). separator_of colons ++ n) name left)) ∙ h.whole;
  kept = kept-append before out (separator_of colons ++ name) h.kept;
}

pub Writes-done : (colons : Bool) (before : List ℕ) (names : List (List ℕ)) (out : List ℕ) → Writes colons before names out [] → out ≡ before ++ spelled_path colons names
Writes-done colons before names out h = sym (append-nil out) ∙ h.whole
