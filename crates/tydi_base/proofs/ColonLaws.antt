-- Pieces between two colons together, and texts joined of such pieces.
use Rattle.std.proofs.Common.{add-one, ◌≡◌, ◌≢◌, ℕ, ◌+◌, ◌-◌, ◌<◌, Bool, true, false, ◌&&◌, cond, eqb, List, [], ◌∷◌, ◌++◌, length, get_or, take, drop, refl, sym, ap, ◌∙◌, arith, All}
use Rattle.std.specs.List.{onto_first, flat_map}
use Rattle.std.proofs.lemmas.Bool.Decides.{nat_tests}
use Rattle.std.proofs.Math.Seq.{drop-cons, take-suc, take-length, drop-length}
use Rattle.std.proofs.lemmas.List.{append-nil, take_rest, drop-drop}
use Rattle.std.proofs.lemmas.List.Concat.{flat_map-cons}
use Rattle.std.proofs.lemmas.List.Elements.{All-head, All-tail}
use Rattle.tydi_base.specs.Pieces.{Lacks}
use Rattle.tydi_base.specs.Path.{begins_with_colons, colon_pieces, colon_text}

-- ---- one byte more at the front

pub colon_pieces-no : (byte : ℕ) (rest : List ℕ) → begins_with_colons (byte ∷ rest) ≡ false → colon_pieces (byte ∷ rest) ≡ onto_first byte (colon_pieces rest)
colon_pieces-no byte [] e = refl
colon_pieces-no byte (next ∷ rest) e = rw e refl

pub colon_pieces-yes : (text : List ℕ) → begins_with_colons text ≡ true → colon_pieces text ≡ [] ∷ colon_pieces (drop 2 text)
colon_pieces-yes [] e = absurd cc
colon_pieces-yes (byte ∷ []) e = absurd (grind (arith, nat_tests))
colon_pieces-yes (byte ∷ next ∷ rest) e = rw e refl

-- ---- a text of some pieces

onto_first-some : (byte : ℕ) (pieces : List (List ℕ)) → 0 < length (onto_first byte pieces)
onto_first-some byte [] = omega arith
onto_first-some byte (piece ∷ pieces) = omega arith

-- a text has one piece at least
by_some : (byte next : ℕ) (rest : List ℕ) (both : Bool) → 0 < length (cond both ([] ∷ colon_pieces rest) (onto_first byte (colon_pieces (next ∷ rest))))
by_some byte next rest true = omega arith
by_some byte next rest false = onto_first-some byte (colon_pieces (next ∷ rest))

pub colon_pieces-some : (text : List ℕ) → 0 < length (colon_pieces text)
colon_pieces-some [] = omega arith
colon_pieces-some (byte ∷ []) = omega arith
colon_pieces-some (byte ∷ next ∷ rest) = by_some byte next rest (eqb byte 58 && eqb next 58)

colon_text-onto_first : (byte : ℕ) (pieces : List (List ℕ)) → 0 < length pieces → colon_text (onto_first byte pieces) ≡ byte ∷ colon_text pieces
colon_text-onto_first byte [] some = absurd (omega arith)
colon_text-onto_first byte (piece ∷ pieces) some = refl

colon_text-empty : (pieces : List (List ℕ)) → 0 < length pieces → colon_text ([] ∷ pieces) ≡ 58 ∷ 58 ∷ colon_text pieces
colon_text-empty [] some = absurd (omega arith)
colon_text-empty (piece ∷ pieces) some = flat_map-cons (λ (next : List ℕ). 58 ∷ 58 ∷ next) piece pieces

both_colons : (byte next : ℕ) → (eqb byte 58 && eqb next 58) ≡ true → (byte ≡ 58) × (next ≡ 58)
both_colons byte next e = grind (arith, nat_tests)

by_join : (byte next : ℕ) (rest : List ℕ) (both : Bool) → (eqb byte 58 && eqb next 58) ≡ both → colon_text (colon_pieces rest) ≡ rest → colon_text (colon_pieces (next ∷ rest)) ≡ next ∷ rest
    → colon_text (cond both ([] ∷ colon_pieces rest) (onto_first byte (colon_pieces (next ∷ rest)))) ≡ byte ∷ next ∷ rest
by_join byte next rest true test after tail =
    let colons = both_colons byte next test in
    rw (colons.0, colons.1) (colon_text-empty (colon_pieces rest) (colon_pieces-some rest) ∙ ap (λ (text : List ℕ). 58 ∷ 58 ∷ text) after)
by_join byte next rest false test after tail =
    colon_text-onto_first byte (colon_pieces (next ∷ rest)) (colon_pieces-some (next ∷ rest)) ∙ ap (λ (text : List ℕ). byte ∷ text) tail

-- the pieces, joined again, are the text
pub join-colon_pieces : (text : List ℕ) → colon_text (colon_pieces text) ≡ text
join-colon_pieces [] = refl
join-colon_pieces (byte ∷ []) = refl
join-colon_pieces (byte ∷ next ∷ rest) = by_join byte next rest (eqb byte 58 && eqb next 58) refl (join-colon_pieces rest) (join-colon_pieces (next ∷ rest))

-- ---- a text joined of pieces without colons

no_colon : (byte : ℕ) (rest : List ℕ) → byte ≢ 58 → colon_pieces (byte ∷ rest) ≡ onto_first byte (colon_pieces rest)
no_colon byte rest ne =
    let test : eqb byte 58 ≡ false = grind (arith, nat_tests) in
    colon_pieces-no byte rest (rw test refl)

colon_pieces-lacks : (piece : List ℕ) → Lacks 58 piece → colon_pieces piece ≡ piece ∷ []
colon_pieces-lacks [] lacks = refl
colon_pieces-lacks (byte ∷ bytes) lacks =
    no_colon byte bytes (All-head (λ b. b ≢ 58) byte bytes lacks) ∙ ap (onto_first byte) (colon_pieces-lacks bytes (All-tail (λ b. b ≢ 58) byte bytes lacks))

colon_pieces-append : (piece rest : List ℕ) → Lacks 58 piece → colon_pieces (piece ++ 58 ∷ 58 ∷ rest) ≡ piece ∷ colon_pieces rest
colon_pieces-append [] rest lacks = refl
colon_pieces-append (byte ∷ bytes) rest lacks =
    no_colon byte (bytes ++ 58 ∷ 58 ∷ rest) (All-head (λ b. b ≢ 58) byte bytes lacks) ∙ ap (onto_first byte) (colon_pieces-append bytes rest (All-tail (λ b. b ≢ 58) byte bytes lacks))

pub colon_pieces-join : (names : List (List ℕ)) → 0 < length names → All (Lacks 58) names → colon_pieces (colon_text names) ≡ names
colon_pieces-join [] some each = absurd (omega arith)
colon_pieces-join (name ∷ []) some each = rw (append-nil name) (colon_pieces-lacks name (All-head (Lacks 58) name [] each))
colon_pieces-join (name ∷ next ∷ names) some each =
    let more : flat_map (λ (n : List ℕ). 58 ∷ 58 ∷ n) (next ∷ names) ≡ 58 ∷ 58 ∷ colon_text (next ∷ names) = flat_map-cons (λ (n : List ℕ). 58 ∷ 58 ∷ n) next names in
    ap (λ (tail : List ℕ). colon_pieces (name ++ tail)) more
    ∙ colon_pieces-append name (colon_text (next ∷ names)) (All-head (Lacks 58) name (next ∷ names) each)
    ∙ ap (λ (others : List (List ℕ)). name ∷ others) (colon_pieces-join (next ∷ names) (omega arith) (All-tail (Lacks 58) name (next ∷ names) each))

-- ---- a text up to its first two colons, as a search finds them

-- bytes put before the first piece
abbrev pub with_front : List ℕ → List (List ℕ) → List (List ℕ)
with_front [] pieces = pieces
with_front (byte ∷ front) pieces = onto_first byte (with_front front pieces)

with_front-append : (front : List ℕ) (byte : ℕ) (pieces : List (List ℕ)) → with_front (front ++ byte ∷ []) pieces ≡ with_front front (onto_first byte pieces)
with_front-append [] byte pieces = refl
with_front-append (first ∷ front) byte pieces = ap (onto_first first) (with_front-append front byte pieces)

with_front-cons : (front piece : List ℕ) (pieces : List (List ℕ)) → with_front front (piece ∷ pieces) ≡ (front ++ piece) ∷ pieces
with_front-cons [] piece pieces = refl
with_front-cons (byte ∷ front) piece pieces = ap (onto_first byte) (with_front-cons front piece pieces)

-- up to `at` no two colons stand together
pub record Searched (text : List ℕ) (at : ℕ) : Type 0 where
  pub pieces : colon_pieces text ≡ with_front (take at text) (colon_pieces (drop at text))

pub Searched-none : (text : List ℕ) → Searched text 0
Searched-none text = record { pieces = refl }

-- the bytes that are looked at are those of `&text[at..]`
pub Searched-more : (text : List ℕ) (at : ℕ) → at < length text → Searched text at → begins_with_colons (take (length text - at) (drop at text)) ≡ false → Searched text (at + 1)
Searched-more text at lt h e =
    let rest : take (length text - at) (drop at text) ≡ drop at text = take_rest text at in
    let next : drop at text ≡ get_or text at 0 ∷ drop (at + 1) text = rw add-one (drop-cons text at 0 lt) in
    let front : take (at + 1) text ≡ take at text ++ get_or text at 0 ∷ [] = rw add-one (take-suc text at 0 lt) in
    let here : begins_with_colons (get_or text at 0 ∷ drop (at + 1) text) ≡ false = rw (rest, next) at e in
    record {
      pieces = h.pieces ∙ ap (λ (tail : List ℕ). with_front (take at text) (colon_pieces tail)) next
          ∙ ap (with_front (take at text)) (colon_pieces-no (get_or text at 0) (drop (at + 1) text) here)
          ∙ sym (with_front-append (take at text) (get_or text at 0) (colon_pieces (drop (at + 1) text)))
          ∙ ap (λ (bytes : List ℕ). with_front bytes (colon_pieces (drop (at + 1) text))) (sym front);
    }

-- the rest is as `&text[at + 2..]` reads
pub Searched-found : (text : List ℕ) (at : ℕ) → Searched text at → begins_with_colons (take (length text - at) (drop at text)) ≡ true
    → colon_pieces text ≡ take at text ∷ colon_pieces (take (length text - (at + 2)) (drop (at + 2) text))
Searched-found text at h e =
    let front : List ℕ = take at text in
    let here : take (length text - at) (drop at text) ≡ drop at text = take_rest text at in
    let rest : take (length text - (at + 2)) (drop (at + 2) text) ≡ drop (at + 2) text = take_rest text (at + 2) in
    let after : drop 2 (drop at text) ≡ drop (at + 2) text = drop-drop 2 at text in
    let first = colon_pieces-yes (drop at text) (rw here at e) in
    rw rest (h.pieces ∙ ap (with_front front) first ∙ with_front-cons front [] (colon_pieces (drop 2 (drop at text)))
    ∙ ap (λ (bytes : List ℕ). bytes ∷ colon_pieces (drop 2 (drop at text))) (append-nil front)
    ∙ ap (λ (bytes : List ℕ). front ∷ colon_pieces bytes) after)

pub Searched-all : (text : List ℕ) (at : ℕ) → at ≡ length text → Searched text at → colon_pieces text ≡ text ∷ []
Searched-all text at e h =
    let none : drop (length text) text ≡ [] = drop-length text in
    let all : take (length text) text ≡ text = take-length text in
    let found : colon_pieces text ≡ with_front (take (length text) text) (colon_pieces (drop (length text) text)) = rw e at h.pieces in
    found ∙ rw (none, all) (with_front-cons text [] []) ∙ ap (λ (bytes : List ℕ). bytes ∷ []) (append-nil text)
