-- How far a word may begin a path, and how far a text goes on.
use Rattle.std.proofs.Common.{◌≡◌, ℕ, zero, suc, ◌+◌, ◌-◌, max, ◌==◌, Bool, true, false, cond, List, [], ◌∷◌, length, take, drop, Option, Some, MatchOption, Result, Ok, Err, IfOk, subst, refl, sym, ap, ◌∙◌, arith}
use Rattle.std.proofs.lemmas.List.{length-drop, take_all}
use Rattle.std.proofs.lemmas.Bool.Decides.{nat_tests}
use Rattle.std.specs.List.{join_with_byte}
use Rattle.tydi_base.proofs.PieceLaws.{join-pieces_of}
use Rattle.tydi_base.specs.Name.{is_name}
use Rattle.tydi_base.specs.Pieces.{pieces_of}
use Rattle.tydi_base.specs.declared.place.Place.{Place}
use Rattle.value_text.specs.Grammar.{Text}
use Rattle.value_text.specs.Reading.{HasNoForm}
use Rattle.value_text.specs.Syntax as form
use Rattle.value_text.specs.Tokens.{tokens_of}
use Rattle.value_text.specs.Stops.{name_length, names_length, path_length, reach, run_length, slash_length, stop_of, stop_within, syntax_at, where_so, within_run, word_within}

some_pieces : (text : List ℕ) → pieces_of 46 text ≡ [] → ⊥
some_pieces text none = by (sym (join-pieces_of 46 text) ∙ ap (join_with_byte 46) none)
  where
    by : text ≡ [] → ⊥
    by empty = let no : ◌≡◌ {A = List (List ℕ)} (pieces_of 46 []) [] = sym (ap (pieces_of 46) empty) ∙ none in cc

-- a name before a point
pub path-name : (name more text : List ℕ) → is_name name ≡ true → pieces_of 46 text ≡ name ∷ pieces_of 46 more → path_length text ≡ length name + 1 + path_length more
path-name name more text named is = ap names_length is ∙ by (pieces_of 46 more) (some_pieces more)
  where
    by : (pieces : List (List ℕ)) → (pieces ≡ [] → ⊥) → names_length (name ∷ pieces) ≡ length name + 1 + names_length pieces
    by [] some = absurd (some refl)
    by (next ∷ pieces) some = ap (λ (b : Bool). cond b (length name + 1 + names_length (next ∷ pieces)) (name_length name)) named

-- a piece before a point that is no name
pub path-stop : (name more text : List ℕ) → is_name name ≡ false → pieces_of 46 text ≡ name ∷ pieces_of 46 more → path_length text ≡ name_length name
path-stop name more text named is = ap names_length is ∙ by (pieces_of 46 more)
  where
    by : (pieces : List (List ℕ)) → names_length (name ∷ pieces) ≡ name_length name
    by [] = refl
    by (next ∷ pieces) = ap (λ (b : Bool). cond b (length name + 1 + names_length (next ∷ pieces)) (name_length name)) named

-- the last piece
pub path-last : (text : List ℕ) → pieces_of 46 text ≡ text ∷ [] → path_length text ≡ name_length text
path-last text is = ap names_length is

-- ---- how far a word goes

pub so-far : (holds : Bool) (count : ℕ) (a : Bool) (k r : ℕ) → a ≡ holds → k ≡ count → r ≡ where_so a k → r ≡ where_so holds count
so-far holds count a k r same counted is = is ∙ ap (λ (b : Bool). where_so b k) same ∙ ap (where_so holds) counted

pub reach-as : (rest : List ℕ) (run : ℕ) (holds whole : Bool) (count within k : ℕ) → whole ≡ holds → within ≡ count → k ≡ reach rest run whole within → k ≡ reach rest run holds count
reach-as rest run holds whole count within k same counted is = is ∙ ap (λ (b : Bool). reach rest run b within) same ∙ ap (reach rest run holds) counted

pub within-of : (root path leaf name r p l n : ℕ) → r ≡ root → p ≡ path → l ≡ leaf → n ≡ name → max (max (max r p) l) n ≡ max (max (max root path) leaf) name
within-of root path leaf name r p l n x y z w = cc

-- the rest of a text from a place on
rest-is : (text : List ℕ) (at : ℕ) → take (length text - at) (drop at text) ≡ drop at text
rest-is text at = take_all (length text - at) (drop at text) (omega (arith, length-drop at text))

within-some : (front rest : List ℕ) (run : ℕ) → (run ≡ 0 → ⊥) → within_run front rest run ≡ word_within front rest run (take run rest)
within-some front rest zero some = absurd (some refl)
within-some front rest (suc run) some = ap (λ (b : Bool). cond b (slash_length rest) (word_within front rest (suc run) (take (suc run) rest))) (test run)
  where
    test : (run : ℕ) → (suc run == 0) ≡ false
    test run = grind (arith, nat_tests)

within-is : (text rest : List ℕ) (left at run : ℕ) → at ≡ length text - left → rest ≡ take (length text - at) (drop at text) → run ≡ run_length rest
    → within_run (take at text) rest run ≡ stop_within text left
within-is text rest left at run is rests counted =
    let all : rest ≡ drop at text = rests ∙ rest-is text at in
    ap (within_run (take at text) rest) counted
    ∙ ap (λ (l : List ℕ). within_run (take at text) l (run_length l)) all
    ∙ ap (λ (k : ℕ). within_run (take k text) (drop k text) (run_length (drop k text))) is

pub stop-none : (text rest : List ℕ) (left at run count : ℕ) → at ≡ length text - left → rest ≡ take (length text - at) (drop at text) → run ≡ run_length rest → run ≡ 0 → count ≡ slash_length rest
    → count ≡ stop_within text left
stop-none text rest left at run count is rests counted none said =
    said ∙ sym (ap (within_run (take at text) rest) none) ∙ within-is text rest left at run is rests counted

pub stop-some : (text rest : List ℕ) (left at run count : ℕ) → at ≡ length text - left → rest ≡ take (length text - at) (drop at text) → run ≡ run_length rest → (run ≡ 0 → ⊥)
    → count ≡ word_within (take at text) rest run (take run rest) → count ≡ stop_within text left
stop-some text rest left at run count is rests counted some said =
    said ∙ sym (within-some (take at text) rest run some) ∙ within-is text rest left at run is rests counted

-- where there was memory for it
pub stop-known : {E : Type 0} (text rest : List ℕ) (left at run : ℕ) (result : Result ℕ E) → at ≡ length text - left → rest ≡ take (length text - at) (drop at text) → run ≡ run_length rest
    → (run ≡ 0 → ⊥) → IfOk result (λ count. count ≡ word_within (take at text) rest run (take run rest)) → IfOk result (λ count. count ≡ stop_within text left)
stop-known text rest left at run (Ok count) is rests counted some said = stop-some text rest left at run count is rests counted some said
stop-known text rest left at run (Err e) is rests counted some said = tt

-- a text whose tokens stop somewhere has not the form
pub no-form : (text : List ℕ) (stop : Option ℕ) (left : ℕ) (place : Place) → stop ≡ Some left → MatchOption stop (Text (tokens_of text)) (λ n. Text (tokens_of text) → ⊥)
    → stop ≡ stop_of (form.text (tokens_of text)) → place ≡ syntax_at text (Some left) → HasNoForm text place
no-form text stop left place is told said at = record {
  none = subst (λ (o : Option ℕ). MatchOption o (Text (tokens_of text)) (λ n. Text (tokens_of text) → ⊥)) is told;
  at = at ∙ ap (syntax_at text) (sym is ∙ said);
}
