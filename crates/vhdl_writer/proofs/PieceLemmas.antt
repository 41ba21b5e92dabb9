-- The pieces of the text of a design.
use Rattle.std.proofs.Common.{◌≡◌, ℕ, zero, suc, add-one, ◌+◌, ◌<◌, Bool, false, List, [], ◌∷◌, ◌++◌, append_assoc, append-nil, drop, length, Some, None, slice_get, refl, sym, ap, ◌∙◌, subst}
use Rattle.std.specs.List.{flat_map}
use Rattle.vhdl_text.specs.VerilogText.{text_in}
use Rattle.vhdl_text.specs.declared.arch.Arch.{Arch}
use Rattle.vhdl_text.specs.declared.language.Language.{Language}
use Rattle.vhdl_writer.specs.Designs.{directive_left, first_directive, last_directive}

drop-from : {A : Type 0} (xs : List A) (n : ℕ) (x : A) → slice_get xs n ≡ Some x → drop n xs ≡ x ∷ drop (suc n) xs
drop-from [] n x at = absurd cc
drop-from (y ∷ xs) zero x at = let same : y ≡ x = cc in ap (λ z. z ∷ xs) same
drop-from (y ∷ xs) (suc n) x at = drop-from xs n x at

drop-past : {A : Type 0} (xs : List A) (n : ℕ) → None ≡ slice_get xs n → drop n xs ≡ []
drop-past [] zero at = refl
drop-past [] (suc n) at = refl
drop-past (x ∷ xs) zero at = absurd cc
drop-past (x ∷ xs) (suc n) at = drop-past xs n at

-- the text that is left, from the streamlet of a number on
abbrev left : Language → List Arch → (first : Bool) → ℕ → (last : Bool) → List ℕ
left language archs first n last = directive_left first first_directive ++ (flat_map (text_in language) (drop n archs) ++ directive_left last last_directive)

-- the text of the next streamlet, and what is left behind it
pub piece-made : (language : Language) (archs : List Arch) (first last : Bool) (n : ℕ) (arch : Arch) (piece : List ℕ) (after : ℕ) → first ≡ false → Some arch ≡ slice_get archs n → piece ≡ text_in language arch
    → after ≡ n + 1 → left language archs first n last ≡ piece ++ left language archs first after last
piece-made language archs first last n arch piece after is_first at is next =
    subst (λ (b : Bool). left language archs b n last ≡ piece ++ left language archs b after last) (sym is_first)
    (ap (λ (l : List Arch). flat_map (text_in language) l ++ directive_left last last_directive) (drop-from archs n arch (sym at) ∙ ap (λ (k : ℕ). arch ∷ drop k archs) (sym (next ∙ add-one n)))
    ∙ append_assoc (text_in language arch) (flat_map (text_in language) (drop after archs)) (directive_left last last_directive)
    ∙ ap (λ (l : List ℕ). l ++ left language archs false after last) (sym is))

-- behind the last one only a directive is left
none-left : (language : Language) (archs : List Arch) (first last : Bool) (n : ℕ) → first ≡ false → None ≡ slice_get archs n → left language archs first n last ≡ directive_left last last_directive
none-left language archs first last n is_first at =
    subst (λ (b : Bool). left language archs b n last ≡ directive_left last last_directive) (sym is_first)
    (ap (λ (l : List Arch). flat_map (text_in language) l ++ directive_left last last_directive) (drop-past archs n at))

pub none-made : (language : Language) (archs : List Arch) (first last : Bool) (n : ℕ) (piece : List ℕ) → first ≡ false → None ≡ slice_get archs n → piece ≡ directive_left last last_directive
    → left language archs first n last ≡ piece ++ left language archs first n false
none-made language archs first last n piece is_first at is =
    none-left language archs first last n is_first at ∙ sym is ∙ sym (append-nil piece) ∙ ap (λ (l : List ℕ). piece ++ l) (sym (none-left language archs first false n is_first at))

pub none-some : (language : Language) (archs : List Arch) (first last : Bool) (n : ℕ) (piece : List ℕ) → first ≡ false → None ≡ slice_get archs n → piece ≡ directive_left last last_directive
    → 0 < length (left language archs first n last) → 0 < length piece
none-some language archs first last n piece is_first at is = subst (λ (l : List ℕ). 0 < length l) (none-left language archs first last n is_first at ∙ sym is)
