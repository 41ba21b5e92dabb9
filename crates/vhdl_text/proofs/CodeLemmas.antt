-- Cuts and words, as loops and searches find them.
use Rattle.std.proofs.Common.{◌≡◌, ℕ, suc, ◌+◌, ◌-◌, ◌<◌, ◌≤◌, false, ◌==◌, List, [], ◌∷◌, ◌++◌, length, take, drop, get_or, Some, None, refl, sym, ap, ◌∙◌, subst, arith}
use Rattle.std.specs.Prelude.{codes}
use Rattle.std.specs.List.{join_with_byte}
use Rattle.std.specs.Str.{bytes_eq}
use Rattle.std.proofs.Math.Seq.{drop-cons}
use Rattle.std.proofs.lemmas.List.{take-append-drop, take_rest}
use Rattle.std.proofs.lemmas.List.Splits.{length-slice_split}
use Rattle.tydi_base.specs.Pieces.{Lacks, pieces_of, words_of}
use Rattle.tydi_base.proofs.PieceLaws.{join-pieces_of}
use Rattle.vhdl_text.specs.Lines.{between, cut_last, edges_before, three}
use Rattle.vhdl_text.proofs.CutLemmas.{cut_last-append, cut_last-lacks}

-- ---- the last byte of a kind

pub cut-found : (mark : ℕ) (text : List ℕ) (left : ℕ) → 0 < left → left ≤ length text → Lacks mark (drop left text) → get_or text (left - 1) 0 ≡ mark
    → Some (record { front = take (left - 1) text; back = take (length text - (left - 1 + 1)) (drop (left - 1 + 1) text) }) ≡ cut_last mark text
cut-found mark text left some within lacks byte =
    let next : suc (left - 1) ≡ left = omega arith in
    let added : left - 1 + 1 ≡ left = omega arith in
    let rest : take (length text - (left - 1 + 1)) (drop (left - 1 + 1) text) ≡ drop left text = take_rest text (left - 1 + 1) ∙ ap (λ (n : ℕ). drop n text) added in
    let whole : text ≡ take (left - 1) text ++ mark ∷ drop left text =
    sym (take-append-drop (left - 1) text) ∙ ap (λ (t : List ℕ). take (left - 1) text ++ t) (drop-cons text (left - 1) 0 (omega arith) ∙ ap (λ (b : ℕ). b ∷ drop (suc (left - 1)) text) byte ∙ ap (λ (n : ℕ). mark ∷ drop n text) next) in
    ap (λ (b : List ℕ). Some (record { front = take (left - 1) text; back = b })) rest ∙ sym (ap (cut_last mark) whole ∙ cut_last-append mark (take (left - 1) text) (drop left text) lacks)

pub cut-none : (mark : ℕ) (text : List ℕ) (left : ℕ) → left ≤ 0 → Lacks mark (drop left text) → None ≡ cut_last mark text
cut-none mark text left none lacks = let first : left ≡ 0 = omega arith in sym (cut_last-lacks mark text (subst (λ n. Lacks mark (drop n text)) first lacks))

-- ---- two bytes of a kind

three-more : (a b c : List ℕ) (pieces : List (List ℕ)) → 0 < length pieces → three (a ∷ b ∷ c ∷ pieces) ≡ None
three-more a b c [] some = absurd (omega arith)
three-more a b c (piece ∷ pieces) some = refl

pub between-four : (mark : ℕ) (text after back rest a b c : List ℕ) → pieces_of mark text ≡ a ∷ pieces_of mark after → pieces_of mark after ≡ b ∷ pieces_of mark back → pieces_of mark back ≡ c ∷ pieces_of mark rest
    → between mark text ≡ None
unfolding between
between-four mark text after back rest a b c one two three_is =
    ap three (one ∙ ap (λ (l : List (List ℕ)). a ∷ l) (two ∙ ap (λ (l : List (List ℕ)). b ∷ l) three_is)) ∙ three-more a b c (pieces_of mark rest) (omega (arith, length-slice_split (λ byte. byte == mark) rest))

-- ---- the word after a number of edges

pub other-word : (text digits word : List ℕ) → words_of text ≡ digits ∷ words_of word → bytes_eq word (codes "loop") ≡ false → edges_before (words_of text) ≡ None
other-word text digits word is other = ap edges_before is ∙ by_words (words_of word) (join-pieces_of 32 word)
  where
    by_words : (words : List (List ℕ)) → join_with_byte 32 words ≡ word → edges_before (digits ∷ words) ≡ None
    by_words [] joined = refl
    by_words (a ∷ b ∷ more) joined = refl
    by_words (a ∷ []) joined = let test : bytes_eq a (codes "loop") ≡ false = ap (λ (w : List ℕ). bytes_eq w (codes "loop")) joined ∙ other in rw test refl
