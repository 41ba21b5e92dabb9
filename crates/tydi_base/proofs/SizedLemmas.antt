-- Values of a known size in the words of a line.
use Rattle.std.proofs.Common.{◌≡◌, ◌≢◌, ℕ, ◌-◌, ◌≤◌, List, [], ◌∷◌, ◌++◌, inl, inr, length, get_or, take, drop, refl, sym, ap, subst, ◌∙◌, arith, append-nil, All}
use Rattle.std.proofs.lemmas.List.Elements.{All-cons, All-head, All-nil}
use Rattle.std.specs.List.{join_with_byte}
use Rattle.std.proofs.Math.Seq.{drop-append_seam, take-append_seam}
use Rattle.std.proofs.lemmas.List.{take-append-drop, take_rest, length-take-le}
use Rattle.tydi_base.specs.Pieces.{Lacks, words_of}
use Rattle.tydi_base.proofs.PieceLaws.{join-pieces_of, pieces_of-append, pieces_of-each_lacks, pieces_of-lacks}
use Rattle.std.proofs.Common.{Bool, IsTrue, Option, Some, None, MatchOption, Bor, eqb, suc}
use Rattle.std.proofs.lemmas.Bool.{eqb-true}
use Rattle.tydi_base.specs.WordsLeft.{words_after, words_left}
use Rattle.tydi_base.specs.declared.words_left.WordsLeft.{WordsLeft}
use Rattle.tydi_base.specs.WordsLeft.{Follows, HasNoSized, IsCut, IsEnd, IsSized, NoCut}

follows_end : (rest : List ℕ) → IsEnd rest → Follows rest (words_after rest)
follows_end rest (inl none) = inl (none, ap words_after none)
follows_end rest (inr more) = inr (more.0, more.1, ap words_after more.1)

-- a text with a space or an end at this place, or another byte
module _ (text rest : List ℕ) (size : ℕ) (le : size ≤ length text) (is : rest ≡ take (length text - size) (drop size text)) where
  rest_is : rest ≡ drop size text
  rest_is = is ∙ take_rest text size

  pub cut_rest : IsEnd rest → IsCut text size (take size text) (words_after rest)
  cut_rest end = record {
    tail = rest;
    long = length-take-le size text le;
    whole = sym (take-append-drop size text) ∙ ap (λ (tail : List ℕ). take size text ++ tail) (sym rest_is);
    follows = follows_end rest end;
  }

  pub cut_no_end : (IsEnd rest → ⊥) → NoCut text size
  cut_no_end none value tail long whole end =
      let same : rest ≡ tail = rest_is ∙ ap (drop size) whole ∙ ap (λ (n : ℕ). drop n (value ++ tail)) (sym long) ∙ drop-append_seam value tail in
      none (subst IsEnd (sym same) end)

-- the rest of a text after its first word
first_word : (text word : List ℕ) (words : List (List ℕ)) → words_of text ≡ word ∷ words → (tail : List ℕ) × (text ≡ word ++ tail) × IsEnd tail
first_word text word [] is = ([], sym (join-pieces_of 32 text) ∙ ap (join_with_byte 32) is ∙ sym (append-nil word), inl refl)
first_word text word (next ∷ words) is =
    (32 ∷ join_with_byte 32 (next ∷ words), sym (join-pieces_of 32 text) ∙ ap (join_with_byte 32) is, inr (join_with_byte 32 (next ∷ words), refl))

-- the rest of a text after a signal at its front
first_signal : (key : ℕ) (after value : List ℕ) (words : List (List ℕ)) → words_of (key ∷ 61 ∷ after) ≡ (key ∷ 61 ∷ value) ∷ words → (tail : List ℕ) × (after ≡ value ++ tail) × IsEnd tail
first_signal key after value words is =
    let first = first_word (key ∷ 61 ∷ after) (key ∷ 61 ∷ value) words is in
    let whole : key ∷ 61 ∷ after ≡ key ∷ 61 ∷ (value ++ first.0) = first.1 in
    (first.0, cc, first.2)

-- a front of a text is the only one of its length
front_only : (a b x y : List ℕ) → length a ≡ length b → a ++ x ≡ b ++ y → a ≡ b
front_only a b x y long whole = sym (take-append_seam a x) ∙ rw (long, whole) (take-append_seam b y)

after_word : (word tail : List ℕ) (rest : List (List ℕ)) → Follows tail rest → Lacks 32 word → words_of (word ++ tail) ≡ word ∷ rest
after_word word tail rest (inl none) lacks = rw (none.0, none.1, append-nil) (pieces_of-lacks 32 word lacks)
after_word word tail rest (inr more) lacks = rw (more.1, more.2) (pieces_of-append 32 word more.0 lacks)

lacks-signal : (key : ℕ) (value : List ℕ) → (key ≡ 32 → ⊥) → Lacks 32 value → Lacks 32 (key ∷ 61 ∷ value)
lacks-signal key value ne lacks = All-cons (λ byte. byte ≢ 32) key (61 ∷ value) ne (All-cons (λ byte. byte ≢ 32) 61 value (omega arith) lacks)

module _ (key size : ℕ) (after : List ℕ) where
  sized_some : (value : List ℕ) (rest : List (List ℕ)) → (key ≡ 32 → ⊥) → IsCut after size value rest → IsSized key size (words_of (key ∷ 61 ∷ after)) value rest
  sized_some value rest ne cut = record {
    long = cut.long;
    spelled = λ lacks. rw cut.whole (after_word (key ∷ 61 ∷ value) cut.tail rest cut.follows (lacks-signal key value ne lacks));
    only = λ other others is long.
        let first = first_signal key after other others is in
        let same : length other ≡ length value = long ∙ sym cut.long in
        front_only other value first.0 cut.tail same (sym first.1 ∙ cut.whole);
  }

  sized_none : NoCut after size → HasNoSized key size (words_of (key ∷ 61 ∷ after))
  sized_none none other others is long =
      let first = first_signal key after other others is in
      none other first.0 long first.1 first.2

-- the first word as the cut says
pub sized_cut : (key size : ℕ) (text after : List ℕ) (words : List (List ℕ)) (result : Option (Bor (List ℕ) × WordsLeft)) → (key ≡ 32 → ⊥) → words ≡ words_of text → text ≡ key ∷ 61 ∷ after
    → MatchOption result (NoCut after size) (λ x. IsCut after size x.0.now (words_left x.1))
    → MatchOption result (HasNoSized key size words) (λ x. IsSized key size words x.0.now (words_left x.1))
sized_cut key size text after words None ne are is cut = rw (are, is) (sized_none key size after cut)
sized_cut key size text after words (Some x) ne are is cut = rw (are, is) (sized_some key size after x.0.now (words_left x.1) ne cut)

-- a text that does not go on with a key and `=` after its first byte
pub sized_other : (key size : ℕ) (text : List ℕ) → ((first : ℕ) (after : List ℕ) → text ≡ first ∷ key ∷ 61 ∷ after → ⊥) → HasNoSized key size (words_after text)
sized_other key size [] not other others is long = absurd cc
sized_other key size (byte ∷ text) not other others is long =
    let first = first_word text (key ∷ 61 ∷ other) others is in
    not byte (other ++ first.0) (ap (λ (text : List ℕ). byte ∷ text) first.1)

-- no word begins with a space
pub sized_space : (size : ℕ) (text : List ℕ) → HasNoSized 32 size (words_after text)
sized_space size [] other others is long = absurd cc
sized_space size (byte ∷ text) other others is long =
    let each : All (Lacks 32) ((32 ∷ 61 ∷ other) ∷ others) = subst (All (Lacks 32)) is (pieces_of-each_lacks 32 text) in
    let lacks : Lacks 32 (32 ∷ 61 ∷ other) = All-head (Lacks 32) (32 ∷ 61 ∷ other) others each in
    lacks 0 0 (omega arith) refl

-- ---- whether words are left

words_of-some : (text : List ℕ) → words_of text ≡ [] → ⊥
words_of-some text none =
    let empty : text ≡ [] = sym (join-pieces_of 32 text) ∙ ap (join_with_byte 32) none in
    let one : words_of text ≡ [] ∷ [] = rw empty (pieces_of-lacks 32 [] (All-nil (λ byte. byte ≢ 32))) in
    cc

pub words_after-empty : (text : List ℕ) (empty : Bool) → empty ≡ eqb (length text) 0 → (IsTrue empty → words_after text ≡ []) × (words_after text ≡ [] → IsTrue empty)
words_after-empty [] empty is = (λ holds. refl, λ none. is)
words_after-empty (byte ∷ text) empty is =
    (λ holds. absurd (let zero : suc (length text) ≡ 0 = eqb-true _ _ (sym is ∙ holds) in omega arith), λ none. absurd (words_of-some text none))

-- the words after a word, from the space on that follows it
pub words_after-word : (line word after rest : List ℕ) → line ≡ word ++ 32 ∷ after → rest ≡ take (length line - length word) (drop (length word) line) → words_after rest ≡ words_of after
words_after-word line word after rest whole is =
    let same : rest ≡ 32 ∷ after = is ∙ take_rest line (length word) ∙ ap (drop (length word)) whole ∙ drop-append_seam word (32 ∷ after) in
    ap words_after same

-- ---- a value of one byte or two that are no spaces

pub lacks_one : (value : List ℕ) → length value ≡ 1 → get_or value 0 0 ≢ 32 → Lacks 32 value
lacks_one [] one ne = absurd (omega arith)
lacks_one (byte ∷ []) one ne = All-cons (λ b. b ≢ 32) byte [] ne (All-nil (λ b. b ≢ 32))
lacks_one (byte ∷ more ∷ value) one ne = absurd (omega arith)

pub lacks_two : (value : List ℕ) → length value ≡ 2 → get_or value 0 0 ≢ 32 → get_or value 1 0 ≢ 32 → Lacks 32 value
lacks_two [] two ne other = absurd (omega arith)
lacks_two (byte ∷ []) two ne other = absurd (omega arith)
lacks_two (byte ∷ next ∷ []) two ne other = All-cons (λ b. b ≢ 32) byte (next ∷ []) ne (lacks_one (next ∷ []) refl other)
lacks_two (byte ∷ next ∷ more ∷ value) two ne other = absurd (omega arith)
