-- Parts of lines: what stands behind a front, and before a back.
use Rattle.std.proofs.Common.{◌≡◌, ℕ, zero, Bool, true, false, cond, List, [], ◌∷◌, ◌++◌, length, length-append, nat_le, ◌&&◌, take, drop, Option, Some, None, refl, sym, ap, ◌∙◌, nat_eq, suc, ◌<◌, ◌≤◌, ◌==◌, replicate, arith}
use Rattle.std.proofs.lemmas.Bool.{eqb-true}
use Rattle.tydi_base.proofs.PlainWords.{and_parts}
use Rattle.std.specs.List.{list_all, starts_with}
use Rattle.std.specs.Str.{bytes_eq}
use Rattle.std.proofs.Math.Seq.{drop-append_seam, take-append_seam}
use Rattle.std.proofs.lemmas.Bool.Decides.{Decides-eqb, nat_tests}
use Rattle.std.proofs.lemmas.List.{append_cancel_left, take-append-drop}
use Rattle.std.proofs.lemmas.Option.{none-some, same_Some}
use Rattle.std.proofs.lemmas.Slice.Eq.{bytes_eq-Decides, starts_is}
use Rattle.watch_text.specs.Reading.{cut_before, without_front}

-- ---- tests of texts

pub same-text : (text : List ℕ) → bytes_eq text text ≡ true
same-text text = (bytes_eq-Decides text text).1 refl

pub other-text : (one other : List ℕ) → (one ≡ other → ⊥) → bytes_eq one other ≡ false
other-text one other differ = by (bytes_eq one other) refl
  where
    by : (test : Bool) → bytes_eq one other ≡ test → test ≡ false
    by true is = absurd (differ ((bytes_eq-Decides one other).0 is))
    by false is = refl

-- ---- fronts

pub without_front-some : (front text rest : List ℕ) → without_front front text ≡ Some rest → text ≡ front ++ rest
unfolding without_front
without_front-some front text rest e = by (starts_with nat_eq text front) refl e
  where
    by : (test : Bool) → starts_with nat_eq text front ≡ test → cond test (Some (drop (length front) text)) None ≡ Some rest → text ≡ front ++ rest
    by true is e = (starts_is Decides-eqb text front (starts_with nat_eq text front) refl).0 is ∙ ap (λ (l : List ℕ). front ++ l) (same_Some (drop (length front) text) rest e)
    by false is e = absurd (none-some rest e)

pub without_front-append : (front rest : List ℕ) → without_front front (front ++ rest) ≡ Some rest
unfolding without_front
without_front-append front rest =
    let is = (starts_is Decides-eqb (front ++ rest) front (starts_with nat_eq (front ++ rest) front) refl).1 rest refl in
    rw is (ap Some (drop-append_seam front rest))

pub without_front-none : (front text : List ℕ) → ((rest : List ℕ) → text ≡ front ++ rest → ⊥) → without_front front text ≡ None
without_front-none front text differ = by (without_front front text) refl
  where
    by : (found : Option (List ℕ)) → without_front front text ≡ found → found ≡ None
    by None is = refl
    by (Some rest) is = absurd (differ rest (without_front-some front text rest is))

-- ---- backs

pub cut_before-some : (count : ℕ) (back text front : List ℕ) → cut_before count back text ≡ Some front → text ≡ front ++ back
unfolding cut_before
cut_before-some count back text front e = by (nat_le count (length text) && bytes_eq (drop count text) back) refl e
  where
    by : (test : Bool) → (nat_le count (length text) && bytes_eq (drop count text) back) ≡ test → cond test (Some (take count text)) None ≡ Some front → text ≡ front ++ back
    by true is e =
        let parts = and_parts (nat_le count (length text)) (bytes_eq (drop count text) back) is in
        sym (take-append-drop count text) ∙ ap (λ (l : List ℕ). take count text ++ l) ((bytes_eq-Decides (drop count text) back).0 parts.1) ∙ ap (λ (l : List ℕ). l ++ back) (same_Some (take count text) front e)
    by false is e = absurd (none-some front e)

length-front : (front back : List ℕ) → length front ≤ length (front ++ back)
length-front front back = omega (arith, length-append front back)

pub cut_before-append : (count : ℕ) (front back : List ℕ) → length front ≡ count → cut_before count back (front ++ back) ≡ Some front
unfolding cut_before
cut_before-append count front back many =
    let within : nat_le (length front) (length (front ++ back)) ≡ true = grind (arith, nat_tests, length-front front back) in
    rw (← many, within, drop-append_seam front back, same-text back, take-append_seam front back) refl

-- ---- spaces

-- a text so far to the right begins with as many spaces
spaces-front : (indent : ℕ) (rest : List ℕ) → list_all (λ byte. byte == 32) (take indent (replicate indent 32 ++ rest)) ≡ true
spaces-front zero rest = refl
spaces-front (suc indent) rest = spaces-front indent rest

spaces-many : (indent : ℕ) (rest : List ℕ) → indent ≤ length (replicate indent 32 ++ rest)
spaces-many zero rest = omega arith
spaces-many (suc indent) rest = omega (arith, spaces-many indent rest)

spaces-are : (indent : ℕ) (line : List ℕ) → indent ≤ length line → list_all (λ byte. byte == 32) (take indent line) ≡ true → take indent line ≡ replicate indent 32
spaces-are zero line within all = refl
spaces-are (suc indent) [] within all = absurd (omega arith)
spaces-are (suc indent) (byte ∷ line) within all =
    let parts = and_parts (byte == 32) (list_all (λ b. b == 32) (take indent line)) all in
    let first : byte ≡ 32 = eqb-true byte 32 parts.0 in
    rw first (ap (λ (l : List ℕ). 32 ∷ l) (spaces-are indent line (omega arith) parts.1))

pub at-short : (indent : ℕ) (line : List ℕ) → length line < indent → None ≡ without_front (replicate indent 32) line
at-short indent line short = sym (without_front-none (replicate indent 32) line (λ rest same. absurd (omega (arith, short, spaces-many indent rest, ap length same))))

pub at-other : (indent : ℕ) (line : List ℕ) → list_all (λ byte. byte == 32) (take indent line) ≡ false → None ≡ without_front (replicate indent 32) line
at-other indent line other = sym (without_front-none (replicate indent 32) line (λ rest same. absurd (cc (sym other ∙ ap (λ (l : List ℕ). list_all (λ byte. byte == 32) (take indent l)) same ∙ spaces-front indent rest))))

pub at-some : (indent : ℕ) (line : List ℕ) → indent ≤ length line → list_all (λ byte. byte == 32) (take indent line) ≡ true → Some (drop indent line) ≡ without_front (replicate indent 32) line
at-some indent line within all =
    let text : line ≡ replicate indent 32 ++ drop indent line = sym (take-append-drop indent line) ∙ ap (λ (l : List ℕ). l ++ drop indent line) (spaces-are indent line within all) in
    sym (ap (without_front (replicate indent 32)) text ∙ without_front-append (replicate indent 32) (drop indent line))

-- ---- lines so far to the right

same-tests : (a b c d : List ℕ) → (a ≡ b → c ≡ d) → (c ≡ d → a ≡ b) → bytes_eq a b ≡ bytes_eq c d
same-tests a b c d there back = by (bytes_eq a b) (bytes_eq c d) refl refl
  where
    by : (one other : Bool) → bytes_eq a b ≡ one → bytes_eq c d ≡ other → one ≡ other
    by true true e f = refl
    by false false e f = refl
    by true false e f = cc (sym f ∙ (bytes_eq-Decides c d).1 (there ((bytes_eq-Decides a b).0 e)))
    by false true e f = cc (sym e ∙ (bytes_eq-Decides a b).1 (back ((bytes_eq-Decides c d).0 f)))

pub is_at-some : (indent : ℕ) (line rest text : List ℕ) → Some rest ≡ without_front (replicate indent 32) line → bytes_eq rest text ≡ bytes_eq line (replicate indent 32 ++ text)
is_at-some indent line rest text found =
    let is = without_front-some (replicate indent 32) line rest (sym found) in
    same-tests rest text line (replicate indent 32 ++ text) (λ same. is ∙ ap (λ (l : List ℕ). replicate indent 32 ++ l) same) (λ same. append_cancel_left (replicate indent 32) rest text (sym is ∙ same))

pub is_at-none : (indent : ℕ) (line text : List ℕ) → None ≡ without_front (replicate indent 32) line → false ≡ bytes_eq line (replicate indent 32 ++ text)
is_at-none indent line text none =
    sym (other-text line (replicate indent 32 ++ text) (λ same. absurd (none-some text (none ∙ ap (without_front (replicate indent 32)) same ∙ without_front-append (replicate indent 32) text))))
