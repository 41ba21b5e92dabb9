-- Texts that are written part after part.
use Rattle.til_parser.proofs.rules.Common.{◌≡◌, ◌⊎◌, ℕ, suc, ◌+◌, ◌-◌, ◌*◌, ◌<◌, ◌≤◌, ◌++◌, List, [], ◌∷◌, length, refl, sym, ap, ◌∙◌, append-nil, length-append, arith}
use Rattle.std.proofs.Common.{◌/◌, ◌%◌, codes, take, flat_map, append_assoc, take-take, take_at}
use Rattle.tydi_base.specs.Writing.{StandsInFront}
use Rattle.til_parser.specs.Canonical.{behind_point, digits_of_rest, more_parts_text, next_part_text}
use Rattle.til_parser.specs.declared.ltype.AstPart.{AstPart}
use Rattle.til_parser.proofs.{PlainLemmas.plain_parts, texts.NumberTextLemmas.digits_more, texts.NumberTextLemmas.digits_none}

-- ---- the digits behind a point

-- those that are written are all then
pub digits-written : (before whole : List ℕ) (turns rest den : ℕ) → (turns ≡ 0) ⊎ (rest ≡ 0) → before ++ digits_of_rest turns rest den ≡ whole → before ≡ whole
digits-written before whole turns rest den done all = sym (append-nil before) ∙ ap (λ ds. before ++ ds) (sym (digits_none turns rest den done)) ∙ all

-- a digit that is written is one of those that were to come
pub digit-written : (before pushed whole : List ℕ) (at rest den digit left : ℕ) → at < 18 → (rest ≡ 0 → ⊥)
    → pushed ≡ before ++ (48 + digit) ∷ [] → digit ≡ 10 * rest / den → left ≡ 10 * rest % den
    → before ++ digits_of_rest (18 - at) rest den ≡ whole → pushed ++ digits_of_rest (18 - (at + 1)) left den ≡ whole
digit-written before pushed whole at rest den digit left below some push is next all =
    let turn : 18 - at ≡ suc (18 - (at + 1)) = omega arith in
    rw (push, is, next) (append_assoc before _ _ ∙ rw (turn, digits_more (18 - (at + 1)) rest den some) at all)

pub point-written : (rest den : ℕ) (before pointed whole : List ℕ) → (rest ≡ 0 → ⊥) → pointed ≡ before ++ codes "."
    → whole ≡ pointed ++ digits_of_rest 18 rest den → whole ≡ before ++ behind_point (digits_of_rest 18 rest den)
point-written rest den before pointed whole some point all =
    rw (all, point) (append_assoc before (codes ".") _ ∙ rw (digits_more 17 rest den some) refl)

-- ---- types

-- a front of a text that more was added to is a front of a text with that one in front
pub front_before : (old more mid new : List ℕ) → mid ≡ old ++ more → StandsInFront mid new → StandsInFront old new
front_before old more mid new added front =
    let within : length old ≤ length mid = omega (arith, ap length added, length-append old more) in
    sym (take-take (length old) (length mid) new within) ∙ ap (take (length old)) (front ∙ added) ∙ take_at old more (length old) refl

-- a Stream, part after part: `after` is the text of its arguments, and what follows them
pub stream-written : (old a b c d e f t1 t2 t3 t4 t5 : List ℕ) (after : List ℕ → List ℕ) → ((l : List ℕ) → after [] ++ l ≡ after l)
    → t1 ≡ old ++ a → t2 ≡ t1 ++ b → t3 ≡ t2 ++ after [] → t4 ≡ t3 ++ c → t5 ≡ t4 ++ (d ++ (e ++ f))
    → t5 ≡ old ++ (a ++ ((b ++ after (c ++ (d ++ e))) ++ f))
stream-written old a b c d e f t1 t2 t3 t4 t5 after then e1 e2 e3 e4 e5 = rw (e5, e4, e3, e2, e1, ← then (c ++ (d ++ e))) (simp append_assoc refl)

-- parts as plain data have the text of the list of them
pub listed : (parts : List AstPart) → flat_map next_part_text parts ≡ more_parts_text (plain_parts parts)
listed [] = refl
listed (first ∷ more) = ap (λ text. next_part_text first ++ text) (listed more)
