-- Pieces of a text, and texts joined of pieces.
use Rattle.std.proofs.Common.{◌-◌, add-one, ◌≡◌, ◌≢◌, ℕ, ◌+◌, ◌<◌, ◌≤◌, Bool, true, false, eqb, List, [], ◌∷◌, ◌++◌, length, get_or, take, drop, refl, ap, ◌∙◌, arith, All}
use Rattle.std.specs.List.{onto_first, join_with_byte, AllByRecursion}
use Rattle.std.proofs.lemmas.Bool.{eqb-true}
use Rattle.std.proofs.lemmas.Bool.Decides.{nat_tests}
use Rattle.std.proofs.Math.Seq.{drop-cons, take-length}
use Rattle.std.proofs.lemmas.List.{take-append-drop, take_rest, length-take, get_or-take}
use Rattle.std.proofs.lemmas.List.Elements.{All-from_get_or, All-nil, All-cons, All-head, All-tail, All-from_recursion}
use Rattle.std.proofs.lemmas.List.Splits.{slice_split-cons_yes, slice_split-cons_no, slice_split_none, slice_split_at, join_with_byte-slice_split}
use Rattle.memchr.specs.Find.{Nowhere, NoneBefore, Passes, is_byte}
use Rattle.tydi_base.specs.Pieces.{pieces_of, Lacks, PiecesJoinAgain, PiecesLackSeparators, JoinsFallApart}

Lacks-tests : (separator : ℕ) (text : List ℕ) → Lacks separator text → All (λ byte. eqb byte separator ≡ false) text
Lacks-tests separator text h k d lt = let ne = h k d lt in grind (arith, nat_tests)

-- a text without separators is its one piece
pub pieces_of-lacks : (separator : ℕ) (text : List ℕ) → Lacks separator text → pieces_of separator text ≡ text ∷ []
pieces_of-lacks separator text h = slice_split_none (λ byte. eqb byte separator) text (Lacks-tests separator text h)

-- the first piece ends at the first separator
pub pieces_of-append : (separator : ℕ) (front rest : List ℕ) → Lacks separator front → pieces_of separator (front ++ separator ∷ rest) ≡ front ∷ pieces_of separator rest
pieces_of-append separator front rest h = slice_split_at (λ byte. eqb byte separator) front separator rest (Lacks-tests separator front h) (grind (arith, nat_tests))

pub pieces_of-join : JoinsFallApart
pieces_of-join separator [] some each = absurd (omega arith)
pieces_of-join separator (piece ∷ []) some each = pieces_of-lacks separator piece (All-head (Lacks separator) piece [] each)
pieces_of-join separator (piece ∷ next ∷ pieces) some each =
    pieces_of-append separator piece (join_with_byte separator (next ∷ pieces)) (All-head (Lacks separator) piece (next ∷ pieces) each)
    ∙ ap (λ (others : List (List ℕ)). piece ∷ others) (pieces_of-join separator (next ∷ pieces) (omega arith) (All-tail (Lacks separator) piece (next ∷ pieces) each))

pub join-pieces_of : PiecesJoinAgain
join-pieces_of = join_with_byte-slice_split

onto_first-lacks : (separator byte : ℕ) (pieces : List (List ℕ)) → byte ≢ separator → AllByRecursion (Lacks separator) pieces → AllByRecursion (Lacks separator) (onto_first byte pieces)
onto_first-lacks separator byte [] ne each = (All-cons (λ b. b ≢ separator) byte [] ne (All-nil (λ b. b ≢ separator)), tt)
onto_first-lacks separator byte (piece ∷ pieces) ne each = (All-cons (λ b. b ≢ separator) byte piece ne each.0, each.1)

at_byte : (separator byte : ℕ) (text : List ℕ) (same : Bool) → eqb byte separator ≡ same → AllByRecursion (Lacks separator) (pieces_of separator text) → AllByRecursion (Lacks separator) (pieces_of separator (byte ∷ text))
at_byte separator byte text true e each = rw (slice_split-cons_yes (λ b. eqb b separator) byte text e) (All-nil (λ b. b ≢ separator), each)
at_byte separator byte text false e each = let ne : byte ≢ separator = grind (arith, nat_tests) in rw (slice_split-cons_no (λ b. eqb b separator) byte text e) (onto_first-lacks separator byte (pieces_of separator text) ne each)

each_lacks : (separator : ℕ) (text : List ℕ) → AllByRecursion (Lacks separator) (pieces_of separator text)
each_lacks separator [] = (All-nil (λ b. b ≢ separator), tt)
each_lacks separator (byte ∷ text) = at_byte separator byte text (eqb byte separator) refl (each_lacks separator text)

pub pieces_of-each_lacks : PiecesLackSeparators
pieces_of-each_lacks separator text = All-from_recursion (Lacks separator) (pieces_of separator text) (each_lacks separator text)

-- ---- a text up to its first separator, as a search finds it

pub Lacks-nowhere : (separator : ℕ) (text : List ℕ) (end : ℕ) → Nowhere (Passes (is_byte separator) text) 0 end → end ≤ length text → Lacks separator (take end text)
Lacks-nowhere separator text end none le =
    All-from_get_or (λ byte. byte ≢ separator) (take end text) 0 (λ k lt.
    let within : k < end = omega (arith, length-take end text) in
    let same : get_or (take end text) k 0 ≡ get_or text k 0 = get_or-take end text k 0 within in
    rw same (λ e. none k (omega arith) within (grind (arith, nat_tests))))

pub pieces_of-nowhere : (separator : ℕ) (text : List ℕ) → Nowhere (Passes (is_byte separator) text) 0 (length text) → pieces_of separator text ≡ text ∷ []
pieces_of-nowhere separator text none =
    let whole : take (length text) text ≡ text = take-length text in
    pieces_of-lacks separator text (rw whole at (Lacks-nowhere separator text (length text) none (omega arith)))

pub parts_at : (separator : ℕ) (text : List ℕ) (at : ℕ) → at < length text → Passes (is_byte separator) text at → text ≡ take at text ++ separator ∷ drop (at + 1) text
parts_at separator text at lt passes =
    let here : get_or text at 0 ≡ separator = eqb-true _ _ passes in
    let next : drop at text ≡ get_or text at 0 ∷ drop (at + 1) text = rw add-one (drop-cons text at 0 lt) in
    let whole : take at text ++ drop at text ≡ text = take-append-drop at text in
    cc

-- the rest is as `&text[at + 1..]` reads
pub pieces_of-first : (separator : ℕ) (text : List ℕ) (at : ℕ) → NoneBefore (Passes (is_byte separator) text) 0 (length text) at → Passes (is_byte separator) text at
    → pieces_of separator text ≡ take at text ∷ pieces_of separator (take (length text - (at + 1)) (drop (at + 1) text))
pieces_of-first separator text at first passes =
    let high = first.high in
    let rest : take (length text - (at + 1)) (drop (at + 1) text) ≡ drop (at + 1) text = take_rest text (at + 1) in
    let lacks = Lacks-nowhere separator text at first.before (omega arith) in
    rw rest (ap (pieces_of separator) (parts_at separator text at high passes) ∙ pieces_of-append separator (take at text) (drop (at + 1) text) lacks)
