-- A process while it is read, as the code keeps it.
use Rattle.std.proofs.Common.{◌≡◌, ℕ, ◌<◌, ◌≤◌, ◌^◌, Bool, true, false, not, ◌&&◌, nat_lt, ltb, cond, List, [], ◌∷◌, ◌++◌, map, drop, Some, None, Ok, Err, IsTrue, refl, sym, ap, ◌∙◌, arith}
use Rattle.std.specs.Str.{bytes_eq}
use Rattle.std.proofs.lemmas.Bool.Decides.{nat_tests}
use Rattle.std.proofs.lemmas.Option.{none-some, same_Some}
use Rattle.tydi_base.specs.Bits.{number_of_bits}
use Rattle.tydi_base.specs.Hex.{no_ones}
use Rattle.tydi_base.specs.Numbers.{number_below}
use Rattle.tydi_base.proofs.NumberLemmas.{no_ones-drop}
use Rattle.tydi_reading.specs.Reading.{took, first, rest_of}
use Rattle.tydi_reading.specs.declared.fault.Fault.TheVariants as refusals
use Rattle.physical_stream.specs.declared.item.Item.TheVariants as items
use Rattle.watch_text.specs.declared.entry.Entry.TheVariants as entries
use Rattle.watch_text.specs.declared.forms.Forms.{Forms}
use Rattle.watch_text.specs.declared.begun.Begun.{Begun}
use Rattle.watch_text.specs.declared.nest.Nest.{Nest}
use Rattle.watch_text.specs.declared.opening.Opening.{Opening}
use Rattle.watch_text.specs.declared.so_far.SoFar.{SoFar}
use Rattle.watch_text.specs.declared.stage.Stage.TheVariants as stages
use Rattle.watch_text.specs.declared.watch.WStmt.{WStmt}
use Rattle.watch_text.specs.Progress.{all_begun, around_of, opened_of, progress_of}
use Rattle.watch_text.specs.Reading.{Opened, Progress, around_inside, at, close_in, closes, end_of, ends, statements_from, indent_of, inside, is_none_of, is_outside, made}
use Rattle.watch_text.specs.Statements.{plain, plain_statements, statements_of}
use Rattle.watch_text.proofs.PlainLemmas.{statements_of-map}

-- ---- statements that are begun

pub all_begun-last : (begun : List Begun) (inner : Begun) → all_begun (begun ++ inner ∷ []) ≡ opened_of inner ∷ all_begun begun
all_begun-last [] inner = refl
all_begun-last (outer ∷ begun) inner = ap (λ (l : List Opened). l ++ opened_of outer ∷ []) (all_begun-last begun inner)

not-outside : (begun : List Opened) (outer : Opened) → is_outside (begun ++ outer ∷ []) ≡ false
not-outside [] outer = refl
not-outside (inner ∷ begun) outer = refl

not-true : (test : Bool) → (IsTrue test → ⊥) → test ≡ false
not-true true fails = absurd (fails refl)
not-true false fails = refl

pub outside-is : (begun : List Begun) (test : Bool) → (IsTrue test → begun ≡ []) → (begun ≡ [] → IsTrue test) → test ≡ is_outside (all_begun begun)
outside-is [] test there back = back refl
outside-is (outer ∷ begun) test there back = not-true test (λ is. absurd (cc (there is))) ∙ sym (not-outside (all_begun begun) (opened_of outer))

pub none-is : (stmts : List WStmt) (test : Bool) → (IsTrue test → stmts ≡ []) → (stmts ≡ [] → IsTrue test) → test ≡ is_none_of (map plain stmts)
none-is [] test there back = back refl
none-is (first ∷ more) test there back = not-true test (λ is. absurd (cc (there is)))

-- ---- steps

pub inside-is : (so_far : SoFar) (opening : Opening) (nest : Nest) (stmts earlier : List WStmt) (begun : List Begun) → around_of nest ≡ around_inside (around_of so_far.nest) opening → stmts ≡ [] → earlier ≡ so_far.stmts
    → begun ≡ so_far.begun ++ record { opening = opening; nest = so_far.nest; stmts = earlier } ∷ []
    → progress_of (record { stage = stages.Free; nest = nest; stmts = stmts; begun = begun }) ≡ inside (progress_of so_far) opening
inside-is so_far opening nest stmts earlier begun around none before more =
    let inner : Begun = record { opening = opening; nest = so_far.nest; stmts = so_far.stmts } in
    let last : all_begun begun ≡ opened_of inner ∷ all_begun so_far.begun =
    ap all_begun more ∙ ap (λ (l : List WStmt). all_begun (so_far.begun ++ record { opening = opening; nest = so_far.nest; stmts = l } ∷ [])) before ∙ all_begun-last so_far.begun inner in
    rw (none, last, around) refl

pub back-is : (opening : Opening) (body stmts dest earlier : List WStmt) (stmt : WStmt) → plain stmt ≡ made opening (plain_statements body) → body ≡ stmts → dest ≡ earlier
    → map plain dest ++ plain stmt ∷ [] ≡ map plain earlier ++ made opening (statements_of (map plain stmts)) ∷ []
back-is opening body stmts dest earlier stmt is same before =
    rw (is, before, same, statements_of-map stmts) refl

-- the end of the innermost statement, of those that are begun
pub closes-by : (now next : Progress) (line : List ℕ) (begun rest : List Begun) (inner : Begun) (test : Bool) → begun ≡ rest ++ inner ∷ []
    → test ≡ (not (is_none_of now.earlier) && bytes_eq line (at (indent_of (around_of inner.nest)) (end_of inner.opening))) → test ≡ true
    → next ≡ record { stage = stages.Free; around = around_of inner.nest; earlier = map plain inner.stmts ++ made inner.opening (statements_of now.earlier) ∷ []; begun = all_begun rest }
    → closes now line (all_begun begun) ≡ Ok next
closes-by now next line begun rest inner test more is may same =
    let last : all_begun begun ≡ opened_of inner ∷ all_begun rest = ap all_begun more ∙ all_begun-last rest inner in
    rw (last, sym is ∙ may) (ap Ok (sym same))

pub closes-not : (now : Progress) (line : List ℕ) (begun rest : List Begun) (inner : Begun) (test : Bool) → begun ≡ rest ++ inner ∷ []
    → test ≡ (not (is_none_of now.earlier) && bytes_eq line (at (indent_of (around_of inner.nest)) (end_of inner.opening))) → test ≡ false
    → closes now line (all_begun begun) ≡ Err refusals.Refused
closes-not now line begun rest inner test more is may =
    let last : all_begun begun ≡ opened_of inner ∷ all_begun rest = ap all_begun more ∙ all_begun-last rest inner in
    rw (last, sym is ∙ may) refl

-- ---- numbers of bits

pub number-some : (place : ℕ) (bits : List Bool) (number : ℕ) → Some number ≡ number_below place bits → number ≡ number_of_bits bits
unfolding number_below
number-some place bits number e = by (no_ones (drop place bits)) e
  where
    by : (test : Bool) → Some number ≡ cond test (Some (number_of_bits bits)) None → number ≡ number_of_bits bits
    by true e = same_Some number (number_of_bits bits) e
    by false e = absurd (none-some number (sym e))

pub number-none : (place : ℕ) (bits : List Bool) → None ≡ number_below place bits → 2 ^ place ≤ number_of_bits bits
unfolding number_below
number-none place bits e = by (no_ones (drop place bits)) refl e
  where
    by : (test : Bool) → no_ones (drop place bits) ≡ test → None ≡ cond test (Some (number_of_bits bits)) None → 2 ^ place ≤ number_of_bits bits
    by true is e = absurd (none-some (number_of_bits bits) e)
    by false is e = let least : ltb (number_of_bits bits) (2 ^ place) ≡ false = sym (no_ones-drop place bits) ∙ is in grind (arith, nat_tests)

pub close-some : (bits : List Bool) (number count : ℕ) → Some number ≡ number_below 128 bits → cond (nat_lt number count) (Some (entries.Item (items.Close number))) None ≡ close_in count (Some bits)
close-some bits number count e = ap (λ (n : ℕ). cond (nat_lt n count) (Some (entries.Item (items.Close n))) None) (number-some 128 bits number e)

pub close-none : (bits : List Bool) (count : ℕ) → count < 2 ^ 8 → None ≡ number_below 128 bits → None ≡ close_in count (Some bits)
close-none bits count few e =
    let least = number-none 128 bits e in
    let past : nat_lt (number_of_bits bits) count ≡ false = grind (arith, nat_tests, least, few) in
    rw past refl

-- ---- the end of a process

pub statements-end : (forms : Forms) (now : Progress) (lines rest : List (List ℕ)) (line : List ℕ) → Some line ≡ first lines → ends now line ≡ true → rest ≡ rest_of lines
    → statements_from forms now lines ≡ took (statements_of now.earlier) rest
statements-end forms now [] rest line there is left = absurd (none-some line (sym there))
statements-end forms now (next ∷ lines) rest line there is left = let same = same_Some line next there in rw (← same, is, left) refl
