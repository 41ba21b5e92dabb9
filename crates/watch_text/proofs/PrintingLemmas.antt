-- The text of a monitor, part after part.
use Rattle.std.proofs.Common.{◌≡◌, ◌∙◌, ◌⊎◌, ℕ, Bool, true, false, ◌&&◌, ◌||◌, not, if◌then◌else◌, List, [], ◌∷◌, ◌++◌, append_assoc, append-nil, Option, is_some, inl, inr, map, refl, ap}
use Rattle.std.specs.Prelude.{codes}
use Rattle.physical_stream.specs.Signals.{has_endi, has_stai, has_strb}
use Rattle.physical_stream.specs.declared.head.Head.{Head}
use Rattle.physical_stream.specs.declared.item.Item.{Item}
use Rattle.signal_layout.specs.Layout.{where_present}
use Rattle.signal_layout.specs.declared.signal.Signal.{Signal}
use Rattle.signal_layout.specs.declared.signal.Signal.TheVariants as signals
use Rattle.watch_text.specs.Statements.{plain_statements}
use Rattle.watch_text.specs.Text.{active_test, endi_test, inputs_of, joined, process_text, processes_text, stai_test, strb_test, table_text, tables_text, where_has}
use Rattle.watch_text.specs.declared.watch.WStmt.{WStmt}

-- the ports depend on the widths of the payload signals alone
pub inputs_of-same : (head : Head) (w v : Signal → Option ℕ) → ((s : Signal) → w s ≡ v s) → inputs_of head w ≡ inputs_of head v
inputs_of-same head w v same = rw (same signals.Content, same signals.Last, same signals.Stai, same signals.Endi, same signals.Strb) refl

-- a width is there where the signal is
pub is_some-present : (width : Option ℕ) (present : Bool) (bits : ℕ) → width ≡ where_present present bits → is_some width ≡ present
is_some-present width true bits is = ap is_some is
is_some-present width false bits is = ap is_some is

abbrev part : Bool → List ℕ → List ℕ
part there text = if there then text else []

-- three tests, each with ` and ` before it where another stands before it
abbrev three : (a b c : Bool) → (x y z : List ℕ) → List ℕ
three a b c x y z = part a x ++ (part (a && b) (codes " and ") ++ (part b y ++ (part ((a || b) && c) (codes " and ") ++ (part c z ++ part (not ((a || b) || c)) (codes "true")))))

joined-three : (a b c : Bool) (x y z : List ℕ) → three a b c x y z ≡ joined (where_has a x ++ (where_has b y ++ where_has c z))
joined-three true true true x y z = simp (append_assoc, append-nil) refl
joined-three true true false x y z = simp append-nil refl
joined-three true false true x y z = simp (append_assoc, append-nil) refl
joined-three true false false x y z = simp append-nil refl
joined-three false true true x y z = simp (append_assoc, append-nil) refl
joined-three false true false x y z = simp append-nil refl
joined-three false false true x y z = simp append-nil refl
joined-three false false false x y z = refl

-- the test of an active lane
pub active-made : (head : Head) (a b c : Bool) → a ≡ has_stai head.params → b ≡ has_endi head.params → c ≡ has_strb head.params → three a b c (stai_test head) (endi_test head) (strb_test head) ≡ active_test head
active-made head a b c stai endi strb = joined-three a b c (stai_test head) (endi_test head) (strb_test head) ∙ rw (stai, endi, strb) refl

-- one more table
pub tables-step : (heads left : List Head) (want more : List (List Item)) (head : Head) (items written : List Item) → heads ≡ head ∷ left → want ≡ items ∷ more → written ≡ items
    → tables_text heads want ≡ table_text head written ++ tables_text left more
tables-step heads left want more head items written heads_are want_is same = rw (heads_are, want_is, same) refl

-- where streams or tables are over, no table is left
pub tables-none : (heads : List Head) (want : List (List Item)) → (heads ≡ []) ⊎ (want ≡ []) → tables_text heads want ≡ []
tables-none [] want over = refl
tables-none (head ∷ heads) [] over = refl
tables-none (head ∷ heads) (first ∷ want) (inl over) = absurd cc
tables-none (head ∷ heads) (first ∷ want) (inr over) = absurd cc

-- one more process
pub processes-step : (heads left : List Head) (procs more : List (List WStmt)) (head : Head) (process written : List WStmt) → heads ≡ head ∷ left → procs ≡ process ∷ more → written ≡ process
    → processes_text heads (map plain_statements procs) ≡ process_text head (plain_statements written) ++ processes_text left (map plain_statements more)
processes-step heads left procs more head process written heads_are procs_are same = rw (heads_are, procs_are, same) refl

-- where streams or processes are over, no process is left
pub processes-none : (heads : List Head) (procs : List (List WStmt)) → (heads ≡ []) ⊎ (procs ≡ []) → processes_text heads (map plain_statements procs) ≡ []
processes-none [] procs over = refl
processes-none (head ∷ heads) [] over = refl
processes-none (head ∷ heads) (first ∷ procs) (inl over) = absurd cc
processes-none (head ∷ heads) (first ∷ procs) (inr over) = absurd cc
