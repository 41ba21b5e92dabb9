-- Tables of cells: the test by recursion, what it says of each entry, and the table of the rules.
use Rattle.std.proofs.Common.{◌≡◌, ◌∙◌, ℕ, zero, suc, ◌+◌, ◌-◌, ◌<◌, ◌≤◌, ◌↔◌, ◌⊎◌, inl, inr, Bool, true, false, not, ◌&&◌, ◌||◌, IsTrue, nat_lt, nat_le, List, [], ◌∷◌, length, get_or, drop, slice_get, Some, refl, sym, ap, arith, subst}
use Rattle.std.specs.List.{list_all}
use Rattle.std.proofs.lemmas.List.{at_drop_more, at_drop_all}
use Rattle.std.proofs.lemmas.Option.{get_or_from_slice_get, slice_get-get_or, slice_get_within}
use Rattle.std.proofs.lemmas.Bool.Decides.{nat_tests}
use borrow.Author.Count.{below_more}
use Rattle.tydi_base.specs.Level.{IsFirst, IsLevel, LevelNumbers, number_of}
use Rattle.physical_stream.specs.Rules.{Binds, binds_up_to, number_of_rule}
use Rattle.physical_stream.specs.declared.rule.Rule.{Rule}
use Rattle.physical_stream.specs.declared.rule.Rule.TheVariants.{Hold}
use Rattle.complexity_rules.specs.Table.{IsMonotone, IsMonotoneRow, SaysWhatBinds}
use Rattle.complexity_rules.specs.declared.table.TheConstants.{BINDS}

-- no cell is true after a false one, where this one stands before them
abbrev pub falls_after : Bool → List Bool → Bool
falls_after before [] = true
falls_after before (cell ∷ more) = (before || not cell) && falls_after cell more

both_left : (a b : Bool) → (a && b) ≡ true → a ≡ true
both_left true b e = refl
both_left false b e = e

both_right : (a b : Bool) → (a && b) ≡ true → b ≡ true
both_right true b e = e
both_right false b e = cc

-- a cell before a true one is true
before_true : (before cell : Bool) → (before || not cell) ≡ true → cell ≡ true → before ≡ true
before_true true cell e h = refl
before_true false true e h = e
before_true false false e h = h

monotone_from_falls : (before : Bool) (row : List Bool) → falls_after before row ≡ true → IsMonotoneRow (before ∷ row)
monotone_from_falls before [] e lower zero less on = absurd (omega arith)
monotone_from_falls before [] e lower (suc level) less on = cc
monotone_from_falls before (cell ∷ more) e lower zero less on = absurd (omega arith)
monotone_from_falls before (cell ∷ more) e (suc lower) (suc level) less on =
    monotone_from_falls cell more (both_right (before || not cell) (falls_after cell more) e) lower level (omega arith) on
monotone_from_falls before (cell ∷ more) e zero (suc level) less on =
    ap Some (before_true before cell (both_left (before || not cell) (falls_after cell more) e) (first_true cell more level (monotone_from_falls cell more (both_right (before || not cell) (falls_after cell more) e)) on))
  where
    first_true : (cell : Bool) (more : List Bool) (level : ℕ) → IsMonotoneRow (cell ∷ more) → slice_get (cell ∷ more) level ≡ Some true → cell ≡ true
    first_true cell more zero monotone on = cc
    first_true cell more (suc level) monotone on = let first : Some cell ≡ Some true = monotone 0 (suc level) (omega arith) on in cc

falls_from_monotone : (before : Bool) (row : List Bool) → IsMonotoneRow (before ∷ row) → falls_after before row ≡ true
falls_from_monotone before [] monotone = refl
falls_from_monotone true (cell ∷ more) monotone =
    falls_from_monotone cell more (λ lower level less on. monotone (suc lower) (suc level) (omega arith) on)
falls_from_monotone false (false ∷ more) monotone =
    falls_from_monotone false more (λ lower level less on. monotone (suc lower) (suc level) (omega arith) on)
falls_from_monotone false (true ∷ more) monotone = let first : Some false ≡ Some true = monotone 0 1 (omega arith) refl in cc

-- a row behind a true cell
behind_true : (row : List Bool) → IsMonotoneRow row → IsMonotoneRow (true ∷ row)
behind_true row monotone lower zero less on = absurd (omega arith)
behind_true row monotone zero (suc level) less on = refl
behind_true row monotone (suc lower) (suc level) less on = monotone lower level (omega arith) on

pub row_test : (row : List Bool) → IsTrue (falls_after true row) ↔ IsMonotoneRow row
row_test row = (
  (λ e lower level less on. monotone_from_falls true row e (suc lower) (suc level) (omega arith) on),
  (λ monotone. falls_from_monotone true row (behind_true row monotone)),
)

-- a true cell behind a false one
pub row_stops : (row : List Bool) (before : Bool) (i : ℕ) → i < length row → before ≡ false → get_or row i false ≡ true →
    falls_after before (drop i row) ≡ falls_after true row → IsTrue false ↔ IsMonotoneRow row
row_stops row before i within clear set so_far = (
  (λ e. absurd cc),
  (λ monotone.
      let here : falls_after before (drop i row) ≡ falls_after before (get_or row i false ∷ drop (i + 1) row) = at_drop_more (falls_after before) row i false within in
      let stops : falls_after before (get_or row i false ∷ drop (i + 1) row) ≡ false = rw (clear, set) in
      let falls : falls_after true row ≡ true = (row_test row).1 monotone in
      cc),
)

-- at the end of a row
pub row_ends : (row : List Bool) (before : Bool) (i : ℕ) → length row ≤ i → falls_after before (drop i row) ≡ falls_after true row → IsTrue true ↔ IsMonotoneRow row
row_ends row before i past so_far = (
  (λ e. (row_test row).0 (sym so_far ∙ at_drop_all (falls_after before) row i past)),
  (λ monotone. refl),
)

-- the rows above n
abbrev pub RowsBelow : List (List Bool) → ℕ → Type 0
RowsBelow cells n = (rule : ℕ) → rule < n → IsMonotoneRow (get_or cells rule [])

pub rows_more : (cells : List (List Bool)) (n : ℕ) → IsMonotoneRow (get_or cells n []) → RowsBelow cells n → RowsBelow cells (n + 1)
rows_more cells n here below = below_more (λ rule. IsMonotoneRow (get_or cells rule [])) n below here

pub rows_stop : (cells : List (List Bool)) (n : ℕ) (told : Bool) → n < length cells → told ≡ false → IsTrue told ↔ IsMonotoneRow (get_or cells n []) →
    IsTrue false ↔ IsMonotone cells
rows_stop cells n told within clear tells = (
  (λ e. absurd cc),
  (λ monotone.
      let on : told ≡ true = tells.1 (λ lower level less at. monotone n lower level (get_or cells n []) less (slice_get-get_or cells n [] within) at) in
      cc),
)

pub rows_end : (cells : List (List Bool)) (n : ℕ) → length cells ≤ n → RowsBelow cells n → IsTrue true ↔ IsMonotone cells
rows_end cells n whole below = (
  (λ e rule lower level row less at on.
      let within : rule < length cells = slice_get_within cells rule row at in
      subst IsMonotoneRow (get_or_from_slice_get cells rule row [] at) (below rule (omega arith)) lower level less on),
  (λ monotone. refl),
)

-- the test of a whole table
rows_by_test : (cells : List (List Bool)) → list_all (falls_after true) cells ≡ true → IsMonotone cells
rows_by_test [] e rule lower level row less at on = cc
rows_by_test (first ∷ more) e zero lower level row less at on =
    subst IsMonotoneRow (get_or_from_slice_get (first ∷ more) 0 row [] at) ((row_test first).0 (both_left (falls_after true first) (list_all (falls_after true) more) e)) lower level less on
rows_by_test (first ∷ more) e (suc rule) lower level row less at on =
    rows_by_test more (both_right (falls_after true first) (list_all (falls_after true) more) e) rule lower level row less at on

-- the table of the rules is monotone, by the test that is computed of it
pub binds_is_monotone : IsMonotone BINDS.cells
binds_is_monotone = rows_by_test BINDS.cells refl

-- the row of a rule
row_of : Rule → List Bool
row_of rule = get_or BINDS.cells (number_of_rule rule - 1) []

-- the row is true in its first cells alone, as many as the bound says; its cells are counted from `place` on
abbrev is_up_to : ℕ → ℕ → List Bool → Bool
is_up_to bound place [] = true
is_up_to bound place (true ∷ more) = nat_lt place bound && is_up_to bound (suc place) more
is_up_to bound place (false ∷ more) = nat_le bound place && is_up_to bound (suc place) more

up_to-cell : (bound place i at : ℕ) (row : List Bool) → is_up_to bound place row ≡ true → i < length row → at ≡ place + i → get_or row i false ≡ nat_lt at bound
up_to-cell bound place i at [] e within sum = absurd (omega arith)
up_to-cell bound place zero at (true ∷ more) e within sum =
    let tells = both_left (nat_lt place bound) (is_up_to bound (suc place) more) e in grind (arith, nat_tests)
up_to-cell bound place zero at (false ∷ more) e within sum =
    let tells = both_left (nat_le bound place) (is_up_to bound (suc place) more) e in grind (arith, nat_tests)
up_to-cell bound place (suc i) at (true ∷ more) e within sum =
    up_to-cell bound (suc place) i at more (both_right (nat_lt place bound) (is_up_to bound (suc place) more) e) (omega arith) (omega arith)
up_to-cell bound place (suc i) at (false ∷ more) e within sum =
    up_to-cell bound (suc place) i at more (both_right (nat_le bound place) (is_up_to bound (suc place) more) e) (omega arith) (omega arith)

-- the values that the checker computes of each row
record Says (rule : Rule) : Type 0 where
  within : number_of_rule rule - 1 < length BINDS.cells
  many : length (row_of rule) ≡ 8
  up_to : is_up_to (binds_up_to rule) 0 (row_of rule) ≡ true

row_says : (rule : Rule) → Says rule
unfolding row_of
row_says Hold = record { within = omega arith; many = refl; up_to = refl }
row_says other = record { within = omega arith; many = refl; up_to = refl }

-- the cell that a rule and a level are looked up in
abbrev pub cell_at : ℕ → ℕ → Bool
cell_at number level = get_or (get_or BINDS.cells (number - 1) []) (level - 1) false

cell_test : (rule : Rule) (place : ℕ) (level : LevelNumbers) → place ≡ number_of level → IsFirst place → IsTrue (cell_at (number_of_rule rule) place) ↔ Binds rule level
unfolding row_of
cell_test rule place level placed within =
    let says = row_says rule in
    let many = says.many in
    let cell : cell_at (number_of_rule rule) place ≡ nat_lt (place - 1) (binds_up_to rule) =
    up_to-cell (binds_up_to rule) 0 (place - 1) (place - 1) (row_of rule) says.up_to (omega arith) (omega arith) in
    ((λ e. grind (arith, nat_tests)), (λ binds. grind (arith, nat_tests)))

-- a true cell says that the rule binds, and a false one that it does not
pub cell-binds : (rule : Rule) (number place : ℕ) (level : LevelNumbers) → number ≡ number_of_rule rule → place ≡ number_of level → IsFirst place → IsTrue (cell_at number place) ↔ Binds rule level
cell-binds rule number place level named placed within = subst (λ (n : ℕ). IsTrue (cell_at n place) ↔ Binds rule level) (sym named) (cell_test rule place level placed within)

-- in a monotone row, a cell before a true one is true
row_below : (row : List Bool) (low high : ℕ) → IsMonotoneRow row → low ≤ high → high < length row → get_or row high false ≡ true → get_or row low false ≡ true
row_below row low high monotone under within on = by_order (split low high under)
  where
    split : (low high : ℕ) → low ≤ high → (low < high) ⊎ (low ≡ high)
    split low high under = grind arith

    by_order : (low < high) ⊎ (low ≡ high) → get_or row low false ≡ true
    by_order (inl less) =
        get_or_from_slice_get row low true false (monotone low high less (slice_get-get_or row high false within ∙ ap Some on))
    by_order (inr same) = ap (λ (i : ℕ). get_or row i false) same ∙ on

-- since the table is monotone, a true cell says it of each lower level too
pub cell-below : (rule : Rule) (number place : ℕ) (level : LevelNumbers) → number ≡ number_of_rule rule → place ≡ number_of level → IsFirst place → IsTrue (cell_at number place) →
    (lower : LevelNumbers) → IsLevel lower → number_of lower ≤ number_of level → Binds rule lower
unfolding row_of
cell-below rule number place level named placed within on lower low less =
    let says = row_says rule in
    let many = says.many in
    let row_within = says.within in
    let monotone : IsMonotoneRow (row_of rule) =
    λ low high under at. binds_is_monotone (number_of_rule rule - 1) low high (row_of rule) under (slice_get-get_or BINDS.cells (number_of_rule rule - 1) [] row_within) at in
    let here : get_or (row_of rule) (place - 1) false ≡ true = subst (λ (n : ℕ). IsTrue (cell_at n place)) named on in
    let first = low.first in
    (cell-binds rule (number_of_rule rule) (number_of lower) lower refl refl first).0 (row_below (row_of rule) (number_of lower - 1) (place - 1) monotone (omega arith) (omega arith) here)

-- the table has a cell for each rule and each level, which says whether the rule binds there
pub table_says : SaysWhatBinds BINDS.cells
unfolding row_of
table_says rule level is =
    let says = row_says rule in
    let many = says.many in
    let first = is.first in
    record {
      row = row_of rule;
      cell = cell_at (number_of_rule rule) (number_of level);
      in_table = slice_get-get_or BINDS.cells (number_of_rule rule - 1) [] says.within;
      in_row = slice_get-get_or (row_of rule) (number_of level - 1) false (omega arith);
      binds = cell_test rule (number_of level) level refl first;
    }
