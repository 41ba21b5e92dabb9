-- The rows are those of the text of a trace.
use Rattle.std.proofs.Common.{◌≡◌, ℕ, zero, suc, ◌+◌, ◌<◌, nat_lt, true, false, if◌then◌else◌, Bool, List, [], ◌∷◌, ◌++◌, length, drop, slice_get, Option, Some, refl, sym, ap, subst, ◌∙◌, arith}
use Rattle.std.proofs.lemmas.Bool.Decides.{nat_tests}
use Rattle.physical_stream.specs.Params.{Parameters}
use Rattle.physical_stream.specs.Cycles.{Cycle}
use Rattle.cycle_trace.specs.Spelling.{row_text, rows_text}
use Rattle.cycle_trace.specs.Trace.{AreShown, owed}
use Rattle.physical_stream.specs.Signals.{Shows}
use Rattle.physical_stream.specs.declared.transfer.Transfer.{Transfer}
use Rattle.handshake.proofs.CursorLemmas.{drop-get, drop-next}
use Rattle.trace_pieces.specs.Rows.{AreShownFrom, rows_from, stream_after, stream_behind, text_at}

drop-behind : (streams : List Parameters) (n : ℕ) (p : Parameters) (more : List Parameters) → drop n streams ≡ p ∷ more → drop (n + 1) streams ≡ more
drop-behind streams n p more is = let next : n + 1 ≡ suc n = omega arith in ap (λ (k : ℕ). drop k streams) next ∙ drop-next streams n p more is

drop-left : (streams : List Parameters) (n : ℕ) (p : Parameters) (more : List Parameters) → drop n streams ≡ p ∷ more → length streams ≡ n + 1 + length more
drop-left [] zero p more is = cc
drop-left [] (suc n) p more is = cc
drop-left (q ∷ streams) zero p more is = let e : streams ≡ more = cc in omega (arith, ap length e)
drop-left (q ∷ streams) (suc n) p more is = omega (arith, drop-left streams n p more is)

behind-more : (many stream : ℕ) → stream + 1 < many → stream_behind many stream ≡ stream + 1
behind-more many stream lt = let test : nat_lt (stream + 1) many ≡ true = grind (arith, nat_tests) in ap (λ (b : Bool). if b then stream + 1 else 0) test

behind-last : (many stream : ℕ) → many ≡ stream + 1 → stream_behind many stream ≡ 0
behind-last many stream is = let test : nat_lt (stream + 1) many ≡ false = grind (arith, nat_tests) in ap (λ (b : Bool). if b then stream + 1 else 0) test

one_row : (streams : List Parameters) (stream next : ℕ) (p : Parameters) (row : Cycle) (rows : List Cycle) (rest : List ℕ) → slice_get streams stream ≡ Some p → stream_behind (length streams) stream ≡ next →
    rows_from streams next rows ≡ rest → rows_from streams stream (row ∷ rows) ≡ row_text p row ++ rest
one_row streams stream next p row rows rest at is same =
    ap (λ (o : Option Parameters). text_at o row ++ rows_from streams (stream_behind (length streams) stream) rows) at
    ∙ ap (λ (n : ℕ). row_text p row ++ rows_from streams n rows) is
    ∙ ap (λ (l : List ℕ). row_text p row ++ l) same

none-there : (i : ℕ) (row : Cycle) → ◌≡◌ {A = Option Cycle} (slice_get [] i) (Some row) → ⊥
none-there zero row e = cc
none-there (suc i) row e = cc

-- the rows after the first are shown where all are
rest-shown : (p : Parameters) (ps : List Parameters) (row : Cycle) (rows : List Cycle) → AreShown (p ∷ ps) (row ∷ rows) → AreShown ps rows
rest-shown p ps row rows are = record { many = omega (arith, are.many); each = λ i q r t is_q is_r is_t. are.each (suc i) q r t is_q is_r is_t }

spelled : (rows : List Cycle) (streams : List Parameters) (stream cycles : ℕ) (p : Parameters) (more : List Parameters) → drop stream streams ≡ p ∷ more →
    length rows ≡ suc (length (more ++ owed streams cycles)) → rows_from streams stream rows ≡ rows_text (p ∷ (more ++ owed streams cycles)) rows
spelled [] streams stream cycles p more at many = cc
spelled (row ∷ rows) streams stream cycles p (q ∷ more) at many =
    one_row streams stream (stream + 1) p row rows _ (drop-get streams stream p (q ∷ more) at) (behind-more (length streams) stream (omega (arith, drop-left streams stream p (q ∷ more) at)))
    (spelled rows streams (stream + 1) cycles q more (drop-behind streams stream p (q ∷ more) at) (omega (arith, many)))
spelled (row ∷ []) streams stream zero p [] at many =
    one_row streams stream 0 p row [] _ (drop-get streams stream p [] at) (behind-last (length streams) stream (omega (arith, drop-left streams stream p [] at))) refl
spelled (row ∷ next ∷ rows) streams stream zero p [] at many = absurd (omega (arith, many))
spelled (row ∷ rows) [] zero (suc cycles) p [] at many = cc
spelled (row ∷ rows) [] (suc stream) (suc cycles) p [] at many = cc
spelled (row ∷ rows) (s ∷ ss) stream (suc cycles) p [] at many =
    one_row (s ∷ ss) stream 0 p row rows _ (drop-get (s ∷ ss) stream p [] at) (behind-last (length (s ∷ ss)) stream (omega (arith, drop-left (s ∷ ss) stream p [] at)))
    (spelled rows (s ∷ ss) 0 cycles s ss refl (omega (arith, many)))

no-owed : (cycles : ℕ) → owed [] cycles ≡ []
no-owed zero = refl
no-owed (suc cycles) = no-owed cycles

none-left : (rows : List Cycle) → length rows ≡ 0 → rows ≡ []
none-left [] many = refl
none-left (row ∷ rows) many = absurd (omega (arith, many))

pub rows-spelled : (streams : List Parameters) (cycles : ℕ) (rows : List Cycle) → length rows ≡ length (owed streams cycles) → rows_from streams 0 rows ≡ rows_text (owed streams cycles) rows
rows-spelled [] cycles rows many =
    let none : rows ≡ [] = none-left rows (many ∙ ap length (no-owed cycles)) in
    ap (rows_from [] 0) none ∙ sym (ap (λ (ps : List Parameters). rows_text ps rows) (no-owed cycles) ∙ ap (rows_text []) none)
rows-spelled (s ∷ ss) zero [] many = refl
rows-spelled (s ∷ ss) zero (row ∷ rows) many = absurd (omega (arith, many))
rows-spelled (s ∷ ss) (suc cycles) rows many = spelled rows (s ∷ ss) 0 cycles s ss refl many

-- ---- rows that can be shown

-- each of these rows shows only what the stream at its place can show, the first row being of the stream of this number
abbrev EachShown : List Parameters → ℕ → List Cycle → Type 0
EachShown streams stream rows =
    (i : ℕ) (p : Parameters) (row : Cycle) (t : Transfer) → slice_get rows i ≡ Some row → slice_get streams (stream_after (length streams) stream i) ≡ Some p → row.shown ≡ Some t → Shows p t

each-next : (streams : List Parameters) (stream next : ℕ) (q : Parameters) (row : Cycle) (rows : List Cycle) → slice_get streams stream ≡ Some q → stream_behind (length streams) stream ≡ next →
    ((t : Transfer) → row.shown ≡ Some t → Shows q t) → EachShown streams next rows → EachShown streams stream (row ∷ rows)
each-next streams stream next q row rows at is here more zero p r t got is_p is_t =
    let same : row ≡ r = cc in
    let param : q ≡ p = same_param at is_p in
    subst (λ (x : Parameters). Shows x t) param (here t (ap (λ (c : Cycle). c.shown) same ∙ is_t))
  where
    same_param : slice_get streams stream ≡ Some q → slice_get streams stream ≡ Some p → q ≡ p
    same_param one other = cc
each-next streams stream next q row rows at is here more (suc i) p r t got is_p is_t =
    more i p r t got (ap (λ (n : ℕ). slice_get streams (stream_after (length streams) n i)) (sym is) ∙ is_p) is_t

each-shown : (rows : List Cycle) (streams : List Parameters) (stream cycles : ℕ) (p : Parameters) (more : List Parameters) → drop stream streams ≡ p ∷ more →
    AreShown (p ∷ (more ++ owed streams cycles)) rows → EachShown streams stream rows
each-shown [] streams stream cycles p more at are = λ i q row t got. absurd (none-there i row got)
each-shown (row ∷ rows) streams stream cycles p (q ∷ more) at are =
    each-next streams stream (stream + 1) p row rows (drop-get streams stream p (q ∷ more) at) (behind-more (length streams) stream (omega (arith, drop-left streams stream p (q ∷ more) at)))
    (λ t is. are.each 0 p row t refl refl is)
    (each-shown rows streams (stream + 1) cycles q more (drop-behind streams stream p (q ∷ more) at) (rest-shown p _ row rows are))
each-shown (row ∷ []) streams stream zero p [] at are =
    each-next streams stream 0 p row [] (drop-get streams stream p [] at) (behind-last (length streams) stream (omega (arith, drop-left streams stream p [] at)))
    (λ t is. are.each 0 p row t refl refl is) (λ i q r t got. absurd (none-there i r got))
each-shown (row ∷ next ∷ rows) streams stream zero p [] at are = absurd (omega (arith, are.many))
each-shown (row ∷ rows) [] zero (suc cycles) p [] at are = cc
each-shown (row ∷ rows) [] (suc stream) (suc cycles) p [] at are = cc
each-shown (row ∷ rows) (s ∷ ss) stream (suc cycles) p [] at are =
    each-next (s ∷ ss) stream 0 p row rows (drop-get (s ∷ ss) stream p [] at) (behind-last (length (s ∷ ss)) stream (omega (arith, drop-left (s ∷ ss) stream p [] at)))
    (λ t is. are.each 0 p row t refl refl is)
    (each-shown rows (s ∷ ss) 0 cycles s ss refl (rest-shown p _ row rows are))

pub rows-made : (streams : List Parameters) (cycles : ℕ) (rows : List Cycle) → AreShown (owed streams cycles) rows → AreShownFrom streams 0 rows
rows-made [] cycles rows are =
    let none : rows ≡ [] = none-left rows (are.many ∙ ap length (no-owed cycles)) in
    record { within = λ some. absurd (omega (arith, some, ap length none)); each = λ i p row t got at. absurd (none-param 0 i p at) }
  where
    none-param : (stream i : ℕ) (p : Parameters) → slice_get [] (stream_after 0 stream i) ≡ Some p → ⊥
    none-param stream i p at = cc
rows-made (s ∷ ss) zero [] are = record { within = λ some. absurd (omega (arith, some)); each = λ i p row t got. absurd (none-there i row got) }
rows-made (s ∷ ss) zero (row ∷ rows) are = absurd (omega (arith, are.many))
rows-made (s ∷ ss) (suc cycles) rows are = record { within = λ some. omega arith; each = each-shown rows (s ∷ ss) 0 cycles s ss refl are }
