-- Facts about every text that begins with given lines, line by line.
use Rattle.std.proofs.Common.{◌≡◌, ◌∙◌, ℕ, suc, ◌+◌, ◌*◌, ◌<◌, ◌≤◌, Bool, true, false, if◌then◌else◌, List, [], ◌∷◌, ◌++◌, length, drop, nat_le, Option, Some, None, Result, Ok, Err, MatchOption, append_assoc, length-append, refl, sym, ap, subst, arith}
use Rattle.std.specs.List.{join_with_byte, slice_get}
use Rattle.std.specs.BTreeSet.{BTreeSet}
use Rattle.std.specs.declared.vec.Vec.{Vec}
use Rattle.std.proofs.Math.ListN.{drop_of_length-le}
use Rattle.std.proofs.Math.Seq.{drop-cons}
use Rattle.std.proofs.lemmas.Bool.Decides.{nat_tests}
use Rattle.std.proofs.lemmas.List.{append-nil}
use Rattle.std.proofs.lemmas.Option.{slice_get_within, get_or_from_slice_get}
use Rattle.tydi_base.specs.Path.{path_text}
use Rattle.tydi_base.specs.Pieces.{Lacks, lines_of, words_of}
use Rattle.tydi_base.specs.Reading.{◌>>=◌}
use Rattle.tydi_base.proofs.PieceLaws.{join-pieces_of, pieces_of-append, pieces_of-lacks}
use Rattle.tydi_base.proofs.ReadingLaws.{bind-at_err, ok_is}
use Rattle.physical_stream.specs.Params.{Parameters}
use Rattle.physical_stream.specs.Cycles.{Cycle}
use Rattle.physical_stream.specs.declared.head.Head.{Head}
use Rattle.tydi_base.proofs.PlainWords.{some_line}
use Rattle.tydi_base.proofs.PlaceLemmas.{slice_get-there}
use Rattle.cycle_trace.specs.declared.fault.TraceFault.{TraceFault}
use Rattle.cycle_trace.specs.declared.fault.TraceFault.TheVariants.{BadHeader, BadRow, TooManyCycles, RowsLeft, WrongSignals}
use Rattle.cycle_trace.specs.Beginnings.{Fails, GoesOn, GoesOnLine, IsFault, Opens, OpensWith, begun, heads_on, rows_on}
use Rattle.cycle_trace.specs.Faults.{fault_in}
use Rattle.cycle_trace.specs.declared.version.Version.{Version}
use Rattle.cycle_trace.specs.HeaderText.{HeaderStart, head_after, heads_from, in_header, is_head_line, header_start_of}
use Rattle.cycle_trace.specs.RowSink.{with_row}
use Rattle.cycle_trace.specs.ReaderView.{EndsInHeader, HoldsHeader}
use Rattle.cycle_trace.specs.RowText.{has_form, row_at, row_fault}
use Rattle.cycle_trace.specs.RowsText.{cut_row}
use Rattle.tydi_base.specs.TextSet.{AddsText}
use Rattle.cycle_trace.specs.Trace.{TraceText, are_heads, most_cycles, owed, params_of_heads}
use Rattle.cycle_trace.specs.TraceText.{rows_from, trace_from, trace_of}
use Rattle.cycle_trace.proofs.HeaderLemmas.{heads_from-head, heads_from-other}
use Rattle.cycle_trace.proofs.RowsLemmas.{length-owed_heads}
use Rattle.cycle_trace.proofs.RowsLemmas.{rows_from-cons, rows_from-cut, rows_from-left}
use Rattle.cycle_trace.proofs.TraceSpelling.{header_start_of-are_heads}
use Rattle.tydi_base.proofs.SetLemmas.{HasTexts-more}

-- ---- bytes and lines

joined : (bytes more : List ℕ) → (bytes ++ 10 ∷ []) ++ more ≡ bytes ++ 10 ∷ more
joined bytes more = append_assoc bytes (10 ∷ []) more

-- a line that ends, and the lines after it
line_of : (line more : List ℕ) → Lacks 10 line → lines_of (line ++ 10 ∷ more) ≡ line ∷ lines_of more
line_of line more plain = pieces_of-append 10 line more plain

-- a line that does not end
last_of : (line : List ℕ) → Lacks 10 line → lines_of (line ++ []) ≡ line ∷ []
last_of line plain = ap lines_of (append-nil line) ∙ pieces_of-lacks 10 line plain

-- ---- faults

-- the error of a text, reported
pub IsFault-told : {A : Type 0} (read : Result A TraceFault) (e f : TraceFault) → fault_in e ≡ Some f → read ≡ Err f → IsFault read e
IsFault-told read e f told is = rw told is

-- a fault stays, whatever follows
pub Fails-more : (bytes more : List ℕ) (e : TraceFault) → Fails bytes e → Fails (bytes ++ more) e
Fails-more bytes more e fails rest = subst (λ (text : List ℕ). IsFault (trace_of text) e) (sym (append_assoc bytes more rest)) (fails (more ++ rest))

pub Fails-end : (bytes : List ℕ) (e : TraceFault) → Fails bytes e → IsFault (trace_of bytes) e
Fails-end bytes e fails = subst (λ (text : List ℕ). IsFault (trace_of text) e) (append-nil bytes) (fails [])

fault_by : {A B : Type 0} (read : Result A TraceFault) (next : Result B TraceFault) (e : TraceFault) → ((f : TraceFault) → read ≡ Err f → next ≡ Err f) → IsFault read e → IsFault next e
fault_by read next e so is = by_cases (fault_in e) is
  where
    by_cases : (found : Option TraceFault) → MatchOption found (Unit {0}) (λ f. read ≡ Err f) → MatchOption found (Unit {0}) (λ f. next ≡ Err f)
    by_cases None h = tt
    by_cases (Some f) h = so f h

pub cut_row-told : (line : List ℕ) (want got number : ℕ) → fault_in (cut_row line want got number) ≡ Some (cut_row line want got number)
cut_row-told [] want got number = refl
cut_row-told (byte ∷ line) want got number = refl

pub row_fault-told : (number : ℕ) (line : List ℕ) → fault_in (row_fault number line) ≡ Some (row_fault number line)
row_fault-told number line = by_form (has_form (words_of line))
  where
    by_form : (form : Bool) → fault_in (if form then WrongSignals number else BadRow number) ≡ Some (if form then WrongSignals number else BadRow number)
    by_form true = refl
    by_form false = refl

-- ---- the bytes of the line that is begun

pub Opens-more : (bytes line more : List ℕ) (gives : List (List ℕ) → Result HeaderStart TraceFault) → Opens bytes line gives → Opens (bytes ++ more) (line ++ more) gives
Opens-more bytes line more gives opens rest = rw (append_assoc bytes more rest, append_assoc line more rest) (opens (more ++ rest))

pub OpensWith-more : {Y : Type 0} (bytes line more : List ℕ) (version : Version) (cycles : ℕ) (heads : List Head) (set : BTreeSet (Vec ℕ Y)) → OpensWith bytes line version cycles heads set → OpensWith (bytes ++ more) (line ++ more) version cycles heads set
OpensWith-more bytes line more version cycles heads set h = record { paths = h.paths; many = h.many; few = h.few; told = h.told; opens = Opens-more bytes line more (heads_on version cycles heads h.paths) h.opens }

pub GoesOn-more : (bytes line more : List ℕ) (t : TraceText) → GoesOn bytes line t → GoesOn (bytes ++ more) (line ++ more) t
GoesOn-more bytes line more t goes rest =
    ap trace_of (append_assoc bytes more rest) ∙ goes (more ++ rest) ∙ ap (λ (text : List ℕ). rows_on t (lines_of text)) (sym (append_assoc line more rest))

-- a whole line of a row
pub GoesOn-line : (bytes line : List ℕ) (t : TraceText) → Lacks 10 line → GoesOn bytes line t → GoesOnLine bytes line t
GoesOn-line bytes line t plain goes more = ap trace_of (joined bytes more) ∙ goes (10 ∷ more) ∙ ap (rows_on t) (line_of line more plain)

-- the end of a text within the rows
pub GoesOn-end : (bytes line : List ℕ) (t : TraceText) → Lacks 10 line → GoesOn bytes line t → trace_of bytes ≡ rows_on t (line ∷ [])
GoesOn-end bytes line t plain goes = ap trace_of (sym (append-nil bytes)) ∙ goes [] ∙ ap (rows_on t) (last_of line plain)

-- ---- a line of the header

module _ (bytes line : List ℕ) (plain : Lacks 10 line) (gives : List (List ℕ) → Result HeaderStart TraceFault) (opens : Opens bytes line gives) where
  opens_line : (more : List ℕ) → header_start_of (lines_of ((bytes ++ 10 ∷ []) ++ more)) ≡ gives (line ∷ lines_of more)
  opens_line more = ap (λ (text : List ℕ). header_start_of (lines_of text)) (joined bytes more) ∙ opens (10 ∷ more) ∙ ap gives (line_of line more plain)

  opens_last : header_start_of (lines_of bytes) ≡ gives (line ∷ [])
  opens_last = ap (λ (text : List ℕ). header_start_of (lines_of text)) (sym (append-nil bytes)) ∙ opens [] ∙ ap gives (last_of line plain)

  -- a line that is wrong
  fails_line : (e : TraceFault) → ((more : List ℕ) → IsFault (gives (line ∷ lines_of more)) e) → Fails (bytes ++ 10 ∷ []) e
  unfolding trace_of
  fails_line e wrong more =
      fault_by (gives (line ∷ lines_of more)) (trace_of ((bytes ++ 10 ∷ []) ++ more)) e (λ f is. bind-at_err (header_start_of (lines_of ((bytes ++ 10 ∷ []) ++ more))) trace_from f (opens_line more ∙ is)) (wrong more)

  -- the text ends in a line that may not be the last
  pub ends_cut : (f : TraceFault) → gives (line ∷ []) ≡ Err f → trace_of bytes ≡ Err f
  unfolding trace_of
  ends_cut f cut = bind-at_err (header_start_of (lines_of bytes)) trace_from f (opens_last ∙ cut)

  -- and then no header is read
  pub none_held : (f : TraceFault) → gives (line ∷ []) ≡ Err f → HoldsHeader bytes → ⊥
  none_held f cut held = let no = sym held.read ∙ opens_last ∙ cut in cc

  -- the line of this number is read so, and the lines after it
  module _ {A : Type 0} (number : ℕ) (step : Result A (Unit {0})) (after : A → List (List ℕ) → Result HeaderStart TraceFault)
      (first : (lines : List (List ℕ)) → 0 < length lines → gives (line ∷ lines) ≡ (in_header number step >>= λ x. after x lines)) where
    pub line-ok : (x : A) → step ≡ Ok x → Opens (bytes ++ 10 ∷ []) [] (after x)
    line-ok x right more = opens_line more ∙ first (lines_of more) (some_line more) ∙ ap (λ (o : Result A (Unit {0})). in_header number o >>= λ y. after y (lines_of more)) right

    pub line-fails : step ≡ Err tt → Fails (bytes ++ 10 ∷ []) (BadHeader number)
    line-fails wrong = fails_line (BadHeader number) (λ more. first (lines_of more) (some_line more) ∙ ap (λ (o : Result A (Unit {0})). in_header number o >>= λ y. after y (lines_of more)) wrong)

-- ---- the heads

-- one head more in front
front-more : (cycles : ℕ) (heads : List Head) (head : Head) (read : Result (List Head × List (List ℕ)) TraceFault)
    → ◌≡◌ {A = Result HeaderStart TraceFault} (◌>>=◌ {A = List Head × List (List ℕ)} (◌>>=◌ {A = List Head × List (List ℕ)} {B = List Head × List (List ℕ)} read (λ rest. Ok (head ∷ rest.0, rest.1))) (λ found. Ok (record { cycles = cycles; heads = heads ++ found.0; lines = found.1 })))
    (◌>>=◌ {A = List Head × List (List ℕ)} read (λ found. Ok (record { cycles = cycles; heads = (heads ++ head ∷ []) ++ found.0; lines = found.1 })))
front-more cycles heads head (Ok found) = rw (append_assoc heads (head ∷ []) found.0) refl
front-more cycles heads head (Err d) = refl

module _ (version : Version) (cycles : ℕ) (heads : List Head) (paths : List (List ℕ)) (line : List ℕ) where
  module _ (lines : List (List ℕ)) (some : 0 < length lines) where
    heads_on-head : (head : Head) → is_head_line line ≡ true → in_header (3 + length heads) (head_after version paths line) ≡ Ok head
        → heads_on version cycles heads paths (line ∷ lines) ≡ heads_on version cycles (heads ++ head ∷ []) (path_text head.path ∷ paths) lines
    heads_on-head head is read =
        let number : 3 + length (heads ++ head ∷ []) ≡ suc (3 + length heads) = omega (arith, length-append heads (head ∷ [])) in
        rw (number, heads_from-head version (3 + length heads) paths line lines some is, read) (front-more cycles heads head (heads_from version (suc (3 + length heads)) (path_text head.path ∷ paths) lines))

    heads_on-fails : (f : TraceFault) → is_head_line line ≡ true → in_header (3 + length heads) (head_after version paths line) ≡ Err f → heads_on version cycles heads paths (line ∷ lines) ≡ Err f
    heads_on-fails f is wrong = rw (heads_from-head version (3 + length heads) paths line lines some is, wrong) refl

    heads_on-other : is_head_line line ≡ false → heads_on version cycles heads paths (line ∷ lines) ≡ Ok (record { cycles = cycles; heads = heads; lines = line ∷ lines })
    heads_on-other is = rw (heads_from-other version (3 + length heads) paths line lines some is, append-nil heads) refl

  heads_on-cut : is_head_line line ≡ true → heads_on version cycles heads paths (line ∷ []) ≡ Err (BadHeader (3 + length heads))
  heads_on-cut is = rw is refl

  heads_on-last : is_head_line line ≡ false → heads_on version cycles heads paths (line ∷ []) ≡ Ok (record { cycles = cycles; heads = heads; lines = line ∷ [] })
  heads_on-last is = rw (is, append-nil heads) refl

-- the rows after a header
trace_from-begun : (cycles : ℕ) (heads : List Head) (lines : List (List ℕ)) → cycles ≤ most_cycles → trace_from (record { cycles = cycles; heads = heads; lines = lines }) ≡ rows_on (begun cycles heads) lines
unfolding trace_from
trace_from-begun cycles heads lines few =
    let test : nat_le cycles most_cycles ≡ true = grind (arith, nat_tests) in
    let number : 3 + length heads + 0 ≡ 3 + length heads = omega arith in
    rw (test, number) refl

trace_from-many : (cycles : ℕ) (heads : List Head) (lines : List (List ℕ)) → most_cycles < cycles → trace_from (record { cycles = cycles; heads = heads; lines = lines }) ≡ Err TooManyCycles
unfolding trace_from
trace_from-many cycles heads lines many = let test : nat_le cycles most_cycles ≡ false = grind (arith, nat_tests) in rw test refl

module _ {Y : Type 0} (bytes line : List ℕ) (plain : Lacks 10 line) (version : Version) (cycles : ℕ) (heads : List Head) (set : BTreeSet (Vec ℕ Y)) (h : OpensWith bytes line version cycles heads set) where
  -- a stream line
  pub head-ok : (head : Head) (new : BTreeSet (Vec ℕ Y)) → is_head_line line ≡ true → length heads < 65536 → in_header (3 + length heads) (head_after version h.paths line) ≡ Ok head → AddsText set new (path_text head.path)
      → OpensWith (bytes ++ 10 ∷ []) [] version cycles (heads ++ head ∷ []) new
  head-ok head new is fits read adds = record {
    paths = path_text head.path ∷ h.paths;
    many = omega (arith, h.many, length-append heads (head ∷ []));
    few = omega (arith, length-append heads (head ∷ []));
    told = HasTexts-more set new (path_text head.path) h.paths h.told adds;
    opens = λ more. opens_line bytes line plain (heads_on version cycles heads h.paths) h.opens more ∙ heads_on-head version cycles heads h.paths line (lines_of more) (some_line more) head is read;
  }

  pub head-fails : (e : TraceFault) → is_head_line line ≡ true → IsFault (in_header (3 + length heads) (head_after version h.paths line)) e → Fails (bytes ++ 10 ∷ []) e
  head-fails e is wrong = fails_line bytes line plain (heads_on version cycles heads h.paths) h.opens e (λ more.
      fault_by (in_header (3 + length heads) (head_after version h.paths line)) (heads_on version cycles heads h.paths (line ∷ lines_of more)) e (λ f read. heads_on-fails version cycles heads h.paths line (lines_of more) (some_line more) f is read) wrong)

  pub header-cut : is_head_line line ≡ true → trace_of bytes ≡ Err (BadHeader (3 + length heads))
  header-cut is = ends_cut bytes line plain (heads_on version cycles heads h.paths) h.opens (BadHeader (3 + length heads)) (heads_on-cut version cycles heads h.paths line is)

  module _ (other : is_head_line line ≡ false) where
    opened : (more : List ℕ) → header_start_of (lines_of ((bytes ++ 10 ∷ []) ++ more)) ≡ Ok (record { cycles = cycles; heads = heads; lines = line ∷ lines_of more })
    opened more = opens_line bytes line plain (heads_on version cycles heads h.paths) h.opens more ∙ heads_on-other version cycles heads h.paths line (lines_of more) (some_line more) other

    opened_last : header_start_of (lines_of bytes) ≡ Ok (record { cycles = cycles; heads = heads; lines = line ∷ [] })
    opened_last = opens_last bytes line plain (heads_on version cycles heads h.paths) h.opens ∙ heads_on-last version cycles heads h.paths line other

    -- the heads of the header may stand together
    pub heads-stand : are_heads heads ≡ true
    heads-stand = header_start_of-are_heads (lines_of bytes) (record { cycles = cycles; heads = heads; lines = line ∷ [] }) opened_last

    -- the first line after the header
    pub header-ok : cycles ≤ most_cycles → GoesOnLine bytes line (begun cycles heads)
    unfolding trace_of
    header-ok few more = rw (opened more) (trace_from-begun cycles heads (line ∷ lines_of more) few)

    pub header-many : most_cycles < cycles → Fails (bytes ++ 10 ∷ []) TooManyCycles
    unfolding trace_of
    header-many many more = rw (opened more) (trace_from-many cycles heads (line ∷ lines_of more) many)

    pub ends-in_header : cycles ≤ 1000000 → line ≡ [] → cycles * length heads ≡ 0 → EndsInHeader bytes
    ends-in_header few none no_rows =
        record { start = record { cycles = cycles; heads = heads; lines = line ∷ [] }; read = opened_last; few = few; ends = ap (λ (l : List ℕ). l ∷ []) none; no_rows = no_rows }

    pub header-end : cycles ≤ most_cycles → trace_of bytes ≡ rows_on (begun cycles heads) (line ∷ [])
    unfolding trace_of
    header-end few = rw opened_last (trace_from-begun cycles heads (line ∷ []) few)

    pub header-end_many : most_cycles < cycles → trace_of bytes ≡ Err TooManyCycles
    unfolding trace_of
    header-end_many many = rw opened_last (trace_from-many cycles heads (line ∷ []) many)

  pub past-Heads : HoldsHeader bytes → ⊥
  past-Heads held = by_line (is_head_line line) refl
    where
      by_line : (test : Bool) → is_head_line line ≡ test → ⊥
      by_line true is = none_held bytes line plain (heads_on version cycles heads h.paths) h.opens (BadHeader (3 + length heads)) (heads_on-cut version cycles heads h.paths line is) held
      by_line false other =
          let start : HeaderStart = record { cycles = cycles; heads = heads; lines = line ∷ [] } in
          let same : held.start ≡ start = ok_is held.start start (sym (held.read) ∙ opened_last other) in
          omega (arith, held.line, ap (λ (s : HeaderStart). length s.lines) same)

-- ---- the rows

module _ (t : TraceText) where
  -- the line of the next row
  abbrev next_line : ℕ
  next_line = 3 + length t.heads + length t.rows

  abbrev all_owed : List Parameters
  all_owed = owed (params_of_heads t.heads) t.cycles

  front-row : (cycle : Cycle) (read : Result (List Cycle) TraceFault)
      → ◌≡◌ {A = Result TraceText TraceFault} ((read >>= λ cycles. Ok (cycle ∷ cycles)) >>= λ rows. Ok (record { cycles = t.cycles; heads = t.heads; rows = t.rows ++ rows }))
      (read >>= λ rows. Ok (record { cycles = t.cycles; heads = t.heads; rows = (t.rows ++ cycle ∷ []) ++ rows }))
  front-row cycle (Ok cycles) = rw (append_assoc t.rows (cycle ∷ []) cycles) refl
  front-row cycle (Err d) = refl

  module _ (p : Parameters) (turn : slice_get all_owed (length t.rows) ≡ Some p) where
    owed_next : drop (length t.rows) all_owed ≡ p ∷ drop (suc (length t.rows)) all_owed
    owed_next =
        drop-cons all_owed (length t.rows) p (slice_get_within all_owed (length t.rows) p turn)
        ∙ ap (λ (q : Parameters). q ∷ drop (suc (length t.rows)) all_owed) (get_or_from_slice_get all_owed (length t.rows) p p turn)

    -- a row that is read
    pub rows_on-row : (line : List ℕ) (lines : List (List ℕ)) (cycle : Cycle) → 0 < length lines → row_at next_line p line ≡ Ok cycle → rows_on t (line ∷ lines) ≡ rows_on (with_row t cycle) lines
    rows_on-row line lines cycle some read =
        let rest = drop (suc (length t.rows)) all_owed in
        let want = t.cycles * length t.heads in
        let long : length (t.rows ++ cycle ∷ []) ≡ suc (length t.rows) = omega (arith, length-append t.rows (cycle ∷ [])) in
        let number : 3 + length t.heads + suc (length t.rows) ≡ suc next_line = omega arith in
        rw (long, number, owed_next, rows_from-cons want (length t.rows) next_line p rest line lines some, read)
        (front-row cycle (rows_from want (suc (length t.rows)) (suc next_line) rest lines))

    rows_on-wrong : (line : List ℕ) (lines : List (List ℕ)) (f : TraceFault) → 0 < length lines → row_at next_line p line ≡ Err f → rows_on t (line ∷ lines) ≡ Err f
    rows_on-wrong line lines f some wrong =
        rw (owed_next, rows_from-cons (t.cycles * length t.heads) (length t.rows) next_line p (drop (suc (length t.rows)) all_owed) line lines some, wrong) refl

    -- a row with no LF
    pub rows_on-cut : (line : List ℕ) → rows_on t (line ∷ []) ≡ Err (cut_row line (t.cycles * length t.heads) (length t.rows) next_line)
    rows_on-cut line = rw (owed_next, rows_from-cut (t.cycles * length t.heads) (length t.rows) next_line p (drop (suc (length t.rows)) all_owed) line) refl

    -- a line more: a row that is read
    pub row-ok : (bytes line : List ℕ) (cycle : Cycle) → GoesOnLine bytes line t → row_at next_line p line ≡ Ok cycle → GoesOn (bytes ++ 10 ∷ []) [] (with_row t cycle)
    row-ok bytes line cycle goes read more = goes more ∙ rows_on-row line (lines_of more) cycle (some_line more) read

    pub row-fails : (bytes line : List ℕ) (e : TraceFault) → GoesOnLine bytes line t → IsFault (row_at next_line p line) e → Fails (bytes ++ 10 ∷ []) e
    row-fails bytes line e goes wrong more =
        fault_by (row_at next_line p line) (trace_of ((bytes ++ 10 ∷ []) ++ more)) e (λ f is. goes more ∙ rows_on-wrong line (lines_of more) f (some_line more) is) wrong

  -- the end of a text where a row is needed
  pub rows_on-cut_at : (line : List ℕ) → length t.rows < t.cycles * length t.heads → rows_on t (line ∷ []) ≡ Err (cut_row line (t.cycles * length t.heads) (length t.rows) next_line)
  rows_on-cut_at line less = let turn = slice_get-there all_owed (length t.rows) (omega (arith, length-owed_heads t)) in rows_on-cut turn.0 turn.1 line

  module _ (all : t.cycles * length t.heads ≤ length t.rows) where
    none_owed : drop (length t.rows) all_owed ≡ []
    none_owed = drop_of_length-le all_owed (omega (arith, length-owed_heads t))

    rows_on-left : (lines : List (List ℕ)) → 0 < length lines → (lines ≡ [] ∷ [] → ⊥) → rows_on t lines ≡ Err (RowsLeft next_line)
    rows_on-left lines some other = rw (none_owed, rows_from-left (t.cycles * length t.heads) (length t.rows) next_line lines some other) refl

    two_lines : (line : List ℕ) (lines : List (List ℕ)) → 0 < length lines → line ∷ lines ≡ [] ∷ [] → ⊥
    two_lines line [] some same = omega arith
    two_lines line (next ∷ lines) some same = cc

    -- a line after the last row
    pub left-fails : (bytes line : List ℕ) → GoesOnLine bytes line t → Fails (bytes ++ 10 ∷ []) (RowsLeft next_line)
    left-fails bytes line goes more = goes more ∙ rows_on-left (line ∷ lines_of more) (omega arith) (two_lines line (lines_of more) (some_line more))

    -- bytes after the last row, whatever follows
    pub left-more : (bytes line rest : List ℕ) → GoesOn bytes line t → 0 < length rest → Fails (bytes ++ rest) (RowsLeft next_line)
    left-more bytes line rest goes some more =
        let text = line ++ (rest ++ more) in
        ap trace_of (append_assoc bytes rest more) ∙ goes (rest ++ more)
        ∙ rows_on-left (lines_of text) (some_line text) (λ same.
        let none : text ≡ [] = sym (join-pieces_of 10 text) ∙ ap (join_with_byte 10) same in
        omega (arith, ap length none, length-append line (rest ++ more), length-append rest more))

    -- the end of a text where no row is needed
    pub rows_on-rest_at : (line : List ℕ) → (line ≡ [] → ⊥) → rows_on t (line ∷ []) ≡ Err (RowsLeft next_line)
    rows_on-rest_at line other = rows_on-left (line ∷ []) (omega arith) (λ same. let first : line ≡ [] = cc in other first)

    pub rows_on-end_at : (line : List ℕ) → line ≡ [] → rows_on t (line ∷ []) ≡ Ok t
    rows_on-end_at line none = rw (none, none_owed, append-nil t.rows) refl
