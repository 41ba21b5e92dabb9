-- How far the rows of a text are read.
use Rattle.std.proofs.Common.{◌≡◌, ◌≢◌, ◌↔◌, IsTrue, ◌∙◌, ℕ, zero, suc, ◌+◌, ◌*◌, ◌<◌, ◌≤◌, false, ◌==◌, if◌then◌else◌, List, [], ◌∷◌, ◌++◌, length, map, max, drop, get_or, Option, Some, None, Result, Ok, Err, MatchOption, IfSome, refl, sym, ap, subst, arith}
use Rattle.std.specs.List.{slice_get}
use Rattle.std.specs.Option.{option_map}
use Rattle.std.proofs.Math.ListN.{set}
use Rattle.std.proofs.Math.Nat.{le-max_left, le-max_right}
use Rattle.std.proofs.Math.Numerals.{add-one}
use Rattle.std.proofs.Math.Seq.{drop-cons}
use Rattle.std.proofs.lemmas.List.{length-append, length-map}
use Rattle.std.proofs.lemmas.Option.{slice_get_within, slice_get-map}
use Rattle.tydi_base.specs.Reading.{Gives}
use Rattle.physical_stream.specs.Params.{Parameters}
use Rattle.physical_stream.specs.Cycles.{Cycle}
use Rattle.physical_stream.specs.Signals.{Shows}
use Rattle.physical_stream.specs.declared.head.Head.{Head}
use Rattle.physical_stream.specs.declared.transfer.Transfer.{Transfer}
use Rattle.cycle_trace.specs.declared.fault.TraceFault.{TraceFault}
use Rattle.cycle_trace.specs.declared.row.fields.RowBits.{RowBits}
use Rattle.cycle_trace.specs.declared.reader.rows.RowsRead.{RowsRead}
use Rattle.cycle_trace.specs.declared.row.fields.StreamRows.{StreamRows}
use Rattle.cycle_trace.specs.Faults.{fault_in}
use Rattle.cycle_trace.specs.ReaderView.{ReadsRows, kept_of}
use Rattle.cycle_trace.specs.RowKept.{cycle_in}
use Rattle.cycle_trace.specs.RowSink.{CanTake, with_row}
use Rattle.cycle_trace.specs.Beginnings.{Fails, GoesOnLine}
use Rattle.cycle_trace.specs.RowLayout.{row_room, rows_room}
use Rattle.cycle_trace.specs.RowText.{row_at, row_fault}
use Rattle.cycle_trace.specs.Trace.{TraceText, owed, params_of_heads}
use Rattle.cycle_trace.proofs.RowsLemmas.{length-owed_heads}
use Rattle.cycle_trace.proofs.RowSpelling.{row_at-some}
use Rattle.cycle_trace.proofs.BeginningLemmas.{IsFault-told, row-fails, row_fault-told}
use Rattle.tydi_base.proofs.PlaceLemmas.{slice_get-there}
use Rattle.cycle_trace.proofs.RowLengthLemmas.{row_at-long}
use Rattle.cycle_trace.proofs.SurveyorLemmas.{has_turn, next_row}
use Rattle.tydi_base.proofs.PlaceLemmas.{slice_get-set_same}

-- the parameters stay where a row is read
abbrev pub params_of_rows : List StreamRows → List Parameters
params_of_rows streams = map (λ (rows : StreamRows). rows.layout.params) streams

pub params-set : (streams : List StreamRows) (i : ℕ) (old new : StreamRows) → slice_get streams i ≡ Some old → new.layout.params ≡ old.layout.params → params_of_rows (set streams i new) ≡ params_of_rows streams
params-set [] i old new there same = cc
params-set (x ∷ streams) zero old new there same =
    let is : x ≡ old = cc in ap (λ (p : Parameters). p ∷ params_of_rows streams) (same ∙ ap (λ (rows : StreamRows). rows.layout.params) (sym is))
params-set (x ∷ streams) (suc i) old new there same = ap (λ (ps : List Parameters). x.layout.params ∷ ps) (params-set streams i old new there same)

pub kept-set : (streams : List StreamRows) (i : ℕ) (new : StreamRows) → i < length streams → kept_of (set streams i new) i ≡ Some new.kept
kept-set streams i new within = ap (option_map (λ (rows : StreamRows). rows.kept)) (slice_get-set_same streams i new within)

module _ (rows : RowsRead) (t : TraceText) (h : ReadsRows rows t) where
  pub many_streams : length rows.streams.items ≡ length t.heads
  many_streams = sym (length-map rows.streams.items (λ (r : StreamRows). r.layout.params)) ∙ ap length h.params ∙ length-map t.heads (λ (head : Head). head.params)

  pub less_of : (rows.got ≡ rows.want → ⊥) → rows.got < rows.want
  less_of other = let ne : rows.got ≢ rows.want = other in omega (arith, h.got, h.want, h.within)

  pub all_read : rows.got ≡ rows.want → t.cycles * length t.heads ≤ length t.rows
  all_read whole = omega (arith, whole, h.got, h.want)

  pub wants : (row : Cycle) → CanTake t row → rows.got < rows.want
  wants row can = omega (arith, h.got, h.want, length-owed_heads t, slice_get_within (owed (params_of_heads t.heads) t.cycles) (length t.rows) can.params can.turn)

  -- some stream needs a row
  pub turn_params : rows.got < rows.want → (p : Parameters) × (slice_get (owed (params_of_heads t.heads) t.cycles) (length t.rows) ≡ Some p)
  turn_params less =
      slice_get-there (owed (params_of_heads t.heads) t.cycles) (length t.rows) (omega (arith, h.got, h.want, length-owed_heads t))

  pub stream_in : rows.got < rows.want → rows.stream < length rows.streams.items
  stream_in less =
      let turn = turn_params less in
      let has = has_turn t h.turn rows.stream h.next turn.0 turn.1 in
      let inside = has.in_streams in
      omega (arith, many_streams)

  -- the stream whose turn it is, by its layout
  pub params_here : (p : Parameters) → slice_get (owed (params_of_heads t.heads) t.cycles) (length t.rows) ≡ Some p → (old : StreamRows) → slice_get rows.streams.items rows.stream ≡ Some old → old.layout.params ≡ p
  params_here p turn old there =
      let has = has_turn t h.turn rows.stream h.next p turn in
      let here : slice_get (params_of_rows rows.streams.items) rows.stream ≡ Some old.layout.params = slice_get-map (λ (r : StreamRows). r.layout.params) rows.streams.items rows.stream ∙ ap (option_map (λ (r : StreamRows). r.layout.params)) there in
      let head : slice_get (params_of_heads t.heads) rows.stream ≡ Some has.head.params = slice_get-map (λ (x : Head). x.params) t.heads rows.stream ∙ ap (option_map (λ (x : Head). x.params)) has.there in
      let same : old.layout.params ≡ has.head.params = let e = sym here ∙ ap (λ (ps : List Parameters). slice_get ps rows.stream) h.params ∙ head in cc in
      same ∙ has.params

-- the sink can take the transfer that a row shows
pub can_take : (t : TraceText) (number : ℕ) (p : Parameters) (line : List ℕ) (row : Cycle) → slice_get (owed (params_of_heads t.heads) t.cycles) (length t.rows) ≡ Some p → row_at number p line ≡ Ok row → CanTake t row
can_take t number p line row turn read = record { params = p; turn = turn; shown = by_shown row.shown (row_at-some number p line row read).shows }
  where
    by_shown : (shown : Option Transfer) → ((x : Transfer) → shown ≡ Some x → Shows p x) → IfSome shown (Shows p)
    by_shown None each = tt
    by_shown (Some x) each = each x refl

-- one row more
pub ReadsRows-more : (rows next : RowsRead) (t : TraceText) (row : Cycle) → ReadsRows rows t → CanTake t row → next.streams ≡ rows.streams → next.want ≡ rows.want → next.got ≡ rows.got + 1 → next.room ≡ rows.room
    → next.stream ≡ (if rows.stream + 1 == length t.heads then 0 else rows.stream + 1) → ReadsRows next (with_row t row)
ReadsRows-more rows next t row h can streams want got room stream = record {
  params = ap (λ s. params_of_rows s.items) streams ∙ h.params;
  few_cycles = h.few_cycles;
  few_streams = h.few_streams;
  want = want ∙ h.want;
  got = omega (arith, got, h.got, length-append t.rows (row ∷ []));
  within = omega (arith, length-append t.rows (row ∷ []), slice_get_within (owed (params_of_heads t.heads) t.cycles) (length t.rows) can.params can.turn, length-owed_heads t);
  turn = if next.stream == 0 then h.turn + 1 else h.turn;
  next = next_row t h.turn rows.stream h.next row can (if next.stream == 0 then h.turn + 1 else h.turn) next.stream stream refl;
  room = room ∙ h.room;
}

-- the errors of rows are no want of memory
pub gives_here : (p q : Parameters) (number : ℕ) (line : List ℕ) (view : RowBits → Cycle) (other : RowBits → Cycle) (result : Result RowBits TraceFault) → p ≡ q → ((bits : RowBits) → view bits ≡ other bits)
    → Gives fault_in view result (row_at number p line) → Gives fault_in other result (row_at number q line)
gives_here p q number line view other (Ok bits) same views h = sym (ap (λ (x : Parameters). row_at number x line) same) ∙ h ∙ ap Ok (views bits)
gives_here p q number line view other (Err e) same views h = subst (λ (x : Parameters). MatchOption (fault_in e) (Unit {0}) (λ f. row_at number x line ≡ Err f)) same h

-- the stream whose turn it is reads a row
module _ (rows next : RowsRead) (t : TraceText) (h : ReadsRows rows t) (less : rows.got < rows.want) (old new : StreamRows) (there : slice_get rows.streams.items rows.stream ≡ Some old) (same : new.layout ≡ old.layout)
    (streams : next.streams.items ≡ set rows.streams.items rows.stream new) (want : next.want ≡ rows.want) (got : next.got ≡ rows.got) (stream : next.stream ≡ rows.stream) (room : next.room ≡ rows.room) where
  pub ReadsRows-read : ReadsRows next t
  ReadsRows-read = record {
    params = ap params_of_rows streams ∙ params-set rows.streams.items rows.stream old new there (ap (λ l. l.params) same) ∙ h.params;
    few_cycles = h.few_cycles;
    few_streams = h.few_streams;
    want = want ∙ h.want;
    got = got ∙ h.got;
    within = h.within;
    turn = h.turn;
    next = record { place = ap (λ (n : ℕ). n) h.next.place ∙ ap (λ (s : ℕ). h.turn * length t.heads + s) (sym stream); within = λ some. subst (λ (s : ℕ). s < length t.heads) (sym stream) (h.next.within some) };
    room = room ∙ h.room;
  }

-- so does what it reads
pub gives-read : (rows : RowsRead) (t : TraceText) → ReadsRows rows t → rows.got < rows.want → (old new : StreamRows) → slice_get rows.streams.items rows.stream ≡ Some old
    → (p : Parameters) → slice_get (owed (params_of_heads t.heads) t.cycles) (length t.rows) ≡ Some p → (number : ℕ) (line : List ℕ) (result : Result RowBits TraceFault) → number ≡ 3 + length t.heads + length t.rows
    → Gives fault_in (cycle_in new.kept) result (row_at number old.layout.params line)
    → Gives fault_in (λ bits. record { ready = bits.ready; shown = if bits.valid then kept_of (set rows.streams.items rows.stream new) rows.stream else None }) result (row_at (3 + length t.heads + length t.rows) p line)
gives-read rows t h less old new there p turn number line result is gives =
    gives_here old.layout.params p (3 + length t.heads + length t.rows) line (cycle_in new.kept) (λ bits. record { ready = bits.ready; shown = if bits.valid then kept_of (set rows.streams.items rows.stream new) rows.stream else None }) result
    (params_here rows t h p turn old there) views (subst (λ (n : ℕ). Gives fault_in (cycle_in new.kept) result (row_at n old.layout.params line)) is gives)
  where
    views : (bits : RowBits) → ◌≡◌ {A = Cycle} (cycle_in new.kept bits) (record { ready = bits.ready; shown = if bits.valid then kept_of (set rows.streams.items rows.stream new) rows.stream else None })
    views bits =
        ap (λ (shown : Option Transfer). let cycle : Cycle = record { ready = bits.ready; shown = if bits.valid then shown else None } in cycle) (sym (kept-set rows.streams.items rows.stream new (stream_in rows t h less)))

max_assoc : (a b c : ℕ) → max (max a b) c ≡ max a (max b c)
max_assoc a b c = omega arith

-- room for the rows of one stream more
pub rows_room-more : (heads : List Head) (n room next : ℕ) (head : Head) → max room (rows_room (drop n heads)) ≡ rows_room heads → n < length heads → head ≡ get_or heads n head → next ≡ max room (row_room head.params)
    → max next (rows_room (drop (n + 1) heads)) ≡ rows_room heads
rows_room-more heads n room next head so_far within is larger =
    let here : drop n heads ≡ head ∷ drop (n + 1) heads = rw add-one (drop-cons heads n head within) ∙ ap (λ (x : Head). x ∷ drop (n + 1) heads) (sym is) in
    let parts : max room (max (row_room head.params) (rows_room (drop (n + 1) heads))) ≡ rows_room heads = ap (λ (xs : List Head). max room (rows_room xs)) (sym here) ∙ so_far in
    ap (λ (m : ℕ). max m (rows_room (drop (n + 1) heads))) larger ∙ max_assoc room (row_room head.params) (rows_room (drop (n + 1) heads)) ∙ parts

-- each stream has room for its rows
rows_room-each : (heads : List Head) (stream : ℕ) (head : Head) → slice_get heads stream ≡ Some head → row_room head.params ≤ rows_room heads
rows_room-each [] stream head there = absurd cc
rows_room-each (first ∷ heads) zero head there =
    let same : first ≡ head = cc in
    subst (λ (x : Head). row_room x.params ≤ rows_room (first ∷ heads)) same (le-max_left (row_room first.params) (rows_room heads))
rows_room-each (first ∷ heads) (suc stream) head there = omega (arith, rows_room-each heads stream head there, le-max_right (row_room first.params) (rows_room heads))

-- a line that is longer than any row
pub long-fails : (rows : RowsRead) (t : TraceText) → ReadsRows rows t → rows.got < rows.want → (bytes line : List ℕ) → GoesOnLine bytes line t → rows.room < length line
    → Fails (bytes ++ 10 ∷ []) (row_fault (3 + length t.heads + length t.rows) line)
long-fails rows t h less bytes line goes long =
    let turn = turn_params rows t h less in
    let has = has_turn t h.turn rows.stream h.next turn.0 turn.1 in
    let old = slice_get-there rows.streams.items rows.stream (stream_in rows t h less) in
    let same = params_here rows t h turn.0 turn.1 old.0 old.1 in
    let few : turn.0.lanes ≤ 128 = subst (λ (p : Parameters). p.lanes ≤ 128) same old.0.layout.laid.narrow in
    let room : row_room turn.0 ≤ rows.room = subst (λ (n : ℕ). row_room turn.0 ≤ n) (sym h.room) (subst (λ (p : Parameters). row_room p ≤ rows_room t.heads) has.params (rows_room-each t.heads rows.stream has.head has.there)) in
    let number = 3 + length t.heads + length t.rows in
    row-fails t turn.0 turn.1 bytes line (row_fault number line) goes (IsFault-told (row_at number turn.0 line) (row_fault number line) (row_fault number line) (row_fault-told number line) (row_at-long turn.0 few number line (omega arith)))

-- a test that fails
pub not_whole : (p : Type 0) → IsTrue false ↔ p → p → ⊥
not_whole p same h = let e = same.1 h in absurd cc
