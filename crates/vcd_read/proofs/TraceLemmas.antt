-- The trace that a dump shows is a trace.
use Rattle.std.proofs.Common.{◌≡◌, ◌∙◌, ℕ, zero, suc, ◌<◌, ◌≤◌, nat_lt, Bool, true, false, List, [], ◌∷◌, ◌++◌, length, get_or, slice_get}
use Rattle.std.proofs.Common.{Option, Some, None, IfSome, Result, Ok, Err, if◌then◌else◌, refl, sym, ap, subst, arith}
use Rattle.std.proofs.lemmas.Bool.{eqb-true}
use Rattle.std.proofs.lemmas.Bool.Decides.{nat_tests}
use Rattle.std.specs.List.{flat_map}
use Rattle.std.specs.Option.{option_or}
use Rattle.cycle_trace.specs.Trace.{AreShown, IsTrace, TraceText, are_heads, most_cycles, owed, params_of_heads}
use Rattle.physical_stream.specs.Cycles.{Cycle}
use Rattle.physical_stream.specs.Params.{Parameters}
use Rattle.physical_stream.specs.Signals.{Shows}
use Rattle.physical_stream.specs.declared.head.Head.{Head}
use Rattle.physical_stream.specs.declared.transfer.Transfer.{Transfer}
use Rattle.signal_layout.specs.Layout.{bits_of_signal, is_present, where_present, width_of}
use Rattle.signal_layout.specs.declared.signal.Signal.{Signal}
use Rattle.signal_layout.specs.declared.signal.Signal.TheVariants as signals
use Rattle.tydi_reading.specs.Lists.{EachIs}
use Rattle.vhdl_meaning.specs.Meaning.{transfer_in}
use Rattle.vhdl_text.specs.Lines.{all_signals}
use Rattle.vhdl_text.specs.Text.{plain_name}
use Rattle.vcd_read.specs.History.{Part, clock_in, declared_width, edges, known, signal_in, states_at, time_back, word_at}
use Rattle.vcd_read.specs.Laws.{DumpsShowTraces}
use Rattle.vcd_read.specs.Profile.{may_have_width, parts_of}
use Rattle.vcd_read.specs.Sampled.{Sample, known_bits, makes_row, not_bit, row_of, rows_at, sample_at, sampled, stream_not_bit, word_of_code}
use Rattle.vcd_read.specs.Shown.{clock_shown, edges_shown, parts_shown, rows_shown, times_shown, wiring_shown}
use Rattle.vcd_read.specs.Wanted.{Codes, Wanted, Widths, clock_faults, code_faults, codes_in, faults_from, first_fault, signal_faults, stream_faults}
use Rattle.vcd_read.specs.Wanted.{width_faults, widths_in, wiring_fault}
use Rattle.vcd_read.specs.declared.fault.VcdFault.{VcdFault}
use Rattle.vcd_read.specs.declared.fault.VcdFault.TheVariants as faults
use Rattle.vcd_read.specs.declared.place.Place.{Place}
use Rattle.vcd_read.specs.declared.state.State.{State}
use Rattle.vcd_read.proofs.ProbeLemmas.{payload-told, transfer-shows}
use Rattle.vcd_read.proofs.WideLemmas.{AreWide, EachStays, Stays, edges-stay, parts-wide, states-wide}
use Rattle.vcd_read.proofs.WordLemmas.{word-wide}

-- ---- rows that show what their streams can show

-- a row for each of these
abbrev ShowAll : List Parameters → List Cycle → Type 0
ShowAll [] [] = Unit {0}
ShowAll [] (row ∷ rows) = ⊥
ShowAll (p ∷ streams) [] = ⊥
ShowAll (p ∷ streams) (row ∷ rows) = IfSome row.shown (Shows p) × ShowAll streams rows

all-append : (streams others : List Parameters) (rows more : List Cycle) → ShowAll streams rows → ShowAll others more → ShowAll (streams ++ others) (rows ++ more)
all-append [] others [] more first second = second
all-append [] others (row ∷ rows) more first second = absurd first
all-append (p ∷ streams) others [] more first second = absurd first
all-append (p ∷ streams) others (row ∷ rows) more first second = (first.0, all-append streams others rows more first.1 second)

all-many : (streams : List Parameters) (rows : List Cycle) → ShowAll streams rows → length rows ≡ length streams
all-many [] [] all = refl
all-many [] (row ∷ rows) all = absurd all
all-many (p ∷ streams) [] all = absurd all
all-many (p ∷ streams) (row ∷ rows) all = ap suc (all-many streams rows all.1)

some-shows : (p : Parameters) (shown : Option Transfer) (t : Transfer) → IfSome shown (Shows p) → shown ≡ Some t → Shows p t
some-shows p shown t shows is = subst (λ (o : Option Transfer). IfSome o (Shows p)) is shows

all-each : (streams : List Parameters) (rows : List Cycle) → ShowAll streams rows → (i : ℕ) (p : Parameters) (row : Cycle) (t : Transfer)
    → slice_get streams i ≡ Some p → slice_get rows i ≡ Some row → row.shown ≡ Some t → Shows p t
all-each [] rows all i p row t at_p at_row is = absurd (let e = at_p in cc)
all-each (one ∷ streams) [] all i p row t at_p at_row is = absurd all
all-each (one ∷ streams) (first ∷ rows) all zero p row t at_p at_row is =
    let same : one ≡ p = (let e = at_p in cc) in
    let here : first ≡ row = (let e = at_row in cc) in
    subst (λ (q : Parameters). Shows q t) same (some-shows one first.shown t all.0 (ap (λ (c : Cycle). c.shown) here ∙ is))
all-each (one ∷ streams) (first ∷ rows) all (suc i) p row t at_p at_row is = all-each streams rows all.1 i p row t at_p at_row is

are-shown : (streams : List Parameters) (rows : List Cycle) → ShowAll streams rows → AreShown streams rows
are-shown streams rows all = record { many = all-many streams rows all; each = all-each streams rows all }

-- ---- the row of a sample

-- a signal that is of bits has its width
abbrev FitsSample : Parameters → Sample → Type 0
FitsSample p sample = (signal : Signal) → IfSome (sample signal) (λ bits. length bits ≡ bits_of_signal p signal)

row-shows : (p : Parameters) (sample : Sample) → FitsSample p sample → makes_row p sample ≡ true → IfSome (row_of p sample).shown (Shows p)
row-shows p sample fits makes = by (get_or (known_bits (sample signals.Valid)) 0 false) refl
  where
    by : (high : Bool) → get_or (known_bits (sample signals.Valid)) 0 false ≡ high
        → IfSome (if high then Some (transfer_in p (λ signal. known_bits (sample signal))) else None) (Shows p)
    by true is = transfer-shows p sample fits (payload-told p sample (get_or (known_bits (sample signals.Valid)) 0 false) makes refl is)
    by false is = tt

module _ (codes : Codes) where
  -- the samples of all streams at an edge
  abbrev FitAll : List Head → List Part → Type 0
  FitAll heads before = EachIs (λ (head : Head). FitsSample head.params (sample_at codes head before)) heads

  edge-shows : (cycle stream : ℕ) (heads : List Head) (before : List Part) → FitAll heads before → stream_not_bit codes cycle stream heads before ≡ None
      → ShowAll (params_of_heads heads) (rows_at codes heads before)
  edge-shows cycle stream [] before fit none = tt
  edge-shows cycle stream (head ∷ heads) before fit none =
      by (makes_row head.params (sample_at codes head before)) refl (edge-shows cycle (suc stream) heads before fit.1) none
    where
      by : (test : Bool) → makes_row head.params (sample_at codes head before) ≡ test
          → (stream_not_bit codes cycle (suc stream) heads before ≡ None → ShowAll (params_of_heads heads) (rows_at codes heads before))
          → (if test then stream_not_bit codes cycle (suc stream) heads before else Some (record { cycle = cycle; stream = stream })) ≡ None
          → ShowAll (params_of_heads (head ∷ heads)) (rows_at codes (head ∷ heads) before)
      by true makes rest none = (row-shows head.params (sample_at codes head before) fit.0 makes, rest none)
      by false makes rest none = absurd (let e = none in cc)

  rows-show : (heads : List Head) (cycle : ℕ) (rising : List (List Part)) → EachIs (FitAll heads) rising → not_bit codes heads cycle rising ≡ None
      → ShowAll (owed (params_of_heads heads) (length rising)) (flat_map (rows_at codes heads) rising)
  rows-show heads cycle [] fit none = tt
  rows-show heads cycle (before ∷ rising) fit none =
      by (stream_not_bit codes cycle 0 heads before) refl (rows-show heads (suc cycle) rising fit.1) none
    where
      by : (found : Option Place) → stream_not_bit codes cycle 0 heads before ≡ found
          → (not_bit codes heads (suc cycle) rising ≡ None
          → ShowAll (owed (params_of_heads heads) (length rising)) (flat_map (rows_at codes heads) rising))
          → option_or found (not_bit codes heads (suc cycle) rising) ≡ None
          → ShowAll (owed (params_of_heads heads) (length (before ∷ rising))) (flat_map (rows_at codes heads) (before ∷ rising))
      by None here rest none =
          all-append (params_of_heads heads) (owed (params_of_heads heads) (length rising)) (rows_at codes heads before)
          (flat_map (rows_at codes heads) rising) (edge-shows cycle 0 heads before fit.0 here) (rest none)
      by (Some place) here rest none = absurd (let e = none in cc)

-- ---- the widths of signals

none-both : (xs ys : List VcdFault) → xs ++ ys ≡ [] → (xs ≡ []) × (ys ≡ [])
none-both [] ys none = (refl, none)
none-both (x ∷ xs) ys none = absurd (let e = none in cc)

none-first : (l : List VcdFault) → first_fault l ≡ None → l ≡ []
unfolding first_fault
none-first [] none = refl
none-first (x ∷ xs) none = absurd (let e = none in cc)

-- nothing is wrong with any signal
none-each : (f : Signal → List VcdFault) → flat_map f all_signals ≡ [] → (signal : Signal) → f signal ≡ []
none-each f none = by
  where
    rest_1 : (f signals.Valid ≡ []) × (flat_map f (signals.Ready ∷ signals.Content ∷ signals.Last ∷ signals.Stai ∷ signals.Endi ∷ signals.Strb ∷ signals.User ∷ []) ≡ [])
    rest_1 = none-both (f signals.Valid) _ none

    rest_2 : (f signals.Ready ≡ []) × (flat_map f (signals.Content ∷ signals.Last ∷ signals.Stai ∷ signals.Endi ∷ signals.Strb ∷ signals.User ∷ []) ≡ [])
    rest_2 = none-both (f signals.Ready) _ rest_1.1

    rest_3 : (f signals.Content ≡ []) × (flat_map f (signals.Last ∷ signals.Stai ∷ signals.Endi ∷ signals.Strb ∷ signals.User ∷ []) ≡ [])
    rest_3 = none-both (f signals.Content) _ rest_2.1

    rest_4 : (f signals.Last ≡ []) × (flat_map f (signals.Stai ∷ signals.Endi ∷ signals.Strb ∷ signals.User ∷ []) ≡ [])
    rest_4 = none-both (f signals.Last) _ rest_3.1

    rest_5 : (f signals.Stai ≡ []) × (flat_map f (signals.Endi ∷ signals.Strb ∷ signals.User ∷ []) ≡ [])
    rest_5 = none-both (f signals.Stai) _ rest_4.1

    rest_6 : (f signals.Endi ≡ []) × (flat_map f (signals.Strb ∷ signals.User ∷ []) ≡ [])
    rest_6 = none-both (f signals.Endi) _ rest_5.1

    rest_7 : (f signals.Strb ≡ []) × (flat_map f (signals.User ∷ []) ≡ [])
    rest_7 = none-both (f signals.Strb) _ rest_6.1

    by : (signal : Signal) → f signal ≡ []
    by signals.Valid = rest_1.0
    by signals.Ready = rest_2.0
    by signals.Content = rest_3.0
    by signals.Last = rest_4.0
    by signals.Stai = rest_5.0
    by signals.Endi = rest_6.0
    by signals.Strb = rest_7.0
    by signals.User = (none-both (f signals.User) [] rest_7.1).0

module _ (parts front : List Part) (stays : Stays front parts) where
  abbrev widths : Widths
  widths = widths_in parts

  -- a code that may have this width has words of it
  code-fits : (width : ℕ) (code : List ℕ) → may_have_width (widths code) width ≡ true → IfSome (word_at code front) (λ bits. length bits ≡ width)
  unfolding known
  code-fits width code may = by (states_at code front) refl
    where
      by : (found : Option (List State)) → states_at code front ≡ found → IfSome (known found) (λ bits. length bits ≡ width)
      by None is = tt
      by (Some states) is =
          let declared : declared_width code parts ≡ Some (length states) = stays.widths code (length states) (states-wide code front states stays.wide is) in
          let same : length states ≡ width
          = eqb-true (length states) width (subst (λ (o : Option ℕ). may_have_width o width ≡ true) declared may) in
          subst (λ (n : ℕ). IfSome (known (Some states)) (λ bits. length bits ≡ n)) same (word-wide states)

  signal-fits : (stream : ℕ) (signal : Signal) (present : Bool) (width : ℕ) (code : Option (List ℕ)) → (present ≡ false → code ≡ None)
      → width_faults widths stream signal (where_present present width) code ≡ []
      → IfSome (word_of_code front code) (λ bits. length bits ≡ width)
  unfolding width_faults code_faults word_of_code
  signal-fits stream signal present width None lacks none = tt
  signal-fits stream signal false width (Some code) lacks none = absurd (let e = lacks refl in cc)
  signal-fits stream signal true width (Some code) lacks none = code-fits width code (by (may_have_width (widths code) width) none)
    where
      by : (test : Bool) → ◌≡◌ {A = List VcdFault} (if test then [] else faults.OtherWidth stream signal ∷ []) [] → test ≡ true
      by true is = refl
      by false is = absurd (let e = is in cc)

  module _ (scope : List (List ℕ)) where
    abbrev codes : Codes
    codes = codes_in scope parts

    head-fits : (stream : ℕ) (head : Head) → stream_faults codes widths stream head ≡ [] → FitsSample head.params (sample_at codes head front)
    head-fits stream head none signal =
        signal-fits stream signal (is_present head.params signal) (bits_of_signal head.params signal) (codes head signal)
        (λ absent. ap (λ (there : Bool). if there then signal_in scope (plain_name head signal) parts else None) absent)
        (none-each (signal_faults codes widths stream head) none signal)

    heads-fit : (stream : ℕ) (heads : List Head) → faults_from codes widths stream heads ≡ [] → FitAll codes heads front
    heads-fit stream [] none = tt
    heads-fit stream (head ∷ heads) none =
        let both = none-both (stream_faults codes widths stream head) (faults_from codes widths (suc stream) heads) none in
        (head-fits stream head both.0, heads-fit (suc stream) heads both.1)

-- at each edge
edges-fit : (scope : List (List ℕ)) (parts : List Part) (heads : List Head) (rising : List (List Part)) → EachStays parts rising
    → faults_from (codes_in scope parts) (widths_in parts) 0 heads ≡ [] → EachIs (FitAll (codes_in scope parts) heads) rising
edges-fit scope parts heads [] stay none = tt
edges-fit scope parts heads (front ∷ rising) stay none =
    (heads-fit parts front stay.0 scope 0 heads none, edges-fit scope parts heads rising stay.1 none)

-- ---- a text

module _ (wanted : Wanted) (t : TraceText) (together : are_heads wanted.heads ≡ true) where
  abbrev IsShownTrace : Type 0
  IsShownTrace = (t.heads ≡ wanted.heads) × IsTrace t

  module _ (parts : List Part) (wide : AreWide parts) where
    abbrev found_codes : Codes
    found_codes = codes_in wanted.scope parts

    module _ (none : faults_from found_codes (widths_in parts) 0 wanted.heads ≡ []) where
      rows-trace : (clock : List ℕ) (found : Option Place) → length (edges clock parts) ≤ most_cycles
          → not_bit found_codes wanted.heads 0 (edges clock parts) ≡ found
          → rows_shown (sampled found_codes wanted.heads (edges clock parts)) found ≡ Ok t → IsShownTrace
      unfolding rows_shown
      rows-trace clock None few bits is =
          let same : sampled found_codes wanted.heads (edges clock parts) ≡ t = (let e = is in cc) in
          subst (λ (one : TraceText). (one.heads ≡ wanted.heads) × IsTrace one) same (
            refl,
            record {
              few_cycles = few;
              streams = together;
              shown = are-shown _ _ (rows-show found_codes wanted.heads 0 (edges clock parts)
                  (edges-fit wanted.scope parts wanted.heads (edges clock parts) (edges-stay clock parts wide) none) bits);
            },
          )
      rows-trace clock (Some place) few bits is = absurd (let e = is in cc)

      edges-trace : (clock : List ℕ) → edges_shown found_codes wanted.heads (edges clock parts) ≡ Ok t → IsShownTrace
      unfolding edges_shown
      edges-trace clock is = by (nat_lt most_cycles (length (edges clock parts))) refl is
        where
          by : (test : Bool) → nat_lt most_cycles (length (edges clock parts)) ≡ test
              → (if test then Err faults.TooManyCycles else rows_shown (sampled found_codes wanted.heads (edges clock parts))
              (not_bit found_codes wanted.heads 0 (edges clock parts))) ≡ Ok t → IsShownTrace
          by true many is = absurd (let e = is in cc)
          by false few is =
              rows-trace clock (not_bit found_codes wanted.heads 0 (edges clock parts)) (grind (arith, nat_tests, few)) refl is

      clock-trace : (clock : Option (List ℕ)) → clock_shown found_codes wanted.heads parts clock ≡ Ok t → IsShownTrace
      unfolding clock_shown
      clock-trace (Some clock) is = edges-trace clock is
      clock-trace None is = absurd (let e = is in cc)

    wiring-trace : (wrong : Option VcdFault) → wiring_fault found_codes (widths_in parts) (clock_in wanted.scope parts) wanted.heads ≡ wrong
        → wiring_shown wanted parts wrong ≡ Ok t → IsShownTrace
    unfolding wiring_shown
    wiring-trace None none is =
        clock-trace (none-both (clock_faults (clock_in wanted.scope parts)) (faults_from found_codes (widths_in parts) 0 wanted.heads)
        (none-first (clock_faults (clock_in wanted.scope parts) ++ faults_from found_codes (widths_in parts) 0 wanted.heads) none)).1
        (clock_in wanted.scope parts) is
    wiring-trace (Some fault) some is = absurd (let e = is in cc)

    times-trace : (back : Option ℕ) → times_shown wanted parts back ≡ Ok t → IsShownTrace
    unfolding times_shown
    times-trace None is =
        wiring-trace (wiring_fault found_codes (widths_in parts) (clock_in wanted.scope parts) wanted.heads) refl is
    times-trace (Some offset) is = absurd (let e = is in cc)

  parts-trace : (text : List ℕ) (read : Result (List Part) ℕ) → parts_of text ≡ read → parts_shown wanted read ≡ Ok t → IsShownTrace
  unfolding parts_shown
  parts-trace text (Ok parts) at is = times-trace parts (parts-wide text parts at) (time_back parts) is
  parts-trace text (Err offset) at is = absurd (let e = is in cc)

pub dumps_show_traces : DumpsShowTraces
dumps_show_traces wanted text t together is = parts-trace wanted t together text (parts_of text) refl is
