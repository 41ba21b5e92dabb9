-- The errors of dumps name streams that are there.
use Rattle.std.proofs.Common.{◌≡◌, ℕ, suc, ◌+◌, ◌<◌, ◌≤◌, nat_lt, Bool, true, false, List, [], ◌∷◌, ◌++◌, length, Option, Some, None, Result, Ok, Err}
use Rattle.std.proofs.Common.{if◌then◌else◌, refl, ap, subst, arith}
use Rattle.std.specs.List.{flat_map}
use Rattle.std.specs.Option.{option_or}
use Rattle.cycle_trace.specs.Trace.{TraceText, most_cycles}
use Rattle.physical_stream.specs.declared.head.Head.{Head}
use Rattle.signal_layout.specs.Layout.{width_of}
use Rattle.signal_layout.specs.declared.signal.Signal.{Signal}
use Rattle.vhdl_text.specs.Lines.{all_signals}
use Rattle.vcd_read.specs.History.{Part, clock_in, edges, time_back}
use Rattle.vcd_read.specs.Laws.{FaultsNameStreams, IsOfDump}
use Rattle.vcd_read.specs.Profile.{may_have_width, parts_of}
use Rattle.vcd_read.specs.Sampled.{makes_row, not_bit, sample_at, sampled, stream_not_bit}
use Rattle.vcd_read.specs.Shown.{clock_shown, edges_shown, parts_shown, rows_shown, times_shown, wiring_shown}
use Rattle.vcd_read.specs.Wanted.{Codes, Wanted, Widths, clock_faults, code_faults, codes_in, faults_from, first_fault, signal_faults, stream_faults}
use Rattle.vcd_read.specs.Wanted.{width_faults, widths_in, wiring_fault}
use Rattle.vcd_read.specs.declared.fault.VcdFault.{VcdFault}
use Rattle.vcd_read.specs.declared.fault.VcdFault.TheVariants as faults
use Rattle.vcd_read.specs.declared.place.Place.{Place}

-- each of these errors is one of a dump
abbrev AreOfDump : ℕ → List VcdFault → Type 0
AreOfDump streams [] = Unit {0}
AreOfDump streams (fault ∷ others) = IsOfDump streams fault × AreOfDump streams others

are-append : (streams : ℕ) (xs ys : List VcdFault) → AreOfDump streams xs → AreOfDump streams ys → AreOfDump streams (xs ++ ys)
are-append streams [] ys first second = second
are-append streams (x ∷ xs) ys first second = (first.0, are-append streams xs ys first.1 second)

are-flat : (streams : ℕ) (f : Signal → List VcdFault) (signals : List Signal) → ((signal : Signal) → AreOfDump streams (f signal))
    → AreOfDump streams (flat_map f signals)
are-flat streams f [] each = tt
are-flat streams f (signal ∷ others) each = are-append streams (f signal) (flat_map f others) (each signal) (are-flat streams f others each)

first-of : (streams : ℕ) (l : List VcdFault) (fault : VcdFault) → AreOfDump streams l → first_fault l ≡ Some fault → IsOfDump streams fault
unfolding first_fault
first-of streams [] fault are is = absurd (let e = is in cc)
first-of streams (x ∷ xs) fault are is = let e : x ≡ fault = let s = is in cc in subst (IsOfDump streams) e are.0

module _ (codes : Codes) (widths : Widths) (streams : ℕ) where
  code-ok : (stream : ℕ) (signal : Signal) (width : ℕ) (found : Option (List ℕ)) → stream < streams
      → AreOfDump streams (code_faults widths stream signal width found)
  unfolding code_faults
  code-ok stream signal width None within = (within, tt)
  code-ok stream signal width (Some code) within = by (may_have_width (widths code) width)
    where
      by : (test : Bool) → AreOfDump streams (if test then [] else faults.OtherWidth stream signal ∷ [])
      by true = tt
      by false = (within, tt)

  width-ok : (stream : ℕ) (signal : Signal) (width found : Option ℕ) (code : Option (List ℕ)) → stream < streams
      → AreOfDump streams (width_faults widths stream signal width code)
  unfolding width_faults
  width-ok stream signal None found code within = tt
  width-ok stream signal (Some width) found code within = code-ok stream signal width code within

  from-ok : (stream : ℕ) (heads : List Head) → stream + length heads ≤ streams → AreOfDump streams (faults_from codes widths stream heads)
  from-ok stream [] within = tt
  from-ok stream (head ∷ heads) within = are-append streams (stream_faults codes widths stream head) (faults_from codes widths (suc stream) heads)
      (are-flat streams (signal_faults codes widths stream head) all_signals (λ signal. width-ok stream signal (width_of head.params signal) None (codes head
      signal) (omega (arith, within))))
      (from-ok (suc stream) heads (omega (arith, within)))

  clock-ok : (clock : Option (List ℕ)) → AreOfDump streams (clock_faults clock)
  unfolding clock_faults
  clock-ok (Some code) = tt
  clock-ok None = (tt, tt)

  wiring-ok : (clock : Option (List ℕ)) (heads : List Head) (fault : VcdFault) → length heads ≤ streams
      → wiring_fault codes widths clock heads ≡ Some fault → IsOfDump streams fault
  wiring-ok clock heads fault within is =
      first-of streams (clock_faults clock ++ faults_from codes widths 0 heads) fault
      (are-append streams (clock_faults clock) (faults_from codes widths 0 heads) (clock-ok clock) (from-ok 0 heads (omega (arith, within)))) is

-- ---- rows

module _ (codes : Codes) where
  stream-ok : (cycle stream : ℕ) (heads : List Head) (before : List Part) (place : Place) → stream_not_bit codes cycle stream heads before ≡ Some place
      → place.stream < stream + length heads
  stream-ok cycle stream [] before place is = absurd (let e = is in cc)
  stream-ok cycle stream (head ∷ heads) before place is =
      by (makes_row head.params (sample_at codes head before)) (λ found. stream-ok cycle (suc stream) heads before place found) is
    where
      by : (test : Bool) → (stream_not_bit codes cycle (suc stream) heads before ≡ Some place → place.stream < suc stream + length heads)
          → (if test then stream_not_bit codes cycle (suc stream) heads before else Some (record { cycle = cycle; stream = stream })) ≡ Some place
          → place.stream < stream + length (head ∷ heads)
      by true rest is = let less = rest is in omega (arith, less)
      by false rest is =
          let e : ◌≡◌ {A = Place} (record { cycle = cycle; stream = stream }) place = let s = is in cc in
          let same : stream ≡ place.stream = ap (λ (p : Place). p.stream) e in omega (arith, same)

  place-ok : (heads : List Head) (cycle : ℕ) (rising : List (List Part)) (place : Place) → not_bit codes heads cycle rising ≡ Some place
      → place.stream < length heads
  place-ok heads cycle [] place is = absurd (let e = is in cc)
  place-ok heads cycle (before ∷ rising) place is = by (stream_not_bit codes cycle 0 heads before) refl (λ found. place-ok heads (suc cycle) rising place
      found) is
    where
      by : (found : Option Place) → stream_not_bit codes cycle 0 heads before ≡ found → (not_bit codes heads (suc cycle) rising ≡ Some place
          → place.stream < length heads)
          → option_or found (not_bit codes heads (suc cycle) rising) ≡ Some place → place.stream < length heads
      by None none rest is = rest is
      by (Some first) some rest is = let e : first ≡ place = let s = is in cc in let less = stream-ok cycle 0 heads before first some in
          subst (λ (p : Place). p.stream < length heads) e (omega (arith, less))

-- ---- a text

err-same : (one other : VcdFault) → ◌≡◌ {A = Result TraceText VcdFault} (Err one) (Err other) → one ≡ other
err-same one other e = cc

module _ (wanted : Wanted) where
  abbrev streams : ℕ
  streams = length wanted.heads

  rows-ok : (codes : Codes) (trace : TraceText) (rising : List (List Part)) (found : Option Place) (fault : VcdFault)
      → not_bit codes wanted.heads 0 rising ≡ found → rows_shown trace found ≡ Err fault → IsOfDump streams fault
  unfolding rows_shown
  rows-ok codes trace rising None fault at is = absurd (let e = is in cc)
  rows-ok codes trace rising (Some place) fault at is = subst (IsOfDump streams) (err-same (faults.NotBit place.cycle place.stream) fault is)
      (place-ok codes wanted.heads 0 rising place at)

  edges-ok : (codes : Codes) (rising : List (List Part)) (fault : VcdFault) → edges_shown codes wanted.heads rising ≡ Err fault → IsOfDump streams fault
  unfolding edges_shown
  edges-ok codes rising fault is = by (nat_lt most_cycles (length rising)) is
    where
      by : (test : Bool) → (if test then Err faults.TooManyCycles else rows_shown (sampled codes wanted.heads rising)
          (not_bit codes wanted.heads 0 rising)) ≡ Err fault → IsOfDump streams fault
      by true is = subst (IsOfDump streams) (err-same faults.TooManyCycles fault is) tt
      by false is = rows-ok codes (sampled codes wanted.heads rising) rising (not_bit codes wanted.heads 0 rising) fault refl is

  clocks-ok : (codes : Codes) (parts : List Part) (clock : Option (List ℕ)) (fault : VcdFault) → clock_shown codes wanted.heads parts clock ≡ Err fault
      → IsOfDump streams fault
  unfolding clock_shown
  clocks-ok codes parts None fault is = subst (IsOfDump streams) (err-same faults.NoClock fault is) tt
  clocks-ok codes parts (Some clock) fault is = edges-ok codes (edges clock parts) fault is

  wirings-ok : (parts : List Part) (wrong : Option VcdFault) (fault : VcdFault) → wiring_fault (codes_in wanted.scope parts) (widths_in parts)
      (clock_in wanted.scope parts) wanted.heads ≡ wrong
      → wiring_shown wanted parts wrong ≡ Err fault → IsOfDump streams fault
  unfolding wiring_shown
  wirings-ok parts None fault at is = clocks-ok (codes_in wanted.scope parts) parts (clock_in wanted.scope parts) fault is
  wirings-ok parts (Some first) fault at is =
      subst (IsOfDump streams) (err-same first fault is) (wiring-ok (codes_in wanted.scope parts)
      (widths_in parts) streams (clock_in wanted.scope parts) wanted.heads first (omega arith) at)

  times-ok : (parts : List Part) (back : Option ℕ) (fault : VcdFault) → times_shown wanted parts back ≡ Err fault → IsOfDump streams fault
  unfolding times_shown
  times-ok parts None fault is = wirings-ok parts (wiring_fault (codes_in wanted.scope parts) (widths_in parts)
      (clock_in wanted.scope parts) wanted.heads) fault refl is
  times-ok parts (Some offset) fault is = subst (IsOfDump streams) (err-same (faults.TimeBack offset) fault is) tt

  parts-ok : (read : Result (List Part) ℕ) (fault : VcdFault) → parts_shown wanted read ≡ Err fault → IsOfDump streams fault
  unfolding parts_shown
  parts-ok (Ok parts) fault is = times-ok parts (time_back parts) fault is
  parts-ok (Err offset) fault is = subst (IsOfDump streams) (err-same (faults.Syntax offset) fault is) tt

pub faults_name_streams : FaultsNameStreams
faults_name_streams wanted text fault is = parts-ok wanted (parts_of text) fault is
