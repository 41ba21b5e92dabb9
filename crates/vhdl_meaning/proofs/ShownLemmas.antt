-- The rows of a well-formed bench show transfers that its streams can show.
use Rattle.std.proofs.Common.{◌≡◌, ◌∙◌, ℕ, zero, suc, ◌<◌, ◌-◌, ◌^◌, Bool, true, false, ◌==◌, ◌&&◌, if◌then◌else◌, List, [], ◌∷◌, ◌++◌, length, map, get_or, slice_get, Option, Some, None, IfSome, refl, sym, ap, subst, arith}
use Rattle.std.specs.List.{All, flat_map}
use Rattle.std.proofs.lemmas.Bool.{eqb-true}
use Rattle.std.proofs.lemmas.List.{length-replicate}
use Rattle.std.proofs.lemmas.List.Elements.{All-map}
use Rattle.tydi_base.specs.Bits.{bits_of, number_of_bits}
use Rattle.tydi_base.proofs.BitsLemmas.{length-bits_of, number_of_bits-bits_of, number_of_bits-below}
use Rattle.physical_stream.specs.Params.{Parameters}
use Rattle.physical_stream.specs.Cycles.{Cycle}
use Rattle.physical_stream.specs.Signals.{Shows}
use Rattle.physical_stream.specs.declared.head.Head.{Head}
use Rattle.signal_layout.specs.Layout.{is_present, bits_of_signal, default_of, default_number}
use Rattle.signal_layout.specs.declared.signal.Signal.{Signal}
use Rattle.signal_layout.specs.declared.signal.Signal.TheVariants as signals
use Rattle.vhdl_text.specs.WellFormed.{Assigned, IsPut, is_signal, signal_number}
use Rattle.vhdl_text.specs.declared.bench.Stmt.{Stmt}
use Rattle.vhdl_text.specs.declared.bench.Stmt.TheVariants as stmts
use Rattle.vhdl_meaning.specs.Meaning.{Values, Standing, Edge, Moment, zeros, zeros_in, words_for, last_of, current, assigned_by, waits_at, resumed, in_order, started, after_edge, rows_from, meaning, word_in, transfer_in, shown_in, cycle_at}
use Rattle.vhdl_meaning.specs.Laws.{RowsAreShown}
use Rattle.vhdl_meaning.proofs.HeldLemmas.{ArePuts}
use Rattle.vhdl_meaning.proofs.ProcessLemmas.{get-map, and-left, and-right}
use Rattle.vhdl_meaning.proofs.TurnLemmas.{AreAssignable, assignable-sound, puts-ahead}
use Rattle.vhdl_meaning.proofs.StartLemmas.{zero-fits, puts-sound, few, all_ones}

-- ---- words of their widths

-- each present signal of each stream has a word of its width
abbrev AreWide : List Head → Values → Type 0
AreWide heads values = (stream : ℕ) (head : Head) (signal : Signal) → slice_get heads stream ≡ Some head → is_present head.params signal ≡ true → length (values stream signal) ≡ bits_of_signal head.params signal

zeros-wide : (heads : List Head) → AreWide heads (zeros heads)
zeros-wide heads stream head signal h there = ap (λ (found : Option Head). length (zeros_in found signal)) h ∙ length-replicate (bits_of_signal head.params signal) false

-- the width of the signal of this number
abbrev width_by : Parameters → ℕ → ℕ
width_by p zero = bits_of_signal p signals.Valid
width_by p (suc zero) = bits_of_signal p signals.Ready
width_by p (suc (suc zero)) = bits_of_signal p signals.Content
width_by p (suc (suc (suc zero))) = bits_of_signal p signals.Last
width_by p (suc (suc (suc (suc zero)))) = bits_of_signal p signals.Stai
width_by p (suc (suc (suc (suc (suc zero))))) = bits_of_signal p signals.Endi
width_by p (suc (suc (suc (suc (suc (suc zero)))))) = bits_of_signal p signals.Strb
width_by p (suc (suc (suc (suc (suc (suc (suc more))))))) = bits_of_signal p signals.User

width-by : (p : Parameters) (signal : Signal) → bits_of_signal p signal ≡ width_by p (signal_number signal)
width-by p signals.Valid = refl
width-by p signals.Ready = refl
width-by p signals.Content = refl
width-by p signals.Last = refl
width-by p signals.Stai = refl
width-by p signals.Endi = refl
width-by p signals.Strb = refl
width-by p signals.User = refl

same-width : (p : Parameters) (one other : Signal) → is_signal one other ≡ true → bits_of_signal p one ≡ bits_of_signal p other
same-width p one other is = width-by p one ∙ ap (width_by p) (eqb-true (signal_number one) (signal_number other) is) ∙ sym (width-by p other)

module _ (heads : List Head) (stream : ℕ) (head : Head) (signal : Signal) (h : slice_get heads stream ≡ Some head) where
  put-wide : (a : Assigned) → IsPut heads a.stream a.signal a.bits → (a.stream == stream && is_signal a.signal signal) ≡ true → length a.bits ≡ bits_of_signal head.params signal
  put-wide a put is =
      let same : a.stream ≡ stream = eqb-true a.stream stream (and-left (a.stream == stream) (is_signal a.signal signal) is) in
      let found : slice_get heads a.stream ≡ Some head = ap (slice_get heads) same ∙ h in
      let one : put.head ≡ head = let s = sym put.stands ∙ found in cc in
      put.width ∙ ap (λ (x : Head). bits_of_signal x.params a.signal) one ∙ same-width head.params a.signal signal (and-right (a.stream == stream) (is_signal a.signal signal) is)

  last-wide : (assigned : List Assigned) (before : List Bool) → ArePuts heads assigned → length before ≡ bits_of_signal head.params signal →
      length (last_of before (words_for stream signal assigned)) ≡ bits_of_signal head.params signal
  last-wide [] before puts long = long
  last-wide (a ∷ more) before puts long = by_test (a.stream == stream && is_signal a.signal signal) (put-wide a puts.0) (λ word. last-wide more word puts.1)
    where
      by_test : (test : Bool) → (test ≡ true → length a.bits ≡ bits_of_signal head.params signal) →
          ((word : List Bool) → length word ≡ bits_of_signal head.params signal → length (last_of word (words_for stream signal more)) ≡ bits_of_signal head.params signal) →
          length (last_of before (if test then a.bits ∷ words_for stream signal more else words_for stream signal more)) ≡ bits_of_signal head.params signal
      by_test true wide rest = rest a.bits (wide refl)
      by_test false wide rest = rest before long

current-wide : (heads : List Head) (assigned : List Assigned) (values : Values) → ArePuts heads assigned → AreWide heads values → AreWide heads (current assigned values)
current-wide heads assigned values puts wide stream head signal h there = last-wide heads stream head signal h assigned (values stream signal) puts (wide stream head signal h there)

-- ---- the processes

-- the assignments of each process can be made to their streams
abbrev AllAssignable : List Head → List (List Stmt) → Type 0
AllAssignable heads procs = (number : ℕ) → AreAssignable heads (get_or procs number [])

waits-assignable : (heads : List Head) (left : List Stmt) → AreAssignable heads left → AreAssignable heads (waits_at left)
waits-assignable heads [] all = all
waits-assignable heads (stmts.Put stream signal bits ∷ more) all = waits-assignable heads more (λ index. all (suc index))
waits-assignable heads (stmts.Pause edges ∷ more) all = all
waits-assignable heads (stmts.Await from ∷ more) all = all
waits-assignable heads (stmts.Stop ∷ more) all = all

shorter-assignable : (heads : List Head) (edges other : ℕ) (more : List Stmt) → AreAssignable heads (stmts.Pause edges ∷ more) → AreAssignable heads (stmts.Pause other ∷ more)
shorter-assignable heads edges other more all zero stream signal bits is = cc
shorter-assignable heads edges other more all (suc index) stream signal bits is = all (suc index) stream signal bits is

resumed-assignable : (heads : List Head) (ready : List Bool) (left : List Stmt) → AreAssignable heads left → AreAssignable heads (resumed ready left)
resumed-assignable heads ready [] all = all
resumed-assignable heads ready (stmts.Put stream signal bits ∷ more) all = all
resumed-assignable heads ready (stmts.Pause zero ∷ more) all = λ index. all (suc index)
resumed-assignable heads ready (stmts.Pause (suc zero) ∷ more) all = λ index. all (suc index)
resumed-assignable heads ready (stmts.Pause (suc (suc edges)) ∷ more) all = shorter-assignable heads (suc (suc edges)) (suc edges) more all
resumed-assignable heads ready (stmts.Await from ∷ more) all = by_bit (get_or ready from false)
  where
    by_bit : (bit : Bool) → AreAssignable heads (if bit then more else stmts.Await from ∷ more)
    by_bit true = λ index. all (suc index)
    by_bit false = all
resumed-assignable heads ready (stmts.Stop ∷ more) all = all

map-assignable : (heads : List Head) (f : List Stmt → List Stmt) (procs : List (List Stmt)) → f [] ≡ [] → ((left : List Stmt) → AreAssignable heads left → AreAssignable heads (f left)) →
    AllAssignable heads procs → AllAssignable heads (map f procs)
map-assignable heads f procs none so all number = subst (AreAssignable heads) (sym (get-map f procs number none)) (so (get_or procs number []) (all number))

puts-append : (heads : List Head) (xs ys : List Assigned) → ArePuts heads xs → ArePuts heads ys → ArePuts heads (xs ++ ys)
puts-append heads [] ys first second = second
puts-append heads (a ∷ xs) ys first second = (first.0, puts-append heads xs ys first.1 second)

in_order-puts : (heads : List Head) (procs : List (List Stmt)) (order : List ℕ) → AllAssignable heads procs → ArePuts heads (flat_map assigned_by (in_order order procs))
in_order-puts heads procs [] all = tt
in_order-puts heads procs (number ∷ order) all = puts-append heads (assigned_by (get_or procs number [])) (flat_map assigned_by (in_order order procs)) (puts-ahead heads (get_or procs number []) (all number)) (in_order-puts heads procs order all)

text-puts : (heads : List Head) (procs : List (List Stmt)) → AllAssignable heads procs → ArePuts heads (flat_map assigned_by procs)
text-puts heads [] all = tt
text-puts heads (left ∷ procs) all = puts-append heads (assigned_by left) (flat_map assigned_by procs) (puts-ahead heads left (all 0)) (text-puts heads procs (λ number. all (suc number)))

-- ---- a stream in a row

module _ (p : Parameters) (values : Signal → List Bool) (wide : (signal : Signal) → is_present p signal ≡ true → length (values signal) ≡ bits_of_signal p signal) where
  word-long : (signal : Signal) → length (word_in p values signal) ≡ bits_of_signal p signal
  word-long signal = by_test (is_present p signal) (wide signal)
    where
      by_test : (there : Bool) → (there ≡ true → length (values signal) ≡ bits_of_signal p signal) →
          length (if there then values signal else bits_of (bits_of_signal p signal) (default_number p (default_of signal))) ≡ bits_of_signal p signal
      by_test true long = long refl
      by_test false long = length-bits_of (bits_of_signal p signal) (default_number p (default_of signal))

  number-small : (signal : Signal) → number_of_bits (word_in p values signal) < 2 ^ bits_of_signal p signal
  number-small signal = subst (λ w. number_of_bits (word_in p values signal) < 2 ^ w) (word-long signal) (number_of_bits-below (word_in p values signal))

  default-number : (signal : Signal) (default : ℕ) → default ≡ default_number p (default_of signal) → default < 2 ^ bits_of_signal p signal → is_present p signal ≡ false → number_of_bits (word_in p values signal) ≡ default
  default-number signal default is less absent =
      ap (λ (there : Bool). number_of_bits (if there then values signal else bits_of (bits_of_signal p signal) (default_number p (default_of signal)))) absent
      ∙ ap (λ n. number_of_bits (bits_of (bits_of_signal p signal) n)) (sym is) ∙ number_of_bits-bits_of (bits_of_signal p signal) default less

  transfer-shows : Shows p (transfer_in p values)
  transfer-shows = record {
    fits = record {
      content = word-long signals.Content;
      last = word-long signals.Last;
      stai = number-small signals.Stai;
      endi = number-small signals.Endi;
      strb = number-small signals.Strb;
      user = word-long signals.User;
    };
    defaults = record {
      stai = default-number signals.Stai 0 refl (zero-fits p).stai;
      endi = default-number signals.Endi (p.lanes - 1) refl (few p);
      strb = default-number signals.Strb (2 ^ p.lanes - 1) refl (all_ones p);
    };
  }

  shown-shows : IfSome (shown_in p values) (Shows p)
  shown-shows = by_valid (get_or (values signals.Valid) 0 false)
    where
      by_valid : (valid : Bool) → IfSome (if valid then Some (transfer_in p values) else None) (Shows p)
      by_valid true = transfer-shows
      by_valid false = tt

-- ---- the rows

record Stands (heads : List Head) (now : Standing) : Type 0 where
  procs : AllAssignable heads now.procs
  values : AreWide heads now.values

after-stands : (heads : List Head) (edge : Edge) (now : Standing) → Stands heads now → Stands heads (after_edge edge now)
after-stands heads edge now s =
    let going = map-assignable heads (resumed edge.ready) now.procs refl (resumed-assignable heads edge.ready) s.procs in
    record {
      procs = map-assignable heads waits_at (map (resumed edge.ready) now.procs) refl (waits-assignable heads) going;
      values = current-wide heads (flat_map assigned_by (in_order edge.order (map (resumed edge.ready) now.procs))) now.values (in_order-puts heads (map (resumed edge.ready) now.procs) edge.order going) s.values;
    }

rows-shown : (heads : List Head) (stream : ℕ) (head : Head) (now : Standing) (edges : List Edge) → slice_get heads stream ≡ Some head → Stands heads now →
    All (λ (row : Moment). IfSome (cycle_at head.params stream row).shown (Shows head.params)) (rows_from now edges)
rows-shown heads stream head now [] h s = λ k d less. absurd (omega (arith, less))
rows-shown heads stream head now (edge ∷ edges) h s = by_place (rows-shown heads stream head (after_edge edge now) edges h (after-stands heads edge now s))
  where
    by_place : All (λ (row : Moment). IfSome (cycle_at head.params stream row).shown (Shows head.params)) (rows_from (after_edge edge now) edges) →
        All (λ (row : Moment). IfSome (cycle_at head.params stream row).shown (Shows head.params)) (rows_from now (edge ∷ edges))
    by_place rest zero d less = shown-shows head.params (now.values stream) (λ signal there. s.values stream head signal h there)
    by_place rest (suc k) d less = rest k d (omega (arith, less))

pub rows_are_shown : RowsAreShown
rows_are_shown bench edges stream head well h =
    let all : AllAssignable bench.heads bench.procs = λ number. assignable-sound bench.heads bench.procs number (puts-sound bench well) in
    All-map (λ (c : Cycle). IfSome c.shown (Shows head.params)) (cycle_at head.params stream) (meaning bench edges)
    (rows-shown bench.heads stream head (started bench) edges h (record {
      procs = map-assignable bench.heads waits_at bench.procs refl (waits-assignable bench.heads) all;
      values = current-wide bench.heads (flat_map assigned_by bench.procs) (zeros bench.heads) (text-puts bench.heads bench.procs all) (zeros-wide bench.heads);
    }))
