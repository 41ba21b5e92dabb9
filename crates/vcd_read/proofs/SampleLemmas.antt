-- The rows of an edge, stream after stream.
use Rattle.std.proofs.Common.{◌≡◌, ◌∙◌, ◌⊎◌, inl, inr, ℕ, zero, suc, ◌+◌, ◌<◌, ◌≤◌, ◌==◌, Bool, true, false, List, [], ◌∷◌, ◌++◌, drop, get_or, length, map}
use Rattle.std.proofs.Common.{is_some, IfSome, take, slice_get, Option, Some, None, if◌then◌else◌, append_assoc, refl, sym, ap, subst, arith}
use Rattle.std.proofs.Math.Path.{fun_ext}
use Rattle.std.proofs.Math.Seq.{drop-cons}
use Rattle.std.proofs.lemmas.Bool.Decides.{nat_tests}
use Rattle.std.proofs.lemmas.Grind.{flat_map-append}
use Rattle.std.proofs.lemmas.List.{append-nil, length-append, take_more}
use Rattle.std.specs.List.{All, flat_map}
use Rattle.std.specs.Option.{option_or}
use Rattle.cycle_trace.specs.Spelling.{row_text, rows_text}
use Rattle.cycle_trace.specs.Trace.{most_cycles, owed, params_of_heads}
use Rattle.physical_stream.specs.Params.{Parameters}
use Rattle.physical_stream.specs.Cycles.{Cycle}
use Rattle.physical_stream.specs.declared.head.Head.{Head}
use Rattle.signal_layout.specs.Layout.{bits_of_signal, is_present}
use Rattle.signal_layout.specs.declared.signal.Signal.{Signal}
use Rattle.vcd_read.specs.Finding.{AreProbes, IsContact, IsProbe}
use Rattle.vcd_read.specs.History.{Part, before_block, declared_width, word_at}
use Rattle.vcd_read.specs.Kept.{IsKept}
use Rattle.vcd_read.specs.Numbers.{number_of}
use Rattle.vcd_read.specs.Probes.{CanSample, Words, number_in, sample_by, text_by, word_by}
use Rattle.vcd_read.specs.Sampled.{makes_row, not_bit, row_of, rows_at, sample_at, stream_not_bit, word_of_code}
use Rattle.vcd_read.specs.Samples.{AddsEdge, AreSamples, WritesRows, edge_text, probe_not_bit}
use Rattle.vcd_read.specs.Wanted.{Codes, widths_in}
use Rattle.vcd_read.specs.Wires.{AreWires, IsWide, before_of, word_before}
use Rattle.vcd_read.specs.declared.place.Place.{Place}
use Rattle.vcd_read.specs.declared.probe.Probe.{Probe}
use Rattle.vcd_read.specs.declared.samples.Samples.{Samples}
use Rattle.vcd_read.specs.declared.wire.Wire.{Wire}
use Rattle.vcd_read.proofs.WireLemmas.{kept-at}

-- ---- one stream after another

-- a stream that makes a row is passed
pub not_bit-next : (words : Words) (cycle stream : ℕ) (probes : List Probe) (probe : Probe) → stream < length probes
    → probe ≡ get_or probes stream probe → makes_row probe.params (sample_by words probe) ≡ true
    → probe_not_bit words cycle stream (drop stream probes) ≡ probe_not_bit words cycle (suc stream) (drop (suc stream) probes)
not_bit-next words cycle stream probes probe within is makes =
    ap (probe_not_bit words cycle stream) (drop-cons probes stream probe within ∙ ap (λ (x : Probe). x ∷ drop (suc stream) probes) (sym is))
    ∙ ap (λ test. if test then probe_not_bit words cycle (suc stream) (drop (suc stream) probes) else Some (record { cycle = cycle; stream = stream })) makes

-- a stream that makes no row is the first
pub not_bit-here : (words : Words) (cycle stream : ℕ) (probes : List Probe) (probe : Probe) → stream < length probes
    → probe ≡ get_or probes stream probe → makes_row probe.params (sample_by words probe) ≡ false
    → probe_not_bit words cycle stream (drop stream probes) ≡ Some (record { cycle = cycle; stream = stream })
not_bit-here words cycle stream probes probe within is makes =
    ap (probe_not_bit words cycle stream) (drop-cons probes stream probe within ∙ ap (λ (x : Probe). x ∷ drop (suc stream) probes) (sym is))
    ∙ ap (λ test. if test then probe_not_bit words cycle (suc stream) (drop (suc stream) probes) else Some (record { cycle = cycle; stream = stream })) makes

-- the text of one stream more
pub texts-next : (words : Words) (stream : ℕ) (probes : List Probe) (probe : Probe) (text : List ℕ) → stream < length probes
    → probe ≡ get_or probes stream probe
    → (text ++ flat_map (text_by words) (take stream probes)) ++ text_by words probe ≡ text ++ flat_map (text_by words) (take (suc stream) probes)
texts-next words stream probes probe text within is =
    append_assoc text (flat_map (text_by words) (take stream probes)) (text_by words probe)
    ∙ ap (λ (l : List ℕ). text ++ l)
    (ap (λ (l : List ℕ). flat_map (text_by words) (take stream probes) ++ l) (sym (append-nil (text_by words probe)))
    ∙ sym (flat_map-append (text_by words) (take stream probes) (probe ∷ []))
    ∙ ap (flat_map (text_by words)) (sym (take-next ∙ ap (λ (x : Probe). take stream probes ++ x ∷ []) (sym is))))
  where
    take-next : take (suc stream) probes ≡ take stream probes ++ get_or probes stream probe ∷ []
    take-next = ap (λ n. take n probes) (let e : suc stream ≡ stream + 1 = omega arith in e) ∙ take_more probes stream probe within

-- ---- the streams by their codes

module _ (kept : List (List ℕ)) (all : List Wire) (block : ℕ) (parts : List Part) (are : AreWires kept all block parts) (codes : Codes) where
  abbrev words : Words
  words number = before_of (slice_get all number) block

  abbrev before : List Part
  before = before_block parts

  -- the word of a code that has a number
  word-is : (code : List ℕ) (number : ℕ) → number_of kept code ≡ Some number → words number ≡ word_at code before
  word-is code number at = let has = kept-at kept all block number code parts are at in ap (λ (o : Option Wire). before_of o block) has.1.0 ∙ has.1.1.earlier

  wide-either : (width : ℕ) (wire : Wire) (test : Bool) → IsWide width wire.earlier → IsWide width wire.current
      → IsWide width (if test then wire.earlier else wire.current)
  wide-either width wire true earlier current = earlier
  wide-either width wire false earlier current = current

  word-wide : (code : List ℕ) (number width : ℕ) → number_of kept code ≡ Some number → declared_width code parts ≡ Some width → IsWide width (words number)
  word-wide code number width at wide =
      let has = kept-at kept all block number code parts are at in
      let same : has.0.width ≡ width = let e = sym has.1.1.width ∙ wide in cc in
      subst (IsWide width) (sym (ap (λ (o : Option Wire). before_of o block) has.1.0))
      (subst (λ n. IsWide n (word_before has.0 block)) same (wide-either has.0.width has.0 (has.0.block == block) has.1.1.earlier_wide has.1.1.current_wide))

  module _ (head : Head) (probe : Probe) (is : IsProbe kept (widths_in parts) codes head probe) (absent : (signal : Signal)
      → is_present head.params signal ≡ false → codes head signal ≡ None) where
    sample-one : (signal : Signal) (number : Option ℕ) → IsContact kept (widths_in parts) codes head signal number
        → word_by words number ≡ word_of_code before (codes head signal)
    unfolding word_by word_of_code
    sample-one signal None contact = sym (ap (word_of_code before) (absent signal contact))
    sample-one signal (Some n) contact =
        word-is contact.1.number_is.code n contact.1.number_is.numbered ∙ sym (ap (word_of_code before) contact.1.number_is.found_is)

    pub sample-same : sample_by words probe ≡ sample_at codes head before
    sample-same = fun_ext (λ signal. sample-one signal (number_in probe signal) (is.contacts signal))

    probed-one : (signal : Signal) (number : Option ℕ) → IsContact kept (widths_in parts) codes head signal number
        → is_some number ≡ is_present head.params signal
    probed-one signal None contact = sym contact
    probed-one signal (Some n) contact = sym contact.0

    fits-one : (signal : Signal) (number : Option ℕ) → IsContact kept (widths_in parts) codes head signal number
        → IfSome (word_by words number) (λ bits. length bits ≡ bits_of_signal head.params signal)
    unfolding word_by
    fits-one signal None contact = tt
    fits-one signal (Some n) contact =
        let one : contact.1.number_is.code ≡ contact.1.code = let e = sym contact.1.number_is.found_is ∙ contact.1.found_is in cc in
        word-wide contact.1.code n (bits_of_signal head.params signal) (subst (λ (c : List ℕ). number_of kept c ≡ Some n) one contact.1.number_is.numbered)
        contact.1.wide

    pub can-sample : CanSample words probe
    can-sample = record {
      probed = λ signal. probed-one signal (number_in probe signal) (is.contacts signal) ∙ ap (λ (q : Parameters). is_present q signal) (sym is.params);
      fits = λ signal. subst (λ (q : Parameters). IfSome (sample_by words probe signal) (λ bits. length bits ≡ bits_of_signal q signal)) (sym is.params)
          (fits-one signal (number_in probe signal) (is.contacts signal));
    }

    text-same : text_by words probe ≡ row_text head.params (row_of head.params (sample_at codes head before))
    text-same = λ i. row_text (is.params i) (row_of (is.params i) (sample-same i))

    makes-same : makes_row probe.params (sample_by words probe) ≡ makes_row head.params (sample_at codes head before)
    makes-same = λ i. makes_row (is.params i) (sample-same i)

  module _ (absent : (head : Head) (signal : Signal) → is_present head.params signal ≡ false → codes head signal ≡ None) where
    -- each stream can be sampled
    pub all-sample : (heads : List Head) (probes : List Probe) → AreProbes kept (widths_in parts) codes heads probes → All (CanSample words) probes
    all-sample [] [] each = λ k d less. absurd (omega (arith, less))
    all-sample [] (probe ∷ probes) each = absurd each
    all-sample (head ∷ heads) [] each = absurd each
    all-sample (head ∷ heads) (probe ∷ probes) each = by (can-sample head probe each.0 (absent head)) (all-sample heads probes each.1)
      where
        by : CanSample words probe → All (CanSample words) probes → All (CanSample words) (probe ∷ probes)
        by first rest zero d less = first
        by first rest (suc k) d less = rest k d (omega (arith, less))

    -- the text of an edge
    pub texts-same : (heads : List Head) (probes : List Probe) → AreProbes kept (widths_in parts) codes heads probes
        → flat_map (text_by words) probes ≡ edge_text codes heads before
    texts-same [] [] each = refl
    texts-same [] (probe ∷ probes) each = absurd each
    texts-same (head ∷ heads) [] each = absurd each
    texts-same (head ∷ heads) (probe ∷ probes) each = λ i. text-same head probe each.0 (absent head) i ++ texts-same heads probes each.1 i

    -- the first stream that is not of bits
    pub places-same : (cycle stream : ℕ) (heads : List Head) (probes : List Probe) → AreProbes kept (widths_in parts) codes heads probes
        → probe_not_bit words cycle stream probes ≡ stream_not_bit codes cycle stream heads before
    places-same cycle stream [] [] each = refl
    places-same cycle stream [] (probe ∷ probes) each = absurd each
    places-same cycle stream (head ∷ heads) [] each = absurd each
    places-same cycle stream (head ∷ heads) (probe ∷ probes) each =
        λ i. if makes-same head probe each.0 (absent head) i then places-same cycle (suc stream) heads probes each.1 i else Some (record {
          cycle = cycle;
          stream = stream;
        })

    -- ---- one edge more

    not_bit-more : (heads : List Head) (cycle : ℕ) (rising : List (List Part)) → not_bit codes heads cycle (rising ++ before ∷ []) ≡ option_or (not_bit codes
        heads cycle rising) (stream_not_bit codes (cycle + length rising) 0 heads before)
    not_bit-more heads cycle [] = last (stream_not_bit codes cycle 0 heads before) ∙ ap (λ n. stream_not_bit codes n 0 heads before)
        (let e : cycle ≡ cycle + 0 = omega arith in e)
      where
        last : (o : Option Place) → option_or o None ≡ o
        last None = refl
        last (Some place) = refl
    not_bit-more heads cycle (first ∷ rising) =
        ap (option_or (stream_not_bit codes cycle 0 heads first)) (not_bit-more heads (suc cycle) rising
        ∙ ap (λ n. option_or (not_bit codes heads (suc cycle) rising) (stream_not_bit codes n 0 heads before))
        (let e : suc cycle + length rising ≡ cycle + suc (length rising) = omega arith in e))
        ∙ sym (assoc (stream_not_bit codes cycle 0 heads first) (not_bit codes heads (suc cycle) rising)
        (stream_not_bit codes (cycle + suc (length rising)) 0 heads before))
      where
        assoc : (a b c : Option Place) → option_or (option_or a b) c ≡ option_or a (option_or b c)
        assoc None b c = refl
        assoc (Some place) b c = refl

    -- the same, of all edges
    whole-is : (heads : List Head) (rising : List (List Part)) → not_bit codes heads 0 (rising ++ before ∷ []) ≡ option_or (not_bit codes heads 0 rising)
        (stream_not_bit codes (length rising) 0 heads before)
    whole-is heads rising =
        not_bit-more heads 0 rising
        ∙ ap (λ n. option_or (not_bit codes heads 0 rising) (stream_not_bit codes n 0 heads before))
        (let e : 0 + length rising ≡ length rising = omega arith in e)

    module _ (heads : List Head) (probes : List Probe) (each : AreProbes kept (widths_in parts) codes heads probes) (rising : List (List Part))
        (old new : Samples) (stands : AreSamples codes heads rising old) (adds : AddsEdge words probes old new) where
      grown : length (rising ++ before ∷ []) ≡ length rising + 1
      grown = length-append rising (before ∷ [])

      -- by what was found before, and at this edge
      first-is : (found : Option Place) → old.not_bit ≡ found → length rising < most_cycles → old.cycles ≡ length rising
          → new.not_bit ≡ option_or found (stream_not_bit codes (length rising) 0 heads before)
      first-is (Some place) is few count = adds.stays place (omega (arith, few, count)) is
      first-is None is few count =
          by new.not_bit (adds.rows (omega (arith, few, count)) is) ∙ places-same old.cycles 0 heads probes each
          ∙ ap (λ n. stream_not_bit codes n 0 heads before) count
        where
          by : (found : Option Place) → WritesRows words old.cycles probes old.rows new.rows found → found ≡ probe_not_bit words old.cycles 0 probes
          by None writes = sym writes.0
          by (Some place) writes = sym writes

      or-none : (one other : Option Place) → option_or one other ≡ None → (one ≡ None) × (other ≡ None)
      or-none None other is = (refl, is)
      or-none (Some place) other is = absurd (let e = is in cc)

      rows-are : length rising < most_cycles → old.cycles ≡ length rising → option_or (not_bit codes heads 0 rising)
          (stream_not_bit codes (length rising) 0 heads before) ≡ None
          → IsKept new.rows (flat_map (edge_text codes heads) (rising ++ before ∷ []))
      rows-are few count none =
          let both = or-none (not_bit codes heads 0 rising) (stream_not_bit codes (length rising) 0 heads before) none in
          let was : old.not_bit ≡ None = stands.first (omega (arith, few)) ∙ both.0 in
          let now : new.not_bit ≡ None = first-is None was few count ∙ both.1 in
          let writes : WritesRows words old.cycles probes old.rows new.rows None = subst (WritesRows words old.cycles probes old.rows new.rows) now
          (adds.rows (omega (arith, few, count)) was) in
          subst (IsKept new.rows)
          (ap (λ (l : List ℕ). flat_map (edge_text codes heads) rising ++ l) (texts-same heads probes each
          ∙ sym (append-nil (edge_text codes heads before))) ∙ sym (flat_map-append (edge_text codes heads) rising (before ∷ [])))
          (writes.1 (flat_map (edge_text codes heads) rising) (stands.rows (omega (arith, few)) both.0))

      pub edge-more : AreSamples codes heads (rising ++ before ∷ []) new
      edge-more = record {
        many = λ few. let count = stands.many (omega (arith, few, grown)) in adds.many (omega (arith, few, grown, count)) ∙ ap (λ n. n + 1) count ∙ sym grown;
        over = λ past. over-by past;
        first = λ few. first-is (not_bit codes heads 0 rising) (stands.first (omega (arith, few, grown))) (omega (arith, few, grown))
            (stands.many (omega (arith, few, grown))) ∙ sym (whole-is heads rising);
        rows = λ few none. rows-are (omega (arith, few, grown)) (stands.many (omega (arith, few, grown))) (sym (whole-is heads rising) ∙ none);
      }
        where
          over-by : most_cycles < length (rising ++ before ∷ []) → new.cycles ≡ most_cycles + 1
          over-by past = by (cases_le (length rising) most_cycles)
            where
              cases_le : (n m : ℕ) → (n ≤ m) ⊎ (m < n)
              cases_le n m = grind (arith, nat_tests)

              by : (length rising ≤ most_cycles) ⊎ (most_cycles < length rising) → new.cycles ≡ most_cycles + 1
              by (inl few) = let count = stands.many few in let one = adds.many (omega (arith, few, count)) in omega (arith, past, grown, count, few, one)
              by (inr much) = let count = stands.over much in let same = adds.full (omega (arith, count)) in same ∙ count

-- ---- the text of all rows

-- the rows of one edge
rows-text-edge : (heads : List Head) (row : Head → Cycle) (streams : List Parameters) (rest : List Cycle)
    → rows_text (params_of_heads heads ++ streams) (map row heads ++ rest) ≡ flat_map (λ head. row_text head.params (row head)) heads ++ rows_text streams
    rest
rows-text-edge [] row streams rest = refl
rows-text-edge (head ∷ heads) row streams rest =
    ap (λ (l : List ℕ). row_text head.params (row head) ++ l) (rows-text-edge heads row streams rest)
    ∙ sym (append_assoc (row_text head.params (row head)) (flat_map (λ head. row_text head.params (row head)) heads) (rows_text streams rest))

pub rows-text-all : (codes : Codes) (heads : List Head) (rising : List (List Part)) → rows_text (owed (params_of_heads heads) (length rising))
    (flat_map (rows_at codes heads) rising) ≡ flat_map (edge_text codes heads) rising
rows-text-all codes heads [] = refl
rows-text-all codes heads (before ∷ rising) =
    rows-text-edge heads (λ head. row_of head.params (sample_at codes head before)) (owed (params_of_heads heads) (length rising))
    (flat_map (rows_at codes heads) rising)
    ∙ ap (λ (l : List ℕ). edge_text codes heads before ++ l) (rows-text-all codes heads rising)
