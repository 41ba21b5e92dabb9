-- Traces that are carried: what arrives.
use Rattle.std.proofs.Common.{◌≡◌, ◌∙◌, ℕ, zero, suc, ◌+◌, ◌*◌, ◌≤◌, true, ◌&&◌, nat_le, List, [], ◌∷◌, ◌++◌, map, length, Some, refl, sym, ap, subst, arith}
use Rattle.std.specs.List.{slice_get}
use Rattle.std.specs.Option.{option_to_list}
use Rattle.tydi_base.specs.Level.{number_of}
use Rattle.tydi_base.specs.Path.{path_text}
use Rattle.tydi_base.proofs.LevelOrder.{numbers_rise}
use Rattle.physical_stream.specs.Cycles.{StreamTrace, done_in}
use Rattle.physical_stream.specs.Ending.{ending_of}
use Rattle.physical_stream.specs.Items.{items_of_all, parts_below}
use Rattle.physical_stream.specs.Levels.{at_level}
use Rattle.physical_stream.specs.Params.{Parameters}
use Rattle.physical_stream.specs.Signals.{Shows}
use Rattle.physical_stream.specs.declared.head.Head.{Head}
use Rattle.physical_stream.specs.declared.transfer.Transfer.{Transfer}
use Rattle.physical_stream.proofs.LevelLemmas.{transfers_rise}
use Rattle.complexity_rules.specs.Levels as levels
use Rattle.complexity_rules.proofs.LevelLemmas.{at_most_is_raised, ending_stays, offences_fall}
use Rattle.cycle_trace.specs.Survey.{first_unfinished, or_unfinished}
use Rattle.cycle_trace.specs.Trace.{TraceText, all_distinct, are_heads, cycles_of_stream, owed, params_of_heads, streams_of}
use Rattle.cycle_trace.proofs.RowsLemmas.{length-owed_heads}
use Rattle.cycle_trace.proofs.StreamLemmas.{head_at, length-streams, stream_with}
use Rattle.link_check.specs.Carry.{AreAlike, LevelsRise, carried}
use Rattle.link_check.specs.CarryLaws.{CarriedEndingsStay, CarriedStreamsRise, CarriedStreamsStay, CarriedTracesStand, CarriedTracesStayLegal}

-- ---- heads and parameters

pub alike-tail : (one other : Head) (from to : List Head) → AreAlike (one ∷ from) (other ∷ to) → AreAlike from to
alike-tail one other from to alike = record { many = omega (arith, alike.many); each = λ stream a b here there. alike.each (suc stream) a b here there }

pub rise-tail : (one other : Head) (from to : List Head) → LevelsRise (one ∷ from) (other ∷ to) → LevelsRise from to
rise-tail one other from to rise = λ stream a b here there. rise (suc stream) a b here there

abbrev path_of : Head → List ℕ
path_of head = path_text head.path

same-paths : (from to : List Head) → AreAlike from to → map path_of to ≡ map path_of from
same-paths [] [] alike = refl
same-paths [] (other ∷ to) alike = absurd (omega (arith, alike.many))
same-paths (one ∷ from) [] alike = absurd (omega (arith, alike.many))
same-paths (one ∷ from) (other ∷ to) alike =
    ap (λ l. path_of other ∷ l) (same-paths from to (alike-tail one other from to alike)) ∙ ap (λ (p : List (List ℕ)). path_text p ∷ map path_of from) (alike.each 0 one other refl refl).path

pub same-heads : (from to : List Head) → AreAlike from to → are_heads from ≡ true → are_heads to ≡ true
same-heads from to alike are =
    ap (λ n. nat_le n 65536 && all_distinct (map path_of to)) alike.many ∙ ap (λ l. nat_le (length from) 65536 && all_distinct l) (same-paths from to alike) ∙ are

-- a stream at a level whose first number is not lower
abbrev pub Rises : Parameters → Parameters → Type 0
Rises low high = (high ≡ at_level high.level low) × (number_of low.level ≤ number_of high.level)

abbrev pub AllRise : (lows highs : List Parameters) → Type 0
AllRise [] [] = Unit {0}
AllRise (low ∷ lows) (high ∷ highs) = Rises low high × AllRise lows highs
AllRise lows highs = ⊥

pub heads-rise : (from to : List Head) → AreAlike from to → LevelsRise from to → AllRise (params_of_heads from) (params_of_heads to)
heads-rise [] [] alike rise = tt
heads-rise [] (other ∷ to) alike rise = absurd (omega (arith, alike.many))
heads-rise (one ∷ from) [] alike rise = absurd (omega (arith, alike.many))
heads-rise (one ∷ from) (other ∷ to) alike rise = (
  ((alike.each 0 one other refl refl).params, numbers_rise one.params.level other.params.level (rise 0 one other refl refl)),
  heads-rise from to (alike-tail one other from to alike) (rise-tail one other from to rise),
)

AllRise-append : (a b c d : List Parameters) → AllRise a b → AllRise c d → AllRise (a ++ c) (b ++ d)
AllRise-append [] [] c d front back = back
AllRise-append [] (q ∷ b) c d front back = absurd front
AllRise-append (p ∷ a) [] c d front back = absurd front
AllRise-append (p ∷ a) (q ∷ b) c d front back = (front.0, AllRise-append a b c d front.1 back)

pub AllRise-owed : (lows highs : List Parameters) (cycles : ℕ) → AllRise lows highs → AllRise (owed lows cycles) (owed highs cycles)
AllRise-owed lows highs zero rise = tt
AllRise-owed lows highs (suc cycles) rise = AllRise-append lows highs (owed lows cycles) (owed highs cycles) rise (AllRise-owed lows highs cycles rise)

pub below-at : (lows highs : List Parameters) (i : ℕ) (high : Parameters) → AllRise lows highs → slice_get highs i ≡ Some high → (low : Parameters) × (slice_get lows i ≡ Some low) × Rises low high
below-at [] [] i high rise there = absurd cc
below-at [] (q ∷ highs) i high rise there = absurd rise
below-at (p ∷ lows) [] i high rise there = absurd rise
below-at (p ∷ lows) (q ∷ highs) zero high rise there = let same : q ≡ high = cc in (p, refl, subst (λ (h : Parameters). Rises p h) same rise.0)
below-at (p ∷ lows) (q ∷ highs) (suc i) high rise there = below-at lows highs i high rise.1 there

pub above-at : (lows highs : List Parameters) (i : ℕ) (low : Parameters) → AllRise lows highs → slice_get lows i ≡ Some low → (high : Parameters) × (slice_get highs i ≡ Some high) × Rises low high
above-at [] [] i low rise there = absurd cc
above-at [] (q ∷ highs) i low rise there = absurd rise
above-at (p ∷ lows) [] i low rise there = absurd rise
above-at (p ∷ lows) (q ∷ highs) zero low rise there = let same : p ≡ low = cc in (q, refl, subst (λ (l : Parameters). Rises l q) same rise.0)
above-at (p ∷ lows) (q ∷ highs) (suc i) low rise there = above-at lows highs i low rise.1 there

pub shows-above : (low high : Parameters) (t : Transfer) → Rises low high → Shows low t → Shows high t
shows-above low high t rise shows = subst (λ (p : Parameters). Shows p t) (sym rise.0) (transfers_rise low high.level t rise.1 shows)

-- ---- the trace

pub traces_stand : CarriedTracesStand
traces_stand t heads can = record {
  few_cycles = can.trace.few_cycles;
  streams = same-heads t.heads heads can.alike can.trace.streams;
  shown = record {
    many = can.trace.shown.many ∙ length-owed_heads t ∙ ap (λ n. t.cycles * n) (sym can.alike.many) ∙ sym (length-owed_heads (carried heads t));
    each = λ i p row s there here shown.
        let found = below-at (owed (params_of_heads t.heads) t.cycles) (owed (params_of_heads heads) t.cycles) i p
        (AllRise-owed (params_of_heads t.heads) (params_of_heads heads) t.cycles (heads-rise t.heads heads can.alike can.rise)) there in
        shows-above found.0 p s found.2 (can.trace.shown.each i found.0 row s found.1 here shown);
  };
}

-- ---- its streams

same-cycles : (t : TraceText) (heads : List Head) (stream : ℕ) → length heads ≡ length t.heads → cycles_of_stream (carried heads t) stream ≡ cycles_of_stream t stream
same-cycles t heads stream many = ap (λ n. parts_below (λ cycle. option_to_list (slice_get t.rows (cycle * n + stream))) t.cycles) many

pub streams_rise : CarriedStreamsRise
streams_rise t heads can = record {
  many = length-streams (carried heads t) 0 heads ∙ can.alike.many ∙ sym (length-streams t 0 t.heads);
  each = λ stream low high here there.
      let one = head_at t stream low here in
      let other = head_at (carried heads t) stream high there in
      let alike = can.alike.each stream one.0 other.0 one.1 other.1 in
      let raised : levels.IsRaised (stream_with t stream one.0) (stream_with (carried heads t) stream other.0) =
      at_most_is_raised (stream_with t stream one.0) (stream_with (carried heads t) stream other.0) (same-cycles t heads stream can.alike.many) alike.params (can.rise stream one.0 other.0 one.1 other.1) in
      subst (λ (l : StreamTrace). levels.IsRaised l high) (sym one.2) (subst (λ (h : StreamTrace). levels.IsRaised (stream_with t stream one.0) h) (sym other.2) raised);
}

pub streams_stay : CarriedStreamsStay
streams_stay t heads can stream one other here there =
    let raised = (streams_rise t heads can).each stream one other here there in
    record {
      cycles = raised.cycles;
      items = λ now. ap (λ (p : Parameters). items_of_all p (done_in now)) raised.params;
      ending = ending_stays one other raised;
    }

pub traces_stay_legal : CarriedTracesStayLegal
traces_stay_legal t heads can legal = λ o offends. legal o (offences_fall (streams_of t) (streams_of (carried heads t)) o (streams_rise t heads can) offends)

unfinished-stay : (from to : List StreamTrace) (stream : ℕ) → levels.AreRaised from to → first_unfinished stream to ≡ first_unfinished stream from
unfinished-stay [] [] stream raised = refl
unfinished-stay [] (high ∷ to) stream raised = absurd (omega (arith, raised.many))
unfinished-stay (low ∷ from) [] stream raised = absurd (omega (arith, raised.many))
unfinished-stay (low ∷ from) (high ∷ to) stream raised =
    ap (λ e. or_unfinished stream e (first_unfinished (suc stream) to)) (ending_stays low high (raised.each 0 low high refl refl))
    ∙ ap (or_unfinished stream (ending_of low.params low.cycles)) (unfinished-stay from to (suc stream) (record { many = omega (arith, raised.many); each = λ i l h here there. raised.each (suc i) l h here there }))

pub endings_stay : CarriedEndingsStay
endings_stay t heads can = unfinished-stay (streams_of t) (streams_of (carried heads t)) 0 (streams_rise t heads can)
