-- What a chain keeps when a component acts.
use Rattle.std.proofs.Common.{◌≡◌, ◌∙◌, ℕ, suc, ◌+◌, ◌%◌, ◌<◌, ◌≤◌, Bool, true, false, if◌then◌else◌, List, ◌∷◌, length, get_or, slice_index, slice_set, Option, refl, sym, ap, subst, arith}
use Rattle.std.proofs.lemmas.List.{get_or-set_same, get_or-set_other, get_or_read}
use Rattle.physical_stream.specs.Params.{Parameters}
use Rattle.physical_stream.specs.declared.item.Tail.{Tail}
use Rattle.physical_stream.specs.declared.transfer.Transfer.{Transfer}
use Rattle.complexity_rules.specs.Pauses.{pauses_after}
use Rattle.handshake.specs.Feed.{Feeds}
use Rattle.handshake.specs.Kept.{gap_at}
use Rattle.handshake.specs.Run.{gap_of}
use Rattle.elastic_net.specs.Orders.{how_many}
use Rattle.elastic_net.specs.States.{ChainState, beyond, moved_on}
use Rattle.elastic_net.specs.Standing.{KeepsChain, KeepsNumbers, source_cycle}
use Rattle.elastic_net.proofs.NumberLemmas.{Compared, above, below, same, compared, beyond-moved, beyond-other, beyond-split, falling-moved, length-moved_on, reached}
use Rattle.elastic_net.proofs.RingLemmas.{ring-filled}

-- ---- the numbers once a component has moved a transfer on

pub beyond-grows : (top i j : ℕ) (numbers : List ℕ) → beyond i numbers < reached i numbers → ((i ≡ j) → beyond j (moved_on i numbers) ≡ suc (beyond j numbers)) → beyond j numbers ≤ beyond j (moved_on i numbers)
beyond-grows top i j numbers some here = by_order (compared j i)
  where
    by_order : Compared j i → beyond j numbers ≤ beyond j (moved_on i numbers)
    by_order (below less) = omega (arith, beyond-other i j numbers (λ is. omega arith))
    by_order (same is) = omega (arith, here (sym is))
    by_order (above more) = omega (arith, beyond-other i j numbers (λ is. omega arith))

module _ (stages : List ℕ) (ts : List Transfer) (numbers past : List ℕ) (k : KeepsNumbers stages ts numbers past) (component : ℕ) (some : beyond component numbers < reached component numbers) where
  pub moved-here : beyond component (moved_on component numbers) ≡ suc (beyond component numbers)
  moved-here = beyond-moved (suc (length stages)) component numbers k.falling some

  pub moved-same : (j : ℕ) → component ≡ j → beyond j (moved_on component numbers) ≡ suc (beyond j numbers)
  moved-same j is = subst (λ (n : ℕ). beyond n (moved_on component numbers) ≡ suc (beyond n numbers)) is moved-here

  pub moved-grows : (j : ℕ) → beyond j numbers ≤ beyond j (moved_on component numbers)
  moved-grows j = beyond-grows 0 component j numbers some (moved-same j)

  moved-room : (component < length stages → how_many (suc component) numbers < slice_index stages component) → (stage : ℕ) → stage < length stages → how_many (suc stage) (moved_on component numbers) ≤ slice_index stages stage
  moved-room free stage less = by_order (compared stage component)
    where
      now : beyond stage (moved_on component numbers) ≡ how_many (suc stage) (moved_on component numbers) + beyond (suc stage) (moved_on component numbers)
      now = beyond-split stage (moved_on component numbers)

      was : beyond stage numbers ≡ how_many (suc stage) numbers + beyond (suc stage) numbers
      was = beyond-split stage numbers

      by_order : Compared stage component → how_many (suc stage) (moved_on component numbers) ≤ slice_index stages stage
      by_order (below lower) = omega (arith, now, was, k.room stage less, beyond-other component stage numbers (λ is. omega arith), moved-grows (suc stage))
      by_order (above more) = omega (arith, now, was, k.room stage less, beyond-other component stage numbers (λ is. omega arith), beyond-other component (suc stage) numbers (λ is. omega arith))
      by_order (same is) =
          let room : how_many (suc stage) numbers < slice_index stages stage =
          subst (λ (n : ℕ). n < length stages → how_many (suc n) numbers < slice_index stages n) (sym is) free less in
          omega (arith, now, was, room, moved-same stage (sym is), beyond-other component (suc stage) numbers (λ at. omega (arith, at, is)))

  pub numbers-moved : (later : List ℕ) → component ≤ length stages → length past ≡ suc (length stages) → (component < length stages → how_many (suc component) numbers < slice_index stages component) →
      later ≡ slice_set past component (suc (beyond component numbers)) → KeepsNumbers stages ts (moved_on component numbers) later
  numbers-moved later within long free is = record {
    many = length-moved_on component numbers ∙ k.many;
    falling = falling-moved (suc (length stages)) component numbers (omega (arith, within)) k.falling;
    room = moved-room free;
    counts = λ j upto. ap (λ (l : List ℕ). slice_index l j) is ∙ by_order j upto (compared j component);
  }
    where
      by_order : (j : ℕ) → j ≤ length stages → Compared j component → slice_index (slice_set past component (suc (beyond component numbers))) j ≡ beyond j (moved_on component numbers)
      by_order j upto (below less) = get_or-set_other past component j (suc (beyond component numbers)) 0 (λ at. omega (arith, at, less)) ∙ k.counts j upto ∙ sym (beyond-other component j numbers (λ at. omega (arith, at, less)))
      by_order j upto (above more) = get_or-set_other past component j (suc (beyond component numbers)) 0 (λ at. omega (arith, at, more)) ∙ k.counts j upto ∙ sym (beyond-other component j numbers (λ at. omega (arith, at, more)))
      by_order j upto (same at) =
          subst (λ (n : ℕ). slice_index (slice_set past component (suc (beyond component numbers))) n ≡ beyond n (moved_on component numbers)) (sym at)
          (get_or-set_same past component (suc (beyond component numbers)) 0 (omega (arith, within, long)) ∙ sym moved-here)

-- ---- the source takes its next transfer from the feed

module _ (p : Parameters) (ts : List Transfer) (gaps stages : List ℕ) (s : ChainState) (past : List ℕ) (places rest : List Transfer) (pause : ℕ) (tail : Option Tail) (total : ℕ) where
  gap-found : KeepsChain p ts gaps stages s past false places rest pause tail total → (found first : ℕ) → first ≡ beyond 0 s.numbers → found ≡ gap_at p gaps first tail → found ≡ gap_of p ts gaps (beyond 0 s.numbers)
  gap-found k found first at is =
      is ∙ ap (λ (n : ℕ). gap_at p gaps n tail) at
      ∙ ap (λ (t : Option Tail). if pauses_after p t then slice_index gaps (beyond 0 s.numbers) else 0) k.source.tail_is

  pub filled : KeepsChain p ts gaps stages s past false places rest pause tail total → (into : Transfer) (new : List Transfer) (slot first found : ℕ) → rest ≡ into ∷ new → first ≡ beyond 0 s.numbers →
      slot ≡ first % length places → slot < length places → found ≡ gap_at p gaps first tail → KeepsChain p ts gaps stages s past true (slice_set places slot into) new found tail total
  filled k into new slot first found fed at slot_is within is =
      let gap : found ≡ gap_of p ts gaps (beyond 0 s.numbers) = gap-found k found first at is in
      let some : 0 < length rest = omega (arith, ap length fed) in
      let start : s.start ≡ source_cycle s = k.source.fresh refl some in
      record {
        numbers = k.numbers;
        ring = ring-filled stages ts s.numbers past places rest new into slot k.numbers k.ring fed (slot_is ∙ ap (λ (n : ℕ). n % length places) at) within;
        source = record {
          tail_is = k.source.tail_is;
          gap = λ sure. omega (arith, gap, start);
          fresh = λ no. cc;
        };
        all = k.all;
        few = k.few;
      }

  -- the same, as the code has it
  pub filled_now : (holds result : Bool) (at0 slot found : ℕ) (held into : Transfer) (new : List Transfer) → KeepsChain p ts gaps stages s past holds places rest pause tail total → length past ≡ suc (length stages) →
      holds ≡ false → result ≡ true → at0 ≡ get_or past 0 at0 → slot ≡ at0 % length places → slot < length places → Feeds rest new held into result → found ≡ gap_at p gaps (slice_index past 0) tail →
      KeepsChain p ts gaps stages s past result (slice_set places slot into) new found tail total
  filled_now holds result at0 slot found held into new k long free sure read slot_is within fed is =
      let kept : KeepsChain p ts gaps stages s past false places rest pause tail total = subst (λ (b : Bool). KeepsChain p ts gaps stages s past b places rest pause tail total) free k in
      let first : slice_index past 0 ≡ beyond 0 s.numbers = kept.numbers.counts 0 (omega arith) in
      let first_is : at0 ≡ slice_index past 0 = get_or_read past 0 at0 (omega (arith, long)) read 0 in
      let feeds : Feeds rest new held into true = subst (λ (b : Bool). Feeds rest new held into b) sure fed in
      subst (λ (b : Bool). KeepsChain p ts gaps stages s past b (slice_set places slot into) new found tail total) (sym sure)
      (filled kept into new slot (slice_index past 0) found feeds first (slot_is ∙ ap (λ (n : ℕ). n % length places) first_is) within is)
