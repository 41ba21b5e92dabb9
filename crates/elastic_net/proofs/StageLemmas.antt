-- What a chain keeps when a stage acts, and what the stage shows.
use Rattle.std.proofs.Common.{◌≡◌, ◌∙◌, ℕ, suc, ◌+◌, ◌-◌, ◌<◌, ◌≤◌, ◌==◌, ◌&&◌, Bool, true, false, nat_lt, if◌then◌else◌, List, length, take, slice_get, slice_index, slice_set, Option, None, is_some, refl, sym, ap, subst, arith}
use Rattle.physical_stream.specs.Params.{Parameters}
use Rattle.physical_stream.specs.Items.{items_of_all}
use Rattle.physical_stream.specs.Shape.{tail_of}
use Rattle.physical_stream.specs.declared.item.Tail.{Tail}
use Rattle.physical_stream.specs.declared.transfer.Transfer.{Transfer}
use Rattle.handshake.specs.Run.{gap_of}
use Rattle.elastic_net.specs.Orders.{how_many}
use Rattle.elastic_net.specs.States.{ChainState, act_of, beyond, does_move, moved_on, shown_by}
use Rattle.elastic_net.specs.Standing.{KeepsChain, KeepsSource, source_cycle}
use Rattle.elastic_net.proofs.NumberLemmas.{beyond-within, first_of-is, lt_no, lt_yes, many-same, same_no}
use Rattle.elastic_net.proofs.ActLemmas.{moved-grows, numbers-moved}
use Rattle.elastic_net.proofs.NumberLemmas.{beyond-other}
use Rattle.elastic_net.proofs.RingLemmas.{ring-kept}
use Rattle.elastic_net.proofs.SourceLemmas.{act_as, got-within}

module _ (p : Parameters) (ts : List Transfer) (gaps stages : List ℕ) (s : ChainState) (past : List ℕ) (holds : Bool) (places rest : List Transfer) (pause : ℕ) (tail : Option Tail) (total : ℕ)
    (k : KeepsChain p ts gaps stages s past holds places rest pause tail total) (stage : ℕ) where
  -- what the stage shows
  pub stage-none : beyond stage s.numbers ≤ beyond (suc stage) s.numbers → shown_by p ts gaps stages (suc stage) s ≡ None
  stage-none none =
      first_of-is (suc stage) (suc (length stages)) ts s.numbers k.numbers.falling k.numbers.many
      ∙ ap (λ (b : Bool). if b then slice_get ts (beyond (suc stage) s.numbers) else None) (lt_no (beyond (suc stage) s.numbers) (beyond stage s.numbers) none)

  pub stage-some : beyond (suc stage) s.numbers < beyond stage s.numbers → shown_by p ts gaps stages (suc stage) s ≡ slice_get ts (beyond (suc stage) s.numbers)
  stage-some some =
      first_of-is (suc stage) (suc (length stages)) ts s.numbers k.numbers.falling k.numbers.many
      ∙ ap (λ (b : Bool). if b then slice_get ts (beyond (suc stage) s.numbers) else None) (lt_yes (beyond (suc stage) s.numbers) (beyond stage s.numbers) some)

  pub stage-there : beyond (suc stage) s.numbers < beyond stage s.numbers → is_some (shown_by p ts gaps stages (suc stage) s) ≡ true
  stage-there some = ap (λ (o : Option Transfer). is_some o) (stage-some some) ∙ got-within ts (beyond (suc stage) s.numbers) (omega (arith, some, beyond-within stage s.numbers, k.numbers.many))

  same_cycle : (moves : Bool) → source_cycle (act_as p ts gaps stages moves (suc stage) s) ≡ source_cycle s
  same_cycle moves = ap (λ (n : ℕ). if nat_lt 0 n then suc s.cycle else s.cycle) (many-same 0 (suc stage) s.acted (λ is. omega arith))

  same_start : (moves : Bool) → (if (suc stage == 0) && moves then suc s.cycle else s.start) ≡ s.start
  same_start moves = ap (λ (b : Bool). if b && moves then suc s.cycle else s.start) (same_no (suc stage) 0 (λ is. omega arith))

  source-still : (moves : Bool) → beyond 0 (act_as p ts gaps stages moves (suc stage) s).numbers ≡ beyond 0 s.numbers → KeepsSource p ts gaps (act_as p ts gaps stages moves (suc stage) s) holds rest pause tail
  source-still moves sent =
      let gap : gap_of p ts gaps (beyond 0 (act_as p ts gaps stages moves (suc stage) s).numbers) ≡ gap_of p ts gaps (beyond 0 s.numbers) = ap (gap_of p ts gaps) sent in
      record {
        tail_is = k.source.tail_is ∙ ap (λ (n : ℕ). tail_of (items_of_all p (take n ts))) (sym sent);
        gap = λ sure. let old : pause ≡ (s.start + gap_of p ts gaps (beyond 0 s.numbers)) - source_cycle s = k.source.gap sure in omega (arith, old, gap, same_start moves, same_cycle moves);
        fresh = λ free some. same_start moves ∙ k.source.fresh free some ∙ sym (same_cycle moves);
      }

  -- the stage moves nothing
  pub stage-idle : (ready : Bool) → does_move p ts gaps stages (suc stage) ready s ≡ false → KeepsChain p ts gaps stages (act_of p ts gaps stages (suc stage) ready s) past holds places rest pause tail total
  stage-idle ready still =
      subst (λ (b : Bool). KeepsChain p ts gaps stages (act_as p ts gaps stages b (suc stage) s) past holds places rest pause tail total) (sym still)
      (record { numbers = k.numbers; ring = k.ring; source = source-still false refl; all = k.all; few = k.few })

  -- the stage moves its first transfer on
  pub stage-moved : (ready : Bool) (later : List ℕ) → does_move p ts gaps stages (suc stage) ready s ≡ true → beyond (suc stage) s.numbers < beyond stage s.numbers → suc stage ≤ length stages →
      length past ≡ suc (length stages) → (suc stage < length stages → how_many (suc (suc stage)) s.numbers < slice_index stages (suc stage)) → later ≡ slice_set past (suc stage) (suc (beyond (suc stage) s.numbers)) →
      KeepsChain p ts gaps stages (act_of p ts gaps stages (suc stage) ready s) later holds places rest pause tail total
  stage-moved ready later moves some within long free is =
      let sent : beyond 0 (moved_on (suc stage) s.numbers) ≡ beyond 0 s.numbers = beyond-other (suc stage) 0 s.numbers (λ at. omega (arith, at)) in
      let grows : beyond (length stages) s.numbers ≤ beyond (length stages) (moved_on (suc stage) s.numbers) = moved-grows stages ts s.numbers past k.numbers (suc stage) some (length stages) in
      subst (λ (b : Bool). KeepsChain p ts gaps stages (act_as p ts gaps stages b (suc stage) s) later holds places rest pause tail total) (sym moves)
      (record {
        numbers = numbers-moved stages ts s.numbers past k.numbers (suc stage) some later within long free is;
        ring = ring-kept stages ts s.numbers (moved_on (suc stage) s.numbers) holds holds places rest k.ring (ap (λ (n : ℕ). if holds then suc n else n) sent) grows;
        source = source-still true sent;
        all = k.all;
        few = k.few;
      })
