-- How many far ready bits a reshaping run needs.
use Rattle.std.proofs.Common.{◌≡◌, ◌∙◌, ℕ, suc, ◌+◌, ◌<◌, ◌≤◌, ◌⊎◌, inl, inr, Bool, true, false, not, ◌==◌, ◌||◌, if◌then◌else◌, List, [], ◌∷◌, ◌++◌, length, map, drop, None, Some, refl, sym, ap, subst, arith}
use Rattle.std.proofs.lemmas.Bool.{cases_lt}
use Rattle.std.proofs.lemmas.Bool.Decides.{nat_tests}
use Rattle.std.proofs.lemmas.List.{length-append, map-append}
use Rattle.physical_stream.specs.Params.{Parameters}
use Rattle.physical_stream.specs.Counts.{transfers_of}
use Rattle.physical_stream.specs.Cycles.{Cycle, done_in, done_of}
use Rattle.physical_stream.specs.declared.item.Item.{Item}
use Rattle.physical_stream.specs.declared.transfer.Transfer.{Transfer}
use Rattle.handshake.specs.Laws.{gaps_below, ones_in}
use Rattle.handshake.specs.Run.{undone}
use Rattle.handshake.proofs.BoundLemmas.{runs_finish}
use Rattle.scheduler.specs.Planned.{Planned}
use Rattle.reshape.specs.Reshaping.{Sides, ends_outermost, fills_lanes, front_of, is_due, is_followed, next_sides, sides_of, undone_far}
use Rattle.reshape_laws.specs.Laws.{CanBeReshaped, ReshapingFinishes, far_plan}
use Rattle.reshape_laws.proofs.SideLemmas.{Goes, after, buffer, coming, done-one, done-same, ended, far-bits, goes-next, goes-run, left-planned, none-to-come, sides-keep}
use Rattle.reshape_laws.proofs.SuffixLemmas.{none-planned}

ones-more : (bits : List Bool) (bit : Bool) → ones_in (bits ++ bit ∷ []) ≡ ones_in bits + ones_in (bit ∷ [])
ones-more [] bit = let none : ones_in (bit ∷ []) ≡ 0 + ones_in (bit ∷ []) = omega arith in none
ones-more (true ∷ bits) bit = omega (arith, ones-more bits bit)
ones-more (false ∷ bits) bit = omega (arith, ones-more bits bit)

one-most : (bit : Bool) → ones_in (bit ∷ []) ≤ 1
one-most true = omega arith
one-most false = omega arith

-- the ready bits of cycles that are 1
abbrev ones_of : List Cycle → ℕ
ones_of cycles = ones_in (map (λ (c : Cycle). c.ready) cycles)

ones_of-more : (cycles : List Cycle) (now : Cycle) → ones_of (cycles ++ now ∷ []) ≡ ones_of cycles + ones_in (now.ready ∷ [])
ones_of-more cycles now = ap ones_in (map-append (λ (c : Cycle). c.ready) cycles (now ∷ [])) ∙ ones-more (map (λ (c : Cycle). c.ready) cycles) now.ready

-- a buffer that is not due once the source has ended is empty
open-empty : (to : Parameters) (buffer : List Item) → is_due to true buffer ≡ false → buffer ≡ []
open-empty to [] open_so = refl
open-empty to (item ∷ more) open_so = absurd (by_tests (is_followed to (item ∷ more)) (ends_outermost to (item ∷ more)) (fills_lanes to (item ∷ more)) open_so)
  where
    by_tests : (a b c : Bool) → (a || b || c || true) ≡ false → ⊥
    by_tests true b c e = cc
    by_tests false true c e = cc
    by_tests false false true e = cc
    by_tests false false false e = cc

module _ (from to : Parameters) (ts : List Transfer) (gaps : List ℕ) where
  abbrev bound : ℕ
  bound = length ts + gaps_below from ts gaps (length ts)

  -- each far ready bit that was 1 did a far transfer, or the near side was ready; and that it was no more often than the source needs, while far transfers are left
  record Paced (sides : Sides) : Type 0 where
    pub ones : ones_of sides.far ≤ transfers_of sides.far + ones_in sides.near
    pub few : (length (far_plan from to ts) ≤ transfers_of sides.far) ⊎ (ones_in sides.near ≤ length ts + gaps_below from ts gaps (length ts))

  module _ (reshaped : CanBeReshaped from to ts) (sides : Sides) (goes : Goes from to ts gaps sides) (paced : Paced sides) where
    abbrev due_here : Bool
    due_here = is_due to (ended from to ts gaps reshaped sides goes) (buffer from to ts gaps reshaped sides goes)

    abbrev front_here : Transfer
    front_here = front_of to (buffer from to ts gaps reshaped sides goes)

    near-ones : (bit : Bool) → ones_in (sides.near ++ bit ∷ []) ≡ ones_in sides.near + ones_in (bit ∷ [])
    near-ones bit = ones-more sides.near bit

    -- while the source has transfers left, the near side was ready less often
    near-few : (undone from ts gaps sides.near == 0) ≡ false → ones_in sides.near < length ts + gaps_below from ts gaps (length ts)
    near-few left = by_place (cases_lt (ones_in sides.near) (length ts + gaps_below from ts gaps (length ts)))
      where
        by_place : (ones_in sides.near < length ts + gaps_below from ts gaps (length ts)) ⊎ (length ts + gaps_below from ts gaps (length ts) ≤ ones_in sides.near) → ones_in sides.near < length ts + gaps_below from ts gaps (length ts)
        by_place (inl less) = less
        by_place (inr more) = let none : undone from ts gaps sides.near ≡ 0 = runs_finish from ts gaps sides.near more in let e : (undone from ts gaps sides.near == 0) ≡ true = grind (arith, nat_tests) in absurd (let clash : true ≡ false = sym e ∙ left in cc)

    -- once the source has ended, a buffer that is not due is empty, and no far transfer is left
    all-done : (test : Bool) → (undone from ts gaps sides.near == 0) ≡ test → test ≡ true → is_due to test (buffer from to ts gaps reshaped sides goes) ≡ false → length (far_plan from to ts) ≤ transfers_of sides.far
    all-done true over is open_so =
        none-planned to (far_plan from to ts) (transfers_of sides.far)
        (subst (λ (l : List Item). Planned to [] [] l (drop (transfers_of sides.far) (far_plan from to ts)))
        (ap (λ (l : List Item). l ++ coming from to ts gaps reshaped sides goes) (open-empty to (buffer from to ts gaps reshaped sides goes) open_so) ∙ none-to-come from ts gaps sides.near over)
        (left-planned from to ts gaps reshaped sides goes))
    all-done false over is open_so = cc

    open-few : due_here ≡ false → (length (far_plan from to ts) ≤ transfers_of sides.far) ⊎ (suc (ones_in sides.near) ≤ length ts + gaps_below from ts gaps (length ts))
    open-few open_so = by_ended (undone from ts gaps sides.near == 0) refl
      where
        by_ended : (test : Bool) → (undone from ts gaps sides.near == 0) ≡ test → (length (far_plan from to ts) ≤ transfers_of sides.far) ⊎ (suc (ones_in sides.near) ≤ length ts + gaps_below from ts gaps (length ts))
        by_ended true over = inl (all-done (undone from ts gaps sides.near == 0) refl over open_so)
        by_ended false left = inr (near-few left)

    pace-open : (bit : Bool) → due_here ≡ false → Paced (after from to ts gaps reshaped sides goes true bit None)
    pace-open bit open_so = record { ones = omega (arith, paced.ones, near-ones true, ones_of-more sides.far now, one-most bit, same); few = by_few (open-few open_so) }
      where
        now : Cycle
        now = record { ready = bit; shown = None }

        none-done : (b : Bool) → done_in (record { ready = b; shown = None }) ≡ []
        none-done true = refl
        none-done false = refl

        same : transfers_of (sides.far ++ now ∷ []) ≡ transfers_of sides.far
        same = ap length (done-same to sides.far now (none-done bit))

        by_few : (length (far_plan from to ts) ≤ transfers_of sides.far) ⊎ (suc (ones_in sides.near) ≤ length ts + gaps_below from ts gaps (length ts)) →
            (length (far_plan from to ts) ≤ transfers_of (sides.far ++ now ∷ [])) ⊎ (ones_in (sides.near ++ true ∷ []) ≤ length ts + gaps_below from ts gaps (length ts))
        by_few (inl all) = inl (omega (arith, all, same))
        by_few (inr less) = inr (omega (arith, less, near-ones true))

    pace-due : (bit : Bool) → Paced (after from to ts gaps reshaped sides goes false bit (Some front_here))
    pace-due bit = record { ones = omega (arith, paced.ones, near-ones false, ones_of-more sides.far now, more bit); few = by_few paced.few }
      where
        now : Cycle
        now = record { ready = bit; shown = Some front_here }

        more : (b : Bool) → transfers_of (sides.far ++ record { ready = b; shown = Some front_here } ∷ []) ≡ transfers_of sides.far + ones_in (b ∷ [])
        more true = ap length (done-one to sides.far (record { ready = true; shown = Some front_here }) front_here refl) ∙ length-append (done_of sides.far) (front_here ∷ [])
        more false = ap length (done-same to sides.far (record { ready = false; shown = Some front_here }) refl) ∙ omega arith

        by_few : (length (far_plan from to ts) ≤ transfers_of sides.far) ⊎ (ones_in sides.near ≤ length ts + gaps_below from ts gaps (length ts)) →
            (length (far_plan from to ts) ≤ transfers_of (sides.far ++ now ∷ [])) ⊎ (ones_in (sides.near ++ false ∷ []) ≤ length ts + gaps_below from ts gaps (length ts))
        by_few (inl all) = inl (omega (arith, all, more bit))
        by_few (inr less) = inr (omega (arith, less, near-ones false))

    pace-next : (bit : Bool) → Paced (next_sides from to ts gaps sides bit)
    pace-next bit = by_due (is_due to (ended from to ts gaps reshaped sides goes) (buffer from to ts gaps reshaped sides goes)) refl
      where
        by_due : (due : Bool) → due_here ≡ due → Paced (after from to ts gaps reshaped sides goes (not due) bit (if due then Some front_here else None))
        by_due false is = pace-open bit is
        by_due true is = pace-due bit

  pace-run : CanBeReshaped from to ts → (ready : List Bool) → Paced (sides_of from to ts gaps ready)
  pace-run reshaped ready =
      let both = sides-keep from to ts gaps (λ sides. Goes from to ts gaps sides × Paced sides) (λ sides bit kept. (goes-next from to ts gaps reshaped sides kept.0 bit, pace-next reshaped sides kept.0 kept.1 bit))
      (record { near = []; far = [] }) ready (goes-run from to ts gaps reshaped [], record { ones = omega arith; few = inr (omega arith) }) in
      both.1

pub reshaping_finishes : ReshapingFinishes
reshaping_finishes from to ts gaps ready reshaped enough = by_few paced.few
  where
    paced : Paced from to ts gaps (sides_of from to ts gaps ready)
    paced = pace-run from to ts gaps reshaped ready

    bits : ones_of (sides_of from to ts gaps ready).far ≡ ones_in ready
    bits = ap ones_in (far-bits from to ts gaps (record { near = []; far = [] }) ready)

    by_few : (length (far_plan from to ts) ≤ transfers_of (sides_of from to ts gaps ready).far) ⊎ (ones_in (sides_of from to ts gaps ready).near ≤ length ts + gaps_below from ts gaps (length ts)) →
        undone_far from to ts gaps ready ≡ 0
    by_few (inl all) = omega (arith, all)
    by_few (inr less) = omega (arith, less, paced.ones, bits, enough)
