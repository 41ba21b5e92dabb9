-- Carriers: what they hand on.
use Rattle.std.proofs.Common.{◌≡◌, ℕ, ◌≤◌, List, length, Option, Some, None, IfSome, Result, OnOk, sym, ap, subst}
use Rattle.std.specs.List.{slice_get}
use Rattle.tydi_base.proofs.TestLemmas.{on_ok}
use Rattle.tydi_base.specs.declared.memory.Memory.{Memory}
use Rattle.physical_stream.specs.Cycles.{Cycle}
use Rattle.physical_stream.specs.Params.{Parameters}
use Rattle.physical_stream.specs.Signals.{Shows}
use Rattle.physical_stream.specs.declared.head.Head.{Head}
use Rattle.physical_stream.specs.declared.head.Header.{Header}
use Rattle.physical_stream.specs.declared.transfer.Transfer.{Transfer}
use Rattle.cycle_trace.specs.RowSink.{CanTake, IsHeader, with_row}
use Rattle.cycle_trace.specs.Trace.{TraceText, owed, params_of_heads}
use Rattle.link_check.specs.Carriers.{CanRise, HandsOn}
use Rattle.link_check.specs.Carry.{FirstOther, carried}
use Rattle.link_check.proofs.CarryLemmas.{AllRise-owed, Rises, above-at, heads-rise, same-heads, shows-above}

-- a row that can come next can come next where it arrives
pub can_take-carried : (t : TraceText) (heads : List Head) (row : Cycle) → CanRise t.heads heads → CanTake t row → CanTake (carried heads t) row
can_take-carried t heads row can take =
    let found = above-at (owed (params_of_heads t.heads) t.cycles) (owed (params_of_heads heads) t.cycles) (length t.rows) take.params
    (AllRise-owed (params_of_heads t.heads) (params_of_heads heads) t.cycles (heads-rise t.heads heads can.alike can.rise)) take.turn in
    record { params = found.0; turn = found.1; shown = by row.shown found.0 found.2 take.shown }
  where
    by : (shown : Option Transfer) (high : Parameters) → Rises take.params high → IfSome shown (Shows take.params) → IfSome shown (Shows high)
    by None high rise shows = tt
    by (Some s) high rise shows = shows-above take.params high s rise shows

pub header-carried : (from to : Header) → CanRise from.heads to.heads → to.cycles ≡ from.cycles → IsHeader from → IsHeader to
header-carried from to can same is = record { few_cycles = subst (λ n. n ≤ 1000000) (sym same) is.few_cycles; streams = same-heads from.heads to.heads can.alike is.streams }

module _ {K : Type 0} (stands : K → Option TraceText → Type 0) (from to : List Head) where
  -- where no other head was found, the sink stands for the trace that arrives
  pub hands-on : (sink : K) (t : TraceText) (other : Option ℕ) → other ≡ None → HandsOn stands from to sink t other → (t.heads ≡ from) × stands sink (Some (carried to t))
  hands-on sink t other none hands = subst (HandsOn stands from to sink t) none hands

  pub can-rise : (t : TraceText) → t.heads ≡ from → CanRise from to → CanRise t.heads to
  can-rise t same can = subst (λ (h : List Head). CanRise h to) (sym same) can

  -- one row more
  pub hands-more : (old new : K) (t : TraceText) (row : Cycle) (other : Option ℕ) (result : Result (Unit {0}) Memory) → CanRise from to → other ≡ None → CanTake t row
      → ((x : TraceText) → stands old (Some x) → CanTake x row → OnOk result (stands new (Some (with_row x row)))) → HandsOn stands from to old t other
      → OnOk result (CanRise from to × HandsOn stands from to new (with_row t row) other)
  hands-more old new t row other result can none take taken hands =
      let on = hands-on old t other none hands in
      on_ok result (stands new (Some (with_row (carried to t) row))) (CanRise from to × HandsOn stands from to new (with_row t row) other)
      (λ more. (can, subst (HandsOn stands from to new (with_row t row)) (sym none) (on.0, more)))
      (taken (carried to t) on.1 (can_take-carried t to row (can-rise t on.0 can) take))

pub some_inside : {A : Type 0} {x y : A} → Some x ≡ Some y → x ≡ y
some_inside is = cc

-- one list of heads has no first head that is another
pub not-other : (heads others : List Head) (stream : ℕ) → heads ≡ others → FirstOther heads others stream → ⊥
not-other heads others stream same first = first.here (ap (λ (l : List Head). slice_get l stream) same)
