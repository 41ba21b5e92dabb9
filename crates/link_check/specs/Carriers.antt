-- Sinks that hand rows on under other heads. They serve the carrying of traces. This project's own.
use Rattle.std.specs.Prelude.{◌≡◌, ℕ, List, Option, Some, None, Result, Ok, Err}
use Rattle.physical_stream.specs.declared.head.Head.{Head}
use Rattle.cycle_trace.specs.Trace.{TraceText}
use Rattle.link_check.specs.Carry.{AreAlike, FirstFalls, FirstOther, LevelsRise, carried, heads_from, heads_to}
use Rattle.link_check.specs.declared.carrier.Carrier.{Carrier}
use Rattle.link_check.specs.declared.end_heads.EndHeads.{EndHeads}
use Rattle.link_check.specs.declared.carry_fault.CarryFault.{CarryFault}
use Rattle.link_check.specs.declared.carry_fault.CarryFault.TheVariants as faults

-- the heads at both ends are alike, and no level falls
pub record CanRise (from to : List Head) : Type 0 where
  pub alike : AreAlike from to
  pub rise : LevelsRise from to

-- the sink stands for the trace that arrives; or this is the first stream whose head is not the one that a trace must have
abbrev pub HandsOn : {K : Type 0} → (K → Option TraceText → Type 0) → (from to : List Head) → K → TraceText → Option ℕ → Type 0
HandsOn stands from to sink t None = (t.heads ≡ from) × stands sink (Some (carried to t))
HandsOn stands from to sink t (Some stream) = FirstOther from t.heads stream

-- a carrier stands for nothing, or for a header and the rows so far as they come in
abbrev pub CarrierStands : {K : Type 0} → (K → Option TraceText → Type 0) → Carrier K → Option TraceText → Type 0
CarrierStands stands carrier None = CanRise carrier.from carrier.to.heads × (carrier.other ≡ None) × stands carrier.sink None
CarrierStands stands carrier (Some t) = CanRise carrier.from carrier.to.heads × HandsOn stands carrier.from carrier.to.heads carrier.sink t carrier.other

-- where levels fall, the first stream whose level does; want of memory says nothing
abbrev pub FallsFirst : (from to : List Head) → CarryFault → Type 0
FallsFirst from to (faults.NotLevel stream) = FirstFalls from to stream
FallsFirst from to faults.Memory = Unit {0}

-- at the end of a trace: the sink stands for the trace that arrives; or this is the first stream with another head
abbrev pub Arrives : {K : Type 0} → (K → Option TraceText → Type 0) → (from to : List Head) → TraceText → Result K ℕ → Type 0
Arrives stands from to t (Ok sink) = (t.heads ≡ from) × stands sink (Some (carried to t))
Arrives stands from to t (Err stream) = FirstOther from t.heads stream

-- these are the heads between two ports: where the streams come from, and where they arrive
pub record AreBetween (source sink : List Head) (heads : EndHeads) : Type 0 where
  pub from : heads.from ≡ heads_from source sink
  pub to : heads.to ≡ heads_to source sink
