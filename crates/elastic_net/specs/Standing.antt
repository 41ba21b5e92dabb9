-- Which state a chain stands for (this project's own).
use Rattle.std.specs.Prelude.{◌≡◌, ℕ, suc, ◌+◌, ◌-◌, ◌<◌, ◌≤◌, ◌%◌, ◌^◌, Bool, true, false, if◌then◌else◌, List, [], ◌∷◌, length, take, drop, sum, slice_get, slice_index, Option, None}
use Rattle.std.proofs.Props.{props}
use mathlib.Core.HLevel.{×_prop}
use Rattle.physical_stream.specs.Params.{Parameters}
use Rattle.physical_stream.specs.Items.{items_of_all}
use Rattle.physical_stream.specs.Shape.{tail_of}
use Rattle.physical_stream.specs.declared.item.Tail.{Tail}
use Rattle.physical_stream.specs.declared.transfer.Transfer.{Transfer}
use Rattle.handshake.specs.Run.{gap_of}
use Rattle.handshake.specs.declared.feed.TransferFeed.{Ghosts}
use Rattle.elastic_net.specs.Orders.{how_many}
use Rattle.elastic_net.specs.States.{ChainState, act_of, beyond, has_acted, shown_by}
use Rattle.elastic_net.specs.declared.chain.Chain.{Chain}

-- the numbers fall from the first transfer to the last, none above this one
abbrev pub AreFalling : (top : ℕ) → List ℕ → Type 0
AreFalling top [] = Unit {0}
AreFalling top (n ∷ numbers) = (n ≤ top) × AreFalling n numbers

pub AreFalling-prop : (top : ℕ) (numbers : List ℕ) → IsProp (AreFalling top numbers)
AreFalling-prop top [] = Prim.hlevel props
AreFalling-prop top (n ∷ numbers) = ×_prop (Prim.hlevel props) (AreFalling-prop n numbers)

pub ruleset chain_props = (props, AreFalling-prop)

-- the transfers of a chain are numbered in their order, no stage holds more than its capacity, and these are the counts of the components
pub record KeepsNumbers (stages : List ℕ) (ts : List Transfer) (numbers past : List ℕ) : Type 0 where
  pub many : length numbers ≡ length ts
  pub falling : AreFalling (suc (length stages)) numbers
  pub room : (stage : ℕ) → stage < length stages → how_many (suc stage) numbers ≤ slice_index stages stage
  pub counts : (component : ℕ) → component ≤ length stages → slice_index past component ≡ beyond component numbers

-- how many transfers were taken from the feed: those that were sent, and the one that the source holds
abbrev pub taken_of : List ℕ → Bool → ℕ
taken_of numbers holds = if holds then suc (beyond 0 numbers) else beyond 0 numbers

-- the transfers in the chain, the one that the source holds and the one that left the chain last stand in their places
pub record KeepsPlaces (stages : List ℕ) (ts : List Transfer) (numbers : List ℕ) (holds : Bool) (places rest : List Transfer) : Type 0 where
  pub size : sum stages + 1 < length places
  pub within : taken_of numbers holds ≤ length ts
  pub left : drop (taken_of numbers holds) ts ≡ rest
  pub held : (t : ℕ) → beyond (length stages) numbers ≤ suc t → t < taken_of numbers holds → slice_get places (t % length places) ≡ slice_get ts t

-- the cycle in which the source acts next
abbrev pub source_cycle : ChainState → ℕ
source_cycle s = if has_acted 0 s then suc s.cycle else s.cycle

-- what the source knows of the gap before the next transfer
pub record KeepsSource (p : Parameters) (ts : List Transfer) (gaps : List ℕ) (s : ChainState) (holds : Bool) (rest : List Transfer) (pause : ℕ) (tail : Option Tail) : Type 0 where
  pub tail_is : tail ≡ tail_of (items_of_all p (take (beyond 0 s.numbers) ts))
  pub gap : holds ≡ true → pause ≡ (s.start + gap_of p ts gaps (beyond 0 s.numbers)) - source_cycle s
  pub fresh : holds ≡ false → 0 < length rest → s.start ≡ source_cycle s

-- what the last component showed stands in its place
pub record KeepsShown (stages : List ℕ) (ts : List Transfer) (s : ChainState) (holds shows : Bool) (number : ℕ) : Type 0 where
  pub is : s.shown ≡ (if shows then slice_get ts number else None)
  pub there : shows ≡ true → (beyond (length stages) s.numbers ≤ suc number) × (number < taken_of s.numbers holds)

-- all that a chain keeps, but for what the last component showed
pub record KeepsChain (p : Parameters) (ts : List Transfer) (gaps stages : List ℕ) (s : ChainState) (past : List ℕ) (holds : Bool) (places rest : List Transfer) (pause : ℕ)
    (tail : Option Tail) (total : ℕ) : Type 0 where
  pub numbers : KeepsNumbers stages ts s.numbers past
  pub ring : KeepsPlaces stages ts s.numbers holds places rest
  pub source : KeepsSource p ts gaps s holds rest pause tail
  pub all : total ≡ length ts
  pub few : total < 2 ^ 64

-- what a component shows is the transfer behind those that it has moved on, where the answer is yes; this transfer stands in its place,
-- and so do those before it
pub record ActsAs (p : Parameters) (ts : List Transfer) (gaps stages : List ℕ) (s : ChainState) (component : ℕ) (ready : Bool) (held holds shows : Bool) : Type 0 where
  pub shown : shown_by p ts gaps stages component s ≡ (if shows then slice_get ts (beyond component s.numbers) else None)
  pub grows : taken_of s.numbers held ≤ taken_of (act_of p ts gaps stages component ready s).numbers holds
  pub there : shows ≡ true → beyond component s.numbers < taken_of (act_of p ts gaps stages component ready s).numbers holds

module _ {F : Type 0} {T : Ghosts F} (rest : F → List Transfer) where
  -- a chain stands for a state of these transfers, but for what the last component showed
  abbrev pub IsAt : Chain F T → List Transfer → ChainState → Type 0
  IsAt c ts s = KeepsChain c.params ts c.gaps c.stages s c.past.items c.holds c.places.items (rest c.feed) c.pause c.tail c.total

  -- a chain stands for a state of these transfers
  pub record StandsFor (c : Chain F T) (ts : List Transfer) (s : ChainState) : Type 0 where
    pub chain : IsAt c ts s
    pub seen : KeepsShown c.stages ts s c.holds c.shows c.number

-- two chains are of one stream, with the same gaps, stages and transfers
module _ {F : Type 0} {T : Ghosts F} (whole : F → List Transfer) where
  pub record KeepChain (old new : Chain F T) : Type 0 where
    pub params : new.params ≡ old.params
    pub gaps : new.gaps ≡ old.gaps
    pub stages : new.stages ≡ old.stages
    pub all : whole new.feed ≡ whole old.feed
