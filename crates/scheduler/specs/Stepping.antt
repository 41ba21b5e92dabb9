-- One transfer after another (this project's own).
use Rattle.std.specs.Prelude.{◌≡◌, ℕ, ◌+◌, ◌-◌, ◌^◌, ◌≤◌, Bool, ◌==◌, nat_le, if◌then◌else◌, List, ◌∷◌, length, drop}
use Rattle.tydi_base.specs.Level.{number_of}
use Rattle.physical_stream.specs.Params.{Parameters}
use Rattle.physical_stream.specs.Signals.{Fits}
use Rattle.physical_stream.specs.declared.item.Item.{Item}
use Rattle.physical_stream.specs.declared.transfer.Transfer.{Transfer}
use Rattle.scheduler.specs.Laws.{AreItems, UsersFit}
use Rattle.scheduler.specs.Planned.{MasksFit, first_user, plan_of}
use Rattle.plan_text.specs.declared.plan.Wish.{Wish}

-- the widths that a plan asks for: items, masks and user words fit the stream
pub record CanGoOn (p : Parameters) (items : List Item) (wishes : List Wish) (users : List (List Bool)) : Type 0 where
  pub some : 1 ≤ p.lanes
  pub most : p.lanes ≤ 128
  pub fit : AreItems p items
  pub masks : MasksFit p wishes
  pub wide : UsersFit p users

-- the transfers that are planned for the items from a place on, by the wishes and user words from a number on
abbrev pub plan_from : Parameters → List Item → List Wish → List (List Bool) → (place number : ℕ) → List Transfer
plan_from p items wishes users place number = plan_of p (drop number wishes) (drop number users) (drop place items)

-- the first of them, which fits; the others are those from the next place on
pub record IsNext (p : Parameters) (items : List Item) (wishes : List Wish) (users : List (List Bool)) (place number : ℕ) (t : Transfer) (next : ℕ) : Type 0 where
  pub within : next ≤ length items
  pub fits : Fits p t
  pub first : plan_from p items wishes users place number ≡ t ∷ plan_from p items wishes users next (number + 1)

-- the first of them is passed, over a transfer that fits: one fewer are left from the next place on
pub record IsPassed (p : Parameters) (items : List Item) (wishes : List Wish) (users : List (List Bool)) (place number : ℕ) (t : Transfer) (next : ℕ) : Type 0 where
  pub within : next ≤ length items
  pub fits : Fits p t
  pub fewer : length (plan_from p items wishes users place number) ≡ 1 + length (plan_from p items wishes users next (number + 1))

-- up to level 6 the strobe is all ones where it is not zero
pub record IsStrobed (p : Parameters) (old new : Transfer) : Type 0 where
  pub content : new.content ≡ old.content
  pub last : new.last ≡ old.last
  pub stai : new.stai ≡ old.stai
  pub endi : new.endi ≡ old.endi
  pub strb : new.strb ≡ (if nat_le 7 (number_of p.level) then old.strb else (if old.strb == 0 then 0 else 2 ^ p.lanes - 1))
  pub user : new.user ≡ old.user

-- the user word of this number is written, and all else is as before
pub record IsUser (p : Parameters) (users : List (List Bool)) (number : ℕ) (old new : Transfer) : Type 0 where
  pub content : new.content ≡ old.content
  pub last : new.last ≡ old.last
  pub stai : new.stai ≡ old.stai
  pub endi : new.endi ≡ old.endi
  pub strb : new.strb ≡ old.strb
  pub user : new.user ≡ first_user p (drop number users)
