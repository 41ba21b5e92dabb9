-- The transfers of a plan from one on are planned for the items that those before it leave.
use Rattle.std.proofs.Common.{◌≡◌, ◌∙◌, ℕ, zero, suc, ◌≤◌, List, [], ◌∷◌, length, take, drop, slice_get, Some, refl, sym, ap, subst, arith}
use Rattle.std.proofs.lemmas.Grind.{flat_map-append}
use Rattle.std.proofs.lemmas.List.{take-append-drop}
use Rattle.std.proofs.Math.Seq.{drop-append_seam}
use Rattle.physical_stream.specs.Params.{Parameters}
use Rattle.physical_stream.specs.Items.{items_of, items_of_all}
use Rattle.physical_stream.specs.declared.item.Item.{Item}
use Rattle.physical_stream.specs.declared.transfer.Transfer.{Transfer}
use Rattle.scheduler.specs.Laws.{AreItems}
use Rattle.scheduler.specs.Planned.{Planned, first_wish, load_of}
use Rattle.scheduler.proofs.LawLemmas.{planned_items}
use Rattle.scheduler.proofs.LoadLemmas.{taken_of}
use Rattle.reshape.specs.Reshaping.{front_of}

pub planned-from : (p : Parameters) (all : List Item) (ts : List Transfer) (n : ℕ) → 1 ≤ p.lanes → AreItems p all → Planned p [] [] all ts → Planned p [] [] (items_of_all p (drop n ts)) (drop n ts)
planned-from p all ts zero some fit planned = subst (λ (l : List Item). Planned p [] [] l ts) (sym (planned_items p [] [] all ts some fit planned)) planned
planned-from p all [] (suc n) some fit planned = refl
planned-from p all (t ∷ ts) (suc n) some fit planned = planned-from p (load_of p (first_wish p []) all).rest ts n some (taken_of p (first_wish p []) all some fit).left planned.2

-- the items that the first transfers leave are those of the others
pub items-behind : (p : Parameters) (all : List Item) (ts : List Transfer) (n : ℕ) → 1 ≤ p.lanes → AreItems p all → Planned p [] [] all ts → drop (length (items_of_all p (take n ts))) all ≡ items_of_all p (drop n ts)
items-behind p all ts n some fit planned =
    ap (drop (length (items_of_all p (take n ts))))
    (sym (planned_items p [] [] all ts some fit planned) ∙ ap (items_of_all p) (sym (take-append-drop n ts)) ∙ flat_map-append (items_of p) (take n ts) (drop n ts))
    ∙ drop-append_seam (items_of_all p (take n ts)) (items_of_all p (drop n ts))

-- the next transfer of a plan is the front of the items that are left
pub next-front : (p : Parameters) (item : Item) (more : List Item) (ts : List Transfer) (n : ℕ) → Planned p [] [] (item ∷ more) (drop n ts) → slice_get ts n ≡ Some (front_of p (item ∷ more))
next-front p item more [] zero planned = cc
next-front p item more [] (suc n) planned = cc
next-front p item more (t ∷ ts) zero planned = ap Some planned.1
next-front p item more (t ∷ ts) (suc n) planned = next-front p item more ts n planned

-- no transfer is planned for no items
pub none-planned : (p : Parameters) (ts : List Transfer) (n : ℕ) → Planned p [] [] [] (drop n ts) → length ts ≤ n
none-planned p [] n planned = omega arith
none-planned p (t ∷ ts) zero planned = absurd (planned.0 refl)
none-planned p (t ∷ ts) (suc n) planned = omega (arith, none-planned p ts n planned)
