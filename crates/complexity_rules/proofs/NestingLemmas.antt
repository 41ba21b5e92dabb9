-- The items done in cycles without a violation of the rule on nesting are nested.
use Rattle.std.proofs.Common.{◌≡◌, ◌∙◌, ℕ, zero, suc, ◌≤◌, Bool, true, false, if◌then◌else◌, List, [], length, get_or, take, Option, None, Some, refl, sym, ap, subst, arith}
use Rattle.std.specs.Option.{option_to_list}
use Rattle.std.proofs.Math.Seq.{take-suc}
use Rattle.std.proofs.lemmas.Bool.{false_from_ne_true, or_from}
use Rattle.std.proofs.lemmas.List.{append-nil, take_all}
use Rattle.std.proofs.lemmas.Option.{slice_get-get_or}
use Rattle.tydi_base.specs.Level.{IsLevel}
use Rattle.physical_stream.specs.Params.{Parameters}
use Rattle.physical_stream.specs.Cycles.{Cycle, done_in, items_done}
use Rattle.physical_stream.specs.Items.{items_of, items_of_all}
use Rattle.physical_stream.specs.Breaks.{Breaks, BreaksNest, OnShown}
use Rattle.physical_stream.specs.Shape.{tail_of, tail_over, has_misplaced}
use Rattle.physical_stream.specs.declared.item.Item.{Item}
use Rattle.physical_stream.specs.declared.item.Tail.{Tail}
use Rattle.physical_stream.specs.declared.rule.Rule.TheVariants.{Nest}
use Rattle.physical_stream.specs.declared.transfer.Transfer.{Transfer}
use Rattle.physical_stream.proofs.ShapeLemmas.{tail_of-over_none, has_misplaced-append, IsNested-placed}
use Rattle.complexity_rules.specs.Nesting.{ItemsAreNested}
use Rattle.complexity_rules.proofs.BreakLemmas.{BreaksNest-misplaced}
use Rattle.complexity_rules.proofs.CheckerLemmas.{items_done-one_more}

-- the value of a cycle past the end
abbrev idle : Cycle
idle = record { ready = false; shown = None }

module _ (p : Parameters) (cycles : List Cycle) (level : IsLevel p.level) (kept : (number : ℕ) → Breaks Nest p cycles number → ⊥) where
  abbrev before : ℕ → List Item
  before n = items_done p (take n cycles)

  -- a transfer that is shown misplaces nothing after what was done
  placed_shown : (n : ℕ) → suc n ≤ length cycles → (t : Transfer) → (get_or cycles n idle).shown ≡ Some t → has_misplaced (tail_of (before n)) (items_of p t) ≡ false
  placed_shown n within t shown = false_from_ne_true _ (λ misplaced. kept n (record {
    now = get_or cycles n idle;
    stands = slice_get-get_or cycles n idle within;
    broken = (level.first.1, subst (OnShown (BreaksNest p (before n))) (sym shown) ((BreaksNest-misplaced p (before n) t).0 misplaced));
  }))

  placed_done : (tail : Option Tail) (ready : Bool) (shown : Option Transfer) → ((t : Transfer) → shown ≡ Some t → has_misplaced tail (items_of p t) ≡ false) →
      has_misplaced tail (items_of_all p (if ready then option_to_list shown else [])) ≡ false
  placed_done tail false shown placed = refl
  placed_done tail true None placed = refl
  placed_done tail true (Some t) placed = ap (has_misplaced tail) (append-nil (items_of p t)) ∙ placed t refl

  placed_so_far : (n : ℕ) → n ≤ length cycles → has_misplaced None (before n) ≡ false
  placed_so_far zero within = refl
  placed_so_far (suc n) within =
      let now = get_or cycles n idle in
      let more = items_of_all p (done_in now) in
      let here : has_misplaced (tail_over None (before n)) more ≡ false =
      ap (λ (tail : Option Tail). has_misplaced tail more) (sym (tail_of-over_none (before n))) ∙ placed_done (tail_of (before n)) now.ready now.shown (placed_shown n within) in
      ap (λ (cs : List Cycle). has_misplaced None (items_done p cs)) (take-suc cycles n idle within)
      ∙ ap (has_misplaced None) (items_done-one_more p (take n cycles) now) ∙ has_misplaced-append None (before n) more
      ∙ or_from (has_misplaced None (before n)) (has_misplaced (tail_over None (before n)) more) (placed_so_far n (omega arith)) here

pub items_nested : ItemsAreNested
items_nested p cycles level kept =
    IsNested-placed (items_done p cycles)
    (ap (λ (cs : List Cycle). has_misplaced None (items_done p cs)) (sym (take_all (length cycles) cycles (omega arith))) ∙ placed_so_far p cycles level kept (length cycles) (omega arith))
