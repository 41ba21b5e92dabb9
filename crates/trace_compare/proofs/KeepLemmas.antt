-- The state that is kept of a stream: before its first cycle, and one cycle more.
use Rattle.std.proofs.Common.{◌≡◌, ◌∙◌, ◌⊎◌, inl, inr, ℕ, zero, suc, ◌+◌, ◌<◌, ◌≤◌, Bool, true, false, List, [], ◌∷◌, ◌++◌, length, take, drop, Option, Some, None, is_some, Result, Ok, Err, OnOk, slice_get, refl, sym, ap, subst, arith, append-nil, length-append}
use Rattle.std.proofs.Math.Seq.{take-append_seam}
use Rattle.std.proofs.lemmas.Bool.{cases_lt}
use Rattle.std.proofs.lemmas.List.{length-take-le, take-append-le, take_all}
use Rattle.std.proofs.lemmas.Option.{slice_get_within}
use Rattle.tydi_base.proofs.PlaceLemmas.{slice_get-front}
use Rattle.physical_stream.specs.Params.{Parameters}
use Rattle.physical_stream.specs.Cycles.{Cycle, StreamTrace, done_in, items_done}
use Rattle.physical_stream.specs.Items.{items_of, items_of_all}
use Rattle.physical_stream.specs.declared.item.Item.{Item}
use Rattle.physical_stream.specs.declared.transfer.Transfer.{Transfer}
use Rattle.complexity_rules.proofs.CheckerLemmas.{items_done-one_more}
use Rattle.trace_compare.specs.Differences.{DifferFirst, IsDoneIn, count_done, done_by}
use Rattle.trace_compare.specs.Keeping.{AgreesUpTo, ComparesStream, IsFresh, IsOther, IsSameFront, TakesCycle, TakesItems}
use Rattle.trace_compare.specs.declared.stream_compared.OtherItem.{OtherItem}
use Rattle.trace_compare.specs.declared.stream_compared.StreamCompared.{StreamCompared}
use Rattle.trace_compare.proofs.FrontLemmas.{all_agree, differ_there, most_expected, slice_get-behind}

abbrev pub stream_of : Parameters → List Cycle → StreamTrace
stream_of p cycles = record { params = p; cycles = cycles }

-- ---- before the first cycle

pub fresh_compares : (want : List Item) (p : Parameters) (state : StreamCompared) → IsFresh state → ComparesStream want (stream_of p []) state
fresh_compares want p state fresh = record { within = omega (arith, fresh.same); agrees = by_other state.same state.other fresh.same fresh.other }
  where
    by_other : (same : ℕ) (other : Option OtherItem) → same ≡ 0 → other ≡ None → AgreesUpTo want (stream_of p []) same other
    by_other same None start none = sym (ap (λ (k : ℕ). take k want) start)
    by_other same (Some other) start none = absurd cc

-- ---- the difference that was found stays the first

module _ (want : List Item) (p : Parameters) (cycles : List Cycle) (row : Cycle) where
  abbrev old : StreamTrace
  old = stream_of p cycles

  abbrev new : StreamTrace
  new = stream_of p (cycles ++ row ∷ [])

  abbrev more : List Item
  more = items_of_all p (done_in row)

  done-more : done_by new ≡ done_by old ++ more
  done-more = items_done-one_more p cycles row

  -- so many cycles, with one cycle more behind them
  count_done-front : (n : ℕ) → n ≤ length cycles → count_done new n ≡ count_done old n
  count_done-front n few = ap (λ (l : List Cycle). length (items_done p l)) (take-append-le n cycles (row ∷ []) few)

  count_done-past : (n : ℕ) → length cycles ≤ n → count_done old n ≡ length (done_by old)
  count_done-past n past = ap (λ (l : List Cycle). length (items_done p l)) (take_all n cycles past)

  pub done_in-stays : (number cycle : ℕ) → IsDoneIn old number (Some cycle) → IsDoneIn new number (Some cycle)
  done_in-stays number cycle is = by_cases (cases_lt cycle (length cycles))
    where
      by_cases : (cycle < length cycles) ⊎ (length cycles ≤ cycle) → IsDoneIn new number (Some cycle)
      by_cases (inl less) =
          (subst (λ (k : ℕ). k ≤ number) (sym (count_done-front cycle (omega arith))) is.0, subst (λ (k : ℕ). number < k) (sym (count_done-front (suc cycle) (omega arith))) is.1)
      by_cases (inr past) = absurd (omega (arith, is.0, is.1, count_done-past cycle past, count_done-past (suc cycle) (omega arith)))

  pub other-stays : (number : ℕ) (other : OtherItem) → IsOther want old number other → IsOther want new number other
  other-stays number other is =
      let inside = slice_get_within (done_by old) number other.item is.item in
      let same_item : slice_get (done_by new) number ≡ slice_get (done_by old) number = ap (λ (l : List Item). slice_get l number) done-more ∙ slice_get-front (done_by old) more number inside in
      record {
        first = record {
          same = is.first.same ∙ sym (ap (take number) done-more ∙ take-append-le number (done_by old) more (omega (arith, inside)));
          differ = λ same. is.first.differ (same ∙ same_item);
        };
        cycle = done_in-stays number other.cycle is.cycle;
        item = same_item ∙ is.item;
      }

  -- a cycle in which nothing is done
  pub nothing-agrees : (same : ℕ) (other : Option OtherItem) → more ≡ [] → AgreesUpTo want old same other → AgreesUpTo want new same other
  nothing-agrees same None nothing agrees = done-more ∙ ap (λ (l : List Item). done_by old ++ l) nothing ∙ append-nil (done_by old) ∙ agrees
  nothing-agrees same (Some other) nothing agrees = other-stays same other agrees

  pub found-agrees : (same : ℕ) (other : Option OtherItem) → (other ≡ None → ⊥) → AgreesUpTo want old same other → AgreesUpTo want new same other
  found-agrees same None found agrees = absurd (found refl)
  found-agrees same (Some other) found agrees = other-stays same other agrees

  -- ---- items are done

  module _ (items : List Item) (same count : ℕ) (here : more ≡ items) (within : same ≤ length want) (agrees : done_by old ≡ take same want) (front : IsSameFront (drop same want) items count) where
    long : length (done_by old) ≡ same
    long = ap length agrees ∙ length-take-le same want within

    done-new : done_by new ≡ done_by old ++ items
    done-new = done-more ∙ ap (λ (l : List Item). done_by old ++ l) here

    pub expected-more : same + count ≤ length want
    expected-more = most_expected want (done_by old) items same count agrees long front within

    pub all-agrees : length items ≤ count → AgreesUpTo want new (same + count) None
    all-agrees end = done-new ∙ all_agree want (done_by old) items same count agrees long front end

    pub other-found : (cycle : ℕ) (item : Item) → length cycles ≡ cycle → slice_get items count ≡ Some item → IsOther want new (same + count) (record { cycle = cycle; item = item })
    other-found cycle item now found =
        let less = slice_get_within items count item found in
        let before : count_done new cycle ≡ same =
        ap (count_done new) (sym now) ∙ ap (λ (l : List Cycle). length (items_done p l)) (take-append_seam cycles (row ∷ [])) ∙ long in
        let after : count_done new (suc cycle) ≡ same + length items =
        ap (λ (l : List Cycle). length (items_done p l)) (take_all (suc cycle) (cycles ++ row ∷ []) (omega (arith, now, length-append cycles (row ∷ []))))
        ∙ ap length done-new ∙ length-append (done_by old) items ∙ ap (λ (k : ℕ). k + length items) long in
        record {
          first = subst (λ (l : List Item). DifferFirst want l (same + count)) (sym done-new) (differ_there want (done_by old) items same count agrees long front less);
          cycle = (omega (arith, before), omega (arith, after, less));
          item = ap (λ (l : List Item). slice_get l (same + count)) done-new ∙ slice_get-behind (done_by old) items count (same + count) (ap (λ (k : ℕ). k + count) (sym long)) ∙ found;
        }

-- ---- the steps of the code

pub found_some : {A : Type 0} (found : Option A) → is_some found ≡ true → found ≡ None → ⊥
found_some None some none = let clash : ◌≡◌ {A = Bool} false true = some in absurd cc
found_some (Some x) some none = absurd cc

pub takes-nothing : (want : List Item) (p : Parameters) (cycle : ℕ) (row : Cycle) (state : StreamCompared) → items_of_all p (done_in row) ≡ [] → TakesCycle want p cycle row state state
takes-nothing want p cycle row state nothing cycles now was =
    record { within = was.within; agrees = nothing-agrees want p cycles row state.same state.other nothing was.agrees }

pub takes-found : (want : List Item) (cycle : ℕ) (items : List Item) (state : StreamCompared) → (state.other ≡ None → ⊥) → TakesItems want cycle items state state
takes-found want cycle items state found p cycles row now here was =
    record { within = was.within; agrees = found-agrees want p cycles row state.same state.other found was.agrees }

agrees_none : (want : List Item) (s : StreamTrace) (same : ℕ) (other : Option OtherItem) → other ≡ None → AgreesUpTo want s same other → done_by s ≡ take same want
agrees_none want s same None none agrees = agrees
agrees_none want s same (Some other) none agrees = absurd cc

module _ (want items : List Item) (cycle count : ℕ) (old : StreamCompared) (none : old.other ≡ None) (front : IsSameFront (drop old.same want) items count) where
  pub takes-all : slice_get items count ≡ None → TakesItems want cycle items old (record { same = old.same + count; other = old.other })
  takes-all end p cycles row now here was =
      let agrees = agrees_none want (stream_of p cycles) old.same old.other none was.agrees in
      record {
        within = expected-more want p cycles row items old.same count here was.within agrees front;
        agrees =
            subst (λ (o : Option OtherItem). AgreesUpTo want (stream_of p (cycles ++ row ∷ [])) (old.same + count) o) (sym none)
            (all-agrees want p cycles row items old.same count here was.within agrees front (past items count end));
      }
    where
      past : (l : List Item) (k : ℕ) → slice_get l k ≡ None → length l ≤ k
      past [] k none = omega arith
      past (x ∷ l) zero none = absurd cc
      past (x ∷ l) (suc k) none = let less = past l k none in omega (arith, less)

  pub takes-other : (item : Item) → slice_get items count ≡ Some item → TakesItems want cycle items old (record { same = old.same + count; other = Some (record { cycle = cycle; item = item }) })
  takes-other item found p cycles row now here was =
      let agrees = agrees_none want (stream_of p cycles) old.same old.other none was.agrees in
      record {
        within = expected-more want p cycles row items old.same count here was.within agrees front;
        agrees = other-found want p cycles row items old.same count here was.within agrees front cycle item now found;
      }

-- the items of a transfer that is done
pub takes-done : (want : List Item) (p : Parameters) (cycle : ℕ) (t : Transfer) (ready : Bool) (old new : StreamCompared) → ready ≡ true → TakesItems want cycle (items_of p t) old new
    → TakesCycle want p cycle (record { ready = ready; shown = Some t }) old new
takes-done want p cycle t true before after is takes cycles now was = takes p cycles (record { ready = true; shown = Some t }) now (append-nil (items_of p t)) was
takes-done want p cycle t false before after is takes cycles now was = absurd cc

pub takes-offered : (want : List Item) (p : Parameters) (cycle : ℕ) (t : Transfer) (ready : Bool) (state : StreamCompared) → ready ≡ false
    → TakesCycle want p cycle (record { ready = ready; shown = Some t }) state state
takes-offered want p cycle t true state is = absurd cc
takes-offered want p cycle t false state is = takes-nothing want p cycle (record { ready = false; shown = Some t }) state refl

pub takes-idle : (want : List Item) (p : Parameters) (cycle : ℕ) (ready : Bool) (state : StreamCompared) → TakesCycle want p cycle (record { ready = ready; shown = None }) state state
takes-idle want p cycle true state = takes-nothing want p cycle (record { ready = true; shown = None }) state refl
takes-idle want p cycle false state = takes-nothing want p cycle (record { ready = false; shown = None }) state refl

-- the items of a transfer that is done, in a call that may lack memory
pub takes_transfer : {A E : Type 0} → (want : List Item) (p : Parameters) (cycle : ℕ) (t : Transfer) (ready : Bool) (old new : StreamCompared) (items : List Item) (result : Result A E) → ready ≡ true
    → items ≡ items_of p t → OnOk result (TakesItems want cycle items old new) → OnOk result (TakesCycle want p cycle (record { ready = ready; shown = Some t }) old new)
takes_transfer want p cycle t ready before after items (Err e) is are takes = tt
takes_transfer want p cycle t ready before after items (Ok a) is are takes = takes-done want p cycle t ready before after is (subst (λ (l : List Item). TakesItems want cycle l before after) are takes)
