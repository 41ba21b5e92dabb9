-- A search from a number marks all that the number leads to, and nothing else.
use Rattle.std.proofs.Common.{◌≡◌, ℕ, zero, suc, ◌+◌, ◌<◌, ◌⊎◌, inl, inr, Bool, true, false, not, cond, List, [], ◌∷◌, ◌++◌, length, get_or, set, take, replicate, Contains, refl, sym, ap, subst, ◌∙◌, arith, true≢false, length-append}
use Rattle.std.proofs.lemmas.Bool.{cases_eq}
use Rattle.std.proofs.lemmas.List.{get_or-set_same, get_or-set_other, take_more}
use Rattle.std.proofs.lemmas.List.Sums.{sum_by-set}
use Rattle.std.proofs.lemmas.List.Elements.{Contains-append_left, Contains-append_right, Contains-append_cases, Contains-push, Contains-push_cases}
use Rattle.std.proofs.Math.ListN.{length-set}
use Rattle.til_resolve.specs.Cycles.{ByWay, LeadsTo}
use Rattle.til_resolve.specs.Graph.{targets_of, Leads, IsReached, number_unreached, Reaches, Searches}
use Rattle.til_resolve.proofs.EarliestLemmas.{Contains-nil}

-- ---- ways

pub ByWay-then : {A : Type 0} (Step : A → A → Type 0) (from mid to : A) (way : List A) → ByWay Step from way mid → Step mid to → ByWay Step from (way ++ mid ∷ []) to
ByWay-then Step from mid to [] first last = (first, last)
ByWay-then Step from mid to (next ∷ more) first last = (first.0, ByWay-then Step next mid to more first.1 last)

pub LeadsTo-once : {A : Type 0} (Step : A → A → Type 0) (from to : A) → Step from to → LeadsTo Step from to
LeadsTo-once Step from to step = ([], step)

pub LeadsTo-then : {A : Type 0} (Step : A → A → Type 0) (from mid to : A) → LeadsTo Step from mid → Step mid to → LeadsTo Step from to
LeadsTo-then Step from mid to first last = (first.0 ++ mid ∷ [], ByWay-then Step from mid to first.0 first.1 last)

-- ---- marks

-- a mark that is set is there, and the others stay
marked : (reached : List Bool) (target : ℕ) → target < length reached → IsReached (set reached target true) target
marked reached target within = get_or-set_same reached target true false within

still : (reached : List Bool) (target one : ℕ) → IsReached reached one → IsReached (set reached target true) one
still reached target one is = by (cases_eq one target)
  where
    inside : (l : List Bool) (k : ℕ) → get_or l k false ≡ true → k < length l
    inside [] k is = cc
    inside (b ∷ bs) zero is = omega arith
    inside (b ∷ bs) (suc k) is = omega (arith, inside bs k is)

    by : (one ≡ target) ⊎ (one ≡ target → ⊥) → IsReached (set reached target true) one
    by (inl same) = subst (λ k. IsReached (set reached target true) k) (sym same) (marked reached target (subst (λ k. k < length reached) same (inside reached one is)))
    by (inr apart) = get_or-set_other reached target one true false apart ∙ is

-- a marked number was marked before, or is the one that was set
marked_cases : (reached : List Bool) (target one : ℕ) → IsReached (set reached target true) one → (one ≡ target) ⊎ IsReached reached one
marked_cases reached target one is = by (cases_eq one target)
  where
    by : (one ≡ target) ⊎ (one ≡ target → ⊥) → (one ≡ target) ⊎ IsReached reached one
    by (inl same) = inl same
    by (inr apart) = inr (sym (get_or-set_other reached target one true false apart) ∙ is)

-- ---- one target more

pub Reaches-none : (old : List Bool) (waiting : List ℕ) → Reaches old waiting [] old waiting
Reaches-none old waiting = record {
  long = refl;
  kept = λ one is. is;
  hit = λ one there. absurd (Contains-nil one there);
  only = λ one is. inl is;
  stays = λ one there. there;
  from = λ one there. inl there;
  less = refl;
}

pub Reaches-skip : (old : List Bool) (waiting targets : List ℕ) (new : List Bool) (left : List ℕ) (target : ℕ)
    → Reaches old waiting targets new left → IsReached new target → Reaches old waiting (targets ++ target ∷ []) new left
Reaches-skip old waiting targets new left target so is = record {
  long = so.long;
  kept = so.kept;
  hit = λ one there. hit one (Contains-push_cases targets target one there);
  only = λ one reached. only one (so.only one reached);
  stays = so.stays;
  from = so.from;
  less = so.less;
}
  where
    hit : (one : ℕ) → Contains targets one ⊎ (target ≡ one) → IsReached new one
    hit one (inl there) = so.hit one there
    hit one (inr same) = subst (IsReached new) same is

    only : (one : ℕ) → IsReached old one ⊎ (Contains targets one × Contains left one) → IsReached old one ⊎ (Contains (targets ++ target ∷ []) one × Contains left one)
    only one (inl before) = inl before
    only one (inr both) = inr (Contains-append_left targets (target ∷ []) one both.0, both.1)

-- one mark more leaves one fewer without
fewer : (reached : List Bool) (target : ℕ) → target < length reached → get_or reached target false ≡ false → number_unreached (set reached target true) + 1 ≡ number_unreached reached
fewer reached target within unmarked =
    let weight : Bool → ℕ = λ b. cond (not b) 1 0 in
    let was : weight (get_or reached target false) ≡ 1 = ap weight unmarked in
    omega (arith, sum_by-set weight reached target true false within, was)

pub Reaches-mark : (old : List Bool) (waiting targets : List ℕ) (new : List Bool) (left : List ℕ) (target : ℕ)
    → Reaches old waiting targets new left → target < length new → get_or new target false ≡ false
    → Reaches old waiting (targets ++ target ∷ []) (set new target true) (left ++ target ∷ [])
Reaches-mark old waiting targets new left target so within unmarked = record {
  long = length-set new target true ∙ so.long;
  kept = λ one is. still new target one (so.kept one is);
  hit = λ one there. hit one (Contains-push_cases targets target one there);
  only = λ one reached. only one (marked_cases new target one reached);
  stays = λ one there. Contains-append_left left (target ∷ []) one (so.stays one there);
  from = λ one there. from one (Contains-push_cases left target one there);
  less = omega (arith, length-append left (target ∷ []), fewer new target within unmarked, so.less);
}
  where
    hit : (one : ℕ) → Contains targets one ⊎ (target ≡ one) → IsReached (set new target true) one
    hit one (inl there) = still new target one (so.hit one there)
    hit one (inr same) = subst (IsReached (set new target true)) same (marked new target within)

    kept_before : (one : ℕ) → IsReached old one ⊎ (Contains targets one × Contains left one)
        → IsReached old one ⊎ (Contains (targets ++ target ∷ []) one × Contains (left ++ target ∷ []) one)
    kept_before one (inl before) = inl before
    kept_before one (inr both) = inr (Contains-append_left targets (target ∷ []) one both.0, Contains-append_left left (target ∷ []) one both.1)

    only : (one : ℕ) → (one ≡ target) ⊎ IsReached new one → IsReached old one ⊎ (Contains (targets ++ target ∷ []) one × Contains (left ++ target ∷ []) one)
    only one (inl same) = inr (subst (Contains (targets ++ target ∷ [])) (sym same) (Contains-push targets target), subst (Contains (left ++ target ∷ [])) (sym same) (Contains-push left target))
    only one (inr is) = kept_before one (so.only one is)

    from_before : (one : ℕ) → Contains waiting one ⊎ IsReached new one → Contains waiting one ⊎ IsReached (set new target true) one
    from_before one (inl there) = inl there
    from_before one (inr is) = inr (still new target one is)

    from : (one : ℕ) → Contains left one ⊎ (target ≡ one) → Contains waiting one ⊎ IsReached (set new target true) one
    from one (inl there) = from_before one (so.from one there)
    from one (inr same) = inr (subst (IsReached (set new target true)) same (marked new target within))

-- targets after targets
pub Reaches-then : (old : List Bool) (waiting targets : List ℕ) (new : List Bool) (left : List ℕ) (target : ℕ) (newer : List Bool) (rest : List ℕ)
    → Reaches old waiting targets new left → Reaches new left (target ∷ []) newer rest → Reaches old waiting (targets ++ target ∷ []) newer rest
Reaches-then old waiting targets new left target newer rest so then = record {
  long = then.long ∙ so.long;
  kept = λ one is. then.kept one (so.kept one is);
  hit = λ one there. hit one (Contains-append_cases targets (target ∷ []) one there);
  only = λ one is. only one (then.only one is);
  stays = λ one there. then.stays one (so.stays one there);
  from = λ one there. from one (then.from one there);
  less = then.less ∙ so.less;
}
  where
    hit : (one : ℕ) → Contains targets one ⊎ Contains (target ∷ []) one → IsReached newer one
    hit one (inl there) = then.kept one (so.hit one there)
    hit one (inr there) = then.hit one there

    only_before : (one : ℕ) → IsReached old one ⊎ (Contains targets one × Contains left one)
        → IsReached old one ⊎ (Contains (targets ++ target ∷ []) one × Contains rest one)
    only_before one (inl is) = inl is
    only_before one (inr both) = inr (Contains-append_left targets (target ∷ []) one both.0, then.stays one both.1)

    only : (one : ℕ) → IsReached new one ⊎ (Contains (target ∷ []) one × Contains rest one)
        → IsReached old one ⊎ (Contains (targets ++ target ∷ []) one × Contains rest one)
    only one (inl is) = only_before one (so.only one is)
    only one (inr both) = inr (Contains-append_right targets (target ∷ []) one both.0, both.1)

    from_before : (one : ℕ) → Contains waiting one ⊎ IsReached new one → Contains waiting one ⊎ IsReached newer one
    from_before one (inl there) = inl there
    from_before one (inr is) = inr (then.kept one is)

    from : (one : ℕ) → Contains left one ⊎ IsReached newer one → Contains waiting one ⊎ IsReached newer one
    from one (inl there) = from_before one (so.from one there)
    from one (inr is) = inr is

-- the same of the targets so far
pub Reaches-more : (old : List Bool) (waiting targets : List ℕ) (i : ℕ) (new : List Bool) (left : List ℕ) (newer : List Bool) (rest : List ℕ)
    → i < length targets → Reaches old waiting (take i targets) new left → Reaches new left (get_or targets i 0 ∷ []) newer rest
    → Reaches old waiting (take (i + 1) targets) newer rest
Reaches-more old waiting targets i new left newer rest within so then =
    subst (λ (l : List ℕ). Reaches old waiting l newer rest) (sym (take_more targets i 0 within))
    (Reaches-then old waiting (take i targets) new left (get_or targets i 0) newer rest so then)

pub Reaches-skip_one : (old : List Bool) (waiting : List ℕ) (target : ℕ) → IsReached old target → Reaches old waiting (target ∷ []) old waiting
Reaches-skip_one old waiting target is = Reaches-skip old waiting [] old waiting target (Reaches-none old waiting) is

pub Reaches-mark_one : (old : List Bool) (waiting : List ℕ) (target : ℕ) → target < length old → get_or old target false ≡ false
    → Reaches old waiting (target ∷ []) (set old target true) (waiting ++ target ∷ [])
Reaches-mark_one old waiting target within unmarked = Reaches-mark old waiting [] old waiting target (Reaches-none old waiting) within unmarked

-- ---- a search

pub reached-within : (l : List Bool) (k : ℕ) → IsReached l k → k < length l
reached-within [] k is = cc
reached-within (b ∷ bs) zero is = omega arith
reached-within (b ∷ bs) (suc k) is = omega (arith, reached-within bs k is)

-- a waiting number is a number of the graph
pub waiting-within : (graph : List (List ℕ)) (start : ℕ) (reached : List Bool) (waiting : List ℕ) (one : ℕ) → start < length graph → Searches graph start reached waiting → Contains waiting one
    → one < length graph
waiting-within graph start reached waiting one within so there = by (so.waits one there)
  where
    by : (one ≡ start) ⊎ IsReached reached one → one < length graph
    by (inl same) = omega arith
    by (inr is) = omega (arith, reached-within reached one is, so.long)

pub Searches-start : (graph : List (List ℕ)) (start : ℕ) (reached : List Bool) → reached ≡ replicate (length graph) false → Searches graph start reached (start ∷ [])
Searches-start graph start reached is = record {
  long = ap length is ∙ long (length graph);
  waits = λ one there. inl (only one (Contains-push_cases [] start one there));
  sound = λ one marked. absurd (none one marked);
  closed = closed;
}
  where
    long : (n : ℕ) → length (replicate n false) ≡ n
    long zero = refl
    long (suc n) = ap suc (long n)

    clear : (n k : ℕ) → get_or (replicate n false) k false ≡ false
    clear zero k = refl
    clear (suc n) zero = refl
    clear (suc n) (suc k) = clear n k

    none : (one : ℕ) → ¬ IsReached reached one
    none one marked = true≢false (sym marked ∙ ap (λ (l : List Bool). get_or l one false) is ∙ clear (length graph) one)

    only : (one : ℕ) → Contains [] one ⊎ (start ≡ one) → one ≡ start
    only one (inl there) = absurd (Contains-nil one there)
    only one (inr same) = sym same

    closed : (one : ℕ) → (one ≡ start) ⊎ IsReached reached one → Contains (start ∷ []) one ⊎ ((other : ℕ) → Leads graph one other → IsReached reached other)
    closed one (inl same) = inl (subst (Contains (start ∷ [])) (sym same) (Contains-push [] start))
    closed one (inr marked) = absurd (none one marked)

pub Searches-turn : (graph : List (List ℕ)) (start : ℕ) (reached : List Bool) (waiting : List ℕ) (number : ℕ) (new : List Bool) (left : List ℕ)
    → Searches graph start reached (waiting ++ number ∷ []) → Reaches reached waiting (targets_of graph number) new left → Searches graph start new left
Searches-turn graph start reached waiting number new left so more = record {
  long = more.long ∙ so.long;
  waits = λ one there. waits one (more.from one there);
  sound = λ one is. sound one (more.only one is);
  closed = closed;
}
  where
    kept : (one : ℕ) → (one ≡ start) ⊎ IsReached reached one → (one ≡ start) ⊎ IsReached new one
    kept one (inl same) = inl same
    kept one (inr is) = inr (more.kept one is)

    waits : (one : ℕ) → Contains waiting one ⊎ IsReached new one → (one ≡ start) ⊎ IsReached new one
    waits one (inl there) = kept one (so.waits one (Contains-append_left waiting (number ∷ []) one there))
    waits one (inr is) = inr is

    on_from : (one : ℕ) → Leads graph number one → (number ≡ start) ⊎ IsReached reached number → LeadsTo (Leads graph) start one
    on_from one step (inl same) = LeadsTo-once (Leads graph) start one (subst (λ n. Leads graph n one) same step)
    on_from one step (inr is) = LeadsTo-then (Leads graph) start number one (so.sound number is) step

    sound : (one : ℕ) → IsReached reached one ⊎ (Contains (targets_of graph number) one × Contains left one) → LeadsTo (Leads graph) start one
    sound one (inl is) = so.sound one is
    sound one (inr both) = on_from one both.0 (so.waits number (Contains-push waiting number))

    still_closed : (one : ℕ) → Contains waiting one ⊎ (number ≡ one) → Contains left one ⊎ ((other : ℕ) → Leads graph one other → IsReached new other)
    still_closed one (inl there) = inl (more.stays one there)
    still_closed one (inr same) = inr (λ other step. more.hit other (subst (λ n. Leads graph n other) (sym same) step))

    on_closed : (one : ℕ) → Contains (waiting ++ number ∷ []) one ⊎ ((other : ℕ) → Leads graph one other → IsReached reached other)
        → Contains left one ⊎ ((other : ℕ) → Leads graph one other → IsReached new other)
    on_closed one (inl there) = still_closed one (Contains-push_cases waiting number one there)
    on_closed one (inr all) = inr (λ other step. more.kept other (all other step))

    by_mark : (one : ℕ) → IsReached reached one ⊎ (Contains (targets_of graph number) one × Contains left one)
        → Contains left one ⊎ ((other : ℕ) → Leads graph one other → IsReached new other)
    by_mark one (inl is) = on_closed one (so.closed one (inr is))
    by_mark one (inr both) = inl both.1

    closed : (one : ℕ) → (one ≡ start) ⊎ IsReached new one → Contains left one ⊎ ((other : ℕ) → Leads graph one other → IsReached new other)
    closed one (inl same) = on_closed one (so.closed one (inl same))
    closed one (inr is) = by_mark one (more.only one is)

-- at the end all that the start leads to is marked
pub Searches-end : (graph : List (List ℕ)) (start : ℕ) (reached : List Bool) → Searches graph start reached [] → (one : ℕ) → LeadsTo (Leads graph) start one → IsReached reached one
Searches-end graph start reached so one way = along start (inl refl) way.0 way.1
  where
    step : (from to : ℕ) → Leads graph from to → Contains [] from ⊎ ((other : ℕ) → Leads graph from other → IsReached reached other) → IsReached reached to
    step from to leads (inl there) = absurd (Contains-nil from there)
    step from to leads (inr all) = all to leads

    along : (from : ℕ) → (from ≡ start) ⊎ IsReached reached from → (ways : List ℕ) → ByWay (Leads graph) from ways one → IsReached reached one
    along from is [] leads = step from one leads (so.closed from is)
    along from is (next ∷ more) leads = along next (inr (step from next leads.0 (so.closed from is))) more leads.1

-- one that is taken from those that wait
pub taken-within : (graph : List (List ℕ)) (start : ℕ) (reached : List Bool) (waiting left : List ℕ) (one : ℕ) → start < length graph → Searches graph start reached waiting
    → waiting ≡ left ++ one ∷ [] → one < length graph
taken-within graph start reached waiting left one within so is =
    waiting-within graph start reached waiting one within so (subst (λ (l : List ℕ). Contains l one) (sym is) (Contains-push left one))
