-- One more cycle of a stream: the offences then, and the first of them.
use Rattle.std.proofs.Common.{refl, slice_get, ap, ◌≡◌, ◌∙◌, ℕ, ◌<◌, ◌≤◌, inl, inr, ◌⊎◌, List, [], ◌∷◌, ◌++◌, length, take, None, Some, sym, subst, arith}
use Rattle.std.proofs.lemmas.Bool.{cases_lt}
use Rattle.std.proofs.lemmas.List.{length-append, take_all}
use Rattle.std.proofs.lemmas.Option.{slice_get_within}
use Rattle.tydi_base.proofs.PlaceLemmas.{same_or_other, slice_get-front, slice_get-next, take-front}
use Rattle.physical_stream.specs.Params.{Parameters}
use Rattle.physical_stream.specs.Cycles.{Cycle, StreamTrace}
use Rattle.physical_stream.specs.Breaks.{Breaks, BreaksAfter}
use Rattle.physical_stream.specs.First.{Offence, Offends, IsFirst, IsNotAfter}
use Rattle.physical_stream.specs.Rules.{number_of_rule}
use Rattle.physical_stream.specs.declared.rule.Rule.{Rule}

-- ---- the first offence where there are more of them

-- the offences now are those before, and one for each rule that is broken at this place; the old ones stand before it
pub record AddsOffences (Old New : Offence → Type 0) (cycle at : ℕ) (Broken : Rule → Type 0) : Type 0 where
  pub stays : (o : Offence) → Old o → New o
  pub earlier : (o : Offence) → Old o → (o.cycle < cycle) ⊎ ((o.cycle ≡ cycle) × (o.stream < at))
  pub cases : (o : Offence) → New o → Old o ⊎ ((o.cycle ≡ cycle) × ((o.stream ≡ at) × Broken o.rule))
  pub here : (rule : Rule) → Broken rule → New (record { cycle = cycle; stream = at; rule = rule })

module _ (Old New : Offence → Type 0) (cycle at : ℕ) (Broken : Rule → Type 0) (h : AddsOffences Old New cycle at Broken) where
  -- the first offence stays the first
  pub IsFirst-stays : (first : Offence) → IsFirst Old (Some first) → IsFirst New (Some first)
  IsFirst-stays first is = (h.stays first is.0, λ o b. by_cases o (h.cases o b) (h.earlier first is.0))
    where
      by_cases : (o : Offence) → Old o ⊎ ((o.cycle ≡ cycle) × ((o.stream ≡ at) × Broken o.rule)) → (first.cycle < cycle) ⊎ ((first.cycle ≡ cycle) × (first.stream < at)) → IsNotAfter first o
      by_cases o (inl before) place = is.1 o before
      by_cases o (inr now) (inl less) = inl (omega (arith, now.0))
      by_cases o (inr now) (inr same) = inr (same.0 ∙ sym now.0, inl (omega (arith, same.1, now.1.0)))

  module _ (none : IsFirst Old None) where
    -- no offence, and none at this place
    pub IsFirst-none : ((rule : Rule) → Broken rule → ⊥) → IsFirst New None
    IsFirst-none unbroken o b = by_cases (h.cases o b)
      where
        by_cases : Old o ⊎ ((o.cycle ≡ cycle) × ((o.stream ≡ at) × Broken o.rule)) → ⊥
        by_cases (inl before) = none o before
        by_cases (inr now) = unbroken o.rule now.1.1

    -- the lowest rule that is broken at this place is the first offence
    pub IsFirst-here : (lowest : Rule) → Broken lowest → ((rule : Rule) → Broken rule → number_of_rule lowest ≤ number_of_rule rule) → IsFirst New (Some (record { cycle = cycle; stream = at; rule = lowest }))
    IsFirst-here lowest broken least = (h.here lowest broken, λ o b. by_cases o (h.cases o b))
      where
        by_cases : (o : Offence) → Old o ⊎ ((o.cycle ≡ cycle) × ((o.stream ≡ at) × Broken o.rule)) → IsNotAfter (record { cycle = cycle; stream = at; rule = lowest }) o
        by_cases o (inl before) = absurd (none o before)
        by_cases o (inr now) = inr (sym now.0, inr (sym now.1.0, least o.rule now.1.1))

-- ---- the cycles of one stream

-- a cycle of a list with one more breaks a rule in the list as it was, or it is the last one
pub Breaks-cases : (rule : Rule) (p : Parameters) (cycles : List Cycle) (row : Cycle) (c : ℕ) → Breaks rule p (cycles ++ row ∷ []) c → Breaks rule p cycles c ⊎ ((c ≡ length cycles) × BreaksAfter rule p cycles row)
Breaks-cases rule p cycles row c b = by_cases (cases_lt c (length cycles))
  where
    by_cases : (c < length cycles) ⊎ (length cycles ≤ c) → Breaks rule p cycles c ⊎ ((c ≡ length cycles) × BreaksAfter rule p cycles row)
    by_cases (inl less) = inl (record {
      now = b.now;
      stands = sym (slice_get-front cycles (row ∷ []) c less) ∙ b.stands;
      broken = subst (λ (before : List Cycle). BreaksAfter rule p before b.now) (take-front cycles row c (omega arith)) b.broken;
    })
    by_cases (inr more) =
        let last : c ≡ length cycles = omega (arith, slice_get_within (cycles ++ row ∷ []) c b.now b.stands, length-append cycles (row ∷ [])) in
        let now : b.now ≡ row = let e = sym b.stands ∙ slice_get-next cycles row c last in cc in
        let before : take c (cycles ++ row ∷ []) ≡ cycles = take-front cycles row c (omega arith) ∙ take_all c cycles (omega arith) in
        inr (last, subst (λ (x : Cycle). BreaksAfter rule p cycles x) now (subst (λ (xs : List Cycle). BreaksAfter rule p xs b.now) before b.broken))

pub Breaks-front : (rule : Rule) (p : Parameters) (cycles : List Cycle) (row : Cycle) (c : ℕ) → Breaks rule p cycles c → Breaks rule p (cycles ++ row ∷ []) c
Breaks-front rule p cycles row c b =
    let less = slice_get_within cycles c b.now b.stands in
    record {
      now = b.now;
      stands = slice_get-front cycles (row ∷ []) c less ∙ b.stands;
      broken = subst (λ (before : List Cycle). BreaksAfter rule p before b.now) (sym (take-front cycles row c (omega arith))) b.broken;
    }

pub Breaks-last : (rule : Rule) (p : Parameters) (cycles : List Cycle) (row : Cycle) (c : ℕ) → c ≡ length cycles → BreaksAfter rule p cycles row → Breaks rule p (cycles ++ row ∷ []) c
Breaks-last rule p cycles row c last broken = record {
  now = row;
  stands = slice_get-next cycles row c last;
  broken = subst (λ (before : List Cycle). BreaksAfter rule p before row) (sym (take-front cycles row c (omega arith) ∙ take_all c cycles (omega arith))) broken;
}

-- ---- one stream of several

-- one stream has this cycle more, and the others are as they were
pub record HasMore (old new : List StreamTrace) (at : ℕ) (s : StreamTrace) (row : Cycle) : Type 0 where
  pub before : slice_get old at ≡ Some s
  pub now : slice_get new at ≡ Some (record { params = s.params; cycles = s.cycles ++ row ∷ [] })
  pub others : (i : ℕ) → (i ≡ at → ⊥) → slice_get new i ≡ slice_get old i

module _ (old new : List StreamTrace) (at : ℕ) (s : StreamTrace) (row : Cycle) (h : HasMore old new at s row) where
  same_some : {A : Type 0} {x y : A} → Some x ≡ Some y → x ≡ y
  same_some is = cc

  -- an old offence is one still
  stays : (o : Offence) → Offends old o → Offends new o
  stays o b = by_stream (same_or_other o.stream at)
    where
      by_stream : (o.stream ≡ at) ⊎ (o.stream ≡ at → ⊥) → Offends new o
      by_stream (inr other) = record { trace = b.trace; stands = h.others o.stream other ∙ b.stands; breaks = b.breaks }
      by_stream (inl same) =
          let is : b.trace ≡ s = same_some (sym b.stands ∙ ap (slice_get old) same ∙ h.before) in
          let broken = subst (λ (x : StreamTrace). Breaks o.rule x.params x.cycles o.cycle) is b.breaks in
          record { trace = record { params = s.params; cycles = s.cycles ++ row ∷ [] }; stands = ap (slice_get new) same ∙ h.now; breaks = Breaks-front o.rule s.params s.cycles row o.cycle broken }

  cases : (o : Offence) → Offends new o → Offends old o ⊎ ((o.cycle ≡ length s.cycles) × ((o.stream ≡ at) × BreaksAfter o.rule s.params s.cycles row))
  cases o b = by_stream (same_or_other o.stream at)
    where
      by_row : o.stream ≡ at → Breaks o.rule s.params s.cycles o.cycle ⊎ ((o.cycle ≡ length s.cycles) × BreaksAfter o.rule s.params s.cycles row)
          → Offends old o ⊎ ((o.cycle ≡ length s.cycles) × ((o.stream ≡ at) × BreaksAfter o.rule s.params s.cycles row))
      by_row same (inl before) = inl (record { trace = s; stands = ap (slice_get old) same ∙ h.before; breaks = before })
      by_row same (inr now) = inr (now.0, (same, now.1))

      by_stream : (o.stream ≡ at) ⊎ (o.stream ≡ at → ⊥) → Offends old o ⊎ ((o.cycle ≡ length s.cycles) × ((o.stream ≡ at) × BreaksAfter o.rule s.params s.cycles row))
      by_stream (inr other) = inl (record { trace = b.trace; stands = sym (h.others o.stream other) ∙ b.stands; breaks = b.breaks })
      by_stream (inl same) =
          let is : b.trace ≡ record { params = s.params; cycles = s.cycles ++ row ∷ [] } = same_some (sym b.stands ∙ ap (slice_get new) same ∙ h.now) in
          by_row same (Breaks-cases o.rule s.params s.cycles row o.cycle (subst (λ (x : StreamTrace). Breaks o.rule x.params x.cycles o.cycle) is b.breaks))

  -- where all old offences stand before this cycle of this stream
  pub adds-one : ((o : Offence) → Offends old o → (o.cycle < length s.cycles) ⊎ ((o.cycle ≡ length s.cycles) × (o.stream < at)))
      → AddsOffences (Offends old) (Offends new) (length s.cycles) at (λ rule. BreaksAfter rule s.params s.cycles row)
  adds-one earlier = record {
    stays = stays;
    earlier = earlier;
    cases = cases;
    here = λ rule broken. record { trace = record { params = s.params; cycles = s.cycles ++ row ∷ [] }; stands = h.now; breaks = Breaks-last rule s.params s.cycles row (length s.cycles) refl broken };
  }
