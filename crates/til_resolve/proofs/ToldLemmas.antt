-- A tree with errors has a reported error, and the tree of a text has at most one.
use Rattle.std.proofs.Common.{◌≡◌, ℕ, zero, suc, ◌<◌, ◌≤◌, ◌⊎◌, inl, inr, Bool, true, false, ◌&&◌, cond, eqb, ltb, List, [], ◌∷◌, length, take, get_or, slice_get, Option, Some, None, is_some, find, Contains, refl, sym, ap, subst, ◌∙◌, arith}
use Rattle.std.proofs.lemmas.Bool.{ltb-true, ltb-false}
use Rattle.std.proofs.lemmas.Bool.Decides.{nat_tests}
use Rattle.tydi_base.specs.declared.place.Place.{Place}
use Rattle.til_lexer.specs.Places.{IsPlaceIn, place_past, start}
use Rattle.til_parser.proofs.LawLemmas.{trees-have_places}
use Rattle.logical_types.specs.Faults.{faults_of}
use Rattle.logical_types.specs.declared.fault.TypeFault.{TypeFault}
use Rattle.til_resolve.specs.declared.fault.ResolveFault.{ResolveFault}
use Rattle.til_resolve.specs.declared.fault.ResolveFault.TheVariants as faults
use Rattle.til_resolve.specs.Declarations.{Declaration, declarations}
use Rattle.til_resolve.specs.Faults.{HasFault, IsChosenBad, IsTold, IsToldBefore, WrittenType, is_bad_at, offset_of, order_of, place_of_fault, written_types}
use Rattle.til_resolve.specs.Laws.{OneFaultIsTold, SomeFaultIsTold}
use Rattle.til_resolve.specs.Names.{unknown}
use Rattle.til_resolve.proofs.StandLemmas.{fault-stands}

pub less-or_not : (m n : ℕ) → (m < n) ⊎ (n ≤ m)
less-or_not m n = by (ltb m n) refl
  where
    by : (b : Bool) → ltb m n ≡ b → (m < n) ⊎ (n ≤ m)
    by true e = inl (ltb-true m n e)
    by false e = inr (ltb-false m n e)

-- ---- one is reported

-- the meaning of an error of an order, by its place
abbrev IsOfOrder : ℕ → ResolveFault → Type 0
IsOfOrder (suc zero) fault = fault ≡ faults.DeclaredTwice (place_of_fault fault)
IsOfOrder (suc (suc zero)) fault = (fault ≡ faults.UnknownName (place_of_fault fault)) ⊎ (fault ≡ faults.WrongKind (place_of_fault fault))
IsOfOrder (suc (suc (suc zero))) fault = fault ≡ faults.CyclicType (place_of_fault fault)
IsOfOrder (suc (suc (suc (suc zero)))) fault = fault ≡ faults.TypeTooLarge (place_of_fault fault)
IsOfOrder (suc (suc (suc (suc (suc zero))))) fault = (bad : TypeFault) × (fault ≡ faults.BadType (place_of_fault fault) bad)
IsOfOrder (suc (suc (suc (suc (suc (suc zero)))))) fault = fault ≡ faults.PortNotStream (place_of_fault fault)
IsOfOrder (suc (suc (suc (suc (suc (suc (suc zero))))))) fault = fault ≡ faults.CyclicInstance (place_of_fault fault)
IsOfOrder order fault = fault ≡ faults.Memory

of_order : (fault : ResolveFault) → IsOfOrder (order_of fault) fault
of_order (faults.DeclaredTwice place) = refl
of_order (faults.UnknownName place) = inl refl
of_order (faults.WrongKind place) = inr refl
of_order (faults.CyclicType place) = refl
of_order (faults.TypeTooLarge place) = refl
of_order (faults.BadType place bad) = (bad, refl)
of_order (faults.PortNotStream place) = refl
of_order (faults.CyclicInstance place) = refl
of_order faults.Memory = refl

same_bad : (types : List WrittenType) (place : Place) (bad other : TypeFault) → IsChosenBad types place bad → IsChosenBad types place other → bad ≡ other
same_bad types place bad other is other_is = let one = is.found in let two = other_is.found in let first = is.is in let second = other_is.is in cc

-- errors of one order and place are one
module _ (all : List Declaration) where
  same : (one other : ResolveFault) → IsTold all one → IsTold all other → order_of other ≡ order_of one → place_of_fault other ≡ place_of_fault one → one ≡ other
  same (faults.DeclaredTwice place) other told other_told order at =
      let is : IsOfOrder 1 other = subst (λ n. IsOfOrder n other) order (of_order other) in sym (is ∙ ap faults.DeclaredTwice at)
  same (faults.UnknownName place) other told other_told order at = by (subst (λ n. IsOfOrder n other) order (of_order other))
    where
      by : IsOfOrder 2 other → faults.UnknownName place ≡ other
      by (inl is) = sym (is ∙ ap faults.UnknownName at)
      by (inr is) =
          let wrong : IsTold all (faults.WrongKind place) = subst (IsTold all) (is ∙ ap faults.WrongKind at) other_told in absurd (omega (arith, wrong.chosen place told.there))
  same (faults.WrongKind place) other told other_told order at = by (subst (λ n. IsOfOrder n other) order (of_order other))
    where
      by : IsOfOrder 2 other → faults.WrongKind place ≡ other
      by (inl is) =
          let unknown : IsTold all (faults.UnknownName place) = subst (IsTold all) (is ∙ ap faults.UnknownName at) other_told in absurd (omega (arith, told.chosen place unknown.there))
      by (inr is) = sym (is ∙ ap faults.WrongKind at)
  same (faults.CyclicType place) other told other_told order at =
      let is : IsOfOrder 3 other = subst (λ n. IsOfOrder n other) order (of_order other) in sym (is ∙ ap faults.CyclicType at)
  same (faults.TypeTooLarge place) other told other_told order at =
      let is : IsOfOrder 4 other = subst (λ n. IsOfOrder n other) order (of_order other) in sym (is ∙ ap faults.TypeTooLarge at)
  same (faults.BadType place bad) other told other_told order at =
      let is : IsOfOrder 5 other = subst (λ n. IsOfOrder n other) order (of_order other) in
      let it : other ≡ faults.BadType place is.0 = is.1 ∙ ap (λ (p : Place). faults.BadType p is.0) at in
      let bad_told : IsTold all (faults.BadType place is.0) = subst (IsTold all) it other_told in
      ap (faults.BadType place) (same_bad (written_types all) place bad is.0 told.chosen bad_told.chosen) ∙ sym it
  same (faults.PortNotStream place) other told other_told order at =
      let is : IsOfOrder 6 other = subst (λ n. IsOfOrder n other) order (of_order other) in sym (is ∙ ap faults.PortNotStream at)
  same (faults.CyclicInstance place) other told other_told order at =
      let is : IsOfOrder 7 other = subst (λ n. IsOfOrder n other) order (of_order other) in sym (is ∙ ap faults.CyclicInstance at)
  same faults.Memory other told other_told order at = absurd told.there

-- errors that are reported before one another have one order and stand at one offset
both-before : (one other : ResolveFault) → IsToldBefore one other → IsToldBefore other one → (order_of other ≡ order_of one) × (offset_of other ≡ offset_of one)
both-before one other (inl before) (inl after) = absurd (omega (arith, before, after))
both-before one other (inl before) (inr after) = absurd (omega (arith, before, after.0))
both-before one other (inr before) (inl after) = absurd (omega (arith, before.0, after))
both-before one other (inr before) (inr after) = (omega (arith, before.0), omega (arith, before.1, after.1))

pub one-told : OneFaultIsTold
one-told text ast one other tree told other_told =
    let places = trees-have_places text ast tree in
    let both = both-before one other (told.first other other_told.there) (other_told.first one told.there) in
    let stands = fault-stands (IsPlaceIn text) ast places one told.there in
    let other_stands = fault-stands (IsPlaceIn text) ast places other other_told.there in
    same (declarations ast) one other told other_told both.0
    (other_stands ∙ ap (λ (n : ℕ). place_past start (take n text)) both.1 ∙ sym stands)

-- ---- some error is reported

-- the first of a list that passes a test
record IsFirstFound {X : Type 0} (test : X → Bool) (xs : List X) (found : Option X) : Type 0 where
  one : X
  is : found ≡ Some one
  passes : test one ≡ true
  inside : Contains xs one

first-found : {X : Type 0} (test : X → Bool) (xs : List X) (x : X) (n : ℕ) → n < length xs → get_or xs n x ≡ x → test x ≡ true → IsFirstFound test xs (find test xs)
first-found {X} test [] x n within same is = absurd (omega (arith, within))
first-found {X} test (first ∷ xs) x zero within same is = by (test first) refl
  where
    by : (b : Bool) → test first ≡ b → IsFirstFound test (first ∷ xs) (cond b (Some first) (find test xs))
    by true passes = record { one = first; is = refl; passes = passes; inside = (0, omega arith, refl) }
    by false fails = absurd (let e = ap test same in cc)
first-found {X} test (first ∷ xs) x (suc n) within same is = by (test first) refl (first-found test xs x n (omega (arith, within)) same is)
  where
    by : (b : Bool) → test first ≡ b → IsFirstFound test xs (find test xs) → IsFirstFound test (first ∷ xs) (cond b (Some first) (find test xs))
    by true passes rest = record { one = first; is = refl; passes = passes; inside = (0, omega arith, refl) }
    by false fails rest = record { one = rest.one; is = rest.is; passes = rest.passes; inside = (suc rest.inside.0, omega (arith, rest.inside.1), rest.inside.2) }

module _ (all : List Declaration) (none : (fault : ResolveFault) → IsTold all fault → ⊥) where
  abbrev Least : ResolveFault → Type 0
  Least fault = (other : ResolveFault) → HasFault all other → IsToldBefore fault other

  -- an error of the same order, at no later place, is reported before the same errors
  as-soon : (one other fault : ResolveFault) → order_of other ≡ order_of one → offset_of other ≤ offset_of one → IsToldBefore one fault → IsToldBefore other fault
  as-soon one other fault order offset (inl before) = inl (omega (arith, order, before))
  as-soon one other fault order offset (inr before) = inr (order ∙ before.0, omega (arith, before.1, offset))

  some_fault : (found : Option TypeFault) → is_some found ≡ true → (bad : TypeFault) × (found ≡ Some bad)
  some_fault None is = absurd cc
  some_fault (Some bad) is = (bad, refl)

  both_true : (a b : Bool) → (a && b) ≡ true → (a ≡ true) × (b ≡ true)
  both_true true b e = (refl, e)
  both_true false b e = absurd cc

  is_bad : (one : WrittenType) (place : Place) (bad : TypeFault) → one.place.offset ≡ place.offset → slice_get (faults_of one.ltype) 0 ≡ Some bad → is_bad_at place.offset one ≡ true
  is_bad one place bad at is = by (eqb one.place.offset place.offset) (grind (arith, nat_tests))
    where
      by : (b : Bool) → b ≡ true → (b && is_some (slice_get (faults_of one.ltype) 0)) ≡ true
      by true e = ap (λ (o : Option TypeFault). is_some o) is
      by false e = absurd cc

  bad-chosen : (place : Place) (bad : TypeFault) → HasFault all (faults.BadType place bad) → Least (faults.BadType place bad) → ⊥
  bad-chosen place bad there least =
      let at : there.one.place.offset ≡ place.offset = ap (λ (p : Place). p.offset) there.at in
      let found = first-found (is_bad_at place.offset) (written_types all) there.one there.written.0 there.written.1 there.written.2 (is_bad there.one place bad at there.is) in
      let tests = both_true (eqb found.one.place.offset place.offset) (is_some (slice_get (faults_of found.one.ltype) 0)) found.passes in
      let offset : found.one.place.offset ≡ place.offset = (let e = tests.0 in grind (arith, nat_tests)) in
      let fault = some_fault (slice_get (faults_of found.one.ltype) 0) tests.1 in
      none (faults.BadType found.one.place fault.0) (record {
        there = record { one = found.one; written = found.inside; at = refl; is = fault.1 };
        first = λ other h. as-soon (faults.BadType place bad) (faults.BadType found.one.place fault.0) other refl (omega (arith, offset)) (least other h);
        chosen = record { one = found.one; found = ap (λ (n : ℕ). find (is_bad_at n) (written_types all)) offset ∙ found.is; at = refl; is = fault.1 };
      })

  wrong-chosen : (place : Place) → HasFault all (faults.WrongKind place) → Least (faults.WrongKind place) → ⊥
  wrong-chosen place there least = none (faults.WrongKind place) (record { there = there; first = least; chosen = chosen })
    where
      chosen : (other : Place) → Contains (unknown all) other → place.offset < other.offset
      chosen other known = by (less-or_not place.offset other.offset)
        where
          by : (place.offset < other.offset) ⊎ (other.offset ≤ place.offset) → place.offset < other.offset
          by (inl before) = before
          by (inr not_before) = absurd (none (faults.UnknownName other) (record {
            there = known;
            first = λ fault h. as-soon (faults.WrongKind place) (faults.UnknownName other) fault refl not_before (least fault h);
            chosen = tt;
          }))

  least-none : (fault : ResolveFault) → HasFault all fault → Least fault → ⊥
  least-none (faults.DeclaredTwice place) there least = none (faults.DeclaredTwice place) (record { there = there; first = least; chosen = tt })
  least-none (faults.UnknownName place) there least = none (faults.UnknownName place) (record { there = there; first = least; chosen = tt })
  least-none (faults.WrongKind place) there least = wrong-chosen place there least
  least-none (faults.CyclicType place) there least = none (faults.CyclicType place) (record { there = there; first = least; chosen = tt })
  least-none (faults.TypeTooLarge place) there least = none (faults.TypeTooLarge place) (record { there = there; first = least; chosen = tt })
  least-none (faults.BadType place bad) there least = bad-chosen place bad there least
  least-none (faults.PortNotStream place) there least = none (faults.PortNotStream place) (record { there = there; first = least; chosen = tt })
  least-none (faults.CyclicInstance place) there least = none (faults.CyclicInstance place) (record { there = there; first = least; chosen = tt })
  least-none faults.Memory there least = there

  -- none of an order, where there is none of a lower one, by how far it stands
  none-before : (order bound : ℕ) → ((fault : ResolveFault) → order_of fault < order → HasFault all fault → ⊥)
      → (fault : ResolveFault) → order_of fault ≡ order → offset_of fault < bound → HasFault all fault → ⊥
  none-before order zero lower fault is within there = absurd (omega (arith, within))
  none-before order (suc bound) lower fault is within there = least-none fault there (least (none-before order bound lower))
    where
      at_order : ((nearer : ResolveFault) → order_of nearer ≡ order → offset_of nearer < bound → HasFault all nearer → ⊥)
          → (other : ResolveFault) → HasFault all other → order_of fault ≡ order_of other → IsToldBefore fault other
      at_order nearer other h same = by (less-or_not (offset_of other) (offset_of fault))
        where
          by : (offset_of other < offset_of fault) ⊎ (offset_of fault ≤ offset_of other) → IsToldBefore fault other
          by (inl before) = absurd (nearer other (sym same ∙ is) (omega (arith, before, within)) h)
          by (inr not_before) = inr (same, not_before)

      least : ((nearer : ResolveFault) → order_of nearer ≡ order → offset_of nearer < bound → HasFault all nearer → ⊥)
          → (other : ResolveFault) → HasFault all other → IsToldBefore fault other
      least nearer other h = by (less-or_not (order_of fault) (order_of other)) (less-or_not (order_of other) (order_of fault))
        where
          by : (order_of fault < order_of other) ⊎ (order_of other ≤ order_of fault) → (order_of other < order_of fault) ⊎ (order_of fault ≤ order_of other) → IsToldBefore fault other
          by (inl before) either = inl before
          by (inr no_later) (inl lower_order) = absurd (lower other (omega (arith, lower_order, is)) h)
          by (inr no_later) (inr no_lower) = at_order nearer other h (omega (arith, no_later, no_lower))

  none-below : (order : ℕ) (fault : ResolveFault) → order_of fault < order → HasFault all fault → ⊥
  none-below zero fault within there = absurd (omega (arith, within))
  none-below (suc order) fault within there = by (none-below order) (less-or_not (order_of fault) order)
    where
      by : ((other : ResolveFault) → order_of other < order → HasFault all other → ⊥) → (order_of fault < order) ⊎ (order ≤ order_of fault) → ⊥
      by lower (inl less) = lower fault less there
      by lower (inr no_less) = none-before order (suc (offset_of fault)) lower fault (omega (arith, within, no_less)) (omega arith) there

pub some-told : SomeFaultIsTold
some-told ast none fault there = none-below (declarations ast) none (suc (order_of fault)) fault (omega arith) there
