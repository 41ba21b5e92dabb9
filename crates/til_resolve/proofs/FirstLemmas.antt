-- The error of a tree that is reported.
use Rattle.std.proofs.Common.{◌≡◌, ℕ, zero, suc, ◌<◌, ◌≤◌, inl, inr, Bool, true, false, cond, ltb, List, ◌++◌, length, Option, Some, None, Contains, refl, sym, ap, subst, ◌∙◌, arith}
use Rattle.std.proofs.lemmas.Bool.{ltb-true, ltb-false}
use Rattle.tydi_base.specs.declared.place.Place.{Place}
use Rattle.til_resolve.specs.declared.bad_types.BadType.{BadType}
use Rattle.til_resolve.specs.declared.fault.ResolveFault.{ResolveFault}
use Rattle.til_resolve.specs.declared.fault.ResolveFault.TheVariants as faults
use Rattle.til_resolve.specs.declared.names.Sought.TheVariants as sought
use Rattle.til_resolve.specs.BadTypes.{IsFirstBad}
use Rattle.til_resolve.specs.Declarations.{Declaration, declaration, before}
use Rattle.til_resolve.specs.Earliest.{IsEarliest}
use Rattle.til_resolve.specs.declared.misshapen.Sort.TheVariants as sorts
use Rattle.til_resolve.specs.Faults.{HasFault, HasTypeAt, IsToldBefore, IsToldUpTo, order_of, written_types}
use Rattle.til_resolve.specs.Names.{twice, unknown, wrong_kinds, refused, is_wrong_kind, uses_in}
use Rattle.til_resolve.specs.Shapes.{IsMisshapen}
use Rattle.til_resolve.specs.Sought.{all_refused, refused_at, first_of_both}
use Rattle.til_resolve.proofs.AgainLemmas.{append_nil}

-- an error that is reported of those up to a place in the order is reported of those up to any later place
pub told-further : (all : List Declaration) (order further : ℕ) (fault : ResolveFault) → IsToldUpTo all order (Some fault) → IsToldUpTo all further (Some fault)
told-further all order further fault is = record { told = is.told; chosen = is.chosen }

-- ---- names that are declared twice

pub told-twice : (all : List Declaration) (place : Place) → IsEarliest (Contains (twice all)) (Some place) → IsToldUpTo all 2 (Some (faults.DeclaredTwice place))
told-twice all place is = record { told = (is.told.there, first); chosen = tt }
  where
    first : (other : ResolveFault) → HasFault all other → IsToldBefore (faults.DeclaredTwice place) other
    first (faults.DeclaredTwice q) there = inr (refl, is.told.first q there)
    first (faults.UnknownName q) there = inl (omega arith)
    first (faults.WrongKind q) there = inl (omega arith)
    first (faults.CyclicType q) there = inl (omega arith)
    first (faults.TypeTooLarge q) there = inl (omega arith)
    first (faults.BadType q fault) there = inl (omega arith)
    first (faults.PortNotStream q) there = inl (omega arith)
    first (faults.CyclicInstance q) there = inl (omega arith)
    first faults.Memory there = absurd there

-- ---- paths that are refused

-- nothing else is refused for its kind
wrong_kinds-is : (all : List Declaration) (end : ℕ) → all_refused sought.WrongKind all end ≡ before (λ number. refused (is_wrong_kind all) (uses_in (declaration all number))) end
wrong_kinds-is all zero = refl
wrong_kinds-is all (suc number) = ap (λ (l : List Place). l ++ refused_at sought.WrongKind all number) (wrong_kinds-is all number)
    ∙ ap (λ (l : List Place). before (λ number. refused (is_wrong_kind all) (uses_in (declaration all number))) number ++ l) (append_nil (refused (is_wrong_kind all) (uses_in (declaration all number))))

-- a path that names nothing, and stands before those that name another kind
told-unknown : (all : List Declaration) (place : Place) → IsEarliest (Contains (twice all)) None → IsEarliest (Contains (unknown all)) (Some place)
    → ((q : Place) → Contains (wrong_kinds all) q → place.offset ≤ q.offset) → IsToldUpTo all 2 (Some (faults.UnknownName place))
told-unknown all place none is wrong = record { told = (is.told.there, first); chosen = tt }
  where
    first : (other : ResolveFault) → HasFault all other → IsToldBefore (faults.UnknownName place) other
    first (faults.DeclaredTwice q) there = absurd (none.told q there)
    first (faults.UnknownName q) there = inr (refl, is.told.first q there)
    first (faults.WrongKind q) there = inr (refl, wrong q there)
    first (faults.CyclicType q) there = inl (omega arith)
    first (faults.TypeTooLarge q) there = inl (omega arith)
    first (faults.BadType q fault) there = inl (omega arith)
    first (faults.PortNotStream q) there = inl (omega arith)
    first (faults.CyclicInstance q) there = inl (omega arith)
    first faults.Memory there = absurd there

told-wrong : (all : List Declaration) (place : Place) → IsEarliest (Contains (twice all)) None → IsEarliest (Contains (wrong_kinds all)) (Some place)
    → ((q : Place) → Contains (unknown all) q → place.offset < q.offset) → IsToldUpTo all 2 (Some (faults.WrongKind place))
told-wrong all place none is before_unknown = record { told = (is.told.there, first); chosen = before_unknown }
  where
    first : (other : ResolveFault) → HasFault all other → IsToldBefore (faults.WrongKind place) other
    first (faults.DeclaredTwice q) there = absurd (none.told q there)
    first (faults.UnknownName q) there = inr (refl, omega (arith, before_unknown q there))
    first (faults.WrongKind q) there = inr (refl, is.told.first q there)
    first (faults.CyclicType q) there = inl (omega arith)
    first (faults.TypeTooLarge q) there = inl (omega arith)
    first (faults.BadType q fault) there = inl (omega arith)
    first (faults.PortNotStream q) there = inl (omega arith)
    first (faults.CyclicInstance q) there = inl (omega arith)
    first faults.Memory there = absurd there

told-nothing : (all : List Declaration) → IsEarliest (Contains (twice all)) None → IsEarliest (Contains (unknown all)) None → IsEarliest (Contains (wrong_kinds all)) None → IsToldUpTo all 2 None
told-nothing all none no_unknown no_wrong = record { told = never; chosen = tt }
  where
    never : (fault : ResolveFault) → order_of fault ≤ 2 → ¬ HasFault all fault
    never (faults.DeclaredTwice q) low there = none.told q there
    never (faults.UnknownName q) low there = no_unknown.told q there
    never (faults.WrongKind q) low there = no_wrong.told q there
    never (faults.CyclicType q) low there = absurd (omega (arith, low))
    never (faults.TypeTooLarge q) low there = absurd (omega (arith, low))
    never (faults.BadType q fault) low there = absurd (omega (arith, low))
    never (faults.PortNotStream q) low there = absurd (omega (arith, low))
    never (faults.CyclicInstance q) low there = absurd (omega (arith, low))
    never faults.Memory low there = there

told-both : (all : List Declaration) (one other : Option Place) → IsEarliest (Contains (twice all)) None → IsEarliest (Contains (unknown all)) one → IsEarliest (Contains (wrong_kinds all)) other
    → IsToldUpTo all 2 (first_of_both one other)
told-both all None None none is wrong = told-nothing all none is wrong
told-both all None (Some place) none is wrong = told-wrong all place none wrong (λ q there. absurd (is.told q there))
told-both all (Some place) None none is wrong = told-unknown all place none is (λ q there. absurd (wrong.told q there))
told-both all (Some place) (Some second) none is wrong = by (ltb second.offset place.offset) refl
  where
    by : (b : Bool) → ltb second.offset place.offset ≡ b → IsToldUpTo all 2 (cond b (Some (faults.WrongKind second)) (Some (faults.UnknownName place)))
    by true earlier = told-wrong all second none wrong (λ q there. omega (arith, is.told.first q there, ltb-true second.offset place.offset earlier))
    by false later = told-unknown all place none is (λ q there. omega (arith, wrong.told.first q there, ltb-false second.offset place.offset later))

pub told-names : (all : List Declaration) (one other : Option Place) (result : Option ResolveFault) → result ≡ first_of_both one other → IsEarliest (Contains (twice all)) None
    → IsEarliest (Contains (all_refused sought.Unknown all (length all))) one → IsEarliest (Contains (all_refused sought.WrongKind all (length all))) other → IsToldUpTo all 2 result
told-names all one other result is none first second =
    subst (IsToldUpTo all 2) (sym is)
    (told-both all one other none first (subst (λ (l : List Place). IsEarliest (Contains l) other) (wrong_kinds-is all (length all)) second))

-- ---- types that are too large

pub told-too_large : (all : List Declaration) (place : Place) → IsToldUpTo all 3 None → IsEarliest (HasTypeAt (IsMisshapen sorts.TooLarge) (written_types all)) (Some place)
    → IsToldUpTo all 4 (Some (faults.TypeTooLarge place))
told-too_large all place none is = record { told = (large place is.told.there, first); chosen = tt }
  where
    large : (q : Place) → HasTypeAt (IsMisshapen sorts.TooLarge) (written_types all) q → HasFault all (faults.TypeTooLarge q)
    large q there = record { one = there.one; written = there.written; at = there.at; is = there.is }

    first : (other : ResolveFault) → HasFault all other → IsToldBefore (faults.TypeTooLarge place) other
    first (faults.DeclaredTwice q) there = absurd (none.told (faults.DeclaredTwice q) (omega arith) there)
    first (faults.UnknownName q) there = absurd (none.told (faults.UnknownName q) (omega arith) there)
    first (faults.WrongKind q) there = absurd (none.told (faults.WrongKind q) (omega arith) there)
    first (faults.CyclicType q) there = absurd (none.told (faults.CyclicType q) (omega arith) there)
    first (faults.TypeTooLarge q) there = inr (refl, is.told.first q (record { one = there.one; written = there.written; at = there.at; is = there.is }))
    first (faults.BadType q fault) there = inl (omega arith)
    first (faults.PortNotStream q) there = inl (omega arith)
    first (faults.CyclicInstance q) there = inl (omega arith)
    first faults.Memory there = absurd there

pub told-none_too_large : (all : List Declaration) → IsToldUpTo all 3 None → IsEarliest (HasTypeAt (IsMisshapen sorts.TooLarge) (written_types all)) None → IsToldUpTo all 4 None
told-none_too_large all none is = record { told = never; chosen = tt }
  where
    never : (fault : ResolveFault) → order_of fault ≤ 4 → ¬ HasFault all fault
    never (faults.DeclaredTwice q) low there = none.told (faults.DeclaredTwice q) (omega arith) there
    never (faults.UnknownName q) low there = none.told (faults.UnknownName q) (omega arith) there
    never (faults.WrongKind q) low there = none.told (faults.WrongKind q) (omega arith) there
    never (faults.CyclicType q) low there = none.told (faults.CyclicType q) (omega arith) there
    never (faults.TypeTooLarge q) low there = is.told q (record { one = there.one; written = there.written; at = there.at; is = there.is })
    never (faults.BadType q fault) low there = absurd (omega (arith, low))
    never (faults.PortNotStream q) low there = absurd (omega (arith, low))
    never (faults.CyclicInstance q) low there = absurd (omega (arith, low))
    never faults.Memory low there = there

-- ---- types that have a fault

pub told-bad : (all : List Declaration) (bad : BadType) → IsToldUpTo all 4 None → IsFirstBad (written_types all) (Some bad) → IsToldUpTo all 5 (Some (faults.BadType bad.place bad.fault))
told-bad all bad none is = record { told = (is.bad, first); chosen = is.chosen }
  where
    first : (other : ResolveFault) → HasFault all other → IsToldBefore (faults.BadType bad.place bad.fault) other
    first (faults.DeclaredTwice q) there = absurd (none.told (faults.DeclaredTwice q) (omega arith) there)
    first (faults.UnknownName q) there = absurd (none.told (faults.UnknownName q) (omega arith) there)
    first (faults.WrongKind q) there = absurd (none.told (faults.WrongKind q) (omega arith) there)
    first (faults.CyclicType q) there = absurd (none.told (faults.CyclicType q) (omega arith) there)
    first (faults.TypeTooLarge q) there = absurd (none.told (faults.TypeTooLarge q) (omega arith) there)
    first (faults.BadType q fault) there =
        inr (refl, is.first.told.first q (record { one = there.one; written = there.written; at = there.at; is = record { fault = fault; first = there.is } }))
    first (faults.PortNotStream q) there = inl (omega arith)
    first (faults.CyclicInstance q) there = inl (omega arith)
    first faults.Memory there = absurd there

pub told-no_bad : (all : List Declaration) → IsToldUpTo all 4 None → IsFirstBad (written_types all) None → IsToldUpTo all 5 None
told-no_bad all none is = record { told = never; chosen = tt }
  where
    never : (fault : ResolveFault) → order_of fault ≤ 5 → ¬ HasFault all fault
    never (faults.DeclaredTwice q) low there = none.told (faults.DeclaredTwice q) (omega arith) there
    never (faults.UnknownName q) low there = none.told (faults.UnknownName q) (omega arith) there
    never (faults.WrongKind q) low there = none.told (faults.WrongKind q) (omega arith) there
    never (faults.CyclicType q) low there = none.told (faults.CyclicType q) (omega arith) there
    never (faults.TypeTooLarge q) low there = none.told (faults.TypeTooLarge q) (omega arith) there
    never (faults.BadType q fault) low there = is.first.told q (record { one = there.one; written = there.written; at = there.at; is = record { fault = fault; first = there.is } })
    never (faults.PortNotStream q) low there = absurd (omega (arith, low))
    never (faults.CyclicInstance q) low there = absurd (omega (arith, low))
    never faults.Memory low there = there
