-- Types that have a fault, and what is kept of those that were looked at. It serves the search for such types, and no public clause.
use Rattle.std.specs.Prelude.{◌≡◌, ℕ, suc, ◌<◌, nat_lt, List, length, slice_get, slice_index_or, Option, Some, None, IfSome, if◌then◌else◌}
use Rattle.tydi_base.specs.declared.place.Place.{Place}
use Rattle.logical_types.specs.Tree.{Ltype}
use Rattle.logical_types.specs.Faults.{faults_of}
use Rattle.logical_types.specs.declared.fault.TypeFault.{TypeFault}
use Rattle.til_resolve.specs.declared.bad_types.BadType.{BadType}
use Rattle.til_resolve.specs.declared.bad_types.Findings.{Findings}
use Rattle.til_resolve.specs.declared.bad_types.Verdict.{Verdict}
use Rattle.til_resolve.specs.declared.bad_types.Verdict.TheVariants as verdicts
use Rattle.til_resolve.specs.declared.written.Written.{Written}
use Rattle.til_resolve.specs.Chains.{AreChains}
use Rattle.til_resolve.specs.Cycles.{IsCyclicType}
use Rattle.til_resolve.specs.Declarations.{Declaration}
use Rattle.til_resolve.specs.Earliest.{IsEarliest}
use Rattle.til_resolve.specs.Faults.{WrittenType, HasTypeAt, IsChosenBad}
use Rattle.til_resolve.specs.Shapes.{type_at}
use Rattle.til_resolve.specs.SharedTypes.{AreTypes}
use Rattle.til_resolve.specs.Written.{place_of, ltype_of}

-- the first error of a type, if it has any
abbrev pub first_fault : Ltype → Option TypeFault
first_fault ltype = slice_get (faults_of ltype) 0

-- no type declaration leads to itself
pub record AreAcyclic (all : List Declaration) : Type 0 where
  pub each : (one : ℕ) → one < length all → ¬ IsCyclicType all one

-- ---- the first written type that has a fault

-- a written type that has a fault
pub record HasSomeFault (one : WrittenType) : Type 0 where
  pub fault : TypeFault
  pub first : first_fault one.ltype ≡ Some fault

-- one of these types, with this place, has this error as its first
abbrev pub IsBadIn : List WrittenType → BadType → Type 0
IsBadIn types bad = HasTypeAt (λ one. first_fault one.ltype ≡ Some bad.fault) types bad.place

abbrev pub place_found : Option BadType → Option Place
place_found None = None
place_found (Some bad) = Some bad.place

-- the finding stands at the first place of a type with an error, and is the first such type that is reported there; nothing is
-- found where there is none
pub record IsFirstBad (types : List WrittenType) (found : Option BadType) : Type 0 where
  pub first : IsEarliest (HasTypeAt HasSomeFault types) (place_found found)
  pub bad : IfSome found (IsBadIn types)
  pub chosen : IfSome found (λ bad. IsChosenBad types bad.place bad.fault)

-- a type at a place with its first fault, if it has any
abbrev pub bad_at : Place → Option TypeFault → Option BadType
bad_at place None = None
bad_at place (Some fault) = Some (record { place = place; fault = fault })

abbrev pub bad_type : List Declaration → Written → Option BadType
bad_type all one = bad_at (place_of all one) (first_fault (ltype_of all one))

-- the one of two that stands before the other
abbrev pub earlier_bad : Option BadType → Option BadType → Option BadType
earlier_bad None other = other
earlier_bad (Some first) None = Some first
earlier_bad (Some first) (Some second) = if nat_lt second.place.offset first.place.offset then Some second else Some first

-- ---- the findings kept about the types of declarations

abbrev pub verdict_at : List Verdict → ℕ → Verdict
verdict_at kept one = slice_index_or kept one verdicts.Unknown

-- a known verdict on a declaration's type is the first error of the type
pub record AreVerdicts (all : List Declaration) (kept : List Verdict) : Type 0 where
  pub each : (one : ℕ) (fault : Option TypeFault) → verdict_at kept one ≡ verdicts.Known fault → fault ≡ first_fault (type_at all (suc (length all)) one)

-- the types of all declarations, their roots, and what was found of them
pub record AreFindings (all : List Declaration) (findings : Findings) : Type 0 where
  pub types : AreTypes all (length all) findings.types
  pub chains : AreChains all findings.chains
  pub verdicts : AreVerdicts all findings.verdicts.items
