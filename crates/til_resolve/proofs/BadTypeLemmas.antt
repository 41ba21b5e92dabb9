-- The first written type that has a fault, one type after another, and what is kept of the types of declarations.
use Rattle.std.proofs.Common.{◌≡◌, All, ℕ, zero, suc, ◌+◌, ◌<◌, ◌≤◌, Bool, true, false, ◌&&◌, cond, eqb, ltb, find, List, [], ◌∷◌, ◌++◌, length, map, replicate, get_or, set, take, Option, Some, None, is_some, IfSome, Contains, refl, sym, ap, subst, ◌∙◌, arith}
use Rattle.std.specs.Bool.{then_some}
use Rattle.std.proofs.lemmas.Bool.{leb-true, leb-false, lt-ltb, ltb-true}
use Rattle.std.proofs.lemmas.Bool.Decides.{nat_tests}
use Rattle.std.specs.List.{slice_get}
use Rattle.std.proofs.lemmas.List.{get_or_default, take_more, take_all, map-append}
use Rattle.std.proofs.lemmas.List.Elements.{Contains-append_left, Contains-append_right, Contains-push}
use Rattle.tydi_base.specs.declared.place.Place.{Place}
use Rattle.logical_types.specs.declared.fault.TypeFault.{TypeFault}
use Rattle.logical_types.specs.declared.ltype.LType.{LType}
use Rattle.logical_types.specs.Summary.{IsShownValid}
use Rattle.til_resolve.specs.declared.bad_types.BadType.{BadType}
use Rattle.til_resolve.specs.declared.bad_types.Findings.{Findings}
use Rattle.til_resolve.specs.declared.bad_types.Verdict.{Verdict}
use Rattle.til_resolve.specs.declared.bad_types.Verdict.TheVariants as verdicts
use Rattle.til_resolve.specs.declared.chains.Chain.{Chain}
use Rattle.til_resolve.specs.declared.fault.ResolveFault.TheVariants as faults
use Rattle.til_resolve.specs.declared.written.Written.{Written}
use Rattle.til_resolve.specs.BadTypes.{first_fault, AreAcyclic, HasSomeFault, IsBadIn, place_found, IsFirstBad, bad_at, bad_type, earlier_bad, verdict_at, AreVerdicts, AreFindings}
use Rattle.til_resolve.specs.Chains.{chain_at, AreChains, IsChain}
use Rattle.til_resolve.specs.Declarations.{Declaration, declaration}
use Rattle.til_resolve.specs.Earliest.{earlier, stands_first}
use Rattle.til_resolve.specs.Faults.{WrittenType, HasTypeAt, IsChosenBad, IsToldUpTo, is_bad_at, written_types}
use Rattle.til_resolve.specs.Shapes.{type_at}
use Rattle.til_resolve.specs.SharedTypes.{ltype_at, AreTypes}
use Rattle.til_resolve.specs.Written.{written_type, place_of, ltype_of, AreWritten}
use Rattle.til_resolve.proofs.ChainLemmas.{root-is}
use Rattle.til_resolve.proofs.MisshapenLemmas.{types-none, types-one, types-grown}
use Rattle.til_resolve.proofs.TableLemmas.{get_or-replicate, each-kept}

-- ---- one type more

pub IsFirstBad-none : IsFirstBad [] None
IsFirstBad-none = record { first = types-none HasSomeFault; bad = tt; chosen = tt }

-- the place of the earlier of the two
place-earlier : (found : Option BadType) (place : Place) (o : Option TypeFault) → place_found (earlier_bad found (bad_at place o)) ≡ earlier (place_found found) (then_some (is_some o) place)
place-earlier None place None = refl
place-earlier None place (Some fault) = refl
place-earlier (Some bad) place None = refl
place-earlier (Some bad) place (Some fault) = by (ltb place.offset bad.place.offset)
  where
    by : (b : Bool) → place_found (cond b (Some (record { place = place; fault = fault })) (Some bad)) ≡ cond b (Some place) (Some bad.place)
    by true = refl
    by false = refl

some-there : (one : WrittenType) (o : Option TypeFault) → first_fault one.ltype ≡ o → is_some o ≡ true → HasSomeFault one
some-there one None is some = cc
some-there one (Some fault) is some = record { fault = fault; first = is }

some-back : (one : WrittenType) → HasSomeFault one → is_some (first_fault one.ltype) ≡ true
some-back one has = ap (λ (o : Option TypeFault). is_some o) has.first

-- the types so far and one more
module _ (front : List WrittenType) (one : WrittenType) where
  kept : (bad : BadType) → IsBadIn front bad → IsBadIn (front ++ one ∷ []) bad
  kept bad there = record { one = there.one; written = Contains-append_left front (one ∷ []) there.one there.written; at = there.at; is = there.is }

  here : (fault : TypeFault) → first_fault one.ltype ≡ Some fault → IsBadIn (front ++ one ∷ []) (record { place = one.place; fault = fault })
  here fault is = record { one = one; written = Contains-append_right front (one ∷ []) one (Contains-push [] one); at = refl; is = is }

  bad-more : (found : Option BadType) (o : Option TypeFault) → first_fault one.ltype ≡ o → IfSome found (IsBadIn front)
      → IfSome (earlier_bad found (bad_at one.place o)) (IsBadIn (front ++ one ∷ []))
  bad-more None None is so = tt
  bad-more None (Some fault) is so = here fault is
  bad-more (Some bad) None is so = kept bad so
  bad-more (Some bad) (Some fault) is so = by (ltb one.place.offset bad.place.offset)
    where
      by : (b : Bool) → IfSome (cond b (Some (record { place = one.place; fault = fault })) (Some bad)) (IsBadIn (front ++ one ∷ []))
      by true = here fault is
      by false = kept bad so

-- ---- the first that is reported at a place

-- a type that is found in a list is found in a longer one
find-kept : (test : WrittenType → Bool) (front back : List WrittenType) (one : WrittenType) → find test front ≡ Some one → find test (front ++ back) ≡ Some one
find-kept test [] back one is = absurd cc
find-kept test (x ∷ front) back one is = by (test x) is (find-kept test front back one)
  where
    by : (b : Bool) → cond b (Some x) (find test front) ≡ Some one → (find test front ≡ Some one → find test (front ++ back) ≡ Some one)
        → cond b (Some x) (find test (front ++ back)) ≡ Some one
    by true is rest = is
    by false is rest = rest is

-- the last of a list of which nothing before passes
find-last : (test : WrittenType → Bool) (front : List WrittenType) (one : WrittenType) → ((x : WrittenType) → Contains front x → test x ≡ false) → test one ≡ true
    → find test (front ++ one ∷ []) ≡ Some one
find-last test [] one none is = ap (λ b. cond b (Some one) None) is
find-last test (x ∷ front) one none is =
    ap (λ b. cond b (Some x) (find test (front ++ one ∷ []))) (none x (0, omega arith, refl))
    ∙ find-last test front one (λ y there. none y (suc there.0, omega (arith, there.1), there.2)) is

-- a type without an error, or with another place, does not pass
fails : (types : List WrittenType) (offset : ℕ) → ((place : Place) → HasTypeAt HasSomeFault types place → place.offset ≡ offset → ⊥)
    → (x : WrittenType) → Contains types x → is_bad_at offset x ≡ false
fails types offset none x there = by (eqb x.place.offset offset) refl (first_fault x.ltype) refl
  where
    by : (b : Bool) → eqb x.place.offset offset ≡ b → (o : Option TypeFault) → first_fault x.ltype ≡ o → (b && is_some o) ≡ false
    by false at o is = refl
    by true at None is = refl
    by true at (Some fault) is =
        let same : x.place.offset ≡ offset = grind (arith, nat_tests) in
        absurd (none x.place (record { one = x; written = there; at = refl; is = record { fault = fault; first = is } }) same)

passes : (one : WrittenType) (fault : TypeFault) → first_fault one.ltype ≡ Some fault → is_bad_at one.place.offset one ≡ true
passes one fault is = by (eqb one.place.offset one.place.offset) (grind (arith, nat_tests))
  where
    by : (b : Bool) → b ≡ true → (b && is_some (first_fault one.ltype)) ≡ true
    by true e = ap (λ (o : Option TypeFault). is_some o) is
    by false e = absurd cc

module _ (front : List WrittenType) (one : WrittenType) where
  still : (bad : BadType) → IsChosenBad front bad.place bad.fault → IsChosenBad (front ++ one ∷ []) bad.place bad.fault
  still bad is = record { one = is.one; found = find-kept (is_bad_at bad.place.offset) front (one ∷ []) is.one is.found; at = is.at; is = is.is }

  new : (fault : TypeFault) → first_fault one.ltype ≡ Some fault → ((place : Place) → HasTypeAt HasSomeFault front place → place.offset ≡ one.place.offset → ⊥)
      → IsChosenBad (front ++ one ∷ []) one.place fault
  new fault is none = record {
    one = one;
    found = find-last (is_bad_at one.place.offset) front one (fails front one.place.offset none) (passes one fault is);
    at = refl;
    is = is;
  }

  chosen-more : (found : Option BadType) (o : Option TypeFault) → first_fault one.ltype ≡ o → IsFirstBad front found
      → IfSome (earlier_bad found (bad_at one.place o)) (λ bad. IsChosenBad (front ++ one ∷ []) bad.place bad.fault)
  chosen-more None None is so = tt
  chosen-more None (Some fault) is so = new fault is (λ place there same. so.first.told place there)
  chosen-more (Some bad) None is so = still bad so.chosen
  chosen-more (Some bad) (Some fault) is so = by (ltb one.place.offset bad.place.offset) refl
    where
      by : (b : Bool) → ltb one.place.offset bad.place.offset ≡ b
          → IfSome (cond b (Some (record { place = one.place; fault = fault })) (Some bad)) (λ bad. IsChosenBad (front ++ one ∷ []) bad.place bad.fault)
      by true before = new fault is (λ place there same. omega (arith, so.first.told.first place there, ltb-true one.place.offset bad.place.offset before, same))
      by false before = still bad so.chosen

pub IsFirstBad-more : (all : List Declaration) (written : List Written) (i : ℕ) (one : Written) (found result : Option BadType) → i < length written → one ≡ get_or written i one
    → result ≡ earlier_bad found (bad_type all one) → IsFirstBad (map (written_type all) (take i written)) found → IsFirstBad (map (written_type all) (take (i + 1) written)) result
IsFirstBad-more all written i one found result within is told so = record {
  first = types-grown HasSomeFault (map (written_type all)) written i one (place_found found) (then_some (is_some (first_fault (ltype_of all one))) (place_of all one)) (place_found result)
      (map-append (written_type all)) within is (ap place_found told ∙ place-earlier found (place_of all one) (first_fault (ltype_of all one))) so.first
      (types-one HasSomeFault (written_type all one) (is_some (first_fault (ltype_of all one))) (some-there (written_type all one) (first_fault (ltype_of all one)) refl) (some-back (written_type all one)));
  bad = subst (λ (l : List WrittenType). IfSome result (IsBadIn l)) (sym grown)
      (subst (λ (o : Option BadType). IfSome o (IsBadIn (map (written_type all) (take i written) ++ written_type all one ∷ []))) (sym told)
      (bad-more (map (written_type all) (take i written)) (written_type all one) found (first_fault (ltype_of all one)) refl so.bad));
  chosen = subst (λ (l : List WrittenType). IfSome result (λ bad. IsChosenBad l bad.place bad.fault)) (sym grown)
      (subst (λ (o : Option BadType). IfSome o (λ bad. IsChosenBad (map (written_type all) (take i written) ++ written_type all one ∷ []) bad.place bad.fault)) (sym told)
      (chosen-more (map (written_type all) (take i written)) (written_type all one) found (first_fault (ltype_of all one)) refl so));
}
  where
    grown : map (written_type all) (take (i + 1) written) ≡ map (written_type all) (take i written) ++ written_type all one ∷ []
    grown = ap (map (written_type all)) (take_more written i one within ∙ ap (λ (w : Written). take i written ++ w ∷ []) (sym is)) ∙ map-append (written_type all) (take i written) (one ∷ [])

-- the same of one that has no fault, where nothing was found
pub IsFirstBad-valid : (all : List Declaration) (written : List Written) (i : ℕ) (one : Written) → i < length written → one ≡ get_or written i one → first_fault (ltype_of all one) ≡ None
    → IsFirstBad (map (written_type all) (take i written)) None → IsFirstBad (map (written_type all) (take (i + 1) written)) None
IsFirstBad-valid all written i one within is valid so = IsFirstBad-more all written i one None None within is (ap (bad_at (place_of all one)) (sym valid)) so

pub IsFirstBad-all : (all : List Declaration) (written : List Written) (i : ℕ) (found : Option BadType) → length written ≤ i → AreWritten all written
    → IsFirstBad (map (written_type all) (take i written)) found → IsFirstBad (written_types all) found
IsFirstBad-all all written i found done are so =
    subst (λ (l : List WrittenType). IsFirstBad l found) (ap (map (written_type all)) (take_all i written done) ∙ are.types) so

-- none is found where each is shown to be valid
pub IsFirstBad-shown : (all : List Declaration) (written : List Written) → AreWritten all written → All (λ one. IsShownValid (ltype_of all one)) written → IsFirstBad (written_types all) None
IsFirstBad-shown all [] are shown = IsFirstBad-all all [] 0 None (omega arith) are IsFirstBad-none
IsFirstBad-shown all (first ∷ more) are shown = IsFirstBad-all all (first ∷ more) (length (first ∷ more)) None (omega arith) are (from (length (first ∷ more)) (omega arith))
  where
    from : (end : ℕ) → end ≤ length (first ∷ more) → IsFirstBad (map (written_type all) (take end (first ∷ more))) None
    from zero within = IsFirstBad-none
    from (suc end) within =
        let next : end + 1 ≡ suc end = omega arith in
        subst (λ (n : ℕ). IsFirstBad (map (written_type all) (take n (first ∷ more))) None) next
        (IsFirstBad-valid all (first ∷ more) end (get_or (first ∷ more) end first) (omega arith)
        (get_or_default (first ∷ more) end first (get_or (first ∷ more) end first) (omega arith))
        (ap (λ l. slice_get l 0) (shown end first (omega arith)).0) (from end (omega arith)))

-- ---- the finding of one turn

-- the bad type that was found stands no later
pub earlier_bad-stays : (found : Option BadType) (place : Place) (o : Option TypeFault) → stands_first (place_found found) place ≡ true → found ≡ earlier_bad found (bad_at place o)
earlier_bad-stays None place o first = cc
earlier_bad-stays (Some bad) place None first = refl
earlier_bad-stays (Some bad) place (Some fault) first = by (ltb place.offset bad.place.offset) refl
  where
    by : (b : Bool) → ltb place.offset bad.place.offset ≡ b → Some bad ≡ cond b (Some (record { place = place; fault = fault })) (Some bad)
    by true before = absurd (omega (arith, ltb-true place.offset bad.place.offset before, leb-true bad.place.offset place.offset first))
    by false before = refl

-- the type stands before what was found
pub earlier_bad-taken : (found : Option BadType) (place : Place) (fault : TypeFault) → stands_first (place_found found) place ≡ false
    → Some (record { place = place; fault = fault }) ≡ earlier_bad found (bad_at place (Some fault))
earlier_bad-taken None place fault later = refl
earlier_bad-taken (Some bad) place fault later =
    ap (λ (b : Bool). cond b (Some (record { place = place; fault = fault })) (Some bad)) (sym (lt-ltb place.offset bad.place.offset (leb-false bad.place.offset place.offset later)))

-- the type has no fault
pub earlier_bad-none : (found : Option BadType) (place : Place) → found ≡ earlier_bad found (bad_at place None)
earlier_bad-none None place = refl
earlier_bad-none (Some bad) place = refl

-- ---- the one that is reported before

pub acyclic-told : (all : List Declaration) (order : ℕ) → 3 ≤ order → IsToldUpTo all order None → AreAcyclic all
acyclic-told all order enough none = record {
  each = λ one within leads. none.told (faults.CyclicType (declaration all one).name.place) enough
      (record { one = one; within = within; at = record { at = refl; leads = leads } });
}

-- ---- the findings that are kept

pub AreVerdicts-none : (all : List Declaration) (n : ℕ) (kept : List Verdict) → kept ≡ replicate n verdicts.Unknown → AreVerdicts all kept
AreVerdicts-none all n kept is = record {
  each = λ one fault known. absurd (never fault (sym (ap (λ (l : List Verdict). verdict_at l one) is ∙ get_or-replicate verdicts.Unknown n one) ∙ known));
}
  where
    never : (fault : Option TypeFault) → ¬ (verdicts.Unknown ≡ verdicts.Known fault)
    never fault same = cc

pub AreVerdicts-kept : (all : List Declaration) (old new : List Verdict) (number : ℕ) (fault : Option TypeFault) → new ≡ set old number (verdicts.Known fault)
    → fault ≡ first_fault (type_at all (suc (length all)) number) → AreVerdicts all old → AreVerdicts all new
AreVerdicts-kept all old new number fault is right so = record {
  each = each-kept verdicts.Unknown (λ one verdict. (other : Option TypeFault) → verdict ≡ verdicts.Known other → other ≡ first_fault (type_at all (suc (length all)) one))
      old new number (verdicts.Known fault) is (λ other same. same_fault other fault (sym same) ∙ right) so.each;
}
  where
    same_fault : (one other : Option TypeFault) → verdicts.Known one ≡ verdicts.Known other → one ≡ other
    same_fault one other same = cc

-- ---- the types of declarations

-- the type of a declaration is that of its root
pub own-root : (all : List Declaration) (findings : Findings) (chains : List Chain) (number : ℕ) (chain : Chain) → AreAcyclic all → number < length all → AreFindings all findings → chains ≡ findings.chains
    → chain ≡ chain_at chains number → type_at all (length all) number ≡ type_at all (suc (length all)) chain.root
own-root all findings chains number chain acyclic within is slice same =
    root-is all chain number acyclic within (subst (IsChain all number) (sym (same ∙ ap (λ (l : List Chain). chain_at l number) slice)) (is.chains.each number within))

-- the verdict that is kept of the root
pub fault-kept : (all : List Declaration) (findings : Findings) (kept : List Verdict) (number root : ℕ) (verdict : Verdict) (fault : Option TypeFault) → AreFindings all findings
    → type_at all (length all) number ≡ type_at all (suc (length all)) root → kept ≡ findings.verdicts.items → verdict ≡ verdict_at kept root → verdict ≡ verdicts.Known fault
    → fault ≡ first_fault (type_at all (length all) number)
fault-kept all findings kept number root verdict fault is same slice at found =
    is.verdicts.each root fault (ap (λ (l : List Verdict). verdict_at l root) (sym slice) ∙ sym at ∙ found) ∙ ap first_fault (sym same)

-- the error that is found of the type in the table
pub fault-found : (all : List Declaration) (findings : Findings) (types : List LType) (number : ℕ) (fault : Option TypeFault) → number < length all → AreFindings all findings → types ≡ findings.types
    → fault ≡ first_fault (ltype_at types number) → fault ≡ first_fault (type_at all (length all) number)
fault-found all findings types number fault within is slice told = told ∙ ap first_fault (ap (λ (l : List LType). ltype_at l number) slice ∙ is.types.each number within)

pub AreFindings-kept : (all : List Declaration) (old new : Findings) (number root : ℕ) (fault : Option TypeFault) → new.types ≡ old.types → new.chains ≡ old.chains
    → new.verdicts.items ≡ set old.verdicts.items root (verdicts.Known fault) → type_at all (length all) number ≡ type_at all (suc (length all)) root
    → fault ≡ first_fault (type_at all (length all) number) → AreFindings all old → AreFindings all new
AreFindings-kept all old new number root fault types chains kept same found so = record {
  types = subst (AreTypes all (length all)) (sym types) so.types;
  chains = subst (AreChains all) (sym chains) so.chains;
  verdicts = AreVerdicts-kept all old.verdicts.items new.verdicts.items root fault kept (found ∙ ap first_fault same) so.verdicts;
}
