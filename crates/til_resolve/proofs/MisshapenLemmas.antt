-- The first of written types of which something holds, and what a shape shows of a type.
use Rattle.std.proofs.Common.{◌≡◌, ℕ, ◌+◌, ◌<◌, ◌⊎◌, inl, inr, Bool, true, false, not, ◌||◌, ◌&&◌, ltb, min, List, [], ◌∷◌, ◌++◌, length, take, get_or, Option, None, Contains, refl, sym, ap, subst, ◌∙◌, arith}
use Rattle.std.specs.Bool.{then_some}
use Rattle.std.proofs.lemmas.Bool.{ltb-true, lt-ltb}
use Rattle.std.proofs.lemmas.List.{take_more}
use Rattle.std.proofs.lemmas.List.Elements.{Contains-append_left, Contains-append_right, Contains-append_cases, Contains-push}
use Rattle.tydi_base.specs.declared.place.Place.{Place}
use Rattle.logical_types.specs.Size.{number_of_nodes, depth_of}
use Rattle.til_resolve.specs.declared.misshapen.Sort.{Sort}
use Rattle.til_resolve.specs.declared.misshapen.Sort.TheVariants as sorts
use Rattle.til_resolve.specs.Earliest.{IsEarliest, earlier}
use Rattle.til_resolve.specs.Faults.{WrittenType, HasTypeAt}
use Rattle.til_resolve.specs.Shapes.{shape_of, is_misshapen, IsMisshapen}
use Rattle.til_resolve.specs.Types.{is_stream}
use Rattle.til_resolve.proofs.EarliestLemmas.{IsEarliest-none, IsEarliest-one, IsEarliest-same, IsEarliest-either, Contains-nil, Contains-one}

-- ---- written types, one after another

module _ (Is : WrittenType → Type 0) where
  pub types-none : IsEarliest (HasTypeAt Is []) None
  types-none = IsEarliest-none (HasTypeAt Is []) (λ place there. Contains-nil there.one there.written)

  pub types-one : (one : WrittenType) (is : Bool) → (is ≡ true → Is one) → (Is one → is ≡ true) → IsEarliest (HasTypeAt Is (one ∷ [])) (then_some is one.place)
  types-one one true there back = IsEarliest-one (HasTypeAt Is (one ∷ [])) one.place (record { one = one; written = Contains-push [] one; at = refl; is = there refl })
      (λ other is. ap (λ (w : WrittenType). w.place) (Contains-one one is.one is.written) ∙ is.at)
  types-one one false there back = IsEarliest-none (HasTypeAt Is (one ∷ [])) (λ place is. never (back (subst Is (sym (Contains-one one is.one is.written)) is.is)))
    where
      never : ¬ (false ≡ true)
      never same = cc

  pub types-append : (front back : List WrittenType) (one other : Option Place) → IsEarliest (HasTypeAt Is front) one → IsEarliest (HasTypeAt Is back) other
      → IsEarliest (HasTypeAt Is (front ++ back)) (earlier one other)
  types-append front back one other first second =
      IsEarliest-same (λ place. HasTypeAt Is front place ⊎ HasTypeAt Is back place) (HasTypeAt Is (front ++ back)) (earlier one other) joined parted
      (IsEarliest-either (HasTypeAt Is front) (HasTypeAt Is back) one other first second)
    where
      joined : (place : Place) → HasTypeAt Is front place ⊎ HasTypeAt Is back place → HasTypeAt Is (front ++ back) place
      joined place (inl there) = record { one = there.one; written = Contains-append_left front back there.one there.written; at = there.at; is = there.is }
      joined place (inr there) = record { one = there.one; written = Contains-append_right front back there.one there.written; at = there.at; is = there.is }

      parted : (place : Place) → HasTypeAt Is (front ++ back) place → HasTypeAt Is front place ⊎ HasTypeAt Is back place
      parted place there = by (Contains-append_cases front back there.one there.written)
        where
          by : Contains front there.one ⊎ Contains back there.one → HasTypeAt Is front place ⊎ HasTypeAt Is back place
          by (inl written) = inl (record { one = there.one; written = written; at = there.at; is = there.is })
          by (inr written) = inr (record { one = there.one; written = written; at = there.at; is = there.is })

  -- the types of one thing more
  pub types-grown : {X : Type 0} (of : List X → List WrittenType) (xs : List X) (i : ℕ) (x : X) (one other result : Option Place)
      → ((front back : List X) → of (front ++ back) ≡ of front ++ of back) → i < length xs → x ≡ get_or xs i x → result ≡ earlier one other
      → IsEarliest (HasTypeAt Is (of (take i xs))) one → IsEarliest (HasTypeAt Is (of (x ∷ []))) other → IsEarliest (HasTypeAt Is (of (take (i + 1) xs))) result
  types-grown {X} of xs i x one other result splits within is told so here =
      subst (IsEarliest (HasTypeAt Is (of (take (i + 1) xs)))) (sym told)
      (subst (λ (l : List WrittenType). IsEarliest (HasTypeAt Is l) (earlier one other))
      (sym (splits (take i xs) (x ∷ [])) ∙ ap of (sym (take_more xs i x within ∙ ap (λ (y : X). take i xs ++ y ∷ []) (sym is))))
      (types-append (of (take i xs)) (of (x ∷ [])) one other so here))

-- ---- the facts that a shape shows

pub misshapen-there : (sort : Sort) (one : WrittenType) → is_misshapen sort one.in_port (shape_of one.ltype) ≡ true → IsMisshapen sort one
misshapen-there sorts.TooLarge one is = by (ltb 65536 (min (number_of_nodes one.ltype) 65537)) refl is
  where
    by : (b : Bool) → ltb 65536 (min (number_of_nodes one.ltype) 65537) ≡ b → (b || ltb 64 (min (depth_of one.ltype) 65)) ≡ true
        → (65536 < number_of_nodes one.ltype) ⊎ (64 < depth_of one.ltype)
    by true nodes told = inl (omega (arith, ltb-true 65536 (min (number_of_nodes one.ltype) 65537) nodes))
    by false nodes told = inr (omega (arith, ltb-true 64 (min (depth_of one.ltype) 65) told))
misshapen-there sorts.PortNotStream one is = by one.in_port (is_stream one.ltype) is
  where
    by : (b s : Bool) → (b && not s) ≡ true → (b ≡ true) × (not s ≡ true)
    by true s told = (refl, told)
    by false s told = cc

pub misshapen-back : (sort : Sort) (one : WrittenType) → IsMisshapen sort one → is_misshapen sort one.in_port (shape_of one.ltype) ≡ true
misshapen-back sorts.TooLarge one (inl nodes) =
    ap (λ b. b || ltb 64 (min (depth_of one.ltype) 65)) (lt-ltb 65536 (min (number_of_nodes one.ltype) 65537) (omega (arith, nodes)))
misshapen-back sorts.TooLarge one (inr deep) =
    ap (λ b. ltb 65536 (min (number_of_nodes one.ltype) 65537) || b) (lt-ltb 64 (min (depth_of one.ltype) 65) (omega (arith, deep)))
    ∙ either (ltb 65536 (min (number_of_nodes one.ltype) 65537))
  where
    either : (b : Bool) → (b || true) ≡ true
    either true = refl
    either false = refl
misshapen-back sorts.PortNotStream one is = by one.in_port (is_stream one.ltype) is.0 is.1
  where
    by : (b s : Bool) → b ≡ true → not s ≡ true → (b && not s) ≡ true
    by true s inside told = told
    by false s inside told = cc
