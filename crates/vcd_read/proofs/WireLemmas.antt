-- What is kept of the codes of a dump.
use Rattle.std.proofs.Common.{◌≡◌, ◌∙◌, ◌⊎◌, inl, inr, ℕ, ◌+◌, ◌<◌, Bool, true, false, ◌==◌, List, [], ◌∷◌, ◌++◌, length, set, slice_get, Option, Some}
use Rattle.std.proofs.Common.{None, IfSome, if◌then◌else◌, refl, sym, ap, subst, arith}
use Rattle.std.proofs.lemmas.Bool.Decides.{nat_tests}
use Rattle.std.proofs.lemmas.List.{length-set, length-append}
use Rattle.std.proofs.lemmas.Option.{same_Some, slice_get_within}
use Rattle.std.proofs.lemmas.Bool.{eqb-true}
use Rattle.tydi_base.proofs.PlaceLemmas.{same_or_other, slice_get-front, slice_get-next, slice_get-set_other, slice_get-set_same}
use Rattle.std.specs.Option.{option_or}
use Rattle.std.specs.Str.{bytes_eq}
use Rattle.std.specs.Cmp.Lexicographic.{bytes_decides}
use Rattle.vcd_read.specs.History.{Part, Changes, Declares, declared_width, known, states_at}
use Rattle.vcd_read.specs.Numbers.{number_of}
use Rattle.vcd_read.specs.Profile.{may_have_width}
use Rattle.vcd_read.specs.Wires.{AreWires, IsKept, IsUndeclared, IsWide, IsWire, changed, width_in, word_before}
use Rattle.vcd_read.specs.declared.state.State.{State}
use Rattle.vcd_read.specs.declared.wire.Wire.{Wire}
use Rattle.vcd_read.proofs.NumberLemmas.{number-one, number-push, same-bytes}

-- ---- one code changes

-- the code that changes
changed-same : (wire : Wire) (block : ℕ) (code : List ℕ) (parts : List Part) (states : List State) → bytes_eq code code ≡ true
    → IsWire wire block code parts → IsWide wire.width (known (Some states))
    → IsWire (changed wire block (known (Some states))) block code (Changes code states ∷ parts)
changed-same wire block code parts states same is wide = record {
  width = is.width;
  current = sym (ap (λ test. known (if test then Some states else states_at code parts)) same);
  earlier = ap (λ test. if test then word_before wire block else known (Some states)) (eqb_same block) ∙ is.earlier;
  past = omega arith;
  current_wide = wide;
  earlier_wide = before-wide wire.block block;
}
  where
    eqb_same : (n : ℕ) → (n == n) ≡ true
    eqb_same n = grind (arith, nat_tests)

    before-wide : (one other : ℕ) → IsWide wire.width (if one == other then wire.earlier else wire.current)
    before-wide one other = by (one == other)
      where
        by : (test : Bool) → IsWide wire.width (if test then wire.earlier else wire.current)
        by true = is.earlier_wide
        by false = is.current_wide

-- any other code
changed-other : (wire : Wire) (block : ℕ) (code other : List ℕ) (parts : List Part) (states : List State) → bytes_eq other code ≡ false
    → IsWire wire block other parts
    → IsWire wire block other (Changes code states ∷ parts)
changed-other wire block code other parts states differs is = record {
  width = is.width;
  current = is.current ∙ sym (ap (λ test. known (if test then Some states else states_at other parts)) differs);
  earlier = is.earlier;
  past = is.past;
  current_wide = is.current_wide;
  earlier_wide = is.earlier_wide;
}

changed-undeclared : (code other : List ℕ) (parts : List Part) (states : List State) → bytes_eq other code ≡ false → IsUndeclared other parts
    → IsUndeclared other (Changes code states ∷ parts)
changed-undeclared code other parts states differs is = record {
  width = is.width;
  current = ap (λ test. if test then Some states else states_at other parts) differs ∙ is.current;
  earlier = is.earlier;
}

-- the texts are not the same
pub differ-bytes : (one other : List ℕ) → (one ≡ other → ⊥) → bytes_eq one other ≡ false
differ-bytes one other differ = by (bytes_eq one other) (same-bytes one other)
  where
    by : (test : Bool) → (test ≡ true → one ≡ other) → test ≡ false
    by true same = absurd (differ (same refl))
    by false same = refl

module _ (codes : List (List ℕ)) (wires : List Wire) (block number : ℕ) (wire : Wire) (parts : List Part) (code : List ℕ) (states : List State)
    (are : AreWires codes wires block parts)
    (at : number_of codes code ≡ Some number) (found : slice_get wires number ≡ Some wire) (wide : IfSome (declared_width code parts)
    (λ width. IsWide width (known (Some states)))) where
  abbrev pub new : Wire
  new = changed wire block (known (Some states))

  -- what is kept of the code
  is_wire : IsWire wire block code parts
  is_wire = let kept : IsKept wires block code parts (Some number) = subst (IsKept wires block code parts) at (are.each code) in
      subst (λ (w : Wire). IsWire w block code parts) (same_Some kept.0 wire (sym kept.1.0 ∙ found)) kept.1.1

  is_wide : IsWide wire.width (known (Some states))
  is_wide = subst (λ (o : Option ℕ). IfSome o (λ width. IsWide width (known (Some states)))) is_wire.width wide

  kept_after : (other : List ℕ) (n : ℕ) → number_of codes other ≡ Some n → (number ≡ n) ⊎ (number ≡ n → ⊥) → IsKept wires block other parts (Some n)
      → IsKept (set wires number new) block other (Changes code states ∷ parts) (Some n)
  kept_after other n is (inl same) kept =
      let one : code ≡ other = number-one codes code other n (at ∙ ap (λ (k : ℕ). Some k) same) is in (
        new,
        (
          ap (slice_get (set wires number new)) (sym same) ∙ slice_get-set_same wires number new (slice_get_within wires number wire found),
          subst (λ (o : List ℕ). IsWire new block o (Changes code states ∷ parts)) one (changed-same wire block code parts states ((bytes_decides code
              code).1 refl) is_wire is_wide),
        ),
      )
  kept_after other n is (inr differs) kept =
      let apart : bytes_eq other code ≡ false = differ-bytes other code (λ one. differs (same_Some number n (sym at ∙ ap (number_of codes) (sym one)
      ∙ is))) in
      (kept.0, (slice_get-set_other wires number n new differs ∙ kept.1.0, changed-other kept.0 block code other parts states apart kept.1.1))

  after : (other : List ℕ) (place : Option ℕ) → number_of codes other ≡ place → IsKept wires block other parts place
      → IsKept (set wires number new) block other (Changes code states ∷ parts) place
  after other None is kept = changed-undeclared code other parts states (differ-bytes other code (λ one. let clash : None ≡ Some number = sym is
      ∙ ap (number_of codes) one ∙ at in cc)) kept
  after other (Some n) is kept = kept_after other n is (same_or_other number n) kept

  -- all codes, where the code of this number changes
  pub change-wires : AreWires codes (set wires number new) block (Changes code states ∷ parts)
  change-wires = record { long = length-set wires number new ∙ are.long; each = λ other. after other (number_of codes other) refl (are.each other) }

-- ---- one code is declared

-- a width that a code may have is that with which it is declared
width_is : (one width : ℕ) → may_have_width (Some one) width ≡ true → width ≡ one
width_is one width is = sym (eqb-true one width is)

declared-wire : (wire : Wire) (block width : ℕ) (code name other : List ℕ) (parts : List Part) → may_have_width (declared_width code parts) width ≡ true
    → IsWire wire block other parts → IsWire wire block other (Declares width code name ∷ parts)
declared-wire wire block width code name other parts may is = record {
  width = by (bytes_eq other code) (same-bytes other code);
  current = is.current;
  earlier = is.earlier;
  past = is.past;
  current_wide = is.current_wide;
  earlier_wide = is.earlier_wide;
}
  where
    by : (test : Bool) → (test ≡ true → other ≡ code) → (if test then Some width else declared_width other parts) ≡ Some wire.width
    by true same = ap (λ (n : ℕ). Some n) (width_is wire.width width (subst (λ (o : Option ℕ). may_have_width o width ≡ true)
        (ap (λ (c : List ℕ). declared_width c parts) (sym (same refl)) ∙ is.width) may))
    by false same = is.width

module _ (codes : List (List ℕ)) (wires : List Wire) (block width : ℕ) (parts : List Part) (code name : List ℕ) (are : AreWires codes wires block parts)
    (may : may_have_width (declared_width code parts) width ≡ true) where
  again : (number : ℕ) → number_of codes code ≡ Some number → (other : List ℕ) (place : Option ℕ) → number_of codes other ≡ place
      → IsKept wires block other parts place → IsKept wires block other (Declares width code name ∷ parts) place
  again number at other None is kept =
      let apart : bytes_eq other code ≡ false = differ-bytes other code (λ one. let clash : None ≡ Some number = sym is ∙ ap (number_of codes) one
      ∙ at in cc) in
      record {
        width = ap (λ test. if test then Some width else declared_width other parts) apart
            ∙ kept.width;
        current = kept.current;
        earlier = kept.earlier;
      }
  again number at other (Some n) is kept = (kept.0, (kept.1.0, declared-wire kept.0 block width code name other parts may kept.1.1))

  -- a code that is declared already
  pub declare-again : (number : ℕ) → number_of codes code ≡ Some number → AreWires codes wires block (Declares width code name ∷ parts)
  declare-again number at = record { long = are.long; each = λ other. again number at other (number_of codes other) refl (are.each other) }

  abbrev pub added : Wire
  added = record { width = width; block = 0; earlier = None; current = None }

  none_before : (test : Bool) → (if test then added.earlier else added.current) ≡ None
  none_before true = refl
  none_before false = refl

  first : (other : List ℕ) (test : Bool) → bytes_eq other code ≡ test → IsUndeclared other parts
      → IsKept (wires ++ added ∷ []) block other (Declares width code name ∷ parts) (if test then Some (length codes) else None)
  unfolding known
  first other true is kept = (
    added,
    (
      slice_get-next wires added (length codes) (sym are.long),
      record {
        width = ap (λ test. if test then Some width else declared_width other parts) is;
        current = sym (ap known kept.current);
        earlier = none_before (0 == block) ∙ sym (ap known kept.earlier);
        past = omega arith;
        current_wide = tt;
        earlier_wide = tt;
      },
    ),
  )
  first other false is kept = record {
    width = ap (λ test. if test then Some width else declared_width other parts) is
        ∙ kept.width;
    current = kept.current;
    earlier = kept.earlier;
  }

  later : number_of codes code ≡ None → (other : List ℕ) (place : Option ℕ) → number_of codes other ≡ place → IsKept wires block other parts place
      → IsKept (wires ++ added ∷ []) block other (Declares width code name ∷ parts) (option_or place (if bytes_eq other code then Some (length codes) else
      None))
  later none other None is kept = first other (bytes_eq other code) refl kept
  later none other (Some n) is kept = (
    kept.0,
    (
      slice_get-front wires (added ∷ []) n (slice_get_within wires n kept.0 kept.1.0)
          ∙ kept.1.0,
      declared-wire kept.0 block width code name other parts may kept.1.1,
    ),
  )

  -- a new code
  pub declare-new : number_of codes code ≡ None → AreWires (codes ++ code ∷ []) (wires ++ added ∷ []) block (Declares width code name ∷ parts)
  declare-new none = record {
    long = length-append wires (added ∷ []) ∙ ap (λ n. n + 1) are.long ∙ sym (length-append codes (code ∷ []));
    each = λ other. subst (IsKept (wires ++ added ∷ []) block other (Declares width code name ∷ parts)) (sym (number-push codes code other))
        (later none other (number_of codes other) refl (are.each other));
  }

-- what is kept of a code that has a number
pub kept-at : (codes : List (List ℕ)) (wires : List Wire) (block number : ℕ) (code : List ℕ) (parts : List Part) → AreWires codes wires block parts
    → number_of codes code ≡ Some number
    → (wire : Wire) × ((slice_get wires number ≡ Some wire) × IsWire wire block code parts)
kept-at codes wires block number code parts are at = subst (IsKept wires block code parts) at (are.each code)

-- the width of a code that has a number
pub width-at : (codes : List (List ℕ)) (wires : List Wire) (block number : ℕ) (code : List ℕ) (parts : List Part) → AreWires codes wires block parts
    → number_of codes code ≡ Some number
    → declared_width code parts ≡ width_in (slice_get wires number)
width-at codes wires block number code parts are at = let kept = kept-at codes wires block number code parts are at in kept.1.1.width
    ∙ ap width_in (sym kept.1.0)

-- a code that has no number is not declared
pub width-none : (codes : List (List ℕ)) (wires : List Wire) (block : ℕ) (code : List ℕ) (parts : List Part) → AreWires codes wires block parts
    → number_of codes code ≡ None → declared_width code parts ≡ None
width-none codes wires block code parts are none = let kept : IsUndeclared code parts = subst (IsKept wires block code parts) none (are.each code) in
    kept.width

-- a number is that of a code
pub at-within : (codes : List (List ℕ)) (wires : List Wire) (block number : ℕ) (code : List ℕ) (parts : List Part) → AreWires codes wires block parts
    → number_of codes code ≡ Some number → number < length wires
at-within codes wires block number code parts are at = let kept = kept-at codes wires block number code parts are at in
    slice_get_within wires number kept.0 kept.1.0
