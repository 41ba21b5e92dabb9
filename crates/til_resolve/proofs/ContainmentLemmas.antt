-- The graph of streamlets says which streamlet contains which.
use Rattle.std.proofs.Common.{◌≡◌, ℕ, zero, suc, ◌<◌, ◌≤◌, ◌⊎◌, inl, inr, Bool, true, false, cond, List, [], ◌++◌, length, Option, Some, None, Contains, refl, sym, ap, subst, ◌∙◌, arith}
use Rattle.std.proofs.lemmas.Bool.{cases_lt, eqb-true, eq-eqb}
use Rattle.std.proofs.lemmas.List.Elements.{Contains-append_left, Contains-append_right, Contains-append_cases}
use Rattle.til_parser.specs.declared.tree.AstKind.{AstKind}
use Rattle.til_parser.specs.declared.tree.AstKind.TheVariants as decls
use Rattle.til_parser.specs.declared.tree.AstName.{AstName}
use Rattle.til_parser.specs.declared.tree.AstPath.{AstPath}
use Rattle.til_resolve.specs.Cycles.{LeadsTo, ContainsStreamlet, paths_of_instances}
use Rattle.til_resolve.specs.Declarations.{Declaration, declaration, named_as, before, is_streamlet}
use Rattle.til_resolve.specs.Graph.{Leads, AreNumbers, streamlets_inside, put_inside, HasInside}
use Rattle.til_resolve.specs.Names.{implements, is_number, is_impl_of}
use Rattle.til_resolve.proofs.EarliestLemmas.{Contains-nil}
use Rattle.til_resolve.proofs.TypeGraphLemmas.{named-by, names-in, named-within, past, ByWay-map}

-- ---- elements at the numbers below an end

before-by : (of : ℕ → List ℕ) (n x : ℕ) → Contains (before of n) x → (i : ℕ) × (i < n) × Contains (of i) x
before-by of zero x there = absurd (Contains-nil x there)
before-by of (suc n) x there = by (Contains-append_cases (before of n) (of n) x there) (before-by of n x)
  where
    further : (i : ℕ) × (i < n) × Contains (of i) x → (i : ℕ) × (i < suc n) × Contains (of i) x
    further found = (found.0, omega (arith, found.1), found.2)

    by : Contains (before of n) x ⊎ Contains (of n) x → (Contains (before of n) x → (i : ℕ) × (i < n) × Contains (of i) x) → (i : ℕ) × (i < suc n) × Contains (of i) x
    by (inl early) rest = further (rest early)
    by (inr last) rest = (n, omega arith, last)

in-before : (of : ℕ → List ℕ) (n x i : ℕ) → i < n → Contains (of i) x → Contains (before of n) x
in-before of zero x i within there = absurd (omega (arith, within))
in-before of (suc n) x i within there = by (cases_lt i n) (λ below. in-before of n x i below there)
  where
    by : (i < n) ⊎ (n ≤ i) → (i < n → Contains (before of n) x) → Contains (before of n ++ of n) x
    by (inl below) rest = Contains-append_left (before of n) (of n) x (rest below)
    by (inr above) rest =
        let same : i ≡ n = omega (arith, above, within) in
        Contains-append_right (before of n) (of n) x (subst (λ k. Contains (of k) x) same there)

-- ---- implementations

is_number-true : (s : ℕ) (o : Option ℕ) → is_number s o ≡ true → o ≡ Some s
is_number-true s None is = cc
is_number-true s (Some n) is = ap (λ (k : ℕ). Some k) (eqb-true n s is)

is_number-some : (s : ℕ) (o : Option ℕ) → o ≡ Some s → is_number s o ≡ true
is_number-some s o is = ap (is_number s) is ∙ eq-eqb s s refl

-- the streamlet that a declaration implements is a declaration
implemented : (all : List Declaration) (space : List (List ℕ)) (name : AstName) (kind : AstKind) (s : ℕ) → implements all (record { space = space; name = name; kind = kind }) ≡ Some s → s < length all
implemented all space name (decls.Alias ltype) s is = cc
implemented all space name (decls.Interface listed) s is = cc
implemented all space name (decls.Streamlet listed) s is = cc
implemented all space name (decls.Impl target body) s is = named-within is_streamlet all space target s is
implemented all space name (decls.Test target port value plan) s is = cc

put-by : (all : List Declaration) (s i t : ℕ) → Contains (put_inside all s i) t → (implements all (declaration all i) ≡ Some s) × Contains (streamlets_inside all (declaration all i)) t
put-by all s i t there = by (is_impl_of all s (declaration all i)) refl there
  where
    by : (b : Bool) → is_impl_of all s (declaration all i) ≡ b → Contains (cond b (streamlets_inside all (declaration all i)) []) t
        → (implements all (declaration all i) ≡ Some s) × Contains (streamlets_inside all (declaration all i)) t
    by true is inside = (is_number-true s (implements all (declaration all i)) is, inside)
    by false is inside = absurd (Contains-nil t inside)

-- ---- steps of the graph

module _ (all : List Declaration) (graph : List (List ℕ)) (is : HasInside all graph (length all)) where
  pub ContainsStreamlet-Leads : (s t : ℕ) → Leads graph s t → ContainsStreamlet all s t
  ContainsStreamlet-Leads s t step = by (cases_lt s (length all))
    where
      made : (i : ℕ) → i < length all → implements all (declaration all i) ≡ Some s
          → (path : AstPath) × Contains (paths_of_instances (declaration all i).kind) path × (named_as is_streamlet all (declaration all i).space path ≡ Some t) → ContainsStreamlet all s t
      made i within implemented found = record { implementation = i; within = within; implements = implemented; path = found.0; written = found.1; names = found.2 }

      inside : (i : ℕ) × (i < length all) × Contains (put_inside all s i) t → ContainsStreamlet all s t
      inside found =
          let put = put-by all s found.0 t found.2 in
          made found.0 found.1 put.0
          (named-by (named_as is_streamlet all (declaration all found.0).space) (paths_of_instances (declaration all found.0).kind) t put.1)

      by : (s < length all) ⊎ (length all ≤ s) → ContainsStreamlet all s t
      by (inl within) = inside (before-by (put_inside all s) (length all) t (subst (λ (l : List ℕ). Contains l t) (is.inside s within) step))
      by (inr above) = absurd (Contains-nil t (subst (λ (l : List ℕ). Contains l t) (past graph s [] (omega (arith, above, is.long))) step))

  pub Leads-ContainsStreamlet : (s t : ℕ) → ContainsStreamlet all s t → Leads graph s t
  Leads-ContainsStreamlet s t step =
      let one = declaration all step.implementation in
      let within = implemented all one.space one.name one.kind s step.implements in
      subst (λ (l : List ℕ). Contains l t) (sym (is.inside s within))
      (in-before (put_inside all s) (length all) t step.implementation step.within
      (subst (λ b. Contains (cond b (streamlets_inside all one) []) t) (sym (is_number-some s (implements all one) step.implements))
      (names-in (named_as is_streamlet all one.space) (paths_of_instances one.kind) step.path t step.written step.names)))

  pub AreNumbers-inside : AreNumbers graph
  AreNumbers-inside = record { within = λ s t step. within s t (ContainsStreamlet-Leads s t step) }
    where
      within : (s t : ℕ) → ContainsStreamlet all s t → t < length graph
      within s t step = omega (arith, is.long, named-within is_streamlet all (declaration all step.implementation).space step.path t step.names)

  pub contains-there : (s : ℕ) → LeadsTo (Leads graph) s s → LeadsTo (ContainsStreamlet all) s s
  contains-there s way = (way.0, ByWay-map (Leads graph) (ContainsStreamlet all) ContainsStreamlet-Leads s s way.0 way.1)

  pub contains-back : (s : ℕ) → LeadsTo (ContainsStreamlet all) s s → LeadsTo (Leads graph) s s
  contains-back s way = (way.0, ByWay-map (ContainsStreamlet all) (Leads graph) Leads-ContainsStreamlet s s way.0 way.1)
