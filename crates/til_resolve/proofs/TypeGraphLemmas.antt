-- The graph of types says which type declaration names which.
use Rattle.std.proofs.Common.{◌≡◌, ℕ, zero, suc, ◌+◌, ◌<◌, ◌≤◌, ◌⊎◌, inl, inr, List, [], ◌∷◌, ◌++◌, length, get_or, take, Bool, true, false, cond, Option, Some, None, IfSome, Contains, refl, sym, ap, subst, ◌∙◌, arith, length-append}
use Rattle.std.specs.Borrow.{Bor}
use Rattle.std.specs.List.{filter_map}
use Rattle.std.proofs.lemmas.Bool.{cases_lt}
use Rattle.std.proofs.lemmas.List.{take_more, map-append}
use Rattle.std.proofs.lemmas.List.Elements.{Contains-append_left, Contains-append_right, Contains-append_cases, Contains-push, filter_map-append}
use Rattle.til_parser.specs.declared.tree.AstPath.{AstPath}
use Rattle.til_resolve.specs.Cycles.{ByWay, LeadsTo, NamesType, IsCyclicType, paths_of_alias}
use Rattle.til_resolve.specs.Declarations.{Declaration, declaration, named, named_as, meant, before, is_type, path_of, kept_as}
use Rattle.til_resolve.specs.Graph.{Leads, AreNumbers, kinds_named, types_at, type_graph}
use Rattle.til_resolve.specs.PathsWritten.{seen}
use Rattle.til_resolve.proofs.EarliestLemmas.{Contains-nil, Contains-one}
use Rattle.til_resolve.specs.Paths.{is_same_path}
use Rattle.til_resolve.proofs.ScopeLemmas.{position-within}

-- ---- the declarations that paths name

-- the declaration that one more path names
pub kinds_named-more : (asks : Declaration → Bool) (all : List Declaration) (space : List (List ℕ)) (paths : List (Bor AstPath)) (i : ℕ) (path : Bor AstPath) → i < length paths → path ≡ get_or paths i path
    → kinds_named asks all space (seen (take (i + 1) paths)) ≡ kinds_named asks all space (seen (take i paths)) ++ kinds_named asks all space (path.now ∷ [])
kinds_named-more asks all space paths i path within is =
    let now : Bor AstPath → AstPath = λ one. one.now in
    ap (λ (l : List (Bor AstPath)). kinds_named asks all space (seen l)) (take_more paths i path within ∙ ap (λ (y : Bor AstPath). take i paths ++ y ∷ []) (sym is))
    ∙ ap (kinds_named asks all space) (map-append now (take i paths) (path ∷ []))
    ∙ filter_map-append (named_as asks all space) (seen (take i paths)) (path.now ∷ [])

-- ---- a list of what stands at each number

pub length-each : {A : Type 0} (of : ℕ → A) (n : ℕ) → length (before (λ one. of one ∷ []) n) ≡ n
length-each of zero = refl
length-each of (suc n) = length-append (before (λ one. of one ∷ []) n) (of n ∷ []) ∙ ap (λ k. k + 1) (length-each of n) ∙ omega arith

at_front : {A : Type 0} (front back : List A) (k : ℕ) (d : A) → k < length front → get_or (front ++ back) k d ≡ get_or front k d
at_front [] back k d within = absurd (omega (arith, within))
at_front (x ∷ xs) back zero d within = refl
at_front (x ∷ xs) back (suc k) d within = at_front xs back k d (omega arith)

at_end : {A : Type 0} (front : List A) (x d : A) → get_or (front ++ x ∷ []) (length front) d ≡ x
at_end [] x d = refl
at_end (y ∷ ys) x d = at_end ys x d

pub each-at : {A : Type 0} (of : ℕ → A) (n k : ℕ) (d : A) → k < n → get_or (before (λ one. of one ∷ []) n) k d ≡ of k
each-at of zero k d within = absurd (omega (arith, within))
each-at {A} of (suc n) k d within = by (cases_lt k n) (each-at of n k d)
  where
    by : (k < n) ⊎ (n ≤ k) → (k < n → get_or (before (λ one. of one ∷ []) n) k d ≡ of k) → get_or (before (λ one. of one ∷ []) n ++ of n ∷ []) k d ≡ of k
    by (inl below) inside = at_front (before (λ one. of one ∷ []) n) (of n ∷ []) k d (omega (arith, below, length-each of n)) ∙ inside below
    by (inr above) inside =
        let same : k ≡ length (before (λ one. of one ∷ []) n) = omega (arith, above, within, length-each of n) in
        let number : k ≡ n = omega (arith, above, within) in
        ap (λ i. get_or (before (λ one. of one ∷ []) n ++ of n ∷ []) i d) same ∙ at_end (before (λ one. of one ∷ []) n) (of n) d ∙ ap of (sym number)

pub length-type_graph : (all : List Declaration) → length (type_graph all (length all)) ≡ length all
length-type_graph all = length-each (types_at all) (length all)

-- ---- steps of the graph

-- a number that a list of paths names
pub named-by : (f : AstPath → Option ℕ) (paths : List AstPath) (target : ℕ) → Contains (filter_map f paths) target → (path : AstPath) × Contains paths path × (f path ≡ Some target)
named-by f [] target there = absurd (Contains-nil target there)
named-by f (x ∷ xs) target there = by (f x) refl there (named-by f xs target)
  where
    further : (path : AstPath) × Contains xs path × (f path ≡ Some target) → (path : AstPath) × Contains (x ∷ xs) path × (f path ≡ Some target)
    further found = (found.0, Contains-append_right (x ∷ []) xs found.0 found.1, found.2)

    either : (y : ℕ) → f x ≡ Some y → Contains (y ∷ []) target ⊎ Contains (filter_map f xs) target → (Contains (filter_map f xs) target → (path : AstPath) × Contains xs path × (f path ≡ Some target))
        → (path : AstPath) × Contains (x ∷ xs) path × (f path ≡ Some target)
    either y is (inl here) rest = (x, Contains-append_left (x ∷ []) xs x (Contains-push [] x), is ∙ ap (λ (n : ℕ). Some n) (Contains-one y target here))
    either y is (inr later) rest = further (rest later)

    by : (o : Option ℕ) → f x ≡ o → Contains (filter_map f (x ∷ xs)) target → (Contains (filter_map f xs) target → (path : AstPath) × Contains xs path × (f path ≡ Some target))
        → (path : AstPath) × Contains (x ∷ xs) path × (f path ≡ Some target)
    by None is there rest = further (rest (subst (λ (l : List ℕ). Contains l target) (skipped is) there))
      where
        skipped : f x ≡ None → filter_map f (x ∷ xs) ≡ filter_map f xs
        skipped none = rw none refl
    by (Some y) is there rest = either y is (Contains-append_cases (y ∷ []) (filter_map f xs) target (subst (λ (l : List ℕ). Contains l target) (kept is) there)) rest
      where
        kept : f x ≡ Some y → filter_map f (x ∷ xs) ≡ y ∷ filter_map f xs
        kept some = rw some refl

pub names-in : (f : AstPath → Option ℕ) (paths : List AstPath) (path : AstPath) (target : ℕ) → Contains paths path → f path ≡ Some target → Contains (filter_map f paths) target
names-in f [] path target there is = absurd (Contains-nil path there)
names-in f (x ∷ xs) path target there is =
    subst (λ (l : List ℕ). Contains l target) (sym (filter_map-append f (x ∷ []) xs)) (by (Contains-append_cases (x ∷ []) xs path there) (λ later. names-in f xs path target later is))
  where
    only : filter_map f (path ∷ []) ≡ target ∷ []
    only = rw is refl

    by : Contains (x ∷ []) path ⊎ Contains xs path → (Contains xs path → Contains (filter_map f xs) target) → Contains (filter_map f (x ∷ []) ++ filter_map f xs) target
    by (inl here) rest = Contains-append_left (filter_map f (x ∷ [])) (filter_map f xs) target
        (subst (λ (l : List ℕ). Contains l target) (sym (ap (λ (y : AstPath). filter_map f (y ∷ [])) (Contains-one x path here) ∙ only)) (Contains-push [] target))
    by (inr later) rest = Contains-append_right (filter_map f (x ∷ [])) (filter_map f xs) target (rest later)

pub past : {A : Type 0} (xs : List A) (k : ℕ) (d : A) → length xs ≤ k → get_or xs k d ≡ d
past [] k d done = refl
past (x ∷ xs) zero d done = absurd (omega (arith, done))
past (x ∷ xs) (suc k) d done = past xs k d (omega arith)

pub NamesType-Leads : (all : List Declaration) (one other : ℕ) → Leads (type_graph all (length all)) one other → NamesType all one other
NamesType-Leads all one other step = by (cases_lt one (length all))
  where
    made : (path : AstPath) × Contains (paths_of_alias (declaration all one).kind) path × (named_as is_type all (declaration all one).space path ≡ Some other) → NamesType all one other
    made found = record { path = found.0; written = found.1; names = found.2 }

    by : (one < length all) ⊎ (length all ≤ one) → NamesType all one other
    by (inl within) = made (named-by (named_as is_type all (declaration all one).space) (paths_of_alias (declaration all one).kind) other
        (subst (λ (l : List ℕ). Contains l other) (each-at (types_at all) (length all) one [] within) step))
    by (inr above) = absurd (Contains-nil other (subst (λ (l : List ℕ). Contains l other) (past (type_graph all (length all)) one [] (omega (arith, above, length-type_graph all))) step))

pub Leads-NamesType : (all : List Declaration) (one other : ℕ) → NamesType all one other → Leads (type_graph all (length all)) one other
Leads-NamesType all one other step = by (cases_lt one (length all))
  where
    by : (one < length all) ⊎ (length all ≤ one) → Leads (type_graph all (length all)) one other
    by (inl within) = subst (λ (l : List ℕ). Contains l other) (sym (each-at (types_at all) (length all) one [] within))
        (names-in (named_as is_type all (declaration all one).space) (paths_of_alias (declaration all one).kind) step.path other step.written step.names)
    by (inr above) = absurd (Contains-nil step.path (subst (λ (d : Declaration). Contains (paths_of_alias d.kind) step.path) (past all one (declaration [] 0) above) step.written))

-- a path names a declaration
pub named-within : (asks : Declaration → Bool) (all : List Declaration) (space : List (List ℕ)) (path : AstPath) (n : ℕ) → named_as asks all space path ≡ Some n → n < length all
named-within asks all space path n is = by (named all space path) (position-within (λ one. is_same_path (path_of one) (meant space path)) all) is
  where
    by : (o : Option ℕ) → IfSome o (λ k. k < length all) → kept_as asks all o ≡ Some n → n < length all
    by None within same = cc
    by (Some k) within same = tested (asks (declaration all k)) same
      where
        tested : (b : Bool) → cond b (Some k) None ≡ Some n → n < length all
        tested true e = let same_number : k ≡ n = cc in subst (λ (i : ℕ). i < length all) same_number within
        tested false e = cc

pub AreNumbers-type_graph : (all : List Declaration) → AreNumbers (type_graph all (length all))
AreNumbers-type_graph all = record { within = λ one other step. within one other (NamesType-Leads all one other step) }
  where
    within : (one other : ℕ) → NamesType all one other → other < length (type_graph all (length all))
    within one other step = omega (arith, length-type_graph all, named-within is_type all (declaration all one).space step.path other step.names)

pub ByWay-map : {A : Type 0} (Step Other : A → A → Type 0) → ((x y : A) → Step x y → Other x y) → (from to : A) (way : List A) → ByWay Step from way to → ByWay Other from way to
ByWay-map Step Other each from to [] step = each from to step
ByWay-map Step Other each from to (next ∷ more) step = (each from next step.0, ByWay-map Step Other each next to more step.1)

pub cyclic-there : (all : List Declaration) (one : ℕ) → LeadsTo (Leads (type_graph all (length all))) one one → IsCyclicType all one
cyclic-there all one way = (way.0, ByWay-map (Leads (type_graph all (length all))) (NamesType all) (NamesType-Leads all) one one way.0 way.1)

pub cyclic-back : (all : List Declaration) (one : ℕ) → IsCyclicType all one → LeadsTo (Leads (type_graph all (length all))) one one
cyclic-back all one way = (way.0, ByWay-map (NamesType all) (Leads (type_graph all (length all))) (Leads-NamesType all) one one way.0 way.1)
