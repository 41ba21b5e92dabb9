-- A look-up by the number of a namespace and a name finds the first declaration of a path.
use Rattle.std.proofs.Common.{◌≡◌, ℕ, zero, suc, ◌+◌, ◌-◌, ◌<◌, ◌≤◌, nat_eq, ltb, Bool, true, false, cond, ◌&&◌, List, [], ◌∷◌, ◌++◌, length, map, take, get_or, Option, Some, None, is_some, position, All, IfSome, length-append, refl, sym, ap, subst, ◌∙◌, arith, true≢false}
use Rattle.std.specs.Borrow.{Bor}
use Rattle.std.specs.Cmp.Lexicographic.{pointwise_decides, bytes_decides}
use Rattle.std.specs.List.{list_any, position_or_len}
use Rattle.std.specs.Option.{option_or}
use Rattle.std.specs.Str.{bytes_eq}
use Rattle.std.proofs.lemmas.Bool.{eqb-true, eq-eqb, ne_eqb, ltb-true, false_from_ne_true}
use Rattle.std.proofs.lemmas.List.{take_more, map-append}
use Rattle.std.proofs.lemmas.List.Quantifiers.{position-Some}
use Rattle.std.proofs.lemmas.List.Elements.{All-append, All-map, All-weaker}
use Rattle.til_parser.specs.declared.tree.AstName.{AstName}
use Rattle.til_resolve.specs.Paths.{is_same_path, texts_of}
use Rattle.til_parser.specs.declared.tree.AstPath.{AstPath}
use Rattle.til_resolve.specs.declared.declared.Declared.{Declared}
use Rattle.til_resolve.specs.Declarations.{Declaration, declaration, path_of, first_of_path, meant, named}
use Rattle.til_resolve.specs.Placing.{is_space, with_space, place_in}
use Rattle.til_resolve.specs.Scope.{Placed, placed_of, placed, declarations_in, declarations_of, space_meant, home_of, first_at, AreHome, FindsSpaces}
use Rattle.til_resolve.proofs.LookupLemmas.{ends, empty_from}
use Rattle.til_resolve.proofs.PathLemmas.{is_same_path-ends, is_same_path-none}
use Rattle.til_resolve.proofs.PositionLemmas.{list_any-position, position-push, position_or_len-found, position_or_len-none, position-none, position-same, position-map}

-- ---- paths that are the same

pub is_same_path-true : (one other : List (List ℕ)) → is_same_path one other ≡ true → one ≡ other
is_same_path-true one other same = (pointwise_decides bytes_decides one other).0 same

pub is_same_path-itself : (one : List (List ℕ)) → is_same_path one one ≡ true
is_same_path-itself one = (pointwise_decides bytes_decides one one).1 refl

-- ---- the numbers of namespaces

-- where a path is found after it was put in
home_of-put : (spaces : List (Bor (List AstName))) (space : Bor (List AstName)) (test : Bor (List AstName) → Bool) → test space ≡ true
    → position test (cond (list_any test spaces) spaces (spaces ++ space ∷ [])) ≡ Some (position_or_len test spaces)
home_of-put spaces space test holds = by (position test spaces) refl
  where
    by : (o : Option ℕ) → position test spaces ≡ o → position test (cond (list_any test spaces) spaces (spaces ++ space ∷ [])) ≡ Some (position_or_len test spaces)
    by None none =
        ap (λ b. position test (cond b spaces (spaces ++ space ∷ []))) (list_any-position test spaces ∙ ap is_some none)
        ∙ position-push test spaces space ∙ ap (λ (o : Option ℕ). option_or o (cond (test space) (Some (length spaces)) None)) none
        ∙ ap (λ b. cond b (Some (length spaces)) None) holds ∙ ap (λ (n : ℕ). Some n) (sym (position_or_len-none test spaces none))
    by (Some n) found =
        ap (λ b. position test (cond b spaces (spaces ++ space ∷ []))) (list_any-position test spaces ∙ ap is_some found)
        ∙ found ∙ ap (λ (n : ℕ). Some n) (sym (position_or_len-found test spaces n found))

pub home_of-own : (spaces : List (Bor (List AstName))) (space : Bor (List AstName))
    → home_of (with_space spaces space) (texts_of space.now) ≡ Some (place_in spaces space)
home_of-own spaces space = home_of-put spaces space (is_space space) (is_same_path-itself (texts_of space.now))

-- a path that has a number keeps it
pub home_of-kept : (spaces : List (Bor (List AstName))) (space : Bor (List AstName)) (names : List (List ℕ)) (home : ℕ) → home_of spaces names ≡ Some home
    → home_of (with_space spaces space) names ≡ Some home
home_of-kept spaces space names home found = by (list_any (is_space space) spaces)
  where
    by : (b : Bool) → home_of (cond b spaces (spaces ++ space ∷ [])) names ≡ Some home
    by true = found
    by false = position-push (λ one. is_same_path (texts_of one.now) names) spaces space
        ∙ ap (λ (o : Option ℕ). option_or o (cond (is_same_path (texts_of space.now) names) (Some (length spaces)) None)) found

-- a path that is found among these, or is put behind them
pub space-found : (spaces : List (Bor (List AstName))) (space : Bor (List AstName)) (home : ℕ) → home_of spaces (texts_of space.now) ≡ Some home
    → (spaces ≡ with_space spaces space) × (home ≡ place_in spaces space)
space-found spaces space home found =
    (ap (λ b. cond b spaces (spaces ++ space ∷ [])) (sym (list_any-position (is_space space) spaces ∙ ap is_some found)), sym (position_or_len-found (is_space space) spaces home found))

pub space-put : (spaces : List (Bor (List AstName))) (space : Bor (List AstName)) → home_of spaces (texts_of space.now) ≡ None
    → (spaces ++ space ∷ [] ≡ with_space spaces space) × (length spaces ≡ place_in spaces space)
space-put spaces space none =
    (ap (λ b. cond b spaces (spaces ++ space ∷ [])) (sym (list_any-position (is_space space) spaces ∙ ap is_some none)), sym (position_or_len-none (is_space space) spaces none))

-- one path more is found
pub FindsSpaces-more : (spaces : List (Bor (List AstName))) (space : Bor (List AstName)) (find new : List (List ℕ) → Option ℕ) → FindsSpaces find spaces
    → ((path : List (List ℕ)) → new path ≡ option_or (find path) (cond (is_same_path (texts_of space.now) path) (Some (length spaces)) None)) → FindsSpaces new (spaces ++ space ∷ [])
FindsSpaces-more spaces space find new finds updates path =
    updates path ∙ ap (λ (o : Option ℕ). option_or o (cond (is_same_path (texts_of space.now) path) (Some (length spaces)) None)) (finds path)
    ∙ sym (position-push (λ one. is_same_path (texts_of one.now) path) spaces space)

-- the declarations of one namespace more
pub AreHome-more : (spaces : List (Bor (List AstName))) (space : Bor (List AstName)) (placed : List Placed) (added : List Declaration) (home : ℕ)
    → home ≡ place_in spaces space → AreHome spaces placed
    → All (λ one. one.space ≡ texts_of space.now) added
    → AreHome (with_space spaces space) (placed ++ map (λ one. record { declaration = one; home = home }) added)
AreHome-more spaces space placed added home is homes own =
    All-append (λ one. home_of (with_space spaces space) one.declaration.space ≡ Some one.home) placed (map (λ one. record { declaration = one; home = home }) added)
    (All-weaker (λ one. home_of spaces one.declaration.space ≡ Some one.home) (λ one. home_of (with_space spaces space) one.declaration.space ≡ Some one.home)
    (λ one found. home_of-kept spaces space one.declaration.space one.home found) placed homes)
    (All-map (λ one. home_of (with_space spaces space) one.declaration.space ≡ Some one.home) (λ one. record { declaration = one; home = home }) added
    (All-weaker (λ one. one.space ≡ texts_of space.now) (λ (one : Declaration). home_of (with_space spaces space) one.space ≡ Some home)
    (λ one same. ap (home_of (with_space spaces space)) same ∙ home_of-own spaces space ∙ ap (λ (n : ℕ). Some n) (sym is)) added own))

-- the number of a path by its names
pub home_of-names : (spaces : List (Bor (List AstName))) (own : List (List ℕ)) (front : Bor (List AstName)) → 1 ≤ length front.now
    → home_of spaces (texts_of front.now) ≡ home_of spaces (space_meant own front.now)
home_of-names spaces own front some = ap (home_of spaces) (meant_front front.now some)
  where
    meant_front : (names : List AstName) → 1 ≤ length names → texts_of names ≡ space_meant own names
    meant_front [] none = absurd (omega (arith, none))
    meant_front (x ∷ xs) some = refl

-- ---- look-ups

-- a declaration's namespace has this path exactly where it has its number
same_home : (spaces : List (Bor (List AstName))) (one : Placed) (space : List (List ℕ)) (home : ℕ)
    → home_of spaces one.declaration.space ≡ Some one.home → home_of spaces space ≡ Some home
    → is_same_path one.declaration.space space ≡ nat_eq one.home home
same_home spaces one space home own other = by (is_same_path one.declaration.space space) (nat_eq one.home home) refl refl
  where
    spelled : (names : List (List ℕ)) (n : ℕ) → home_of spaces names ≡ Some n → (d : Bor (List AstName)) → texts_of (get_or spaces n d).now ≡ names
    spelled names n found d = is_same_path-true (texts_of (get_or spaces n d).now) names (position-Some (λ one. is_same_path (texts_of one.now) names) spaces n d found).1

    missing : (n : ℕ) → Some n ≡ None → ⊥
    missing n same = cc

    by : (a b : Bool) → is_same_path one.declaration.space space ≡ a → nat_eq one.home home ≡ b → a ≡ b
    by true true e f = refl
    by false false e f = refl
    by true false e f =
        let same : Some one.home ≡ Some home = sym own ∙ ap (home_of spaces) (is_same_path-true one.declaration.space space e) ∙ other in
        let homes : one.home ≡ home = cc in
        absurd (true≢false (sym (eq-eqb one.home home homes) ∙ f))
    by false true e f = absurd (true≢false (sym (apart (eqb-true one.home home f)) ∙ e))
      where
        apart : one.home ≡ home → is_same_path one.declaration.space space ≡ true
        apart homes = first_key spaces refl
          where
            first_key : (l : List (Bor (List AstName))) → spaces ≡ l → is_same_path one.declaration.space space ≡ true
            first_key [] none = absurd (missing home (sym other ∙ ap (λ l. home_of l space) none))
            first_key (d ∷ more) some =
                ap (λ names. is_same_path names space) (sym (spelled one.declaration.space one.home own d) ∙ ap (λ n. texts_of (get_or spaces n d).now) homes ∙ spelled space home other d)
                ∙ is_same_path-itself space

-- the first of a name in a namespace that has a number
pub first_at-found : (spaces : List (Bor (List AstName))) (placed : List Placed) (space : List (List ℕ)) (home : ℕ) (name : List ℕ) → AreHome spaces placed → home_of spaces space ≡ Some home
    → first_at placed home name ≡ first_of_path (declarations_in placed) (space ++ name ∷ [])
first_at-found spaces placed space home name homes found =
    position-same (λ one. nat_eq one.home home && bytes_eq one.declaration.name.name name) (λ one. is_same_path (path_of one.declaration) (space ++ name ∷ [])) placed
    (λ k d within. let one = get_or placed k d in
    ap (λ b. b && bytes_eq one.declaration.name.name name) (sym (same_home spaces one space home (homes k d within) found))
    ∙ sym (is_same_path-ends one.declaration.space space one.declaration.name.name name))
    ∙ sym (position-map (λ one. is_same_path (path_of one) (space ++ name ∷ [])) (λ (one : Placed). one.declaration) placed)

-- no declaration is found in a namespace that is not there
pub first_of_path-none : (spaces : List (Bor (List AstName))) (placed : List Placed) (space : List (List ℕ)) (name : List ℕ) → AreHome spaces placed → home_of spaces space ≡ None
    → first_of_path (declarations_in placed) (space ++ name ∷ []) ≡ None
first_of_path-none spaces placed space name homes none =
    position-map (λ one. is_same_path (path_of one) (space ++ name ∷ [])) (λ (one : Placed). one.declaration) placed
    ∙ position-none (λ one. is_same_path (path_of one.declaration) (space ++ name ∷ [])) placed
    (λ k d within. let one = get_or placed k d in
    is_same_path-ends one.declaration.space space one.declaration.name.name name
    ∙ ap (λ b. b && bytes_eq one.declaration.name.name name) (false_from_ne_true (is_same_path one.declaration.space space)
    (λ same. never one.home (sym (homes k d within) ∙ ap (home_of spaces) (is_same_path-true one.declaration.space space same) ∙ none))))
  where
    never : (n : ℕ) → Some n ≡ None → ⊥
    never n same = cc

-- the empty path names nothing
pub first_of_path-empty : (all : List Declaration) → first_of_path all [] ≡ None
first_of_path-empty all = position-none (λ one. is_same_path (path_of one) []) all (λ k d within. is_same_path-none (get_or all k d).space (get_or all k d).name.name)

-- ---- the data that the code keeps of declarations

pub length-declarations_of : (all : List Declared) → length (declarations_of all) ≡ length all
length-declarations_of [] = refl
length-declarations_of (x ∷ xs) = ap (λ n. suc n) (length-declarations_of xs)

pub placed-at : (all : List Declared) (i : ℕ) (one : Declared) → i < length all → one ≡ get_or all i one → placed_of one ≡ get_or (placed all) i (placed_of one)
placed-at [] i one within is = absurd (omega (arith, within))
placed-at (x ∷ xs) zero one within is = ap placed_of is
placed-at (x ∷ xs) (suc i) one within is = placed-at xs i one (omega arith) is

pub declaration-at : (all : List Declared) (i : ℕ) (one : Declared) → i < length all → one ≡ get_or all i one → (placed_of one).declaration ≡ declaration (declarations_of all) i
declaration-at [] i one within is = absurd (omega (arith, within))
declaration-at (x ∷ xs) zero one within is = ap (λ d. (placed_of d).declaration) is
declaration-at (x ∷ xs) (suc i) one within is = declaration-at xs i one (omega arith) is

-- the number of a declaration's namespace
pub home-at : (spaces : List (Bor (List AstName))) (all : List Declared) (i : ℕ) (one : Declared) → AreHome spaces (placed all) → i < length all → one ≡ get_or all i one
    → home_of spaces (declaration (declarations_of all) i).space ≡ Some one.home
home-at spaces all i one homes within is =
    let same = placed-at all i one within is in
    ap (λ (d : Declaration). home_of spaces d.space) (sym (declaration-at all i one within is))
    ∙ subst (λ (p : Placed). home_of spaces p.declaration.space ≡ Some p.home) (sym same)
    (homes i (placed_of one) (omega (arith, within, length-placed all)))
  where
    length-placed : (l : List Declared) → length (placed l) ≡ length l
    length-placed [] = refl
    length-placed (x ∷ xs) = ap (λ n. suc n) (length-placed xs)

-- the number that is found is that of a declaration
pub position-within : {X : Type 0} (p : X → Bool) (xs : List X) → IfSome (position p xs) (λ n. n < length xs)
position-within p xs = by (ltb (position_or_len p xs) (length xs)) refl
  where
    by : (b : Bool) → ltb (position_or_len p xs) (length xs) ≡ b → IfSome (cond b (Some (position_or_len p xs)) None) (λ n. n < length xs)
    by true below = ltb-true (position_or_len p xs) (length xs) below
    by false above = tt

pub first_at-within : (all : List Declared) (home : ℕ) (name : List ℕ) (found : Option ℕ) → found ≡ first_at (placed all) home name → IfSome found (λ n. n < length (declarations_of all))
first_at-within all home name found is =
    subst (λ (o : Option ℕ). IfSome o (λ n. n < length (declarations_of all))) (sym is)
    (subst (λ (k : ℕ). IfSome (first_at (placed all) home name) (λ n. n < k)) (same all)
    (position-within (λ one. nat_eq one.home home && bytes_eq one.declaration.name.name name) (placed all)))
  where
    same : (l : List Declared) → length (placed l) ≡ length (declarations_of l)
    same [] = refl
    same (x ∷ xs) = ap (λ n. suc n) (same xs)

-- one declaration more
pub first_at-more : (all : List Declared) (i : ℕ) (one : Declared) (home : ℕ) (name : List ℕ) → i < length all → one ≡ get_or all i one
    → first_at (placed (take (i + 1) all)) home name
    ≡ option_or (first_at (placed (take i all)) home name) (cond (nat_eq one.home home && bytes_eq one.name.now.name name) (Some i) None)
first_at-more all i one home name within is =
    let test : Placed → Bool = λ p. nat_eq p.home home && bytes_eq p.declaration.name.name name in
    ap (λ (l : List Declared). position test (placed l)) (take_more all i one within ∙ ap (λ (d : Declared). take i all ++ d ∷ []) (sym is))
    ∙ ap (position test) (map-append placed_of (take i all) (one ∷ []))
    ∙ position-push test (placed (take i all)) (placed_of one)
    ∙ ap (λ n. option_or (position test (placed (take i all))) (cond (test (placed_of one)) (Some n) None)) (long all i (omega arith))
  where
    long : (l : List Declared) (n : ℕ) → n ≤ length l → length (placed (take n l)) ≡ n
    long l zero enough = refl
    long [] (suc n) enough = absurd (omega (arith, enough))
    long (x ∷ xs) (suc n) enough = ap (λ k. suc k) (long xs n (omega arith))

-- ---- paths

pub meant-ends : (space : List (List ℕ)) (front : List AstName) (last : AstName) → meant space (record { names = front ++ last ∷ [] }) ≡ space_meant space front ++ last.name ∷ []
meant-ends space [] last = refl
meant-ends space (first ∷ more) last =
    ap (λ b. cond b (space ++ texts_of (first ∷ more ++ last ∷ [])) (texts_of (first ∷ more ++ last ∷ []))) (ne_eqb (suc (length (more ++ last ∷ []))) 1 (λ same. omega (arith, length-append more (last ∷ []), same)))
    ∙ ap (λ (l : List (List ℕ)). first.name ∷ l) (map-append (λ one. one.name) more (last ∷ []))

-- a path that ends in a name
pub named-ends : (all : List Declaration) (space : List (List ℕ)) (path : AstPath) (names : List AstName) (last : AstName) → names ≡ path.names → 1 ≤ length names
    → last ≡ get_or names (length names - 1) last
    → first_of_path all (space_meant space (take (length names - 1) names) ++ last.name ∷ []) ≡ named all space path
named-ends all space path names last same some is =
    ap (first_of_path all) (sym (meant-ends space (take (length names - 1) names) last))
    ∙ ap (λ (l : List AstName). first_of_path all (meant space (record { names = l }))) (sym (ends names last some is) ∙ same)

pub named-empty : (all : List Declaration) (space : List (List ℕ)) (path : AstPath) (names : List AstName) → names ≡ path.names → length names < 1 → None ≡ named all space path
named-empty all space path names same none =
    sym (ap (λ (l : List AstName). first_of_path all (meant space (record { names = l }))) (sym same ∙ empty_from names none) ∙ first_of_path-empty all)
