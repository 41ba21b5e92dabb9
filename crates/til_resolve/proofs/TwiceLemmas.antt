-- Names that are declared twice, found by the names before them.
use Rattle.std.proofs.Common.{◌≡◌, ℕ, zero, suc, ◌+◌, ◌<◌, ◌≤◌, Bool, true, false, cond, ltb, not, ◌||◌, List, [], ◌∷◌, ◌++◌, length, map, filter, take, get_or, position, Option, Some, None, option_map, Contains, refl, sym, ap, subst, ◌∙◌, arith}
use Rattle.std.specs.Bool.{then_some}
use Rattle.std.specs.List.{list_any, filter_map}
use Rattle.std.specs.Option.{option_to_list}
use Rattle.std.specs.Str.{bytes_eq}
use Rattle.std.proofs.lemmas.Bool.{lt-ltb, le-ltb, ltb-true, ltb-false}
use Rattle.std.proofs.lemmas.List.{take_more, map-append}
use Rattle.std.proofs.lemmas.List.Elements.{filter-append, filter_map-append}
use Rattle.std.proofs.lemmas.List.Folds.{list_any_more, list_any-append}
use Rattle.tydi_base.specs.declared.place.Place.{Place}
use Rattle.til_parser.specs.declared.tree.AstBody.{AstBody}
use Rattle.til_parser.specs.declared.tree.AstBody.TheVariants as bodies
use Rattle.til_parser.specs.declared.tree.AstPath.{AstPath}
use Rattle.til_parser.specs.declared.tree.AstStmt.{AstStmt}
use Rattle.til_parser.specs.declared.tree.AstStmt.TheVariants as statements
use Rattle.til_resolve.specs.Declarations.{Declaration, declaration, path_of, first_of_path, named_as, is_streamlet, PortOf, ports_of_streamlet}
use Rattle.til_resolve.specs.Earliest.{IsEarliest, earlier}
use Rattle.til_resolve.specs.Names.{declared_again, implements, is_impl_of, implements_again, implemented_again, WrittenInstance, instance_at, instances_again, instances_named_as_ports, names_again_in_impl, has_port}
use Rattle.til_resolve.specs.Twice.{FindsNames, AddsInstance, instance_again}
use Rattle.til_resolve.proofs.EarliestLemmas.{IsEarliest-at, IsEarliest-append}
use Rattle.til_resolve.proofs.AgainLemmas.{append_nil, IsEarliest-if, seconds-grown}
use Rattle.til_resolve.proofs.PositionLemmas.{position-cons}

-- ---- declarations

-- a place that was found stands before a number
abbrev found_before : Option ℕ → ℕ → Bool
found_before None number = false
found_before (Some first) number = ltb first number

list_any-take : {X : Type 0} (p : X → Bool) (xs : List X) (n : ℕ) → list_any p (take n xs) ≡ found_before (position p xs) n
list_any-take p [] zero = refl
list_any-take p [] (suc n) = refl
list_any-take p (x ∷ xs) zero = nothing (position p (x ∷ xs))
  where
    nothing : (o : Option ℕ) → false ≡ found_before o zero
    nothing None = refl
    nothing (Some k) = sym (le-ltb k zero (omega arith))
list_any-take p (x ∷ xs) (suc n) = by (p x) (list_any-take p xs n) ∙ ap (λ (o : Option ℕ). found_before o (suc n)) (sym (position-cons p x xs))
  where
    later : (o : Option ℕ) → found_before o n ≡ found_before (option_map suc o) (suc n)
    later None = refl
    later (Some k) = shifted (ltb k n) refl
      where
        shifted : (b : Bool) → ltb k n ≡ b → b ≡ ltb (suc k) (suc n)
        shifted true below = sym (lt-ltb (suc k) (suc n) (omega (arith, ltb-true k n below)))
        shifted false above = sym (le-ltb (suc k) (suc n) (omega (arith, ltb-false k n above)))

    by : (b : Bool) → list_any p (take n xs) ≡ found_before (position p xs) n
        → (b || list_any p (take n xs)) ≡ found_before (cond b (Some 0) (option_map suc (position p xs))) (suc n)
    by true same = sym (lt-ltb 0 (suc n) (omega arith))
    by false same = same ∙ later (position p xs)

tested : (all : List Declaration) (number : ℕ) (first : Option ℕ) (b : Bool) → first ≡ first_of_path all (path_of (declaration all number)) → found_before first number ≡ b
    → IsEarliest (Contains (declared_again all number)) (then_some b (declaration all number).name.place)
tested all number first b is so =
    let place = (declaration all number).name.place in
    subst (λ t. IsEarliest (Contains (cond t (place ∷ []) [])) (then_some b place))
    (sym so ∙ ap (λ (o : Option ℕ). found_before o number) is ∙ sym (list_any-take _ all number)) (IsEarliest-if b place)

pub declared_again-here : (all : List Declaration) (number first : ℕ) (place : Place) → Some first ≡ first_of_path all (path_of (declaration all number)) → first < number
    → place ≡ (declaration all number).name.place → IsEarliest (Contains (declared_again all number)) (Some place)
declared_again-here all number first place is before at =
    subst (λ (p : Place). IsEarliest (Contains (declared_again all number)) (Some p)) (sym at) (tested all number (Some first) true is (lt-ltb first number before))

pub declared_again-first : (all : List Declaration) (number first : ℕ) → Some first ≡ first_of_path all (path_of (declaration all number)) → number ≤ first
    → IsEarliest (Contains (declared_again all number)) None
declared_again-first all number first is after = tested all number (Some first) false is (le-ltb first number after)

pub declared_again-none : (all : List Declaration) (number : ℕ) → None ≡ first_of_path all (path_of (declaration all number)) → IsEarliest (Contains (declared_again all number)) None
declared_again-none all number is = tested all number None false is refl

-- ---- implementations

implemented-tested : (all : List Declaration) (number streamlet : ℕ) (first : Option ℕ) (b : Bool) → Some streamlet ≡ implements all (declaration all number)
    → first ≡ position (is_impl_of all streamlet) all → found_before first number ≡ b → IsEarliest (Contains (implemented_again all number)) (then_some b (declaration all number).name.place)
implemented-tested all number streamlet first b of is so =
    let place = (declaration all number).name.place in
    subst (λ (l : List Place). IsEarliest (Contains l) (then_some b place)) (ap (implements_again all number) of)
    (subst (λ t. IsEarliest (Contains (cond t (place ∷ []) [])) (then_some b place))
    (sym so ∙ ap (λ (o : Option ℕ). found_before o number) is ∙ sym (list_any-take (is_impl_of all streamlet) all number)) (IsEarliest-if b place))

pub implemented-here : (all : List Declaration) (number streamlet first : ℕ) (place : Place) → Some streamlet ≡ implements all (declaration all number)
    → Some first ≡ position (is_impl_of all streamlet) all → first < number → place ≡ (declaration all number).name.place → IsEarliest (Contains (implemented_again all number)) (Some place)
implemented-here all number streamlet first place of is before at =
    subst (λ (p : Place). IsEarliest (Contains (implemented_again all number)) (Some p)) (sym at) (implemented-tested all number streamlet (Some first) true of is (lt-ltb first number before))

pub implemented-later : (all : List Declaration) (number streamlet first : ℕ) → Some streamlet ≡ implements all (declaration all number)
    → Some first ≡ position (is_impl_of all streamlet) all → number ≤ first → IsEarliest (Contains (implemented_again all number)) None
implemented-later all number streamlet first of is after = implemented-tested all number streamlet (Some first) false of is (le-ltb first number after)

pub implemented-by_none : (all : List Declaration) (number streamlet : ℕ) → Some streamlet ≡ implements all (declaration all number)
    → None ≡ position (is_impl_of all streamlet) all → IsEarliest (Contains (implemented_again all number)) None
implemented-by_none all number streamlet of is = implemented-tested all number streamlet None false of is refl

-- ---- keys that were seen

pub not_not : (b : Bool) → not (not b) ≡ b
not_not true = refl
not_not false = refl

-- the keys of one thing more are found
pub seen-more : {X K : Type 0} (eq : K → K → Bool) (find new : K → Bool) (key : X → K) (xs : List X) (i : ℕ) (x : X) (value : K) → i < length xs → x ≡ get_or xs i x → value ≡ key x
    → ((q : K) → find q ≡ list_any (λ e. eq (key e) q) (take i xs)) → ((q : K) → new q ≡ (find q || eq value q))
    → (q : K) → new q ≡ list_any (λ e. eq (key e) q) (take (i + 1) xs)
seen-more eq find new key xs i x value within at is finds updates q =
    updates q ∙ ap (λ b. b || eq value q) (finds q)
    ∙ ap (λ k. list_any (λ e. eq (key e) q) (take i xs) || eq k q) is
    ∙ ap (λ y. list_any (λ e. eq (key e) q) (take i xs) || eq (key y) q) at
    ∙ sym (list_any_more (λ e. eq (key e) q) xs i x within)

-- whether a key stands again
pub seen-again : {X K : Type 0} (eq : K → K → Bool) (find : K → Bool) (key : X → K) (xs : List X) (x : X) (value : K) (is_new : Bool) → value ≡ key x → is_new ≡ not (find value)
    → ((q : K) → find q ≡ list_any (λ e. eq (key e) q) xs) → not is_new ≡ list_any (λ e. eq (key e) (key x)) xs
seen-again eq find key xs x value is_new is new finds = ap not new ∙ not_not (find value) ∙ finds value ∙ ap (λ k. list_any (λ e. eq (key e) k) xs) is

-- ---- instances

pub instances-more : (stmts : List AstStmt) (i : ℕ) (stmt : AstStmt) → i < length stmts → stmt ≡ get_or stmts i stmt
    → filter_map instance_at (take i stmts) ++ option_to_list (instance_at stmt) ≡ filter_map instance_at (take (i + 1) stmts)
instances-more stmts i stmt within at =
    ap (λ (l : List WrittenInstance). filter_map instance_at (take i stmts) ++ l) (one stmt)
    ∙ sym (ap (filter_map instance_at) (take_more stmts i stmt within ∙ ap (λ (s : AstStmt). take i stmts ++ s ∷ []) (sym at)) ∙ filter_map-append instance_at (take i stmts) (stmt ∷ []))
  where
    one : (s : AstStmt) → option_to_list (instance_at s) ≡ filter_map instance_at (s ∷ [])
    one (statements.Instance name streamlet) = refl
    one (statements.Link first second) = refl

instances_again-push : (instances : List WrittenInstance) (one : Option WrittenInstance) (found other : Option Place)
    → IsEarliest (Contains (instances_again instances)) found → IsEarliest (Contains (instance_again instances one)) other
    → IsEarliest (Contains (instances_again (instances ++ option_to_list one))) (earlier found other)
instances_again-push instances None found other so here =
    subst (λ (l : List WrittenInstance). IsEarliest (Contains (instances_again l)) (earlier found other)) (sym (append_nil instances))
    (IsEarliest-at (instances_again instances ++ []) (instances_again instances) (earlier found other) (append_nil (instances_again instances))
    (IsEarliest-append (instances_again instances) [] found other so here))
instances_again-push instances (Some one) found other so here =
    IsEarliest-at (instances_again instances ++ instance_again instances (Some one)) (instances_again (instances ++ one ∷ [])) (earlier found other) grown
    (IsEarliest-append (instances_again instances) (instance_again instances (Some one)) found other so here)
  where
    grown : instances_again instances ++ instance_again instances (Some one) ≡ instances_again (instances ++ one ∷ [])
    grown = seconds-grown (λ first second. bytes_eq first.name.name second.name.name) (λ instance. instance.name.place) instances one

pub instances_again-more : (stmts : List AstStmt) (i : ℕ) (stmt : AstStmt) (found other : Option Place) → i < length stmts → stmt ≡ get_or stmts i stmt
    → IsEarliest (Contains (instances_again (filter_map instance_at (take i stmts)))) found → IsEarliest (Contains (instance_again (filter_map instance_at (take i stmts)) (instance_at stmt))) other
    → IsEarliest (Contains (instances_again (filter_map instance_at (take (i + 1) stmts)))) (earlier found other)
instances_again-more stmts i stmt found other within at so here =
    subst (λ (l : List WrittenInstance). IsEarliest (Contains (instances_again l)) (earlier found other)) (instances-more stmts i stmt within at)
    (instances_again-push (filter_map instance_at (take i stmts)) (instance_at stmt) found other so here)

-- an instance that is added
pub AddsInstance-new : (find new : List ℕ → Bool) (front : List WrittenInstance) (name : List ℕ) (one : WrittenInstance) (is_new : Bool) → name ≡ one.name.name
    → is_new ≡ not (find name) → ((q : List ℕ) → new q ≡ (find q || bytes_eq name q)) → FindsNames find front
    → AddsInstance new front (Some one) (then_some (not is_new) one.name.place)
AddsInstance-new find new front name one is_new is first updates finds = record {
  seen = λ q. updates q ∙ ap (λ b. b || bytes_eq name q) (finds q)
      ∙ ap (λ n. list_any (λ e. bytes_eq e.name.name q) front || bytes_eq n q) is
      ∙ ap (λ b. list_any (λ e. bytes_eq e.name.name q) front || b) (only (bytes_eq one.name.name q))
      ∙ sym (list_any-append (λ e. bytes_eq e.name.name q) front (one ∷ []));
  again = subst (λ t. IsEarliest (Contains (cond t (one.name.place ∷ []) [])) (then_some (not is_new) one.name.place))
      (ap not first ∙ not_not (find name) ∙ finds name ∙ ap (λ n. list_any (λ e. bytes_eq e.name.name n) front) is)
      (IsEarliest-if (not is_new) one.name.place);
}
  where
    only : (b : Bool) → b ≡ (b || false)
    only true = refl
    only false = refl

-- ---- instances with names of ports

pub named_as_ports-append : (own : List PortOf) (front back : List AstStmt)
    → instances_named_as_ports own (filter_map instance_at (front ++ back)) ≡ instances_named_as_ports own (filter_map instance_at front) ++ instances_named_as_ports own (filter_map instance_at back)
named_as_ports-append own front back =
    let test : WrittenInstance → Bool = λ instance. has_port own instance.name.name in
    let place : WrittenInstance → Place = λ instance. instance.name.place in
    ap (λ (l : List WrittenInstance). map place (filter test l)) (filter_map-append instance_at front back)
    ∙ ap (map place) (filter-append test (filter_map instance_at front) (filter_map instance_at back))
    ∙ map-append place (filter test (filter_map instance_at front)) (filter test (filter_map instance_at back))

pub named_as_ports-one : (own : List PortOf) (stmt : AstStmt) (one : WrittenInstance) (is : Bool) → instance_at stmt ≡ Some one → is ≡ has_port own one.name.name
    → IsEarliest (Contains (instances_named_as_ports own (filter_map instance_at (stmt ∷ [])))) (then_some is one.name.place)
named_as_ports-one own stmt one is at named =
    subst (λ (l : List WrittenInstance). IsEarliest (Contains (instances_named_as_ports own l)) (then_some is one.name.place)) (listed stmt at)
    (subst (λ t. IsEarliest (Contains (map (λ instance. instance.name.place) (cond t (one ∷ []) []))) (then_some is one.name.place)) named (tells is))
  where
    tells : (b : Bool) → IsEarliest (Contains (map (λ (instance : WrittenInstance). instance.name.place) (cond b (one ∷ []) []))) (then_some b one.name.place)
    tells true = IsEarliest-if true one.name.place
    tells false = IsEarliest-if false one.name.place

    listed : (s : AstStmt) → instance_at s ≡ Some one → one ∷ [] ≡ filter_map instance_at (s ∷ [])
    listed (statements.Instance name streamlet) same = let e : ◌≡◌ {A = WrittenInstance} (record { name = name; streamlet = streamlet }) one = cc in ap (λ (x : WrittenInstance). x ∷ []) (sym e)
    listed (statements.Link first second) same = cc

pub named_as_ports-nothing : (instances : List WrittenInstance) → instances_named_as_ports [] instances ≡ []
named_as_ports-nothing [] = refl
named_as_ports-nothing (x ∷ xs) = named_as_ports-nothing xs

-- ---- bodies

pub names_again_in_impl-of : (all : List Declaration) (space : List (List ℕ)) (target : AstPath) (body : AstBody) (stmts : List AstStmt) (streamlet : Option ℕ) (again as_ports found : Option Place)
    → body ≡ bodies.Structural stmts → streamlet ≡ named_as is_streamlet all space target → found ≡ earlier again as_ports
    → IsEarliest (Contains (instances_again (filter_map instance_at stmts))) again
    → IsEarliest (Contains (instances_named_as_ports (ports_of_streamlet all streamlet) (filter_map instance_at stmts))) as_ports
    → IsEarliest (Contains (names_again_in_impl all space target body)) found
names_again_in_impl-of all space target body stmts streamlet again as_ports found structural named told first second =
    subst (λ (b : AstBody). IsEarliest (Contains (names_again_in_impl all space target b)) found) (sym structural)
    (subst (λ (o : Option ℕ). IsEarliest (Contains (instances_again (filter_map instance_at stmts) ++ instances_named_as_ports (ports_of_streamlet all o) (filter_map instance_at stmts))) found) named
    (subst (IsEarliest _) (sym told)
    (IsEarliest-append (instances_again (filter_map instance_at stmts)) (instances_named_as_ports (ports_of_streamlet all streamlet) (filter_map instance_at stmts)) again as_ports first second)))
