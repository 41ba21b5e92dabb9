-- Lists in which each thing is related to one of another list, and streamlets, instances, links and tests, one thing more.
use Rattle.std.proofs.Common.{◌≡◌, ℕ, zero, suc, ◌+◌, ◌<◌, Bool, true, false, cond, List, [], ◌∷◌, ◌++◌, length, map, filter, take, get_or, refl, sym, ap, subst, ◌∙◌, arith, length-append, add-one}
use Rattle.std.specs.List.{filter_map, range_with_len}
use Rattle.std.proofs.lemmas.List.{take_more, map-append}
use Rattle.std.proofs.lemmas.List.Elements.{filter-append, filter_map-append}
use Rattle.til_parser.specs.declared.tree.AstStmt.{AstStmt}
use Rattle.til_resolve.specs.declared.project.Streamlet.{Streamlet}
use Rattle.til_resolve.specs.Declarations.{Declaration, declaration, is_streamlet}
use Rattle.til_resolve.specs.Making.{numbers_before}
use Rattle.til_resolve.specs.Names.{instance_at}
use Rattle.til_resolve.specs.Project.{Pairwise, IsStreamletOf, streamlets_before, streamlet_number, instance_of, instances_in, link_at, links_of, test_of, tests_in}
use Rattle.til_resolve.proofs.AgainLemmas.{append_nil}
use Rattle.til_resolve.proofs.TypeGraphLemmas.{each-at, length-each}

-- ---- pairs of lists

pub Pairwise-push : {A B : Type 0} (Related : A → B → Type 0) (xs : List A) (ys : List B) (x : A) (y : B)
    → Pairwise Related xs ys → Related x y → Pairwise Related (xs ++ x ∷ []) (ys ++ y ∷ [])
Pairwise-push Related [] [] x y are is = (is, tt)
Pairwise-push Related [] (b ∷ bs) x y are is = absurd are
Pairwise-push Related (a ∷ others) [] x y are is = absurd are
Pairwise-push Related (a ∷ others) (b ∷ bs) x y are is = (are.0, Pairwise-push Related others bs x y are.1 is)

-- ---- streamlets before a number

range-more : (a n : ℕ) → range_with_len a (suc n) ≡ range_with_len a n ++ (a + n) ∷ []
range-more a zero = ap (λ (k : ℕ). k ∷ []) (omega arith)
range-more a (suc n) =
    let last : (a + 1) + n ≡ a + suc n = omega arith in
    ap (λ (l : List ℕ). a ∷ l) (range-more (a + 1) n ∙ ap (λ (k : ℕ). range_with_len (a + 1) n ++ k ∷ []) last)

pub streamlets-more : (all : List Declaration) (n : ℕ) → streamlets_before all (n + 1) ≡ streamlets_before all n ++ cond (is_streamlet (declaration all n)) (n ∷ []) []
streamlets-more all n =
    let test : ℕ → Bool = λ number. is_streamlet (declaration all number) in
    let same : 0 + n ≡ n = omega arith in
    ap (filter test) (ap (range_with_len 0) (add-one n) ∙ range-more 0 n ∙ ap (λ (k : ℕ). range_with_len 0 n ++ k ∷ []) same)
    ∙ filter-append test (range_with_len 0 n) (n ∷ [])

streamlets-here : (all : List Declaration) (n : ℕ) → is_streamlet (declaration all n) ≡ true → streamlets_before all (n + 1) ≡ streamlets_before all n ++ n ∷ []
streamlets-here all n is = streamlets-more all n ∙ ap (λ b. streamlets_before all n ++ cond b (n ∷ []) []) is

streamlets-not : (all : List Declaration) (n : ℕ) → is_streamlet (declaration all n) ≡ false → streamlets_before all (n + 1) ≡ streamlets_before all n
streamlets-not all n is = streamlets-more all n ∙ ap (λ b. streamlets_before all n ++ cond b (n ∷ []) []) is ∙ append_nil (streamlets_before all n)

-- a declaration that is no streamlet
pub streamlets-kept : (all : List Declaration) (n : ℕ) (is : Bool) → is ≡ is_streamlet (declaration all n) → is ≡ false → streamlets_before all n ≡ streamlets_before all (n + 1)
streamlets-kept all n is same other = sym (streamlets-not all n (sym same ∙ other))

-- a streamlet more
pub streamlets-push : (all : List Declaration) (n : ℕ) (is : Bool) (made : Streamlet) (so_far new : List Streamlet) → is ≡ is_streamlet (declaration all n) → is ≡ true
    → Pairwise (IsStreamletOf all) (streamlets_before all n) so_far → IsStreamletOf all n made → new ≡ so_far ++ made ∷ [] → Pairwise (IsStreamletOf all) (streamlets_before all (n + 1)) new
streamlets-push all n is made so_far new same one are is_it grown =
    subst (λ (l : List ℕ). Pairwise (IsStreamletOf all) l new) (sym (streamlets-here all n (sym same ∙ one)))
    (subst (λ (l : List Streamlet). Pairwise (IsStreamletOf all) (streamlets_before all n ++ n ∷ []) l) (sym grown)
    (Pairwise-push (IsStreamletOf all) (streamlets_before all n) so_far n made are is_it))

pub number-more : (all : List Declaration) (n : ℕ) → streamlet_number all (n + 1) ≡ streamlet_number all n + cond (is_streamlet (declaration all n)) 1 0
number-more all n = ap length (streamlets-more all n) ∙ length-append (streamlets_before all n) (cond (is_streamlet (declaration all n)) (n ∷ []) [])
    ∙ ap (λ (k : ℕ). streamlet_number all n + k) (by (is_streamlet (declaration all n)))
  where
    by : (b : Bool) → length (cond b (n ∷ []) []) ≡ cond b 1 0
    by true = refl
    by false = refl

pub numbers-more : (all : List Declaration) (n count : ℕ) → count ≡ streamlet_number all n → numbers_before all n ++ count ∷ [] ≡ numbers_before all (n + 1)
numbers-more all n count is = ap (λ (k : ℕ). numbers_before all n ++ k ∷ []) is ∙ ap (numbers_before all) (sym (add-one n))

pub number-at : (all : List Declaration) (n k d : ℕ) → k < n → get_or (numbers_before all n) k d ≡ streamlet_number all k
number-at all n k d within = each-at (streamlet_number all) n k d within

pub length-numbers : (all : List Declaration) (n : ℕ) → length (numbers_before all n) ≡ n
length-numbers all n = length-each (streamlet_number all) n

-- ---- a statement more

pub instances-more_in : (all : List Declaration) (space : List (List ℕ)) (stmts : List AstStmt) (i : ℕ) (stmt : AstStmt) → i < length stmts → stmt ≡ get_or stmts i stmt
    → instances_in all space (take (i + 1) stmts) ≡ instances_in all space (take i stmts) ++ instances_in all space (stmt ∷ [])
instances-more_in all space stmts i stmt within is =
    ap (instances_in all space) (take_more stmts i stmt within ∙ ap (λ (s : AstStmt). take i stmts ++ s ∷ []) (sym is))
    ∙ ap (map (instance_of all space)) (filter_map-append instance_at (take i stmts) (stmt ∷ []))
    ∙ map-append (instance_of all space) (filter_map instance_at (take i stmts)) (filter_map instance_at (stmt ∷ []))

pub links-more : (stmts : List AstStmt) (i : ℕ) (stmt : AstStmt) → i < length stmts → stmt ≡ get_or stmts i stmt
    → links_of (take (i + 1) stmts) ≡ links_of (take i stmts) ++ links_of (stmt ∷ [])
links-more stmts i stmt within is =
    ap links_of (take_more stmts i stmt within ∙ ap (λ (s : AstStmt). take i stmts ++ s ∷ []) (sym is)) ∙ filter_map-append link_at (take i stmts) (stmt ∷ [])

-- ---- a declaration more

pub taken-more : (all : List Declaration) (i : ℕ) → i < length all → take (i + 1) all ≡ take i all ++ declaration all i ∷ []
taken-more all i within = take_more all i _ within

pub tests-more : (all : List Declaration) (i : ℕ) → i < length all → tests_in all (take (i + 1) all) ≡ tests_in all (take i all) ++ tests_in all (declaration all i ∷ [])
tests-more all i within = ap (tests_in all) (taken-more all i within) ∙ filter_map-append (test_of all) (take i all) (declaration all i ∷ [])
