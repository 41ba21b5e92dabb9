-- The project of a tree without faults stands.
use Rattle.std.proofs.Common.{◌≡◌, ℕ, zero, suc, ◌+◌, ◌<◌, ◌≤◌, ◌⊎◌, inl, inr, Bool, true, false, not, ◌&&◌, ◌||◌, cond, List, [], ◌∷◌, ◌++◌, map, filter, length, get_or, slice_get, take, Option, Some, None, is_some, Contains, refl, sym, ap, subst, ◌∙◌, append_assoc, arith}
use Rattle.std.specs.List.{filter_map, list_any, range_with_len}
use Rattle.std.specs.Cmp.Lexicographic.{bytes_decides}
use Rattle.std.specs.Str.{bytes_eq, str_eq_ignore_ascii_case}
use Rattle.std.proofs.lemmas.Bool.{cases_lt}
use Rattle.std.proofs.lemmas.Bool.Decides.{Decides-eqb}
use Rattle.std.proofs.lemmas.List.{append-nil, get_or_default, take_all}
use Rattle.std.proofs.lemmas.Option.{get_or_from_slice_get, slice_get-get_or}
use Rattle.std.proofs.lemmas.List.Elements.{Contains-append_left, Contains-append_right}
use Rattle.tydi_base.specs.declared.place.Place.{Place}
use Rattle.til_parser.specs.declared.tree.Ast.{Ast}
use Rattle.til_parser.specs.declared.tree.AstBody.{AstBody}
use Rattle.til_parser.specs.declared.tree.AstBody.TheVariants as bodies
use Rattle.til_parser.specs.declared.tree.AstKind.{AstKind}
use Rattle.til_parser.specs.declared.tree.AstKind.TheVariants as decls
use Rattle.til_parser.specs.declared.tree.AstName.{AstName}
use Rattle.til_parser.specs.declared.tree.AstPath.{AstPath}
use Rattle.til_parser.specs.declared.tree.AstPort.{AstPort}
use Rattle.til_parser.specs.declared.tree.AstPorts.TheVariants as ports
use Rattle.til_resolve.specs.declared.fault.ResolveFault.{ResolveFault}
use Rattle.til_resolve.specs.declared.fault.ResolveFault.TheVariants as faults
use Rattle.til_resolve.specs.Cycles.{ByWay, ContainsStreamlet, LeadsTo, paths_of_instances}
use Rattle.til_resolve.specs.Declarations.{Declaration, PortOf, before, declaration, declarations, is_interface, is_streamlet, named, named_as, nowhere, own_ports, path_of, place_of, ports_in, ports_of, ports_of_number, ports_of_streamlet}
use Rattle.til_resolve.specs.Faults.{HasFault, IsSound}
use Rattle.til_resolve.specs.Names.{Use, WrittenInstance, again, declared_again, has_port, implements, instance_at, instances_again, instances_named_as_ports, instances_of, is_impl_of, is_number, is_unknown, is_wrong_kind, names_again_in_body, port_unknown, port_unknown_in, ports_again, refused, seconds, target_place, twice_at, uses_in}
use Rattle.til_resolve.specs.Paths.{is_same_path}
use Rattle.til_resolve.specs.PlainProject.{PlainPort, PlainProject, PlainStreamlet, port_from, project_of, streamlet_from}
use Rattle.til_resolve.specs.Project.{body_of, first_of, impl_by, impl_of, instance_of, number_of, numbered, streamlet_number, streamlet_numbers, test_of, tests_in}
use Rattle.til_resolve.specs.SoundProject.{ArePortsApart, AreDistinct, DrivesPort, HasInstanceOf, HasNamesApart, IsSoundProject, instances_inside}
use Rattle.til_resolve.specs.declared.project.Impl.{Impl}
use Rattle.til_resolve.specs.declared.project.Instance.{Instance}
use Rattle.til_resolve.specs.declared.project.Test.{Test}
use Rattle.til_resolve.proofs.PortTypeLemmas.{Contains-map, Contains-mapped, named-is, ports-valid}
use Rattle.til_resolve.proofs.ScopeLemmas.{is_same_path-itself}
use Rattle.til_resolve.proofs.TypeGraphLemmas.{named-within}

-- ---- lists

module _ {A : Type 0} where
  get-inside : (xs : List A) (i : ℕ) (x : A) → slice_get xs i ≡ Some x → Contains xs x
  get-inside [] zero x is = absurd cc
  get-inside [] (suc i) x is = absurd cc
  get-inside (first ∷ xs) zero x is = (0, omega arith, same first is)
    where
      same : (y : A) → ◌≡◌ {A = Option A} (Some y) (Some x) → y ≡ x
      same y e = cc
  get-inside (first ∷ xs) (suc i) x is = let rest = get-inside xs i x is in (suc rest.0, omega (arith, rest.1), rest.2)

  get-within : (xs : List A) (i : ℕ) (x : A) → slice_get xs i ≡ Some x → i < length xs
  get-within [] zero x is = absurd cc
  get-within [] (suc i) x is = absurd cc
  get-within (first ∷ xs) zero x is = omega arith
  get-within (first ∷ xs) (suc i) x is = omega (arith, get-within xs i x is)

  filtered-at : (p : A → Bool) (xs : List A) (x : A) (n : ℕ) → n < length xs → get_or xs n x ≡ x → p x ≡ true → Contains (filter p xs) x
  filtered-at p [] x n within same test = absurd (omega (arith, within))
  filtered-at p (first ∷ xs) x zero within same test = by (p first) (ap p same ∙ test)
    where
      by : (b : Bool) → b ≡ true → Contains (cond b (first ∷ filter p xs) (filter p xs)) x
      by true is = (0, omega arith, same)
      by false is = absurd cc
  filtered-at p (first ∷ xs) x (suc n) within same test = by (p first) (filtered-at p xs x n (omega (arith, within)) same test)
    where
      by : (b : Bool) → Contains (filter p xs) x → Contains (cond b (first ∷ filter p xs) (filter p xs)) x
      by true rest = (suc rest.0, omega (arith, rest.1), rest.2)
      by false rest = rest

  Contains-filter : (p : A → Bool) (xs : List A) (x : A) → Contains xs x → p x ≡ true → Contains (filter p xs) x
  Contains-filter p xs x there test = filtered-at p xs x there.0 there.1 there.2 test

  any-one : (p : A → Bool) (xs : List A) → list_any p xs ≡ true → (x : A) × (Contains xs x × (p x ≡ true))
  any-one p [] is = absurd cc
  any-one p (first ∷ xs) is = by (p first) refl is (any-one p xs)
    where
      further : (x : A) × (Contains xs x × (p x ≡ true)) → (x : A) × (Contains (first ∷ xs) x × (p x ≡ true))
      further found = (found.0, ((suc found.1.0.0, omega (arith, found.1.0.1), found.1.0.2), found.1.1))

      by : (b : Bool) → p first ≡ b → (b || list_any p xs) ≡ true → (list_any p xs ≡ true → (x : A) × (Contains xs x × (p x ≡ true))) → (x : A) × (Contains (first ∷ xs) x × (p x ≡ true))
      by true test is rest = (first, ((0, omega arith, refl), test))
      by false test is rest = further (rest is)

  in-before : (of : ℕ → List A) (n i : ℕ) (x : A) → i < n → Contains (of i) x → Contains (before of n) x
  in-before of zero i x within there = absurd (omega (arith, within))
  in-before of (suc n) i x within there = by (cases_lt i n) (λ below. in-before of n i x below there)
    where
      by : (i < n) ⊎ (n ≤ i) → (i < n → Contains (before of n) x) → Contains (before of n ++ of n) x
      by (inl below) rest = Contains-append_left (before of n) (of n) x (rest below)
      by (inr above) rest =
          let same : i ≡ n = omega (arith, above, within) in
          Contains-append_right (before of n) (of n) x (subst (λ k. Contains (of k) x) same there)

none-there : {B : Type 0} (i : ℕ) (y : B) → slice_get [] i ≡ Some y → ⊥
none-there zero y is = cc
none-there (suc i) y is = cc

module _ {A B : Type 0} where
  get-map : (f : A → B) (xs : List A) (i : ℕ) (x : A) → slice_get xs i ≡ Some x → slice_get (map f xs) i ≡ Some (f x)
  get-map f [] zero x is = absurd cc
  get-map f [] (suc i) x is = absurd cc
  get-map f (first ∷ xs) zero x is = same first is
    where
      same : (y : A) → ◌≡◌ {A = Option A} (Some y) (Some x) → Some (f y) ≡ Some (f x)
      same y e = let it : y ≡ x = cc in ap (λ a. Some (f a)) it
  get-map f (first ∷ xs) (suc i) x is = get-map f xs i x is

  -- the element of a mapped list at a place
  get-mapped : (f : A → B) (xs : List A) (i : ℕ) (y : B) → slice_get (map f xs) i ≡ Some y → (x : A) × ((slice_get xs i ≡ Some x) × (f x ≡ y))
  get-mapped f [] zero y is = absurd cc
  get-mapped f [] (suc i) y is = absurd cc
  get-mapped f (first ∷ xs) zero y is = (first, (refl, same (f first) is))
    where
      same : (z : B) → ◌≡◌ {A = Option B} (Some z) (Some y) → z ≡ y
      same z e = cc
  get-mapped f (first ∷ xs) (suc i) y is = get-mapped f xs i y is

  -- the elements of a list that is kept in part
  kept-one : (f : A → Option B) (xs : List A) (y : B) → Contains (filter_map f xs) y → (x : A) × (Contains xs x × (f x ≡ Some y))
  kept-one f [] y there = absurd (omega (arith, there.1))
  kept-one f (first ∷ xs) y there = by (f first) refl there (kept-one f xs y)
    where
      further : (x : A) × (Contains xs x × (f x ≡ Some y)) → (x : A) × (Contains (first ∷ xs) x × (f x ≡ Some y))
      further found = (found.0, ((suc found.1.0.0, omega (arith, found.1.0.1), found.1.0.2), found.1.1))

      skipped : f first ≡ None → filter_map f (first ∷ xs) ≡ filter_map f xs
      skipped none = rw none refl

      kept : (z : B) → f first ≡ Some z → filter_map f (first ∷ xs) ≡ z ∷ filter_map f xs
      kept z some = rw some refl

      at : (z : B) → f first ≡ Some z → (n : ℕ) → n < length (z ∷ filter_map f xs) → get_or (z ∷ filter_map f xs) n y ≡ y → (Contains (filter_map f xs) y → (x : A) × (Contains xs x × (f x ≡ Some y)))
          → (x : A) × (Contains (first ∷ xs) x × (f x ≡ Some y))
      at z is zero within same rest = (first, ((0, omega arith, refl), is ∙ ap (λ (b : B). Some b) same))
      at z is (suc n) within same rest = further (rest (n, omega (arith, within), same))

      by : (o : Option B) → f first ≡ o → Contains (filter_map f (first ∷ xs)) y → (Contains (filter_map f xs) y → (x : A) × (Contains xs x × (f x ≡ Some y)))
          → (x : A) × (Contains (first ∷ xs) x × (f x ≡ Some y))
      by None is there rest = further (rest (subst (λ (l : List B). Contains l y) (skipped is) there))
      by (Some z) is there rest = let it = subst (λ (l : List B). Contains l y) (kept z is) there in at z is it.0 it.1 it.2 rest

  first-kept : (f : A → Option B) (xs : List A) (y : B) → first_of (filter_map f xs) ≡ Some y → (x : A) × (Contains xs x × (f x ≡ Some y))
  first-kept f xs y is = kept-one f xs y (inside (filter_map f xs) is)
    where
      inside : (l : List B) → first_of l ≡ Some y → Contains l y
      inside [] e = absurd cc
      inside (z ∷ l) e = (0, omega arith, (let it : z ≡ y = cc in it))

  -- things that are kept are distinct where those that they are of are
  distinct-kept : {K : Type 0} (f : A → Option B) (key : A → K) (of_kept : B → K) → ((x : A) (y : B) → f x ≡ Some y → of_kept y ≡ key x) → (xs : List A) → AreDistinct key xs
      → AreDistinct of_kept (filter_map f xs)
  distinct-kept f key of_kept agree [] apart = λ i j one other is_one is_other same. absurd (none-there i one is_one)
  distinct-kept f key of_kept agree (first ∷ xs) apart = by (f first) refl (distinct-kept f key of_kept agree xs (λ i j one other is_one is_other same. omega (arith, apart (suc i) (suc j) one other is_one is_other same)))
    where
      skipped : f first ≡ None → filter_map f (first ∷ xs) ≡ filter_map f xs
      skipped none = rw none refl

      kept : (z : B) → f first ≡ Some z → filter_map f (first ∷ xs) ≡ z ∷ filter_map f xs
      kept z some = rw some refl

      -- none that is kept later has the key of the first
      apart-first : (z : B) → f first ≡ Some z → (j : ℕ) (other : B) → slice_get (filter_map f xs) j ≡ Some other → of_kept z ≡ of_kept other → ⊥
      apart-first z is j other at same =
          let it = kept-one f xs other (get-inside (filter_map f xs) j other at) in
          let place : slice_get xs it.1.0.0 ≡ Some it.0 = slice_get-get_or xs it.1.0.0 it.0 it.1.0.1 ∙ ap (λ (a : A). Some a) it.1.0.2 in
          omega (arith, apart 0 (suc it.1.0.0) first it.0 refl place (sym (agree first z is) ∙ same ∙ agree it.0 other it.1.1))

      some-same : (x y : B) → ◌≡◌ {A = Option B} (Some x) (Some y) → x ≡ y
      some-same x y e = cc

      after : (z : B) → f first ≡ Some z → AreDistinct of_kept (filter_map f xs) → (i j : ℕ) (one other : B) → slice_get (z ∷ filter_map f xs) i ≡ Some one → slice_get (z ∷ filter_map f xs) j ≡ Some other
          → of_kept one ≡ of_kept other → i ≡ j
      after z is rest zero zero one other is_one is_other same = refl
      after z is rest zero (suc j) one other is_one is_other same = absurd (apart-first z is j other is_other (ap of_kept (some-same z one is_one) ∙ same))
      after z is rest (suc i) zero one other is_one is_other same = absurd (apart-first z is i one is_one (ap of_kept (some-same z other is_other) ∙ sym same))
      after z is rest (suc i) (suc j) one other is_one is_other same = ap suc (rest i j one other is_one is_other same)

      by : (o : Option B) → f first ≡ o → AreDistinct of_kept (filter_map f xs) → AreDistinct of_kept (filter_map f (first ∷ xs))
      by None is rest = subst (AreDistinct of_kept) (sym (skipped is)) rest
      by (Some z) is rest = subst (AreDistinct of_kept) (sym (kept z is)) (after z is rest)

-- a test passes in a front that has the place
any-take : {A : Type 0} (p : A → Bool) (xs : List A) (m n : ℕ) (d : A) → n < m → n < length xs → p (get_or xs n d) ≡ true → list_any p (take m xs) ≡ true
any-take p [] m n d below within test = absurd (omega (arith, within))
any-take p (first ∷ xs) zero n d below within test = absurd (omega (arith, below))
any-take p (first ∷ xs) (suc m) zero d below within test = ap (λ (b : Bool). b || list_any p (take m xs)) test
any-take p (first ∷ xs) (suc m) (suc n) d below within test = by (p first) (any-take p xs m n d (omega (arith, below)) (omega (arith, within)) test)
  where
    by : (b : Bool) → list_any p (take m xs) ≡ true → (b || list_any p (take m xs)) ≡ true
    by true rest = refl
    by false rest = rest

-- ---- things that stand twice

any-there : {A : Type 0} (p : A → Bool) (xs : List A) (x : A) → Contains xs x → p x ≡ true → list_any p xs ≡ true
any-there p xs x there test =
    sym (ap (list_any p) (take_all (length xs) xs (omega arith))) ∙ any-take p xs (length xs) there.0 x there.1 there.1 (ap p there.2 ∙ test)

module _ {A : Type 0} (same : A → A → Bool) where
  again-there : (before xs : List A) (j : ℕ) (y : A) → slice_get xs j ≡ Some y → list_any (λ (e : A). same e y) (before ++ take j xs) ≡ true → Contains (again same before xs) y
  again-there before [] j y is test = absurd (none-there j y is)
  again-there before (x ∷ xs) zero y is test =
      let e : x ≡ y = cc in
      let test_x : list_any (λ (a : A). same a x) before ≡ true =
      ap (list_any (λ (a : A). same a x)) (sym (append-nil before)) ∙ subst (λ (z : A). list_any (λ (a : A). same a z) (before ++ []) ≡ true) (sym e) test in
      subst (Contains (again same before (x ∷ xs))) e (found (list_any (λ (a : A). same a x) before) test_x)
    where
      found : (t : Bool) → t ≡ true → Contains (cond t (x ∷ again same (before ++ x ∷ []) xs) (again same (before ++ x ∷ []) xs)) x
      found true high = (0, omega arith, refl)
      found false high = absurd cc
  again-there before (x ∷ xs) (suc j) y is test =
      later (list_any (λ (a : A). same a x) before) (again-there (before ++ x ∷ []) xs j y is (ap (list_any (λ (a : A). same a y)) (append_assoc before (x ∷ []) (take j xs)) ∙ test))
    where
      later : (t : Bool) → Contains (again same (before ++ x ∷ []) xs) y → Contains (cond t (x ∷ again same (before ++ x ∷ []) xs) (again same (before ++ x ∷ []) xs)) y
      later true rest = (suc rest.0, omega (arith, rest.1), rest.2)
      later false rest = rest

  -- where nothing stands twice, no later one is the same as an earlier
  none-same : (xs : List A) → ((x : A) → Contains (seconds same xs) x → ⊥) → (i j : ℕ) (one other : A) → i < j → slice_get xs i ≡ Some one → slice_get xs j ≡ Some other → same one other ≡ false
  none-same xs none i j one other below is_one is_other = by (same one other) refl
    where
      by : (b : Bool) → same one other ≡ b → same one other ≡ false
      by true high = absurd (none other (again-there [] xs j other is_other
          (any-take (λ (e : A). same e other) xs j i one below (get-within xs i one is_one) (ap (λ (x : A). same x other) (get_or_from_slice_get xs i one one is_one) ∙ high))))
      by false low = low

-- ---- numbers that pass a test

-- the number at a place among those that pass
filter-at : (p : ℕ → Bool) (begin count n : ℕ) → n < count → p (begin + n) ≡ true
    → slice_get (filter p (range_with_len begin count)) (length (filter p (range_with_len begin n))) ≡ Some (begin + n)
filter-at p begin zero n within is = absurd (omega (arith, within))
filter-at p begin (suc count) zero within is = by (p begin) refl
  where
    same : begin + 0 ≡ begin
    same = omega arith

    by : (b : Bool) → p begin ≡ b → slice_get (cond b (begin ∷ filter p (range_with_len (begin + 1) count)) (filter p (range_with_len (begin + 1) count))) 0 ≡ Some (begin + 0)
    by true test = ap (λ (k : ℕ). Some k) (sym same)
    by false test = let e = sym test ∙ ap p (sym same) ∙ is in absurd cc
filter-at p begin (suc count) (suc n) within is =
    let same : begin + 1 + n ≡ begin + suc n = omega arith in
    by (p begin) (filter-at p (begin + 1) count n (omega (arith, within)) (ap p same ∙ is) ∙ ap (λ (k : ℕ). Some k) same)
  where
    by : (b : Bool) → slice_get (filter p (range_with_len (begin + 1) count)) (length (filter p (range_with_len (begin + 1) n))) ≡ Some (begin + suc n)
        → slice_get (cond b (begin ∷ filter p (range_with_len (begin + 1) count)) (filter p (range_with_len (begin + 1) count)))
        (length (cond b (begin ∷ filter p (range_with_len (begin + 1) n)) (filter p (range_with_len (begin + 1) n)))) ≡ Some (begin + suc n)
    by true rest = rest
    by false rest = rest

-- and the place of a number
record IsPlaced (p : ℕ → Bool) (begin count place x : ℕ) : Type 0 where
  n : ℕ
  is : x ≡ begin + n
  within : n < count
  test : p x ≡ true
  at : place ≡ length (filter p (range_with_len begin n))

lifted : (p : ℕ → Bool) (begin count at later x : ℕ) (b : Bool) → p begin ≡ b → at ≡ length (cond b (later ∷ []) []) + later → IsPlaced p (begin + 1) count later x → IsPlaced p begin (suc count) at x
lifted p begin count at later x b test e it = record {
  n = suc it.n;
  is = omega (arith, it.is);
  within = omega (arith, it.within);
  test = it.test;
  at = longer b test e;
}
  where
    longer : (b : Bool) → p begin ≡ b → at ≡ length (cond b (later ∷ []) []) + later → at ≡ length (cond (p begin) (begin ∷ filter p (range_with_len (begin + 1) it.n)) (filter p (range_with_len (begin + 1) it.n)))
    longer true test e =
        let shown : at ≡ suc (length (filter p (range_with_len (begin + 1) it.n))) = omega (arith, e, it.at) in
        shown ∙ ap (λ (b : Bool). length (cond b (begin ∷ filter p (range_with_len (begin + 1) it.n)) (filter p (range_with_len (begin + 1) it.n)))) (sym test)
    longer false test e =
        let shown : at ≡ length (filter p (range_with_len (begin + 1) it.n)) = omega (arith, e, it.at) in
        shown ∙ ap (λ (b : Bool). length (cond b (begin ∷ filter p (range_with_len (begin + 1) it.n)) (filter p (range_with_len (begin + 1) it.n)))) (sym test)

filter-back : (p : ℕ → Bool) (begin count place x : ℕ) → slice_get (filter p (range_with_len begin count)) place ≡ Some x → IsPlaced p begin count place x
filter-back p begin zero zero x is = absurd cc
filter-back p begin zero (suc place) x is = absurd cc
filter-back p begin (suc count) place x is = by (p begin) refl place is (λ later it. filter-back p (begin + 1) count later x it)
  where
    by : (b : Bool) → p begin ≡ b → (at : ℕ) → slice_get (cond b (begin ∷ filter p (range_with_len (begin + 1) count)) (filter p (range_with_len (begin + 1) count))) at ≡ Some x
        → ((later : ℕ) → slice_get (filter p (range_with_len (begin + 1) count)) later ≡ Some x → IsPlaced p (begin + 1) count later x) → IsPlaced p begin (suc count) at x
    by true test zero is rest = let same : begin ≡ x = cc in record { n = 0; is = omega (arith, same); within = omega arith; test = ap p (sym same) ∙ test; at = refl }
    by true test (suc later) is rest = lifted p begin count (suc later) later x true test (omega arith) (rest later is)
    by false test at is rest = lifted p begin count at at x false test (omega arith) (rest at is)

-- ---- declarations without faults

module _ (all : List Declaration) (sound : (fault : ResolveFault) → ¬ HasFault all fault) where
  -- the streamlets of the project
  abbrev streamlets : List PlainStreamlet
  streamlets = map (streamlet_from all) (streamlet_numbers all)

  streamlet-at : (n : ℕ) → n < length all → is_streamlet (declaration all n) ≡ true → slice_get (streamlet_numbers all) (streamlet_number all n) ≡ Some n
  streamlet-at n within is =
      let same : 0 + n ≡ n = omega arith in
      filter-at (λ number. is_streamlet (declaration all number)) 0 (length all) n within (ap (λ k. is_streamlet (declaration all k)) same ∙ is) ∙ ap (λ (k : ℕ). Some k) same

  record IsResolved (sought : Use) : Type 0 where
    number : ℕ
    is : named_as sought.asks all sought.space sought.path ≡ Some number
    within : number < length all
    kind : sought.asks (declaration all number) ≡ true

  -- a path that is looked up names a declaration of its kind
  resolved : (n : ℕ) (sought : Use) → n < length all → Contains (uses_in (declaration all n)) sought → IsResolved sought
  resolved n sought within there = by (named all sought.space sought.path) refl
    where
      listed : (is : Use → Bool) → is sought ≡ true → Contains (refused is (uses_in (declaration all n))) (place_of sought.path)
      listed is test = Contains-map (λ (one : Use). place_of one.path) (filter is (uses_in (declaration all n))) sought (Contains-filter is (uses_in (declaration all n)) sought there test)

      of_kind : (m : ℕ) → named all sought.space sought.path ≡ Some m → (found : Option ℕ) → named_as sought.asks all sought.space sought.path ≡ found → IsResolved sought
      of_kind m is None none = absurd (sound (faults.WrongKind (place_of sought.path))
          (in-before (λ number. refused (is_wrong_kind all) (uses_in (declaration all number))) (length all) n (place_of sought.path) within
          (listed (is_wrong_kind all) (ap (λ (o : Option ℕ). is_some o && not (is_some (named_as sought.asks all sought.space sought.path))) is ∙ ap (λ (o : Option ℕ). not (is_some o)) none))))
      of_kind m is (Some k) some = record {
        number = k;
        is = some;
        within = named-within sought.asks all sought.space sought.path k some;
        kind = named-is sought.asks all (named all sought.space sought.path) k some;
      }

      by : (found : Option ℕ) → named all sought.space sought.path ≡ found → IsResolved sought
      by None none = absurd (sound (faults.UnknownName (place_of sought.path))
          (in-before (λ number. refused (is_unknown all) (uses_in (declaration all number)) ++ port_unknown all (declaration all number)) (length all) n (place_of sought.path) within
          (Contains-append_left (refused (is_unknown all) (uses_in (declaration all n))) (port_unknown all (declaration all n)) (place_of sought.path)
          (listed (is_unknown all) (ap (λ (o : Option ℕ). not (is_some o)) none)))))
      by (Some m) is = of_kind m is (named_as sought.asks all sought.space sought.path) refl

  -- a path that is looked up as a streamlet is that of a streamlet of the project
  record IsStreamletAt (space : List (List ℕ)) (path : AstPath) : Type 0 where
    number : ℕ
    is : named_as is_streamlet all space path ≡ Some number
    within : number < length all
    numbered_as : number_of all space path ≡ streamlet_number all number
    listed : slice_get (streamlet_numbers all) (number_of all space path) ≡ Some number

  streamlet-of : (n : ℕ) (space : List (List ℕ)) (path : AstPath) → n < length all → Contains (uses_in (declaration all n)) (record { space = space; path = path; asks = is_streamlet })
      → IsStreamletAt space path
  streamlet-of n space path within there =
      let it = resolved n (record { space = space; path = path; asks = is_streamlet }) within there in
      let same : number_of all space path ≡ streamlet_number all it.number = ap (numbered all) it.is in record {
        number = it.number;
        is = it.is;
        within = it.within;
        numbered_as = same;
        listed = ap (slice_get (streamlet_numbers all)) same ∙ streamlet-at it.number it.within it.kind;
      }

  -- a declaration that is listed has a number
  record HasNumber (one : Declaration) : Type 0 where
    number : ℕ
    within : number < length all
    is : declaration all number ≡ one

  has-number : (one : Declaration) → Contains all one → HasNumber one
  has-number one there = record {
    number = there.0;
    within = there.1;
    is = get_or_default all there.0 (record { space = []; name = record { name = []; place = nowhere }; kind = decls.Interface [] }) one there.1 ∙ there.2;
  }

  -- ---- tests

  -- the port of a test is there
  port-there : (n : ℕ) (space : List (List ℕ)) (name port : AstName) (target : AstPath) (value plan : List ℕ) → n < length all
      → declaration all n ≡ record { space = space; name = name; kind = decls.Test target port value plan } → (k : ℕ) → named_as is_streamlet all space target ≡ Some k
      → has_port (ports_of all (declaration all k)) port.name ≡ true
  port-there n space name port target value plan within is k target_is = by (has_port (ports_of all (declaration all k)) port.name) refl
    where
      lacking : has_port (ports_of all (declaration all k)) port.name ≡ false → Contains (port_unknown_in all port (Some k)) port.place
      lacking none = subst (λ (b : Bool). Contains (cond b [] (port.place ∷ [])) port.place) (sym none) (0, omega arith, refl)

      by : (b : Bool) → has_port (ports_of all (declaration all k)) port.name ≡ b → has_port (ports_of all (declaration all k)) port.name ≡ true
      by true has = has
      by false none = absurd (sound (faults.UnknownName port.place)
          (in-before (λ number. refused (is_unknown all) (uses_in (declaration all number)) ++ port_unknown all (declaration all number)) (length all) n port.place within
          (Contains-append_right (refused (is_unknown all) (uses_in (declaration all n))) (port_unknown all (declaration all n)) port.place
          (subst (λ (d : Declaration). Contains (port_unknown all d) port.place) (sym is)
          (subst (λ (o : Option ℕ). Contains (port_unknown_in all port o) port.place) (sym target_is) (lacking none))))))

  same-test : (one other : Test) → ◌≡◌ {A = Option Test} (Some one) (Some other) → one ≡ other
  same-test one other e = cc

  drives-of : (project : PlainProject) → project.streamlets ≡ streamlets → (n : ℕ) (space : List (List ℕ)) (name : AstName) (kind : AstKind) (test : Test) → n < length all
      → declaration all n ≡ record { space = space; name = name; kind = kind } → test_of all (record { space = space; name = name; kind = kind }) ≡ Some test → DrivesPort project test
  drives-of project has n space name (decls.Alias ltype) test within is test_is = absurd cc
  drives-of project has n space name (decls.Interface listed) test within is test_is = absurd cc
  drives-of project has n space name (decls.Streamlet listed) test within is test_is = absurd cc
  drives-of project has n space name (decls.Impl target body) test within is test_is = absurd cc
  drives-of project has n space name (decls.Test target port value plan) test within is test_is =
      let it = streamlet-of n space target within (subst (λ (d : Declaration). Contains (uses_in d) (record { space = space; path = target; asks = is_streamlet })) (sym is) (0, omega arith, refl)) in
      let found = any-one (λ (one : PortOf). bytes_eq one.port.name.name port.name) (ports_of all (declaration all it.number)) (port-there n space name port target value plan within is it.number it.is) in
      subst (DrivesPort project) (same-test _ test test_is) (record {
        streamlet = streamlet_from all it.number;
        at = ap (λ (l : List PlainStreamlet). slice_get l (number_of all space target)) has ∙ get-map (streamlet_from all) (streamlet_numbers all) (number_of all space target) it.number it.listed;
        port = port_from all found.0;
        inside = Contains-map (port_from all) (ports_of all (declaration all it.number)) found.0 found.1.0;
        named = (bytes_decides found.0.port.name.name port.name).0 found.1.1;
      })

  drives : (project : PlainProject) → project.streamlets ≡ streamlets → project.tests ≡ tests_in all all → (test : Test) → Contains project.tests test → DrivesPort project test
  drives project has tests test there =
      let one = kept-one (test_of all) all test (subst (λ (l : List Test). Contains l test) tests there) in
      let number = has-number one.0 one.1.0 in
      drives-of project has number.number one.0.space one.0.name one.0.kind test number.within number.is one.1.1

  -- ---- instances

  -- an instance of a streamlet of the project is one that an `impl` of the streamlet writes
  record IsInside (one other : ℕ) : Type 0 where
    from : ℕ
    to : ℕ
    from_at : slice_get (streamlet_numbers all) one ≡ Some from
    to_at : slice_get (streamlet_numbers all) other ≡ Some to
    contains : ContainsStreamlet all from to

  inside-of : (n m : ℕ) (space : List (List ℕ)) (name : AstName) (kind : AstKind) (body : Impl) (instance : Instance) → m < length all
      → declaration all m ≡ record { space = space; name = name; kind = kind } → impl_by all n (record { space = space; name = name; kind = kind }) ≡ Some body
      → Contains (instances_inside (Some body)) instance → (to : ℕ) × ((slice_get (streamlet_numbers all) instance.streamlet ≡ Some to) × ContainsStreamlet all n to)
  inside-of n m space name (decls.Alias ltype) body instance within is body_is there = absurd cc
  inside-of n m space name (decls.Interface listed) body instance within is body_is there = absurd cc
  inside-of n m space name (decls.Streamlet listed) body instance within is body_is there = absurd cc
  inside-of n m space name (decls.Test target port value plan) body instance within is body_is there = absurd cc
  inside-of n m space name (decls.Impl target written) body instance within is body_is there = by (is_impl_of all n (record { space = space; name = name; kind = decls.Impl target written })) refl body_is
    where
      same-impl : (one other : Impl) → ◌≡◌ {A = Option Impl} (Some one) (Some other) → one ≡ other
      same-impl one other e = cc

      implements-number : (found : Option ℕ) → is_number n found ≡ true → found ≡ Some n
      implements-number None e = absurd cc
      implements-number (Some k) e = let same : k ≡ n = (Decides-eqb k n).0 e in ap (λ (x : ℕ). Some x) same

      written-one : (written : AstBody) → declaration all m ≡ record { space = space; name = name; kind = decls.Impl target written } → Contains (instances_inside (Some (impl_of all space target written))) instance
          → named_as is_streamlet all space target ≡ Some n → (to : ℕ) × ((slice_get (streamlet_numbers all) instance.streamlet ≡ Some to) × ContainsStreamlet all n to)
      written-one (bodies.Linked text) is there implemented = absurd (omega (arith, there.1))
      written-one (bodies.Structural stmts) is there implemented =
          let one = Contains-mapped (instance_of all space) (filter_map instance_at stmts) instance there in
          let listed = Contains-map (λ (w : WrittenInstance). w.streamlet) (filter_map instance_at stmts) one.one one.inside in
          let it = streamlet-of m space one.one.streamlet within
          (subst (λ (d : Declaration). Contains (uses_in d) (record { space = space; path = one.one.streamlet; asks = is_streamlet })) (sym is)
          (Contains-map (λ (path : AstPath). record { space = space; path = path; asks = is_streamlet }) (target ∷ map (λ (w : WrittenInstance). w.streamlet) (filter_map instance_at stmts))
          one.one.streamlet (suc listed.0, omega (arith, listed.1), listed.2))) in (
            it.number,
            (
              ap (λ (i : Instance). slice_get (streamlet_numbers all) i.streamlet) (sym one.same) ∙ it.listed,
              record {
                implementation = m;
                within = within;
                implements = ap (implements all) is ∙ implemented;
                path = one.one.streamlet;
                written = subst (λ (d : Declaration). Contains (paths_of_instances d.kind) one.one.streamlet) (sym is) listed;
                names = ap (λ (d : Declaration). named_as is_streamlet all d.space one.one.streamlet) is ∙ it.is;
              },
            ),
          )

      by : (b : Bool) → is_impl_of all n (record { space = space; name = name; kind = decls.Impl target written }) ≡ b → cond b (Some (impl_of all space target written)) None ≡ Some body
          → (to : ℕ) × ((slice_get (streamlet_numbers all) instance.streamlet ≡ Some to) × ContainsStreamlet all n to)
      by true implemented body_is = written-one written is
          (subst (λ (i : Impl). Contains (instances_inside (Some i)) instance) (sym (same-impl (impl_of all space target written) body body_is)) there)
          (implements-number (named_as is_streamlet all space target) implemented)
      by false not_implemented body_is = absurd cc

  inside : (project : PlainProject) → project.streamlets ≡ streamlets → (one other : ℕ) → HasInstanceOf project one other → IsInside one other
  inside project has one other instance =
      let from = get-mapped (streamlet_from all) (streamlet_numbers all) one instance.streamlet (ap (λ (l : List PlainStreamlet). slice_get l one) (sym has) ∙ instance.at) in
      let it = by_body (body_of all from.0) from.0 refl instance.instance
      (subst (λ (s : PlainStreamlet). Contains (instances_inside s.body) instance.instance) (sym from.1.1) instance.inside) in record {
        from = from.0;
        to = it.0;
        from_at = from.1.0;
        to_at = ap (slice_get (streamlet_numbers all)) (sym instance.of_it) ∙ it.1.0;
        contains = it.1.1;
      }
    where
      by_body : (body : Option Impl) → (n : ℕ) → body_of all n ≡ body → (i : Instance) → Contains (instances_inside body) i
          → (to : ℕ) × ((slice_get (streamlet_numbers all) i.streamlet ≡ Some to) × ContainsStreamlet all n to)
      by_body None n is i there = absurd (omega (arith, there.1))
      by_body (Some body) n is i there =
          let one = first-kept (impl_by all n) all body is in
          let number = has-number one.0 one.1.0 in
          inside-of n number.number one.0.space one.0.name one.0.kind body i number.within number.is one.1.1 there

  -- ---- containment ends

  same-number : (i n m : ℕ) → slice_get (streamlet_numbers all) i ≡ Some n → slice_get (streamlet_numbers all) i ≡ Some m → n ≡ m
  same-number i n m x y = let e = sym x ∙ y in cc

  way-inside : (project : PlainProject) → project.streamlets ≡ streamlets → (from to : ℕ) (way : List ℕ) → ByWay (HasInstanceOf project) from way to
      → (n m : ℕ) → slice_get (streamlet_numbers all) from ≡ Some n → slice_get (streamlet_numbers all) to ≡ Some m → LeadsTo (ContainsStreamlet all) n m
  way-inside project has from to [] step n m from_at to_at =
      let it = inside project has from to step in (
        [],
        subst (λ (k : ℕ). ContainsStreamlet all k m) (same-number from it.from n it.from_at from_at)
            (subst (λ (k : ℕ). ContainsStreamlet all it.from k) (same-number to it.to m it.to_at to_at) it.contains),
      )
  way-inside project has from to (next ∷ more) steps n m from_at to_at =
      let it = inside project has from next steps.0 in
      let rest = way-inside project has next to more steps.1 it.to m it.to_at to_at in
      (it.to ∷ rest.0, (subst (λ (k : ℕ). ContainsStreamlet all k it.to) (same-number from it.from n it.from_at from_at) it.contains, rest.1))

  first-step : (n m : ℕ) (way : List ℕ) → ByWay (ContainsStreamlet all) n way m → (k : ℕ) × ContainsStreamlet all n k
  first-step n m [] step = (m, step)
  first-step n m (next ∷ more) steps = (next, steps.0)

  none-inside : (n : ℕ) → LeadsTo (ContainsStreamlet all) n n → ⊥
  none-inside n leads =
      let first = first-step n n leads.0 leads.1 in
      let step = first.1 in
      sound (faults.CyclicInstance (target_place (declaration all step.implementation).kind)) (record {
        one = step.implementation;
        within = step.within;
        at = record { at = refl; streamlet = n; implements = step.implements; leads = leads };
      })

  first-from : (project : PlainProject) → project.streamlets ≡ streamlets → (from to : ℕ) (way : List ℕ) → ByWay (HasInstanceOf project) from way to → (n : ℕ) × (slice_get (streamlet_numbers all) from ≡ Some n)
  first-from project has from to [] step = let it = inside project has from to step in (it.from, it.from_at)
  first-from project has from to (next ∷ more) steps = let it = inside project has from next steps.0 in (it.from, it.from_at)

  ends : (project : PlainProject) → project.streamlets ≡ streamlets → (one : ℕ) → LeadsTo (HasInstanceOf project) one one → ⊥
  ends project has one leads =
      let n = first-from project has one one leads.0 leads.1 in
      none-inside n.0 (way-inside project has one one leads.0 leads.1 n.0 n.0 n.1 n.1)

  -- ---- paths are distinct

  no-later : (n m : ℕ) → n < m → m < length all → path_of (declaration all n) ≡ path_of (declaration all m) → ⊥
  no-later n m below within same = sound (faults.DeclaredTwice (declaration all m).name.place)
      (Contains-append_left (before (twice_at all) (length all)) _ (declaration all m).name.place
      (in-before (twice_at all) (length all) m (declaration all m).name.place within
      (Contains-append_left (declared_again all m ++ _) _ (declaration all m).name.place
      (Contains-append_left (declared_again all m) _ (declaration all m).name.place here))))
    where
      again : list_any (λ (earlier : Declaration). is_same_path (path_of earlier) (path_of (declaration all m))) (take m all) ≡ true
      again = any-take (λ (earlier : Declaration). is_same_path (path_of earlier) (path_of (declaration all m))) all m n (record { space = []; name = record { name = []; place = nowhere }; kind = decls.Interface [] })
          below (omega (arith, below, within)) (ap (λ (path : List (List ℕ)). is_same_path path (path_of (declaration all m))) same ∙ is_same_path-itself (path_of (declaration all m)))

      here : Contains (declared_again all m) (declaration all m).name.place
      here = subst (λ (b : Bool). Contains (cond b ((declaration all m).name.place ∷ []) []) (declaration all m).name.place) (sym again) (0, omega arith, refl)

  one-number : (n m : ℕ) → n < length all → m < length all → path_of (declaration all n) ≡ path_of (declaration all m) → n ≡ m
  one-number n m n_within m_within same = by (cases_lt n m) (cases_lt m n)
    where
      by : (n < m) ⊎ (m ≤ n) → (m < n) ⊎ (n ≤ m) → n ≡ m
      by (inl below) other = absurd (no-later n m below m_within same)
      by (inr above) (inl below) = absurd (no-later m n below n_within (sym same))
      by (inr above) (inr not_above) = omega (arith, above, not_above)

  declaration-at : (i : ℕ) (one : Declaration) → slice_get all i ≡ Some one → declaration all i ≡ one
  declaration-at i one is =
      let e = sym (slice_get-get_or all i (record { space = []; name = record { name = []; place = nowhere }; kind = decls.Interface [] }) (get-within all i one is)) ∙ is in some-one (declaration all i) e
    where
      some-one : (x : Declaration) → ◌≡◌ {A = Option Declaration} (Some x) (Some one) → x ≡ one
      some-one x e = cc

  distinct-declarations : AreDistinct path_of all
  distinct-declarations = λ i j one other is_one is_other same.
      one-number i j (get-within all i one is_one) (get-within all j other is_other)
      (ap path_of (declaration-at i one is_one) ∙ same ∙ ap path_of (sym (declaration-at j other is_other)))

  test-path : (one : Declaration) (test : Test) → test_of all one ≡ Some test → test.path ≡ path_of one
  test-path one test is = by one.space one.name one.kind is
    where
      by : (space : List (List ℕ)) (name : AstName) (kind : AstKind) → test_of all (record { space = space; name = name; kind = kind }) ≡ Some test
          → test.path ≡ path_of (record { space = space; name = name; kind = kind })
      by space name (decls.Alias ltype) is = absurd cc
      by space name (decls.Interface listed) is = absurd cc
      by space name (decls.Streamlet listed) is = absurd cc
      by space name (decls.Impl target body) is = absurd cc
      by space name (decls.Test target port value plan) is = ap (λ (t : Test). t.path) (sym (same-test _ test is))

  distinct-streamlets : AreDistinct (λ (one : PlainStreamlet). one.path) streamlets
  distinct-streamlets = λ i j one other is_one is_other same.
      let first = get-mapped (streamlet_from all) (streamlet_numbers all) i one is_one in
      let second = get-mapped (streamlet_from all) (streamlet_numbers all) j other is_other in
      let n = filter-back (λ number. is_streamlet (declaration all number)) 0 (length all) i first.0 first.1.0 in
      let m = filter-back (λ number. is_streamlet (declaration all number)) 0 (length all) j second.0 second.1.0 in
      let equal = one-number first.0 second.0 (omega (arith, n.is, n.within)) (omega (arith, m.is, m.within))
      (ap (λ (s : PlainStreamlet). s.path) first.1.1 ∙ same ∙ ap (λ (s : PlainStreamlet). s.path) (sym second.1.1)) in
      let placed : n.n ≡ m.n = omega (arith, n.is, m.is, equal) in
      n.at ∙ ap (λ (k : ℕ). length (filter (λ number. is_streamlet (declaration all number)) (range_with_len 0 k))) placed ∙ sym m.at

  -- ---- names are apart

  told-twice : (m : ℕ) (place : Place) → m < length all → Contains (twice_at all m) place → ⊥
  told-twice m place within there = sound (faults.DeclaredTwice place)
      (Contains-append_left (before (twice_at all) (length all)) _ place (in-before (twice_at all) (length all) m place within there))

  abbrev alike_ports : AstPort → AstPort → Bool
  alike_ports first second = str_eq_ignore_ascii_case first.name.name second.name.name

  ports-once : (m : ℕ) → m < length all → (port : AstPort) → Contains (seconds alike_ports (own_ports (declaration all m).kind)) port → ⊥
  ports-once m within port there = told-twice m port.name.place within
      (Contains-append_left (declared_again all m ++ ports_again (own_ports (declaration all m).kind)) _ port.name.place
      (Contains-append_right (declared_again all m) (ports_again (own_ports (declaration all m).kind)) port.name.place
      (Contains-map (λ (p : AstPort). p.name.place) (seconds alike_ports (own_ports (declaration all m).kind)) port there)))

  -- the ports that a declaration writes out
  written-apart : (m : ℕ) → m < length all → ArePortsApart (map (port_from all) (ports_in (declaration all m)))
  written-apart m within = λ i j one other below is_one is_other.
      let p = get-mapped (port_from all) (ports_in (declaration all m)) i one is_one in
      let q = get-mapped (port_from all) (ports_in (declaration all m)) j other is_other in
      let a = get-mapped (λ (port : AstPort). record { space = (declaration all m).space; port = port }) (own_ports (declaration all m).kind) i p.0 p.1.0 in
      let b = get-mapped (λ (port : AstPort). record { space = (declaration all m).space; port = port }) (own_ports (declaration all m).kind) j q.0 q.1.0 in
      let first : a.0.name.name ≡ one.name = ap (λ (x : PortOf). x.port.name.name) a.1.1 ∙ ap (λ (x : PlainPort). x.name) p.1.1 in
      let second : b.0.name.name ≡ other.name = ap (λ (x : PortOf). x.port.name.name) b.1.1 ∙ ap (λ (x : PlainPort). x.name) q.1.1 in
      ap (λ (name : List ℕ). str_eq_ignore_ascii_case name other.name) (sym first) ∙ ap (str_eq_ignore_ascii_case a.0.name.name) (sym second)
      ∙ none-same alike_ports (own_ports (declaration all m).kind) (ports-once m within) i j a.0 b.0 below a.1.0 b.1.0

  ports-apart : (n : ℕ) → n < length all → ArePortsApart (map (port_from all) (ports_of all (declaration all n)))
  ports-apart n within = by (declaration all n).space (declaration all n).name (declaration all n).kind refl
    where
      by_number : (found : Option ℕ) → ((k : ℕ) → found ≡ Some k → k < length all) → ArePortsApart (map (port_from all) (ports_of_number all found))
      by_number None bound = λ i j one other below is_one is_other. absurd (none-there i one is_one)
      by_number (Some k) bound = written-apart k (bound k refl)

      by : (space : List (List ℕ)) (name : AstName) (kind : AstKind) → declaration all n ≡ record { space = space; name = name; kind = kind }
          → ArePortsApart (map (port_from all) (ports_of all (record { space = space; name = name; kind = kind })))
      by space name (decls.Alias ltype) is = λ i j one other below is_one is_other. absurd (none-there i one is_one)
      by space name (decls.Interface listed) is = λ i j one other below is_one is_other. absurd (none-there i one is_one)
      by space name (decls.Streamlet (ports.Own listed)) is = subst (λ (d : Declaration). ArePortsApart (map (port_from all) (ports_in d))) is (written-apart n within)
      by space name (decls.Streamlet (ports.Named path)) is = by_number (named_as is_interface all space path) (λ k some. named-within is_interface all space path k some)
      by space name (decls.Impl target body) is = λ i j one other below is_one is_other. absurd (none-there i one is_one)
      by space name (decls.Test target port value plan) is = λ i j one other below is_one is_other. absurd (none-there i one is_one)

  abbrev alike_instances : WrittenInstance → WrittenInstance → Bool
  alike_instances first second = bytes_eq first.name.name second.name.name

  -- the body of a streamlet is that of an `impl` of it
  record HasBody (n : ℕ) (body : Impl) : Type 0 where
    implementation : ℕ
    within : implementation < length all
    space : List (List ℕ)
    name : AstName
    target : AstPath
    written : AstBody
    is : declaration all implementation ≡ record { space = space; name = name; kind = decls.Impl target written }
    implemented : named_as is_streamlet all space target ≡ Some n
    body_is : impl_of all space target written ≡ body

  same-body : (one other : Impl) → ◌≡◌ {A = Option Impl} (Some one) (Some other) → one ≡ other
  same-body one other e = cc

  is-number : (n : ℕ) (found : Option ℕ) → is_number n found ≡ true → found ≡ Some n
  is-number n None e = absurd cc
  is-number n (Some k) e = let same : k ≡ n = (Decides-eqb k n).0 e in ap (λ (x : ℕ). Some x) same

  has-body : (n m : ℕ) (space : List (List ℕ)) (name : AstName) (kind : AstKind) (body : Impl) → m < length all
      → declaration all m ≡ record { space = space; name = name; kind = kind } → impl_by all n (record { space = space; name = name; kind = kind }) ≡ Some body → HasBody n body
  has-body n m space name (decls.Alias ltype) body within is body_is = absurd cc
  has-body n m space name (decls.Interface listed) body within is body_is = absurd cc
  has-body n m space name (decls.Streamlet listed) body within is body_is = absurd cc
  has-body n m space name (decls.Test target port value plan) body within is body_is = absurd cc
  has-body n m space name (decls.Impl target written) body within is body_is = by (is_impl_of all n (record { space = space; name = name; kind = decls.Impl target written })) refl body_is
    where
      by : (b : Bool) → is_impl_of all n (record { space = space; name = name; kind = decls.Impl target written }) ≡ b → cond b (Some (impl_of all space target written)) None ≡ Some body → HasBody n body
      by true implemented found = record {
        implementation = m;
        within = within;
        space = space;
        name = name;
        target = target;
        written = written;
        is = is;
        implemented = is-number n (named_as is_streamlet all space target) implemented;
        body_is = same-body (impl_of all space target written) body found;
      }
      by false implemented found = absurd cc

  -- the instances that an `impl` writes are reported where their names stand again
  told-instance : (n : ℕ) (body : Impl) (h : HasBody n body) (place : Place)
      → Contains (instances_again (instances_of h.written) ++ instances_named_as_ports (ports_of_streamlet all (named_as is_streamlet all h.space h.target)) (instances_of h.written)) place → ⊥
  told-instance n body h place there = told-twice h.implementation place h.within
      (Contains-append_right (declared_again all h.implementation ++ ports_again (own_ports (declaration all h.implementation).kind)) (names_again_in_body all (declaration all h.implementation)) place
      (subst (λ (d : Declaration). Contains (names_again_in_body all d) place) (sym h.is) there))

  -- an instance of a body is one that is written
  written-instances : (space : List (List ℕ)) (target : AstPath) (written : AstBody) → instances_inside (Some (impl_of all space target written)) ≡ map (instance_of all space) (instances_of written)
  written-instances space target (bodies.Linked text) = refl
  written-instances space target (bodies.Structural stmts) = refl

  instances-of-body : (n : ℕ) (body : Impl) (h : HasBody n body) → instances_inside (Some body) ≡ map (instance_of all h.space) (instances_of h.written)
  instances-of-body n body h = ap (λ (i : Impl). instances_inside (Some i)) (sym h.body_is) ∙ written-instances h.space h.target h.written

  instances-apart : (n : ℕ) (body : Impl) → HasBody n body → AreDistinct (λ (one : Instance). one.name) (instances_inside (Some body))
  instances-apart n body h = subst (AreDistinct (λ (one : Instance). one.name)) (sym (instances-of-body n body h)) apart
    where
      later : (i j : ℕ) (one other : WrittenInstance) → slice_get (instances_of h.written) i ≡ Some one → slice_get (instances_of h.written) j ≡ Some other → one.name.name ≡ other.name.name → i < j → ⊥
      later i j one other is_one is_other same below =
          let low = none-same alike_instances (instances_of h.written)
          (λ w there. told-instance n body h w.name.place (Contains-append_left (instances_again (instances_of h.written)) _ w.name.place
          (Contains-map (λ (x : WrittenInstance). x.name.place) (seconds alike_instances (instances_of h.written)) w there))) i j one other below is_one is_other in
          let high : bytes_eq one.name.name other.name.name ≡ true = (bytes_decides one.name.name other.name.name).1 same in
          let clash : true ≡ false = sym high ∙ low in absurd cc

      by : (i j : ℕ) → ((i < j) → ⊥) → ((j < i) → ⊥) → (i < j) ⊎ (j ≤ i) → (j < i) ⊎ (i ≤ j) → i ≡ j
      by i j not_below not_above (inl below) other = absurd (not_below below)
      by i j not_below not_above (inr above) (inl below) = absurd (not_above below)
      by i j not_below not_above (inr above) (inr not_past) = omega (arith, above, not_past)

      apart : AreDistinct (λ (one : Instance). one.name) (map (instance_of all h.space) (instances_of h.written))
      apart = λ i j one other is_one is_other same.
          let a = get-mapped (instance_of all h.space) (instances_of h.written) i one is_one in
          let b = get-mapped (instance_of all h.space) (instances_of h.written) j other is_other in
          let names : a.0.name.name ≡ b.0.name.name = ap (λ (x : Instance). x.name) a.1.1 ∙ same ∙ sym (ap (λ (x : Instance). x.name) b.1.1) in
          by i j (later i j a.0 b.0 a.1.0 b.1.0 names) (later j i b.0 a.0 b.1.0 a.1.0 (sym names)) (cases_lt i j) (cases_lt j i)

  instances-and-ports : (n : ℕ) (body : Impl) → HasBody n body → (instance : Instance) (port : PlainPort) → Contains (instances_inside (Some body)) instance
      → Contains (map (port_from all) (ports_of all (declaration all n))) port → port.name ≡ instance.name → ⊥
  instances-and-ports n body h instance port there port_there same =
      let one = Contains-mapped (instance_of all h.space) (instances_of h.written) instance (subst (λ (l : List Instance). Contains l instance) (instances-of-body n body h) there) in
      let own = Contains-mapped (port_from all) (ports_of all (declaration all n)) port port_there in
      let names : own.one.port.name.name ≡ one.one.name.name = ap (λ (x : PlainPort). x.name) own.same ∙ same ∙ sym (ap (λ (x : Instance). x.name) one.same) in
      let test : has_port (ports_of all (declaration all n)) one.one.name.name ≡ true =
      any-there (λ (x : PortOf). bytes_eq x.port.name.name one.one.name.name) (ports_of all (declaration all n)) own.one own.inside ((bytes_decides own.one.port.name.name one.one.name.name).1 names) in
      told-instance n body h one.one.name.place
      (Contains-append_right (instances_again (instances_of h.written)) (instances_named_as_ports (ports_of_streamlet all (named_as is_streamlet all h.space h.target)) (instances_of h.written)) one.one.name.place
      (subst (λ (o : Option ℕ). Contains (instances_named_as_ports (ports_of_streamlet all o) (instances_of h.written)) one.one.name.place) (sym h.implemented)
      (Contains-map (λ (w : WrittenInstance). w.name.place) (filter (λ w. has_port (ports_of all (declaration all n)) w.name.name) (instances_of h.written)) one.one
      (Contains-filter (λ w. has_port (ports_of all (declaration all n)) w.name.name) (instances_of h.written) one.one one.inside test))))

  names-of : (n : ℕ) → n < length all → HasNamesApart (streamlet_from all n)
  names-of n within = record {
    ports = ports-apart n within;
    instances = by_instances (body_of all n) refl;
    apart = by_apart (body_of all n) refl;
  }
    where
      of_body : (body : Impl) → body_of all n ≡ Some body → HasBody n body
      of_body body is =
          let one = first-kept (impl_by all n) all body is in
          let number = has-number one.0 one.1.0 in
          has-body n number.number one.0.space one.0.name one.0.kind body number.within number.is one.1.1

      by_instances : (body : Option Impl) → body_of all n ≡ body → AreDistinct (λ (one : Instance). one.name) (instances_inside body)
      by_instances None is = λ i j one other is_one is_other same. absurd (none-there i one is_one)
      by_instances (Some body) is = instances-apart n body (of_body body is)

      by_apart : (body : Option Impl) → body_of all n ≡ body → (instance : Instance) (port : PlainPort) → Contains (instances_inside body) instance
          → Contains (map (port_from all) (ports_of all (declaration all n))) port → port.name ≡ instance.name → ⊥
      by_apart None is instance port there = absurd (omega (arith, there.1))
      by_apart (Some body) is instance port there = instances-and-ports n body (of_body body is) instance port there

  names-apart : (streamlet : PlainStreamlet) → Contains streamlets streamlet → HasNamesApart streamlet
  names-apart streamlet there =
      let one = Contains-mapped (streamlet_from all) (streamlet_numbers all) streamlet there in
      let place : slice_get (streamlet_numbers all) one.inside.0 ≡ Some one.one =
      slice_get-get_or (streamlet_numbers all) one.inside.0 one.one one.inside.1 ∙ ap (λ (a : ℕ). Some a) one.inside.2 in
      let number = filter-back (λ number. is_streamlet (declaration all number)) 0 (length all) one.inside.0 one.one place in
      subst HasNamesApart one.same (names-of one.one (omega (arith, number.is, number.within)))

-- ---- all of it

pub sound-project : (ast : Ast) → IsSound ast → IsSoundProject (project_of ast)
sound-project ast sound = record {
  types = ports-valid ast sound;
  tests = drives (declarations ast) sound (project_of ast) refl refl;
  instances = λ one other instance.
      let it = inside (declarations ast) sound (project_of ast) refl one other instance in
      get-within (project_of ast).streamlets other (streamlet_from (declarations ast) it.to) (get-map (streamlet_from (declarations ast)) (streamlet_numbers (declarations ast)) other it.to it.to_at);
  ends = ends (declarations ast) sound (project_of ast) refl;
  streamlet_paths = distinct-streamlets (declarations ast) sound;
  test_paths = distinct-kept (test_of (declarations ast)) path_of (λ (one : Test). one.path) (test-path (declarations ast) sound) (declarations ast) (distinct-declarations (declarations ast) sound);
  names = names-apart (declarations ast) sound;
}
