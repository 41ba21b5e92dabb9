-- The items of a stream as they are kept, and the tags that are read in them.
use Rattle.std.proofs.Common.{◌≡◌, ◌∙◌, ℕ, zero, suc, ◌+◌, ◌*◌, ◌<◌, ◌≤◌, nat_lt, Bool, true, false, not, ◌&&◌, if◌then◌else◌, List, [], ◌∷◌, ◌++◌, length, take, drop, map, Option, Some, All, OnOk, Result, Ok, Err, MatchBool, add-one, refl, sym, ap, subst, arith, append_assoc, append-nil}
use Rattle.std.proofs.lemmas.Bool.Decides.{nat_tests}
use Rattle.std.proofs.lemmas.Grind.{flat_map-append}
use Rattle.std.proofs.Math.Nat.{mul-le-mul_right, suc-mul}
use Rattle.std.proofs.lemmas.List.{length-drop, length-take-le, map-append, take_all}
use Rattle.std.proofs.lemmas.List.Elements.{All-append, All-cons, All-nil}
use Rattle.physical_stream.specs.Params.{Parameters}
use Rattle.physical_stream.specs.Cycles.{Cycle, done_in, done_of, items_done}
use Rattle.physical_stream.specs.Items.{is_active, items_of, items_of_all, lane_closes, lane_items, lane_word, last_bit, parts_below}
use Rattle.physical_stream.specs.Shape.{IsNested, may_close, tail_of}
use Rattle.physical_stream.specs.Signals.{Fits, has_user}
use Rattle.physical_stream.specs.declared.item.Item.{Item}
use Rattle.physical_stream.specs.declared.item.Item.TheVariants as items
use Rattle.physical_stream.specs.declared.transfer.Transfer.{Transfer}
use Rattle.logical_types.specs.Tree.{Ltype}
use Rattle.logical_value.specs.Agreement.{names_variants}
use Rattle.nest_shape.specs.declared.builder.Builder.{Builder}
use Rattle.nest_shape.proofs.LawLemmas.{nests_item_by_item}
use Rattle.value_views.specs.Laws.{FitsStream}
use Rattle.complexity_rules.proofs.CheckerLemmas.{items_done-one_more}
use Rattle.trace_decode.specs.Keeping.{Builds, HasDims, KeepsStream, KeepsUser, Takes, are_named, is_named, lane_element}
use Rattle.trace_decode.specs.Outcome.{users_done, users_of}
use Rattle.trace_decode.specs.declared.stream_kept.StreamKept.{StreamKept}

-- ---- the words of lanes

-- the word of the only lane of a stream is the whole data signal
pub only_word : (p : Parameters) (t : Transfer) (lane : ℕ) → p.lanes ≡ 1 → lane < p.lanes → Fits p t → t.content ≡ lane_word p t lane
only_word p t lane one within fits =
    let first : lane ≡ 0 = omega (arith, one, within) in
    let none : 0 * p.element ≡ 0 = omega arith in
    let whole : 1 * p.element ≡ p.element = omega arith in
    let long : length t.content ≡ p.element = fits.content ∙ ap (λ (n : ℕ). n * p.element) one ∙ whole in
    sym (ap (λ (n : ℕ). take p.element (drop n t.content)) (ap (λ (n : ℕ). n * p.element) first ∙ none) ∙ take_all p.element t.content (omega (arith, long)))

-- ---- items that are not nested

-- items that begin with others that are not nested are not nested
pub not_nested-more : (done taken : List Item) → (IsNested done → ⊥) → IsNested (done ++ taken) → ⊥
not_nested-more done taken bad nested = bad (λ front rest dim is.
    nested front (rest ++ taken) dim (ap (λ (l : List Item). l ++ taken) is ∙ append_assoc front (items.Close dim ∷ rest) taken))

-- a Close that may not stand after items makes them not nested
pub not_nested-close : (done : List Item) (dim : ℕ) → may_close (tail_of done) dim ≡ false → IsNested (done ++ items.Close dim ∷ []) → ⊥
not_nested-close done dim misplaced nested =
    let placed = ((nests_item_by_item done (items.Close dim)).0 nested).1 in
    let so : not (may_close (tail_of done) dim) ≡ true = ap not misplaced in
    cc

-- ---- taking items

pub takes-none : (kept : StreamKept) → Takes [] kept kept
takes-none kept = record {
  builds = λ done b. subst (λ (l : List Item). Builds l kept.builder) (sym (append-nil done)) b;
  dims = λ dims has. has;
  users = refl;
}

pub takes-then : (one other : List Item) (a b c : StreamKept) → Takes one a b → Takes other b c → Takes (one ++ other) a c
takes-then one other a b c first second = record {
  builds = λ done before. subst (λ (l : List Item). Builds l c.builder) (append_assoc done one other) (second.builds (done ++ one) (first.builds done before));
  dims = λ dims has. second.dims dims (first.dims dims has);
  users = second.users ∙ first.users;
}

-- the items of one lane, or of one dimension, more
pub takes-part : (f : ℕ → List Item) (n : ℕ) (a b c : StreamKept) → Takes (parts_below f n) a b → Takes (f n) b c → Takes (parts_below f (n + 1)) a c
takes-part f n a b c first second = subst (λ (k : ℕ). Takes (parts_below f k) a c) (sym (add-one n)) (takes-then (parts_below f n) (f n) a b c first second)

-- ---- tags

pub are_named-append : (element : Ltype) (one other : List Item) → are_named element (one ++ other) ≡ (are_named element one && are_named element other)
are_named-append element [] other = refl
are_named-append element (items.Elem word ∷ more) other = by_test (is_named element (items.Elem word)) (are_named-append element more other)
  where
    by_test : (test : Bool) → are_named element (more ++ other) ≡ (are_named element more && are_named element other)
        → (test && are_named element (more ++ other)) ≡ ((test && are_named element more) && are_named element other)
    by_test true same = same
    by_test false same = refl
are_named-append element (items.Close dim ∷ more) other = are_named-append element more other

closes_named-from : (element : Ltype) (f : ℕ → Bool) (n : ℕ) → are_named element (parts_below (λ dim. if f dim then items.Close dim ∷ [] else []) n) ≡ true
closes_named-from element f zero = refl
closes_named-from element f (suc n) =
    are_named-append element (parts_below (λ dim. if f dim then items.Close dim ∷ [] else []) n) (if f n then items.Close n ∷ [] else [])
    ∙ ap (λ (b : Bool). b && are_named element (if f n then items.Close n ∷ [] else [])) (closes_named-from element f n) ∙ last (f n)
  where
    last : (test : Bool) → are_named element (if test then items.Close n ∷ [] else []) ≡ true
    last true = refl
    last false = refl

-- the ends that a lane marks have no tags
pub closes_named : (element : Ltype) (p : Parameters) (t : Transfer) (lane : ℕ) → are_named element (lane_closes p t lane) ≡ true
closes_named element p t lane = closes_named-from element (last_bit p t lane) p.dims

-- the tags of a lane are those of its element
pub lane_named : (element : Ltype) (p : Parameters) (t : Transfer) (lane : ℕ) (active : Bool) → is_active t lane ≡ active
    → are_named element (lane_items p t lane) ≡ are_named element (if active then items.Elem (lane_word p t lane) ∷ [] else [])
lane_named element p t lane active is =
    ap (λ (b : Bool). are_named element ((if b then items.Elem (lane_word p t lane) ∷ [] else []) ++ lane_closes p t lane)) is
    ∙ are_named-append element (if active then items.Elem (lane_word p t lane) ∷ [] else []) (lane_closes p t lane)
    ∙ ap (λ (b : Bool). are_named element (if active then items.Elem (lane_word p t lane) ∷ [] else []) && b) (closes_named element p t lane)
    ∙ both (are_named element (if active then items.Elem (lane_word p t lane) ∷ [] else []))
  where
    both : (b : Bool) → (b && true) ≡ b
    both true = refl
    both false = refl

pub named-active : (element : Ltype) (p : Parameters) (t : Transfer) (lane : ℕ) (word : List Bool) (named : Bool) → is_active t lane ≡ true → word ≡ lane_word p t lane
    → named ≡ names_variants element word → named ≡ are_named element (lane_items p t lane)
named-active element p t lane word named active is said =
    said ∙ ap (names_variants element) is ∙ alone (names_variants element (lane_word p t lane)) ∙ sym (lane_named element p t lane true active)
  where
    alone : (b : Bool) → b ≡ (b && true)
    alone true = refl
    alone false = refl

pub named-inactive : (element : Ltype) (p : Parameters) (t : Transfer) (lane : ℕ) → is_active t lane ≡ false → true ≡ are_named element (lane_items p t lane)
named-inactive element p t lane idle = sym (lane_named element p t lane false idle)

-- one lane more
pub named-more : (element : Ltype) (p : Parameters) (t : Transfer) (lane : ℕ) (before here : Bool) → before ≡ are_named element (parts_below (lane_items p t) lane)
    → here ≡ are_named element (lane_items p t lane) → (before && here) ≡ are_named element (parts_below (lane_items p t) (lane + 1))
named-more element p t lane before here is_before is_here =
    ap (λ (b : Bool). b && here) is_before ∙ ap (λ (b : Bool). are_named element (parts_below (lane_items p t) lane) && b) is_here
    ∙ sym (are_named-append element (parts_below (lane_items p t) lane) (lane_items p t lane))
    ∙ ap (λ (n : ℕ). are_named element (parts_below (lane_items p t) n)) (sym (add-one lane))

-- a Close that may come next, or makes the items not nested
pub may_close_so : (done : List Item) (dim : ℕ) (test : Bool) → test ≡ may_close (tail_of done) dim → MatchBool test (Unit {0}) (IsNested (done ++ items.Close dim ∷ []) → ⊥)
may_close_so done dim true is = tt
may_close_so done dim false is = not_nested-close done dim (sym is)

-- ---- user words

pub users_done-one_more : (cycles : List Cycle) (now : Cycle) → users_done (cycles ++ now ∷ []) ≡ users_done cycles ++ map (λ (t : Transfer). t.user) (done_in now)
users_done-one_more cycles now =
    ap (map (λ (t : Transfer). t.user)) (flat_map-append done_in cycles (now ∷ []) ∙ ap (λ (l : List Transfer). done_of cycles ++ l) (append-nil (done_in now)))
    ∙ map-append (λ (t : Transfer). t.user) (done_of cycles) (done_in now)

-- those of one cycle more
pub users_of-one_more : (p : Parameters) (cycles : List Cycle) (now : Cycle)
    → users_of (record { params = p; cycles = cycles ++ now ∷ [] })
    ≡ users_of (record { params = p; cycles = cycles }) ++ (if has_user p then map (λ (t : Transfer). t.user) (done_in now) else [])
users_of-one_more p cycles now = by_test (has_user p)
  where
    by_test : (test : Bool)
        → (if test then users_done (cycles ++ now ∷ []) else []) ≡ (if test then users_done cycles else []) ++ (if test then map (λ (t : Transfer). t.user) (done_in now) else [])
    by_test true = users_done-one_more cycles now
    by_test false = refl

no_bits : (width : ℕ) → width ≡ 0 → nat_lt 0 width ≡ false
no_bits width none = grind (arith, nat_tests)

some_bits : (width : ℕ) → (width ≡ 0 → ⊥) → nat_lt 0 width ≡ true
some_bits width some = grind (arith, nat_tests)

-- a stream without bits for them keeps none
pub keeps-no_user : (p : Parameters) (t : Transfer) (kept : StreamKept) → p.user ≡ 0 → KeepsUser p t kept kept
keeps-no_user p t kept none = record {
  builder = refl;
  users = sym (append-nil kept.users) ∙ ap (λ (b : Bool). kept.users ++ (if b then t.user ∷ [] else [])) (sym (no_bits p.user none));
}

-- and else the user word is kept
pub keeps-user : (p : Parameters) (t : Transfer) (old new : StreamKept) (user : List Bool) → (p.user ≡ 0 → ⊥) → user ≡ t.user → new.builder ≡ old.builder → new.users ≡ old.users ++ user ∷ []
    → KeepsUser p t old new
keeps-user p t old new user some is same more = record {
  builder = same;
  users =
      more ∙ ap (λ (u : List Bool). old.users ++ u ∷ []) is ∙ ap (λ (b : Bool). old.users ++ (if b then t.user ∷ [] else [])) (sym (some_bits p.user some));
}

-- ---- items of a transfer are items of its stream

piece-width : (lane lanes width : ℕ) (bits : List Bool) → lane < lanes → length bits ≡ lanes * width → length (take width (drop (lane * width) bits)) ≡ width
piece-width lane lanes width bits less long =
    let more : suc lane ≤ lanes = omega arith in
    let room : width + lane * width ≤ lanes * width = omega (arith, mul-le-mul_right width more, suc-mul lane width) in
    length-take-le width (drop (lane * width) bits) (omega (arith, length-drop (lane * width) bits, long, room))

closes-fit : (p : Parameters) (f : ℕ → Bool) (n : ℕ) → n ≤ p.dims → All (FitsStream p) (parts_below (λ dim. if f dim then items.Close dim ∷ [] else []) n)
closes-fit p f zero within = All-nil (FitsStream p)
closes-fit p f (suc n) within =
    All-append (FitsStream p) (parts_below (λ dim. if f dim then items.Close dim ∷ [] else []) n) (if f n then items.Close n ∷ [] else []) (closes-fit p f n (omega arith)) (last (f n))
  where
    last : (test : Bool) → All (FitsStream p) (if test then items.Close n ∷ [] else [])
    last true = All-cons (FitsStream p) (items.Close n) [] (omega arith) (All-nil (FitsStream p))
    last false = All-nil (FitsStream p)

lane-fits : (p : Parameters) (t : Transfer) (lane : ℕ) → Fits p t → lane < p.lanes → All (FitsStream p) (lane_items p t lane)
lane-fits p t lane fits less =
    All-append (FitsStream p) (lane_element p t lane) (lane_closes p t lane) (first (is_active t lane)) (closes-fit p (last_bit p t lane) p.dims (omega arith))
  where
    first : (test : Bool) → All (FitsStream p) (if test then items.Elem (lane_word p t lane) ∷ [] else [])
    first true = All-cons (FitsStream p) (items.Elem (lane_word p t lane)) [] (piece-width lane p.lanes p.element t.content less fits.content) (All-nil (FitsStream p))
    first false = All-nil (FitsStream p)

pub items-fit : (p : Parameters) (t : Transfer) → Fits p t → All (FitsStream p) (items_of p t)
items-fit p t fits = from p.lanes (omega arith)
  where
    from : (n : ℕ) → n ≤ p.lanes → All (FitsStream p) (parts_below (lane_items p t) n)
    from zero within = All-nil (FitsStream p)
    from (suc n) within = All-append (FitsStream p) (parts_below (lane_items p t) n) (lane_items p t n) (from n (omega arith)) (lane-fits p t n fits (omega arith))

-- ---- one cycle more

module _ (p : Parameters) (cycles : List Cycle) (old new : StreamKept) (keeps : KeepsStream (record { params = p; cycles = cycles }) old) where
  -- in which nothing is done
  pub keeps-undone : (now : Cycle) → done_in now ≡ [] → new ≡ old → KeepsStream (record { params = p; cycles = cycles ++ now ∷ [] }) new
  keeps-undone now nothing same =
      let items_same : items_done p (cycles ++ now ∷ []) ≡ items_done p cycles =
      items_done-one_more p cycles now ∙ ap (λ (ts : List Transfer). items_done p cycles ++ items_of_all p ts) nothing ∙ append-nil (items_done p cycles) in
      let none_more : users_done (cycles ++ now ∷ []) ≡ users_done cycles =
      users_done-one_more cycles now ∙ ap (λ (ts : List Transfer). users_done cycles ++ map (λ (t : Transfer). t.user) ts) nothing ∙ append-nil (users_done cycles) in
      let users_same : users_of (record { params = p; cycles = cycles ++ now ∷ [] }) ≡ users_of (record { params = p; cycles = cycles }) =
      ap (λ (words : List (List Bool)). if has_user p then words else []) none_more in
      record {
        level = keeps.level;
        fit = subst (All (FitsStream p)) (sym items_same) keeps.fit;
        builds = subst (λ (l : List Item). Builds l new.builder) (sym items_same) (subst (λ (k : StreamKept). Builds (items_done p cycles) k.builder) (sym same) keeps.builds);
        dims = subst (λ (k : StreamKept). HasDims p.dims k.builder) (sym same) keeps.dims;
        users = ap (λ (k : StreamKept). k.users) same ∙ keeps.users ∙ sym users_same;
      }

  -- in which a transfer is done
  pub keeps-done : (t : Transfer) (mid : StreamKept) → Fits p t → KeepsUser p t old mid → Takes (items_of p t) mid new
      → KeepsStream (record { params = p; cycles = cycles ++ record { ready = true; shown = Some t } ∷ [] }) new
  keeps-done t mid fits user takes =
      let items_more : items_done p (cycles ++ record { ready = true; shown = Some t } ∷ []) ≡ items_done p cycles ++ items_of p t =
      items_done-one_more p cycles (record { ready = true; shown = Some t }) ∙ ap (λ (is : List Item). items_done p cycles ++ is) (append-nil (items_of p t)) in
      record {
        level = keeps.level;
        fit = subst (All (FitsStream p)) (sym items_more) (All-append (FitsStream p) (items_done p cycles) (items_of p t) keeps.fit (items-fit p t fits));
        builds =
            subst (λ (l : List Item). Builds l new.builder) (sym items_more)
            (takes.builds (items_done p cycles) (subst (λ (b : Option Builder). Builds (items_done p cycles) b) (sym user.builder) keeps.builds));
        dims = takes.dims p.dims (subst (HasDims p.dims) (sym user.builder) keeps.dims);
        users =
            takes.users ∙ user.users ∙ ap (λ (us : List (List Bool)). us ++ (if has_user p then t.user ∷ [] else [])) keeps.users
            ∙ sym (users_of-one_more p cycles (record { ready = true; shown = Some t }));
      }

  -- the same of a result, where there is memory
  pub keeps-done_if : {E : Type 0} → (t : Transfer) (mid : StreamKept) (ready : Bool) (result : Result Bool E) → ready ≡ true → Fits p t → KeepsUser p t old mid
      → OnOk result (Takes (items_of p t) mid new)
      → OnOk result (KeepsStream (record { params = p; cycles = cycles ++ record { ready = ready; shown = Some t } ∷ [] }) new)
  keeps-done_if t mid ready (Err e) is fits user takes = tt
  keeps-done_if t mid ready (Ok named) is fits user takes =
      subst (λ (b : Bool). KeepsStream (record { params = p; cycles = cycles ++ record { ready = b; shown = Some t } ∷ [] }) new) (sym is) (keeps-done t mid fits user takes)
