-- The series of each value agree, series that agree are those of a value, and of one alone.
use Rattle.std.proofs.Common.{◌≡◌, ◌∙◌, ℕ, zero, suc, ◌+◌, List, length, refl, sym, ap, subst}
use Rattle.std.specs.Prelude.{map}
use Rattle.std.proofs.lemmas.List.{length-map}
use Rattle.logical_types.specs.Tree.{Ltype, Parts, Settings}
use Rattle.logical_types.specs.Tree as types
use Rattle.logical_value.specs.Tree.{Tree, group, union, apart, tree}
use Rattle.logical_types.specs.Faults.{dims_taken_over}
use Rattle.logical_value.specs.Element.{IsElement, set_apart}
use Rattle.type_split.specs.Nodes.{number_of_streams}
use Rattle.value_views.proofs.NestLemmas.{same_nests, are-both, are-deeper, are-tied_series, are-upper, are_nests-replaced, cut-deeper, cut-plain, leaves-deep, leaves-in_deep, leaves-in_nest, leaves-replaced, leaves-tied_series, lift_nests, mapped, replaced-in_nest}
use Rattle.value_views.proofs.PartLemmas.{fields_of, variants_of}
use Rattle.value_views.proofs.ValueLemmas.{are_nests-in_nest, joined, one_value, plain_elements}
use Rattle.value_views.specs.Comparing.{tied_series}
use Rattle.value_views.specs.Series.{deep, first_part, leaves, other_parts, replaced}
use Rattle.value_views.specs.Shown.{Agree, AgreeParts, AreNests, ArePlain, Counts, CountsOfParts, DoAgree, Elements, IsShown, Nests, NestsOfParts, Shows, ShowsParts}
use Rattle.value_views.specs.Words.{in_nest}

pub first-field : (name : List ℕ) (ltype : Ltype) (more : Parts) (v : Tree) → IsElement (types.group (types.part name ltype more)) v
    → first_part (set_apart (types.group (types.part name ltype more)) v) ≡ mapped (set_apart ltype) (first_part v)
first-field name ltype more (group (tree x xs)) is = refl
first-field name ltype more v is = absurd is

pub other-fields : (name : List ℕ) (ltype : Ltype) (more : Parts) (v : Tree) → IsElement (types.group (types.part name ltype more)) v
    → other_parts (set_apart (types.group (types.part name ltype more)) v) ≡ mapped (set_apart (types.group more)) (other_parts v)
other-fields name ltype more (group (tree x xs)) is = refl
other-fields name ltype more v is = absurd is

pub first-variant : (name : List ℕ) (ltype : Ltype) (more : Parts) (v : Tree) → IsElement (types.union (types.part name ltype more)) v
    → first_part (set_apart (types.union (types.part name ltype more)) v) ≡ mapped (set_apart ltype) (first_part v)
first-variant name ltype more (union zero x) is = refl
first-variant name ltype more (union (suc tag) x) is = refl
first-variant name ltype more v is = absurd is

pub other-variants : (name : List ℕ) (ltype : Ltype) (more : Parts) (v : Tree) → IsElement (types.union (types.part name ltype more)) v
    → other_parts (set_apart (types.union (types.part name ltype more)) v) ≡ mapped (set_apart (types.union more)) (other_parts v)
other-variants name ltype more (union zero x) is = refl
other-variants name ltype more (union (suc tag) x) is = refl
other-variants name ltype more v is = absurd is

-- ---- the nests of a series

mutual
  pub nests_of_shown : (given : ℕ → List Tree) (number dims : ℕ) (ltype : Ltype) (series : List Tree) → Elements ltype (leaves dims series)
      → Shows given number dims ltype series → Nests given number dims ltype (leaves dims series)
  nests_of_shown given number dims types.null series are n = tt
  nests_of_shown given number dims (types.bits width) series are n = tt
  nests_of_shown given number dims (types.group parts) series are n = nests_of_fields given number dims parts series are n
  nests_of_shown given number dims (types.union parts) series are n = nests_of_variants given number dims parts series are n
  nests_of_shown given number dims (types.stream element user settings) series are n = (
    n.0,
    λ tied.
        let here = n.1 tied in
        let f = set_apart element in
        let k = dims_taken_over settings.sync dims in
        let own = settings.dims in
        let s = tied_series settings.sync dims series in
        let same : leaves k s ≡ leaves dims series = leaves-tied_series settings.sync dims series in
        let inner : leaves (deep k own) s ≡ leaves own (leaves dims series) = leaves-deep k own s ∙ ap (leaves own) same in (
          subst (AreNests own) same (are-deeper k own s here.0),
          ap (leaves k) here.1 ∙ leaves-in_deep f k own s ∙ ap (map (in_nest f own)) same,
          subst (Elements element) inner here.2,
          subst (Nests given (suc number) (deep k own) element) inner (nests_of_shown given (suc number) (deep k own) element s here.2 here.3),
        ),
  )

  nests_of_fields : (given : ℕ → List Tree) (number dims : ℕ) (parts : Parts) (series : List Tree) → Elements (types.group parts) (leaves dims series)
      → ShowsParts given number dims parts series → NestsOfParts given number dims parts (leaves dims series)
  nests_of_fields given number dims types.no_parts series are n = tt
  nests_of_fields given number dims (types.part name ltype more) series are n =
      let p = fields_of name ltype more (leaves dims series) are in
      let first = leaves-replaced first_part dims series in
      let rest = leaves-replaced other_parts dims series in (
        subst (Nests given number dims ltype) first (nests_of_shown given number dims ltype (replaced first_part dims series) (subst (Elements ltype) (sym first) p.firsts) n.0),
        subst (NestsOfParts given (number_of_streams ltype + number) dims more) rest
            (nests_of_fields given (number_of_streams ltype + number) dims more (replaced other_parts dims series) (subst (Elements (types.group more)) (sym rest) p.rests) n.1),
      )

  nests_of_variants : (given : ℕ → List Tree) (number dims : ℕ) (parts : Parts) (series : List Tree) → Elements (types.union parts) (leaves dims series)
      → ShowsParts given number dims parts series → NestsOfParts given number dims parts (leaves dims series)
  nests_of_variants given number dims types.no_parts series are n = tt
  nests_of_variants given number dims (types.part name ltype more) series are n =
      let p = variants_of name ltype more (leaves dims series) are in
      let first = leaves-replaced first_part dims series in
      let rest = leaves-replaced other_parts dims series in (
        subst (Nests given number dims ltype) first (nests_of_shown given number dims ltype (replaced first_part dims series) (subst (Elements ltype) (sym first) p.firsts) n.0),
        subst (NestsOfParts given (number_of_streams ltype + number) dims more) rest
            (nests_of_variants given (number_of_streams ltype + number) dims more (replaced other_parts dims series) (subst (Elements (types.union more)) (sym rest) p.rests) n.1),
      )

-- ---- views of a value agree

mutual
  pub agree_of_shown : (given : ℕ → List Tree) (number dims : ℕ) (ltype : Ltype) (series : List Tree) → Elements ltype (leaves dims series)
      → Shows given number dims ltype series → Agree given number dims ltype (map (in_nest (set_apart ltype) dims) series)
  agree_of_shown given number dims types.null series are n = tt
  agree_of_shown given number dims (types.bits width) series are n = tt
  agree_of_shown given number dims (types.group parts) series are n = agree_of_fields given number dims parts series are n
  agree_of_shown given number dims (types.union parts) series are n = agree_of_variants given number dims parts series are n
  agree_of_shown given number dims (types.stream element user settings) series are n = λ tied.
      let here = n.1 tied in
      let f = set_apart element in
      let k = dims_taken_over settings.sync dims in
      let own = settings.dims in
      let s = tied_series settings.sync dims series in
      let leaf : map f (leaves (deep k own) s) ≡ leaves (deep k own) (given number) = sym (leaves-in_nest f (deep k own) s) ∙ ap (leaves (deep k own)) (sym here.1) in (
        subst (AreNests (deep k own)) (sym here.1) (are_nests-in_nest f (deep k own) s),
        subst (ArePlain element) leaf (plain_elements element (leaves (deep k own) s) here.2),
        cut-plain settings.sync dims series ∙ sym (cut-deeper f k own s) ∙ ap (map (in_nest (λ (v : Tree). apart) k)) (sym here.1),
        subst (Agree given (suc number) (deep k own) element) (sym here.1) (agree_of_shown given (suc number) (deep k own) element s here.2 here.3),
      )

  agree_of_fields : (given : ℕ → List Tree) (number dims : ℕ) (parts : Parts) (series : List Tree) → Elements (types.group parts) (leaves dims series)
      → ShowsParts given number dims parts series → AgreeParts given number dims parts (map (in_nest (set_apart (types.group parts)) dims) series)
  agree_of_fields given number dims types.no_parts series are n = tt
  agree_of_fields given number dims (types.part name ltype more) series are n =
      let whole = types.group (types.part name ltype more) in
      let p = fields_of name ltype more (leaves dims series) are in
      let first = replaced-in_nest first_part (set_apart whole) (set_apart ltype) (IsElement whole) (first-field name ltype more) dims series are in
      let rest = replaced-in_nest other_parts (set_apart whole) (set_apart (types.group more)) (IsElement whole) (other-fields name ltype more) dims series are in (
        subst (Agree given number dims ltype) (sym first)
            (agree_of_shown given number dims ltype (replaced first_part dims series) (subst (Elements ltype) (sym (leaves-replaced first_part dims series)) p.firsts) n.0),
        subst (AgreeParts given (number_of_streams ltype + number) dims more) (sym rest)
            (agree_of_fields given (number_of_streams ltype + number) dims more (replaced other_parts dims series)
            (subst (Elements (types.group more)) (sym (leaves-replaced other_parts dims series)) p.rests) n.1),
      )

  agree_of_variants : (given : ℕ → List Tree) (number dims : ℕ) (parts : Parts) (series : List Tree) → Elements (types.union parts) (leaves dims series)
      → ShowsParts given number dims parts series → AgreeParts given number dims parts (map (in_nest (set_apart (types.union parts)) dims) series)
  agree_of_variants given number dims types.no_parts series are n = tt
  agree_of_variants given number dims (types.part name ltype more) series are n =
      let whole = types.union (types.part name ltype more) in
      let p = variants_of name ltype more (leaves dims series) are in
      let first = replaced-in_nest first_part (set_apart whole) (set_apart ltype) (IsElement whole) (first-variant name ltype more) dims series are in
      let rest = replaced-in_nest other_parts (set_apart whole) (set_apart (types.union more)) (IsElement whole) (other-variants name ltype more) dims series are in (
        subst (Agree given number dims ltype) (sym first)
            (agree_of_shown given number dims ltype (replaced first_part dims series) (subst (Elements ltype) (sym (leaves-replaced first_part dims series)) p.firsts) n.0),
        subst (AgreeParts given (number_of_streams ltype + number) dims more) (sym rest)
            (agree_of_variants given (number_of_streams ltype + number) dims more (replaced other_parts dims series)
            (subst (Elements (types.union more)) (sym (leaves-replaced other_parts dims series)) p.rests) n.1),
      )

-- ---- where views agree, there are as many nests as are selected

mutual
  pub counts_of_agree : (given : ℕ → List Tree) (number dims : ℕ) (ltype : Ltype) (plain : List Tree) → Agree given number dims ltype plain
      → Counts given number dims ltype (leaves dims plain)
  counts_of_agree given number dims types.null plain a = tt
  counts_of_agree given number dims (types.bits width) plain a = tt
  counts_of_agree given number dims (types.group parts) plain a = counts_of_agreed given number dims parts plain a
  counts_of_agree given number dims (types.union parts) plain a = counts_of_agreed given number dims parts plain a
  counts_of_agree given number dims (types.stream element user settings) plain a = λ tied.
      let here = a tied in
      let k = dims_taken_over settings.sync dims in
      let own = settings.dims in
      let w = given number in
      let inner : leaves (deep k own) w ≡ leaves own (leaves k w) = leaves-deep k own w in (
        are-deeper k own w here.0,
        ap length (sym (leaves-tied_series settings.sync dims plain)) ∙ sym (length-map (leaves k (tied_series settings.sync dims plain)) (λ (v : Tree). apart))
            ∙ ap length (sym (leaves-in_nest (λ (v : Tree). apart) k (tied_series settings.sync dims plain)) ∙ ap (leaves k) here.2 ∙ leaves-in_nest (λ (v : Tree). apart) k w)
            ∙ length-map (leaves k w) (λ (v : Tree). apart),
        subst (ArePlain element) inner here.1,
        subst (Counts given (suc number) (deep k own) element) inner (counts_of_agree given (suc number) (deep k own) element w here.3),
      )

  counts_of_agreed : (given : ℕ → List Tree) (number dims : ℕ) (parts : Parts) (plain : List Tree) → AgreeParts given number dims parts plain
      → CountsOfParts given number dims parts (leaves dims plain)
  counts_of_agreed given number dims types.no_parts plain a = tt
  counts_of_agreed given number dims (types.part name ltype more) plain a = (
    subst (Counts given number dims ltype) (leaves-replaced first_part dims plain) (counts_of_agree given number dims ltype (replaced first_part dims plain) a.0),
    subst (CountsOfParts given (number_of_streams ltype + number) dims more) (leaves-replaced other_parts dims plain)
        (counts_of_agreed given (number_of_streams ltype + number) dims more (replaced other_parts dims plain) a.1),
  )

-- ---- nests where views agree are a series

mutual
  pub shown : (given : ℕ → List Tree) (number dims : ℕ) (ltype : Ltype) (series : List Tree) → Elements ltype (leaves dims series) → AreNests dims series
      → Agree given number dims ltype (map (in_nest (set_apart ltype) dims) series) → Nests given number dims ltype (leaves dims series) → Shows given number dims ltype series
  shown given number dims types.null series are nested a n = tt
  shown given number dims (types.bits width) series are nested a n = tt
  shown given number dims (types.group parts) series are nested a n = shown_fields given number dims parts series are nested a n
  shown given number dims (types.union parts) series are nested a n = shown_variants given number dims parts series are nested a n
  shown given number dims (types.stream element user settings) series are nested a n = (
    n.0,
    λ tied.
        let here = n.1 tied in
        let agreed = a tied in
        let f = set_apart element in
        let k = dims_taken_over settings.sync dims in
        let own = settings.dims in
        let s = tied_series settings.sync dims series in
        let same : leaves k s ≡ leaves dims series = leaves-tied_series settings.sync dims series in
        let inner : leaves (deep k own) s ≡ leaves own (leaves dims series) = leaves-deep k own s ∙ ap (leaves own) same in
        let whole : AreNests (deep k own) s = are-both k own s (are-tied_series settings.sync dims series nested) (subst (AreNests own) (sym same) here.0) in
        let elements : Elements element (leaves (deep k own) s) = subst (Elements element) (sym inner) here.2 in
        let view : given number ≡ map (in_nest f (deep k own)) s =
        same_nests (λ (v : Tree). apart) k (given number) (map (in_nest f (deep k own)) s) (are-upper k own (given number) agreed.0)
        (are-upper k own (map (in_nest f (deep k own)) s) (are_nests-in_nest f (deep k own) s))
        (sym agreed.2 ∙ cut-plain settings.sync dims series ∙ sym (cut-deeper f k own s))
        (here.1 ∙ ap (map (in_nest f own)) (sym same) ∙ sym (leaves-in_deep f k own s)) in (
          whole,
          view,
          elements,
          shown given (suc number) (deep k own) element s elements whole (subst (Agree given (suc number) (deep k own) element) view agreed.3)
              (subst (Nests given (suc number) (deep k own) element) (sym inner) here.3),
        ),
  )

  shown_fields : (given : ℕ → List Tree) (number dims : ℕ) (parts : Parts) (series : List Tree) → Elements (types.group parts) (leaves dims series) → AreNests dims series
      → AgreeParts given number dims parts (map (in_nest (set_apart (types.group parts)) dims) series) → NestsOfParts given number dims parts (leaves dims series)
      → ShowsParts given number dims parts series
  shown_fields given number dims types.no_parts series are nested a n = tt
  shown_fields given number dims (types.part name ltype more) series are nested a n =
      let whole = types.group (types.part name ltype more) in
      let p = fields_of name ltype more (leaves dims series) are in
      let first = replaced-in_nest first_part (set_apart whole) (set_apart ltype) (IsElement whole) (first-field name ltype more) dims series are in
      let rest = replaced-in_nest other_parts (set_apart whole) (set_apart (types.group more)) (IsElement whole) (other-fields name ltype more) dims series are in
      let first_leaves = leaves-replaced first_part dims series in
      let rest_leaves = leaves-replaced other_parts dims series in (
        shown given number dims ltype (replaced first_part dims series) (subst (Elements ltype) (sym first_leaves) p.firsts) (are_nests-replaced first_part dims series)
            (subst (Agree given number dims ltype) first a.0) (subst (Nests given number dims ltype) (sym first_leaves) n.0),
        shown_fields given (number_of_streams ltype + number) dims more (replaced other_parts dims series) (subst (Elements (types.group more)) (sym rest_leaves) p.rests)
            (are_nests-replaced other_parts dims series) (subst (AgreeParts given (number_of_streams ltype + number) dims more) rest a.1)
            (subst (NestsOfParts given (number_of_streams ltype + number) dims more) (sym rest_leaves) n.1),
      )

  shown_variants : (given : ℕ → List Tree) (number dims : ℕ) (parts : Parts) (series : List Tree) → Elements (types.union parts) (leaves dims series) → AreNests dims series
      → AgreeParts given number dims parts (map (in_nest (set_apart (types.union parts)) dims) series) → NestsOfParts given number dims parts (leaves dims series)
      → ShowsParts given number dims parts series
  shown_variants given number dims types.no_parts series are nested a n = tt
  shown_variants given number dims (types.part name ltype more) series are nested a n =
      let whole = types.union (types.part name ltype more) in
      let p = variants_of name ltype more (leaves dims series) are in
      let first = replaced-in_nest first_part (set_apart whole) (set_apart ltype) (IsElement whole) (first-variant name ltype more) dims series are in
      let rest = replaced-in_nest other_parts (set_apart whole) (set_apart (types.union more)) (IsElement whole) (other-variants name ltype more) dims series are in
      let first_leaves = leaves-replaced first_part dims series in
      let rest_leaves = leaves-replaced other_parts dims series in (
        shown given number dims ltype (replaced first_part dims series) (subst (Elements ltype) (sym first_leaves) p.firsts) (are_nests-replaced first_part dims series)
            (subst (Agree given number dims ltype) first a.0) (subst (Nests given number dims ltype) (sym first_leaves) n.0),
        shown_variants given (number_of_streams ltype + number) dims more (replaced other_parts dims series) (subst (Elements (types.union more)) (sym rest_leaves) p.rests)
            (are_nests-replaced other_parts dims series) (subst (AgreeParts given (number_of_streams ltype + number) dims more) rest a.1)
            (subst (NestsOfParts given (number_of_streams ltype + number) dims more) (sym rest_leaves) n.1),
      )

-- ---- roots

pub root_agrees : (given : ℕ → List Tree) (number : ℕ) (element : Ltype) (dims : ℕ) (series : List Tree) → IsShown given number element dims series → DoAgree given number element dims
root_agrees given number element dims series is = record {
  nests = subst (AreNests dims) (sym is.root) (are_nests-in_nest (set_apart element) dims series);
  plain = subst (ArePlain element) (sym (leaves-in_nest (set_apart element) dims series) ∙ ap (leaves dims) (sym is.root)) (plain_elements element (leaves dims series) is.elements);
  inside = subst (Agree given (suc number) dims element) (sym is.root) (agree_of_shown given (suc number) dims element series is.elements is.inside);
}

pub record HasRootSeries (given : ℕ → List Tree) (number : ℕ) (element : Ltype) (dims : ℕ) : Type 0 where
  pub series : List Tree
  pub shown_as : IsShown given number element dims series

pub joined_root : (given : ℕ → List Tree) (number : ℕ) (element : Ltype) (dims : ℕ) → DoAgree given number element dims → HasRootSeries given number element dims
joined_root given number element dims a =
    let w = given number in
    let inside = joined given (suc number) dims element (leaves dims w) a.plain.elements a.plain.plain (counts_of_agree given (suc number) dims element w a.inside) in
    let put = lift_nests (set_apart element) dims w inside.values a.nests inside.same in
    let elements : Elements element (leaves dims put.nests) = subst (Elements element) (sym put.inner) inside.elements in
    record {
      series = put.nests;
      shown_as = record {
        nests = put.are;
        root = sym put.same;
        elements = elements;
        inside = shown given (suc number) dims element put.nests elements put.are (subst (Agree given (suc number) dims element) (sym put.same) a.inside)
            (subst (Nests given (suc number) dims element) (sym put.inner) inside.nests);
      };
    }

pub one_root : (given : ℕ → List Tree) (number : ℕ) (element : Ltype) (dims : ℕ) (one other : List Tree)
    → IsShown given number element dims one → IsShown given number element dims other → one ≡ other
one_root given number element dims one other is is' =
    let f = set_apart element in
    let e : map (in_nest f dims) one ≡ map (in_nest f dims) other = sym is.root ∙ is'.root in
    same_nests f dims one other is.nests is'.nests e
    (one_value given (suc number) dims element (leaves dims one) (leaves dims other) is.elements is'.elements
    (sym (leaves-in_nest f dims one) ∙ ap (leaves dims) e ∙ leaves-in_nest f dims other)
    (nests_of_shown given (suc number) dims element one is.elements is.inside) (nests_of_shown given (suc number) dims element other is'.elements is'.inside))
