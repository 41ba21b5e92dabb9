-- The value of a port and the series of its nodes.
use Rattle.std.proofs.Common.{inl, inr, ◌≡◌, ◌∙◌, ℕ, suc, ◌+◌, List, [], ◌∷◌, refl, sym, ap, subst}
use Rattle.logical_types.specs.Tree.{Ltype, Parts, Settings}
use Rattle.logical_types.specs.Tree as types
use Rattle.logical_value.specs.Tree.{Tree}
use Rattle.logical_types.specs.Synchronicity.{is_apart}
use Rattle.type_split.specs.Nodes.{number_of_streams}
use Rattle.value_views.proofs.CompareLemmas.{agree_where_none, none_where_agree}
use Rattle.value_views.proofs.ShownLemmas.{joined_root, one_root, root_agrees}
use Rattle.value_views.proofs.ValueLemmas.{bool_is, not_both}
use Rattle.value_views.specs.Comparing.{disagreements_in}
use Rattle.value_views.specs.Series.{dims_inside, leaves}
use Rattle.value_views.specs.Shown.{AreNests, ArePlain, AreSeries, PortShows, RootsAgree, RootsOfPartsAgree, RootsOfPartsShow, RootsShow}

pub record HasRoots (Are : List (List Tree) → Type 0) : Type 0 where
  pub roots : List (List Tree)
  pub are : Are roots

mutual
  pub joined_roots : (given : ℕ → List Tree) (number dims : ℕ) (ltype : Ltype) (rest : List (List Tree)) → RootsAgree given number dims ltype
      → HasRoots (λ roots. RootsShow given number dims ltype roots rest)
  joined_roots given number dims types.null rest a = record { roots = rest; are = refl }
  joined_roots given number dims (types.bits width) rest a = record { roots = rest; are = refl }
  joined_roots given number dims (types.group parts) rest a = joined_roots_in given number dims parts rest a
  joined_roots given number dims (types.union parts) rest a = joined_roots_in given number dims parts rest a
  joined_roots given number dims (types.stream element user settings) rest a =
      let k = dims_inside settings.sync dims settings.dims in
      let inside = joined_roots given (suc number) k element rest a.1 in
      elim (bool_is (is_apart settings.sync)) [
        | inl is ↦
            let root = joined_root given number element k (a.0 is) in
            record {
              roots = root.series ∷ inside.roots;
              are = (
                λ _. record { series = root.series; more = inside.roots; whole = refl; shown_as = root.shown_as; others = inside.are },
                λ tied. not_both (is_apart settings.sync) is tied,
              );
            }
        | inr tied ↦ record { roots = inside.roots; are = (λ is. not_both (is_apart settings.sync) is tied, λ _. inside.are) }
      ]

  joined_roots_in : (given : ℕ → List Tree) (number dims : ℕ) (parts : Parts) (rest : List (List Tree)) → RootsOfPartsAgree given number dims parts
      → HasRoots (λ roots. RootsOfPartsShow given number dims parts roots rest)
  joined_roots_in given number dims types.no_parts rest a = record { roots = rest; are = refl }
  joined_roots_in given number dims (types.part name ltype more) rest a =
      let later = joined_roots_in given (number_of_streams ltype + number) dims more rest a.1 in
      let first = joined_roots given number dims ltype later.roots a.0 in
      record { roots = first.roots; are = record { mid = later.roots; first = first.are; second = later.are } }

mutual
  pub one_list : (given : ℕ → List Tree) (number dims : ℕ) (ltype : Ltype) (one other rest : List (List Tree)) → RootsShow given number dims ltype one rest
      → RootsShow given number dims ltype other rest → one ≡ other
  one_list given number dims types.null one other rest a b = a ∙ sym b
  one_list given number dims (types.bits width) one other rest a b = a ∙ sym b
  one_list given number dims (types.group parts) one other rest a b = one_list_in given number dims parts one other rest a b
  one_list given number dims (types.union parts) one other rest a b = one_list_in given number dims parts one other rest a b
  one_list given number dims (types.stream element user settings) one other rest a b =
      let k = dims_inside settings.sync dims settings.dims in
      elim (bool_is (is_apart settings.sync)) [
        | inl is ↦
            let x = a.0 is in
            let y = b.0 is in
            x.whole ∙ ap (λ (s : List Tree). s ∷ x.more) (one_root given number element k x.series y.series x.shown_as y.shown_as)
            ∙ ap (λ (l : List (List Tree)). y.series ∷ l) (one_list given (suc number) k element x.more y.more rest x.others y.others) ∙ sym y.whole
        | inr tied ↦ one_list given (suc number) k element one other rest (a.1 tied) (b.1 tied)
      ]

  one_list_in : (given : ℕ → List Tree) (number dims : ℕ) (parts : Parts) (one other rest : List (List Tree)) → RootsOfPartsShow given number dims parts one rest
      → RootsOfPartsShow given number dims parts other rest → one ≡ other
  one_list_in given number dims types.no_parts one other rest a b = a ∙ sym b
  one_list_in given number dims (types.part name ltype more) one other rest a b =
      let same = one_list_in given (number_of_streams ltype + number) dims more a.mid b.mid rest a.second b.second in
      one_list given number dims ltype one other b.mid (subst (RootsShow given number dims ltype one) same a.first) b.first

mutual
  pub roots_agree : (given : ℕ → List Tree) (number dims : ℕ) (ltype : Ltype) (roots rest : List (List Tree)) → RootsShow given number dims ltype roots rest → RootsAgree given number dims ltype
  roots_agree given number dims types.null roots rest a = tt
  roots_agree given number dims (types.bits width) roots rest a = tt
  roots_agree given number dims (types.group parts) roots rest a = roots_agree_in given number dims parts roots rest a
  roots_agree given number dims (types.union parts) roots rest a = roots_agree_in given number dims parts roots rest a
  roots_agree given number dims (types.stream element user settings) roots rest a =
      let k = dims_inside settings.sync dims settings.dims in (
        λ is. let x = a.0 is in root_agrees given number element k x.series x.shown_as,
        elim (bool_is (is_apart settings.sync)) [
          | inl is ↦ (let x = a.0 is in roots_agree given (suc number) k element x.more rest x.others)
          | inr tied ↦ roots_agree given (suc number) k element roots rest (a.1 tied)
        ],
      )

  roots_agree_in : (given : ℕ → List Tree) (number dims : ℕ) (parts : Parts) (roots rest : List (List Tree)) → RootsOfPartsShow given number dims parts roots rest → RootsOfPartsAgree given number dims parts
  roots_agree_in given number dims types.no_parts roots rest a = tt
  roots_agree_in given number dims (types.part name ltype more) roots rest a = (
    roots_agree given number dims ltype roots a.mid a.first,
    roots_agree_in given (number_of_streams ltype + number) dims more a.mid rest a.second,
  )

-- ---- the port

-- no child disagrees in the series of a value
pub port_agrees : (given : ℕ → List Tree) (element : Ltype) (dims : ℕ) (roots : List (List Tree)) → PortShows given element dims roots → disagreements_in given [] 1 dims element (given 0) ≡ []
port_agrees given element dims roots is =
    let root = root_agrees given 0 element dims is.series is.shown_as in
    none_where_agree given [] 1 dims element (given 0) root.inside (roots_agree given 1 dims element is.more [] is.others)

-- series of which no child disagrees are those of a value
pub port_joined : (given : ℕ → List Tree) (element : Ltype) (dims : ℕ) → AreNests dims (given 0) → ArePlain element (leaves dims (given 0)) → AreSeries given 1 dims element
    → disagreements_in given [] 1 dims element (given 0) ≡ [] → HasRoots (PortShows given element dims)
port_joined given element dims nests plain are none =
    let agree = agree_where_none given [] 1 dims element (given 0) are none in
    let root = joined_root given 0 element dims (record { nests = nests; plain = plain; inside = agree.here }) in
    let others = joined_roots given 1 dims element [] agree.roots in
    record { roots = root.series ∷ others.roots; are = record { series = root.series; more = others.roots; whole = refl; shown_as = root.shown_as; others = others.are } }

-- values of the same series are equal
pub port_one : (given : ℕ → List Tree) (element : Ltype) (dims : ℕ) (one other : List (List Tree)) → PortShows given element dims one → PortShows given element dims other → one ≡ other
port_one given element dims one other a b =
    a.whole ∙ ap (λ (s : List Tree). s ∷ a.more) (one_root given 0 element dims a.series b.series a.shown_as b.shown_as)
    ∙ ap (λ (l : List (List Tree)). b.series ∷ l) (one_list given 1 dims element a.more b.more [] a.others b.others) ∙ sym b.whole
