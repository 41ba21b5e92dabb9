-- Tables of entries, each made of those of the types that its declaration names: of a round more, and of ranks that fall.
use Rattle.std.proofs.Common.{◌≡◌, ◌≢◌, ℕ, zero, suc, ◌+◌, ◌<◌, ◌≤◌, ◌⊎◌, inl, inr, List, [], ◌∷◌, ◌++◌, length, get_or, set, replicate, Option, Some, None, Contains, refl, sym, ap, subst, ◌∙◌, arith}
use Rattle.std.proofs.lemmas.Bool.{cases_eq, cases_lt}
use Rattle.std.proofs.lemmas.List.{get_or-set_same, get_or-set_other, length-set, length-replicate, length_push, get_or_append_left}
use Rattle.std.proofs.Math.Seq.{get_or-append_seam}
use Rattle.std.proofs.lemmas.Option.{slice_get_within, get_or_from_slice_get}
use Rattle.til_parser.specs.declared.ltype.AstType.{AstType}
use Rattle.til_parser.specs.declared.tree.AstKind.{AstKind}
use Rattle.til_parser.specs.declared.tree.AstKind.TheVariants as decls
use Rattle.til_parser.specs.declared.tree.AstPath.{AstPath}
use Rattle.til_parser.specs.Tree.{plain}
use Rattle.logical_types.specs.Tree.{Ltype, null}
use Rattle.til_resolve.specs.Cycles.{paths_of_alias}
use Rattle.til_resolve.specs.Declarations.{Declaration, declaration, named_as, is_type}
use Rattle.til_resolve.specs.Graph.{AreOrdered, IsRanked, rank_of, type_graph}
use Rattle.til_resolve.specs.Tables.{AreEntries, AreEntriesBelow, AreMadeOf, IsMadeFor, IsMadeOf, IsReady}
use Rattle.til_resolve.specs.Shapes.{entry_named, entry_of_number, type_at}
use Rattle.til_resolve.specs.Types.{meaning_of}
use Rattle.til_resolve.proofs.MeaningLemmas.{declared-is, meant-named, no_alias, type_of_named}
use Rattle.til_resolve.proofs.TableLemmas.{get_or-replicate}
use Rattle.til_resolve.proofs.TypeGraphLemmas.{length-type_graph, Leads-NamesType, named-within}

module _ {X : Type 0} (least : X) (Is : Ltype → X → Type 0) (all : List Declaration) where
  -- a table of all is ready for each type
  pub IsReady-all : (space : List (List ℕ)) (paths : List AstPath) (table : List X) (depth : ℕ) → AreEntries least Is all depth table → IsReady least Is all space paths table depth
  IsReady-all space paths table depth so = record {
    named = λ path other there names. so.each other (named-within is_type all space path other names);
    rest = λ other within. inr (so.each other within);
  }

  -- a table that is ready for a path has, for the declaration that the path names, the entry of the path's meaning
  pub entry-meant : (space : List (List ℕ)) (paths : List AstPath) (table : List X) (depth : ℕ) (path : AstPath) → Contains paths path → Is null least
      → IsReady least Is all space paths table depth → Is (meaning_of all depth space path.names) (entry_named least all table space path.names)
  entry-meant space paths table depth path there is_least ready =
      subst (λ (t : Ltype). Is t (entry_named least all table space path.names)) (sym (meant-named all depth space path)) (by (named_as is_type all space path) refl)
    where
      by : (o : Option ℕ) → named_as is_type all space path ≡ o → Is (type_of_named all depth o) (entry_of_number least table o)
      by None is = is_least
      by (Some one) is = ready.named path one there is

  -- the entry made of the type that a declaration gives a name to
  pub IsMadeFor-alias : (one : ℕ) (ltype : AstType) (table : List X) (made : X) → (declaration all one).kind ≡ decls.Alias ltype
      → IsMadeOf least Is all (declaration all one).space (plain ltype) table made → IsMadeFor least Is all one table made
  IsMadeFor-alias one ltype table made is so = λ depth ready.
      subst (λ (t : Ltype). Is t made) (sym (declared-is all depth one ltype is))
      (so depth (subst (λ (k : AstKind). IsReady least Is all (declaration all one).space (paths_of_alias k) table depth) is ready))

  -- a declaration of another kind gives a name to none
  pub IsMadeFor-none : (one : ℕ) (table : List X) → ((ltype : AstType) → (declaration all one).kind ≡ decls.Alias ltype → ⊥) → Is null least → IsMadeFor least Is all one table least
  IsMadeFor-none one table other is_least = λ depth ready.
      let d = declaration all one in
      subst (λ (t : Ltype). Is t least) (sym (no_alias (meaning_of all depth) d.space d.name d.kind other)) is_least

  -- ---- round by round

  -- before the first round each entry is the least
  pub AreEntries-none : (table : List X) → table ≡ [] → Is null least → AreEntries least Is all 0 table
  AreEntries-none table is is_least = subst (λ (l : List X). AreEntries least Is all 0 l) (sym is) (record { each = λ one within. is_least })

  pub AreMadeOf-none : (table next : List X) → next ≡ [] → AreMadeOf least Is all table 0 next
  AreMadeOf-none table next is = record { long = ap (λ (l : List X). length l) is; each = λ one within. absurd (omega (arith, within)) }

  pub AreMadeOf-more : (table next new : List X) (number : ℕ) (made : X) → new ≡ next ++ made ∷ [] → IsMadeFor least Is all number table made
      → AreMadeOf least Is all table number next → AreMadeOf least Is all table (number + 1) new
  AreMadeOf-more table next new number made pushes is so = record {
    long = ap (λ (l : List X). length l) pushes ∙ length_push next made ∙ ap (λ (n : ℕ). n + 1) so.long;
    each = λ one within. subst (λ (l : List X). IsMadeFor least Is all one table (get_or l one least)) (sym pushes) (by one (omega (arith, within)) (cases_eq one number));
  }
    where
      by : (one : ℕ) → one ≤ number → (one ≡ number) ⊎ (one ≢ number) → IsMadeFor least Is all one table (get_or (next ++ made ∷ []) one least)
      by one within (inl same) =
          subst (λ (k : ℕ). IsMadeFor least Is all k table (get_or (next ++ made ∷ []) k least)) (sym same)
          (subst (IsMadeFor least Is all number table) (sym (ap (λ (k : ℕ). get_or (next ++ made ∷ []) k least) (sym so.long) ∙ get_or-append_seam next made [] least)) is)
      by one within (inr other) =
          subst (IsMadeFor least Is all one table) (sym (get_or_append_left next (made ∷ []) least one (omega (arith, within, other, so.long)))) (so.each one (omega (arith, within, other)))

  pub AreEntries-next : (depth : ℕ) (table seen next : List X) → seen ≡ table → AreMadeOf least Is all seen (length all) next → AreEntries least Is all depth table
      → AreEntries least Is all (depth + 1) next
  AreEntries-next depth table seen next same seen_made so = record {
    each = λ one within.
        subst (λ (k : ℕ). Is (type_at all k one) (get_or next one least)) more
        ((subst (λ (l : List X). AreMadeOf least Is all l (length all) next) same seen_made).each one within depth (IsReady-all (declaration all one).space (paths_of_alias (declaration all one).kind) table depth so));
  }
    where
      more : suc depth ≡ depth + 1
      more = omega arith

  -- ---- by ranks

  module _ (ranks order : List ℕ) (graph : List (List ℕ)) (is : graph ≡ type_graph all (length all))
      (ranked : (one : ℕ) → one < length graph → IsRanked ranks graph one) (ordered : AreOrdered ranks order (length all)) where
    here : (one : ℕ) → one < length all → IsRanked ranks (type_graph all (length all)) one
    here one within =
        let long = ap (λ (g : List (List ℕ)). length g) is ∙ length-type_graph all in
        subst (λ (g : List (List ℕ)). IsRanked ranks g one) is (ranked one (omega (arith, within, long)))

    pub AreEntriesBelow-none : (table : List X) → table ≡ replicate (length all) least → AreEntriesBelow least Is all ranks 0 table
    AreEntriesBelow-none table all_least = record {
      long = ap (λ (l : List X). length l) all_least ∙ length-replicate (length all) least;
      each = λ one depth within low enough. absurd (omega (arith, low));
      rest = λ one within high. ap (λ (l : List X). get_or l one least) all_least ∙ get_or-replicate least (length all) one;
    }

    -- where ranks are reached, the table is ready for a declaration of this rank
    ready : (table : List X) (one depth : ℕ) → AreEntriesBelow least Is all ranks (rank_of ranks one) table → one < length all → rank_of ranks one ≤ suc depth
        → IsReady least Is all (declaration all one).space (paths_of_alias (declaration all one).kind) table depth
    ready table one depth so within enough = record {
      named = λ path other there names.
          let falls = (here one within).falls other (Leads-NamesType all one other (record { path = path; written = there; names = names })) in
          so.each other depth (named-within is_type all (declaration all one).space path other names) falls (omega (arith, falls, enough));
      rest = λ other inside. by other inside (cases_lt (rank_of ranks other) (rank_of ranks one));
    }
      where
        by : (other : ℕ) → other < length all → (rank_of ranks other < rank_of ranks one) ⊎ (rank_of ranks one ≤ rank_of ranks other)
            → (get_or table other least ≡ least) ⊎ Is (type_at all depth other) (get_or table other least)
        by other inside (inl low) = inr (so.each other depth inside low (omega (arith, low, enough)))
        by other inside (inr high) = inl (so.rest other inside high)

    -- the entry of a declaration of the rank that is reached
    made-right : (table : List X) (one depth : ℕ) (made : X) → AreEntriesBelow least Is all ranks (rank_of ranks one) table → one < length all → rank_of ranks one ≤ depth
        → IsMadeFor least Is all one table made → Is (type_at all depth one) made
    made-right table one zero made so within enough is_made = absurd (omega (arith, enough, (here one within).above))
    made-right table one (suc depth) made so within enough is_made = is_made depth (ready table one depth so within enough)

    -- the number that stands at a rank
    at_rank : (one rank number : ℕ) → one < length all → rank_of ranks one ≡ rank → number ≡ get_or order rank 0 → one ≡ number
    at_rank one rank number within same item =
        sym (get_or_from_slice_get order (rank_of ranks one) one 0 (ordered one within)) ∙ ap (λ (k : ℕ). get_or order k 0) same ∙ sym item

    pub AreEntriesBelow-more : (table seen new : List X) (rank number : ℕ) (made : X) → number ≡ get_or order rank 0 → number < length all → rank_of ranks number ≡ rank
        → seen ≡ table → IsMadeFor least Is all number seen made → new ≡ set table number made → AreEntriesBelow least Is all ranks rank table → AreEntriesBelow least Is all ranks (rank + 1) new
    AreEntriesBelow-more table seen new rank number made item inside has_rank sees is_made sets so = record {
      long = ap (λ (l : List X). length l) sets ∙ length-set table number made ∙ so.long;
      each = λ one depth within low enough. subst (λ (l : List X). Is (type_at all depth one) (get_or l one least)) (sym sets) (by one depth within (omega (arith, low)) enough (cases_eq one number));
      rest = λ one within high.
          ap (λ (l : List X). get_or l one least) sets ∙ get_or-set_other table number one made least (λ same. later one high (ap (rank_of ranks) same ∙ has_rank))
          ∙ so.rest one within (omega (arith, high));
    }
      where
        later : (one : ℕ) → rank + 1 ≤ rank_of ranks one → rank_of ranks one ≡ rank → ⊥
        later one high same = omega (arith, high, same)

        by : (one depth : ℕ) → one < length all → rank_of ranks one ≤ rank → rank_of ranks one ≤ depth → (one ≡ number) ⊎ (one ≢ number)
            → Is (type_at all depth one) (get_or (set table number made) one least)
        by one depth within low enough (inl same) =
            subst (λ (k : ℕ). Is (type_at all depth k) (get_or (set table number made) k least)) (sym same)
            (subst (Is (type_at all depth number)) (sym (get_or-set_same table number made least (omega (arith, inside, so.long))))
            (made-right table number depth made (subst (λ (r : ℕ). AreEntriesBelow least Is all ranks r table) (sym has_rank) so) inside
            (subst (λ (k : ℕ). rank_of ranks k ≤ depth) same enough) (subst (λ (l : List X). IsMadeFor least Is all number l made) sees is_made)))
        by one depth within low enough (inr other) =
            subst (Is (type_at all depth one)) (sym (get_or-set_other table number one made least other)) (so.each one depth within (below (cases_eq (rank_of ranks one) rank)) enough)
          where
            below : (rank_of ranks one ≡ rank) ⊎ (rank_of ranks one ≢ rank) → rank_of ranks one < rank
            below (inl same) = absurd (other (at_rank one rank number within same item))
            below (inr apart) = omega (arith, low, apart)

    -- no declaration has this rank
    pub AreEntriesBelow-past : (table new : List X) (rank number : ℕ) → number ≡ get_or order rank 0 → new ≡ table → (number < length all → rank_of ranks number ≢ rank)
        → AreEntriesBelow least Is all ranks rank table → AreEntriesBelow least Is all ranks (rank + 1) new
    AreEntriesBelow-past table new rank number item stays past so = subst (λ (l : List X). AreEntriesBelow least Is all ranks (rank + 1) l) (sym stays) (record {
      long = so.long;
      each = λ one depth within low enough. so.each one depth within (below one within (omega (arith, low)) (cases_eq (rank_of ranks one) rank)) enough;
      rest = λ one within high. so.rest one within (omega (arith, high));
    })
      where
        below : (one : ℕ) → one < length all → rank_of ranks one ≤ rank → (rank_of ranks one ≡ rank) ⊎ (rank_of ranks one ≢ rank) → rank_of ranks one < rank
        below one within low (inl same) =
            let stands = at_rank one rank number within same item in
            absurd (past (subst (λ (k : ℕ). k < length all) stands within) (ap (rank_of ranks) (sym stands) ∙ same))
        below one within low (inr apart) = omega (arith, low, apart)

    pub AreEntriesBelow-all : (table made : List X) (rank : ℕ) → length order ≤ rank → made ≡ table → AreEntriesBelow least Is all ranks rank table → AreEntries least Is all (length all) made
    AreEntriesBelow-all table made rank done is_made so = subst (λ (l : List X). AreEntries least Is all (length all) l) (sym is_made) (record {
      each = λ one within.
          let stands = slice_get_within order (rank_of ranks one) one (ordered one within) in
          let bound = (here one within).within in
          so.each one (length all) within (omega (arith, stands, done)) (omega (arith, bound, length-type_graph all));
    })
