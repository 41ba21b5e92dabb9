-- Where no type declaration leads to itself, one name more replaced changes no type, once as many are as there are declarations.
use Rattle.std.proofs.Common.{◌≡◌, ℕ, zero, suc, ◌+◌, ◌<◌, ◌≤◌, ◌⊎◌, inl, inr, Bool, true, false, eqb, List, [], ◌∷◌, length, Some, Contains, refl, sym, ap, subst, ◌∙◌, arith}
use Rattle.std.specs.List.{IsDistinct, AllByRecursion}
use Rattle.std.proofs.lemmas.Bool.{eqb-true}
use Rattle.std.proofs.lemmas.List.Elements.{Contains-append_left, Contains-append_right, Contains-append_cases, Contains-push}
use Rattle.std.proofs.lemmas.Map.Keys.{IsDistinct-cons}
use Rattle.std.proofs.lemmas.Map.Steps.{length-le_from_distinct_below}
use Rattle.std.proofs.lemmas.Map.Views.{Contains-from_any}
use Rattle.til_parser.specs.declared.tree.AstKind.{AstKind}
use Rattle.til_parser.specs.declared.tree.AstKind.TheVariants as decls
use Rattle.til_parser.specs.declared.tree.AstName.{AstName}
use Rattle.til_parser.specs.declared.tree.AstPath.{AstPath}
use Rattle.til_parser.specs.Tree.{plain}
use Rattle.til_resolve.specs.BadTypes.{AreAcyclic}
use Rattle.til_resolve.specs.Cycles.{LeadsTo, NamesType, paths_of_alias}
use Rattle.til_resolve.specs.Declarations.{Declaration, declaration, named_as, is_type}
use Rattle.til_resolve.specs.Shapes.{type_at}
use Rattle.til_resolve.specs.Types.{type_by, meaning_of}
use Rattle.til_resolve.proofs.EarliestLemmas.{Contains-nil, Contains-one}
use Rattle.til_resolve.proofs.GraphLemmas.{LeadsTo-once, LeadsTo-then}
use Rattle.til_resolve.proofs.MeaningLemmas.{replaced-same, meant-same}
use Rattle.til_resolve.proofs.TypeGraphLemmas.{named-within}

-- a type stays as it is where those that it names do
still-next : (all : List Declaration) (less one : ℕ) → ((n : ℕ) → NamesType all one n → type_at all (suc less) n ≡ type_at all less n)
    → type_at all (suc (suc less)) one ≡ type_at all (suc less) one
still-next all less one has =
    let d = declaration all one in
    by d.space d.name d.kind (λ path n there is. has n (record { path = path; written = there; names = is }))
  where
    by : (space : List (List ℕ)) (name : AstName) (kind : AstKind)
        → ((path : AstPath) (n : ℕ) → Contains (paths_of_alias kind) path → named_as is_type all space path ≡ Some n → type_at all (suc less) n ≡ type_at all less n)
        → type_by (meaning_of all (suc less)) (record { space = space; name = name; kind = kind }) ≡ type_by (meaning_of all less) (record { space = space; name = name; kind = kind })
    by space name (decls.Alias ltype) there =
        replaced-same (meaning_of all (suc less) space) (meaning_of all less space) (plain ltype)
        (λ path written. meant-same all (suc less) less space path (λ n is. there path n written is))
    by space name (decls.Interface listed) there = refl
    by space name (decls.Streamlet listed) there = refl
    by space name (decls.Impl target body) there = refl
    by space name (decls.Test target port value plan) there = refl

-- a number that is none of a list
unequal : (one : ℕ) (way : List ℕ) → ((n : ℕ) → Contains way n → ¬ (one ≡ n)) → AllByRecursion (λ n. eqb one n ≡ false) way
unequal one [] differs = tt
unequal one (next ∷ more) differs =
    (by (eqb one next) refl, unequal one more (λ n there. differs n (Contains-append_right (next ∷ []) more n there)))
  where
    by : (b : Bool) → eqb one next ≡ b → b ≡ false
    by false is = refl
    by true is = absurd (differs next (Contains-append_left (next ∷ []) more next (Contains-push [] next)) (eqb-true one next is))

-- numbers on a way to this one: each once, each leads to it
record IsWay (all : List Declaration) (way : List ℕ) (one : ℕ) : Type 0 where
  distinct : IsDistinct eqb way
  within : (n : ℕ) → Contains way n → n < length all
  leads : (n : ℕ) → Contains way n → LeadsTo (NamesType all) n one

module _ (all : List Declaration) (acyclic : AreAcyclic all) where
  -- the way with its end
  ended : (way : List ℕ) (one : ℕ) → IsWay all way one → one < length all → IsDistinct eqb (one ∷ way)
  ended way one so within =
      IsDistinct-cons eqb one way
      (unequal one way (λ n there same. acyclic.each one within (subst (λ (k : ℕ). LeadsTo (NamesType all) k one) (sym same) (so.leads n there)))) so.distinct

  either : (way : List ℕ) (one n : ℕ) → Contains (one ∷ way) n → (one ≡ n) ⊎ Contains way n
  either way one n there = by (Contains-append_cases (one ∷ []) way n there)
    where
      by : Contains (one ∷ []) n ⊎ Contains way n → (one ≡ n) ⊎ Contains way n
      by (inl here) = inl (Contains-one one n here)
      by (inr further) = inr further

  inside : (way : List ℕ) (one : ℕ) → IsWay all way one → one < length all → (n : ℕ) → Contains (one ∷ way) n → n < length all
  inside way one so within n there = by (either way one n there)
    where
      by : (one ≡ n) ⊎ Contains way n → n < length all
      by (inl same) = subst (λ (k : ℕ). k < length all) same within
      by (inr further) = so.within n further

  -- no way is longer than there are declarations
  short : (way : List ℕ) (one : ℕ) → IsWay all way one → one < length all → suc (length way) ≤ length all
  short way one so within =
      length-le_from_distinct_below (one ∷ way) (length all) (ended way one so within) (λ q is. inside way one so within q (Contains-from_any eqb-true q (one ∷ way) is))

  further : (way : List ℕ) (one next : ℕ) → IsWay all way one → one < length all → NamesType all one next → IsWay all (one ∷ way) next
  further way one next so within step = record { distinct = ended way one so within; within = inside way one so within; leads = λ n there. by n (either way one n there) }
    where
      by : (n : ℕ) → (one ≡ n) ⊎ Contains way n → LeadsTo (NamesType all) n next
      by n (inl same) = LeadsTo-once (NamesType all) n next (subst (λ (k : ℕ). NamesType all k next) same step)
      by n (inr there) = LeadsTo-then (NamesType all) n one next (so.leads n there) step

  still-on : (less : ℕ) (way : List ℕ) (one : ℕ) → IsWay all way one → one < length all → length all ≤ length way + less → type_at all (suc less) one ≡ type_at all less one
  still-on zero way one so within enough = absurd (omega (arith, enough, short way one so within))
  still-on (suc less) way one so within enough =
      still-next all less one
      (λ n step. still-on less (one ∷ way) n (further way one n so within step) (named-within is_type all (declaration all one).space step.path n step.names) (omega (arith, enough)))

  -- one name more
  pub still : (less one : ℕ) → one < length all → length all ≤ less → type_at all (suc less) one ≡ type_at all less one
  unfolding IsDistinct
  still less one within enough = still-on less [] one (record { distinct = tt; within = λ n there. absurd (Contains-nil n there); leads = λ n there. absurd (Contains-nil n there) }) within (omega (arith, enough))

  -- any number of names more
  pub still-more : (more one : ℕ) → one < length all → type_at all (more + length all) one ≡ type_at all (length all) one
  still-more zero one within = let same : zero + length all ≡ length all = omega arith in ap (λ (n : ℕ). type_at all n one) same
  still-more (suc more) one within =
      let same : suc more + length all ≡ suc (more + length all) = omega arith in
      ap (λ (n : ℕ). type_at all n one) same ∙ still (more + length all) one within (omega arith) ∙ still-more more one within
