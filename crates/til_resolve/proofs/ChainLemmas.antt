-- A type declaration that only names another has its type, with one name fewer replaced; so a table whose entries follow one another
-- has a chain of each declaration.
use Rattle.std.proofs.Common.{◌≡◌, ℕ, zero, suc, ◌+◌, ◌-◌, ◌<◌, List, [], length, Some, refl, sym, ap, subst, ◌∙◌, arith}
use Rattle.til_parser.specs.declared.tree.AstKind.{AstKind}
use Rattle.til_parser.specs.declared.tree.AstKind.TheVariants as decls
use Rattle.til_parser.specs.declared.tree.AstName.{AstName}
use Rattle.til_parser.specs.Tree as tree
use Rattle.til_parser.specs.Tree.{plain}
use Rattle.til_resolve.specs.declared.chains.Chain.{Chain}
use Rattle.til_resolve.specs.BadTypes.{AreAcyclic}
use Rattle.til_resolve.specs.Chains.{own_chain, chain_at, IsChain, AreChains, named_alone, next_of_kind, next_of, GoesOn, AreLinks}
use Rattle.til_resolve.specs.Declarations.{Declaration, declaration, is_type}
use Rattle.til_resolve.specs.Shapes.{type_at}
use Rattle.til_resolve.specs.Types.{replaced, type_by, meaning_of}
use Rattle.til_resolve.proofs.MeaningLemmas.{type_of_named, meant-named}
use Rattle.til_resolve.proofs.StableLemmas.{still, still-more}
use Rattle.til_resolve.proofs.TypeGraphLemmas.{named-within}

-- ---- types that are only a path

pub alone-is : (all : List Declaration) (less : ℕ) (space : List (List ℕ)) (t : tree.Ltype) (n : ℕ) → named_alone all space t ≡ Some n → replaced (meaning_of all less space) t ≡ type_at all less n
alone-is all less space tree.null n is = cc
alone-is all less space (tree.bits width) n is = cc
alone-is all less space (tree.group parts) n is = cc
alone-is all less space (tree.union parts) n is = cc
alone-is all less space (tree.stream element user settings) n is = cc
alone-is all less space (tree.path names) n is = meant-named all less space (record { names = names }) ∙ ap (type_of_named all less) is

pub alone-within : (all : List Declaration) (space : List (List ℕ)) (t : tree.Ltype) (n : ℕ) → named_alone all space t ≡ Some n → n < length all
alone-within all space tree.null n is = cc
alone-within all space (tree.bits width) n is = cc
alone-within all space (tree.group parts) n is = cc
alone-within all space (tree.union parts) n is = cc
alone-within all space (tree.stream element user settings) n is = cc
alone-within all space (tree.path names) n is = named-within is_type all space (record { names = names }) n is

next-within : (all : List Declaration) (one n : ℕ) → next_of all one ≡ Some n → n < length all
next-within all one n is = let d = declaration all one in by d.space d.kind is
  where
    by : (space : List (List ℕ)) (kind : AstKind) → next_of_kind all space kind ≡ Some n → n < length all
    by space (decls.Alias ltype) same = alone-within all space (plain ltype) n same
    by space (decls.Interface listed) same = cc
    by space (decls.Streamlet listed) same = cc
    by space (decls.Impl target body) same = cc
    by space (decls.Test target port value plan) same = cc

-- one name fewer
next-is : (all : List Declaration) (less one n : ℕ) → next_of all one ≡ Some n → type_at all less one ≡ type_at all (less - 1) n
next-is all zero one n is = let same : zero ≡ zero - 1 = omega arith in ap (λ (k : ℕ). type_at all k n) same
next-is all (suc less) one n is =
    let d = declaration all one in
    let same : less ≡ suc less - 1 = omega arith in
    by d.space d.name d.kind is ∙ ap (λ (k : ℕ). type_at all k n) same
  where
    by : (space : List (List ℕ)) (name : AstName) (kind : AstKind) → next_of_kind all space kind ≡ Some n
        → type_by (meaning_of all less) (record { space = space; name = name; kind = kind }) ≡ type_at all less n
    by space name (decls.Alias ltype) same = alone-is all less space (plain ltype) n same
    by space name (decls.Interface listed) same = cc
    by space name (decls.Streamlet listed) same = cc
    by space name (decls.Impl target body) same = cc
    by space name (decls.Test target port value plan) same = cc

-- ---- tables

own-is : (all : List Declaration) (one : ℕ) (chain : Chain) → one < length all → chain.root ≡ one → chain.skipped ≡ 0 → IsChain all one chain
own-is all one chain within root skipped = record {
  within = subst (λ (k : ℕ). k < length all) (sym root) within;
  same = λ less. let left : less ≡ less - chain.skipped = omega (arith, skipped) in ap (λ (k : ℕ). type_at all k one) left ∙ ap (type_at all (less - chain.skipped)) (sym root);
}

link-is : (all : List Declaration) (one target : ℕ) (chain next : Chain) → next_of all one ≡ Some target → GoesOn chain next → IsChain all target next → IsChain all one chain
link-is all one target chain next names on is = record {
  within = subst (λ (k : ℕ). k < length all) (sym on.root) is.within;
  same = λ less.
      let left : less - 1 - next.skipped ≡ less - chain.skipped = omega (arith, on.skipped) in
      next-is all less one target names ∙ is.same (less - 1) ∙ ap (λ (k : ℕ). type_at all k next.root) left ∙ ap (type_at all (less - chain.skipped)) (sym on.root);
}

along : (all : List Declaration) (chains : List Chain) → AreLinks all chains (length all) → (skipped one : ℕ) → one < length all → (chain_at chains one).skipped ≡ skipped
    → IsChain all one (chain_at chains one)
along all chains links zero one within is = own-is all one (chain_at chains one) within ((links one within).own is) is
along all chains links (suc skipped) one within is =
    let next = (links one within).on (omega (arith, is)) in
    link-is all one next.target (chain_at chains one) (chain_at chains next.target) next.names next.on
    (along all chains links skipped next.target (next-within all one next.target next.names) (omega (arith, is, next.on.skipped)))

pub AreChains-links : (all : List Declaration) (chains : List Chain) → AreLinks all chains (length all) → AreChains all chains
AreChains-links all chains links = record { each = λ one within. along all chains links (chain_at chains one).skipped one within refl }

-- where nothing is passed over
pub AreChains-none : (all : List Declaration) → AreChains all []
AreChains-none all = record { each = λ one within. own-is all one (own_chain one) within refl refl }

-- ---- the type of a root

-- where no type leads to itself, the type of a declaration is that which its root gives a name to
pub root-is : (all : List Declaration) (chain : Chain) (one : ℕ) → AreAcyclic all → one < length all → IsChain all one chain
    → type_at all (length all) one ≡ type_at all (suc (length all)) chain.root
root-is all chain one acyclic within is =
    let left : chain.skipped + length all - chain.skipped ≡ length all = omega arith in
    sym (still-more all acyclic chain.skipped one within) ∙ is.same (chain.skipped + length all) ∙ ap (λ (k : ℕ). type_at all k chain.root) left
    ∙ sym (still all acyclic (length all) chain.root is.within (omega arith))
