-- Type declarations that only name another type, passed over. It serves the search for types that have a fault, and no public clause.
use Rattle.std.specs.Prelude.{◌≡◌, ℕ, ◌+◌, ◌-◌, ◌^◌, ◌<◌, min, List, length, slice_index_or, Option, Some, None}
use Rattle.til_parser.specs.declared.tree.AstKind.{AstKind}
use Rattle.til_parser.specs.declared.tree.AstKind.TheVariants as decls
use Rattle.til_parser.specs.Tree as tree
use Rattle.til_parser.specs.Tree.{plain}
use Rattle.til_resolve.specs.declared.chains.Chain.{Chain}
use Rattle.til_resolve.specs.Declarations.{Declaration, declaration, named_as, is_type}
use Rattle.til_resolve.specs.Shapes.{type_at}

-- a declaration that passes over none
abbrev pub own_chain : ℕ → Chain
own_chain one = record { root = one; skipped = 0 }

abbrev pub chain_at : List Chain → ℕ → Chain
chain_at chains one = slice_index_or chains one (own_chain one)

-- a declaration's type is that of its root, with as many names fewer replaced as stand between the two
pub record IsChain (all : List Declaration) (one : ℕ) (chain : Chain) : Type 0 where
  pub within : chain.root < length all
  pub same : (less : ℕ) → type_at all less one ≡ type_at all (less - chain.skipped) chain.root

-- a table has a chain of each declaration
pub record AreChains (all : List Declaration) (chains : List Chain) : Type 0 where
  pub each : (one : ℕ) → one < length all → IsChain all one (chain_at chains one)

-- ---- how it is made

-- a chain with one name more before it
abbrev pub with_one_more : Chain → Chain
with_one_more chain = record { root = chain.root; skipped = min (chain.skipped + 1) (2 ^ 64 - 1) }

-- the chain of a declaration that only names this other one, or is its own root
abbrev pub chain_from : List Chain → ℕ → Option ℕ → Chain
chain_from chains one (Some target) = with_one_more (chain_at chains target)
chain_from chains one None = own_chain one

-- ---- the tests

-- the number of the type declaration that a type written in a namespace names, if it is only a path
abbrev pub named_alone : List Declaration → List (List ℕ) → tree.Ltype → Option ℕ
named_alone all space tree.null = None
named_alone all space (tree.bits width) = None
named_alone all space (tree.group parts) = None
named_alone all space (tree.union parts) = None
named_alone all space (tree.stream element user settings) = None
named_alone all space (tree.path names) = named_as is_type all space (record { names = names })

abbrev pub next_of_kind : List Declaration → List (List ℕ) → AstKind → Option ℕ
next_of_kind all space (decls.Alias ltype) = named_alone all space (plain ltype)
next_of_kind all space (decls.Interface listed) = None
next_of_kind all space (decls.Streamlet listed) = None
next_of_kind all space (decls.Impl target body) = None
next_of_kind all space (decls.Test target port value plan) = None

-- the number of the type declaration that a declaration only names
abbrev pub next_of : List Declaration → ℕ → Option ℕ
next_of all one = next_of_kind all (declaration all one).space (declaration all one).kind

-- a chain is another with one name more before it
pub record GoesOn (chain next : Chain) : Type 0 where
  pub root : chain.root ≡ next.root
  pub skipped : chain.skipped ≡ next.skipped + 1

-- an entry of a table goes on that of the declaration that is only named
pub record FollowsNext (all : List Declaration) (chains : List Chain) (one : ℕ) : Type 0 where
  pub target : ℕ
  pub names : next_of all one ≡ Some target
  pub on : GoesOn (chain_at chains one) (chain_at chains target)

-- an entry of a table is the declaration's own, or follows the next one
pub record IsLink (all : List Declaration) (chains : List Chain) (one : ℕ) : Type 0 where
  pub own : (chain_at chains one).skipped ≡ 0 → (chain_at chains one).root ≡ one
  pub on : 0 < (chain_at chains one).skipped → FollowsNext all chains one

abbrev pub AreLinks : List Declaration → List Chain → ℕ → Type 0
AreLinks all chains end = (one : ℕ) → one < end → IsLink all chains one
