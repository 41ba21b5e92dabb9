-- Types that lead to themselves, and streamlets that contain themselves. This project's own.
use Rattle.std.specs.Prelude.{◌≡◌, ◌<◌, ℕ, List, [], ◌∷◌, map, length, Contains, Some}
use Rattle.til_parser.specs.declared.tree.AstKind.{AstKind}
use Rattle.til_parser.specs.declared.tree.AstKind.TheVariants as decls
use Rattle.til_parser.specs.declared.tree.AstPath.{AstPath}
use Rattle.til_parser.specs.Tree.{plain}
use Rattle.til_resolve.specs.Declarations.{Declaration, declaration, named_as, is_type, is_streamlet}
use Rattle.til_resolve.specs.Names.{paths_in, implements, instances_of}

-- one leads to another by a way of steps: at once, or through those on the way
abbrev pub ByWay : {A : Type 0} → (A → A → Type 0) → A → List A → A → Type 0
ByWay Step from [] to = Step from to
ByWay Step from (next ∷ more) to = Step from next × ByWay Step next more to

abbrev pub LeadsTo : {A : Type 0} → (A → A → Type 0) → A → A → Type 0
LeadsTo {A} Step from to = (way : List A) × ByWay Step from way to

-- the paths in the type of a type declaration
abbrev pub paths_of_alias : AstKind → List AstPath
paths_of_alias (decls.Alias ltype) = paths_in (plain ltype)
paths_of_alias (decls.Interface listed) = []
paths_of_alias (decls.Streamlet listed) = []
paths_of_alias (decls.Impl target body) = []
paths_of_alias (decls.Test target port value plan) = []

-- a path in a type declaration names another; both by their numbers
pub record NamesType (all : List Declaration) (one other : ℕ) : Type 0 where
  pub path : AstPath
  pub written : Contains (paths_of_alias (declaration all one).kind) path
  pub names : named_as is_type all (declaration all one).space path ≡ Some other

-- a type declaration leads to itself
abbrev pub IsCyclicType : List Declaration → ℕ → Type 0
IsCyclicType all one = LeadsTo (NamesType all) one one

-- the paths after the instances of an `impl`
abbrev pub paths_of_instances : AstKind → List AstPath
paths_of_instances (decls.Alias ltype) = []
paths_of_instances (decls.Interface listed) = []
paths_of_instances (decls.Streamlet listed) = []
paths_of_instances (decls.Impl target body) = map (λ one. one.streamlet) (instances_of body)
paths_of_instances (decls.Test target port value plan) = []

-- an `impl` of the one streamlet has an instance of the other; all by their numbers
pub record ContainsStreamlet (all : List Declaration) (one other : ℕ) : Type 0 where
  pub implementation : ℕ
  pub within : implementation < length all
  pub implements : implements all (declaration all implementation) ≡ Some one
  pub path : AstPath
  pub written : Contains (paths_of_instances (declaration all implementation).kind) path
  pub names : named_as is_streamlet all (declaration all implementation).space path ≡ Some other
