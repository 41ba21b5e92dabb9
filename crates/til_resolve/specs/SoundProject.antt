-- The properties of the project of a tree without errors, stated of its plain data alone. This project's own.
use Rattle.std.specs.Prelude.{◌≡◌, ℕ, ◌<◌, false, List, [], length, slice_get, Option, Some, None, Contains}
use Rattle.std.specs.Str.{str_eq_ignore_ascii_case}
use Rattle.til_resolve.specs.Cycles.{LeadsTo}
use Rattle.til_resolve.specs.PlainProject.{HasPortTypes, PlainPort, PlainProject, PlainStreamlet}
use Rattle.til_resolve.specs.declared.project.Impl.{Impl}
use Rattle.til_resolve.specs.declared.project.Impl.TheVariants as impls
use Rattle.til_resolve.specs.declared.project.Instance.{Instance}
use Rattle.til_resolve.specs.declared.project.Test.{Test}

-- no two of a list have one key
abbrev pub AreDistinct : {A K : Type 0} → (A → K) → List A → Type 0
AreDistinct {A} key all = (i j : ℕ) (one other : A) → slice_get all i ≡ Some one → slice_get all j ≡ Some other → key one ≡ key other → i ≡ j

-- no two ports have one name, when case is ignored
abbrev pub ArePortsApart : List PlainPort → Type 0
ArePortsApart ports = (i j : ℕ) (one other : PlainPort) → i < j → slice_get ports i ≡ Some one → slice_get ports j ≡ Some other → str_eq_ignore_ascii_case one.name other.name ≡ false

-- the instances of an implementation, if there is one
abbrev pub instances_inside : Option Impl → List Instance
instances_inside None = []
instances_inside (Some (impls.Linked text)) = []
instances_inside (Some (impls.Structural place instances links)) = instances

-- the streamlet and the port that a test drives are there
pub record DrivesPort (project : PlainProject) (test : Test) : Type 0 where
  pub streamlet : PlainStreamlet
  pub at : slice_get project.streamlets test.streamlet ≡ Some streamlet
  pub port : PlainPort
  pub inside : Contains streamlet.ports port
  pub named : port.name ≡ test.port

-- a streamlet has an instance of another; both by their numbers in the project
pub record HasInstanceOf (project : PlainProject) (one other : ℕ) : Type 0 where
  pub streamlet : PlainStreamlet
  pub at : slice_get project.streamlets one ≡ Some streamlet
  pub instance : Instance
  pub inside : Contains (instances_inside streamlet.body) instance
  pub of_it : instance.streamlet ≡ other

-- the names inside a streamlet are apart: those of its ports, those of the instances of its implementation, and the one from the other
pub record HasNamesApart (streamlet : PlainStreamlet) : Type 0 where
  pub ports : ArePortsApart streamlet.ports
  pub instances : AreDistinct (λ (one : Instance). one.name) (instances_inside streamlet.body)
  pub apart : (instance : Instance) (port : PlainPort) → Contains (instances_inside streamlet.body) instance → Contains streamlet.ports port → port.name ≡ instance.name → ⊥

-- a project that stands: its ports have valid types, each test drives a port that is there, each instance is of a streamlet that
-- is there, no streamlet contains itself, no two streamlets and no two tests have one path, and the names inside each streamlet are apart
pub record IsSoundProject (project : PlainProject) : Type 0 where
  pub types : HasPortTypes project
  pub tests : (test : Test) → Contains project.tests test → DrivesPort project test
  pub instances : (one other : ℕ) → HasInstanceOf project one other → other < length project.streamlets
  pub ends : (one : ℕ) → LeadsTo (HasInstanceOf project) one one → ⊥
  pub streamlet_paths : AreDistinct (λ (one : PlainStreamlet). one.path) project.streamlets
  pub test_paths : AreDistinct (λ (one : Test). one.path) project.tests
  pub names : (streamlet : PlainStreamlet) → Contains project.streamlets streamlet → HasNamesApart streamlet
