-- The laws of the errors of trees, of their projects, and of the types of ports.
use Rattle.std.specs.Prelude.{◌≡◌, ℕ, List, Some, find, option_map}
use Rattle.til_parser.specs.declared.tree.Ast.{Ast}
use Rattle.til_parser.specs.Laws.{IsTreeOf}
use Rattle.til_resolve.specs.declared.fault.ResolveFault.{ResolveFault}
use Rattle.til_resolve.specs.declared.project.Project.{Project}
use Rattle.til_resolve.specs.declared.project.Streamlet.{Streamlet}
use Rattle.til_resolve.specs.declared.project.Test.{Test}
use Rattle.til_resolve.specs.Faults.{IsToldOf, IsSound}
use Rattle.til_resolve.specs.Lookups.{port_at}
use Rattle.til_resolve.specs.Paths.{is_same_path}
use Rattle.til_resolve.specs.PlainProject.{HasPortTypes, PlainPort, PlainProject, plain_port, plain_port_at, plain_project, plain_streamlet, plain_streamlet_at, plain_test_at, project_of}
use Rattle.til_resolve.specs.PortTypes.{IsPortType}
use Rattle.til_resolve.specs.Project.{IsProjectOf}
use Rattle.til_resolve.specs.SoundProject.{IsSoundProject}

-- the tree of a text has at most one reported error
abbrev pub OneFaultIsTold : Type 0
OneFaultIsTold = (text : List ℕ) (ast : Ast) (one other : ResolveFault) → IsTreeOf text ast → IsToldOf ast one → IsToldOf ast other → one ≡ other

-- a tree without a reported error has no error
abbrev pub SomeFaultIsTold : Type 0
SomeFaultIsTold = (ast : Ast) → ((fault : ResolveFault) → IsToldOf ast fault → ⊥) → IsSound ast

-- the plain data of a project is that of its tree
abbrev pub ProjectsAreOfTrees : Type 0
ProjectsAreOfTrees = (ast : Ast) (project : Project) → IsProjectOf ast project → plain_project project ≡ project_of ast

-- and a port is found in a project exactly where it is found in the plain data, as the same port
abbrev pub PortsAreFound : Type 0
PortsAreFound = (project : Project) (path : List (List ℕ)) → option_map plain_port (port_at project.streamlets path) ≡ plain_port_at (plain_project project).streamlets path

-- and so are streamlets and tests by their paths
abbrev pub StreamletsAreFound : Type 0
StreamletsAreFound = (project : Project) (path : List (List ℕ)) →
    option_map plain_streamlet (find (λ (one : Streamlet). is_same_path one.path path) project.streamlets) ≡ plain_streamlet_at (plain_project project).streamlets path

abbrev pub TestsAreFound : Type 0
TestsAreFound = (project : Project) (path : List (List ℕ)) → find (λ (one : Test). is_same_path one.path path) project.tests ≡ plain_test_at (plain_project project).tests path

-- the project of a tree without faults stands
abbrev pub SoundProjects : Type 0
SoundProjects = (ast : Ast) → IsSound ast → IsSoundProject (project_of ast)

-- the types of ports in a tree without faults are valid, and of 65,536 nodes at most
abbrev pub PortTypesAreValid : Type 0
PortTypesAreValid = (ast : Ast) → IsSound ast → HasPortTypes (project_of ast)

-- and so is that of each port that is found
abbrev pub FoundPortsAreValid : Type 0
FoundPortsAreValid = (project : PlainProject) (path : List (List ℕ)) (port : PlainPort) → HasPortTypes project → plain_port_at project.streamlets path ≡ Some port → IsPortType port.ltype
