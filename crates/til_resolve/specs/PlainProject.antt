-- A project as plain data, apart from where its types lie in memory; and the project of a tree, as a function of the tree. This
-- project's own.
use Rattle.std.specs.Prelude.{ℕ, Bool, List, [], ◌∷◌, ◌++◌, map, find, Option, None, Contains}
use Rattle.til_parser.specs.declared.tree.Ast.{Ast}
use Rattle.logical_types.specs.Tree.{Ltype, plain_of_stream}
use Rattle.til_resolve.specs.Declarations.{Declaration, PortOf, declaration, declarations, path_of, ports_of}
use Rattle.til_resolve.specs.Lookups.{or_else}
use Rattle.til_resolve.specs.Paths.{is_same_path}
use Rattle.til_resolve.specs.PortTypes.{IsPortType, type_of_port}
use Rattle.til_resolve.specs.Project.{body_of, streamlet_numbers, tests_in}
use Rattle.til_resolve.specs.declared.project.Project.{Project}
use Rattle.til_resolve.specs.declared.project.Streamlet.{Streamlet}
use Rattle.til_resolve.specs.declared.project.Port.{Port}
use Rattle.til_resolve.specs.declared.project.Impl.{Impl}
use Rattle.til_resolve.specs.declared.project.Test.{Test}

-- a port, with the plain data of its type
pub record PlainPort : Type 0 where
  pub name : List ℕ
  pub inward : Bool
  pub ltype : Ltype

pub record PlainStreamlet : Type 0 where
  pub path : List (List ℕ)
  pub ports : List PlainPort
  pub body : Option Impl

pub record PlainProject : Type 0 where
  pub streamlets : List PlainStreamlet
  pub tests : List Test

-- ---- the plain data of a project

abbrev pub plain_port : Port → PlainPort
plain_port port = record { name = port.name; inward = port.inward; ltype = plain_of_stream port.ltype.value }

abbrev pub plain_streamlet : Streamlet → PlainStreamlet
plain_streamlet streamlet = record { path = streamlet.path; ports = map plain_port streamlet.ports; body = streamlet.body }

abbrev pub plain_project : Project → PlainProject
plain_project project = record { streamlets = map plain_streamlet project.streamlets; tests = project.tests }

-- ---- the project of a tree

-- the port that a written one is
abbrev pub port_from : List Declaration → PortOf → PlainPort
port_from all one = record { name = one.port.name.name; inward = one.port.inward; ltype = type_of_port all one }

-- the streamlet that the declaration of a number is
abbrev pub streamlet_from : List Declaration → ℕ → PlainStreamlet
streamlet_from all number = record {
  path = path_of (declaration all number);
  ports = map (port_from all) (ports_of all (declaration all number));
  body = body_of all number;
}

-- its streamlets and its tests, in text order
abbrev pub project_of : Ast → PlainProject
project_of ast = record {
  streamlets = map (streamlet_from (declarations ast)) (streamlet_numbers (declarations ast));
  tests = tests_in (declarations ast) (declarations ast);
}

-- ---- its ports

-- the first port of a streamlet that has this path, which is the streamlet's path and then the port's name
abbrev pub plain_port_in : PlainStreamlet → List (List ℕ) → Option PlainPort
plain_port_in streamlet path = find (λ port. is_same_path (streamlet.path ++ port.name ∷ []) path) streamlet.ports

-- the first port of all streamlets that has this path
abbrev pub plain_port_at : List PlainStreamlet → List (List ℕ) → Option PlainPort
plain_port_at [] path = None
plain_port_at (streamlet ∷ more) path = or_else (plain_port_in streamlet path) (plain_port_at more path)

-- the first streamlet, and the first test, of a path
abbrev pub plain_streamlet_at : List PlainStreamlet → List (List ℕ) → Option PlainStreamlet
plain_streamlet_at streamlets path = find (λ one. is_same_path one.path path) streamlets

abbrev pub plain_test_at : List Test → List (List ℕ) → Option Test
plain_test_at tests path = find (λ one. is_same_path one.path path) tests

-- all ports have types as trees without faults give them
pub record HasPortTypes (project : PlainProject) : Type 0 where
  pub each : (streamlet : PlainStreamlet) (port : PlainPort) → Contains project.streamlets streamlet → Contains streamlet.ports port → IsPortType port.ltype
