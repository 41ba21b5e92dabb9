-- The plain data of a project is that of its tree, and has its ports.
use Rattle.std.proofs.Common.{◌≡◌, ℕ, Bool, true, false, cond, List, [], ◌∷◌, ◌++◌, map, find, Option, Some, None, option_map, refl, ap, ◌∙◌}
use Rattle.til_parser.specs.declared.tree.Ast.{Ast}
use Rattle.til_resolve.specs.Declarations.{Declaration, PortOf, declaration, declarations, ports_of}
use Rattle.til_resolve.specs.Lookups.{or_else, port_at, port_in}
use Rattle.til_resolve.specs.Paths.{is_same_path}
use Rattle.til_resolve.specs.PlainProject.{PlainPort, plain_port, plain_port_at, plain_port_in, plain_project, plain_streamlet, plain_streamlet_at, port_from, project_of, streamlet_from}
use Rattle.til_resolve.specs.Project.{IsPortOf, IsProjectOf, IsStreamletOf, Pairwise, streamlet_numbers}
use Rattle.til_resolve.specs.declared.project.Port.{Port}
use Rattle.til_resolve.specs.declared.project.Project.{Project}
use Rattle.til_resolve.specs.declared.project.Streamlet.{Streamlet}

-- ---- the project of a tree

module _ (all : List Declaration) where
  port-plain : (one : PortOf) (port : Port) → IsPortOf all one port → plain_port port ≡ port_from all one
  port-plain one port is = let name = is.name_is in let inward = is.inward_is in let ltype = is.type_is in cc

  ports-plain : (ones : List PortOf) (ports : List Port) → Pairwise (IsPortOf all) ones ports → map plain_port ports ≡ map (port_from all) ones
  ports-plain [] [] pairs = refl
  ports-plain [] (port ∷ ports) pairs = absurd pairs
  ports-plain (one ∷ ones) [] pairs = absurd pairs
  ports-plain (one ∷ ones) (port ∷ ports) pairs = let first = port-plain one port pairs.0 in let rest = ports-plain ones ports pairs.1 in cc

  streamlet-plain : (number : ℕ) (streamlet : Streamlet) → IsStreamletOf all number streamlet → plain_streamlet streamlet ≡ streamlet_from all number
  streamlet-plain number streamlet is =
      let path = is.path_is in let ports = ports-plain (ports_of all (declaration all number)) streamlet.ports is.ports_are in let body = is.body_is in cc

  streamlets-plain : (numbers : List ℕ) (streamlets : List Streamlet) → Pairwise (IsStreamletOf all) numbers streamlets → map plain_streamlet streamlets ≡ map (streamlet_from all) numbers
  streamlets-plain [] [] pairs = refl
  streamlets-plain [] (streamlet ∷ streamlets) pairs = absurd pairs
  streamlets-plain (number ∷ numbers) [] pairs = absurd pairs
  streamlets-plain (number ∷ numbers) (streamlet ∷ streamlets) pairs =
      let first = streamlet-plain number streamlet pairs.0 in let rest = streamlets-plain numbers streamlets pairs.1 in cc

pub project-plain : (ast : Ast) (project : Project) → IsProjectOf ast project → plain_project project ≡ project_of ast
project-plain ast project is =
    let streamlets = streamlets-plain (declarations ast) (streamlet_numbers (declarations ast)) project.streamlets is.streamlets_are in let tests = is.tests_are in cc

-- ---- its ports

module _ (path : List (List ℕ)) where
  in-plain : (front : List (List ℕ)) (ports : List Port)
      → option_map plain_port (find (λ port. is_same_path (front ++ port.name ∷ []) path) ports) ≡ find (λ (port : PlainPort). is_same_path (front ++ port.name ∷ []) path) (map plain_port ports)
  in-plain front [] = refl
  in-plain front (port ∷ ports) = by (is_same_path (front ++ port.name ∷ []) path) (in-plain front ports)
    where
      by : (b : Bool)
          → option_map plain_port (find (λ port. is_same_path (front ++ port.name ∷ []) path) ports) ≡ find (λ (port : PlainPort). is_same_path (front ++ port.name ∷ []) path) (map plain_port ports)
          → option_map plain_port (cond b (Some port) (find (λ port. is_same_path (front ++ port.name ∷ []) path) ports))
          ≡ cond b (Some (plain_port port)) (find (λ (port : PlainPort). is_same_path (front ++ port.name ∷ []) path) (map plain_port ports))
      by true rest = refl
      by false rest = rest

  mapped-or_else : (one other : Option Port) → option_map plain_port (or_else one other) ≡ or_else (option_map plain_port one) (option_map plain_port other)
  mapped-or_else None other = refl
  mapped-or_else (Some one) other = refl

  at-plain : (streamlets : List Streamlet) → option_map plain_port (port_at streamlets path) ≡ plain_port_at (map plain_streamlet streamlets) path
  at-plain [] = refl
  at-plain (streamlet ∷ more) =
      mapped-or_else (port_in streamlet path) (port_at more path)
      ∙ ap (λ (o : Option PlainPort). or_else o (option_map plain_port (port_at more path))) (in-plain streamlet.path streamlet.ports)
      ∙ ap (λ (o : Option PlainPort). or_else (plain_port_in (plain_streamlet streamlet) path) o) (at-plain more)

pub port-plain_at : (project : Project) (path : List (List ℕ)) → option_map plain_port (port_at project.streamlets path) ≡ plain_port_at (plain_project project).streamlets path
port-plain_at project path = at-plain path project.streamlets

-- ---- its streamlets

pub streamlet-plain_at : (streamlets : List Streamlet) (path : List (List ℕ))
    → option_map plain_streamlet (find (λ (one : Streamlet). is_same_path one.path path) streamlets) ≡ plain_streamlet_at (map plain_streamlet streamlets) path
streamlet-plain_at [] path = refl
streamlet-plain_at (streamlet ∷ more) path = by (is_same_path streamlet.path path) (streamlet-plain_at more path)
  where
    by : (b : Bool) → option_map plain_streamlet (find (λ (one : Streamlet). is_same_path one.path path) more) ≡ plain_streamlet_at (map plain_streamlet more) path
        → option_map plain_streamlet (cond b (Some streamlet) (find (λ (one : Streamlet). is_same_path one.path path) more))
        ≡ cond b (Some (plain_streamlet streamlet)) (plain_streamlet_at (map plain_streamlet more) path)
    by true rest = refl
    by false rest = rest
