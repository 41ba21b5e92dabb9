-- How the text of a project is read as the project, in plain data (this project's own).
use Rattle.std.specs.Prelude.{◌≡◌, ℕ, List, Result, Ok, Err}
use Rattle.til_parser.specs.declared.tree.Ast.{Ast}
use Rattle.til_resolve.specs.declared.fault.ResolveFault.{ResolveFault}
use Rattle.til_resolve.specs.Faults.{IsSound, IsToldOf}
use Rattle.til_resolve.specs.PlainProject.{PlainProject, project_of}
use Rattle.tydi_tool.specs.Reading.{ReadsBy, RefusesBy}
use Rattle.tydi_tool.specs.Refusals.{refusal_of_resolving}
use Rattle.tydi_tool.specs.Trees.{ReadsTree}

-- a tree without errors is its project; another is refused for its reported error
abbrev pub Resolves : List ℕ → Ast → Result PlainProject (List ℕ) → Type 0
Resolves word ast (Ok project) = IsSound ast × (project ≡ project_of ast)
Resolves word ast (Err line) = (fault : ResolveFault) × (IsToldOf ast fault × RefusesBy {X = PlainProject} (refusal_of_resolving word fault) (Err line))

-- the text of a project is read as the project
abbrev pub ReadsProject : List ℕ → List ℕ → Result PlainProject (List ℕ) → Type 0
ReadsProject word = ReadsBy (ReadsTree word) (Resolves word)
