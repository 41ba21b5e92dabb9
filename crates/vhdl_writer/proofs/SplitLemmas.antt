-- The types of a project's ports, one by one.
use Rattle.std.proofs.Common.{◌≡◌, ℕ, ◌<◌, ◌≤◌, List, map, length, get_or, sym, ap, ◌∙◌, subst, arith}
use Rattle.std.specs.List.{All}
use Rattle.std.proofs.lemmas.List.{get_or_default, length-map}
use Rattle.std.proofs.Math.ListN.{get_or-map}
use Rattle.logical_types.specs.Tree.{Ltype}
use Rattle.til_resolve.specs.PlainProject.{HasPortTypes, PlainProject, PlainStreamlet}
use Rattle.til_resolve.specs.PortTypes.{IsPortType}
use Rattle.type_split.specs.Nodes.{number_of_streams}
use Rattle.type_split.proofs.CountLemmas.{streams-few}
use Rattle.vhdl_writer.specs.Clashing.{HavePortTypes}

-- a fact of each mapped thing, at one of them
pub at-item : {A B : Type 0} (Good : B → Type 0) (change : A → B) (xs : List A) (i : ℕ) (x : A) → All Good (map change xs) → i < length xs → x ≡ get_or xs i x → Good (change x)
at-item Good change xs i x all within is =
    subst Good (get_or-map change xs i x ∙ ap change (sym is)) (all i (change x) (let long = length-map xs change in omega (arith, within, long)))

-- the types of all ports of a project
pub types-of : (project : PlainProject) → HasPortTypes project → All (λ (one : PlainStreamlet). HavePortTypes one.ports) project.streamlets
types-of project types = λ i one within. λ j port inside.
    types.each (get_or project.streamlets i one) (get_or (get_or project.streamlets i one).ports j port) (i, within, again project.streamlets i one within)
    (j, inside, again (get_or project.streamlets i one).ports j port inside)
  where
    again : {A : Type 0} (xs : List A) (i : ℕ) (d : A) → i < length xs → get_or xs i (get_or xs i d) ≡ get_or xs i d
    again xs i d within = get_or_default xs i (get_or xs i d) d within

pub few-of : (ltype : Ltype) → IsPortType ltype → number_of_streams ltype ≤ 65536
few-of ltype is = omega (arith, streams-few ltype, is.few)
