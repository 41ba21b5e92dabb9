-- Ports that words name, and their splits.
use Rattle.std.proofs.Common.{◌≡◌, ℕ, ◌<◌, ◌≤◌, ◌⊎◌, inl, inr, Bool, true, false, cond, List, [], ◌∷◌, ◌++◌, length, Option, Some, None, option_map, option_and_then, Ok, Err, refl, sym, ap, ◌∙◌, arith, length-append}
use Rattle.std.proofs.lemmas.Bool.{lt-ltb}
use Rattle.std.specs.List.{join_with_byte}
use Rattle.tydi_base.proofs.PieceLaws.{join-pieces_of}
use Rattle.tydi_base.specs.Name.{is_name, name_of}
use Rattle.tydi_base.specs.Path.{path_at}
use Rattle.tydi_base.specs.Pieces.{pieces_of}
use Rattle.logical_types.specs.Tree.{Ltype}
use Rattle.til_resolve.specs.declared.project.Port.{Port}
use Rattle.til_resolve.specs.declared.project.Project.{Project}
use Rattle.til_resolve.specs.Lookups.{port_at}
use Rattle.til_resolve.specs.PlainProject.{HasPortTypes, PlainPort, PlainProject, plain_port, plain_port_at, plain_project}
use Rattle.til_resolve.specs.PortTypes.{IsPortType}
use Rattle.til_resolve.proofs.PlainProjectLemmas.{port-plain_at}
use Rattle.til_resolve.proofs.PortTypeLemmas.{found-valid}
use Rattle.type_split.specs.Nodes.{number_of_streams}
use Rattle.type_split.specs.Streams.{PlainSplit, clash_of, split_of}
use Rattle.type_split.proofs.CountLemmas.{streams-few}
use Rattle.split_text.specs.Text.{IsUpTo}
use Rattle.tydi_tool.specs.declared.answer.Answer.TheVariants as answers
use Rattle.tydi_tool.specs.Outcome.{output_answer, output_limit, output_too_long_line}
use Rattle.tydi_tool.specs.Ports.{path_by, port_named, port_path, split_at, split_found, split_unless, with_name}
use Rattle.tydi_tool.specs.Refusals.{name_clash, no_port}

-- ---- a text that is cut where it is too long

pub output_answer-front : (text front : List ℕ) → IsUpTo output_limit text front → output_answer front ≡ output_answer text
output_answer-front text front up = by up.ends
  where
    append_nil : (l : List ℕ) → l ++ [] ≡ l
    append_nil [] = refl
    append_nil (x ∷ l) = ap (λ (k : List ℕ). x ∷ k) (append_nil l)

    by : (up.rest ≡ []) ⊎ (output_limit < length front) → output_answer front ≡ output_answer text
    by (inl none) = ap output_answer (sym (up.whole ∙ ap (λ (l : List ℕ). front ++ l) none ∙ append_nil front))
    by (inr long) =
        let longer : output_limit < length text = omega (arith, long, ap length up.whole, length-append front up.rest) in
        ap (λ b. cond b (answers.Refused output_too_long_line) (answers.Done front)) (lt-ltb output_limit (length front) long)
        ∙ sym (ap (λ b. cond b (answers.Refused output_too_long_line) (answers.Done text)) (lt-ltb output_limit (length text) longer))

-- ---- the words of ports

pub port-word : (word front back : List ℕ) → pieces_of 46 word ≡ front ∷ pieces_of 46 back → port_path word ≡ with_name (path_at true front) back
port-word word front back is = ap path_by is ∙ by (pieces_of 46 back) (join-pieces_of 46 back)
  where
    nothing : (found : Option (List (List ℕ))) → None ≡ with_name found []
    nothing None = refl
    nothing (Some names) = refl

    by : (pieces : List (List ℕ)) → join_with_byte 46 pieces ≡ back → path_by (front ∷ pieces) ≡ with_name (path_at true front) back
    by [] joined = nothing (path_at true front) ∙ ap (with_name (path_at true front)) joined
    by (next ∷ more) joined = ap (with_name (path_at true front)) joined

pub port-no_word : (word : List ℕ) → pieces_of 46 word ≡ word ∷ [] → None ≡ port_path word
port-no_word word is = sym (ap path_by is)

pub no-path : (found : Option (List (List ℕ))) (name : List ℕ) → found ≡ None → None ≡ with_name found name
no-path found name is = sym (ap (λ (o : Option (List (List ℕ))). with_name o name) is)

by_name : (names : List (List ℕ)) (name : List ℕ) (found : Option (List ℕ)) → found ≡ name_of name → with_name (Some names) name ≡ option_map (λ (n : List ℕ). names ++ n ∷ []) found
by_name names name found is = by (is_name name) ∙ ap (option_map (λ (n : List ℕ). names ++ n ∷ [])) (sym is)
  where
    by : (b : Bool) → cond b (Some (names ++ name ∷ [])) None ≡ option_map (λ (n : List ℕ). names ++ n ∷ []) (cond b (Some name) None)
    by true = refl
    by false = refl

pub no-name : (found : Option (List (List ℕ))) (names : List (List ℕ)) (name : List ℕ) → found ≡ Some names → None ≡ name_of name → None ≡ with_name found name
no-name found names name is none = sym (ap (λ (o : Option (List (List ℕ))). with_name o name) is ∙ by_name names name None none)

pub some-name : (found : Option (List (List ℕ))) (names new : List (List ℕ)) (text name : List ℕ) → found ≡ Some names → Some name ≡ name_of text → new ≡ names ++ name ∷ [] → Some new ≡ with_name found text
some-name found names new text name is some grown =
    sym (ap (λ (o : Option (List (List ℕ))). with_name o text) is ∙ by_name names text (Some name) some ∙ ap (λ (l : List (List ℕ)). Some l) (sym grown))

-- ---- the type of a port

pub few-of : (ltype : Ltype) → IsPortType ltype → number_of_streams ltype ≤ 65536
few-of ltype is = omega (arith, streams-few ltype, is.few)

-- ---- the port of a project

-- the port that a look-up by the path of a word finds
pub port_named-at : (project : Project) (word : List ℕ) (path : List (List ℕ)) (found : Option Port) → port_path word ≡ Some path → found ≡ port_at project.streamlets path
    → port_named (plain_project project) word ≡ option_map plain_port found
port_named-at project word path found is same =
    ap (option_and_then (plain_port_at (plain_project project).streamlets)) is ∙ sym (port-plain_at project path) ∙ ap (option_map plain_port) (sym same)

-- a word that is no path names none
pub port_named-none : (project : PlainProject) (word : List ℕ) → port_path word ≡ None → port_named project word ≡ None
port_named-none project word is = ap (option_and_then (plain_port_at project.streamlets)) is

-- the type of a port that is named
pub port_named-type : (project : PlainProject) (word : List ℕ) (path : List (List ℕ)) (port : PlainPort) → HasPortTypes project → port_path word ≡ Some path → port_named project word ≡ Some port
    → IsPortType port.ltype
port_named-type project word path port types is found =
    found-valid project path port types (sym (ap (option_and_then (plain_port_at project.streamlets)) is) ∙ found)

-- ---- its split

pub split_at-none : (project : PlainProject) (word : List ℕ) → port_named project word ≡ None → split_at project word ≡ Err (no_port word)
split_at-none project word is = ap (split_found word) is

pub split_at-some : (project : PlainProject) (word : List ℕ) (port : PlainPort) → port_named project word ≡ Some port → split_at project word ≡ split_unless port.ltype (clash_of port.ltype)
split_at-some project word port is = ap (split_found word) is

pub split_unless-none : (ltype : Ltype) (split : PlainSplit) → split ≡ split_of ltype → clash_of ltype ≡ None → split_unless ltype (clash_of ltype) ≡ Ok split
split_unless-none ltype split is apart = ap (split_unless ltype) apart ∙ ap (λ (s : PlainSplit). Ok s) (sym is)

pub split_unless-clash : (ltype : Ltype) (path : List (List ℕ)) → clash_of ltype ≡ Some path → split_unless ltype (clash_of ltype) ≡ Err (name_clash path)
split_unless-clash ltype path is = ap (split_unless ltype) is
