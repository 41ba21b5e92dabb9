-- Texts of values, part after part.
use Rattle.std.proofs.Common.{◌≡◌, ◌∙◌, ℕ, zero, suc, ◌+◌, ◌-◌, ◌<◌, ◌≤◌, nat_lt, false, List, [], ◌∷◌, ◌++◌, length, map, get_or, drop, slice_get, Some, None, option_map, refl, sym, ap, append-nil, append_assoc, codes, arith}
use Rattle.std.proofs.lemmas.List.{drop_more, drop_all}
use Rattle.std.proofs.lemmas.Option.{slice_get-map}
use Rattle.std.specs.Prelude.{Bool}
use Rattle.logical_types.specs.declared.ltype.Part.{Part}
use Rattle.logical_types.specs.Tree.{Ltype, Parts, plain, plain_parts}
use Rattle.logical_types.specs.Tree as types
use Rattle.logical_types.proofs.PlainLemmas.{plain_parts-at, plain_parts-past}
use Rattle.logical_value.specs.Tree.{Tree, Trees, no_trees, tree}
use Rattle.logical_value.specs.Tree.{plain as plain_value, plain_values}
use Rattle.logical_value.specs.declared.value.Value.{Value}
use Rattle.logical_value.proofs.FitLemmas.{plain_values-at}
use Rattle.type_split.specs.Nodes.{StreamNode}
use Rattle.type_split.specs.Streams.{node_view}
use Rattle.type_split.specs.declared.split.Node.{Node}
use Rattle.tydi_base.specs.Hex.{no_ones}
use Rattle.tydi_base.specs.Numbers.{number_below}
use Rattle.tydi_base.specs.Path.{path_text}
use Rattle.logical_value.proofs.PlainLemmas.{trees_of-map}
use Rattle.std.proofs.lemmas.Bool.Decides.{nat_tests}
use Rattle.value_text.specs.Canonical.{element_text, fields_text, named_text, nest_text, nests_text, root_text, roots_text, short_number, variant_text}

-- two parts and what follows, behind what was there
two-parts : (old one other rest : List ℕ) → ((old ++ one) ++ other) ++ rest ≡ old ++ ((one ++ other) ++ rest)
two-parts old one other rest =
    append_assoc (old ++ one) other rest ∙ append_assoc old one (other ++ rest) ∙ ap (λ (l : List ℕ). old ++ l) (sym (append_assoc one other rest))

-- the same text behind what was there
pub behind : (new out old text all : List ℕ) → out ≡ old → text ≡ all → new ≡ out ++ text → new ≡ old ++ all
behind new out old text all kept same is = is ∙ ap (λ (l : List ℕ). l ++ text) kept ∙ ap (λ (l : List ℕ). old ++ l) same

-- ---- nests

pub nests-step : (text : Tree → List ℕ) (between before : List ℕ) (nests : List Value) (at : ℕ) (one : Value) (old mid new all : List ℕ)
    → at < length nests → one ≡ get_or nests at one → mid ≡ old ++ before → new ≡ mid ++ text (plain_value one)
    → old ++ nests_text text between before (plain_values (drop at nests)) ≡ all → new ++ nests_text text between between (plain_values (drop (at + 1) nests)) ≡ all
nests-step text between before nests at one old mid new all within is begun ended same =
    let rest = nests_text text between between (plain_values (drop (at + 1) nests)) in
    ap (λ (l : List ℕ). l ++ rest) (ended ∙ ap (λ (l : List ℕ). l ++ text (plain_value one)) begun) ∙ two-parts old before (text (plain_value one)) rest
    ∙ ap (λ vs. old ++ nests_text text between before vs) (sym (plain_values-at nests at one within is)) ∙ same

pub nests-past : (text : Tree → List ℕ) (between before : List ℕ) (nests : List Value) (at : ℕ) (old all : List ℕ) → length nests ≤ at
    → old ++ nests_text text between before (plain_values (drop at nests)) ≡ all → old ≡ all
nests-past text between before nests at old all done same =
    sym (append-nil old) ∙ ap (λ vs. old ++ nests_text text between before (plain_values vs)) (sym (drop_all at nests done)) ∙ same

-- ---- fields and variants

pub fields-step : (parts : List Part) (at : ℕ) (one : Part) (left more : List Value) (value : Value) (before old mid new all : List ℕ) → at < length parts → one ≡ get_or parts at one
    → left ≡ value ∷ more → mid ≡ old ++ (before ++ (one.name ++ codes ": ")) → new ≡ mid ++ element_text (plain one.ltype) (plain_value value)
    → old ++ fields_text before (plain_parts (drop at parts)) (plain_values left) ≡ all
    → new ++ fields_text (codes ", ") (plain_parts (drop (at + 1) parts)) (plain_values more) ≡ all
fields-step parts at one left more value before old mid new all within is begins begun ended same =
    let text = element_text (plain one.ltype) (plain_value value) in
    let rest = fields_text (codes ", ") (plain_parts (drop (at + 1) parts)) (plain_values more) in
    ap (λ (l : List ℕ). l ++ rest) (ended ∙ ap (λ (l : List ℕ). l ++ text) begun) ∙ two-parts old (before ++ (one.name ++ codes ": ")) text rest
    ∙ ap (λ (vs : List Value). old ++ fields_text before (types.part one.name (plain one.ltype) (plain_parts (drop (at + 1) parts))) (plain_values vs)) (sym begins)
    ∙ ap (λ ps. old ++ fields_text before ps (plain_values left)) (sym (plain_parts-at parts at one within is)) ∙ same

no_fields : (before : List ℕ) (parts : Parts) → fields_text before parts no_trees ≡ []
no_fields before types.no_parts = refl
no_fields before (types.part name ltype more) = refl

pub fields-few : (before : List ℕ) (parts : List Part) (at : ℕ) (left : List Value) (old all : List ℕ) → length left ≡ 0
    → old ++ fields_text before (plain_parts (drop at parts)) (plain_values left) ≡ all → old ≡ all
fields-few before parts at [] old all none same = sym (append-nil old) ∙ ap (λ (l : List ℕ). old ++ l) (sym (no_fields before (plain_parts (drop at parts)))) ∙ same
fields-few before parts at (one ∷ more) old all none same = absurd (omega (arith, none))

pub fields-past : (before : List ℕ) (parts : List Part) (at : ℕ) (left : Trees) (old all : List ℕ) → length parts ≤ at
    → old ++ fields_text before (plain_parts (drop at parts)) left ≡ all → old ≡ all
fields-past before parts at left old all done same =
    sym (append-nil old) ∙ ap (λ (l : List ℕ). old ++ l) (sym (none left)) ∙ ap (λ ps. old ++ fields_text before ps left) (sym (plain_parts-past parts at done)) ∙ same
  where
    none : (vs : Trees) → fields_text before types.no_parts vs ≡ []
    none no_trees = refl
    none (tree value others) = refl

pub variant-step : (parts : List Part) (at : ℕ) (one : Part) (left : ℕ) (value : Tree) (all : List ℕ) → at < length parts → one ≡ get_or parts at one → (left ≡ 0 → ⊥)
    → all ≡ variant_text (plain_parts (drop at parts)) left value → all ≡ variant_text (plain_parts (drop (at + 1) parts)) (left - 1) value
variant-step parts at one left value all within is some same =
    same ∙ ap (λ ps. variant_text ps left value) (plain_parts-at parts at one within is) ∙ next left some
  where
    next : (n : ℕ) → (n ≡ 0 → ⊥) → variant_text (types.part one.name (plain one.ltype) (plain_parts (drop (at + 1) parts))) n value
        ≡ variant_text (plain_parts (drop (at + 1) parts)) (n - 1) value
    next zero none = absurd (none refl)
    next (suc n) none = (let less : n ≡ suc n - 1 = omega arith in ap (λ (k : ℕ). variant_text (plain_parts (drop (at + 1) parts)) k value) less)

pub variant-found : (parts : List Part) (at : ℕ) (one : Part) (left : ℕ) (value : Tree) (all : List ℕ) → at < length parts → one ≡ get_or parts at one → left ≡ 0
    → all ≡ variant_text (plain_parts (drop at parts)) left value → named_text one.name (element_text (plain one.ltype) value) ≡ all
variant-found parts at one left value all within is none same =
    sym (same ∙ ap (λ ps. variant_text ps left value) (plain_parts-at parts at one within is)
    ∙ ap (λ (n : ℕ). variant_text (types.part one.name (plain one.ltype) (plain_parts (drop (at + 1) parts))) n value) none)

pub variant-past : (parts : List Part) (at left : ℕ) (value : Tree) (all old : List ℕ) → length parts ≤ at → all ≡ variant_text (plain_parts (drop at parts)) left value → old ≡ old ++ all
variant-past parts at left value all old done same =
    sym (append-nil old) ∙ ap (λ (l : List ℕ). old ++ l) (sym (same ∙ ap (λ ps. variant_text ps left value) (plain_parts-past parts at done)))

-- ---- words

pub number-short : (bits : List Bool) → length bits ≤ 128 → number_below 128 bits ≡ short_number bits
unfolding number_below no_ones
number-short bits few =
    let past : nat_lt 128 (length bits) ≡ false = grind (arith, nat_tests) in
    rw (drop_all 128 bits few, past) refl

-- ---- roots

pub root-written : (nodes : List Node) (number : ℕ) (node made : Node) (series : List Value) (depth : ℕ) (old one two new : List ℕ) → made ≡ node → Some node ≡ slice_get nodes number
    → depth ≡ made.params.dims → one ≡ old ++ (codes "root " ++ (path_text made.path ++ codes " = "))
    → two ≡ one ++ nests_text (nest_text (element_text (plain made.element.now)) depth) (codes " ") [] (plain_values series) → new ≡ two ++ codes ";\n"
    → new ≡ old ++ root_text (slice_get (map node_view nodes) number) (map plain_value series)
root-written nodes number node made series depth old one two new same found deep is_one is_two is_new =
    let text = nests_text (nest_text (element_text (plain made.element.now)) depth) (codes " ") [] (plain_values series) in
    let front = codes "root " ++ (path_text made.path ++ codes " = ") in
    is_new ∙ ap (λ (l : List ℕ). l ++ codes ";\n") (is_two ∙ ap (λ (l : List ℕ). l ++ text) is_one)
    ∙ append_assoc (old ++ front) text (codes ";\n") ∙ append_assoc old front (text ++ codes ";\n")
    ∙ ap (λ (d : ℕ). old ++ (front ++ (nests_text (nest_text (element_text (plain made.element.now)) d) (codes " ") [] (plain_values series) ++ codes ";\n"))) deep
    ∙ ap (λ vs. old ++ (front ++ (nests_text (nest_text (element_text (plain made.element.now)) made.params.dims) (codes " ") [] vs ++ codes ";\n"))) (sym (trees_of-map series))
    ∙ ap (λ (n : Node). old ++ root_text (Some (node_view n)) (map plain_value series)) same
    ∙ ap (λ o. old ++ root_text o (map plain_value series)) (ap (option_map node_view) found ∙ sym (slice_get-map node_view nodes number))

pub no_root-written : (nodes : List Node) (number : ℕ) (series : List Tree) (old : List ℕ) → None ≡ slice_get nodes number
    → old ≡ old ++ root_text (slice_get (map node_view nodes) number) series
no_root-written nodes number series old found =
    sym (append-nil old) ∙ ap (λ o. old ++ root_text o series) (ap (option_map node_view) found ∙ sym (slice_get-map node_view nodes number))

pub roots-few : (nodes : List StreamNode) (roots : List ℕ) (at : ℕ) (left : List (List Value)) (old all : List ℕ) → at < length roots → length left ≡ 0
    → old ++ roots_text nodes (drop at roots) (map (map plain_value) left) ≡ all → old ≡ all
roots-few nodes roots at [] old all within none same =
    sym (append-nil old) ∙ ap (λ (rs : List ℕ). old ++ roots_text nodes rs []) (sym (drop_more roots at 0 within)) ∙ same
roots-few nodes roots at (series ∷ more) old all within none same = absurd (omega (arith, none))
