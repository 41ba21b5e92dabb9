-- Generated values fit the split that they are made for.
use Rattle.std.proofs.Common.{◌≡◌, ◌∙◌, ℕ, zero, suc, ◌+◌, ◌*◌, ◌/◌, ◌<◌, Bool, true, false, ◌==◌, cond, List, [], ◌∷◌, ◌++◌, All, append_assoc, append-nil, length, map, take, drop, if◌then◌else◌, slice_get, Some, refl, sym, ap, subst, arith}
use Rattle.std.proofs.lemmas.Bool.{and_from}
use Rattle.std.proofs.lemmas.Bool.Decides.{nat_tests}
use Rattle.std.proofs.lemmas.List.{length-append, length-take}
use Rattle.std.proofs.lemmas.List.Elements.{All-append, All-cons, All-head, All-nil, All-tail}
use native.Mathlib.Nat.{mod-lt}
use Rattle.tydi_base.specs.Bits.{bits_of}
use Rattle.tydi_base.proofs.BitsLemmas.{length-bits_of}
use Rattle.logical_types.specs.Faults.{ArePlain, IsPlain, is_too_wide}
use Rattle.logical_types.specs.declared.fault.TypeFault.{TypeFault}
use Rattle.logical_types.specs.declared.fault.TypeFault.TheVariants as faults
use Rattle.logical_types.specs.Synchronicity.{is_apart}
use Rattle.logical_types.specs.Tree.{Ltype, Parts, number_of_parts}
use Rattle.logical_types.specs.Tree as types
use Rattle.logical_types.proofs.PlainTypes.{ArePlain-group, ArePlain-union, IsPlain-first, IsPlain-inside}
use Rattle.logical_value.specs.Fits.{all_pass, fit_fields, fit_roots, fits_element, fits_series, fits_split, fits_variant, is_nest, stands_apart}
use Rattle.logical_value.specs.Tree.{Tree, plain, plain_values}
use Rattle.logical_value.specs.declared.value.Value.{Value}
use Rattle.logical_value.specs.declared.value.Value.TheVariants as values
use Rattle.logical_value.proofs.PlainLemmas.{plain-Apart, plain-Group, plain-List, plain-Null, plain-Union, plain-Word, trees_of-map}
use Rattle.type_split.specs.Elements.{HasElements}
use Rattle.type_split.specs.Nodes.{StreamNode, nodes_of}
use Rattle.type_split.specs.Streams.{IsPortSplit, PlainSplit, gathered, root_at}
use Rattle.type_split.proofs.ElementLemmas.{nodes_have_elements}
use Rattle.value_gen.specs.Draws.{Maker, bits_from, draw_after, pure, times, word_drawn}
use Rattle.value_gen.specs.Made.{element, fields, generated, nest, parts_drawn, roots_from, series, variant, variant_drawn}

-- a value passes a test of plain data
abbrev Passes : (Tree → Bool) → Value → Type 0
Passes test value = test (plain value) ≡ true

-- ---- words

length-bits : (count : ℕ) (found : List Bool) (last : ℕ) → length (bits_from count found last).made ≡ length found + 16 * count
length-bits zero found last = omega arith
length-bits (suc count) found last =
    let next = draw_after last in
    let more = length-bits count (found ++ bits_of 16 next) next in
    let long = length-append found (bits_of 16 next) in
    let part = length-bits_of 16 next in
    omega (arith, more, long, part)

word-fits : (width last : ℕ) → Passes (fits_element (types.bits width)) (values.Word (word_drawn width last).made)
word-fits width last =
    let drawn = (bits_from ((width + 15) / 16) [] last).made in
    let all = length-bits ((width + 15) / 16) [] last in
    let long = length-take width drawn in
    let wide : length (take width drawn) ≡ width = omega (arith, all, long) in
    ap (fits_element (types.bits width)) (plain-Word (take width drawn))
    ∙ (let same : (length (take width drawn) == width) ≡ true = grind (arith, nat_tests, wide) in same)

-- ---- nests

-- what is made behind those that are found passes
record Behind (test : Tree → Bool) (found all : List Value) : Type 0 where
  rest : List Value
  is : all ≡ found ++ rest
  pass : all_pass test (plain_values rest) ≡ true

times-pass : (test : Tree → Bool) (item : Maker Value) → ((last : ℕ) → Passes test (item last).made) → (count : ℕ) (found : List Value) (last : ℕ)
    → Behind test found (times count item found last).made
times-pass test item each zero found last = record { rest = []; is = sym (append-nil found); pass = refl }
times-pass test item each (suc count) found last =
    let one = item last in
    let more = times-pass test item each count (found ++ one.made ∷ []) one.last in
    record {
      rest = one.made ∷ more.rest;
      is = more.is ∙ append_assoc found (one.made ∷ []) more.rest;
      pass = and_from (test (plain one.made)) (all_pass test (plain_values more.rest)) (each last) more.pass;
    }

list-fits : (test : Tree → Bool) (depth : ℕ) (some : List Value) → Behind (is_nest test depth) [] some → Passes (is_nest test (suc depth)) (values.List some)
list-fits test depth some behind = ap (is_nest test (suc depth)) (plain-List some)
    ∙ ap (λ (l : List Value). all_pass (is_nest test depth) (plain_values l)) behind.is ∙ behind.pass

nest-fits : (test : Tree → Bool) (item : Maker Value) → ((last : ℕ) → Passes test (item last).made) → (depth last : ℕ)
    → Passes (is_nest test depth) (nest item depth last).made
nest-fits test item each zero last = each last
nest-fits test item each (suc depth) last =
    let next = draw_after last in
    let made = times-pass (is_nest test depth) (nest item depth) (nest-fits test item each depth) (parts_drawn next) [] next in
    list-fits test depth (times (parts_drawn next) (nest item depth) [] next).made made

stream-fits : (inner : Ltype) (dims : ℕ) (one : Bool) (last : ℕ) → ((last : ℕ) → Passes (fits_element inner) (element inner last).made)
    → cond one (stands_apart (plain (cond one (pure values.Apart last) (nest (element inner) dims last)).made))
    (is_nest (fits_element inner) dims (plain (cond one (pure values.Apart last) (nest (element inner) dims last)).made)) ≡ true
stream-fits inner dims true last each = ap stands_apart plain-Apart
stream-fits inner dims false last each = nest-fits (fits_element inner) (element inner) each dims last

-- ---- elements

record Fields (parts : Parts) (found all : List Value) : Type 0 where
  rest : List Value
  is : all ≡ found ++ rest
  fit : fit_fields parts (plain_values rest) ≡ true

-- a Union without variants has a fault
abbrev some : {A : Type 0} → List A → Bool
some [] = false
some (x ∷ l) = true

no-empty : (wide : Bool) → ◌≡◌ {A = List TypeFault} (cond wide (faults.ElementTooWide ∷ faults.EmptyUnion ∷ []) (faults.EmptyUnion ∷ []) ++ []) [] → ⊥
no-empty true is = absurd (let no : true ≡ false = ap some is in cc)
no-empty false is = absurd (let no : true ≡ false = ap some is in cc)

some-variants : (parts : Parts) → IsPlain (types.union parts) → 0 < number_of_parts parts
some-variants types.no_parts is = absurd (no-empty (is_too_wide (types.union types.no_parts)) is)
some-variants (types.part name ltype more) is = omega arith

drawn-within : (many draw : ℕ) → 0 < many → variant_drawn many draw < many
drawn-within many draw some = mod-lt (draw / 256) some

mutual
  pub element-fits : (ltype : Ltype) → IsPlain ltype → (last : ℕ) → Passes (fits_element ltype) (element ltype last).made
  element-fits types.null is last = ap (fits_element types.null) plain-Null
  element-fits (types.bits width) is last = word-fits width last
  element-fits (types.group parts) is last =
      let made = fields-fit parts (ArePlain-group parts is) [] last in
      ap (fits_element (types.group parts)) (plain-Group (fields parts [] last).made) ∙ ap (λ (l : List Value). fit_fields parts (plain_values l)) made.is
      ∙ made.fit
  element-fits (types.union parts) is last =
      let next = draw_after last in
      let number = variant_drawn (number_of_parts parts) next in
      ap (fits_element (types.union parts)) (plain-Union number (variant parts number next).made)
      ∙ variant-fits parts (ArePlain-union parts is) number next (drawn-within (number_of_parts parts) next (some-variants parts is))
  element-fits (types.stream inner user settings) is last = stream-fits inner settings.dims (is_apart settings.sync) last
      (element-fits inner (IsPlain-inside inner user settings is).0)

  fields-fit : (parts : Parts) → ArePlain parts → (found : List Value) (last : ℕ) → Fields parts found (fields parts found last).made
  fields-fit types.no_parts are found last = record { rest = []; is = sym (append-nil found); fit = refl }
  fields-fit (types.part name ltype more) are found last =
      let plain_ones = IsPlain-first name ltype more are in
      let one = element ltype last in
      let others = fields-fit more plain_ones.1 (found ++ one.made ∷ []) one.last in
      record {
        rest = one.made ∷ others.rest;
        is = others.is ∙ append_assoc found (one.made ∷ []) others.rest;
        fit = and_from (fits_element ltype (plain one.made)) (fit_fields more (plain_values others.rest)) (element-fits ltype plain_ones.0 last) others.fit;
      }

  variant-fits : (parts : Parts) → ArePlain parts → (number last : ℕ) → number < number_of_parts parts
      → fits_variant parts number (plain (variant parts number last).made) ≡ true
  variant-fits types.no_parts are number last within = absurd (omega (arith, within))
  variant-fits (types.part name ltype more) are zero last within = element-fits ltype (IsPlain-first name ltype more are).0 last
  variant-fits (types.part name ltype more) are (suc number) last within = variant-fits more (IsPlain-first name ltype more are).1 number last
      (omega (arith, within))

-- ---- roots

-- the series of a node
pub series-fits : (node : StreamNode) → IsPlain node.element → (count last : ℕ)
    → fits_series (Some node) (map plain (series count (Some node) last).made) ≡ true
series-fits node is count last =
    let made = times-pass (is_nest (fits_element node.element) node.params.dims) (nest (element node.element) node.params.dims)
    (nest-fits (fits_element node.element) (element node.element) (element-fits node.element is) node.params.dims) count [] last in
    ap (all_pass (is_nest (fits_element node.element) node.params.dims)) (trees_of-map (series count (Some node) last).made)
    ∙ ap (λ (l : List Value). all_pass (is_nest (fits_element node.element) node.params.dims) (plain_values l)) made.is ∙ made.pass

-- a series for each of these roots is made, and no more
record Roots (nodes : List StreamNode) (roots : List ℕ) (found all : List (List Value)) : Type 0 where
  rest : List (List Value)
  is : all ≡ found ++ rest
  fit : fit_roots nodes roots (map (map plain) rest) ≡ true

-- each root is the number of a node whose elements are plain
abbrev AreRoots : List StreamNode → List ℕ → Type 0
AreRoots nodes roots = All (λ root. (node : StreamNode) × (slice_get nodes root ≡ Some node) × IsPlain node.element) roots

roots-fit : (nodes : List StreamNode) (count : ℕ) (roots : List ℕ) → AreRoots nodes roots → (found : List (List Value)) (last : ℕ)
    → Roots nodes roots found (roots_from count nodes roots found last).made
roots-fit nodes count [] are found last = record { rest = []; is = sym (append-nil found); fit = refl }
roots-fit nodes count (root ∷ roots) are found last =
    let has = All-head (λ root. (node : StreamNode) × (slice_get nodes root ≡ Some node) × IsPlain node.element) root roots are in
    let one = series count (slice_get nodes root) last in
    let others = All-tail (λ root. (node : StreamNode) × (slice_get nodes root ≡ Some node) × IsPlain node.element) root roots are in
    let more = roots-fit nodes count roots others (found ++ one.made ∷ []) one.last in
    let here : fits_series (slice_get nodes root) (map plain one.made) ≡ true = rw has.1 (series-fits has.0 has.2 count last) in
    record {
      rest = one.made ∷ more.rest;
      is = more.is ∙ append_assoc found (one.made ∷ []) more.rest;
      fit = and_from (fits_series (slice_get nodes root) (map plain one.made)) (fit_roots nodes roots (map (map plain) more.rest)) here more.fit;
    }

-- ---- the roots of a port

taken : (l : List StreamNode) (at : ℕ) (one : StreamNode) (more : List StreamNode) → drop at l ≡ one ∷ more
    → (slice_get l at ≡ Some one) × (drop (suc at) l ≡ more)
taken [] zero one more is = cc
taken [] (suc at) one more is = cc
taken (first ∷ l) zero one more is = (cc, cc)
taken (first ∷ l) (suc at) one more is = taken l at one more is

roots-there : (all nodes : List StreamNode) (number : ℕ) → drop number all ≡ nodes → All HasElements nodes → AreRoots all (gathered root_at number nodes)
roots-there all [] number are has = All-nil (λ root. (node : StreamNode) × (slice_get all root ≡ Some node) × IsPlain node.element)
roots-there all (one ∷ more) number are has =
    let both = taken all number one more are in
    All-append (λ root. (node : StreamNode) × (slice_get all root ≡ Some node) × IsPlain node.element) (root_at number one)
    (gathered root_at (suc number) more)
    (root-here (one.root == number) both.0 (All-head HasElements one more has).plain)
    (roots-there all more (suc number) both.1 (All-tail HasElements one more has))
  where
    root-here : (is : Bool) → slice_get all number ≡ Some one → IsPlain one.element → AreRoots all (if is then number ∷ [] else [])
    root-here true found plain_one = All-cons (λ root. (node : StreamNode) × (slice_get all root ≡ Some node) × IsPlain node.element) number []
        (one, found, plain_one)
        (All-nil (λ root. (node : StreamNode) × (slice_get all root ≡ Some node) × IsPlain node.element))
    root-here false found plain_one = All-nil (λ root. (node : StreamNode) × (slice_get all root ≡ Some node) × IsPlain node.element)

-- a generated value fits the split that it is made for
pub generated-fits : (split : PlainSplit) → IsPortSplit split → (seed count : ℕ) → fits_split split (map (map plain) (generated split seed count)) ≡ true
generated-fits split is seed count =
    let has = subst (λ (s : PlainSplit). All HasElements s.nodes) is.is (nodes_have_elements split is) in
    let are = subst (λ (s : PlainSplit). AreRoots s.nodes s.roots) (sym is.is) (roots-there (nodes_of is.ltype) (nodes_of is.ltype) 0 refl has) in
    let made = roots-fit split.nodes count split.roots are [] seed in
    ap (λ (l : List (List Value)). fit_roots split.nodes split.roots (map (map plain) l)) made.is ∙ made.fit
