-- The leaves of what is made, and the room that is left for more.
use Rattle.std.proofs.Common.{◌≡◌, ◌∙◌, ◌==◌, true, false, ℕ, zero, suc, ◌+◌, ◌-◌, ◌<◌, ◌≤◌, List, [], ◌∷◌, ◌++◌, drop, get_or, length, Result, Ok, Err, slice_get, refl, sym, ap, subst, arith}
use Rattle.std.proofs.lemmas.List.{drop_more}
use Rattle.std.specs.Prelude.{IsErrAnd}
use Rattle.logical_types.specs.declared.ltype.Part.{Part}
use Rattle.logical_types.specs.Tree.{Ltype, Parts, plain, plain_parts}
use Rattle.logical_types.specs.Tree as types
use Rattle.logical_types.proofs.PlainLemmas.{plain_parts-at}
use Rattle.logical_value.specs.Tree.{plain_values}
use Rattle.logical_value.specs.declared.value.Value.{Value}
use Rattle.logical_value.specs.declared.value.Value.TheVariants as values
use Rattle.logical_value.proofs.PlainLemmas.{plain-Apart, plain-Group, plain-List, plain-Null, plain-Union, trees_of-map}
use Rattle.type_split.specs.Nodes.{StreamNode}
use Rattle.value_text.specs.Printable.{empty_leaf, leaves_in, leaves_in_all}
use Rattle.value_gen.specs.Draws.{Drawn, Maker, draw_after, times}
use Rattle.value_gen.specs.Made.{element, fields, nest, parts_drawn, roots_from, selected, series, variant}
use Rattle.value_gen.proofs.MadeLemmas.{variant-found}
use Rattle.value_gen.specs.Leaves.{Fills, TakesLeaf, leaves, leaves_of_all, leaves_of_roots}
use Rattle.value_gen.specs.declared.fault.GenFault.{GenFault}
use Rattle.value_gen.specs.declared.fault.GenFault.TheVariants as faults

-- ---- leaves of lists

pub all-append : (l m : List Value) → leaves_of_all (l ++ m) ≡ leaves_of_all l + leaves_of_all m
all-append [] m = omega arith
all-append (value ∷ l) m = let more = all-append l m in omega (arith, more)

pub all-more : (l : List Value) (value : Value) → leaves_of_all (l ++ value ∷ []) ≡ leaves_of_all l + leaves value
all-more l value = let more = all-append l (value ∷ []) in omega (arith, more)

one-series : (l : List Value) (more : List (List Value)) → leaves_of_roots (l ∷ more) ≡ leaves_of_all l + leaves_of_roots more
one-series l more = ap (λ t. leaves_in_all t + leaves_of_roots more) (trees_of-map l)

pub roots-append : (l m : List (List Value)) → leaves_of_roots (l ++ m) ≡ leaves_of_roots l + leaves_of_roots m
roots-append [] m = omega arith
roots-append (one ∷ l) m = let more = roots-append l m in let here = one-series one (l ++ m) in let there = one-series one l in omega (arith, more, here, there)

pub roots-more : (l : List (List Value)) (one : List Value) → leaves_of_roots (l ++ one ∷ []) ≡ leaves_of_roots l + leaves_of_all one
roots-more l one = let more = roots-append l (one ∷ []) in let here = one-series one [] in omega (arith, more, here)

-- ---- leaves

pub leaf-made : (one : Drawn Value) (value : Value) (old new : ℕ) → leaves value ≡ 1 → old ≡ suc new → leaves value + new ≡ old
leaf-made one value old new is took = omega (arith, is, took)

pub leaf-fails : (one : Drawn Value) (fault : GenFault) (old new after : ℕ) (done : Result (Unit {0}) GenFault) → leaves one.made ≡ 1 → TakesLeaf old new (Err fault)
    → Fills leaves one old after (Err fault)
leaf-fails one faults.TooManyLeaves old new after done is took = omega (arith, is, took)
leaf-fails one faults.Memory old new after done is took = tt

pub leaves-null : leaves values.Null ≡ 1
leaves-null = ap leaves_in plain-Null

pub leaves-apart : leaves values.Apart ≡ 1
leaves-apart = ap leaves_in plain-Apart

-- ---- lists of things that are made

times-over : (item : Maker Value) (left : ℕ) (found : List Value) (last : ℕ) → leaves_of_all found ≤ leaves_of_all (times left item found last).made
times-over item zero found last = omega arith
times-over item (suc left) found last =
    let one = item last in
    let more = times-over item left (found ++ one.made ∷ []) one.last in
    let here = all-more found one.made in
    omega (arith, more, here)

times-first : (item : Maker Value) (left : ℕ) (found : List Value) (last : ℕ) → 0 < left
    → leaves_of_all found + leaves (item last).made ≤ leaves_of_all (times left item found last).made
times-first item zero found last some = absurd (omega (arith, some))
times-first item (suc left) found last some =
    let one = item last in
    let more = times-over item left (found ++ one.made ∷ []) one.last in
    let here = all-more found one.made in
    omega (arith, more, here)

-- there is no room for a nest more
pub times-fails : (item : Maker Value) (left count : ℕ) (found : List Value) (last first room initial after then : ℕ) (fault : GenFault) → 0 < left
    → times left item found last ≡ times count item [] first → leaves_of_all found + room ≡ initial → Fills leaves (item last) room after (Err fault)
    → Fills leaves_of_all (times count item [] first) initial then (Err fault)
times-fails item left count found last first room initial after then faults.TooManyLeaves some same sum over =
    let all = times-first item left found last some in
    let is = ap (λ (d : Drawn (List Value)). leaves_of_all d.made) same in
    omega (arith, all, is, sum, over)
times-fails item left count found last first room initial after then faults.Memory some same sum over = tt

fields-over : (parts : Parts) (found : List Value) (last : ℕ) → leaves_of_all found ≤ leaves_of_all (fields parts found last).made
fields-over types.no_parts found last = omega arith
fields-over (types.part name ltype more) found last =
    let one = element ltype last in
    let all = fields-over more (found ++ one.made ∷ []) one.last in
    let here = all-more found one.made in
    omega (arith, all, here)

pub fields-fails : (parts : List Part) (at : ℕ) (part : Part) (found : List Value) (last first room initial after then : ℕ) (fault : GenFault) → at < length parts
    → part ≡ get_or parts at part → fields (plain_parts (drop at parts)) found last ≡ fields (plain_parts parts) [] first
    → leaves_of_all found + room ≡ initial → Fills leaves (element (plain part.ltype) last) room after (Err fault)
    → Fills leaves_of_all (fields (plain_parts parts) [] first) initial then (Err fault)
fields-fails parts at part found last first room initial after then faults.TooManyLeaves within is same sum over =
    let one = element (plain part.ltype) last in
    let all = fields-over (plain_parts (drop (at + 1) parts)) (found ++ one.made ∷ []) one.last in
    let more = all-more found one.made in
    let here = ap (λ (p : Parts). leaves_of_all (fields p found last).made) (plain_parts-at parts at part within is) in
    let whole = ap (λ (d : Drawn (List Value)). leaves_of_all d.made) same in
    omega (arith, all, more, here, whole, sum, over)
fields-fails parts at part found last first room initial after then faults.Memory within is same sum over = tt

dropped : (l : List ℕ) (at one none : ℕ) → at < length l → one ≡ get_or l at none → drop at l ≡ one ∷ drop (at + 1) l
dropped l at one none within is = drop_more l at none within ∙ ap (λ x. x ∷ drop (at + 1) l) (sym is)

roots-over : (count : ℕ) (nodes : List StreamNode) (roots : List ℕ) (found : List (List Value)) (last : ℕ)
    → leaves_of_roots found ≤ leaves_of_roots (roots_from count nodes roots found last).made
roots-over count nodes [] found last = omega arith
roots-over count nodes (root ∷ roots) found last =
    let one = series count (slice_get nodes root) last in
    let more = roots-over count nodes roots (found ++ one.made ∷ []) one.last in
    let here = roots-more found one.made in
    omega (arith, more, here)

pub roots-fails : (count : ℕ) (nodes : List StreamNode) (roots all : List ℕ) (at root none : ℕ) (found : List (List Value)) (last first room initial after then : ℕ) (fault : GenFault)
    → at < length roots → root ≡ get_or roots at none → roots_from count nodes (drop at roots) found last ≡ roots_from count nodes all [] first
    → leaves_of_roots found + room ≡ initial → Fills leaves_of_all (series count (slice_get nodes root) last) room after (Err fault)
    → Fills leaves_of_roots (roots_from count nodes all [] first) initial then (Err fault)
roots-fails count nodes roots all at root none found last first room initial after then faults.TooManyLeaves within is same sum over =
    let one = series count (slice_get nodes root) last in
    let more = roots-over count nodes (drop (at + 1) roots) (found ++ one.made ∷ []) one.last in
    let made = roots-more found one.made in
    let here = ap (λ (l : List ℕ). leaves_of_roots (roots_from count nodes l found last).made) (dropped roots at root none within is) in
    let whole = ap (λ (d : Drawn (List (List Value))). leaves_of_roots d.made) same in
    omega (arith, more, made, here, whole, sum, over)
roots-fails count nodes roots all at root none found last first room initial after then faults.Memory within is same sum over = tt

-- ---- Groups, Unions and lists

-- a Group that has a field is no leaf
fields-some : (name : List ℕ) (ltype : Ltype) (more : Parts) (last : ℕ) → empty_leaf (plain_values (fields (types.part name ltype more) [] last).made) ≡ 0
fields-some name ltype more last = keeps more ((element ltype last).made ∷ []) (element ltype last).last refl
  where
    keeps : (parts : Parts) (found : List Value) (now : ℕ) → empty_leaf (plain_values found) ≡ 0 → empty_leaf (plain_values (fields parts found now).made) ≡ 0
    keeps types.no_parts found now is = is
    keeps (types.part name ltype more) [] now is = absurd (omega (arith, is))
    keeps (types.part name ltype more) (value ∷ found) now is = keeps more ((value ∷ found) ++ (element ltype now).made ∷ []) (element ltype now).last refl

group-leaves : (parts : List Part) (last : ℕ) → 0 < length parts → leaves (values.Group (fields (plain_parts parts) [] last).made) ≡ leaves_of_all (fields (plain_parts parts) [] last).made
group-leaves [] last some = absurd (omega (arith, some))
group-leaves (part ∷ parts) last some =
    let made = (fields (plain_parts (part ∷ parts)) [] last).made in
    let none : empty_leaf (plain_values made) ≡ 0 = fields-some part.name (plain part.ltype) (plain_parts parts) last in
    let is = ap leaves_in (plain-Group made) in
    omega (arith, is, none)

list-leaves : (some : List Value) → leaves (values.List some) ≡ leaves_of_all some
list-leaves some = ap leaves_in (plain-List some)

union-leaves : (number : ℕ) (value : Value) → leaves (values.Union number value) ≡ leaves value
union-leaves number value = ap leaves_in (plain-Union number value)

-- ---- what holds of a part holds of the whole

pub fills-same : {A B : Type 0} (leaves_a : A → ℕ) (leaves_b : B → ℕ) (one : Drawn A) (other : Drawn B) (old new after : ℕ) (fault : GenFault)
    → leaves_a one.made ≡ leaves_b other.made → Fills leaves_a one old new (Err fault) → Fills leaves_b other old after (Err fault)
fills-same leaves_a leaves_b one other old new after faults.TooManyLeaves same over = omega (arith, same, over)
fills-same leaves_a leaves_b one other old new after faults.Memory same over = tt

-- an error that is handed on
pub failed : {A : Type 0} (leaves_a : A → ℕ) (one : Drawn A) (old after : ℕ) (result : Result A GenFault) (fault : GenFault) → IsErrAnd result (λ e. e ≡ fault)
    → Fills leaves_a one old after (Err fault) → Fills leaves_a one old after result
failed leaves_a one old after (Ok x) fault is fills = absurd is
failed leaves_a one old after (Err e) fault is fills = subst (λ (f : GenFault). Fills leaves_a one old after (Err f)) (sym is) fills

-- ---- one thing more

pub times-next : (item : Maker Value) (left : ℕ) (found : List Value) (last : ℕ) (value : Value) (next : ℕ) (new : List Value) (whole : Drawn (List Value)) → 0 < left
    → item last ≡ record { made = value; last = next } → new ≡ found ++ value ∷ [] → times left item found last ≡ whole → times (left - 1) item new next ≡ whole
times-next item zero found last value next new whole some made is same = absurd (omega (arith, some))
times-next item (suc left) found last value next new whole some made is same =
    let less : suc left - 1 ≡ left = omega arith in
    ap (λ (n : ℕ). times n item new next) less ∙ ap (λ (l : List Value). times left item l next) is
    ∙ ap (λ (d : Drawn Value). times left item (found ++ d.made ∷ []) d.last) (sym made) ∙ same

pub fields-next : (parts : List Part) (at : ℕ) (part : Part) (found : List Value) (last : ℕ) (value : Value) (next : ℕ) (new : List Value) (whole : Drawn (List Value))
    → at < length parts → part ≡ get_or parts at part → element (plain part.ltype) last ≡ record { made = value; last = next } → new ≡ found ++ value ∷ []
    → fields (plain_parts (drop at parts)) found last ≡ whole → fields (plain_parts (drop (at + 1) parts)) new next ≡ whole
fields-next parts at part found last value next new whole within is made pushed same =
    ap (λ (l : List Value). fields (plain_parts (drop (at + 1) parts)) l next) pushed
    ∙ ap (λ (d : Drawn Value). fields (plain_parts (drop (at + 1) parts)) (found ++ d.made ∷ []) d.last) (sym made)
    ∙ sym (ap (λ (p : Parts). fields p found last) (plain_parts-at parts at part within is)) ∙ same

pub roots-next : (count : ℕ) (nodes : List StreamNode) (roots : List ℕ) (at root none : ℕ) (found : List (List Value)) (last : ℕ) (value : List Value) (next : ℕ) (new : List (List Value))
    (whole : Drawn (List (List Value))) → at < length roots → root ≡ get_or roots at none → series count (slice_get nodes root) last ≡ record { made = value; last = next }
    → new ≡ found ++ value ∷ [] → roots_from count nodes (drop at roots) found last ≡ whole → roots_from count nodes (drop (at + 1) roots) new next ≡ whole
roots-next count nodes roots at root none found last value next new whole within is made pushed same =
    ap (λ (l : List (List Value)). roots_from count nodes (drop (at + 1) roots) l next) pushed
    ∙ ap (λ (d : Drawn (List Value)). roots_from count nodes (drop (at + 1) roots) (found ++ d.made ∷ []) d.last) (sym made)
    ∙ sym (ap (λ (l : List ℕ). roots_from count nodes l found last) (dropped roots at root none within is)) ∙ same

-- ---- the whole of parts

pub some-parts : (parts : List Part) → (length parts == 0) ≡ false → 0 < length parts
some-parts [] is = absurd (let no : true ≡ false = is in cc)
some-parts (part ∷ parts) is = omega arith

pub group-fills : (parts : List Part) (last : ℕ) (some : List Value) (final room old : ℕ) → 0 < length parts → fields (plain_parts parts) [] last ≡ record { made = some; last = final }
    → leaves_of_all some + room ≡ old → leaves (values.Group some) + room ≡ old
group-fills parts last some final room old many made fills =
    let is = ap (λ (d : Drawn (List Value)). d.made) made in
    let all = ap (λ (l : List Value). leaves (values.Group l)) (sym is) ∙ group-leaves parts last many ∙ ap leaves_of_all is in
    ap (λ n. n + room) all ∙ fills

pub group-fails : (parts : List Part) (last old new after : ℕ) (fault : GenFault) → 0 < length parts → Fills leaves_of_all (fields (plain_parts parts) [] last) old new (Err fault)
    → Fills leaves (element (types.group (plain_parts parts)) last) old after (Err fault)
group-fails parts last old new after fault many fails =
    fills-same leaves_of_all leaves (fields (plain_parts parts) [] last) (element (types.group (plain_parts parts)) last) old new after fault (sym (group-leaves parts last many)) fails

pub list-fills : (some : List Value) (room old : ℕ) → leaves_of_all some + room ≡ old → leaves (values.List some) + room ≡ old
list-fills some room old fills = ap (λ n. n + room) (list-leaves some) ∙ fills

pub nest-fails : (item : Maker Value) (depth less count last next old new after : ℕ) (fault : GenFault) → 0 < depth → less ≡ depth - 1 → count ≡ parts_drawn (draw_after last)
    → next ≡ draw_after last → Fills leaves_of_all (times count (nest item less) [] next) old new (Err fault) → Fills leaves (nest item depth last) old after (Err fault)
nest-fails item zero less count last next old new after fault some is drawn from fails = absurd (omega (arith, some))
nest-fails item (suc depth) less count last next old new after fault some is drawn from fails =
    let here : less ≡ depth = is ∙ (let e : suc depth - 1 ≡ depth = omega arith in e) in
    let inner = (times (parts_drawn (draw_after last)) (nest item depth) [] (draw_after last)).made in
    let same : leaves_of_all (times count (nest item less) [] next).made ≡ leaves (nest item (suc depth) last).made =
    ap (λ d. leaves_of_all (times count (nest item d) [] next).made) here ∙ ap (λ n. leaves_of_all (times n (nest item depth) [] next).made) drawn
    ∙ ap (λ n. leaves_of_all (times (parts_drawn (draw_after last)) (nest item depth) [] n).made) from ∙ sym (list-leaves inner) in
    fills-same leaves_of_all leaves (times count (nest item less) [] next) (nest item (suc depth) last) old new after fault same fails

pub variant-fills : (number : ℕ) (value boxed : Value) (room old : ℕ) → boxed ≡ value → leaves value + room ≡ old → leaves (values.Union number boxed) + room ≡ old
variant-fills number value boxed room old held fills = ap (λ n. n + room) (union-leaves number boxed ∙ ap leaves held) ∙ fills

pub variant-fails : (parts : List Part) (number : ℕ) (part : Part) (last old new after : ℕ) (fault : GenFault) → number < length parts → part ≡ get_or parts number part
    → Fills leaves (element (plain part.ltype) last) old new (Err fault) → Fills leaves (selected number (plain_parts parts) last) old after (Err fault)
variant-fails parts number part last old new after fault within is fails =
    fills-same leaves leaves (element (plain part.ltype) last) (selected number (plain_parts parts) last) old new after fault
    (sym (union-leaves number (variant (plain_parts parts) number last).made ∙ ap (λ (d : Drawn Value). leaves d.made) (variant-found parts number part last within is))) fails
