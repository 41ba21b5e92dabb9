-- The values of words and of elements without bits, one after another.
use Rattle.std.proofs.Common.{◌≡◌, ◌∙◌, ◌<◌, ◌≤◌, ◌-◌, ℕ, zero, suc, ◌+◌, Bool, List, [], ◌∷◌, ◌++◌, length, map, drop, get_or, refl, sym, ap, subst, arith, append_assoc}
use Rattle.std.specs.Prelude.{IfOk, Result, Ok, Err, Option, Some, None}
use Rattle.std.specs.Iterator.{Yields}
use Rattle.std.specs.declared.vec.IntoIter.{IntoIter}
use Rattle.std.specs.Vec.Iter.{into_iter_items, into_iter_len, into_iter_steps}
use Rattle.std.proofs.lemmas.Iterator.Adapters.{YieldsList-from_vec}
use Rattle.std.proofs.lemmas.Iterator.Consumers.{YieldsList-end, YieldsList-turn}
use Rattle.std.proofs.lemmas.List.{append-nil, map-append}
use Rattle.logical_types.specs.Faults.{IsPlain}
use Rattle.logical_types.specs.Tree.{Ltype}
use Rattle.logical_types.specs.Width.{width_of}
use Rattle.nest_shape.specs.Tree as nests
use Rattle.nest_shape.specs.declared.nest.Nest.{Nest}
use Rattle.nest_shape.specs.declared.nest.Nest.TheVariants as nest_forms
use Rattle.nest_shape.proofs.PlainLemmas.{plain-List as nest_list}
use Rattle.logical_value.specs.Agreement.{IsUnpacked, StandsForSome}
use Rattle.logical_value.specs.Packed.{pack_of}
use Rattle.logical_value.specs.Tree.{Tree, list, members, plain}
use Rattle.logical_value.specs.declared.value.Value.{Value}
use Rattle.logical_value.specs.declared.value.Value.TheVariants as made
use Rattle.logical_value.proofs.LawLemmas.{packed_is_unpacked}
use Rattle.logical_value.proofs.PackingLemmas.{length-pack_of}
use Rattle.logical_value.proofs.PlainLemmas.{plain-List, trees_of-map}
use Rattle.value_views.specs.Joining.{HaveWords, HasWords}
use Rattle.value_views.specs.Series.{listed}
use Rattle.value_views.specs.Words.{blank_of, in_nest, unpacked, value_of}
use Rattle.value_views.proofs.BlankLemmas.{blank-apart, blank-element}
use Rattle.value_views.proofs.ListLemmas.{from-at, map_from-at, map_from-past}
use Rattle.value_views.proofs.WordLemmas.{unpacked-list, value_of-is}

-- ---- a list that is gone over by value

module _ {A Z : Type 0} (l : List A) (s t u : IntoIter A Z) (yielded : List A) (is_items : into_iter_items s ≡ l) (many : into_iter_len s ≡ length l) (runs : Yields (into_iter_steps {X = A} {Z = Z}) s yielded t)
    (r : Option A) (steps : into_iter_steps t r u) where
  -- the next element
  pub next-taken : (x : A) → r ≡ Some x → (length yielded < length l) × (x ≡ get_or l (length yielded) x)
  next-taken x is = (let turn = YieldsList-turn (YieldsList-from_vec l is_items many) yielded t runs r u x is steps in (turn.0, turn.1))

  pub all-taken : r ≡ None → length l ≤ length yielded
  all-taken is = (let all = (YieldsList-end (YieldsList-from_vec l is_items many) yielded t runs r u is steps).1 in omega (arith, all))

-- ---- a list that is made one by one

pub made-next : {A B : Type 0} (f : B → Tree) (view : A → B) (l : List A) (at : ℕ) (x : A) (some pushed : List Value) (value : Value) (all : List Tree) → at < length l → x ≡ get_or l at x
    → pushed ≡ some ++ value ∷ [] → plain value ≡ f (view x) → map plain some ++ map f (map view (drop at l)) ≡ all → map plain pushed ++ map f (map view (drop (at + 1) l)) ≡ all
made-next f view l at x some pushed value all less is added same done =
    let rest = map f (map view (drop (at + 1) l)) in
    ap (λ (p : List Value). map plain p ++ rest) added
    ∙ ap (λ (p : List Tree). p ++ rest) (map-append plain some (value ∷ []))
    ∙ append_assoc (map plain some) (plain value ∷ []) rest
    ∙ ap (λ (v : Tree). map plain some ++ v ∷ rest) same
    ∙ ap (λ m. map plain some ++ map f m) (sym (map_from-at view l at x less is)) ∙ done

pub made-done : {A B : Type 0} (f : B → Tree) (view : A → B) (l : List A) (at : ℕ) (some : List Value) (all : List Tree) → length l ≤ at
    → map plain some ++ map f (map view (drop at l)) ≡ all → map plain some ≡ all
made-done f view l at some all past done =
    sym (append-nil (map plain some)) ∙ ap (λ m. map plain some ++ map f m) (sym (map_from-past view l at past)) ∙ done

-- the words of the nest at a place, and of those behind it
pub words-at : (element : Ltype) (l : List Nest) (at : ℕ) (x : Nest) → at < length l → x ≡ get_or l at x → HaveWords element (nests.plain_nests (drop at l))
    → HasWords element (nests.plain x) × HaveWords element (nests.plain_nests (drop (at + 1) l))
words-at element l at x less is words = subst (λ (s : List Nest). HaveWords element (nests.plain_nests s)) (from-at l at x less is) words

-- a list of values that were unpacked
pub list-unpacked : (element : Ltype) (nest : nests.Tree) (parts : List Nest) (some : List Value) → nest ≡ nests.list (nests.plain_nests parts)
    → map plain some ≡ map (unpacked element) (map nests.plain parts) → plain (made.List some) ≡ unpacked element nest
list-unpacked element nest parts some is same =
    plain-List some ∙ ap list (sym (trees_of-map some)) ∙ ap listed same
    ∙ ap (λ l. listed (map (unpacked element) l)) (sym (as_list parts)) ∙ sym (unpacked-list element (nests.plain_nests parts)) ∙ ap (unpacked element) (sym is)
  where
    as_list : (l : List Nest) → nests.list_of (nests.plain_nests l) ≡ map nests.plain l
    as_list [] = refl
    as_list (one ∷ l) = ap (λ m. nests.plain one ∷ m) (as_list l)

-- ---- elements without bits

no_bits : (bits : List Bool) → length bits ≡ 0 → bits ≡ []
no_bits [] long = refl
no_bits (bit ∷ bits) long = absurd (omega (arith, long))

blank-stands : (element : Ltype) (bits : List Bool) → IsPlain element → width_of element ≡ 0 → length bits ≡ 0 → IsUnpacked element bits (blank_of element)
blank-stands element bits plain_is narrow none =
    let is = blank-element element plain_is narrow in
    let empty : pack_of element (blank_of element) ≡ bits = no_bits (pack_of element (blank_of element)) (length-pack_of element (blank_of element) is ∙ narrow) ∙ sym (no_bits bits none) in
    subst (λ (b : List Bool). IsUnpacked element b (blank_of element)) empty (subst (IsUnpacked element (pack_of element (blank_of element))) (blank-apart element) (packed_is_unpacked element (blank_of element) is))

pub blank-word : (element : Ltype) (bits : List Bool) → IsPlain element → width_of element ≡ 0 → length bits ≡ 0 → StandsForSome element bits
blank-word element bits plain_is narrow none = (blank_of element, blank-stands element bits plain_is narrow none)

pub blank-value : (element : Ltype) (bits : List Bool) → IsPlain element → width_of element ≡ 0 → length bits ≡ 0 → value_of element bits ≡ blank_of element
blank-value element bits plain_is narrow none =
    let is = blank-stands element bits plain_is narrow none in sym (value_of-is element bits (blank_of element) is.agrees is.streams)

-- a list of blank values
pub list-blank : (f : Tree → Tree) (depth : ℕ) (shape : Tree) (ones some : List Value) → 1 ≤ depth → map plain ones ≡ members shape
    → map plain some ≡ map (in_nest f (depth - 1)) (map plain ones) → plain (made.List some) ≡ in_nest f depth shape
list-blank f zero shape ones some deep are same = absurd (omega (arith, deep))
list-blank f (suc depth) shape ones some deep are same =
    let less : suc depth - 1 ≡ depth = omega arith in
    plain-List some ∙ ap list (sym (trees_of-map some)) ∙ ap listed same
    ∙ ap (λ (d : ℕ). listed (map (in_nest f d) (map plain ones))) less ∙ ap (λ (l : List Tree). listed (map (in_nest f depth) l)) are

pub ok-value : {E : Type 0} (result : Result Value E) (one other : Tree) → one ≡ other → IfOk result (λ value. plain value ≡ one) → IfOk result (λ value. plain value ≡ other)
ok-value (Ok value) one other same is = is ∙ same
ok-value (Err error) one other same is = tt

-- the words of the parts of a list
pub words-list : (element : Ltype) (nest : nests.Tree) (all parts : List Nest) → nest ≡ nests.list (nests.plain_nests all) → parts ≡ all → HasWords element nest
    → HaveWords element (nests.plain_nests parts)
words-list element nest all parts is same words = subst (λ (l : List Nest). HaveWords element (nests.plain_nests l)) (sym same) (subst (HasWords element) is words)

pub list-nest : (nest : Nest) (all parts : List Nest) → nest ≡ nest_forms.List all → parts ≡ all → nests.plain nest ≡ nests.list (nests.plain_nests parts)
list-nest nest all parts is same = ap nests.plain is ∙ nest_list all ∙ ap (λ (l : List Nest). nests.list (nests.plain_nests l)) (sym same)

-- ---- the size of nests

mutual
  pub nest_size : nests.Tree → ℕ
  nest_size (nests.leaf bits) = 1
  nest_size (nests.list parts) = suc (nests_size parts)

  pub nests_size : nests.Trees → ℕ
  nests_size nests.no_trees = 0
  nests_size (nests.tree first more) = nest_size first + nests_size more

pub list-size : (nest : nests.Tree) (parts : List Nest) → nest ≡ nests.list (nests.plain_nests parts) → suc (nests_size (nests.plain_nests parts)) ≡ nest_size nest
unfolding nest_size
list-size nest parts is = ap nest_size (sym is)

pub part-size : (l : List Nest) (at : ℕ) (x : Nest) → at < length l → x ≡ get_or l at x → nest_size (nests.plain x) ≤ nests_size (nests.plain_nests l)
unfolding nests_size
part-size [] at x less is = absurd (omega (arith, less))
part-size (one ∷ l) zero x less is = (let same = ap (λ (n : Nest). nest_size (nests.plain n)) is in omega (arith, same))
part-size (one ∷ l) (suc at) x less is = (let rest = part-size l at x (omega (arith, less)) is in omega (arith, rest))
