-- The text of a type, stream after stream.
use Rattle.std.proofs.Common.{◌≡◌, ℕ, ◌+◌, ◌-◌, ◌<◌, inr, Bool, true, false, leb, nat_lt, if◌then◌else◌, option_and_then, None, Result, Ok, Err, IfOk, List, [], ◌∷◌, ◌++◌, length, map, get_or, take, drop, slice_get, Option, Some, option_map, All, refl, sym, ap, ◌∙◌, subst, append_assoc, length-append, arith}
use Rattle.std.specs.List.{flat_map}
use Rattle.std.proofs.lemmas.Bool.{leb-false, leb-true, ltb-true, ltb-false}
use Rattle.std.proofs.lemmas.Grind.{flat_map-append}
use Rattle.std.proofs.lemmas.List.{get_or-map, length-map, take_more, take-append-drop}
use Rattle.std.proofs.lemmas.Option.{slice_get-get_or, slice_get-map, slice_get_past}
use Rattle.logical_types.specs.Faults.{IsPlain}
use Rattle.signal_layout.specs.declared.signal.Signal.{Signal}
use Rattle.signal_layout.specs.declared.signal.Signal.TheVariants as signals
use Rattle.type_split.specs.declared.split.Node.{Node}
use Rattle.type_split.specs.Nodes.{StreamNode}
use Rattle.type_split.specs.Streams.{node_view}
use Rattle.split_text.specs.declared.fields.Field.{Field}
use Rattle.split_text.specs.Text.{IsUpTo, field_line, field_lines, room_behind, signal_lines}

pub append_nil : (l : List ℕ) → l ++ [] ≡ l
append_nil [] = refl
append_nil (x ∷ l) = ap (λ (k : List ℕ). x ∷ k) (append_nil l)

-- ---- nodes by their numbers

-- a node's elements are plain
abbrev pub HasPlain : StreamNode → Type 0
HasPlain node = IsPlain node.element

pub some-node : (d : Node) (nodes : List Node) (number : ℕ) (node : Node) → true ≡ nat_lt number (length nodes) → node ≡ get_or nodes number d
    → slice_get (map node_view nodes) number ≡ Some (node_view node)
some-node d nodes number node within is =
    slice_get-map node_view nodes number ∙ ap (option_map node_view) (slice_get-get_or nodes number d (ltb-true number (length nodes) (sym within)))
    ∙ ap (λ (n : Node). Some (node_view n)) (sym is)

pub plain-node : (d : Node) (nodes : List Node) (number : ℕ) (node : Node) → All HasPlain (map node_view nodes) → true ≡ nat_lt number (length nodes) → node ≡ get_or nodes number d
    → IsPlain (node_view node).element
plain-node d nodes number node each within is =
    let inside = ltb-true number (length nodes) (sym within) in
    subst HasPlain (get_or-map node_view nodes number d (node_view d) inside ∙ ap node_view (sym is)) (each number (node_view d) (omega (arith, inside, length-map nodes node_view)))

pub no-node : (nodes : List Node) (number : ℕ) → false ≡ nat_lt number (length nodes) → [] ≡ field_lines (slice_get (map node_view nodes) number)
no-node nodes number past =
    let out = ltb-false number (length nodes) (sym past) in
    ap (λ (o : Option StreamNode). field_lines o) (sym (slice_get-map node_view nodes number ∙ ap (option_map node_view) (slice_get_past nodes number out)))

-- ---- the lines of a stream

pub signals-same : (w v : Signal → Option ℕ) → ((s : Signal) → w s ≡ v s) → signal_lines w ≡ signal_lines v
signals-same w v same =
    let a = same signals.Valid in let b = same signals.Ready in let c = same signals.Content in let d = same signals.Last in
    let e = same signals.Stai in let f = same signals.Endi in let g = same signals.Strb in let h = same signals.User in cc

pub joined : (text head root lines a b c : List ℕ) → a ≡ text ++ head → b ≡ a ++ root → c ≡ b ++ lines → c ≡ text ++ (head ++ root ++ lines)
joined text head root lines a b c is_a is_b is_c =
    is_c ∙ ap (λ (l : List ℕ). l ++ lines) (is_b ∙ ap (λ (l : List ℕ). l ++ root) is_a ∙ append_assoc text head root)
    ∙ append_assoc text (head ++ root) lines

-- ---- a front

pub front-is : {A : Type 0} (of : A → List ℕ) (xs : List A) (i limit : ℕ) (x : A) (text new : List ℕ) → i < length xs → x ≡ get_or xs i x → text ≡ flat_map of (take i xs)
    → new ≡ text ++ of x → limit < length new → IsUpTo limit (flat_map of xs) new
front-is {A} of xs i limit x text new within is so grown long = record {
  rest = flat_map of (drop (i + 1) xs);
  whole = ap (flat_map of) (sym (take-append-drop (i + 1) xs)) ∙ flat_map-append of (take (i + 1) xs) (drop (i + 1) xs)
      ∙ ap (λ (l : List ℕ). l ++ flat_map of (drop (i + 1) xs)) (sym (grown ∙ ap (λ (l : List ℕ). l ++ of x) so ∙ sym more));
  ends = inr long;
}
  where
    more : flat_map of (take (i + 1) xs) ≡ flat_map of (take i xs) ++ of x
    more = ap (flat_map of) (take_more xs i x within ∙ ap (λ (y : A). take i xs ++ y ∷ []) (sym is)) ∙ flat_map-append of (take i xs) (x ∷ [])
        ∙ ap (λ (l : List ℕ). flat_map of (take i xs) ++ l) (append_nil (of x))

-- ---- room

room_by : (room : ℕ) (one other both : List ℕ) (fits : Bool) → leb (length one) room ≡ fits → length both ≡ length one + length other
    → room_behind room both ≡ option_and_then (λ left. room_behind left other) (if fits then Some (room - length one) else None)
room_by room one other both true fits long =
    let enough = leb-true (length one) room fits
    in by (leb (length both) room) (leb (length other) (room - length one)) refl refl
  where
    by : (all rest : Bool) → leb (length both) room ≡ all → leb (length other) (room - length one) ≡ rest
        → (if all then Some (room - length both) else None) ≡ (if rest then Some (room - length one - length other) else None)
    by true true is_all is_rest = ap (λ (n : ℕ). Some n) (omega (arith, long))
    by false false is_all is_rest = refl
    by true false is_all is_rest = absurd (omega (arith, long, leb-true (length both) room is_all, leb-false (length other) (room - length one) is_rest))
    by false true is_all is_rest = absurd (omega (arith, long, leb-false (length both) room is_all, leb-true (length other) (room - length one) is_rest, leb-true (length one) room fits))
room_by room one other both false fits long = by (leb (length both) room) refl
  where
    by : (all : Bool) → leb (length both) room ≡ all → (if all then Some (room - length both) else None) ≡ None
    by true is_all = absurd (omega (arith, long, leb-true (length both) room is_all, leb-false (length one) room fits))
    by false is_all = refl

-- the room behind two texts
room_behind-append : (room : ℕ) (one other : List ℕ) → room_behind room (one ++ other) ≡ option_and_then (λ left. room_behind left other) (room_behind room one)
room_behind-append room one other = room_by room one other (one ++ other) (leb (length one) room) refl (length-append one other)

-- fields that are found, as lines
pub fields-of-node : {E : Type 0} (result : Result (List Field) E) (fields : List Field) (lines : List ℕ)
    → IfOk result (λ found. found ≡ fields) → flat_map field_line fields ≡ lines
    → IfOk result (λ found. flat_map field_line found ≡ lines)
fields-of-node (Ok found) fields lines is are = ap (flat_map field_line) is ∙ are
fields-of-node (Err error) fields lines is are = _

-- the room behind the heading of a stream, and behind its fields
pub room-behind-stream : (room left : ℕ) (heading fields line : List ℕ) (all : List ℕ) {E : Type 0} (result : Result (Option ℕ) E)
    → line ≡ heading → Some left ≡ room_behind room line → fields ≡ all
    → IfOk result (λ rest. rest ≡ room_behind left fields)
    → IfOk result (λ rest. rest ≡ room_behind room (heading ++ all))
room-behind-stream room left heading fields line all (Ok rest) is here are told =
    told
    ∙ ap (room_behind left) are
    ∙ ap (λ left. option_and_then (λ left. room_behind left all) left) (here ∙ ap (room_behind room) is)
    ∙ sym (room_behind-append room heading all)
room-behind-stream room left heading fields line all (Err error) is here are told = _

pub no-room-behind-stream : (room : ℕ) (heading line all : List ℕ) → line ≡ heading → None ≡ room_behind room line → None ≡ room_behind room (heading ++ all)
no-room-behind-stream room heading line all is here =
    ap (λ left. option_and_then (λ left. room_behind left all) left) (here ∙ ap (room_behind room) is)
    ∙ sym (room_behind-append room heading all)
