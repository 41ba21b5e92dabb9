-- The lines of a value, as parts that are added one after another.
use Rattle.std.proofs.Common.{◌≡◌, ◌∙◌, ℕ, ◌+◌, ◌<◌, ◌≤◌, nat_lt, true, false, if◌then◌else◌, List, [], ◌∷◌, ◌++◌, length, map, get_or, drop, reverse, slice_get, Some, None, option_map, codes, refl, sym, ap, subst, append-nil, append_assoc, arith}
use Rattle.std.specs.Prelude.{Bool}
use Rattle.std.specs.List.{flat_map}
use Rattle.std.proofs.lemmas.Bool.Decides.{nat_tests}
use Rattle.std.proofs.lemmas.Grind.{flat_map-append}
use Rattle.std.proofs.lemmas.List.{drop_more, drop_all, reverse-reverse}
use Rattle.std.proofs.lemmas.Option.{slice_get-map}
use Rattle.logical_types.specs.declared.ltype.LType.{LType}
use Rattle.logical_types.specs.Tree.{plain}
use Rattle.tydi_base.specs.Path.{path_text}
use Rattle.type_split.specs.Nodes.{StreamNode}
use Rattle.type_split.specs.Streams.{node_view}
use Rattle.type_split.specs.declared.split.Node.{Node}
use Rattle.type_split.specs.declared.split.Phys.{Phys}
use Rattle.logical_value.specs.Tree.{plain as plain_value, plain_values}
use Rattle.logical_value.specs.declared.value.Value.{Value}
use Rattle.logical_value.proofs.PlainLemmas.{trees_of-map}
use Rattle.value_text.specs.Canonical.{element_text, nest_text, nests_text, root_text, roots_text, user_line, user_word, users_text}
use Rattle.value_text.specs.Pending.{lines_text, part_text, rest_of}
use Rattle.value_text.specs.declared.pending.Pending.{Pending}

-- ---- parts that are added

lines-push : (lines : List Pending) (part : Pending) → lines_text (lines ++ part ∷ []) ≡ lines_text lines ++ part_text part
lines-push lines part = flat_map-append part_text lines (part ∷ []) ∙ ap (λ (l : List ℕ). lines_text lines ++ l) (append-nil (part_text part))

-- three parts more
three-lines : (one two three : Pending) (lines with_one with_two new : List Pending) → with_one ≡ lines ++ one ∷ [] → with_two ≡ with_one ++ two ∷ [] → new ≡ with_two ++ three ∷ []
    → lines_text new ≡ lines_text lines ++ (part_text one ++ (part_text two ++ part_text three))
three-lines one two three lines with_one with_two new is_one is_two is_new =
    ap lines_text is_new ∙ lines-push with_two three
    ∙ ap (λ (l : List Pending). lines_text l ++ part_text three) is_two ∙ ap (λ (l : List ℕ). l ++ part_text three) (lines-push with_one two)
    ∙ ap (λ (l : List Pending). (lines_text l ++ part_text two) ++ part_text three) is_one
    ∙ ap (λ (l : List ℕ). (l ++ part_text two) ++ part_text three) (lines-push lines one)
    ∙ append_assoc (lines_text lines ++ part_text one) (part_text two) (part_text three)
    ∙ append_assoc (lines_text lines) (part_text one) (part_text two ++ part_text three)

-- a text behind none
pub onto-none : (new old text : List ℕ) → new ≡ old ++ text → old ≡ [] → new ≡ text
onto-none new old text is none = is ∙ ap (λ (l : List ℕ). l ++ text) none

-- the parts in turn, the last of them first
pub turned : (lines left : List Pending) (roots users with_roots : List ℕ) → left ≡ reverse lines → with_roots ≡ roots → lines_text lines ≡ with_roots ++ users
    → rest_of left ≡ roots ++ users
turned lines left roots users with_roots turns first after =
    ap rest_of turns ∙ ap lines_text (reverse-reverse lines) ∙ after ∙ ap (λ (l : List ℕ). l ++ users) first

-- ---- roots

pub root-added : (nodes : List Node) (number : ℕ) (node made : Node) (element : LType) (depth : ℕ) (series : List Value) (one two three : Pending) (lines with_one with_two new : List Pending)
    → made ≡ node → Some node ≡ slice_get nodes number → element ≡ made.element.now → depth ≡ made.params.dims
    → part_text one ≡ codes "root " ++ (path_text made.path ++ codes " = ")
    → part_text two ≡ nests_text (nest_text (element_text (plain element)) depth) (codes " ") [] (plain_values series) → part_text three ≡ codes ";\n"
    → with_one ≡ lines ++ one ∷ [] → with_two ≡ with_one ++ two ∷ [] → new ≡ with_two ++ three ∷ []
    → lines_text new ≡ lines_text lines ++ root_text (slice_get (map node_view nodes) number) (map plain_value series)
root-added nodes number node made element depth series one two three lines with_one with_two new same found copied deep is_head is_nests is_end is_one is_two is_new =
    let front = codes "root " ++ (path_text made.path ++ codes " = ") in
    three-lines one two three lines with_one with_two new is_one is_two is_new
    ∙ ap (λ (l : List ℕ). lines_text lines ++ (l ++ (part_text two ++ part_text three))) is_head
    ∙ ap (λ (l : List ℕ). lines_text lines ++ (front ++ (l ++ part_text three))) is_nests
    ∙ ap (λ (l : List ℕ). lines_text lines ++ (front ++ (nests_text (nest_text (element_text (plain element)) depth) (codes " ") [] (plain_values series) ++ l))) is_end
    ∙ ap (λ (t : LType). lines_text lines ++ (front ++ (nests_text (nest_text (element_text (plain t)) depth) (codes " ") [] (plain_values series) ++ codes ";\n"))) copied
    ∙ ap (λ (d : ℕ). lines_text lines ++ (front ++ (nests_text (nest_text (element_text (plain made.element.now)) d) (codes " ") [] (plain_values series) ++ codes ";\n"))) deep
    ∙ ap (λ vs. lines_text lines ++ (front ++ (nests_text (nest_text (element_text (plain made.element.now)) made.params.dims) (codes " ") [] vs ++ codes ";\n"))) (sym (trees_of-map series))
    ∙ ap (λ (n : Node). lines_text lines ++ root_text (Some (node_view n)) (map plain_value series)) same
    ∙ ap (λ o. lines_text lines ++ root_text o (map plain_value series)) (ap (option_map node_view) found ∙ sym (slice_get-map node_view nodes number))

pub no_root-added : (nodes : List Node) (number : ℕ) (series : List Value) (old : List ℕ) → None ≡ slice_get nodes number
    → old ≡ old ++ root_text (slice_get (map node_view nodes) number) (map plain_value series)
no_root-added nodes number series old found =
    sym (append-nil old) ∙ ap (λ o. old ++ root_text o (map plain_value series)) (ap (option_map node_view) found ∙ sym (slice_get-map node_view nodes number))

pub roots-step : (nodes : List StreamNode) (roots : List ℕ) (at : ℕ) (left more : List (List Value)) (one made : List Value) (old new all : List ℕ) → at < length roots
    → left ≡ one ∷ more → made ≡ one → new ≡ old ++ root_text (slice_get nodes (get_or roots at 0)) (map plain_value made)
    → old ++ roots_text nodes (drop at roots) (map (map plain_value) left) ≡ all → new ++ roots_text nodes (drop (at + 1) roots) (map (map plain_value) more) ≡ all
roots-step nodes roots at left more one made old new all within begins same added before =
    let root = get_or roots at 0 in
    let rest = roots_text nodes (drop (at + 1) roots) (map (map plain_value) more) in
    ap (λ (l : List ℕ). l ++ rest) (added ∙ ap (λ (s : List Value). old ++ root_text (slice_get nodes root) (map plain_value s)) same)
    ∙ append_assoc old (root_text (slice_get nodes root) (map plain_value one)) rest
    ∙ ap (λ (s : List (List Value)). old ++ roots_text nodes (root ∷ drop (at + 1) roots) (map (map plain_value) s)) (sym begins)
    ∙ ap (λ (rs : List ℕ). old ++ roots_text nodes rs (map (map plain_value) left)) (sym (drop_more roots at 0 within)) ∙ before

pub roots-few : (nodes : List StreamNode) (roots : List ℕ) (at : ℕ) (left : List (List Value)) (old all : List ℕ) → left ≡ []
    → old ++ roots_text nodes (drop at roots) (map (map plain_value) left) ≡ all → old ≡ all
roots-few nodes roots at left old all none same =
    sym (append-nil old) ∙ ap (λ (l : List ℕ). old ++ l) (sym (no_series (drop at roots)))
    ∙ ap (λ (s : List (List Value)). old ++ roots_text nodes (drop at roots) (map (map plain_value) s)) (sym none) ∙ same
  where
    no_series : (rs : List ℕ) → roots_text nodes rs [] ≡ []
    no_series [] = refl
    no_series (r ∷ rs) = refl

pub roots-past : (nodes : List StreamNode) (roots : List ℕ) (at : ℕ) (left : List (List Value)) (old all : List ℕ) → length roots ≤ at
    → old ++ roots_text nodes (drop at roots) (map (map plain_value) left) ≡ all → old ≡ all
roots-past nodes roots at left old all done same =
    sym (append-nil old) ∙ ap (λ (rs : List ℕ). old ++ roots_text nodes rs (map (map plain_value) left)) (sym (drop_all at roots done)) ∙ same

-- ---- user words

some_bits : (width : ℕ) → (width ≡ 0 → ⊥) → nat_lt 0 width ≡ true
some_bits width some = grind (arith, nat_tests)

no_bits : (width : ℕ) → width ≡ 0 → nat_lt 0 width ≡ false
no_bits width none = grind (arith, nat_tests)

has_bits : (stream made : Phys) → made ≡ stream → (made.params.user ≡ 0 → ⊥) → nat_lt 0 stream.params.user ≡ true
has_bits stream made same some = let P : Phys → Type 0 = λ p. nat_lt 0 p.params.user ≡ true in subst P same (some_bits made.params.user some)

has_no_bits : (stream made : Phys) → made ≡ stream → made.params.user ≡ 0 → nat_lt 0 stream.params.user ≡ false
has_no_bits stream made same none = let P : Phys → Type 0 = λ p. nat_lt 0 p.params.user ≡ false in subst P same (no_bits made.params.user none)

pub user-added : (stream made : Phys) (words : List (List Bool)) (one two three : Pending) (lines with_one with_two new : List Pending) → made ≡ stream → (made.params.user ≡ 0 → ⊥)
    → part_text one ≡ codes "// users " ++ path_text made.path → part_text two ≡ flat_map user_word words → part_text three ≡ codes "\n"
    → with_one ≡ lines ++ one ∷ [] → with_two ≡ with_one ++ two ∷ [] → new ≡ with_two ++ three ∷ []
    → lines_text new ≡ lines_text lines ++ user_line stream words
user-added stream made words one two three lines with_one with_two new same some is_head is_words is_end is_one is_two is_new =
    let test : nat_lt 0 stream.params.user ≡ true = has_bits stream made same some in
    let front = codes "// users " ++ path_text stream.path in
    three-lines one two three lines with_one with_two new is_one is_two is_new
    ∙ ap (λ (l : List ℕ). lines_text lines ++ (l ++ (part_text two ++ part_text three))) (is_head ∙ ap (λ (p : Phys). codes "// users " ++ path_text p.path) same)
    ∙ ap (λ (l : List ℕ). lines_text lines ++ (front ++ (l ++ part_text three))) is_words
    ∙ ap (λ (l : List ℕ). lines_text lines ++ (front ++ (flat_map user_word words ++ l))) is_end
    ∙ ap (λ (l : List ℕ). lines_text lines ++ l) (append_assoc (codes "// users ") (path_text stream.path) (flat_map user_word words ++ codes "\n"))
    ∙ ap (λ (b : Bool). lines_text lines ++ (if b then codes "// users " ++ (path_text stream.path ++ (flat_map user_word words ++ codes "\n")) else [])) (sym test)

pub no_user-added : (stream made : Phys) (words : List (List Bool)) (old : List ℕ) → made ≡ stream → made.params.user ≡ 0 → old ≡ old ++ user_line stream words
no_user-added stream made words old same none =
    let test : nat_lt 0 stream.params.user ≡ false = has_no_bits stream made same none in
    sym (append-nil old)
    ∙ ap (λ (b : Bool). old ++ (if b then codes "// users " ++ (path_text stream.path ++ (flat_map user_word words ++ codes "\n")) else [])) (sym test)

pub users-step : (streams : List Phys) (at : ℕ) (stream : Phys) (left more : List (List (List Bool))) (one made : List (List Bool)) (old new all : List ℕ) → at < length streams
    → stream ≡ get_or streams at stream → left ≡ one ∷ more → made ≡ one → new ≡ old ++ user_line stream made
    → old ++ users_text (drop at streams) left ≡ all → new ++ users_text (drop (at + 1) streams) more ≡ all
users-step streams at stream left more one made old new all within is begins same added before =
    let rest = users_text (drop (at + 1) streams) more in
    ap (λ (l : List ℕ). l ++ rest) (added ∙ ap (λ (w : List (List Bool)). old ++ user_line stream w) same)
    ∙ append_assoc old (user_line stream one) rest
    ∙ ap (λ (l : List (List (List Bool))). old ++ users_text (stream ∷ drop (at + 1) streams) l) (sym begins)
    ∙ ap (λ (s : Phys). old ++ users_text (s ∷ drop (at + 1) streams) left) is
    ∙ ap (λ (ss : List Phys). old ++ users_text ss left) (sym (drop_more streams at stream within)) ∙ before

pub users-few : (streams : List Phys) (at : ℕ) (left : List (List (List Bool))) (old all : List ℕ) → left ≡ [] → old ++ users_text (drop at streams) left ≡ all → old ≡ all
users-few streams at left old all none same =
    sym (append-nil old) ∙ ap (λ (l : List ℕ). old ++ l) (sym (no_words (drop at streams)))
    ∙ ap (λ (l : List (List (List Bool))). old ++ users_text (drop at streams) l) (sym none) ∙ same
  where
    no_words : (ss : List Phys) → users_text ss [] ≡ []
    no_words [] = refl
    no_words (s ∷ ss) = refl

pub users-past : (streams : List Phys) (at : ℕ) (left : List (List (List Bool))) (old all : List ℕ) → length streams ≤ at → old ++ users_text (drop at streams) left ≡ all → old ≡ all
users-past streams at left old all done same =
    sym (append-nil old) ∙ ap (λ (ss : List Phys). old ++ users_text ss left) (sym (drop_all at streams done)) ∙ same
