-- A value that is taken out of a list and put back changed.
use Rattle.std.proofs.Common.{◌≡◌, ◌∙◌, ℕ, zero, suc, ◌+◌, ◌<◌, ◌≤◌, List, [], ◌∷◌, ◌++◌, drop, length, map, take, add-one, refl, sym, ap, subst, arith}
use Rattle.std.specs.List.{slice_index_or}
use Rattle.std.specs.Prelude.{slice_set}
use Rattle.logical_types.specs.Tree.{Ltype, Parts}
use Rattle.logical_types.specs.Tree as types
use Rattle.type_split.specs.Nodes.{number_of_streams}
use Rattle.logical_value.specs.Element.{set_all_apart}
use Rattle.logical_value.specs.Tree.{Tree, Trees, group, no_trees, plain, plain_values, tree}
use Rattle.logical_value.specs.declared.value.Value.{Value}
use Rattle.logical_value.specs.declared.value.Value.TheVariants as made
use Rattle.logical_value.proofs.PlainLemmas.{plain-Group, trees_of-map}
use Rattle.value_views.specs.Taking.{FieldsWait, IsTaken, NestsWait, PartsTaken, Waits}
use Rattle.value_views.proofs.TakingLemmas.{FieldsLeft, NestsLeft, fields_begin, fields_done, fields_next, nests_done, nests_next, nests_start}

-- a list before and after its value at a place was changed: what stands from the place on, up to it, and behind it
pub record SlotChanged (old new : List Value) (at : ℕ) (one value : Value) : Type 0 where
  pub was : drop at old ≡ one ∷ drop (suc at) old
  pub made : take (suc at) new ≡ take at old ++ value ∷ []
  pub left : drop (suc at) new ≡ drop (suc at) old
  pub long : length new ≡ length old

slot-changed : (old : List Value) (at : ℕ) (one gap value : Value) → at < length old → one ≡ slice_index_or old at one → SlotChanged old (slice_set (slice_set old at gap) at value) at one value
slot-changed [] at one gap value within is = absurd (omega (arith, within))
slot-changed (first ∷ old) zero one gap value within is = record { was = ap (λ (v : Value). v ∷ old) (sym is); made = refl; left = refl; long = refl }
slot-changed (first ∷ old) (suc at) one gap value within is =
    let rest = slot-changed old at one gap value (omega (arith, within)) is in
    record { was = rest.was; made = ap (λ (l : List Value). first ∷ l) rest.made; left = rest.left; long = ap suc rest.long }

pub changed-slot : (old taken new : List Value) (at : ℕ) (one gap value : Value) → at < length old → one ≡ slice_index_or old at one → taken ≡ slice_set old at gap → new ≡ slice_set taken at value
    → SlotChanged old new at one value
changed-slot old taken new at one gap value within is out back =
    subst (λ (l : List Value). SlotChanged old l at one value) (sym (back ∙ ap (λ (l : List Value). slice_set l at value) out)) (slot-changed old at one gap value within is)

all-made : (l : List Value) (at : ℕ) → drop at l ≡ [] → take at l ≡ l
all-made [] zero none = refl
all-made [] (suc at) none = refl
all-made (first ∷ l) zero none = sym none
all-made (first ∷ l) (suc at) none = ap (λ (l : List Value). first ∷ l) (all-made l at none)

none-left : (l : List Value) (at : ℕ) → length l ≤ at → drop at l ≡ []
none-left [] zero past = refl
none-left [] (suc at) past = refl
none-left (first ∷ l) zero past = absurd (omega (arith, past))
none-left (first ∷ l) (suc at) past = none-left l at (omega (arith, past))

-- ---- nests, each in its place

-- the nests before this place are filled, and those from it on wait
pub NestsPlaced : (old now : ℕ → List Tree) (number : ℕ) (ltype : Ltype) (depth : ℕ) (l : List Value) (at : ℕ) (values more : List Tree) → Type 0
NestsPlaced old now number ltype depth l at values more = NestsLeft old now number ltype depth (map plain (drop at l)) (take at l) values more

pub placed_nests-start : (old : ℕ → List Tree) (number : ℕ) (ltype : Ltype) (depth : ℕ) (l : List Value) (values more : List Tree) → NestsWait old number ltype depth (map plain l) values more
    → NestsPlaced old old number ltype depth l 0 values more
unfolding NestsPlaced
placed_nests-start old number ltype depth l values more waits = nests_start old number ltype depth (map plain l) [] values more refl waits

pub placed_nests-next : (old now new : ℕ → List Tree) (number : ℕ) (ltype : Ltype) (depth : ℕ) (l next : List Value) (at : ℕ) (one value : Value) (values more : List Tree) → SlotChanged l next at one value
    → ((v : Tree) (m : List Tree) → NestsWait now number ltype depth (plain one ∷ []) (v ∷ []) m → (plain value ≡ v) × IsTaken now new number ltype m)
    → NestsPlaced old now number ltype depth l at values more → NestsPlaced old new number ltype depth next (at + 1) values more
unfolding NestsPlaced
placed_nests-next old now new number ltype depth l next at one value values more changed fills done =
    subst (λ (n : ℕ). NestsLeft old new number ltype depth (map plain (drop n next)) (take n next) values more) (sym (add-one at))
    (nests_next old now new number ltype depth (plain one) (map plain (drop at l)) (map plain (drop (suc at) next)) (take at l) (take (suc at) next) value values more
    (ap (map plain) changed.was ∙ ap (λ (l : List Value). plain one ∷ map plain l) (sym changed.left)) changed.made fills done)

pub placed_nests-done : (old now : ℕ → List Tree) (number : ℕ) (ltype : Ltype) (depth : ℕ) (l : List Value) (at : ℕ) (values more : List Tree) → length l ≤ at
    → NestsPlaced old now number ltype depth l at values more → (map plain l ≡ values) × IsTaken old now number ltype more
unfolding NestsPlaced
placed_nests-done old now number ltype depth l at values more past done =
    let none = none-left l at past in
    let both = nests_done old now number ltype depth (map plain (drop at l)) (take at l) values more (ap (map plain) none) done in
    (ap (map plain) (sym (all-made l at none)) ∙ both.0, both.1)

-- ---- fields, each in its place

-- the fields before this place are filled, and those from it on wait
pub FieldsPlaced : (old now : ℕ → List Tree) (start next : ℕ) (all left_parts : Parts) (l : List Value) (at : ℕ) (some : Trees) (more : List Tree) → Type 0
FieldsPlaced old now start next all left_parts l at some more = FieldsLeft old now start next all left_parts (plain_values (drop at l)) [] (take at l) some more

pub placed_fields-start : (old : ℕ → List Tree) (start : ℕ) (all : Parts) (l : List Value) (some : Trees) (more : List Tree) → FieldsWait old start all (plain_values l) some more
    → FieldsPlaced old old start start all all l 0 some more
unfolding FieldsPlaced
placed_fields-start old start all l some more waits = fields_begin old start all (plain_values l) [] some more waits

pub placed_fields-next : (old mid now : ℕ → List Tree) (start next later : ℕ) (all left_parts rest : Parts) (name : List ℕ) (ltype : Ltype) (l new : List Value) (at : ℕ) (one value : Value)
    (some : Trees) (more : List Tree) → left_parts ≡ types.part name ltype rest → later ≡ number_of_streams ltype + next → SlotChanged l new at one value
    → ((v : Tree) (m : List Tree) → Waits mid next ltype (plain one) v m → (plain value ≡ v) × IsTaken mid now next ltype m)
    → FieldsPlaced old mid start next all left_parts l at some more → FieldsPlaced old now start later all rest new (at + 1) some more
unfolding FieldsPlaced
placed_fields-next old mid now start next later all left_parts rest name ltype l new at one value some more parts-is later-is changed fills done =
    subst (λ (n : ℕ). FieldsLeft old now start later all rest (plain_values (drop n new)) [] (take n new) some more) (sym (add-one at))
    (fields_next old mid now start next later all left_parts rest name ltype (plain_values (drop at l)) (plain_values (drop (suc at) new)) (plain one) [] (take at l) (take (suc at) new) value some more
    parts-is (ap plain_values changed.was ∙ ap (λ (l : List Value). tree (plain one) (plain_values l)) (sym changed.left)) changed.made later-is fills done)

-- no field waits behind the last part
ended : (now : ℕ → List Tree) (next : ℕ) (left_parts : Parts) (l some : Trees) (more : List Tree) → left_parts ≡ types.no_parts → FieldsWait now next left_parts l some more → l ≡ no_trees
ended now next left_parts l some more none waits = last some (subst (λ (p : Parts). FieldsWait now next p l some more) none waits)
  where
    last : (some : Trees) → FieldsWait now next types.no_parts l some more → l ≡ no_trees
    last no_trees waits = sym waits.same
    last (tree x xs) waits = absurd waits.elements

no-values : (l : List Value) → plain_values l ≡ no_trees → l ≡ []
no-values [] is = refl
no-values (first ∷ l) is = cc

pub placed_fields-done : (old now : ℕ → List Tree) (start next : ℕ) (all left_parts : Parts) (l : List Value) (at : ℕ) (some : Trees) (more : List Tree) → left_parts ≡ types.no_parts
    → FieldsPlaced old now start next all left_parts l at some more → (plain_values l ≡ some) × PartsTaken old now start all more
unfolding FieldsPlaced
placed_fields-done old now start next all left_parts l at some more none done =
    let nothing = no-values (drop at l) (ended now next left_parts (plain_values (drop at l)) done.some_left done.more_left none done.waits) in
    let both = fields_done old now start next all left_parts (plain_values (drop at l)) [] (take at l) some more none done in
    (ap plain_values (sym (all-made l at nothing)) ∙ sym (trees_of-map (take at l)) ∙ both.0, both.1)

-- ---- a value of a Group

pub record GroupWaits (old : ℕ → List Tree) (number : ℕ) (parts : Parts) (ones : Trees) (value : Tree) (more : List Tree) : Type 0 where
  pub inner : Trees
  pub whole : value ≡ group inner
  pub waits : FieldsWait old number parts ones inner more

group-waits : (old : ℕ → List Tree) (number : ℕ) (parts : Parts) (one : Tree) (ones : Trees) (value : Tree) (more : List Tree) → one ≡ group ones → Waits old number (types.group parts) one value more
    → GroupWaits old number parts ones value more
group-waits old number parts one ones (group values) more is waits =
    let both : group (set_all_apart parts values) ≡ group ones = waits.same ∙ is in
    let same : set_all_apart parts values ≡ ones = cc in
    record { inner = values; whole = refl; waits = record { elements = waits.element; same = same; takes = waits.takes } }
group-waits old number parts one ones value more is waits = absurd waits.element

-- a Group whose fields were filled
pub group-filled : (old new : ℕ → List Tree) (number : ℕ) (parts : Parts) (one : Tree) (ones : Trees) (value : Tree) (more : List Tree) (filled : List Value) → one ≡ group ones
    → Waits old number (types.group parts) one value more
    → ((some : Trees) (m : List Tree) → FieldsWait old number parts ones some m → (plain_values filled ≡ some) × PartsTaken old new number parts m)
    → (plain (made.Group filled) ≡ value) × IsTaken old new number (types.group parts) more
group-filled old new number parts one ones value more filled is waits fills =
    let cut = group-waits old number parts one ones value more is waits in
    let both = fills cut.inner more cut.waits in
    (plain-Group filled ∙ ap group both.0 ∙ sym cut.whole, record { takes = both.1.takes; kept = both.1.kept })
