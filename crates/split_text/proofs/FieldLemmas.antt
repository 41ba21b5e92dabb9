-- The fields of an element, part by part.
use Rattle.std.proofs.Common.{◌≡◌, ℕ, ◌+◌, ◌<◌, ◌≤◌, List, [], ◌∷◌, ◌++◌, filter, length, get_or, drop, refl, sym, ap, ◌∙◌, subst, arith, append_assoc}
use Rattle.std.proofs.lemmas.List.Elements.{filter-append}
use Rattle.std.proofs.lemmas.List.{append-nil}
use Rattle.tydi_base.specs.Width.{index_width}
use Rattle.logical_types.specs.declared.ltype.Part.{Part}
use Rattle.logical_types.specs.Tree.{Ltype, null, bits, group, union, stream, Parts, no_parts, part, number_of_parts, plain, plain_parts}
use Rattle.logical_types.specs.Width.{tag_width, width_of, total_width, greatest_width}
use Rattle.logical_types.proofs.PlainLemmas.{number_of_parts-plain, plain_parts-at, plain_parts-past}
use Rattle.split_text.specs.declared.fields.Field.{Field}
use Rattle.split_text.specs.Fields.{field, tag_in, union_in, fields_at, fields_of_parts, has_bits, AreSideBySide}

-- ---- a Union

pub union_width-is : (parts : Parts) → width_of (union parts) ≡ index_width (number_of_parts parts) + greatest_width parts
unfolding tag_width
union_width-is parts = refl

-- the fields found for a Union's tag and room are its fields
pub union_fields-are : (names : List (List ℕ)) (offset : ℕ) (parts : List Part) (tag shared room : ℕ) → tag ≡ index_width (length parts) → shared ≡ offset + tag → room ≡ greatest_width (plain_parts parts)
    → field (tag_in names) offset tag ∷ field (union_in names) shared room ∷ [] ≡ fields_at names offset (union (plain_parts parts))
unfolding tag_width
union_fields-are names offset parts tag shared room tag_is shared_is room_is =
    let width : ℕ → List Field = λ k. field (tag_in names) offset k ∷ field (union_in names) (offset + k) (greatest_width (plain_parts parts)) ∷ [] in
    ap (λ (n : ℕ). field (tag_in names) offset tag ∷ field (union_in names) n room ∷ []) shared_is
    ∙ ap (λ (n : ℕ). field (tag_in names) offset tag ∷ field (union_in names) (offset + tag) n ∷ []) room_is
    ∙ ap width (tag_is ∙ ap index_width (sym (number_of_parts-plain parts)))

-- ---- fields added one after another

pub adds-then : (old middle new one other : List Field) → middle ≡ old ++ filter has_bits one → new ≡ middle ++ filter has_bits other → new ≡ old ++ filter has_bits (one ++ other)
adds-then old middle new one other first second =
    second ∙ ap (λ (l : List Field). l ++ filter has_bits other) first ∙ append_assoc old (filter has_bits one) (filter has_bits other)
    ∙ ap (λ (l : List Field). old ++ l) (sym (filter-append has_bits one other))

-- ---- parts of a list from an index on

pub total_width-at : (parts : List Part) (at : ℕ) (one : Part) → at < length parts → one ≡ get_or parts at one
    → total_width (plain_parts (drop at parts)) ≡ width_of (plain one.ltype) + total_width (plain_parts (drop (at + 1) parts))
total_width-at parts at one within is = ap total_width (plain_parts-at parts at one within is)

pub total_width-past : (parts : List Part) (at : ℕ) → length parts ≤ at → total_width (plain_parts (drop at parts)) ≡ 0
total_width-past parts at done = ap total_width (plain_parts-past parts at done)

pub fields-at : (names : List (List ℕ)) (offset : ℕ) (parts : List Part) (at : ℕ) (one : Part) → at < length parts → one ≡ get_or parts at one
    → fields_of_parts names offset (plain_parts (drop at parts))
    ≡ fields_at (names ++ one.name ∷ []) offset (plain one.ltype) ++ fields_of_parts names (offset + width_of (plain one.ltype)) (plain_parts (drop (at + 1) parts))
fields-at names offset parts at one within is = ap (fields_of_parts names offset) (plain_parts-at parts at one within is)

pub fields-past : (names : List (List ℕ)) (offset : ℕ) (parts : List Part) (at : ℕ) → length parts ≤ at → fields_of_parts names offset (plain_parts (drop at parts)) ≡ []
fields-past names offset parts at done = ap (fields_of_parts names offset) (plain_parts-past parts at done)

-- the parts that are left lie behind those whose fields were added; with theirs all fields are there
pub record AreLeft (all_names names : List (List ℕ)) (all fields : List Field) (end limit : ℕ) (rest : Parts) : Type 0 where
  pub same : names ≡ all_names
  pub room : end + total_width rest ≡ limit
  pub added : fields ++ filter has_bits (fields_of_parts names end rest) ≡ all

-- all parts are left at first
pub AreLeft-all : (names : List (List ℕ)) (fields : List Field) (offset : ℕ) (parts : Parts)
    → AreLeft names names (fields ++ filter has_bits (fields_of_parts names offset parts)) fields offset (offset + total_width parts) parts
AreLeft-all names fields offset parts = record { same = refl; room = refl; added = refl }

-- the fields of the part at an index are added, and the parts behind it are left
pub AreLeft-step : (all_names names new_names : List (List ℕ)) (all fields new : List Field) (end next limit : ℕ) (parts : List Part) (at : ℕ) (one : Part)
    → at < length parts → one ≡ get_or parts at one → limit ≤ 4096 → AreLeft all_names names all fields end limit (plain_parts (drop at parts))
    → (end + width_of (plain one.ltype) ≤ 4096 → (next ≡ end + width_of (plain one.ltype)) × ((new_names ≡ names) × (new ≡ fields ++ filter has_bits (fields_at (names ++ one.name ∷ []) end (plain one.ltype)))))
    → AreLeft all_names new_names all new next limit (plain_parts (drop (at + 1) parts))
AreLeft-step all_names names new_names all fields new end next limit parts at one within is most left step =
    let widths = total_width-at parts at one within is in
    let here = fields_at (names ++ one.name ∷ []) end (plain one.ltype) in
    let rest : ℕ → List Field = λ n. fields_of_parts names n (plain_parts (drop (at + 1) parts)) in
    let added = step (omega (arith, left.room, widths)) in
    record {
      same = added.1.0 ∙ left.same;
      room = omega (arith, left.room, widths, added.0);
      added = ap (λ (n : List (List ℕ)). new ++ filter has_bits (fields_of_parts n next (plain_parts (drop (at + 1) parts)))) added.1.0
          ∙ ap (λ (n : ℕ). new ++ filter has_bits (rest n)) added.0
          ∙ ap (λ (l : List Field). l ++ filter has_bits (rest (end + width_of (plain one.ltype)))) added.1.1
          ∙ append_assoc fields (filter has_bits here) (filter has_bits (rest (end + width_of (plain one.ltype))))
          ∙ ap (λ (l : List Field). fields ++ l) (sym (filter-append has_bits here (rest (end + width_of (plain one.ltype)))) ∙ ap (filter has_bits) (sym (fields-at names end parts at one within is)))
          ∙ left.added;
    }

-- no part is left
pub AreLeft-none : (all_names names : List (List ℕ)) (all fields : List Field) (end limit : ℕ) (parts : List Part) (at : ℕ) → length parts ≤ at
    → AreLeft all_names names all fields end limit (plain_parts (drop at parts)) → (end ≡ limit) × ((names ≡ all_names) × (fields ≡ all))
AreLeft-none all_names names all fields end limit parts at done left =
    let none = total_width-past parts at done in
    (omega (arith, left.room, none), (left.same, sym (append-nil fields) ∙ ap (λ (l : List Field). fields ++ filter has_bits l) (sym (fields-past names end parts at done)) ∙ left.added))

-- ---- side by side

side_by_side-then : (begin middle end : ℕ) (one other : List Field) → AreSideBySide begin one middle → AreSideBySide middle other end → AreSideBySide begin (one ++ other) end
side_by_side-then begin middle end [] other first second = subst (λ (n : ℕ). AreSideBySide n other end) (sym first) second
side_by_side-then begin middle end (f ∷ more) other first second = (first.0, side_by_side-then (begin + f.width) middle end more other first.1 second)

side_by_side-to : (begin end other : ℕ) (l : List Field) → end ≡ other → AreSideBySide begin l end → AreSideBySide begin l other
side_by_side-to begin end other l same side = subst (λ (n : ℕ). AreSideBySide begin l n) same side

mutual
  fields_at-side_by_side : (names : List (List ℕ)) (offset : ℕ) (t : Ltype) → AreSideBySide offset (fields_at names offset t) (offset + width_of t)
  fields_at-side_by_side names offset null = omega arith
  fields_at-side_by_side names offset (bits width) = (refl, refl)
  fields_at-side_by_side names offset (group parts) = fields_of_parts-side_by_side names offset parts
  fields_at-side_by_side names offset (union parts) = (refl, (refl, omega arith))
  fields_at-side_by_side names offset (stream element user settings) = omega arith

  fields_of_parts-side_by_side : (names : List (List ℕ)) (offset : ℕ) (parts : Parts) → AreSideBySide offset (fields_of_parts names offset parts) (offset + total_width parts)
  fields_of_parts-side_by_side names offset no_parts = omega arith
  fields_of_parts-side_by_side names offset (part name ltype more) =
      side_by_side-to offset (offset + width_of ltype + total_width more) (offset + (width_of ltype + total_width more))
      (fields_at (names ++ name ∷ []) offset ltype ++ fields_of_parts names (offset + width_of ltype) more) (omega arith)
      (side_by_side-then offset (offset + width_of ltype) (offset + width_of ltype + total_width more) (fields_at (names ++ name ∷ []) offset ltype)
      (fields_of_parts names (offset + width_of ltype) more) (fields_at-side_by_side (names ++ name ∷ []) offset ltype)
      (fields_of_parts-side_by_side names (offset + width_of ltype) more))

pub all_fields-side_by_side : (t : Ltype) → AreSideBySide 0 (fields_at [] 0 t) (width_of t)
all_fields-side_by_side t = side_by_side-to 0 (0 + width_of t) (width_of t) (fields_at [] 0 t) (omega arith) (fields_at-side_by_side [] 0 t)
