-- Queues, part by part.
use Rattle.std.proofs.Common.{inl, inr, ◌≡◌, ◌∙◌, ◌≤◌, ◌<◌, ℕ, zero, suc, ◌+◌, ◌-◌, Bool, true, false, List, [], ◌∷◌, ◌++◌, refl, sym, ap, subst, arith}
use Rattle.std.specs.Prelude.{map, Result, Ok, Err, IfOk}
use Rattle.logical_types.specs.Synchronicity.{is_apart}
use Rattle.std.specs.List.{filter_map}
use Rattle.logical_types.specs.Tree.{Ltype, Parts}
use Rattle.logical_types.specs.Tree as types
use Rattle.type_split.specs.Nodes.{number_of_streams, streams_in_parts}
use Rattle.logical_value.specs.Element.{set_variant_apart}
use Rattle.logical_value.specs.Tree.{Tree, group, union, Trees, no_trees, tree, trees_of, plain}
use Rattle.logical_value.specs.declared.value.Value.{Value}
use Rattle.logical_value.specs.declared.value.Value.TheVariants as made
use Rattle.logical_value.proofs.PlainLemmas.{plain-List, trees_of-map}
use Rattle.std.proofs.Common.{append_assoc}
use Rattle.std.proofs.lemmas.List.{append-nil, map-append}
use Rattle.logical_value.specs.Tree.{list, members}
use Rattle.logical_value.specs.Element.{IsElement, set_apart}
use Rattle.value_views.specs.Series.{first_part, leaves, listed, other_parts}
use Rattle.value_views.specs.Shown.{AreNests, Elements}
use Rattle.value_views.specs.Words.{in_nest}
use Rattle.value_views.proofs.NestLemmas.{each_split, nests-append}
use Rattle.value_views.proofs.SeriesLemmas.{leaves-append, leaves-nil, members-listed}
use Rattle.value_views.specs.Taking.{Takes, TakeParts, Kept, Waits, IsTaken, FieldsWait, VariantWaits, PartsTaken, AreAdded, joined_trees, NestsWait}

-- the nests taken depend on these queues alone
mutual
  pub takes-frame : (old new : ℕ → List Tree) (number : ℕ) (ltype : Ltype) (values : List Tree)
      → ((k : ℕ) → number ≤ k → k < number_of_streams ltype + number → new k ≡ old k) → Takes old number ltype values → Takes new number ltype values
  takes-frame old new number types.null values same takes = tt
  takes-frame old new number (types.bits width) values same takes = tt
  takes-frame old new number (types.group parts) values same takes = parts-frame old new number parts values same takes
  takes-frame old new number (types.union parts) values same takes = parts-frame old new number parts values same takes
  takes-frame old new number (types.stream element user settings) values same takes =
      (takes.0, λ tied. same number (omega arith) (omega arith) ∙ takes.1 tied)

  pub parts-frame : (old new : ℕ → List Tree) (number : ℕ) (parts : Parts) (values : List Tree)
      → ((k : ℕ) → number ≤ k → k < streams_in_parts parts + number → new k ≡ old k) → TakeParts old number parts values → TakeParts new number parts values
  parts-frame old new number types.no_parts values same takes = tt
  parts-frame old new number (types.part name ltype more) values same takes = (
    takes-frame old new number ltype (filter_map first_part values) (λ k low high. same k low (omega (arith, high))) takes.0,
    parts-frame old new (number_of_streams ltype + number) more (filter_map other_parts values) (λ k low high. same k (omega (arith, low)) (omega (arith, high))) takes.1,
  )

-- ---- fields, the first and the others

pub record FieldsCut (queues : ℕ → List Tree) (number : ℕ) (name : List ℕ) (ltype : Ltype) (more : Parts) (plain : Tree) (plains values : Trees) (rest : List Tree) : Type 0 where
  pub first : Tree
  pub others : Trees
  pub whole : values ≡ tree first others
  pub waits : Waits queues number ltype plain first (filter_map first_part rest)
  pub wait : FieldsWait queues (number_of_streams ltype + number) more plains others (filter_map other_parts rest)

pub cut_fields : (queues : ℕ → List Tree) (number : ℕ) (name : List ℕ) (ltype : Ltype) (more : Parts) (plain : Tree) (plains values : Trees) (rest : List Tree)
    → FieldsWait queues number (types.part name ltype more) (tree plain plains) values rest → FieldsCut queues number name ltype more plain plains values rest
cut_fields queues number name ltype more plain plains no_trees rest is = absurd is.elements
cut_fields queues number name ltype more plain plains (tree x xs) rest is =
    let e = is.same in
    record {
      first = x;
      others = xs;
      whole = refl;
      waits = record { element = is.elements.0; same = cc; takes = is.takes.0 };
      wait = record { elements = is.elements.1; same = cc; takes = is.takes.1 };
    }

-- the others wait as before where the first was taken
pub others_wait : (old new : ℕ → List Tree) (number : ℕ) (ltype : Ltype) (more : Parts) (plains values : Trees) (firsts rest : List Tree) → IsTaken old new number ltype firsts
    → FieldsWait old (number_of_streams ltype + number) more plains values rest → FieldsWait new (number_of_streams ltype + number) more plains values rest
others_wait old new number ltype more plains values firsts rest taken waits = record {
  elements = waits.elements;
  same = waits.same;
  takes = parts-frame old new (number_of_streams ltype + number) more (group values ∷ rest) (λ k low high. taken.kept k (inr low)) waits.takes;
}

pub both_taken : (old mid new : ℕ → List Tree) (number : ℕ) (name : List ℕ) (ltype : Ltype) (more : Parts) (rest : List Tree) → IsTaken old mid number ltype (filter_map first_part rest)
    → PartsTaken mid new (number_of_streams ltype + number) more (filter_map other_parts rest) → PartsTaken old new number (types.part name ltype more) rest
both_taken old mid new number name ltype more rest first others = record {
  takes = (
    takes-frame mid new number ltype (filter_map first_part rest) (λ k low high. others.kept k (inl high)) first.takes,
    others.takes,
  );
  kept = λ k outside. elim outside [
    | inl below ↦ others.kept k (inl (omega (arith, below))) ∙ first.kept k (inl below)
    | inr above ↦ others.kept k (inr (omega (arith, above))) ∙ first.kept k (inr (omega (arith, above)))
  ];
}

-- ---- what the code does

map_ok : {A E : Type 0} (r : Result A E) (P Q : A → Type 0) → ((a : A) → P a → Q a) → IfOk r P → IfOk r Q
map_ok (Ok a) P Q each p = each a p
map_ok (Err e) P Q each p = tt

not_both : {Z : Type 0} → (b : Bool) → b ≡ true → b ≡ false → Z
not_both b yes' no' = cc

pub taken_stream : (old new : ℕ → List Tree) (number : ℕ) (element user : Ltype) (settings : types.Settings) (one value : Tree) (more : List Tree) {E : Type 0} (result : Result Value E)
    → is_apart settings.sync ≡ false → Waits old number (types.stream element user settings) one value more
    → ((v : Tree) (m : List Tree) → old number ≡ v ∷ m → IfOk result (λ taken. (plain taken ≡ v) × (new number ≡ m) × Kept number (1 + number) old new))
    → IfOk result (λ filled. (plain filled ≡ value) × IsTaken old new number (types.stream element user settings) more)
taken_stream old new number element user settings one value more result tied waits takes =
    map_ok result (λ taken. (plain taken ≡ value) × (new number ≡ more) × Kept number (1 + number) old new)
    (λ filled. (plain filled ≡ value) × IsTaken old new number (types.stream element user settings) more)
    (λ filled is. (
      is.0,
      record {
        takes = (λ t. not_both (is_apart settings.sync) t tied, λ _. is.1);
        kept = λ k outside. elim outside [ inl below ↦ is.2 k (inl below) | inr above ↦ is.2 k (inr (omega (arith, above))) ];
      },
    ))
    (takes value more (waits.takes.1 tied))

joined_more : (filled : List Value) (value : Value) (some : Trees) → joined_trees (map plain (filled ++ value ∷ [])) some ≡ joined_trees (map plain filled) (tree (plain value) some)
joined_more [] value some = refl
joined_more (first ∷ filled) value some = ap (tree (plain first)) (joined_more filled value some)

pub joined_none : (filled : List Value) → trees_of (map plain filled) ≡ joined_trees (map plain filled) no_trees
joined_none [] = refl
joined_none (first ∷ filled) = ap (tree (plain first)) (joined_none filled)

pub fields_end : (old : ℕ → List Tree) (number : ℕ) (parts : Parts) (ones some : Trees) (rest : List Tree) (filled : List Value) → parts ≡ types.no_parts → FieldsWait old number parts ones some rest
    → AreAdded filled filled some × PartsTaken old old number parts rest
fields_end old number parts ones some rest filled none waits =
    subst (λ (p : Parts). AreAdded filled filled some × PartsTaken old old number p rest) (sym none) (ended some (subst (λ (p : Parts). FieldsWait old number p ones some rest) none waits))
  where
    ended : (some : Trees) → FieldsWait old number types.no_parts ones some rest → AreAdded filled filled some × PartsTaken old old number types.no_parts rest
    ended no_trees waits = (joined_none filled, record { takes = tt; kept = λ k outside. refl })
    ended (tree x xs) waits = absurd waits.elements

pub fields_step : (old mid new : ℕ → List Tree) (number : ℕ) (name : List ℕ) (ltype : Ltype) (more all : Parts) (one : Tree) (ones all_ones some : Trees) (rest : List Tree)
    (filled added after : List Value) (value : Value) (next : ℕ) {A E : Type 0} (result : Result A E)
    → all ≡ types.part name ltype more → all_ones ≡ tree one ones → added ≡ filled ++ value ∷ [] → next ≡ number_of_streams ltype + number
    → ((v : Tree) (m : List Tree) → Waits old number ltype one v m → (plain value ≡ v) × IsTaken old mid number ltype m)
    → ((s : Trees) (m : List Tree) → FieldsWait mid next more ones s m → IfOk result (λ _. AreAdded added after s × PartsTaken mid new next more m))
    → FieldsWait old number all all_ones some rest
    → IfOk result (λ _. AreAdded filled after some × PartsTaken old new number all rest)
fields_step old mid new number name ltype more all one ones all_ones some rest filled added after value next result all-is ones-is added-is next-is first others waits =
    let waits' : FieldsWait old number (types.part name ltype more) (tree one ones) some rest =
    subst (λ (p : Parts). FieldsWait old number p (tree one ones) some rest) all-is (subst (λ (t : Trees). FieldsWait old number all t some rest) ones-is waits) in
    let cut = cut_fields old number name ltype more one ones some rest waits' in
    let here = first cut.first (filter_map first_part rest) cut.waits in
    let there = others_wait old mid number ltype more ones cut.others (filter_map first_part rest) (filter_map other_parts rest) here.1 cut.wait in
    map_ok result (λ _. AreAdded added after cut.others × PartsTaken mid new next more (filter_map other_parts rest)) (λ _. AreAdded filled after some × PartsTaken old new number all rest)
    (λ _ is. (
      is.0 ∙ ap (λ (l : List Value). joined_trees (map plain l) cut.others) added-is ∙ joined_more filled value cut.others
          ∙ ap (λ (v : Tree). joined_trees (map plain filled) (tree v cut.others)) here.0 ∙ ap (joined_trees (map plain filled)) (sym cut.whole),
      subst (λ (p : Parts). PartsTaken old new number p rest) (sym all-is)
          (both_taken old mid new number name ltype more rest here.1
          (subst (λ (n : ℕ). PartsTaken mid new n more (filter_map other_parts rest)) next-is is.1)),
    ))
    (others cut.others (filter_map other_parts rest) (subst (λ (n : ℕ). FieldsWait mid n more ones cut.others (filter_map other_parts rest)) (sym next-is) there))

-- ---- a loop over fields: how far it has come

pub record FieldsLeft (old now : ℕ → List Tree) (start next : ℕ) (all left_parts : Parts) (left_ones : Trees) (before filled : List Value) (some : Trees) (more : List Tree) : Type 0 where
  pub some_left : Trees
  pub more_left : List Tree
  pub waits : FieldsWait now next left_parts left_ones some_left more_left
  pub goes : (after : List Value) (new : ℕ → List Tree) → AreAdded filled after some_left → PartsTaken now new next left_parts more_left → AreAdded before after some × PartsTaken old new start all more

pub fields_begin : (old : ℕ → List Tree) (start : ℕ) (all : Parts) (ones : Trees) (before : List Value) (some : Trees) (more : List Tree) → FieldsWait old start all ones some more
    → FieldsLeft old old start start all all ones before before some more
fields_begin old start all ones before some more waits = record { some_left = some; more_left = more; waits = waits; goes = λ after new added taken. (added, taken) }

pub fields_next : (old mid now : ℕ → List Tree) (start next later : ℕ) (all left_parts rest : Parts) (name : List ℕ) (ltype : Ltype) (left_ones others : Trees) (one : Tree)
    (before filled added : List Value) (value : Value) (some : Trees) (more : List Tree)
    → left_parts ≡ types.part name ltype rest → left_ones ≡ tree one others → added ≡ filled ++ value ∷ [] → later ≡ number_of_streams ltype + next
    → ((v : Tree) (m : List Tree) → Waits mid next ltype one v m → (plain value ≡ v) × IsTaken mid now next ltype m)
    → FieldsLeft old mid start next all left_parts left_ones before filled some more
    → FieldsLeft old now start later all rest others before added some more
fields_next old mid now start next later all left_parts rest name ltype left_ones others one before filled added value some more parts-is ones-is added-is later-is first l =
    let waits : FieldsWait mid next (types.part name ltype rest) (tree one others) l.some_left l.more_left =
    subst (λ (p : Parts). FieldsWait mid next p (tree one others) l.some_left l.more_left) parts-is
    (subst (λ (t : Trees). FieldsWait mid next left_parts t l.some_left l.more_left) ones-is l.waits) in
    let cut = cut_fields mid next name ltype rest one others l.some_left l.more_left waits in
    let here = first cut.first (filter_map first_part l.more_left) cut.waits in
    let there = others_wait mid now next ltype rest others cut.others (filter_map first_part l.more_left) (filter_map other_parts l.more_left) here.1 cut.wait in
    record {
      some_left = cut.others;
      more_left = filter_map other_parts l.more_left;
      waits = subst (λ (n : ℕ). FieldsWait now n rest others cut.others (filter_map other_parts l.more_left)) (sym later-is) there;
      goes = λ after new is taken. l.goes after new
          (is ∙ ap (λ (l : List Value). joined_trees (map plain l) cut.others) added-is ∙ joined_more filled value cut.others
          ∙ ap (λ (v : Tree). joined_trees (map plain filled) (tree v cut.others)) here.0 ∙ ap (joined_trees (map plain filled)) (sym cut.whole))
          (subst (λ (p : Parts). PartsTaken mid new next p l.more_left) (sym parts-is)
          (both_taken mid now new next name ltype rest l.more_left here.1
          (subst (λ (n : ℕ). PartsTaken now new n rest (filter_map other_parts l.more_left)) later-is taken)));
    }

pub fields_done : (old now : ℕ → List Tree) (start next : ℕ) (all left_parts : Parts) (left_ones : Trees) (before filled : List Value) (some : Trees) (more : List Tree)
    → left_parts ≡ types.no_parts → FieldsLeft old now start next all left_parts left_ones before filled some more
    → AreAdded before filled some × PartsTaken old now start all more
fields_done old now start next all left_parts left_ones before filled some more none l =
    let ended = fields_end now next left_parts left_ones l.some_left l.more_left filled none l.waits in l.goes filled now ended.0 ended.1

-- ---- a loop over variants: how far it has come

pub record VariantLeft (old : ℕ → List Tree) (start next : ℕ) (all left_parts : Parts) (tag : ℕ) (one value : Tree) (more : List Tree) : Type 0 where
  pub more_left : List Tree
  pub waits : VariantWaits old next left_parts tag one value more_left
  pub goes : (new : ℕ → List Tree) → PartsTaken old new next left_parts more_left → PartsTaken old new start all more

pub variant_begin : (old : ℕ → List Tree) (start : ℕ) (all : Parts) (tag : ℕ) (one value : Tree) (more : List Tree) → VariantWaits old start all tag one value more
    → VariantLeft old start start all all tag one value more
variant_begin old start all tag one value more waits = record { more_left = more; waits = waits; goes = λ new taken. taken }

pub variant_next : (old : ℕ → List Tree) (start next later : ℕ) (all left_parts rest : Parts) (name : List ℕ) (ltype : Ltype) (tag : ℕ) (one value : Tree) (more : List Tree)
    → left_parts ≡ types.part name ltype rest → later ≡ number_of_streams ltype + next → (tag ≡ 0 → ⊥)
    → VariantLeft old start next all left_parts tag one value more → VariantLeft old start later all rest (tag - 1) one value more
variant_next old start next later all left_parts rest name ltype zero one value more parts-is later-is some l = absurd (some refl)
variant_next old start next later all left_parts rest name ltype (suc tag) one value more parts-is later-is some l =
    let waits : VariantWaits old next (types.part name ltype rest) (suc tag) one value l.more_left = subst (λ (p : Parts). VariantWaits old next p (suc tag) one value l.more_left) parts-is l.waits in
    let less : tag ≡ suc tag - 1 = omega arith in
    record {
      more_left = filter_map other_parts l.more_left;
      waits = subst (λ (n : ℕ). VariantWaits old n rest (suc tag - 1) one value (filter_map other_parts l.more_left)) (sym later-is)
          (subst (λ (t : ℕ). VariantWaits old (number_of_streams ltype + next) rest t one value (filter_map other_parts l.more_left)) less
          (record { element = waits.element; same = waits.same; takes = waits.takes.1 }));
      goes = λ new taken.
          let there = subst (λ (n : ℕ). PartsTaken old new n rest (filter_map other_parts l.more_left)) later-is taken in
          l.goes new (subst (λ (p : Parts). PartsTaken old new next p l.more_left) (sym parts-is) (record {
            takes = (takes-frame old new next ltype (filter_map first_part l.more_left) (λ k low high. there.kept k (inl high)) waits.takes.0, there.takes);
            kept = λ k outside. elim outside [ inl below ↦ there.kept k (inl (omega (arith, below))) | inr above ↦ there.kept k (inr (omega (arith, above))) ];
          }));
    }

pub variant_here : (old new : ℕ → List Tree) (start next : ℕ) (all left_parts rest : Parts) (name : List ℕ) (ltype : Ltype) (tag : ℕ) (one value : Tree) (more : List Tree) {E : Type 0} (result : Result Value E)
    → left_parts ≡ types.part name ltype rest → tag ≡ 0 → VariantLeft old start next all left_parts tag one value more
    → ((v : Tree) (m : List Tree) → Waits old next ltype one v m → IfOk result (λ filled. (plain filled ≡ v) × IsTaken old new next ltype m))
    → IfOk result (λ filled. (plain filled ≡ value) × PartsTaken old new start all more)
variant_here old new start next all left_parts rest name ltype tag one value more result parts-is none l fills =
    let waits : VariantWaits old next (types.part name ltype rest) 0 one value l.more_left =
    subst (λ (t : ℕ). VariantWaits old next (types.part name ltype rest) t one value l.more_left) none
    (subst (λ (p : Parts). VariantWaits old next p tag one value l.more_left) parts-is l.waits) in
    map_ok result (λ filled. (plain filled ≡ value) × IsTaken old new next ltype (filter_map first_part l.more_left)) (λ filled. (plain filled ≡ value) × PartsTaken old new start all more)
    (λ filled is. (
      is.0,
      l.goes new (subst (λ (p : Parts). PartsTaken old new next p l.more_left) (sym parts-is) (record {
        takes = (is.1.takes, parts-frame old new (number_of_streams ltype + next) rest (filter_map other_parts l.more_left) (λ k low high. is.1.kept k (inr low)) waits.takes.1);
        kept = λ k outside. elim outside [ inl below ↦ is.1.kept k (inl below) | inr above ↦ is.1.kept k (inr (omega (arith, above))) ];
      })),
    ))
    (fills value (filter_map first_part l.more_left) (record { element = waits.element; same = waits.same; takes = waits.takes.0 }))

-- ---- a value of a Union

pub record UnionWaits (old : ℕ → List Tree) (number : ℕ) (parts : Parts) (tag : ℕ) (one value : Tree) (more : List Tree) : Type 0 where
  pub inner : Tree
  pub whole : value ≡ union tag inner
  pub waits : VariantWaits old number parts tag one inner more

pub union_waits : (old : ℕ → List Tree) (number : ℕ) (parts : Parts) (tag : ℕ) (plain-one one value : Tree) (more : List Tree) → plain-one ≡ union tag one
    → Waits old number (types.union parts) plain-one value more → UnionWaits old number parts tag one value more
union_waits old number parts tag plain-one one (union tag' v) more is waits =
    let e : union tag' (set_variant_apart parts tag' v) ≡ union tag one = waits.same ∙ is in
    let tags : tag' ≡ tag = cc in
    let inner : set_variant_apart parts tag' v ≡ one = cc in
    subst (λ (t : ℕ). UnionWaits old number parts t one (union tag' v) more) tags
    (record { inner = v; whole = refl; waits = record { element = waits.element; same = inner; takes = waits.takes } })
union_waits old number parts tag plain-one one value more is waits = absurd waits.element

-- ---- nests

-- the first of nests that wait, and the others
pub record NestsCut (queues : ℕ → List Tree) (number : ℕ) (ltype : Ltype) (depth : ℕ) (plain : Tree) (plains values more : List Tree) : Type 0 where
  pub first : Tree
  pub others : List Tree
  pub whole : values ≡ first ∷ others
  pub waits : NestsWait queues number ltype depth (plain ∷ []) (first ∷ []) (leaves depth others ++ more)
  pub later : (new : ℕ → List Tree) → IsTaken queues new number ltype (leaves depth others ++ more) → NestsWait new number ltype depth plains others more

pub cut_nests : (queues : ℕ → List Tree) (number : ℕ) (ltype : Ltype) (depth : ℕ) (plain : Tree) (plains values more : List Tree)
    → NestsWait queues number ltype depth (plain ∷ plains) values more → NestsCut queues number ltype depth plain plains values more
cut_nests queues number ltype depth plain plains [] more is = (let same = is.same in cc)
cut_nests queues number ltype depth plain plains (v ∷ values) more is =
    let same = is.same in
    let nested = nests-append depth (v ∷ []) values is.nested in
    let apart_leaves = leaves-append depth (v ∷ []) values in
    let elements = each_split (IsElement ltype) (leaves depth (v ∷ [])) (leaves depth values) (subst (Elements ltype) apart_leaves is.elements) in
    let head : in_nest (set_apart ltype) depth v ≡ plain = cc in
    record {
      first = v;
      others = values;
      whole = refl;
      waits = record {
        nested = nested.0;
        elements = elements.0;
        same = ap (λ (w : Tree). w ∷ []) head;
        takes = subst (Takes queues number ltype) (ap (λ (l : List Tree). l ++ more) apart_leaves ∙ append_assoc (leaves depth (v ∷ [])) (leaves depth values) more) is.takes;
      };
      later = λ new taken. record { nested = nested.1; elements = elements.1; same = cc; takes = taken.takes };
    }

-- a leaf that waits
pub leaf_waits : (queues : ℕ → List Tree) (number : ℕ) (ltype : Ltype) (plain value : Tree) (more : List Tree) → NestsWait queues number ltype 0 (plain ∷ []) (value ∷ []) more
    → Waits queues number ltype plain value more
leaf_waits queues number ltype plain value more is = (let same = is.same in record { element = is.elements.0; same = cc; takes = is.takes })

-- a list that waits, and its members
pub record ListWaits (queues : ℕ → List Tree) (number : ℕ) (ltype : Ltype) (depth : ℕ) (plain value : Tree) (more : List Tree) : Type 0 where
  pub waits : NestsWait queues number ltype depth (members plain) (members value) more
  pub listed_is : listed (members value) ≡ value

pub list_waits : (queues : ℕ → List Tree) (number : ℕ) (ltype : Ltype) (depth : ℕ) (plain value : Tree) (more : List Tree)
    → NestsWait queues number ltype (suc depth) (plain ∷ []) (value ∷ []) more → ListWaits queues number ltype depth plain value more
list_waits queues number ltype depth plain value more is =
    let same = is.same in
    let one : members value ++ [] ≡ members value = append-nil (members value) in
    let head : in_nest (set_apart ltype) (suc depth) value ≡ plain = cc in
    record {
      waits = record {
        nested = subst (AreNests depth) one is.nested.1;
        elements = subst (λ (l : List Tree). Elements ltype (leaves depth l)) one is.elements;
        same = sym (members-listed (map (in_nest (set_apart ltype) depth) (members value))) ∙ ap members head;
        takes = subst (λ (l : List Tree). Takes queues number ltype (leaves depth l ++ more)) one is.takes;
      };
      listed_is = is.nested.0.0;
    }

-- the nests that were filled, and those that are left
pub record NestsLeft (old now : ℕ → List Tree) (number : ℕ) (ltype : Ltype) (depth : ℕ) (plains : List Tree) (filled : List Value) (values more : List Tree) : Type 0 where
  pub left : List Tree
  pub whole : map plain filled ++ left ≡ values
  pub waits : NestsWait now number ltype depth plains left more
  pub kept : Kept number (number_of_streams ltype + number) old now

pub nests_start : (old : ℕ → List Tree) (number : ℕ) (ltype : Ltype) (depth : ℕ) (plains : List Tree) (filled : List Value) (values more : List Tree) → filled ≡ []
    → NestsWait old number ltype depth plains values more → NestsLeft old old number ltype depth plains filled values more
nests_start old number ltype depth plains filled values more none is =
    record { left = values; whole = ap (λ (l : List Value). map plain l ++ values) none; waits = is; kept = λ k outside. refl }

pub nests_next : (old now new : ℕ → List Tree) (number : ℕ) (ltype : Ltype) (depth : ℕ) (one : Tree) (plains next : List Tree) (filled pushed : List Value) (value : Value) (values more : List Tree)
    → plains ≡ one ∷ next → pushed ≡ filled ++ value ∷ []
    → ((v : Tree) (m : List Tree) → NestsWait now number ltype depth (one ∷ []) (v ∷ []) m → (plain value ≡ v) × IsTaken now new number ltype m)
    → NestsLeft old now number ltype depth plains filled values more → NestsLeft old new number ltype depth next pushed values more
nests_next old now new number ltype depth one plains next filled pushed value values more is added fills is_left =
    let cut = cut_nests now number ltype depth one next is_left.left more (subst (λ (l : List Tree). NestsWait now number ltype depth l is_left.left more) is is_left.waits) in
    let here = fills cut.first (leaves depth cut.others ++ more) cut.waits in
    record {
      left = cut.others;
      whole = ap (λ (l : List Value). map plain l ++ cut.others) added
          ∙ ap (λ (l : List Tree). l ++ cut.others) (map-append plain filled (value ∷ []))
          ∙ append_assoc (map plain filled) (plain value ∷ []) cut.others
          ∙ ap (λ (v : Tree). map plain filled ++ v ∷ cut.others) here.0
          ∙ ap (λ (l : List Tree). map plain filled ++ l) (sym cut.whole) ∙ is_left.whole;
      waits = cut.later new here.1;
      kept = λ k outside. here.1.kept k outside ∙ is_left.kept k outside;
    }

pub nests_done : (old now : ℕ → List Tree) (number : ℕ) (ltype : Ltype) (depth : ℕ) (plains : List Tree) (filled : List Value) (values more : List Tree) → plains ≡ []
    → NestsLeft old now number ltype depth plains filled values more → (map plain filled ≡ values) × IsTaken old now number ltype more
nests_done old now number ltype depth plains filled values more none is_left =
    let no_values = all_taken is_left.left (is_left.waits.same ∙ none) in (
      sym (append-nil (map plain filled)) ∙ ap (λ (l : List Tree). map plain filled ++ l) (sym no_values) ∙ is_left.whole,
      record { takes = subst (λ (l : List Tree). Takes now number ltype (l ++ more)) (ap (leaves depth) no_values ∙ leaves-nil depth) is_left.waits.takes; kept = is_left.kept },
    )
  where
    all_taken : (l : List Tree) → map (in_nest (set_apart ltype) depth) l ≡ [] → l ≡ []
    all_taken [] is = refl
    all_taken (v ∷ l) is = cc

-- a list whose members were filled
pub list_filled : (old new : ℕ → List Tree) (number : ℕ) (ltype : Ltype) (depth : ℕ) (one : Tree) (ones filled : List Value) (value : Tree) (more : List Tree) → 1 ≤ depth
    → map plain ones ≡ members one
    → ((vs m : List Tree) → NestsWait old number ltype (depth - 1) (map plain ones) vs m → (map plain filled ≡ vs) × IsTaken old new number ltype m)
    → NestsWait old number ltype depth (one ∷ []) (value ∷ []) more → (plain (made.List filled) ≡ value) × IsTaken old new number ltype more
list_filled old new number ltype zero one ones filled value more deep are fills waits = absurd (omega (arith, deep))
list_filled old new number ltype (suc depth) one ones filled value more deep are fills waits =
    let cut = list_waits old number ltype depth one value more waits in
    let same : suc depth - 1 ≡ depth = omega arith in
    let here = fills (members value) more
    (subst (λ (d : ℕ). NestsWait old number ltype d (map plain ones) (members value) more) (sym same)
    (subst (λ (l : List Tree). NestsWait old number ltype depth l (members value) more) (sym are) cut.waits)) in
    (plain-List filled ∙ ap list (sym (trees_of-map filled)) ∙ ap listed here.0 ∙ cut.listed_is, here.1)
