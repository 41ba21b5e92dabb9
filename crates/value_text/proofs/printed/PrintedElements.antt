-- Values of elements that are printed: their tokens have the form of a member, and are read as the value.
use Rattle.std.proofs.Common.{◌≡◌, ◌∙◌, inl, ℕ, zero, suc, ◌+◌, ◌≤◌, Bool, true, false, cond, List, [], ◌∷◌, ◌++◌, Some, refl, sym, ap, subst, append_assoc, arith, codes}
use Rattle.std.specs.List.{list_any}
use Rattle.std.specs.Str.{bytes_eq, str_to_ascii_lowercase}
use Rattle.std.proofs.Math.Nat.{zero-add}
use Rattle.std.proofs.lemmas.Bool.{and_parts, or_parts}
use Rattle.std.proofs.lemmas.Slice.Eq.{bytes_eq-Decides}
use Rattle.tydi_base.specs.Name.{is_name}
use Rattle.tydi_reading.specs.Reading.{took, rest_of, ◌<$>◌}
use Rattle.logical_types.specs.Names.{has_name_twice, is_same_name}
use Rattle.logical_types.specs.Synchronicity.{is_apart}
use Rattle.logical_types.specs.Tree.{Ltype, Parts, names_of}
use Rattle.logical_types.specs.Tree as types
use Rattle.logical_value.specs.Fits.{fit_fields, fits_element, fits_variant, is_nest, stands_apart}
use Rattle.logical_value.specs.Tree.{Tree, null, word, group, union, list, apart, Trees, no_trees, tree, plain}
use Rattle.logical_value.specs.declared.value.Value.{Value}
use Rattle.logical_value.specs.declared.value.Value.TheVariants as values
use Rattle.logical_value.proofs.PlainLemmas.{plain-Union}
use Rattle.value_text.specs.Canonical.{element_text, fields_text, named_text, nest_text, variant_text}
use Rattle.value_text.specs.Grammar.{Member}
use Rattle.value_text.specs.Printable.{AreNamed, IsNamed, depth_of}
use Rattle.value_text.specs.Syntax.{Reader}
use Rattle.value_text.specs.Tokens.{PlainToken, tokens_of}
use Rattle.value_text.specs.Typed.{apart_word, element, nest, shaped, variant, variant_value}
use Rattle.value_text.specs.Words.{opening}
use Rattle.value_text.specs.declared.opening.Opening.TheVariants as openings
use Rattle.value_text.specs.declared.token.TokenKind.TheVariants as kinds
use Rattle.value_text.proofs.SyntaxRules.{not_byte}
use Rattle.value_text.proofs.TypedLemmas.{less-element}
use Rattle.value_text.proofs.printed.LexedTexts.{Ends, IsBare, IsEnd, IsSign, begins-more, begins-run, ends-byte, is_blank, one_byte, run, tokens-call, tokens-sign}
use Rattle.value_text.proofs.printed.PrintedMembers.{IsMember, Prints, count-append, lexes-both, prints-apart, prints-bits, prints-nest, prints-null}
use Rattle.value_text.proofs.printed.PrintedFields.{AreFields, AreMoreFields, end-close, group-member, more-fields, name-run, no-fields, no-more, same-bytes, some-fields}

-- ---- signs

bare-round : IsBare 41
bare-round = record { space = refl; slash = refl }

sign-round : IsSign 41
sign-round = record { bare = bare-round; word = refl; dash = refl; brace = refl }

end-round : IsEnd 41
end-round = record { bare = bare-round; word = refl; key = refl; call = refl; path = refl }

-- ---- variants

-- a text is that of a value of one of these variants, of which the first has this number
record IsVariantText (parts : Parts) (first number : ℕ) (value : Tree) (rest : List ℕ) : Type 0 where
  name : List ℕ
  text : List ℕ
  read : Reader Value
  named : is_name name ≡ true
  is : variant_text parts number value ≡ named_text name text
  one : IsMember read value text [] (41 ∷ rest)
  finds : (ts : List PlainToken) → variant parts first name ts ≡ variant_value (first + number) read (rest_of ts)
  other : (before : List ℕ) → list_any (is_same_name before) (names_of parts) ≡ false → bytes_eq before name ≡ false

same-ignoring : (one other : List ℕ) → is_same_name one other ≡ false → bytes_eq one other ≡ false
same-ignoring one other differ = by_test (bytes_eq one other) refl
  where
    by_test : (test : Bool) → bytes_eq one other ≡ test → test ≡ false
    by_test false is = refl
    by_test true is = absurd (let no : true ≡ false = sym (same-bytes (str_to_ascii_lowercase one)) ∙ ap (is_same_name one) ((bytes_eq-Decides one other).0 is) ∙ differ in cc)

-- ---- Unions

-- a Union
union-member : (parts : Parts) (number : ℕ) (value : Tree) (gap rest : List ℕ) → is_blank gap ≡ true → IsVariantText parts 0 number value rest
    → IsMember (element (types.union parts)) (union number value) (variant_text parts number value) gap rest
unfolding shaped opening variant_value
union-member parts number value gap rest blank found = subst (λ (l : List ℕ). IsMember (element (types.union parts)) (union number value) l gap rest) (sym found.is) (record {
  tokens = call_token ∷ (one.tokens ++ close_token ∷ []);
  made = values.Union (0 + number) one.made;
  lexed = ap tokens_of (append_assoc gap (found.name ++ 40 ∷ (found.text ++ 41 ∷ [])) rest ∙ ap (λ (l : List ℕ). gap ++ l) (append_assoc found.name (40 ∷ (found.text ++ 41 ∷ [])) rest))
      ∙ tokens-call gap found.name ((found.text ++ 41 ∷ []) ++ rest) blank (name-run found.name found.named)
      ∙ ap (λ (ts : List PlainToken). call_token ∷ ts) (lexes-both found.text (41 ∷ []) rest one.tokens (close_token ∷ []) one.lexed (tokens-sign [] 41 rest refl sign-round));
  begins = begins-more found.name (40 ∷ (found.text ++ 41 ∷ [])) (begins-run found.name (name-run found.name found.named));
  same = plain-Union (0 + number) one.made ∙ ap (λ (n : ℕ). union n (plain one.made)) (zero-add number) ∙ ap (union number) one.same;
  reads = reads;
  spelled = spelled;
  counts = omega (arith, count-append one.tokens (close_token ∷ []), one.counts);
  spaced = refl;
})
  where
    one : IsMember found.read value found.text [] (41 ∷ rest)
    one = found.one

    call_token : PlainToken
    call_token = run kinds.Call gap found.name (40 ∷ ((found.text ++ 41 ∷ []) ++ rest))

    close_token : PlainToken
    close_token = one_byte kinds.Sign [] 41 rest

    reads : (ts : List PlainToken) → element (types.union parts) (call_token ∷ ((one.tokens ++ close_token ∷ []) ++ ts)) ≡ took (values.Union (0 + number) one.made) ts
    reads ts = rw (found.named, found.finds (call_token ∷ ((one.tokens ++ close_token ∷ []) ++ ts)), append_assoc one.tokens (close_token ∷ []) ts, one.reads (close_token ∷ ts)) refl

    opens : opening call_token ≡ Some openings.Variant
    opens = rw (not_byte 91 is_name found.name refl found.named, not_byte 123 is_name found.name refl found.named, found.named) refl

    spelled : (levels : ℕ) → depth_of (union number value) ≤ levels → Member levels (call_token ∷ (one.tokens ++ close_token ∷ []))
    spelled zero less = absurd (omega (arith, less))
    spelled (suc levels) less = inl (
      openings.Variant,
      record {
        front = call_token ∷ [];
        back = one.tokens ++ close_token ∷ [];
        all = refl;
        begins = (call_token, refl, opens);
        ends = record { front = one.tokens; back = close_token ∷ []; all = refl; begins = one.spelled levels (omega (arith, less)); ends = (close_token, refl, refl) };
      },
    )

-- ---- all elements

prints-stream : (inner : Ltype) (depth : ℕ) (away : Bool) → Prints (fits_element inner) (element_text inner) (element inner)
    → Prints (λ value. cond away (stands_apart value) (is_nest (fits_element inner) depth value)) (λ value. cond away (codes "apart") (nest_text (element_text inner) depth value))
    (cond {A = Reader Value} away ((λ _. values.Apart) <$> shaped apart_word) (nest (element inner) depth))
prints-stream inner depth true prints = prints-apart
prints-stream inner depth false prints = prints-nest (fits_element inner) (element_text inner) (element inner) prints (less-element inner) depth

-- the variant is the first
variant-here : (name : List ℕ) (ltype : Ltype) (more : Parts) (first : ℕ) (value : Tree) (rest : List ℕ) → is_name name ≡ true
    → IsMember (element ltype) value (element_text ltype value) [] (41 ∷ rest) → IsVariantText (types.part name ltype more) first 0 value rest
variant-here name ltype more first value rest named one = record {
  name = name;
  text = element_text ltype value;
  read = element ltype;
  named = named;
  is = refl;
  one = one;
  finds = λ ts. rw (same-bytes name) (let same : first ≡ first + 0 = omega arith in ap (λ (n : ℕ). variant_value n (element ltype) (rest_of ts)) same);
  other = λ before differ. same-ignoring before name (or_parts (is_same_name before name) (list_any (is_same_name before) (names_of more)) differ).0;
}

-- the variant is another
variant-behind : (name : List ℕ) (ltype : Ltype) (more : Parts) (first number : ℕ) (value : Tree) (rest : List ℕ) → list_any (is_same_name name) (names_of more) ≡ false
    → IsVariantText more (suc first) number value rest → IsVariantText (types.part name ltype more) first (suc number) value rest
variant-behind name ltype more first number value rest distinct found = record {
  name = found.name;
  text = found.text;
  read = found.read;
  named = found.named;
  is = found.is;
  one = found.one;
  finds = λ ts. rw (found.other name distinct) (found.finds ts
      ∙ (let same : suc first + number ≡ first + suc number = omega arith in ap (λ (n : ℕ). variant_value n found.read (rest_of ts)) same));
  other = λ before differ. found.other before (or_parts (is_same_name before name) (list_any (is_same_name before) (names_of more)) differ).1;
}

mutual
  pub prints-element : (ltype : Ltype) → IsNamed ltype → Prints (fits_element ltype) (element_text ltype) (element ltype)
  prints-element types.null named value fits gap rest blank ends = prints-null value fits gap rest blank ends
  prints-element (types.bits width) named value fits gap rest blank ends = prints-bits width value fits gap rest blank ends
  prints-element (types.group parts) named (group some) fits gap rest blank ends =
      group-member parts some (fields_text [] parts some) gap rest blank (prints-fields parts named some fits gap rest blank)
  prints-element (types.group parts) named null fits gap rest blank ends = absurd cc
  prints-element (types.group parts) named (word bits) fits gap rest blank ends = absurd cc
  prints-element (types.group parts) named (union number inner) fits gap rest blank ends = absurd cc
  prints-element (types.group parts) named (list some) fits gap rest blank ends = absurd cc
  prints-element (types.group parts) named apart fits gap rest blank ends = absurd cc
  prints-element (types.union parts) named (union number inner) fits gap rest blank ends =
      union-member parts number inner gap rest blank (prints-variant parts 0 number named.0 named.1 inner fits rest)
  prints-element (types.union parts) named null fits gap rest blank ends = absurd cc
  prints-element (types.union parts) named (word bits) fits gap rest blank ends = absurd cc
  prints-element (types.union parts) named (group some) fits gap rest blank ends = absurd cc
  prints-element (types.union parts) named (list some) fits gap rest blank ends = absurd cc
  prints-element (types.union parts) named apart fits gap rest blank ends = absurd cc
  prints-element (types.stream inner user settings) named value fits gap rest blank ends =
      prints-stream inner settings.dims (is_apart settings.sync) (prints-element inner named) value fits gap rest blank ends

  prints-fields : (parts : Parts) → AreNamed parts → (some : Trees) → fit_fields parts some ≡ true → (gap rest : List ℕ) → is_blank gap ≡ true
      → AreFields parts some (fields_text [] parts some) gap (125 ∷ rest)
  prints-fields types.no_parts named no_trees fits gap rest blank = no-fields gap rest blank
  prints-fields types.no_parts named (tree value others) fits gap rest blank = absurd cc
  prints-fields (types.part name ltype more) named no_trees fits gap rest blank = absurd cc
  prints-fields (types.part name ltype more) named (tree value others) fits gap rest blank =
      let both = and_parts (fits_element ltype value) (fit_fields more others) fits in
      let tail = prints-more (types.part name ltype more) more named.2 others both.1 (125 ∷ rest) (ends-byte 125 rest end-close) in
      some-fields name ltype more value others (element_text ltype value) (fields_text (codes ", ") more others) gap rest named.0 blank tail
      (prints-element ltype named.1 value both.0 (32 ∷ []) (fields_text (codes ", ") more others ++ 125 ∷ rest) refl tail.ends)

  prints-more : (all parts : Parts) → AreNamed parts → (some : Trees) → fit_fields parts some ≡ true → (rest : List ℕ) → Ends rest
      → AreMoreFields all parts some (fields_text (codes ", ") parts some) rest
  prints-more all types.no_parts named no_trees fits rest ends = no-more all rest ends
  prints-more all types.no_parts named (tree value others) fits rest ends = absurd cc
  prints-more all (types.part name ltype more) named no_trees fits rest ends = absurd cc
  prints-more all (types.part name ltype more) named (tree value others) fits rest ends =
      let both = and_parts (fits_element ltype value) (fit_fields more others) fits in
      let tail = prints-more all more named.2 others both.1 rest ends in
      more-fields all name ltype more value others (element_text ltype value) (fields_text (codes ", ") more others) rest named.0 tail
      (prints-element ltype named.1 value both.0 (32 ∷ []) (fields_text (codes ", ") more others ++ rest) refl tail.ends)

  prints-variant : (parts : Parts) (first number : ℕ) → has_name_twice (names_of parts) ≡ false → AreNamed parts → (value : Tree) → fits_variant parts number value ≡ true → (rest : List ℕ)
      → IsVariantText parts first number value rest
  prints-variant types.no_parts first number distinct named value fits rest = absurd cc
  prints-variant (types.part name ltype more) first zero distinct named value fits rest =
      variant-here name ltype more first value rest named.0 (prints-element ltype named.1 value fits [] (41 ∷ rest) refl (ends-byte 41 rest end-round))
  prints-variant (types.part name ltype more) first (suc number) distinct named value fits rest =
      let both = or_parts (list_any (is_same_name name) (names_of more)) (has_name_twice (names_of more)) distinct in
      variant-behind name ltype more first number value rest both.0 (prints-variant more (suc first) number both.1 named.2 value fits rest)
