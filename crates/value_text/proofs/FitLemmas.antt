-- Values that are read fit the type, and the split, that they are read for.
use Rattle.std.proofs.Common.{◌≡◌, ◌∙◌, ℕ, zero, suc, ◌+◌, ◌^◌, Bool, true, false, ◌==◌, cond, ltb, nat_lt, List, [], ◌∷◌, ◌++◌, All, append_assoc, append-nil, length, map, slice_get, Option, Some, None, Result, Ok, Err, refl, sym, ap, arith}
use Rattle.std.specs.Str.{bytes_eq}
use Rattle.std.proofs.Math.Nat.{zero-add}
use Rattle.std.proofs.lemmas.Bool.{and_from}
use Rattle.std.proofs.lemmas.Bool.Decides.{nat_tests}
use Rattle.std.proofs.lemmas.List.{length-append, length-replicate, length-take}
use Rattle.std.proofs.lemmas.List.Elements.{All-head, All-tail}
use Rattle.tydi_base.specs.Bits.{bits_of, zero_bits}
use Rattle.tydi_base.specs.HexWords.{counted, first_not_hex, hex_bits, hex_word, highest_one, in_width, resized, value_in_width}
use Rattle.tydi_base.specs.Numbers.{word_of_number}
use Rattle.tydi_base.specs.declared.hex_word.BitsFault.{BitsFault}
use Rattle.tydi_base.specs.declared.hex_word.BitsFault.TheVariants as hex
use Rattle.tydi_base.proofs.BitsLemmas.{length-bits_of}
use Rattle.tydi_reading.specs.Lists.{repeated}
use Rattle.tydi_reading.specs.Reading.{Outcome, took, stopped, told_by, rest_of, ◌>>◌, ◌<<◌, ◌<$>◌}
use Rattle.tydi_reading.specs.declared.fault.Fault.TheVariants as faults
use Rattle.logical_types.specs.Synchronicity.{is_apart}
use Rattle.logical_types.specs.Tree.{Ltype, Parts}
use Rattle.logical_types.specs.Tree as types
use Rattle.logical_value.specs.Fits.{all_pass, fit_fields, fit_roots, fits_element, fits_series, fits_split, fits_variant, is_nest, stands_apart}
use Rattle.logical_value.specs.Tree.{Tree, plain, plain_values}
use Rattle.logical_value.specs.declared.value.Value.{Value}
use Rattle.logical_value.specs.declared.value.Value.TheVariants as values
use Rattle.logical_value.proofs.PlainLemmas.{plain-Apart, plain-Group, plain-List, plain-Null, plain-Union, plain-Word, trees_of-map}
use Rattle.type_split.specs.Nodes.{StreamNode}
use Rattle.type_split.specs.Streams.{PlainSplit}
use Rattle.value_text.specs.declared.fault.Why.{Why}
use Rattle.value_text.specs.declared.fault.Why.TheVariants as whys
use Rattle.value_text.specs.Laws.{ReadSeriesFit, ReadValuesFit}
use Rattle.value_text.specs.Port.{is_path_of, next_root, no_more, port, root_line, root_of, roots_from, series_values, valued}
use Rattle.value_text.specs.Syntax.{Reader}
use Rattle.value_text.specs.Tokens.{PlainToken, tokens_of}
use Rattle.value_text.specs.Typed.{apart_word, bits_word, call_name, called, comma, decimal_word, digits_word, element, fields, group_end, in_range, judged, key, list_value, listed_values, nest, next_field, next_value, null_word, of_hex, shaped, text_word, token_word, variant, variant_value}
use Rattle.value_text.specs.Words.{hex_digits_of, is_byte, is_word, number_of, root_word}
use Rattle.value_text.proofs.YieldLemmas.{Yields, yields-after, yields-both, yields-close, yields-cond, yields-map, yields-pure, yields-repeated, yields-weaker, yields-wrong}

-- a value passes a test of plain data
abbrev Passes : (Tree → Bool) → Value → Type 0
Passes test value = test (plain value) ≡ true

-- ---- words

resized-length : (width : ℕ) (bits : List Bool) → length (resized width bits) ≡ width
unfolding resized
resized-length width bits = omega (arith, length-take width (bits ++ zero_bits width), length-append bits (zero_bits width), length-replicate width false)

hex_word-length : (width : ℕ) (digits : List ℕ) (word : List Bool) → hex_word width digits ≡ Ok word → length word ≡ width
unfolding hex_word value_in_width in_width
hex_word-length width digits word is = by_first (first_not_hex digits) is
  where
    all : List Bool
    all = hex_bits digits

    by_test : (index : ℕ) (within : Bool) → ◌≡◌ {A = Result (List Bool) BitsFault} (cond within (Ok (resized width all)) (Err (hex.TooWide (counted index)))) (Ok word) → length word ≡ width
    by_test index true is = let same : resized width all ≡ word = cc in ap length (sym same) ∙ resized-length width all
    by_test index false is = absurd cc

    by_highest : (highest : Option ℕ) → in_width width all highest ≡ Ok word → length word ≡ width
    by_highest None is = let same : resized width all ≡ word = cc in ap length (sym same) ∙ resized-length width all
    by_highest (Some index) is = by_test index (ltb index width) is

    by_first : (first : Option ℕ) → value_in_width width all first ≡ Ok word → length word ≡ width
    by_first None is = by_highest (highest_one all) is
    by_first (Some index) is = absurd cc

decimal_word-length : (width number : ℕ) (word : List Bool) → decimal_word width number ≡ Ok word → length word ≡ width
unfolding word_of_number
decimal_word-length width number word is = by_width (nat_lt 128 width) is
  where
    by_number : (fits : Bool) → in_range (cond {A = Option (List Bool)} fits (Some (bits_of width number)) None) ≡ Ok word → length word ≡ width
    by_number true is = let same : bits_of width number ≡ word = cc in ap length (sym same) ∙ length-bits_of width number
    by_number false is = absurd cc

    by_width : (wide : Bool) → cond {A = Result (List Bool) Why} wide (Err whys.WrongShape) (in_range (word_of_number width number)) ≡ Ok word → length word ≡ width
    by_width true is = absurd cc
    by_width false is = by_number (ltb number (2 ^ width)) is

digits_word-length : (width : ℕ) (digits : Option (List ℕ)) (word : List Bool) → digits_word width digits ≡ Ok word → length word ≡ width
digits_word-length width None word is = absurd cc
digits_word-length width (Some digits) word is = by_word (hex_word width digits) refl is
  where
    by_word : (made : Result (List Bool) BitsFault) → hex_word width digits ≡ made → of_hex made ≡ Ok word → length word ≡ width
    by_word (Ok bits) made is = let same : bits ≡ word = cc in hex_word-length width digits word (made ∙ ap Ok same)
    by_word (Err fault) made is = absurd cc

token_word-length : (width : ℕ) (token : PlainToken) (word : List Bool) → token_word width token ≡ Ok word → length word ≡ width
unfolding token_word
token_word-length width token word is = by_kind (is_word token.kind) is
  where
    by_number : (number : Option ℕ) → text_word width token.text number ≡ Ok word → length word ≡ width
    by_number (Some number) is = decimal_word-length width number word is
    by_number None is = digits_word-length width (hex_digits_of token.text) word is

    by_kind : (kind : Bool) → cond {A = Result (List Bool) Why} kind (text_word width token.text (number_of token.text)) (Err whys.WrongShape) ≡ Ok word → length word ≡ width
    by_kind true is = by_number (number_of token.text) is
    by_kind false is = absurd cc

yields-word : (width : ℕ) → Yields (λ bits. length bits ≡ width) (bits_word width)
unfolding bits_word
yields-word width = record { is = is }
  where
    told : (t : PlainToken) (ts rest : List PlainToken) (bits : List Bool) (word : Result (List Bool) Why) → token_word width t ≡ word → judged word ts (t ∷ ts) ≡ took bits rest → length bits ≡ width
    told t ts rest bits (Ok word) made is = let same : word ≡ bits = cc in token_word-length width t bits (made ∙ ap Ok same)
    told t ts rest bits (Err why) made is = absurd (let no : ◌≡◌ {A = Outcome Why PlainToken (List Bool)} (stopped (faults.Unfit why) (t ∷ ts)) (took bits rest) = is in cc)

    is : (ts rest : List PlainToken) (bits : List Bool) → bits_word width ts ≡ took bits rest → length bits ≡ width
    is [] rest bits made = absurd (let no : ◌≡◌ {A = Outcome Why PlainToken (List Bool)} (stopped (faults.Unfit whys.WrongShape) []) (took bits rest) = made in cc)
    is (t ∷ ts) rest bits made = told t ts rest bits (token_word width t) refl made

word-fits : (width : ℕ) (bits : List Bool) → length bits ≡ width → Passes (fits_element (types.bits width)) (values.Word bits)
word-fits width bits long = ap (fits_element (types.bits width)) (plain-Word bits) ∙ let same : (length bits == width) ≡ true = grind (arith, nat_tests) in same

-- ---- nests

module _ (test : Tree → Bool) where
  all_pass-each : (some : List Value) → All (Passes test) some → all_pass test (plain_values some) ≡ true
  all_pass-each [] each = refl
  all_pass-each (one ∷ more) each =
      and_from (test (plain one)) (all_pass test (plain_values more)) (All-head (Passes test) one more each) (all_pass-each more (All-tail (Passes test) one more each))

  yields-listed : (item : Reader Value) → Yields (Passes test) item → Yields (All (Passes test)) (listed_values item)
  unfolding listed_values next_value
  yields-listed item one = yields-close (All (Passes test)) (repeated (is_byte 93) false (next_value item)) (shaped (is_byte 93))
      (yields-repeated (Passes test) (is_byte 93) false (next_value item) (yields-after (Passes test) comma item one))

yields-list : (test : Tree → Bool) (depth : ℕ) (item : Reader Value) → Yields (Passes (is_nest test depth)) item → Yields (Passes (is_nest test (suc depth))) (list_value item)
unfolding list_value
yields-list test depth item one = yields-map (Passes (is_nest test (suc depth))) values.List (shaped (is_byte 91) >> listed_values item)
    (yields-weaker (All (Passes (is_nest test depth))) (λ some. Passes (is_nest test (suc depth)) (values.List some)) (shaped (is_byte 91) >> listed_values item)
    (λ some each. ap (is_nest test (suc depth)) (plain-List some) ∙ all_pass-each (is_nest test depth) some each)
    (yields-after (All (Passes (is_nest test depth))) (shaped (is_byte 91)) (listed_values item) (yields-listed (is_nest test depth) item one)))

yields-nest : (test : Tree → Bool) (item : Reader Value) → Yields (Passes test) item → (depth : ℕ) → Yields (Passes (is_nest test depth)) (nest item depth)
yields-nest test item one zero = one
yields-nest test item one (suc depth) = yields-list test depth (nest item depth) (yields-nest test item one depth)

-- ---- values of elements

-- one value of an element of a type stands behind those that were found
record AddsOne (ltype : Ltype) (found now : List Value) : Type 0 where
  value : Value
  is : now ≡ found ++ value ∷ []
  fits : Passes (fits_element ltype) value

-- a value for each of these parts stands behind those that were found
record AddsFields (parts : Parts) (found now : List Value) : Type 0 where
  more : List Value
  is : now ≡ found ++ more
  fits : fit_fields parts (plain_values more) ≡ true

-- a value of one of these variants, of which the first has this number
record IsOneOf (parts : Parts) (tag : ℕ) (value : Value) : Type 0 where
  number : ℕ
  inner : Value
  is : value ≡ values.Union (tag + number) inner
  fits : fits_variant parts number (plain inner) ≡ true

yields-field : (all : Parts) (name : List ℕ) (ltype : Ltype) (found : List Value) → Yields (Passes (fits_element ltype)) (element ltype)
    → Yields (AddsOne ltype found) (next_field all name (element ltype) found)
unfolding next_field
yields-field all name ltype found one = yields-map (AddsOne ltype found) (λ value. found ++ value ∷ []) (comma >> (key all name >> element ltype))
    (yields-weaker (Passes (fits_element ltype)) (λ value. AddsOne ltype found (found ++ value ∷ [])) (comma >> (key all name >> element ltype))
    (λ value fits. record { value = value; is = refl; fits = fits })
    (yields-after (Passes (fits_element ltype)) comma (key all name >> element ltype) (yields-after (Passes (fits_element ltype)) (key all name) (element ltype) one)))

adds-fields : (name : List ℕ) (ltype : Ltype) (parts : Parts) (found next now : List Value) → AddsOne ltype found next → AddsFields parts next now
    → AddsFields (types.part name ltype parts) found now
adds-fields name ltype parts found next now one others = record {
  more = one.value ∷ others.more;
  is = others.is ∙ ap (λ l. l ++ others.more) one.is ∙ append_assoc found (one.value ∷ []) others.more;
  fits = and_from (fits_element ltype (plain one.value)) (fit_fields parts (plain_values others.more)) one.fits others.fits;
}

selected-fits : (other : List ℕ) (ltype : Ltype) (more : Parts) (tag : ℕ) → Yields (Passes (fits_element ltype)) (element ltype)
    → Yields (IsOneOf (types.part other ltype more) tag) (λ ts. variant_value tag (element ltype) (rest_of ts))
unfolding variant_value
selected-fits other ltype more tag one = record { is = λ ts rest x made. all.is (rest_of ts) rest x made }
  where
    all : Yields (IsOneOf (types.part other ltype more) tag) (values.Union tag <$> (element ltype << shaped (is_byte 41)))
    all = yields-map (IsOneOf (types.part other ltype more) tag) (values.Union tag) (element ltype << shaped (is_byte 41))
        (yields-weaker (Passes (fits_element ltype)) (λ inner. IsOneOf (types.part other ltype more) tag (values.Union tag inner)) (element ltype << shaped (is_byte 41))
        (λ inner fits. record { number = 0; inner = inner; is = (let same : tag ≡ tag + 0 = omega arith in ap (λ (n : ℕ). values.Union n inner) same); fits = fits })
        (yields-close (Passes (fits_element ltype)) (element ltype) (shaped (is_byte 41)) one))

behind-fits : (other : List ℕ) (ltype : Ltype) (more : Parts) (tag : ℕ) (value : Value) → IsOneOf more (suc tag) value → IsOneOf (types.part other ltype more) tag value
behind-fits other ltype more tag value one = record {
  number = suc one.number;
  inner = one.inner;
  is = one.is ∙ (let same : suc tag + one.number ≡ tag + suc one.number = omega arith in ap (λ (n : ℕ). values.Union n one.inner) same);
  fits = one.fits;
}

union-fits : (parts : Parts) (value : Value) → IsOneOf parts 0 value → Passes (fits_element (types.union parts)) value
union-fits parts value one =
    ap (λ v. fits_element (types.union parts) (plain v)) one.is ∙ ap (fits_element (types.union parts)) (plain-Union (0 + one.number) one.inner)
    ∙ ap (λ (n : ℕ). fits_variant parts n (plain one.inner)) (zero-add one.number) ∙ one.fits

group-fits : (parts : Parts) (some : List Value) → AddsFields parts [] some → Passes (fits_element (types.group parts)) (values.Group some)
group-fits parts some all = ap (fits_element (types.group parts)) (plain-Group some) ∙ ap (λ (l : List Value). fit_fields parts (plain_values l)) all.is ∙ all.fits

called-fits : (Is : Value → Type 0) (by : List ℕ → Reader Value) → ((name : List ℕ) → Yields Is (by name)) → Yields Is (λ ts. called by (told_by call_name ts) ts)
called-fits Is by one = record { is = λ ts rest x made. told ts rest x (told_by call_name ts) made }
  where
    told : (ts rest : List PlainToken) (x : Value) (o : Option (List ℕ)) → called by o ts ≡ took x rest → Is x
    told ts rest x None made = (yields-wrong Is whys.WrongShape).is ts rest x made
    told ts rest x (Some name) made = (one name).is ts rest x made

stream-fits : (inner : Ltype) (depth : ℕ) (away : Bool) → Yields (Passes (fits_element inner)) (element inner)
    → Yields (λ value. cond away (stands_apart (plain value)) (is_nest (fits_element inner) depth (plain value)) ≡ true)
    (cond {A = Reader Value} away ((λ _. values.Apart) <$> shaped apart_word) (nest (element inner) depth))
stream-fits inner depth true one = yields-map (Passes stands_apart) (λ _. values.Apart) (shaped apart_word) (record { is = λ ts rest x made. ap stands_apart plain-Apart })
stream-fits inner depth false one = yields-nest (fits_element inner) (element inner) one depth

mutual
  yields-element : (ltype : Ltype) → Yields (Passes (fits_element ltype)) (element ltype)
  yields-element types.null = yields-map (Passes (fits_element types.null)) (λ _. values.Null) (shaped null_word) (record { is = λ ts rest x made. ap (fits_element types.null) plain-Null })
  yields-element (types.bits width) = yields-map (Passes (fits_element (types.bits width))) values.Word (bits_word width)
      (yields-weaker (λ bits. length bits ≡ width) (λ bits. Passes (fits_element (types.bits width)) (values.Word bits)) (bits_word width) (word-fits width) (yields-word width))
  yields-element (types.group parts) =
      yields-map (Passes (fits_element (types.group parts))) values.Group (shaped (is_byte 123) >> (fields parts parts [] << (comma >> group_end parts)))
      (yields-weaker (AddsFields parts []) (λ some. Passes (fits_element (types.group parts)) (values.Group some)) (shaped (is_byte 123) >> (fields parts parts [] << (comma >> group_end parts)))
      (group-fits parts)
      (yields-after (AddsFields parts []) (shaped (is_byte 123)) (fields parts parts [] << (comma >> group_end parts))
      (yields-close (AddsFields parts []) (fields parts parts []) (comma >> group_end parts) (yields-fields parts parts []))))
  yields-element (types.union parts) =
      yields-weaker (IsOneOf parts 0) (Passes (fits_element (types.union parts))) (λ ts. called (variant parts 0) (told_by call_name ts) ts) (union-fits parts)
      (called-fits (IsOneOf parts 0) (variant parts 0) (yields-variant parts 0))
  yields-element (types.stream inner user settings) = stream-fits inner settings.dims (is_apart settings.sync) (yields-element inner)

  yields-fields : (all parts : Parts) (found : List Value) → Yields (AddsFields parts found) (fields all parts found)
  yields-fields all types.no_parts found = yields-pure (AddsFields types.no_parts found) found (record { more = []; is = sym (append-nil found); fits = refl })
  yields-fields all (types.part name ltype more) found =
      yields-both (AddsOne ltype found) (AddsFields (types.part name ltype more) found) (next_field all name (element ltype) found) (fields all more)
      (yields-field all name ltype found (yields-element ltype))
      (λ next one. yields-weaker (AddsFields more next) (AddsFields (types.part name ltype more) found) (fields all more next)
      (λ now others. adds-fields name ltype more found next now one others) (yields-fields all more next))

  yields-variant : (parts : Parts) (tag : ℕ) (name : List ℕ) → Yields (IsOneOf parts tag) (variant parts tag name)
  yields-variant types.no_parts tag name = yields-wrong (IsOneOf types.no_parts tag) whys.UnknownField
  yields-variant (types.part other ltype more) tag name =
      yields-cond (IsOneOf (types.part other ltype more) tag) (bytes_eq other name) (λ ts. variant_value tag (element ltype) (rest_of ts)) (variant more (suc tag) name)
      (selected-fits other ltype more tag (yields-element ltype))
      (yields-weaker (IsOneOf more (suc tag)) (IsOneOf (types.part other ltype more) tag) (variant more (suc tag) name) (behind-fits other ltype more tag) (yields-variant more (suc tag) name))

-- ---- the roots of a port

-- the series of a root fits its node
abbrev SeriesFit : Option StreamNode → List Value → Type 0
SeriesFit node series = fits_series node (map plain series) ≡ true

-- a series for each of these roots stands behind those that were found
record AddsRoots (nodes : List StreamNode) (roots : List ℕ) (found now : List (List Value)) : Type 0 where
  more : List (List Value)
  is : now ≡ found ++ more
  fits : fit_roots nodes roots (map (map plain) more) ≡ true

-- one series stands behind those that were found
record AddsSeries (node : Option StreamNode) (found now : List (List Value)) : Type 0 where
  series : List Value
  is : now ≡ found ++ series ∷ []
  fits : SeriesFit node series

yields-line : (node : StreamNode) → Yields (SeriesFit (Some node)) (root_line node)
unfolding root_line series_values
yields-line node = yields-after (SeriesFit (Some node)) (shaped root_word) (shaped (is_path_of node.path) >> values_of)
    (yields-after (SeriesFit (Some node)) (shaped (is_path_of node.path)) values_of
    (yields-close (SeriesFit (Some node)) (repeated (is_byte 59) false one) (shaped (is_byte 59))
    (yields-weaker (All (Passes test)) (SeriesFit (Some node)) (repeated (is_byte 59) false one) (λ some each. ap (all_pass test) (trees_of-map some) ∙ all_pass-each test some each)
    (yields-repeated (Passes test) (is_byte 59) false one (yields-nest (fits_element node.element) (element node.element) (yields-element node.element) node.params.dims)))))
  where
    one : Reader Value
    one = nest (element node.element) node.params.dims

    test : Tree → Bool
    test = is_nest (fits_element node.element) node.params.dims

    values_of : Reader (List Value)
    values_of = repeated (is_byte 59) false one << shaped (is_byte 59)

yields-root : (node : Option StreamNode) → Yields (SeriesFit node) (root_of node)
yields-root None = yields-wrong (SeriesFit None) whys.WrongShape
yields-root (Some node) = yields-line node

yields-next : (node : Option StreamNode) (found : List (List Value)) → Yields (AddsSeries node found) (next_root (root_of node) found)
unfolding next_root
yields-next node found = yields-map (AddsSeries node found) (λ series. found ++ series ∷ []) (root_of node)
    (yields-weaker (SeriesFit node) (λ series. AddsSeries node found (found ++ series ∷ [])) (root_of node) (λ series fits. record { series = series; is = refl; fits = fits }) (yields-root node))

adds-roots : (nodes : List StreamNode) (root : ℕ) (roots : List ℕ) (found next now : List (List Value)) → AddsSeries (slice_get nodes root) found next → AddsRoots nodes roots next now
    → AddsRoots nodes (root ∷ roots) found now
adds-roots nodes root roots found next now one others = record {
  more = one.series ∷ others.more;
  is = others.is ∙ ap (λ l. l ++ others.more) one.is ∙ append_assoc found (one.series ∷ []) others.more;
  fits = and_from (fits_series (slice_get nodes root) (map plain one.series)) (fit_roots nodes roots (map (map plain) others.more)) one.fits others.fits;
}

yields-roots : (nodes : List StreamNode) (roots : List ℕ) (found : List (List Value)) → Yields (AddsRoots nodes roots found) (roots_from nodes roots found)
yields-roots nodes [] found = yields-pure (AddsRoots nodes [] found) found (record { more = []; is = sym (append-nil found); fits = refl })
yields-roots nodes (root ∷ roots) found =
    yields-both (AddsSeries (slice_get nodes root) found) (AddsRoots nodes (root ∷ roots) found) (next_root (root_of (slice_get nodes root)) found) (roots_from nodes roots)
    (yields-next (slice_get nodes root) found)
    (λ next one. yields-weaker (AddsRoots nodes roots next) (AddsRoots nodes (root ∷ roots) found) (roots_from nodes roots next)
    (λ now others. adds-roots nodes root roots found next now one others) (yields-roots nodes roots next))

yields-port : (split : PlainSplit) → Yields (λ roots. fits_split split (map (map plain) roots) ≡ true) (port split)
unfolding port
yields-port split = yields-weaker (AddsRoots split.nodes split.roots []) (λ roots. fits_split split (map (map plain) roots) ≡ true) (roots_from split.nodes split.roots [] << no_more)
    (λ roots all. ap (λ (l : List (List Value)). fit_roots split.nodes split.roots (map (map plain) l)) all.is ∙ all.fits)
    (yields-close (AddsRoots split.nodes split.roots []) (roots_from split.nodes split.roots []) no_more (yields-roots split.nodes split.roots []))

pub read_series_fit : ReadSeriesFit
read_series_fit split tokens roots is = by_outcome (port split tokens) refl is
  where
    by_outcome : (made : Outcome Why PlainToken (List (List Value))) → port split tokens ≡ made → valued made ≡ Ok roots → fits_split split (map (map plain) roots) ≡ true
    by_outcome (took found rest) made is = let same : found ≡ roots = cc in (yields-port split).is tokens rest roots (made ∙ ap (λ l. took l rest) same)
    by_outcome (stopped (faults.Unfit why) rest) made is = absurd cc
    by_outcome (stopped faults.Refused rest) made is = absurd cc
    by_outcome (stopped faults.Memory rest) made is = absurd cc

pub read_values_fit : ReadValuesFit
read_values_fit split text value is = read_series_fit split (tokens_of text) value.roots is.is
