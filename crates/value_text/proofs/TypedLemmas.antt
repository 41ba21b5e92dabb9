-- Values of a type, token after token: what is read of one takes a token at least, and how far a walk down a type has to go.
use Rattle.std.proofs.Common.{◌≡◌, ◌∙◌, ℕ, zero, suc, ◌+◌, ◌<◌, ◌≤◌, Bool, true, false, cond, List, [], ◌∷◌, ◌++◌, length, drop, get_or, Option, Some, None, refl, ap, arith}
use Rattle.std.specs.Str.{bytes_eq}
use Rattle.logical_types.specs.declared.ltype.Part.{Part}
use Rattle.logical_types.specs.Synchronicity.{is_apart}
use Rattle.logical_types.specs.Tree.{Ltype, Parts, plain, plain_parts}
use Rattle.logical_types.specs.Tree as types
use Rattle.logical_types.proofs.PlainLemmas.{plain_parts-at}
use Rattle.logical_value.specs.declared.value.Value.{Value}
use Rattle.tydi_reading.specs.Lists.{repeated, repeated_turn}
use Rattle.tydi_reading.specs.Reading.{Outcome, took, stopped, Shrinks, Turn, again, done, and_then, pure, turned, loop, loop_from, tells, told_by, rest_of, ◌>>=◌, ◌>>◌, ◌<<◌, ◌<$>◌}
use Rattle.value_text.specs.declared.fault.Why.{Why}
use Rattle.value_text.specs.Syntax.{Reader}
use Rattle.value_text.specs.Tokens.{PlainToken}
use Rattle.tydi_reading.specs.declared.fault.Fault.TheVariants as faults
use Rattle.logical_value.specs.declared.value.Value.TheVariants as values
use Rattle.value_text.specs.declared.fault.Why.TheVariants as whys
use Rattle.value_text.specs.Typed.{apart_word, bits_word, call_name, is_named, key_name, misnamed, null_word, called, comma, element, fields, group_end, judged, key, list_value, listed_values, nest, next_field, next_value, shaped, token_word, variant, variant_value, wrong}
use Rattle.value_text.specs.Words.{is_byte}
use Rattle.std.specs.Prelude.{Result, Ok, Err}

-- ---- how far a walk down a type has to go

abbrev mutual
  pub weight : Ltype → ℕ
  weight types.null = 1
  weight (types.bits width) = 1
  weight (types.group parts) = 1 + weight_of_parts parts
  weight (types.union parts) = 1 + weight_of_parts parts
  weight (types.stream inner user settings) = 1 + (weight inner + settings.dims)

  pub weight_of_parts : Parts → ℕ
  weight_of_parts types.no_parts = 0
  weight_of_parts (types.part name ltype more) = weight ltype + weight_of_parts more

parts_left : (parts : List Part) (at : ℕ) → weight_of_parts (plain_parts (drop at parts)) ≤ weight_of_parts (plain_parts parts)
parts_left parts zero = omega arith
parts_left [] (suc at) = omega arith
parts_left (one ∷ more) (suc at) = let less = parts_left more at in omega (arith, less)

pub part_weight : (parts : List Part) (at : ℕ) (one : Part) → at < length parts → one ≡ get_or parts at one → weight (plain one.ltype) ≤ weight_of_parts (plain_parts parts)
part_weight parts at one within is =
    let less = parts_left parts at in let here = ap weight_of_parts (plain_parts-at parts at one within is) in omega (arith, less, here)

-- ---- readers that take a token at least, and those that add none

-- a reading leaves no more tokens than there were
pub record Least {A : Type 0} (read : Reader A) : Type 0 where
  pub most : (ts rest : List PlainToken) (x : A) → read ts ≡ took x rest → length rest ≤ length ts

least : {A : Type 0} (read : Reader A) → Shrinks read → Least read
least read shrinks = record { most = λ ts rest x is. let less = shrinks.less ts rest x is in omega (arith, less) }

module _ {A B : Type 0} (p : Reader A) (q : A → Reader B) where
  -- where both leave so many tokens at most, so do they one after another
  bound : (ts rest : List PlainToken) (y : B) (o : Outcome Why PlainToken A) → p ts ≡ o → and_then o q ≡ took y rest
      → (middle : List PlainToken) × (x : A) × (p ts ≡ took x middle) × (q x middle ≡ took y rest)
  bound ts rest y (took x middle) made is = (middle, x, made, is)
  bound ts rest y (stopped e at) made is = absurd (let no : ◌≡◌ {A = Outcome Why PlainToken B} (stopped e at) (took y rest) = is in cc)

  least-both : Least p → ((x : A) → Least (q x)) → Least (p >>= q)
  least-both one two = record {
    most = λ ts rest y is.
        let b = bound ts rest y (p ts) refl is in let first = one.most ts b.0 b.1 b.2 in let second = (two b.1).most b.0 rest y b.3 in omega (arith, first, second);
  }

  less-first : Shrinks p → ((x : A) → Least (q x)) → Shrinks (p >>= q)
  less-first one two = record {
    less = λ ts rest y is.
        let b = bound ts rest y (p ts) refl is in let first = one.less ts b.0 b.1 b.2 in let second = (two b.1).most b.0 rest y b.3 in omega (arith, first, second);
  }

  less-second : Least p → ((x : A) → Shrinks (q x)) → Shrinks (p >>= q)
  less-second one two = record {
    less = λ ts rest y is.
        let b = bound ts rest y (p ts) refl is in let first = one.most ts b.0 b.1 b.2 in let second = (two b.1).less b.0 rest y b.3 in omega (arith, first, second);
  }

least-pure : {A : Type 0} (x : A) → Least (pure x)
least-pure {A} x = record { most = λ ts rest y is. let same : ts ≡ rest = cc in let equal = ap length same in omega (arith, equal) }

least-map : {A B : Type 0} (f : A → B) (p : Reader A) → Least p → Least (f <$> p)
least-map f p one = least-both p (λ x. pure (f x)) one (λ x. least-pure (f x))

less-map : {A B : Type 0} (f : A → B) (p : Reader A) → Shrinks p → Shrinks (f <$> p)
less-map f p one = less-first p (λ x. pure (f x)) one (λ x. least-pure (f x))

least-close : {A B : Type 0} (p : Reader A) (q : Reader B) → Least p → Least q → Least (p << q)
least-close p q one two = least-both p (λ x. (λ _. x) <$> q) one (λ x. least-map (λ _. x) q two)

less-close : {A B : Type 0} (p : Reader A) (q : Reader B) → Shrinks p → Least q → Shrinks (p << q)
less-close p q one two = less-first p (λ x. (λ _. x) <$> q) one (λ x. least-map (λ _. x) q two)

-- ---- steps

rest-less : (ts : List PlainToken) → length (rest_of ts) ≤ length ts
rest-less [] = omega arith
rest-less (t ∷ ts) = omega arith

taken-less : {A : Type 0} (t : PlainToken) (ts rest at : List PlainToken) (why : Why) (x y : A) (b : Bool)
    → cond {A = Outcome Why PlainToken A} b (took y ts) (stopped (faults.Unfit why) at) ≡ took x rest → length rest < length (t ∷ ts)
taken-less t ts rest at why x y true is = let same : ts ≡ rest = cc in let equal = ap length same in omega (arith, equal)
taken-less {A} t ts rest at why x y false is = absurd (let no : ◌≡◌ {A = Outcome Why PlainToken A} (stopped (faults.Unfit why) at) (took x rest) = is in cc)

less-shaped : (test : PlainToken → Bool) → Shrinks (shaped test)
unfolding shaped
less-shaped test = record { less = less }
  where
    less : (ts rest : List PlainToken) (x : Unit {0}) → shaped test ts ≡ took x rest → length rest < length ts
    less [] rest x is = absurd (let no : ◌≡◌ {A = Outcome Why PlainToken (Unit {0})} (stopped (faults.Unfit whys.WrongShape) []) (took x rest) = is in cc)
    less (t ∷ ts) rest x is = taken-less t ts rest (t ∷ ts) whys.WrongShape x tt (test t) is

less-key : (parts : Parts) (name : List ℕ) → Shrinks (key parts name)
unfolding key
less-key parts name = record { less = less }
  where
    less : (ts rest : List PlainToken) (x : Unit {0}) → key parts name ts ≡ took x rest → length rest < length ts
    less [] rest x is = absurd (let no : ◌≡◌ {A = Outcome Why PlainToken (Unit {0})} (stopped (faults.Unfit whys.WrongShape) []) (took x rest) = is in cc)
    less (t ∷ ts) rest x is = taken-less t ts rest (t ∷ ts) (misnamed parts (told_by key_name (t ∷ ts))) x tt (is_named name (told_by key_name (t ∷ ts))) is

least-end : (parts : Parts) → Least (group_end parts)
unfolding group_end
least-end parts = least (group_end parts) (record { less = less })
  where
    less : (ts rest : List PlainToken) (x : Unit {0}) → group_end parts ts ≡ took x rest → length rest < length ts
    less [] rest x is = absurd (let no : ◌≡◌ {A = Outcome Why PlainToken (Unit {0})} (stopped (faults.Unfit whys.WrongShape) []) (took x rest) = is in cc)
    less (t ∷ ts) rest x is = taken-less t ts rest (t ∷ ts) (misnamed parts (told_by key_name (t ∷ ts))) x tt (is_byte 125 t) is

least-comma : Least comma
unfolding comma
least-comma = record { most = most }
  where
    told : (t : PlainToken) (ts rest : List PlainToken) (x : Unit {0}) (b : Bool) → cond {A = Outcome Why PlainToken (Unit {0})} b (took tt ts) (took tt (t ∷ ts)) ≡ took x rest
        → length rest ≤ length (t ∷ ts)
    told t ts rest x true is = let same : ts ≡ rest = cc in let equal = ap length same in omega (arith, equal)
    told t ts rest x false is = let same : t ∷ ts ≡ rest = cc in let equal = ap length same in omega (arith, equal)

    most : (ts rest : List PlainToken) (x : Unit {0}) → comma ts ≡ took x rest → length rest ≤ length ts
    most [] rest x is = let same : [] ≡ rest = cc in let equal = ap length same in omega (arith, equal)
    most (t ∷ ts) rest x is = told t ts rest x (is_byte 44 t) is

less-word : (width : ℕ) → Shrinks (bits_word width)
unfolding bits_word
less-word width = record { less = less }
  where
    told : (t : PlainToken) (ts rest : List PlainToken) (x : List Bool) (word : Result (List Bool) Why) → judged word ts (t ∷ ts) ≡ took x rest → length rest < length (t ∷ ts)
    told t ts rest x (Ok bits) is = let same : ts ≡ rest = cc in let equal = ap length same in omega (arith, equal)
    told t ts rest x (Err why) is = absurd (let no : ◌≡◌ {A = Outcome Why PlainToken (List Bool)} (stopped (faults.Unfit why) (t ∷ ts)) (took x rest) = is in cc)

    less : (ts rest : List PlainToken) (x : List Bool) → bits_word width ts ≡ took x rest → length rest < length ts
    less [] rest x is = absurd (let no : ◌≡◌ {A = Outcome Why PlainToken (List Bool)} (stopped (faults.Unfit whys.WrongShape) []) (took x rest) = is in cc)
    less (t ∷ ts) rest x is = told t ts rest x (token_word width t) is

-- ---- loops

least-turn : {A : Type 0} (test : PlainToken → Bool) (item : Reader A) (found : List A) → Least item → Least (repeated_turn test false item found)
unfolding repeated_turn
least-turn {A} test item found one = record { most = λ ts rest x is. told ts rest x (tells test false ts) is }
  where
    told : (ts rest : List PlainToken) (x : Turn (List A)) (b : Bool)
        → cond {A = Reader (Turn (List A))} b (pure (done found)) ((λ x. again (found ++ x ∷ [])) <$> item) ts ≡ took x rest → length rest ≤ length ts
    told ts rest x true is = (least-pure (done found)).most ts rest x is
    told ts rest x false is = (least-map (λ x. again (found ++ x ∷ [])) item one).most ts rest x is

least-turned : {S : Type 0} (more : S → Reader S) → ((s : S) → Least (more s)) → (x : Turn S) → Least (turned more x)
least-turned more one (again s) = one s
least-turned more one (done s) = least-pure s

least-loop_from : {S : Type 0} (turn : S → Reader (Turn S)) → ((s : S) → Least (turn s)) → (turns : ℕ) (s : S) → Least (loop_from turn turns s)
unfolding loop_from
least-loop_from {S} turn one zero s = record { most = λ ts rest x is. absurd (let no : ◌≡◌ {A = Outcome Why PlainToken S} (stopped faults.Refused ts) (took x rest) = is in cc) }
least-loop_from turn one (suc turns) s = least-both (turn s) (turned (loop_from turn turns)) (one s) (least-turned (loop_from turn turns) (least-loop_from turn one turns))

least-repeated : {A : Type 0} (test : PlainToken → Bool) (item : Reader A) → Least item → Least (repeated test false item)
unfolding repeated loop
least-repeated test item one =
    record { most = λ ts rest x is. (least-loop_from (repeated_turn test false item) (λ found. least-turn test item found one) (suc (length ts)) []).most ts rest x is }

-- ---- values

pub less-next : (item : Reader Value) → Shrinks item → Shrinks (next_value item)
unfolding next_value
less-next item one = less-second comma (λ _. item) least-comma (λ _. one)

least-listed : (item : Reader Value) → Shrinks item → Least (listed_values item)
unfolding listed_values
least-listed item one = least-close (repeated (is_byte 93) false (next_value item)) (shaped (is_byte 93)) (least-repeated (is_byte 93) (next_value item) (least (next_value item) (less-next item one)))
    (least (shaped (is_byte 93)) (less-shaped (is_byte 93)))

less-list : (item : Reader Value) → Shrinks item → Shrinks (list_value item)
unfolding list_value
less-list item one = less-map values.List (shaped (is_byte 91) >> listed_values item)
    (less-first (shaped (is_byte 91)) (λ _. listed_values item) (less-shaped (is_byte 91)) (λ _. least-listed item one))

pub less-nest : (item : Reader Value) (depth : ℕ) → Shrinks item → Shrinks (nest item depth)
less-nest item zero one = one
less-nest item (suc depth) one = less-list (nest item depth) (less-nest item depth one)

least-field : (all : Parts) (name : List ℕ) (item : Reader Value) (found : List Value) → Shrinks item → Least (next_field all name item found)
unfolding next_field
least-field all name item found one = least-map (λ value. found ++ value ∷ []) (comma >> (key all name >> item))
    (least-both comma (λ _. key all name >> item) least-comma
    (λ _. least-both (key all name) (λ _. item) (least (key all name) (less-key all name)) (λ _. least item one)))

selected-less : (tag : ℕ) (item : Reader Value) → Shrinks item → Shrinks (λ ts. variant_value tag item (rest_of ts))
unfolding variant_value
selected-less tag item one = record {
  less = λ ts rest x is.
      let less = (less-map (values.Union tag) (item << shaped (is_byte 41)) (less-close item (shaped (is_byte 41)) one (least (shaped (is_byte 41)) (less-shaped (is_byte 41))))).less (rest_of ts) rest x is in
      let more = rest-less ts in omega (arith, less, more);
}

less-cond : (test : Bool) (one other : Reader Value) → Shrinks one → Shrinks other → Shrinks (cond {A = Reader Value} test one other)
less-cond true one other first second = first
less-cond false one other first second = second

less-wrong : {A : Type 0} (why : Why) → Shrinks (wrong {A = A} why)
less-wrong {A} why = record { less = λ ts rest x is. absurd (let no : ◌≡◌ {A = Outcome Why PlainToken A} (stopped (faults.Unfit why) ts) (took x rest) = is in cc) }

called-less : (by : List ℕ → Reader Value) → ((name : List ℕ) → Shrinks (by name)) → Shrinks (λ ts. called by (told_by call_name ts) ts)
called-less by one = record { less = λ ts rest x is. told ts rest x (told_by call_name ts) is }
  where
    told : (ts rest : List PlainToken) (x : Value) (o : Option (List ℕ)) → called by o ts ≡ took x rest → length rest < length ts
    told ts rest x None is = (less-wrong whys.WrongShape).less ts rest x is
    told ts rest x (Some name) is = (one name).less ts rest x is

mutual
  pub less-element : (ltype : Ltype) → Shrinks (element ltype)
  less-element types.null = less-map (λ _. values.Null) (shaped null_word) (less-shaped null_word)
  less-element (types.bits width) = less-map values.Word (bits_word width) (less-word width)
  less-element (types.group parts) = less-map values.Group (shaped (is_byte 123) >> (fields parts parts [] << (comma >> group_end parts)))
      (less-first (shaped (is_byte 123)) (λ _. fields parts parts [] << (comma >> group_end parts)) (less-shaped (is_byte 123))
      (λ _. least-close (fields parts parts []) (comma >> group_end parts) (least-fields parts parts []) (least-both comma (λ _. group_end parts) least-comma (λ _. least-end parts))))
  less-element (types.union parts) = called-less (variant parts 0) (λ name. less-variant parts 0 name)
  less-element (types.stream inner user settings) = less-cond (is_apart settings.sync) ((λ _. values.Apart) <$> shaped apart_word) (nest (element inner) settings.dims)
      (less-map (λ _. values.Apart) (shaped apart_word) (less-shaped apart_word)) (less-nest (element inner) settings.dims (less-element inner))

  least-fields : (all parts : Parts) (found : List Value) → Least (fields all parts found)
  least-fields all types.no_parts found = least-pure found
  least-fields all (types.part name ltype more) found = least-both (next_field all name (element ltype) found) (fields all more)
      (least-field all name (element ltype) found (less-element ltype)) (λ values. least-fields all more values)

  less-variant : (parts : Parts) (tag : ℕ) (name : List ℕ) → Shrinks (variant parts tag name)
  less-variant types.no_parts tag name = less-wrong whys.UnknownField
  less-variant (types.part other ltype more) tag name = less-cond (bytes_eq other name) (λ ts. variant_value tag (element ltype) (rest_of ts)) (variant more (suc tag) name)
      (selected-less tag (element ltype) (less-element ltype)) (less-variant more (suc tag) name)

-- ---- a variant by its name

pub variant-step : (parts : List Part) (at : ℕ) (one : Part) (tag next : ℕ) (name : List ℕ) (ts : List PlainToken) (all : Outcome Why PlainToken Value) → at < length parts → one ≡ get_or parts at one
    → bytes_eq one.name name ≡ false → next ≡ tag + 1 → all ≡ variant (plain_parts (drop at parts)) tag name ts → all ≡ variant (plain_parts (drop (at + 1) parts)) next name ts
variant-step parts at one tag next name ts all within is other more same =
    same ∙ ap (λ ps. variant ps tag name ts) (plain_parts-at parts at one within is)
    ∙ ap (λ (b : Bool). cond {A = Reader Value} b (λ ts. variant_value tag (element (plain one.ltype)) (rest_of ts)) (variant (plain_parts (drop (at + 1) parts)) (suc tag) name) ts) other
    ∙ ap (λ (n : ℕ). variant (plain_parts (drop (at + 1) parts)) n name ts) (let one_more : suc tag ≡ next = omega (arith, more) in one_more)
