-- A stream line of a trace text: each spelling is read, and each text that is read is a spelling.
use Rattle.std.proofs.Common.{◌≡◌, ℕ, ◌^◌, ◌<◌, ◌≤◌, Bool, true, false, ◌&&◌, nat_le, List, [], ◌∷◌, length, Option, Some, None, IfOk, Result, Ok, Err, cond, refl, sym, ap, ◌∙◌, arith}
use Rattle.std.specs.Prelude.{codes}
use Rattle.std.specs.Fmt.{decimal}
use Rattle.std.specs.Str.{bytes_eq}
use Rattle.std.proofs.lemmas.Bool.{eqb-true}
use Rattle.std.proofs.lemmas.Bool.Decides.{nat_tests}
use Rattle.std.proofs.lemmas.Fmt.{length-decimal-le}
use Rattle.std.proofs.lemmas.Slice.Eq.{bytes_eq-Decides}
use Rattle.tydi_base.specs.Decimal.{below, decimal_of}
use Rattle.tydi_base.specs.Level.{IsLevel, level_of, level_text}
use Rattle.tydi_base.specs.Path.{path_of}
use Rattle.tydi_base.specs.Pieces.{words_of}
use Rattle.std.specs.Option.{ok_or}
use Rattle.tydi_base.specs.Reading.{Gives, or_fault}
use Rattle.tydi_base.proofs.DecimalLaws.{decimal_of-decimal, decimal_of-some}
use Rattle.tydi_base.proofs.LevelLaws.{level_of-level_text, level_of-some}
use Rattle.tydi_base.proofs.LevelText.{level_text-plain}
use Rattle.tydi_base.proofs.PathLaws.{path_of-path_text, path_of-some}
use Rattle.tydi_base.proofs.PieceLaws.{join-pieces_of}
use Rattle.tydi_base.proofs.ReadingLaws.{bind_ok, or_fault_ok, ok_is}
use Rattle.tydi_base.proofs.TestLemmas.{kept, two-some}
use Rattle.physical_stream.specs.Params.{Parameters, AreInRange}
use Rattle.physical_stream.specs.declared.head.Head.{Head}
use Rattle.tydi_base.proofs.LengthLemmas.{below-short, decimal_of-below}
use Rattle.physical_stream.specs.StreamLine.{IsHead, are_parameters, direction_of, direction_text, has_keys, head_of, head_of_words, head_words, header_number, not_form_in, nth, params_of, words_text}
use Rattle.physical_stream.specs.declared.misspelling.NotForm.{NotForm}
use Rattle.tydi_base.proofs.PlainWords.{is_plain, are_plain, and_parts, decimal-plain, path_text-plain, words_of-plain}

-- ---- numbers

pub header_number-spelled : (n : ℕ) → n < 10 ^ 10 → header_number (decimal n) ≡ Ok n
unfolding header_number
header_number-spelled n below =
    let digits : length (decimal n) ≤ 10 = length-decimal-le 10 n (omega arith) below (omega arith) in
    let short : nat_le (length (decimal n)) 10 ≡ true = grind (arith, nat_tests) in
    rw (short, decimal_of-decimal n (omega arith)) refl

pub header_number-some : (digits : List ℕ) (n : ℕ) → header_number digits ≡ Ok n → digits ≡ decimal n
unfolding header_number
header_number-some digits n e =
    let read = kept (nat_le (length digits) 10) (or_fault tt (decimal_of digits)) tt n e in
    let test = read.0 in
    let is = or_fault_ok tt (decimal_of digits) n read.1 in
    let lt : n < 10 ^ 10 = decimal_of-below digits n 10 (grind (arith, nat_tests)) is in
    decimal_of-some digits n (omega arith) is

ok_or-gives : (o : Option ℕ) (e : NotForm) → Gives not_form_in (λ n. n) (ok_or o e) (or_fault tt o)
ok_or-gives None e = refl
ok_or-gives (Some n) e = refl

ok_or-below : (o : Option ℕ) (e : NotForm) → ((n : ℕ) → o ≡ Some n → n < 10 ^ 10) → IfOk (ok_or o e) (λ n. n < 10 ^ 10)
ok_or-below None e h = tt
ok_or-below (Some n) e h = h n refl

module _ (digits : List ℕ) (found : Option ℕ) (result : Result ℕ NotForm) (e : NotForm) (short : length digits ≤ 10) (read : found ≡ below (2 ^ 64) (decimal_of digits)) (is : result ≡ ok_or found e) where
  pub header_number-gives : Gives not_form_in (λ n. n) result (header_number digits)
  unfolding header_number
  header_number-gives =
      let within : nat_le (length digits) 10 ≡ true = grind (arith, nat_tests) in
      let same : found ≡ decimal_of digits = read ∙ below-short digits short in
      rw (is, same, within) (ok_or-gives (decimal_of digits) e)

  pub header_number-below : IfOk result (λ n. n < 10 ^ 10)
  header_number-below =
      let same : found ≡ decimal_of digits = read ∙ below-short digits short in
      rw (is, same) (ok_or-below (decimal_of digits) e (λ n g. decimal_of-below digits n 10 short g))

-- ---- parameters

-- parameters that a stream may have
pub record AreParameters (p : Parameters) : Type 0 where
  pub level : IsLevel p.level
  pub range : AreInRange p.lanes p.dims p.element p.user

are_parameters-from : (p : Parameters) → AreParameters p → are_parameters p.lanes p.dims p.element p.user ≡ true
are_parameters-from p h = let r = h.range in grind (arith, nat_tests)

are_parameters-to : (p : Parameters) → are_parameters p.lanes p.dims p.element p.user ≡ true → IsLevel p.level → AreParameters p
are_parameters-to p e level = record {
  level = level;
  range = record {
    some_lane = grind (arith, nat_tests);
    lanes_most = grind (arith, nat_tests);
    dims_most = grind (arith, nat_tests);
    element_most = grind (arith, nat_tests);
    user_most = grind (arith, nat_tests);
  };
}

params_of-spelled : (p : Parameters) → AreParameters p → params_of (decimal p.lanes) (decimal p.dims) (level_text p.level) (decimal p.element) (decimal p.user) ≡ Ok p
unfolding params_of
params_of-spelled p h =
    let r = h.range in
    rw (
      header_number-spelled p.lanes (omega arith),
      header_number-spelled p.dims (omega arith),
      level_of-level_text p.level h.level,
      header_number-spelled p.element (omega arith),
      header_number-spelled p.user (omega arith),
      are_parameters-from p h,
    ) refl

-- the parameters that were read of the words
record ParametersRead (lanes dims level element user : List ℕ) (p : Parameters) : Type 0 where
  lanes_is : lanes ≡ decimal p.lanes
  dims_is : dims ≡ decimal p.dims
  level_is : level ≡ level_text p.level
  element_is : element ≡ decimal p.element
  user_is : user ≡ decimal p.user
  may : AreParameters p

params_of-some : (lanes dims level element user : List ℕ) (p : Parameters) → params_of lanes dims level element user ≡ Ok p → ParametersRead lanes dims level element user p
unfolding params_of
params_of-some lanes dims level element user p e =
    let n = bind_ok (header_number lanes) _ p e in
    let d = bind_ok (header_number dims) _ p n.2 in
    let c = bind_ok (or_fault tt (level_of level)) _ p d.2 in
    let read = level_of-some level c.0 (or_fault_ok tt (level_of level) c.0 c.1) in
    let w = bind_ok (header_number element) _ p c.2 in
    let u = bind_ok (header_number user) _ p w.2 in
    let found : Parameters = record { lanes = n.0; dims = d.0; level = c.0; element = w.0; user = u.0 } in
    let made = kept (are_parameters n.0 d.0 w.0 u.0) (Ok found) tt p u.2 in
    let same = ok_is found p made.1 in
    rw (← same) (record {
      lanes_is = header_number-some lanes n.0 n.1;
      dims_is = header_number-some dims d.0 d.1;
      level_is = read.0;
      element_is = header_number-some element w.0 w.1;
      user_is = header_number-some user u.0 u.1;
      may = are_parameters-to found made.0 read.1;
    })

-- ---- the direction

direction_of-spelled : (reversed : Bool) → direction_of (direction_text reversed) ≡ Ok reversed
unfolding direction_of
direction_of-spelled true = refl
direction_of-spelled false = refl

direction_of-some : (word : List ℕ) (reversed : Bool) → direction_of word ≡ Ok reversed → word ≡ direction_text reversed
unfolding direction_of
direction_of-some word reversed e = two-some direction_text false tt word reversed e

direction_text-plain : (reversed : Bool) → is_plain (direction_text reversed) ≡ true
direction_text-plain true = refl
direction_text-plain false = refl

-- ---- the words of a head

head_of_words-spelled : (head : Head) → IsHead head → head_of_words (head_words head) ≡ Ok head
unfolding head_of_words
head_of_words-spelled head h =
    rw (path_of-path_text head.path h.names, params_of-spelled head.params (record { level = h.level; range = h.range }), direction_of-spelled head.reversed) refl

-- ---- thirteen words

pub thirteen : (words : List (List ℕ)) → length words ≡ 13
    → words ≡ nth words 0 ∷ nth words 1 ∷ nth words 2 ∷ nth words 3 ∷ nth words 4 ∷ nth words 5 ∷ nth words 6 ∷ nth words 7 ∷ nth words 8 ∷ nth words 9 ∷ nth words 10 ∷ nth words 11 ∷ nth words 12 ∷ []
thirteen (a ∷ b ∷ c ∷ d ∷ e ∷ f ∷ g ∷ h ∷ i ∷ j ∷ k ∷ l ∷ m ∷ []) long = refl
thirteen _ long = absurd (omega arith)

front_test : (a b : Bool) → (a && b) ≡ true → a ≡ true
front_test a b e = (and_parts a b e).0

back_word : (a : Bool) (word key : List ℕ) → (a && bytes_eq word key) ≡ true → word ≡ key
back_word a word key e = (bytes_eq-Decides word key).0 (and_parts a (bytes_eq word key) e).1

-- the words in their places
record HasKeys (words : List (List ℕ)) : Type 0 where
  long : length words ≡ 13
  stream : nth words 0 ≡ codes "stream"
  lanes : nth words 2 ≡ codes "lanes"
  dims : nth words 4 ≡ codes "dims"
  level : nth words 6 ≡ codes "level"
  element : nth words 8 ≡ codes "element"
  user : nth words 10 ≡ codes "user"

has_keys-to : (words : List (List ℕ)) → has_keys words ≡ true → HasKeys words
has_keys-to words user =
    let element = front_test _ _ user in
    let level = front_test _ _ element in
    let dims = front_test _ _ level in
    let lanes = front_test _ _ dims in
    let stream = front_test _ _ lanes in
    record {
      long = eqb-true (length words) 13 (front_test _ _ stream);
      stream = back_word _ (nth words 0) (codes "stream") stream;
      lanes = back_word _ (nth words 2) (codes "lanes") lanes;
      dims = back_word _ (nth words 4) (codes "dims") dims;
      level = back_word _ (nth words 6) (codes "level") level;
      element = back_word _ (nth words 8) (codes "element") element;
      user = back_word _ (nth words 10) (codes "user") user;
    }

head_of_words-some : (words : List (List ℕ)) (head : Head) → HasKeys words → head_of_words words ≡ Ok head → (words ≡ head_words head) × IsHead head
unfolding head_of_words
head_of_words-some words head keys e =
    let path = bind_ok (or_fault tt (path_of (nth words 1))) _ head e in
    let params = bind_ok (params_of (nth words 3) (nth words 5) (nth words 7) (nth words 9) (nth words 11)) _ head path.2 in
    let reversed = bind_ok (direction_of (nth words 12)) _ head params.2 in
    let found : Head = record { path = path.0; params = params.0; reversed = reversed.0 } in
    let same = ok_is found head reversed.2 in
    let path_read = path_of-some (nth words 1) path.0 (or_fault_ok tt (path_of (nth words 1)) path.0 path.1) in
    let read = params_of-some (nth words 3) (nth words 5) (nth words 7) (nth words 9) (nth words 11) params.0 params.1 in
    let direction = direction_of-some (nth words 12) reversed.0 reversed.1 in
    let all = thirteen words keys.long in
    let spelled : words ≡ head_words found = cc in
    rw (← same) (spelled, record { names = path_read.1; level = read.may.level; range = read.may.range })

-- ---- the line of a head

pub head_words-plain : (head : Head) → IsHead head → are_plain (head_words head) ≡ true
head_words-plain head h =
    let r = h.range in
    rw (
      path_text-plain head.path h.names,
      decimal-plain head.params.lanes (omega arith),
      decimal-plain head.params.dims (omega arith),
      level_text-plain head.params.level h.level,
      decimal-plain head.params.element (omega arith),
      decimal-plain head.params.user (omega arith),
      direction_text-plain head.reversed,
    ) refl

abbrev where_keys : List (List ℕ) → Result Head (Unit {0})
where_keys words = cond (has_keys words) (head_of_words words) (Err tt)

pub head_of-spelled : (head : Head) → IsHead head → head_of (words_text (head_words head)) ≡ Ok head
unfolding head_of
head_of-spelled head h = ap where_keys (words_of-plain (head_words head) (omega arith) (head_words-plain head h)) ∙ head_of_words-spelled head h

pub head_of-some : (line : List ℕ) (head : Head) → head_of line ≡ Ok head → (line ≡ words_text (head_words head)) × IsHead head
unfolding head_of
head_of-some line head e =
    let test = kept (has_keys (words_of line)) (head_of_words (words_of line)) tt head e in
    let read = head_of_words-some (words_of line) head (has_keys-to (words_of line) test.0) test.1 in
    (sym (join-pieces_of 32 line) ∙ ap words_text read.0, read.1)
