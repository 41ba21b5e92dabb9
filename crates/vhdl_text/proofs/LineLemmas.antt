-- The lines of statements: what is spelled is read, and what is read is spelled so.
use Rattle.std.proofs.Common.{◌≡◌, ℕ, zero, suc, Bool, true, false, ◌&&◌, ◌||◌, ◌==◌, cond, List, [], ◌∷◌, ◌++◌, append_assoc, length, slice_get, Option, Some, None, option_map, option_and_then, refl, sym, ap, ◌∙◌, arith}
use Rattle.std.specs.Prelude.{codes}
use Rattle.std.specs.List.{list_all}
use Rattle.std.specs.Str.{bytes_eq}
use Rattle.std.proofs.lemmas.Bool.{eqb-true}
use Rattle.std.proofs.lemmas.Bool.Decides.{nat_tests}
use Rattle.std.proofs.lemmas.Option.{none-some, same_Some, slice_get-map}
use Rattle.std.proofs.lemmas.Slice.Eq.{bytes_eq-Decides}
use Rattle.tydi_base.specs.Binary.{binary_of, binary_word, binary_word_at}
use Rattle.tydi_base.specs.Path.{path_text}
use Rattle.tydi_base.specs.Pieces.{Lacks}
use Rattle.tydi_base.proofs.BinaryLemmas.{binary_read, binary_spelled}
use Rattle.tydi_base.proofs.PlainWords.{and_parts, both}
use Rattle.tydi_reading.proofs.TableLemmas.{entry-word}
use Rattle.physical_stream.specs.StreamLine.{IsHead}
use Rattle.physical_stream.specs.declared.head.Head.{Head}
use Rattle.signal_layout.specs.declared.signal.Signal.{Signal}
use Rattle.signal_layout.specs.declared.signal.Signal.TheVariants as signals
use Rattle.vhdl_text.specs.declared.place.Place.{Place}
use Rattle.vhdl_text.specs.Lines.{Between, Cut, all_signals, between, constant_at, cut_last, digits_in, digits_of, number_of, paths_of, place_at, place_in, place_of, signal_of_word}
use Rattle.vhdl_text.specs.Text.{await_line, plain_name, put_line, quote_of, signal_word}
use Rattle.vhdl_text.specs.WellFormed.{AreApart}
use Rattle.vhdl_text.proofs.CutLemmas.{between-append, between-some, binary-digits, binary-lacks, cut_last-append, cut_last-some, is_not, is_path_byte, lacks-by, path_bytes-lack, path_text-bytes, all-append}

-- ---- streams by their paths

pub number_of-some : (texts : List (List ℕ)) (text : List ℕ) (i : ℕ) → number_of texts text ≡ Some i → slice_get texts i ≡ Some text
number_of-some [] text i e = absurd (none-some i e)
number_of-some (first ∷ texts) text i e = by_test (λ k found. number_of-some texts text k found) (bytes_eq text first) refl e
  where
    by_later : (found : Option ℕ) → ((k : ℕ) → found ≡ Some k → slice_get texts k ≡ Some text) → option_map suc found ≡ Some i → slice_get (first ∷ texts) i ≡ Some text
    by_later None later e = absurd (none-some i e)
    by_later (Some k) later e = let same = same_Some (suc k) i e in rw (← same) (later k refl)

    by_test : ((k : ℕ) → number_of texts text ≡ Some k → slice_get texts k ≡ Some text) → (test : Bool) → bytes_eq text first ≡ test → cond test (Some 0) (option_map suc (number_of texts text)) ≡ Some i
        → slice_get (first ∷ texts) i ≡ Some text
    by_test later true is e = let same = same_Some 0 i e in rw (← same) (ap Some (sym ((bytes_eq-Decides text first).0 is)))
    by_test later false is e = by_later (number_of texts text) later e

pub number_of-apart : (texts : List (List ℕ)) (text : List ℕ) (i : ℕ) → slice_get texts i ≡ Some text → ((j : ℕ) → slice_get texts j ≡ Some text → j ≡ i) → number_of texts text ≡ Some i
number_of-apart [] text i there only = absurd (none-some text there)
number_of-apart (first ∷ texts) text i there only = by_test (λ k found others. number_of-apart texts text k found others) (bytes_eq text first) refl
  where
    differs : (k : ℕ) → bytes_eq text first ≡ false → slice_get (first ∷ texts) k ≡ Some text → (rest : ℕ) × (k ≡ suc rest) × (slice_get texts rest ≡ Some text)
    differs zero isnt e = absurd (cc (sym isnt ∙ (bytes_eq-Decides text first).1 (sym (same_Some first text e))))
    differs (suc k) isnt e = (k, refl, e)

    less : (a b : ℕ) → ◌≡◌ {A = ℕ} (suc a) (suc b) → a ≡ b
    less a b e = omega arith

    by_test : ((k : ℕ) → slice_get texts k ≡ Some text → ((j : ℕ) → slice_get texts j ≡ Some text → j ≡ k) → number_of texts text ≡ Some k)
        → (test : Bool) → bytes_eq text first ≡ test → cond test (Some 0) (option_map suc (number_of texts text)) ≡ Some i
    by_test rest true is = ap Some (only 0 (ap Some (sym ((bytes_eq-Decides text first).0 is))))
    by_test rest false is =
        let later = differs i is there in
        let found = rest later.0 later.2 (λ j e. less j later.0 (only (suc j) e ∙ later.1)) in
        rw found (ap Some (sym later.1))

-- the head of a path
pub path-head : (heads : List Head) (i : ℕ) (text : List ℕ) → slice_get (paths_of heads) i ≡ Some text → (head : Head) × (slice_get heads i ≡ Some head) × (path_text head.path ≡ text)
path-head heads i text e = by_head (slice_get heads i) refl (sym (slice_get-map (λ head. path_text head.path) heads i) ∙ e)
  where
    by_head : (found : Option Head) → slice_get heads i ≡ found → option_map (λ head. path_text head.path) found ≡ Some text → (head : Head) × (slice_get heads i ≡ Some head) × (path_text head.path ≡ text)
    by_head None is e = absurd (none-some text e)
    by_head (Some head) is e = (head, is, same_Some (path_text head.path) text e)

path-there : (heads : List Head) (i : ℕ) (head : Head) → slice_get heads i ≡ Some head → slice_get (paths_of heads) i ≡ Some (path_text head.path)
path-there heads i head e = slice_get-map (λ head. path_text head.path) heads i ∙ ap (option_map (λ head. path_text head.path)) e

-- ---- names

signal_of_word-own : (signal : Signal) → signal_of_word (signal_word signal) ≡ Some signal
unfolding signal_of_word
signal_of_word-own signals.Valid = refl
signal_of_word-own signals.Ready = refl
signal_of_word-own signals.Content = refl
signal_of_word-own signals.Last = refl
signal_of_word-own signals.Stai = refl
signal_of_word-own signals.Endi = refl
signal_of_word-own signals.Strb = refl
signal_of_word-own signals.User = refl

signal_word-bytes : (signal : Signal) → list_all is_path_byte (signal_word signal) ≡ true
signal_word-bytes signals.Valid = refl
signal_word-bytes signals.Ready = refl
signal_word-bytes signals.Content = refl
signal_word-bytes signals.Last = refl
signal_word-bytes signals.Stai = refl
signal_word-bytes signals.Endi = refl
signal_word-bytes signals.Strb = refl
signal_word-bytes signals.User = refl

signal_word-lacks_point : (signal : Signal) → list_all (is_not 46) (signal_word signal) ≡ true
signal_word-lacks_point signals.Valid = refl
signal_word-lacks_point signals.Ready = refl
signal_word-lacks_point signals.Content = refl
signal_word-lacks_point signals.Last = refl
signal_word-lacks_point signals.Stai = refl
signal_word-lacks_point signals.Endi = refl
signal_word-lacks_point signals.Strb = refl
signal_word-lacks_point signals.User = refl

pub plain_name-bytes : (head : Head) (signal : Signal) → IsHead head → list_all is_path_byte (plain_name head signal) ≡ true
plain_name-bytes head signal h = all-append is_path_byte (path_text head.path) (46 ∷ signal_word signal) (path_text-bytes head.path h.names) (signal_word-bytes signal)

pub place_of-spelled : (heads : List Head) (stream : ℕ) (head : Head) (signal : Signal) → AreApart heads → slice_get heads stream ≡ Some head
    → place_of (paths_of heads) (plain_name head signal) ≡ Some (record { stream = stream; signal = signal })
unfolding place_of
place_of-spelled heads stream head signal apart there =
    let path = path_text head.path in
    let only = λ (j : ℕ) (e : slice_get (paths_of heads) j ≡ Some path). (let found = path-head heads j path e in apart j stream found.0 head found.1 there found.2) in
    rw (cut_last-append 46 path (signal_word signal) (lacks-by 46 (signal_word signal) (signal_word-lacks_point signal)), number_of-apart (paths_of heads) path stream (path-there heads stream head there) only, signal_of_word-own signal) refl

-- the signal that a name was read as
pub record NameRead (heads : List Head) (name : List ℕ) (place : Place) : Type 0 where
  pub head : Head
  pub there : slice_get heads place.stream ≡ Some head
  pub spelled : name ≡ plain_name head place.signal

place_at-some : (stream : Option ℕ) (signal : Option Signal) (place : Place) → place_at stream signal ≡ Some place → (stream ≡ Some place.stream) × (signal ≡ Some place.signal)
place_at-some None signal place e = absurd (none-some place e)
place_at-some (Some n) None place e = absurd (none-some place e)
place_at-some (Some n) (Some s) place e = let same = same_Some (record { stream = n; signal = s }) place e in (ap (λ (p : Place). Some p.stream) same, ap (λ (p : Place). Some p.signal) same)

place_in-some : (heads : List Head) (name : List ℕ) (found : Option Cut) (place : Place) → cut_last 46 name ≡ found → place_in (paths_of heads) found ≡ Some place → NameRead heads name place
unfolding signal_of_word
place_in-some heads name None place is e = absurd (none-some place e)
place_in-some heads name (Some cut) place is e =
    let parts = place_at-some (number_of (paths_of heads) cut.front) (signal_of_word cut.back) place e in
    let path = path-head heads place.stream cut.front (number_of-some (paths_of heads) cut.front place.stream parts.0) in
    let word : cut.back ≡ signal_word place.signal = entry-word signal_word all_signals cut.back place.signal parts.1 in
    record {
      head = path.0;
      there = path.1;
      spelled = cut_last-some 46 name cut is ∙ ap (λ (w : List ℕ). cut.front ++ 46 ∷ w) word ∙ ap (λ (p : List ℕ). p ++ 46 ∷ signal_word place.signal) (sym path.2);
    }

pub place_of-some : (heads : List Head) (name : List ℕ) (place : Place) → place_of (paths_of heads) name ≡ Some place → NameRead heads name place
unfolding place_of
place_of-some heads name place e = place_in-some heads name (cut_last 46 name) place refl e

-- ---- constants

pub length-binary : (bits : List Bool) → length (binary_of bits) ≡ length bits
length-binary bits = sym (binary_read (binary_of bits) bits (binary_spelled bits)).1

-- an assignment of a constant, after the name
abbrev pub assigned : ℕ → List Bool → List ℕ
assigned mark bits = codes " <= " ++ mark ∷ (binary_of bits ++ mark ∷ codes ";")

-- the two marks
pub record IsQuote (mark : ℕ) : Type 0 where
  pub front : list_all (is_not mark) (codes " <= ") ≡ true
  pub back : list_all (is_not mark) (codes ";") ≡ true
  pub digits : (mark == 48 || mark == 49) ≡ false
  pub name : is_not 92 mark ≡ true
  pub line : is_not 10 mark ≡ true

pub quote_of-is : (signal : Signal) → IsQuote (quote_of signal)
quote_of-is signals.Valid = record { front = refl; back = refl; digits = refl; name = refl; line = refl }
quote_of-is signals.Ready = record { front = refl; back = refl; digits = refl; name = refl; line = refl }
quote_of-is signals.Content = record { front = refl; back = refl; digits = refl; name = refl; line = refl }
quote_of-is signals.Last = record { front = refl; back = refl; digits = refl; name = refl; line = refl }
quote_of-is signals.Stai = record { front = refl; back = refl; digits = refl; name = refl; line = refl }
quote_of-is signals.Endi = record { front = refl; back = refl; digits = refl; name = refl; line = refl }
quote_of-is signals.Strb = record { front = refl; back = refl; digits = refl; name = refl; line = refl }
quote_of-is signals.User = record { front = refl; back = refl; digits = refl; name = refl; line = refl }

pub constant_at-spelled : (mark : ℕ) (bits : List Bool) (width : ℕ) → IsQuote mark → length bits ≡ width → constant_at mark width (assigned mark bits) ≡ Some bits
unfolding constant_at digits_of binary_word_at
constant_at-spelled mark bits width quote wide =
    let digits = binary_of bits in
    let cut = between-append mark (codes " <= ") digits (codes ";") (lacks-by mark (codes " <= ") quote.front) (binary-lacks mark digits quote.digits (binary-digits bits)) (lacks-by mark (codes ";") quote.back) in
    let sized : (length digits == width) ≡ true = grind (arith, nat_tests, length-binary bits) in
    rw (cut, sized, binary_spelled bits) refl

parts-are : (a b c x y z : List ℕ) → a ≡ x → b ≡ y → c ≡ z → ◌≡◌ {A = Between} (record { front = a; inside = b; back = c }) (record { front = x; inside = y; back = z })
parts-are a b c x y z p q r = cc

digits_in-some : (found : Option Between) (digits : List ℕ) → digits_in found ≡ Some digits → (parts : Between) × (found ≡ Some parts) × (parts ≡ record { front = codes " <= "; inside = digits; back = codes ";" })
digits_in-some None digits e = absurd (none-some digits e)
digits_in-some (Some parts) digits e = by_test (bytes_eq parts.front (codes " <= ") && bytes_eq parts.back (codes ";")) refl e
  where
    by_test : (test : Bool) → (bytes_eq parts.front (codes " <= ") && bytes_eq parts.back (codes ";")) ≡ test → cond test (Some parts.inside) None ≡ Some digits
        → (found : Between) × (◌≡◌ {A = Option Between} (Some parts) (Some found)) × (found ≡ record { front = codes " <= "; inside = digits; back = codes ";" })
    by_test false is e = absurd (none-some digits e)
    by_test true is e =
        let both_are = and_parts (bytes_eq parts.front (codes " <= ")) (bytes_eq parts.back (codes ";")) is in
        let front = (bytes_eq-Decides parts.front (codes " <= ")).0 both_are.0 in
        let back = (bytes_eq-Decides parts.back (codes ";")).0 both_are.1 in
        let inside = same_Some parts.inside digits e in
        (parts, refl, parts-are parts.front parts.inside parts.back (codes " <= ") digits (codes ";") front inside back)

pub sized-some : (width : ℕ) (digits : List ℕ) (bits : List Bool) → binary_word_at width digits ≡ Some bits → (digits ≡ binary_of bits) × (length bits ≡ width)
unfolding binary_word_at
sized-some width digits bits e = by_test (length digits == width) refl e
  where
    by_test : (test : Bool) → (length digits == width) ≡ test → cond test (binary_word digits) None ≡ Some bits → (digits ≡ binary_of bits) × (length bits ≡ width)
    by_test true is e = let read = binary_read digits bits e in (read.0, read.1 ∙ eqb-true (length digits) width is)
    by_test false is e = absurd (none-some bits e)

pub constant_at-some : (mark width : ℕ) (text : List ℕ) (bits : List Bool) → constant_at mark width text ≡ Some bits → (text ≡ assigned mark bits) × (length bits ≡ width)
unfolding constant_at digits_of
constant_at-some mark width text bits e = by_digits (digits_in (between mark text)) refl e
  where
    by_digits : (found : Option (List ℕ)) → digits_in (between mark text) ≡ found → option_and_then (binary_word_at width) found ≡ Some bits → (text ≡ assigned mark bits) × (length bits ≡ width)
    by_digits None is e = absurd (none-some bits e)
    by_digits (Some digits) is e =
        let word = sized-some width digits bits e in
        let parts = digits_in-some (between mark text) digits is in
        (between-some mark text parts.0 parts.1 ∙ ap (λ (p : Between). p.front ++ mark ∷ (p.inside ++ mark ∷ p.back)) parts.2 ∙ ap (λ (d : List ℕ). codes " <= " ++ mark ∷ (d ++ mark ∷ codes ";")) word.0, word.1)

-- ---- lines with a name

-- the line that assigns a word, around its name
pub put_line-flat : (head : Head) (signal : Signal) (bits : List Bool) → put_line head signal bits ≡ codes "    " ++ 92 ∷ (plain_name head signal ++ 92 ∷ assigned (quote_of signal) bits)
put_line-flat head signal bits =
    let mark = quote_of signal in
    ap (λ (t : List ℕ). codes "    " ++ 92 ∷ t)
    (append_assoc (plain_name head signal) (92 ∷ []) (codes " <= " ++ ((mark ∷ (binary_of bits ++ mark ∷ [])) ++ codes ";"))
    ∙ ap (λ (t : List ℕ). plain_name head signal ++ 92 ∷ (codes " <= " ++ mark ∷ t)) (append_assoc (binary_of bits) (mark ∷ []) (codes ";")))

-- the line that waits, around its name
pub await_line-flat : (head : Head) → await_line head ≡ codes "    wait until rising_edge(clk) and " ++ 92 ∷ (plain_name head signals.Ready ++ 92 ∷ codes " = '1';")
await_line-flat head = ap (λ (t : List ℕ). codes "    wait until rising_edge(clk) and " ++ 92 ∷ t) (append_assoc (plain_name head signals.Ready) (92 ∷ []) (codes " = '1';"))

pub binary-all : (test : ℕ → Bool) (bits : List Bool) → test 48 ≡ true → test 49 ≡ true → list_all test (binary_of bits) ≡ true
unfolding binary_of
binary-all test [] zero_is one_is = refl
binary-all test (true ∷ bits) zero_is one_is = all-append test (binary_of bits) (49 ∷ []) (binary-all test bits zero_is one_is) (rw one_is refl)
binary-all test (false ∷ bits) zero_is one_is = all-append test (binary_of bits) (48 ∷ []) (binary-all test bits zero_is one_is) (rw zero_is refl)

assigned-lacks_mark : (signal : Signal) (bits : List Bool) → Lacks 92 (assigned (quote_of signal) bits)
assigned-lacks_mark signal bits =
    let mark = quote_of signal in
    let name = (quote_of-is signal).name in
    lacks-by 92 (assigned mark bits)
    (both (is_not 92 mark) (list_all (is_not 92) (binary_of bits ++ mark ∷ codes ";")) name (all-append (is_not 92) (binary_of bits) (mark ∷ codes ";") (binary-all (is_not 92) bits refl refl) (both (is_not 92 mark) true name refl)))

pub between-put : (head : Head) (signal : Signal) (bits : List Bool) → IsHead head
    → between 92 (put_line head signal bits) ≡ Some (record { front = codes "    "; inside = plain_name head signal; back = assigned (quote_of signal) bits })
between-put head signal bits h =
    ap (between 92) (put_line-flat head signal bits)
    ∙ between-append 92 (codes "    ") (plain_name head signal) (assigned (quote_of signal) bits) (lacks-by 92 (codes "    ") refl) (path_bytes-lack 92 (plain_name head signal) refl (plain_name-bytes head signal h)) (assigned-lacks_mark signal bits)

pub between-await : (head : Head) → IsHead head
    → between 92 (await_line head) ≡ Some (record { front = codes "    wait until rising_edge(clk) and "; inside = plain_name head signals.Ready; back = codes " = '1';" })
between-await head h =
    ap (between 92) (await_line-flat head)
    ∙ between-append 92 (codes "    wait until rising_edge(clk) and ") (plain_name head signals.Ready) (codes " = '1';") (lacks-by 92 (codes "    wait until rising_edge(clk) and ") refl)
    (path_bytes-lack 92 (plain_name head signals.Ready) refl (plain_name-bytes head signals.Ready h)) (lacks-by 92 (codes " = '1';") refl)
