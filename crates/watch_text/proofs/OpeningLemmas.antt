-- The first lines of statements: no two kinds have one.
use Rattle.std.proofs.Common.{◌≡◌, ℕ, zero, suc, ◌-◌, Bool, true, false, nat_le, if◌then◌else◌, List, [], ◌∷◌, ◌++◌, append_assoc, append-nil, slice_index, Some, refl, sym, ap, ◌∙◌, codes, decimal, arith}
use Rattle.std.specs.Str.{bytes_eq}
use Rattle.tydi_base.specs.Path.{path_text}
use Rattle.physical_stream.specs.Signals.{has_endi, has_stai, has_strb}
use Rattle.physical_stream.specs.declared.head.Head.{Head}
use Rattle.signal_layout.specs.declared.signal.Signal.{Signal}
use Rattle.signal_layout.specs.declared.signal.Signal.TheVariants as signals
use Rattle.vhdl_text.specs.Text.{name_text, signal_word}
use Rattle.watch_text.specs.declared.opening.Opening.{Opening}
use Rattle.watch_text.specs.declared.opening.Opening.TheVariants as openings
use Rattle.watch_text.specs.Reading.{forms_of, opening_of, opening_text}
use Rattle.watch_text.specs.Text.{active_test, close_test, elem_test, elem_word, endi_test, if_line, item_width, joined, lane_slice, last_test, loop_line, own_name, stai_test, strb_test, want_name, want_test, where_has, zeros}
use Rattle.std.proofs.lemmas.List.{append_cancel_left}
use Rattle.watch_text.proofs.LineParts.{other-text, same-text}

-- two texts that differ at a byte
pub differ-at : (place : ℕ) (one other : List ℕ) → (slice_index one place ≡ slice_index other place → ⊥) → bytes_eq one other ≡ false
differ-at place one other differ = other-text one other (λ same. differ (ap (λ (l : List ℕ). slice_index l place) same))

module _ (head : Head) where
  -- a text that begins with a name beside the path
  abbrev named : List ℕ → List ℕ → List ℕ
  named word rest = 92 ∷ (path_text head.path ++ (46 ∷ (word ++ 92 ∷ rest)))

  signal-named : (signal : Signal) (rest : List ℕ) → name_text head signal ++ rest ≡ named (signal_word signal) rest
  signal-named signal rest =
      let path = path_text head.path in
      let word = signal_word signal in
      ap (λ (t : List ℕ). 92 ∷ t) (append_assoc (path ++ 46 ∷ word) (92 ∷ []) rest ∙ append_assoc path (46 ∷ word) (92 ∷ rest))

  own-named : (word rest : List ℕ) → own_name head word ++ rest ≡ named word rest
  own-named word rest =
      let path = path_text head.path in
      ap (λ (t : List ℕ). 92 ∷ t) (append_assoc path (46 ∷ (word ++ 92 ∷ [])) rest ∙ ap (λ (t : List ℕ). path ++ 46 ∷ t) (append_assoc word (92 ∷ []) rest))

  names-differ : (a b : ℕ) (one other x y : List ℕ) → (a ≡ b → ⊥) → named (a ∷ one) x ≡ named (b ∷ other) y → ⊥
  names-differ a b one other x y differ same =
      let rest = append_cancel_left (92 ∷ path_text head.path) (46 ∷ ((a ∷ one) ++ 92 ∷ x)) (46 ∷ ((b ∷ other) ++ 92 ∷ y)) same in
      differ (ap (λ (l : List ℕ). slice_index l 1) rest)

  -- how the test of a lane begins: with a word, or with the name of the strobe
  data Begins (text : List ℕ) : Type 0 where
    by_byte : (byte : ℕ) (rest : List ℕ) → text ≡ byte ∷ rest → (byte ≡ 92 → ⊥) → Begins text
    by_name : (rest : List ℕ) → text ≡ named (codes "strb") rest → Begins text

  active-begins : (stai endi strb : Bool) → Begins (joined (where_has stai (stai_test head) ++ (where_has endi (endi_test head) ++ where_has strb (strb_test head))))
  active-begins true true true = by_byte 116 _ refl (λ e. omega (arith, e))
  active-begins true true false = by_byte 116 _ refl (λ e. omega (arith, e))
  active-begins true false true = by_byte 116 _ refl (λ e. omega (arith, e))
  active-begins true false false = by_byte 116 _ refl (λ e. omega (arith, e))
  active-begins false true true = by_byte 108 _ refl (λ e. omega (arith, e))
  active-begins false true false = by_byte 108 _ refl (λ e. omega (arith, e))
  active-begins false false true = by_name (codes "(lane) = '1'") (append-nil (strb_test head) ∙ signal-named signals.Strb (codes "(lane) = '1'"))
  active-begins false false false = by_byte 116 _ refl (λ e. omega (arith, e))

  named-more : (word rest more : List ℕ) → named word rest ++ more ≡ named word (rest ++ more)
  named-more word rest more =
      let path = path_text head.path in
      ap (λ (t : List ℕ). 92 ∷ t) (append_assoc path (46 ∷ (word ++ 92 ∷ rest)) more ∙ ap (λ (t : List ℕ). path ++ 46 ∷ t) (append_assoc word (92 ∷ rest) more))

  -- no test of a lane is a test that begins with such a name
  active-other : (a : ℕ) (word test text : List ℕ) → (a ≡ 115 → ⊥) → text ≡ named (a ∷ word) test → bytes_eq (if_line text) (if_line (active_test head)) ≡ false
  active-other a word test text differ is = by (active-begins (has_stai head.params) (has_endi head.params) (has_strb head.params))
    where
      own : if_line text ≡ codes "if " ++ named (a ∷ word) (test ++ codes " then")
      own = ap (λ (t : List ℕ). codes "if " ++ t) (ap (λ (t : List ℕ). t ++ codes " then") is ∙ named-more (a ∷ word) test (codes " then"))

      by : Begins (active_test head) → bytes_eq (if_line text) (if_line (active_test head)) ≡ false
      by (by_byte byte rest begins other) = other-text (if_line text) (if_line (active_test head)) (λ same.
          other (sym (ap (λ (l : List ℕ). slice_index l 3) (sym own ∙ same ∙ ap if_line begins))))
      by (by_name rest begins) = other-text (if_line text) (if_line (active_test head)) (λ same.
          (let both = sym own ∙ same ∙ ap (λ (t : List ℕ). codes "if " ++ (t ++ codes " then")) begins ∙ ap (λ (t : List ℕ). codes "if " ++ t) (named-more (codes "strb") rest (codes " then")) in
          names-differ a 115 word (codes "trb") (test ++ codes " then") (rest ++ codes " then") differ (append_cancel_left (codes "if ") (named (a ∷ word) (test ++ codes " then")) (named (codes "strb") (rest ++ codes " then")) both)))

  last-named : last_test head ≡ named (codes "last") (codes "(lane * " ++ (decimal head.params.dims ++ codes " + dim) = '1'"))
  last-named = signal-named signals.Last (codes "(lane * " ++ (decimal head.params.dims ++ codes " + dim) = '1'"))

  want-named : (word : List ℕ) → want_test head word ≡ named (codes "want") (codes "(place) = " ++ word)
  want-named word = own-named (codes "want") (codes "(place) = " ++ word)

  -- no test of the last bit is a need
  last-other : (word : List ℕ) → bytes_eq (if_line (want_test head word)) (if_line (last_test head)) ≡ false
  last-other word = other-text (if_line (want_test head word)) (if_line (last_test head)) (λ same.
      (let last = codes "(lane * " ++ (decimal head.params.dims ++ codes " + dim) = '1'") in
      let rest = append_cancel_left (codes "if ") (want_test head word ++ codes " then") (last_test head ++ codes " then") same in
      let both = sym (named-more (codes "want") (codes "(place) = " ++ word) (codes " then")) ∙ ap (λ (t : List ℕ). t ++ codes " then") (sym (want-named word)) ∙ rest ∙ ap (λ (t : List ℕ). t ++ codes " then") last-named
      ∙ named-more (codes "last") last (codes " then") in
      names-differ 119 108 (codes "ant") (codes "ast") ((codes "(place) = " ++ word) ++ codes " then") (last ++ codes " then") (λ e. omega (arith, e)) both))

  -- the word of an element begins with a one, and that of an end with a zero
  elem-begins : (width : ℕ) → (rest : List ℕ) × (elem_word head width ≡ 34 ∷ 49 ∷ rest)
  elem-begins zero = (codes "0000000\"", refl)
  elem-begins (suc less) = by (nat_le 6 (suc less))
    where
      by : (wide : Bool) → (rest : List ℕ) × ((if wide then codes "\"10\" & " ++ lane_slice head else codes "\"10\" & \"" ++ (zeros (6 - suc less) ++ (codes "\" & " ++ lane_slice head))) ≡ 34 ∷ 49 ∷ rest)
      by true = (codes "0\" & " ++ lane_slice head, refl)
      by false = (codes "0\" & \"" ++ (zeros (6 - suc less) ++ (codes "\" & " ++ lane_slice head)), refl)

  elem-other : bytes_eq (if_line (close_test head)) (if_line (elem_test head)) ≡ false
  elem-other = other-text (if_line (close_test head)) (if_line (elem_test head)) (λ same.
      (let word = elem-begins head.params.element in
      let close = codes "\"01\" & std_logic_vector(to_unsigned(dim, " ++ (decimal (item_width head.params) ++ codes "))") in
      let rest = append_cancel_left (codes "if ") (want_test head close ++ codes " then") (elem_test head ++ codes " then") same in
      let flat = λ (w : List ℕ). append_assoc (want_name head) (codes "(place) = " ++ w) (codes " then") in
      let tests = sym (flat close) ∙ rest ∙ flat (elem_word head head.params.element) in
      let words = append_cancel_left (want_name head) ((codes "(place) = " ++ close) ++ codes " then") ((codes "(place) = " ++ elem_word head head.params.element) ++ codes " then") tests in
      let bytes = ap (λ (l : List ℕ). slice_index l 11) words ∙ ap (λ (w : List ℕ). slice_index ((codes "(place) = " ++ w) ++ codes " then") 11) word.1 in
      absurd (omega (arith, bytes))))

  pub opening_of-own : (opening : Opening) → opening_of (forms_of head) (opening_text (forms_of head) opening) ≡ Some opening
  unfolding opening_of forms_of
  opening_of-own openings.Lanes = rw (same-text (loop_line (codes "lane") head.params.lanes)) refl
  opening_of-own openings.Dims =
      let line = loop_line (codes "dim") head.params.dims in
      rw (differ-at 4 line (loop_line (codes "lane") head.params.lanes) (λ e. omega (arith, e)), same-text line) refl
  opening_of-own openings.IfActive =
      let line = if_line (active_test head) in
      rw (differ-at 0 line (loop_line (codes "lane") head.params.lanes) (λ e. omega (arith, e)), differ-at 0 line (loop_line (codes "dim") head.params.dims) (λ e. omega (arith, e)), same-text line) refl
  opening_of-own openings.IfLast =
      let line = if_line (last_test head) in
      rw (
        differ-at 0 line (loop_line (codes "lane") head.params.lanes) (λ e. omega (arith, e)),
        differ-at 0 line (loop_line (codes "dim") head.params.dims) (λ e. omega (arith, e)),
        active-other 108 (codes "ast") (codes "(lane * " ++ (decimal head.params.dims ++ codes " + dim) = '1'")) (last_test head) (λ e. omega (arith, e)) last-named,
        same-text line,
      ) refl
  opening_of-own openings.NeedElem =
      let line = if_line (elem_test head) in
      let word = elem_word head head.params.element in
      rw (
        differ-at 0 line (loop_line (codes "lane") head.params.lanes) (λ e. omega (arith, e)),
        differ-at 0 line (loop_line (codes "dim") head.params.dims) (λ e. omega (arith, e)),
        active-other 119 (codes "ant") (codes "(place) = " ++ word) (elem_test head) (λ e. omega (arith, e)) (want-named word),
        last-other word,
        same-text line,
      ) refl
  opening_of-own openings.NeedClose =
      let line = if_line (close_test head) in
      let word = codes "\"01\" & std_logic_vector(to_unsigned(dim, " ++ (decimal (item_width head.params) ++ codes "))") in
      rw (
        differ-at 0 line (loop_line (codes "lane") head.params.lanes) (λ e. omega (arith, e)),
        differ-at 0 line (loop_line (codes "dim") head.params.dims) (λ e. omega (arith, e)),
        active-other 119 (codes "ant") (codes "(place) = " ++ word) (close_test head) (λ e. omega (arith, e)) (want-named word),
        last-other word,
        elem-other,
        same-text line,
      ) refl
