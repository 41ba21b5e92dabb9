-- Entries of tables: what is spelled is read.
use Rattle.std.proofs.Common.{◌≡◌, ℕ, suc, ◌+◌, ◌-◌, ◌<◌, ◌^◌, Bool, true, false, nat_lt, ◌==◌, List, [], ◌∷◌, ◌++◌, append_assoc, length, Some, None, refl, sym, ap, ◌∙◌, codes, decimal, slice_index, arith}
use Rattle.std.specs.Str.{bytes_eq}
use Rattle.std.proofs.lemmas.Bool.Decides.{nat_tests}
use Rattle.std.proofs.lemmas.Fmt.{decimal_injective}
use Rattle.tydi_base.specs.Binary.{binary_of, binary_word_at}
use Rattle.tydi_base.specs.Bits.{bits_of, number_of_bits}
use Rattle.tydi_base.proofs.BinaryLemmas.{binary_spelled}
use Rattle.tydi_base.proofs.BitsLemmas.{length-bits_of, number_of_bits-bits_of}
use Rattle.physical_stream.specs.Params.{Parameters}
use Rattle.physical_stream.specs.StreamLine.{IsHead}
use Rattle.physical_stream.specs.declared.head.Head.{Head}
use Rattle.physical_stream.specs.declared.item.Item.{Item}
use Rattle.physical_stream.specs.declared.item.Item.TheVariants as items
use Rattle.vhdl_text.proofs.LineLemmas.{length-binary}
use Rattle.watch_text.specs.declared.entry.Entry.TheVariants as entries
use Rattle.watch_text.specs.Reading.{behind_number, entry_of_line, item_of, shape_of, word_in}
use Rattle.watch_text.specs.Text.{end_digits, end_line, entry_front, item_digits, item_line, item_width, zeros}
use Rattle.watch_text.specs.WellFormed.{IsItemOf}
use Rattle.watch_text.proofs.LineParts.{cut_before-append, other-text, same-text, without_front-append, without_front-none}

-- ---- bytes that differ

first-clash : (a b : ℕ) (one other : List ℕ) → (a ≡ b → ⊥) → ◌≡◌ {A = List ℕ} (a ∷ one) (b ∷ other) → ⊥
first-clash a b one other differ same = differ (ap (λ (l : List ℕ). slice_index l 0) same)

second-clash : (first a b : ℕ) (one other : List ℕ) → (a ≡ b → ⊥) → ◌≡◌ {A = List ℕ} (first ∷ a ∷ one) (first ∷ b ∷ other) → ⊥
second-clash first a b one other differ same = differ (ap (λ (l : List ℕ). slice_index l 1) same)

-- ---- words

pub word_in-spelled : (front : List ℕ) (width : ℕ) (bits : List Bool) → length bits ≡ width → word_in front width (front ++ (binary_of bits ++ codes "\",")) ≡ Some bits
unfolding word_in binary_word_at
word_in-spelled front width bits wide =
    let digits = binary_of bits in
    let many : length digits ≡ width = length-binary bits ∙ wide in
    let sized : (length digits == width) ≡ true = grind (arith, nat_tests, many) in
    rw (without_front-append front (digits ++ codes "\","), cut_before-append width digits (codes "\",") many, sized, binary_spelled bits) refl

-- ---- items

module _ (head : Head) (h : IsHead head) where
  abbrev p : Parameters
  p = head.params

  elem-spelled : (word : List Bool) → length word ≡ p.element → item_of (shape_of head) (item_digits p (items.Elem word) ++ codes "\",") ≡ Some (entries.Item (items.Elem word))
  unfolding item_of shape_of
  elem-spelled word wide =
      let front = codes "10" ++ zeros (item_width p - p.element) in
      let text : item_digits p (items.Elem word) ++ codes "\"," ≡ front ++ (binary_of word ++ codes "\",") =
      ap (λ (t : List ℕ). t ++ codes "\",") (sym (append_assoc (codes "10") (zeros (item_width p - p.element)) (binary_of word))) ∙ append_assoc front (binary_of word) (codes "\",") in
      ap (item_of (shape_of head)) text ∙ rw (word_in-spelled front p.element word wide) refl

  -- an end of a sequence is no element
  no-elem : (front rest text : List ℕ) (width : ℕ) → word_in (codes "10" ++ front) width (48 ∷ text) ≡ None
  unfolding word_in
  no-elem front rest text width = rw (without_front-none (codes "10" ++ front) (48 ∷ text) (λ rest same. first-clash 48 49 text (48 ∷ (front ++ rest)) (λ e. omega (arith, e)) same)) refl

  close-spelled : (dim : ℕ) → dim < p.dims → item_of (shape_of head) (item_digits p (items.Close dim) ++ codes "\",") ≡ Some (entries.Item (items.Close dim))
  unfolding item_of shape_of
  close-spelled dim few =
      let front = codes "01" ++ zeros (item_width p - 6) in
      let bits = bits_of 6 dim in
      let text : item_digits p (items.Close dim) ++ codes "\"," ≡ front ++ (binary_of bits ++ codes "\",") =
      ap (λ (t : List ℕ). t ++ codes "\",") (sym (append_assoc (codes "01") (zeros (item_width p - 6)) (binary_of bits))) ∙ append_assoc front (binary_of bits) (codes "\",") in
      let most = h.range.dims_most in
      let number : number_of_bits bits ≡ dim = number_of_bits-bits_of 6 dim (omega (arith, most, few)) in
      let below : nat_lt dim p.dims ≡ true = grind (arith, nat_tests, few) in
      ap (item_of (shape_of head)) text
      ∙ rw (no-elem (zeros (item_width p - p.element)) [] (49 ∷ (zeros (item_width p - 6) ++ (binary_of bits ++ codes "\","))) p.element, word_in-spelled front 6 bits (length-bits_of 6 dim), number, below) refl

  pub item-spelled : (item : Item) → IsItemOf p item → item_of (shape_of head) (item_digits p item ++ codes "\",") ≡ Some (entries.Item item)
  item-spelled (items.Elem word) is = elem-spelled word is
  item-spelled (items.Close dim) is = close-spelled dim is

  -- the end begins with two zeros
  ends_so : end_digits p ++ codes "\"" ≡ 48 ∷ 48 ∷ (zeros (item_width p) ++ codes "\"")
  ends_so = let two : item_width p + 2 ≡ suc (suc (item_width p)) = omega arith in ap (λ (n : ℕ). zeros n ++ codes "\"") two

  -- an item is no end
  no-end : (item : Item) → bytes_eq (item_digits p item ++ codes "\",") (end_digits p ++ codes "\"") ≡ false
  no-end (items.Elem word) = other-text (item_digits p (items.Elem word) ++ codes "\",") (end_digits p ++ codes "\"")
      (λ same. first-clash 49 48 (48 ∷ ((zeros (item_width p - p.element) ++ binary_of word) ++ codes "\",")) (48 ∷ (zeros (item_width p) ++ codes "\"")) (λ e. omega (arith, e)) (same ∙ ends_so))
  no-end (items.Close dim) = other-text (item_digits p (items.Close dim) ++ codes "\",") (end_digits p ++ codes "\"")
      (λ same. second-clash 48 49 48 ((zeros (item_width p - 6) ++ binary_of (bits_of 6 dim)) ++ codes "\",") (zeros (item_width p) ++ codes "\"") (λ e. omega (arith, e)) (same ∙ ends_so))

  -- ---- lines

  behind_number-spelled : (digits rest : List ℕ) → behind_number digits (codes "    " ++ (digits ++ (codes " => \"" ++ rest))) ≡ Some rest
  unfolding behind_number
  behind_number-spelled digits rest =
      rw (without_front-append (codes "    ") (digits ++ (codes " => \"" ++ rest)), without_front-append digits (codes " => \"" ++ rest), without_front-append (codes " => \"") rest) refl

  behind-front : (number : ℕ) (rest : List ℕ) → behind_number (decimal number) (entry_front number ++ rest) ≡ Some rest
  behind-front number rest = ap (λ (t : List ℕ). behind_number (decimal number) (codes "    " ++ t)) (append_assoc (decimal number) (codes " => \"") rest) ∙ behind_number-spelled (decimal number) rest

  pub item_line-spelled : (last number : ℕ) (item : Item) → number < last → last < 2 ^ 64 → IsItemOf p item → entry_of_line (shape_of head) (decimal last) number (item_line p number item) ≡ Some (entries.Item item)
  unfolding entry_of_line shape_of
  item_line-spelled last number item before few is =
      let below : nat_lt number (2 ^ 64) ≡ true = grind (arith, nat_tests, before, few) in
      let other : bytes_eq (decimal number) (decimal last) ≡ false =
      other-text (decimal number) (decimal last) (λ same. absurd (omega (arith, before, decimal_injective number last (omega (arith, before, few)) few same))) in
      rw (below, behind-front number (item_digits p item ++ codes "\","), other, no-end item) (item-spelled item is)

  pub end_line-spelled : (last : ℕ) → last < 2 ^ 64 → entry_of_line (shape_of head) (decimal last) last (end_line p last) ≡ Some entries.End
  unfolding entry_of_line shape_of
  end_line-spelled last few =
      let below : nat_lt last (2 ^ 64) ≡ true = grind (arith, nat_tests, few) in
      rw (below, behind-front last (end_digits p ++ codes "\""), same-text (decimal last), same-text (end_digits p ++ codes "\"")) refl
