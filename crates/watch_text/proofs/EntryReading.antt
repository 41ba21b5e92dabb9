-- Entries of tables: what is read is spelled so.
use Rattle.std.proofs.Common.{◌≡◌, ℕ, ◌-◌, ◌<◌, ◌^◌, Bool, true, false, nat_lt, cond, List, ◌++◌, append_assoc, append-nil, length, Option, Some, None, option_and_then, refl, sym, ap, ◌∙◌, codes, decimal, arith}
use Rattle.std.specs.Str.{bytes_eq}
use Rattle.std.proofs.lemmas.Bool.Decides.{nat_tests}
use Rattle.std.proofs.lemmas.Option.{none-some, same_Some, option_and_then_some}
use Rattle.std.proofs.lemmas.Slice.Eq.{bytes_eq-Decides}
use Rattle.tydi_base.specs.Binary.{binary_of, binary_word_at}
use Rattle.tydi_base.specs.Bits.{bits_of, number_of_bits}
use Rattle.tydi_base.proofs.BitsLemmas.{bits_of-number_of_bits}
use Rattle.physical_stream.specs.Params.{Parameters}
use Rattle.physical_stream.specs.declared.head.Head.{Head}
use Rattle.physical_stream.specs.declared.item.Item.{Item}
use Rattle.physical_stream.specs.declared.item.Item.TheVariants as items
use Rattle.vhdl_text.proofs.LineLemmas.{sized-some}
use Rattle.watch_text.specs.declared.entry.Entry.{Entry}
use Rattle.watch_text.specs.declared.entry.Entry.TheVariants as entries
use Rattle.watch_text.specs.Reading.{behind_number, close_in, cut_before, elem_or, entry_at, entry_of_line, item_of, shape_of, without_front, word_in}
use Rattle.watch_text.specs.Text.{end_digits, end_line, entry_front, item_digits, item_line, item_width, zeros}
use Rattle.watch_text.specs.WellFormed.{IsItemOf}
use Rattle.watch_text.proofs.LineParts.{cut_before-some, without_front-some}

-- ---- words

-- a word that was read behind a front
pub record WordRead (front : List ℕ) (width : ℕ) (text : List ℕ) (bits : List Bool) : Type 0 where
  pub spelled : text ≡ front ++ (binary_of bits ++ codes "\",")
  pub wide : length bits ≡ width

pub word_in-some : (front : List ℕ) (width : ℕ) (text : List ℕ) (bits : List Bool) → word_in front width text ≡ Some bits → WordRead front width text bits
unfolding word_in
word_in-some front width text bits e =
    option_and_then_some {A = List ℕ} {B = List Bool} {P = WordRead front width text bits} (binary_word_at width) (option_and_then (cut_before width (codes "\",")) (without_front front text)) bits e (λ digits cut word.
    option_and_then_some {A = List ℕ} {B = List ℕ} {P = WordRead front width text bits} (cut_before width (codes "\",")) (without_front front text) digits cut (λ rest there before.
    let read = sized-some width digits bits word in
    record {
      spelled = without_front-some front text rest there
          ∙ ap (λ (t : List ℕ). front ++ t) (cut_before-some width (codes "\",") rest digits before ∙ ap (λ (t : List ℕ). t ++ codes "\",") read.0);
      wide = read.1;
    }))

-- ---- items

-- an entry that was read as an item
pub record ItemRead (p : Parameters) (text : List ℕ) (entry : Entry) : Type 0 where
  pub item : Item
  pub is : entry ≡ entries.Item item
  pub spelled : text ≡ item_digits p item ++ codes "\","
  pub own : IsItemOf p item

module _ (head : Head) where
  abbrev p : Parameters
  p = head.params

  elem-read : (text : List ℕ) (word : List Bool) (entry : Entry) → WordRead (codes "10" ++ zeros (item_width p - p.element)) p.element text word → entries.Item (items.Elem word) ≡ entry → ItemRead p text entry
  elem-read text word entry read same =
      let front = codes "10" ++ zeros (item_width p - p.element) in
      record {
        item = items.Elem word;
        is = sym same;
        spelled = read.spelled ∙ sym (append_assoc front (binary_of word) (codes "\",")) ∙ ap (λ (t : List ℕ). t ++ codes "\",") (append_assoc (codes "10") (zeros (item_width p - p.element)) (binary_of word));
        own = read.wide;
      }

  close-read : (text : List ℕ) (bits : List Bool) (entry : Entry) → WordRead (codes "01" ++ zeros (item_width p - 6)) 6 text bits → close_in p.dims (Some bits) ≡ Some entry → ItemRead p text entry
  close-read text bits entry read e = by (nat_lt (number_of_bits bits) p.dims) refl e
    where
      six : bits_of 6 (number_of_bits bits) ≡ bits
      six = ap (λ (n : ℕ). bits_of n (number_of_bits bits)) (sym (omega (arith, read.wide))) ∙ bits_of-number_of_bits bits 0 ∙ append-nil bits

      by : (test : Bool) → nat_lt (number_of_bits bits) p.dims ≡ test → cond test (Some (entries.Item (items.Close (number_of_bits bits)))) None ≡ Some entry → ItemRead p text entry
      by false is e = absurd (none-some entry e)
      by true is e =
          let front = codes "01" ++ zeros (item_width p - 6) in
          record {
            item = items.Close (number_of_bits bits);
            is = sym (same_Some (entries.Item (items.Close (number_of_bits bits))) entry e);
            spelled = read.spelled ∙ ap (λ (b : List Bool). front ++ (binary_of b ++ codes "\",")) (sym six) ∙ sym (append_assoc front (binary_of (bits_of 6 (number_of_bits bits))) (codes "\","))
                ∙ ap (λ (t : List ℕ). t ++ codes "\",") (append_assoc (codes "01") (zeros (item_width p - 6)) (binary_of (bits_of 6 (number_of_bits bits))));
            own = grind (arith, nat_tests);
          }

  pub item_of-some : (text : List ℕ) (entry : Entry) → item_of (shape_of head) text ≡ Some entry → ItemRead p text entry
  unfolding item_of shape_of
  item_of-some text entry e = by_elem (word_in front p.element text) refl e
    where
      front : List ℕ
      front = codes "10" ++ zeros (item_width p - p.element)

      other : List ℕ
      other = codes "01" ++ zeros (item_width p - 6)

      by_close : (found : Option (List Bool)) → word_in other 6 text ≡ found → close_in p.dims found ≡ Some entry → ItemRead p text entry
      by_close None is e = absurd (none-some entry e)
      by_close (Some bits) is e = close-read text bits entry (word_in-some other 6 text bits is) e

      by_elem : (found : Option (List Bool)) → word_in front p.element text ≡ found → elem_or found (close_in p.dims (word_in other 6 text)) ≡ Some entry → ItemRead p text entry
      by_elem None is e = by_close (word_in other 6 text) refl e
      by_elem (Some word) is e = elem-read text word entry (word_in-some front p.element text word is) (same_Some (entries.Item (items.Elem word)) entry e)

  -- ---- lines

  behind_number-some : (number : ℕ) (line rest : List ℕ) → behind_number (decimal number) line ≡ Some rest → line ≡ entry_front number ++ rest
  unfolding behind_number
  behind_number-some number line rest e =
      option_and_then_some {A = List ℕ} {B = List ℕ} {P = line ≡ entry_front number ++ rest} (without_front (codes " => \"")) (option_and_then (without_front (decimal number)) (without_front (codes "    ") line)) rest e (λ after found last.
      option_and_then_some {A = List ℕ} {B = List ℕ} {P = line ≡ entry_front number ++ rest} (without_front (decimal number)) (without_front (codes "    ") line) after found (λ spelled there digits.
      without_front-some (codes "    ") line spelled there
      ∙ ap (λ (t : List ℕ). codes "    " ++ t) (without_front-some (decimal number) spelled after digits ∙ ap (λ (t : List ℕ). decimal number ++ t) (without_front-some (codes " => \"") after rest last)
      ∙ sym (append_assoc (decimal number) (codes " => \"") rest))))

  -- the line of an item, or that of the end
  pub data LineRead (last : List ℕ) (number : ℕ) (line : List ℕ) (entry : Entry) : Type 0 where
    item_read : (item : Item) → entry ≡ entries.Item item → line ≡ item_line p number item → IsItemOf p item → number < 2 ^ 64 → LineRead last number line entry
    end_read : entry ≡ entries.End → line ≡ end_line p number → decimal number ≡ last → number < 2 ^ 64 → LineRead last number line entry

  pub entry_of_line-some : (last : List ℕ) (number : ℕ) (line : List ℕ) (entry : Entry) → entry_of_line (shape_of head) last number line ≡ Some entry → LineRead last number line entry
  unfolding entry_of_line shape_of
  entry_of_line-some last number line entry e = by_few (nat_lt number (2 ^ 64)) refl e
    where
      by_item : (text : List ℕ) → number < 2 ^ 64 → line ≡ entry_front number ++ text → item_of (shape_of head) text ≡ Some entry → LineRead last number line entry
      by_item text few is e =
          let read = item_of-some text entry e in
          item_read read.item read.is (is ∙ ap (λ (t : List ℕ). entry_front number ++ t) read.spelled) read.own few

      by_last : (text : List ℕ) → number < 2 ^ 64 → line ≡ entry_front number ++ text → (is_end is_last : Bool) → bytes_eq text (end_digits p ++ codes "\"") ≡ is_end → bytes_eq (decimal number) last ≡ is_last
          → cond is_end (cond is_last (Some entries.End) None) (cond is_last None (item_of (shape_of head) text)) ≡ Some entry → LineRead last number line entry
      by_last text few is true true end_is last_is e =
          end_read (sym (same_Some entries.End entry e)) (is ∙ ap (λ (t : List ℕ). entry_front number ++ t) ((bytes_eq-Decides text (end_digits p ++ codes "\"")).0 end_is)) ((bytes_eq-Decides (decimal number) last).0 last_is) few
      by_last text few is true false end_is last_is e = absurd (none-some entry e)
      by_last text few is false true end_is last_is e = absurd (none-some entry e)
      by_last text few is false false end_is last_is e = by_item text few is e

      by_few : (few : Bool) → nat_lt number (2 ^ 64) ≡ few → cond few (option_and_then (entry_at (shape_of head) (bytes_eq (decimal number) last)) (behind_number (decimal number) line)) None ≡ Some entry → LineRead last number line entry
      by_few false is e = absurd (none-some entry e)
      by_few true is e =
          let few : number < 2 ^ 64 = grind (arith, nat_tests) in
          option_and_then_some {A = List ℕ} {B = Entry} {P = LineRead last number line entry} (entry_at (shape_of head) (bytes_eq (decimal number) last)) (behind_number (decimal number) line) entry e (λ text found entry_is.
          by_last text few (behind_number-some number line text found) (bytes_eq text (end_digits p ++ codes "\"")) (bytes_eq (decimal number) last) refl refl entry_is)
