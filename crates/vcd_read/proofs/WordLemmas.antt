-- The words of states.
use Rattle.std.proofs.Common.{◌≡◌, ◌∙◌, ℕ, zero, suc, ◌+◌, ◌-◌, ◌≤◌, Bool, true, false, List, [], ◌∷◌, ◌++◌, length, map, replicate, Option, Some, None}
use Rattle.std.proofs.Common.{option_map, if◌then◌else◌, ◌==◌, ◌||◌, append_assoc, refl, sym, ap, subst, arith}
use Rattle.std.specs.List.{list_all}
use Rattle.std.proofs.lemmas.Bool.{eqb-true}
use Rattle.std.proofs.lemmas.List.{append-nil, length-append, length-replicate}
use Rattle.tydi_base.specs.Binary.{binary_bits, binary_word, is_binary_digit}
use Rattle.tydi_base.specs.Bits.{zero_bits}
use Rattle.tydi_base.proofs.PlainWords.{and_parts}
use Rattle.vcd_read.specs.Letters.{ReadsStates, letter_of}
use Rattle.vcd_read.specs.Words.{bit_of, filled, filling, onto_states, state_of, states_of, under, word_of}
use Rattle.vcd_read.specs.Wires.{IsWide}
use Rattle.vcd_read.specs.declared.state.State.{State}
use Rattle.vcd_read.specs.declared.state.State.TheVariants as states

-- a bit more
one_more : (all : Bool) (bits : List Bool) (rest : Option (List Bool)) (bit : Bool) → (if all then Some bits else None) ≡ rest
    → (if all then Some (bits ++ bit ∷ []) else None) ≡ under (Some bit) rest
unfolding under
one_more true bits rest bit is = ap (under (Some bit)) is
one_more false bits rest bit is = ap (under (Some bit)) is

-- the letters of states are the digits of their word
pub binary-letters : (found : List State) → binary_word (map letter_of found) ≡ word_of found
unfolding binary_word binary_bits under bit_of
binary-letters [] = refl
binary-letters (states.Low ∷ more) = one_more (list_all is_binary_digit (map letter_of more)) (binary_bits (map letter_of more))
    (word_of more) false (binary-letters more)
binary-letters (states.High ∷ more) = one_more (list_all is_binary_digit (map letter_of more)) (binary_bits (map letter_of more))
    (word_of more) true (binary-letters more)
binary-letters (states.Unknown ∷ more) = refl
binary-letters (states.Floating ∷ more) = refl

-- zeros above a word
abbrev pub above : ℕ → Option (List Bool) → Option (List Bool)
above count word = option_map (λ bits. bits ++ zero_bits count) word

zeros-next : (count : ℕ) → zero_bits count ++ false ∷ [] ≡ zero_bits (suc count)
zeros-next zero = refl
zeros-next (suc count) = ap (λ (bits : List Bool). false ∷ bits) (zeros-next count)

above-next : (count : ℕ) (word : Option (List Bool)) → under (Some false) (above count word) ≡ above (suc count) word
unfolding under
above-next count None = refl
above-next count (Some bits) = ap (λ (b : List Bool). Some b) (append_assoc bits (zero_bits count) (false ∷ [])
    ∙ ap (λ (b : List Bool). bits ++ b) (zeros-next count))

above-none : (word : Option (List Bool)) → word ≡ above 0 word
above-none None = refl
above-none (Some bits) = ap (λ (b : List Bool). Some b) (sym (append-nil bits))

low-word : (count : ℕ) (found : List State) → word_of (replicate count states.Low ++ found) ≡ above count (word_of found)
unfolding under bit_of
low-word zero found = above-none (word_of found)
low-word (suc count) found = ap (under (Some false)) (low-word count found) ∙ above-next count (word_of found)

pub unknown-word : (count : ℕ) (found : List State) → word_of (replicate count states.Unknown ++ states.Unknown ∷ found) ≡ None
unfolding under bit_of
unknown-word zero found = refl
unknown-word (suc count) found = refl

pub floating-word : (count : ℕ) (found : List State) → word_of (replicate count states.Floating ++ states.Floating ∷ found) ≡ None
unfolding under bit_of
floating-word zero found = refl
floating-word (suc count) found = refl

-- the word of a vector that is filled
filling-word : (count : ℕ) (found : List State) → word_of (replicate count (filling found) ++ found) ≡ above count (word_of found)
unfolding under bit_of
filling-word count [] = low-word count []
filling-word count (states.Low ∷ more) = low-word count (states.Low ∷ more)
filling-word count (states.High ∷ more) = low-word count (states.High ∷ more)
filling-word count (states.Unknown ∷ more) = unknown-word count more
filling-word count (states.Floating ∷ more) = floating-word count more

pub length-letters : (found : List State) → length (map letter_of found) ≡ length found
length-letters [] = refl
length-letters (state ∷ more) = ap suc (length-letters more)

pub filled-word : (width : ℕ) (letters : List ℕ) (found : List State) → letters ≡ map letter_of found
    → word_of (filled width found) ≡ above (width - length letters) (binary_word letters)
filled-word width letters found is =
    filling-word (width - length found) found ∙ ap (above (width - length found)) (sym (binary-letters found) ∙ ap binary_word (sym is))
    ∙ ap (λ n. above (width - n) (binary_word letters)) (sym (ap length is ∙ length-letters found))

-- ---- digits

-- the states of digits are kept by the digits
pub record AreStates (letters : List ℕ) : Type 0 where
  pub found : List State
  pub read : states_of letters ≡ Some found
  pub kept_are : letters ≡ map letter_of found

digit-state : (digit : ℕ) → is_binary_digit digit ≡ true → (state : State) × (state_of digit ≡ Some state) × (digit ≡ letter_of state)
unfolding state_of
digit-state digit is = by (digit == 48) (digit == 49) refl refl is
  where
    by : (low high : Bool) → (digit == 48) ≡ low → (digit == 49) ≡ high → (low || high) ≡ true
        → (state : State) × (state_of digit ≡ Some state) × (digit ≡ letter_of state)
    by true high low_is high_is is = let same = eqb-true digit 48 low_is in (states.Low, ap state_of same, same)
    by false true low_is high_is is = let same = eqb-true digit 49 high_is in (states.High, ap state_of same, same)
    by false false low_is high_is is = absurd (let e = is in cc)

pub digits-states : (letters : List ℕ) → list_all is_binary_digit letters ≡ true → AreStates letters
unfolding onto_states
digits-states [] is = record { found = []; read = refl; kept_are = refl }
digits-states (digit ∷ more) is =
    let parts = and_parts (is_binary_digit digit) (list_all is_binary_digit more) is in
    let one = digit-state digit parts.0 in let rest = digits-states more parts.1 in
    record {
      found = one.0 ∷ rest.found;
      read = (λ i. onto_states (one.1 i) (rest.read i));
      kept_are = (λ i. one.2 i ∷ rest.kept_are i);
    }

-- letters that are digits are kept as they are
pub keeps-digits : (letters kept : List ℕ) → list_all is_binary_digit letters ≡ true → kept ≡ letters → ReadsStates true (states_of letters) kept
keeps-digits letters kept is same =
    let are = digits-states letters is in subst (λ (o : Option (List State)). ReadsStates true o kept) (sym are.read) (same ∙ are.kept_are)

-- ---- states, letter by letter

-- the states after others
abbrev pub after : List State → Option (List State) → Option (List State)
after found None = None
after found (Some more) = Some (found ++ more)

-- the letters that are read, and those that are left, are all
pub record AreRead (letters rest kept : List ℕ) : Type 0 where
  pub found : List State
  pub kept_are : kept ≡ map letter_of found
  pub all : states_of letters ≡ after found (states_of rest)

pub after-next : (found : List State) (state : State) (rest : Option (List State)) → after found (onto_states (Some state) rest) ≡ after (found ++ state ∷
    []) rest
unfolding onto_states
after-next found state None = refl
after-next found state (Some more) = ap (λ (l : List State). Some l) (sym (append_assoc found (state ∷ []) more))

-- ---- widths

under-wide : (bit : Option Bool) (word : Option (List Bool)) (width : ℕ) → IsWide width word → IsWide (suc width) (under bit word)
unfolding under
under-wide None word width wide = tt
under-wide (Some bit) None width wide = tt
under-wide (Some bit) (Some bits) width wide = length-append bits (bit ∷ []) ∙ (let same : length bits ≡ width = wide in omega arith)

-- the word of states has a bit for each
pub word-wide : (found : List State) → IsWide (length found) (word_of found)
word-wide [] = refl
word-wide (state ∷ more) = under-wide (bit_of state) (word_of more) (length more) (word-wide more)

pub length-filled : (width : ℕ) (found : List State) → length found ≤ width → length (filled width found) ≡ width
length-filled width found few = length-append (replicate (width - length found) (filling found)) found
    ∙ ap (λ n. n + length found) (length-replicate (width - length found) (filling found)) ∙ omega arith
