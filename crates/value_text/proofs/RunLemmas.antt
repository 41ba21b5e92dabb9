-- Words one after another, of which many are written at once.
use Rattle.std.proofs.Common.{◌≡◌, ◌∙◌, ℕ, ◌+◌, ◌*◌, ◌<◌, ◌≤◌, List, [], ◌∷◌, ◌++◌, length, length-append, min, take, drop, slice_get, Some, None, refl, sym, ap, append-nil, append_assoc, arith}
use Rattle.std.proofs.lemmas.List.{drop_all, drop_more, take_more, take-append-drop}
use Rattle.std.proofs.lemmas.Option.{get_or_from_slice_get, slice_get_within}
use Rattle.tydi_base.specs.Lengths.{most_bytes}
use Rattle.logical_value.specs.Tree.{Tree, Trees, no_trees, tree, plain, plain_values}
use Rattle.logical_value.specs.declared.value.Value.{Value}
use Rattle.value_text.specs.Canonical.{nests_text}
use Rattle.value_text.specs.declared.pending.Pending.{Pending}
use Rattle.value_text.specs.Pending.{Begins, number_in, number_of_values, part_steps, part_text, rest_of, steps_of}
use Rattle.value_text.specs.Runs.{FirstWritten, LeavesWritten, leaf_text}
use Rattle.value_text.proofs.PendingLemmas.{begun-whole, rest-push, steps-push, values-some}

-- ---- texts

-- nests whose leaves have the same texts
nests-same : (one other : Tree → List ℕ) (between before : List ℕ) → ((value : Tree) → one value ≡ other value) → (values : Trees)
    → nests_text one between before values ≡ nests_text other between before values
nests-same one other between before same no_trees = refl
nests-same one other between before same (tree value others) =
    ap (λ (l : List ℕ). (before ++ l) ++ nests_text one between between others) (same value)
    ∙ ap (λ (l : List ℕ). (before ++ other value) ++ l) (nests-same one other between between same others)

-- words behind words
leaves-append : (between : List ℕ) (values more : List Value)
    → nests_text leaf_text between between (plain_values (values ++ more)) ≡ nests_text leaf_text between between (plain_values values) ++ nests_text leaf_text between between (plain_values more)
leaves-append between [] more = refl
leaves-append between (one ∷ others) more =
    let front = between ++ leaf_text (plain one) in
    ap (λ (l : List ℕ). front ++ l) (leaves-append between others more)
    ∙ sym (append_assoc front (nests_text leaf_text between between (plain_values others)) (nests_text leaf_text between between (plain_values more)))

values-append : (values more : List Value) → number_in (plain_values (values ++ more)) ≡ number_in (plain_values values) + number_in (plain_values more)
values-append [] more = omega arith
values-append (one ∷ others) more = let rest = values-append others more in omega (arith, rest)

-- ---- the first words

-- none is written
pub first-none : (between : List ℕ) (values : List Value) (out : List ℕ) → FirstWritten between values 0 out out
first-none between values out = record { few = omega arith; written = sym (append-nil out) }

-- one word more is written
pub first-more : (between : List ℕ) (values : List Value) (count : ℕ) (one : Value) (out mid out_now : List ℕ) → FirstWritten between values count out mid
    → slice_get values count ≡ Some one → out_now ≡ mid ++ (between ++ leaf_text (plain one)) → FirstWritten between values (count + 1) out out_now
first-more between values count one out mid out_now written found is =
    let within : count < length values = slice_get_within values count one found in
    let front = nests_text leaf_text between between (plain_values (take count values)) in
    let word : nests_text leaf_text between between (plain_values (one ∷ [])) ≡ between ++ leaf_text (plain one) = append-nil (between ++ leaf_text (plain one)) in
    record {
      few = omega (arith, within);
      written = is ∙ ap (λ (l : List ℕ). l ++ (between ++ leaf_text (plain one))) written.written
          ∙ append_assoc out front (between ++ leaf_text (plain one))
          ∙ ap (λ (l : List ℕ). out ++ (front ++ l)) (sym word)
          ∙ ap (λ (l : List ℕ). out ++ l) (sym (leaves-append between (take count values) (one ∷ [])))
          ∙ ap (λ (vs : List Value). out ++ nests_text leaf_text between between (plain_values vs))
          (ap (λ (v : Value). take count values ++ v ∷ []) (sym (get_or_from_slice_get values count one one found)) ∙ sym (take_more values count one within));
    }

-- what is written of the first words is written of all
pub leaves-written : (between : List ℕ) (values left left_now : List Value) (count : ℕ) (out mid out_now : List ℕ) → LeavesWritten between values left out mid
    → FirstWritten between left count mid out_now → left_now ≡ drop count left → LeavesWritten between values left_now out out_now
leaves-written between values left left_now count out mid out_now before first rest =
    let front = nests_text leaf_text between between (plain_values (take count left)) in
    let whole : take count left ++ drop count left ≡ left = take-append-drop count left in
    let many : number_in (plain_values left) ≡ number_in (plain_values (take count left)) + number_in (plain_values (drop count left)) =
    ap (λ (vs : List Value). number_in (plain_values vs)) (sym whole) ∙ values-append (take count left) (drop count left) in
    record {
      written = ap (λ (vs : List Value). out_now ++ nests_text leaf_text between between (plain_values vs)) rest
          ∙ ap (λ (l : List ℕ). l ++ nests_text leaf_text between between (plain_values (drop count left))) first.written
          ∙ append_assoc mid front (nests_text leaf_text between between (plain_values (drop count left)))
          ∙ ap (λ (l : List ℕ). mid ++ l) (sym (leaves-append between (take count left) (drop count left)))
          ∙ ap (λ (vs : List Value). mid ++ nests_text leaf_text between between (plain_values vs)) whole
          ∙ before.written;
      fewer = omega (arith, many, before.fewer, ap (λ (vs : List Value). number_in (plain_values vs)) rest);
    }

-- ---- words that are counted

-- the bytes of the first words are counted, the first behind one text and each other behind another; the next stands behind a text of so many bytes
pub record CountsLeaves (before between : List ℕ) (values : List Value) (count lead bytes : ℕ) : Type 0 where
  pub front : List ℕ
  pub lead_is : lead ≡ length front
  pub few : bytes ≤ most_bytes
  pub counted : min (length (nests_text leaf_text between before (plain_values values))) most_bytes
      ≡ min (bytes + length (nests_text leaf_text between front (plain_values (drop count values)))) most_bytes

pub counts-none : (before between : List ℕ) (values : List Value) (lead : ℕ) → lead ≡ length before → CountsLeaves before between values 0 lead 0
counts-none before between values lead is = record { front = before; lead_is = is; few = omega arith; counted = omega arith }

pub counts-more : (before between : List ℕ) (values : List Value) (count lead bytes : ℕ) (one : Value) (next word_bytes with_lead bytes_now : ℕ) → CountsLeaves before between values count lead bytes
    → slice_get values count ≡ Some one → next ≡ length between → word_bytes ≡ length (leaf_text (plain one)) → with_lead ≡ min (bytes + lead) most_bytes
    → bytes_now ≡ min (with_lead + word_bytes) most_bytes → CountsLeaves before between values (count + 1) next bytes_now
counts-more before between values count lead bytes one next word_bytes with_lead bytes_now so found next_is word_is lead_sum sum =
    let within : count < length values = slice_get_within values count one found in
    let rest = nests_text leaf_text between between (plain_values (drop (count + 1) values)) in
    let begins : drop count values ≡ one ∷ drop (count + 1) values =
    drop_more values count one within ∙ ap (λ (v : Value). v ∷ drop (count + 1) values) (get_or_from_slice_get values count one one found) in
    let long : length (nests_text leaf_text between so.front (plain_values (drop count values))) ≡ (length so.front + length (leaf_text (plain one))) + length rest =
    ap (λ (vs : List Value). length (nests_text leaf_text between so.front (plain_values vs))) begins
    ∙ length-append (so.front ++ leaf_text (plain one)) rest ∙ ap (λ (n : ℕ). n + length rest) (length-append so.front (leaf_text (plain one))) in
    record {
      front = between;
      lead_is = next_is;
      few = omega (arith, sum);
      counted = so.counted ∙ omega (arith, so.few, so.lead_is, long, word_is, lead_sum, sum);
    }

pub counts-all : (text : Tree → List ℕ) (before between : List ℕ) (values : List Value) (count lead bytes : ℕ) → ((value : Tree) → text value ≡ leaf_text value)
    → CountsLeaves before between values count lead bytes → length values ≤ count → bytes ≡ min (length (nests_text text between before (plain_values values))) most_bytes
counts-all text before between values count lead bytes same so past =
    let none : length (nests_text leaf_text between so.front (plain_values (drop count values))) ≡ 0 =
    ap (λ (vs : List Value). length (nests_text leaf_text between so.front (plain_values vs))) (drop_all count values past) in
    omega (arith, so.few, so.counted, none, ap length (nests-same text leaf_text between before same (plain_values values)))

-- ---- a step

-- the first value and those behind it
pub first-of : (values rest : List Value) (one : Value) → slice_get values 0 ≡ Some one → rest ≡ drop 1 values → values ≡ one ∷ rest
first-of [] rest one found is = absurd (let no : None ≡ Some one = found in cc)
first-of (head ∷ values) rest one found is = let same : head ≡ one = cc in ap (λ (v : Value). v ∷ values) same ∙ ap (λ (l : List Value). one ∷ l) (sym is)

-- the first word is written, and then some of the others
module _ (text : Tree → List ℕ) (between before : List ℕ) (values more rest : List Value) (one : Value) (out out_one out_now : List ℕ)
    (same : (value : Tree) → text value ≡ leaf_text value) (begins : values ≡ one ∷ more) (first : out_one ≡ out ++ (before ++ leaf_text (plain one)))
    (others : LeavesWritten between more rest out_one out_now) where
  run-written : out_now ++ nests_text text between between (plain_values rest) ≡ out ++ nests_text text between before (plain_values values)
  run-written =
      let front = before ++ leaf_text (plain one) in
      let left = nests_text leaf_text between between (plain_values more) in
      ap (λ (l : List ℕ). out_now ++ l) (nests-same text leaf_text between between same (plain_values rest))
      ∙ others.written
      ∙ ap (λ (l : List ℕ). l ++ left) first
      ∙ append_assoc out front left
      ∙ ap (λ (vs : List Value). out ++ nests_text leaf_text between before (plain_values vs)) (sym begins)
      ∙ ap (λ (l : List ℕ). out ++ l) (sym (nests-same text leaf_text between before same (plain_values values)))

  -- the rest is left as a part
  pub run-begun : (part : Pending) (left left_now : List Pending) → part_text part ≡ nests_text text between between (plain_values rest)
      → part_steps part ≡ 1 + 3 * number_in (plain_values rest) → left_now ≡ left ++ part ∷ []
      → Begins (nests_text text between before (plain_values values)) (1 + 3 * number_in (plain_values values)) left left_now out out_now
  run-begun part left left_now is_rest many pushed =
      let all = nests_text text between before (plain_values values) in
      let count : number_in (plain_values values) ≡ number_of_values (plain one) + number_in (plain_values more) = ap (λ (vs : List Value). number_in (plain_values vs)) begins in
      record {
        written = ap (λ (l : List Pending). out_now ++ rest_of l) pushed
            ∙ ap (λ (l : List ℕ). out_now ++ l) (rest-push left part)
            ∙ sym (append_assoc out_now (part_text part) (rest_of left))
            ∙ ap (λ (l : List ℕ). l ++ rest_of left) (ap (λ (l : List ℕ). out_now ++ l) is_rest ∙ run-written)
            ∙ append_assoc out all (rest_of left);
        fewer = omega (arith, ap steps_of pushed ∙ steps-push left part, many, count, others.fewer, values-some (plain one));
      }

  -- none is left
  pub run-ended : (left : List Pending) → rest ≡ []
      → Begins (nests_text text between before (plain_values values)) (1 + 3 * number_in (plain_values values)) left left out out_now
  run-ended left none =
      begun-whole (nests_text text between before (plain_values values)) (1 + 3 * number_in (plain_values values)) left out out_now
      (sym (append-nil out_now) ∙ ap (λ (vs : List Value). out_now ++ nests_text text between between (plain_values vs)) (sym none) ∙ run-written) (omega arith)
