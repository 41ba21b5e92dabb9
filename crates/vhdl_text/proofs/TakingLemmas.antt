-- Lines that are taken one after another, by the steps of their reading.
use Rattle.std.proofs.Common.{◌≡◌, ◌≢◌, ℕ, Bool, true, false, cond, List, [], ◌∷◌, ◌++◌, append_assoc, length, length-append, drop, Option, Some, None, Result, Ok, Err, refl, sym, ap, ◌∙◌, arith}
use Rattle.std.specs.Prelude.{MatchOption}
use Rattle.std.specs.BTreeSet.{BTreeSet}
use Rattle.std.specs.Str.{bytes_eq}
use Rattle.std.specs.declared.vec.Vec.{Vec}
use Rattle.std.proofs.lemmas.Option.{none-some, same_Some}
use Rattle.tydi_base.specs.Path.{path_text}
use Rattle.tydi_base.specs.Reading.{or_fault}
use Rattle.tydi_base.specs.TextSet.{AddsText, HasTexts}
use Rattle.tydi_base.proofs.ReadingLaws.{ok_is}
use Rattle.tydi_base.proofs.SetLemmas.{HasTexts-more}
use Rattle.tydi_reading.specs.Lists.{mark}
use Rattle.tydi_reading.specs.Reading.{Outcome, took, stopped, and_then, pure, first, rest_of}
use Rattle.tydi_reading.specs.declared.fault.Fault.{Fault}
use Rattle.tydi_reading.specs.declared.fault.Fault.TheVariants as refusals
use Rattle.physical_stream.specs.StreamLine.{head_of}
use Rattle.physical_stream.specs.declared.head.Head.{Head}
use Rattle.vhdl_text.specs.declared.bench.Stmt.{Stmt}
use Rattle.vhdl_text.specs.declared.refusal.Refusal.{Refusal}
use Rattle.vhdl_text.specs.Lines.{refusal_in}
use Rattle.vhdl_text.specs.Reading.{Progress, head_after, heads_from, is_comment, new_head, the_lines, with_read}

-- a refusal that is no want of memory
pub refused-is : {A : Type 0} (read : Result A (Fault Refusal)) (e : Fault Refusal) → MatchOption (refusal_in e) (Unit {0}) (λ f. read ≡ Err f) → e ≢ refusals.Memory → read ≡ Err e
refused-is read refusals.Refused fails other = fails
refused-is read (refusals.Unfit why) fails other = fails
refused-is read refusals.Memory fails other = absurd (other refl)

-- ---- statements

pub with_read-fails : (so_far : Progress) (read : Result Stmt (Fault Refusal)) (e : Fault Refusal) → MatchOption (refusal_in e) (Unit {0}) (λ f. read ≡ Err f) → MatchOption (refusal_in e) (Unit {0}) (λ f. with_read so_far read ≡ Err f)
with_read-fails so_far read refusals.Refused fails = ap (with_read so_far) fails
with_read-fails so_far read (refusals.Unfit why) fails = ap (with_read so_far) fails
with_read-fails so_far read refusals.Memory fails = tt

-- ---- lines that are given

pub the_lines-next : (wanted lines rest : List (List ℕ)) (line : List ℕ) (x : Unit {0}) → Some line ≡ first wanted → ◌≡◌ {A = Outcome Refusal (List ℕ) (Unit {0})} (mark (λ next. bytes_eq next line) lines) (took x rest)
    → the_lines wanted lines ≡ the_lines (rest_of wanted) rest
unfolding the_lines
the_lines-next [] lines rest line x there taken = absurd (none-some line (sym there))
the_lines-next (next ∷ wanted) lines rest line x there taken = let same = same_Some line next there in rw (← same, taken) refl

pub the_lines-stops : (wanted lines rest : List (List ℕ)) (line : List ℕ) (e : Fault Refusal) → Some line ≡ first wanted → ◌≡◌ {A = Outcome Refusal (List ℕ) (Unit {0})} (mark (λ next. bytes_eq next line) lines) (stopped e rest)
    → the_lines wanted lines ≡ stopped e rest
unfolding the_lines
the_lines-stops [] lines rest line e there stops = absurd (none-some line (sym there))
the_lines-stops (next ∷ wanted) lines rest line e there stops = let same = same_Some line next there in rw (← same, stops) refl

pub the_lines-none : (wanted lines : List (List ℕ)) → None ≡ first wanted → the_lines wanted lines ≡ took tt lines
unfolding the_lines
the_lines-none [] lines none = refl
the_lines-none (next ∷ wanted) lines none = absurd (none-some next none)

-- ---- streams

-- heads that stand before others
abbrev pub behind : List Head → Outcome Refusal (List ℕ) (List Head) → Outcome Refusal (List ℕ) (List Head)
behind heads outcome = and_then outcome (λ more. pure (heads ++ more))

-- the heads of all lines are these, and those of the lines that are left; their paths are in the set
pub record HeadsSoFar {Y : Type 0} (lines : List (List ℕ)) (heads : List Head) (set : BTreeSet (Vec ℕ Y)) (left : List (List ℕ)) : Type 0 where
  pub texts : List (List ℕ)
  pub told : HasTexts set texts
  pub many : length texts ≡ length heads
  pub rest : heads_from [] lines ≡ behind heads (heads_from texts left)

behind-more : (heads : List Head) (head : Head) (outcome : Outcome Refusal (List ℕ) (List Head)) → behind heads (and_then outcome (λ more. pure (head ∷ more))) ≡ behind (heads ++ head ∷ []) outcome
behind-more heads head (took more rest) = ap (λ hs. took hs rest) (sym (append_assoc heads (head ∷ []) more))
behind-more heads head (stopped e rest) = refl

-- a stream as a comment, read
heads_from-head : (texts left : List (List ℕ)) (line : List ℕ) (head : Head) → Some line ≡ first left → is_comment line ≡ true → head_after texts line ≡ Some head
    → heads_from texts left ≡ and_then (heads_from (path_text head.path ∷ texts) (rest_of left)) (λ more. pure (head ∷ more))
heads_from-head texts [] line head there begins read = absurd (none-some line (sym there))
heads_from-head texts (next ∷ left) line head there begins read = let same = same_Some line next there in rw (← same, begins, read) refl

heads_from-refused : (texts left : List (List ℕ)) (line : List ℕ) → Some line ≡ first left → is_comment line ≡ true → head_after texts line ≡ None → heads_from texts left ≡ stopped refusals.Refused left
heads_from-refused texts [] line there begins read = absurd (none-some line (sym there))
heads_from-refused texts (next ∷ left) line there begins read = let same = same_Some line next there in rw (← same, begins, read) refl

-- a test of a comment says whether the text behind its hyphens is there
pub comment-some : (test : Bool) (text rest : List ℕ) → Some text ≡ cond {A = Option (List ℕ)} test (Some rest) None → (test ≡ true) × (text ≡ rest)
comment-some true text rest e = (refl, same_Some text rest e)
comment-some false text rest e = absurd (none-some text (sym e))

or_fault-some : (found : Option Head) (head : Head) → ◌≡◌ {A = Result Head (Fault Refusal)} (or_fault refusals.Refused found) (Ok head) → found ≡ Some head
or_fault-some None head e = absurd cc
or_fault-some (Some x) head e = ap Some (ok_is x head e)

or_fault-none : (found : Option Head) (e : Fault Refusal) → ◌≡◌ {A = Result Head (Fault Refusal)} (or_fault refusals.Refused found) (Err e) → (found ≡ None) × (e ≡ refusals.Refused)
or_fault-none None e is = (refl, cc)
or_fault-none (Some x) e is = absurd cc

head_after-is : (texts : List (List ℕ)) (line text : List ℕ) (found : Option Head) → text ≡ drop 3 line → new_head texts (head_of text) ≡ found → head_after texts line ≡ found
unfolding head_after
head_after-is texts line text found same read = ap (λ (t : List ℕ). new_head texts (head_of t)) (sym same) ∙ read

-- one stream more
pub heads-more : {Y : Type 0} (lines : List (List ℕ)) (heads : List Head) (old new : BTreeSet (Vec ℕ Y)) (left : List (List ℕ)) (line text : List ℕ) (head : Head) (h : HeadsSoFar lines heads old left) → Some line ≡ first left
    → Some text ≡ cond {A = Option (List ℕ)} (is_comment line) (Some (drop 3 line)) None → ◌≡◌ {A = Result Head (Fault Refusal)} (or_fault refusals.Refused (new_head h.texts (head_of text))) (Ok head) → AddsText old new (path_text head.path)
    → HeadsSoFar lines (heads ++ head ∷ []) new (rest_of left)
heads-more lines heads old new left line text head h there comment read adds =
    let begins = comment-some (is_comment line) text (drop 3 line) comment in
    let found = head_after-is h.texts line text (Some head) begins.1 (or_fault-some (new_head h.texts (head_of text)) head read) in
    record {
      texts = path_text head.path ∷ h.texts;
      told = HasTexts-more old new (path_text head.path) h.texts h.told adds;
      many = omega (arith, h.many, length-append heads (head ∷ []));
      rest = h.rest ∙ ap (behind heads) (heads_from-head h.texts left line head there begins.0 found) ∙ behind-more heads head (heads_from (path_text head.path ∷ h.texts) (rest_of left));
    }

-- a stream that is refused
pub heads-fail : {Y : Type 0} (lines : List (List ℕ)) (heads : List Head) (set : BTreeSet (Vec ℕ Y)) (left : List (List ℕ)) (line text : List ℕ) (e : Fault Refusal) (h : HeadsSoFar lines heads set left) → Some line ≡ first left
    → Some text ≡ cond {A = Option (List ℕ)} (is_comment line) (Some (drop 3 line)) None → MatchOption (refusal_in e) (Unit {0}) (λ f. ◌≡◌ {A = Result Head (Fault Refusal)} (or_fault refusals.Refused (new_head h.texts (head_of text))) (Err f)) → e ≢ refusals.Memory
    → heads_from [] lines ≡ stopped e left
heads-fail lines heads set left line text e h there comment fails other =
    let begins = comment-some (is_comment line) text (drop 3 line) comment in
    let none = or_fault-none (new_head h.texts (head_of text)) e (refused-is (or_fault refusals.Refused (new_head h.texts (head_of text))) e fails other) in
    let found = head_after-is h.texts line text None begins.1 none.0 in
    h.rest ∙ ap (behind heads) (heads_from-refused h.texts left line there begins.0 found) ∙ ap (λ (f : Fault Refusal). stopped f left) (sym none.1)
