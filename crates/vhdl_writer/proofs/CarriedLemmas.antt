-- The cycle at the receiving end of a channel.
use Rattle.std.proofs.Common.{◌≡◌, ℕ, zero, suc, ◌≤◌, Bool, true, false, cond, ◌&&◌, ◌||◌, nat_le, nat_lt, List, [], ◌∷◌, ◌++◌, get_or, Some, None, refl, sym, ap, ◌∙◌, subst, arith}
use Rattle.std.specs.List.{All, flat_map, slice_get}
use Rattle.std.proofs.lemmas.List.Elements.{All-head, All-tail}
use Rattle.std.proofs.lemmas.Bool.Decides.{nat_tests}
use Rattle.tydi_base.specs.Bits.{number_of_bits}
use Rattle.tydi_base.specs.Level.{number_of}
use Rattle.tydi_base.proofs.LevelOrder.{numbers_rise}
use Rattle.physical_stream.specs.Cycles.{Cycle}
use Rattle.physical_stream.specs.Params.{Parameters}
use Rattle.physical_stream.specs.declared.transfer.Transfer.{Transfer}
use Rattle.signal_layout.specs.Layout.{is_present}
use Rattle.signal_layout.specs.declared.signal.Signal.{Signal}
use Rattle.signal_layout.specs.declared.signal.Signal.TheVariants as signals
use Rattle.vhdl_meaning.specs.Meaning.{word_in}
use Rattle.vhdl_text.specs.declared.arch.ArchSource.TheVariants as sources
use Rattle.vhdl_writer.specs.Architecture.{Channel, default_word, end_signal, set_of, source_of}
use Rattle.vhdl_writer.specs.Components.{all_signals}
use Rattle.vhdl_writer.specs.Laws.{CyclesAreCarried, IsKept, MayDrive, Words, word_from}

-- ---- what holds of a thing made for each signal

made : {A : Type 0} (Good : A → Type 0) (present : Signal → Bool) (make : Signal → A) (xs : List Signal) (i : ℕ) (s : Signal)
    → All Good (flat_map (λ x. cond (present x) (make x ∷ []) []) xs) → slice_get xs i ≡ Some s → present s ≡ true → Good (make s)
made Good present make [] zero s all at here = absurd cc
made Good present make [] (suc i) s all at here = absurd cc
made {A} Good present make (x ∷ xs) zero s all at here = let same : x ≡ s = cc in subst (λ y. Good (make y)) same (first (present x) all (ap present same ∙ here))
  where
    first : (b : Bool) → All Good (cond b (make x ∷ []) [] ++ flat_map (λ y. cond (present y) (make y ∷ []) []) xs) → b ≡ true → Good (make x)
    first true all is = All-head Good (make x) _ all
    first false all is = absurd cc
made {A} Good present make (x ∷ xs) (suc i) s all at here = made Good present make xs i s (rest (present x) all) at here
  where
    rest : (b : Bool) → All Good (cond b (make x ∷ []) [] ++ flat_map (λ y. cond (present y) (make y ∷ []) []) xs) → All Good (flat_map (λ y. cond (present y) (make y ∷ []) []) xs)
    rest true all = All-tail Good (make x) _ all
    rest false all = all

-- ---- presence

stai-more : (one other lanes : ℕ) → one ≤ other → (nat_le 6 one && nat_lt 1 lanes) ≡ true → (nat_le 6 other && nat_lt 1 lanes) ≡ true
stai-more one other lanes le here = grind (arith, nat_tests)

endi-more : (one other lanes dims : ℕ) → one ≤ other → ((nat_le 5 one || nat_lt 0 dims) && nat_lt 1 lanes) ≡ true → ((nat_le 5 other || nat_lt 0 dims) && nat_lt 1 lanes) ≡ true
endi-more one other lanes dims le here = grind (arith, nat_tests)

strb-more : (one other dims : ℕ) → one ≤ other → (nat_le 7 one || nat_lt 0 dims) ≡ true → (nat_le 7 other || nat_lt 0 dims) ≡ true
strb-more one other dims le here = grind (arith, nat_tests)

-- a signal that the source has, the sink has too
present-more : (p q : Parameters) → MayDrive p q → (s : Signal) → is_present p s ≡ true → is_present q s ≡ true
present-more p q may signals.Valid here = refl
present-more p q may signals.Ready here = refl
present-more p q may signals.Content here = ap (nat_lt 0) (sym may.element) ∙ here
present-more p q may signals.Last here = ap (nat_lt 0) (sym may.dims) ∙ here
present-more p q may signals.Stai here =
    stai-more (number_of p.level) (number_of q.level) q.lanes (numbers_rise p.level q.level may.level) (ap (λ n. nat_le 6 (number_of p.level) && nat_lt 1 n) (sym may.lanes) ∙ here)
present-more p q may signals.Endi here =
    endi-more (number_of p.level) (number_of q.level) q.lanes q.dims (numbers_rise p.level q.level may.level)
    (ap (λ n. (nat_le 5 (number_of p.level) || nat_lt 0 q.dims) && nat_lt 1 n) (sym may.lanes) ∙ ap (λ n. (nat_le 5 (number_of p.level) || nat_lt 0 n) && nat_lt 1 p.lanes) (sym may.dims) ∙ here)
present-more p q may signals.Strb here =
    strb-more (number_of p.level) (number_of q.level) q.dims (numbers_rise p.level q.level may.level) (ap (λ n. nat_le 7 (number_of p.level) || nat_lt 0 n) (sym may.dims) ∙ here)
present-more p q may signals.User here = ap (nat_lt 0) (sym may.user) ∙ here

-- the default of a signal is the same at both
default-same : (p q : Parameters) → MayDrive p q → (s : Signal) → default_word q s ≡ default_word p s
default-same p q may signals.Valid = refl
default-same p q may signals.Ready = refl
default-same p q may signals.Content = let one = may.lanes in let two = may.element in cc
default-same p q may signals.Last = let one = may.lanes in let two = may.dims in cc
default-same p q may signals.Stai = let one = may.lanes in cc
default-same p q may signals.Endi = let one = may.lanes in cc
default-same p q may signals.Strb = let one = may.lanes in cc
default-same p q may signals.User = let one = may.user in cc

-- ---- words

-- the word of a payload signal at the receiving end is that at the sending end
word-same : (words : Words) (c : Channel) → MayDrive c.sending.stream.params c.receiving.stream.params → (s : Signal)
    → (is_present c.receiving.stream.params s ≡ true → words (end_signal c.receiving s) ≡ word_from words (source_of c s))
    → word_in c.receiving.stream.params (λ signal. words (end_signal c.receiving signal)) s ≡ word_in c.sending.stream.params (λ signal. words (end_signal c.sending signal)) s
word-same words c may s kept = by (is_present q s) (is_present p s) refl refl kept
  where
    p : Parameters
    p = c.sending.stream.params

    q : Parameters
    q = c.receiving.stream.params

    by : (has sent : Bool) → is_present q s ≡ has → is_present p s ≡ sent
        → (has ≡ true → words (end_signal c.receiving s) ≡ word_from words (cond sent (sources.Wire (end_signal c.sending s)) (sources.Constant (default_word q s))))
        → cond has (words (end_signal c.receiving s)) (default_word q s) ≡ cond sent (words (end_signal c.sending s)) (default_word p s)
    by true true has sent kept = kept refl
    by true false has sent kept = kept refl ∙ default-same p q may s
    by false true has sent kept = absurd (let there = present-more p q may s sent in cc)
    by false false has sent kept = default-same p q may s

-- ---- cycles

transfer-same : (content content' last last' stai stai' endi endi' strb strb' user user' : List Bool)
    → content ≡ content' → last ≡ last' → stai ≡ stai' → endi ≡ endi' → strb ≡ strb' → user ≡ user'
    → ◌≡◌ {A = Transfer} (record { content = content; last = last; stai = number_of_bits stai; endi = number_of_bits endi; strb = number_of_bits strb; user = user })
    (record { content = content'; last = last'; stai = number_of_bits stai'; endi = number_of_bits endi'; strb = number_of_bits strb'; user = user' })
transfer-same content content' last last' stai stai' endi endi' strb strb' user user' a b c d e f = cc

cycle-same : (one other : Bool) (valid valid' : Bool) (t t' : Transfer) → one ≡ other → valid ≡ valid' → t ≡ t'
    → ◌≡◌ {A = Cycle} (record { ready = one; shown = cond valid (Some t) None }) (record { ready = other; shown = cond valid' (Some t') None })
cycle-same one other valid valid' t t' a b c = cc

pub carried : CyclesAreCarried
carried words channel may kept =
    let at : (i : ℕ) (s : Signal) → slice_get all_signals i ≡ Some s → is_present channel.receiving.stream.params s ≡ true → IsKept words (set_of channel s) =
    λ i s. made (IsKept words) (is_present channel.receiving.stream.params) (set_of channel) all_signals i s kept in
    cycle-same _ _ _ _ _ _
    (sym (ap (λ (word : List Bool). get_or word 0 false) (at 1 signals.Ready refl refl)))
    (ap (λ (word : List Bool). get_or word 0 false) (at 0 signals.Valid refl refl))
    (transfer-same _ _ _ _ _ _ _ _ _ _ _ _
    (word-same words channel may signals.Content (at 2 signals.Content refl)) (word-same words channel may signals.Last (at 3 signals.Last refl))
    (word-same words channel may signals.Stai (at 4 signals.Stai refl)) (word-same words channel may signals.Endi (at 5 signals.Endi refl))
    (word-same words channel may signals.Strb (at 6 signals.Strb refl)) (word-same words channel may signals.User (at 7 signals.User refl)))
