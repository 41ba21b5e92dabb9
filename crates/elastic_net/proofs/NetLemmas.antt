-- The states of a chain after cycles, and the rows of a net.
use Rattle.std.proofs.Common.{◌≡◌, ◌∙◌, ℕ, zero, suc, ◌+◌, ◌-◌, ◌<◌, ◌≤◌, Bool, true, false, ◌==◌, List, [], ◌∷◌, ◌++◌, length, map, drop, get_or, slice_get, Some, refl, sym, ap, arith}
use Rattle.std.proofs.lemmas.Bool.Decides.{nat_tests}
use Rattle.std.proofs.lemmas.List.{drop_all}
use Rattle.physical_stream.specs.Params.{Parameters}
use Rattle.physical_stream.specs.declared.transfer.Transfer.{Transfer}
use Rattle.handshake.specs.Rows.{rows_behind}
use Rattle.elastic_net.specs.Nets.{ChainRun, left_of_chains, sink_row, sink_rows, sink_rows_after}
use Rattle.elastic_net.specs.Sinks.{acts_of, left_in, order_now, state_after, state_behind, state_from}
use Rattle.elastic_net.specs.States.{ChainState, act_of}

-- ---- states

module _ (p : Parameters) (ts : List Transfer) (gaps stages : List ℕ) where
  pub acts-cycle : (order : List ℕ) (ready : Bool) (s : ChainState) → (acts_of p ts gaps stages order ready s).cycle ≡ s.cycle
  acts-cycle [] ready s = refl
  acts-cycle (x ∷ order) ready s = acts-cycle order ready (act_of p ts gaps stages x ready s)

  module _ (orders : List (List ℕ)) where
    pub state-fresh : (s : ChainState) (bits : List Bool) → s.acted ≡ [] → (state_from p ts gaps stages orders s bits).acted ≡ []
    state-fresh s [] fresh = fresh
    state-fresh s (bit ∷ bits) fresh = state-fresh (state_behind p ts gaps stages orders s bit) bits refl

    pub state-cycle : (s : ChainState) (bits : List Bool) → (state_from p ts gaps stages orders s bits).cycle ≡ s.cycle + length bits
    state-cycle s [] = omega arith
    state-cycle s (bit ∷ bits) = omega (arith, state-cycle (state_behind p ts gaps stages orders s bit) bits, acts-cycle (order_now p ts gaps stages orders s) bit s)

    pub state-more : (s : ChainState) (bits : List Bool) (bit : Bool) → state_from p ts gaps stages orders s (bits ++ bit ∷ []) ≡ state_behind p ts gaps stages orders (state_from p ts gaps stages orders s bits) bit
    state-more s [] bit = refl
    state-more s (b ∷ bits) bit = state-more (state_behind p ts gaps stages orders s b) bits bit

-- ---- rows

pub drop-there : {A : Type 0} (xs : List A) (n : ℕ) (x : A) → slice_get xs n ≡ Some x → drop n xs ≡ x ∷ drop (suc n) xs
drop-there [] n x is = cc
drop-there (y ∷ xs) zero x is = let e : y ≡ x = cc in ap (λ z. z ∷ xs) e
drop-there (y ∷ xs) (suc n) x is = drop-there xs n x is

drop-nil : {A : Type 0} (n : ℕ) → ◌≡◌ {A = List A} (drop n []) []
drop-nil zero = refl
drop-nil (suc n) = refl

none-from : (number many : ℕ) → sink_rows [] number many ≡ []
none-from number zero = refl
none-from number (suc many) = none-from (suc number) many

pub none-after : (stream number many : ℕ) → sink_rows_after [] stream number many ≡ []
none-after stream number zero = refl
none-after stream number (suc many) = ap (λ (l : List ChainRun). map (sink_row number) l ++ sink_rows [] (suc number) many) (drop-nil stream) ∙ none-from (suc number) many

-- the rows of whole cycles
pub rows-whole : (chains : List ChainRun) (number many : ℕ) → sink_rows_after chains 0 number many ≡ sink_rows chains number many
rows-whole chains number zero = refl
rows-whole chains number (suc many) = refl

module _ (chains : List ChainRun) (stream number m : ℕ) (run : ChainRun) (there : slice_get chains stream ≡ Some run) where
  -- the first row and those after it
  pub rows-first : sink_rows_after chains stream number (suc m) ≡ sink_row number run ∷ (map (sink_row number) (drop (suc stream) chains) ++ sink_rows chains (suc number) m)
  rows-first = ap (λ (l : List ChainRun). map (sink_row number) l ++ sink_rows chains (suc number) m) (drop-there chains stream run there)

  pub rows-next : (next : ℕ) → next ≡ suc stream → sink_rows_after chains next number (suc m) ≡ rows_behind (sink_rows_after chains stream number (suc m))
  rows-next next is = ap (λ (n : ℕ). map (sink_row number) (drop n chains) ++ sink_rows chains (suc number) m) is ∙ sym (ap rows_behind rows-first)

  pub rows-last : (after : ℕ) → after ≡ suc number → length chains ≤ suc stream → sink_rows_after chains 0 after m ≡ rows_behind (sink_rows_after chains stream number (suc m))
  rows-last after is past =
      rows-whole chains after m ∙ ap (λ (n : ℕ). sink_rows chains n m) is
      ∙ sym (ap rows_behind rows-first ∙ ap (λ (l : List ChainRun). map (sink_row number) l ++ sink_rows chains (suc number) m) (drop_all (suc stream) chains past))

abbrev pub left_behind : ChainRun → ℕ
left_behind c = left_in c.run.params c.run.transfers c.run.gaps c.stages (state_after c.run.params c.run.transfers c.run.gaps c.stages c.orders c.run.ready)

pub left-there : (chains : List ChainRun) (i : ℕ) (c : ChainRun) → slice_get chains i ≡ Some c → left_behind c ≡ get_or (left_of_chains chains) i 0
left-there [] i c is = cc
left-there (r ∷ chains) zero c is = let e : r ≡ c = cc in ap left_behind (sym e)
left-there (r ∷ chains) (suc i) c is = left-there chains i c is

-- ---- tests of the code

pub counted-down : (many : ℕ) → (many ≡ 0 → ⊥) → many ≡ suc (many - 1)
counted-down many some = let positive : 0 < many = grind arith in omega (arith, positive)

pub has-some : (count many : ℕ) (test : Bool) → count ≡ many → test ≡ (count == 0) → test ≡ false → 0 < many
has-some count many test same is low = let none : (count == 0) ≡ false = sym is ∙ low in let positive : 0 < count = grind (arith, nat_tests) in omega (arith, same, positive)

pub is-none : {A : Type 0} (xs : List A) (count : ℕ) (test : Bool) → count ≡ length xs → test ≡ (count == 0) → test ≡ true → xs ≡ []
is-none [] count test same is high = refl
is-none (x ∷ xs) count test same is high = let none : (count == 0) ≡ true = sym is ∙ high in let zero_count : count ≡ 0 = grind (arith, nat_tests) in absurd (omega (arith, same, zero_count))
