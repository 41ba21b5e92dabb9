-- The order of processes that drive different signals does not matter.
use Rattle.std.proofs.Common.{◌≡◌, ◌∙◌, ℕ, zero, suc, ◌+◌, ◌<◌, ◌⊎◌, inl, inr, Bool, true, false, cond, ◌==◌, List, [], ◌∷◌, ◌++◌, length, map, get_or, refl, sym, ap, subst, arith}
use Rattle.std.specs.List.{flat_map, count_by}
use Rattle.std.proofs.Math.Path.{fun_ext}
use Rattle.std.proofs.lemmas.List.{append-nil, length-map}
use Rattle.std.proofs.lemmas.List.Sums.{sum_by-cons}
use Rattle.std.proofs.lemmas.Bool.Decides.{nat_tests}
use Rattle.signal_layout.specs.declared.signal.Signal.{Signal}
use Rattle.vhdl_text.specs.declared.bench.Stmt.{Stmt}
use Rattle.vhdl_meaning.specs.Meaning.{Values, words_for, last_of, current, assigned_by, waits_at, resumed, in_order, run_all, started, after_edge, Standing, Edge, Moment, rows_from, IsOrder}
use Rattle.vhdl_text.specs.WellFormed.{drives, AreDrivenOnce}
use Rattle.vhdl_meaning.specs.Laws.{AreOrders, ready_of, BenchesAreConfluent}
use Rattle.vhdl_meaning.proofs.ProcessLemmas.{words_for-append, not-true, quiet, drives-waits, drives-resumed, get-map}

-- this process alone drives the signal, if any does
abbrev pub Only : ℕ → Signal → ℕ → List (List Stmt) → Type 0
Only stream signal owner procs = (number : ℕ) → drives stream signal (get_or procs number []) ≡ true → number ≡ owner

pub Only-map : (stream : ℕ) (signal : Signal) (owner : ℕ) (f : List Stmt → List Stmt) (procs : List (List Stmt)) → f [] ≡ [] →
    ((left : List Stmt) → drives stream signal (f left) ≡ true → drives stream signal left ≡ true) → Only stream signal owner procs → Only stream signal owner (map f procs)
Only-map stream signal owner f procs none so only number is = only number (so (get_or procs number []) (ap (drives stream signal) (sym (get-map f procs number none)) ∙ is))

module _ (stream : ℕ) (signal : Signal) where
  -- the words that the process of this number assigns
  abbrev words_by : List (List Stmt) → ℕ → List (List Bool)
  words_by procs number = words_for stream signal (assigned_by (get_or procs number []))

  others : (procs : List (List Stmt)) (owner number : ℕ) → Only stream signal owner procs → (number ≡ owner → ⊥) → words_by procs number ≡ []
  others procs owner number only other =
      quiet stream signal (get_or procs number []) (not-true (drives stream signal (get_or procs number [])) (λ is. other (only number is)))

  driven-none : (procs : List (List Stmt)) (owner : ℕ) (order : List ℕ) → Only stream signal owner procs → count_by (λ at. at == owner) order ≡ 0 →
      words_for stream signal (flat_map assigned_by (in_order order procs)) ≡ []
  driven-none procs owner [] only count = refl
  driven-none procs owner (x ∷ order) only count = by_test (driven-none procs owner order only) (x == owner) refl (sym (sum_by-cons (λ at. cond (at == owner) 1 0) x order) ∙ count)
    where
      by_test : (count_by (λ at. at == owner) order ≡ 0 → words_for stream signal (flat_map assigned_by (in_order order procs)) ≡ []) → (test : Bool) → (x == owner) ≡ test →
          cond test 1 0 + count_by (λ at. at == owner) order ≡ 0 →
          words_for stream signal (assigned_by (get_or procs x []) ++ flat_map assigned_by (in_order order procs)) ≡ []
      by_test so true is c = absurd (omega (arith, c))
      by_test so false is c =
          words_for-append stream signal (assigned_by (get_or procs x [])) (flat_map assigned_by (in_order order procs))
          ∙ ap (λ l. l ++ words_for stream signal (flat_map assigned_by (in_order order procs))) (others procs owner x only (λ e. grind (arith, nat_tests)))
          ∙ so (omega (arith, c))

  -- in any order the words for the signal are those that its process assigns
  pub driven : (procs : List (List Stmt)) (owner : ℕ) (order : List ℕ) → Only stream signal owner procs → count_by (λ at. at == owner) order ≡ 1 →
      words_for stream signal (flat_map assigned_by (in_order order procs)) ≡ words_by procs owner
  driven procs owner [] only count = absurd (omega (arith, count))
  driven procs owner (x ∷ order) only count = by_test (driven procs owner order only) (x == owner) refl (sym (sum_by-cons (λ at. cond (at == owner) 1 0) x order) ∙ count)
    where
      by_test : (count_by (λ at. at == owner) order ≡ 1 → words_for stream signal (flat_map assigned_by (in_order order procs)) ≡ words_by procs owner) → (test : Bool) → (x == owner) ≡ test →
          cond test 1 0 + count_by (λ at. at == owner) order ≡ 1 →
          words_for stream signal (assigned_by (get_or procs x []) ++ flat_map assigned_by (in_order order procs)) ≡ words_by procs owner
      by_test so true is c =
          let none : count_by (λ at. at == owner) order ≡ 0 = omega (arith, c) in
          let same : x ≡ owner = grind (arith, nat_tests) in
          words_for-append stream signal (assigned_by (get_or procs x [])) (flat_map assigned_by (in_order order procs))
          ∙ ap (λ l. words_by procs x ++ l) (driven-none procs owner order only none)
          ∙ append-nil (words_by procs x)
          ∙ ap (words_by procs) same
      by_test so false is c =
          words_for-append stream signal (assigned_by (get_or procs x [])) (flat_map assigned_by (in_order order procs))
          ∙ ap (λ l. l ++ words_for stream signal (flat_map assigned_by (in_order order procs))) (others procs owner x only (λ e. grind (arith, nat_tests)))
          ∙ so (omega (arith, c))

  -- also in the order of the text
  driven-text-none : (procs : List (List Stmt)) → ((number : ℕ) → drives stream signal (get_or procs number []) ≡ true → ⊥) → words_for stream signal (flat_map assigned_by procs) ≡ []
  driven-text-none [] none = refl
  driven-text-none (left ∷ procs) none =
      words_for-append stream signal (assigned_by left) (flat_map assigned_by procs)
      ∙ ap (λ l. l ++ words_for stream signal (flat_map assigned_by procs)) (quiet stream signal left (not-true (drives stream signal left) (none 0)))
      ∙ driven-text-none procs (λ number. none (suc number))

  pub driven-text : (procs : List (List Stmt)) (owner : ℕ) → Only stream signal owner procs → words_for stream signal (flat_map assigned_by procs) ≡ words_by procs owner
  driven-text [] owner only = refl
  driven-text (left ∷ procs) zero only =
      words_for-append stream signal (assigned_by left) (flat_map assigned_by procs)
      ∙ ap (λ l. words_for stream signal (assigned_by left) ++ l) (driven-text-none procs (λ number is. let e = only (suc number) is in omega (arith, e)))
      ∙ append-nil (words_for stream signal (assigned_by left))
  driven-text (left ∷ procs) (suc owner) only =
      words_for-append stream signal (assigned_by left) (flat_map assigned_by procs)
      ∙ ap (λ l. l ++ words_for stream signal (flat_map assigned_by procs)) (quiet stream signal left (not-true (drives stream signal left) (λ is. let e = only 0 is in omega (arith, e))))
      ∙ driven-text procs owner (λ number is. let e = only (suc number) is in omega (arith, e))

  -- the process that drives the signal, if one does
  record Owner (procs : List (List Stmt)) : Type 0 where
    owner : ℕ
    within : owner < length procs
    does : drives stream signal (get_or procs owner []) ≡ true

  owner-of : (procs : List (List Stmt)) → Owner procs ⊎ ((number : ℕ) → drives stream signal (get_or procs number []) ≡ true → ⊥)
  owner-of [] = inr (λ number is. let e : false ≡ true = is in cc)
  owner-of (left ∷ procs) = by_first (drives stream signal left) refl (owner-of procs)
    where
      none : drives stream signal left ≡ false → ((number : ℕ) → drives stream signal (get_or procs number []) ≡ true → ⊥) →
          (number : ℕ) → drives stream signal (get_or (left ∷ procs) number []) ≡ true → ⊥
      none is rest zero so = let e : false ≡ true = sym is ∙ so in cc
      none is rest (suc number) so = rest number so

      by_first : (test : Bool) → drives stream signal left ≡ test → Owner procs ⊎ ((number : ℕ) → drives stream signal (get_or procs number []) ≡ true → ⊥) →
          Owner (left ∷ procs) ⊎ ((number : ℕ) → drives stream signal (get_or (left ∷ procs) number []) ≡ true → ⊥)
      by_first true is rest = inl (record { owner = 0; within = omega arith; does = is })
      by_first false is (inl o) = let w = o.within in inl (record { owner = suc o.owner; within = omega (arith, w); does = o.does })
      by_first false is (inr rest) = inr (none is rest)

  silent : (procs : List (List Stmt)) (order : List ℕ) → ((number : ℕ) → drives stream signal (get_or procs number []) ≡ true → ⊥) → words_for stream signal (flat_map assigned_by (in_order order procs)) ≡ []
  silent procs [] none = refl
  silent procs (x ∷ order) none =
      words_for-append stream signal (assigned_by (get_or procs x [])) (flat_map assigned_by (in_order order procs))
      ∙ ap (λ l. l ++ words_for stream signal (flat_map assigned_by (in_order order procs))) (quiet stream signal (get_or procs x []) (not-true (drives stream signal (get_or procs x [])) (none x)))
      ∙ silent procs order none

  -- two orders give the same words
  same-words : (procs : List (List Stmt)) (one other : List ℕ) → AreDrivenOnce procs → IsOrder (length procs) one → IsOrder (length procs) other →
      words_for stream signal (flat_map assigned_by (in_order one procs)) ≡ words_for stream signal (flat_map assigned_by (in_order other procs))
  same-words procs one other once is1 is2 = by_owner (owner-of procs)
    where
      by_owner : Owner procs ⊎ ((number : ℕ) → drives stream signal (get_or procs number []) ≡ true → ⊥) →
          words_for stream signal (flat_map assigned_by (in_order one procs)) ≡ words_for stream signal (flat_map assigned_by (in_order other procs))
      by_owner (inl o) =
          let only : Only stream signal o.owner procs = λ number is. once stream signal number o.owner is o.does in
          driven procs o.owner one only (is1.once o.owner o.within) ∙ sym (driven procs o.owner other only (is2.once o.owner o.within))
      by_owner (inr none) = silent procs one none ∙ sym (silent procs other none)

-- ---- confluence

pub run_all-same : (procs : List (List Stmt)) (values : Values) (one other : List ℕ) → AreDrivenOnce procs → IsOrder (length procs) one → IsOrder (length procs) other →
    run_all one procs values ≡ run_all other procs values
run_all-same procs values one other once is1 is2 =
    let same : current (flat_map assigned_by (in_order one procs)) values ≡ current (flat_map assigned_by (in_order other procs)) values =
    fun_ext (λ stream. fun_ext (λ signal. ap (last_of (values stream signal)) (same-words stream signal procs one other once is1 is2))) in
    ap (λ (v : Values). record { procs = map waits_at procs; values = v }) same

once-map : (f : List Stmt → List Stmt) (procs : List (List Stmt)) → f [] ≡ [] →
    ((stream : ℕ) (signal : Signal) (left : List Stmt) → drives stream signal (f left) ≡ true → drives stream signal left ≡ true) → AreDrivenOnce procs → AreDrivenOnce (map f procs)
once-map f procs none so once stream signal a b does1 does2 =
    once stream signal a b
    (so stream signal (get_or procs a []) (ap (drives stream signal) (sym (get-map f procs a none)) ∙ does1))
    (so stream signal (get_or procs b []) (ap (drives stream signal) (sym (get-map f procs b none)) ∙ does2))

pub tail-of : (count : ℕ) (e : Edge) (edges : List Edge) → AreOrders count (e ∷ edges) → AreOrders count edges
tail-of count e edges all k d less = all (suc k) d (omega (arith, less))

rows-same : (now : Standing) (one other : List Edge) → AreDrivenOnce now.procs → AreOrders (length now.procs) one → AreOrders (length now.procs) other → ready_of one ≡ ready_of other →
    rows_from now one ≡ rows_from now other
rows-same now [] [] once is1 is2 same = refl
rows-same now [] (f ∷ other) once is1 is2 same = cc
rows-same now (e ∷ one) [] once is1 is2 same = cc
rows-same now (e ∷ one) (f ∷ other) once is1 is2 same =
    let bits : e.ready ≡ f.ready = cc in
    let more : ready_of one ≡ ready_of other = cc in
    let procs : List (List Stmt) = map (resumed e.ready) now.procs in
    let still : AreDrivenOnce procs = once-map (resumed e.ready) now.procs refl (λ stream signal. drives-resumed stream signal e.ready) once in
    let long : length procs ≡ length now.procs = length-map now.procs (resumed e.ready) in
    let long2 : length (map waits_at procs) ≡ length now.procs = length-map procs waits_at ∙ long in
    let step : after_edge e now ≡ after_edge f now =
    run_all-same procs now.values e.order f.order still (subst (λ n. IsOrder n e.order) (sym long) (is1 0 e (omega arith))) (subst (λ n. IsOrder n f.order) (sym long) (is2 0 f (omega arith)))
    ∙ ap (λ (r : List Bool). run_all f.order (map (resumed r) now.procs) now.values) bits in
    let rest : rows_from (after_edge e now) one ≡ rows_from (after_edge e now) other =
    rows-same (after_edge e now) one other (once-map waits_at procs refl drives-waits still) (subst (λ n. AreOrders n one) (sym long2) (tail-of _ e one is1)) (subst (λ n. AreOrders n other) (sym long2) (tail-of _ f other is2)) more in
    ap (λ (l : List Moment). record { values = now.values; ready = e.ready } ∷ l) rest
    ∙ ap (λ (s : Standing). record { values = now.values; ready = e.ready } ∷ rows_from s other) step
    ∙ ap (λ (r : List Bool). record { values = now.values; ready = r } ∷ rows_from (after_edge f now) other) bits

pub benches_are_confluent : BenchesAreConfluent
benches_are_confluent bench one other well is1 is2 same =
    let long : length (map waits_at bench.procs) ≡ length bench.procs = length-map bench.procs waits_at in
    rows-same (started bench) one other (once-map waits_at bench.procs refl drives-waits well.once) (subst (λ n. AreOrders n one) (sym long) is1) (subst (λ n. AreOrders n other) (sym long) is2) same
