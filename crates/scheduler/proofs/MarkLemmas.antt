-- Ends of sequences marked in a lane.
use Rattle.std.proofs.Common.{◌≡◌, ◌∙◌, ◌⊎◌, inl, inr, ℕ, zero, suc, ◌+◌, ◌-◌, ◌*◌, ◌<◌, ◌≤◌, Bool, true, false, ◌||◌, ◌==◌, nat_le, List, [], ◌∷◌, ◌++◌, length, drop, set, get_or, refl, sym, ap, subst, append_assoc, arith, add-one}
use Rattle.std.proofs.lemmas.Bool.{cases_lt}
use Rattle.std.proofs.lemmas.Bool.Decides.{nat_tests}
use Rattle.std.proofs.lemmas.List.{append-nil, length-append, length-set, set-append_left, set-append_right}
use Rattle.tydi_base.specs.Bits.{zero_bits}
use Rattle.physical_stream.specs.Params.{Parameters}
use Rattle.physical_stream.proofs.PartsLemmas.{length-parts_below}
use Rattle.physical_stream.specs.declared.item.Item.{Item}
use Rattle.physical_stream.specs.declared.item.Item.TheVariants.{Elem, Close}
use Rattle.scheduler.specs.Lanes.{is_among}
use Rattle.scheduler.specs.Laws.{AreItems}
use Rattle.scheduler.specs.Planned.{run_from, behind_run}
use Rattle.scheduler.specs.Filling.{marks, GoesOn, EndsHere, IsMarkedSoFar}
use Rattle.scheduler.proofs.PartLemmas.{eq-true, eq-false, before-next}
use Rattle.scheduler.proofs.FillLemmas.{lane-left, drop-at}
use Rattle.scheduler.proofs.LoadLemmas.{AreItems-drop}

-- ---- the run at a place

module _ (p : Parameters) (items : List Item) (place least : ℕ) (item : Item) (less : place < length items) (fit : AreItems p items) (at : item ≡ get_or items place item) where
  here : drop place items ≡ item ∷ drop (place + 1) items
  here = drop-at items place item less ∙ ap (λ (i : Item). i ∷ drop (place + 1) items) (sym at)

  pub element-ends : (word : List Bool) → item ≡ Elem word → EndsHere least (drop place items)
  element-ends word is = let e : drop place items ≡ Elem word ∷ drop (place + 1) items = here ∙ ap (λ (i : Item). i ∷ drop (place + 1) items) is in rw e (refl, refl)

  pub lower-ends : (dim : ℕ) → item ≡ Close dim → nat_le least dim ≡ false → EndsHere least (drop place items)
  lower-ends dim is low = let e : drop place items ≡ Close dim ∷ drop (place + 1) items = here ∙ ap (λ (i : Item). i ∷ drop (place + 1) items) is in rw (e, low) (refl, refl)

  pub close-goes : (dim : ℕ) → item ≡ Close dim → least ≤ dim → GoesOn p least (drop place items) dim (drop (place + 1) items)
  close-goes dim is above =
      let high : nat_le least dim ≡ true = grind (arith, nat_tests) in
      let e : drop place items ≡ Close dim ∷ drop (place + 1) items = here ∙ ap (λ (i : Item). i ∷ drop (place + 1) items) is in
      record {
        within = (subst (AreItems p) e (AreItems-drop p place items fit)).0;
        run_is = rw (e, high) (ap (λ (n : ℕ). dim ∷ run_from n (drop (place + 1) items)) (sym (add-one dim)));
        behind_is = rw (e, high) (ap (λ (n : ℕ). behind_run n (drop (place + 1) items)) (sym (add-one dim)));
      }

-- ---- marks

marks-length : (n : ℕ) (ds : List ℕ) → length (marks n ds) ≡ n
marks-length n ds = length-parts_below (λ dim. is_among dim ds ∷ []) n (λ d less. refl)

pub marks-none : (n : ℕ) → marks n [] ≡ zero_bits n
marks-none zero = refl
marks-none (suc n) = ap (λ (l : List Bool). l ++ false ∷ []) (marks-none n) ∙ zeros-end n
  where
    zeros-end : (m : ℕ) → zero_bits m ++ false ∷ [] ≡ zero_bits (suc m)
    zeros-end zero = refl
    zeros-end (suc m) = ap (λ (l : List Bool). false ∷ l) (zeros-end m)

among-end : (n d : ℕ) (ds : List ℕ) → is_among n (ds ++ d ∷ []) ≡ is_among n ds || (n == d)
among-end n d [] = by_test (n == d)
  where
    by_test : (test : Bool) → test || false ≡ false || test
    by_test true = refl
    by_test false = refl
among-end n d (m ∷ ds) = ap (λ (b : Bool). (n == m) || b) (among-end n d ds) ∙ by_test (n == m)
  where
    by_test : (test : Bool) → test || (is_among n ds || (n == d)) ≡ (test || is_among n ds) || (n == d)
    by_test true = refl
    by_test false = refl

marks-same : (n d : ℕ) (ds : List ℕ) → n ≤ d → marks n (ds ++ d ∷ []) ≡ marks n ds
marks-same zero d ds le = refl
marks-same (suc n) d ds le =
    let other : (n == d) ≡ false = eq-false n d (λ same. omega (arith, le, same)) in
    let alike : is_among n (ds ++ d ∷ []) ≡ is_among n ds = among-end n d ds ∙ rw other (or-false (is_among n ds)) in
    rw (marks-same n d ds (omega (arith, le)), alike) refl
  where
    or-false : (b : Bool) → b || false ≡ b
    or-false true = refl
    or-false false = refl

marks-set : (n d : ℕ) (ds : List ℕ) → d < n → set (marks n ds) d true ≡ marks n (ds ++ d ∷ [])
marks-set zero d ds less = absurd (omega (arith, less))
marks-set (suc n) d ds less = by_place (marks-set n d ds) (cases_lt d n)
  where
    or-false : (b : Bool) → b || false ≡ b
    or-false true = refl
    or-false false = refl

    or-true : (b : Bool) → b || true ≡ true
    or-true true = refl
    or-true false = refl

    by_place : (d < n → set (marks n ds) d true ≡ marks n (ds ++ d ∷ [])) → (d < n) ⊎ (n ≤ d) → set (marks n ds ++ is_among n ds ∷ []) d true ≡ marks n (ds ++ d ∷ []) ++ is_among n (ds ++ d ∷ []) ∷ []
    by_place earlier (inl l) =
        let other : (n == d) ≡ false = eq-false n d (λ same. omega (arith, l, same)) in
        let alike : is_among n (ds ++ d ∷ []) ≡ is_among n ds = among-end n d ds ∙ rw other (or-false (is_among n ds)) in
        set-append_left (marks n ds) (is_among n ds ∷ []) d true (omega (arith, l, marks-length n ds))
        ∙ ap (λ (l : List Bool). l ++ is_among n ds ∷ []) (earlier l) ∙ ap (λ (b : Bool). marks n (ds ++ d ∷ []) ++ b ∷ []) (sym alike)
    by_place earlier (inr m) =
        let same : d ≡ n = omega (arith, m, less) in
        let own : (n == d) ≡ true = eq-true n d (sym same) in
        let now : is_among n (ds ++ d ∷ []) ≡ true = among-end n d ds ∙ rw own (or-true (is_among n ds)) in
        let zero_place : d - n ≡ 0 = omega (arith, same) in
        set-append_right (marks n ds) (is_among n ds ∷ []) n d true (marks-length n ds) m
        ∙ ap (λ (k : ℕ). marks n ds ++ set (is_among n ds ∷ []) k true) zero_place
        ∙ ap (λ (l : List Bool). l ++ true ∷ []) (sym (marks-same n d ds m)) ∙ ap (λ (b : Bool). marks n (ds ++ d ∷ []) ++ b ∷ []) (sym now)

-- one more of the run
module _ (p : Parameters) (lane : ℕ) (within : lane < p.lanes) where
  pub start-marked : (items : List Item) (last : List Bool) → length last ≡ p.lanes * p.dims → IsMarkedSoFar p items lane last items 0 last
  start-marked items last wide = record {
    width = wide;
    few = omega arith;
    done = [];
    run_is = refl;
    behind_is = refl;
    marked = λ parts long is. lane-left parts p.lanes lane p.dims last within is ∙ ap (λ (l : List Bool). (parts ++ l) ++ zero_bits ((p.lanes - (lane + 1)) * p.dims)) (sym (marks-none p.dims));
  }

  pub mark-fits : (dim : ℕ) (last : List Bool) → dim < p.dims → length last ≡ p.lanes * p.dims → lane * p.dims + dim < length last
  mark-fits dim last less wide = omega (arith, less, wide, before-next lane p.lanes p.dims within)

  pub next-marked : (items left more : List Item) (start : List Bool) (least dim : ℕ) (last new : List Bool) (offset : ℕ) → IsMarkedSoFar p items lane start left least last → GoesOn p least left dim more →
      offset ≡ lane * p.dims + dim → new ≡ set last offset true → IsMarkedSoFar p items lane start more (dim + 1) new
  next-marked items left more start least dim last new offset so goes at is = record {
    width = ap length is ∙ length-set last offset true ∙ so.width;
    few = let w = goes.within in omega (arith, w);
    done = so.done ++ dim ∷ [];
    run_is = append_assoc so.done (dim ∷ []) (run_from (dim + 1) more) ∙ ap (λ (l : List ℕ). so.done ++ l) (sym goes.run_is) ∙ so.run_is;
    behind_is = sym goes.behind_is ∙ so.behind_is;
    marked = λ parts long begun.
        let w = goes.within in
        let ml = marks-length p.dims so.done in
        let zeros = zero_bits ((p.lanes - (lane + 1)) * p.dims) in
        let inner : set (parts ++ marks p.dims so.done) (lane * p.dims + dim) true ≡ parts ++ marks p.dims (so.done ++ dim ∷ []) =
        set-append_right parts (marks p.dims so.done) (lane * p.dims) (lane * p.dims + dim) true long (omega arith)
        ∙ ap (λ (k : ℕ). parts ++ set (marks p.dims so.done) k true) (omega arith) ∙ ap (λ (l : List Bool). parts ++ l) (marks-set p.dims dim so.done w) in
        is ∙ ap (λ (o : ℕ). set last o true) at ∙ ap (λ (l : List Bool). set l (lane * p.dims + dim) true) (so.marked parts long begun)
        ∙ set-append_left (parts ++ marks p.dims so.done) (zero_bits ((p.lanes - (lane + 1)) * p.dims)) (lane * p.dims + dim) true (omega (arith, long, ml, w, length-append parts (marks p.dims so.done)))
        ∙ ap (λ (l : List Bool). l ++ zero_bits ((p.lanes - (lane + 1)) * p.dims)) inner;
  }

  -- the run is over
  pub run-marked : (items left : List Item) (start : List Bool) (least : ℕ) (last : List Bool) → IsMarkedSoFar p items lane start left least last → EndsHere least left →
      (left ≡ behind_run 0 items) × ((parts : List Bool) → length parts ≡ lane * p.dims → start ≡ parts ++ zero_bits ((p.lanes - lane) * p.dims) →
      last ≡ (parts ++ marks p.dims (run_from 0 items)) ++ zero_bits ((p.lanes - (lane + 1)) * p.dims))
  run-marked items left start least last so ends =
      let all : so.done ≡ run_from 0 items = sym (append-nil so.done) ∙ ap (λ (l : List ℕ). so.done ++ l) (sym ends.0) ∙ so.run_is in (
        sym ends.1 ∙ so.behind_is,
        λ parts long begun. so.marked parts long begun ∙ ap (λ (l : List ℕ). (parts ++ marks p.dims l) ++ zero_bits ((p.lanes - (lane + 1)) * p.dims)) all,
      )
