-- The state that a cursor keeps, cycle by cycle.
use Rattle.std.proofs.Common.{◌≡◌, ◌∙◌, ℕ, zero, suc, ◌+◌, ◌-◌, ◌<◌, ◌≤◌, inl, inr, Bool, true, false, nat_le, if◌then◌else◌, List, [], ◌∷◌, ◌++◌, length, take, drop, min, slice_get, slice_index, Option, None, Some, refl, sym, ap, subst, arith, ◌↔◌, IsTrue}
use Rattle.std.proofs.lemmas.List.{append-nil, length-append}
use Rattle.std.proofs.lemmas.Bool.Decides.{nat_tests}
use Rattle.std.proofs.lemmas.Grind.{flat_map-append}
use Rattle.physical_stream.specs.Params.{Parameters}
use Rattle.physical_stream.specs.Cycles.{Cycle, done_in, done_of, items_done}
use Rattle.physical_stream.specs.Counts.{transfers_of}
use Rattle.physical_stream.specs.Items.{items_of, items_of_all}
use Rattle.physical_stream.specs.Shape.{tail_of}
use Rattle.physical_stream.specs.declared.item.Item.{Item}
use Rattle.physical_stream.specs.declared.item.Item.TheVariants as items
use Rattle.physical_stream.specs.declared.item.Tail.{Tail}
use Rattle.physical_stream.specs.declared.item.Tail.TheVariants as tails
use Rattle.physical_stream.specs.declared.transfer.Transfer.{Transfer}
use Rattle.complexity_rules.specs.Pauses.{MayPause}
use Rattle.handshake.specs.Run.{gap_of, idle_of, shown_after, next_cycle}
use Rattle.complexity_rules.specs.Pauses.{pauses_after}
use Rattle.handshake.specs.Kept.{Keeps, Rests, gap_at}
use Rattle.handshake.proofs.RunLemmas.{done_of-more, idle_over-more, pauses-inner, pauses-outer}

-- ---- the test of the checker is that of the run

pub items_with_tail : (tail : Option Tail) → (done : List Item) × (tail ≡ tail_of done)
items_with_tail None = ([], refl)
items_with_tail (Some tails.Elem) = (items.Elem [] ∷ [], refl)
items_with_tail (Some (tails.Close dim)) = (items.Close dim ∷ [], refl)

pub MayPause-pauses : (p : Parameters) (done : List Item) → MayPause p done → pauses_after p (tail_of done) ≡ true
MayPause-pauses p done may = let inner = may.inner in let outer = may.outer in grind (arith, nat_tests)

pub pauses-MayPause : (p : Parameters) (done : List Item) → pauses_after p (tail_of done) ≡ true → MayPause p done
pauses-MayPause p done is = record { inner = pauses-inner p done is; outer = pauses-outer p done is }

-- ---- a place in the list of gaps

pub get-min : (gaps : List ℕ) (n : ℕ) → slice_index gaps (min n (length gaps)) ≡ slice_index gaps n
get-min [] n = refl
get-min (g ∷ gaps) zero = let e : min 0 (length (g ∷ gaps)) ≡ 0 = omega arith in ap (slice_index (g ∷ gaps)) e
get-min (g ∷ gaps) (suc n) = let e : min (suc n) (length (g ∷ gaps)) ≡ suc (min n (length gaps)) = omega arith in ap (slice_index (g ∷ gaps)) e ∙ get-min gaps n

pub drop-get : {A : Type 0} (xs : List A) (n : ℕ) (x : A) (more : List A) → drop n xs ≡ x ∷ more → slice_get xs n ≡ Some x
drop-get [] zero x more is = cc
drop-get [] (suc n) x more is = cc
drop-get (y ∷ xs) zero x more is = let e : y ≡ x = cc in ap Some e
drop-get (y ∷ xs) (suc n) x more is = drop-get xs n x more is

pub drop-none : {A : Type 0} (xs : List A) (n : ℕ) → drop n xs ≡ [] → slice_get xs n ≡ None
drop-none [] n is = refl
drop-none (y ∷ xs) zero is = cc
drop-none (y ∷ xs) (suc n) is = drop-none xs n is

pub drop-next : {A : Type 0} (xs : List A) (n : ℕ) (x : A) (more : List A) → drop n xs ≡ x ∷ more → drop (suc n) xs ≡ more
drop-next [] zero x more is = cc
drop-next [] (suc n) x more is = cc
drop-next (y ∷ xs) zero x more is = cc
drop-next (y ∷ xs) (suc n) x more is = drop-next xs n x more is

pub take-next-drop : {A : Type 0} (xs : List A) (n : ℕ) (x : A) (more : List A) → drop n xs ≡ x ∷ more → take (suc n) xs ≡ take n xs ++ x ∷ []
take-next-drop [] zero x more is = cc
take-next-drop [] (suc n) x more is = cc
take-next-drop (y ∷ xs) zero x more is = let e : y ≡ x = cc in ap (λ z. z ∷ []) e
take-next-drop (y ∷ xs) (suc n) x more is = ap (λ l. y ∷ l) (take-next-drop xs n x more is)

-- ---- steps

module _ (p : Parameters) (ts : List Transfer) (gaps : List ℕ) (cycles : List Cycle) (rest : List Transfer) (held : Transfer) (pause place : ℕ) (last : Option Tail) where
  pub Keeps-filled : (new : List Transfer) (into : Transfer) (found : ℕ) → Keeps p ts gaps cycles rest false held pause place last → rest ≡ into ∷ new → found ≡ gap_at p gaps place last →
      Keeps p ts gaps cycles new true into found place last
  Keeps-filled new into found k fed is =
      let gap_is : gap_of p ts gaps (transfers_of cycles) ≡ found =
      ap (λ (l : List Transfer). if pauses_after p (tail_of (items_of_all p l)) then slice_index gaps (transfers_of cycles) else 0) (sym k.done)
      ∙ ap (λ (t : Option Tail). if pauses_after p t then slice_index gaps (transfers_of cycles) else 0) (sym k.tail)
      ∙ ap (λ (n : ℕ). if pauses_after p last then n else 0) (sym (get-min gaps (transfers_of cycles)) ∙ ap (slice_index gaps) (sym k.count)) ∙ sym is in
      let some : 0 < length rest = omega (arith, ap length fed) in
      record {
        left = k.left ∙ fed;
        done = k.done;
        count = k.count;
        tail = k.tail;
        gap = λ yes. omega (arith, gap_is, k.fresh refl some);
        fresh = λ no. cc;
      }

  -- a cycle in which nothing is shown
  pub shows-none : (holds : Bool) → Keeps p ts gaps cycles rest holds held pause place last → (holds ≡ false → rest ≡ []) → Rests holds pause → shown_after p ts gaps cycles ≡ None
  shows-none false k full rests =
      let got : slice_get ts (transfers_of cycles) ≡ None = drop-none ts (transfers_of cycles) (k.left ∙ full refl) in
      by_test (nat_le (gap_of p ts gaps (transfers_of cycles)) (idle_of cycles)) got
    where
      by_test : (test : Bool) → slice_get ts (transfers_of cycles) ≡ None → (if test then slice_get ts (transfers_of cycles) else None) ≡ None
      by_test true got = got
      by_test false got = refl
  shows-none true k full (inl is) = cc
  shows-none true k full (inr some) =
      let less : idle_of cycles < gap_of p ts gaps (transfers_of cycles) = omega (arith, k.gap refl, some) in
      let test : nat_le (gap_of p ts gaps (transfers_of cycles)) (idle_of cycles) ≡ false = grind (arith, nat_tests) in
      ap (λ (b : Bool). if b then slice_get ts (transfers_of cycles) else None) test

  count-same : (now : Cycle) → done_in now ≡ [] → transfers_of (cycles ++ now ∷ []) ≡ transfers_of cycles
  count-same now none = ap length (done_of-more cycles now ∙ ap (λ (l : List Transfer). done_of cycles ++ l) none ∙ append-nil (done_of cycles))

  done-same : (now : Cycle) → done_in now ≡ [] → done_of (cycles ++ now ∷ []) ≡ done_of cycles
  done-same now none = done_of-more cycles now ∙ ap (λ (l : List Transfer). done_of cycles ++ l) none ∙ append-nil (done_of cycles)

  -- one cycle more in which nothing is done
  pub Keeps-idle : (holds : Bool) (now : Cycle) → done_in now ≡ [] → idle_of (cycles ++ now ∷ []) ≡ suc (idle_of cycles) → (holds ≡ false → rest ≡ []) → Keeps p ts gaps cycles rest holds held pause place last →
      Keeps p ts gaps (cycles ++ now ∷ []) rest holds held (pause - 1) place last
  Keeps-idle holds now none idle full k =
      let count = count-same now none in
      record {
        left = ap (λ (n : ℕ). drop n ts) count ∙ k.left;
        done = done-same now none ∙ k.done ∙ ap (λ (n : ℕ). take n ts) (sym count);
        count = k.count ∙ ap (λ (n : ℕ). min n (length gaps)) (sym count);
        tail = k.tail ∙ ap (λ (l : List Transfer). tail_of (items_of_all p l)) (sym (done-same now none));
        gap = λ yes. let old = k.gap yes in let same = ap (gap_of p ts gaps) count in omega (arith, old, same, idle);
        fresh = λ no some. absurd (omega (arith, ap length (full no), some));
      }

  pub idle-none : (bit : Bool) → idle_of (cycles ++ record { ready = bit; shown = None } ∷ []) ≡ suc (idle_of cycles)
  idle-none false = idle_over-more 0 cycles (record { ready = false; shown = None })
  idle-none true = idle_over-more 0 cycles (record { ready = true; shown = None })

  pub done-none : (bit : Bool) → done_in (record { ready = bit; shown = None }) ≡ []
  done-none false = refl
  done-none true = refl

  pub Keeps-rests : (holds : Bool) (bit : Bool) → Keeps p ts gaps cycles rest holds held pause place last → (holds ≡ false → rest ≡ []) →
      Keeps p ts gaps (cycles ++ record { ready = bit; shown = None } ∷ []) rest holds held (pause - 1) place last
  Keeps-rests holds bit k full = Keeps-idle holds (record { ready = bit; shown = None }) (done-none bit) (idle-none bit) full k

  pub Keeps-waits : (holds : Bool) (bit : Bool) (next : ℕ) → next ≡ pause - 1 → Keeps p ts gaps cycles rest holds held pause place last → (holds ≡ false → rest ≡ []) →
      Keeps p ts gaps (cycles ++ record { ready = bit; shown = None } ∷ []) rest holds held next place last
  Keeps-waits holds bit next is k full =
      subst (λ (n : ℕ). Keeps p ts gaps (cycles ++ record { ready = bit; shown = None } ∷ []) rest holds held n place last) (sym is) (Keeps-rests holds bit k full)

  -- a cycle that shows the transfer that is held
  pub shows-held : Keeps p ts gaps cycles rest true held pause place last → pause ≡ 0 → shown_after p ts gaps cycles ≡ Some held
  shows-held k none =
      let less : gap_of p ts gaps (transfers_of cycles) ≤ idle_of cycles = omega (arith, k.gap refl, none) in
      let test : nat_le (gap_of p ts gaps (transfers_of cycles)) (idle_of cycles) ≡ true = grind (arith, nat_tests) in
      ap (λ (b : Bool). if b then slice_get ts (transfers_of cycles) else None) test ∙ drop-get ts (transfers_of cycles) held rest k.left

  pub Keeps-refused : Keeps p ts gaps cycles rest true held pause place last → pause ≡ 0 → Keeps p ts gaps (cycles ++ record { ready = false; shown = Some held } ∷ []) rest true held 0 place last
  Keeps-refused k none =
      subst (λ (n : ℕ). Keeps p ts gaps (cycles ++ record { ready = false; shown = Some held } ∷ []) rest true held n place last) (omega (arith, none))
      (Keeps-idle true (record { ready = false; shown = Some held }) refl (idle_over-more 0 cycles (record { ready = false; shown = Some held })) (λ no. cc) k)

  pub Keeps-taken : (next after : ℕ) (new : Option Tail) → Keeps p ts gaps cycles rest true held pause place last → next ≡ min (place + 1) (length gaps) →
      ((done : List Item) → last ≡ tail_of done → new ≡ tail_of (done ++ items_of p held)) →
      Keeps p ts gaps (cycles ++ record { ready = true; shown = Some held } ∷ []) rest false held after next new
  Keeps-taken next after new k is over =
      let now : Cycle = record { ready = true; shown = Some held } in
      let all : done_of (cycles ++ now ∷ []) ≡ done_of cycles ++ held ∷ [] = done_of-more cycles now in
      let count : transfers_of (cycles ++ now ∷ []) ≡ suc (transfers_of cycles) = ap length all ∙ omega (arith, length-append (done_of cycles) (held ∷ [])) in
      let items_are : items_done p (cycles ++ now ∷ []) ≡ items_done p cycles ++ items_of p held =
      ap (items_of_all p) all ∙ flat_map-append (items_of p) (done_of cycles) (held ∷ []) ∙ ap (λ (l : List Item). items_done p cycles ++ l) (append-nil (items_of p held)) in
      record {
        left = ap (λ (n : ℕ). drop n ts) count ∙ drop-next ts (transfers_of cycles) held rest k.left;
        done = all ∙ ap (λ (l : List Transfer). l ++ held ∷ []) k.done ∙ sym (take-next-drop ts (transfers_of cycles) held rest k.left) ∙ ap (λ (n : ℕ). take n ts) (sym count);
        count = omega (arith, is, k.count, count);
        tail = over (items_done p cycles) k.tail ∙ ap tail_of (sym items_are);
        gap = λ yes. cc;
        fresh = λ no some. idle_over-more 0 cycles now;
      }

-- ---- the gap that is found

pub gap-yes : (p : Parameters) (gaps : List ℕ) (place : ℕ) (last : Option Tail) (test : Bool) (found : ℕ) →
    ((done : List Item) → last ≡ tail_of done → IsTrue test ↔ MayPause p done) → test ≡ true → found ≡ slice_index gaps place → found ≡ gap_at p gaps place last
gap-yes p gaps place last test found ok sure is =
    let some = items_with_tail last in
    let may : pauses_after p last ≡ true = ap (pauses_after p) some.1 ∙ MayPause-pauses p some.0 ((ok some.0 some.1).0 sure) in
    is ∙ ap (λ (b : Bool). if b then slice_index gaps place else 0) (sym may)

pub gap-no : (p : Parameters) (gaps : List ℕ) (place : ℕ) (last : Option Tail) (test : Bool) →
    ((done : List Item) → last ≡ tail_of done → IsTrue test ↔ MayPause p done) → test ≡ false → 0 ≡ gap_at p gaps place last
gap-no p gaps place last test ok never = by_test (pauses_after p last) refl
  where
    by_test : (b : Bool) → pauses_after p last ≡ b → 0 ≡ (if b then slice_index gaps place else 0)
    by_test true is =
        let some = items_with_tail last in
        let sure : test ≡ true = (ok some.0 some.1).1 (pauses-MayPause p some.0 (sym (ap (pauses_after p) some.1) ∙ is)) in
        let clash : false ≡ true = sym never ∙ sure in cc
    by_test false is = refl

-- ---- the cycle that comes, where the stream and its gaps are as they were

module _ (p now_p : Parameters) (ts : List Transfer) (gaps now_gaps : List ℕ) (cycles : List Cycle) (rest : List Transfer) (holds : Bool) (held : Transfer) (pause place : ℕ) (last : Option Tail)
    (same_p : now_p ≡ p) (same_gaps : now_gaps ≡ gaps) (kept : Keeps now_p ts now_gaps cycles rest holds held pause place last) (bit : Bool) where
  kept_here : Keeps p ts gaps cycles rest holds held pause place last
  kept_here = subst (λ (q : Parameters). Keeps q ts gaps cycles rest holds held pause place last) same_p (subst (λ (l : List ℕ). Keeps now_p ts l cycles rest holds held pause place last) same_gaps kept)

  pub shown-rests : (holds ≡ false → rest ≡ []) → Rests holds pause → shown_after p ts gaps cycles ≡ None
  shown-rests full rests = shows-none p ts gaps cycles rest held pause place last holds kept_here full rests

  pub shown-held : holds ≡ true → pause ≡ 0 → shown_after p ts gaps cycles ≡ Some held
  shown-held sure none = shows-held p ts gaps cycles rest held pause place last (subst (λ (b : Bool). Keeps p ts gaps cycles rest b held pause place last) sure kept_here) none

  pub next-rests : (P : List Cycle → Type 0) → (holds ≡ false → rest ≡ []) → Rests holds pause → P (cycles ++ record { ready = bit; shown = None } ∷ []) → P (cycles ++ next_cycle p ts gaps cycles bit ∷ [])
  next-rests P full rests is = subst (λ (s : Option Transfer). P (cycles ++ record { ready = bit; shown = s } ∷ [])) (sym (shown-rests full rests)) is

  pub next-held : (P : List Cycle → Type 0) → holds ≡ true → pause ≡ 0 → P (cycles ++ record { ready = bit; shown = Some held } ∷ []) → P (cycles ++ next_cycle p ts gaps cycles bit ∷ [])
  next-held P sure none is = subst (λ (s : Option Transfer). P (cycles ++ record { ready = bit; shown = s } ∷ [])) (sym (shown-held sure none)) is

pub Keeps-offered : (p : Parameters) (ts : List Transfer) (gaps : List ℕ) (cycles : List Cycle) (rest : List Transfer) (holds : Bool) (held : Transfer) (pause place : ℕ) (last : Option Tail) →
    holds ≡ true → pause ≡ 0 → Keeps p ts gaps cycles rest holds held pause place last → Keeps p ts gaps (cycles ++ record { ready = false; shown = Some held } ∷ []) rest holds held pause place last
Keeps-offered p ts gaps cycles rest holds held pause place last sure none kept =
    subst (λ (b : Bool). Keeps p ts gaps (cycles ++ record { ready = false; shown = Some held } ∷ []) rest b held pause place last) (sym sure)
    (subst (λ (n : ℕ). Keeps p ts gaps (cycles ++ record { ready = false; shown = Some held } ∷ []) rest true held n place last) (sym none)
    (Keeps-refused p ts gaps cycles rest held pause place last (subst (λ (b : Bool). Keeps p ts gaps cycles rest b held pause place last) sure kept) none))

pub with_holds : (p : Parameters) (ts : List Transfer) (gaps : List ℕ) (cycles : List Cycle) (rest : List Transfer) (holds : Bool) (held : Transfer) (pause place : ℕ) (last : Option Tail) →
    holds ≡ true → Keeps p ts gaps cycles rest holds held pause place last → Keeps p ts gaps cycles rest true held pause place last
with_holds p ts gaps cycles rest holds held pause place last sure kept = subst (λ (b : Bool). Keeps p ts gaps cycles rest b held pause place last) sure kept

pub with_bit : (P : List Cycle → Type 0) (cycles : List Cycle) (bit other : Bool) (held : Transfer) → bit ≡ other → P (cycles ++ record { ready = other; shown = Some held } ∷ []) → P (cycles ++ record { ready = bit; shown = Some held } ∷ [])
with_bit P cycles bit other held same is = subst (λ (b : Bool). P (cycles ++ record { ready = b; shown = Some held } ∷ [])) (sym same) is

-- ---- a list as a feed

pub drop-is : {A : Type 0} (xs : List A) (n : ℕ) (x : A) → slice_get xs n ≡ Some x → drop n xs ≡ x ∷ drop (n + 1) xs
drop-is [] n x is = cc
drop-is (y ∷ xs) zero x is = let e : y ≡ x = cc in let one : 0 + 1 ≡ suc 0 = omega arith in ap (λ z. z ∷ xs) e ∙ ap (λ (n : ℕ). x ∷ drop n (y ∷ xs)) (sym one)
drop-is (y ∷ xs) (suc n) x is = let next : suc n + 1 ≡ suc (n + 1) = omega arith in drop-is xs n x is ∙ ap (λ (m : ℕ). x ∷ drop m (y ∷ xs)) (sym next)
