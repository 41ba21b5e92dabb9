-- A run under further ready bits, and how many transfers it leaves.
use Rattle.std.proofs.Common.{◌≡◌, ◌∙◌, ℕ, suc, ◌+◌, ◌-◌, ◌<◌, ◌≤◌, ◌⊎◌, inl, inr, Bool, true, false, ◌==◌, if◌then◌else◌, List, [], ◌∷◌, ◌++◌, length, take, drop, get_or, Option, None, Some, refl, sym, ap, subst, append_assoc, arith}
use Rattle.std.proofs.lemmas.Bool.Decides.{nat_tests}
use Rattle.std.proofs.lemmas.Bool.{cases_lt}
use Rattle.std.proofs.lemmas.List.{append-nil, length-drop, take_all, take_more}
use Rattle.physical_stream.specs.Params.{Parameters}
use Rattle.physical_stream.specs.Cycles.{Cycle}
use Rattle.physical_stream.specs.declared.transfer.Transfer.{Transfer}
use Rattle.handshake.specs.declared.cursor.Cursor.{Cursor}
use Rattle.handshake.specs.declared.feed.TransferFeed.{Ghosts}
use Rattle.handshake.specs.Kept.{finished_by}
use Rattle.handshake.specs.Run.{FinishesAfter, Finishes, next_cycle, run_of, undone}
use Rattle.handshake.specs.Standing.{StandsFor}
use Rattle.handshake.proofs.RunLemmas.{run_on-more}

-- ---- one ready bit more

pub run_of-more : (p : Parameters) (ts : List Transfer) (gaps : List ℕ) (bits : List Bool) (bit : Bool) → run_of p ts gaps (bits ++ bit ∷ []) ≡ run_of p ts gaps bits ++ next_cycle p ts gaps (run_of p ts gaps bits) bit ∷ []
run_of-more p ts gaps bits bit = run_on-more p ts gaps [] bits bit

-- a property of the run so far and the next cycle holds for the longer run, for the same stream and gaps
pub run-more : (p other_p : Parameters) (ts : List Transfer) (gaps other_gaps : List ℕ) (bits : List Bool) (bit : Bool) → other_p ≡ p → other_gaps ≡ gaps → (P : List Cycle → Type 0) →
    P (run_of p ts gaps bits ++ next_cycle p ts gaps (run_of p ts gaps bits) bit ∷ []) → P (run_of other_p ts other_gaps (bits ++ bit ∷ []))
run-more p other_p ts gaps other_gaps bits bit same_p same_gaps P holds = rw (same_p, same_gaps) (subst P (sym (run_of-more p ts gaps bits bit)) holds)

-- ---- how many are left

-- the transfers that are left are as many as are not done
pub left-count : (ts left : List Transfer) (done count : ℕ) → drop done ts ≡ left → count ≡ length left → count ≡ length ts - done
left-count ts left done count is counted = counted ∙ ap length (sym is) ∙ length-drop done ts

-- ---- the number of cycles after which none is left

module _ (p : Parameters) (ts : List Transfer) (gaps : List ℕ) (before ready : List Bool) where
  -- no number of cycles below a bound leaves no transfer, or this is the least that does
  abbrev pub FindsBelow : ℕ → Option ℕ → Type 0
  FindsBelow bound None = (fewer : ℕ) → fewer < bound → undone p ts gaps (before ++ take fewer ready) ≡ 0 → ⊥
  FindsBelow bound (Some number) = FinishesAfter p ts gaps before ready number

  pub finds-more : (found : Option ℕ) (number left : ℕ) → number ≤ length ready → FindsBelow number found → left ≡ undone p ts gaps (before ++ take number ready) → FindsBelow (suc number) (finished_by found number left)
  finds-more (Some earlier) number left within finds is = finds
  finds-more None number left within finds is = by_test (left == 0) refl
    where
      by_test : (test : Bool) → (left == 0) ≡ test → FindsBelow (suc number) (if test then Some number else None)
      by_test true none = record { within = within; over = sym is ∙ (let e : left ≡ 0 = grind (arith, nat_tests) in e); least = finds }
      by_test false some = λ fewer less over. by_place fewer over (cases_lt fewer number) less
        where
          by_place : (fewer : ℕ) → undone p ts gaps (before ++ take fewer ready) ≡ 0 → (fewer < number) ⊎ (number ≤ fewer) → fewer < suc number → ⊥
          by_place fewer over (inl less) below = finds fewer less over
          by_place fewer over (inr more) below =
              let same : fewer ≡ number = omega (arith, more, below) in
              let zero_left : left ≡ 0 = is ∙ ap (λ (n : ℕ). undone p ts gaps (before ++ take n ready)) (sym same) ∙ over in
              grind (arith, nat_tests)

-- ---- the loop over ready bits

-- a cursor ran so many of these cycles
pub record RunsOn {F : Type 0} {T : Ghosts F} (rest whole : F → List Transfer) (old new : Cursor F T) (ready : List Bool) (done number : ℕ) (found : Option ℕ) : Type 0 where
  pub stands : (ts : List Transfer) (before : List Bool) → StandsFor rest old ts before → StandsFor rest new ts (before ++ take done ready)
  pub finds : (ts : List Transfer) (before : List Bool) → StandsFor rest old ts before → FindsBelow old.params ts old.gaps before ready (suc done) found
  pub params : new.params ≡ old.params
  pub gaps : new.gaps ≡ old.gaps
  pub all : whole new.feed ≡ whole old.feed
  pub count : number ≡ done

module _ {F : Type 0} {T : Ghosts F} (rest whole : F → List Transfer) (old : Cursor F T) (ready : List Bool) where
  pub runs-none : (left : ℕ) → ((ts : List Transfer) (before : List Bool) → StandsFor rest old ts before → left ≡ undone old.params ts old.gaps before) → RunsOn rest whole old old ready 0 0 (finished_by None 0 left)
  runs-none left counts = record {
    stands = λ ts before stands. subst (λ (bits : List Bool). StandsFor rest old ts bits) (sym (append-nil before)) stands;
    finds = λ ts before stands.
        finds-more old.params ts old.gaps before ready None 0 left (omega arith) (λ fewer less over. omega (arith, less))
        (counts ts before stands ∙ ap (undone old.params ts old.gaps) (sym (append-nil before)));
    params = refl;
    gaps = refl;
    all = refl;
    count = refl;
  }

  module _ (mid new : Cursor F T) (done number next left : ℕ) (found : Option ℕ) (bit : Bool) (runs : RunsOn rest whole old mid ready done number found) (within : done < length ready) (is : bit ≡ get_or ready done bit)
      (goes : (ts : List Transfer) (before : List Bool) → StandsFor rest mid ts before → StandsFor rest new ts (before ++ bit ∷ [])) (params : new.params ≡ mid.params) (gaps : new.gaps ≡ mid.gaps)
      (all : whole new.feed ≡ whole mid.feed) (counts : (ts : List Transfer) (before : List Bool) → StandsFor rest new ts before → left ≡ undone new.params ts new.gaps before) (numbered : next ≡ number + 1) where
    longer : (before : List Bool) → (before ++ take done ready) ++ bit ∷ [] ≡ before ++ take (done + 1) ready
    longer before =
        append_assoc before (take done ready) (bit ∷ []) ∙ ap (λ (b : Bool). before ++ (take done ready ++ b ∷ [])) is
        ∙ ap (λ (bits : List Bool). before ++ bits) (sym (take_more ready done bit within))

    stands-on : (ts : List Transfer) (before : List Bool) → StandsFor rest old ts before → StandsFor rest new ts (before ++ take (done + 1) ready)
    stands-on ts before stands = subst (λ (bits : List Bool). StandsFor rest new ts bits) (longer before) (goes ts (before ++ take done ready) (runs.stands ts before stands))

    pub runs-more : RunsOn rest whole old new ready (done + 1) next (finished_by found next left)
    runs-more = record {
      stands = stands-on;
      finds = λ ts before stands.
          let here : left ≡ undone old.params ts old.gaps (before ++ take (done + 1) ready) =
          counts ts (before ++ take (done + 1) ready) (stands-on ts before stands)
          ∙ ap (λ (p : Parameters). undone p ts new.gaps (before ++ take (done + 1) ready)) (params ∙ runs.params)
          ∙ ap (λ (l : List ℕ). undone old.params ts l (before ++ take (done + 1) ready)) (gaps ∙ runs.gaps) in
          let at : done + 1 ≡ next = omega (arith, numbered, runs.count) in
          let up : suc done ≡ next = omega (arith, numbered, runs.count) in
          let up_next : suc next ≡ suc (done + 1) = omega (arith, numbered, runs.count) in
          subst (λ (bound : ℕ). FindsBelow old.params ts old.gaps before ready bound (finished_by found next left)) up_next
          (finds-more old.params ts old.gaps before ready found next left (omega (arith, within, numbered, runs.count))
          (subst (λ (bound : ℕ). FindsBelow old.params ts old.gaps before ready bound found) up (runs.finds ts before stands))
          (here ∙ ap (λ (n : ℕ). undone old.params ts old.gaps (before ++ take n ready)) at));
      params = params ∙ runs.params;
      gaps = gaps ∙ runs.gaps;
      all = all ∙ runs.all;
      count = omega (arith, numbered, runs.count);
    }

  module _ (new : Cursor F T) (done number : ℕ) (found : Option ℕ) (runs : RunsOn rest whole old new ready done number found) (past : length ready ≤ done) where
    pub runs-stand : (ts : List Transfer) (before : List Bool) → StandsFor rest old ts before → StandsFor rest new ts (before ++ ready)
    runs-stand ts before stands = subst (λ (bits : List Bool). StandsFor rest new ts (before ++ bits)) (take_all done ready past) (runs.stands ts before stands)

    pub runs-finish : (ts : List Transfer) (before : List Bool) → StandsFor rest old ts before → Finishes old.params ts old.gaps before ready found
    runs-finish ts before stands = by_found found (runs.finds ts before stands)
      where
        by_found : (o : Option ℕ) → FindsBelow old.params ts old.gaps before ready (suc done) o → Finishes old.params ts old.gaps before ready o
        by_found None below = λ over.
            below (length ready) (omega (arith, past)) (ap (λ (bits : List Bool). undone old.params ts old.gaps (before ++ bits)) (take_all (length ready) ready (omega arith)) ∙ over)
        by_found (Some n) is = is
