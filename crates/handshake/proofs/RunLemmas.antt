-- Runs, cycle by cycle, and that they break no rule.
use Rattle.std.proofs.Common.{◌≡◌, ◌∙◌, ℕ, zero, suc, ◌<◌, ◌≤◌, ◌⊎◌, inl, inr, Bool, true, false, nat_le, if◌then◌else◌, List, [], ◌∷◌, ◌++◌, length, take, slice_get, slice_index, Option, None, Some, refl, sym, ap, subst, append_assoc, arith}
use Rattle.std.proofs.lemmas.List.{append-nil, length-append, take_all}
use Rattle.std.proofs.lemmas.Bool.Decides.{nat_tests}
use Rattle.std.proofs.lemmas.Grind.{flat_map-append}
use Rattle.std.proofs.lemmas.Option.{slice_get_within}
use Rattle.physical_stream.specs.Params.{Parameters}
use Rattle.physical_stream.specs.Cycles.{Cycle, done_in, done_of, items_done, refused_in, waiting_of}
use Rattle.physical_stream.specs.Counts.{transfers_of}
use Rattle.physical_stream.specs.Items.{items_of, items_of_all}
use Rattle.physical_stream.specs.Shape.{tail_of, is_whole}
use Rattle.physical_stream.specs.Ending.{ending_of}
use Rattle.physical_stream.specs.Breaks.{Breaks, BreaksAfter, BreaksInnerPause, BreaksOuterPause}
use Rattle.physical_stream.specs.Rules.{Binds, number_of_rule}
use Rattle.physical_stream.specs.declared.item.Item.{Item}
use Rattle.physical_stream.specs.declared.transfer.Transfer.{Transfer}
use Rattle.physical_stream.specs.declared.end.End.TheVariants as ends
use Rattle.physical_stream.specs.declared.rule.Rule.{Rule}
use Rattle.physical_stream.specs.declared.rule.Rule.TheVariants.{Hold, Index, LaneLast, Strobe, Start, End, Empty, InnerPause, OuterPause, Nest, Tag}
use Rattle.physical_stream.proofs.AddedLemmas.{Breaks-cases}
use Rattle.complexity_rules.specs.Waiting.{IsLowestShown}
use Rattle.handshake.specs.Run.{gap_of, is_done, idle_over, idle_of, shown_after, next_cycle, run_on, run_of}
use Rattle.complexity_rules.specs.Pauses.{pauses_after}
use Rattle.handshake.specs.Laws.{AreObedient, RunsAreLegal, RunsEndWhole}

-- ---- one cycle more

pub waiting_of-more : (cycles : List Cycle) (now : Cycle) → waiting_of (cycles ++ now ∷ []) ≡ refused_in now
waiting_of-more [] now = refl
waiting_of-more (c ∷ []) now = refl
waiting_of-more (c ∷ d ∷ more) now = waiting_of-more (d ∷ more) now

pub done_of-more : (cycles : List Cycle) (now : Cycle) → done_of (cycles ++ now ∷ []) ≡ done_of cycles ++ done_in now
done_of-more cycles now = flat_map-append done_in cycles (now ∷ []) ∙ ap (λ (ts : List Transfer). done_of cycles ++ ts) (append-nil (done_in now))

pub idle_over-more : (idle : ℕ) (cycles : List Cycle) (now : Cycle) → idle_over idle (cycles ++ now ∷ []) ≡ (if is_done now then 0 else suc (idle_over idle cycles))
idle_over-more idle [] now = refl
idle_over-more idle (c ∷ more) now = idle_over-more (if is_done c then 0 else suc idle) more now

pub run_on-more : (p : Parameters) (ts : List Transfer) (gaps : List ℕ) (before : List Cycle) (bits : List Bool) (bit : Bool) →
    run_on p ts gaps before (bits ++ bit ∷ []) ≡ run_on p ts gaps before bits ++ next_cycle p ts gaps (run_on p ts gaps before bits) bit ∷ []
run_on-more p ts gaps before [] bit = refl
run_on-more p ts gaps before (b ∷ bits) bit = run_on-more p ts gaps (before ++ next_cycle p ts gaps before b ∷ []) bits bit

-- a property that each cycle keeps holds for the run
pub run_on-keeps : (p : Parameters) (ts : List Transfer) (gaps : List ℕ) (Kept : List Cycle → Type 0) →
    ((before : List Cycle) (bit : Bool) → Kept before → Kept (before ++ next_cycle p ts gaps before bit ∷ [])) → (before : List Cycle) (bits : List Bool) → Kept before → Kept (run_on p ts gaps before bits)
run_on-keeps p ts gaps Kept step before [] kept = kept
run_on-keeps p ts gaps Kept step before (bit ∷ bits) kept = run_on-keeps p ts gaps Kept step (before ++ next_cycle p ts gaps before bit ∷ []) bits (step before bit kept)

-- ---- lists of transfers

pub take-next : {A : Type 0} (xs : List A) (n : ℕ) (x : A) → slice_get xs n ≡ Some x → take (suc n) xs ≡ take n xs ++ x ∷ []
take-next [] n x is = cc
take-next (y ∷ xs) zero x is = let e : y ≡ x = cc in ap (λ z. z ∷ []) e
take-next (y ∷ xs) (suc n) x is = ap (λ l. y ∷ l) (take-next xs n x is)

pub past : {A : Type 0} (xs : List A) (n : ℕ) → slice_get xs n ≡ None → length xs ≤ n
past [] n is = omega arith
past (y ∷ xs) zero is = cc
past (y ∷ xs) (suc n) is = omega (arith, past xs n is)

-- the transfer of a number follows those before it
pub obedient-at : (p : Parameters) (done : List Item) (ts : List Transfer) (n : ℕ) (x : Transfer) → AreObedient p done ts → slice_get ts n ≡ Some x →
    IsLowestShown p (tail_of (done ++ items_of_all p (take n ts))) x None
obedient-at p done [] n x all is = cc
obedient-at p done (t ∷ ts) zero x all is =
    let e : t ≡ x = cc in
    subst (λ (l : List Item). IsLowestShown p (tail_of l) x None) (sym (append-nil done)) (subst (λ (y : Transfer). IsLowestShown p (tail_of done) y None) e all.0)
obedient-at p done (t ∷ ts) (suc n) x all is =
    subst (λ (l : List Item). IsLowestShown p (tail_of l) x None) (append_assoc done (items_of p t) (items_of_all p (take n ts))) (obedient-at p (done ++ items_of p t) ts n x all.1 is)

-- ---- pauses

pub pauses-inner : (p : Parameters) (done : List Item) → pauses_after p (tail_of done) ≡ true → Binds InnerPause p.level → BreaksInnerPause p done → ⊥
pauses-inner p done may binds broken = grind (arith, nat_tests)

pub pauses-outer : (p : Parameters) (done : List Item) → pauses_after p (tail_of done) ≡ true → Binds OuterPause p.level → BreaksOuterPause p done → ⊥
pauses-outer p done may binds broken = grind (arith, nat_tests)

pub whole-inner : (p : Parameters) (done : List Item) → is_whole p.dims (tail_of done) ≡ true → BreaksInnerPause p done → ⊥
whole-inner p done whole broken = grind (arith, nat_tests)

pub whole-outer : (p : Parameters) (done : List Item) → is_whole p.dims (tail_of done) ≡ true → BreaksOuterPause p done → ⊥
whole-outer p done whole broken = let e : true ≡ false = sym whole ∙ broken.1 in cc

-- ---- the shown transfer

module _ (p : Parameters) (ts : List Transfer) (gaps : List ℕ) where
  -- nothing is shown: the gap has not passed, or no transfer is left
  pub record ShowsNothing (before : List Cycle) : Type 0 where
    pub why : ((idle_of before < gap_of p ts gaps (transfers_of before)) ⊎ (slice_get ts (transfers_of before) ≡ None))

  pub record ShowsTransfer (before : List Cycle) (x : Transfer) : Type 0 where
    pub passed : gap_of p ts gaps (transfers_of before) ≤ idle_of before
    pub is : slice_get ts (transfers_of before) ≡ Some x

  abbrev pub ShowsAs : List Cycle → Option Transfer → Type 0
  ShowsAs before None = ShowsNothing before
  ShowsAs before (Some x) = ShowsTransfer before x

  pub shows : (before : List Cycle) → ShowsAs before (shown_after p ts gaps before)
  shows before = by_test (nat_le (gap_of p ts gaps (transfers_of before)) (idle_of before)) refl
    where
      by_get : (got : Option Transfer) → slice_get ts (transfers_of before) ≡ got → gap_of p ts gaps (transfers_of before) ≤ idle_of before → ShowsAs before got
      by_get None is le = record { why = inr is }
      by_get (Some x) is le = record { passed = le; is = is }

      by_test : (test : Bool) → nat_le (gap_of p ts gaps (transfers_of before)) (idle_of before) ≡ test → ShowsAs before (if test then slice_get ts (transfers_of before) else None)
      by_test true is = by_get (slice_get ts (transfers_of before)) refl (grind (arith, nat_tests))
      by_test false is = record { why = inl (grind (arith, nat_tests)) }

  pub shows-passed : (before : List Cycle) (x : Transfer) → gap_of p ts gaps (transfers_of before) ≤ idle_of before → slice_get ts (transfers_of before) ≡ Some x → shown_after p ts gaps before ≡ Some x
  shows-passed before x le is =
      let test : nat_le (gap_of p ts gaps (transfers_of before)) (idle_of before) ≡ true = grind (arith, nat_tests) in
      ap (λ (b : Bool). if b then slice_get ts (transfers_of before) else None) test ∙ is

  -- a gap that is not zero stands where valid may be low
  pub gap-pauses : (n t : ℕ) → n < gap_of p ts gaps t → pauses_after p (tail_of (items_of_all p (take t ts))) ≡ true
  gap-pauses n t less = by_test (pauses_after p (tail_of (items_of_all p (take t ts)))) less
    where
      by_test : (test : Bool) → n < (if test then slice_index gaps t else 0) → test ≡ true
      by_test true l = refl
      by_test false l = absurd (omega (arith, l))

-- ---- the properties that each cycle keeps

pub record Sound (p : Parameters) (ts : List Transfer) (gaps : List ℕ) (before : List Cycle) : Type 0 where
  pub done : done_of before ≡ take (transfers_of before) ts
  pub waits : (offered : Transfer) → waiting_of before ≡ Some offered → shown_after p ts gaps before ≡ Some offered
  pub legal : (rule : Rule) (number : ℕ) → Breaks rule p before number → ⊥

pub Sound-none : (p : Parameters) (ts : List Transfer) (gaps : List ℕ) → Sound p ts gaps []
Sound-none p ts gaps = record {
  done = refl;
  waits = λ offered is. cc;
  legal = λ rule number broken. let e = slice_get_within [] number broken.now broken.stands in omega (arith, e);
}

module _ (p : Parameters) (ts : List Transfer) (gaps : List ℕ) (all : AreObedient p [] ts) (whole : is_whole p.dims (tail_of (items_of_all p ts)) ≡ true) where
  module _ (before : List Cycle) (bit : Bool) (s : Sound p ts gaps before) where
    -- the items done are those of the first transfers
    items-are : items_done p before ≡ items_of_all p (take (transfers_of before) ts)
    items-are = ap (items_of_all p) s.done

    count-same : (now : Cycle) → done_in now ≡ [] → transfers_of (before ++ now ∷ []) ≡ transfers_of before
    count-same now none = ap length (done_of-more before now ∙ ap (λ (l : List Transfer). done_of before ++ l) none ∙ append-nil (done_of before))

    count-next : (now : Cycle) (x : Transfer) → done_in now ≡ x ∷ [] → transfers_of (before ++ now ∷ []) ≡ suc (transfers_of before)
    count-next now x one = ap length (done_of-more before now ∙ ap (λ (l : List Transfer). done_of before ++ l) one) ∙ omega (arith, length-append (done_of before) (x ∷ []))

    done-next : (bit : Bool) (shown : Option Transfer) → ShowsAs p ts gaps before shown →
        done_of (before ++ record { ready = bit; shown = shown } ∷ []) ≡ take (transfers_of (before ++ record { ready = bit; shown = shown } ∷ [])) ts
    done-next false shown here =
        done_of-more before (record { ready = false; shown = shown }) ∙ append-nil (done_of before) ∙ s.done
        ∙ ap (λ (n : ℕ). take n ts) (sym (count-same (record { ready = false; shown = shown }) refl))
    done-next true None here =
        done_of-more before (record { ready = true; shown = None }) ∙ append-nil (done_of before) ∙ s.done
        ∙ ap (λ (n : ℕ). take n ts) (sym (count-same (record { ready = true; shown = None }) refl))
    done-next true (Some x) here =
        done_of-more before (record { ready = true; shown = Some x }) ∙ ap (λ (l : List Transfer). l ++ x ∷ []) s.done ∙ sym (take-next ts (transfers_of before) x here.is)
        ∙ ap (λ (n : ℕ). take n ts) (sym (count-next (record { ready = true; shown = Some x }) x refl))

    -- a transfer that was offered and not taken is shown again
    waits-next : (bit : Bool) (shown : Option Transfer) → ShowsAs p ts gaps before shown → (offered : Transfer) →
        waiting_of (before ++ record { ready = bit; shown = shown } ∷ []) ≡ Some offered → shown_after p ts gaps (before ++ record { ready = bit; shown = shown } ∷ []) ≡ Some offered
    waits-next true shown here offered is = let e : ◌≡◌ {A = Option Transfer} None (Some offered) = sym (waiting_of-more before (record { ready = true; shown = shown })) ∙ is in cc
    waits-next false None here offered is = let e : ◌≡◌ {A = Option Transfer} None (Some offered) = sym (waiting_of-more before (record { ready = false; shown = None })) ∙ is in cc
    waits-next false (Some x) here offered is =
        let now : Cycle = record { ready = false; shown = Some x } in
        let same : Some x ≡ Some offered = sym (waiting_of-more before now) ∙ is in
        let count = count-same now refl in
        let idle : idle_of (before ++ now ∷ []) ≡ suc (idle_of before) = idle_over-more 0 before now in
        let gap : gap_of p ts gaps (transfers_of (before ++ now ∷ [])) ≡ gap_of p ts gaps (transfers_of before) = ap (gap_of p ts gaps) count in
        shows-passed p ts gaps (before ++ now ∷ []) x (omega (arith, gap, idle, here.passed)) (ap (slice_get ts) count ∙ here.is) ∙ same

    -- the shown transfer breaks no rule
    hold-or-more : (rule : Rule) → (rule ≡ Hold) ⊎ (2 ≤ number_of_rule rule)
    hold-or-more Hold = inl refl
    hold-or-more Index = inr (omega arith)
    hold-or-more LaneLast = inr (omega arith)
    hold-or-more Strobe = inr (omega arith)
    hold-or-more Start = inr (omega arith)
    hold-or-more End = inr (omega arith)
    hold-or-more Empty = inr (omega arith)
    hold-or-more InnerPause = inr (omega arith)
    hold-or-more OuterPause = inr (omega arith)
    hold-or-more Nest = inr (omega arith)
    hold-or-more Tag = inr (omega arith)

    holds : (bit : Bool) → BreaksAfter Hold p before (next_cycle p ts gaps before bit) → ⊥
    holds bit broken = broken.1.changed (s.waits broken.1.offered broken.1.waits)

    breaks-shown : (bit : Bool) (x : Transfer) → ShowsTransfer p ts gaps before x → (rule : Rule) → 2 ≤ number_of_rule rule → BreaksAfter rule p before (record { ready = bit; shown = Some x }) → ⊥
    breaks-shown bit x here rule more broken =
        obedient-at p [] ts (transfers_of before) x all here.is before bit (ap tail_of (sym items-are)) rule more broken

    -- a pause is where valid may be low
    pauses-here : ShowsNothing p ts gaps before → (pauses_after p (tail_of (items_done p before)) ≡ true) ⊎ (is_whole p.dims (tail_of (items_done p before)) ≡ true)
    pauses-here here = by_why here.why
      where
        by_why : ((idle_of before < gap_of p ts gaps (transfers_of before)) ⊎ (slice_get ts (transfers_of before) ≡ None)) →
            (pauses_after p (tail_of (items_done p before)) ≡ true) ⊎ (is_whole p.dims (tail_of (items_done p before)) ≡ true)
        by_why (inl less) =
            inl (ap (λ (l : List Item). pauses_after p (tail_of l)) items-are ∙ gap-pauses p ts gaps (idle_of before) (transfers_of before) less)
        by_why (inr none) =
            inr (ap (λ (l : List Item). is_whole p.dims (tail_of l)) (items-are ∙ ap (items_of_all p) (take_all (transfers_of before) ts (past ts (transfers_of before) none))) ∙ whole)

    inner-here : (pauses_after p (tail_of (items_done p before)) ≡ true) ⊎ (is_whole p.dims (tail_of (items_done p before)) ≡ true) → Binds InnerPause p.level → BreaksInnerPause p (items_done p before) → ⊥
    inner-here (inl may) = pauses-inner p (items_done p before) may
    inner-here (inr ends) = λ binds. whole-inner p (items_done p before) ends

    outer-here : (pauses_after p (tail_of (items_done p before)) ≡ true) ⊎ (is_whole p.dims (tail_of (items_done p before)) ≡ true) → Binds OuterPause p.level → BreaksOuterPause p (items_done p before) → ⊥
    outer-here (inl may) = pauses-outer p (items_done p before) may
    outer-here (inr ends) = λ binds. whole-outer p (items_done p before) ends

    breaks-pause : (bit : Bool) → ShowsNothing p ts gaps before → (rule : Rule) → 2 ≤ number_of_rule rule → BreaksAfter rule p before (record { ready = bit; shown = None }) → ⊥
    breaks-pause bit here Hold more broken = omega (arith, more)
    breaks-pause bit here Index more broken = broken.1
    breaks-pause bit here LaneLast more broken = broken.1
    breaks-pause bit here Strobe more broken = broken.1
    breaks-pause bit here Start more broken = broken.1
    breaks-pause bit here End more broken = broken.1
    breaks-pause bit here Empty more broken = broken.1
    breaks-pause bit here InnerPause more broken = inner-here (pauses-here here) broken.0 broken.1
    breaks-pause bit here OuterPause more broken = outer-here (pauses-here here) broken.0 broken.1
    breaks-pause bit here Nest more broken = broken.1
    breaks-pause bit here Tag more broken = broken.1

    breaks-by : (bit : Bool) (shown : Option Transfer) → ShowsAs p ts gaps before shown → (rule : Rule) → 2 ≤ number_of_rule rule → BreaksAfter rule p before (record { ready = bit; shown = shown }) → ⊥
    breaks-by bit None here = breaks-pause bit here
    breaks-by bit (Some x) here = breaks-shown bit x here

    breaks-none : (rule : Rule) → BreaksAfter rule p before (next_cycle p ts gaps before bit) → ⊥
    breaks-none rule broken = by_rule (hold-or-more rule)
      where
        by_rule : (rule ≡ Hold) ⊎ (2 ≤ number_of_rule rule) → ⊥
        by_rule (inl is) = holds bit (subst (λ (r : Rule). BreaksAfter r p before (next_cycle p ts gaps before bit)) is broken)
        by_rule (inr more) = breaks-by bit (shown_after p ts gaps before) (shows p ts gaps before) rule more broken

    legal-next : (rule : Rule) (number : ℕ) → Breaks rule p (before ++ next_cycle p ts gaps before bit ∷ []) number → ⊥
    legal-next rule number broken = by_place (Breaks-cases rule p before (next_cycle p ts gaps before bit) number broken)
      where
        by_place : Breaks rule p before number ⊎ ((number ≡ length before) × BreaksAfter rule p before (next_cycle p ts gaps before bit)) → ⊥
        by_place (inl earlier) = s.legal rule number earlier
        by_place (inr here) = breaks-none rule here.1

    pub Sound-next : Sound p ts gaps (before ++ next_cycle p ts gaps before bit ∷ [])
    Sound-next = record {
      done = done-next bit (shown_after p ts gaps before) (shows p ts gaps before);
      waits = waits-next bit (shown_after p ts gaps before) (shows p ts gaps before);
      legal = legal-next;
    }

  pub Sound-run : (ready : List Bool) → Sound p ts gaps (run_of p ts gaps ready)
  Sound-run ready = run_on-keeps p ts gaps (Sound p ts gaps) Sound-next [] ready (Sound-none p ts gaps)

pub runs_are_legal : RunsAreLegal
runs_are_legal p ts gaps ready all whole rule number broken = (Sound-run p ts gaps all whole ready).legal rule number broken

pub runs_end_whole : RunsEndWhole
runs_end_whole p ts gaps ready all whole count = by_waiting (waiting_of run) refl
  where
    run : List Cycle
    run = run_of p ts gaps ready

    s : Sound p ts gaps run
    s = Sound-run p ts gaps all whole ready

    items : items_done p run ≡ items_of_all p ts
    items = ap (items_of_all p) (s.done ∙ take_all (transfers_of run) ts (omega (arith, count)))

    ends_so : is_whole p.dims (tail_of (items_done p run)) ≡ true
    ends_so = ap (λ (l : List Item). is_whole p.dims (tail_of l)) items ∙ whole

    by_waiting : (waiting : Option Transfer) → waiting_of run ≡ waiting → ending_of p run ≡ ends.Whole
    by_waiting None is = rw (is, ends_so) refl
    by_waiting (Some x) is = absurd (by_shown (shown_after p ts gaps run) (shows p ts gaps run) (s.waits x is))
      where
        by_shown : (shown : Option Transfer) → ShowsAs p ts gaps run shown → shown ≡ Some x → ⊥
        by_shown None here e = cc
        by_shown (Some y) here e = let less = slice_get_within ts (transfers_of run) y here.is in omega (arith, less, count)
