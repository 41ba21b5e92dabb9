-- The transfers of a stream, one after another, without their cycles.
use Rattle.std.proofs.Common.{◌≡◌, ◌∙◌, ℕ, zero, suc, ◌+◌, ◌-◌, ◌<◌, ◌≤◌, Bool, true, false, List, [], ◌∷◌, ◌++◌, length, map, take, drop, Option, None, Some, refl, sym, ap, subst, arith}
use Rattle.std.proofs.lemmas.List.{length-append, length-drop, length-take}
use Rattle.physical_stream.specs.Params.{Parameters}
use Rattle.physical_stream.specs.Cycles.{Cycle, done_in, done_of}
use Rattle.physical_stream.specs.Counts.{transfers_of}
use Rattle.physical_stream.specs.declared.item.Tail.{Tail}
use Rattle.physical_stream.specs.declared.transfer.Transfer.{Transfer}
use Rattle.handshake.specs.Kept.{Keeps, left_of}
use Rattle.handshake.specs.Offers.{Offers, StandsBefore, StandsFirst, offered, taken_before}
use Rattle.handshake.specs.Run.{gap_of, idle_of}
use Rattle.handshake.specs.Standing.{Follows, StandsFor}
use Rattle.handshake.specs.declared.cursor.Cursor.{Cursor}
use Rattle.handshake.specs.declared.feed.TransferFeed.{Ghosts}
use Rattle.handshake.proofs.CursorLemmas.{take-next-drop}

-- ---- cycles that do transfers one after another

pub done_of-offered : (ts : List Transfer) → done_of (offered ts) ≡ ts
done_of-offered [] = refl
done_of-offered (t ∷ ts) = ap (λ (l : List Transfer). t ∷ l) (done_of-offered ts)

pub idle_of-offered : (ts : List Transfer) → idle_of (offered ts) ≡ 0
idle_of-offered [] = refl
idle_of-offered (t ∷ ts) = idle_of-offered ts

pub offered-more : (ts : List Transfer) (t : Transfer) → offered (ts ++ t ∷ []) ≡ offered ts ++ record { ready = true; shown = Some t } ∷ []
offered-more [] t = refl
offered-more (one ∷ ts) t = ap (λ (l : List Cycle). record { ready = true; shown = Some one } ∷ l) (offered-more ts t)

taken-count : (ts left : List Transfer) (n : ℕ) → n ≤ length ts → length (take n ts) ≡ n
taken-count ts left n few = omega (arith, length-take n ts, few)

-- as many are done as are not left
pub count-taken : (ts left : List Transfer) → transfers_of (offered (taken_before ts left)) ≡ length ts - length left
count-taken ts left = ap length (done_of-offered (taken_before ts left)) ∙ taken-count ts left (length ts - length left) (omega arith)

-- ---- one transfer more

module _ (p : Parameters) (ts : List Transfer) (gaps : List ℕ) (rest : List Transfer) (first : Transfer) (pause place : ℕ) (last : Option Tail)
    (old : Keeps p ts gaps (offered (taken_before ts rest)) rest false first pause place last) where
  left-is : drop (length ts - length rest) ts ≡ rest
  left-is = ap (λ (n : ℕ). drop n ts) (sym (count-taken ts rest)) ∙ old.left

  few : length rest ≤ length ts
  few = let e : length (drop (length ts - length rest) ts) ≡ length rest = ap length left-is in omega (arith, e, length-drop (length ts - length rest) ts)

  -- what is filled in is the first that is left
  pub filled-is : (new : List Transfer) (holds : Bool) (held : Transfer) (wait spot : ℕ) (end : Option Tail) → Keeps p ts gaps (offered (taken_before ts rest)) new holds held wait spot end
      → rest ≡ left_of holds held new
  filled-is new holds held wait spot end keeps = sym old.left ∙ keeps.left

  -- its gap
  pub gap-is : (new : List Transfer) (held : Transfer) (wait spot : ℕ) (end : Option Tail) → Keeps p ts gaps (offered (taken_before ts rest)) new true held wait spot end
      → wait ≡ gap_of p ts gaps (length ts - length rest)
  gap-is new held wait spot end keeps =
      let count : gap_of p ts gaps (transfers_of (offered (taken_before ts rest))) ≡ gap_of p ts gaps (length ts - length rest) = ap (gap_of p ts gaps) (count-taken ts rest) in
      omega (arith, keeps.gap refl, idle_of-offered (taken_before ts rest), count)

  -- one transfer more was taken
  pub taken-more : (new : List Transfer) (held : Transfer) → rest ≡ held ∷ new
      → offered (taken_before ts rest) ++ record { ready = true; shown = Some held } ∷ [] ≡ offered (taken_before ts new)
  taken-more new held is =
      let one : length rest ≡ suc (length new) = ap length is in
      let next : length ts - length new ≡ suc (length ts - length rest) = omega (arith, one, few) in
      let all : taken_before ts new ≡ taken_before ts rest ++ held ∷ [] =
      ap (λ (n : ℕ). take n ts) next ∙ take-next-drop ts (length ts - length rest) held new (left-is ∙ is) in
      sym (ap offered all ∙ offered-more (taken_before ts rest) held)

offers-by : (p : Parameters) (ts : List Transfer) (gaps : List ℕ) (old new : List Transfer) (held : Transfer) (wait : ℕ) → old ≡ held ∷ new → wait ≡ gap_of p ts gaps (length ts - length old)
    → Offers p ts gaps old new held (Some wait)
offers-by p ts gaps old new held wait is gap =
    subst (λ (l : List Transfer). Offers p ts gaps l new held (Some wait)) (sym is) (ap Some (gap ∙ ap (λ (l : List Transfer). gap_of p ts gaps (length ts - length l)) is), (refl, refl))

-- ---- cursors

module _ {F : Type 0} {T : Ghosts F} (rest : F → List Transfer) where
  pub before-few : (c : Cursor F T) (all : List Transfer) → StandsBefore rest c all → length (rest c.feed) ≤ length all
  before-few c all before =
      few c.params all c.gaps (rest c.feed) c.held c.pause c.place c.tail
      (subst (λ (b : Bool). Keeps c.params all c.gaps (offered (taken_before all (rest c.feed))) (rest c.feed) b c.held c.pause c.place c.tail) before.free before.follows)

module _ {F : Type 0} {T : Ghosts F} (rest whole : F → List Transfer) where
  -- a cursor that was rewound stands before all transfers
  pub stands-first : (c : Cursor F T) (all : List Transfer) → whole c.feed ≡ all → StandsBefore rest c all → rest c.feed ≡ all → StandsFirst rest whole c
  stands-first c all same before is = record { before = subst (StandsBefore rest c) (sym same) before; all = is ∙ sym same }

  pub before-none : (c : Cursor F T) (all : List Transfer) → c.holds ≡ false → rest c.feed ≡ all → StandsFor rest c all [] → StandsBefore rest c all
  before-none c all free is stands =
      let none : length all - length (rest c.feed) ≡ 0 = let e : length (rest c.feed) ≡ length all = ap length is in omega (arith, e) in
      record { free = free; follows = subst (Follows rest c all) (sym (ap (λ (n : ℕ). offered (take n all)) none)) stands }

  module _ (old mid new : Cursor F T) (ts : List Transfer) (before : StandsBefore rest old ts) (kept : Follows rest mid ts (offered (taken_before ts (rest old.feed)))) (params : mid.params ≡ old.params)
      (gaps : mid.gaps ≡ old.gaps) where
    old_kept : Keeps old.params ts old.gaps (offered (taken_before ts (rest old.feed))) (rest old.feed) false old.held old.pause old.place old.tail
    old_kept = subst (λ (b : Bool). Keeps old.params ts old.gaps (offered (taken_before ts (rest old.feed))) (rest old.feed) b old.held old.pause old.place old.tail) before.free before.follows

    mid_kept : Keeps old.params ts old.gaps (offered (taken_before ts (rest old.feed))) (rest mid.feed) mid.holds mid.held mid.pause mid.place mid.tail
    mid_kept = subst (λ (q : Parameters). Keeps q ts old.gaps (offered (taken_before ts (rest old.feed))) (rest mid.feed) mid.holds mid.held mid.pause mid.place mid.tail) params
        (subst (λ (l : List ℕ). Keeps mid.params ts l (offered (taken_before ts (rest old.feed))) (rest mid.feed) mid.holds mid.held mid.pause mid.place mid.tail) gaps kept)

    left_then : (holds : Bool) → mid.holds ≡ holds → rest old.feed ≡ left_of holds mid.held (rest mid.feed)
    left_then holds is =
        filled-is old.params ts old.gaps (rest old.feed) old.held old.pause old.place old.tail old_kept (rest mid.feed) mid.holds mid.held mid.pause mid.place mid.tail mid_kept
        ∙ ap (λ (b : Bool). left_of b mid.held (rest mid.feed)) is

    -- none is left
    pub offers-none : mid.holds ≡ false → rest mid.feed ≡ [] → Offers old.params ts old.gaps (rest old.feed) (rest mid.feed) mid.held None
    offers-none free over =
        subst (λ (l : List Transfer). Offers old.params ts old.gaps l (rest mid.feed) mid.held None) (sym (left_then false free ∙ over)) (refl, over)

    pub before-still : mid.holds ≡ false → StandsBefore rest mid ts
    before-still free = record {
      free = free;
      follows = subst (λ (l : List Transfer). Follows rest mid ts (offered (taken_before ts l))) (left_then false free) kept;
    }

    -- one is given
    pub offers-one : mid.holds ≡ true → new.held ≡ mid.held → rest new.feed ≡ rest mid.feed → Offers old.params ts old.gaps (rest old.feed) (rest new.feed) new.held (Some mid.pause)
    offers-one sure held same =
        subst (λ (l : List Transfer). Offers old.params ts old.gaps (rest old.feed) l new.held (Some mid.pause)) (sym same)
        (subst (λ (t : Transfer). Offers old.params ts old.gaps (rest old.feed) (rest mid.feed) t (Some mid.pause)) (sym held)
        (offers-by old.params ts old.gaps (rest old.feed) (rest mid.feed) mid.held mid.pause (left_then true sure)
        (gap-is old.params ts old.gaps (rest old.feed) old.held old.pause old.place old.tail old_kept (rest mid.feed) mid.held mid.pause mid.place mid.tail
        (subst (λ (b : Bool). Keeps old.params ts old.gaps (offered (taken_before ts (rest old.feed))) (rest mid.feed) b mid.held mid.pause mid.place mid.tail) sure mid_kept))))

    pub before-next : mid.holds ≡ true → new.holds ≡ false → rest new.feed ≡ rest mid.feed
        → Follows rest new ts (offered (taken_before ts (rest old.feed)) ++ record { ready = true; shown = Some mid.held } ∷ []) → StandsBefore rest new ts
    before-next sure free same follows = record {
      free = free;
      follows = subst (Follows rest new ts) (taken-more old.params ts old.gaps (rest old.feed) old.held old.pause old.place old.tail old_kept (rest new.feed) mid.held
          (left_then true sure ∙ ap (λ (l : List Transfer). mid.held ∷ l) (sym same))) follows;
    }
