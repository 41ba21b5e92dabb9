-- What a chain keeps when its source acts, and what the source shows.
use Rattle.std.proofs.Common.{◌≡◌, ◌∙◌, ℕ, zero, suc, ◌+◌, ◌-◌, ◌%◌, ◌^◌, ◌<◌, ◌≤◌, ◌==◌, ◌&&◌, ◌⊎◌, inl, inr, min, Bool, true, false, nat_lt, if◌then◌else◌, List, [], ◌∷◌, ◌++◌, length, take, drop, get_or, slice_get, slice_index, slice_set, Option, None, Some, is_some, refl, sym, ap, subst, arith}
use Rattle.std.proofs.lemmas.Bool.{cases_lt}
use Rattle.std.proofs.lemmas.List.{append-nil, get_or_read}
use Rattle.std.proofs.lemmas.Grind.{flat_map-append}
use Rattle.physical_stream.specs.Params.{Parameters}
use Rattle.physical_stream.specs.Items.{items_of, items_of_all}
use Rattle.physical_stream.specs.Shape.{tail_of}
use Rattle.physical_stream.specs.declared.item.Item.{Item}
use Rattle.physical_stream.specs.declared.item.Tail.{Tail}
use Rattle.physical_stream.specs.declared.transfer.Transfer.{Transfer}
use Rattle.handshake.specs.Kept.{Rests}
use Rattle.handshake.specs.Run.{gap_of}
use Rattle.handshake.proofs.CursorLemmas.{drop-none, drop-is, take-next-drop}
use Rattle.elastic_net.specs.Orders.{how_many}
use Rattle.elastic_net.specs.States.{ChainState, act_of, beyond, does_move, first_of, has_acted, has_room, is_due, moved_on, shown_by}
use Rattle.elastic_net.specs.Standing.{KeepsChain, source_cycle}
use Rattle.elastic_net.proofs.NumberLemmas.{beyond-upto, first_of-is, le_no, le_yes, lt_no, lt_true, lt_yes, next_at}
use Rattle.elastic_net.proofs.ActLemmas.{moved-grows, moved-here, numbers-moved}
use Rattle.elastic_net.proofs.RingLemmas.{ring-kept}
use Rattle.elastic_net.proofs.RoomLemmas.{past-none}

pub get-read : {A : Type 0} (xs : List A) (i : ℕ) (x : A) → i < length xs → x ≡ get_or xs i x → slice_get xs i ≡ Some x
get-read [] i x less is = absurd (omega (arith, less))
get-read (y ∷ xs) zero x less is = ap Some (sym is)
get-read (y ∷ xs) (suc i) x less is = get-read xs i x (omega (arith, less)) is

-- the state once a component has acted, by whether it moves a transfer
abbrev pub act_as : (p : Parameters) (ts : List Transfer) (gaps stages : List ℕ) → (moves : Bool) → (component : ℕ) → ChainState → ChainState
act_as p ts gaps stages moves component s = record {
  numbers = if moves then moved_on component s.numbers else s.numbers;
  cycle = s.cycle;
  acted = component ∷ s.acted;
  start = if (component == 0) && moves then suc s.cycle else s.start;
  shown = if component == length stages then shown_by p ts gaps stages component s else s.shown;
}

pub got-within : {A : Type 0} (xs : List A) (i : ℕ) → i < length xs → is_some (slice_get xs i) ≡ true
got-within [] i less = absurd (omega (arith, less))
got-within (x ∷ xs) zero less = refl
got-within (x ∷ xs) (suc i) less = got-within xs i (omega (arith, less))

pub take-more : {A : Type 0} (xs : List A) (i : ℕ) (x : A) → slice_get xs i ≡ Some x → take (suc i) xs ≡ take i xs ++ x ∷ []
take-more xs i x is = take-next-drop xs i x (drop (i + 1) xs) (drop-is xs i x is)

module _ (p : Parameters) (ts : List Transfer) (gaps stages : List ℕ) (s : ChainState) (past : List ℕ) (places rest : List Transfer) (pause : ℕ) (tail : Option Tail) (total : ℕ) (now : has_acted 0 s ≡ false) where
  not-yet : source_cycle s ≡ s.cycle
  not-yet = ap (λ (b : Bool). if b then suc s.cycle else s.cycle) now

  acted : (moves : Bool) → source_cycle (act_as p ts gaps stages moves 0 s) ≡ suc s.cycle
  acted moves = ap (λ (b : Bool). if b then suc s.cycle else s.cycle) (lt_yes 0 (suc (how_many 0 s.acted)) (omega arith))

  -- what the source shows
  first-is : (holds : Bool) → KeepsChain p ts gaps stages s past holds places rest pause tail total → first_of 0 ts s.numbers ≡ slice_get ts (beyond 0 s.numbers)
  first-is holds k = first_of-is 0 (suc (length stages)) ts s.numbers k.numbers.falling k.numbers.many ∙ by_lt (cases_lt (beyond 0 s.numbers) (length s.numbers))
    where
      by_lt : (beyond 0 s.numbers < length s.numbers) ⊎ (length s.numbers ≤ beyond 0 s.numbers) → next_at ts (beyond 0 s.numbers) (length s.numbers) ≡ slice_get ts (beyond 0 s.numbers)
      by_lt (inl less) = ap (λ (b : Bool). if b then slice_get ts (beyond 0 s.numbers) else None) (lt_yes (beyond 0 s.numbers) (length s.numbers) less)
      by_lt (inr le) =
          ap (λ (b : Bool). if b then slice_get ts (beyond 0 s.numbers) else None) (lt_no (beyond 0 s.numbers) (length s.numbers) le)
          ∙ sym (past-none ts (beyond 0 s.numbers) (omega (arith, le, k.numbers.many)))

  pub source-none : (holds : Bool) → KeepsChain p ts gaps stages s past holds places rest pause tail total → (holds ≡ false → rest ≡ []) → Rests holds pause → shown_by p ts gaps stages 0 s ≡ None
  source-none false k full rests = by_test (is_due p ts gaps stages s) (first-is false k ∙ drop-none ts (beyond 0 s.numbers) (k.ring.left ∙ full refl))
    where
      by_test : (b : Bool) → first_of 0 ts s.numbers ≡ None → (if b then first_of 0 ts s.numbers else None) ≡ None
      by_test true none = none
      by_test false none = refl
  source-none true k full (inl is) = cc
  source-none true k full (inr some) =
      let gap : pause ≡ (s.start + gap_of p ts gaps (beyond 0 s.numbers)) - source_cycle s = k.source.gap refl in
      ap (λ (b : Bool). if b then first_of 0 ts s.numbers else None) (le_no (s.start + gap_of p ts gaps (beyond 0 s.numbers)) s.cycle (omega (arith, gap, not-yet, some)))

  pub source-some : KeepsChain p ts gaps stages s past true places rest pause tail total → pause ≡ 0 → shown_by p ts gaps stages 0 s ≡ slice_get ts (beyond 0 s.numbers)
  source-some k none =
      let gap : pause ≡ (s.start + gap_of p ts gaps (beyond 0 s.numbers)) - source_cycle s = k.source.gap refl in
      ap (λ (b : Bool). if b then first_of 0 ts s.numbers else None) (le_yes (s.start + gap_of p ts gaps (beyond 0 s.numbers)) s.cycle (omega (arith, gap, not-yet, none)))
      ∙ first-is true k

  pub source-there : KeepsChain p ts gaps stages s past true places rest pause tail total → pause ≡ 0 → is_some (shown_by p ts gaps stages 0 s) ≡ true
  source-there k none = ap (λ (o : Option Transfer). is_some o) (source-some k none) ∙ got-within ts (beyond 0 s.numbers) (omega (arith, k.ring.within))

  -- the source moves nothing
  pub source-idle : (holds ready : Bool) (next : ℕ) → KeepsChain p ts gaps stages s past holds places rest pause tail total → does_move p ts gaps stages 0 ready s ≡ false → (holds ≡ false → rest ≡ []) → next ≡ pause - 1 →
      KeepsChain p ts gaps stages (act_of p ts gaps stages 0 ready s) past holds places rest next tail total
  source-idle holds ready next k still full is =
      subst (λ (b : Bool). KeepsChain p ts gaps stages (act_as p ts gaps stages b 0 s) past holds places rest next tail total) (sym still)
      (record {
        numbers = k.numbers;
        ring = k.ring;
        source = record {
          tail_is = k.source.tail_is;
          gap = λ sure. let old : pause ≡ (s.start + gap_of p ts gaps (beyond 0 s.numbers)) - source_cycle s = k.source.gap sure in omega (arith, old, is, not-yet, acted false);
          fresh = λ free some. absurd (omega (arith, ap length (full free), some));
        };
        all = k.all;
        few = k.few;
      })

  -- the source sends the transfer that it holds
  pub source-sent : (ready : Bool) (later : List ℕ) (t : Transfer) (after : Option Tail) → KeepsChain p ts gaps stages s past true places rest pause tail total → does_move p ts gaps stages 0 ready s ≡ true →
      length past ≡ suc (length stages) → (0 < length stages → how_many 1 s.numbers < slice_index stages 0) → later ≡ slice_set past 0 (suc (beyond 0 s.numbers)) → slice_get ts (beyond 0 s.numbers) ≡ Some t →
      ((done : List Item) → tail ≡ tail_of done → after ≡ tail_of (done ++ items_of p t)) →
      KeepsChain p ts gaps stages (act_of p ts gaps stages 0 ready s) later false places rest pause after total
  source-sent ready later t after k moves long free is at over =
      let some : beyond 0 s.numbers < length s.numbers = omega (arith, k.ring.within, k.numbers.many) in
      let here : beyond 0 (moved_on 0 s.numbers) ≡ suc (beyond 0 s.numbers) = moved-here stages ts s.numbers past k.numbers 0 some in
      let grows : beyond (length stages) s.numbers ≤ beyond (length stages) (moved_on 0 s.numbers) = moved-grows stages ts s.numbers past k.numbers 0 some (length stages) in
      let items_are : items_of_all p (take (suc (beyond 0 s.numbers)) ts) ≡ items_of_all p (take (beyond 0 s.numbers) ts) ++ items_of p t =
      ap (items_of_all p) (take-more ts (beyond 0 s.numbers) t at) ∙ flat_map-append (items_of p) (take (beyond 0 s.numbers) ts) (t ∷ []) ∙ ap (λ (l : List Item). items_of_all p (take (beyond 0 s.numbers) ts) ++ l) (append-nil (items_of p t)) in
      subst (λ (b : Bool). KeepsChain p ts gaps stages (act_as p ts gaps stages b 0 s) later false places rest pause after total) (sym moves)
      (record {
        numbers = numbers-moved stages ts s.numbers past k.numbers 0 some later (omega arith) long free is;
        ring = ring-kept stages ts s.numbers (moved_on 0 s.numbers) true false places rest k.ring here grows;
        source = record {
          tail_is = over (items_of_all p (take (beyond 0 s.numbers) ts)) k.source.tail_is ∙ ap tail_of (sym items_are) ∙ ap (λ (n : ℕ). tail_of (items_of_all p (take n ts))) (sym here);
          gap = λ sure. cc;
          fresh = λ free some. sym (acted true);
        };
        all = k.all;
        few = k.few;
      })

  pub moves-none : (ready : Bool) → shown_by p ts gaps stages 0 s ≡ None → does_move p ts gaps stages 0 ready s ≡ false
  moves-none ready none = ap (λ (o : Option Transfer). is_some o && has_room stages 0 ready s) none

  pub moves-some : (ready : Bool) → KeepsChain p ts gaps stages s past true places rest pause tail total → pause ≡ 0 → does_move p ts gaps stages 0 ready s ≡ has_room stages 0 ready s
  moves-some ready k none = ap (λ (b : Bool). b && has_room stages 0 ready s) (source-there k none)

  -- the code's steps
  pub source-waits : (holds ready : Bool) (next : ℕ) → KeepsChain p ts gaps stages s past holds places rest pause tail total → (holds ≡ false → rest ≡ []) → Rests holds pause → next ≡ pause - 1 →
      KeepsChain p ts gaps stages (act_of p ts gaps stages 0 ready s) past holds places rest next tail total
  source-waits holds ready next k full rests is = source-idle holds ready next k (moves-none ready (source-none holds k full rests)) full is

  room-here : (ready : Bool) → has_room stages 0 ready s ≡ true → 0 < length stages → how_many 1 s.numbers < slice_index stages 0
  room-here ready room some =
      let test : nat_lt (how_many 1 s.numbers) (slice_index stages 0) ≡ true =
      sym (ap (λ (b : Bool). if b then nat_lt (how_many 1 s.numbers) (slice_index stages 0) else ready) (lt_yes 0 (length stages) some)) ∙ room in
      lt_true (how_many 1 s.numbers) (slice_index stages 0) test

  pub source-sends : (holds ready : Bool) (later : List ℕ) (t : Transfer) (after : Option Tail) (first sent slot : ℕ) → KeepsChain p ts gaps stages s past holds places rest pause tail total → holds ≡ true → pause ≡ 0 →
      has_room stages 0 ready s ≡ true → length past ≡ suc (length stages) → total < 2 ^ 64 → first ≡ get_or past 0 first → sent ≡ min (first + 1) (2 ^ 64 - 1) → slot ≡ first % length places → slot < length places → t ≡ get_or places slot t →
      later ≡ slice_set past 0 sent →
      ((done : List Item) → tail ≡ tail_of done → after ≡ tail_of (done ++ items_of p t)) →
      KeepsChain p ts gaps stages (act_of p ts gaps stages 0 ready s) later false places rest pause after total
  source-sends holds ready later t after first sent slot k yet none room long few read sent_is slot_is within at is over =
      let kept : KeepsChain p ts gaps stages s past true places rest pause tail total = subst (λ (b : Bool). KeepsChain p ts gaps stages s past b places rest pause tail total) yet k in
      let first_is : first ≡ beyond 0 s.numbers = get_or_read past 0 first (omega (arith, long)) read 0 ∙ kept.numbers.counts 0 (omega arith) in
      let sent_now : sent ≡ suc (beyond 0 s.numbers) = omega (arith, sent_is, first_is, kept.ring.within, kept.all, few) in
      let place : slice_get places slot ≡ Some t = get-read places slot t within at in
      let held : slice_get places (beyond 0 s.numbers % length places) ≡ slice_get ts (beyond 0 s.numbers) = kept.ring.held (beyond 0 s.numbers) (omega (arith, beyond-upto 0 (length stages) s.numbers (omega arith))) (omega arith) in
      source-sent ready later t after kept (moves-some ready kept none ∙ room) long (room-here ready room) (is ∙ ap (slice_set past 0) sent_now)
      (sym held ∙ sym (ap (slice_get places) (slot_is ∙ ap (λ (n : ℕ). n % length places) first_is)) ∙ place) over
