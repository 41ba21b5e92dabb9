-- What a component shows when it acts, and what a chain then stands for.
use Rattle.std.proofs.Common.{◌≡◌, ◌∙◌, ℕ, zero, suc, ◌+◌, ◌-◌, ◌<◌, ◌≤◌, ◌==◌, ◌&&◌, ◌⊎◌, inl, inr, Bool, true, false, nat_lt, if◌then◌else◌, List, [], ◌∷◌, length, get_or, slice_get, slice_index, slice_set, Option, None, is_some, refl, sym, ap, subst, arith}
use Rattle.std.proofs.lemmas.Bool.{cases_lt}
use Rattle.physical_stream.specs.Params.{Parameters}
use Rattle.physical_stream.specs.declared.item.Tail.{Tail}
use Rattle.physical_stream.specs.declared.transfer.Transfer.{Transfer}
use Rattle.handshake.specs.Kept.{Rests}
use Rattle.handshake.specs.Run.{gap_of}
use Rattle.handshake.specs.declared.feed.TransferFeed.{Ghosts}
use Rattle.elastic_net.specs.declared.chain.Chain.{Chain}
use Rattle.elastic_net.specs.Orders.{count_from, how_many}
use Rattle.elastic_net.specs.States.{ChainState, act_of, beyond, does_move, has_acted, has_room, have_acted, moved_on, next_cycle_of, shown_by, turned}
use Rattle.elastic_net.specs.Standing.{ActsAs, KeepsChain, KeepsShown, StandsFor, source_cycle, taken_of}
use Rattle.elastic_net.proofs.ActLemmas.{moved-here}
use Rattle.elastic_net.proofs.NumberLemmas.{beyond-more, beyond-other, beyond-same, beyond-upto, lt_true, lt_yes, same_no, same_yes}
use Rattle.elastic_net.proofs.RoomLemmas.{count-read}
use Rattle.elastic_net.proofs.StageLemmas.{stage-idle, stage-moved, stage-none, stage-some, stage-there}
use Rattle.elastic_net.proofs.SourceLemmas.{moves-none, moves-some, source-idle, source-none, source-some}

-- the stream, its gaps and its stages are as they were
pub kept_here : (p q : Parameters) (ts : List Transfer) (gaps other stages inside : List ℕ) (s : ChainState) (past : List ℕ) (holds : Bool) (places rest : List Transfer) (pause : ℕ) (tail : Option Tail) (total : ℕ) →
    q ≡ p → other ≡ gaps → inside ≡ stages → KeepsChain q ts other inside s past holds places rest pause tail total → KeepsChain p ts gaps stages s past holds places rest pause tail total
kept_here p q ts gaps other stages inside s past holds places rest pause tail total a b c k =
    subst (λ (x : Parameters). KeepsChain x ts gaps stages s past holds places rest pause tail total) a
    (subst (λ (x : List ℕ). KeepsChain q ts x stages s past holds places rest pause tail total) b
    (subst (λ (x : List ℕ). KeepsChain q ts other x s past holds places rest pause tail total) c k))

-- how many transfers are taken once a component has acted
taken-as : (p : Parameters) (ts : List Transfer) (gaps stages : List ℕ) (s : ChainState) (component : ℕ) (ready holds moves : Bool) → does_move p ts gaps stages component ready s ≡ moves →
    taken_of (act_of p ts gaps stages component ready s).numbers holds ≡ taken_of (if moves then moved_on component s.numbers else s.numbers) holds
taken-as p ts gaps stages s component ready holds moves is = ap (λ (b : Bool). taken_of (if b then moved_on component s.numbers else s.numbers) holds) is

pub taken-more : (numbers : List ℕ) (holds after : Bool) → (holds ≡ true → after ≡ true) → taken_of numbers holds ≤ taken_of numbers after
taken-more numbers false false more = omega arith
taken-more numbers false true more = omega arith
taken-more numbers true true more = omega arith
taken-more numbers true false more = let clash : false ≡ true = more refl in cc

taken-most : (numbers : List ℕ) (holds : Bool) → taken_of numbers holds ≤ suc (beyond 0 numbers)
taken-most numbers false = omega arith
taken-most numbers true = omega arith

module _ (p : Parameters) (ts : List Transfer) (gaps stages : List ℕ) (s : ChainState) (past : List ℕ) (places rest : List Transfer) (pause : ℕ) (tail : Option Tail) (total : ℕ) (now : has_acted 0 s ≡ false) (ready : Bool) where
  pub acts-rests : (was holds after : Bool) → KeepsChain p ts gaps stages s past holds places rest pause tail total → (holds ≡ false → rest ≡ []) → Rests holds pause → (was ≡ true → holds ≡ true) → after ≡ holds →
      ActsAs p ts gaps stages s 0 ready was after false
  acts-rests was holds after k full rests more same =
      let none : shown_by p ts gaps stages 0 s ≡ None = source-none p ts gaps stages s past places rest pause tail total now holds k full rests in
      let still : does_move p ts gaps stages 0 ready s ≡ false = moves-none p ts gaps stages s past places rest pause tail total now ready none in
      record {
        shown = none;
        grows = omega (arith, taken-as p ts gaps stages s 0 ready after false still, taken-more s.numbers was after (λ sure. same ∙ more sure));
        there = λ sure. cc;
      }

  pub acts-held : (was holds : Bool) → KeepsChain p ts gaps stages s past holds places rest pause tail total → holds ≡ true → pause ≡ 0 → has_room stages 0 ready s ≡ false → ActsAs p ts gaps stages s 0 ready was holds true
  acts-held was holds k yet none full =
      let kept : KeepsChain p ts gaps stages s past true places rest pause tail total = subst (λ (b : Bool). KeepsChain p ts gaps stages s past b places rest pause tail total) yet k in
      let still : does_move p ts gaps stages 0 ready s ≡ false = moves-some p ts gaps stages s past places rest pause tail total now ready kept none ∙ full in
      let after : taken_of s.numbers holds ≡ suc (beyond 0 s.numbers) = ap (taken_of s.numbers) yet in
      record {
        shown = source-some p ts gaps stages s past places rest pause tail total now kept none;
        grows = omega (arith, taken-as p ts gaps stages s 0 ready holds false still, after, taken-most s.numbers was);
        there = λ sure. omega (arith, taken-as p ts gaps stages s 0 ready holds false still, after);
      }

  pub acts-sent : (was holds after : Bool) → KeepsChain p ts gaps stages s past holds places rest pause tail total → holds ≡ true → pause ≡ 0 → has_room stages 0 ready s ≡ true → after ≡ false → ActsAs p ts gaps stages s 0 ready was after true
  acts-sent was holds after k yet none room gone =
      let kept : KeepsChain p ts gaps stages s past true places rest pause tail total = subst (λ (b : Bool). KeepsChain p ts gaps stages s past b places rest pause tail total) yet k in
      let moves : does_move p ts gaps stages 0 ready s ≡ true = moves-some p ts gaps stages s past places rest pause tail total now ready kept none ∙ room in
      let here : beyond 0 (moved_on 0 s.numbers) ≡ suc (beyond 0 s.numbers) = moved-here stages ts s.numbers past kept.numbers 0 (omega (arith, kept.ring.within, kept.numbers.many)) in
      let last : taken_of (moved_on 0 s.numbers) after ≡ beyond 0 (moved_on 0 s.numbers) = ap (taken_of (moved_on 0 s.numbers)) gone in
      record {
        shown = source-some p ts gaps stages s past places rest pause tail total now kept none;
        grows = omega (arith, taken-as p ts gaps stages s 0 ready after true moves, here, last, taken-most s.numbers was);
        there = λ sure. omega (arith, taken-as p ts gaps stages s 0 ready after true moves, here, last);
      }

  pub source-holds : (holds : Bool) → KeepsChain p ts gaps stages s past holds places rest pause tail total → holds ≡ true → pause ≡ 0 → has_room stages 0 ready s ≡ false →
      KeepsChain p ts gaps stages (act_of p ts gaps stages 0 ready s) past holds places rest pause tail total
  source-holds holds k yet none full =
      let kept : KeepsChain p ts gaps stages s past true places rest pause tail total = subst (λ (b : Bool). KeepsChain p ts gaps stages s past b places rest pause tail total) yet k in
      let still : does_move p ts gaps stages 0 ready s ≡ false = moves-some p ts gaps stages s past places rest pause tail total now ready kept none ∙ full in
      source-idle p ts gaps stages s past places rest pause tail total now holds ready pause k still (λ free. let clash : true ≡ false = sym yet ∙ free in cc) (omega (arith, none))

-- the same where a call before has kept the stream, its gaps and its stages
pub back_here : (p q : Parameters) (ts : List Transfer) (gaps other stages inside : List ℕ) (s : ChainState) (past : List ℕ) (holds : Bool) (places rest : List Transfer) (pause : ℕ) (tail : Option Tail) (total : ℕ) →
    q ≡ p → other ≡ gaps → inside ≡ stages → KeepsChain p ts gaps stages s past holds places rest pause tail total → KeepsChain q ts other inside s past holds places rest pause tail total
back_here p q ts gaps other stages inside s past holds places rest pause tail total a b c k =
    kept_here q p ts other gaps inside stages s past holds places rest pause tail total (sym a) (sym b) (sym c) k

-- ---- a stage

module _ (p : Parameters) (ts : List Transfer) (gaps stages : List ℕ) (s : ChainState) (past : List ℕ) (holds : Bool) (places rest : List Transfer) (pause : ℕ) (tail : Option Tail) (total : ℕ)
    (k : KeepsChain p ts gaps stages s past holds places rest pause tail total) (ready : Bool) where
  -- the stage of this number has none
  none-in : (component : ℕ) → 0 < component → beyond (component - 1) s.numbers ≤ beyond component s.numbers → shown_by p ts gaps stages component s ≡ None
  none-in zero first few = absurd (omega (arith, first))
  none-in (suc stage) first few =
      let e : suc stage - 1 ≡ stage = omega arith in
      stage-none p ts gaps stages s past holds places rest pause tail total k stage (omega (arith, few, ap (λ (n : ℕ). beyond n s.numbers) e))

  -- or some
  some-in : (component : ℕ) → 0 < component → beyond component s.numbers < beyond (component - 1) s.numbers → shown_by p ts gaps stages component s ≡ slice_get ts (beyond component s.numbers)
  some-in zero first some = absurd (omega (arith, first))
  some-in (suc stage) first some =
      let e : suc stage - 1 ≡ stage = omega arith in
      stage-some p ts gaps stages s past holds places rest pause tail total k stage (omega (arith, some, ap (λ (n : ℕ). beyond n s.numbers) e))

  there-in : (component : ℕ) → 0 < component → beyond component s.numbers < beyond (component - 1) s.numbers → does_move p ts gaps stages component ready s ≡ has_room stages component ready s
  there-in zero first some = absurd (omega (arith, first))
  there-in (suc stage) first some =
      let e : suc stage - 1 ≡ stage = omega arith in
      ap (λ (b : Bool). b && has_room stages (suc stage) ready s) (stage-there p ts gaps stages s past holds places rest pause tail total k stage (omega (arith, some, ap (λ (n : ℕ). beyond n s.numbers) e)))

  idle-in : (component : ℕ) → 0 < component → does_move p ts gaps stages component ready s ≡ false → KeepsChain p ts gaps stages (act_of p ts gaps stages component ready s) past holds places rest pause tail total
  idle-in zero first still = absurd (omega (arith, first))
  idle-in (suc stage) first still = stage-idle p ts gaps stages s past holds places rest pause tail total k stage ready still

  counts-in : (component here before : ℕ) → 0 < component → component ≤ length stages → length past ≡ suc (length stages) → here ≡ get_or past component here → before ≡ get_or past (component - 1) before →
      (here ≡ beyond component s.numbers) × (before ≡ beyond (component - 1) s.numbers)
  counts-in component here before first within long at at_before =
      (count-read stages ts s.numbers past k.numbers component here within long at, count-read stages ts s.numbers past k.numbers (component - 1) before (omega (arith, within)) long at_before)

  room-in : (component : ℕ) → has_room stages component ready s ≡ true → component < length stages → how_many (suc component) s.numbers < slice_index stages component
  room-in component room less =
      lt_true (how_many (suc component) s.numbers) (slice_index stages component)
      (sym (ap (λ (b : Bool). if b then nat_lt (how_many (suc component) s.numbers) (slice_index stages component) else ready) (lt_yes component (length stages) less)) ∙ room)

  moved-in : (component : ℕ) (later : List ℕ) → 0 < component → beyond component s.numbers < beyond (component - 1) s.numbers → component ≤ length stages → length past ≡ suc (length stages) → has_room stages component ready s ≡ true →
      later ≡ slice_set past component (suc (beyond component s.numbers)) → KeepsChain p ts gaps stages (act_of p ts gaps stages component ready s) later holds places rest pause tail total
  moved-in zero later first some within long room is = absurd (omega (arith, first))
  moved-in (suc stage) later first some within long room is =
      let e : suc stage - 1 ≡ stage = omega arith in
      stage-moved p ts gaps stages s past holds places rest pause tail total k stage ready later (there-in (suc stage) first some ∙ room) (omega (arith, some, ap (λ (n : ℕ). beyond n s.numbers) e)) within long (room-in (suc stage) room) is

  -- the code's steps
  module _ (component here before : ℕ) (first : 0 < component) (within : component ≤ length stages) (long : length past ≡ suc (length stages)) (at : here ≡ get_or past component here) (at_before : before ≡ get_or past (component - 1) before) where
    facts : (here ≡ beyond component s.numbers) × (before ≡ beyond (component - 1) s.numbers)
    facts = counts-in component here before first within long at at_before

    sent-same : (moves : Bool) → does_move p ts gaps stages component ready s ≡ moves → taken_of (act_of p ts gaps stages component ready s).numbers holds ≡ taken_of s.numbers holds
    sent-same moves is = taken-as p ts gaps stages s component ready holds moves is ∙ by_move moves
      where
        by_move : (b : Bool) → taken_of (if b then moved_on component s.numbers else s.numbers) holds ≡ taken_of s.numbers holds
        by_move true = ap (λ (n : ℕ). if holds then suc n else n) (beyond-other component 0 s.numbers (λ is. omega (arith, is, first)))
        by_move false = refl

    moves-not : before ≤ here → does_move p ts gaps stages component ready s ≡ false
    moves-not few = ap (λ (o : Option Transfer). is_some o && has_room stages component ready s) (none-in component first (omega (arith, few, facts.0, facts.1)))

    pub stage-empty : before ≤ here → KeepsChain p ts gaps stages (act_of p ts gaps stages component ready s) past holds places rest pause tail total
    stage-empty few = idle-in component first (moves-not few)

    pub stage-shows-none : before ≤ here → ActsAs p ts gaps stages s component ready holds holds false
    stage-shows-none few = record {
      shown = none-in component first (omega (arith, few, facts.0, facts.1));
      grows = omega (arith, sent-same false (moves-not few));
      there = λ sure. cc;
    }

    pub stage-shows : (moves : Bool) → here < before → has_room stages component ready s ≡ moves → ActsAs p ts gaps stages s component ready holds holds true
    stage-shows moves some room =
        let less : beyond component s.numbers < beyond (component - 1) s.numbers = omega (arith, some, facts.0, facts.1) in
        let sent : taken_of (act_of p ts gaps stages component ready s).numbers holds ≡ taken_of s.numbers holds = sent-same moves (there-in component first less ∙ room) in
        record {
          shown = some-in component first less;
          grows = omega (arith, sent);
          there = λ sure. omega (arith, sent, less, beyond-upto 0 (component - 1) s.numbers (omega arith), taken-more s.numbers false holds (λ no_one. cc));
        }

    pub stage-holds : here < before → has_room stages component ready s ≡ false → KeepsChain p ts gaps stages (act_of p ts gaps stages component ready s) past holds places rest pause tail total
    stage-holds some full =
        let less : beyond component s.numbers < beyond (component - 1) s.numbers = omega (arith, some, facts.0, facts.1) in
        idle-in component first (there-in component first less ∙ full)

    pub stage-moves : (later : List ℕ) → here < before → has_room stages component ready s ≡ true → later ≡ slice_set past component (here + 1) →
        KeepsChain p ts gaps stages (act_of p ts gaps stages component ready s) later holds places rest pause tail total
    stage-moves later some room is =
        let less : beyond component s.numbers < beyond (component - 1) s.numbers = omega (arith, some, facts.0, facts.1) in
        let one : here + 1 ≡ suc (beyond component s.numbers) = omega (arith, facts.0) in
        moved-in component later first less within long room (is ∙ ap (slice_set past component) one)

-- ---- what the last component showed

push-most : (j n : ℕ) (numbers : List ℕ) → (beyond j numbers ≤ beyond j (n ∷ numbers)) × (beyond j (n ∷ numbers) ≤ suc (beyond j numbers))
push-most j n numbers = by_lt (cases_lt j n)
  where
    by_lt : (j < n) ⊎ (n ≤ j) → (beyond j numbers ≤ beyond j (n ∷ numbers)) × (beyond j (n ∷ numbers) ≤ suc (beyond j numbers))
    by_lt (inl less) = (omega (arith, beyond-more j n numbers less), omega (arith, beyond-more j n numbers less))
    by_lt (inr le) = (omega (arith, beyond-same j n numbers le), omega (arith, beyond-same j n numbers le))

-- no component has moved on more than one transfer more
pub moved-most : (i j : ℕ) (numbers : List ℕ) → beyond j (moved_on i numbers) ≤ suc (beyond j numbers)
moved-most i j [] = omega arith
moved-most i j (n ∷ numbers) = by_test (moved-most i j numbers) (n == i)
  where
    by_test : beyond j (moved_on i numbers) ≤ suc (beyond j numbers) → (b : Bool) → beyond j (if b then suc n ∷ numbers else n ∷ moved_on i numbers) ≤ suc (beyond j (n ∷ numbers))
    by_test rest true = omega (arith, (push-most j (suc n) numbers).1, (push-most j n numbers).0)
    by_test rest false = by_lt rest (cases_lt j n)
      where
        by_lt : beyond j (moved_on i numbers) ≤ suc (beyond j numbers) → (j < n) ⊎ (n ≤ j) → beyond j (n ∷ moved_on i numbers) ≤ suc (beyond j (n ∷ numbers))
        by_lt more (inl less) = omega (arith, more, beyond-more j n (moved_on i numbers) less, beyond-more j n numbers less)
        by_lt more (inr le) = omega (arith, more, beyond-same j n (moved_on i numbers) le, beyond-same j n numbers le)

-- nor has one fewer
pub moved-least : (i j : ℕ) (numbers : List ℕ) → beyond j numbers ≤ beyond j (moved_on i numbers)
moved-least i j [] = omega arith
moved-least i j (n ∷ numbers) = by_test (moved-least i j numbers) (n == i)
  where
    by_test : beyond j numbers ≤ beyond j (moved_on i numbers) → (b : Bool) → beyond j (n ∷ numbers) ≤ beyond j (if b then suc n ∷ numbers else n ∷ moved_on i numbers)
    by_test rest true = by_lt (cases_lt j n)
      where
        by_lt : (j < n) ⊎ (n ≤ j) → beyond j (n ∷ numbers) ≤ beyond j (suc n ∷ numbers)
        by_lt (inl less) = omega (arith, beyond-more j n numbers less, beyond-more j (suc n) numbers (omega (arith, less)))
        by_lt (inr le) = omega (arith, beyond-same j n numbers le, (push-most j (suc n) numbers).0)
    by_test rest false = by_lt rest (cases_lt j n)
      where
        by_lt : beyond j numbers ≤ beyond j (moved_on i numbers) → (j < n) ⊎ (n ≤ j) → beyond j (n ∷ numbers) ≤ beyond j (n ∷ moved_on i numbers)
        by_lt more (inl less) = omega (arith, more, beyond-more j n (moved_on i numbers) less, beyond-more j n numbers less)
        by_lt more (inr le) = omega (arith, more, beyond-same j n (moved_on i numbers) le, beyond-same j n numbers le)

module _ (p : Parameters) (ts : List Transfer) (gaps stages : List ℕ) (s : ChainState) (component : ℕ) (ready was after shows : Bool) (acts : ActsAs p ts gaps stages s component ready was after shows) where
  -- the last component has acted
  pub seen-new : (number : ℕ) → component ≡ length stages → number ≡ beyond component s.numbers → KeepsShown stages ts (act_of p ts gaps stages component ready s) after shows number
  seen-new number last is = record {
    is = ap (λ (b : Bool). if b then shown_by p ts gaps stages component s else s.shown) (same_yes component (length stages) last) ∙ acts.shown ∙ ap (λ (n : ℕ). if shows then slice_get ts n else None) (sym is);
    there = λ sure. (omega (arith, upto (does_move p ts gaps stages component ready s), is), omega (arith, is, acts.there sure));
  }
    where
      upto : (b : Bool) → beyond (length stages) (if b then moved_on component s.numbers else s.numbers) ≤ suc (beyond component s.numbers)
      upto b = subst (λ (n : ℕ). beyond n (if b then moved_on component s.numbers else s.numbers) ≤ suc (beyond component s.numbers)) last (by_move b)
        where
          by_move : (m : Bool) → beyond component (if m then moved_on component s.numbers else s.numbers) ≤ suc (beyond component s.numbers)
          by_move true = moved-most component component s.numbers
          by_move false = omega arith

  -- another one has
  pub seen-still : (old : Bool) (number : ℕ) → (component ≡ length stages → ⊥) → KeepsShown stages ts s was old number → KeepsShown stages ts (act_of p ts gaps stages component ready s) after old number
  seen-still old number other k = record {
    is = ap (λ (b : Bool). if b then shown_by p ts gaps stages component s else s.shown) (same_no component (length stages) other) ∙ k.is;
    there = λ sure. (omega (arith, (k.there sure).0, at (does_move p ts gaps stages component ready s)), omega (arith, (k.there sure).1, acts.grows));
  }
    where
      at : (b : Bool) → beyond (length stages) (if b then moved_on component s.numbers else s.numbers) ≡ beyond (length stages) s.numbers
      at true = beyond-other component (length stages) s.numbers (λ is. other (sym is))
      at false = refl

pub seen_here : (ts : List Transfer) (stages inside : List ℕ) (s : ChainState) (holds shows : Bool) (number : ℕ) → inside ≡ stages → KeepsShown stages ts s holds shows number → KeepsShown inside ts s holds shows number
seen_here ts stages inside s holds shows number is k = subst (λ (l : List ℕ). KeepsShown l ts s holds shows number) (sym is) k

-- ---- the next cycle begins

both-first : (a b : Bool) → (a && b) ≡ true → a ≡ true
both-first true b is = refl
both-first false b is = is

pub chain-next : (p : Parameters) (ts : List Transfer) (gaps stages : List ℕ) (s : ChainState) (past : List ℕ) (holds : Bool) (places rest : List Transfer) (pause : ℕ) (tail : Option Tail) (total : ℕ) →
    has_acted 0 s ≡ true → KeepsChain p ts gaps stages s past holds places rest pause tail total → KeepsChain p ts gaps stages (next_cycle_of s) past holds places rest pause tail total
chain-next p ts gaps stages s past holds places rest pause tail total over k =
    let at : source_cycle s ≡ suc s.cycle = ap (λ (b : Bool). if b then suc s.cycle else s.cycle) over in
    record {
      numbers = k.numbers;
      ring = k.ring;
      source = record {
        tail_is = k.source.tail_is;
        gap = λ sure. let old : pause ≡ (s.start + gap_of p ts gaps (beyond 0 s.numbers)) - source_cycle s = k.source.gap sure in omega (arith, old, at);
        fresh = λ free some. k.source.fresh free some ∙ at;
      };
      all = k.all;
      few = k.few;
    }

module _ {F : Type 0} {T : Ghosts F} (rest : F → List Transfer) (c : Chain F T) (ts : List Transfer) where
  pub stands-next : (s : ChainState) → has_acted 0 s ≡ true → StandsFor rest c ts s → StandsFor rest c ts (next_cycle_of s)
  stands-next s over k = record {
    chain = chain-next c.params ts c.gaps c.stages s c.past.items c.holds c.places.items (rest c.feed) c.pause c.tail c.total over k.chain;
    seen = record { is = k.seen.is; there = k.seen.there };
  }

  pub stands-turned : (stages : List ℕ) (s : ChainState) → StandsFor rest c ts s → StandsFor rest c ts (turned stages s)
  stands-turned stages s k = by_over (have_acted (count_from 0 (suc (length stages))) s) refl
    where
      by_over : (b : Bool) → have_acted (count_from 0 (suc (length stages))) s ≡ b → StandsFor rest c ts (if b then next_cycle_of s else s)
      by_over true over = stands-next s (both-first (has_acted 0 s) (have_acted (count_from 1 (length stages)) s) over) k
      by_over false still = k
