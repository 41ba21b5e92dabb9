-- How far the components move on in a cycle.
use Rattle.std.proofs.Common.{◌≡◌, ◌∙◌, ℕ, zero, suc, ◌+◌, ◌*◌, ◌<◌, ◌≤◌, ◌&&◌, ◌⊎◌, inl, inr, Bool, true, false, nat_lt, if◌then◌else◌, List, [], ◌∷◌, length, slice_get, slice_index, Option, None, is_some, refl, sym, ap, subst, arith}
use Rattle.std.proofs.Math.Nat.{suc-mul}
use Rattle.std.proofs.lemmas.Bool.{cases_lt}
use Rattle.physical_stream.specs.Params.{Parameters}
use Rattle.physical_stream.specs.declared.transfer.Transfer.{Transfer}
use Rattle.handshake.specs.Run.{gap_of}
use Rattle.elastic_net.specs.Laws.{HaveRoom, IsSound}
use Rattle.elastic_net.specs.Orders.{how_many}
use Rattle.elastic_net.specs.Sinks.{acts_of}
use Rattle.elastic_net.specs.States.{ChainState, act_of, beyond, does_move, first_of, has_room, moved_on, shown_by}
use Rattle.elastic_net.proofs.NumberLemmas.{Compared, above, below, same, compared, beyond-moved, beyond-other, beyond-split, beyond-within, le_no, le_yes, length-moved_on, lt_no, lt_yes, many-same, reached, same_no}
use Rattle.elastic_net.proofs.SoundLemmas.{AreBelow, act-sound, first-here, moves-there}
use Rattle.elastic_net.proofs.SourceLemmas.{got-within}
use Rattle.elastic_net.proofs.StandLemmas.{moved-least}

-- ---- the moves of so many components

abbrev pub moves_upto : ℕ → List ℕ → ℕ
moves_upto zero numbers = 0
moves_upto (suc k) numbers = moves_upto k numbers + beyond k numbers

pub moves-least : (k : ℕ) (numbers later : List ℕ) → ((j : ℕ) → beyond j numbers ≤ beyond j later) → moves_upto k numbers ≤ moves_upto k later
moves-least zero numbers later all = omega arith
moves-least (suc k) numbers later all = omega (arith, moves-least k numbers later all, all k)

pub moves-more : (k c : ℕ) (numbers later : List ℕ) → ((j : ℕ) → beyond j numbers ≤ beyond j later) → c < k → beyond c numbers < beyond c later → moves_upto k numbers < moves_upto k later
moves-more zero c numbers later all within more = absurd (omega (arith, within))
moves-more (suc k) c numbers later all within more = by_lt (λ less. moves-more k c numbers later all less more) (cases_lt c k)
  where
    by_lt : (c < k → moves_upto k numbers < moves_upto k later) → (c < k) ⊎ (k ≤ c) → moves_upto k numbers + beyond k numbers < moves_upto k later + beyond k later
    by_lt rest (inl less) = omega (arith, rest less, all k)
    by_lt rest (inr le) =
        let here : c ≡ k = omega (arith, le, within) in
        let grown : beyond k numbers < beyond k later = subst (λ (n : ℕ). beyond n numbers < beyond n later) here more in
        omega (arith, moves-least k numbers later all, grown)

moves-most : (k : ℕ) (numbers : List ℕ) → moves_upto k numbers ≤ k * length numbers
moves-most zero numbers = omega arith
moves-most (suc k) numbers = omega (arith, moves-most k numbers, beyond-within k numbers, suc-mul k (length numbers))

-- the last of them has not moved all
pub moves-fewer : (k : ℕ) (numbers : List ℕ) → beyond k numbers < length numbers → moves_upto (suc k) numbers < suc k * length numbers
moves-fewer k numbers less = omega (arith, moves-most k numbers, less, suc-mul k (length numbers))

module _ (p : Parameters) (ts : List Transfer) (gaps stages : List ℕ) where
  -- ---- acts

  pub act-least : (x j : ℕ) (ready : Bool) (s : ChainState) → beyond j s.numbers ≤ beyond j (act_of p ts gaps stages x ready s).numbers
  act-least x j ready s = by_move (does_move p ts gaps stages x ready s)
    where
      by_move : (b : Bool) → beyond j s.numbers ≤ beyond j (if b then moved_on x s.numbers else s.numbers)
      by_move true = moved-least x j s.numbers
      by_move false = omega arith

  pub act-other : (x j : ℕ) (ready : Bool) (s : ChainState) → (x ≡ j → ⊥) → beyond j (act_of p ts gaps stages x ready s).numbers ≡ beyond j s.numbers
  act-other x j ready s other = by_move (does_move p ts gaps stages x ready s)
    where
      by_move : (b : Bool) → beyond j (if b then moved_on x s.numbers else s.numbers) ≡ beyond j s.numbers
      by_move true = beyond-other x j s.numbers (λ is. other (sym is))
      by_move false = refl

  act-long : (x : ℕ) (ready : Bool) (s : ChainState) → length (act_of p ts gaps stages x ready s).numbers ≡ length s.numbers
  act-long x ready s = by_move (does_move p ts gaps stages x ready s)
    where
      by_move : (b : Bool) → length (if b then moved_on x s.numbers else s.numbers) ≡ length s.numbers
      by_move true = length-moved_on x s.numbers
      by_move false = refl

  pub act-start : (x : ℕ) (ready : Bool) (s : ChainState) → (x ≡ 0 → ⊥) → (act_of p ts gaps stages x ready s).start ≡ s.start
  act-start x ready s other = ap (λ (b : Bool). if b && does_move p ts gaps stages x ready s then suc s.cycle else s.start) (same_no x 0 other)

  pub acts-least : (order : List ℕ) (ready : Bool) (s : ChainState) (j : ℕ) → beyond j s.numbers ≤ beyond j (acts_of p ts gaps stages order ready s).numbers
  acts-least [] ready s j = omega arith
  acts-least (x ∷ order) ready s j = omega (arith, act-least x j ready s, acts-least order ready (act_of p ts gaps stages x ready s) j)

  -- ---- a component that can move a transfer on

  abbrev pub due_at : ChainState → ℕ
  due_at s = s.start + gap_of p ts gaps (beyond 0 s.numbers)

  -- it has one, which is due where it is the source, and the place behind it is empty
  pub record IsAble (c : ℕ) (s : ChainState) : Type 0 where
    pub has : beyond c s.numbers < reached c s.numbers
    pub due : c ≡ 0 → due_at s ≤ s.cycle
    pub room : c < length stages → how_many (suc c) s.numbers ≡ 0

  able-shows : (c : ℕ) (s : ChainState) → IsSound ts stages s.numbers → IsAble c s → is_some (shown_by p ts gaps stages c s) ≡ true
  able-shows c s sound able = by_component c able
    where
      some : (i : ℕ) → beyond i s.numbers < reached i s.numbers → is_some (first_of i ts s.numbers) ≡ true
      some i less =
          ap (λ (o : Option Transfer). is_some o) (first-here p ts gaps stages s sound i ∙ ap (λ (b : Bool). if b then slice_get ts (beyond i s.numbers) else None) (lt_yes (beyond i s.numbers) (reached i s.numbers) less))
          ∙ got-within ts (beyond i s.numbers) (omega (arith, less, most i, sound.many))
        where
          most : (j : ℕ) → reached j s.numbers ≤ length s.numbers
          most zero = omega arith
          most (suc j) = beyond-within j s.numbers

      by_component : (i : ℕ) → IsAble i s → is_some (shown_by p ts gaps stages i s) ≡ true
      by_component zero a = ap (λ (b : Bool). is_some (if b then first_of 0 ts s.numbers else None)) (le_yes (due_at s) s.cycle (a.due refl)) ∙ some 0 a.has
      by_component (suc stage) a = some (suc stage) a.has

  able-room : (c : ℕ) (s : ChainState) → HaveRoom stages → IsAble c s → has_room stages c true s ≡ true
  able-room c s wide able = by_lt (cases_lt c (length stages))
    where
      by_lt : (c < length stages) ⊎ (length stages ≤ c) → has_room stages c true s ≡ true
      by_lt (inl less) =
          ap (λ (b : Bool). if b then nat_lt (how_many (suc c) s.numbers) (slice_index stages c) else true) (lt_yes c (length stages) less)
          ∙ lt_yes (how_many (suc c) s.numbers) (slice_index stages c) (omega (arith, able.room less, wide c less))
      by_lt (inr le) = ap (λ (b : Bool). if b then nat_lt (how_many (suc c) s.numbers) (slice_index stages c) else true) (lt_no c (length stages) le)

  able-moves : (c : ℕ) (s : ChainState) → IsSound ts stages s.numbers → HaveRoom stages → IsAble c s → beyond c (act_of p ts gaps stages c true s).numbers ≡ suc (beyond c s.numbers)
  able-moves c s sound wide able =
      let moves : does_move p ts gaps stages c true s ≡ true = ap (λ (b : Bool). b && has_room stages c true s) (able-shows c s sound able) ∙ able-room c s wide able in
      ap (λ (b : Bool). beyond c (if b then moved_on c s.numbers else s.numbers)) moves ∙ beyond-moved (suc (length stages)) c s.numbers sound.falling able.has

  able-kept : (c x : ℕ) (ready : Bool) (s : ChainState) → (x ≡ c → ⊥) → IsAble c s → IsAble c (act_of p ts gaps stages x ready s)
  able-kept c x ready s other able = record {
    has = omega (arith, able.has, act-other x c ready s other, grows c);
    due = λ source.
        let away : x ≡ 0 → ⊥ = λ at. other (at ∙ sym source) in
        let gap : gap_of p ts gaps (beyond 0 (act_of p ts gaps stages x ready s).numbers) ≡ gap_of p ts gaps (beyond 0 s.numbers) = ap (gap_of p ts gaps) (act-other x 0 ready s away) in
        omega (arith, able.due source, gap, act-start x ready s away);
    room = λ less.
        omega (arith, able.room less, act-other x c ready s other, act-least x (suc c) ready s, beyond-split c s.numbers, beyond-split c (act_of p ts gaps stages x ready s).numbers);
  }
    where
      grows : (i : ℕ) → reached i s.numbers ≤ reached i (act_of p ts gaps stages x ready s).numbers
      grows zero = omega (arith, act-long x ready s)
      grows (suc j) = act-least x j ready s

  -- in a cycle it moves one on
  pub able-acts : (c : ℕ) (order : List ℕ) (s : ChainState) → 0 < how_many c order → AreBelow (suc (length stages)) order → IsSound ts stages s.numbers → HaveRoom stages → IsAble c s →
      beyond c s.numbers < beyond c (acts_of p ts gaps stages order true s).numbers
  able-acts c [] s some are sound wide able = absurd (omega (arith, some))
  able-acts c (x ∷ order) s some are sound wide able =
      by_order (λ other. able-acts c order (act_of p ts gaps stages x true s) (omega (arith, some, many-same c x order other)) are.1 (act-sound p ts gaps stages s sound x true (omega (arith, are.0))) wide (able-kept c x true s other able)) (compared x c)
    where
      later : (x ≡ c → ⊥) → ((x ≡ c → ⊥) → beyond c (act_of p ts gaps stages x true s).numbers < beyond c (acts_of p ts gaps stages order true (act_of p ts gaps stages x true s)).numbers) →
          beyond c s.numbers < beyond c (acts_of p ts gaps stages order true (act_of p ts gaps stages x true s)).numbers
      later other rest = omega (arith, rest other, act-other x c true s other)

      by_order : ((x ≡ c → ⊥) → beyond c (act_of p ts gaps stages x true s).numbers < beyond c (acts_of p ts gaps stages order true (act_of p ts gaps stages x true s)).numbers) → Compared x c →
          beyond c s.numbers < beyond c (acts_of p ts gaps stages order true (act_of p ts gaps stages x true s)).numbers
      by_order rest (below less) = later (λ is. omega (arith, is, less)) rest
      by_order rest (above more) = later (λ is. omega (arith, is, more)) rest
      by_order rest (same is) =
          subst (λ (n : ℕ). beyond c s.numbers < beyond c (acts_of p ts gaps stages order true (act_of p ts gaps stages n true s)).numbers) (sym is)
          (omega (arith, able-moves c s sound wide able, acts-least order true (act_of p ts gaps stages c true s) c))

  -- ---- the source in a cycle

  -- it has sent nothing, or one transfer that was due
  pub record IsKept (before after : ChainState) : Type 0 where
    pub sent : beyond 0 after.numbers ≡ beyond 0 before.numbers
    pub start : after.start ≡ before.start

  pub record IsSent (before after : ChainState) : Type 0 where
    pub sent : beyond 0 after.numbers ≡ suc (beyond 0 before.numbers)
    pub start : after.start ≡ suc before.cycle
    pub due : due_at before ≤ before.cycle
    pub some : beyond 0 before.numbers < length before.numbers

  source-still : (ready : Bool) (s : ChainState) → does_move p ts gaps stages 0 ready s ≡ false → IsKept s (act_of p ts gaps stages 0 ready s)
  source-still ready s still = record {
    sent = ap (λ (b : Bool). beyond 0 (if b then moved_on 0 s.numbers else s.numbers)) still;
    start = ap (λ (b : Bool). if b then suc s.cycle else s.start) still;
  }

  early-still : (ready : Bool) (s : ChainState) → s.cycle < due_at s → does_move p ts gaps stages 0 ready s ≡ false
  early-still ready s early = ap (λ (b : Bool). is_some (if b then first_of 0 ts s.numbers else None) && has_room stages 0 ready s) (le_no (due_at s) s.cycle early)

  kept-before : (before mid after : ChainState) → IsKept before mid → IsKept mid after → IsKept before after
  kept-before before mid after a b = record { sent = b.sent ∙ a.sent; start = b.start ∙ a.start }

  other-kept : (x : ℕ) (ready : Bool) (s : ChainState) → (x ≡ 0 → ⊥) → IsKept s (act_of p ts gaps stages x ready s)
  other-kept x ready s other = record { sent = act-other x 0 ready s other; start = act-start x ready s other }

  early-kept : (before after : ChainState) → IsKept before after → after.cycle ≡ before.cycle → before.cycle < due_at before → after.cycle < due_at after
  early-kept before after k cycle early = omega (arith, early, k.start, cycle, ap (gap_of p ts gaps) k.sent)

  -- before it is due it sends nothing
  pub early-acts : (order : List ℕ) (ready : Bool) (s : ChainState) → s.cycle < due_at s → IsKept s (acts_of p ts gaps stages order ready s)
  early-acts [] ready s early = record { sent = refl; start = refl }
  early-acts (x ∷ order) ready s early =
      let one : IsKept s (act_of p ts gaps stages x ready s) = by_first x (cases_lt 0 x) in
      kept-before s (act_of p ts gaps stages x ready s) (acts_of p ts gaps stages order ready (act_of p ts gaps stages x ready s)) one
      (early-acts order ready (act_of p ts gaps stages x ready s) (early-kept s (act_of p ts gaps stages x ready s) one refl early))
    where
      by_first : (y : ℕ) → (0 < y) ⊎ (y ≤ 0) → IsKept s (act_of p ts gaps stages y ready s)
      by_first zero first = source-still ready s (early-still ready s early)
      by_first (suc y) first = other-kept (suc y) ready s (λ is. omega (arith, is))

  pub source-acts : (order : List ℕ) (ready : Bool) (s : ChainState) → AreBelow (suc (length stages)) order → IsSound ts stages s.numbers → IsKept s (acts_of p ts gaps stages order ready s) ⊎ IsSent s (acts_of p ts gaps stages order ready s)
  source-acts [] ready s are sound = inl (record { sent = refl; start = refl })
  source-acts (x ∷ order) ready s are sound = by_first x refl (source-acts order ready (act_of p ts gaps stages x ready s) are.1 (act-sound p ts gaps stages s sound x ready (omega (arith, are.0))))
    where
      later : (y : ℕ) → IsKept s (act_of p ts gaps stages y ready s) → IsKept (act_of p ts gaps stages y ready s) (acts_of p ts gaps stages order ready (act_of p ts gaps stages y ready s)) ⊎ IsSent (act_of p ts gaps stages y ready s) (acts_of p ts gaps stages order ready (act_of p ts gaps stages y ready s)) →
          IsKept s (acts_of p ts gaps stages order ready (act_of p ts gaps stages y ready s)) ⊎ IsSent s (acts_of p ts gaps stages order ready (act_of p ts gaps stages y ready s))
      later y one (inl kept) = inl (kept-before s (act_of p ts gaps stages y ready s) (acts_of p ts gaps stages order ready (act_of p ts gaps stages y ready s)) one kept)
      later y one (inr more) = inr (record {
        sent = more.sent ∙ ap suc one.sent;
        start = more.start;
        due = omega (arith, more.due, one.start, ap (gap_of p ts gaps) one.sent);
        some = omega (arith, more.some, one.sent, act-long y ready s);
      })

      moved : does_move p ts gaps stages 0 ready s ≡ true → IsSent s (acts_of p ts gaps stages order ready (act_of p ts gaps stages 0 ready s))
      moved moves =
          let there : beyond 0 s.numbers < length s.numbers = moves-there p ts gaps stages s sound 0 ready moves in
          let numbers : beyond 0 (act_of p ts gaps stages 0 ready s).numbers ≡ suc (beyond 0 s.numbers) =
          ap (λ (b : Bool). beyond 0 (if b then moved_on 0 s.numbers else s.numbers)) moves ∙ beyond-moved (suc (length stages)) 0 s.numbers sound.falling there in
          let start : (act_of p ts gaps stages 0 ready s).start ≡ suc s.cycle = ap (λ (b : Bool). if b then suc s.cycle else s.start) moves in
          let rest : IsKept (act_of p ts gaps stages 0 ready s) (acts_of p ts gaps stages order ready (act_of p ts gaps stages 0 ready s)) = early-acts order ready (act_of p ts gaps stages 0 ready s) (omega (arith, start)) in
          record {
            sent = rest.sent ∙ numbers;
            start = rest.start ∙ start;
            due = by_due (cases_lt s.cycle (due_at s));
            some = there;
          }
        where
          by_due : (s.cycle < due_at s) ⊎ (due_at s ≤ s.cycle) → due_at s ≤ s.cycle
          by_due (inr due) = due
          by_due (inl early) = let clash : false ≡ true = sym (early-still ready s early) ∙ moves in cc

      by_first : (y : ℕ) → x ≡ y → IsKept (act_of p ts gaps stages y ready s) (acts_of p ts gaps stages order ready (act_of p ts gaps stages y ready s)) ⊎ IsSent (act_of p ts gaps stages y ready s) (acts_of p ts gaps stages order ready (act_of p ts gaps stages y ready s)) →
          IsKept s (acts_of p ts gaps stages order ready (act_of p ts gaps stages y ready s)) ⊎ IsSent s (acts_of p ts gaps stages order ready (act_of p ts gaps stages y ready s))
      by_first (suc y) is rest = later (suc y) (other-kept (suc y) ready s (λ at. omega (arith, at))) rest
      by_first zero is rest = by_move (does_move p ts gaps stages 0 ready s) refl rest
        where
          by_move : (b : Bool) → does_move p ts gaps stages 0 ready s ≡ b → IsKept (act_of p ts gaps stages 0 ready s) (acts_of p ts gaps stages order ready (act_of p ts gaps stages 0 ready s)) ⊎ IsSent (act_of p ts gaps stages 0 ready s) (acts_of p ts gaps stages order ready (act_of p ts gaps stages 0 ready s)) →
              IsKept s (acts_of p ts gaps stages order ready (act_of p ts gaps stages 0 ready s)) ⊎ IsSent s (acts_of p ts gaps stages order ready (act_of p ts gaps stages 0 ready s))
          by_move true moves more = inr (moved moves)
          by_move false still more = later 0 (source-still ready s still) more
