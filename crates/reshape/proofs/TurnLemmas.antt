-- The far side, cycle by cycle.
use Rattle.std.proofs.Common.{◌≡◌, ◌∙◌, ℕ, zero, suc, ◌+◌, ◌-◌, ◌<◌, ◌≤◌, Bool, true, false, ◌&&◌, if◌then◌else◌, List, [], ◌∷◌, ◌++◌, length, take, drop, slice_get, Option, None, Some, refl, sym, ap, subst, append_assoc, add-one, get_or, arith}
use Rattle.std.specs.List.{All}
use Rattle.std.specs.Option.{option_to_list}
use Rattle.std.proofs.Math.Seq.{drop-append_seam}
use Rattle.std.proofs.lemmas.List.{length-append, length-drop, length-take-le, take_all, take-append-drop}
use Rattle.physical_stream.specs.Params.{Parameters}
use Rattle.physical_stream.specs.Cycles.{Cycle, cycle_in, done_in, done_of}
use Rattle.physical_stream.specs.declared.row.Row.{Row}
use Rattle.physical_stream.specs.Counts.{transfers_of}
use Rattle.physical_stream.specs.Signals.{Fits}
use Rattle.physical_stream.specs.declared.transfer.Transfer.{Transfer}
use Rattle.handshake.specs.Rows.{FirstRow, rows_behind}
use Rattle.handshake.specs.Standing.{StandsFor}
use Rattle.handshake.specs.declared.cursor.Cursor.{Cursor}
use Rattle.handshake.specs.declared.feed.TransferFeed.{Ghosts}
use Rattle.handshake.proofs.CursorLemmas.{drop-is}
use Rattle.physical_stream.specs.Items.{items_of_all}
use Rattle.scheduler.specs.Planned.{plan_of}
use Rattle.reshape.specs.Reshaping.{Sides, far_cycle, far_of, has_ended, is_due, next_sides, offered, sides_of, sides_on, undone_far}
use Rattle.reshape.specs.Runs.{FirstTurn, IsAtOf}
use Rattle.reshape.specs.Standing.{buffer_in, from_of}
use Rattle.reshape.specs.declared.reshaper.Reshaper.{Reshaper}
use Rattle.reshape.specs.declared.turn.Turn.{Turn}
use Rattle.reshape.proofs.CrossLemmas.{far-cycle-is, sides-next, transfers_of-more}

-- a value of a run, by the four things that it is made of
pub same-run : {A : Type 0} (f : Parameters → Parameters → List Transfer → List ℕ → A) (p q to other : Parameters) (ts us : List Transfer) (gaps waits : List ℕ) → q ≡ p → other ≡ to → us ≡ ts → waits ≡ gaps → f q other us waits ≡ f p to ts gaps
same-run f p q to other ts us gaps waits params to_is all gaps_is =
    ap (λ (x : Parameters). f x other us waits) params ∙ ap (λ (x : Parameters). f p x us waits) to_is ∙ ap (λ (x : List Transfer). f p to x waits) all ∙ ap (f p to ts) gaps_is

-- the list without its first
pub behind-drop : (rows : List Cycle) (n : ℕ) → rows_behind (drop n rows) ≡ drop (n + 1) rows
behind-drop rows n = by_place rows n ∙ ap (λ (k : ℕ). drop k rows) (sym (add-one n))
  where
    by_place : (xs : List Cycle) (k : ℕ) → rows_behind (drop k xs) ≡ drop (suc k) xs
    by_place [] zero = refl
    by_place [] (suc k) = refl
    by_place (x ∷ xs) zero = refl
    by_place (x ∷ xs) (suc k) = by_place xs k

drop-long : (rows : List Cycle) (n : ℕ) → length rows ≤ n → drop n rows ≡ []
drop-long [] zero most = refl
drop-long [] (suc n) most = refl
drop-long (x ∷ rows) zero most = absurd (omega (arith, most))
drop-long (x ∷ rows) (suc n) most = drop-long rows n (omega (arith, most))

-- at most one transfer is done in a cycle
pub transfers-few : (cycles : List Cycle) → transfers_of cycles ≤ length cycles
transfers-few [] = omega arith
transfers-few (c ∷ cycles) = omega (arith, length-append (done_in c) (done_of cycles), transfers-few cycles, one c.ready c.shown)
  where
    one : (ready : Bool) (shown : Option Transfer) → length (if ready then option_to_list shown else []) ≤ 1
    one true None = omega arith
    one true (Some t) = omega arith
    one false shown = omega arith

module _ (from to : Parameters) (ts : List Transfer) (gaps : List ℕ) where
  -- the far cycles from some sides on
  far_rest : Sides → List Bool → List Cycle
  far_rest sides [] = []
  far_rest sides (bit ∷ bits) = far_cycle from to ts gaps sides bit ∷ far_rest (next_sides from to ts gaps sides bit) bits

  far-on : (sides : Sides) (bits : List Bool) → (sides_on from to ts gaps sides bits).far ≡ sides.far ++ far_rest sides bits
  unfolding far_rest
  far-on sides [] = sym (nothing sides.far)
    where
      nothing : (xs : List Cycle) → xs ++ [] ≡ xs
      nothing [] = refl
      nothing (x ∷ xs) = ap (λ (l : List Cycle). x ∷ l) (nothing xs)
  far-on sides (bit ∷ bits) = far-on (next_sides from to ts gaps sides bit) bits ∙ append_assoc sides.far (far_cycle from to ts gaps sides bit ∷ []) (far_rest (next_sides from to ts gaps sides bit) bits)

  far-long : (sides : Sides) (bits : List Bool) → length (sides_on from to ts gaps sides bits).far ≡ length sides.far + length bits
  far-long sides [] = omega arith
  far-long sides (bit ∷ bits) = omega (arith, far-long (next_sides from to ts gaps sides bit) bits, length-append sides.far (far_cycle from to ts gaps sides bit ∷ []))

  sides_on-parts : (sides : Sides) (one other : List Bool) → sides_on from to ts gaps sides (one ++ other) ≡ sides_on from to ts gaps (sides_on from to ts gaps sides one) other
  sides_on-parts sides [] other = refl
  sides_on-parts sides (bit ∷ one) other = sides_on-parts (next_sides from to ts gaps sides bit) one other

  pub far_of-long : (ready : List Bool) → length (far_of from to ts gaps ready) ≡ length ready
  far_of-long ready = far-long (record { near = []; far = [] }) ready ∙ omega arith

  -- after all cycles no row is left
  pub far-over : (ready : List Bool) (number : ℕ) → length ready ≤ number → drop number (far_of from to ts gaps ready) ≡ []
  far-over ready number most = drop-long (far_of from to ts gaps ready) number (omega (arith, most, far_of-long ready))

  -- the cycle of a number is the one that comes after those before it
  pub far-at : (ready : List Bool) (number : ℕ) (bit : Bool) → slice_get ready number ≡ Some bit → number ≤ length ready →
      (more : List Cycle) × (drop number (far_of from to ts gaps ready) ≡ far_cycle from to ts gaps (sides_of from to ts gaps (take number ready)) bit ∷ more)
  unfolding far_rest
  far-at ready number bit at within =
      let before = sides_of from to ts gaps (take number ready) in
      let long : length before.far ≡ number = far_of-long (take number ready) ∙ length-take-le number ready within in (
        far_rest (next_sides from to ts gaps (sides_of from to ts gaps (take number ready)) bit) (drop (number + 1) ready),
        ap (λ (bits : List Bool). drop number (far_of from to ts gaps bits)) (sym (take-append-drop number ready))
            ∙ ap (λ (s : Sides). drop number s.far) (sides_on-parts (record { near = []; far = [] }) (take number ready) (drop number ready))
            ∙ ap (drop number) (far-on (sides_of from to ts gaps (take number ready)) (drop number ready))
            ∙ ap (λ (n : ℕ). drop n ((sides_of from to ts gaps (take number ready)).far ++ far_rest (sides_of from to ts gaps (take number ready)) (drop number ready))) (sym long)
            ∙ drop-append_seam (sides_of from to ts gaps (take number ready)).far (far_rest (sides_of from to ts gaps (take number ready)) (drop number ready))
            ∙ ap (far_rest (sides_of from to ts gaps (take number ready))) (drop-is ready number bit at),
      )

  -- no turn is made where no row is left
  pub turn-none : (ready : List Bool) (number : ℕ) (shown : Transfer) → length ready ≤ number → FirstTurn (drop number (far_of from to ts gaps ready)) shown None
  turn-none ready number shown most = subst (λ (rows : List Cycle). FirstTurn rows shown None) (sym (far-over ready number most)) tt

  pub rows-none : (ready : List Bool) (number : ℕ) → length ready ≤ number → drop number (far_of from to ts gaps ready) ≡ rows_behind (drop number (far_of from to ts gaps ready))
  rows-none ready number most = far-over ready number most ∙ sym (ap rows_behind (far-over ready number most))

  module _ {F : Type 0} {T : Ghosts F} (rest : F → List Transfer) where
    -- before the first cycle
    pub at-start : (near : Cursor F T) (reshaper : Reshaper) (ready : List Bool) → from_of reshaper ≡ from → StandsFor rest near ts [] → buffer_in reshaper ≡ [] → IsAtOf rest from to ts gaps near reshaper ready 0
    at-start near reshaper ready from_is stands empty = record {
      within = omega arith;
      from = from_is;
      stands = stands;
      items = empty;
      due = ap (is_due to reshaper.ended) empty ∙ sym (ap (is_due to (has_ended from to ts gaps (record { near = []; far = [] }))) empty);
    }

    module _ (near : Cursor F T) (reshaper : Reshaper) (ready : List Bool) (number : ℕ) (at : IsAtOf rest from to ts gaps near reshaper ready number) (shows bit : Bool) (here : slice_get ready number ≡ Some bit) (shown : Transfer)
        (offered_is : offered to reshaper.ended (buffer_in reshaper) ≡ (if shows then Some shown else None)) where
      cycle-is : far_cycle from to ts gaps (sides_of from to ts gaps (take number ready)) bit ≡ record { ready = bit; shown = if shows then Some shown else None }
      cycle-is =
          far-cycle-is from to ts gaps (sides_of from to ts gaps (take number ready)) reshaper.ended (buffer_in reshaper) at.items at.due bit ∙ ap (λ (o : Option Transfer). let c : Cycle = record { ready = bit; shown = o } in c) offered_is

      pub turn-some : FirstTurn (drop number (far_of from to ts gaps ready)) shown (Some (record { ready = bit; shows = shows }))
      turn-some =
          let rows = far-at ready number bit here at.within in
          subst (λ (l : List Cycle). FirstTurn l shown (Some (record { ready = bit; shows = shows }))) (sym rows.1) cycle-is

      -- the transfers that are done with this cycle
      pub count-next : (done now : ℕ) → done ≡ transfers_of (sides_of from to ts gaps (take number ready)).far → now ≡ (if shows && bit then 1 else 0) → done + now ≡ transfers_of (sides_of from to ts gaps (take (number + 1) ready)).far
      count-next done now done_is now_is =
          let one : transfers_of ((record { ready = bit; shown = if shows then Some shown else None }) ∷ []) ≡ now = one_for shows bit ∙ sym now_is in
          sym (
          ap (λ (s : Sides). transfers_of s.far) (sides-next from to ts gaps ready number bit here)
          ∙ transfers_of-more (sides_of from to ts gaps (take number ready)).far (far_cycle from to ts gaps (sides_of from to ts gaps (take number ready)) bit)
          ∙ ap (λ (c : Cycle). transfers_of (sides_of from to ts gaps (take number ready)).far + transfers_of (c ∷ [])) cycle-is
          ∙ omega (arith, one, done_is)
          )
        where
          one_for : (s b : Bool) → length ((if b then option_to_list (if s then Some shown else None) else []) ++ []) ≡ (if s && b then 1 else 0)
          one_for true true = refl
          one_for true false = refl
          one_for false true = refl
          one_for false false = refl

  -- the transfers that are left once no row is
  pub left-over : (ready : List Bool) (number : ℕ) → number ≤ length ready → drop number (far_of from to ts gaps ready) ≡ [] → (done planned : ℕ) → done ≡ transfers_of (sides_of from to ts gaps (take number ready)).far →
      planned ≡ length (plan_of to [] [] (items_of_all from ts)) → planned - done ≡ undone_far from to ts gaps ready
  left-over ready number within over done planned done_is planned_is =
      let most : length ready ≤ number = omega (arith, ap length over, length-drop number (far_of from to ts gaps ready), far_of-long ready) in
      let all : done ≡ transfers_of (far_of from to ts gaps ready) = done_is ∙ ap (λ (bits : List Bool). transfers_of (far_of from to ts gaps bits)) (take_all number ready most) in
      ap (λ (n : ℕ). n - done) planned_is ∙ ap (λ (n : ℕ). length (plan_of to [] [] (items_of_all from ts)) - n) all

  -- no more transfers than cycles
  pub count-few : (ready : List Bool) (number : ℕ) → number ≤ length ready → transfers_of (sides_of from to ts gaps (take number ready)).far ≤ number
  count-few ready number within =
      let long : length (sides_of from to ts gaps (take number ready)).far ≡ number = far_of-long (take number ready) ∙ length-take-le number ready within in
      omega (arith, long, transfers-few (sides_of from to ts gaps (take number ready)).far)

pub fits-kept : (p q : Parameters) (ts us : List Transfer) → All (Fits p) ts → q ≡ p → us ≡ ts → All (Fits q) us
fits-kept p q ts us fits params all = subst (λ (x : Parameters). All (Fits x) us) (sym params) (subst (All (Fits p)) (sym all) fits)

-- the one number of a list of one
pub one-number : (n stream : ℕ) (result : ℕ) → result ≡ n → stream < 1 → result ≡ get_or (n ∷ []) stream 0
one-number n zero result is less = is
one-number n (suc stream) result is less = absurd (omega (arith, less))

-- the row that is lent is the cycle that the turn makes
pub row-shows : (rows : List Cycle) (shown : Transfer) (turn : Turn) (row : Row) → turn.shows ≡ true → cycle_in row ≡ record { ready = turn.ready; shown = Some shown } → FirstTurn rows shown (Some turn) → FirstRow rows (Some row)
row-shows [] shown turn row shows is first = absurd first
row-shows (now ∷ rows) shown turn row shows is first = is ∙ sym (first ∙ ap (λ (b : Bool). let c : Cycle = record { ready = turn.ready; shown = if b then Some shown else None } in c) shows)
