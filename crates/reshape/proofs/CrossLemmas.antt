-- One cycle of both sides.
use Rattle.std.proofs.Common.{◌≡◌, ◌∙◌, ◌⊎◌, inl, inr, ℕ, ◌+◌, ◌-◌, ◌<◌, ◌≤◌, Bool, true, false, not, ◌&&◌, ◌==◌, nat_le, if◌then◌else◌, List, [], ◌∷◌, ◌++◌, length, take, drop, slice_get, Option, None, Some, refl, sym, ap, subst, add-one, get_or, arith}
use Rattle.std.specs.List.{All}
use Rattle.std.specs.Option.{IfSome, option_to_list}
use Rattle.std.proofs.Math.Seq.{drop-append_seam}
use Rattle.std.proofs.lemmas.Bool.{cases_lt}
use Rattle.std.proofs.lemmas.Bool.Decides.{nat_tests}
use Rattle.std.proofs.lemmas.List.{length-append}
use Rattle.std.proofs.lemmas.Option.{slice_get-get_or, slice_get_within}
use Rattle.physical_stream.specs.Params.{Parameters}
use Rattle.physical_stream.specs.Cycles.{Cycle, done_in, done_of, items_done}
use Rattle.physical_stream.specs.Counts.{transfers_of}
use Rattle.physical_stream.specs.Items.{items_of_all}
use Rattle.physical_stream.specs.Signals.{Fits}
use Rattle.physical_stream.specs.declared.item.Item.{Item}
use Rattle.physical_stream.specs.declared.transfer.Transfer.{Transfer}
use Rattle.handshake.specs.Run.{gap_of, idle_of, next_cycle, run_of, shown_after, undone}
use Rattle.handshake.specs.Standing.{StandsFor}
use Rattle.handshake.specs.declared.cursor.Cursor.{Cursor}
use Rattle.handshake.specs.declared.feed.TransferFeed.{Ghosts}
use Rattle.handshake.proofs.FinishLemmas.{run_of-more}
use Rattle.handshake.proofs.RunLemmas.{done_of-more, take-next}
use Rattle.reshape.specs.Reshaping.{Sides, buffer_of, far_cycle, front_of, has_ended, is_due, is_due_after, near_cycles, next_sides, offered, sides_of, sides_on}
use Rattle.reshape.specs.Runs.{IsAt, IsAtOf}
use Rattle.reshape.specs.Standing.{buffer_in, from_of, to_of}
use Rattle.reshape.specs.declared.reshaper.Reshaper.{Reshaper}
use Rattle.reshape.proofs.ReshapeLemmas.{items_of_all-append}

-- ---- one cycle more

pub items_done-more : (p : Parameters) (cycles : List Cycle) (now : Cycle) → items_done p (cycles ++ now ∷ []) ≡ items_done p cycles ++ items_done p (now ∷ [])
items_done-more p cycles now =
    ap (items_of_all p) (done_of-more cycles now) ∙ items_of_all-append p (done_of cycles) (done_in now)
    ∙ ap (λ (ts : List Transfer). items_done p cycles ++ items_of_all p ts) (sym (done_of-more [] now))

pub transfers_of-more : (cycles : List Cycle) (now : Cycle) → transfers_of (cycles ++ now ∷ []) ≡ transfers_of cycles + transfers_of (now ∷ [])
transfers_of-more cycles now = ap length (done_of-more cycles now) ∙ length-append (done_of cycles) (done_in now) ∙ ap (λ (ts : List Transfer). transfers_of cycles + length ts) (sym (done_of-more [] now))

-- a transfer that is shown is one of the source's
shown-fits : (p : Parameters) (ts : List Transfer) (gaps : List ℕ) (before : List Cycle) (shown : Option Transfer) → shown ≡ shown_after p ts gaps before → All (Fits p) ts → IfSome shown (Fits p)
shown-fits p ts gaps before None is fits = tt
shown-fits p ts gaps before (Some x) is fits = by_test (nat_le (gap_of p ts gaps (transfers_of before)) (idle_of before)) is
  where
    by_test : (test : Bool) → Some x ≡ (if test then slice_get ts (transfers_of before) else None) → Fits p x
    by_test false e = cc
    by_test true e =
        let less = slice_get_within ts (transfers_of before) x (sym e) in
        let both : Some x ≡ Some (get_or ts (transfers_of before) x) = e ∙ slice_get-get_or ts (transfers_of before) x less in
        let same : x ≡ get_or ts (transfers_of before) x = cc in
        subst (Fits p) (sym same) (fits (transfers_of before) x less)

-- the same of the transfer in the next cycle of its run
pub next-fits : (p : Parameters) (ts : List Transfer) (gaps : List ℕ) (before : List Cycle) (bit : Bool) (now : Cycle) → now ≡ next_cycle p ts gaps before bit → All (Fits p) ts → IfSome now.shown (Fits p)
next-fits p ts gaps before bit now is fits = shown-fits p ts gaps before now.shown (ap (λ (c : Cycle). c.shown) is) fits

-- none is left exactly where those that were left are done in this cycle
ended-is : (all before now : ℕ) → nat_le (all - before) now ≡ (all - (before + now) == 0)
ended-is all before now = by_place (cases_lt now (all - before))
  where
    by_place : (now < all - before) ⊎ (all - before ≤ now) → nat_le (all - before) now ≡ (all - (before + now) == 0)
    by_place (inl less) =
        let one : nat_le (all - before) now ≡ false = grind (arith, nat_tests) in
        let some : all - (before + now) ≡ 0 → ⊥ = λ none. omega (arith, none, less) in
        let two : (all - (before + now) == 0) ≡ false = grind (arith, nat_tests) in
        one ∙ sym two
    by_place (inr most) =
        let one : nat_le (all - before) now ≡ true = grind (arith, nat_tests) in
        let none : all - (before + now) ≡ 0 = omega (arith, most) in
        let two : (all - (before + now) == 0) ≡ true = grind (arith, nat_tests) in
        one ∙ sym two

module _ (from to : Parameters) (ts : List Transfer) (gaps : List ℕ) where
  sides_on-more : (sides : Sides) (bits : List Bool) (bit : Bool) → sides_on from to ts gaps sides (bits ++ bit ∷ []) ≡ next_sides from to ts gaps (sides_on from to ts gaps sides bits) bit
  sides_on-more sides [] bit = refl
  sides_on-more sides (b ∷ bits) bit = sides_on-more (next_sides from to ts gaps sides b) bits bit

  -- the run goes on with the cycle of this number
  pub sides-next : (ready : List Bool) (number : ℕ) (bit : Bool) → slice_get ready number ≡ Some bit →
      sides_of from to ts gaps (take (number + 1) ready) ≡ next_sides from to ts gaps (sides_of from to ts gaps (take number ready)) bit
  sides-next ready number bit at =
      ap (λ (n : ℕ). sides_of from to ts gaps (take n ready)) (add-one number) ∙ ap (sides_of from to ts gaps) (take-next ready number bit at) ∙ sides_on-more (record { near = []; far = [] }) (take number ready) bit

  module _ (sides : Sides) (ended : Bool) (buffer : List Item) (items : items_done to sides.far ++ buffer ≡ items_done from (near_cycles from to ts gaps sides))
      (due : is_due to ended buffer ≡ is_due to (has_ended from to ts gaps sides) buffer) where
    pub buffer-is : buffer_of from to ts gaps sides ≡ buffer
    buffer-is = ap (drop (length (items_done to sides.far))) (sym items) ∙ drop-append_seam (items_done to sides.far) buffer

    pub due-after : is_due_after from to ts gaps sides ≡ is_due to ended buffer
    due-after = ap (is_due to (has_ended from to ts gaps sides)) buffer-is ∙ sym due

    offer-is : offered to (has_ended from to ts gaps sides) (buffer_of from to ts gaps sides) ≡ offered to ended buffer
    offer-is = ap (offered to (has_ended from to ts gaps sides)) buffer-is ∙ ap (λ (d : Bool). if d then Some (front_of to buffer) else None) (sym due)

    -- the cycle of the far side that comes
    pub far-cycle-is : (bit : Bool) → far_cycle from to ts gaps sides bit ≡ record { ready = bit; shown = offered to ended buffer }
    far-cycle-is bit = ap (λ (o : Option Transfer). let c : Cycle = record { ready = bit; shown = o } in c) offer-is

    module _ (shows bit : Bool) (shows_is : shows ≡ is_due to ended buffer) (given : Cycle) (given_is : given ≡ next_cycle from ts gaps (near_cycles from to ts gaps sides) (not shows)) where
      pub near-next : (next_sides from to ts gaps sides bit).near ≡ sides.near ++ not shows ∷ []
      near-next = ap (λ (d : Bool). sides.near ++ not d ∷ []) (due-after ∙ sym shows_is)

      near-cycles-next : near_cycles from to ts gaps (next_sides from to ts gaps sides bit) ≡ near_cycles from to ts gaps sides ++ given ∷ []
      near-cycles-next =
          ap (run_of from ts gaps) near-next ∙ run_of-more from ts gaps sides.near (not shows) ∙ ap (λ (c : Cycle). near_cycles from to ts gaps sides ++ c ∷ []) (sym given_is)

      gone-is : done_in (far_cycle from to ts gaps sides bit) ≡ done_in (record { ready = shows && bit; shown = offered to ended buffer })
      gone-is = ap done_in (far-cycle-is bit) ∙ by_due (is_due to ended buffer) bit ∙ ap (λ (d : Bool). done_in (record { ready = d && bit; shown = offered to ended buffer })) (sym shows_is)
        where
          by_due : (d b : Bool) → (if b then option_to_list (if d then Some (front_of to buffer) else None) else []) ≡ (if d && b then option_to_list (if d then Some (front_of to buffer) else None) else [])
          by_due true true = refl
          by_due true false = refl
          by_due false true = refl
          by_due false false = refl

      pub items-next : (next : List Item) →
          items_of_all to (done_of sides.far ++ done_in (record { ready = shows && bit; shown = offered to ended buffer })) ++ next ≡ items_done from (near_cycles from to ts gaps sides) ++ items_done from (given ∷ []) →
          items_done to (next_sides from to ts gaps sides bit).far ++ next ≡ items_done from (near_cycles from to ts gaps (next_sides from to ts gaps sides bit))
      items-next next stands =
          ap (λ (l : List Transfer). items_of_all to l ++ next) (done_of-more sides.far (far_cycle from to ts gaps sides bit) ∙ ap (λ (l : List Transfer). done_of sides.far ++ l) gone-is)
          ∙ stands ∙ sym (ap (items_done from) near-cycles-next ∙ items_done-more from (near_cycles from to ts gaps sides) given)

      pub ended-next : (left : ℕ) → left ≡ undone from ts gaps sides.near → nat_le left (transfers_of (given ∷ [])) ≡ has_ended from to ts gaps (next_sides from to ts gaps sides bit)
      ended-next left left_is =
          ap (λ (n : ℕ). nat_le n (transfers_of (given ∷ []))) left_is ∙ ended-is (length ts) (transfers_of (near_cycles from to ts gaps sides)) (transfers_of (given ∷ []))
          ∙ ap (λ (n : ℕ). length ts - n == 0) (sym (ap transfers_of near-cycles-next ∙ transfers_of-more (near_cycles from to ts gaps sides) given))

  -- ---- where a run stands

  module _ {F : Type 0} {T : Ghosts F} (rest : F → List Transfer) (ready : List Bool) (number : ℕ) (near new_near : Cursor F T) (reshaper new : Reshaper) (at : IsAtOf rest from to ts gaps near reshaper ready number) where
    sides : Sides
    sides = sides_of from to ts gaps (take number ready)

    pub at-next : (shows bit : Bool) → slice_get ready number ≡ Some bit → shows ≡ is_due to reshaper.ended (buffer_in reshaper) →
        (given : Cycle) → given ≡ next_cycle from ts gaps (near_cycles from to ts gaps (sides_of from to ts gaps (take number ready))) (not shows) → number < length ready → from_of new ≡ from_of reshaper →
        StandsFor rest new_near ts ((sides_of from to ts gaps (take number ready)).near ++ not shows ∷ []) →
        items_of_all to (done_of (sides_of from to ts gaps (take number ready)).far ++ done_in (record { ready = shows && bit; shown = offered to reshaper.ended (buffer_in reshaper) })) ++ buffer_in new
        ≡ items_done from (near_cycles from to ts gaps (sides_of from to ts gaps (take number ready))) ++ items_done from (given ∷ []) →
        (left : ℕ) → left ≡ undone from ts gaps (sides_of from to ts gaps (take number ready)).near → new.ended ≡ nat_le left (transfers_of (given ∷ [])) → IsAtOf rest from to ts gaps new_near new ready (number + 1)
    at-next shows bit here shows_is given given_is less from_is stands items left left_is ended_is =
        let s = sides_of from to ts gaps (take number ready) in
        let next = sides-next ready number bit here in
        record {
          within = omega (arith, less);
          from = from_is ∙ at.from;
          stands = subst (λ (bits : List Bool). StandsFor rest new_near ts bits) (sym (ap (λ (x : Sides). x.near) next ∙ near-next (sides_of from to ts gaps (take number ready)) reshaper.ended (buffer_in reshaper) at.items at.due shows bit shows_is given given_is)) stands;
          items = subst (λ (x : Sides). items_done to x.far ++ buffer_in new ≡ items_done from (near_cycles from to ts gaps x)) (sym next)
              (items-next (sides_of from to ts gaps (take number ready)) reshaper.ended (buffer_in reshaper) at.items at.due shows bit shows_is given given_is (buffer_in new) items);
          due = ap (λ (e : Bool). is_due to e (buffer_in new))
              (ended_is ∙ ended-next (sides_of from to ts gaps (take number ready)) reshaper.ended (buffer_in reshaper) at.items at.due shows bit shows_is given given_is left left_is ∙ ap (has_ended from to ts gaps) (sym next));
        }

-- the same, by what the near side and the reshaper are then
pub at-moved : {F : Type 0} {T : Ghosts F} (rest whole : F → List Transfer) (p to : Parameters) (ts : List Transfer) (gaps : List ℕ) (near : Cursor F T) (reshaper : Reshaper) (ready : List Bool) (number : ℕ) → near.params ≡ p → to_of reshaper ≡ to →
    whole near.feed ≡ ts → near.gaps ≡ gaps → IsAtOf rest p to ts gaps near reshaper ready number → IsAt rest whole near reshaper ready number
at-moved rest whole p to ts gaps near reshaper ready number params to_is all gaps_is at =
    subst (λ (q : Parameters). IsAtOf rest q (to_of reshaper) (whole near.feed) near.gaps near reshaper ready number) (sym params)
    (subst (λ (q : Parameters). IsAtOf rest p q (whole near.feed) near.gaps near reshaper ready number) (sym to_is)
    (subst (λ (l : List Transfer). IsAtOf rest p to l near.gaps near reshaper ready number) (sym all) (subst (λ (l : List ℕ). IsAtOf rest p to ts l near reshaper ready number) (sym gaps_is) at)))
