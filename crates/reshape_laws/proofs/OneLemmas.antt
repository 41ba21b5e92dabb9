-- The reshaping run is one pair of lists, each cycle of which is said by those before it.
use Rattle.std.proofs.Common.{◌≡◌, ◌∙◌, ℕ, ◌<◌, ◌≤◌, ◌⊎◌, inl, inr, Bool, not, List, [], ◌∷◌, ◌++◌, length, map, take, slice_get, Option, Some, refl, sym, ap, subst, append_assoc, arith}
use Rattle.std.proofs.lemmas.List.{append-nil, length-append, take_all}
use Rattle.std.proofs.lemmas.Option.{slice_get_within}
use Rattle.std.proofs.Math.Seq.{take-append_seam}
use Rattle.std.proofs.lemmas.Bool.{cases_lt}
use Rattle.tydi_base.proofs.PlaceLemmas.{slice_get-front, slice_get-next, take-front}
use Rattle.physical_stream.specs.Params.{Parameters}
use Rattle.physical_stream.specs.Cycles.{Cycle}
use Rattle.physical_stream.specs.declared.transfer.Transfer.{Transfer}
use Rattle.steady_run.proofs.GrowLemmas.{get-seam}
use Rattle.reshape.specs.Reshaping.{IsReshaping, Sides, buffer_of, far_cycle, has_ended, is_due_after, next_sides, offered, sides_before, sides_of, sides_on}
use Rattle.reshape_laws.specs.Laws.{OneReshapingIs}
use Rattle.reshape_laws.proofs.SideLemmas.{far-bits, sides-keep}

module _ (from to : Parameters) (ts : List Transfer) (gaps : List ℕ) where
  -- each cycle of both sides is the one by those before it
  record IsSaid (sides : Sides) : Type 0 where
    pub many : length sides.near ≡ length sides.far
    pub near : (number : ℕ) (bit : Bool) → slice_get sides.near number ≡ Some bit → bit ≡ not (is_due_after from to ts gaps (sides_before from to ts gaps sides number))
    pub shown : (number : ℕ) (now : Cycle) → slice_get sides.far number ≡ Some now →
        now.shown ≡ offered to (has_ended from to ts gaps (sides_before from to ts gaps sides number)) (buffer_of from to ts gaps (sides_before from to ts gaps sides number))

  said-none : IsSaid (record { near = []; far = [] })
  said-none = record {
    many = refl;
    near = λ number bit is. absurd (let e = slice_get_within [] number bit is in omega (arith, e));
    shown = λ number now is. absurd (let e = slice_get_within [] number now is in omega (arith, e));
  }

  both : (near other : List Bool) (far more : List Cycle) → near ≡ other → far ≡ more → ◌≡◌ {A = Sides} (record { near = near; far = far }) (record { near = other; far = more })
  both near other far more one two = ap (λ (l : List Bool). record { near = l; far = far }) one ∙ ap (λ (l : List Cycle). record { near = other; far = l }) two

  module _ (sides : Sides) (bit : Bool) (said : IsSaid sides) where
    -- the cycles before one of those before the last
    before-same : (number : ℕ) → number ≤ length sides.near → sides_before from to ts gaps (next_sides from to ts gaps sides bit) number ≡ sides_before from to ts gaps sides number
    before-same number few =
        both (take number (sides.near ++ not (is_due_after from to ts gaps sides) ∷ [])) (take number sides.near) (take number (sides.far ++ far_cycle from to ts gaps sides bit ∷ [])) (take number sides.far)
        (take-front sides.near (not (is_due_after from to ts gaps sides)) number few) (take-front sides.far (far_cycle from to ts gaps sides bit) number (omega (arith, few, said.many)))

    before-last : (number : ℕ) → number ≡ length sides.near → sides_before from to ts gaps (next_sides from to ts gaps sides bit) number ≡ sides
    before-last number last =
        before-same number (omega (arith, last))
        ∙ both (take number sides.near) sides.near (take number sides.far) sides.far (take_all number sides.near (omega (arith, last))) (take_all number sides.far (omega (arith, last, said.many)))

    said-next : IsSaid (next_sides from to ts gaps sides bit)
    said-next = record {
      many = omega (arith, said.many, length-append sides.near (not (is_due_after from to ts gaps sides) ∷ []), length-append sides.far (far_cycle from to ts gaps sides bit ∷ []));
      near = λ number one is. near-at number one (place sides.near (not (is_due_after from to ts gaps sides)) number one is);
      shown = λ number now is. shown-at number now (place sides.far (far_cycle from to ts gaps sides bit) number now is);
    }
      where
        place : {A : Type 0} (before : List A) (last : A) (number : ℕ) (now : A) → slice_get (before ++ last ∷ []) number ≡ Some now → ((number < length before) × (slice_get before number ≡ Some now)) ⊎ ((number ≡ length before) × (now ≡ last))
        place before last number now is = by_place (cases_lt number (length before))
          where
            by_place : (number < length before) ⊎ (length before ≤ number) → ((number < length before) × (slice_get before number ≡ Some now)) ⊎ ((number ≡ length before) × (now ≡ last))
            by_place (inl less) = inl (less, sym (slice_get-front before (last ∷ []) number less) ∙ is)
            by_place (inr more) =
                let within = slice_get_within (before ++ last ∷ []) number now is in
                let at : number ≡ length before = omega (arith, within, more, length-append before (last ∷ [])) in
                inr (at, let e = sym is ∙ slice_get-next before last number at in cc)

        near-at : (number : ℕ) (one : Bool) → ((number < length sides.near) × (slice_get sides.near number ≡ Some one)) ⊎ ((number ≡ length sides.near) × (one ≡ not (is_due_after from to ts gaps sides)))
            → one ≡ not (is_due_after from to ts gaps (sides_before from to ts gaps (next_sides from to ts gaps sides bit) number))
        near-at number one (inl earlier) = said.near number one earlier.1 ∙ ap (λ (s : Sides). not (is_due_after from to ts gaps s)) (sym (before-same number (omega (arith, earlier.0))))
        near-at number one (inr last) = last.1 ∙ ap (λ (s : Sides). not (is_due_after from to ts gaps s)) (sym (before-last number last.0))

        shown-at : (number : ℕ) (now : Cycle) → ((number < length sides.far) × (slice_get sides.far number ≡ Some now)) ⊎ ((number ≡ length sides.far) × (now ≡ far_cycle from to ts gaps sides bit))
            → now.shown ≡ offered to (has_ended from to ts gaps (sides_before from to ts gaps (next_sides from to ts gaps sides bit) number)) (buffer_of from to ts gaps (sides_before from to ts gaps (next_sides from to ts gaps sides bit) number))
        shown-at number now (inl earlier) =
            said.shown number now earlier.1
            ∙ ap (λ (s : Sides). offered to (has_ended from to ts gaps s) (buffer_of from to ts gaps s)) (sym (before-same number (omega (arith, earlier.0, said.many))))
        shown-at number now (inr last) =
            ap (λ (c : Cycle). c.shown) last.1
            ∙ ap (λ (s : Sides). offered to (has_ended from to ts gaps s) (buffer_of from to ts gaps s)) (sym (before-last number (omega (arith, last.0, said.many))))

  said-run : (ready : List Bool) → IsSaid (sides_of from to ts gaps ready)
  said-run ready = sides-keep from to ts gaps IsSaid said-next (record { near = []; far = [] }) ready said-none

  pub run-is : (ready : List Bool) → IsReshaping from to ts gaps ready (sides_of from to ts gaps ready)
  run-is ready =
      let said = said-run ready in
      record { bits = far-bits from to ts gaps (record { near = []; far = [] }) ready; many = said.many; near = said.near; shown = said.shown }

  -- ---- no other pair is

  joined-before : (near rest : List Bool) (far more : List Cycle) → length near ≡ length far → sides_before from to ts gaps (record { near = near ++ rest; far = far ++ more }) (length near) ≡ record { near = near; far = far }
  joined-before near rest far more many =
      both (take (length near) (near ++ rest)) near (take (length near) (far ++ more)) far (take-append_seam near rest)
      (ap (λ n. take n (far ++ more)) many ∙ take-append_seam far more)

  sides-from : (near rest : List Bool) (far more : List Cycle) → length near ≡ length far → length rest ≡ length more → IsSaid (record { near = near ++ rest; far = far ++ more }) →
      ◌≡◌ {A = Sides} (record { near = near ++ rest; far = far ++ more }) (sides_on from to ts gaps (record { near = near; far = far }) (map (λ (c : Cycle). c.ready) more))
  sides-from near [] far [] many same said = both (near ++ []) near (far ++ []) far (append-nil near) (append-nil far)
  sides-from near [] far (c ∷ more) many same said = absurd (omega (arith, same))
  sides-from near (bit ∷ rest) far [] many same said = absurd (omega (arith, same))
  sides-from near (bit ∷ rest) far (c ∷ more) many same said =
      let here = joined-before near (bit ∷ rest) far (c ∷ more) many in
      let bit_is : bit ≡ not (is_due_after from to ts gaps (record { near = near; far = far })) =
      said.near (length near) bit (get-seam near bit rest) ∙ ap (λ (s : Sides). not (is_due_after from to ts gaps s)) here in
      let shown_is : c.shown ≡ (far_cycle from to ts gaps (record { near = near; far = far }) c.ready).shown =
      said.shown (length near) c (ap (slice_get (far ++ c ∷ more)) many ∙ get-seam far c more) ∙ ap (λ (s : Sides). offered to (has_ended from to ts gaps s) (buffer_of from to ts gaps s)) here in
      let cycle_is : c ≡ far_cycle from to ts gaps (record { near = near; far = far }) c.ready = ap (λ (shown : Option Transfer). record { ready = c.ready; shown = shown }) shown_is in
      let moved : ◌≡◌ {A = Sides} (record { near = near ++ bit ∷ rest; far = far ++ c ∷ more }) (record { near = (near ++ bit ∷ []) ++ rest; far = (far ++ c ∷ []) ++ more }) =
      both (near ++ bit ∷ rest) ((near ++ bit ∷ []) ++ rest) (far ++ c ∷ more) ((far ++ c ∷ []) ++ more) (sym (append_assoc near (bit ∷ []) rest)) (sym (append_assoc far (c ∷ []) more)) in
      moved
      ∙ sides-from (near ++ bit ∷ []) rest (far ++ c ∷ []) more (omega (arith, many, length-append near (bit ∷ []), length-append far (c ∷ []))) (omega (arith, same)) (subst IsSaid moved said)
      ∙ ap (λ (s : Sides). sides_on from to ts gaps s (map (λ (x : Cycle). x.ready) more))
      (both (near ++ bit ∷ []) (near ++ not (is_due_after from to ts gaps (record { near = near; far = far })) ∷ []) (far ++ c ∷ []) (far ++ far_cycle from to ts gaps (record { near = near; far = far }) c.ready ∷ [])
      (ap (λ b. near ++ b ∷ []) bit_is) (ap (λ (x : Cycle). far ++ x ∷ []) cycle_is))

  pub run-once : (ready : List Bool) (sides : Sides) → IsReshaping from to ts gaps ready sides → sides ≡ sides_of from to ts gaps ready
  run-once ready sides is =
      sides-from [] sides.near [] sides.far refl is.many (record { many = is.many; near = is.near; shown = is.shown })
      ∙ ap (sides_on from to ts gaps (record { near = []; far = [] })) is.bits

pub one_reshaping_is : OneReshapingIs
one_reshaping_is from to ts gaps ready = (run-is from to ts gaps ready, run-once from to ts gaps ready)
