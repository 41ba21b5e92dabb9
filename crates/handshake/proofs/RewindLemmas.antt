-- The loop that rewinds each cursor of a port.
use Rattle.std.proofs.Common.{◌≡◌, ◌∙◌, ℕ, ◌+◌, ◌<◌, ◌≤◌, ◌⊎◌, inl, inr, List, [], ◌++◌, length, take, drop, slice_get, Some, refl, sym, ap, subst, arith}
use Rattle.std.proofs.Math.ListN.{set}
use Rattle.std.proofs.Math.Seq.{take-append_seam}
use Rattle.std.proofs.lemmas.List.{length-set}
use Rattle.std.proofs.lemmas.Option.{slice_get_within}
use Rattle.tydi_base.proofs.PlaceLemmas.{same_or_other, slice_get-set_other, slice_get-set_same}
use Rattle.physical_stream.specs.declared.transfer.Transfer.{Transfer}
use Rattle.handshake.specs.Offers.{AreFirst, StandsFirst}
use Rattle.handshake.specs.Standing.{StandsFor}
use Rattle.handshake.specs.Turns.{AreRewound, KeepRun, KeepRuns}
use Rattle.handshake.specs.declared.cursor.Cursor.{Cursor}
use Rattle.handshake.specs.declared.feed.TransferFeed.{Ghosts}

same_some : {A : Type 0} {x y : A} → Some x ≡ Some y → x ≡ y
same_some is = cc

-- so many cursors are rewound
pub record RewindsOn {F : Type 0} {T : Ghosts F} (rest whole : F → List Transfer) (old new : List (Cursor F T)) (done : ℕ) : Type 0 where
  pub kept : KeepRuns whole old new
  pub each : (i : ℕ) (c : Cursor F T) → i < done → slice_get new i ≡ Some c → StandsFor rest c (whole c.feed) []
  pub first : (i : ℕ) (c : Cursor F T) → i < done → slice_get new i ≡ Some c → StandsFirst rest whole c

module _ {F : Type 0} {T : Ghosts F} (rest whole : F → List Transfer) (old : List (Cursor F T)) where
  pub rewinds-none : RewindsOn rest whole old old 0
  rewinds-none = record {
    kept = record { many = refl; each = λ i before after is here. let same : before ≡ after = same_some (sym is ∙ here) in subst (KeepRun whole before) same (record { params = refl; gaps = refl; all = refl }) };
    each = λ i c less there. absurd (omega (arith, less));
    first = λ i c less there. absurd (omega (arith, less));
  }

  module _ (mid : List (Cursor F T)) (done : ℕ) (c new : Cursor F T) (r : RewindsOn rest whole old mid done) (there : slice_get mid done ≡ Some c) (k : KeepRun whole c new) (stands : StandsFor rest new (whole c.feed) [])
      (fresh : StandsFirst rest whole new) where
    pub rewinds-more : RewindsOn rest whole old (set mid done new) (done + 1)
    rewinds-more = record {
      kept = record { many = length-set mid done new ∙ r.kept.many; each = λ i before after is here. keep_at i before after is here (same_or_other done i) };
      each = λ i d less here. stand_at i d less here (same_or_other done i);
      first = λ i d less here. first_at i d less here (same_or_other done i);
    }
      where
        within : done < length mid
        within = slice_get_within mid done c there

        is_new : (i : ℕ) (d : Cursor F T) → slice_get (set mid done new) i ≡ Some d → done ≡ i → new ≡ d
        is_new i d here same = same_some (sym (slice_get-set_same mid done new within) ∙ ap (slice_get (set mid done new)) same ∙ here)

        keep_at : (i : ℕ) (before after : Cursor F T) → slice_get old i ≡ Some before → slice_get (set mid done new) i ≡ Some after → (done ≡ i) ⊎ (done ≡ i → ⊥) → KeepRun whole before after
        keep_at i before after is here (inl same) =
            let first : KeepRun whole before c = r.kept.each i before c is (ap (slice_get mid) (sym same) ∙ there) in
            subst (KeepRun whole before) (is_new i after here same) (record { params = k.params ∙ first.params; gaps = k.gaps ∙ first.gaps; all = k.all ∙ first.all })
        keep_at i before after is here (inr other) = r.kept.each i before after is (sym (slice_get-set_other mid done i new other) ∙ here)

        stand_at : (i : ℕ) (d : Cursor F T) → i < done + 1 → slice_get (set mid done new) i ≡ Some d → (done ≡ i) ⊎ (done ≡ i → ⊥) → StandsFor rest d (whole d.feed) []
        stand_at i d less here (inl same) =
            subst (λ (x : Cursor F T). StandsFor rest x (whole x.feed) []) (is_new i d here same) (subst (λ (ts : List Transfer). StandsFor rest new ts []) (sym k.all) stands)
        stand_at i d less here (inr other) = r.each i d (omega (arith, less, other)) (sym (slice_get-set_other mid done i new other) ∙ here)

        first_at : (i : ℕ) (d : Cursor F T) → i < done + 1 → slice_get (set mid done new) i ≡ Some d → (done ≡ i) ⊎ (done ≡ i → ⊥) → StandsFirst rest whole d
        first_at i d less here (inl same) = subst (StandsFirst rest whole) (is_new i d here same) fresh
        first_at i d less here (inr other) = r.first i d (omega (arith, less, other)) (sym (slice_get-set_other mid done i new other) ∙ here)

  pub firsts-all : (new : List (Cursor F T)) (done : ℕ) → RewindsOn rest whole old new done → length old ≤ done → AreFirst rest whole new
  firsts-all new done r past = λ i c there. r.first i c (omega (arith, past, r.kept.many, slice_get_within new i c there)) there

  pub rewinds-all : (new : List (Cursor F T)) (done : ℕ) → RewindsOn rest whole old new done → length old ≤ done → AreRewound whole rest new
  rewinds-all new done r past = record { each = λ i c there. r.each i c (omega (arith, past, r.kept.many, slice_get_within new i c there)) there }

-- the cursors that a slice gives back
pub given-back : {A : Type 0} (new old : List A) (len : ℕ) → length new ≡ len → take len (new ++ drop (length new) old) ≡ new
given-back new old len same = ap (λ (n : ℕ). take n (new ++ drop (length new) old)) (sym same) ∙ take-append_seam new (drop (length new) old)
