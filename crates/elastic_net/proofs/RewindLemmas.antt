-- The loop that takes each chain of a port back to its start.
use Rattle.std.proofs.Common.{◌≡◌, ◌∙◌, ℕ, ◌+◌, ◌<◌, ◌≤◌, ◌⊎◌, inl, inr, List, length, slice_get, Some, refl, sym, ap, subst, arith}
use Rattle.std.proofs.Math.ListN.{set}
use Rattle.std.proofs.lemmas.List.{length-set}
use Rattle.std.proofs.lemmas.Option.{slice_get_within}
use Rattle.tydi_base.proofs.PlaceLemmas.{same_or_other, slice_get-set_other, slice_get-set_same}
use Rattle.physical_stream.specs.declared.transfer.Transfer.{Transfer}
use Rattle.handshake.specs.declared.feed.TransferFeed.{Ghosts}
use Rattle.elastic_net.specs.Ports.{AreFirst, KeepChains}
use Rattle.elastic_net.specs.Standing.{KeepChain, StandsFor}
use Rattle.elastic_net.specs.States.{first_state}
use Rattle.elastic_net.specs.declared.chain.Chain.{Chain}

same_some : {A : Type 0} {x y : A} → Some x ≡ Some y → x ≡ y
same_some is = cc

-- so many chains are at their start
pub record RewindsOn {F : Type 0} {T : Ghosts F} (rest whole : F → List Transfer) (old new : List (Chain F T)) (done : ℕ) : Type 0 where
  pub kept : KeepChains whole old new
  pub each : (i : ℕ) (c : Chain F T) → i < done → slice_get new i ≡ Some c → StandsFor rest c (whole c.feed) (first_state (whole c.feed))

module _ {F : Type 0} {T : Ghosts F} (rest whole : F → List Transfer) (old : List (Chain F T)) where
  pub rewinds-none : RewindsOn rest whole old old 0
  rewinds-none = record {
    kept = record { many = refl; each = λ i before after is here. let same : before ≡ after = same_some (sym is ∙ here) in subst (KeepChain whole before) same (record { params = refl; gaps = refl; stages = refl; all = refl }) };
    each = λ i c less there. absurd (omega (arith, less));
  }

  module _ (mid : List (Chain F T)) (done : ℕ) (c new : Chain F T) (r : RewindsOn rest whole old mid done) (there : slice_get mid done ≡ Some c) (k : KeepChain whole c new)
      (stands : StandsFor rest new (whole c.feed) (first_state (whole c.feed))) where
    pub rewinds-more : RewindsOn rest whole old (set mid done new) (done + 1)
    rewinds-more = record {
      kept = record { many = length-set mid done new ∙ r.kept.many; each = λ i before after is here. keep_at i before after is here (same_or_other done i) };
      each = λ i d less here. stand_at i d less here (same_or_other done i);
    }
      where
        within : done < length mid
        within = slice_get_within mid done c there

        is_new : (i : ℕ) (d : Chain F T) → slice_get (set mid done new) i ≡ Some d → done ≡ i → new ≡ d
        is_new i d here same = same_some (sym (slice_get-set_same mid done new within) ∙ ap (slice_get (set mid done new)) same ∙ here)

        keep_at : (i : ℕ) (before after : Chain F T) → slice_get old i ≡ Some before → slice_get (set mid done new) i ≡ Some after → (done ≡ i) ⊎ (done ≡ i → ⊥) → KeepChain whole before after
        keep_at i before after is here (inl same) =
            let first : KeepChain whole before c = r.kept.each i before c is (ap (slice_get mid) (sym same) ∙ there) in
            subst (KeepChain whole before) (is_new i after here same) (record { params = k.params ∙ first.params; gaps = k.gaps ∙ first.gaps; stages = k.stages ∙ first.stages; all = k.all ∙ first.all })
        keep_at i before after is here (inr other) = r.kept.each i before after is (sym (slice_get-set_other mid done i new other) ∙ here)

        stand_at : (i : ℕ) (d : Chain F T) → i < done + 1 → slice_get (set mid done new) i ≡ Some d → (done ≡ i) ⊎ (done ≡ i → ⊥) → StandsFor rest d (whole d.feed) (first_state (whole d.feed))
        stand_at i d less here (inl same) =
            subst (λ (x : Chain F T). StandsFor rest x (whole x.feed) (first_state (whole x.feed))) (is_new i d here same)
            (subst (λ (ts : List Transfer). StandsFor rest new ts (first_state ts)) (sym k.all) stands)
        stand_at i d less here (inr other) = r.each i d (omega (arith, less, other)) (sym (slice_get-set_other mid done i new other) ∙ here)

  pub rewinds-all : (new : List (Chain F T)) (done : ℕ) → RewindsOn rest whole old new done → length old ≤ done → AreFirst rest whole new
  rewinds-all new done r past = record { each = λ i c there. r.each i c (omega (arith, past, r.kept.many, slice_get_within new i c there)) there }
