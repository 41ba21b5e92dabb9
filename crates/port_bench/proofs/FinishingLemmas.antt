-- The loop that looks for the first run that leaves transfers.
use Rattle.std.proofs.Common.{◌≡◌, ◌∙◌, ℕ, zero, suc, ◌+◌, ◌<◌, ◌≤◌, ◌⊎◌, inl, inr, Bool, List, [], ◌∷◌, length, get_or, slice_get, None, Some, refl, sym, ap, subst, arith}
use Rattle.std.proofs.Math.ListN.{set}
use Rattle.std.proofs.lemmas.List.{length-set}
use Rattle.std.proofs.lemmas.Option.{slice_get_within}
use Rattle.tydi_base.proofs.PlaceLemmas.{same_or_other, slice_get-set_other, slice_get-set_same}
use Rattle.physical_stream.specs.declared.transfer.Transfer.{Transfer}
use Rattle.handshake.specs.Ports.{runs_in}
use Rattle.handshake.specs.Rows.{undone_in}
use Rattle.handshake.specs.Run.{undone}
use Rattle.handshake.specs.Standing.{StandsFor}
use Rattle.handshake.specs.Turns.{AreRewound, KeepRun, KeepRuns}
use Rattle.handshake.specs.declared.cursor.Cursor.{Cursor}
use Rattle.handshake.specs.declared.feed.TransferFeed.{Ghosts}
use Rattle.port_drive.specs.Drives.{NotFinished}
use Rattle.port_drive.specs.Finishing.{unfinished_from}
use Rattle.port_drive.proofs.FinishLemmas.{IsUnfinishedFrom, unfinished-here, unfinished-next, unfinished-none}

same_some : {A : Type 0} {x y : A} → Some x ≡ Some y → x ≡ y
same_some is = cc

pub keep-one : {F : Type 0} {T : Ghosts F} (whole : F → List Transfer) (c : Cursor F T) → KeepRun whole c c
keep-one whole c = record { params = refl; gaps = refl; all = refl }

pub keep-same : {F : Type 0} {T : Ghosts F} (whole : F → List Transfer) (cursors : List (Cursor F T)) → KeepRuns whole cursors cursors
keep-same whole cursors = record { many = refl; each = λ i before after is here. subst (KeepRun whole before) (same_some (sym is ∙ here)) (keep-one whole before) }

module _ {F : Type 0} {T : Ghosts F} (rest whole : F → List Transfer) where
  pub undone-many : (cursors : List (Cursor F T)) (ready : List (List Bool)) → length cursors ≡ length ready → length (undone_in (runs_in rest whole cursors ready)) ≡ length cursors
  undone-many [] ready same = refl
  undone-many (c ∷ cursors) [] same = absurd (omega (arith, same))
  undone-many (c ∷ cursors) (bits ∷ ready) same = ap suc (undone-many cursors ready (omega (arith, same)))

  pub undone-there : (cursors : List (Cursor F T)) (ready : List (List Bool)) (i : ℕ) (c : Cursor F T) (bits : List Bool) → slice_get cursors i ≡ Some c → slice_get ready i ≡ Some bits
      → get_or (undone_in (runs_in rest whole cursors ready)) i 0 ≡ undone c.params (whole c.feed) c.gaps bits
  undone-there [] ready i c bits is here = cc
  undone-there (d ∷ cursors) [] zero c bits is here = cc
  undone-there (d ∷ cursors) [] (suc i) c bits is here = cc
  undone-there (d ∷ cursors) (b ∷ ready) zero c bits is here =
      let one : d ≡ c = cc in
      let two : b ≡ bits = cc in
      ap (λ (x : Cursor F T). undone x.params (whole x.feed) x.gaps b) one ∙ ap (undone c.params (whole c.feed) c.gaps) two
  undone-there (d ∷ cursors) (b ∷ ready) (suc i) c bits is here = undone-there cursors ready i c bits is here

  -- so many runs were looked at, and none of them leaves transfers
  pub record LooksOn (old new : List (Cursor F T)) (ready : List (List Bool)) (number : ℕ) : Type 0 where
    pub kept : KeepRuns whole old new
    pub later : (i : ℕ) → number ≤ i → slice_get new i ≡ slice_get old i
    pub before : IsUnfinishedFrom number (undone_in (runs_in rest whole old ready))

  module _ (old : List (Cursor F T)) (ready : List (List Bool)) (same : length old ≡ length ready) where
    pub looks-first : LooksOn old old ready 0
    looks-first = record { kept = keep-same whole old; later = λ i past. refl; before = refl }

    module _ (mid : List (Cursor F T)) (number : ℕ) (c new : Cursor F T) (bits : List Bool) (left : ℕ) (l : LooksOn old mid ready number) (there : slice_get mid number ≡ Some c) (here : slice_get ready number ≡ Some bits)
        (k : KeepRun whole c new) (is : left ≡ undone c.params (whole c.feed) c.gaps bits) where
      first : slice_get old number ≡ Some c
      first = sym (l.later number (omega arith)) ∙ there

      within : number < length (undone_in (runs_in rest whole old ready))
      within = omega (arith, slice_get_within old number c first, undone-many old ready same)

      left-is : left ≡ get_or (undone_in (runs_in rest whole old ready)) number 0
      left-is = is ∙ sym (undone-there old ready number c bits first here)

      is_new : (i : ℕ) (d : Cursor F T) → slice_get (set mid number new) i ≡ Some d → number ≡ i → new ≡ d
      is_new i d got eq = same_some (sym (slice_get-set_same mid number new (slice_get_within mid number c there)) ∙ ap (slice_get (set mid number new)) eq ∙ got)

      pub kept-more : KeepRuns whole old (set mid number new)
      kept-more = record { many = length-set mid number new ∙ l.kept.many; each = λ i before after was got. by i before after was got (same_or_other number i) }
        where
          by : (i : ℕ) (before after : Cursor F T) → slice_get old i ≡ Some before → slice_get (set mid number new) i ≡ Some after → (number ≡ i) ⊎ (number ≡ i → ⊥) → KeepRun whole before after
          by i before after was got (inl eq) =
              let one : KeepRun whole before c = l.kept.each i before c was (ap (slice_get mid) (sym eq) ∙ there) in
              subst (KeepRun whole before) (is_new i after got eq) (record { params = k.params ∙ one.params; gaps = k.gaps ∙ one.gaps; all = k.all ∙ one.all })
          by i before after was got (inr other) = l.kept.each i before after was (sym (slice_get-set_other mid number i new other) ∙ got)

      pub looks-more : left ≤ 0 → LooksOn old (set mid number new) ready (number + 1)
      looks-more none = record {
        kept = kept-more;
        later = λ i past. slice_get-set_other mid number i new (λ eq. absurd (omega (arith, past, eq))) ∙ l.later i (omega (arith, past));
        before = unfinished-next (undone_in (runs_in rest whole old ready)) number left within left-is l.before none;
      }

      pub finishes-here : 0 < left → unfinished_from 0 (undone_in (runs_in rest whole old ready)) ≡ Some (NotFinished number left)
      finishes-here some = unfinished-here (undone_in (runs_in rest whole old ready)) number left within left-is l.before some

    -- no run leaves transfers
    pub finishes-all : (mid : List (Cursor F T)) (number : ℕ) → LooksOn old mid ready number → length old ≤ number → unfinished_from 0 (undone_in (runs_in rest whole old ready)) ≡ None
    finishes-all mid number l over = unfinished-none (undone_in (runs_in rest whole old ready)) number (omega (arith, over, undone-many old ready same)) l.before

    -- the cursor that is looked at next was not looked at before
    pub stands-there : (mid : List (Cursor F T)) (number : ℕ) (c : Cursor F T) → LooksOn old mid ready number → slice_get mid number ≡ Some c → AreRewound whole rest old → StandsFor rest c (whole c.feed) []
    stands-there mid number c l there rewound = rewound.each number c (sym (l.later number (omega arith)) ∙ there)
