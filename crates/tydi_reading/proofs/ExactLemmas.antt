-- A rule that takes all: its faults are those that its form alone says.
use Rattle.std.proofs.Common.{◌≡◌, ℕ, zero, suc, ◌+◌, ◌<◌, ◌≤◌, ⊎_elim, List, [], ◌∷◌, ◌++◌, All, length, take, drop, refl, sym, ap, ◌∙◌, subst, arith, append_assoc}
use Rattle.std.proofs.lemmas.List.{append-nil, length-append, length-drop, take-append-drop}
use Rattle.std.proofs.lemmas.List.Elements.{All-append, All-cons, All-head}
use Rattle.std.proofs.Math.Nat.{lt_of_not-le}
use Rattle.std.proofs.Math.Seq.{take-append_seam}
use Rattle.tydi_reading.specs.declared.fault.Fault.{Fault}
use Rattle.tydi_reading.specs.declared.fault.Fault.TheVariants as faults
use Rattle.tydi_reading.specs.Faults.{AreFit, IsRefusedAt, IsUnfitAt, IsCutOff}
use Rattle.tydi_reading.specs.Forms.{Form, GoesOn}
use Rattle.tydi_reading.specs.Reading.{Outcome, took, stopped, Reader}
use Rattle.tydi_reading.proofs.StepLemmas.{All-front, All-back}
use Rattle.tydi_reading.specs.Rules.{Local, IsRule}

take-one : {T : Type 0} (front rest : List T) (t : T) → take (suc (length front)) (front ++ t ∷ rest) ≡ front ++ t ∷ []
take-one [] rest t = refl
take-one (x ∷ front) rest t = ap (λ l. x ∷ l) (take-one front rest t)

-- the front of a split is so many things
front-take : {T : Type 0} (ts front rest : List T) (k : ℕ) → ts ≡ front ++ rest → k + length rest ≡ length ts → take k ts ≡ front
front-take ts front rest k split count =
    let sum = ap length split ∙ length-append front rest in
    let same : k ≡ length front = omega arith in
    rw (same, split) (take-append_seam front rest)

module _ {E T A : Type 0} (Good : T → Type 0) (read : Reader E T A) (Spelled : A → Form T) (Next : A → Form T) (Within : A → Type 0) (Unfit : Form T)
    (rule : IsRule E Good read Spelled Next Within Unfit) (closed : (x : A) → Next x []) where
  -- a reader that stops does not stop later than something unfit begins
  fit : (ts rest : List T) (e : Fault E) → All Good ts → read ts ≡ stopped e rest → (k : ℕ) → k + length rest ≡ length ts → AreFit Unfit k ts
  fit ts rest e good is k count j less unfit =
      let s = rule.stops (take j ts) (drop j ts) (All-front Good ts (take j ts) (drop j ts) (sym (take-append-drop j ts)) good) unfit in
      let whole = take-append-drop j ts in
      let same : ◌≡◌ {A = Outcome E T A} (stopped e rest) (stopped s.fault s.at) = sym is ∙ ap read (sym whole) ∙ s.is in
      let place : rest ≡ s.at = cc in
      let lengths = ap length place in
      let many = length-drop j ts in
      let before = s.before in
      omega arith

  refuted : (x : A) (ts rest : List T) → All Good ts → Spelled x ts → read ts ≡ stopped faults.Refused rest → ⊥
  refuted x ts rest good spelled is =
      ⊎_elim
      (λ took_all. let no : ◌≡◌ {A = Outcome E T A} (stopped faults.Refused rest) (took x []) = sym is ∙ ap read (sym (append-nil ts)) ∙ took_all in cc)
      (λ far. let no : ◌≡◌ {A = Outcome E T A} (stopped faults.Refused rest) (stopped (faults.Unfit far.why) far.at) = sym is ∙ ap read (sym (append-nil ts)) ∙ far.is in
      let same : faults.Refused ≡ faults.Unfit far.why = cc in cc)
      (rule.complete ts [] x good spelled (closed x))

  pub refused-exact : (ts after : List T) (t : T) → All Good ts → read ts ≡ stopped faults.Refused (t ∷ after) → (k : ℕ) → k + length (t ∷ after) ≡ length ts
      → IsRefusedAt Good Spelled Unfit k ts
  refused-exact ts after t good is k count =
      let cut = rule.finishes ts (t ∷ after) faults.Refused is in
      let one : take k ts ≡ cut.front = front-take ts cut.front (t ∷ after) k cut.split count in
      let l = subst (Local read ts) is (rule.local ts) in
      let other : take k ts ≡ l.front = front-take ts l.front (t ∷ after) k l.split count in
      let next : take (suc k) ts ≡ l.front ++ t ∷ [] = next_of l.front k l.split count in
      record {
        there = omega arith;
        goes = subst (GoesOn Good Spelled) (sym one) cut.goes;
        ends = λ x more more_good spelled.
            let front_good = All-front Good ts l.front (t ∷ after) l.split good in
            let t_good = All-head Good t after (All-back Good ts l.front (t ∷ after) l.split good) in
            let all_good = All-append Good l.front (t ∷ more) front_good (All-cons Good t more t_good more_good) in
            let flat : take (suc k) ts ++ more ≡ l.front ++ t ∷ more = ap (λ f. f ++ more) next ∙ append_assoc l.front (t ∷ []) more in
            refuted x (l.front ++ t ∷ more) (t ∷ more) all_good (subst (Spelled x) flat spelled) (l.stays t after more refl);
        fit = fit ts (t ∷ after) faults.Refused good is k count;
      }
    where
      next_of : (front : List T) (k : ℕ) → ts ≡ front ++ t ∷ after → k + length (t ∷ after) ≡ length ts → take (suc k) ts ≡ front ++ t ∷ []
      next_of front k split count =
          let sum = ap length split ∙ length-append front (t ∷ after) in
          let same : k ≡ length front = omega arith in
          rw (same, split) (take-one front after t)

  pub cut_off-exact : (ts : List T) → All Good ts → read ts ≡ stopped faults.Refused [] → IsCutOff Good Spelled Unfit ts
  cut_off-exact ts good is =
      let cut = rule.finishes ts [] faults.Refused is in
      record {
        goes = subst (GoesOn Good Spelled) (sym (cut.split ∙ append-nil cut.front)) cut.goes;
        none = λ x spelled. refuted x ts [] good spelled is;
        fit = fit ts [] faults.Refused good is (length ts) (omega arith);
      }

  pub unfit-exact : (ts rest : List T) (why : E) → All Good ts → read ts ≡ stopped (faults.Unfit why) rest → (k : ℕ) → k + length rest ≡ length ts → IsUnfitAt Good Spelled Unfit k ts
  unfit-exact ts rest why good is k count =
      let cut = rule.finishes ts rest (faults.Unfit why) is in
      let one : take k ts ≡ cut.front = front-take ts cut.front rest k cut.split count in
      let place = ap length cut.begins in
      record {
        there = omega arith;
        unfit = subst Unfit (sym one) cut.unfit;
        goes = subst (GoesOn Good Spelled) (sym (next_of cut.front cut.after cut.next k (cut.split ∙ ap (λ r. cut.front ++ r) cut.begins) (rest_is cut.after cut.next cut.begins))) cut.goes;
        fit = fit ts rest (faults.Unfit why) good is k count;
      }
    where
      rest_is : (after : List T) (t : T) → rest ≡ t ∷ after → k + length (t ∷ after) ≡ length ts
      rest_is after t is = let place = ap length is in omega arith

      next_of : (front after : List T) (t : T) (k : ℕ) → ts ≡ front ++ t ∷ after → k + length (t ∷ after) ≡ length ts → take (suc k) ts ≡ front ++ t ∷ []
      next_of front after t k split count =
          let sum = ap length split ∙ length-append front (t ∷ after) in
          let same : k ≡ length front = omega arith in
          rw (same, split) (take-one front after t)

  -- a fault in memory is never one of the things
  pub memory-never : (ts rest : List T) → read ts ≡ stopped faults.Memory rest → ⊥
  memory-never ts rest is = rule.finishes ts rest faults.Memory is

-- ---- things have one fault

split-take : {T : Type 0} (i j : ℕ) (ts : List T) → i ≤ j → (more : List T) × (take j ts ≡ take i ts ++ more)
split-take zero j ts le = (take j ts, refl)
split-take (suc i) zero ts le = absurd (omega arith)
split-take (suc i) (suc j) [] le = ([], refl)
split-take (suc i) (suc j) (t ∷ ts) le = let m = split-take i j ts (omega arith) in (m.0, ap (λ l. t ∷ l) m.1)

module _ {T A : Type 0} (Good : T → Type 0) (Spelled : A → Form T) (Unfit : Form T) where
  -- things that go on do not reach past a refused thing
  refused-last : (k j : ℕ) (ts : List T) → All Good ts → IsRefusedAt Good Spelled Unfit k ts → suc k ≤ j → GoesOn Good Spelled (take j ts) → ⊥
  refused-last k j ts good r le g =
      let m = split-take (suc k) j ts le in
      let front = All-front Good ts (take j ts) (drop j ts) (sym (take-append-drop j ts)) good in
      let back = All-back Good (take j ts) (take (suc k) ts) m.0 m.1 front in
      r.ends g.value (m.0 ++ g.more) (All-append Good m.0 g.more back g.good)
      (subst (Spelled g.value) (ap (λ l. l ++ g.more) m.1 ∙ append_assoc (take (suc k) ts) m.0 g.more) g.spelled)

  pub refused-one : (k j : ℕ) (ts : List T) → All Good ts → IsRefusedAt Good Spelled Unfit k ts → IsRefusedAt Good Spelled Unfit j ts → k ≡ j
  refused-one k j ts good r s =
      let one : j < suc k = lt_of_not-le {n = suc k} {m = j} (λ le. refused-last k j ts good r le s.goes) in
      let other : k < suc j = lt_of_not-le {n = suc j} {m = k} (λ le. refused-last j k ts good s le r.goes) in
      omega arith

  pub refused-cut_off : (k : ℕ) (ts : List T) → All Good ts → IsRefusedAt Good Spelled Unfit k ts → IsCutOff Good Spelled Unfit ts → ⊥
  refused-cut_off k ts good r c =
      let whole : take (length ts) ts ≡ ts = ap (take (length ts)) (sym (append-nil ts)) ∙ take-append_seam ts [] in
      refused-last k (length ts) ts good r (omega (arith, r.there)) (subst (GoesOn Good Spelled) (sym whole) c.goes)

  pub refused-unfit : (k j : ℕ) (ts : List T) → All Good ts → IsRefusedAt Good Spelled Unfit k ts → IsUnfitAt Good Spelled Unfit j ts → ⊥
  refused-unfit k j ts good r d =
      r.fit j (lt_of_not-le {n = k} {m = j} (λ le. refused-last k (suc j) ts good r (omega (arith, le)) d.goes)) d.unfit

  pub cut_off-unfit : (j : ℕ) (ts : List T) → IsCutOff Good Spelled Unfit ts → IsUnfitAt Good Spelled Unfit j ts → ⊥
  cut_off-unfit j ts c d = c.fit j d.there d.unfit

  pub unfit-one : (k j : ℕ) (ts : List T) → IsUnfitAt Good Spelled Unfit k ts → IsUnfitAt Good Spelled Unfit j ts → k ≡ j
  unfit-one k j ts d e =
      let one : j < suc k = lt_of_not-le {n = suc k} {m = j} (λ le. e.fit k (omega (arith, le)) d.unfit) in
      let other : k < suc j = lt_of_not-le {n = suc j} {m = k} (λ le. d.fit j (omega (arith, le)) e.unfit) in
      omega arith
