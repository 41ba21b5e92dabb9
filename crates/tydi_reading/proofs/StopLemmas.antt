-- A rule that takes all: things have what it spells, or one place at which they stop.
use Rattle.std.proofs.Common.{◌≡◌, suc, ◌-◌, ◌≤◌, ◌⊎◌, inl, inr, ⊎_elim, List, [], ◌∷◌, ◌++◌, All, length, take, drop, refl, sym, ap, ◌∙◌, subst, arith}
use Rattle.std.proofs.lemmas.List.{append-nil, length-append, take-append-drop}
use Rattle.tydi_reading.specs.declared.fault.Fault.{Fault}
use Rattle.tydi_reading.specs.declared.fault.Fault.TheVariants as faults
use Rattle.tydi_reading.specs.Faults.{Stop, refused, cut_off, unfit, IsStop, stop_at}
use Rattle.tydi_reading.specs.Forms.{Form}
use Rattle.tydi_reading.specs.Reading.{Outcome, took, stopped, Reader}
use Rattle.tydi_reading.specs.Rules.{IsRule}
use Rattle.tydi_reading.proofs.ExactLemmas.{refused-exact, cut_off-exact, unfit-exact, memory-never}
use Rattle.tydi_reading.proofs.ExactLemmas.{refused-one, refused-cut_off, refused-unfit, cut_off-unfit, unfit-one}
use Rattle.tydi_reading.proofs.StepLemmas.{All-front, All-back}

-- things have one place at most at which they stop
pub stop-one : {T A : Type 0} (Good : T → Type 0) (Spelled : A → Form T) (Unfit : Form T) (ts : List T) → All Good ts → (one other : Stop)
    → IsStop Good Spelled Unfit ts one → IsStop Good Spelled Unfit ts other → one ≡ other
stop-one Good Spelled Unfit ts good (refused k) (refused j) f g = ap refused (refused-one Good Spelled Unfit k j ts good f g)
stop-one Good Spelled Unfit ts good (refused k) cut_off f g = absurd (refused-cut_off Good Spelled Unfit k ts good f g)
stop-one Good Spelled Unfit ts good (refused k) (unfit j) f g = absurd (refused-unfit Good Spelled Unfit k j ts good f g)
stop-one Good Spelled Unfit ts good cut_off (refused k) f g = absurd (refused-cut_off Good Spelled Unfit k ts good g f)
stop-one Good Spelled Unfit ts good cut_off cut_off f g = refl
stop-one Good Spelled Unfit ts good cut_off (unfit j) f g = absurd (cut_off-unfit Good Spelled Unfit j ts f g)
stop-one Good Spelled Unfit ts good (unfit j) (refused k) f g = absurd (refused-unfit Good Spelled Unfit k j ts good g f)
stop-one Good Spelled Unfit ts good (unfit j) cut_off f g = absurd (cut_off-unfit Good Spelled Unfit j ts g f)
stop-one Good Spelled Unfit ts good (unfit j) (unfit k) f g = ap unfit (unfit-one Good Spelled Unfit j k ts f g)

module _ {E T A : Type 0} (Good : T → Type 0) (read : Reader E T A) (Spelled : A → Form T) (Next : A → Form T) (Within : A → Type 0) (Unfit : Form T)
    (rule : IsRule E Good read Spelled Next Within Unfit) (closed : (x : A) → Next x []) (ends : (ts rest : List T) (x : A) → read ts ≡ took x rest → rest ≡ []) where
  abbrev Stops : List T → Stop → Type 0
  Stops = IsStop Good Spelled Unfit

  pub all-sound : (ts rest : List T) (x : A) → read ts ≡ took x rest → Spelled x ts × Within x
  all-sound ts rest x is =
      let found = rule.sound ts rest x is in
      let whole : ts ≡ found.front = found.split ∙ ap (λ r. found.front ++ r) (ends ts rest x is) ∙ append-nil found.front in
      (subst (Spelled x) (sym whole) found.spelled, found.within)

  pub all-complete : (ts : List T) (x : A) → All Good ts → Within x → Spelled x ts → read ts ≡ took x []
  all-complete ts x good within spelled =
      ap read (sym (append-nil ts)) ∙ ⊎_elim (λ is. is) (λ far. absurd (far.beyond within)) (rule.complete ts [] x good spelled (closed x))

  fewer : (ts rest : List T) (e : Fault E) → read ts ≡ stopped e rest → length rest ≤ length ts
  fewer ts rest faults.Refused is = let c = rule.finishes ts rest faults.Refused is in let sum = ap length c.split ∙ length-append c.front rest in omega arith
  fewer ts rest (faults.Unfit why) is = let c = rule.finishes ts rest (faults.Unfit why) is in let sum = ap length c.split ∙ length-append c.front rest in omega arith
  fewer ts rest faults.Memory is = absurd (rule.finishes ts rest faults.Memory is)

  pub never-memory : (ts rest : List T) → read ts ≡ stopped faults.Memory rest → ⊥
  never-memory ts rest is = memory-never Good read Spelled Next Within Unfit rule closed ts rest is

  exact_refused : (ts rest : List T) → All Good ts → read ts ≡ stopped faults.Refused rest → Stops ts (stop_at {E = E} faults.Refused (length ts) (length rest))
  exact_refused ts [] good is = cut_off-exact Good read Spelled Next Within Unfit rule closed ts good is
  exact_refused ts (t ∷ rest) good is =
      let most = fewer ts (t ∷ rest) faults.Refused is in
      refused-exact Good read Spelled Next Within Unfit rule closed ts rest t good is (length ts - length (t ∷ rest)) (omega arith)

  -- where it stops, the things stop
  pub exact : (ts rest : List T) (e : Fault E) → All Good ts → read ts ≡ stopped e rest → Stops ts (stop_at e (length ts) (length rest))
  exact ts rest faults.Refused good is = exact_refused ts rest good is
  exact ts rest (faults.Unfit why) good is =
      let most = fewer ts rest (faults.Unfit why) is in
      unfit-exact Good read Spelled Next Within Unfit rule closed ts rest why good is (length ts - length rest) (omega arith)
  exact ts rest faults.Memory good is = absurd (never-memory ts rest is)

  -- things are spelled, or they stop somewhere
  pub spelled-or : (ts : List T) → All Good ts → ((x : A) × Spelled x ts × Within x) ⊎ ((stop : Stop) × Stops ts stop)
  spelled-or ts good = by_read (read ts) refl
    where
      by_read : (made : Outcome E T A) → read ts ≡ made → ((x : A) × Spelled x ts × Within x) ⊎ ((stop : Stop) × Stops ts stop)
      by_read (took x rest) is = let found = all-sound ts rest x is in inl (x, found.0, found.1)
      by_read (stopped e rest) is = inr (stop_at e (length ts) (length rest), exact ts rest e good is)

  -- things that stop are not spelled
  pub stop-none : (ts : List T) → All Good ts → (stop : Stop) → Stops ts stop → (x : A) → Spelled x ts → Within x → ⊥
  stop-none ts good (refused k) f x spelled within =
      let whole = take-append-drop (suc k) ts in
      f.ends x (drop (suc k) ts) (All-back Good ts (take (suc k) ts) (drop (suc k) ts) (sym whole) good) (subst (Spelled x) (sym whole) spelled)
  stop-none ts good cut_off f x spelled within = f.none x spelled
  stop-none ts good (unfit k) f x spelled within =
      let whole = take-append-drop k ts in
      let s = rule.stops (take k ts) (drop k ts) (All-front Good ts (take k ts) (drop k ts) (sym whole) good) f.unfit in
      let no : ◌≡◌ {A = Outcome E T A} (took x []) (stopped s.fault s.at) = sym (all-complete ts x good within spelled) ∙ ap read (sym whole) ∙ s.is in cc
