-- Tables: the first of a list that grows, and what a table lends once a thing more is kept.
use Rattle.std.proofs.Common.{◌≡◌, ℕ, zero, suc, add-one, arith, ◌+◌, ◌<◌, Bool, true, false, cond, ◌&&◌, nat_eq, List, [], ◌∷◌, ◌++◌, length, get_or, take, Option, Some, None, option_copied, refl, sym, ap, ◌∙◌}
use Rattle.std.specs.Borrow.{Bor}
use Rattle.std.specs.List.{find, slice_get}
use Rattle.std.specs.Option.{option_or}
use Rattle.std.specs.Str.{bytes_eq}
use Rattle.std.proofs.lemmas.Bool.{eqb-true, eq-eqb}
use Rattle.std.proofs.lemmas.List.{take_more}
use Rattle.std.proofs.lemmas.List.Folds.{find-append}
use Rattle.vhdl_writer.specs.Architecture.{ports_at, ports_found}
use Rattle.til_resolve.specs.Ordered.{Key}
use Rattle.vhdl_writer.specs.Finding.{port_at_home, port_named}
use Rattle.vhdl_writer.specs.declared.component.Component.{Component}
use Rattle.vhdl_writer.specs.declared.component.SplitPort.{SplitPort}

-- the first of a list so far, with one thing more
pub find-more : {A : Type 0} (test : A → Bool) (xs : List A) (i : ℕ) (x : A) → i < length xs → x ≡ get_or xs i x
    → find test (take (i + 1) xs) ≡ option_or (find test (take i xs)) (cond (test x) (Some x) None)
find-more test xs i x within is = ap (find test) (take_more xs i x within) ∙ ap (λ y. find test (take i xs ++ y ∷ [])) (sym is) ∙ find-append test (take i xs) (x ∷ [])

-- one thing more in a table
pub lent-more : {A : Type 0} (found before : Option (Bor A)) (test : Bool) (one : Bor A) → found ≡ option_or before (cond test (Some one) None)
    → option_copied found ≡ option_or (option_copied before) (cond test (Some one.now) None)
lent-more {A} found before test one is = ap option_copied is ∙ by before test
  where
    by : (before : Option (Bor A)) (test : Bool) → option_copied (option_or before (cond test (Some one) None)) ≡ option_or (option_copied before) (cond test (Some one.now) None)
    by None true = refl
    by None false = refl
    by (Some x) test = refl

or-assoc : {A : Type 0} (one other last : Option A) → option_or (option_or one other) last ≡ option_or one (option_or other last)
or-assoc None other last = refl
or-assoc (Some one) other last = refl

-- one port more of a component
pub home-more : (before : Option SplitPort) (ports : List SplitPort) (i : ℕ) (port : SplitPort) (home : ℕ) (key : Key) → i < length ports → port ≡ get_or ports i port
    → option_or (option_or before (port_at_home (take i ports) home key)) (cond (nat_eq home key.0 && bytes_eq port.name key.1) (Some port) None)
    ≡ option_or before (port_at_home (take (i + 1) ports) home key)
home-more before ports i port home key within is = or-assoc before (port_at_home (take i ports) home key) _ ∙ ap (option_or before) (by (nat_eq home key.0))
  where
    by : (b : Bool) → option_or (cond b (port_named (take i ports) key.1) None) (cond (b && bytes_eq port.name key.1) (Some port) None) ≡ cond b (port_named (take (i + 1) ports) key.1) None
    by true = sym (find-more (λ (p : SplitPort). bytes_eq p.name key.1) ports i port within is)
    by false = refl

-- ---- one component more

at-same : {A : Type 0} (xs : List A) (n : ℕ) (x : A) → n < length xs → x ≡ get_or xs n x → slice_get (take (suc n) xs) n ≡ Some x
at-same [] n x within is = absurd (omega (arith, within))
at-same (y ∷ xs) zero x within is = ap (λ z. Some z) (sym is)
at-same (y ∷ xs) (suc n) x within is = at-same xs n x (omega (arith, within)) is

at-none : {A : Type 0} (xs : List A) (n : ℕ) → slice_get (take n xs) n ≡ None
at-none [] zero = refl
at-none [] (suc n) = refl
at-none (y ∷ xs) zero = refl
at-none (y ∷ xs) (suc n) = at-none xs n

at-other : {A : Type 0} (xs : List A) (n k : ℕ) → (n ≡ k → ⊥) → slice_get (take (suc n) xs) k ≡ slice_get (take n xs) k
at-other [] zero k apart = refl
at-other [] (suc n) k apart = refl
at-other (y ∷ xs) zero zero apart = absurd (apart refl)
at-other (y ∷ xs) zero (suc k) apart = refl
at-other (y ∷ xs) (suc n) zero apart = refl
at-other (y ∷ xs) (suc n) (suc k) apart = at-other xs n k (λ e. apart (ap (λ (m : ℕ). suc m) e))

pub components-more : (components : List Component) (home : ℕ) (one : Component) (key : Key) → home < length components → one ≡ get_or components home one
    → option_or (port_named (ports_at (take home components) key.0) key.1) (port_at_home one.ports home key)
    ≡ port_named (ports_at (take (home + 1) components) key.0) key.1
components-more components home one key within is = by (nat_eq home key.0) refl ∙ ap (λ n. found (slice_get (take n components) key.0)) (sym (add-one home))
  where
    found : Option Component → Option SplitPort
    found there = port_named (ports_found there) key.1

    or-none : (one : Option SplitPort) → option_or one None ≡ one
    or-none None = refl
    or-none (Some port) = refl

    by : (b : Bool) → nat_eq home key.0 ≡ b
        → option_or (port_named (ports_found (slice_get (take home components) key.0)) key.1) (cond b (port_named one.ports key.1) None) ≡ port_named (ports_found (slice_get (take (suc home) components) key.0)) key.1
    by true same =
        let at : home ≡ key.0 = eqb-true home key.0 same in
        ap (λ (there : Option Component). option_or (port_named (ports_found there) key.1) (port_named one.ports key.1))
        (ap (λ n. slice_get (take home components) n) (sym at) ∙ at-none components home)
        ∙ sym (ap (λ (there : Option Component). port_named (ports_found there) key.1) (ap (λ n. slice_get (take (suc home) components) n) (sym at) ∙ at-same components home one within is))
    by false apart =
        or-none _ ∙ sym (ap (λ (there : Option Component). port_named (ports_found there) key.1)
        (at-other components home key.0 (λ e. let same = eq-eqb home key.0 e in absurd (let clash : true ≡ false = sym same ∙ apart in cc))))
