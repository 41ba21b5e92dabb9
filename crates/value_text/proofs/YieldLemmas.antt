-- A reader yields things of one kind: steps put together, and loops, by the kinds that their parts yield.
use Rattle.std.proofs.Common.{◌≡◌, ℕ, zero, suc, Bool, true, false, cond, List, [], ◌∷◌, ◌++◌, All, length, refl, subst}
use Rattle.std.proofs.lemmas.List.Elements.{All-append, All-cons, All-nil}
use Rattle.tydi_reading.specs.Lists.{repeated, repeated_turn}
use Rattle.tydi_reading.specs.Reading.{Outcome, took, stopped, Turn, again, done, and_then, pure, turned, loop, loop_from, tells, ◌>>=◌, ◌>>◌, ◌<<◌, ◌<$>◌}
use Rattle.tydi_reading.specs.declared.fault.Fault.TheVariants as faults
use Rattle.tydi_reading.proofs.LoopLemmas.{took-both}
use Rattle.value_text.specs.declared.fault.Why.{Why}
use Rattle.value_text.specs.Syntax.{Reader}
use Rattle.value_text.specs.Tokens.{PlainToken}
use Rattle.value_text.specs.Typed.{wrong}

-- each thing that is read is such a one
pub record Yields {A : Type 0} (Is : A → Type 0) (read : Reader A) : Type 0 where
  pub is : (ts rest : List PlainToken) (x : A) → read ts ≡ took x rest → Is x

-- ---- steps

module _ {A B : Type 0} (One : A → Type 0) (Is : B → Type 0) (p : Reader A) (q : A → Reader B) where
  by_first : Yields One p → ((x : A) → One x → Yields Is (q x)) → (ts rest : List PlainToken) (y : B) (o : Outcome Why PlainToken A) → p ts ≡ o → and_then o q ≡ took y rest → Is y
  by_first one two ts rest y (took x middle) made is = (two x (one.is ts middle x made)).is middle rest y is
  by_first one two ts rest y (stopped e at) made is = absurd (let no : ◌≡◌ {A = Outcome Why PlainToken B} (stopped e at) (took y rest) = is in cc)

  pub yields-both : Yields One p → ((x : A) → One x → Yields Is (q x)) → Yields Is (p >>= q)
  yields-both one two = record { is = λ ts rest y is. by_first one two ts rest y (p ts) refl is }

pub yields-pure : {A : Type 0} (Is : A → Type 0) (x : A) → Is x → Yields Is (pure x)
yields-pure Is x holds = record { is = λ ts rest y made. subst Is (took-both x y ts rest made).0 holds }

yields-any : {A : Type 0} (p : Reader A) → Yields (λ _. Unit {0}) p
yields-any p = record { is = λ ts rest x made. tt }

pub yields-weaker : {A : Type 0} (One Is : A → Type 0) (p : Reader A) → ((x : A) → One x → Is x) → Yields One p → Yields Is p
yields-weaker One Is p weaker one = record { is = λ ts rest x made. weaker x (one.is ts rest x made) }

pub yields-map : {A B : Type 0} (Is : B → Type 0) (f : A → B) (p : Reader A) → Yields (λ x. Is (f x)) p → Yields Is (f <$> p)
yields-map Is f p one = yields-both (λ x. Is (f x)) Is p (λ x. pure (f x)) one (λ x is. yields-pure Is (f x) is)

pub yields-close : {A B : Type 0} (Is : A → Type 0) (p : Reader A) (q : Reader B) → Yields Is p → Yields Is (p << q)
yields-close Is p q one = yields-both Is Is p (λ x. (λ _. x) <$> q) one (λ x is. yields-map Is (λ _. x) q (record { is = λ ts rest y made. is }))

pub yields-after : {A B : Type 0} (Is : B → Type 0) (p : Reader A) (q : Reader B) → Yields Is q → Yields Is (p >> q)
yields-after Is p q one = yields-both (λ _. Unit {0}) Is p (λ _. q) (yields-any p) (λ x any. one)

pub yields-wrong : {A : Type 0} (Is : A → Type 0) (why : Why) → Yields Is (wrong why)
yields-wrong {A} Is why = record { is = λ ts rest x made. absurd (let no : ◌≡◌ {A = Outcome Why PlainToken A} (stopped (faults.Unfit why) ts) (took x rest) = made in cc) }

pub yields-cond : {A : Type 0} (Is : A → Type 0) (test : Bool) (one other : Reader A) → Yields Is one → Yields Is other → Yields Is (cond {A = Reader A} test one other)
yields-cond Is true one other first second = first
yields-cond Is false one other first second = second

-- ---- loops

-- the value of a turn is such a one
abbrev TurnIs : {S : Type 0} → (S → Type 0) → Turn S → Type 0
TurnIs Is (again s) = Is s
TurnIs Is (done s) = Is s

yields-turned : {S : Type 0} (Is : S → Type 0) (more : S → Reader S) → ((s : S) → Is s → Yields Is (more s)) → (t : Turn S) → TurnIs Is t → Yields Is (turned more t)
yields-turned Is more each (again s) is = each s is
yields-turned Is more each (done s) is = yields-pure Is s is

yields-loop_from : {S : Type 0} (Is : S → Type 0) (turn : S → Reader (Turn S)) → ((s : S) → Is s → Yields (TurnIs Is) (turn s))
    → (turns : ℕ) (s : S) → Is s → Yields Is (loop_from turn turns s)
unfolding loop_from
yields-loop_from {S} Is turn each zero s is =
    record { is = λ ts rest x made. absurd (let no : ◌≡◌ {A = Outcome Why PlainToken S} (stopped faults.Refused ts) (took x rest) = made in cc) }
yields-loop_from Is turn each (suc turns) s is =
    yields-both (TurnIs Is) Is (turn s) (turned (loop_from turn turns)) (each s is) (yields-turned Is (loop_from turn turns) (yields-loop_from Is turn each turns))

module _ {A : Type 0} (Is : A → Type 0) (test : PlainToken → Bool) (last : Bool) (item : Reader A) (one : Yields Is item) where
  yields-turn : (found : List A) → All Is found → Yields (TurnIs (All Is)) (repeated_turn test last item found)
  unfolding repeated_turn
  yields-turn found each = record {
    is = λ ts rest t made.
        (yields-cond (TurnIs (All Is)) (tells test last ts) (pure (done found)) ((λ x. again (found ++ x ∷ [])) <$> item)
        (yields-pure (TurnIs (All Is)) (done found) each)
        (yields-map (TurnIs (All Is)) (λ x. again (found ++ x ∷ [])) item
        (yields-weaker Is (λ x. All Is (found ++ x ∷ [])) item (λ x is. All-append Is found (x ∷ []) each (All-cons Is x [] is (All-nil Is))) one))).is
        ts rest t made;
  }

  pub yields-repeated : Yields (All Is) (repeated test last item)
  unfolding repeated loop
  yields-repeated =
      record { is = λ ts rest xs made. (yields-loop_from (All Is) (repeated_turn test last item) yields-turn (suc (length ts)) [] (All-nil Is)).is ts rest xs made }
