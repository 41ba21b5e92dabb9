-- A loop that takes a thing whenever it goes on is its first turn, and the loop after it.
use Rattle.std.proofs.Common.{◌≡◌, ℕ, zero, suc, ◌<◌, ◌≤◌, Bool, true, false, cond, List, [], ◌∷◌, ◌++◌, length, refl, arith, Ok, Err, ap, subst, sym}
use Rattle.std.specs.Prelude.{Result, OnOk, not}
use Rattle.tydi_reading.specs.declared.fault.Fault.{Fault}
use Rattle.tydi_reading.specs.declared.fault.Fault.TheVariants as faults
use Rattle.tydi_reading.specs.Lists.{after_joint, repeated, repeated_turn, steps_turn, separator_turn, mark}
use Rattle.tydi_reading.specs.Named.{NeverGrows}
use Rattle.tydi_reading.specs.Reading.{Outcome, took, stopped, Reader, Reads, Shrinks, and_then, ◌>>=◌, ◌<$>◌, pure, refuse, beginning, Turn, again, done, turned, loop_from, loop, tells}

-- each turn takes a thing where the loop goes on
pub record Advances {E T S : Type 0} (turn : S → Reader E T (Turn S)) : Type 0 where
  pub less : (s : S) (ts rest : List T) (next : S) → turn s ts ≡ took (again next) rest → length rest < length ts

-- the reader after a turn matters only where the loop goes on
turned-same : {E T S : Type 0} (made : Outcome E T (Turn S)) (f g : S → Reader E T S)
    → ((next : S) (rest : List T) → made ≡ took (again next) rest → f next rest ≡ g next rest) → and_then made (turned f) ≡ and_then made (turned g)
turned-same (stopped e rest) f g same = refl
turned-same (took (again next) rest) f g same = same next rest refl
turned-same (took (done s) rest) f g same = refl

-- as many turns as things, and one, are enough
loop_from-enough : {E T S : Type 0} (turn : S → Reader E T (Turn S)) → Advances turn → (n m : ℕ) (s : S) (ts : List T)
    → length ts < n → length ts < m → loop_from turn n s ts ≡ loop_from turn m s ts
unfolding loop_from
loop_from-enough turn advances zero m s ts one other = absurd (omega arith)
loop_from-enough turn advances (suc n) zero s ts one other = absurd (omega arith)
loop_from-enough turn advances (suc n) (suc m) s ts one other =
    turned-same (turn s ts) (loop_from turn n) (loop_from turn m)
    (λ next rest is. let less = advances.less s ts rest next is in loop_from-enough turn advances n m next rest (omega arith) (omega arith))

pub loop_unfolds : {E T S : Type 0} (turn : S → Reader E T (Turn S)) → Advances turn → (s : S) (ts : List T)
    → loop turn s ts ≡ and_then (turn s ts) (turned (loop turn))
unfolding loop loop_from
loop_unfolds turn advances s ts =
    turned-same (turn s ts) (loop_from turn (length ts)) (loop turn)
    (λ next rest is.
    let less = advances.less s ts rest next is in
    loop_from-enough turn advances (length ts) (suc (length rest)) next rest (omega arith) (omega arith))

-- ---- lists

pub took-both : {E T A : Type 0} (x y : A) (ts rest : List T) → ◌≡◌ {A = Outcome E T A} (took x ts) (took y rest) → (x ≡ y) × (ts ≡ rest)
took-both x y ts rest is = (cc, cc)

no_again : {S : Type 0} (s next : S) (Goal : Type 0) → ◌≡◌ {A = Turn S} (done s) (again next) → Goal
no_again s next Goal is = absurd cc

pub mapped-less : {E T A B : Type 0} (f : A → B) (read : Reader E T A) → Shrinks read → Shrinks (f <$> read)
mapped-less {E} {T} {A} {B} f read shrinks = record { less = λ ts rest y is. of_made ts rest y (read ts) refl is }
  where
    of_made : (ts rest : List T) (y : B) (made : Outcome E T A) → read ts ≡ made → and_then made (λ x. pure (f x)) ≡ took y rest → length rest < length ts
    of_made ts rest y (stopped e middle) made is = absurd cc
    of_made ts rest y (took x middle) made is =
        let both = took-both (f x) y middle rest is in
        let less = shrinks.less ts middle x made in
        let same = ap length both.1 in
        omega arith

repeated_turn-advances : {E T A : Type 0} (test : T → Bool) (last : Bool) (item : Reader E T A) → Shrinks item → Advances (repeated_turn test last item)
unfolding repeated_turn
repeated_turn-advances {E} {T} {A} test last item shrinks = record { less = λ found ts rest next is. of_test found ts rest next (tells test last ts) is }
  where
    of_test : (found : List A) (ts rest : List T) (next : List A) (b : Bool)
        → (cond {A = Reader E T (Turn (List A))} b (pure (done found)) ((λ x. again (found ++ x ∷ [])) <$> item)) ts ≡ took (again next) rest → length rest < length ts
    of_test found ts rest next true is = no_again found next (length rest < length ts) (took-both (done found) (again next) ts rest is).0
    of_test found ts rest next false is = (mapped-less (λ x. again (found ++ x ∷ [])) item shrinks).less ts rest (again next) is

-- a separator, or none, leaves no more things than there were
separator-least : {E T S : Type 0} (separates : T → Bool) (s : S) (ts rest : List T) (t : Turn S) → separator_turn {E = E} separates s ts ≡ took t rest → length rest ≤ length ts
unfolding separator_turn mark
separator-least {E} {T} {S} separates s [] rest t is = let both = took-both (done s) t [] rest is in let same = ap length both.1 in omega arith
separator-least {E} {T} {S} separates s (u ∷ ts) rest t is = of_test (separates u) is
  where
    of_mark : (b : Bool) → and_then (cond {A = Outcome E T (Unit {0})} b (took tt ts) (stopped faults.Refused (u ∷ ts))) (λ _. pure (again s)) ≡ took t rest
        → length rest ≤ length (u ∷ ts)
    of_mark true is = let both = took-both (again s) t ts rest is in let same = ap length both.1 in omega arith
    of_mark false is = absurd cc

    of_test : (b : Bool) → (cond {A = Reader E T (Turn S)} b ((λ _. again s) <$> mark separates) (pure (done s))) (u ∷ ts) ≡ took t rest → length rest ≤ length (u ∷ ts)
    of_test true is = of_mark (separates u) is
    of_test false is = let both = took-both (done s) t (u ∷ ts) rest is in let same = ap length both.1 in omega arith

steps_turn-advances : {E T S : Type 0} (test : T → Bool) (last : Bool) (separates : T → Bool) (step : S → Reader E T S) → ((s : S) → Shrinks (step s))
    → Advances (steps_turn test last separates step)
unfolding steps_turn
steps_turn-advances {E} {T} {S} test last separates step shrinks = record { less = λ s ts rest next is. of_test s ts rest next (tells test last ts) is }
  where
    of_made : (s : S) (ts rest : List T) (next : S) (made : Outcome E T S) → step s ts ≡ made → and_then made (separator_turn separates) ≡ took (again next) rest → length rest < length ts
    of_made s ts rest next (stopped e middle) made is = absurd cc
    of_made s ts rest next (took x middle) made is =
        let less = (shrinks s).less ts middle x made in
        let least = separator-least separates x middle rest (again next) is in
        omega arith

    of_test : (s : S) (ts rest : List T) (next : S) (b : Bool)
        → (cond {A = Reader E T (Turn S)} b (pure (done s)) (step s >>= separator_turn separates)) ts ≡ took (again next) rest → length rest < length ts
    of_test s ts rest next true is = no_again s next (length rest < length ts) (took-both (done s) (again next) ts rest is).0
    of_test s ts rest next false is = of_made s ts rest next (step s ts) refl is

-- a turn of a list, or of steps, and what follows it
pub repeated-unfold : {E T A : Type 0} (test : T → Bool) (last : Bool) (item : Reader E T A) → Shrinks item → (found : List A) (ts : List T)
    → loop (repeated_turn test last item) found ts ≡ and_then (repeated_turn test last item found ts) (turned (loop (repeated_turn test last item)))
repeated-unfold test last item shrinks = loop_unfolds (repeated_turn test last item) (repeated_turn-advances test last item shrinks)

pub steps-unfold : {E T S : Type 0} (test : T → Bool) (last : Bool) (separates : T → Bool) (step : S → Reader E T S) → ((s : S) → Shrinks (step s)) → (s : S) (ts : List T)
    → loop (steps_turn test last separates step) s ts ≡ and_then (steps_turn test last separates step s ts) (turned (loop (steps_turn test last separates step)))
steps-unfold test last separates step shrinks = loop_unfolds (steps_turn test last separates step) (steps_turn-advances test last separates step shrinks)

-- a joint and an item after it take a thing at least
pub joint-shrinks : {E T A : Type 0} (joins : T → Bool) (item : Reader E T A) → Shrinks item → Shrinks (after_joint joins item)
unfolding mark
joint-shrinks {E} {T} {A} joins item shrinks = record { less = less }
  where
    of_mark : (t : T) (ts rest : List T) (x : A) (b : Bool) → and_then (cond {A = Outcome E T (Unit {0})} b (took tt ts) (stopped faults.Refused (t ∷ ts))) (λ _. item) ≡ took x rest
        → length rest < length (t ∷ ts)
    of_mark t ts rest x true is = let most = shrinks.less ts rest x is in omega arith
    of_mark t ts rest x false is = absurd cc

    less : (ts rest : List T) (x : A) → after_joint joins item ts ≡ took x rest → length rest < length ts
    less [] rest x is = absurd cc
    less (t ∷ ts) rest x is = of_mark t ts rest x (joins t) is

-- so does what begins with such a thing
pub beginning-shrinks : {E T A : Type 0} (lead : T → Bool) (item : Reader E T A) → Shrinks item → Shrinks (beginning lead item)
beginning-shrinks {E} {T} {A} lead item shrinks = record { less = λ ts rest x is. of_test ts rest x (tells lead false ts) is }
  where
    of_test : (ts rest : List T) (x : A) (b : Bool) → (cond {A = Reader E T A} b item refuse) ts ≡ took x rest → length rest < length ts
    of_test ts rest x true is = shrinks.less ts rest x is
    of_test ts rest x false is = absurd cc

-- no joint stands exactly where one is told not to
pub tells-not : {T : Type 0} (test : T → Bool) (ts : List T) → not (tells test false ts) ≡ tells (λ t. not (test t)) true ts
tells-not test [] = refl
tells-not test (t ∷ ts) = refl

-- a call that did what a reader does that takes a thing
pub reads-less : {E T A : Type 0} {read : Reader E T A} → Shrinks read → (ts rest : List T) (made : Result A (Fault E)) → Reads (read ts) made rest
    → OnOk made (length rest < length ts)
reads-less shrinks ts rest (Ok x) reads = shrinks.less ts rest x reads
reads-less shrinks ts rest (Err e) reads = tt

-- a call that did what the reader of a value does that leaves no more things than there were
pub adds-most : {E T K G : Type 0} {value : K → G → Reader E T G} → NeverGrows value → (k : K) (given : G) (ts rest : List T) (made : Result G (Fault E))
    → Reads (value k given ts) made rest → OnOk made (length rest ≤ length ts)
adds-most grows k given ts rest (Ok next) reads = grows.least k given ts rest next reads
adds-most grows k given ts rest (Err e) reads = tt

-- ---- where a loop ends

made-ends : {E T S : Type 0} (P : List T → Type 0) (turn more : S → Reader E T S) (next : S → Reader E T (Turn S))
    → ((s end : S) (ts rest : List T) → next s ts ≡ took (done end) rest → P rest) → ((s end : S) (ts rest : List T) → more s ts ≡ took end rest → P rest)
    → (s end : S) (ts rest : List T) (made : Outcome E T (Turn S)) → next s ts ≡ made → and_then made (turned more) ≡ took end rest → P rest
made-ends P turn more next ends others s end ts rest (stopped e middle) made is = absurd cc
made-ends P turn more next ends others s end ts rest (took (again x) middle) made is = others x end middle rest is
made-ends P turn more next ends others s end ts rest (took (done x) middle) made is = subst P (took-both x end middle rest is).1 (ends s x ts middle made)

loop_from-ends : {E T S : Type 0} (P : List T → Type 0) (turn : S → Reader E T (Turn S)) → ((s end : S) (ts rest : List T) → turn s ts ≡ took (done end) rest → P rest)
    → (n : ℕ) (s end : S) (ts rest : List T) → loop_from turn n s ts ≡ took end rest → P rest
unfolding loop_from
loop_from-ends P turn ends zero s end ts rest is = absurd cc
loop_from-ends P turn ends (suc n) s end ts rest is =
    made-ends P (loop_from turn n) (loop_from turn n) turn ends (loop_from-ends P turn ends n) s end ts rest (turn s ts) refl is

pub loop-ends : {E T S : Type 0} (P : List T → Type 0) (turn : S → Reader E T (Turn S)) → ((s end : S) (ts rest : List T) → turn s ts ≡ took (done end) rest → P rest)
    → (s end : S) (ts rest : List T) → loop turn s ts ≡ took end rest → P rest
unfolding loop
loop-ends P turn ends s end ts rest is = loop_from-ends P turn ends (suc (length ts)) s end ts rest is

no_done : {E T A B : Type 0} (made : Outcome E T A) (f : A → B) (end : B) (rest : List T) → and_then made (λ x. pure {A = Turn B} (again (f x))) ≡ took (done end) rest → ⊥
no_done {E} {T} {A} {B} (stopped e middle) f end rest is = cc
no_done {E} {T} {A} {B} (took x middle) f end rest is = let turns : again (f x) ≡ done end = (took-both (again (f x)) (done end) middle rest is).0 in cc

-- a reading up to the end leaves nothing
pub repeated-all : {E T A : Type 0} (item : Reader E T A) (items : List A) (ts rest : List T) → repeated (λ _. false) true item ts ≡ took items rest → rest ≡ []
unfolding repeated repeated_turn
repeated-all {E} {T} {A} item items ts rest is = loop-ends (λ rest. rest ≡ []) (repeated_turn (λ _. false) true item) ends [] items ts rest is
  where
    ends : (found end : List A) (ts rest : List T) → repeated_turn (λ _. false) true item found ts ≡ took (done end) rest → rest ≡ []
    ends found end [] rest is = sym (took-both (done found) (done end) [] rest is).1
    ends found end (t ∷ ts) rest is = absurd (no_done (item (t ∷ ts)) (λ x. found ++ x ∷ []) end rest is)
