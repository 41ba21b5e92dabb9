-- The calls of a closure over a source that contracts see through `left`. This project's own.
use Rattle.std.specs.Fn.{Shared}
use Rattle.std.specs.Prelude.{◌≡◌, ◌<◌, ◌≤◌, Bool, List, length, Option, Result, OnOk}
use denote.Ref.{Bor, MutBor}
use Rattle.tydi_reading.specs.declared.fault.Fault.{Fault}
use Rattle.tydi_reading.specs.Reading.{Reader, Reads, tells, told_by}

-- each call gives what a test does
abbrev pub Decides : {F T : Type 0} → Shared F (Bor T × Unit {0}) Bool → F → (T → Bool) → Type 0
Decides {F} {T} calls f test = (t : Bor T) (b : Bool) → calls.post f (t, tt) b → b ≡ test t.now

-- each call gives what a meaning is
abbrev pub Means : {F T K : Type 0} → Shared F (Bor T × Unit {0}) (Option K) → F → (T → Option K) → Type 0
Means {F} {T} {K} calls f meaning = (t : Bor T) (k : Option K) → calls.post f (t, tt) k → k ≡ meaning t.now

-- each call gives what a test of two things does
abbrev pub DecidesPair : {F K G : Type 0} → Shared F (Bor K × (Bor G × Unit {0})) Bool → F → (K → G → Bool) → Type 0
DecidesPair {F} {K} {G} calls f test = (k : Bor K) (g : Bor G) (b : Bool) → calls.post f (k, (g, tt)) b → b ≡ test k.now g.now

module _ {S T : Type 0} (left : S → List T) where
  -- each call gives the answer of a test about the next thing
  abbrev pub DoesTell : {F : Type 0} → Shared F (Bor S × Unit {0}) Bool → F → (T → Bool) → Bool → Type 0
  DoesTell {F} calls f test last = (p : Bor S) (b : Bool) → calls.post f (p, tt) b → b ≡ tells test last (left p.now)

  -- each call gives what a meaning of the next thing is
  abbrev pub DoesMean : {F K : Type 0} → Shared F (Bor S × Unit {0}) (Option K) → F → (T → Option K) → Type 0
  DoesMean {F} {K} calls f meaning = (p : Bor S) (k : Option K) → calls.post f (p, tt) k → k ≡ told_by meaning (left p.now)

  -- each call does what a reader does
  abbrev pub DoesRead : {E F A : Type 0} → Shared F (MutBor S × Unit {0}) (Result A (Fault E) × (MutBor S × Unit {0})) → F → Reader E T A → Type 0
  DoesRead {E} {F} {A} calls f read = (p q : MutBor S) (a : Result A (Fault E)) → calls.post f (p, tt) (a, (q, tt)) → Reads (read (left p.now)) a (left q.now)

  -- each call takes a thing at least, where it gives something
  abbrev pub DoesShrink : {E F A : Type 0} → Shared F (MutBor S × Unit {0}) (Result A (Fault E) × (MutBor S × Unit {0})) → F → Type 0
  DoesShrink {E} {F} {A} calls f = (p q : MutBor S) (a : Result A (Fault E)) → calls.post f (p, tt) (a, (q, tt)) → OnOk a (length (left q.now) < length (left p.now))

  -- each call does what the reader of a step from a state does
  abbrev pub DoesStep : {E F X : Type 0} → Shared F (MutBor S × (X × Unit {0})) (Result X (Fault E) × (MutBor S × Unit {0})) → F → (X → Reader E T X) → Type 0
  DoesStep {E} {F} {X} calls f step = (p q : MutBor S) (x : X) (a : Result X (Fault E)) → calls.post f (p, (x, tt)) (a, (q, tt)) → Reads (step x (left p.now)) a (left q.now)

  -- each step takes a thing at least, where it gives something
  abbrev pub StepsShrink : {E F X : Type 0} → Shared F (MutBor S × (X × Unit {0})) (Result X (Fault E) × (MutBor S × Unit {0})) → F → Type 0
  StepsShrink {E} {F} {X} calls f = (p q : MutBor S) (x : X) (a : Result X (Fault E)) → calls.post f (p, (x, tt)) (a, (q, tt)) → OnOk a (length (left q.now) < length (left p.now))

  -- each call does what the reader for this name and what is given does
  abbrev pub DoesAdd : {E F K G : Type 0} → Shared F (MutBor S × (K × (G × Unit {0}))) (Result G (Fault E) × (MutBor S × Unit {0})) → F → (K → G → Reader E T G) → Type 0
  DoesAdd {E} {F} {K} {G} calls f read = (p q : MutBor S) (k : K) (g : G) (a : Result G (Fault E)) → calls.post f (p, (k, (g, tt))) (a, (q, tt)) → Reads (read k g (left p.now)) a (left q.now)

  -- no value leaves more things than there were
  abbrev pub AddsAtMost : {E F K G : Type 0} → Shared F (MutBor S × (K × (G × Unit {0}))) (Result G (Fault E) × (MutBor S × Unit {0})) → F → Type 0
  AddsAtMost {E} {F} {K} {G} calls f = (p q : MutBor S) (k : K) (g : G) (a : Result G (Fault E)) → calls.post f (p, (k, (g, tt))) (a, (q, tt)) → OnOk a (length (left q.now) ≤ length (left p.now))
