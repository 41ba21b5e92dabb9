-- Named arguments: what is given of them, the rules of their values, and that one argument more is a rule.
use Rattle.std.proofs.Common.{◌≡◌, ◌⊎◌, inl, inr, ◌<◌, ◌≤◌, Bool, true, false, cond, List, [], ◌∷◌, ◌++◌, length, Option, Some, None, option_and_then, refl, sym, ap, ◌∙◌, subst, arith, append_assoc}
use Rattle.std.proofs.lemmas.List.{length-append}
use Rattle.std.specs.List.{Contains}
use Rattle.std.specs.Option.{is_some}
use Rattle.std.proofs.lemmas.Option.{none-some, same_Some}
use Rattle.tydi_reading.specs.declared.fault.Fault.TheVariants as faults
use Rattle.tydi_reading.specs.Forms.{Form, ◌⋯◌, Never, Anything, Loop, LoopTo}
use Rattle.tydi_reading.specs.Named.{awaited, argument, named, NeverGrows}
use Rattle.tydi_reading.specs.Reading.{Outcome, Reader, Shrinks, Turn, took, stopped, and_then, meant, leaf, tells, told_by, rest_of, pure, ◌<$>◌}
use Rattle.tydi_reading.specs.Rules.{IsRule}
use Rattle.tydi_reading.proofs.ContainsLemmas.{Contains-none, Contains-cases}
use Rattle.tydi_reading.proofs.FilledLemmas.{filled-first}
use Rattle.tydi_reading.proofs.LoopLemmas.{took-both}
use Rattle.tydi_reading.proofs.MarkLemmas.{IsMark}
use Rattle.tydi_reading.proofs.Rule.{Made, as_rule, made-rule}
use Rattle.tydi_reading.proofs.StepRules.{IsLeaf, leaf-rule, then-rule, read-rule}
use Rattle.tydi_reading.proofs.StepsRule.{IsStuck, Separates, TurnOf, steps-rule}

-- the given arguments of such names, and the whole that is made of them
pub record Fields (K G S : Type 0) : Type 1 where
  pub Value : K → Type 0
  pub field : (k : K) → G → Option (Value k)
  pub put : (k : K) → Value k → G → G
  pub is_given : K → G → Bool
  pub none : G
  pub made : G → Option S
  pub value : S → (k : K) → Value k
  pub IsDefault : S → K → Type 0
  pub all : List K
  pub each : (k : K) → Contains all k
  pub one_or_two : (a b : K) → (a ≡ b) ⊎ (a ≡ b → ⊥)
  pub field-put : (k : K) (x : Value k) (given : G) → field k (put k x given) ≡ Some x
  pub field-put_other : (a b : K) (x : Value b) (given : G) → (b ≡ a → ⊥) → field a (put b x given) ≡ field a given
  pub field-none : (k : K) → field k none ≡ None
  pub is_given-is : (k : K) (given : G) → is_given k given ≡ is_some (field k given)
  pub made-is : (given : G) (s : S) → made given ≡ Some s → (k : K) → (field k given ≡ Some (value s k)) ⊎ ((field k given ≡ None) × IsDefault s k)
  pub is-made : (given : G) (s : S) → ((k : K) → (field k given ≡ Some (value s k)) ⊎ ((field k given ≡ None) × IsDefault s k)) → made given ≡ Some s
  pub full : (given : G) → ((k : K) → field k given ≡ None → ⊥) → made given ≡ None → ⊥

-- which things name them, and the rules of their values
pub record Arguments (E : Type 0) {T K G S : Type 0} (Good : T → Type 0) (f : Fields K G S) : Type 1 where
  pub name : T → Option K
  pub Name : K → Form T
  pub there : (k : K) (t : T) → name t ≡ Some k → Name k (t ∷ [])
  pub back : (k : K) (ts : List T) → Name k ts → (t : T) × (ts ≡ t ∷ []) × (name t ≡ Some k)
  pub thing : K → T
  pub good : (k : K) → Good (thing k)
  pub named : (k : K) → name (thing k) ≡ Some k
  pub read : (k : K) → Reader E T (f.Value k)
  pub Spelled : (k : K) → f.Value k → Form T
  pub Next : Form T
  pub Within : (k : K) → f.Value k → Type 0
  pub Unfit : K → Form T
  pub Argument : S → K → Form T
  pub to_argument : (s : S) (k : K) (ts : List T) → (Name k ⋯ Spelled k (f.value s k)) ts → Argument s k ts
  pub of_argument : (s : S) (k : K) (ts : List T) → Argument s k ts → (Name k ⋯ Spelled k (f.value s k)) ts
  pub added : K → G → Reader E T G
  pub added-is : (k : K) (given : G) (ts : List T) → ((λ x. f.put k x given) <$> read k) ts ≡ added k given ts
  pub rule : (k : K) → IsRule E Good (read k) (Spelled k) (λ _. Next) (Within k) (Unfit k)

-- the separators between arguments, and the things after them
pub record Between {T K : Type 0} (Good : T → Type 0) (test : T → Bool) (last : Bool) (separates : T → Bool) (Separator : Form T) (name : T → Option K) (Next : Form T) : Type 0 where
  pub mark : IsMark Good separates Separator
  pub starts : (k : K) (t : T) → name t ≡ Some k → test t ≡ false
  pub before_end : (rest : List T) → tells test last rest ≡ true → Next rest
  pub before_separator : (t : T) (rest : List T) → separates t ≡ true → Next (t ∷ rest)
  pub apart : (rest : List T) → tells test last rest ≡ true → tells separates false rest ≡ false

unless : {K : Type 0} (b : Bool) (j k : K) → cond b None (Some j) ≡ Some k → (b ≡ false) × (j ≡ k)
unless true j k is = absurd (none-some k is)
unless false j k is = (refl, same_Some j k is)

none-is : {A : Type 0} (o : Option A) → is_some o ≡ false → o ≡ None
none-is None is = refl
none-is (Some x) is = absurd cc

none_or : {A : Type 0} (o : Option A) → (o ≡ None) ⊎ (o ≡ None → ⊥)
none_or None = inl refl
none_or (Some x) = inr (λ e. none-some x (sym e))

module _ {E T K G S : Type 0} (Good : T → Type 0) (f : Fields K G S) (a : Arguments E Good f) where
  abbrev pub step : G → Reader E T G
  step = argument a.name f.is_given a.added

  -- an argument with its value
  abbrev pub Spelled : (k : K) → f.Value k → Form T
  Spelled k x = a.Name k ⋯ a.Spelled k x

  -- a value that is given is within its bounds
  abbrev pub In : (k : K) → Option (f.Value k) → Type 0
  In k None = Unit {0}
  In k (Some x) = a.Within k x

  -- one argument more
  pub record Step (given next : G) (ts : List T) : Type 0 where
    pub name : K
    pub is : f.Value name
    pub absent : f.field name given ≡ None
    pub added : next ≡ f.put name is given
    pub spelled : Spelled name is ts

  -- the added argument is within its bounds
  abbrev pub StepWithin : G → G → Type 0
  StepWithin given next = (k : K) → f.field k given ≡ None → In k (f.field k next)

  -- the things that lead to something unfit in one more argument
  pub record StepUnfit (given : G) (ts : List T) : Type 0 where
    pub name : K
    pub absent : f.field name given ≡ None
    pub leads : (a.Name name ⋯ a.Unfit name) ts

  -- ---- the name of an argument that is not given yet

  abbrev Awaited : G → K → Form T
  Awaited given k ts = (f.field k given ≡ None) × a.Name k ts

  awaited-of : (given : G) (k : K) (t : T) (o : Option K) → a.name t ≡ o → option_and_then (λ j. cond (f.is_given j given) None (Some j)) o ≡ Some k
      → (f.field k given ≡ None) × (a.name t ≡ Some k)
  awaited-of given k t None told is = absurd (none-some k is)
  awaited-of given k t (Some j) told is =
      let parts = unless (f.is_given j given) j k is in
      (subst (λ i. f.field i given ≡ None) parts.1 (none-is (f.field j given) (sym (f.is_given-is j given) ∙ parts.0)), told ∙ ap Some parts.1)

  awaited-name : (given : G) (k : K) (t : T) → awaited a.name f.is_given given t ≡ Some k → (f.field k given ≡ None) × (a.name t ≡ Some k)
  awaited-name given k t is = awaited-of given k t (a.name t) refl is

  awaited-is : (given : G) (k : K) (t : T) → a.name t ≡ Some k → f.field k given ≡ None → awaited a.name f.is_given given t ≡ Some k
  awaited-is given k t told none =
      ap (option_and_then (λ j. cond (f.is_given j given) None (Some j))) told
      ∙ ap (λ (b : Bool). cond b None (Some k)) (f.is_given-is k given ∙ ap is_some none)

  awaited-leaf : (given : G) → IsLeaf Good (awaited a.name f.is_given given) (Awaited given)
  awaited-leaf given = record {
    there = λ k t is. let parts = awaited-name given k t is in (parts.0, a.there k t parts.1);
    back = λ k ts each s. let o = a.back k ts s.1 in (o.0, o.1, awaited-is given k o.0 o.2 s.0);
  }

  name-rule : (given : G) (k : K) → f.field k given ≡ None
      → IsRule E Good (leaf (awaited a.name f.is_given given)) (Awaited given) (λ _. Anything) (λ _. Unit {0}) Never
  name-rule given k none = leaf-rule Good (awaited a.name f.is_given given) (Awaited given) (a.thing k) k (a.good k) (awaited-is given k (a.thing k) (a.named k) none) (awaited-leaf given)

  -- ---- one argument more

  added-within : (given next : G) (j : K) (x : f.Value j) → next ≡ f.put j x given → In j (f.field j next) → StepWithin given next
  added-within given next j x is inside k none = elim (f.one_or_two j k) [
    | inl e ↦ subst (λ i. In i (f.field i next)) e inside
    | inr apart ↦ subst (In k) (sym (ap (f.field k) is ∙ f.field-put_other k j x given apart ∙ none)) tt
  ]

  added-rule : (given : G) (k : K) → IsRule E Good (a.added k given) (Made (λ x. f.put k x given) (a.Spelled k)) (λ _. a.Next) (λ next. In k (f.field k next)) (a.Unfit k)
  added-rule given k =
      read-rule Good ((λ x. f.put k x given) <$> a.read k) (a.added k given) (Made (λ x. f.put k x given) (a.Spelled k)) (λ _. a.Next) (λ next. In k (f.field k next)) (a.Unfit k)
      (a.added-is k given)
      (made-rule (λ x. f.put k x given) (as_rule (a.rule k)) (λ _. a.Next) (λ next. In k (f.field k next)) (λ x rest next. next)
      (λ x w. subst (In k) (sym (f.field-put k x given)) w) (λ x w. subst (In k) (f.field-put k x given) w))

  argument-rule : (given : G) (k : K) → f.field k given ≡ None → IsRule E Good (step given) (Step given) (λ _. a.Next) (StepWithin given) (StepUnfit given)
  unfolding argument
  argument-rule given free none =
      then-rule Good (leaf (awaited a.name f.is_given given)) (λ k. a.added k given) (Awaited given) (λ _. Anything) (λ _. Unit {0}) Never
      (λ k. Made (λ x. f.put k x given) (a.Spelled k)) (λ _ _. a.Next) (λ k next. In k (f.field k next)) a.Unfit
      (Step given) (λ _. a.Next) (StepWithin given) (StepUnfit given)
      (record {
        join = λ k next front back s r. record {
          name = k;
          is = r.0;
          absent = s.0;
          added = r.1;
          spelled = record { front = front; back = back; all = refl; begins = s.1; ends = r.2 };
        };
        part = λ next ts s. (
          s.name,
          record { front = s.spelled.front; back = s.spelled.back; all = s.spelled.all; begins = (s.absent, s.spelled.begins); ends = (s.is, s.added, s.spelled.ends) },
        );
        follow = λ k next back rest r after. tt;
        follows = λ k next back rest r after. after;
        within = λ k next back r w inside. added-within given next k r.0 r.1 inside;
        apart = λ k next front back s r w. (tt, w k s.0);
        first = λ ts d. absurd d;
        last = λ k front back s d. record { name = k; absent = s.0; leads = record { front = front; back = back; all = refl; begins = s.1; ends = d } };
        unfit = λ ts d. inr (
          d.name,
          record { front = d.leads.front; back = d.leads.back; all = d.leads.all; begins = (d.absent, d.leads.begins); ends = d.leads.ends },
        );
        follow_unfit = λ k back rest d. tt;
      })
      (name-rule given free none) (added-rule given)

  -- ---- where all are given

  -- one of these that is not given, or all are
  free_or : (names : List K) (given : G) → ((k : K) × (f.field k given ≡ None)) ⊎ ((k : K) → Contains names k → f.field k given ≡ None → ⊥)
  free_or [] given = inr (λ k c none. Contains-none k c)
  free_or (j ∷ names) given = elim (none_or (f.field j given)) [
    | inl e ↦ inl (j, e)
    | inr out ↦ elim (free_or names given) [
      | inl e ↦ inl e
      | inr full ↦ inr (λ k c none. elim (Contains-cases names j k c) [ inl e ↦ out (subst (λ i. f.field i given ≡ None) (sym e) none) | inr more ↦ full k more none ])
    ]
  ]

  refused : (given : G) → ((k : K) → f.field k given ≡ None → ⊥) → (t : T) (ts : List T) (o : Option K) → awaited a.name f.is_given given t ≡ o
      → and_then (meant o ts (t ∷ ts)) (λ k. a.added k given) ≡ stopped faults.Refused (t ∷ ts)
  refused given full t ts None is = refl
  refused given full t ts (Some k) is = absurd (full k (awaited-name given k t is).0)

  refuses : (given : G) → ((k : K) → f.field k given ≡ None → ⊥) → (ts : List T) → step given ts ≡ stopped faults.Refused ts
  unfolding argument
  refuses given full [] = refl
  refuses given full (t ∷ ts) = refused given full t ts (awaited a.name f.is_given given t) refl

  pub step-rule : (given : G) → IsRule E Good (step given) (Step given) (λ _. a.Next) (StepWithin given) (StepUnfit given) ⊎ IsStuck (step given) (Step given) (StepUnfit given)
  step-rule given = elim (free_or f.all given) [
    | inl free ↦ inl (argument-rule given free.0 free.1)
    | inr full ↦ inr (record {
      refuses = refuses given (λ k. full k (f.each k));
      none = λ next ts s. full s.name (f.each s.name) s.absent;
      none_unfit = λ ts d. full d.name (f.each d.name) d.absent;
    })
  ]

  -- ---- arguments, one after another

  -- the given arguments are within their bounds
  abbrev pub AreIn : G → Type 0
  AreIn given = (k : K) → In k (f.field k given)

  -- a value leaves no more things than there were
  pub added-grows : NeverGrows a.added
  added-grows = record { least = λ k given ts rest next is. of_made k given ts rest next (a.read k ts) refl (a.added-is k given ts ∙ is) }
    where
      of_made : (k : K) (given : G) (ts rest : List T) (next : G) (made : Outcome E T (f.Value k)) → a.read k ts ≡ made
          → and_then made (λ x. pure (f.put k x given)) ≡ took next rest → length rest ≤ length ts
      of_made k given ts rest next (stopped e middle) made is = absurd cc
      of_made k given ts rest next (took x middle) made is =
          let found = (a.rule k).sound ts middle x made in
          let whole = ap length found.split ∙ length-append found.front middle in
          let same = ap length (took-both (f.put k x given) next middle rest is).1 in
          omega arith

  step_within : (given next : G) (ts : List T) → Step given next ts → StepWithin given next → AreIn given → AreIn next
  step_within given next ts s within each k = elim (f.one_or_two s.name k) [
    | inl e ↦ within k (subst (λ i. f.field i given ≡ None) e s.absent)
    | inr apart ↦ subst (In k) (sym (ap (f.field k) s.added ∙ f.field-put_other k s.name s.is given apart)) (each k)
  ]

  step_unwithin : (given next : G) (ts : List T) → Step given next ts → AreIn next → AreIn given
  step_unwithin given next ts s each k = elim (f.one_or_two s.name k) [
    | inl e ↦ subst (In k) (sym (subst (λ i. f.field i given ≡ None) e s.absent)) tt
    | inr apart ↦ subst (In k) (ap (f.field k) s.added ∙ f.field-put_other k s.name s.is given apart) (each k)
  ]

  Name-filled : (k : K) (ts : List T) → a.Name k ts → 0 < length ts
  Name-filled k ts s = let one = ap length (a.back k ts s).1 in omega arith

  module _ (test : T → Bool) (last : Bool) (separates : T → Bool) (Separator : Form T) (between : Between Good test last separates Separator a.name a.Next) where
    Name-starts : (k : K) (front rest : List T) → a.Name k front → tells test last (front ++ rest) ≡ false
    Name-starts k front rest s = let o = a.back k front s in rw o.1 (between.starts k o.0 o.2)

    pub separates-arguments : Separates Good test last separates Separator Step (λ _. a.Next) StepWithin StepUnfit AreIn
    separates-arguments = record {
      mark = between.mark;
      filled = λ given next front s. filled-first (a.Name s.name) (a.Spelled s.name s.is) front (Name-filled s.name) s.spelled;
      starts = λ given next front rest s. starts_front (a.Name s.name) (a.Spelled s.name s.is) front rest (Name-starts s.name) s.spelled;
      starts_unfit = λ given front rest d. starts_front (a.Name d.name) (a.Unfit d.name) front rest (Name-starts d.name) d.leads;
      before_end = λ next rest is. between.before_end rest is;
      before_separator = λ next t rest is. between.before_separator t rest is;
      apart = between.apart;
      idle = λ given k none. subst (In k) (sym none) tt;
      within = step_within;
      unwithin = λ given next front s each. ((λ k none. each k), step_unwithin given next front s each);
    }
      where
        starts_front : (First Second : Form T) (front rest : List T) → ((front rest : List T) → First front → tells test last (front ++ rest) ≡ false)
            → (First ⋯ Second) front → tells test last (front ++ rest) ≡ false
        starts_front First Second front rest first s = rw (s.all, append_assoc s.front s.back rest) (first s.front (s.back ++ rest) s.begins)

    abbrev pub Turning : G → Turn G → Form T
    Turning = TurnOf Good test last separates Separator step Step (λ _. a.Next) StepWithin StepUnfit AreIn separates-arguments step-rule

    pub arguments-rule : IsRule E Good (named test last separates a.name f.is_given a.added f.none) (Loop Turning f.none) (λ _ rest. tells test last rest ≡ true) AreIn
        (LoopTo Turning StepUnfit f.none)
    unfolding named
    arguments-rule =
        steps-rule Good test last separates Separator step Step (λ _. a.Next) StepWithin StepUnfit AreIn separates-arguments step-rule f.none
        (λ k. subst (In k) (sym (f.field-none k)) tt)

-- ---- the facts that a next name gives about an argument

module _ {E T K G : Type 0} (name : T → Option K) (is_given : K → G → Bool) (value : K → G → Reader E T G) (given : G) where
  abbrev told : Option K → List T → List T → Outcome E T G
  told o rest ts = and_then (meant (option_and_then (λ k. cond (is_given k given) None (Some k)) o) rest ts) (λ k. value k given)

  argument-told : (ts : List T) → argument name is_given value given ts ≡ told (told_by name ts) (rest_of ts) ts
  unfolding argument
  argument-told [] = refl
  argument-told (t ∷ ts) = refl

  pub argument-shrinks : NeverGrows value → Shrinks (argument name is_given value given)
  argument-shrinks grows = record { less = λ ts rest next is. less ts rest next (sym (argument-told ts) ∙ is) }
    where
      of_meant : (o : Option K) (ts us rest : List T) (next : G) → and_then (meant o us ts) (λ k. value k given) ≡ took next rest → length rest ≤ length us
      of_meant None ts us rest next is = absurd cc
      of_meant (Some k) ts us rest next is = grows.least k given us rest next is

      less : (ts rest : List T) (next : G) → told (told_by name ts) (rest_of ts) ts ≡ took next rest → length rest < length ts
      less [] rest next is = absurd cc
      less (t ∷ ts) rest next is = let most = of_meant (option_and_then (λ k. cond (is_given k given) None (Some k)) (name t)) (t ∷ ts) ts rest next is in omega arith
