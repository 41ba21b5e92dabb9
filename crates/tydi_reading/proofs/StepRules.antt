-- Rules made of rules.
use Rattle.std.proofs.Common.{◌≡◌, ℕ, ◌≤◌, ◌⊎◌, inl, inr, ⊎_elim, Bool, true, false, cond, List, [], ◌∷◌, ◌++◌, All, length, Option, Some, None, refl, sym, ap, ◌∙◌, subst, arith, append_assoc}
use Rattle.std.proofs.lemmas.List.{append-nil}
use Rattle.std.proofs.lemmas.List.Elements.{All-append, All-nil, All-cons}
use Rattle.tydi_reading.specs.declared.fault.Fault.{Fault}
use Rattle.tydi_reading.specs.declared.fault.Fault.TheVariants as faults
use Rattle.tydi_reading.specs.Forms.{Form, ◌⋯◌, Never, Anything, GoesOn}
use Rattle.tydi_reading.specs.Reading.{Outcome, took, stopped, Reader, ◌>>=◌, ◌<$>◌, pure, leaf, meant}
use Rattle.tydi_reading.specs.Rules.{Local, Found, Reached, Finishes, Stops, IsRule}
use Rattle.tydi_reading.proofs.FormLemmas.{goes_as}
use Rattle.tydi_reading.proofs.StepLemmas.{All-front, All-back, local-then, sound-then, finishes-then, complete-then, stops-first, stops-second}

-- ---- readers that take nothing

took-pair : {E T A : Type 0} (x y : A) (ts rest : List T) → ◌≡◌ {A = Outcome E T A} (took x ts) (took y rest) → (x ≡ y) × (ts ≡ rest)
took-pair x y ts rest is = (cc, cc)

stopped-pair : {E T A : Type 0} (a e : Fault E) (ts rest : List T) → ◌≡◌ {A = Outcome E T A} (stopped a ts) (stopped e rest) → (a ≡ e) × (ts ≡ rest)
stopped-pair a e ts rest is = (cc, cc)

-- the form of what takes nothing
abbrev pub Only : {T A : Type 0} → A → A → Form T
Only x y ts = (y ≡ x) × (ts ≡ [])

pub pure-rule : {E T A : Type 0} (Good : T → Type 0) (Within : A → Type 0) (x : A) → Within x → IsRule E Good (pure x) (Only x) (λ _. Anything) Within Never
pure-rule {E} {T} {A} Good Within x within = record {
  example = record { value = x; more = []; good = All-nil Good; spelled = (refl, refl) };
  local = λ ts. record { front = []; split = refl; stays = λ next after more is. refl };
  sound = λ ts rest y is.
      let both = took-pair x y ts rest is in
      record { front = []; split = both.1; spelled = (sym both.0, refl); within = subst Within both.0 within };
  complete = λ front rest y _ s _. inl (ap (λ (z : A). took z (front ++ rest)) (sym s.0) ∙ ap (λ l. took y (l ++ rest)) s.1);
  finishes = λ ts rest e is. absurd (differ ts rest e is);
  stops = λ front rest _ d. absurd d;
}
  where
    differ : (ts rest : List T) (e : Fault E) → ◌≡◌ {A = Outcome E T A} (took x ts) (stopped e rest) → ⊥
    differ ts rest e is = cc

-- ---- readers that read the same

pub read-rule : {E T A : Type 0} (Good : T → Type 0) (p q : Reader E T A) (Spelled : A → Form T) (Next : A → Form T) (Within : A → Type 0) (Unfit : Form T)
    → ((ts : List T) → p ts ≡ q ts) → IsRule E Good p Spelled Next Within Unfit → IsRule E Good q Spelled Next Within Unfit
read-rule {E = E} Good p q Spelled Next Within Unfit same rule = subst (λ r. IsRule E Good r Spelled Next Within Unfit) (λ i. λ ts. same ts i) rule

-- ---- one thing

-- a property of the one thing holds for each of a list of it alone
pub All-one : {X : Type 0} (P : X → Type 0) (x : X) → P x → All P (x ∷ [])
All-one P x p = All-cons P x [] p (All-nil P)

-- how a form is that of one thing with a meaning
pub record IsLeaf {T A : Type 0} (Good : T → Type 0) (meaning : T → Option A) (Spelled : A → Form T) : Type 0 where
  pub there : (x : A) (t : T) → meaning t ≡ Some x → Spelled x (t ∷ [])
  pub back : (x : A) (ts : List T) → All Good ts → Spelled x ts → (t : T) × (ts ≡ t ∷ []) × (meaning t ≡ Some x)

pub leaf-rule : {E T A : Type 0} (Good : T → Type 0) (meaning : T → Option A) (Spelled : A → Form T) (thing : T) (x : A) → Good thing → meaning thing ≡ Some x
    → IsLeaf Good meaning Spelled → IsRule E Good (leaf meaning) Spelled (λ _. Anything) (λ _. Unit {0}) Never
leaf-rule {E} {T} {A} Good meaning Spelled thing x good means is_leaf = record {
  example = example;
  local = local;
  sound = λ ts rest y is. sound ts rest y is;
  complete = λ front rest y each s _. let o = is_leaf.back y front each s in inl (ap (λ l. leaf meaning (l ++ rest)) o.1 ∙ ap (λ m. meant m rest (o.0 ∷ rest)) o.2);
  finishes = λ ts rest e is. finishes ts rest e is;
  stops = λ front rest _ d. absurd d;
}
  where
    example : GoesOn Good Spelled []
    example = record { value = x; more = thing ∷ []; good = All-one Good thing good; spelled = is_leaf.there x thing means }

    stays : (t : T) (ts : List T) (made : Option A) → meaning t ≡ made → Local {E = E} (leaf meaning) (t ∷ ts) (meant made ts (t ∷ ts))
    stays t ts (Some y) is = record { front = t ∷ []; split = refl; stays = λ next after more _. ap (λ m. meant m (next ∷ more) (t ∷ next ∷ more)) is }
    stays t ts None is = record {
      front = [];
      split = refl;
      stays = λ next after more same.
          let head : t ≡ next = cc in
          subst (λ u. leaf {E = E} meaning (u ∷ more) ≡ stopped faults.Refused (u ∷ more)) head (ap (λ m. meant m more (t ∷ more)) is);
    }

    local : (ts : List T) → Local {E = E} (leaf meaning) ts (leaf meaning ts)
    local [] = record { front = []; split = refl; stays = λ next after more is. absurd (let no : ◌≡◌ {A = List T} [] (next ∷ after) = is in cc) }
    local (t ∷ ts) = stays t ts (meaning t) refl

    found : (t : T) (ts rest : List T) (y : A) (made : Option A) → meaning t ≡ made → meant {E = E} made ts (t ∷ ts) ≡ took y rest
        → Found Spelled (λ _. Unit {0}) (t ∷ ts) rest y
    found t ts rest y (Some z) means is =
        let both = took-pair z y ts rest is in
        record {
          front = t ∷ [];
          split = ap (λ l. t ∷ l) both.1;
          spelled = is_leaf.there y t (means ∙ ap Some both.0);
          within = tt;
        }
    found t ts rest y None means is = absurd cc

    sound : (ts rest : List T) (y : A) → leaf {E = E} meaning ts ≡ took y rest → Found Spelled (λ _. Unit {0}) ts rest y
    sound [] rest y is = absurd cc
    sound (t ∷ ts) rest y is = found t ts rest y (meaning t) refl is

    cut : (ts rest : List T) (e : Fault E) → ◌≡◌ {A = Outcome E T A} (stopped faults.Refused ts) (stopped e rest) → Finishes Good Spelled Never ts rest e
    cut ts rest e is =
        let both = stopped-pair faults.Refused e ts rest is in
        subst (λ a. Finishes Good Spelled Never ts rest a) both.0 (record { front = []; split = both.1; goes = example })

    refused : (t : T) (ts rest : List T) (e : Fault E) (made : Option A) → meant made ts (t ∷ ts) ≡ stopped e rest
        → Finishes Good Spelled Never (t ∷ ts) rest e
    refused t ts rest e (Some z) is = absurd cc
    refused t ts rest e None is = cut (t ∷ ts) rest e is

    finishes : (ts rest : List T) (e : Fault E) → leaf meaning ts ≡ stopped e rest → Finishes Good Spelled Never ts rest e
    finishes [] rest e is = cut [] rest e is
    finishes (t ∷ ts) rest e is = refused t ts rest e (meaning t) is

-- ---- one after another

-- how the whole is of the parts
pub record Joins {T A B : Type 0} (Spelled : A → Form T) (Follow : A → Form T) (Within : A → Type 0) (First : Form T)
    (Second : A → B → Form T) (Follows : A → B → Form T) (Inside : A → B → Type 0) (Last : A → Form T)
    (Whole : B → Form T) (Next : B → Form T) (All : B → Type 0) (Unfit : Form T) : Type 0 where
  pub join : (x : A) (y : B) (front back : List T) → Spelled x front → Second x y back → Whole y (front ++ back)
  pub part : (y : B) (ts : List T) → Whole y ts → (x : A) × ((Spelled x ⋯ Second x y) ts)
  pub follow : (x : A) (y : B) (back rest : List T) → Second x y back → Next y rest → Follow x (back ++ rest)
  pub follows : (x : A) (y : B) (back rest : List T) → Second x y back → Next y rest → Follows x y rest
  pub within : (x : A) (y : B) (back : List T) → Second x y back → Within x → Inside x y → All y
  pub apart : (x : A) (y : B) (front back : List T) → Spelled x front → Second x y back → All y → Within x × Inside x y
  pub first : (front : List T) → First front → Unfit front
  pub last : (x : A) (front back : List T) → Spelled x front → Last x back → Unfit (front ++ back)
  pub unfit : (ts : List T) → Unfit ts → First ts ⊎ ((x : A) × ((Spelled x ⋯ Last x) ts))
  pub follow_unfit : (x : A) (back rest : List T) → Last x back → Follow x (back ++ rest)

pub then-rule : {E T A B : Type 0} (Good : T → Type 0) (p : Reader E T A) (f : A → Reader E T B) (Spelled : A → Form T) (Follow : A → Form T) (Within : A → Type 0) (First : Form T)
    (Second : A → B → Form T) (Follows : A → B → Form T) (Inside : A → B → Type 0) (Last : A → Form T)
    (Whole : B → Form T) (Next : B → Form T) (All : B → Type 0) (Unfit : Form T)
    → Joins Spelled Follow Within First Second Follows Inside Last Whole Next All Unfit
    → IsRule E Good p Spelled Follow Within First → ((x : A) → IsRule E Good (f x) (Second x) (Follows x) (Inside x) (Last x))
    → IsRule E Good (p >>= f) Whole Next All Unfit
then-rule {E} {T} {A} {B} Good p f Spelled Follow Within First Second Follows Inside Last Whole Next All Unfit joins one two = record {
  example = example one.example;
  local = λ ts. local-then p f ts (p ts) (one.local ts) (λ x rest is. (two x).local rest);
  sound = λ ts rest y is.
      sound-then Spelled Second Whole joins.join Within Inside All joins.within f ts (p ts) (λ rest x is. one.sound ts rest x is)
      (λ middle rest x y _ is. (two x).sound middle rest y is) rest y is;
  complete = λ front rest y good s next. complete front rest y good s next (joins.part y front s);
  finishes = λ ts rest e is.
      finishes-then Spelled Second Whole joins.join Good Within First Last Unfit joins.first joins.last (λ x. (two x).example) f ts (p ts)
      (λ rest x is. one.sound ts rest x is) (λ rest e is. one.finishes ts rest e is) (λ middle rest x e _ is. (two x).finishes middle rest e is) rest e is;
  stops = λ front rest good d. stops front rest good (joins.unfit front d);
}
  where
    example : GoesOn Good Spelled [] → GoesOn Good Whole []
    example goes =
        let other = (two goes.value).example in
        record {
          value = other.value;
          more = goes.more ++ other.more;
          good = All-append Good goes.more other.more goes.good other.good;
          spelled = joins.join goes.value other.value goes.more other.more goes.spelled other.spelled;
        }

    complete : (front rest : List T) (y : B) → Rattle.std.proofs.Common.All Good front → Whole y front → Next y rest → (x : A) × ((Spelled x ⋯ Second x y) front) → Reached All rest y ((p >>= f) (front ++ rest))
    complete front rest y good s next part =
        let x = part.0 in
        let b = part.1 in
        rw b.all
        (complete-then p f x b.front b.back rest Within (Inside x) All y (joins.apart x y b.front b.back b.begins b.ends)
        (one.complete b.front (b.back ++ rest) x (All-front Good front b.front b.back b.all good) b.begins (joins.follow x y b.back rest b.ends next))
        ((two x).complete b.back rest y (All-back Good front b.front b.back b.all good) b.ends (joins.follows x y b.back rest b.ends next)))

    stops : (front rest : List T) → Rattle.std.proofs.Common.All Good front → First front ⊎ ((x : A) × ((Spelled x ⋯ Last x) front)) → Stops rest ((p >>= f) (front ++ rest))
    stops front rest good =
        ⊎_elim
        (λ d. stops-first f rest (p (front ++ rest)) (one.stops front rest good d))
        (λ d.
        let x = d.0 in
        let b = d.1 in
        rw b.all
        (stops-second p f x b.front b.back rest Within
        (one.complete b.front (b.back ++ rest) x (All-front Good front b.front b.back b.all good) b.begins (joins.follow_unfit x b.back rest b.ends))
        ((two x).stops b.back rest (All-back Good front b.front b.back b.all good) b.ends)))

-- a thing that asks for the rule after it, and the things after it
module _ {T K A : Type 0} (First : K → Form T) (Second : K → A → Form T) where
  abbrev pub Chained : A → Form T
  Chained x ts = (k : K) × ((First k ⋯ Second k x) ts)

  abbrev pub ChainedTo : (K → Form T) → Form T
  ChainedTo To ts = (k : K) × ((First k ⋯ To k) ts)

  pub chain-rule : {E : Type 0} → (Good : T → Type 0) (p : Reader E T K) (f : K → Reader E T A) (Follow : K → Form T) (Next : A → Form T) (Within : A → Type 0) (To : K → Form T)
      → ((k : K) (x : A) (back rest : List T) → Second k x back → Next x rest → Follow k (back ++ rest))
      → ((k : K) (back rest : List T) → To k back → Follow k (back ++ rest))
      → IsRule E Good p First Follow (λ _. Unit {0}) Never → ((k : K) → IsRule E Good (f k) (Second k) Next Within (To k))
      → IsRule E Good (p >>= f) Chained Next Within (ChainedTo To)
  chain-rule Good p f Follow Next Within To follow follow_unfit one two =
      then-rule Good p f First Follow (λ _. Unit {0}) Never Second (λ _. Next) (λ _. Within) To Chained Next Within (ChainedTo To)
      (record {
        join = λ k x front back s o. (k, record { front = front; back = back; all = refl; begins = s; ends = o });
        part = λ x ts s. s;
        follow = follow;
        follows = λ k x back rest s next. next;
        within = λ k x back s w v. v;
        apart = λ k x front back _ s all. (tt, all);
        first = λ ts d. absurd d;
        last = λ k front back s d. (k, record { front = front; back = back; all = refl; begins = s; ends = d });
        unfit = λ ts d. inr d;
        follow_unfit = follow_unfit;
      })
      one two

-- ---- a function of what is read

-- how the whole is of the part
pub record Maps {T A B : Type 0} (f : A → B) (Spelled : A → Form T) (Follow : A → Form T) (Within : A → Type 0) (First : Form T)
    (Whole : B → Form T) (Next : B → Form T) (All : B → Type 0) (Unfit : Form T) : Type 0 where
  pub there : (x : A) (ts : List T) → Spelled x ts → Whole (f x) ts
  pub back : (y : B) (ts : List T) → Whole y ts → (x : A) × (y ≡ f x) × Spelled x ts
  pub follow : (x : A) (rest : List T) → Next (f x) rest → Follow x rest
  pub within : (x : A) → Within x → All (f x)
  pub apart : (x : A) → All (f x) → Within x
  pub first : (ts : List T) → First ts → Unfit ts
  pub unfit : (ts : List T) → Unfit ts → First ts

pub map-rule : {E T A B : Type 0} (Good : T → Type 0) (f : A → B) (p : Reader E T A) (Spelled : A → Form T) (Follow : A → Form T) (Within : A → Type 0) (First : Form T)
    (Whole : B → Form T) (Next : B → Form T) (All : B → Type 0) (Unfit : Form T)
    → Maps f Spelled Follow Within First Whole Next All Unfit → IsRule E Good p Spelled Follow Within First → IsRule E Good (f <$> p) Whole Next All Unfit
map-rule {E} {T} {A} {B} Good f p Spelled Follow Within First Whole Next All Unfit maps one =
    then-rule Good p (λ x. pure (f x)) Spelled Follow Within First (λ x. Only (f x)) (λ x _. Anything) (λ x y. Unit {0}) (λ _. Never) Whole Next All Unfit
    (record {
      join = join;
      part = part;
      follow = λ x y back rest s next. subst (Follow x) (sym (ap (λ l. l ++ rest) s.1)) (maps.follow x rest (subst (λ z. Next z rest) s.0 next));
      follows = λ x y back rest s next. tt;
      within = λ x y back s within _. subst All (sym s.0) (maps.within x within);
      apart = λ x y front back _ s all. (maps.apart x (subst All s.0 all), tt);
      first = maps.first;
      last = λ x front back s d. absurd d;
      unfit = λ ts d. inl (maps.unfit ts d);
      follow_unfit = λ x back rest d. absurd d;
    })
    one (λ x. pure-rule Good (λ _. Unit {0}) (f x) tt)
  where
    join : (x : A) (y : B) (front back : List T) → Spelled x front → Only (f x) y back → Whole y (front ++ back)
    join x y front back s only =
        let whole = maps.there x front s in
        subst (λ z. Whole z (front ++ back)) (sym only.0) (subst (Whole (f x)) (sym (ap (λ l. front ++ l) only.1 ∙ append-nil front)) whole)

    part : (y : B) (ts : List T) → Whole y ts → (x : A) × ((Spelled x ⋯ Only (f x) y) ts)
    part y ts whole =
        let b = maps.back y ts whole in
        (b.0, record { front = ts; back = []; all = sym (append-nil ts); begins = b.2; ends = (b.1, refl) })

-- ---- another form for the same

-- how the one form is the other
pub record Same {T A : Type 0} (Spelled : A → Form T) (Follow : A → Form T) (Within : A → Type 0) (First : Form T)
    (Whole : A → Form T) (Next : A → Form T) (All : A → Type 0) (Unfit : Form T) : Type 0 where
  pub there : (x : A) (ts : List T) → Spelled x ts → Whole x ts
  pub back : (x : A) (ts : List T) → Whole x ts → Spelled x ts
  pub follow : (x : A) (rest : List T) → Next x rest → Follow x rest
  pub within : (x : A) → Within x → All x
  pub apart : (x : A) → All x → Within x
  pub first : (ts : List T) → First ts → Unfit ts
  pub unfit : (ts : List T) → Unfit ts → First ts

module _ {E T A : Type 0} (Good : T → Type 0) (p : Reader E T A) (Spelled : A → Form T) (Follow : A → Form T) (Within : A → Type 0) (First : Form T)
    (Whole : A → Form T) (Next : A → Form T) (All : A → Type 0) (Unfit : Form T) (same : Same Spelled Follow Within First Whole Next All Unfit) where
  finishes-same : (ts rest : List T) (e : Fault E) → Finishes Good Spelled First ts rest e → Finishes Good Whole Unfit ts rest e
  finishes-same ts rest faults.Refused c = record { front = c.front; split = c.split; goes = goes_as (λ x. x) same.there c.goes }
  finishes-same ts rest (faults.Unfit why) c = record {
    front = c.front;
    next = c.next;
    after = c.after;
    split = c.split;
    begins = c.begins;
    unfit = same.first c.front c.unfit;
    goes = goes_as (λ x. x) same.there c.goes;
  }
  finishes-same ts rest faults.Memory c = c

  pub same-rule : IsRule E Good p Spelled Follow Within First → IsRule E Good p Whole Next All Unfit
  same-rule one = record {
    example = goes_as (λ x. x) same.there one.example;
    local = one.local;
    sound = λ ts rest x is.
        let f = one.sound ts rest x is in
        record { front = f.front; split = f.split; spelled = same.there x f.front f.spelled; within = same.within x f.within };
    complete = λ front rest x good s next. ⊎_elim inl
        (λ far. inr (record { why = far.why; at = far.at; is = far.is; before = far.before; beyond = λ all. far.beyond (same.apart x all) }))
        (one.complete front rest x good (same.back x front s) (same.follow x rest next));
    finishes = λ ts rest e is. finishes-same ts rest e (one.finishes ts rest e is);
    stops = λ front rest good d. one.stops front rest good (same.unfit front d);
  }

-- the same by another way to say what leads to something unfit
pub leads-rule : {E T A : Type 0} (Good : T → Type 0) (p : Reader E T A) (Spelled : A → Form T) (Next : A → Form T) (Within : A → Type 0) (First Unfit : Form T)
    → ((ts : List T) → First ts → Unfit ts) → ((ts : List T) → Unfit ts → First ts) → IsRule E Good p Spelled Next Within First → IsRule E Good p Spelled Next Within Unfit
leads-rule Good p Spelled Next Within First Unfit first unfit =
    same-rule Good p Spelled Next Within First Spelled Next Within Unfit
    (record { there = λ x ts s. s; back = λ x ts s. s; follow = λ x rest next. next; within = λ x w. w; apart = λ x w. w; first = first; unfit = unfit })
