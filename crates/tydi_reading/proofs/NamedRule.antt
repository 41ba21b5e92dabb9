-- Named arguments in any order, each at most once, are a rule of the whole that is made of them.
use Rattle.std.proofs.Common.{◌≡◌, ◌⊎◌, inl, inr, ⊎_elim, ℕ, zero, suc, Bool, true, List, [], ◌∷◌, ◌++◌, All, Option, Some, None, refl, sym, ap, ◌∙◌, subst, append_assoc}
use Rattle.std.specs.List.{Contains}
use Rattle.std.proofs.lemmas.Option.{none-some, same_Some}
use Rattle.std.proofs.lemmas.List.{append-nil}
use Rattle.std.proofs.lemmas.List.Elements.{All-append, All-cons, All-nil}
use Rattle.tydi_reading.specs.Forms.{Form, ◌⋯◌, GoesOn, Runs, RunsTo, Loop, LoopTo}
use Rattle.tydi_reading.specs.Lists.{Each, Separated, LastSeparator}
use Rattle.tydi_reading.specs.Named.{AreApart, Named, NamedTo, named}
use Rattle.tydi_reading.specs.Reading.{Turn, done, tells, checked}
use Rattle.tydi_reading.specs.Rules.{IsRule}
use Rattle.tydi_reading.proofs.CheckedRule.{Checks, checked-rule}
use Rattle.tydi_reading.proofs.ContainsLemmas.{Contains-none, Contains-first, Contains-more, Contains-cases, Contains-neither}
use Rattle.tydi_reading.proofs.NamedSteps.{Fields, Arguments, Between}
use Rattle.tydi_reading.proofs.NamedSteps as steps
use Rattle.tydi_reading.proofs.StepRules.{leads-rule}

module _ {E T K G S : Type 0} (Good : T → Type 0) (f : Fields K G S) (a : Arguments E Good f) (test : T → Bool) (last : Bool) (separates : T → Bool) (Separator : Form T)
    (between : Between Good test last separates Separator a.name a.Next) where
  abbrev Step : G → G → Form T
  Step = steps.Step Good f a

  abbrev StepUnfit : G → Form T
  StepUnfit = steps.StepUnfit Good f a

  abbrev Turning : G → Turn G → Form T
  Turning = steps.Turning Good f a test last separates Separator between

  abbrev pub Argument : S → K → Form T
  Argument = a.Argument

  -- the value of a whole is given, or it is the default and not given
  abbrev IsGivenOr : S → G → K → Type 0
  IsGivenOr s given k = (f.field k given ≡ Some (f.value s k)) ⊎ ((f.field k given ≡ None) × f.IsDefault s k)

  -- the given arguments are those of the whole
  abbrev Agrees : S → G → Type 0
  Agrees s given = (k : K) (x : f.Value k) → f.field k given ≡ Some x → f.value s k ≡ x

  agrees-or : (s : S) (given : G) (k : K) (x : f.Value k) → f.field k given ≡ Some x → IsGivenOr s given k → f.value s k ≡ x
  agrees-or s given k x is (inl e) = same_Some (f.value s k) x (sym e ∙ is)
  agrees-or s given k x is (inr h) = absurd (none-some x (sym h.0 ∙ is))

  agrees-made : (s : S) (given : G) → f.made given ≡ Some s → Agrees s given
  agrees-made s given is k x e = agrees-or s given k x e (f.made-is given s is k)

  -- ---- a reading is as the form has it

  module _ (s : S) (final : G) (agrees : Agrees s final) where
    -- arguments in this form, that are given in the end and were not before
    record Adds (Written : List K → Form T) (given : G) (ts : List T) : Type 0 where
      pub order : List K
      pub apart : AreApart order
      pub absent : (k : K) → Contains order k → f.field k given ≡ None
      pub held : (k : K) → Contains order k → f.field k final ≡ None → ⊥
      pub others : (k : K) → (Contains order k → ⊥) → f.field k given ≡ f.field k final
      pub written : Written order ts

    abbrev adds_none : (Written : List K → Form T) (given : G) (ts : List T) → given ≡ final → Written [] ts → Adds Written given ts
    adds_none Written given ts is w = record {
      order = [];
      apart = tt;
      absent = λ k c. absurd (Contains-none k c);
      held = λ k c. absurd (Contains-none k c);
      others = λ k _. ap (f.field k) is;
      written = w;
    }

    -- one argument more before such arguments
    adds_more : (Later Written : List K → Form T) (given new : G) (front back ts : List T)
        → ((k : K) (order : List K) → Argument s k front → Later order back → Written (k ∷ order) ts)
        → Step given new front → Adds Later new back → Adds Written given ts
    adds_more Later Written given new front back ts more one all = record {
      order = one.name ∷ all.order;
      apart = (fresh, all.apart);
      absent = λ k c. elim (Contains-cases all.order one.name k c) [
        | inl e ↦ subst (λ j. f.field j given ≡ None) e one.absent
        | inr c ↦ sym (kept k (λ e. fresh (subst (Contains all.order) (sym e) c))) ∙ all.absent k c
      ];
      held = λ k c none. elim (Contains-cases all.order one.name k c) [
        | inl e ↦ none-some one.is (sym (subst (λ j. f.field j final ≡ None) (sym e) none) ∙ now)
        | inr c ↦ all.held k c none
      ];
      others = λ k c. sym (kept k (λ e. c (Contains-first all.order one.name k e))) ∙ all.others k (λ d. c (Contains-more all.order one.name k d));
      written = more one.name all.order (a.to_argument s one.name front (subst (λ x. steps.Spelled Good f a one.name x front) (sym (agrees one.name one.is now)) one.spelled)) all.written;
    }
      where
        there : f.field one.name new ≡ Some one.is
        there = ap (f.field one.name) one.added ∙ f.field-put one.name one.is given

        fresh : Contains all.order one.name → ⊥
        fresh c = none-some one.is (sym (all.absent one.name c) ∙ there)

        now : f.field one.name final ≡ Some one.is
        now = sym (all.others one.name fresh) ∙ there

        kept : (k : K) → (one.name ≡ k → ⊥) → f.field k new ≡ f.field k given
        kept k apart = ap (f.field k) one.added ∙ f.field-put_other k one.name one.is given apart

    -- steps with a separator after each, up to such an end
    adds : (Written : List K → Form T) (Last : G → Form T)
        → ((k : K) (order : List K) (front separator back ts : List T) → ts ≡ front ++ (separator ++ back) → Argument s k front → Separator separator → Written order back → Written (k ∷ order) ts)
        → ((given : G) (ts : List T) → Last given ts → Adds Written given ts)
        → (n : ℕ) (given : G) (ts : List T) → RunsTo Turning Last n given ts → Adds Written given ts
    adds Written Last more ends zero given ts walk = absurd walk
    adds Written Last more ends (suc n) given ts walk =
        ⊎_elim
        (λ stop. ends given ts stop)
        (λ next.
        let b = next.1 in
        let m = b.begins in
        let split = b.all ∙ ap (λ l. l ++ b.back) m.all ∙ append_assoc m.front m.back b.back in
        adds_more Written Written given next.0 m.front b.back ts (λ k order i w. more k order m.front m.back b.back ts split i m.ends w) m.begins
        (adds Written Last more ends n next.0 b.back b.ends))
        walk

    -- ---- with a separator between each two

    separated_more : (k : K) (order : List K) (front separator back ts : List T) → ts ≡ front ++ (separator ++ back) → Argument s k front → Separator separator
        → Separated Separator (Argument s) order back → Separated Separator (Argument s) (k ∷ order) ts
    separated_more k [] front separator back ts is i m none =
        record { front = front; back = separator ++ back; all = is; begins = i; ends = inr (subst Separator (sym (ap (λ l. separator ++ l) none ∙ append-nil separator)) m) }
    separated_more k (next ∷ order) front separator back ts is i m others =
        record { front = front; back = separator ++ back; all = is; begins = i; ends = record { front = separator; back = back; all = refl; begins = m; ends = others } }

    separated_end : (given : G) (ts : List T) → Turning given (done final) ts → Adds (Separated Separator (Argument s)) given ts
    separated_end given ts = ⊎_elim
        (λ o. adds_none (Separated Separator (Argument s)) given ts (sym o.0) o.1)
        (λ one. adds_more (λ order _. order ≡ []) (Separated Separator (Argument s)) given final ts [] ts
        (λ k order i none. subst (λ l. Separated Separator (Argument s) (k ∷ l) ts) (sym none) (record { front = ts; back = []; all = sym (append-nil ts); begins = i; ends = inl refl }))
        one (adds_none (λ order _. order ≡ []) final [] refl refl))

  pub made-of : (final : G) (s : S) (ts : List T) → f.made final ≡ Some s → Loop Turning f.none final ts → Named Separator (Argument s) (f.IsDefault s) ts
  made-of final s ts is walk = record {
    order = all.order;
    apart = all.apart;
    others = λ k out. default k (sym (all.others k out) ∙ f.field-none k) (f.made-is final s is k);
    written = all.written;
  }
    where
      agrees : Agrees s final
      agrees = agrees-made s final is

      all : Adds s final agrees (Separated Separator (Argument s)) f.none ts
      all = adds s final agrees (Separated Separator (Argument s)) (λ given. Turning given (done final)) (separated_more s final agrees) (separated_end s final agrees) walk.0 f.none ts walk.1

      default : (k : K) → f.field k final ≡ None → IsGivenOr s final k → f.IsDefault s k
      default k none (inl e) = absurd (none-some (f.value s k) (sym none ∙ e))
      default k none (inr h) = h.1

  -- ---- a spelling of the form is read

  step-of : (s : S) (k : K) (given : G) (ts : List T) → f.field k given ≡ None → Argument s k ts → Step given (f.put k (f.value s k) given) ts
  step-of s k given ts none i = record { name = k; is = f.value s k; absent = none; added = refl; spelled = a.of_argument s k ts i }

  -- the values of these arguments are given
  abbrev give : S → List K → G → G
  give s [] given = given
  give s (k ∷ order) given = give s order (f.put k (f.value s k) given)

  -- a value that is given of these, or else it is as before
  field-give : (s : S) (order : List K) (given : G) (k : K)
      → (Contains order k × (f.field k (give s order given) ≡ Some (f.value s k))) ⊎ ((Contains order k → ⊥) × (f.field k (give s order given) ≡ f.field k given))
  field-give s [] given k = inr (λ c. Contains-none k c, refl)
  field-give s (j ∷ order) given k = elim (field-give s order (f.put j (f.value s j) given) k) [
    | inl h ↦ inl (Contains-more order j k h.0, h.1)
    | inr h ↦ elim (f.one_or_two j k) [
      | inl e ↦ inl (Contains-first order j k e, h.1 ∙ subst (λ i. f.field i (f.put j (f.value s j) given) ≡ Some (f.value s i)) e (f.field-put j (f.value s j) given))
      | inr apart ↦ inr (Contains-neither order j k apart h.0, h.1 ∙ f.field-put_other k j (f.value s j) given apart)
    ]
  ]

  -- none of these is given
  abbrev AreFree : List K → G → Type 0
  AreFree order given = (k : K) → Contains order k → f.field k given ≡ None

  still : (s : S) (k : K) (order : List K) (given : G) → (Contains order k → ⊥) → AreFree (k ∷ order) given → AreFree order (f.put k (f.value s k) given)
  still s k order given fresh free j c =
      f.field-put_other j k (f.value s k) given (λ e. fresh (subst (Contains order) (sym e) c)) ∙ free j (Contains-more order k j c)

  one_more : (Last : G → Form T) (s : S) (k : K) (given : G) (front separator back ts : List T) → ts ≡ front ++ (separator ++ back) → f.field k given ≡ None
      → Argument s k front → Separator separator → LoopTo Turning Last (f.put k (f.value s k) given) back → LoopTo Turning Last given ts
  one_more Last s k given front separator back ts is none i m more = (
    suc more.0,
    inr (
      f.put k (f.value s k) given,
      record {
        front = front ++ separator;
        back = back;
        all = is ∙ sym (append_assoc front separator back);
        begins = record { front = front; back = separator; all = refl; begins = step-of s k given front none i; ends = m };
        ends = more.1;
      },
    ),
  )

  last_one : (s : S) (k : K) (given : G) (front back ts : List T) → ts ≡ front ++ back → f.field k given ≡ None → Argument s k front
      → LastSeparator Separator back → Loop Turning given (f.put k (f.value s k) given) ts
  last_one s k given front back ts is none i =
      ⊎_elim
      (λ nothing. (1, inl (inr (step-of s k given ts none (subst (Argument s k) (sym (is ∙ ap (λ l. front ++ l) nothing ∙ append-nil front)) i)))))
      (λ m. one_more (λ g. Turning g (done (f.put k (f.value s k) given))) s k given front back [] ts (is ∙ ap (λ l. front ++ l) (sym (append-nil back))) none i m (1, inl (inl (refl, refl))))

  loop-of : (s : S) (order : List K) (given : G) (ts : List T) → AreApart order → AreFree order given
      → Separated Separator (Argument s) order ts → Loop Turning given (give s order given) ts
  loop-of s [] given ts apart free w = (1, inl (inl (refl, w)))
  loop-of s (k ∷ []) given ts apart free w = last_one s k given w.front w.back ts w.all (free k (Contains-first [] k k refl)) w.begins w.ends
  loop-of s (k ∷ next ∷ order) given ts apart free w =
      let o = w.ends in
      one_more (λ g. Turning g (done (give s (k ∷ next ∷ order) given))) s k given w.front o.front o.back ts (w.all ∙ ap (λ l. w.front ++ l) o.all)
      (free k (Contains-first (next ∷ order) k k refl)) w.begins o.begins
      (loop-of s (next ∷ order) (f.put k (f.value s k) given) o.back apart.1 (still s k (next ∷ order) given apart.0 free) o.ends)

  given_or : (s : S) (order : List K) → ((k : K) → (Contains order k → ⊥) → f.IsDefault s k) → (k : K) → IsGivenOr s (give s order f.none) k
  given_or s order others k = elim (field-give s order f.none k) [
    | inl h ↦ inl h.1
    | inr h ↦ inr (h.1 ∙ f.field-none k, others k h.0)
  ]

  read-of : (s : S) (ts : List T) → Named Separator (Argument s) (f.IsDefault s) ts → (given : G) × (f.made given ≡ Some s) × Loop Turning f.none given ts
  read-of s ts w = (
    give s w.order f.none,
    f.is-made (give s w.order f.none) s (given_or s w.order w.others),
    loop-of s w.order f.none ts w.apart (λ k c. f.field-none k) w.written,
  )

  -- ---- with all that is missing it goes on

  -- a value of this name
  abbrev example : (k : K) → f.Value k
  example k = (a.rule k).example.value

  abbrev fill_one : (k : K) → Option (f.Value k) → G → G
  fill_one k None given = f.put k (example k) given
  fill_one k (Some x) given = given

  -- each of these that is missing is given
  abbrev fill : List K → G → G
  fill [] given = given
  fill (k ∷ names) given = fill names (fill_one k (f.field k given) given)

  field-fill_one : (j : K) (given : G) (k : K) (x : f.Value k) (o : Option (f.Value j)) → f.field j given ≡ o → f.field k given ≡ Some x
      → f.field k (fill_one j o given) ≡ Some x
  field-fill_one j given k x (Some y) was is = is
  field-fill_one j given k x None was is = elim (f.one_or_two j k) [
    | inl e ↦ absurd (none-some x (sym (subst (λ i. f.field i given ≡ None) e was) ∙ is))
    | inr apart ↦ f.field-put_other k j (example j) given apart ∙ is
  ]

  field-fill : (names : List K) (given : G) (k : K) (x : f.Value k) → f.field k given ≡ Some x → f.field k (fill names given) ≡ Some x
  field-fill [] given k x is = is
  field-fill (j ∷ names) given k x is = field-fill names (fill_one j (f.field j given) given) k x (field-fill_one j given k x (f.field j given) refl is)

  filled_one : (k : K) (given : G) (o : Option (f.Value k)) → f.field k given ≡ o → (x : f.Value k) × (f.field k (fill_one k o given) ≡ Some x)
  filled_one k given (Some x) was = (x, was)
  filled_one k given None was = (example k, f.field-put k (example k) given)

  filled : (names : List K) (given : G) (k : K) → Contains names k → f.field k (fill names given) ≡ None → ⊥
  filled [] given k c none = Contains-none k c
  filled (j ∷ names) given k c none = elim (Contains-cases names j k c) [
    | inl e ↦ let one = filled_one j given (f.field j given) refl in
        none-some one.0 (sym (subst (λ i. f.field i (fill (j ∷ names) given) ≡ None) (sym e) none) ∙ field-fill names (fill_one j (f.field j given) given) j one.0 one.1)
    | inr more ↦ filled names (fill_one j (f.field j given) given) k more none
  ]

  -- the whole that all missing arguments make
  whole : (given : G) → (s : S) × (f.made (fill f.all given) ≡ Some s)
  whole given = of_made (f.made (fill f.all given)) refl
    where
      of_made : (o : Option S) → f.made (fill f.all given) ≡ o → (s : S) × (f.made (fill f.all given) ≡ Some s)
      of_made (Some s) is = (s, is)
      of_made None is = absurd (f.full (fill f.all given) (λ k. filled f.all given k (f.each k)) is)

  record Mended (given final : G) (ts : List T) : Type 0 where
    pub more : List T
    pub good : All Good more
    pub walk : Loop Turning given final (ts ++ more)

  mended_step : (n : ℕ) (given final new : G) (ts last : List T) → All Good last → Step final new last → Runs Turning n given final ts → Mended given new ts
  mended_step zero given final new ts last good one walk = absurd walk
  mended_step (suc n) given final new ts last good one walk =
      ⊎_elim
      (λ stop. ⊎_elim
      (λ o. record {
        more = last;
        good = good;
        walk = subst (λ g. Loop Turning g new (ts ++ last)) o.0 (subst (λ l. Loop Turning final new (l ++ last)) (sym o.1) (1, inl (inr one)));
      })
      (λ before. record {
        more = between.mark.thing ∷ last;
        good = All-cons Good between.mark.thing last between.mark.good good;
        walk = (
          2,
          inr (
            final,
            record {
              front = ts ++ between.mark.thing ∷ [];
              back = last;
              all = sym (append_assoc ts (between.mark.thing ∷ []) last);
              begins = record { front = ts; back = between.mark.thing ∷ []; all = refl; begins = before; ends = between.mark.there between.mark.thing between.mark.holds };
              ends = inl (inr one);
            },
          ),
        );
      })
      stop)
      (λ next.
      let b = next.1 in
      let m = mended_step n next.0 final new b.back last good one b.ends in
      record {
        more = m.more;
        good = m.good;
        walk = (
          suc m.walk.0,
          inr (
            next.0,
            record { front = b.front; back = b.back ++ m.more; all = ap (λ l. l ++ m.more) b.all ∙ append_assoc b.front b.back m.more; begins = b.begins; ends = m.walk.1 },
          ),
        );
      })
      walk

  mended_one : (k : K) (final : G) (ts : List T) (o : Option (f.Value k)) → f.field k final ≡ o → Loop Turning f.none final ts → Mended f.none (fill_one k o final) ts
  mended_one k final ts (Some x) was walk = record { more = []; good = All-nil Good; walk = subst (Loop Turning f.none final) (sym (append-nil ts)) walk }
  mended_one k final ts None was walk =
      let e = (a.rule k).example in
      mended_step walk.0 f.none final (f.put k (example k) final) ts (a.thing k ∷ e.more) (All-cons Good (a.thing k) e.more (a.good k) e.good)
      (record {
        name = k;
        is = example k;
        absent = was;
        added = refl;
        spelled = record { front = a.thing k ∷ []; back = e.more; all = refl; begins = a.there k (a.thing k) (a.named k); ends = e.spelled };
      })
      walk.1

  mended : (names : List K) (final : G) (ts : List T) → Loop Turning f.none final ts → Mended f.none (fill names final) ts
  mended [] final ts walk = record { more = []; good = All-nil Good; walk = subst (Loop Turning f.none final) (sym (append-nil ts)) walk }
  mended (k ∷ names) final ts walk =
      let one = mended_one k final ts (f.field k final) refl walk in
      let all = mended names (fill_one k (f.field k final) final) (ts ++ one.more) one.walk in
      record {
        more = one.more ++ all.more;
        good = All-append Good one.more all.more one.good all.good;
        walk = subst (Loop Turning f.none (fill (k ∷ names) final)) (append_assoc ts one.more all.more) all.walk;
      }

  mends : (final : G) (ts : List T) → Loop Turning f.none final ts → GoesOn Good (λ s. Named Separator (Argument s) (f.IsDefault s)) ts
  mends final ts walk =
      let m = mended f.all final ts walk in
      let w = whole final in
      record { value = w.0; more = m.more; good = m.good; spelled = made-of (fill f.all final) w.0 (ts ++ m.more) w.1 m.walk }

  -- ---- things that lead to something unfit

  abbrev pub To : K → Form T
  To k = a.Name k ⋯ a.Unfit k

  -- the loop up to an end, with the state in which it ends
  ended : (Last : G → Form T) (n : ℕ) (given : G) (ts : List T) → RunsTo Turning Last n given ts → (final : G) × RunsTo Turning (λ g us. (g ≡ final) × Last g us) n given ts
  ended Last zero given ts walk = absurd walk
  ended Last (suc n) given ts walk =
      ⊎_elim
      (λ stop. (given, inl (refl, stop)))
      (λ next.
      let b = next.1 in
      let more = ended Last n next.0 b.back b.ends in
      (more.0, inr (next.0, record { front = b.front; back = b.back; all = b.all; begins = b.begins; ends = more.1 })))
      walk

  module _ (s : S) (final : G) (agrees : Agrees s final) where
    -- arguments with a separator after each, and then what leads to something unfit in one more
    abbrev Leads : List K → Form T
    Leads order = Each (λ k. Argument s k ⋯ Separator) order ⋯ StepUnfit final

    leads_more : (k : K) (order : List K) (front separator back ts : List T) → ts ≡ front ++ (separator ++ back) → Argument s k front → Separator separator
        → Leads order back → Leads (k ∷ order) ts
    leads_more k order front separator back ts is i m l = record {
      front = (front ++ separator) ++ l.front;
      back = l.back;
      all = is ∙ sym (append_assoc front separator back) ∙ ap (λ r. (front ++ separator) ++ r) l.all ∙ sym (append_assoc (front ++ separator) l.front l.back);
      begins = record {
        front = front ++ separator;
        back = l.front;
        all = refl;
        begins = record { front = front; back = separator; all = refl; begins = i; ends = m };
        ends = l.begins;
      };
      ends = l.ends;
    }

    leads_of : (n : ℕ) (ts : List T) → RunsTo Turning (λ g us. (g ≡ final) × StepUnfit g us) n f.none ts → NamedTo Separator Argument To ts
    leads_of n ts walk =
        let all = adds s final agrees Leads (λ g us. (g ≡ final) × StepUnfit g us) leads_more
        (λ given us d. adds_none s final agrees Leads given us d.0 (record { front = []; back = us; all = refl; begins = refl; ends = subst (λ g. StepUnfit g us) d.0 d.1 }))
        n f.none ts walk in
        let w = all.written in
        record {
          values = s;
          order = all.order;
          next = w.ends.name;
          apart = ((λ c. all.held w.ends.name c w.ends.absent), all.apart);
          leads = record { front = w.front; back = w.back; all = w.all; begins = w.begins; ends = w.ends.leads };
        }

  leads_to : (ts : List T) → LoopTo Turning StepUnfit f.none ts → NamedTo Separator Argument To ts
  leads_to ts walk =
      let e = ended StepUnfit walk.0 f.none ts walk.1 in
      let w = whole e.0 in
      leads_of w.0 e.0 (λ k x is. agrees-made w.0 (fill f.all e.0) w.1 k x (field-fill f.all e.0 k x is)) walk.0 ts e.1

  to_leads : (s : S) (next : K) (order : List K) (given : G) (front back ts : List T) → ts ≡ front ++ back → AreApart order → AreFree order given
      → (Contains order next → ⊥) → f.field next given ≡ None
      → Each (λ k. Argument s k ⋯ Separator) order front → To next back → LoopTo Turning StepUnfit given ts
  to_leads s next [] given front back ts is apart free fresh none w d =
      (1, inl (record { name = next; absent = none; leads = subst (To next) (sym (is ∙ ap (λ l. l ++ back) w)) d }))
  to_leads s next (k ∷ order) given front back ts is apart free fresh none w d =
      let i = w.begins in
      one_more StepUnfit s k given i.front i.back (w.back ++ back) ts
      (is ∙ ap (λ l. l ++ back) w.all ∙ append_assoc w.front w.back back ∙ ap (λ l. l ++ (w.back ++ back)) i.all ∙ append_assoc i.front i.back (w.back ++ back))
      (free k (Contains-first order k k refl)) i.begins i.ends
      (to_leads s next order (f.put k (f.value s k) given) w.back back (w.back ++ back) refl apart.1 (still s k order given apart.0 free)
      (λ c. fresh (Contains-more order k next c)) (f.field-put_other next k (f.value s k) given (λ e. fresh (Contains-first order k next e)) ∙ none) w.ends d)

  to_unfit : (ts : List T) → NamedTo Separator Argument To ts → LoopTo Turning StepUnfit f.none ts
  to_unfit ts d = to_leads d.values d.next d.order f.none d.leads.front d.leads.back ts d.leads.all d.apart.1 (λ k c. f.field-none k) d.apart.0 (f.field-none d.next)
      d.leads.begins d.leads.ends

  -- ---- the bounds

  -- each value is within its bounds
  abbrev pub Within : S → Type 0
  Within s = (k : K) → a.Within k (f.value s k)

  -- the defaults are within their bounds where all other values are
  abbrev pub Defaults : Type 0
  Defaults = (s : S) → ((k : K) → a.Within k (f.value s k) ⊎ f.IsDefault s k) → (k : K) → f.IsDefault s k → a.Within k (f.value s k)

  within_or : (given : G) (s : S) (k : K) → steps.In Good f a k (f.field k given) → IsGivenOr s given k → a.Within k (f.value s k) ⊎ f.IsDefault s k
  within_or given s k inside (inl e) = inl (subst (steps.In Good f a k) e inside)
  within_or given s k inside (inr h) = inr h.1

  within-made : Defaults → (given : G) (s : S) → f.made given ≡ Some s → steps.AreIn Good f a given → Within s
  within-made defaults given s is each k =
      let or : (j : K) → a.Within j (f.value s j) ⊎ f.IsDefault s j = λ j. within_or given s j (each j) (f.made-is given s is j) in
      ⊎_elim (λ w. w) (λ d. defaults s or k d) (or k)

  within-of : (s : S) (k : K) (o : Option (f.Value k)) → ((x : f.Value k) → o ≡ Some x → f.value s k ≡ x) → Within s → steps.In Good f a k o
  within-of s k None agrees within = tt
  within-of s k (Some x) agrees within = subst (a.Within k) (agrees x refl) (within k)

  -- ---- the rule

  abbrev pub Whole : S → Form T
  Whole s = Named Separator (Argument s) (f.IsDefault s)

  checks : Defaults → Checks Good f.made (Loop Turning f.none) (λ _ rest. tells test last rest ≡ true) (steps.AreIn Good f a) Whole (λ _ rest. tells test last rest ≡ true) Within
  checks defaults = record {
    there = λ given s ts is walk. made-of given s ts is walk;
    back = read-of;
    follow = λ given s rest is next. next;
    within = within-made defaults;
    apart = λ given s is within k. within-of s k (f.field k given) (agrees-made s given is k) within;
    mends = λ given ts is walk. mends given ts walk;
  }

  -- a whole of named arguments in any order, up to where the test holds
  pub named-rule : Defaults → IsRule E Good (checked f.made (named test last separates a.name f.is_given a.added f.none)) Whole
      (λ _ rest. tells test last rest ≡ true) Within (NamedTo Separator Argument To)
  named-rule defaults =
      leads-rule Good (checked f.made (named test last separates a.name f.is_given a.added f.none)) Whole (λ _ rest. tells test last rest ≡ true) Within
      (LoopTo Turning StepUnfit f.none) (NamedTo Separator Argument To) leads_to to_unfit
      (checked-rule Good f.made (named test last separates a.name f.is_given a.added f.none) (Loop Turning f.none) (λ _ rest. tells test last rest ≡ true)
      (steps.AreIn Good f a) (LoopTo Turning StepUnfit f.none) Whole (λ _ rest. tells test last rest ≡ true) Within (checks defaults)
      (steps.arguments-rule Good f a test last separates Separator between))
