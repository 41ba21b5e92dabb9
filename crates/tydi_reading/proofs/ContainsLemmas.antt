-- Lists of names: what stands in them, and that each stands once.
use Rattle.std.proofs.Common.{◌≡◌, ◌⊎◌, inl, inr, ℕ, zero, suc, ◌<◌, Bool, true, false, cond, List, [], ◌∷◌, ◌++◌, get_or, refl, sym, ap, ◌∙◌, subst, append_assoc, arith}
use Rattle.std.proofs.lemmas.List.Elements.{Contains-append_right, Contains-append_cases}
use Rattle.std.specs.List.{Contains}
use denote.Enum.Bare.{Bare, sameb, same_true, same_false}
use denote.Enum.Declared.{Declared}
use Rattle.tydi_reading.specs.Named.{AreApart, Named}
use Rattle.tydi_reading.specs.Forms.{Form, ◌⋯◌}
use Rattle.tydi_reading.specs.Lists.{Separated}

-- two values of an enum with no fields are one or two
abbrev pub decided : (D : Declared) → Bare D.parts → (a b : D.D) (test : Bool) → sameb D a b ≡ test → (a ≡ b) ⊎ (a ≡ b → ⊥)
decided D bare a b true is = inl (same_true D bare a b is)
decided D bare a b false is = inr (same_false D a b is)

abbrev pub same_or_not : (D : Declared) → Bare D.parts → (a b : D.D) → (a ≡ b) ⊎ (a ≡ b → ⊥)
same_or_not D bare a b = decided D bare a b (sameb D a b) refl

module _ {K : Type 0} where
  pub Contains-none : (a : K) → Contains [] a → ⊥
  Contains-none a h = absurd (omega (arith, h.1))

  pub Contains-first : (order : List K) (b a : K) → b ≡ a → Contains (b ∷ order) a
  Contains-first order b a e = (0, omega arith, e)

  pub Contains-more : (order : List K) (b a : K) → Contains order a → Contains (b ∷ order) a
  Contains-more order b a h = Contains-append_right (b ∷ []) order a h

  Contains-one : (b a : K) (k : ℕ) → k < 1 → get_or (b ∷ []) k a ≡ a → b ≡ a
  Contains-one b a zero lt e = e
  Contains-one b a (suc k) lt e = absurd (omega arith)

  pub Contains-cases : (order : List K) (b a : K) → Contains (b ∷ order) a → (b ≡ a) ⊎ Contains order a
  Contains-cases order b a h = elim (Contains-append_cases (b ∷ []) order a h) [
    | inl c ↦ inl (Contains-one b a c.0 (omega (arith, c.1)) c.2)
    | inr c ↦ inr c
  ]

  pub Contains-neither : (order : List K) (b a : K) → (b ≡ a → ⊥) → (Contains order a → ⊥) → Contains (b ∷ order) a → ⊥
  Contains-neither order b a apart out c = elim (Contains-cases order b a c) [ inl e ↦ apart e | inr d ↦ out d ]

  -- ---- where two names are one or two

  module _ (one_or_two : (a b : K) → (a ≡ b) ⊎ (a ≡ b → ⊥)) where
    pub Contains-or : (order : List K) (a : K) → Contains order a ⊎ (Contains order a → ⊥)
    Contains-or [] a = inr (Contains-none a)
    Contains-or (b ∷ order) a = elim (Contains-or order a) [
      | inl c ↦ inl (Contains-more order b a c)
      | inr out ↦ elim (one_or_two b a) [
        | inl e ↦ inl (Contains-first order b a e)
        | inr apart ↦ inr (Contains-neither order b a apart out)
      ]
    ]

    abbrev is_same : {A B : Type 0} → A ⊎ B → Bool
    is_same (inl e) = true
    is_same (inr apart) = false

    -- a name stands in a list, by a test of each
    abbrev pub has : List K → K → Bool
    has [] a = false
    has (b ∷ order) a = cond (is_same (one_or_two b a)) true (has order a)

    -- each of these stands once, by tests
    abbrev pub are_apart : List K → Bool
    are_apart [] = true
    are_apart (a ∷ order) = cond (has order a) false (are_apart order)

    pub has-Contains : (order : List K) (a : K) → has order a ≡ true → Contains order a
    has-Contains [] a is = absurd cc
    has-Contains (b ∷ order) a is = by_test (one_or_two b a) (has-Contains order a) is
      where
        by_test : (s : (b ≡ a) ⊎ (b ≡ a → ⊥)) → (has order a ≡ true → Contains order a) → cond (is_same s) true (has order a) ≡ true → Contains (b ∷ order) a
        by_test (inl e) later is = Contains-first order b a e
        by_test (inr apart) later is = Contains-more order b a (later is)

    lacks-Contains : (order : List K) (a : K) → has order a ≡ false → Contains order a → ⊥
    lacks-Contains [] a is = Contains-none a
    lacks-Contains (b ∷ order) a is = by_test (one_or_two b a) (lacks-Contains order a) is
      where
        by_test : (s : (b ≡ a) ⊎ (b ≡ a → ⊥)) → (has order a ≡ false → Contains order a → ⊥) → cond (is_same s) true (has order a) ≡ false → Contains (b ∷ order) a → ⊥
        by_test (inl e) later is = absurd (let no : true ≡ false = is in cc)
        by_test (inr apart) later is = Contains-neither order b a apart (later is)

    pub are_apart-apart : (order : List K) → are_apart order ≡ true → AreApart order
    are_apart-apart [] is = tt
    are_apart-apart (a ∷ order) is = by_test (has order a) refl (are_apart-apart order) is
      where
        by_test : (b : Bool) → has order a ≡ b → (are_apart order ≡ true → AreApart order) → cond b false (are_apart order) ≡ true → AreApart (a ∷ order)
        by_test true there later is = absurd (let no : false ≡ true = is in cc)
        by_test false lacks later is = (lacks-Contains order a lacks, later is)

-- ---- one of some items

-- some things among these are of this form
pub record Inside {T : Type 0} (F : Form T) (ts : List T) : Type 0 where
  pub front : List T
  pub middle : List T
  pub back : List T
  pub all : ts ≡ front ++ (middle ++ back)
  pub spelled : F middle

module _ {T K : Type 0} (Separator : Form T) (Item : K → Form T) (a : K) where
  first_inside : (b : K) (Second : Form T) (ts : List T) → (Item b ⋯ Second) ts → b ≡ a → Inside (Item a) ts
  first_inside b Second ts s is = record { front = []; middle = s.front; back = s.back; all = s.all; spelled = subst (λ k. Item k s.front) is s.begins }

  -- an item of a list is spelled
  pub Separated-inside : (order : List K) (ts : List T) → Separated Separator Item order ts → Contains order a → Inside (Item a) ts
  Separated-inside [] ts s c = absurd (Contains-none a c)
  Separated-inside (b ∷ []) ts s c = elim (Contains-cases [] b a c) [ inl e ↦ first_inside b _ ts s e | inr none ↦ absurd (Contains-none a none) ]
  Separated-inside (b ∷ next ∷ order) ts s c = elim (Contains-cases (next ∷ order) b a c) [
    | inl e ↦ first_inside b _ ts s e
    | inr more ↦ let o = s.ends in let i = Separated-inside (next ∷ order) o.back o.ends more in
        record {
          front = s.front ++ (o.front ++ i.front);
          middle = i.middle;
          back = i.back;
          all = s.all ∙ ap (λ l. s.front ++ l) (o.all ∙ ap (λ l. o.front ++ l) i.all ∙ sym (append_assoc o.front i.front (i.middle ++ i.back)))
              ∙ sym (append_assoc s.front (o.front ++ i.front) (i.middle ++ i.back));
          spelled = i.spelled;
        }
  ]

-- each argument is written, or has its default
pub named-or : {T K : Type 0} (one_or_two : (a b : K) → (a ≡ b) ⊎ (a ≡ b → ⊥)) (Separator : Form T) (Argument : K → Form T) (IsDefault : K → Type 0) (ts : List T)
    → Named Separator Argument IsDefault ts → (k : K) → Inside (Argument k) ts ⊎ IsDefault k
named-or one_or_two Separator Argument IsDefault ts s k = elim (Contains-or one_or_two s.order k) [
  | inl c ↦ inl (Separated-inside Separator Argument k s.order ts s.written c)
  | inr out ↦ inr (s.others k out)
]
