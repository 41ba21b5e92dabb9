-- The names of signals: each spells the instance, if any, the port, the path of the stream and the signal, in one way.
use Rattle.std.proofs.Common.{◌≡◌, ℕ, zero, suc, IsTrue, IfSome, List, [], ◌∷◌, ◌++◌, Option, Some, None, bytes_eq, if◌then◌else◌, append_assoc, append-nil, codes, refl, sym, ap, ◌∙◌, subst}
use Rattle.std.specs.List.{All, flat_map, join_with_byte}
use Rattle.std.proofs.lemmas.Grind.{flat_map-append}
use Rattle.std.proofs.lemmas.List.Elements.{All-append, All-cons, All-nil}
use Rattle.tydi_base.specs.Name.{is_name}
use Rattle.tydi_base.specs.Path.{PathsAreReadAsSpelled, path_of, path_text}
use Rattle.signal_layout.specs.declared.signal.Signal.{Signal}
use Rattle.signal_layout.specs.declared.signal.Signal.TheVariants as signals
use Rattle.vhdl_text.specs.Text.{signal_word}
use Rattle.vhdl_writer.specs.Names.{name_at, name_in, quoted, stem_of}

-- ---- lists

abbrev head_or : {A : Type 0} → A → List A → A
head_or d [] = d
head_or d (x ∷ xs) = x

abbrev tail_of : {A : Type 0} → List A → List A
tail_of [] = []
tail_of (x ∷ xs) = xs

heads-same : {A : Type 0} (x y : A) (xs ys : List A) → x ∷ xs ≡ y ∷ ys → x ≡ y
heads-same x y xs ys e = ap (head_or x) e

tails-same : {A : Type 0} (x y : A) (xs ys : List A) → x ∷ xs ≡ y ∷ ys → xs ≡ ys
tails-same x y xs ys e = ap tail_of e

not-nil : {A : Type 0} (x : A) (xs : List A) → ◌≡◌ {A = List A} [] (x ∷ xs) → ⊥
not-nil x xs e = cc

-- the last thing, and those before it
last-same : {A : Type 0} (xs ys : List A) (x y : A) → xs ++ x ∷ [] ≡ ys ++ y ∷ [] → (xs ≡ ys) × (x ≡ y)
last-same [] [] x y e = (refl, heads-same x y [] [] e)
last-same [] (z ∷ []) x y e = absurd (not-nil y [] (tails-same x z [] (y ∷ []) e))
last-same [] (z ∷ w ∷ ys) x y e = absurd (not-nil w (ys ++ y ∷ []) (tails-same x z [] (w ∷ ys ++ y ∷ []) e))
last-same (z ∷ []) [] x y e = absurd (not-nil x [] (sym (tails-same z y (x ∷ []) [] e)))
last-same (z ∷ w ∷ xs) [] x y e = absurd (not-nil w (xs ++ x ∷ []) (sym (tails-same z y (w ∷ xs ++ x ∷ []) [] e)))
last-same (z ∷ xs) (w ∷ ys) x y e =
    let rest = last-same xs ys x y (tails-same z w (xs ++ x ∷ []) (ys ++ y ∷ []) e) in
    (ap (λ l. z ∷ l) rest.0 ∙ ap (λ v. v ∷ ys) (heads-same z w (xs ++ x ∷ []) (ys ++ y ∷ []) e), rest.1)

-- ---- spots

-- what the name of a signal spells
pub record Spot : Type 0 where
  pub instance : Option (List ℕ)
  pub port : List ℕ
  pub path : List (List ℕ)
  pub signal : Signal

abbrev pub text_at : Spot → List ℕ
text_at spot = quoted (name_at spot.instance (name_in (stem_of spot.port spot.path) spot.signal))

-- its names are names
pub record IsNamed (spot : Spot) : Type 0 where
  pub instance : IfSome spot.instance (λ name. IsTrue (is_name name))
  pub port : IsTrue (is_name spot.port)
  pub path : All (λ name. IsTrue (is_name name)) spot.path

abbrev inner_names : List ℕ → List (List ℕ) → Signal → List (List ℕ)
inner_names port path signal = port ∷ path ++ signal_word signal ∷ []

abbrev names_from : Option (List ℕ) → List (List ℕ) → List (List ℕ)
names_from None names = names
names_from (Some instance) names = instance ∷ names

-- its names, one after another, the signal last
abbrev names_at : Spot → List (List ℕ)
names_at spot = names_from spot.instance (inner_names spot.port spot.path spot.signal)

-- ---- the names that a text spells

joined-dotted : (first : List ℕ) (more : List (List ℕ)) → join_with_byte 46 (first ∷ more) ≡ first ++ flat_map (λ name. 46 ∷ name) more
joined-dotted first [] = sym (append-nil first)
joined-dotted first (next ∷ more) = ap (λ l. first ++ (46 ∷ l)) (joined-dotted next more)

-- the name of a signal of a port
inner-spelled : (port : List ℕ) (path : List (List ℕ)) (word : List ℕ)
    → stem_of port path ++ codes "." ++ word ≡ port ++ flat_map (λ name. 46 ∷ name) (path ++ word ∷ [])
inner-spelled port path word =
    append_assoc (stem_of port path) (codes ".") word
    ∙ append_assoc port (flat_map (λ name. 46 ∷ name) path) (46 ∷ word)
    ∙ ap (λ l. port ++ l)
    (ap (λ l. flat_map (λ name. 46 ∷ name) path ++ l) (sym (append-nil (46 ∷ word))) ∙ sym (flat_map-append (λ (name : List ℕ). 46 ∷ name) path (word ∷ [])))

all-spelled : (spot : Spot) → name_at spot.instance (name_in (stem_of spot.port spot.path) spot.signal) ≡ join_with_byte 46 (names_at spot)
all-spelled spot = by spot.instance
  where
    inner : name_in (stem_of spot.port spot.path) spot.signal ≡ join_with_byte 46 (inner_names spot.port spot.path spot.signal)
    inner = inner-spelled spot.port spot.path (signal_word spot.signal) ∙ sym (joined-dotted spot.port (spot.path ++ signal_word spot.signal ∷ []))

    by : (instance : Option (List ℕ)) → name_at instance (name_in (stem_of spot.port spot.path) spot.signal) ≡ join_with_byte 46 (names_from instance (inner_names spot.port spot.path spot.signal))
    by None = inner
    by (Some name) = append_assoc name (codes ".") (name_in (stem_of spot.port spot.path) spot.signal) ∙ ap (λ l. name ++ (46 ∷ l)) inner

-- ---- they are names

word-named : (signal : Signal) → IsTrue (is_name (signal_word signal))
word-named signals.Valid = refl
word-named signals.Ready = refl
word-named signals.Content = refl
word-named signals.Last = refl
word-named signals.Stai = refl
word-named signals.Endi = refl
word-named signals.Strb = refl
word-named signals.User = refl

abbrev Named : List ℕ → Type 0
Named name = IsTrue (is_name name)

inner-named : (spot : Spot) → IsNamed spot → All (λ name. IsTrue (is_name name)) (inner_names spot.port spot.path spot.signal)
inner-named spot named =
    All-cons Named spot.port (spot.path ++ signal_word spot.signal ∷ []) named.port
    (All-append Named spot.path (signal_word spot.signal ∷ []) named.path (All-cons Named (signal_word spot.signal) [] (word-named spot.signal) (All-nil Named)))

all-named : (spot : Spot) → IsNamed spot → All (λ name. IsTrue (is_name name)) (names_at spot)
all-named spot named = by spot.instance named.instance
  where
    by : (instance : Option (List ℕ)) → IfSome instance (λ name. IsTrue (is_name name)) → All (λ name. IsTrue (is_name name)) (names_from instance (inner_names spot.port spot.path spot.signal))
    by None is = inner-named spot named
    by (Some name) is = All-cons Named name (inner_names spot.port spot.path spot.signal) is (inner-named spot named)

-- ---- one name, one spot

unquoted : (one other : List ℕ) → quoted one ≡ quoted other → one ≡ other
unquoted one other e = (last-same one other 92 92 (tails-same 92 92 (one ++ 92 ∷ []) (other ++ 92 ∷ []) e)).0

same_list : (one other : List (List ℕ)) → ◌≡◌ {A = Option (List (List ℕ))} (Some one) (Some other) → one ≡ other
same_list one other e = cc

spot-text : (spot : Spot) → path_text (names_at spot) ≡ join_with_byte 46 (names_at spot)
spot-text spot = by spot.instance
  where
    by : (instance : Option (List ℕ)) → path_text (names_from instance (inner_names spot.port spot.path spot.signal)) ≡ join_with_byte 46 (names_from instance (inner_names spot.port spot.path spot.signal))
    by None = refl
    by (Some name) = refl

-- one text spells one list of names
names-same : PathsAreReadAsSpelled → (one other : Spot) → IsNamed one → IsNamed other → text_at one ≡ text_at other → names_at one ≡ names_at other
names-same reads one other named named_other e =
    same_list (names_at one) (names_at other)
    (sym (reads (names_at one) (all-named one named)) ∙ ap path_of text ∙ reads (names_at other) (all-named other named_other))
  where
    text : path_text (names_at one) ≡ path_text (names_at other)
    text =
        spot-text one ∙ sym (all-spelled one)
        ∙ unquoted (name_at one.instance (name_in (stem_of one.port one.path) one.signal)) (name_at other.instance (name_in (stem_of other.port other.path) other.signal)) e
        ∙ all-spelled other ∙ sym (spot-text other)

-- ---- the parts of a spot

-- the signal of a word
abbrev signal_of : List ℕ → Option Signal
signal_of word =
    if bytes_eq word (codes "valid") then Some signals.Valid
    else (if bytes_eq word (codes "ready") then Some signals.Ready
    else (if bytes_eq word (codes "data") then Some signals.Content
    else (if bytes_eq word (codes "last") then Some signals.Last
    else (if bytes_eq word (codes "stai") then Some signals.Stai
    else (if bytes_eq word (codes "endi") then Some signals.Endi
    else (if bytes_eq word (codes "strb") then Some signals.Strb
    else Some signals.User))))))

signal-told : (signal : Signal) → signal_of (signal_word signal) ≡ Some signal
signal-told signals.Valid = refl
signal-told signals.Ready = refl
signal-told signals.Content = refl
signal-told signals.Last = refl
signal-told signals.Stai = refl
signal-told signals.Endi = refl
signal-told signals.Strb = refl
signal-told signals.User = refl

same_signal : (one other : Signal) → ◌≡◌ {A = Option Signal} (Some one) (Some other) → one ≡ other
same_signal one other e = cc

words-same : (one other : Signal) → signal_word one ≡ signal_word other → one ≡ other
words-same one other e = same_signal one other (sym (signal-told one) ∙ ap signal_of e ∙ signal-told other)

-- two spots are one
pub record IsSameSpot (one other : Spot) : Type 0 where
  pub instance : one.instance ≡ other.instance
  pub port : one.port ≡ other.port
  pub path : one.path ≡ other.path
  pub signal : one.signal ≡ other.signal

-- the port of the one, which is no instance's, has another name than the instance of the other
pub record IsOutside (one other : Spot) : Type 0 where
  pub apart : (name : List ℕ) → one.instance ≡ None → other.instance ≡ Some name → one.port ≡ name → ⊥

inner-same : (one other : Spot) → inner_names one.port one.path one.signal ≡ inner_names other.port other.path other.signal → one.instance ≡ other.instance → IsSameSpot one other
inner-same one other e instance =
    let rest = last-same one.path other.path (signal_word one.signal) (signal_word other.signal)
    (tails-same one.port other.port (one.path ++ signal_word one.signal ∷ []) (other.path ++ signal_word other.signal ∷ []) e) in
    record {
      instance = instance;
      port = heads-same one.port other.port (one.path ++ signal_word one.signal ∷ []) (other.path ++ signal_word other.signal ∷ []) e;
      path = rest.0;
      signal = words-same one.signal other.signal rest.1;
    }

-- one list of names is that of one spot
spots-same : (one other : Spot) → IsOutside one other → IsOutside other one → names_at one ≡ names_at other → IsSameSpot one other
spots-same one other out in_turn e = by one.instance other.instance refl refl e
  where
    by : (x y : Option (List ℕ)) → one.instance ≡ x → other.instance ≡ y → names_from x (inner_names one.port one.path one.signal) ≡ names_from y (inner_names other.port other.path other.signal) → IsSameSpot one other
    by None None a b e = inner-same one other e (a ∙ sym b)
    by (Some name) (Some other_name) a b e =
        inner-same one other (tails-same name other_name (inner_names one.port one.path one.signal) (inner_names other.port other.path other.signal) e)
        (a ∙ ap (λ (n : List ℕ). Some n) (heads-same name other_name (inner_names one.port one.path one.signal) (inner_names other.port other.path other.signal) e) ∙ sym b)
    by None (Some name) a b e = absurd (out.apart name a b (heads-same one.port name (one.path ++ signal_word one.signal ∷ []) (inner_names other.port other.path other.signal) e))
    by (Some name) None a b e =
        absurd (in_turn.apart name b a (sym (heads-same name other.port (inner_names one.port one.path one.signal) (other.path ++ signal_word other.signal ∷ []) e)))

-- one text is that of one spot
pub texts-same : PathsAreReadAsSpelled → (one other : Spot) → IsNamed one → IsNamed other → IsOutside one other → IsOutside other one → text_at one ≡ text_at other → IsSameSpot one other
texts-same reads one other named named_other out in_turn e = spots-same one other out in_turn (names-same reads one other named named_other e)
