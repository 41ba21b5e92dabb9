-- Lists of things of one form: readers, under the names of the forms. This project's own.
use Rattle.std.specs.Prelude.{◌≡◌, ◌⊎◌, Bool, true, false, not, List, [], ◌∷◌, ◌++◌, if◌then◌else◌}
use Rattle.tydi_reading.specs.declared.fault.Fault.TheVariants as faults
use Rattle.tydi_reading.specs.Forms.{Form, ◌⋯◌, Nothing}
use Rattle.tydi_reading.specs.Reading.{Reader, took, stopped, sees, tells, rest_of, ◌>>=◌, ◌>>◌, ◌<$>◌, pure, choose, beginning, Turn, again, done, loop}

-- takes the next thing, which is to be such a one
unfoldable pub mark : {E T : Type 0} → (T → Bool) → Reader E T (Unit {0})
mark is = λ ts. if sees is ts then took tt (rest_of ts) else stopped faults.Refused ts

-- ---- one after another

-- items, one after another
abbrev pub Each : {T A : Type 0} → (A → Form T) → List A → Form T
Each Item [] = Nothing
Each Item (item ∷ items) = Item item ⋯ Each Item items

-- items, one after another, and then what leads on
abbrev pub EachTo : {T A : Type 0} → (A → Form T) → Form T → Form T
EachTo {T} {A} Item To ts = (items : List A) × ((Each Item items ⋯ To) ts)

-- each item is such a one
abbrev pub EachIs : {A : Type 0} → (A → Type 0) → List A → Type 0
EachIs Is [] = Unit {0}
EachIs Is (item ∷ items) = Is item × EachIs Is items

-- one item more, or the end of the items
unfoldable pub repeated_turn : {E T A : Type 0} → (T → Bool) → Bool → Reader E T A → List A → Reader E T (Turn (List A))
repeated_turn test last item found = choose test last (pure (done found)) ((λ x. again (found ++ x ∷ [])) <$> item)

-- items up to where a test of the next thing holds
unfoldable pub repeated : {E T A : Type 0} → (T → Bool) → Bool → Reader E T A → Reader E T (List A)
repeated test last item = loop (repeated_turn test last item) []

-- ---- with a separator between each two, and a last one or none

abbrev pub LastSeparator : {T : Type 0} → Form T → Form T
LastSeparator Separator ts = Nothing ts ⊎ Separator ts

-- items with a separator between each two, and a last one or none
abbrev pub Separated : {T A : Type 0} → Form T → (A → Form T) → List A → Form T
Separated Separator Item [] = Nothing
Separated Separator Item (item ∷ []) = Item item ⋯ LastSeparator Separator
Separated Separator Item (item ∷ next ∷ items) = Item item ⋯ Separator ⋯ Separated Separator Item (next ∷ items)

-- items with a separator after each, and then what leads on
abbrev pub SeparatedTo : {T A : Type 0} → Form T → (A → Form T) → Form T → Form T
SeparatedTo Separator Item = EachTo (λ item. Item item ⋯ Separator)

-- after a step: a separator, with which the steps may go on, or their end
unfoldable pub separator_turn : {E T S : Type 0} → (T → Bool) → S → Reader E T (Turn S)
separator_turn separates found = choose separates false ((λ _. again found) <$> mark separates) (pure (done found))

-- one step more and what follows it, or the end of the steps
unfoldable pub steps_turn : {E T S : Type 0} → (T → Bool) → Bool → (T → Bool) → (S → Reader E T S) → S → Reader E T (Turn S)
steps_turn test last separates step s = choose test last (pure (done s)) (step s >>= separator_turn separates)

-- steps with separators, each from one state to the next, up to where a test of the next thing holds
unfoldable pub steps : {E T S : Type 0} → (T → Bool) → Bool → (T → Bool) → (S → Reader E T S) → S → Reader E T S
steps test last separates step = loop (steps_turn test last separates step)

-- one item more, behind those that are found
abbrev pub one_more : {E T A : Type 0} → Reader E T A → List A → Reader E T (List A)
one_more item found = (λ x. found ++ x ∷ []) <$> item

-- items with separators up to where a test of the next thing holds
unfoldable pub separated : {E T A : Type 0} → (T → Bool) → Bool → (T → Bool) → Reader E T A → Reader E T (List A)
separated test last separates item = steps test last separates (one_more item) []

-- ---- joined: one at least, with a joint between each two

abbrev pub Joined : {T A : Type 0} → Form T → (A → Form T) → List A → Form T
Joined Joint Item [] = λ _. ⊥
Joined Joint Item (item ∷ []) = Item item
Joined Joint Item (item ∷ next ∷ items) = Item item ⋯ Joint ⋯ Joined Joint Item (next ∷ items)

-- a joint, and an item after it
abbrev pub after_joint : {E T A : Type 0} → (T → Bool) → Reader E T A → Reader E T A
after_joint joins item = mark joins >> item

-- items with a joint between each two, one at least: one, and then joints with an item each, up to where no joint stands
unfoldable pub joined : {E T A : Type 0} → (T → Bool) → Reader E T A → Reader E T (List A)
joined joins item = item >>= (λ x. loop (repeated_turn (λ t. not (joins t)) true (after_joint joins item)) (x ∷ []))

-- ---- with a separator between each two, and no last one

abbrev pub Listed : {T A : Type 0} → Form T → (A → Form T) → List A → Form T
Listed Separator Item [] = Nothing
Listed Separator Item (item ∷ items) = Joined Separator Item (item ∷ items)

-- items with separators between them: none where a test of the next thing holds, else one at least
unfoldable pub listed : {E T A : Type 0} → (T → Bool) → Bool → (T → Bool) → Reader E T A → Reader E T (List A)
listed test last separates item = choose test last (pure []) (joined separates item)

-- ---- each but the first beginning with such a thing, as one before which white space stands

-- an item that begins so
abbrev pub Beginning : {T A : Type 0} → (T → Bool) → (A → Form T) → A → Form T
Beginning lead Item item ts = Item item ts × (tells lead false ts ≡ true)

abbrev pub Followed : {T A : Type 0} → (T → Bool) → (A → Form T) → List A → Form T
Followed lead Item [] = Nothing
Followed lead Item (item ∷ items) = Item item ⋯ Each (Beginning lead Item) items

-- one item, and then items that begin so, up to where a test of the next thing holds
abbrev pub followed_from : {E T A : Type 0} → (T → Bool) → Bool → (T → Bool) → Reader E T A → Reader E T (List A)
followed_from test last lead item = item >>= (λ x. loop (repeated_turn test last (beginning lead item)) (x ∷ []))

-- the same, or none where the test holds at once
unfoldable pub followed : {E T A : Type 0} → (T → Bool) → Bool → (T → Bool) → Reader E T A → Reader E T (List A)
followed test last lead item = choose test last (pure []) (followed_from test last lead item)
