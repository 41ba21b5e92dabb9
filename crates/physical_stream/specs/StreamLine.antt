-- The line of a stream, `stream PATH lanes N dims D level C.C.C.C element E user U forward` or `.. reverse`. This project's own.
use Rattle.std.specs.Prelude.{ℕ, Bool, true, false, ◌==◌, ◌&&◌, nat_le, if◌then◌else◌, List, [], ◌∷◌, ◌++◌, length, Option, Some, None, Result, Ok, Err, codes, decimal, IsTrue, All}
use Rattle.std.specs.List.{slice_index_or, join_with_byte}
use Rattle.std.specs.Str.{bytes_eq}
use Rattle.tydi_base.specs.Reading.{◌>>=◌, or_fault}
use Rattle.tydi_base.specs.Decimal.{decimal_of}
use Rattle.tydi_base.specs.Level.{IsLevel, level_of, level_text}
use Rattle.tydi_base.specs.Name.{is_name}
use Rattle.tydi_base.specs.Path.{path_of, path_text}
use Rattle.tydi_base.specs.Pieces.{words_of}
use Rattle.physical_stream.specs.Params.{Parameters, AreInRange}
use Rattle.physical_stream.specs.declared.head.Head.{Head}
use Rattle.physical_stream.specs.declared.misspelling.Misspelling.{Misspelling}
use Rattle.physical_stream.specs.declared.misspelling.Misspelling.TheVariants as misspellings
use Rattle.physical_stream.specs.declared.misspelling.NotForm.{NotForm}

-- ---- read

-- the error that words are not of their form; want of memory maps to None
abbrev pub misspelling_in : Misspelling → Option (Unit {0})
misspelling_in misspellings.NotForm = Some tt
misspelling_in misspellings.Memory = None

-- the error that words are not of their form
abbrev pub not_form_in : NotForm → Option (Unit {0})
not_form_in e = Some tt

-- a number of a header: a decimal of at most ten digits
unfoldable pub header_number : List ℕ → Result ℕ (Unit {0})
header_number digits = if nat_le (length digits) 10 then or_fault tt (decimal_of digits) else Err tt

-- the numbers are parameters that a stream may have
abbrev pub are_parameters : ℕ → ℕ → ℕ → ℕ → Bool
are_parameters lanes dims element user =
    nat_le 1 lanes && nat_le lanes 128 && nat_le dims 32 && nat_le element 4096 && nat_le user 4096

-- the parameters that five words spell
unfoldable pub params_of : (lanes dims level element user : List ℕ) → Result Parameters (Unit {0})
params_of lanes dims level element user = do
  n ← header_number lanes
  d ← header_number dims
  c ← or_fault tt (level_of level)
  e ← header_number element
  u ← header_number user
  if are_parameters n d e u then Ok (record { lanes = n; dims = d; level = c; element = e; user = u }) else Err tt

-- whether a stream is reversed
unfoldable pub direction_of : List ℕ → Result Bool (Unit {0})
direction_of word = if bytes_eq word (codes "forward") then Ok false else (if bytes_eq word (codes "reverse") then Ok true else Err tt)

-- the word of this number, from 0
abbrev pub nth : List (List ℕ) → ℕ → List ℕ
nth words i = slice_index_or words i []

-- the words of a stream line stand in their places
abbrev pub has_keys : List (List ℕ) → Bool
has_keys words =
    (length words == 13) && bytes_eq (nth words 0) (codes "stream") && bytes_eq (nth words 2) (codes "lanes") && bytes_eq (nth words 4) (codes "dims")
    && bytes_eq (nth words 6) (codes "level") && bytes_eq (nth words 8) (codes "element") && bytes_eq (nth words 10) (codes "user")

-- the head that the words of a stream line spell
unfoldable pub head_of_words : List (List ℕ) → Result Head (Unit {0})
head_of_words words = do
  path ← or_fault tt (path_of (nth words 1))
  params ← params_of (nth words 3) (nth words 5) (nth words 7) (nth words 9) (nth words 11)
  reversed ← direction_of (nth words 12)
  Ok (record { path = path; params = params; reversed = reversed })

-- the head that a stream line spells
unfoldable pub head_of : List ℕ → Result Head (Unit {0})
head_of line = if has_keys (words_of line) then head_of_words (words_of line) else Err tt

-- ---- written

abbrev pub LF : ℕ
LF = 10

-- words with one space between each two
abbrev pub words_text : List (List ℕ) → List ℕ
words_text words = join_with_byte 32 words

abbrev pub direction_text : Bool → List ℕ
direction_text reversed = if reversed then codes "reverse" else codes "forward"

-- the words of a stream line
abbrev pub head_words : Head → List (List ℕ)
head_words head =
    codes "stream" ∷ path_text head.path ∷ codes "lanes" ∷ decimal head.params.lanes ∷ codes "dims" ∷ decimal head.params.dims ∷ codes "level" ∷ level_text head.params.level
    ∷ codes "element" ∷ decimal head.params.element ∷ codes "user" ∷ decimal head.params.user ∷ direction_text head.reversed ∷ []

abbrev pub head_text : Head → List ℕ
head_text head = words_text (head_words head) ++ LF ∷ []

-- a head that a stream may have: names in its path, and parameters in their ranges. Each value of the type `Head` is one.
pub record IsHead (head : Head) : Type 0 where
  pub names : All (λ name. IsTrue (is_name name)) head.path
  pub level : IsLevel head.params.level
  pub range : AreInRange head.params.lanes head.params.dims head.params.element head.params.user
