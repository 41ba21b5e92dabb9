-- What is known after the first parts of a value change dump. A history is these parts, the last of them first (IEEE 1364, value change
-- dump files; which signals are looked for is this project's own).
use Rattle.std.specs.Prelude.{ℕ, ◌-◌, Bool, true, false, ◌==◌, ◌&&◌, not, nat_lt, if◌then◌else◌, List, [], ◌∷◌, ◌++◌, take, length, Option, Some, None, codes}
use Rattle.std.specs.Cmp.Lexicographic.{pointwise}
use Rattle.std.specs.Option.{option_or}
use Rattle.std.specs.Str.{bytes_eq}
use Rattle.vcd_read.specs.Words.{bare_name, word_of}
use Rattle.vcd_read.specs.declared.state.State.{State}

-- a part that says something: a scope opens or closes, a code is declared for a signal of this name, the declarations end, a time stamp
-- stands at this place, the signal of a code changes
pub data Part : Type 0 where
  Opens : (name : List ℕ) → Part
  Closes : Part
  Declares : (width : ℕ) → (code name : List ℕ) → Part
  Ends : Part
  Stamps : (offset time : ℕ) → Part
  Changes : (code : List ℕ) → (states : List State) → Part

-- the declarations have ended
abbrev pub has_ended : List Part → Bool
has_ended [] = false
has_ended (Ends ∷ before) = true
has_ended (part ∷ before) = has_ended before

-- the scopes that are open, the outermost first
abbrev pub open_scopes : List Part → List (List ℕ)
open_scopes [] = []
open_scopes (Opens name ∷ before) = open_scopes before ++ name ∷ []
open_scopes (Closes ∷ before) = take (length (open_scopes before) - 1) (open_scopes before)
open_scopes (part ∷ before) = open_scopes before

-- exactly the scope of this path is open
abbrev pub is_inside : List (List ℕ) → List Part → Bool
is_inside scope before = pointwise bytes_eq (open_scopes before) scope

-- the width with which a code is declared
abbrev pub declared_width : List ℕ → List Part → Option ℕ
declared_width code [] = None
declared_width code (Declares width other name ∷ before) = if bytes_eq code other then Some width else declared_width code before
declared_width code (part ∷ before) = declared_width code before

-- this code, where the test holds
abbrev pub code_if : Bool → List ℕ → Option (List ℕ)
code_if test code = if test then Some code else None

-- the code of the first signal of this name that is declared in exactly this scope
abbrev pub signal_in : List (List ℕ) → List ℕ → List Part → Option (List ℕ)
signal_in scope name [] = None
signal_in scope name (Declares width code other ∷ before) =
    option_or (signal_in scope name before) (code_if (is_inside scope before && bytes_eq name (bare_name other)) code)
signal_in scope name (part ∷ before) = signal_in scope name before

-- the code of the first signal of width 1 and of the name `clk` that is declared there
abbrev pub clock_in : List (List ℕ) → List Part → Option (List ℕ)
clock_in scope [] = None
clock_in scope (Declares width code other ∷ before) =
    option_or (clock_in scope before) (code_if (is_inside scope before && bytes_eq other (codes "clk") && width == 1) code)
clock_in scope (part ∷ before) = clock_in scope before

-- ---- times

-- the time of the last time stamp
abbrev pub time_of : List Part → Option ℕ
time_of [] = None
time_of (Stamps offset time ∷ before) = Some time
time_of (part ∷ before) = time_of before

-- a time is below the one before it
abbrev pub is_back : Option ℕ → ℕ → Bool
is_back None time = false
is_back (Some last) time = nat_lt time last

abbrev pub back_at : Bool → ℕ → Option ℕ
back_at test offset = if test then Some offset else None

-- the place of the first time stamp that is below the one before it
abbrev pub time_back : List Part → Option ℕ
time_back [] = None
time_back (Stamps offset time ∷ before) = option_or (time_back before) (back_at (is_back (time_of before) time) offset)
time_back (part ∷ before) = time_back before

-- ---- values

-- the states of the last change of a code
abbrev pub states_at : List ℕ → List Part → Option (List State)
states_at code [] = None
states_at code (Changes other states ∷ before) = if bytes_eq code other then Some states else states_at code before
states_at code (part ∷ before) = states_at code before

unfoldable pub known : Option (List State) → Option (List Bool)
known None = None
known (Some states) = word_of states

-- the word of a code: none where a state of its last change is no bit, or where it has not changed, since each state is x then
abbrev pub word_at : List ℕ → List Part → Option (List Bool)
word_at code before = known (states_at code before)

-- ---- blocks

-- a time stamp is of the time of the one before it, so that it begins no block
abbrev pub is_same_time : Option ℕ → ℕ → Bool
is_same_time None time = false
is_same_time (Some last) time = last == time

-- the parts before the block that these parts end in: a block is the changes from one time to the next
abbrev pub before_block : List Part → List Part
before_block [] = []
before_block (Stamps offset time ∷ before) = if is_same_time (time_of before) time then before_block before else before
before_block (part ∷ before) = before_block before

-- the word is this bit alone
abbrev pub is_bit : Bool → Option (List Bool) → Bool
is_bit bit (Some (only ∷ [])) = if bit then only else not only
is_bit bit word = false

-- a clock of this code is 0 before the block and 1 after it
abbrev pub rises : List ℕ → List Part → Bool
rises clock before = is_bit false (word_at clock (before_block before)) && is_bit true (word_at clock before)

-- the parts before the block, where the clock rises in it
abbrev pub edge : List ℕ → List Part → List (List Part)
edge clock before = if rises clock before then before_block before ∷ [] else []

-- for each block that has ended and in which the clock rises, the parts before it
abbrev pub edges_before : List ℕ → List Part → List (List Part)
edges_before clock [] = []
edges_before clock (Stamps offset time ∷ before) = if is_same_time (time_of before) time then edges_before clock before else edges_before clock before ++
    edge clock before
edges_before clock (part ∷ before) = edges_before clock before

-- the same at the end of the text
abbrev pub edges : List ℕ → List Part → List (List Part)
edges clock parts = edges_before clock parts ++ edge clock parts
