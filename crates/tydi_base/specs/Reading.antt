-- Readers as functions on lists: a value, or the first fault. This project's own.
use Rattle.std.specs.Prelude.{◌≡◌, Option, Some, None, Result, Ok, Err, MatchOption}

infixl 10 ◌>>=◌
-- goes on with the value, or stops at the fault
abbrev pub ◌>>=◌ : {A B F : Type 0} → Result A F → (A → Result B F) → Result B F
(Ok x) >>= f = f x
(Err e) >>= f = Err e

-- the value, or this fault where there is none
abbrev pub or_fault : {A F : Type 0} → F → Option A → Result A F
or_fault fault None = Err fault
or_fault fault (Some x) = Ok x

-- A function's result, seen by view, equals the result of reading, unless memory ran out. The first argument maps an error to
-- its fault, and want of memory to None.
abbrev pub Gives : {X Y E F : Type 0} → (E → Option F) → (X → Y) → Result X E → Result Y F → Type 0
Gives fault view (Ok x) read = read ≡ Ok (view x)
Gives fault view (Err e) read = MatchOption (fault e) (Unit {0}) (λ f. read ≡ Err f)
