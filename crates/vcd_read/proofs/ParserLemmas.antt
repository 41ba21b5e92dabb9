-- Steps of a dump, token by token.
use Rattle.std.proofs.Common.{◌≡◌, ◌∙◌, ℕ, suc, Bool, true, false, ◌==◌, ◌≤◌, nat_le, List, [], ◌∷◌, length, map, Option, Some, None, Result, Ok, Err}
use Rattle.std.proofs.Common.{if◌then◌else◌, refl, sym, ap, subst, arith}
use Rattle.std.proofs.lemmas.Bool.{eqb-true}
use Rattle.std.proofs.lemmas.Bool.Decides.{nat_tests}
use Rattle.vcd_read.specs.Dump as dumps
use Rattle.vcd_read.specs.History.{Part, Changes}
use Rattle.vcd_read.specs.Letters.{ReadsStates, letter_of}
use Rattle.vcd_read.specs.Parser.{IsAwaited, StandsFor, Takes, Waits}
use Rattle.vcd_read.specs.Profile.{Awaited, Beginning, Step, VectorCode, finished, provided, reach, scalar, vector, vector_change}
use Rattle.vcd_read.specs.Tokens.{DumpToken}
use Rattle.vcd_read.specs.Wanted.{Wanted}
use Rattle.vcd_read.specs.Words.{filled}
use Rattle.vcd_read.specs.Wires.{has_room, is_one, width_or_none}
use Rattle.vcd_read.specs.declared.parser.Parser.{Parser}
use Rattle.vcd_read.specs.declared.parser.Stage.{Stage}
use Rattle.vcd_read.specs.declared.parser.Stage.TheVariants as stages
use Rattle.vcd_read.specs.declared.parser.Stop.{Stop}
use Rattle.vcd_read.specs.declared.state.State.{State}
use Rattle.vcd_read.proofs.WordLemmas.{length-letters}

-- the test holds
pub granted : (test : Bool) (offset : ℕ) (step : Step) → test ≡ true → provided test offset step ≡ step
unfolding provided
granted test offset step is = ap (λ holds. if holds then step else Err offset) is

-- the test fails
pub refused : (test : Bool) (offset : ℕ) (step : Step) → test ≡ false → provided test offset step ≡ Err offset
unfolding provided
refused test offset step is = ap (λ holds. if holds then step else Err offset) is

-- what is awaited at the stage that it is
pub at-stage : (stage other : Stage) (width : ℕ) (code name : List ℕ) (offset : ℕ) (vector : List ℕ) (parts : List Part) (awaited : Awaited)
    → stage ≡ other → IsAwaited stage width code name offset vector parts awaited
    → IsAwaited other width code name offset vector parts awaited
at-stage stage other width code name offset vector parts awaited is h = subst (λ (s : Stage). IsAwaited s width code name offset vector parts awaited) is h

-- the next token is awaited so
pub waits-takes : (wanted : Wanted) (parts : List Part) (result : Result (Unit {0}) Stop) (old new : Parser) (stage : Stage) (awaited : Awaited)
    (step : Step) → Waits result old new stage
    → dumps.StandsFor wanted old.dump parts → IsAwaited stage old.width old.code old.name old.offset old.vector parts awaited
    → step ≡ reach awaited parts → Takes wanted result new step
waits-takes wanted parts (Ok fine) old new stage awaited step is dump waits reached = (
  record { awaited = awaited; parts = parts },
  (
    reached,
    subst (λ (p : Parser). StandsFor wanted p (record { awaited = awaited; parts = parts }))
        (sym is) (record { dump_is = dump; awaited_is = waits }),
  ),
)
waits-takes wanted parts (Err e) old new stage awaited step is dump waits reached = absurd is

-- ---- vectors

-- a vector of no states
pub empty-vector : (parts : List Part) (offset : ℕ) (states : List State) (letters : List ℕ) → letters ≡ map letter_of states → length letters ≡ 0
    → vector parts offset (Some states) ≡ Err offset
unfolding vector
empty-vector parts offset [] letters is none = refl
empty-vector parts offset (state ∷ more) letters is none = absurd (let long : length letters ≡ suc (length more) = ap length is
    ∙ length-letters (state ∷ more) in omega arith)

-- a vector of some states
pub some-vector : (parts : List Part) (offset : ℕ) (states : List State) (letters : List ℕ) → letters ≡ map letter_of states → (length letters ≡ 0 → ⊥)
    → vector parts offset (Some states) ≡ reach (VectorCode offset states) parts
unfolding vector
some-vector parts offset [] letters is some = absurd (some (ap length is))
some-vector parts offset (state ∷ more) letters is some = refl

-- letters that stand for no states
pub reads-none : (fine : Bool) (found : Option (List State)) (kept : List ℕ) → fine ≡ false → ReadsStates fine found kept → found ≡ None
reads-none true found kept is reads = absurd (let clash = is in cc)
reads-none false None kept is reads = refl
reads-none false (Some states) kept is reads = absurd reads

-- letters that stand for states
pub reads-some : (fine : Bool) (found : Option (List State)) (kept : List ℕ) → fine ≡ true → ReadsStates fine found kept
    → (states : List State) × ((found ≡ Some states) × (kept ≡ map letter_of states))
reads-some false found kept is reads = absurd (let clash = is in cc)
reads-some true None kept is reads = absurd reads
reads-some true (Some states) kept is reads = (states, (refl, reads))

-- a vector that is too long
pub room-refused : (parts : List Part) (offset : ℕ) (states : List State) (token : DumpToken) (letters : List ℕ) → letters ≡ map letter_of states
    → (declared found : Option ℕ) (width : ℕ) → declared ≡ Some width → found ≡ Some width
    → (count : Bool) → count ≡ has_room found (length letters) → count ≡ false → vector_change parts offset states token declared ≡ Err offset
unfolding vector_change
room-refused parts offset states token letters is declared found width wide kept count counted no_room =
    ap (vector_change parts offset states token) wide
    ∙ refused (nat_le (length states) width) offset _ (ap (λ n. nat_le n width) (sym (ap length is ∙ length-letters states))
    ∙ sym (ap (λ o. has_room o (length letters)) kept) ∙ sym counted ∙ no_room)

-- a vector that is not too long
pub room-granted : (parts : List Part) (offset : ℕ) (states : List State) (token : DumpToken) (letters : List ℕ) → letters ≡ map letter_of states
    → (declared found : Option ℕ) (width : ℕ) → declared ≡ Some width → found ≡ Some width
    → has_room found (length letters) ≡ true → vector_change parts offset states token declared ≡ reach Beginning (Changes token.bytes (filled width states)
    ∷ parts)
unfolding vector_change
room-granted parts offset states token letters is declared found width wide kept room =
    ap (vector_change parts offset states token) wide
    ∙ granted (nat_le (length states) width) offset _ (ap (λ n. nat_le n width) (sym (ap length is ∙ length-letters states))
    ∙ sym (ap (λ o. has_room o (length letters)) kept) ∙ room)

-- so many states are not more than the bits
pub room-le : (found : Option ℕ) (count : ℕ) → has_room found count ≡ true → count ≤ width_or_none found
room-le None count is = absurd (let clash = is in cc)
room-le (Some width) count is = grind (arith, nat_tests, is)

-- ---- scalars

pub scalar-other : (parts : List Part) (offset : ℕ) (code : List ℕ) (state : State) (found : Option ℕ) → is_one found ≡ false
    → scalar parts offset code state found ≡ Err offset
unfolding scalar
scalar-other parts offset code state None is = refl
scalar-other parts offset code state (Some width) is = refused (width == 1) offset _ is

pub scalar-one : (parts : List Part) (offset : ℕ) (code : List ℕ) (state : State) (found : Option ℕ) → is_one found ≡ true
    → scalar parts offset code state found ≡ reach Beginning (Changes code (state ∷ []) ∷ parts)
unfolding scalar
scalar-one parts offset code state None is = absurd (let clash = is in cc)
scalar-one parts offset code state (Some width) is = granted (width == 1) offset _ is

pub one-width : (found : Option ℕ) → is_one found ≡ true → found ≡ Some 1
one-width None is = absurd (let clash = is in cc)
one-width (Some width) is = ap (λ (n : ℕ). Some n) (eqb-true width 1 is)

-- ---- the end

-- a text that ends inside a part ends early
pub finished-early : (stage : Stage) (width : ℕ) (code name : List ℕ) (offset : ℕ) (vector : List ℕ) (parts : List Part) (awaited : Awaited) (size : ℕ)
    → (stage ≡ stages.Beginning → ⊥)
    → IsAwaited stage width code name offset vector parts awaited → finished size awaited parts ≡ Err size
unfolding finished
finished-early stages.Beginning width code name offset vector parts awaited size other is = absurd (other refl)
finished-early stages.SectionEnd width code name offset vector parts awaited size other is = ap (λ (a : Awaited). finished size a parts) is
finished-early stages.ScopeKind width code name offset vector parts awaited size other is = ap (λ (a : Awaited). finished size a parts) is
finished-early stages.ScopeName width code name offset vector parts awaited size other is = ap (λ (a : Awaited). finished size a parts) is
finished-early stages.ScopeEnd width code name offset vector parts awaited size other is = ap (λ (a : Awaited). finished size a parts) is
finished-early stages.UpscopeEnd width code name offset vector parts awaited size other is = ap (λ (a : Awaited). finished size a parts) is
finished-early stages.VarKind width code name offset vector parts awaited size other is = ap (λ (a : Awaited). finished size a parts) is.0
finished-early stages.VarWidth width code name offset vector parts awaited size other is = ap (λ (a : Awaited). finished size a parts) is.0
finished-early stages.VarCode width code name offset vector parts awaited size other is = ap (λ (a : Awaited). finished size a parts) is.0
finished-early stages.VarName width code name offset vector parts awaited size other is = ap (λ (a : Awaited). finished size a parts) is.0
finished-early stages.VarRange width code name offset vector parts awaited size other is = ap (λ (a : Awaited). finished size a parts) is.0
finished-early stages.VarEnd width code name offset vector parts awaited size other is = ap (λ (a : Awaited). finished size a parts) is.0
finished-early stages.DefinitionsEnd width code name offset vector parts awaited size other is = ap (λ (a : Awaited). finished size a parts) is
finished-early stages.VectorCode width code name offset vector parts awaited size other is = ap (λ (a : Awaited). finished size a parts) is.is
finished-early stages.SkippedCode width code name offset vector parts awaited size other is = ap (λ (a : Awaited). finished size a parts) is
