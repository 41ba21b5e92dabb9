-- What is kept of the signals of the scope.
use Rattle.std.proofs.Common.{◌≡◌, ◌∙◌, ℕ, ◌+◌, Bool, true, false, ◌&&◌, ◌==◌, List, [], ◌∷◌, ◌++◌, length, Option, Some, None, if◌then◌else◌, refl, sym}
use Rattle.std.proofs.Common.{ap, subst}
use Rattle.std.proofs.lemmas.List.{length-append}
use Rattle.std.proofs.lemmas.Option.{slice_get_within}
use Rattle.std.specs.Option.{option_or}
use Rattle.std.specs.Str.{bytes_eq}
use Rattle.tydi_base.proofs.PlaceLemmas.{slice_get-front, slice_get-next}
use Rattle.vcd_read.specs.History.{Part, Declares, clock_in, code_if, is_inside, signal_in}
use Rattle.vcd_read.specs.Numbers.{KeepsNumbers, number_of}
use Rattle.vcd_read.specs.Variables.{HasName, HasNumber, IsNumbered, IsSignal, StandFor, clock_with, is_clock}
use Rattle.vcd_read.specs.Words.{bare_name}
use Rattle.vcd_read.specs.declared.variables.Variables.{Variables}
use Rattle.vcd_read.proofs.NumberLemmas.{number-push}
use Rattle.vcd_read.proofs.WireLemmas.{differ-bytes}

module _ (before after : List (List ℕ)) (keeps : KeepsNumbers before after) where
  -- a number stays
  pub has-kept : (found : Option (List ℕ)) (number : ℕ) → HasNumber before found number → HasNumber after found number
  has-kept found number has = record { code = has.code; found_is = has.found_is; numbered = keeps has.code number has.numbered }

  -- the first of two is found
  has-first : (found second : Option (List ℕ)) (number : ℕ) → HasNumber before found number → HasNumber after (option_or found second) number
  has-first found second number has = record {
    code = has.code;
    found_is = ap (λ (o : Option (List ℕ)). option_or o second) has.found_is;
    numbered = keeps has.code number has.numbered;
  }

  module _ (scope : List (List ℕ)) (width : ℕ) (code name : List ℕ) (parts : List Part) where
    -- outside the scope nothing is found
    other-none : (found : Option (List ℕ)) (test : Bool) → option_or found (code_if (false && test) code) ≡ found
    other-none None test = refl
    other-none (Some c) test = refl

    outside-signal : is_inside scope parts ≡ false → (numbers : List ℕ) (other : List ℕ) (place : Option ℕ)
        → IsSignal before numbers (signal_in scope other parts) place → IsSignal after numbers (signal_in scope other (Declares width code name ∷ parts))
        place
    outside-signal out numbers other None is = ap (λ inside. option_or (signal_in scope other parts)
        (code_if (inside && bytes_eq other (bare_name name)) code)) out ∙ other-none (signal_in scope other parts) (bytes_eq other (bare_name name)) ∙ is
    outside-signal out numbers other (Some place) is = (
      is.0,
      (
        is.1.0,
        has-first (signal_in scope other parts)
            (code_if (is_inside scope parts && bytes_eq other (bare_name name)) code) is.0 is.1.1,
      ),
    )

    outside-clock : is_inside scope parts ≡ false → (clock : Option ℕ) → IsNumbered before (clock_in scope parts) clock
        → IsNumbered after (clock_in scope (Declares width code name ∷ parts)) clock
    outside-clock out None is = ap (λ inside. option_or (clock_in scope parts) (code_if (inside && bytes_eq name (99 ∷ 108 ∷ 107 ∷ []) && width == 1) code))
        out ∙ other-none (clock_in scope parts) (width == 1) ∙ is
    outside-clock out (Some number) is = has-first (clock_in scope parts) (code_if (is_inside scope parts && bytes_eq name (99 ∷ 108 ∷ 107 ∷ []) && width ==
        1) code) number is

    -- a signal that is declared outside the scope
    pub declare-outside : (variables : Variables) → StandFor before scope variables parts → is_inside scope parts ≡ false
        → StandFor after scope variables (Declares width code name ∷ parts)
    declare-outside variables are out = record {
      long = are.long;
      each = λ other. outside-signal out variables.numbers other (number_of variables.names other) (are.each other);
      clock_is = outside-clock out variables.clock are.clock_is;
    }

    -- ---- inside the scope

    inside-clock : is_inside scope parts ≡ true → (number : ℕ) → number_of after code ≡ Some number → (clock : Option ℕ)
        → IsNumbered before (clock_in scope parts) clock
        → IsNumbered after (clock_in scope (Declares width code name ∷ parts)) (clock_with clock (is_clock name width) number)
    inside-clock within number at (Some n) is = has-first (clock_in scope parts) (code_if (is_inside scope parts && bytes_eq name (99 ∷ 108 ∷ 107 ∷ []) &&
        width == 1) code) n is
    inside-clock within number at None is = by (is_clock name width) (ap (λ inside. code_if (inside && bytes_eq name (99 ∷ 108 ∷ 107 ∷ []) && width == 1)
        code) within)
      where
        by : (test : Bool) → code_if (is_inside scope parts && bytes_eq name (99 ∷ 108 ∷ 107 ∷ []) && width == 1) code ≡ code_if test code
            → IsNumbered after (clock_in scope (Declares width code name ∷ parts)) (if test then Some number else None)
        by true same = record {
          code = code;
          found_is = ap (λ (o : Option (List ℕ)). option_or o (code_if (is_inside scope parts && bytes_eq name (99 ∷ 108 ∷
              107 ∷ []) && width == 1) code)) is ∙ same;
          numbered = at;
        }
        by false same = ap (λ (o : Option (List ℕ)). option_or o (code_if (is_inside scope parts && bytes_eq name (99 ∷ 108 ∷ 107 ∷ []) && width == 1) code))
            is ∙ same

    module _ (within : is_inside scope parts ≡ true) (number : ℕ) (at : number_of after code ≡ Some number) where
      found_now : List ℕ → Option (List ℕ)
      found_now other = code_if (is_inside scope parts && bytes_eq other (bare_name name)) code

      is_found : (other : List ℕ) (test : Bool) → bytes_eq other (bare_name name) ≡ test → found_now other ≡ code_if test code
      unfolding found_now
      is_found other test is = ap (λ inside. code_if (inside && bytes_eq other (bare_name name)) code) within ∙ ap (λ b. code_if b code) is

      -- the name is there
      again-signal : (names : List (List ℕ)) (place : ℕ) → number_of names (bare_name name) ≡ Some place
          → (numbers : List ℕ) (other : List ℕ) (found : Option ℕ) → number_of names other ≡ found
          → IsSignal before numbers (signal_in scope other parts) found → IsSignal after numbers (signal_in scope other (Declares width code name ∷ parts))
          found
      unfolding found_now
      again-signal names place there numbers other None none is =
          let apart : bytes_eq other (bare_name name) ≡ false = differ-bytes other (bare_name name) (λ one. let clash : None ≡ Some place = sym none
          ∙ ap (number_of names) one ∙ there in cc) in
          ap (λ (o : Option (List ℕ)). option_or o (found_now other)) is ∙ is_found other false apart
      again-signal names place there numbers other (Some n) some is = (is.0, (is.1.0, has-first (signal_in scope other parts) (found_now other) is.0 is.1.1))

      -- the name is new
      first-signal : (names : List (List ℕ)) (numbers : List ℕ) → length numbers ≡ length names → (other : List ℕ) (test : Bool)
          → bytes_eq other (bare_name name) ≡ test → signal_in scope other parts ≡ None
          → IsSignal after (numbers ++ number ∷ []) (signal_in scope other (Declares width code name ∷ parts)) (if test then Some (length names) else None)
      unfolding found_now
      first-signal names numbers long other true is none = (
        number,
        (
          slice_get-next numbers number (length names) (sym long),
          record {
            code = code;
            found_is = ap (λ (o : Option (List ℕ)). option_or o
                (found_now other)) none ∙ is_found other true is;
            numbered = at;
          },
        ),
      )
      first-signal names numbers long other false is none = ap (λ (o : Option (List ℕ)). option_or o (found_now other)) none ∙ is_found other false is

      new-signal : (names : List (List ℕ)) (numbers : List ℕ) → length numbers ≡ length names → (other : List ℕ) (found : Option ℕ)
          → IsSignal before numbers (signal_in scope other parts) found
          → IsSignal after (numbers ++ number ∷ []) (signal_in scope other (Declares width code name ∷ parts))
          (option_or found (if bytes_eq other (bare_name name) then Some (length names) else None))
      unfolding found_now
      new-signal names numbers long other None is = first-signal names numbers long other (bytes_eq other (bare_name name)) refl is
      new-signal names numbers long other (Some n) is = (
        is.0,
        (
          slice_get-front numbers (number ∷ []) n (slice_get_within numbers n is.0 is.1.0)
              ∙ is.1.0,
          has-first (signal_in scope other parts) (found_now other) is.0 is.1.1,
        ),
      )

      same-variables : (old : Variables) (names : List (List ℕ)) (numbers : List ℕ) (place : Option ℕ) → number_of old.names (bare_name name) ≡ place
          → (new : Variables) → HasName place old.names old.numbers new (bare_name name) number → StandFor before scope old parts
          → (length new.numbers ≡ length new.names) × ((other : List ℕ) → IsSignal after new.numbers (signal_in scope other (Declares width code name ∷
          parts)) (number_of new.names other))
      same-variables old names numbers (Some place) there new has are = (
        ap length has.1 ∙ are.long ∙ ap length (sym has.0),
        λ other. subst (λ (ns : List ℕ). IsSignal after ns (signal_in scope other (Declares width code name ∷ parts)) (number_of new.names other)) (sym has.1)
            (subst (λ (ts : List (List ℕ)). IsSignal after old.numbers (signal_in scope other (Declares width code name ∷ parts)) (number_of ts other))
            (sym has.0)
            (again-signal old.names place there old.numbers other (number_of old.names other) refl (are.each other))),
      )
      same-variables old names numbers None there new has are = (
        ap length has.1 ∙ length-append old.numbers (number ∷ []) ∙ ap (λ n. n + 1) are.long ∙ sym (length-append old.names (bare_name name ∷ []))
            ∙ ap length (sym has.0),
        λ other. subst (λ (ns : List ℕ). IsSignal after ns (signal_in scope other (Declares width code name ∷ parts)) (number_of new.names other)) (sym has.1)
            (subst (λ (ts : List (List ℕ)). IsSignal after (old.numbers ++ number ∷ []) (signal_in scope other (Declares width code name ∷ parts))
            (number_of ts other)) (sym has.0)
            (subst (IsSignal after (old.numbers ++ number ∷ []) (signal_in scope other (Declares width code name ∷ parts)))
            (sym (number-push old.names (bare_name name) other))
            (new-signal old.names old.numbers are.long other (number_of old.names other) (are.each other)))),
      )

      -- a signal that is declared in the scope
      pub declare-inside : (old new : Variables) → new.clock ≡ clock_with old.clock (is_clock name width) number
          → HasName (number_of old.names (bare_name name)) old.names old.numbers new (bare_name name) number
          → StandFor before scope old parts → StandFor after scope new (Declares width code name ∷ parts)
      declare-inside old new clock has are =
          let both = same-variables old old.names old.numbers (number_of old.names (bare_name name)) refl new has are in
          record {
            long = both.0;
            each = both.1;
            clock_is = subst (IsNumbered after (clock_in scope (Declares width code name ∷ parts))) (sym clock)
                (inside-clock within number at old.clock are.clock_is);
          }
