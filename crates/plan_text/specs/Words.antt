-- The words of a plan's lines (this project's own): gaps, ready bits, wishes and user words. Each fault stands at this place.
use Rattle.std.specs.Prelude.{ℕ, ◌-◌, ◌^◌, Bool, true, false, ◌==◌, ◌&&◌, nat_le, nat_lt, nat_eq, if◌then◌else◌, List, [], ◌∷◌, length, map, take, Option, None, Result, Ok, Err, option_map, codes}
use Rattle.std.specs.Fn.{Shared}
use Rattle.std.specs.List.{ends_with, list_all}
use Rattle.std.specs.Option.{is_some}
use denote.Ref.{Bor}
use Rattle.tydi_base.specs.Binary.{is_binary_digit}
use Rattle.tydi_base.specs.Bits.{number_of_bits}
use Rattle.tydi_base.specs.Decimal.{decimal_of}
use Rattle.tydi_base.specs.Hex.{bits_of_digits, digit_of}
use Rattle.tydi_base.specs.HexWords.{hex_word}
use Rattle.tydi_base.specs.declared.hex_word.BitsFault.{BitsFault}
use Rattle.tydi_base.specs.declared.hex_word.BitsFault.TheVariants as bits
use Rattle.tydi_base.specs.declared.place.Place.{Place}
use Rattle.tydi_base.specs.Reading.{◌>>=◌, or_fault, Gives}
use Rattle.plan_text.specs.declared.fault.PlanFault.{PlanFault}
use Rattle.plan_text.specs.declared.fault.PlanFault.TheVariants.{Syntax, ReadyLength, MaskTooWide, UserTooWide, Memory}
use Rattle.plan_text.specs.declared.plan.Wish.{Wish}
use Rattle.plan_text.specs.Faults.{fault_in}

-- the values that a reader gives of the words, or the first fault
abbrev pub each : {A : Type 0} → (List ℕ → Result A PlanFault) → List (List ℕ) → Result (List A) PlanFault
each read [] = Ok []
each read (word ∷ words) = read word >>= λ first. each read words >>= λ more. Ok (first ∷ more)

-- each call of a closure gives what a reader does
abbrev pub DoesRead : {F A : Type 0} → Shared F (Bor (List ℕ) × Unit {0}) (Result A PlanFault) → F → (List ℕ → Result A PlanFault) → Type 0
DoesRead {F} {A} calls f read = (word : Bor (List ℕ)) (result : Result A PlanFault) → calls.post f (word, tt) result → Gives fault_in (λ x. x) result (read word.now)

-- ---- gaps

-- the most cycles of a plan, and of a gap
abbrev pub most_cycles : ℕ
most_cycles = 1000000

-- a gap: a decimal number
unfoldable pub gap_of : Place → List ℕ → Result ℕ PlanFault
gap_of place word = or_fault (Syntax place) (decimal_of word) >>= λ gap. if nat_le gap most_cycles then Ok gap else Err (Syntax place)

-- ---- ready bits

-- digits of bits, one at least
abbrev pub are_bits : List ℕ → Bool
are_bits word = nat_lt 0 (length word) && list_all is_binary_digit word

-- the ready bits of so many cycles: a `1` or a `0` for each
unfoldable pub ready_of : Place → ℕ → List ℕ → Result (List Bool) PlanFault
ready_of place cycles word =
    if are_bits word then (if length word == cycles then Ok (map (λ digit. digit == 49) word) else Err (ReadyLength place)) else Err (Syntax place)

-- ---- wishes

-- a word without this end, and whether it had it
abbrev pub without_end : List ℕ → List ℕ → List ℕ × Bool
without_end end word = if ends_with nat_eq word end then (take (length word - length end) word, true) else (word, false)

-- a mask: one to 32 hexadecimal digits
unfoldable pub mask_of : List ℕ → Option ℕ
mask_of digits = if nat_lt 0 (length digits) && nat_le (length digits) 32 then option_map number_of_bits (bits_of_digits digits) else None

-- a mask, and whether the wish is late and laned
unfoldable pub wish_with : Place → List ℕ × Bool → Bool → Result Wish PlanFault
wish_with place front laned = or_fault (Syntax place) (mask_of front.0) >>= λ mask. Ok (record { mask = mask; late = front.1; laned = laned })

-- a wish: a mask, then `+late` or nothing, then `+laned` or nothing
unfoldable pub wish_of : Place → List ℕ → Result Wish PlanFault
wish_of place word = wish_with place (without_end (codes "+late") (without_end (codes "+laned") word).0) (without_end (codes "+laned") word).1

-- the mask has no one at or above so many lanes
abbrev pub fits_lanes : ℕ → Wish → Bool
fits_lanes lanes wish = nat_lt wish.mask (2 ^ lanes)

-- the wishes of a stream of so many lanes
unfoldable pub wishes_of : Place → ℕ → List (List ℕ) → Result (List Wish) PlanFault
wishes_of place lanes words = each (wish_of place) words >>= λ wishes. if list_all (fits_lanes lanes) wishes then Ok wishes else Err (MaskTooWide place)

-- ---- user words

abbrev pub is_hex_digit : ℕ → Bool
is_hex_digit byte = is_some (digit_of byte)

-- hexadecimal digits, one at least
abbrev pub is_hex : List ℕ → Bool
is_hex word = nat_lt 0 (length word) && list_all is_hex_digit word

-- a word of bits, with its faults as those of a plan
abbrev pub user_in : Place → Result (List Bool) BitsFault → Result (List Bool) PlanFault
user_in place (Ok word) = Ok word
user_in place (Err (bits.NotHex index)) = Err (Syntax place)
user_in place (Err (bits.TooWide index)) = Err (UserTooWide place)
user_in place (Err bits.Memory) = Err Memory

-- a user word of this width
abbrev pub user_of : Place → ℕ → List ℕ → Result (List Bool) PlanFault
user_of place width word = user_in place (hex_word width word)

-- the user words of a stream of this user width
unfoldable pub users_of : Place → ℕ → List (List ℕ) → Result (List (List Bool)) PlanFault
users_of place width words = if list_all is_hex words then each (user_of place width) words else Err (Syntax place)
