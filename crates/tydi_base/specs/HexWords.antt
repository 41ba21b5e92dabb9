-- Words of a width from any number of hexadecimal digits: this project's own spelling.
use Rattle.std.specs.Prelude.{ℕ, suc, ◌-◌, ◌^◌, min, Bool, true, false, ltb, if◌then◌else◌, List, [], ◌∷◌, ◌++◌, take, Option, Some, None, Result, Ok, Err, codes, decimal}
use Rattle.std.specs.List.{position_from}
use Rattle.std.specs.Option.{is_none, unwrap_or}
use Rattle.tydi_base.specs.Bits.{zero_bits}
use Rattle.tydi_base.specs.Hex.{bits_of_digits, digit_of}
use Rattle.tydi_base.specs.declared.hex_word.BitsFault.{BitsFault}
use Rattle.tydi_base.specs.declared.hex_word.BitsFault.TheVariants as faults

-- the fault that an error stands for; want of memory is none
abbrev pub hex_fault : BitsFault → Option BitsFault
hex_fault (faults.NotHex index) = Some (faults.NotHex index)
hex_fault (faults.TooWide index) = Some (faults.TooWide index)
hex_fault faults.Memory = None

-- the text of an error
abbrev pub fault_text : BitsFault → List ℕ
fault_text (faults.NotHex index) = codes "no hexadecimal digit at " ++ decimal index
fault_text (faults.TooWide index) = codes "a one above the width, at " ++ decimal index
fault_text faults.Memory = codes "out of memory"

-- where the first byte stands that is no digit
unfoldable pub first_not_hex : List ℕ → Option ℕ
first_not_hex digits = position_from (λ byte. is_none (digit_of byte)) 0 digits

-- the bits of digits, as many as there are: none where a byte is no digit
unfoldable pub hex_bits : List ℕ → List Bool
hex_bits digits = unwrap_or (bits_of_digits digits) []

-- where the highest one stands below this bit and bits above it, from where it stands above it
unfoldable pub one_from : Bool → Option ℕ → Option ℕ
one_from bit (Some index) = Some (suc index)
one_from true None = Some 0
one_from false None = None

-- where the highest one stands: None where there is none
unfoldable pub highest_one : List Bool → Option ℕ
highest_one [] = None
highest_one (bit ∷ bits) = one_from bit (highest_one bits)

-- a place, or the last that the machine counts where it is further
unfoldable pub counted : ℕ → ℕ
counted index = min index (2 ^ 64 - 1)

-- bits as so many: the lowest of them, and zeros where they are fewer
unfoldable pub resized : ℕ → List Bool → List Bool
resized width bits = take width (bits ++ zero_bits width)

-- bits as a word of this width, by where their highest one stands: a fault where that is at or above the width
unfoldable pub in_width : ℕ → List Bool → Option ℕ → Result (List Bool) BitsFault
in_width width bits None = Ok (resized width bits)
in_width width bits (Some index) = if ltb index width then Ok (resized width bits) else Err (faults.TooWide (counted index))

-- the value of digits as a word of this width, by where the first byte stands that is no digit
unfoldable pub value_in_width : ℕ → List Bool → Option ℕ → Result (List Bool) BitsFault
value_in_width width bits None = in_width width bits (highest_one bits)
value_in_width width bits (Some index) = Err (faults.NotHex index)

-- the word of this width that digits spell: a fault where a byte is no digit, and else where a one stands at or above the width
unfoldable pub hex_word : ℕ → List ℕ → Result (List Bool) BitsFault
hex_word width digits = value_in_width width (hex_bits digits) (first_not_hex digits)
