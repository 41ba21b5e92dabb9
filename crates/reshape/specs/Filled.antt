-- A transfer that is filled with a front (this project's own).
use Rattle.std.specs.Prelude.{ℕ, ◌-◌, ◌*◌, ◌^◌, ◌==◌, nat_le, if◌then◌else◌, List, Bool, ◌++◌, drop}
use Rattle.tydi_base.specs.Bits.{zero_bits}
use Rattle.tydi_base.specs.Level.{number_of}
use Rattle.physical_stream.specs.Params.{Parameters}
use Rattle.physical_stream.specs.Items.{parts_below}
use Rattle.physical_stream.specs.declared.item.Item.{Item}
use Rattle.scheduler.specs.Lanes.{word_or}
use Rattle.scheduler.specs.Planned.{first_word}

-- the words of so many elements that stand first, and then zeros
abbrev pub words_first : Parameters → List Item → ℕ → List Bool
words_first p items count = parts_below (λ lane. word_or p.element (first_word (drop lane items))) count ++ zero_bits ((p.lanes - count) * p.element)

-- the last active lane, where so many lanes from lane 0 on are active
abbrev pub last_active : Parameters → ℕ → ℕ
last_active p count = if count == 0 then p.lanes - 1 else count - 1

-- the strobe of so many lanes from lane 0 on: up to level 6 it is all ones where there is one
abbrev pub strobe_first : Parameters → ℕ → ℕ
strobe_first p count = if count == 0 then 0 else (if nat_le 7 (number_of p.level) then 2 ^ count - 1 else 2 ^ p.lanes - 1)
