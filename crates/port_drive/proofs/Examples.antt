-- Examples of runs that are made or not, and that finish or not, by evaluation.
use Rattle.std.proofs.Common.{◌≡◌, refl, ℕ, [], ◌∷◌, Some, None, Ok, Err}
use Rattle.tydi_base.specs.Level.{whole_level}
use Rattle.tydi_base.specs.Bits.{bits_of}
use Rattle.physical_stream.specs.Params.{Parameters}
use Rattle.physical_stream.specs.declared.item.Item.{Item}
use Rattle.physical_stream.specs.declared.item.Item.TheVariants.{Elem}
use Rattle.plan_text.specs.declared.plan.StreamPlan.{StreamPlan}
use Rattle.port_drive.specs.Drives.{CountNotMultiple, NotFinished, planned_run, run_unless}
use Rattle.port_drive.specs.Finishing.{unfinished_from}

-- two lanes of 8 bits, without dimensions, at this level
abbrev two_lanes : ℕ → Parameters
two_lanes level = record { lanes = 2; dims = 0; level = whole_level level; element = 8; user = 0 }

abbrev word : ℕ → Item
word n = Elem (bits_of 8 n)

abbrev no_wishes : StreamPlan
no_wishes = record { gaps = []; ready = []; wishes = []; users = [] }

two_lanes_do_not_divide_three : run_unless 5 (two_lanes 4) (word 1 ∷ word 2 ∷ word 3 ∷ []) no_wishes ≡ Err (CountNotMultiple 5 3 2)
two_lanes_do_not_divide_three = refl

two_lanes_divide_two : run_unless 5 (two_lanes 4) (word 1 ∷ word 2 ∷ []) no_wishes ≡ Ok (planned_run (two_lanes 4) (word 1 ∷ word 2 ∷ []) no_wishes)
two_lanes_divide_two = refl

level_five_needs_no_multiple : run_unless 5 (two_lanes 5) (word 1 ∷ word 2 ∷ word 3 ∷ []) no_wishes ≡ Ok (planned_run (two_lanes 5) (word 1 ∷ word 2 ∷ word 3 ∷ []) no_wishes)
level_five_needs_no_multiple = refl

second_stream_is_told : unfinished_from 0 (0 ∷ 2 ∷ 1 ∷ []) ≡ Some (NotFinished 1 2)
second_stream_is_told = refl

none_is_told : unfinished_from 0 (0 ∷ 0 ∷ []) ≡ None
none_is_told = refl
