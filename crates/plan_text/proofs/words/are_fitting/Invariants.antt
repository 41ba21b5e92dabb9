use Rattle.std.proofs.Common.{◌≡◌, true, take}
use Rattle.std.specs.List.{list_all}
use Rattle.plan_text.specs.Words.{fits_lanes}
use Rattle.plan_text.proofs.words.are_fitting.Given as goal

abbrev pub invariant-wishes : goal.invariant-wishes
invariant-wishes l = list_all (fits_lanes l.lanes) (take l.wish-index l.wishes) ≡ true
