-- Texts as they are written, part after part.
use Rattle.std.proofs.Common.{◌∙◌, ℕ, ◌++◌, ◌≤◌, List, length, ap, arith}
use Rattle.std.proofs.lemmas.List.{length-take, take-append-le}
use Rattle.tydi_base.specs.Writing.{StandsInFront}

-- a front stays a front when more is written
pub front_stays : (old new more : List ℕ) → StandsInFront old new → StandsInFront old (new ++ more)
front_stays old new more front =
    let within : length old ≤ length new = omega (arith, ap length front, length-take (length old) new)
    in take-append-le (length old) new more within ∙ front
