use Rattle.tydi_reading.specs.Named.{argument, named}
use Rattle.tydi_reading.proofs.NamedSteps.{argument-shrinks}
use Rattle.tydi_reading.proofs.arguments.named.Goals as goal

pub returns : goal.returns
unfolding named
returns g c name given value end separator last names tests adds grows tells separates =
    c.steps.ensures (argument name given value) end separator last tells separates (λ p q found a k. k.0 name given value names tests adds) (λ found. argument-shrinks name given value found grows)
