use Rattle.link_check.proofs.TypedLemmas.{typed-alike}
use Rattle.link_check.proofs.wiring.Wiring.net.Goals as goal

pub understood-requires : goal.understood-requires
understood-requires c = typed-alike c.args.self.now.streamlets.now c.in-Some.one c.in-Some-side_of.other c.args.self.now.numbered c.in-Some.ensures.typed c.in-Some-side_of.ensures.typed
