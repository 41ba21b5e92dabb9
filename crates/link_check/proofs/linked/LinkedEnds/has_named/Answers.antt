use Rattle.std.proofs.Common.{ap, ◌∙◌}
use Rattle.link_check.specs.Links.{is_linked}
use Rattle.link_check.proofs.linked.LinkedEnds.has_named.Goals as goal

pub returns : goal.returns
returns c = λ links sees. c.contains.ensures ∙ sees c.key_of.result ∙ ap (is_linked links) c.key_of.ensures
