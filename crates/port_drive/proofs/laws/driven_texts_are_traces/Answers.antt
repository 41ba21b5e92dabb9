use Rattle.port_drive.proofs.FormLemmas.{types-have-heads}
use Rattle.port_drive.proofs.HeadLemmas.{heads-together}
use Rattle.port_drive.proofs.TextLemmas.{texts-are}
use Rattle.port_drive.proofs.laws.driven_texts_are_traces.Goals as goal

pub returns : goal.returns
returns c = record { form = types-have-heads; heads = heads-together; texts = texts-are }
